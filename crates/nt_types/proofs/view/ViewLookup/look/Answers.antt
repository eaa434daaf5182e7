use Rattle.std.proofs.Common.{ap, ◌∙◌}
use Rattle.nt_types.specs.Looks.{seen_look}
use Rattle.nt_types.specs.Opened.{view_of}
use Rattle.nt_types.proofs.Finding.{found}
use Rattle.nt_types.proofs.view.ViewLookup.look.Goals as goal

pub returns-in-Unknown : goal.returns-in-Unknown
returns-in-Unknown c = ap (seen_look (view_of c.args.self.now.scopes.now) c.args.self.now.known.now) (found c.in-Unknown.ensures)

pub returns-in-Ambiguous : goal.returns-in-Ambiguous
returns-in-Ambiguous c = ap (seen_look (view_of c.args.self.now.scopes.now) c.args.self.now.known.now) (found c.in-Ambiguous.ensures)

pub returns-in_ok-seen-in-One : goal.returns-in_ok-seen-in-One
returns-in_ok-seen-in-One c = c.in_ok-seen-in-One.ensures ∙ ap (seen_look (view_of c.args.self.now.scopes.now) c.args.self.now.known.now) (found c.in-One.ensures)
