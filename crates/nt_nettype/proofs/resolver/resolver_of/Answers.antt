use Rattle.std.proofs.Common.{sym, ap, ◌∙◌}
use Rattle.std.specs.Prelude.{option_map, None, Some}
use Rattle.nt_types.specs.Opened.{view_of}
use Rattle.nt_nettype.proofs.Resolving.{refused_told, unknown_told, two_told, none_told, named_is, look_is, within_look}
use Rattle.nt_nettype.proofs.resolver.resolver_of.Goals as goal

pub judged-requires-clause-named : goal.judged-requires-clause-named
judged-requires-clause-named c = named_is (view_of c.args.scopes.now) c.args.functions.now c.args.path.now c.meaning-look.result (Some c.in-Some.function.now) c.meaning-look.ensures (sym (ap (λ o. option_map (λ f. f.now) o) c.in-Some.is) ∙ c.named.ensures)

pub judged-requires-clause-within : goal.judged-requires-clause-within
judged-requires-clause-within c = within_look (view_of c.args.scopes.now).whats c.args.functions.now c.meaning-look.result c.in-Some.function.now c.requires.functions (sym (ap (λ o. option_map (λ f. f.now) o) c.in-Some.is) ∙ c.named.ensures)

pub returns-in-Unknown : goal.returns-in-Unknown
returns-in-Unknown c =
    refused_told (view_of c.args.scopes.now) c.args.functions.now c.args.path.now c.args.kind.now c.refused.result _ c.refused.ensures
    (unknown_told (view_of c.args.scopes.now) c.args.functions.now c.args.path.now c.args.kind.now (look_is (view_of c.args.scopes.now) c.args.path.now c.meaning-look.result _ c.meaning-look.ensures c.in-Unknown.is))

pub returns-in-Ambiguous : goal.returns-in-Ambiguous
returns-in-Ambiguous c =
    refused_told (view_of c.args.scopes.now) c.args.functions.now c.args.path.now c.args.kind.now c.refused-in-Ambiguous.result _ c.refused-in-Ambiguous.ensures
    (two_told (view_of c.args.scopes.now) c.args.functions.now c.args.path.now c.args.kind.now (look_is (view_of c.args.scopes.now) c.args.path.now c.meaning-look.result _ c.meaning-look.ensures c.in-Ambiguous.is))

pub returns-in-One : goal.returns-in-One
returns-in-One c =
    refused_told (view_of c.args.scopes.now) c.args.functions.now c.args.path.now c.args.kind.now c.refused-in-One.result _ c.refused-in-One.ensures
    (none_told (view_of c.args.scopes.now) c.args.functions.now c.args.path.now c.args.kind.now c.in-One._number (look_is (view_of c.args.scopes.now) c.args.path.now c.meaning-look.result _ c.meaning-look.ensures c.in-One.is)
    (named_is (view_of c.args.scopes.now) c.args.functions.now c.args.path.now c.meaning-look.result None c.meaning-look.ensures (sym (ap (λ o. option_map (λ f. f.now) o) c.in-None.is) ∙ c.named.ensures)))
