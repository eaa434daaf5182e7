use Rattle.std.proofs.Common.{sym, ◌∙◌, refl, length}
use Rattle.std.proofs.lemmas.Bool.{ltb-true}
use Rattle.std.proofs.lemmas.Option.{slice_get_read}
use Rattle.nt_scopes.proofs.Looking.{import_one, import_none}
use Rattle.nt_scopes.proofs.look.import_look.Goals as goal

pub returns-in-Some-held : goal.returns-in-Some-held
returns-in-Some-held c =
    let at = slice_get_read c.args.scopes.now (length c.args.scopes.now) c.args.import.now.package c.in-Some.package.now refl (ltb-true _ _ (sym c.in-Some.ensures.lookup.0)) c.in-Some.ensures.lookup.1 in
    import_one c.in-Some.package.now c.in-Some-held.number (sym c.is_of.ensures ∙ c.if-not-is_of.false) (sym c.is_before.ensures ∙ c.if-not-is_before.false) at c.in-Some-held.ensures

pub returns-in-None : goal.returns-in-None
returns-in-None c =
    let at = slice_get_read c.args.scopes.now (length c.args.scopes.now) c.args.import.now.package c.in-Some.package.now refl (ltb-true _ _ (sym c.in-Some.ensures.lookup.0)) c.in-Some.ensures.lookup.1 in
    import_none c.in-Some.package.now at c.in-None.ensures
