use Rattle.std.proofs.Common.{sym, refl, length}
use Rattle.std.proofs.lemmas.Bool.{ltb-true}
use Rattle.std.proofs.lemmas.Option.{slice_get_read, slice_get_past}
use Rattle.nt_scopes.specs.Means.{of_package}
use Rattle.nt_scopes.proofs.Looking.{of_none, of_missing}
use Rattle.nt_scopes.proofs.look.meaning_of.Goals as goal

pub returns-in_default : goal.returns-in_default
returns-in_default c = of_none (slice_get_past _ _ c.in_default.ensures.lookup.3)

pub returns-in-Some-held : goal.returns-in-Some-held
returns-in-Some-held c =
    let at = slice_get_read c.args.scopes.now (length c.args.scopes.now) c.args.number c.in-Some.package.now refl (ltb-true _ _ (sym c.in-Some.ensures.lookup.0)) c.in-Some.ensures.lookup.1 in
    of_package c.in-Some.package.now c.in-Some-held.number at c.in-Some-held.ensures

pub returns-in-None : goal.returns-in-None
returns-in-None c =
    let at = slice_get_read c.args.scopes.now (length c.args.scopes.now) c.args.number c.in-Some.package.now refl (ltb-true _ _ (sym c.in-Some.ensures.lookup.0)) c.in-Some.ensures.lookup.1 in
    of_missing c.in-Some.package.now at c.in-None.ensures
