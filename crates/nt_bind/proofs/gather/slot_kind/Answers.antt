use Rattle.std.proofs.Common.{ap, sym, refl, ◌∙◌, slice_get}
use Rattle.std.proofs.lemmas.Option.{slice_get_past, slice_get_read}
use Rattle.nt_bind.proofs.Walking.{struct_some, struct_none, array_some, struct_usable, array_usable}
use Rattle.nt_bind.proofs.gather.slot_kind.Goals as goal

pub returns-in-None : goal.returns-in-None
returns-in-None c = record {
  usable = tt;
  is = λ slots slot e g. struct_none c.args.kind.now c.in-Struct.declared c.in-Struct.members slots c.args.index slot c.in-Struct.is
      (ap (λ ms. slice_get ms c.args.index) (sym c.as_slice.ensures) ∙ slice_get_past c.as_slice.result.now c.args.index c.in-None.ensures.lookup.3) e g;
}

pub returns-in-Some : goal.returns-in-Some
returns-in-Some c =
    let at = ap (λ ms. slice_get ms c.args.index) (sym c.as_slice.ensures) ∙ slice_get_read c.as_slice.result.now _ c.args.index c.in-Some.field-0.now refl c.in-Some.ensures.lookup.3.0 c.in-Some.ensures.lookup.1 in
    record {
      usable = struct_usable c.args.kind.now c.in-Struct.declared c.in-Struct.members c.args.index c.in-Some.field-0.now c.in-Struct.is at c.requires;
      is = λ slots slot e g. struct_some c.args.kind.now c.in-Struct.declared c.in-Struct.members slots c.args.index slot c.in-Some.field-0.now c.in-Struct.is at e g;
    }

pub returns-in-Array : goal.returns-in-Array
returns-in-Array c = record {
  usable = array_usable c.args.kind.now c.in-Array.left c.in-Array.right c.in-Array.element c.get-in-Array.result.now c.in-Array.is c.get-in-Array.ensures c.requires;
  is = λ slots slot e g. array_some c.args.kind.now c.in-Array.left c.in-Array.right c.in-Array.element slots c.args.index slot c.get-in-Array.result.now c.in-Array.is c.get-in-Array.ensures e g;
}
