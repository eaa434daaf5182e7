use Rattle.std.proofs.Common.{◌∙◌, arith, refl, sym, ap, subst, length, map}
use Rattle.std.proofs.lemmas.List.{take_rest, length-map}
use Rattle.nt_design.specs.Plain.{IsPlain}
use Rattle.nt_design.specs.WellFormed.{IsDesign}
use Rattle.nt_small.specs.Said.{item_of}
use Rattle.nt_small.proofs.Designs.{design_is, design_plain}
use Rattle.nt_small.proofs.Tokens.{source_of, no_source, few_items, spelled_by, spelled_allowed, spelled_is}
use Rattle.nt_small.proofs.text.design_from_pieces.Goals as goal

pub returns-in_default-2-clause-none : goal.returns-in_default-2-clause-none
returns-in_default-2-clause-none c = λ s source top_is is.
    no_source c.args.pieces.now c.args.top.now c.in-Some.nettype.now c.in-Some.ensures.found (λ items spelled. (rw c.in_default-2.is at c.in_ok-items.ensures.none) items (spelled ∙ sym (take_rest _ 7))) s is

pub table_of-requires : goal.table_of-requires
table_of-requires c =
    let spelled = (spelled_by _ _ _ _ _ (c.if-not-is_name.ensures.0 refl) (c.if-not-is_name-2.ensures.0 refl) c.in-Some.ensures.found c.deref.ensures.value (rw c.in-Some-2.is at c.in_ok-items.ensures.found)) in
    let few = few_items _ _ _ _ 4194304 spelled c.requires in
    omega (arith, few, length-map c.deref.result.now item_of)

pub returns-in_default-3-clause-none : goal.returns-in_default-3-clause-none
returns-in_default-3-clause-none c = λ s source top_is is.
    let spelled = (spelled_by _ _ _ _ _ (c.if-not-is_name.ensures.0 refl) (c.if-not-is_name-2.ensures.0 refl) c.in-Some.ensures.found c.deref.ensures.value (rw c.in-Some-2.is at c.in_ok-items.ensures.found)) in
    (rw c.in_default-3.is at c.in_ok-table.ensures.none) (spelled_allowed _ _ _ _ s spelled is source).items

pub returns-then-len-gt-MOST_NETS-clause-none : goal.returns-then-len-gt-MOST_NETS-clause-none
returns-then-len-gt-MOST_NETS-clause-none c = λ s source top_is is.
    let spelled = (spelled_by _ _ _ _ _ (c.if-not-is_name.ensures.0 refl) (c.if-not-is_name-2.ensures.0 refl) c.in-Some.ensures.found c.deref.ensures.value (rw c.in-Some-2.is at c.in_ok-items.ensures.found)) in
    let table = rw c.in-Some-3.is at c.in_ok-table.ensures.table in
    let few = (spelled_allowed _ _ _ _ s spelled is source).few_nets in
    absurd (omega (arith, few, ap length table.names, c.len.ensures, c.if-len-gt-MOST_NETS.true))

pub returns-clause-some : goal.returns-clause-some
returns-clause-some c =
    let spelled = (spelled_by _ _ _ _ _ (c.if-not-is_name.ensures.0 refl) (c.if-not-is_name-2.ensures.0 refl) c.in-Some.ensures.found c.deref.ensures.value (rw c.in-Some-2.is at c.in_ok-items.ensures.found)) in
    let table = rw c.in-Some-3.is at c.in_ok-table.ensures.table in
    let allowed = rw c.in-Some-3.is at c.in_ok-table.ensures.allowed in
    let is = spelled_is _ _ _ _ spelled allowed (omega (arith, ap length table.names, c.len.ensures, c.if-len-gt-MOST_NETS.false)) in
    let s = source_of c.args.top.now c.in-Some.nettype.now (map item_of c.deref.result.now) in
    (s, is.0, refl, is.1, c.in_ok-elaborate.ensures s refl table)

pub returns-clause-well_formed : goal.returns-clause-well_formed
returns-clause-well_formed c =
    let table = rw c.in-Some-3.is at c.in_ok-table.ensures.table in
    let s = source_of c.args.top.now c.in-Some.nettype.now (map item_of c.deref.result.now) in
    subst IsDesign (sym (c.in_ok-elaborate.ensures s refl table)) (design_is s table.sound (omega (arith, ap length table.names, c.len.ensures, c.if-len-gt-MOST_NETS.false)))

pub returns-clause-plain : goal.returns-clause-plain
returns-clause-plain c =
    let table = rw c.in-Some-3.is at c.in_ok-table.ensures.table in
    let s = source_of c.args.top.now c.in-Some.nettype.now (map item_of c.deref.result.now) in
    subst IsPlain (sym (c.in_ok-elaborate.ensures s refl table)) (design_plain s table.sound)
