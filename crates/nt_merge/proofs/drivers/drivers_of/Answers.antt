use Rattle.std.proofs.Common.{◌∙◌, Err, ap, sym, subst, length, arith}
use Rattle.std.proofs.lemmas.Result.{err_from_is_err_and}
use Rattle.std.proofs.lemmas.List.{take_at}
use Rattle.nt_merge.specs.Drivers.{DriversOf}
use Rattle.nt_merge.specs.Numbers.{IsNumbering, contents}
use Rattle.nt_merge.proofs.Counting.{how_many, numbering_at}
use Rattle.nt_merge.proofs.drivers.drivers_of.Goals as goal

pub returns-in_err-fill : goal.returns-in_err-fill
returns-in_err-fill c =
    let least = c.args.classes.now in
    let p = err_from_is_err_and c.from_residual-in_err-fill.result c.from_residual-in_err-fill.ensures.1 in
    let many = how_many c.in_ok-lists.lists.items c.in_ok-numbering.numbering.count c.in_ok-lists.ensures in
    let h : IsNumbering least (length least) c.deref.result.now (length c.deref_mut.result.now) =
    numbering_at least c.items.result.now c.in_ok-numbering.numbering.numbers.items c.deref.result.now c.in_ok-numbering.numbering.count (length c.deref_mut.result.now)
    c.items.ensures.value c.deref.ensures.value (ap length c.deref_mut.ensures.value ∙ many) c.in_ok-numbering.ensures in
    subst (λ r. DriversOf least c.args.driven.now c.args.resolved.now r) (sym (p.1 ∙ ap (λ f. Err f) p.2)) (c.in_err-fill.ensures least h)

pub returns : goal.returns
returns c =
    let least = c.args.classes.now in
    let many = how_many c.in_ok-lists.lists.items c.in_ok-numbering.numbering.count c.in_ok-lists.ensures in
    let h : IsNumbering least (length least) c.deref.result.now (length c.deref_mut.result.now) =
    numbering_at least c.items.result.now c.in_ok-numbering.numbering.numbers.items c.deref.result.now c.in_ok-numbering.numbering.count (length c.deref_mut.result.now)
    c.items.ensures.value c.deref.ensures.value (ap length c.deref_mut.ensures.value ∙ many) c.in_ok-numbering.ensures in
    let done = c.in_ok-fill.ensures least h in
    let ok = c.in_ok-lists.lists.ok.0 in
    (ap contents (take_at c.fill.new.lists _ c.in_ok-lists.lists.len (omega (arith, ok, c.fill.auto.lists, ap length c.deref_mut.ensures.value))) ∙ done.0, done.1)
