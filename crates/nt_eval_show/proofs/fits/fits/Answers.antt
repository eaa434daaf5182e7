use Rattle.std.proofs.Common.{rules, ◌≡◌, ◌∷◌, [], refl, sym, ◌∙◌, map}
use Rattle.std.specs.Prelude.{All}
use Rattle.nt_value.specs.Digits.{IsFilled}
use Rattle.nt_value.specs.Values.{shape_of}
use Rattle.nt_eval_show.specs.Fitting.{IsElement}
use Rattle.nt_eval_show.proofs.Fitting.{fits_any, is_shape}
use Rattle.nt_eval_show.proofs.fits.fits.Goals as goal

pub returns : goal.returns
returns c = λ so.
    let n : c.args.env.now.nets ≡ [] = search rules in
    let v : c.args.env.now.vars ≡ [] = search rules in
    let filled : All (All IsFilled) c.args.env.now.locals = search rules in
    let is : IsElement c.args.env.now.many c.in-Some.element = search rules in
    let locals : c.as_slice-4.result.now ≡ map shape_of c.args.env.now.locals = search rules in
    let many : c.as_slice-5.result.now ≡ c.in-Some.element ∷ [] = search rules in
    fits_any c.args.env.now c.args.tree.now c.in-Some.element n v filled is
    (is_shape c.args.env.now c.args.tree.now c.in-Some.element [] [] c.as_slice-4.result.now c.as_slice-5.result.now
    c.in_ok-shape.shape c.in_ok-shape.ensures refl refl locals many (sym c.is_some.ensures ∙ so))
