use Rattle.std.proofs.Common.{◌*◌, min, length, ap, sym, ◌∙◌, arith}
use Rattle.nt_kinds.specs.Kinds.{span, leaves}
use Rattle.nt_kinds.proofs.Opening.{leaves_array}
use Rattle.nt_kinds.proofs.Counting.{array_size}
use Rattle.nt_kinds.proofs.limits.+size.Goals as goal

pub size-returns-in-Array : goal.size-returns-in-Array
size-returns-in-Array t c =
    let e = array_size (span c.in-Array.left c.in-Array.right) (leaves c.in-Array.element) c.size.result (omega arith) (c.size.ensures ∙ ap (λ x. min (length (leaves x)) 65) c.get.ensures) in
    let f = ap (λ s. min (length s) 65) (ap leaves c.in-Array.is ∙ leaves_array c.in-Array.left c.in-Array.right c.in-Array.element) in
    c.min.ensures ∙ ap (λ n. min (n * c.size.result) 65) c.span.ensures ∙ e ∙ sym f
