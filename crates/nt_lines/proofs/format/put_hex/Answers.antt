use Rattle.std.proofs.Common.{◌≡◌, ◌+◌, ◌-◌, ◌*◌, ◌/◌, ◌++◌, List, ℕ, ap, drop, length, take, sym, ◌∙◌, arith}
use Rattle.std.specs.Prelude.{min}
use Rattle.nt_value.specs.Digits.{LeafValue}
use Rattle.nt_lines.proofs.Digits.{four, hex_more}
use Rattle.nt_lines.proofs.format.put_hex.Goals as goal

pub loop-at-preserved : goal.loop-at-preserved
loop-at-preserved c =
    let low = 4 * (c.loop-at.at - 1) in
    let whole = c.width-width.ensures.whole in
    let min_is : c.min.result ≡ min (length c.args.bits.digits - low) 4 = c.min.ensures ∙ ap (λ n. min (n - low) 4) (sym whole) in
    let digits : c.part.result.digits ≡ take 4 (drop low c.args.bits.digits) = ap (λ (v : LeafValue). v.digits) c.part.ensures ∙ four c.args.bits.digits low c.min.result min_is in
    hex_more c.args.bits.digits c.part.result.digits ((c.width-width.result + 3) / 4) c.loop-at.at c.args.out.now c.loop-at.out c.push.new.self (omega arith) (omega arith) digits c.loop-at.invariant
    (c.in_ok-push.ensures.ok ∙ ap (λ (l : List ℕ). c.loop-at.out ++ l) c.hex_letter.ensures)
