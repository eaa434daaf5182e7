use Rattle.std.proofs.Common.{true}
use Rattle.nt_ast.specs.declared.expr.Expr.TheViews.{out-Expr}
use Rattle.nt_const.specs.Rules.{never, member, pattern, call, size, time}
use Rattle.nt_const.specs.Forms.{HidesIs}
use Rattle.nt_const.proofs.Steps.{seen_read, seen_member, seen_item, seen_part, seen_indexed, seen_unary, seen_binary, seen_choose, seen_concat, seen_repeat, seen_pattern, seen_call, seen_size, seen_time, seen_sign}
use Rattle.nt_const.proofs.Hiding.{hides_at, hides_of, hides_true, hides_false, any_of, by_operands, any_more, any_one, if_ok, opened, seek_more, seek_found, seek_done}
use Rattle.nt_const.proofs.forms.+forms.Goals as goal

pub any_hides-returns-then-found : goal.any_hides-returns-then-found
any_hides-returns-then-found g t c = seek_found _ c.loop-part.part-index _ (opened c.args.parts.now c.loop-part.part-index _ c.loop-part-test.true c.part-item.is) (hides_true (g.L.Lookup.sees c.args.known.now) _ _ c.if-found.true c.in_ok-found.ensures) c.loop-part.invariant

pub any_hides-loop-part-preserved : goal.any_hides-loop-part-preserved
any_hides-loop-part-preserved g t c = seek_more _ c.loop-part.part-index _ (opened c.args.parts.now c.loop-part.part-index _ c.loop-part-test.true c.part-item.is) (hides_false (g.L.Lookup.sees c.args.known.now) _ _ c.if-found.false c.in_ok-found.ensures) c.loop-part.invariant

pub any_hides-returns : goal.any_hides-returns
any_hides-returns g t c = seek_done _ c.loop-part.part-index c.loop-part-test.false c.loop-part.invariant

pub hides-returns-in-Member : goal.hides-returns-in-Member
hides-returns-in-Member g t c = hides_at (g.L.Lookup.sees c.args.known.now) true _ _ (seen_member _ _ _ _ _ c.in-Member.is) (never (member _ _ _ _))

pub hides-returns-in-Pattern : goal.hides-returns-in-Pattern
hides-returns-in-Pattern g t c = hides_at (g.L.Lookup.sees c.args.known.now) true _ _ (seen_pattern _ _ _ c.in-Pattern.is) (never (pattern _ _))

pub hides-returns-in-Call : goal.hides-returns-in-Call
hides-returns-in-Call g t c = hides_at (g.L.Lookup.sees c.args.known.now) true _ _ (seen_call _ _ _ _ c.in-Call.is) (never (call _ _ _))

pub hides-returns-in-Size : goal.hides-returns-in-Size
hides-returns-in-Size g t c = hides_at (g.L.Lookup.sees c.args.known.now) true _ _ (seen_size _ _ _ c.in-Size.is) (never (size _ _))

pub hides-returns-in-Time : goal.hides-returns-in-Time
hides-returns-in-Time g t c = hides_at (g.L.Lookup.sees c.args.known.now) true _ _ (seen_time _ _ c.in-Time.is) (never (time _))

pub hides-returns-in-Read : goal.hides-returns-in-Read
hides-returns-in-Read g t c =
    let k = g.L.Lookup.sees c.args.known.now in
    if_ok _ (λ b. HidesIs k b (out-Expr c.args.expr.now)) _ (λ b h. hides_at k b _ _ (seen_read _ _ _ c.in-Read.is) (h _)) c.is_other.ensures

pub hides-returns-in_ok-b-in-Item : goal.hides-returns-in_ok-b-in-Item
hides-returns-in_ok-b-in-Item g t c =
    let k = g.L.Lookup.sees c.args.known.now in
    rw c.either.ensures (hides_at k _ _ _ (seen_item _ _ _ _ c.in-Item.is) (by_operands k _ _ (λ w. elim w [ ]) (any_more k _ _ _ _ (hides_of k _ _ _ c.get.ensures c.in_ok-a-in-Item.ensures) (any_one k _ _ (hides_of k _ _ _ c.get-in-Item.ensures c.in_ok-b-in-Item.ensures)))))

pub hides-returns-in_ok-b-in-Binary : goal.hides-returns-in_ok-b-in-Binary
hides-returns-in_ok-b-in-Binary g t c =
    let k = g.L.Lookup.sees c.args.known.now in
    rw c.either-in-Binary.ensures (hides_at k _ _ _ (seen_binary _ _ _ _ _ c.in-Binary.is) (by_operands k _ _ (λ w. elim w [ ]) (any_more k _ _ _ _ (hides_of k _ _ _ c.get-in-Binary.ensures c.in_ok-a-in-Binary.ensures) (any_one k _ _ (hides_of k _ _ _ c.get-in-Binary-2.ensures c.in_ok-b-in-Binary.ensures)))))

pub hides-returns-in_ok-b-in-Repeat : goal.hides-returns-in_ok-b-in-Repeat
hides-returns-in_ok-b-in-Repeat g t c =
    let k = g.L.Lookup.sees c.args.known.now in
    rw c.either-in-Repeat.ensures (hides_at k _ _ _ (seen_repeat _ _ _ _ c.in-Repeat.is) (by_operands k _ _ (λ w. elim w [ ]) (any_more k _ _ _ _ (hides_of k _ _ _ c.get-in-Repeat.ensures c.in_ok-a-in-Repeat.ensures) (any_of k _ _ _ c.as_slice-in-Repeat.ensures c.in_ok-b-in-Repeat.ensures))))

pub hides-returns-in_ok-c-in-Part : goal.hides-returns-in_ok-c-in-Part
hides-returns-in_ok-c-in-Part g t c =
    let k = g.L.Lookup.sees c.args.known.now in
    rw (c.either-in-Part-2.ensures, c.either-in-Part.ensures) (hides_at k _ _ _ (seen_part _ _ _ _ _ c.in-Part.is) (by_operands k _ _ (λ w. elim w [ ]) (any_more k _ _ _ _ (hides_of k _ _ _ c.get-in-Part.ensures c.in_ok-a-in-Part.ensures) (any_more k _ _ _ _ (hides_of k _ _ _ c.get-in-Part-2.ensures c.in_ok-b-in-Part.ensures) (any_one k _ _ (hides_of k _ _ _ c.get-in-Part-3.ensures c.in_ok-c-in-Part.ensures))))))

pub hides-returns-in_ok-c-in-Indexed : goal.hides-returns-in_ok-c-in-Indexed
hides-returns-in_ok-c-in-Indexed g t c =
    let k = g.L.Lookup.sees c.args.known.now in
    rw (c.either-in-Indexed-2.ensures, c.either-in-Indexed.ensures) (hides_at k _ _ _ (seen_indexed _ _ _ _ _ _ c.in-Indexed.is) (by_operands k _ _ (λ w. elim w [ ]) (any_more k _ _ _ _ (hides_of k _ _ _ c.get-in-Indexed.ensures c.in_ok-a-in-Indexed.ensures) (any_more k _ _ _ _ (hides_of k _ _ _ c.get-in-Indexed-2.ensures c.in_ok-b-in-Indexed.ensures) (any_one k _ _ (hides_of k _ _ _ c.get-in-Indexed-3.ensures c.in_ok-c-in-Indexed.ensures))))))

pub hides-returns-in_ok-c-in-Choose : goal.hides-returns-in_ok-c-in-Choose
hides-returns-in_ok-c-in-Choose g t c =
    let k = g.L.Lookup.sees c.args.known.now in
    rw (c.either-in-Choose-2.ensures, c.either-in-Choose.ensures) (hides_at k _ _ _ (seen_choose _ _ _ _ _ c.in-Choose.is) (by_operands k _ _ (λ w. elim w [ ]) (any_more k _ _ _ _ (hides_of k _ _ _ c.get-in-Choose.ensures c.in_ok-a-in-Choose.ensures) (any_more k _ _ _ _ (hides_of k _ _ _ c.get-in-Choose-2.ensures c.in_ok-b-in-Choose.ensures) (any_one k _ _ (hides_of k _ _ _ c.get-in-Choose-3.ensures c.in_ok-c-in-Choose.ensures))))))

pub hides-returns-in-Unary : goal.hides-returns-in-Unary
hides-returns-in-Unary g t c =
    let k = g.L.Lookup.sees c.args.known.now in
    if_ok _ (λ b. HidesIs k b (out-Expr c.args.expr.now)) _ (λ b h. hides_at k b _ _ (seen_unary _ _ _ _ c.in-Unary.is) (by_operands k b _ (λ w. elim w [ ]) (any_one k b _ (hides_of k b _ _ c.get-in-Unary.ensures h)))) c.hides-in-Unary.ensures

pub hides-returns-in-Sign : goal.hides-returns-in-Sign
hides-returns-in-Sign g t c =
    let k = g.L.Lookup.sees c.args.known.now in
    if_ok _ (λ b. HidesIs k b (out-Expr c.args.expr.now)) _ (λ b h. hides_at k b _ _ (seen_sign _ _ _ _ c.in-Sign.is) (by_operands k b _ (λ w. elim w [ ]) (any_one k b _ (hides_of k b _ _ c.get-in-Sign.ensures h)))) c.hides-in-Sign.ensures

pub hides-returns-in-Concat : goal.hides-returns-in-Concat
hides-returns-in-Concat g t c =
    let k = g.L.Lookup.sees c.args.known.now in
    if_ok _ (λ b. HidesIs k b (out-Expr c.args.expr.now)) _ (λ b h. hides_at k b _ _ (seen_concat _ _ _ c.in-Concat.is) (by_operands k b _ (λ w. elim w [ ]) (any_of k b _ _ c.as_slice.ensures h))) c.any_hides.ensures
