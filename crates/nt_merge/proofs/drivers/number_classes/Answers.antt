use Rattle.std.proofs.Common.{◌≡◌, ◌≤◌, get_or, arith}
use Rattle.std.proofs.lemmas.List.{get_or_read}
use Rattle.nt_merge.proofs.Counting.{numbers_leader, numbers_other}
use Rattle.nt_merge.proofs.drivers.number_classes.Goals as goal
use Rattle.nt_merge.proofs.drivers.number_classes.Goals.{then-leader-segment+in_ok-push, else-leader-segment+in_ok-push-2}

pub loop-segment-preserved : goal.loop-segment-preserved
loop-segment-preserved c =
    let few = c.loop-segment.invariant.few in
    let h = c.loop-segment.invariant.numbers in
    elim c.if-leader-segment.branch [
      | then-leader-segment+in_ok-push w ↦
          rw (w.numbers-is, w.count-is) (record { few = omega arith; numbers = rw w.in_ok-push.ensures.items (numbers_leader h w.if-leader-segment.true) })
      | else-leader-segment+in_ok-push-2 w ↦
          let low : get_or c.args.least.now c.loop-segment.segment 0 ≤ c.loop-segment.segment = c.requires.low c.loop-segment.segment c.loop-segment-test.true in
          let ne = w.if-leader-segment.false in
          let up = get_or c.args.least.now c.loop-segment.segment 0 in
          let size = h.size in
          let read : w.index-number.result.now ≡ get_or c.loop-segment.numbers.items up 0 =
          get_or_read c.loop-segment.numbers.items up w.index-number.result.now (omega (arith, low, ne, size)) w.index-number.ensures 0 in
          rw (w.numbers-is, w.count-is) (record { few = omega arith; numbers = rw (w.in_ok-push-2.ensures.items, read) (numbers_other h (omega (arith, low, ne)) (c.requires.own c.loop-segment.segment c.loop-segment-test.true)) })
    ]
