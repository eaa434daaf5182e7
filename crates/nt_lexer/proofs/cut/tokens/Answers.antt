use Rattle.std.proofs.Common.{◌∙◌, refl, take, arith, length-take}
use Rattle.nt_lexer.specs.Cuts.{place_after}
use Rattle.nt_lexer.proofs.Cutting.{tail, fits_here, place_next, next_lexes, next_stuck, fails_here, ends_here, starts_here}
use Rattle.nt_lexer.proofs.Lists.{each}
use Rattle.nt_lexer.proofs.cut.tokens.Goals as goal

pub loop-at-init : goal.loop-at-init
unfolding place_after
loop-at-init c = record {
  within = omega arith;
  place = refl;
  offset = refl;
  line = omega arith;
  column = omega arith;
  unit = λ u. u;
  count = c.requires.count;
  lexes = starts_here c.args.file c.args.bytes.now c.args.head.now c.new-found.result.items c.new-found.ensures.items;
  stuck = λ refusal s. s;
}

pub returns-in-Err-clause-cut : goal.returns-in-Err-clause-cut
returns-in-Err-clause-cut c =
    fails_here c.args.file c.args.bytes.now c.loop-at.at c.args.head.now c.loop-at.now c.loop-at.place c.loop-at.found.items c.loop-at-test.true c.loop-at.invariant.place
    c.in-Err.fault c.take_piece.new.head c.take_piece.new.found.items c.in-Err.ensures.value c.loop-at.invariant.stuck

pub loop-at-preserved : goal.loop-at-preserved
loop-at-preserved c =
    let b = c.args.bytes.now in
    let n = c.in-Ok.len in
    let s = c.in-Ok.ensures.value in
    record {
      within = fits_here b c.loop-at.at n c.loop-at-test.true s.4;
      place = c.advance-place.ensures.place c.args.file (take c.loop-at.at b) c.loop-at.invariant.place ∙ place_next c.args.file b c.loop-at.at n;
      offset = omega (arith, c.advance-place.ensures.offset, c.loop-at.invariant.offset, length-take n (tail b c.loop-at.at), s.4);
      line = c.advance-place.ensures.line;
      column = c.advance-place.ensures.column;
      unit = λ u. c.in-Ok.ensures.unit (c.loop-at.invariant.unit u);
      count = c.in-Ok.ensures.count;
      lexes = next_lexes c.args.file b c.loop-at.at c.args.head.now c.loop-at.now c.loop-at.place c.loop-at.found.items c.loop-at-test.true c.loop-at.invariant.place
          n c.take_piece.new.head c.take_piece.new.found.items s c.loop-at.invariant.lexes;
      stuck = next_stuck c.args.file b c.loop-at.at c.args.head.now c.loop-at.now c.loop-at.place c.loop-at.found.items c.loop-at-test.true c.loop-at.invariant.place
          n c.take_piece.new.head c.take_piece.new.found.items s c.loop-at.invariant.stuck;
    }

pub returns-clause-cut : goal.returns-clause-cut
returns-clause-cut c =
    ends_here c.args.file c.args.bytes.now c.loop-at.at c.args.head.now c.loop-at.now c.loop-at.place c.loop-at.found.items c.add.new.found.items c.loop-at.invariant.within c.loop-at-test.false
    c.loop-at.invariant.place c.in_ok-add.ensures c.loop-at.invariant.lexes

pub returns-clause-ascending : goal.returns-clause-ascending
returns-clause-ascending c = (each (returns-clause-cut c)).ascends
