use Rattle.std.proofs.Common.{◌∙◌, max, ap, sym, ◌++◌, ◌∷◌, []}
use Rattle.std.proofs.lemmas.List.{take_rest}
use Rattle.nt_small.proofs.Cutting.{piece_more}
use Rattle.nt_small.proofs.pieces.pieces.Goals as goal

pub loop-rest-preserved : goal.loop-rest-preserved
loop-rest-preserved c =
    rw take_rest
    (piece_more c.args.text.now c.loop-rest.rest.now c.max-len.result _ _ c.in-len1-up.len_at_least (sym c.is_white.ensures ∙ c.if-is_white.false) (c.max-len.ensures ∙ ap (λ n. max n 1) c.word_len.ensures.value) c.loop-rest.invariant (c.in_ok-push.ensures.items ∙ ap (λ p. c.loop-rest.found.items ++ p ∷ []) c.new.ensures))
