use Rattle.std.proofs.Common.{◌≡◌, ap, arith}
use Rattle.std.proofs.lemmas.Bool.{false≢true}
use Rattle.std.proofs.lemmas.Bool.Decides.{nat_tests}
use Rattle.nt_value.proofs.Words.{same_words, same_seen}
use Rattle.nt_value.proofs.bits.Bits.is_same.Goals as goal

pub returns-then-self-other : goal.returns-then-self-other
returns-then-self-other c =
    let words = same_words c.self.inside c.other.inside c.args.self c.args.other c.self.view_is c.other.view_is c.self.invariant c.other.invariant in
    (λ t. absurd (false≢true t), λ e. absurd (c.if-self-other.true (ap (λ b. b.ones) (words e))))

pub returns : goal.returns
returns c =
    let a = c.self.inside in
    let b = c.other.inside in
    let words = same_words a b c.args.self c.args.other c.self.view_is c.other.view_is c.self.invariant c.other.invariant in
    let leaf : a.leaf ≡ b.leaf = c.is_same.ensures.0 c.if-not-is_same.false in (
      λ t. let u : a.unknown ≡ b.unknown = grind (arith, nat_tests) in same_seen a b c.args.self c.args.other c.self.view_is c.other.view_is leaf c.if-self-other.false u,
      λ e. let u : a.unknown ≡ b.unknown = ap (λ w. w.unknown) (words e) in grind (arith, nat_tests),
    )
