-- Facts on the table of marks, and the search for the closing mark of a comment.
use Rattle.std.proofs.Common.{◌≡◌, add-one, ℕ, ◌+◌, ◌<◌, Bool, true, false, nat_lt, nat_eq, ◌&&◌, if◌then◌else◌, List, [], ◌∷◌, length, drop, get_or, Option, Some, None, refl, sym, ap, ◌∙◌, arith}
use Rattle.std.specs.Prelude.{IfSome}
use Rattle.std.specs.List.{list_all, starts_with}
use Rattle.std.proofs.Math.Seq.{drop-cons}
use Rattle.std.proofs.lemmas.Bool.{ltb-true}
use Rattle.nt_lexer.specs.declared.kinds.Mark.{Mark}
use Rattle.nt_lexer.specs.Bytes.{Bytes}
use Rattle.nt_lexer.specs.Spellings.{marks}
use Rattle.nt_lexer.specs.Pieces.{first_mark, plus, closing, begins_with}

abbrev are_some : List (Bytes × Mark) → Bool
are_some table = list_all (λ e. nat_lt 0 (length e.0)) table

marks_some : are_some marks ≡ true
unfolding marks
marks_some = refl

and_both : (a b : Bool) → (a && b) ≡ true → (a ≡ true) × (b ≡ true)
and_both true b e = (refl, e)
and_both false b e = absurd cc

some_by : (m : Bytes × Mark) (rest : Option (Mark × ℕ)) (t : Bool) → nat_lt 0 (length m.0) ≡ true → IfSome rest (λ found. 0 < found.1)
    → IfSome (if t then Some (m.1, length m.0) else rest) (λ found. 0 < found.1)
some_by m rest true e i = ltb-true _ _ e
some_by m rest false e i = i

-- a mark that is found isn't empty
found_some : (table : List (Bytes × Mark)) (text : Bytes) → are_some table ≡ true → IfSome (first_mark table text) (λ found. 0 < found.1)
found_some [] text e = tt
found_some (m ∷ ms) text e =
    let both = and_both (nat_lt 0 (length m.0)) (are_some ms) e in
    some_by m (first_mark ms text) (starts_with nat_eq text m.0) both.0 (found_some ms text both.1)

pub mark_some : (text : Bytes) → IfSome (first_mark marks text) (λ found. 0 < found.1)
mark_some text = found_some marks text marks_some

plus_one : (at : ℕ) (o : Option ℕ) → plus at (plus 1 o) ≡ plus (at + 1) o
plus_one at (Some m) = let e : at + (1 + m) ≡ at + 1 + m = omega arith in ap Some e
plus_one at None = refl

pub closing_step : (at : ℕ) (text : Bytes) → at < length text → plus at (closing (drop at text)) ≡ closing text → begins_with 42 47 (drop at text) ≡ false
    → plus (at + 1) (closing (drop (at + 1) text)) ≡ closing text
closing_step at text lt e none =
    let rest = drop (at + 1) text in
    let cons : drop at text ≡ get_or text at 0 ∷ rest = drop-cons text at 0 lt ∙ ap (λ i. get_or text at 0 ∷ drop i text) (sym (add-one at)) in
    let no' : begins_with 42 47 (get_or text at 0 ∷ rest) ≡ false = ap (begins_with 42 47) (sym cons) ∙ none in
    let one : closing (get_or text at 0 ∷ rest) ≡ plus 1 (closing rest) = ap (λ (t : Bool). if t then Some 2 else plus 1 (closing rest)) no' in
    sym (ap (plus at) (ap closing cons ∙ one) ∙ plus_one at (closing rest)) ∙ e
