-- Each word of the list is read as itself.
use Rattle.std.proofs.Common.{◌≡◌, ℕ, zero, suc, Bool, true, false, cond, not, ◌&&◌, List, [], ◌∷◌, Some, refl, sym, ap, ◌∙◌}
use Rattle.std.specs.Prelude.{slice_get}
use Rattle.std.specs.List.{list_all}
use Rattle.std.specs.Str.{bytes_eq}
use Rattle.std.proofs.lemmas.Slice.Eq.{bytes_eq-Decides}
use Rattle.nt_lexer.specs.Bytes.{Bytes}
use Rattle.nt_lexer.specs.Directives.{named}
use Rattle.nt_lexer.specs.Laws.{EachWord}
use Rattle.nt_lexer.specs.Spellings.{words}
use Rattle.nt_lexer.specs.declared.kinds.Word.{Word}
use Rattle.nt_lexer.proofs.Fronts.{and_both, some_is}

abbrev Table : Type 0
Table = List (Bytes × Word)

abbrev is_new : Bytes → Table → Bool
is_new text table = list_all (λ e. not (bytes_eq text e.0)) table

abbrev distinct : Table → Bool
distinct [] = true
distinct (e ∷ es) = is_new e.0 es && distinct es

words_distinct : distinct words ≡ true
unfolding words
words_distinct = refl

passes : (test : Bytes × Word → Bool) (table : Table) (j : ℕ) (e : Bytes × Word) → list_all test table ≡ true → slice_get table j ≡ Some e → test e ≡ true
passes test [] j e all is = absurd cc
passes test (x ∷ xs) zero e all is = let same : x ≡ e = cc in ap test (sym same) ∙ (and_both (test x) (list_all test xs) all).0
passes test (x ∷ xs) (suc j) e all is = passes test xs j e (and_both (test x) (list_all test xs) all).1 is

is_false : (t : Bool) → not t ≡ true → t ≡ false
is_false true e = absurd cc
is_false false e = refl

named_entry : (table : Table) (j : ℕ) (text : Bytes) (word : Word) → distinct table ≡ true → slice_get table j ≡ Some (text, word) → named table text ≡ Some word
named_entry [] j text word ok is = absurd cc
named_entry (x ∷ xs) zero text word ok is =
    let same : x ≡ (text, word) = some_is x (text, word) is in
    let hit : bytes_eq x.0 text ≡ true = (bytes_eq-Decides x.0 text).1 (ap (λ q. q.0) same) in
    let first : named (x ∷ xs) text ≡ Some x.1 = ap (λ (t : Bool). cond t (Some x.1) (named xs text)) hit in
    first ∙ ap (λ q. Some q.1) same
named_entry (x ∷ xs) (suc j) text word ok is =
    let both = and_both (is_new x.0 xs) (distinct xs) ok in
    let miss : bytes_eq x.0 text ≡ false = is_false (bytes_eq x.0 text) (passes (λ e. not (bytes_eq x.0 e.0)) xs j (text, word) both.0 is) in
    let later : named (x ∷ xs) text ≡ named xs text = ap (λ (t : Bool). cond t (Some x.1) (named xs text)) miss in
    later ∙ named_entry xs j text word both.1 is

pub each : EachWord
each j text word is = named_entry words j text word words_distinct is
