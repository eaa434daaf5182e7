-- The front of a file, read piece by piece.
use Rattle.std.proofs.Common.{◌≡◌, ℕ, ◌+◌, ◌≤◌, List, ◌++◌, length, take, drop, Option, Some, None, IfSome, sym, ◌∙◌, ap, subst, arith, length-append, length-drop}
use Rattle.std.proofs.Math.Seq.{take-add}
use Rattle.std.proofs.lemmas.List.{length-take-le, take-append-le}
use Rattle.nt_io.specs.Sources.{GivesPart}

-- the bytes so far are the file's front
abbrev pub IsFront : List ℕ → List ℕ → Type 0
IsFront have file = (have ≡ take (length have) file) × (length have ≤ length file)

front_grows : (file have buffer : List ℕ) (n : ℕ) → n ≤ length buffer → IsFront have file → GivesPart file (length have) buffer n → IsFront (have ++ take n buffer) file
front_grows file have buffer n within front part =
    let long : length (have ++ take n buffer) ≡ length have + n = length-append have (take n buffer) ∙ ap (λ k. length have + k) (length-take-le n buffer within) in
    let split = take-add (length have) n file in
    let same : have ++ take n buffer ≡ take (length have + n) file =
    ap (λ (l : List ℕ). have ++ l) part.part ∙ ap (λ (l : List ℕ). l ++ take n (drop (length have) file)) front.0 ∙ sym split in
    (same ∙ ap (λ k. take k file) (sym long), omega (arith, long, part.within, front.1, length-drop (length have) file))

-- what a read left in the chunk, whose end it did not reach, joins the front
pub read_more : (told now : Option (List ℕ)) (have buffer rest new : List ℕ) (at n : ℕ) → at ≡ length have → now ≡ told → n ≤ length buffer → IfSome told (IsFront have) → IfSome now (λ file. GivesPart file at buffer n) → new ≡ have ++ take n (buffer ++ rest) → IfSome told (IsFront new)
read_more None now have buffer rest new at n here same within front part grown = tt
read_more (Some file) now have buffer rest new at n here same within front part grown =
    let P : Option (List ℕ) → Type 0 = λ m. IfSome m (λ file. GivesPart file at buffer n) in
    let R : ℕ → Type 0 = λ k. GivesPart file k buffer n in
    let Q : List ℕ → Type 0 = λ l. IsFront l file in
    subst Q (sym (grown ∙ ap (λ (l : List ℕ). have ++ l) (take-append-le n buffer rest within))) (front_grows file have buffer n within front (subst R here (subst P same part)))
