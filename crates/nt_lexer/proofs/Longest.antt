-- Each piece that isn't opened is the longest lexeme at its place.
use Rattle.std.proofs.Common.{◌≡◌, ◌⊎◌, ℕ, zero, suc, ◌+◌, ◌≤◌, Bool, true, false, not, ◌&&◌, ◌||◌, nat_lt, [], ◌∷◌, ◌++◌, length, take, inl, inr, refl, sym, ap, subst, ◌∙◌, arith}
use Rattle.std.specs.List.{list_all, prefix_len}
use Rattle.std.proofs.lemmas.List.{length-take-le}
use Rattle.std.proofs.lemmas.List.Sums.{prefix_len-le-length}
use Rattle.nt_lexer.specs.Bytes.{Bytes, is_blank, sort, in_run}
use Rattle.nt_lexer.specs.Spellings.{marks}
use Rattle.nt_lexer.specs.Pieces.{begins_with, name_len}
use Rattle.nt_lexer.specs.Lexemes.{Class, white, line, name, system, decimal, based, filling, mark, IsName, IsUnsized, IsSize, IsMark, Is, Longest, NoLexeme}
use Rattle.nt_lexer.specs.declared.kinds.Mark.{Mark}
use Rattle.nt_lexer.specs.declared.kinds.Sort.{Sort}
use Rattle.nt_lexer.specs.declared.kinds.Sort.TheVariants as s
use Rattle.nt_lexer.specs.declared.kinds.Run.TheVariants as run
use Rattle.nt_lexer.proofs.Fronts.{and_both, run_take, run_most, ordered, entry_passes}

-- what may begin a lexeme of a class
abbrev pub fits : Class → Sort → Bool
fits white s.Blank = true
fits white _ = false
fits line s.Sign = true
fits line _ = false
fits name s.Letter = true
fits name _ = false
fits system s.Dollar = true
fits system _ = false
fits decimal s.Digit = true
fits decimal _ = false
fits based s.Digit = true
fits based s.Tick = true
fits based _ = false
fits filling s.Tick = true
fits filling _ = false
fits mark s.Sign = true
fits mark s.Tick = true
fits mark _ = false

-- a mark begins with a sign or `'`, after which it has two bytes, and none begins like a comment
abbrev pub is_tick : Sort → Bool
is_tick s.Tick = true
is_tick _ = false

abbrev pub fine_text : Bytes → Bool
fine_text [] = false
fine_text (b ∷ bs) = fits mark (sort b) && not (begins_with 47 47 (b ∷ bs)) && (not (is_tick (sort b)) || nat_lt (length bs) 2)

abbrev pub fine_mark : Bytes × Mark → Bool
fine_mark e = fine_text e.0

marks_fine : list_all fine_mark marks ≡ true
unfolding marks sort is_blank begins_with
marks_fine = refl

pub marks_ordered : ordered marks ≡ true
unfolding marks
marks_ordered = refl

pub mark_fine : (text : Bytes) → IsMark text → fine_text text ≡ true
mark_fine text x = entry_passes fine_mark marks x.place (text, x.mark) marks_fine x.is

empty_unsized : (size rest : Bytes) → [] ≡ size ++ rest → IsUnsized rest → ⊥
empty_unsized [] [] e x = x
empty_unsized [] (a ∷ ys) e x = cc
empty_unsized (b ∷ bs) rest e x = cc

pub empty_none : (k : Class) → Is k [] → ⊥
empty_none white x = x
empty_none line x = x
empty_none name x = x
empty_none system x = x
empty_none decimal x = x
empty_none based x = empty_unsized x.size x.rest x.splits x.unsized
empty_none filling x = x
empty_none mark x = let bad : fine_text [] ≡ true = mark_fine [] x in cc

-- the three parts of that rule
abbrev short_tick : ℕ → Bytes → Bool
short_tick b xs = not (is_tick (sort b)) || nat_lt (length xs) 2

pub fine_parts : (b : ℕ) (xs : Bytes) → IsMark (b ∷ xs) → (fits mark (sort b) ≡ true) × (not (begins_with 47 47 (b ∷ xs)) ≡ true) × ((not (is_tick (sort b)) || nat_lt (length xs) 2) ≡ true)
fine_parts b xs x =
    let all = and_both (fits mark (sort b) && not (begins_with 47 47 (b ∷ xs))) (short_tick b xs) (mark_fine (b ∷ xs) x) in
    let two = and_both (fits mark (sort b)) (not (begins_with 47 47 (b ∷ xs))) all.0 in
    (two.0, two.1, all.1)

based_sort : (size rest : Bytes) (b : ℕ) (xs : Bytes) → b ∷ xs ≡ size ++ rest → IsSize size → IsUnsized rest → fits based (sort b) ≡ true
unfolding sort is_blank
based_sort [] [] b xs e y x = absurd x
based_sort [] (a ∷ []) b xs e y x = absurd x
based_sort [] (a ∷ c ∷ cs) b xs e y x = let same : b ≡ a = cc in ap (λ q. fits based (sort q)) (same ∙ x.0)
based_sort (d ∷ ds) rest b xs e y x = let same : b ≡ d = cc in ap (λ q. fits based (sort q)) same ∙ ap (fits based) y.0

begins_sort : (k : Class) (b : ℕ) (xs : Bytes) → Is k (b ∷ xs) → fits k (sort b) ≡ true
unfolding sort is_blank
begins_sort white b xs x = ap (fits white) x.0
begins_sort line b [] x = absurd x
begins_sort line b (c ∷ cs) x = ap (λ q. fits line (sort q)) x.0
begins_sort name b xs x = ap (fits name) x.0
begins_sort system b xs x = ap (λ q. fits system (sort q)) x.0
begins_sort decimal b xs x = ap (fits decimal) x.0
begins_sort based b xs x = based_sort x.size x.rest b xs x.splits x.sized x.unsized
begins_sort filling b [] x = absurd x
begins_sort filling b (c ∷ cs) x = ap (λ q. fits filling (sort q)) x.0
begins_sort mark b xs x = (fine_parts b xs x).0

-- the class of a lexeme at a byte of a sort
pub begins : (k : Class) (x : Sort) (b : ℕ) (xs : Bytes) → sort b ≡ x → Is k (b ∷ xs) → fits k x ≡ true
begins k x b xs e y = ap (fits k) (sym e) ∙ begins_sort k b xs y

only_white : (k : Class) → fits k s.Blank ≡ true → k ≡ white
only_white white e = refl
only_white _ e = cc

only_name : (k : Class) → fits k s.Letter ≡ true → k ≡ name
only_name name e = refl
only_name _ e = cc

only_system : (k : Class) → fits k s.Dollar ≡ true → k ≡ system
only_system system e = refl
only_system _ e = cc

pub digit_kinds : (k : Class) → fits k s.Digit ≡ true → (k ≡ decimal) ⊎ (k ≡ based)
digit_kinds decimal e = inl refl
digit_kinds based e = inr refl
digit_kinds _ e = absurd cc

pub sign_kinds : (k : Class) → fits k s.Sign ≡ true → (k ≡ line) ⊎ (k ≡ mark)
sign_kinds line e = inl refl
sign_kinds mark e = inr refl
sign_kinds _ e = absurd cc

pub tick_kinds : (k : Class) → fits k s.Tick ≡ true → (k ≡ based) ⊎ ((k ≡ filling) ⊎ (k ≡ mark))
tick_kinds based e = inl refl
tick_kinds filling e = inr (inl refl)
tick_kinds mark e = inr (inr refl)
tick_kinds _ e = absurd cc

bad_kinds : (k : Class) → fits k s.Bad ≡ true → ⊥
bad_kinds white e = cc
bad_kinds _ e = cc

-- ---- by the first byte

pub white_longest : (b : ℕ) (bs : Bytes) → sort b ≡ s.Blank → Longest (b ∷ bs) 1
white_longest b bs e = record { fits = omega arith; class = white; is = (e, refl); most = most }
  where
    most : (k : Class) (m : ℕ) → m ≤ length (b ∷ bs) → Is k (take m (b ∷ bs)) → m ≤ 1
    most k zero le x = omega arith
    most k (suc j) le x =
        let is : k ≡ white = only_white k (begins k s.Blank b (take j bs) e x) in
        let none : take j bs ≡ [] = (subst (λ q. Is q (b ∷ take j bs)) is x).1 in
        omega (arith, ap length none, length-take-le j bs (omega (arith, le)))

pub name_longest : (b : ℕ) (bs : Bytes) → sort b ≡ s.Letter → Longest (b ∷ bs) (name_len (b ∷ bs))
name_longest b bs e =
    let one : 1 + prefix_len (in_run run.Name) bs ≡ suc (prefix_len (in_run run.Name) bs) = omega arith in
    record {
      fits = omega (arith, prefix_len-le-length (in_run run.Name) bs);
      class = name;
      is = subst (λ n. Is name (take n (b ∷ bs))) (sym one) (e, run_take (in_run run.Name) bs);
      most = most;
    }
  where
    most : (k : Class) (m : ℕ) → m ≤ length (b ∷ bs) → Is k (take m (b ∷ bs)) → m ≤ 1 + prefix_len (in_run run.Name) bs
    most k zero le x = omega arith
    most k (suc j) le x =
        let is : k ≡ name = only_name k (begins k s.Letter b (take j bs) e x) in
        omega (arith, run_most (in_run run.Name) bs j (omega (arith, le)) (subst (λ q. Is q (b ∷ take j bs)) is x).1)

pub system_longest : (a b : ℕ) (bs : Bytes) → sort a ≡ s.Dollar → a ≡ 36 → sort b ≡ s.Letter → Longest (a ∷ b ∷ bs) (1 + name_len (b ∷ bs))
system_longest a b bs e is36 f =
    let one : 1 + (1 + prefix_len (in_run run.Name) bs) ≡ suc (suc (prefix_len (in_run run.Name) bs)) = omega arith in
    record {
      fits = omega (arith, prefix_len-le-length (in_run run.Name) bs);
      class = system;
      is = subst (λ n. Is system (take n (a ∷ b ∷ bs))) (sym one) (is36, (f, run_take (in_run run.Name) bs));
      most = most;
    }
  where
    most : (k : Class) (m : ℕ) → m ≤ length (a ∷ b ∷ bs) → Is k (take m (a ∷ b ∷ bs)) → m ≤ 1 + (1 + prefix_len (in_run run.Name) bs)
    most k zero le x = omega arith
    most k (suc zero) le x = omega arith
    most k (suc (suc j)) le x =
        let is : k ≡ system = only_system k (begins k s.Dollar a (b ∷ take j bs) e x) in
        omega (arith, run_most (in_run run.Name) bs j (omega (arith, le)) (subst (λ q. Is q (a ∷ b ∷ take j bs)) is x).1.1)

pub system_none : (a : ℕ) (bs : Bytes) → sort a ≡ s.Dollar → ((m : ℕ) → m ≤ length bs → IsName (take m bs) → ⊥) → NoLexeme (a ∷ bs)
system_none a bs e no_name = record { none = none }
  where
    none : (k : Class) (m : ℕ) → m ≤ length (a ∷ bs) → Is k (take m (a ∷ bs)) → ⊥
    none k zero le x = empty_none k x
    none k (suc j) le x =
        let is : k ≡ system = only_system k (begins k s.Dollar a (take j bs) e x) in
        no_name j (omega (arith, le)) (subst (λ q. Is q (a ∷ take j bs)) is x).1

pub bad_none : (b : ℕ) (bs : Bytes) → sort b ≡ s.Bad → NoLexeme (b ∷ bs)
bad_none b bs e = record { none = none }
  where
    none : (k : Class) (m : ℕ) → m ≤ length (b ∷ bs) → Is k (take m (b ∷ bs)) → ⊥
    none k zero le x = empty_none k x
    none k (suc j) le x = bad_kinds k (begins k s.Bad b (take j bs) e x)
