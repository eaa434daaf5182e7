-- The longest lexemes that begin with a digit, with `'` and with a sign; and so each piece.
use Rattle.std.proofs.Common.{◌≡◌, ◌⊎◌, ℕ, zero, suc, ◌+◌, ◌-◌, ◌≤◌, Bool, true, false, not, ◌&&◌, ◌||◌, nat_lt, if◌then◌else◌, [], ◌∷◌, ◌++◌, length, take, drop, Some, None, inl, inr, refl, sym, ap, subst, ◌∙◌, append_assoc, arith, length-drop, length-append}
use Rattle.std.specs.Prelude.{◌==◌}
use Rattle.std.specs.List.{prefix_len}
use Rattle.std.proofs.lemmas.Bool.{eq-eqb, eqb-true, ltb-true}
use Rattle.std.proofs.lemmas.List.{length-take-le, take-append-drop, drop-take}
use Rattle.std.proofs.lemmas.List.Sums.{prefix_len-le-length}
use Rattle.std.proofs.Math.Seq.{take-add}
use Rattle.nt_value.specs.declared.digit.Digit.{Digit}
use Rattle.nt_lexer.specs.Bytes.{Bytes, is_blank, sort, in_run}
use Rattle.nt_lexer.specs.Numbers.{filling_of, filling_front}
use Rattle.nt_lexer.specs.Spellings.{marks}
use Rattle.nt_lexer.specs.Pieces.{first_mark, begins_with, number_len}
use Rattle.nt_lexer.specs.Lexemes.{Class, line, decimal, based, filling, mark, IsUnsized, IsSize, IsBased, IsFilling, IsLine, IsMark, Is, Longest, NoLexeme}
use Rattle.nt_lexer.specs.declared.kinds.Based.{Based}
use Rattle.nt_lexer.specs.declared.kinds.Mark.{Mark}
use Rattle.nt_lexer.specs.declared.kinds.Sort.TheVariants as s
use Rattle.nt_lexer.specs.declared.kinds.Run.TheVariants as run
use Rattle.nt_lexer.proofs.Fronts.{and_both, if_cases, run_take, run_most, run_ends, starts_at, FoundMark, first_found, found_is, first_none, UnsizedBy}
use Rattle.nt_lexer.proofs.Longest.{is_tick, fine_parts, marks_ordered, empty_none, begins, digit_kinds, sign_kinds, tick_kinds}

-- ---- digits

drop_all_of : (xs ys : Bytes) → drop (length xs) (xs ++ ys) ≡ ys
drop_all_of [] ys = refl
drop_all_of (x ∷ xs) ys = drop_all_of xs ys

abbrev pub digits : Bytes → ℕ
digits bs = prefix_len (in_run run.Number) bs

record BasedCut (bs : Bytes) (j : ℕ) : Type 0 where
  within : digits bs ≤ j
  unsized : IsUnsized (take (j - digits bs) (drop (digits bs) bs))

tick_ends : in_run run.Number 39 ≡ false
unfolding in_run
tick_ends = refl

tick_sort : sort 39 ≡ s.Tick
unfolding sort is_blank
tick_sort = refl

based_cut : (b : ℕ) (bs : Bytes) (j : ℕ) → sort b ≡ s.Digit → j ≤ length bs → (size rest : Bytes) → b ∷ take j bs ≡ size ++ rest → IsSize size → IsUnsized rest → BasedCut bs j
based_cut b bs j e le [] [] is y x = absurd x
based_cut b bs j e le [] (a ∷ []) is y x = absurd x
based_cut b bs j e le [] (a ∷ c ∷ cs) is y x =
    let same : b ≡ a = cc in
    absurd (let bad : s.Digit ≡ s.Tick = sym e ∙ ap sort (same ∙ x.0) ∙ tick_sort in cc)
based_cut b bs j e le (d ∷ ds) [] is y x = absurd x
based_cut b bs j e le (d ∷ ds) (a ∷ []) is y x = absurd x
based_cut b bs j e le (d ∷ ds) (a ∷ c ∷ cs) is y x =
    let tail : take j bs ≡ ds ++ a ∷ c ∷ cs = cc in
    let whole : bs ≡ ds ++ (a ∷ ((c ∷ cs) ++ drop j bs)) = sym (take-append-drop j bs) ∙ ap (λ t. t ++ drop j bs) tail ∙ append_assoc ds (a ∷ c ∷ cs) (drop j bs) in
    let len : digits bs ≡ length ds =
    ap digits whole ∙ run_ends (in_run run.Number) ds a ((c ∷ cs) ++ drop j bs) y.1 (ap (in_run run.Number) x.0 ∙ tick_ends) in
    let within : digits bs ≤ j = omega (arith, len, length-take-le j bs le, ap length tail, length-append ds (a ∷ c ∷ cs)) in
    let total : digits bs + (j - digits bs) ≡ j = omega (arith, within) in
    let rest : take (j - digits bs) (drop (digits bs) bs) ≡ a ∷ c ∷ cs =
    sym (drop-take (digits bs) (j - digits bs) bs) ∙ ap (λ n. drop (digits bs) (take n bs)) total ∙ ap (drop (digits bs)) tail ∙ ap (λ n. drop n (ds ++ a ∷ c ∷ cs)) len
    ∙ drop_all_of ds (a ∷ c ∷ cs) in
    record { within = within; unsized = subst IsUnsized (sym rest) x }

-- a number with a limit to the based literals at it
number_most : (b : ℕ) (bs : Bytes) (n : ℕ) → sort b ≡ s.Digit → ((m : ℕ) → m ≤ length (drop (digits bs) bs) → IsUnsized (take m (drop (digits bs) bs)) → m ≤ n)
    → (k : Class) (m : ℕ) → m ≤ length (b ∷ bs) → Is k (take m (b ∷ bs)) → m ≤ 1 + digits bs + n
number_most b bs n e law k zero le x = omega arith
number_most b bs n e law k (suc j) le x =
    elim (digit_kinds k (begins k s.Digit b (take j bs) e x)) [
      | inl is ↦ omega (arith, run_most (in_run run.Number) bs j (omega (arith, le)) (subst (λ q. Is q (b ∷ take j bs)) is x).1)
      | inr is ↦
          let y : IsBased (b ∷ take j bs) = subst (λ q. Is q (b ∷ take j bs)) is x in
          let cut : BasedCut bs j = based_cut b bs j e (omega (arith, le)) y.size y.rest y.splits y.sized y.unsized in
          omega (arith, cut.within, law (j - digits bs) (omega (arith, length-drop (digits bs) bs, le)) cut.unsized)
    ]

pub decimal_longest : (b : ℕ) (bs : Bytes) → sort b ≡ s.Digit → UnsizedBy (drop (digits bs) bs) None → Longest (b ∷ bs) (number_len (b ∷ bs))
decimal_longest b bs e law =
    let one : 1 + digits bs ≡ suc (digits bs) = omega arith in
    record {
      fits = omega (arith, prefix_len-le-length (in_run run.Number) bs);
      class = decimal;
      is = subst (λ n. Is decimal (take n (b ∷ bs))) (sym one) (e, run_take (in_run run.Number) bs);
      most = λ k m le x. omega (arith, number_most b bs 0 e (λ i fit y. absurd (law i fit y)) k m le x);
    }

pub sized_longest : (b : ℕ) (bs : Bytes) (q : Based) → sort b ≡ s.Digit → UnsizedBy (drop (digits bs) bs) (Some q) → Longest (b ∷ bs) (number_len (b ∷ bs) + (q.before + q.len))
sized_longest b bs q e law =
    let n : ℕ = q.before + q.len in
    let one : 1 + digits bs + n ≡ suc (digits bs + n) = omega arith in
    let here : IsBased (b ∷ take (digits bs + n) bs) = record {
      size = b ∷ take (digits bs) bs;
      rest = take n (drop (digits bs) bs);
      splits = ap (λ t. b ∷ t) (take-add (digits bs) n bs);
      sized = (e, run_take (in_run run.Number) bs);
      unsized = law.is;
    } in
    record {
      fits = omega (arith, law.fits, length-drop (digits bs) bs, prefix_len-le-length (in_run run.Number) bs);
      class = based;
      is = subst (λ i. Is based (take i (b ∷ bs))) (sym one) here;
      most = number_most b bs n e law.most;
    }

-- ---- `'`

tick_unsized : (b : ℕ) (xs : Bytes) → sort b ≡ s.Tick → (size rest : Bytes) → b ∷ xs ≡ size ++ rest → IsSize size → IsUnsized rest → IsUnsized (b ∷ xs)
tick_unsized b xs e [] rest is y x = subst IsUnsized (sym is) x
tick_unsized b xs e (d ∷ ds) rest is y x = let same : b ≡ d = cc in absurd (let bad : s.Tick ≡ s.Digit = sym e ∙ ap sort same ∙ y.0 in cc)

filling_len : (b : ℕ) (xs : Bytes) → IsFilling (b ∷ xs) → length xs ≡ 1
filling_len b [] x = absurd x
filling_len b (c ∷ cs) x = omega (arith, ap length x.2)

mark_len : (b : ℕ) (xs : Bytes) → sort b ≡ s.Tick → IsMark (b ∷ xs) → length xs ≤ 1
mark_len b xs e x =
    let short : nat_lt (length xs) 2 ≡ true = sym (ap (λ q. not (is_tick q) || nat_lt (length xs) 2) e) ∙ (fine_parts b xs x).2 in
    omega (arith, ltb-true (length xs) 2 short)

pub tick_based : (b : ℕ) (bs : Bytes) (q : Based) → sort b ≡ s.Tick → UnsizedBy (b ∷ bs) (Some q) → Longest (b ∷ bs) (q.before + q.len)
tick_based b bs q e law = record {
  fits = law.fits;
  class = based;
  is = record { size = []; rest = take (q.before + q.len) (b ∷ bs); splits = refl; sized = tt; unsized = law.is };
  most = most;
}
  where
    most : (k : Class) (m : ℕ) → m ≤ length (b ∷ bs) → Is k (take m (b ∷ bs)) → m ≤ q.before + q.len
    most k zero le x = omega arith
    most k (suc j) le x =
        elim (tick_kinds k (begins k s.Tick b (take j bs) e x)) [
          | inl is ↦ let y : IsBased (b ∷ take j bs) = subst (λ q. Is q (b ∷ take j bs)) is x in law.most (suc j) le (tick_unsized b (take j bs) e y.size y.rest y.splits y.sized y.unsized)
          | inr other ↦
              elim other [
                | inl is ↦ omega (arith, law.long, length-take-le j bs (omega (arith, le)), filling_len b (take j bs) (subst (λ q. Is q (b ∷ take j bs)) is x))
                | inr is ↦ omega (arith, law.long, length-take-le j bs (omega (arith, le)), mark_len b (take j bs) e (subst (λ q. Is q (b ∷ take j bs)) is x))
              ]
        ]

-- where no based literal begins
tick_most : (b : ℕ) (bs : Bytes) → sort b ≡ s.Tick → UnsizedBy (b ∷ bs) None → (k : Class) (j : ℕ) → j ≤ length bs → Is k (b ∷ take j bs)
    → (IsFilling (b ∷ take j bs)) ⊎ (IsMark (b ∷ take j bs))
tick_most b bs e law k j le x =
    elim (tick_kinds k (begins k s.Tick b (take j bs) e x)) [
      | inl is ↦ let y : IsBased (b ∷ take j bs) = subst (λ q. Is q (b ∷ take j bs)) is x in absurd (law (suc j) (omega (arith, le)) (tick_unsized b (take j bs) e y.size y.rest y.splits y.sized y.unsized))
      | inr other ↦ elim other [ inl is ↦ inl (subst (λ q. Is q (b ∷ take j bs)) is x) | inr is ↦ inr (subst (λ q. Is q (b ∷ take j bs)) is x) ]
    ]

record Filled (b : ℕ) (bs : Bytes) (digit : Digit) : Type 0 where
  other : ℕ
  others : Bytes
  is : bs ≡ other ∷ others
  tick : b ≡ 39
  of : filling_of other ≡ Some digit

filled : (b : ℕ) (bs : Bytes) (digit : Digit) → filling_front (b ∷ bs) ≡ Some digit → Filled b bs digit
unfolding filling_front
filled b [] digit e = absurd cc
filled b (c ∷ cs) digit e =
    elim (if_cases (b == 39) (filling_of c) None (Some digit) e) [
      | inl h ↦ record { other = c; others = cs; is = refl; tick = eqb-true b 39 h.0; of = h.1 }
      | inr h ↦ absurd (let bad = h.1 in cc)
    ]

pub tick_filling : (b : ℕ) (bs : Bytes) (digit : Digit) → sort b ≡ s.Tick → UnsizedBy (b ∷ bs) None → filling_front (b ∷ bs) ≡ Some digit → Longest (b ∷ bs) 2
tick_filling b bs digit e law f =
    let g : Filled b bs digit = filled b bs digit f in
    record {
      fits = omega (arith, ap length g.is);
      class = filling;
      is = subst (λ t. Is filling (take 2 (b ∷ t))) (sym g.is) (g.tick, (digit, g.of), refl);
      most = most;
    }
  where
    most : (k : Class) (m : ℕ) → m ≤ length (b ∷ bs) → Is k (take m (b ∷ bs)) → m ≤ 2
    most k zero le x = omega arith
    most k (suc j) le x =
        elim (tick_most b bs e law k j (omega (arith, le)) x) [
          | inl y ↦ omega (arith, length-take-le j bs (omega (arith, le)), filling_len b (take j bs) y)
          | inr y ↦ omega (arith, length-take-le j bs (omega (arith, le)), mark_len b (take j bs) e y)
        ]

no_filling : (b : ℕ) (bs : Bytes) (j : ℕ) → filling_front (b ∷ bs) ≡ None → IsFilling (b ∷ take j bs) → ⊥
unfolding filling_front
no_filling b bs zero f x = x
no_filling b [] (suc j) f x = x
no_filling b (c ∷ cs) (suc j) f x =
    let here : (if b == 39 then filling_of c else None) ≡ filling_of c = ap (λ (t : Bool). if t then filling_of c else None) (eq-eqb b 39 x.0) in
    let bad = sym f ∙ here ∙ x.1.1 in
    cc

-- ---- marks

-- where every lexeme is a mark, the one that is found is the longest
pub mark_longest : (text : Bytes) (found : Mark × ℕ) → first_mark marks text ≡ Some found → ((k : Class) (m : ℕ) → m ≤ length text → Is k (take m text) → IsMark (take m text)) → Longest text found.1
mark_longest text found e only =
    let f : FoundMark marks text found.1 = first_found marks text found marks_ordered e in
    let g = found_is marks text found.1 f in
    record {
      fits = g.0;
      class = mark;
      is = record { place = f.place; mark = f.mark; is = g.1 };
      most = λ k m le x.
          let y : IsMark (take m text) = only k m le x in
          omega (arith, length-take-le m text le, f.most y.place (take m text) y.mark y.is (starts_at text m le));
    }

pub mark_none : (text : Bytes) → first_mark marks text ≡ None → ((k : Class) (m : ℕ) → m ≤ length text → Is k (take m text) → IsMark (take m text)) → NoLexeme text
mark_none text e only = record {
  none = λ k m le x.
      let y : IsMark (take m text) = only k m le x in
      first_none marks text y.place (take m text) y.mark e y.is (starts_at text m le);
}

pub tick_only : (b : ℕ) (bs : Bytes) → sort b ≡ s.Tick → UnsizedBy (b ∷ bs) None → filling_front (b ∷ bs) ≡ None
    → (k : Class) (m : ℕ) → m ≤ length (b ∷ bs) → Is k (take m (b ∷ bs)) → IsMark (take m (b ∷ bs))
tick_only b bs e law f k zero le x = absurd (empty_none k x)
tick_only b bs e law f k (suc j) le x =
    elim (tick_most b bs e law k j (omega (arith, le)) x) [
      | inl y ↦ absurd (no_filling b bs j f y)
      | inr y ↦ y
    ]

-- ---- other signs

no_line : (b : ℕ) (bs : Bytes) (j : ℕ) → begins_with 47 47 (b ∷ bs) ≡ false → IsLine (b ∷ take j bs) → ⊥
unfolding begins_with
no_line b bs zero e x = x
no_line b [] (suc j) e x = x
no_line b (c ∷ cs) (suc j) e x =
    let one : (b == 47) ≡ true = eq-eqb b 47 x.0 in
    let two : (c == 47) ≡ true = eq-eqb c 47 x.1 in
    let both : (b == 47 && c == 47) ≡ true = rw (one, two) refl in
    let bad = sym e ∙ both in
    cc

pub sign_only : (b : ℕ) (bs : Bytes) → sort b ≡ s.Sign → begins_with 47 47 (b ∷ bs) ≡ false
    → (k : Class) (m : ℕ) → m ≤ length (b ∷ bs) → Is k (take m (b ∷ bs)) → IsMark (take m (b ∷ bs))
sign_only b bs e plain k zero le x = absurd (empty_none k x)
sign_only b bs e plain k (suc j) le x =
    elim (sign_kinds k (begins k s.Sign b (take j bs) e x)) [
      | inl is ↦ absurd (no_line b bs j plain (subst (λ q. Is q (b ∷ take j bs)) is x))
      | inr is ↦ subst (λ q. Is q (b ∷ take j bs)) is x
    ]

record Slashes (b : ℕ) (bs : Bytes) : Type 0 where
  other : ℕ
  others : Bytes
  first : b ≡ 47
  second : other ≡ 47
  is : bs ≡ other ∷ others

slashes : (b : ℕ) (bs : Bytes) → begins_with 47 47 (b ∷ bs) ≡ true → Slashes b bs
unfolding begins_with
slashes b [] e = absurd cc
slashes b (c ∷ cs) e =
    let both = and_both (b == 47) (c == 47) e in
    record { other = c; others = cs; first = eqb-true b 47 both.0; second = eqb-true c 47 both.1; is = refl }

two_slashes : (b c : ℕ) (xs : Bytes) → b ≡ 47 → c ≡ 47 → begins_with 47 47 (b ∷ c ∷ xs) ≡ true
unfolding begins_with
two_slashes b c xs first second = rw (eq-eqb b 47 first, eq-eqb c 47 second) refl

line_here : (b c : ℕ) (cs : Bytes) → sort b ≡ s.Sign → b ≡ 47 → c ≡ 47 → Longest (b ∷ c ∷ cs) (2 + prefix_len (in_run run.Line) cs)
line_here b c cs e first second =
    let two : 2 + prefix_len (in_run run.Line) cs ≡ suc (suc (prefix_len (in_run run.Line) cs)) = omega arith in
    record {
      fits = omega (arith, prefix_len-le-length (in_run run.Line) cs);
      class = line;
      is = subst (λ n. Is line (take n (b ∷ c ∷ cs))) (sym two) (first, second, run_take (in_run run.Line) cs);
      most = most;
    }
  where
    twice : (xs : Bytes) → begins_with 47 47 (b ∷ c ∷ xs) ≡ true
    twice xs = two_slashes b c xs first second

    most : (k : Class) (m : ℕ) → m ≤ length (b ∷ c ∷ cs) → Is k (take m (b ∷ c ∷ cs)) → m ≤ 2 + prefix_len (in_run run.Line) cs
    most k zero le x = omega arith
    most k (suc zero) le x = omega arith
    most k (suc (suc j)) le x =
        elim (sign_kinds k (begins k s.Sign b (c ∷ take j cs) e x)) [
          | inl is ↦ omega (arith, run_most (in_run run.Line) cs j (omega (arith, le)) (subst (λ q. Is q (b ∷ c ∷ take j cs)) is x).2)
          | inr is ↦ absurd (let bad = sym (ap not (twice (take j cs))) ∙ (fine_parts b (c ∷ take j cs) (subst (λ q. Is q (b ∷ c ∷ take j cs)) is x)).1 in cc)
        ]

pub line_longest : (b : ℕ) (bs : Bytes) → sort b ≡ s.Sign → begins_with 47 47 (b ∷ bs) ≡ true → Longest (b ∷ bs) (2 + prefix_len (in_run run.Line) (drop 2 (b ∷ bs)))
line_longest b bs e f =
    let g : Slashes b bs = slashes b bs f in
    subst (λ t. Longest (b ∷ t) (2 + prefix_len (in_run run.Line) (drop 2 (b ∷ t)))) (sym g.is) (line_here b g.other g.others e g.first g.second)
