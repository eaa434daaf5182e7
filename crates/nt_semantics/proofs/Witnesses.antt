-- A witness is the text of one list of entries: a number ends where no digit stands, and the first byte of a line tells its
-- event.
use Rattle.std.proofs.Common.{◌≡◌, ℕ, ◌<◌, ◌^◌, List, [], ◌∷◌, ◌++◌, get_or, drop, decimal, codes, refl, ap, sym, ◌∙◌, arith, append_assoc}
use Rattle.std.specs.Prelude.{All}
use Rattle.std.specs.Str.Parse.{AllDigits}
use Rattle.std.proofs.lemmas.Fmt.{decimal_injective, decimal_is_IsNumeral}
use Rattle.std.proofs.lemmas.List.Elements.{All-head, All-tail}
use Rattle.std.proofs.lemmas.Str.Parse.{digit_from_value}
use Rattle.nt_semantics.specs.Laws.{WitnessIsOne}
use Rattle.nt_semantics.specs.Texts.{IsWritten, IsWrittenAs, order_text, event_line, entry_line, entry_lines, witness_head, witness_end}
use Rattle.nt_semantics.specs.declared.event.Entry.{Entry}
use Rattle.nt_semantics.specs.declared.event.Event.{Event}
use Rattle.nt_semantics.specs.declared.event.Event.TheVariants.{Stmt, Assign as AssignEvent, Update, Resolve}

first_same : (x y : ℕ) (xs ys : List ℕ) → x ∷ xs ≡ y ∷ ys → x ≡ y
first_same x y xs ys h = ap (λ (l : List ℕ). get_or l 0 0) h

rest_same : (x y : ℕ) (xs ys : List ℕ) → x ∷ xs ≡ y ∷ ys → xs ≡ ys
rest_same x y xs ys h = ap (λ (l : List ℕ). drop 1 l) h

-- ---- numbers
-- a byte that is no digit stands first
record Stops (text : List ℕ) : Type 0 where
  byte : ℕ
  rest : List ℕ
  is : text ≡ byte ∷ rest
  no_digit : byte < 48

record Same (xs ys r q : List ℕ) : Type 0 where
  front : xs ≡ ys
  back : r ≡ q

-- digits end where the first other byte stands
digits_end : (xs ys r q : List ℕ) → AllDigits 10 xs → AllDigits 10 ys → Stops r → Stops q → xs ++ r ≡ ys ++ q → Same xs ys r q
digits_end [] [] r q dx dy sr sq h = record { front = refl; back = h }
digits_end [] (y ∷ ys) r q dx dy sr sq h =
    let first = first_same sr.byte y sr.rest (ys ++ q) (sym sr.is ∙ h) in
    let low = digit_from_value y dy.0 in
    absurd (omega (arith, first, low.0, sr.no_digit))
digits_end (x ∷ xs) [] r q dx dy sr sq h =
    let first = first_same x sq.byte (xs ++ r) sq.rest (h ∙ sq.is) in
    let low = digit_from_value x dx.0 in
    absurd (omega (arith, first, low.0, sq.no_digit))
digits_end (x ∷ xs) (y ∷ ys) r q dx dy sr sq h =
    let first = first_same x y (xs ++ r) (ys ++ q) h in
    let more = digits_end xs ys r q dx.1 dy.1 sr sq (rest_same x y (xs ++ r) (ys ++ q) h) in
    record { front = λ i. first i ∷ more.front i; back = more.back }

record SameNumber (m n : ℕ) (r q : List ℕ) : Type 0 where
  number : m ≡ n
  back : r ≡ q

numbers_same : (m n : ℕ) (r q : List ℕ) → m < 2 ^ 64 → n < 2 ^ 64 → Stops r → Stops q → decimal m ++ r ≡ decimal n ++ q → SameNumber m n r q
numbers_same m n r q low high sr sq h =
    let same = digits_end (decimal m) (decimal n) r q (decimal_is_IsNumeral m low).0.1 (decimal_is_IsNumeral n high).0.1 sr sq h in
    record { number = decimal_injective m n low high same.front; back = same.back }

blank_stops : (text : List ℕ) → Stops (32 ∷ text)
blank_stops text = record { byte = 32; rest = text; is = refl; no_digit = omega arith }

line_stops : (text : List ℕ) → Stops (10 ∷ text)
line_stops text = record { byte = 10; rest = text; is = refl; no_digit = omega arith }

-- ---- orders
order_stops : (order text : List ℕ) → Stops (order_text order ++ (10 ∷ text))
order_stops [] text = line_stops text
order_stops (slot ∷ order) text = record {
  byte = 32;
  rest = (decimal slot ++ order_text order) ++ (10 ∷ text);
  is = refl;
  no_digit = omega arith;
}

abbrev IsNumber : ℕ → Type 0
IsNumber n = n < 2 ^ 32

orders_same : (xs ys r q : List ℕ) → All IsNumber xs → All IsNumber ys → order_text xs ++ (10 ∷ r) ≡ order_text ys ++ (10 ∷ q) → Same xs ys r q
orders_same [] [] r q dx dy h = record { front = refl; back = rest_same 10 10 r q h }
orders_same [] (y ∷ ys) r q dx dy h =
    let first = first_same 10 32 r ((decimal y ++ order_text ys) ++ (10 ∷ q)) h in absurd (omega (arith, first))
orders_same (x ∷ xs) [] r q dx dy h =
    let first = first_same 32 10 ((decimal x ++ order_text xs) ++ (10 ∷ r)) q h in absurd (omega (arith, first))
orders_same (x ∷ xs) (y ∷ ys) r q dx dy h =
    let low : x < 2 ^ 32 = All-head IsNumber x xs dx in
    let high : y < 2 ^ 32 = All-head IsNumber y ys dy in
    let tails = rest_same 32 32 ((decimal x ++ order_text xs) ++ (10 ∷ r)) ((decimal y ++ order_text ys) ++ (10 ∷ q)) h in
    let first = numbers_same x y (order_text xs ++ (10 ∷ r)) (order_text ys ++ (10 ∷ q)) (omega (arith, low)) (omega (arith, high)) (order_stops xs r) (order_stops ys q) (sym (append_assoc (decimal x) (order_text xs) (10 ∷ r)) ∙ tails ∙ append_assoc (decimal y) (order_text ys) (10 ∷ q)) in
    let more = orders_same xs ys r q (All-tail IsNumber x xs dx) (All-tail IsNumber y ys dy) first.back in
    record { front = λ i. first.number i ∷ more.front i; back = more.back }

-- ---- lines
-- a line and what stands behind it, as one list of bytes
abbrev statement_text : ℕ → List ℕ → List ℕ
statement_text p r = 115 ∷ 32 ∷ (decimal p ++ (10 ∷ r))

abbrev assign_text : ℕ → ℕ → List ℕ → List ℕ
assign_text a count r = 97 ∷ 32 ∷ (decimal a ++ (32 ∷ (decimal count ++ (10 ∷ r))))

abbrev update_text : List ℕ → List ℕ
update_text r = 117 ∷ 10 ∷ r

abbrev resolve_text : ℕ → ℕ → List ℕ → List ℕ → List ℕ
resolve_text n count order r = 114 ∷ 32 ∷ (decimal n ++ (32 ∷ (decimal count ++ (order_text order ++ (10 ∷ r)))))

abbrev line_text : Event → ℕ → List ℕ → List ℕ
line_text (Stmt p) count r = statement_text p r
line_text (AssignEvent a) count r = assign_text a count r
line_text Update count r = update_text r
line_text (Resolve n order) count r = resolve_text n count order r

-- four pieces, one behind the other
three : (a b c r : List ℕ) → (a ++ (b ++ c)) ++ r ≡ a ++ (b ++ (c ++ r))
three a b c r = append_assoc a (b ++ c) r ∙ ap (λ l. a ++ l) (append_assoc b c r)

line_is : (event : Event) (count : ℕ) (r : List ℕ) → event_line event count ++ r ≡ line_text event count r
line_is (Stmt p) count r = ap (λ l. 115 ∷ 32 ∷ l) (append_assoc (decimal p) (10 ∷ []) r)
line_is (AssignEvent a) count r =
    ap (λ l. 97 ∷ 32 ∷ l) (append_assoc (decimal a) (32 ∷ (decimal count ++ (10 ∷ []))) r ∙ ap (λ l. decimal a ++ (32 ∷ l)) (append_assoc (decimal count) (10 ∷ []) r))
line_is Update count r = refl
line_is (Resolve n order) count r =
    ap (λ l. 114 ∷ 32 ∷ l) (append_assoc (decimal n) (32 ∷ (decimal count ++ (order_text order ++ (10 ∷ [])))) r ∙ ap (λ l. decimal n ++ (32 ∷ l)) (three (decimal count) (order_text order) (10 ∷ []) r))

record SameLine (e f : Event) (j k : ℕ) (r q : List ℕ) : Type 0 where
  event : e ≡ f
  count : j ≡ k
  back : r ≡ q

-- two lines that begin with other bytes
other : {P : Type 0} (x y : ℕ) (r q : List ℕ) → x ∷ r ≡ y ∷ q → (x ≡ y → ⊥) → P
other x y r q h differ = absurd (differ (first_same x y r q h))

lines_same : (e f : Event) (j k : ℕ) (r q : List ℕ) → IsWrittenAs e j → IsWrittenAs f k → line_text e j r ≡ line_text f k q → SameLine e f j k r q
lines_same (Stmt p) (Stmt m) j k r q w v h =
    let same = numbers_same p m (10 ∷ r) (10 ∷ q) (omega (arith, w.0)) (omega (arith, v.0)) (line_stops r) (line_stops q) (rest_same 32 32 _ _ (rest_same 115 115 _ _ h)) in
    record { event = ap (λ n. Stmt n) same.number; count = w.1 ∙ sym v.1; back = rest_same 10 10 r q same.back }
lines_same (AssignEvent a) (AssignEvent b) j k r q w v h =
    let first = numbers_same a b (32 ∷ (decimal j ++ (10 ∷ r))) (32 ∷ (decimal k ++ (10 ∷ q))) (omega (arith, w.0)) (omega (arith, v.0)) (blank_stops (decimal j ++ (10 ∷ r))) (blank_stops (decimal k ++ (10 ∷ q))) (rest_same 32 32 _ _ (rest_same 97 97 _ _ h)) in
    let same = numbers_same j k (10 ∷ r) (10 ∷ q) w.1.1 v.1.1 (line_stops r) (line_stops q) (rest_same 32 32 _ _ first.back) in
    record { event = ap (λ n. AssignEvent n) first.number; count = same.number; back = rest_same 10 10 r q same.back }
lines_same Update Update j k r q w v h =
    record { event = refl; count = w ∙ sym v; back = rest_same 10 10 r q (rest_same 117 117 _ _ h) }
lines_same (Resolve m xs) (Resolve n ys) j k r q w v h =
    let first = numbers_same m n (32 ∷ (decimal j ++ (order_text xs ++ (10 ∷ r)))) (32 ∷ (decimal k ++ (order_text ys ++ (10 ∷ q)))) (omega (arith, w.0)) (omega (arith, v.0)) (blank_stops (decimal j ++ (order_text xs ++ (10 ∷ r)))) (blank_stops (decimal k ++ (order_text ys ++ (10 ∷ q)))) (rest_same 32 32 _ _ (rest_same 114 114 _ _ h)) in
    let second = numbers_same j k (order_text xs ++ (10 ∷ r)) (order_text ys ++ (10 ∷ q)) w.1.1.1 v.1.1.1 (order_stops xs r) (order_stops ys q) (rest_same 32 32 _ _ first.back) in
    let same = orders_same xs ys r q w.1.0 v.1.0 second.back in
    record { event = λ i. Resolve (first.number i) (same.front i); count = second.number; back = same.back }
lines_same (Stmt p) (AssignEvent b) j k r q w v h = other 115 97 _ _ h (λ e. omega (arith, e))
lines_same (Stmt p) Update j k r q w v h = other 115 117 _ _ h (λ e. omega (arith, e))
lines_same (Stmt p) (Resolve n ys) j k r q w v h = other 115 114 _ _ h (λ e. omega (arith, e))
lines_same (AssignEvent a) (Stmt m) j k r q w v h = other 97 115 _ _ h (λ e. omega (arith, e))
lines_same (AssignEvent a) Update j k r q w v h = other 97 117 _ _ h (λ e. omega (arith, e))
lines_same (AssignEvent a) (Resolve n ys) j k r q w v h = other 97 114 _ _ h (λ e. omega (arith, e))
lines_same Update (Stmt m) j k r q w v h = other 117 115 _ _ h (λ e. omega (arith, e))
lines_same Update (AssignEvent b) j k r q w v h = other 117 97 _ _ h (λ e. omega (arith, e))
lines_same Update (Resolve n ys) j k r q w v h = other 117 114 _ _ h (λ e. omega (arith, e))
lines_same (Resolve m xs) (Stmt p) j k r q w v h = other 114 115 _ _ h (λ e. omega (arith, e))
lines_same (Resolve m xs) (AssignEvent b) j k r q w v h = other 114 97 _ _ h (λ e. omega (arith, e))
lines_same (Resolve m xs) Update j k r q w v h = other 114 117 _ _ h (λ e. omega (arith, e))

-- ---- lists
-- no line begins as the last one does
no_end : {P : Type 0} (event : Event) (count : ℕ) (r q : List ℕ) → line_text event count r ≡ 101 ∷ q → P
no_end (Stmt p) count r q h = other 115 101 _ q h (λ e. omega (arith, e))
no_end (AssignEvent a) count r q h = other 97 101 _ q h (λ e. omega (arith, e))
no_end Update count r q h = other 117 101 _ q h (λ e. omega (arith, e))
no_end (Resolve n order) count r q h = other 114 101 _ q h (λ e. omega (arith, e))

-- the lines of entries, and the last line
first_line : (e : Entry) (es : List Entry) → entry_lines (e ∷ es) ++ witness_end ≡ line_text e.event e.count (entry_lines es ++ witness_end)
first_line e es =
    append_assoc (entry_line e) (entry_lines es) witness_end ∙ line_is e.event e.count (entry_lines es ++ witness_end)

entries_same : (es fs : List Entry) → All IsWritten es → All IsWritten fs → entry_lines es ++ witness_end ≡ entry_lines fs ++ witness_end → es ≡ fs
entries_same [] [] w v h = refl
entries_same [] (f ∷ fs) w v h = no_end f.event f.count (entry_lines fs ++ witness_end) (codes "nd\n") (sym (first_line f fs) ∙ sym h)
entries_same (e ∷ es) [] w v h = no_end e.event e.count (entry_lines es ++ witness_end) (codes "nd\n") (sym (first_line e es) ∙ h)
entries_same (e ∷ es) (f ∷ fs) w v h =
    let line = lines_same e.event f.event e.count f.count (entry_lines es ++ witness_end) (entry_lines fs ++ witness_end) (All-head IsWritten e es w) (All-head IsWritten f fs v) (sym (first_line e es) ∙ h ∙ first_line f fs) in
    let more = entries_same es fs (All-tail IsWritten e es w) (All-tail IsWritten f fs v) line.back in
    λ i. record { event = line.event i; count = line.count i } ∷ more i

drop_same : (n : ℕ) (xs ys : List ℕ) → xs ≡ ys → drop n xs ≡ drop n ys
drop_same n xs ys h = ap (λ (l : List ℕ). drop n l) h

pub one_list : WitnessIsOne
one_list es fs w v h =
    entries_same es fs w v (drop_same 18 (witness_head ++ (entry_lines es ++ witness_end)) (witness_head ++ (entry_lines fs ++ witness_end)) h)
