-- The tokens of a source, which a text can only have once.
use Rattle.std.proofs.Common.{◌-◌, map, Option, Result, Ok, Err, IfOk, IfSome, IfNone, ◌≡◌, ◌≢◌, inl, inr, ℕ, zero, suc, ◌≤◌, Bool, true, false, ◌&&◌, ◌||◌, List, [], ◌∷◌, ◌++◌, length, get_or, take, drop, slice_get, None, Some, refl, sym, ◌∙◌, ap, subst, arith, codes}
use Rattle.std.specs.List.{list_all, Contains, flat_map}
use Rattle.std.proofs.lemmas.Bool.{false≢true}
use Rattle.std.proofs.lemmas.List.{take_rest}
use Rattle.nt_small.specs.Grammar.{is_white, is_digit, is_letter, is_word_byte, has_name_form, IsName, IsNumber, Item, Declare, Drive, IsAllowed, AreAllowed, Source, IsSource, item_tokens, items_tokens, tokens, Spaced, Says, declared_nets}
use Rattle.nt_design.specs.declared.design.Design.{Design}
use Rattle.nt_small.specs.Elaboration.{design_of}
use Rattle.nt_small.specs.Said.{item_of}
use Rattle.nt_small.specs.declared.items.ParsedItem.{ParsedItem}
use Rattle.nt_small.specs.Pieces.{pieces_of, starts_word, join_front}
use Rattle.nt_small.proofs.Cutting.{bool_cases, skipped, joined, alone}
use Rattle.nt_small.proofs.Positions.{at_from_Contains}
use Rattle.nt_small.proofs.Spacing.{and_left, and_right, IsWordToken, AreTokens, pieces-spaced, spaced-pieces}
use Rattle.nt_small.proofs.Listing.{same_items}

none_at : {X : Type 0} (x : X) → None ≡ Some x → ⊥
none_at x h = cc

letter_is_word : (b : ℕ) → is_letter b ≡ true → is_word_byte b ≡ true
unfolding is_word_byte
letter_is_word b h = rw h refl

digit_is_word : (b : ℕ) → is_digit b ≡ true → is_word_byte b ≡ true
unfolding is_word_byte
digit_is_word b h = rw h (or_true (is_letter b))
  where
    or_true : (t : Bool) → t || true ≡ true
    or_true true = refl
    or_true false = refl

name_token : (name : List ℕ) → has_name_form name ≡ true → IsWordToken name
name_token [] h = absurd (false≢true h)
name_token (b ∷ bs) h =
    (letter_is_word b (and_left _ _ (and_left _ _ h)), and_right _ _ (and_left _ _ h))

digits_are_word : (digits : List ℕ) → list_all is_digit digits ≡ true → list_all is_word_byte digits ≡ true
digits_are_word [] h = refl
digits_are_word (b ∷ bs) h =
    ap (λ t. t && list_all is_word_byte bs) (digit_is_word b (and_left _ _ h)) ∙ digits_are_word bs (and_right _ _ h)

number_token : (digits : List ℕ) → IsNumber digits → IsWordToken digits
number_token [] h = absurd (omega (arith, h.0))
number_token (b ∷ bs) h = (digit_is_word b (and_left _ _ h.2), digits_are_word bs (and_right _ _ h.2))

-- a declared net has its declaration
declaration_at : (items : List Item) (j : ℕ) (net : List ℕ) → slice_get (declared_nets items) j ≡ Some net → (i : ℕ) × (slice_get items i ≡ Some (Declare net))
declaration_at [] j net at = absurd (none_at net at)
declaration_at (Declare a ∷ items) zero net at = let e : a ≡ net = cc in (0, ap (λ n. Some (Declare n)) e)
declaration_at (Declare a ∷ items) (suc j) net at = let r = declaration_at items j net at in (suc r.0, r.1)
declaration_at (Drive a v ∷ items) j net at = let r = declaration_at items j net at in (suc r.0, r.1)

at_taken : (k : ℕ) (items : List Item) (i : ℕ) (item : Item) → slice_get (take k items) i ≡ Some item → slice_get items i ≡ Some item
at_taken zero items i item at = absurd (none_at item at)
at_taken (suc k) [] i item at = at
at_taken (suc k) (x ∷ items) zero item at = at
at_taken (suc k) (x ∷ items) (suc i) item at = at_taken k items i item at

-- each declared net is a name
declared_name : (nettype : List ℕ) (items : List Item) (k : ℕ) (net : List ℕ) → AreAllowed nettype items → Contains (declared_nets (take k items)) net → IsName net
declared_name nettype items k net allowed there =
    let at = at_from_Contains (declared_nets (take k items)) net there in
    let declared = declaration_at (take k items) at.0 net at.1 in
    (allowed declared.0 (Declare net) (at_taken k items declared.0 (Declare net) declared.1)).0

are_both : (ts us : List (List ℕ)) → AreTokens ts → AreTokens us → AreTokens (ts ++ us)
are_both [] us first second = second
are_both (t ∷ ts) us first second = (first.0, are_both ts us first.1 second)

item_is : (nettype : List ℕ) (items : List Item) (at : ℕ) (item : Item) → IsName nettype → AreAllowed nettype items → IsAllowed nettype (take at items) item → AreTokens (item_tokens nettype item)
unfolding is_word_byte is_letter is_digit is_white
item_is nettype items at (Declare net) type_name allowed is =
    (inl (name_token nettype type_name.0), (inl (name_token net is.0.0), (inr (refl, refl), tt)))
item_is nettype items at (Drive net digits) type_name allowed is =
    (inl (refl, refl), (inl (name_token net (declared_name nettype items at net allowed is.0).0), (inr (refl, refl), (inl (number_token digits is.2), (inr (refl, refl), tt)))))

items_are : (nettype : List ℕ) (items : List Item) → ((at : ℕ) (item : Item) → slice_get items at ≡ Some item → AreTokens (item_tokens nettype item)) → AreTokens (flat_map (item_tokens nettype) items)
items_are nettype [] each = tt
items_are nettype (item ∷ items) each =
    are_both (item_tokens nettype item) (flat_map (item_tokens nettype) items) (each 0 item refl) (items_are nettype items (λ at other there. each (suc at) other there))

pub tokens_are : (s : Source) → IsSource s → AreTokens (tokens s)
unfolding is_word_byte is_letter is_digit is_white
tokens_are s is = (
  inl (refl, refl),
  (
    inl (name_token s.top is.top.0),
    (
      inr (refl, refl),
      (
        inl (refl, refl),
        (
          inl (refl, refl),
          (
            inl (name_token s.nettype is.nettype.0),
            (
              inr (refl, refl),
              are_both (flat_map (item_tokens s.nettype) s.items) (codes "endmodule" ∷ []) (items_are s.nettype s.items (λ at item there. item_is s.nettype s.items at item is.nettype is.items (is.items at item there))) (inl (refl, refl), tt),
            ),
          ),
        ),
      ),
    ),
  ),
)

pub not_assign : (name : List ℕ) → IsName name → name ≢ codes "assign"
not_assign name is same =
    let h : has_name_form (codes "assign") ≡ true = sym (ap has_name_form same) ∙ is.0 in
    false≢true (and_right _ _ h)

pub pieces_from_says : (top text : List ℕ) (s : Source) → Says top text s → pieces_of text ≡ tokens s
pieces_from_says top text s says = pieces-spaced (tokens s) text (tokens_are s says.source) says.spaced

pub says_from_pieces : (top text : List ℕ) (s : Source) → length text ≤ 4194304 → IsSource s → s.top ≡ top → pieces_of text ≡ tokens s → Says top text s
says_from_pieces top text s few source top_is is = record {
  source = source;
  top_is = top_is;
  few_bytes = few;
  spaced = subst (λ (ts : List (List ℕ)). Spaced ts text) is (spaced-pieces text);
}

-- pieces that begin as those of a module, and whose rest spells these items, have no other source
pub only_source : (pieces : List (List ℕ)) (top nettype : List ℕ) (items : List Item) (s : Source) → IsName nettype → pieces ≡ codes "module" ∷ top ∷ codes ";" ∷ codes "nettype" ∷ codes "int" ∷ nettype ∷ codes ";" ∷ drop 7 pieces → items_tokens nettype items ≡ drop 7 pieces → pieces ≡ tokens s → s ≡ record { top = top; nettype = nettype; items = items }
only_source pieces top nettype items s type_name front rest is =
    let top_is : s.top ≡ top = ap (λ l. get_or l 1 []) (sym is ∙ front) in
    let type_is : s.nettype ≡ nettype = ap (λ l. get_or l 5 []) (sym is ∙ front) in
    let left : items_tokens s.nettype s.items ≡ drop 7 pieces = ap (drop 7) (sym is) in
    let items_is : s.items ≡ items = same_items nettype s.items items (not_assign nettype type_name) (ap (λ n. items_tokens n s.items) (sym type_is) ∙ left ∙ sym rest) in
    ap (λ t. record { top = t; nettype = s.nettype; items = s.items }) top_is ∙ ap (λ n. record { top = top; nettype = n; items = s.items }) type_is ∙ ap (λ l. record { top = top; nettype = nettype; items = l }) items_is

-- no items, no source
pub no_source : (pieces : List (List ℕ)) (top nettype : List ℕ) → pieces ≡ codes "module" ∷ top ∷ codes ";" ∷ codes "nettype" ∷ codes "int" ∷ nettype ∷ codes ";" ∷ drop 7 pieces → ((items : List Item) → items_tokens nettype items ≡ drop 7 pieces → ⊥) → (s : Source) → pieces ≡ tokens s → ⊥
no_source pieces top nettype front none s is =
    let type_is : s.nettype ≡ nettype = ap (λ l. get_or l 5 []) (sym is ∙ front) in
    none s.items (ap (λ n. items_tokens n s.items) (sym type_is) ∙ ap (drop 7) (sym is))

-- a text says at most one thing
pub one_source : (top text : List ℕ) (s t : Source) → Says top text s → Says top text t → s ≡ t
one_source top text s t says other =
    let is : tokens t ≡ tokens s = sym (pieces_from_says top text t other) ∙ pieces_from_says top text s says in
    sym (only_source (tokens s) s.top s.nettype s.items t says.source.nettype refl refl (sym is))

length_joined : (b : ℕ) (ps : List (List ℕ)) → length (join_front b ps) ≤ suc (length ps)
length_joined b [] = omega arith
length_joined b (p ∷ ps) = omega arith

-- there are no more pieces than bytes
pub length-pieces : (text : List ℕ) → length (pieces_of text) ≤ length text
length-pieces [] = omega arith
length-pieces (b ∷ bs) =
    elim (bool_cases (is_white b)) [
      | inl white ↦ omega (arith, ap length (skipped b bs white), length-pieces bs)
      | inr black ↦ elim (bool_cases (is_word_byte b && starts_word bs)) [
        | inl both ↦ omega (arith, ap length (joined b bs black (and_left _ _ both) (and_right _ _ both)), length_joined b (pieces_of bs), length-pieces bs)
        | inr single ↦ omega (arith, ap length (alone b bs black single), length-pieces bs)
      ]
    ]

-- and no more items than pieces
pub length-items : (nettype : List ℕ) (items : List Item) → length items ≤ length (items_tokens nettype items)
length-items nettype [] = omega arith
length-items nettype (Declare net ∷ items) = omega (arith, length-items nettype items)
length-items nettype (Drive net digits ∷ items) = omega (arith, length-items nettype items)

-- a source of a text's pieces is one of the text
pub found_says : {E : Type 0} (r : Result (Option Design) E) (top text : List ℕ) (pieces : List (List ℕ)) → length text ≤ 4194304 → pieces ≡ pieces_of text → IfOk r (λ o. IfSome o (λ d. (s : Source) × IsSource s × (s.top ≡ top) × (pieces ≡ tokens s) × (d ≡ design_of s))) → IfOk r (λ o. IfSome o (λ d. (s : Source) × Says top text s × (d ≡ design_of s)))
found_says (Ok (Some d)) top text pieces few is (s, source, top_is, tokens_is, design) =
    (s, says_from_pieces top text s few source top_is (sym is ∙ tokens_is), design)
found_says (Ok None) top text pieces few is h = tt
found_says (Err e) top text pieces few is h = tt

pub none_says : {E : Type 0} (r : Result (Option Design) E) (top text : List ℕ) (pieces : List (List ℕ)) → pieces ≡ pieces_of text → IfOk r (λ o. IfNone o ((s : Source) → IsSource s → s.top ≡ top → pieces ≡ tokens s → ⊥)) → IfOk r (λ o. IfNone o ((s : Source) → Says top text s → ⊥))
none_says (Ok (Some d)) top text pieces is h = tt
none_says (Ok None) top text pieces is h = λ s says. h s says.source says.top_is (is ∙ pieces_from_says top text s says)
none_says (Err e) top text pieces is h = tt

-- pieces that spell a module with these names and items
pub record IsSpelled (pieces : List (List ℕ)) (top nettype : List ℕ) (items : List Item) : Type 0 where
  pub top_name : IsName top
  pub type_name : IsName nettype
  pub front : pieces ≡ codes "module" ∷ top ∷ codes ";" ∷ codes "nettype" ∷ codes "int" ∷ nettype ∷ codes ";" ∷ drop 7 pieces
  pub rest : items_tokens nettype items ≡ drop 7 pieces

abbrev pub source_of : List ℕ → List ℕ → List Item → Source
source_of top nettype items = record { top = top; nettype = nettype; items = items }

pub few_items : (pieces : List (List ℕ)) (top nettype : List ℕ) (items : List Item) (n : ℕ) → IsSpelled pieces top nettype items → length pieces ≤ n → length items ≤ n
few_items pieces top nettype items n is few =
    omega (arith, few, length-items nettype items, ap length is.rest, ap length is.front)

pub spelled_source : (pieces : List (List ℕ)) (top nettype : List ℕ) (items : List Item) (s : Source) → IsSpelled pieces top nettype items → pieces ≡ tokens s → s ≡ source_of top nettype items
spelled_source pieces top nettype items s is tokens_is =
    only_source pieces top nettype items s is.type_name is.front is.rest tokens_is

pub spelled_allowed : (pieces : List (List ℕ)) (top nettype : List ℕ) (items : List Item) (s : Source) → IsSpelled pieces top nettype items → pieces ≡ tokens s → IsSource s → IsSource (source_of top nettype items)
spelled_allowed pieces top nettype items s is tokens_is source =
    subst IsSource (spelled_source pieces top nettype items s is tokens_is) source

pub spelled_is : (pieces : List (List ℕ)) (top nettype : List ℕ) (items : List Item) → IsSpelled pieces top nettype items → AreAllowed nettype items → length (declared_nets items) ≤ 16384 → IsSource (source_of top nettype items) × (pieces ≡ tokens (source_of top nettype items))
spelled_is pieces top nettype items is allowed few =
    (record { top = is.top_name; nettype = is.type_name; items = allowed; few_nets = few }, is.front ∙ ap (λ l. codes "module" ∷ top ∷ codes ";" ∷ codes "nettype" ∷ codes "int" ∷ nettype ∷ codes ";" ∷ l) (sym is.rest))

pub spelled_by : (pieces : List (List ℕ)) (top nettype : List ℕ) (found read : List ParsedItem) → IsName top → IsName nettype → pieces ≡ codes "module" ∷ top ∷ codes ";" ∷ codes "nettype" ∷ codes "int" ∷ nettype ∷ codes ";" ∷ drop 7 pieces → read ≡ found → items_tokens nettype (map item_of found) ≡ take (length pieces - 7) (drop 7 pieces) → IsSpelled pieces top nettype (map item_of read)
spelled_by pieces top nettype found read top_name type_name front same rest = record {
  top_name = top_name;
  type_name = type_name;
  front = front;
  rest = ap (λ l. items_tokens nettype (map item_of l)) same ∙ rest ∙ take_rest pieces 7;
}
