-- A table grows with the items.
use Rattle.std.proofs.Common.{◌≡◌, ◌≢◌, inl, inr, ◌⊎◌, take, add-one, get_or, codes, option_to_list, ℕ, zero, suc, ◌+◌, ◌<◌, ◌≤◌, List, [], ◌∷◌, ◌++◌, length, map, set, Option, Some, None, slice_get, option_map, unwrap_or, refl, sym, ◌∙◌, ap, subst, arith}
use Rattle.std.specs.List.{Contains, flat_map}
use Rattle.std.proofs.lemmas.List.{append-nil, map_push, length-map}
use Rattle.std.proofs.lemmas.List.Elements.{Contains-append_left, Contains-append_right, Contains-push_cases}
use Rattle.std.proofs.Math.Seq.{take-suc}
use Rattle.std.proofs.lemmas.Grind.{flat_map-append}
use Rattle.std.proofs.lemmas.Option.{slice_get-map, slice_get-get_or, slice_get_within, get_or_from_slice_get}
use Rattle.nt_design.specs.declared.object.Net.{Net}
use Rattle.nt_design.specs.declared.object.NetKind.TheVariants.{Unresolved}
use Rattle.nt_design.specs.declared.target.Target.TheVariants.{Slot}
use Rattle.nt_design.specs.declared.tree.Tree.TheVariants.{Const}
use Rattle.nt_small.specs.Grammar.{Item, Declare, Drive, declared_by, driven_by, declared_nets, driven_nets, IsAllowed, AreAllowed, IsName, IsNumber}
use Rattle.nt_small.specs.Elaboration.{position_of, assigns_of_item, assign_of_drive, number_of_digits, int_value, int_leaf, net_of_name, file_start}
use Rattle.nt_small.specs.Tables.{Distinct, AreSound, IsTable, drivers_of}
use Rattle.nt_small.specs.declared.table.Table.{Table}
use Rattle.nt_small.proofs.Positions.{Distinct-push, Contains-from_at}
use Rattle.nt_small.proofs.Naming.{at_position, no_position, position_none, position_there, position-append, position-push_other, position-push_same}

some_same : {X : Type 0} (x y : X) → Some x ≡ Some y → x ≡ y
some_same x y h = cc

none_is : {X : Type 0} (o p : Option X) → Some o ≡ Some p → o ≡ p
none_is o p h = cc

-- a flat_map over one more item
flat_map_more_item : {A : Type 0} (f : Item → List A) (done : List Item) (item : Item) (more : List A) → f item ≡ more → flat_map f (done ++ item ∷ []) ≡ flat_map f done ++ more
flat_map_more_item f done item more is =
    flat_map-append f done (item ∷ []) ∙ ap (λ l. flat_map f done ++ l) (append-nil (f item) ∙ is)

flat_map_same_item : {A : Type 0} (f : Item → List A) (done : List Item) (item : Item) → f item ≡ [] → flat_map f (done ++ item ∷ []) ≡ flat_map f done
flat_map_same_item f done item is =
    flat_map_more_item f done item [] is ∙ append-nil (flat_map f done)

-- an equal list
along : {X : Type 0} (xs ys : List X) (x : X) → xs ≡ ys → Contains xs x → Contains ys x
along xs ys x is there = subst (λ l. Contains l x) is there

declared_sound : (done : List Item) (net : List ℕ) → AreSound done → (Contains (declared_nets done) net → ⊥) → AreSound (done ++ Declare net ∷ [])
declared_sound done net sound new =
    let more : declared_nets (done ++ Declare net ∷ []) ≡ declared_nets done ++ net ∷ [] = flat_map_more_item declared_by done (Declare net) (net ∷ []) refl in
    let same : driven_nets (done ++ Declare net ∷ []) ≡ driven_nets done = flat_map_same_item driven_by done (Declare net) refl in
    record {
      declared = subst Distinct (sym more) (Distinct-push (declared_nets done) net sound.declared (λ k at. new (Contains-from_at (declared_nets done) k net at)));
      driven = subst Distinct (sym same) sound.driven;
      listed = λ x there. along _ _ x (sym more) (Contains-append_left (declared_nets done) (net ∷ []) x (sound.listed x (along _ _ x same there)));
    }

driven_sound : (done : List Item) (net digits : List ℕ) → AreSound done → Contains (declared_nets done) net → (Contains (driven_nets done) net → ⊥) → AreSound (done ++ Drive net digits ∷ [])
driven_sound done net digits sound known new =
    let same : declared_nets (done ++ Drive net digits ∷ []) ≡ declared_nets done = flat_map_same_item declared_by done (Drive net digits) refl in
    let more : driven_nets (done ++ Drive net digits ∷ []) ≡ driven_nets done ++ net ∷ [] = flat_map_more_item driven_by done (Drive net digits) (net ∷ []) refl in
    record {
      declared = subst Distinct (sym same) sound.declared;
      driven = subst Distinct (sym more) (Distinct-push (driven_nets done) net sound.driven (λ k at. new (Contains-from_at (driven_nets done) k net at)));
      listed = λ x there. along _ _ x (sym same) (elim (Contains-push_cases (driven_nets done) net x (along _ _ x more there)) [
        | inl old ↦ sound.listed x old
        | inr is ↦ subst (λ y. Contains (declared_nets done) y) is known
      ]);
    }

-- assignments to declared nets stay as they are while more nets are declared
assigns_stay : (names more : List (List ℕ)) (items : List Item) → ((net : List ℕ) → Contains (driven_nets items) net → Contains names net) → flat_map (assigns_of_item (names ++ more)) items ≡ flat_map (assigns_of_item names) items
assigns_stay names more [] known = refl
assigns_stay names more (Declare net ∷ items) known = assigns_stay names more items known
assigns_stay names more (Drive net digits ∷ items) known =
    let here = position_there net names (known net (Contains-append_left (net ∷ []) (driven_nets items) net (0, omega arith, refl))) in
    let same : position_of net (names ++ more) ≡ position_of net names = position-append net names more here.0 here.1 ∙ sym here.1 in
    ap (λ o. record { target = Slot (unwrap_or o 0) 0 0 0; right = Const (int_value (number_of_digits digits)); reads = []; at = file_start } ∷ flat_map (assigns_of_item (names ++ more)) items) same ∙ ap (λ l. assign_of_drive names net digits ∷ l) (assigns_stay names more items (λ x there. known x (Contains-append_right (net ∷ []) (driven_nets items) x there)))

pub length-assigns : (names : List (List ℕ)) (items : List Item) → length (flat_map (assigns_of_item names) items) ≡ length (driven_nets items)
length-assigns names [] = refl
length-assigns names (Declare net ∷ items) = length-assigns names items
length-assigns names (Drive net digits ∷ items) = ap suc (length-assigns names items)

pub declared_table : (old new : Table) (done : List Item) (net : List ℕ) → IsTable old done → position_of net old.names ≡ None → new.names ≡ old.names ++ net ∷ [] → new.drivers ≡ old.drivers ++ None ∷ [] → new.assigns ≡ old.assigns → IsTable new (done ++ Declare net ∷ [])
declared_table old new done net is absent names drivers assigns =
    let more : declared_nets (done ++ Declare net ∷ []) ≡ declared_nets done ++ net ∷ [] = flat_map_more_item declared_by done (Declare net) (net ∷ []) refl in
    let same : driven_nets (done ++ Declare net ∷ []) ≡ driven_nets done = flat_map_same_item driven_by done (Declare net) refl in
    let unknown : Contains (declared_nets done) net → ⊥ = no_position net (declared_nets done) (sym (ap (position_of net) is.names) ∙ absent) in
    let free : position_of net (driven_nets done) ≡ None = position_none net (driven_nets done) (λ there. unknown (is.sound.listed net there)) in
    record {
      names = names ∙ ap (λ l. l ++ net ∷ []) is.names ∙ sym more;
      drivers = drivers ∙ ap (λ l. l ++ None ∷ []) is.drivers ∙ ap (λ o. drivers_of (driven_nets done) (declared_nets done) ++ o ∷ []) (sym free) ∙ sym (map_push (λ name. position_of name (driven_nets done)) (declared_nets done) net) ∙ ap (drivers_of (driven_nets done)) (sym more) ∙ ap (λ r. drivers_of r (declared_nets (done ++ Declare net ∷ []))) (sym same);
      assigns = assigns ∙ is.assigns ∙ sym (assigns_stay (declared_nets done) (net ∷ []) done is.sound.listed) ∙ sym (flat_map_same_item (assigns_of_item (declared_nets done ++ net ∷ [])) done (Declare net) refl) ∙ ap (λ l. flat_map (assigns_of_item l) (done ++ Declare net ∷ [])) (sym more);
      sound = declared_sound done net is.sound unknown;
    }

module _ {X Y : Type 0} (f g : X → Y) where
  map_same : (ys : List X) → ((k : ℕ) (w : X) → slice_get ys k ≡ Some w → g w ≡ f w) → map f ys ≡ map g ys
  map_same [] same = refl
  map_same (w ∷ ys) same = ap (λ v. v ∷ map f ys) (sym (same 0 w refl)) ∙ ap (λ l. g w ∷ l) (map_same ys (λ k v there. same (suc k) v there))

  -- a write at the only place where two functions differ
  set_map : (xs : List X) (i : ℕ) (x : X) (y : Y) → slice_get xs i ≡ Some x → g x ≡ y → ((k : ℕ) (z : X) → slice_get xs k ≡ Some z → (k ≡ i → ⊥) → g z ≡ f z) → set (map f xs) i y ≡ map g xs
  set_map [] i x y at here others = refl
  set_map (z ∷ xs) zero x y at here others =
      let is : z ≡ x = cc in
      ap (λ w. w ∷ map f xs) (sym here ∙ ap g (sym is)) ∙ ap (λ l. g z ∷ l) (map_same xs (λ k w there. others (suc k) w there (λ e. omega (arith, e))))
  set_map (z ∷ xs) (suc i) x y at here others =
      ap (λ w. w ∷ set (map f xs) i y) (sym (others 0 z refl (λ e. omega (arith, e)))) ∙ ap (λ l. g z ∷ l) (set_map xs i x y at here (λ k w there differ. others (suc k) w there (λ e. differ (omega (arith, e)))))

-- the driver that a table holds
driver_is : (table : Table) (done : List Item) (net : List ℕ) (at : ℕ) → IsTable table done → slice_get (declared_nets done) at ≡ Some net → slice_get table.drivers at ≡ Some (position_of net (driven_nets done))
driver_is table done net at is there =
    ap (λ l. slice_get l at) is.drivers ∙ slice_get-map (λ name. position_of name (driven_nets done)) (declared_nets done) at ∙ ap (option_map (λ name. position_of name (driven_nets done))) there

pub driven_table : (old new : Table) (done : List Item) (net digits : List ℕ) (at : ℕ) → IsTable old done → position_of net old.names ≡ Some at → slice_get old.drivers at ≡ Some None → new.names ≡ old.names → new.drivers ≡ set old.drivers at (Some (length old.assigns)) → new.assigns ≡ old.assigns ++ record { target = Slot at 0 0 0; right = Const (int_value (number_of_digits digits)); reads = []; at = file_start } ∷ [] → IsTable new (done ++ Drive net digits ∷ [])
driven_table old new done net digits at is found free names drivers assigns =
    let same : declared_nets (done ++ Drive net digits ∷ []) ≡ declared_nets done = flat_map_same_item declared_by done (Drive net digits) refl in
    let more : driven_nets (done ++ Drive net digits ∷ []) ≡ driven_nets done ++ net ∷ [] = flat_map_more_item driven_by done (Drive net digits) (net ∷ []) refl in
    let place : position_of net (declared_nets done) ≡ Some at = sym (ap (position_of net) is.names) ∙ found in
    let there : slice_get (declared_nets done) at ≡ Some net = at_position net (declared_nets done) at place in
    let undriven : position_of net (driven_nets done) ≡ None = none_is _ _ (sym (driver_is old done net at is there) ∙ free) in
    let count : Some (length old.assigns) ≡ Some (length (driven_nets done)) = ap (λ l. Some (length l)) is.assigns ∙ ap Some (length-assigns (declared_nets done) done) in
    let other : (k : ℕ) (z : List ℕ) → slice_get (declared_nets done) k ≡ Some z → (k ≡ at → ⊥) → position_of z (driven_nets done ++ net ∷ []) ≡ position_of z (driven_nets done) = λ k z here differ. position-push_other z net (driven_nets done) (λ e. differ (is.sound.declared k at net (here ∙ ap Some e) there)) in
    record {
      names = names ∙ is.names ∙ sym same;
      drivers = drivers ∙ ap (λ l. set l at (Some (length old.assigns))) is.drivers ∙ ap (λ o. set (drivers_of (driven_nets done) (declared_nets done)) at o) count ∙ set_map (λ name. position_of name (driven_nets done)) (λ name. position_of name (driven_nets done ++ net ∷ [])) (declared_nets done) at net (Some (length (driven_nets done))) there (position-push_same net (driven_nets done) undriven) other ∙ ap (λ l. drivers_of l (declared_nets done)) (sym more) ∙ ap (drivers_of (driven_nets (done ++ Drive net digits ∷ []))) (sym same);
      assigns = assigns ∙ ap (λ l. l ++ record { target = Slot at 0 0 0; right = Const (int_value (number_of_digits digits)); reads = []; at = file_start } ∷ []) is.assigns ∙ ap (λ o. flat_map (assigns_of_item (declared_nets done)) done ++ record { target = Slot (unwrap_or o 0) 0 0 0; right = Const (int_value (number_of_digits digits)); reads = []; at = file_start } ∷ []) (sym place) ∙ sym (flat_map_more_item (assigns_of_item (declared_nets done)) done (Drive net digits) (assign_of_drive (declared_nets done) net digits ∷ []) refl) ∙ ap (λ l. flat_map (assigns_of_item l) (done ++ Drive net digits ∷ [])) (sym same);
      sound = driven_sound done net digits is.sound (Contains-from_at (declared_nets done) at net there) (no_position net (driven_nets done) undriven);
    }

-- the first items are allowed and have been gathered
pub record Gathered (nettype : List ℕ) (table : Table) (items : List Item) (n : ℕ) : Type 0 where
  pub table_is : IsTable table (take n items)
  pub allowed : (at : ℕ) (item : Item) → at < n → slice_get items at ≡ Some item → IsAllowed nettype (take at items) item

pub may_declare : (table : Table) (done : List Item) (nettype net : List ℕ) → IsTable table done → IsAllowed nettype done (Declare net) → IsName net × (net ≢ nettype) × (position_of net table.names ≡ None)
may_declare table done nettype net is allowed =
    (allowed.0, allowed.1, ap (position_of net) is.names ∙ position_none net (declared_nets done) allowed.2)

pub is_declarable : (table : Table) (done : List Item) (nettype net : List ℕ) → IsTable table done → IsName net × (net ≢ nettype) × (position_of net table.names ≡ None) → IsAllowed nettype done (Declare net)
is_declarable table done nettype net is new =
    (new.0, new.1, no_position net (declared_nets done) (sym (ap (position_of net) is.names) ∙ new.2))

pub may_drive : (table : Table) (done : List Item) (nettype net digits : List ℕ) → IsTable table done → IsAllowed nettype done (Drive net digits) → (at : ℕ) × (position_of net table.names ≡ Some at) × (slice_get table.drivers at ≡ Some None)
may_drive table done nettype net digits is allowed =
    let there = position_there net (declared_nets done) allowed.0 in
    (there.0, ap (position_of net) is.names ∙ there.1, driver_is table done net there.0 is (at_position net (declared_nets done) there.0 there.1) ∙ ap Some (position_none net (driven_nets done) allowed.1))

pub is_drivable : (table : Table) (done : List Item) (nettype net digits : List ℕ) (at : ℕ) → IsTable table done → position_of net table.names ≡ Some at → slice_get table.drivers at ≡ Some None → IsNumber digits → IsAllowed nettype done (Drive net digits)
is_drivable table done nettype net digits at is found free number =
    let there : slice_get (declared_nets done) at ≡ Some net = at_position net (declared_nets done) at (sym (ap (position_of net) is.names) ∙ found) in
    (Contains-from_at (declared_nets done) at net there, no_position net (driven_nets done) (none_is _ _ (sym (driver_is table done net at is there) ∙ free)), number)

-- how many nets and assignments there are at most
pub length-declared : (items : List Item) → length (declared_nets items) ≤ length items
length-declared [] = omega arith
length-declared (Declare net ∷ items) = omega (arith, length-declared items)
length-declared (Drive net digits ∷ items) = omega (arith, length-declared items)

pub length-driven : (items : List Item) → length (driven_nets items) ≤ length items
length-driven [] = omega arith
length-driven (Declare net ∷ items) = omega (arith, length-driven items)
length-driven (Drive net digits ∷ items) = omega (arith, length-driven items)

pub columns : (table : Table) (done : List Item) → IsTable table done → length table.drivers ≡ length table.names
columns table done is =
    ap length is.drivers ∙ length-map (declared_nets done) (λ name. position_of name (driven_nets done)) ∙ sym (ap length is.names)

pub few_columns : (table : Table) (done : List Item) (n : ℕ) → IsTable table done → length done ≤ n → (length table.drivers ≤ n) × (length table.assigns ≤ n)
few_columns table done n is few =
    (omega (arith, few, columns table done is, ap length is.names, length-declared done), omega (arith, few, ap length is.assigns, length-assigns (declared_nets done) done, length-driven done))

pub take_at : {X : Type 0} (items : List X) (n : ℕ) (item : X) → slice_get items n ≡ Some item → take (n + 1) items ≡ take n items ++ item ∷ []
take_at items n item at =
    rw add-one
    (take-suc items n item (slice_get_within items n item at) ∙ ap (λ i. take n items ++ i ∷ []) (get_or_from_slice_get items n item item at))

pub one_gathered : (nettype : List ℕ) (old new : Table) (items : List Item) (n : ℕ) (item : Item) → slice_get items n ≡ Some item → Gathered nettype old items n → IsAllowed nettype (take n items) item × IsTable new (take n items ++ item ∷ []) → Gathered nettype new items (n + 1)
one_gathered nettype old new items n item at so_far more = record {
  table_is = subst (λ l. IsTable new l) (sym (take_at items n item at)) more.1;
  allowed = λ k other below there. cases k other there (less k below);
}
  where
    less : (k : ℕ) → k < n + 1 → (k < n) ⊎ (k ≡ n)
    less k below = search (arith, below)

    cases : (k : ℕ) (other : Item) → slice_get items k ≡ Some other → (k < n) ⊎ (k ≡ n) → IsAllowed nettype (take k items) other
    cases k other there (inl before) = so_far.allowed k other before there
    cases k other there (inr last) =
        let e : item ≡ other = some_same _ _ (sym at ∙ ap (slice_get items) (sym last) ∙ there) in
        subst (λ i. IsAllowed nettype (take k items) i) e (subst (λ m. IsAllowed nettype (take m items) item) (sym last) more.0)

length_taken : {X : Type 0} (n : ℕ) (xs : List X) → length (take n xs) ≤ length xs
length_taken zero xs = omega arith
length_taken (suc n) [] = omega arith
length_taken (suc n) (x ∷ xs) = omega (arith, length_taken n xs)

pub few_gathered : (nettype : List ℕ) (table : Table) (items : List Item) (n m : ℕ) → Gathered nettype table items n → length items ≤ m → (length table.drivers ≤ m) × (length table.assigns ≤ m)
few_gathered nettype table items n m so_far few =
    few_columns table (take n items) m so_far.table_is (omega (arith, few, length_taken n items))

take_all : {X : Type 0} (xs : List X) (n : ℕ) → length xs ≤ n → take n xs ≡ xs
take_all [] zero h = refl
take_all [] (suc n) h = refl
take_all (x ∷ xs) zero h = absurd (omega (arith, h))
take_all (x ∷ xs) (suc n) h = ap (λ l. x ∷ l) (take_all xs n (omega (arith, h)))

pub all_gathered : (nettype : List ℕ) (table : Table) (items : List Item) (n : ℕ) → length items ≤ n → Gathered nettype table items n → AreAllowed nettype items × IsTable table items
all_gathered nettype table items n all so_far =
    (λ at item there. so_far.allowed at item (let within = slice_get_within items at item there in omega (arith, within, all)) there, subst (λ l. IsTable table l) (take_all items n all) so_far.table_is)

-- an element of a map, where its source is read
pub mapped_at : {X Y : Type 0} (f : X → Y) (xs : List X) (i : ℕ) (d : X) → i < length xs → slice_get (map f xs) i ≡ Some (f (get_or xs i d))
mapped_at f xs i d h = slice_get-map f xs i ∙ ap (option_map f) (slice_get-get_or xs i d h)

-- one more net of a table
pub one_more_net : (top : List ℕ) (driven : List (List ℕ)) (names : List (List ℕ)) (drivers : List (Option ℕ)) (i : ℕ) (name : List ℕ) (driver : Option ℕ) (old new : List Net) (net : Net) → slice_get names i ≡ Some name → slice_get drivers i ≡ Some driver → drivers ≡ drivers_of driven names → net ≡ record { name = top ++ (codes "." ++ name); shape = int_leaf ∷ []; kind = Unresolved; slots = option_to_list driver; at = file_start } → old ≡ map (net_of_name top driven) (take i names) → new ≡ old ++ net ∷ [] → new ≡ map (net_of_name top driven) (take (i + 1) names)
one_more_net top driven names drivers i name driver old new net at there is net_is so_far more =
    let same : driver ≡ position_of name driven = some_same _ _ (sym there ∙ ap (λ l. slice_get l i) is ∙ slice_get-map (λ n. position_of n driven) names i ∙ ap (option_map (λ n. position_of n driven)) at) in
    more ∙ ap (λ l. l ++ net ∷ []) so_far ∙ ap (λ n. map (net_of_name top driven) (take i names) ++ n ∷ []) (net_is ∙ ap (λ o. record { name = top ++ (codes "." ++ name); shape = int_leaf ∷ []; kind = Unresolved; slots = option_to_list o; at = file_start }) same) ∙ sym (map_push (net_of_name top driven) (take i names) name) ∙ ap (map (net_of_name top driven)) (sym (take_at names i name at))
