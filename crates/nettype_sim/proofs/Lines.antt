-- The lines of a slot, one net more, and the text of a slot of nets.
use Rattle.std.proofs.Common.{◌≡◌, ℕ, zero, suc, ◌+◌, ◌<◌, not, if◌then◌else◌, List, [], ◌∷◌, ◌++◌, length, get_or, slice_get, map, filter, Some, None, refl, sym, ◌∙◌, ap, arith, append_assoc, append-nil, codes, decimal, ne_eqb}
use Rattle.std.specs.List.{flat_map, range_with_len}
use Rattle.std.proofs.lemmas.Grind.{flat_map-append}
use Rattle.std.proofs.lemmas.Option.{get_or_from_slice_get, slice_get-get_or, slice_get-map}
use Rattle.std.specs.Prelude.{option_map}
use Rattle.nt_value.specs.Texts.{value_text}
use Rattle.nt_design.specs.Parts.{Value}
use Rattle.nt_design.specs.Plain.{IsPlain}
use Rattle.nt_design.specs.declared.design.Design.{Design}
use Rattle.nt_design.specs.declared.object.Net.{Net}
use Rattle.nt_design.specs.declared.object.Object.TheVariants as object
use Rattle.nt_semantics.specs.Execution.{Observation, observation_of}
use Rattle.nt_machine.specs.Plain.{IsPlainState}
use Rattle.nt_semantics.specs.Same.{is_same_object}
use Rattle.nt_semantics.specs.State.{MachineState}
use Rattle.nt_semantics.specs.Texts.{object_line, first_of_each, objects_of, displayed_line, slot_text}
use Rattle.nettype_sim.specs.Nets.{first_nets, net_lines}
use Rattle.nettype_sim.proofs.Steps.{range_from_0}

map_append : {X Y : Type 0} (f : X → Y) (xs ys : List X) → map f (xs ++ ys) ≡ map f xs ++ map f ys
map_append f [] ys = refl
map_append f (x ∷ xs) ys = ap (λ l. f x ∷ l) (map_append f xs ys)

more_nets : (n : ℕ) → first_nets (suc n) ≡ first_nets n ++ object.Net n ∷ []
more_nets n =
    ap (map (λ k. object.Net k)) (range_from_0 n) ∙ map_append (λ k. object.Net k) (range_with_len 0 n) (n ∷ [])

more_lines : (d : Design) (seen : Observation) (n : ℕ) → net_lines d seen (suc n) ≡ net_lines d seen n ++ object_line d seen (object.Net n)
more_lines d seen n =
    ap (flat_map (object_line d seen)) (more_nets n)
    ∙ flat_map-append (object_line d seen) (first_nets n) (object.Net n ∷ [])
    ∙ ap (λ l. net_lines d seen n ++ l) (append-nil (object_line d seen (object.Net n)))

-- the line of a net, by its name and its value
line_is : (d : Design) (seen : Observation) (n : ℕ) (net : Net) (value : Value) → slice_get d.nets n ≡ Some net → slice_get seen.nets n ≡ Some value → object_line d seen (object.Net n) ≡ net.name ++ (codes " = " ++ (value_text value ++ (10 ∷ [])))
line_is d seen n net value here there =
    let name = get_or_from_slice_get (map (λ (x : Net). x.name) d.nets) n net.name [] (slice_get-map (λ (x : Net). x.name) d.nets n ∙ ap (option_map (λ (x : Net). x.name)) here) in
    let shown = get_or_from_slice_get seen.nets n value [] there in
    λ i. name i ++ (codes " = " ++ (value_text (shown i) ++ (10 ∷ [])))

pub lines_more : (d : Design) (seen : Observation) (n : ℕ) (net : Net) (value : Value) (old out new : List ℕ) → n < length d.nets → net ≡ get_or d.nets n net → slice_get seen.nets n ≡ Some value → out ≡ old ++ net_lines d seen n → new ≡ out ++ (net.name ++ (codes " = " ++ (value_text value ++ (10 ∷ [])))) → new ≡ old ++ net_lines d seen (n + 1)
lines_more d seen n net value old out new within is there so_far more =
    let here : slice_get d.nets n ≡ Some net = slice_get-get_or d.nets n net within ∙ ap (λ (x : Net). Some x) (sym is) in
    more
    ∙ (λ i. so_far i ++ sym (line_is d seen n net value here there) i)
    ∙ append_assoc old (net_lines d seen n) (object_line d seen (object.Net n))
    ∙ ap (λ (l : List ℕ). old ++ l) (sym (more_lines d seen n))
    ∙ ap (λ k. old ++ net_lines d seen k) one_more
  where
    one_more : suc n ≡ n + 1
    one_more = omega arith

-- ---- the objects of a design of nets
kept_all : (x a m : ℕ) → x < a → filter (λ p. not (is_same_object (object.Net x) p)) (map (λ k. object.Net k) (range_with_len a m)) ≡ map (λ k. object.Net k) (range_with_len a m)
kept_all x a zero h = refl
kept_all x a (suc m) h =
    ap (λ b. if not b then object.Net a ∷ filter (λ p. not (is_same_object (object.Net x) p)) (map (λ k. object.Net k) (range_with_len (a + 1) m)) else filter (λ p. not (is_same_object (object.Net x) p)) (map (λ k. object.Net k) (range_with_len (a + 1) m))) (ne_eqb x a (λ e. omega (arith, h, e)))
    ∙ ap (λ l. object.Net a ∷ l) (kept_all x (a + 1) m (omega (arith, h)))

each_first : (a m : ℕ) → first_of_each (map (λ k. object.Net k) (range_with_len a m)) ≡ map (λ k. object.Net k) (range_with_len a m)
each_first a zero = refl
each_first a (suc m) =
    ap (λ l. object.Net a ∷ filter (λ p. not (is_same_object (object.Net a) p)) l) (each_first (a + 1) m) ∙ ap (λ l. object.Net a ∷ l) (kept_all a (a + 1) m (omega arith))

objects_are : (d : Design) → IsPlain d → objects_of d ≡ first_nets (length d.nets)
objects_are d plain = ap first_of_each plain.named ∙ each_first 0 (length d.nets)

-- the text of a slot of nets
pub slot_is : (d : Design) (s : MachineState) (moment : ℕ) (old middle new : List ℕ) → IsPlain d → IsPlainState s → moment ≡ s.moment → middle ≡ old ++ (35 ∷ (decimal moment ++ (10 ∷ []))) → new ≡ middle ++ net_lines d (observation_of s) (length d.nets) → new ≡ old ++ slot_text d None (observation_of s)
slot_is d s moment old middle new plain still same first second =
    second
    ∙ (λ i. first i ++ net_lines d (observation_of s) (length d.nets))
    ∙ append_assoc old (35 ∷ (decimal moment ++ (10 ∷ []))) (net_lines d (observation_of s) (length d.nets))
    ∙ ap (λ l. old ++ (35 ∷ l)) (append_assoc (decimal moment) (10 ∷ []) (net_lines d (observation_of s) (length d.nets)))
    ∙ (λ i. old ++ (35 ∷ (decimal (same i) ++ (10 ∷ (flat_map displayed_line (map (λ line. line.1) (sym still.shown i)) ++ flat_map (object_line d (observation_of s)) (sym (objects_are d plain) i))))))
