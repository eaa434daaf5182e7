-- One call more in chains of calls.
use Rattle.std.proofs.Common.{◌≡◌, ℕ, zero, suc, Bool, true, false, List, [], ◌∷◌, ◌++◌, map, get_or, slice_get, refl, sym, ap, ◌∙◌}
use Rattle.std.specs.Prelude.{Option, Some, None, ◌||◌}
use Rattle.std.specs.List.{flat_map, list_any}
use Rattle.std.proofs.lemmas.List.Folds.{list_any-append}
use Rattle.nt_items.specs.declared.item.FunctionItem.{FunctionItem}
use Rattle.nt_types.specs.Units.{UnitScopes}
use Rattle.nt_uses.specs.declared.chains.Node.{Node}
use Rattle.nt_uses.specs.Functions.{uses_foreign, calls_of, if_there, uses_others, node_of, is_flagged, rounds}

or_false : (a : Bool) → (a || false) ≡ a
or_false true = refl
or_false false = refl

-- the flag of a function that is there
one_flag : (F : FunctionItem → Bool) (fs : List FunctionItem) (j : ℕ) → list_any F (if_there (slice_get fs j)) ≡ get_or (map F fs) j false
one_flag F [] j = refl
one_flag F (f ∷ fs) zero = or_false (F f)
one_flag F (f ∷ fs) (suc j) = one_flag F fs j

all_flags : (F : FunctionItem → Bool) (fs : List FunctionItem) (calls : List ℕ) → list_any F (flat_map (λ j. if_there (slice_get fs j)) calls) ≡ list_any (λ j. get_or (map F fs) j false) calls
all_flags F fs [] = refl
all_flags F fs (j ∷ js) =
    list_any-append F (if_there (slice_get fs j)) (flat_map (λ j. if_there (slice_get fs j)) js)
    ∙ ap (λ a. a || list_any F (flat_map (λ j. if_there (slice_get fs j)) js)) (one_flag F fs j)
    ∙ ap (λ b. get_or (map F fs) j false || b) (all_flags F fs js)

flag_more : (depth : ℕ) (s : UnitScopes) (fs : List FunctionItem) (f : FunctionItem) → is_flagged (map (uses_others depth s fs) fs) (node_of s fs f) ≡ uses_others (suc depth) s fs f
flag_more depth s fs f = ap (λ b. uses_foreign s f || b) (sym (all_flags (uses_others depth s fs) fs (calls_of s fs f)))

flags_over : (depth : ℕ) (s : UnitScopes) (fs gs : List FunctionItem) → map (is_flagged (map (uses_others depth s fs) fs)) (map (node_of s fs) gs) ≡ map (uses_others (suc depth) s fs) gs
flags_over depth s fs [] = refl
flags_over depth s fs (g ∷ gs) =
    ap (λ b. b ∷ map (is_flagged (map (uses_others depth s fs) fs)) (map (node_of s fs) gs)) (flag_more depth s fs g)
    ∙ ap (λ bs. uses_others (suc depth) s fs g ∷ bs) (flags_over depth s fs gs)

foreign_over : (s : UnitScopes) (fs gs : List FunctionItem) → map (λ (n : Node). n.foreign) (map (node_of s fs) gs) ≡ map (uses_others 0 s fs) gs
foreign_over s fs [] = refl
foreign_over s fs (g ∷ gs) = ap (λ bs. uses_foreign s g ∷ bs) (foreign_over s fs gs)

rounds_are : (depth : ℕ) (s : UnitScopes) (fs : List FunctionItem) → rounds depth (map (node_of s fs) fs) (map (λ (n : Node). n.foreign) (map (node_of s fs) fs)) ≡ map (uses_others depth s fs) fs
rounds_are zero s fs = foreign_over s fs fs
rounds_are (suc depth) s fs = ap (λ bs. map (is_flagged bs) (map (node_of s fs) fs)) (rounds_are depth s fs) ∙ flags_over depth s fs fs

pub flags_are : (depth : ℕ) (s : UnitScopes) (fs : List FunctionItem) (nodes : List Node) (first flags : List Bool) → nodes ≡ map (node_of s fs) fs → first ≡ map (λ (n : Node). n.foreign) nodes → flags ≡ rounds depth nodes first
    → flags ≡ map (uses_others depth s fs) fs
flags_are depth s fs nodes first flags e f g =
    g ∙ ap (λ bs. rounds depth nodes bs) f ∙ ap (λ ns. rounds depth ns (map (λ (n : Node). n.foreign) ns)) e ∙ rounds_are depth s fs
