-- The processes of a design, which variables each uses, and the groups of those that share variables (this project's own). It
-- says nothing of what a process does.
use Rattle.std.specs.Prelude.{◌≡◌, ◌↔◌, ℕ, ◌+◌, ◌<◌, ◌==◌, Bool, false, List, [], ◌∷◌, ◌++◌, length, map, get_or, Contains}
use Rattle.std.specs.List.{flat_map, list_any, range_with_len}
use Rattle.std.specs.List.Sorted.{IsStrictlyIncreasing}
use Rattle.nt_design.specs.Reads.{act_reads, act_writes, reads_of, written_vars}
use Rattle.nt_design.specs.declared.design.Design.{Design}
use Rattle.nt_design.specs.declared.object.Object.{Object}
use Rattle.nt_design.specs.declared.object.Object.TheVariants.{Net as NetObject, Var}
use Rattle.nt_design.specs.declared.process.Assign.{Assign}
use Rattle.nt_design.specs.declared.process.Proc.{Proc}
use Rattle.nt_semantics.specs.declared.process.Process.{Process}
use Rattle.nt_semantics.specs.declared.process.Process.TheVariants.{Procedure, Assignment}

-- ---- processes
-- processes are numbered: first the procedures, then the assignments
abbrev pub processes : Design → List Process
processes d =
    map (λ p. Procedure p) (range_with_len 0 (length d.procs))
    ++ map (λ a. Assignment a) (range_with_len 0 (length d.assigns))

abbrev pub number_of : Design → Process → ℕ
number_of d (Procedure p) = p
number_of d (Assignment a) = length d.procs + a

abbrev pub is_same_process : Process → Process → Bool
is_same_process (Procedure p) (Procedure q) = p == q
is_same_process (Assignment a) (Assignment b) = a == b
is_same_process (Procedure p) (Assignment a) = false
is_same_process (Assignment a) (Procedure p) = false

abbrev pub is_among : List Process → Process → Bool
is_among xs x = list_any (is_same_process x) xs

-- ---- groups
-- the variables that processes use: what they read and what they write
abbrev pub var_in : Object → List ℕ
var_in (NetObject n) = []
var_in (Var v) = v ∷ []

abbrev pub used_by_proc : Proc → List ℕ
used_by_proc p = flat_map var_in (act_reads p.body) ++ act_writes p.body

abbrev pub used_by_assign : Assign → List ℕ
used_by_assign a = flat_map var_in (reads_of a.right) ++ written_vars a.target

abbrev pub used : Design → Process → List ℕ
used d (Procedure p) = get_or (map used_by_proc d.procs) p []
used d (Assignment a) = get_or (map used_by_assign d.assigns) a []

-- the least equivalence that joins two processes which use one variable
pub data Linked (d : Design) : Process → Process → Type 0 where
  Itself : {p : Process} → Linked d p p
  Share : {p q : Process} (v : ℕ) → Contains (used d p) v → Contains (used d q) v → Linked d p q
  Back : {p q : Process} → Linked d p q → Linked d q p
  Then : {p q r : Process} → Linked d p q → Linked d q r → Linked d p r

abbrev pub group_at : List (List Process) → ℕ → List Process
group_at groups k = get_or groups k []

-- the least number in a group
abbrev pub least_of : Design → List Process → ℕ
least_of d [] = 0
least_of d (p ∷ ps) = number_of d p

-- the groups of a design: the classes of that equivalence, each in number order, and in order of their least processes
pub record AreGroups (d : Design) (groups : List (List Process)) : Type 0 where
  pub all : (p : Process) → Contains (processes d) p → (k : ℕ) × Contains (group_at groups k) p
  pub none_else : (k : ℕ) (p : Process) → Contains (group_at groups k) p → Contains (processes d) p
  pub linked : (j k : ℕ) (p q : Process) → Contains (group_at groups j) p → Contains (group_at groups k) q → (j ≡ k) ↔ Linked d p q
  pub inside : (k : ℕ) → IsStrictlyIncreasing (map (number_of d) (group_at groups k))
  pub not_empty : (group : List Process) → Contains groups group → 0 < length group
  pub in_order : IsStrictlyIncreasing (map (least_of d) groups)
