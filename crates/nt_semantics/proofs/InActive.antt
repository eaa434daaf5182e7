-- An event that isn't pending has no step.
use Rattle.std.proofs.Common.{◌≡◌, ℕ, Bool, true, false, ◌&&◌, nat_lt, List, [], ◌∷◌, length, refl}
use Rattle.std.specs.Prelude.{Option, Some, None, slice_get, option_and_then}
use Rattle.std.proofs.lemmas.Bool.{ltb-false}
use Rattle.std.proofs.lemmas.Option.{slice_get_past}
use Rattle.nt_design.specs.declared.design.Design.{Design}
use Rattle.nt_design.specs.declared.object.Net.{Net}
use Rattle.nt_semantics.specs.Laws.{OnlyPending}
use Rattle.nt_semantics.specs.State.{MachineState, standing_at, work_at, count_at}
use Rattle.nt_semantics.specs.declared.work.Work.{Work}
use Rattle.nt_semantics.specs.Step.{step, is_pending, is_pending_at, only_if, proc_step, update_step, resolve_step, assign_step, is_some_work, is_some_put, is_order_of}
use Rattle.nt_design.specs.declared.put.Put.{Put}
use Rattle.nt_semantics.specs.declared.event.Event.TheVariants.{Stmt, Assign as AssignEvent, Update, Resolve}

true_false : true ≡ false → ⊥
true_false h = cc

no_item : (d : Design) (p : ℕ) (s : MachineState) (is : Bool) (items : List Work) → (is && is_some_work items) ≡ false → only_if is (proc_step d p s items) ≡ None
no_item d p s false items h = refl
no_item d p s true [] h = refl
no_item d p s true (i ∷ items) h = absurd (true_false h)

past : {A : Type 0} (xs : List A) (i : ℕ) → nat_lt i (length xs) ≡ false → slice_get xs i ≡ None
past xs i h = slice_get_past xs i (ltb-false i (length xs) h)

no_one : {A : Type 0} (is : Bool) (go : A → Option MachineState) (xs : List A) (i : ℕ) → (is && nat_lt i (length xs)) ≡ false → only_if is (option_and_then go (slice_get xs i)) ≡ None
no_one false go xs i h = refl
no_one true go xs i h = rw (past xs i h) refl

no_update : (d : Design) (s : MachineState) (puts : List Put) → is_some_put puts ≡ false → update_step d s puts ≡ None
no_update d s [] h = refl
no_update d s (put ∷ puts) h = absurd (true_false h)

no_net : (d : Design) (n : ℕ) (order : List ℕ) (s : MachineState) (is : Bool) (net : Option Net) → (is && is_order_of net order) ≡ false → only_if is (option_and_then (resolve_step d n order s) net) ≡ None
no_net d n order s false net h = refl
no_net d n order s true None h = refl
no_net d n order s true (Some net) h = rw h refl

pub only_pending : OnlyPending
unfolding step is_pending
only_pending d s (Stmt p) h = no_item d p s (is_pending_at s (standing_at s p)) (work_at s p) h
only_pending d s (AssignEvent a) h =
    no_one (nat_lt 0 (count_at s.evaluations a)) (assign_step d a s) d.assigns a h
only_pending d s Update h = no_update d s s.moved h
only_pending d s (Resolve n order) h =
    no_net d n order s (nat_lt 0 (count_at s.resolutions n)) (slice_get d.nets n) h
