-- A declaration more.
use Rattle.std.proofs.Common.{◌≡◌, ℕ, Bool, true, false, cond, List, [], ◌∷◌, ◌++◌, refl, sym, ap, ◌∙◌}
use Rattle.std.specs.Prelude.{Option, Some, is_some, if◌then◌else◌}
use Rattle.std.specs.Map.{lookup}
use Rattle.std.specs.Str.{bytes_eq}
use Rattle.indexmap.specs.IndexMap.{insert_entry}
use Rattle.nt_scopes.specs.declared.scope.Entry.{Entry}
use Rattle.nt_scopes.specs.Means.{added}

not_here : {V : Type 0} (b : Bool) (v : V) (o : Option V) → is_some (if b then Some v else o) ≡ false → (b ≡ false) × (is_some o ≡ false)
not_here true v o h = cc
not_here false v o h = (refl, h)

insert_new : {V : Type 0} (eq : List ℕ → List ℕ → Bool) (k : List ℕ) (v : V) (es : List (List ℕ × V)) → is_some (lookup (eq k) es) ≡ false → insert_entry eq es k v ≡ es ++ (k, v) ∷ []
insert_new eq k v [] h = refl
insert_new eq k v (e ∷ es) h =
    let p = not_here (eq k e.0) e.1 (lookup (eq k) es) h in
    ap (λ b. cond b ((e.0, v) ∷ es) (e ∷ insert_entry eq es k v)) p.0 ∙ ap (λ fs. e ∷ fs) (insert_new eq k v es p.1)

pub added_new : (es fs : List (List ℕ × Entry)) (k : List ℕ) (e : Entry) → fs ≡ insert_entry bytes_eq es k e → is_some (lookup (bytes_eq k) es) ≡ false → fs ≡ added es k e
added_new es fs k e is h = is ∙ insert_new bytes_eq k e es h ∙ sym (ap (λ b. cond b es (es ++ (k, e) ∷ [])) h)
