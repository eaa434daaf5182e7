-- Declarations judged one after the other.
use Rattle.std.proofs.Common.{◌≡◌, ℕ, ◌+◌, ◌<◌, ◌≤◌, List, [], ◌∷◌, ◌++◌, length, take, get_or, sym, ap, ◌∙◌, subst}
use Rattle.std.specs.Prelude.{Ok, Err}
use Rattle.nt_diag.specs.declared.refusal.Refusal.{Refusal}
use Rattle.nt_diag.specs.declared.refusal.Fault.{Fault as Failure}
use Rattle.nt_diag.specs.declared.refusal.Fault.TheVariants as failure
use Rattle.nt_ast.specs.declared.types.TypeTree.{TypeTree}
use Rattle.nt_const.specs.Rules.{Names}
use Rattle.nt_const.specs.Tables.{Known}
use Rattle.nt_kinds.specs.declared.kind.Kind.{Kind}
use Rattle.nt_kinds.specs.Kinds.{IsSmall, IsSound}
use Rattle.nt_type_trees.specs.declared.seen.TypeSeen.{TypeSeen}
use Rattle.nt_type_trees.specs.declared.seen.TypeSeen.TheVariants as seen
use Rattle.nt_type_trees.specs.Tells.{DeclaredTells}
use Rattle.nt_type_trees.specs.Types.{Dim, Types, IsType, IsDeclared, declared}
use Rattle.nt_types.specs.declared.parts.What.{What}
use Rattle.nt_types.specs.declared.parts.What.TheVariants as what
use Rattle.nt_types.specs.Units.{UnitScopes}
use Rattle.nt_types.specs.Looks.{seen_at}
use Rattle.nt_types.proofs.Adding.{take_more, take_whole}
use Rattle.nt_named_types.specs.Judged.{types_at, IsJudged, a_type, a_fault, IsAdded, AreJudged, more}

pub declared_small : {k : Names} {ts : Types} {t : TypeTree} {dims : List Dim} {x : Kind} → IsDeclared k ts t dims x → IsSmall x
declared_small (declared a b s) = s

pub declared_type : {k : Names} {ts : Types} {t : TypeTree} {dims : List Dim} {x : Kind} → IsDeclared k ts t dims x → IsSound x → IsType x
declared_type d s = record { small = declared_small d; valid = s.valid }

pub judged_more : {s : UnitScopes} {known : Known} {table : List TypeSeen} {x : TypeSeen} (ws : List What) (i : ℕ) (w : What) → i < length ws → w ≡ get_or ws i w → AreJudged s known (take i ws) table → IsJudged s known table w x
    → AreJudged s known (take (i + 1) ws) (table ++ x ∷ [])
judged_more {s = s} {known = known} {table = table} {x = x} ws i w lt at all one = subst (λ us. AreJudged s known us (table ++ x ∷ [])) (sym (take_more ws i w lt at)) (more all one)

pub judged_whole : {s : UnitScopes} {known : Known} {table : List TypeSeen} (ws : List What) (i : ℕ) → length ws ≤ i → AreJudged s known (take i ws) table → AreJudged s known ws table
judged_whole {s = s} {known = known} {table = table} ws i le all = subst (λ us. AreJudged s known us table) (take_whole ws i le) all

-- ---- what is told of a declared type
pub type_judged : {s : UnitScopes} {known : Known} {table : List TypeSeen} {w : What} {of t : TypeTree} {dims ds : List Dim} {x : Kind} → w ≡ what.Type of dims → t ≡ of → ds ≡ dims
    → DeclaredTells (seen_at s known) (types_at s table) t ds (Ok x) → IsJudged s known table w (seen.Known x)
type_judged {s = s} {known = known} {table = table} {t = t} {dims = dims} {ds = ds} {x = x} e f g told =
    subst (λ w. IsJudged s known table w (seen.Known x)) (sym (e ∙ ap (λ t. what.Type t dims) (sym f) ∙ ap (λ ds. what.Type t ds) (sym g))) (a_type told.0)

pub fault_judged : {s : UnitScopes} {known : Known} {table : List TypeSeen} {w : What} {of t : TypeTree} {dims ds : List Dim} {f : Failure} {r : Refusal} → w ≡ what.Type of dims → t ≡ of → ds ≡ dims
    → f ≡ failure.Refused r → DeclaredTells (seen_at s known) (types_at s table) t ds (Err f) → IsJudged s known table w (seen.Faulty r)
fault_judged {s = s} {known = known} {table = table} {t = t} {dims = dims} {ds = ds} {r = r} e f g h told =
    subst (λ w. IsJudged s known table w (seen.Faulty r)) (sym (e ∙ ap (λ t. what.Type t dims) (sym f) ∙ ap (λ ds. what.Type t ds) (sym g)))
    (a_fault (subst (λ f. DeclaredTells (seen_at s known) (types_at s table) t ds (Err f)) h told))

pub added_more : {s : UnitScopes} {known : Known} {old new : List TypeSeen} (ws : List What) (i : ℕ) (w : What) → i < length ws → w ≡ get_or ws i w → AreJudged s known (take i ws) old → IsAdded s known w old new → AreJudged s known (take (i + 1) ws) new
added_more {s = s} {known = known} ws i w lt at all one = subst (λ table. AreJudged s known (take (i + 1) ws) table) (sym one.is) (judged_more ws i w lt at all one.judged)
