-- None of some things, just one, or two that differ.
use Rattle.std.specs.Prelude.{ℕ, ◌≡◌, ◌<◌, ◌==◌, if◌then◌else◌, List, slice_get, Option, Some, None}
use Rattle.nt_scopes.specs.declared.scope.Look.{Look}
use Rattle.nt_scopes.specs.declared.scope.Look.TheVariants as look

-- what one of the first n items of a list gives
pub data Among {A : Type 0} (Gives : A → ℕ → Type 0) (n : ℕ) (xs : List A) (t : ℕ) : Type 0 where
  among : (k : ℕ) (x : A) → k < n → slice_get xs k ≡ Some x → Gives x t → Among Gives n xs t

-- something where there is something
abbrev pub IsFound : (ℕ → Type 0) → Option ℕ → Type 0
IsFound Gives None = (t : ℕ) → Gives t → ⊥
IsFound Gives (Some t) = Gives t

abbrev pub Choice : (ℕ → Type 0) → Look → Type 0
Choice Gives look.Unknown = (t : ℕ) → Gives t → ⊥
Choice Gives (look.One t) = Gives t × ((u : ℕ) → Gives u → u ≡ t)
Choice Gives look.Ambiguous = (t : ℕ) × (u : ℕ) × Gives t × Gives u × (t ≡ u → ⊥)

-- two choices together
abbrev pub both : Look → Look → Look
both look.Unknown b = b
both (look.One t) look.Unknown = look.One t
both (look.One t) (look.One u) = if t == u then look.One t else look.Ambiguous
both (look.One t) look.Ambiguous = look.Ambiguous
both look.Ambiguous b = look.Ambiguous
