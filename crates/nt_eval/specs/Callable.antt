-- Which calls of a design's functions may be made, and what makes them.
use Rattle.std.specs.Prelude.{◌≡◌, ◌≤◌, ℕ, List, Some, Result, map, slice_get}
use Rattle.std.specs.declared.alloc.Global.{Global}
use denote.Ref.{Bor}
use Rattle.nt_design.specs.Meaning.{calls_to}
use Rattle.nt_design.specs.Parts.{Value}
use Rattle.nt_design.specs.WellFormed.{IsDesign, MayCall, signature_of}
use Rattle.nt_design.specs.declared.design.Design.{Design}
use Rattle.nt_design.specs.declared.env.Stop.{Stop}
use Rattle.nt_design.specs.declared.function.Function.{Function}
use Rattle.nt_values.specs.Tells.{Tells}
use Rattle.nt_values.specs.Typed.{IsCall}

-- the functions of a well-formed design
abbrev pub OfDesign : List Function → Type 0
OfDesign functions = (d : Design) × IsDesign d × (functions ≡ d.functions)

-- a function has this number, and may be called with these values
abbrev pub MayRun : List Function → ℕ → List Value → Type 0
MayRun functions f args = (function : Function) × (slice_get functions f ≡ Some function) × MayCall function args

-- a function value that makes the calls of these functions with so many turns at most
pub record Nests (functions : List Function) (most : ℕ) (pre : Global → Bor (List Function) → ℕ → ℕ → List Value → ℕ → Type 0)
    (post : Global → Bor (List Function) → ℕ → ℕ → List Value → ℕ → Result (Value × ℕ) Stop → Type 0) : Type 0 where
  pub callable : (alloc : Global) (fs : Bor (List Function)) (f : ℕ) (args : List Value) (left : ℕ) → fs.now ≡ functions → IsCall (map signature_of functions) f args → left ≤ most → pre alloc fs most f args left
  pub tells : (alloc : Global) (fs : Bor (List Function)) (f : ℕ) (args : List Value) (left : ℕ) (r : Result (Value × ℕ) Stop) → fs.now ≡ functions → post alloc fs most f args left r → Tells left (calls_to functions most f args left) r
