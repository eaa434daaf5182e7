-- The text of a slot in a trace, from the objects of the design in the order in which a trace shows them.
use Rattle.std.specs.Prelude.{ℕ, if◌then◌else◌, List, [], ◌∷◌, ◌++◌, filter, decimal, Option, Some, None}
use Rattle.std.specs.List.{flat_map}
use Rattle.nt_design.specs.Parts.{Value}
use Rattle.nt_design.specs.declared.design.Design.{Design}
use Rattle.nt_design.specs.declared.object.Object.{Object}
use Rattle.nt_semantics.specs.Execution.{Observation}
use Rattle.nt_semantics.specs.Same.{is_one_of}
use Rattle.nt_semantics.specs.Texts.{displayed_line, object_line, is_changed}

-- those of these objects that are shown: all in the first slot, later those that changed
abbrev pub shown_of : List Object → Option Observation → Observation → List Object
shown_of objects None seen = objects
shown_of objects (Some before) seen = filter (is_changed before seen) objects

-- `slot_text` of nt_semantics, where these are all objects
abbrev pub text_of : Design → List Object → Option Observation → Observation → List ℕ
text_of d objects before seen =
    35 ∷ (decimal seen.moment ++ (10 ∷ (flat_map displayed_line seen.lines ++ flat_map (object_line d seen) (shown_of objects before seen))))

-- one object more, where it is a new one
abbrev pub with_object : List Object → Object → List Object
with_object all o = if is_one_of all o then all else all ++ o ∷ []

abbrev pub with_maybe : List Object → Option Object → List Object
with_maybe all None = all
with_maybe all (Some o) = with_object all o

-- the value that there is, or none
abbrev pub or_none : Option Value → Value
or_none None = []
or_none (Some value) = value
