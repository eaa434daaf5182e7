-- What functions give (IEEE 1800-2017, 13.4), and the value of an expression within the turns of an event.
use Rattle.std.specs.Prelude.{ℕ, zero, suc, if◌then◌else◌, List, [], ◌∷◌, ◌++◌, map, Option, Some, None, get_or, slice_get, length, option_map}
use Rattle.nt_value.specs.Values.{default_value, shape_of}
use Rattle.nt_value.specs.declared.leaf.Leaf.{Leaf}
use Rattle.nt_design.specs.Parts.{Value}
use Rattle.nt_design.specs.Turns.{Timed, and_then, spend}
use Rattle.nt_design.specs.Expressions.{World, Calls, value_of}
use Rattle.nt_design.specs.Statements.{do_all}
use Rattle.nt_design.specs.declared.function.Function.{Function}
use Rattle.nt_design.specs.declared.env.Env.{Env}
use Rattle.nt_design.specs.declared.tree.Tree.{Tree}

-- the arguments of a function that are locals: a resolver's argument is none
abbrev pub own_args : {A : Type 0} → Function → List A → List A
own_args f args = if f.many then [] else args

-- the number of the local that is the function's name
abbrev pub name_of : Function → ℕ
name_of f = length (own_args f f.args)

-- the local that is the name, at the default of the result's leaves; there is none without leaves
abbrev pub name_local : List Leaf → List Value
name_local [] = []
name_local (leaf ∷ leaves) = default_value (leaf ∷ leaves) ∷ []

-- the locals where the body begins: the arguments, the name, and the others at their defaults (13.4.2)
abbrev pub entry_of : Function → List Value → List Value
entry_of f args = own_args f args ++ (name_local f.result ++ map default_value f.locals)

-- the result: what the name holds at the end (13.4.1)
abbrev pub result_of : List Leaf → ℕ → List Value → Value
result_of [] name locals = []
result_of (leaf ∷ leaves) name locals = get_or locals name []

-- what a function reads besides its locals: the elements of its argument, where it is a resolver (6.6.7)
abbrev pub own_world : Function → List Value → World
own_world f args = record { time = 0; nets = []; vars = []; many = if f.many then args else []; element = get_or f.args 0 [] }

-- the body on argument values; a number that no function has gives a value without leaves
abbrev pub run : Calls → Option Function → List Value → ℕ → Timed Value
run calls None args left = Some ([], left)
run calls (Some f) args left =
    and_then (do_all calls (own_world f args) (name_of f) f.body (entry_of f args) left) (λ e l.
    Some (result_of f.result (name_of f) e.0, l))

-- calls that go at most so deep. A call is a turn, which is this project's rule, so as many turns are deep enough
unfoldable pub calls_to : List Function → ℕ → Calls
calls_to functions zero f args left = None
calls_to functions (suc depth) f args left =
    spend left (λ l. run (calls_to functions depth) (slice_get functions f) args l)

-- the turns of an event, this project's limit
abbrev pub most_turns : ℕ
most_turns = 65536

-- what stays the same in an environment
abbrev pub world_of : Env → World
world_of env =
    record { time = env.time; nets = env.nets; vars = env.vars; many = env.many; element = shape_of (get_or env.many 0 []) }

-- the value of an expression, or none where it takes more turns than an event has
abbrev pub meaning : List Function → Env → Tree → Option Value
meaning functions env tree =
    option_map (λ p. p.0) (value_of (calls_to functions most_turns) (world_of env) tree env.locals most_turns)

-- what a function gives for argument values, or none where that takes more turns than an event has
abbrev pub call_meaning : List Function → ℕ → List Value → Option Value
call_meaning functions f args = option_map (λ p. p.0) (calls_to functions most_turns f args most_turns)
