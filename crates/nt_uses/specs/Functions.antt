-- Functions that use what is not their own, or write an argument (IEEE 1800-2017, 6.6.7, 13.4).
use Rattle.std.specs.Prelude.{ℕ, zero, suc, ◌==◌, ◌&&◌, ◌||◌, nat_le, Bool, true, false, if◌then◌else◌, List, [], ◌∷◌, map, length, get_or, slice_get, Option, Some, None}
use Rattle.std.specs.List.{flat_map, list_any}
use Rattle.nt_value.specs.declared.place.Place.{Place}
use Rattle.nt_items.specs.declared.item.FunctionItem.{FunctionItem}
use Rattle.nt_scopes.specs.declared.scope.Look.{Look}
use Rattle.nt_scopes.specs.declared.scope.Look.TheVariants as look
use Rattle.nt_types.specs.declared.parts.What.{What}
use Rattle.nt_types.specs.declared.parts.What.TheVariants as what
use Rattle.nt_types.specs.Units.{UnitScopes}
use Rattle.nt_bodies.specs.declared.body.Inside.{Inside}
use Rattle.nt_bodies.specs.declared.body.Inside.TheVariants as inside
use Rattle.nt_bodies.specs.Bodies.{own_names}
use Rattle.nt_uses.specs.declared.chains.Node.{Node}
use Rattle.nt_uses.specs.declared.used.Used.{Used}
use Rattle.nt_uses.specs.declared.used.Used.TheVariants as used
use Rattle.nt_uses.specs.Uses.{Around}
use Rattle.nt_uses.specs.Statements.{stmts_uses, starts_uses}

-- what a function uses: in the initial values of its locals, and in its body
abbrev pub around : UnitScopes → FunctionItem → Around
around s f = record { scopes = s; own = own_names f; loops = [] }

abbrev pub function_uses : UnitScopes → FunctionItem → List Used
function_uses s f = stmts_uses f.body (around s f) (starts_uses f.locals (around s f) [])

-- ---- what is not a function's own (13.4): all that is declared outside it, but for constants and functions. What a name that means nothing, or two
-- imports, stands for is told where it stands
abbrev pub is_foreign_what : Option What → Bool
is_foreign_what None = false
is_foreign_what (Some (what.Type of dims)) = true
is_foreign_what (Some (what.Constant path)) = false
is_foreign_what (Some (what.Function at)) = false
is_foreign_what (Some (what.Nettype at)) = true
is_foreign_what (Some what.Other) = true

abbrev pub is_foreign_look : List What → Look → Bool
is_foreign_look whats look.Unknown = false
is_foreign_look whats (look.One t) = is_foreign_what (slice_get whats t)
is_foreign_look whats look.Ambiguous = false

abbrev pub is_foreign_name : List What → Inside → Bool
is_foreign_name whats (inside.Loop k) = false
is_foreign_name whats (inside.Own k) = false
is_foreign_name whats (inside.Outside l) = is_foreign_look whats l

-- a system call is foreign too
abbrev pub is_foreign : List What → Used → Bool
is_foreign whats (used.Name x) = is_foreign_name whats x
is_foreign whats (used.Written x) = is_foreign_name whats x
is_foreign whats used.System = true

-- ---- functions that are called
abbrev pub function_what : Option What → Option Place
function_what None = None
function_what (Some (what.Type of dims)) = None
function_what (Some (what.Constant path)) = None
function_what (Some (what.Function at)) = Some at
function_what (Some (what.Nettype at)) = None
function_what (Some what.Other) = None

abbrev pub function_look : List What → Look → Option Place
function_look whats look.Unknown = None
function_look whats (look.One t) = function_what (slice_get whats t)
function_look whats look.Ambiguous = None

abbrev pub function_name : List What → Inside → Option Place
function_name whats (inside.Loop k) = None
function_name whats (inside.Own k) = None
function_name whats (inside.Outside l) = function_look whats l

-- the function outside that a use names, by its place
abbrev pub function_used : List What → Used → Option Place
function_used whats (used.Name x) = function_name whats x
function_used whats (used.Written x) = function_name whats x
function_used whats used.System = None

-- ---- what is written (6.6.7): an argument as a whole, or a member, an element or a part of it. A function called from here has copies of what is
-- passed to it (13.5.1), so a call writes none
abbrev pub is_argument : FunctionItem → Inside → Bool
is_argument f (inside.Loop k) = false
is_argument f (inside.Own k) = nat_le 1 k && nat_le k (length f.args)
is_argument f (inside.Outside l) = false

abbrev pub is_write : FunctionItem → Used → Bool
is_write f (used.Name x) = false
is_write f (used.Written x) = is_argument f x
is_write f used.System = false

abbrev pub writes_argument : UnitScopes → FunctionItem → Bool
writes_argument s f = list_any (is_write f) (function_uses s f)

-- ---- chains of calls
abbrev pub uses_foreign : UnitScopes → FunctionItem → Bool
uses_foreign s f = list_any (is_foreign s.whats) (function_uses s f)

-- the number of the function of a list that is declared at a place
abbrev pub same_place : Place → Place → Bool
same_place a b = a.file == b.file && a.offset == b.offset

abbrev pub index_from : List FunctionItem → Place → ℕ → Option ℕ
index_from [] at n = None
index_from (f ∷ fs) at n = if same_place f.at at then Some n else index_from fs at (suc n)

abbrev pub if_found : Option ℕ → List ℕ
if_found None = []
if_found (Some n) = n ∷ []

abbrev pub call_to : List FunctionItem → Option Place → List ℕ
call_to fs None = []
call_to fs (Some at) = if_found (index_from fs at 0)

-- the functions of a list that a function names, by their numbers
abbrev pub calls_of : UnitScopes → List FunctionItem → FunctionItem → List ℕ
calls_of s fs f = flat_map (λ u. call_to fs (function_used s.whats u)) (function_uses s f)

abbrev pub if_there : Option FunctionItem → List FunctionItem
if_there None = []
if_there (Some f) = f ∷ []

-- a function of a list uses what is not its own: in its own body, or in that of a function that it names, in a chain of at most this many calls
abbrev pub uses_others : ℕ → UnitScopes → List FunctionItem → FunctionItem → Bool
uses_others zero s fs f = uses_foreign s f
uses_others (suc depth) s fs f = uses_foreign s f || list_any (uses_others depth s fs) (flat_map (λ j. if_there (slice_get fs j)) (calls_of s fs f))

-- ---- the code's way: for each function whether its own body does, and whom it names (for the proof alone)
abbrev pub node_of : UnitScopes → List FunctionItem → FunctionItem → Node
node_of s fs f = record { foreign = uses_foreign s f; calls = calls_of s fs f }

abbrev pub is_flagged : List Bool → Node → Bool
is_flagged flags n = n.foreign || list_any (λ j. get_or flags j false) n.calls

abbrev pub rounds : ℕ → List Node → List Bool → List Bool
rounds zero nodes flags = flags
rounds (suc n) nodes flags = map (is_flagged (rounds n nodes flags)) nodes
