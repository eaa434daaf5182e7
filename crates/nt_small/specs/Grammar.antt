-- The texts that are taken: a module of nets of one nettype of int, and assignments of numbers to them.
use Rattle.std.specs.Prelude.{◌≡◌, ◌≢◌, ℕ, ◌≤◌, Bool, true, false, ◌||◌, ◌&&◌, nat_le, ◌==◌, List, [], ◌∷◌, ◌++◌, length, codes, take, Some, slice_get}
use Rattle.std.specs.List.{list_any, list_all, flat_map, Contains}
use Rattle.std.specs.Str.{bytes_eq}

-- tab, line feed, form feed, carriage return and blank
unfoldable pub is_white : ℕ → Bool
is_white b = (b == 9) || (b == 10) || (b == 12) || (b == 13) || (b == 32)

unfoldable pub is_digit : ℕ → Bool
is_digit b = nat_le 48 b && nat_le b 57

unfoldable pub is_letter : ℕ → Bool
is_letter b = (nat_le 65 b && nat_le b 90) || (nat_le 97 b && nat_le b 122)

-- a byte of a word, a name or a number
unfoldable pub is_word_byte : ℕ → Bool
is_word_byte b = is_letter b || is_digit b

-- the words of at most three letters that are no names
abbrev pub reserved : List (List ℕ)
reserved = codes "bit" ∷ codes "buf" ∷ codes "do" ∷ codes "end" ∷ codes "for" ∷ codes "if" ∷ codes "int" ∷ codes "nor" ∷ codes "or" ∷ codes "ref" ∷ codes "reg" ∷ codes "tri" ∷ codes "var" ∷ codes "wor" ∷ []

-- a letter, and at most two letters or digits
abbrev pub has_name_form : List ℕ → Bool
has_name_form [] = false
has_name_form (b ∷ bs) = is_letter b && list_all is_word_byte bs && nat_le (length bs) 2

-- a name has the form of one, and is not reserved
abbrev pub IsName : List ℕ → Type 0
IsName name = (has_name_form name ≡ true) × (list_any (bytes_eq name) reserved ≡ false)

-- one to nine digits
abbrev pub IsNumber : List ℕ → Type 0
IsNumber digits = (1 ≤ length digits) × (length digits ≤ 9) × (list_all is_digit digits ≡ true)

-- an item of a module: the declaration of a net, or the assignment of a number to a net
pub data Item : Type 0 where
  Declare : List ℕ → Item
  Drive : List ℕ → List ℕ → Item

-- what a text says: the names of the module and of the nettype, and the items in order
pub record Source : Type 0 where
  pub top : List ℕ
  pub nettype : List ℕ
  pub items : List Item

-- the nets that an item declares, and those that it drives: one or none
abbrev pub declared_by : Item → List (List ℕ)
declared_by (Declare net) = net ∷ []
declared_by (Drive net digits) = []

abbrev pub driven_by : Item → List (List ℕ)
driven_by (Declare net) = []
driven_by (Drive net digits) = net ∷ []

-- the nets that are declared, and those that are driven, in order
abbrev pub declared_nets : List Item → List (List ℕ)
declared_nets items = flat_map declared_by items

abbrev pub driven_nets : List Item → List (List ℕ)
driven_nets items = flat_map driven_by items

-- behind these items, a net may be declared under a new name, and a declared net may be driven that is not driven yet
abbrev pub IsAllowed : List ℕ → List Item → Item → Type 0
IsAllowed nettype before (Declare net) = IsName net × (net ≢ nettype) × (Contains (declared_nets before) net → ⊥)
IsAllowed nettype before (Drive net digits) =
    Contains (declared_nets before) net × (Contains (driven_nets before) net → ⊥) × IsNumber digits

-- each item is allowed behind those before it
abbrev pub AreAllowed : List ℕ → List Item → Type 0
AreAllowed nettype items = (at : ℕ) (item : Item) → slice_get items at ≡ Some item → IsAllowed nettype (take at items) item

-- the rules on names and numbers hold, and there are at most 16,384 nets
pub record IsSource (s : Source) : Type 0 where
  pub top : IsName s.top
  pub nettype : IsName s.nettype
  pub items : AreAllowed s.nettype s.items
  pub few_nets : length (declared_nets s.items) ≤ 16384

-- N A ;   or   assign A = V ;
abbrev pub item_tokens : List ℕ → Item → List (List ℕ)
item_tokens nettype (Declare net) = nettype ∷ net ∷ codes ";" ∷ []
item_tokens nettype (Drive net digits) = codes "assign" ∷ net ∷ codes "=" ∷ digits ∷ codes ";" ∷ []

abbrev pub items_tokens : List ℕ → List Item → List (List ℕ)
items_tokens nettype items = flat_map (item_tokens nettype) items ++ codes "endmodule" ∷ []

-- module M ; nettype int N ; items endmodule
abbrev pub tokens : Source → List (List ℕ)
tokens s =
    codes "module" ∷ s.top ∷ codes ";" ∷ codes "nettype" ∷ codes "int" ∷ s.nettype ∷ codes ";" ∷ items_tokens s.nettype s.items

-- the token begins with a byte of a word; the text begins with white space
abbrev pub is_word : List ℕ → Bool
is_word [] = false
is_word (b ∷ bs) = is_word_byte b

abbrev pub starts_white : List ℕ → Bool
starts_white [] = false
starts_white (b ∷ bs) = is_white b

-- between a token and the next one stands white space where both are words
abbrev pub AreApart : List ℕ → List (List ℕ) → List ℕ → Type 0
AreApart t [] rest = Unit {0}
AreApart t (u ∷ us) rest = is_word t ≡ true → is_word u ≡ true → starts_white rest ≡ true

-- the text is these tokens in order, with white space before, between and after them
abbrev pub Spaced : List (List ℕ) → List ℕ → Type 0
Spaced [] text = list_all is_white text ≡ true
Spaced (t ∷ ts) text =
    (gap : List ℕ) × (rest : List ℕ) × (list_all is_white gap ≡ true) × (text ≡ gap ++ (t ++ rest)) × AreApart t ts rest × Spaced ts rest

-- the text says this of the module top
pub record Says (top text : List ℕ) (s : Source) : Type 0 where
  pub source : IsSource s
  pub top_is : s.top ≡ top
  pub few_bytes : length text ≤ 4194304
  pub spaced : Spaced (tokens s) text
