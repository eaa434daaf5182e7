-- Segments, the links that join them, and their classes (IEEE 1800-2017, 23.3.3). Segments are numbered from 0 in the order of elaboration.
use Rattle.std.specs.Prelude.{◌≡◌, ℕ, ◌<◌, ◌≤◌, ◌↔◌, List, length, get_or, Contains}
use Rattle.nt_merge.specs.declared.segments.Link.{Link}

-- the least equivalence that holds all links: two such segments are one net
pub data Joined (links : List Link) : ℕ → ℕ → Type 0 where
  linked : (l : Link) → Contains links l → Joined links l.a l.b
  itself : (a : ℕ) → Joined links a a
  back : {a b : ℕ} → Joined links a b → Joined links b a
  through : {a b c : ℕ} → Joined links a b → Joined links b c → Joined links a c

-- a link between two of the first n segments
pub record Within (n : ℕ) (l : Link) : Type 0 where
  pub a : l.a < n
  pub b : l.b < n

-- the list gives each of the first n segments the least segment that it is joined with
pub record IsClasses (n : ℕ) (links : List Link) (list : List ℕ) : Type 0 where
  pub size : length list ≡ n
  pub joined : (a : ℕ) → a < n → Joined links a (get_or list a 0)
  pub least : (a b : ℕ) → a < n → b < n → Joined links a b → get_or list a 0 ≤ b

-- such a list for some links: no segment stands for a lesser one, and what stands for others stands for itself
pub record IsNaming (list : List ℕ) : Type 0 where
  pub low : (a : ℕ) → a < length list → get_or list a 0 ≤ a
  pub own : (a : ℕ) → a < length list → get_or list (get_or list a 0) 0 ≡ get_or list a 0

-- two segments have one least segment exactly where the links join them
abbrev pub SameWhereJoined : Type 0
SameWhereJoined = (n : ℕ) (links : List Link) (list : List ℕ) → IsClasses n links list → (a b : ℕ) → a < n → b < n → (get_or list a 0 ≡ get_or list b 0) ↔ Joined links a b

-- there is one list of classes
abbrev pub OneList : Type 0
OneList = (n : ℕ) (links : List Link) (list other : List ℕ) → IsClasses n links list → IsClasses n links other → list ≡ other
