-- Lists of items of any kind, with a separator between each two. `Item` says which tokens are an item. (IEEE 1800-2017, A.1: in its
-- rules `item { , item }`.)
use Rattle.std.specs.Prelude.{◌≡◌, true, List, [], ◌∷◌, ◌++◌}
use Rattle.nt_lexer.specs.declared.kinds.Token.{Token}
use Rattle.nt_read_expr.specs.declared.list.Separator.{Separator}
use Rattle.nt_read_expr.specs.Tables.{Tokens, separates}

-- { , item }
pub data MoreOf {A : Type 0} (by : Separator) (Item : Tokens → A → Type 0) : Tokens → List A → Type 0 where
  no_item : MoreOf by Item [] []
  next_item : {ts us : Tokens} {x : A} {xs : List A} (t : Token) → separates by t.kind ≡ true → Item ts x → MoreOf by Item us xs → MoreOf by Item (t ∷ ts ++ us) (x ∷ xs)

-- item { , item }
pub data ListOf {A : Type 0} (by : Separator) (Item : Tokens → A → Type 0) : Tokens → List A → Type 0 where
  listed : {ts us : Tokens} {x : A} {xs : List A} → Item ts x → MoreOf by Item us xs → ListOf by Item (ts ++ us) (x ∷ xs)
