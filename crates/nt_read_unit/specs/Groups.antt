-- Groups of items of any kind, one after another. `Group` says which tokens are the items of one group. (IEEE 1800-2017, A.1: in
-- its rules `{ group }`.)
use Rattle.std.specs.Prelude.{List, [], ◌++◌}
use Rattle.nt_read_expr.specs.Tables.{Tokens}

-- { group }
pub data Groups {A : Type 0} (Group : Tokens → List A → Type 0) : Tokens → List A → Type 0 where
  no_group : Groups Group [] []
  next_group : {ts us : Tokens} {xs ys : List A} → Group ts xs → Groups Group us ys → Groups Group (ts ++ us) (xs ++ ys)
