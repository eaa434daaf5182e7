-- The same modules, packages and units, as functions that read tokens from the left. The functions of src/ equal these.
use Rattle.std.specs.Prelude.{ℕ, ◌+◌, Bool, true, false, not, if◌then◌else◌, List, [], ◌∷◌, ◌++◌, length, drop, Option, Some, None}
use Rattle.nt_ast.specs.declared.path.Declared.{Declared}
use Rattle.nt_ast.specs.declared.types.TypeTree.{TypeTree}
use Rattle.nt_items.specs.declared.item.Port.{Port}
use Rattle.nt_items.specs.declared.item.Item.{Item}
use Rattle.nt_items.specs.declared.item.Item.TheVariants as i
use Rattle.nt_lexer.specs.declared.kinds.Mark.TheVariants as m
use Rattle.nt_lexer.specs.declared.kinds.Word.TheVariants as w
use Rattle.nt_lexer.specs.declared.kinds.TokenKind.{TokenKind}
use Rattle.nt_lexer.specs.declared.kinds.TokenKind.TheVariants as k
use Rattle.nt_read_expr.specs.declared.list.Separator.TheVariants.{Comma}
use Rattle.nt_read_expr.specs.Tables.{Tokens, start}
use Rattle.nt_read_expr.specs.Reader.{Read, ◌>>=◌, either, first, is_at, expect, below, whole, list_of}
use Rattle.nt_read_stmt.specs.Reader.{is_word, expect_word, take_name, past_label}
use Rattle.nt_read_unit.specs.Reader.{groups_of, named, maybe_type}
use Rattle.nt_read_item.specs.Tables.{plain_name}
use Rattle.nt_read_item.specs.Reader.{flag, imports, package_item, module_item}
use Rattle.nt_read_module.specs.declared.carried.PortText.{PortText}
use Rattle.nt_read_module.specs.declared.carried.ParamText.{ParamText}
use Rattle.nt_read_module.specs.declared.carried.Head.{Head}
use Rattle.nt_read_module.specs.Tables.{way_of, net_of}
use Rattle.nt_read_module.specs.Carried.{ports_from, params_from}

unfoldable pub maybe_by : {A : Type 0} → (TokenKind → Option A) → Tokens → Read (Option A)
maybe_by f ts = either (f (first ts)) (Some (None, ts)) (λ a. Some (Some a, drop 1 ts))

unfoldable pub import_goes : Tokens → Bool
import_goes ts = is_word w.Import ts

unfoldable pub module_goes : Tokens → Bool
module_goes ts = not (is_word w.EndModule ts)

unfoldable pub package_goes : Tokens → Bool
package_goes ts = not (is_word w.EndPackage ts)

abbrev pub is_end : TokenKind → Bool
is_end k.End = true
is_end _ = false

-- the file goes on
unfoldable pub unit_goes : Tokens → Bool
unit_goes ts = not (is_end (first ts))

module _ (limit : ℕ) where
  unfoldable pub port : Tokens → Read PortText
  port ts = do
    (way, us) ← maybe_by way_of ts
    (kind, vs) ← maybe_by net_of us
    (of, ws) ← maybe_type limit limit vs
    (what, zs) ← named limit limit ws
    Some (record { way = way; kind = kind; of = of; what = what }, zs)

  unfoldable pub param : Tokens → Read ParamText
  param ts = do
    (word, us) ← flag w.Parameter ts
    (of, vs) ← maybe_type limit limit us
    (name, ws) ← take_name vs
    xs ← expect m.Assign ws
    (x, ys) ← whole limit (below limit limit) xs
    Some (record { word = word; of = of; what = plain_name (start vs) name (Some x) }, ys)

  unfoldable pub params_in : Tokens → Read (List (Option TypeTree × Declared))
  params_in ts = do
    us ← expect m.LeftParen ts
    (ps, vs) ← list_of Comma param us
    ws ← expect m.RightParen vs
    Some (params_from None ps, ws)

  unfoldable pub param_list : Tokens → Read (List (Option TypeTree × Declared))
  param_list ts = if is_at m.Hash ts then params_in (drop 1 ts) else Some ([], ts)

  unfoldable pub some_ports : Tokens → Read (List Port)
  some_ports ts = do
    (ps, us) ← list_of Comma port ts
    vs ← expect m.RightParen us
    Some (ports_from None ps, vs)

  unfoldable pub port_list : Tokens → Read (List Port)
  port_list ts =
      if is_at m.LeftParen ts then (if is_at m.RightParen (drop 1 ts) then Some ([], drop 2 ts) else some_ports (drop 1 ts)) else Some ([], ts)

  unfoldable pub head : Tokens → Read Head
  head ts = do
    (name, us) ← take_name ts
    (all, vs) ← groups_of import_goes imports (length us + 1) [] us
    (params, ws) ← param_list vs
    (ports, xs) ← port_list ws
    zs ← expect m.Semicolon xs
    Some (record { at = start ts; name = name; imports = all; params = params; ports = ports }, zs)

  unfoldable pub module_unit : Tokens → Read (List Item)
  module_unit ts = do
    us ← expect_word w.Module ts
    (h, vs) ← head us
    (xs, ws) ← groups_of module_goes (module_item limit) (length vs + 1) [] vs
    zs ← expect_word w.EndModule ws
    rest ← past_label zs
    Some (i.Module h.at h.name h.params h.ports (h.imports ++ xs) ∷ [], rest)

  unfoldable pub package_unit : Tokens → Read (List Item)
  package_unit ts = do
    us ← expect_word w.Package ts
    (name, vs) ← take_name us
    ws ← expect m.Semicolon vs
    (xs, ys) ← groups_of package_goes (package_item limit) (length ws + 1) [] ws
    zs ← expect_word w.EndPackage ys
    rest ← past_label zs
    Some (i.Package (start us) name xs ∷ [], rest)

  unfoldable pub unit : Tokens → Read (List Item)
  unit ts = if is_word w.Module ts then module_unit ts else (if is_word w.Package ts then package_unit ts else package_item limit ts)

  -- the units of a file
  unfoldable pub source : Tokens → Read (List Item)
  source ts = groups_of unit_goes unit (length ts + 1) [] ts
