-- The first node of a tree.
use Rattle.std.proofs.Common.{◌≡◌, ℕ, Bool, List, Option, ap, ◌∙◌}
use Rattle.nt_value.specs.declared.place.Place.{Place}
use Rattle.nt_value.specs.declared.literal.Literal.{Literal}
use Rattle.nt_value.specs.declared.operator.Unary.{Unary}
use Rattle.nt_value.specs.declared.operator.Binary.{Binary}
use Rattle.nt_ast.specs.declared.path.Path.{Path}
use Rattle.nt_ast.specs.declared.expr.Key.{Key}
use Rattle.nt_ast.specs.declared.expr.Expr.{Expr}
use Rattle.nt_ast.specs.declared.expr.Expr.TheVariants as e
use Rattle.nt_ast.specs.declared.expr.Expr.TheOpen.{Expr-F}
use Rattle.nt_ast.specs.declared.expr.Expr.TheViews.{out-Expr, roll-Expr, out-roll-Expr}
use denote.Hole.Carrier.{roll}

pub seen_literal : (x : Expr) (at : Place) (v : Literal) → x ≡ e.Literal at v → out-Expr x ≡ Expr-F.Literal at v
unfolding roll-Expr roll
seen_literal x at v h = ap out-Expr h ∙ out-roll-Expr (Expr-F.Literal at v)

pub seen_read : (x : Expr) (at : Place) (path : Path) → x ≡ e.Read at path → out-Expr x ≡ Expr-F.Read at path
unfolding roll-Expr roll
seen_read x at path h = ap out-Expr h ∙ out-roll-Expr (Expr-F.Read at path)

pub seen_member : (x : Expr) (at : Place) (y : Expr) (p : Place) (name : List ℕ) → x ≡ e.Member at y p name → out-Expr x ≡ Expr-F.Member at y p name
unfolding roll-Expr roll
seen_member x at y p name h = ap out-Expr h ∙ out-roll-Expr (Expr-F.Member at y p name)

pub seen_item : (x : Expr) (at : Place) (y z : Expr) → x ≡ e.Item at y z → out-Expr x ≡ Expr-F.Item at y z
unfolding roll-Expr roll
seen_item x at y z h = ap out-Expr h ∙ out-roll-Expr (Expr-F.Item at y z)

pub seen_part : (x : Expr) (at : Place) (y z w : Expr) → x ≡ e.Part at y z w → out-Expr x ≡ Expr-F.Part at y z w
unfolding roll-Expr roll
seen_part x at y z w h = ap out-Expr h ∙ out-roll-Expr (Expr-F.Part at y z w)

pub seen_indexed : (x : Expr) (at : Place) (y z w : Expr) (up : Bool) → x ≡ e.Indexed at y z w up → out-Expr x ≡ Expr-F.Indexed at y z w up
unfolding roll-Expr roll
seen_indexed x at y z w up h = ap out-Expr h ∙ out-roll-Expr (Expr-F.Indexed at y z w up)

pub seen_unary : (x : Expr) (at : Place) (op : Unary) (y : Expr) → x ≡ e.Unary at op y → out-Expr x ≡ Expr-F.Unary at op y
unfolding roll-Expr roll
seen_unary x at op y h = ap out-Expr h ∙ out-roll-Expr (Expr-F.Unary at op y)

pub seen_binary : (x : Expr) (at : Place) (op : Binary) (y z : Expr) → x ≡ e.Binary at op y z → out-Expr x ≡ Expr-F.Binary at op y z
unfolding roll-Expr roll
seen_binary x at op y z h = ap out-Expr h ∙ out-roll-Expr (Expr-F.Binary at op y z)

pub seen_choose : (x : Expr) (at : Place) (t y z : Expr) → x ≡ e.Choose at t y z → out-Expr x ≡ Expr-F.Choose at t y z
unfolding roll-Expr roll
seen_choose x at t y z h = ap out-Expr h ∙ out-roll-Expr (Expr-F.Choose at t y z)

pub seen_concat : (x : Expr) (at : Place) (xs : List Expr) → x ≡ e.Concat at xs → out-Expr x ≡ Expr-F.Concat at xs
unfolding roll-Expr roll
seen_concat x at xs h = ap out-Expr h ∙ out-roll-Expr (Expr-F.Concat at xs)

pub seen_repeat : (x : Expr) (at : Place) (y : Expr) (xs : List Expr) → x ≡ e.Repeat at y xs → out-Expr x ≡ Expr-F.Repeat at y xs
unfolding roll-Expr roll
seen_repeat x at y xs h = ap out-Expr h ∙ out-roll-Expr (Expr-F.Repeat at y xs)

pub seen_pattern : (x : Expr) (at : Place) (items : List (Option Key × Expr)) → x ≡ e.Pattern at items → out-Expr x ≡ Expr-F.Pattern at items
unfolding roll-Expr roll
seen_pattern x at items h = ap out-Expr h ∙ out-roll-Expr (Expr-F.Pattern at items)

pub seen_call : (x : Expr) (at : Place) (path : Path) (xs : List Expr) → x ≡ e.Call at path xs → out-Expr x ≡ Expr-F.Call at path xs
unfolding roll-Expr roll
seen_call x at path xs h = ap out-Expr h ∙ out-roll-Expr (Expr-F.Call at path xs)

pub seen_size : (x : Expr) (at : Place) (y : Expr) → x ≡ e.Size at y → out-Expr x ≡ Expr-F.Size at y
unfolding roll-Expr roll
seen_size x at y h = ap out-Expr h ∙ out-roll-Expr (Expr-F.Size at y)

pub seen_time : (x : Expr) (at : Place) → x ≡ e.Time at → out-Expr x ≡ Expr-F.Time at
unfolding roll-Expr roll
seen_time x at h = ap out-Expr h ∙ out-roll-Expr (Expr-F.Time at)

pub seen_sign : (x : Expr) (at : Place) (s : Bool) (y : Expr) → x ≡ e.Sign at s y → out-Expr x ≡ Expr-F.Sign at s y
unfolding roll-Expr roll
seen_sign x at s y h = ap out-Expr h ∙ out-roll-Expr (Expr-F.Sign at s y)
