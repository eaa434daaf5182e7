-- Equal leaves stand bare.
use Rattle.std.proofs.Common.{◌≡◌, ℕ, refl, ap, sym, subst, ◌∙◌, arith}
use Rattle.std.specs.Prelude.{Bool, true, false, ◌&&◌, ◌||◌, Some, if◌then◌else◌, max}
use Rattle.nt_value.specs.declared.leaf.Leaf.{Leaf}
use Rattle.nt_value.specs.declared.place.Place.{Place}
use Rattle.nt_value.specs.declared.operator.Binary.TheVariants as o
use Rattle.nt_ast.specs.declared.expr.Expr.{Expr}
use Rattle.nt_ast.specs.declared.expr.Expr.TheOpen.{Expr-F}
use Rattle.nt_ast.specs.declared.expr.Expr.TheViews.{out-Expr}
use Rattle.nt_const.specs.Tables.{joined}
use Rattle.nt_ast.specs.Places.{Node}
use Rattle.nt_design.specs.declared.tree.Tree.{Tree}
use Rattle.nt_design.specs.declared.tree.Tree.TheVariants as t
use Rattle.nt_kinds.specs.declared.kind.Kind.{Kind}
use Rattle.nt_typing.specs.declared.scope.Scope.{Scope}
use Rattle.nt_typing.specs.Kinds.{leaf_of}
use Rattle.nt_typing.specs.Tables.{wider, fitted}
use Rattle.nt_typing.specs.declared.thing.Thing.TheVariants.{Value as value}
use Rattle.nt_typing.specs.Typing.{Stands, stands, binary, Typed, stands_in, binary_within, Goes, to_leaf}
use Rattle.nt_typing.proofs.Leaves.{leaf_same}
use Rattle.nt_typing.proofs.Pieces.{three}

pub bare : (l : Leaf) (a : Tree) → fitted l l a ≡ a
bare l a = ap (λ (b : Bool). if b then a else t.Resize a l) (leaf_same l)

larger : (n : ℕ) → max n n ≡ n
larger n = grind arith

and_self : (b : Bool) → (b && b) ≡ b
and_self true = refl
and_self false = refl

or_self : (b : Bool) → (b || b) ≡ b
or_self true = refl
or_self false = refl

wider_same : (l : Leaf) → wider l l ≡ l
wider_same l = ap (λ (n : ℕ). record { width = n; signed = l.signed; four = l.four }) (larger l.width)

joined_same : (l : Leaf) → joined l l ≡ l
joined_same l = three {D = Leaf} (λ width signed four. record { width = width; signed = signed; four = four }) (larger l.width) (and_self l.signed) (or_self l.four)

fitted_same : (l m : Leaf) (a : Tree) → m ≡ l → fitted m l a ≡ a
fitted_same l m a e = ap (λ m. fitted m l a) e ∙ bare l a

-- an assignment of what has the left side's leaf is bare
pub copied : {s : Scope} {j k : Kind} {a : Tree} {l : Leaf} (x : Node) → Stands s x (value j a) → leaf_of j ≡ Some l → leaf_of k ≡ Some l → Goes s x k a
copied {s = s} {k = k} {a = a} {l = l} x h e f =
    let u : Typed s x (wider l l) a =
    subst (Typed s x (wider l l)) (fitted_same (wider l l) l a (sym (wider_same l))) (stands_in h e) in
    subst (Goes s x k) (fitted_same l (wider l l) a (wider_same l)) (to_leaf x f (stands h e) u)

-- so is a sum of two such
pub summed : {s : Scope} {i j k : Kind} {a b : Tree} {l : Leaf} (at : Place) (x y : Expr) → Stands s (out-Expr x) (value i a) → Stands s (out-Expr y) (value j b)
    → leaf_of i ≡ Some l → leaf_of j ≡ Some l → leaf_of k ≡ Some l → Goes s (Expr-F.Binary at o.Add x y) k (t.Binary o.Add a b)
summed {s = s} {k = k} {a = a} {b = b} {l = l} at x y g h e f n =
    let c = wider l (joined l l) in
    let same : c ≡ l = ap (wider l) (joined_same l) ∙ wider_same l in
    let u : Typed s (out-Expr x) c a = subst (Typed s (out-Expr x) c) (fitted_same c l a (sym same)) (stands_in g e) in
    let v : Typed s (out-Expr y) c b = subst (Typed s (out-Expr y) c) (fitted_same c l b (sym same)) (stands_in h f) in
    let w : Typed s (Expr-F.Binary at o.Add x y) c (t.Binary o.Add a b) =
    subst (Typed s (Expr-F.Binary at o.Add x y) c) (bare c (t.Binary o.Add a b)) (binary_within at o.Add x y (stands g e) (stands h f) u v) in
    subst (Goes s (Expr-F.Binary at o.Add x y) k) (fitted_same l c (t.Binary o.Add a b) same) (to_leaf (Expr-F.Binary at o.Add x y) n (binary at o.Add x y (stands g e) (stands h f)) w)
