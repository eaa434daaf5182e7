-- What is told of the names of the cases.
use Rattle.std.proofs.Common.{◌≡◌, Bool, true, false, [], length, refl, sym, ap, subst, arith}
use Rattle.std.proofs.lemmas.List.Elements.{All-cons, All-nil}
use Rattle.std.specs.Prelude.{None, codes, if◌then◌else◌, All}
use Rattle.std.specs.Str.{bytes_eq}
use Rattle.nt_value.specs.Digits.{IsLeaf}
use Rattle.nt_value.specs.declared.leaf.Leaf.{Leaf}
use Rattle.nt_ast.specs.declared.path.Path.{Path}
use Rattle.nt_ast.specs.declared.types.IntWord.TheVariants as w
use Rattle.nt_kinds.specs.declared.kind.Kind.{Kind}
use Rattle.nt_kinds.specs.Kinds.{IsSmall}
use Rattle.nt_kinds.proofs.Opening.{leaves_one, levels_one}
use Rattle.nt_type_trees.specs.declared.seen.TypeSeen.TheVariants as seen
use Rattle.nt_type_trees.specs.Types.{IsType, plain_kind}
use Rattle.nt_show_types.specs.Names.{type_in}

first : {A : Type 0} (a b c : Bool) (x y z v : A) → a ≡ true → (if a then x else if b then y else if c then z else v) ≡ x
first true b c x y z v e = refl
first false b c x y z v e = cc

second : {A : Type 0} (a b c : Bool) (x y z v : A) → a ≡ false → b ≡ true → (if a then x else if b then y else if c then z else v) ≡ y
second true b c x y z v e f = cc
second false true c x y z v e f = refl
second false false c x y z v e f = cc

third : {A : Type 0} (a b c : Bool) (x y z v : A) → a ≡ false → b ≡ false → c ≡ true → (if a then x else if b then y else if c then z else v) ≡ z
third true b c x y z v e f g = cc
third false true c x y z v e f g = cc
third false false true x y z v e f g = refl
third false false false x y z v e f g = cc

last : {A : Type 0} (a b c : Bool) (x y z v : A) → a ≡ false → b ≡ false → c ≡ false → (if a then x else if b then y else if c then z else v) ≡ v
last true b c x y z v e f g = cc
last false true c x y z v e f g = cc
last false false true x y z v e f g = cc
last false false false x y z v e f g = refl

abbrev int : Kind
int = plain_kind w.Int None

abbrev leaf : Leaf
leaf = record { width = 32; signed = true; four = false }

int_small : IsSmall int
int_small =
    let e = ap length (leaves_one leaf 31 0) in
    let f = levels_one leaf 31 0 in
    record { wide = omega (arith, e); deep = omega (arith, f) }

pub int_type : IsType int
int_type = record { small = int_small; valid = subst (λ s. All IsLeaf s) (sym (leaves_one leaf 31 0)) (All-cons IsLeaf leaf [] (omega arith, omega arith) (All-nil IsLeaf)) }

abbrev obj : Path → Bool
obj path = bytes_eq path.name (codes "obj")

abbrev two : Path → Bool
two path = bytes_eq path.name (codes "two")

abbrev own : Path → Bool
own path = bytes_eq path.name (codes "word")

pub told_other : (path : Path) → bytes_eq path.name (codes "obj") ≡ true → seen.Other ≡ type_in path
told_other path e = sym (first (obj path) (two path) (own path) seen.Other seen.Ambiguous (seen.Known int) seen.Unknown e)

pub told_two : (path : Path) → bytes_eq path.name (codes "obj") ≡ false → bytes_eq path.name (codes "two") ≡ true → seen.Ambiguous ≡ type_in path
told_two path e f = sym (second (obj path) (two path) (own path) seen.Other seen.Ambiguous (seen.Known int) seen.Unknown e f)

pub told_word : (path : Path) → bytes_eq path.name (codes "obj") ≡ false → bytes_eq path.name (codes "two") ≡ false → bytes_eq path.name (codes "word") ≡ true
    → seen.Known int ≡ type_in path
told_word path e f g = sym (third (obj path) (two path) (own path) seen.Other seen.Ambiguous (seen.Known int) seen.Unknown e f g)

pub told_unknown : (path : Path) → bytes_eq path.name (codes "obj") ≡ false → bytes_eq path.name (codes "two") ≡ false → bytes_eq path.name (codes "word") ≡ false → seen.Unknown ≡ type_in path
told_unknown path e f g = sym (last (obj path) (two path) (own path) seen.Other seen.Ambiguous (seen.Known int) seen.Unknown e f g)
