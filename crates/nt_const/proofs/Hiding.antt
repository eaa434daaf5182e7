-- What is no constant, by the first node.
use Rattle.std.proofs.Common.{◌≡◌, ℕ, ◌+◌, ◌<◌, ◌≤◌, ◌||◌, Bool, true, false, List, [], ◌∷◌, length, drop, get_or, Result, Ok, Err, IfOk, sym, ap, ◌∙◌, subst}
use Rattle.std.proofs.lemmas.List.{drop_more, drop_all}
use Rattle.nt_ast.specs.declared.expr.Expr.{Expr}
use Rattle.nt_ast.specs.declared.expr.Expr.TheViews.{out-Expr}
use Rattle.nt_ast.specs.Places.{Node}
use Rattle.nt_const.specs.Rules.{Names, operands, Never, Hides, never, hides, AnyHides, hides_here, hides_there}
use Rattle.nt_const.specs.Forms.{HidesIs, AnyIs}

module _ {k : Names} where
  not_any : (x : Node) → (Never k x → ⊥) → (AnyHides k (operands x) → ⊥) → Hides k x → ⊥
  not_any x n m (never w) = n w
  not_any x n m (hides _ w) = m w

  pub no_operands : AnyHides k [] → ⊥
  no_operands h = elim h [ ]

  neither : (x : Expr) (xs : List Expr) → (Hides k (out-Expr x) → ⊥) → (AnyHides k xs → ⊥) → AnyHides k (x ∷ xs) → ⊥
  neither x xs m n (hides_here _ _ h) = m h
  neither x xs m n (hides_there _ _ h) = n h

module _ (k : Names) where
  pub hides_at : (b : Bool) (x n : Node) → x ≡ n → HidesIs k b n → HidesIs k b x
  hides_at b x n e h = subst (λ n. HidesIs k b n) (sym e) h

  pub hides_of : (b : Bool) (x y : Expr) → x ≡ y → HidesIs k b (out-Expr x) → HidesIs k b (out-Expr y)
  hides_of b x y e h = subst (λ x. HidesIs k b (out-Expr x)) e h

  pub any_of : (b : Bool) (xs ys : List Expr) → xs ≡ ys → AnyIs k b xs → AnyIs k b ys
  any_of b xs ys e h = subst (λ xs. AnyIs k b xs) e h

  pub hides_true : (b : Bool) (x : Node) → b ≡ true → HidesIs k b x → Hides k x
  hides_true b x e h = subst (λ b. HidesIs k b x) e h

  pub hides_false : (b : Bool) (x : Node) → b ≡ false → HidesIs k b x → Hides k x → ⊥
  hides_false b x e h = subst (λ b. HidesIs k b x) e h

  pub by_operands : (b : Bool) (x : Node) → (Never k x → ⊥) → AnyIs k b (operands x) → HidesIs k b x
  by_operands true x n h = hides x h
  by_operands false x n h = not_any x n h

  pub any_more : (a b : Bool) (x : Expr) (xs : List Expr) → HidesIs k a (out-Expr x) → AnyIs k b xs → AnyIs k (a || b) (x ∷ xs)
  any_more true b x xs h i = hides_here x xs h
  any_more false true x xs h i = hides_there x xs i
  any_more false false x xs h i = neither x xs h i

  pub any_one : (a : Bool) (x : Expr) → HidesIs k a (out-Expr x) → AnyIs k a (x ∷ [])
  any_one true x h = hides_here x [] h
  any_one false x h = neither x [] h no_operands

pub if_ok : {A E : Type 0} (P Q : A → Type 0) (r : Result A E) → ((a : A) → P a → Q a) → IfOk r P → IfOk r Q
if_ok P Q (Ok a) f h = f a h
if_ok P Q (Err e) f h = tt

-- the loop: what the rest hides, the whole does
pub record Seeking (k : Names) (xs : List Expr) (i : ℕ) : Type 0 where
  pub on : AnyHides k (drop i xs) → AnyHides k xs
  pub back : AnyHides k xs → AnyHides k (drop i xs)

pub opened : (xs : List Expr) (i : ℕ) (x : Expr) → i < length xs → x ≡ get_or xs i x → drop i xs ≡ x ∷ drop (i + 1) xs
opened xs i x lt e = drop_more xs i x lt ∙ ap (λ y. y ∷ drop (i + 1) xs) (sym e)

module _ {k : Names} where
  past : (x : Expr) (xs : List Expr) → (Hides k (out-Expr x) → ⊥) → AnyHides k (x ∷ xs) → AnyHides k xs
  past x xs n (hides_here _ _ h) = absurd (n h)
  past x xs n (hides_there _ _ h) = h

  pub seek_none : (xs : List Expr) → Seeking k xs 0
  seek_none xs = record { on = λ h. h; back = λ h. h }

  pub seek_more : (xs : List Expr) (i : ℕ) (x : Expr) → drop i xs ≡ x ∷ drop (i + 1) xs → (Hides k (out-Expr x) → ⊥) → Seeking k xs i → Seeking k xs (i + 1)
  seek_more xs i x e n s =
      record {
        on = λ h. s.on (subst (λ ys. AnyHides k ys) (sym e) (hides_there x _ h));
        back = λ h. past x _ n (subst (λ ys. AnyHides k ys) e (s.back h));
      }

  pub seek_found : (xs : List Expr) (i : ℕ) (x : Expr) → drop i xs ≡ x ∷ drop (i + 1) xs → Hides k (out-Expr x) → Seeking k xs i → AnyHides k xs
  seek_found xs i x e h s = s.on (subst (λ ys. AnyHides k ys) (sym e) (hides_here x _ h))

  pub seek_done : (xs : List Expr) (i : ℕ) → length xs ≤ i → Seeking k xs i → AnyHides k xs → ⊥
  seek_done xs i le s h = no_operands (subst (λ ys. AnyHides k ys) (drop_all i xs le) (s.back h))
