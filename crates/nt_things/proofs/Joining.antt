-- Copies of trees, one after another.
use Rattle.std.proofs.Common.{◌≡◌, ℕ, zero, suc, ◌+◌, List, [], ◌∷◌, ◌++◌, refl, ap, sym, ◌∙◌, arith}
use Rattle.std.proofs.lemmas.List.{append_assoc}
use Rattle.nt_design.specs.declared.tree.Tree.{Tree}
use Rattle.nt_typing.specs.Tables.{copies}

append_none : (ts : List Tree) → ts ++ [] ≡ ts
append_none [] = refl
append_none (t ∷ ts) = ap (λ us. t ∷ us) (append_none ts)

after : (n : ℕ) (ts : List Tree) → copies n ts ++ ts ≡ copies (suc n) ts
after zero ts = sym (append_none ts)
after (suc n) ts = append_assoc ts (copies n ts) ts ∙ ap (λ us. ts ++ us) (after n ts)

pub copies_more : (n : ℕ) (ts all next : List Tree) → all ≡ copies n ts → next ≡ all ++ ts → next ≡ copies (n + 1) ts
copies_more n ts all next e f = f ∙ ap (λ us. us ++ ts) e ∙ after n ts ∙ ap (λ m. copies m ts) (let g : suc n ≡ n + 1 = omega arith in g)
