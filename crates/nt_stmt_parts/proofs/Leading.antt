-- Where trees lead, by their first nodes.
use Rattle.std.proofs.Common.{◌≡◌, ℕ, Bool, List, Result, Err, sym, ap, subst, ◌∙◌}
use denote.Hole.Carrier.{roll}
use Rattle.nt_value.specs.Digits.{LeafValue}
use Rattle.nt_value.specs.declared.leaf.Leaf.{Leaf}
use Rattle.nt_value.specs.declared.operator.Unary.{Unary}
use Rattle.nt_value.specs.declared.operator.Binary.{Binary}
use Rattle.nt_design.specs.declared.object.Object.{Object}
use Rattle.nt_design.specs.declared.target.Pick.TheVariants as pick
use Rattle.nt_design.specs.declared.target.Target.{Target}
use Rattle.nt_design.specs.declared.tree.Tree.{Tree}
use Rattle.nt_design.specs.declared.tree.Tree.TheOpen.{Tree-F}
use Rattle.nt_design.specs.declared.tree.Tree.TheVariants as t
use Rattle.nt_design.specs.declared.tree.Tree.TheViews.{out-Tree, out-roll-Tree, roll-Tree}
use Rattle.nt_drafts.specs.declared.unfit.Unfit.{Unfit}
use Rattle.nt_drafts.specs.declared.unfit.Unfit.TheVariants.{Breaks, OutOfMemory}
use Rattle.nt_typed_stmts.specs.Lefts.{into, Reaches, leaves_in, item_in, part_in, leaves_of, item_of, part_of}
use Rattle.nt_stmt_parts.specs.Parts.{Leads}

pub at_const : (P : Tree-F Tree → Type 0) (x : Tree) (v : List LeafValue) → t.Const v ≡ x → P (Tree-F.Const v) → P (out-Tree x)
unfolding roll-Tree roll
at_const P x v e h = subst (λ x. P (out-Tree x)) e (subst P (sym (out-roll-Tree (Tree-F.Const v))) h)

pub at_read : (P : Tree-F Tree → Type 0) (x : Tree) (o : Object) → t.Read o ≡ x → P (Tree-F.Read o) → P (out-Tree x)
unfolding roll-Tree roll
at_read P x o e h = subst (λ x. P (out-Tree x)) e (subst P (sym (out-roll-Tree (Tree-F.Read o))) h)

pub at_local : (P : Tree-F Tree → Type 0) (x : Tree) (i : ℕ) → t.Local i ≡ x → P (Tree-F.Local i) → P (out-Tree x)
unfolding roll-Tree roll
at_local P x i e h = subst (λ x. P (out-Tree x)) e (subst P (sym (out-roll-Tree (Tree-F.Local i))) h)

pub at_leaves : (P : Tree-F Tree → Type 0) (x : Tree) (a : Tree) (first count : ℕ) → t.Leaves a first count ≡ x → P (Tree-F.Leaves a first count) → P (out-Tree x)
unfolding roll-Tree roll
at_leaves P x a first count e h = subst (λ x. P (out-Tree x)) e (subst P (sym (out-roll-Tree (Tree-F.Leaves a first count))) h)

pub at_item : (P : Tree-F Tree → Type 0) (x : Tree) (a i : Tree) (low size : ℕ) (up : Bool) → t.Item a i low size up ≡ x → P (Tree-F.Item a i low size up) → P (out-Tree x)
unfolding roll-Tree roll
at_item P x a i low size up e h = subst (λ x. P (out-Tree x)) e (subst P (sym (out-roll-Tree (Tree-F.Item a i low size up))) h)

pub at_element : (P : Tree-F Tree → Type 0) (x : Tree) (i : Tree) → t.Element i ≡ x → P (Tree-F.Element i) → P (out-Tree x)
unfolding roll-Tree roll
at_element P x i e h = subst (λ x. P (out-Tree x)) e (subst P (sym (out-roll-Tree (Tree-F.Element i))) h)

pub at_part : (P : Tree-F Tree → Type 0) (x : Tree) (a low : Tree) (width : ℕ) → t.Part a low width ≡ x → P (Tree-F.Part a low width) → P (out-Tree x)
unfolding roll-Tree roll
at_part P x a low width e h = subst (λ x. P (out-Tree x)) e (subst P (sym (out-roll-Tree (Tree-F.Part a low width))) h)

pub at_unary : (P : Tree-F Tree → Type 0) (x : Tree) (op : Unary) (a : Tree) → t.Unary op a ≡ x → P (Tree-F.Unary op a) → P (out-Tree x)
unfolding roll-Tree roll
at_unary P x op a e h = subst (λ x. P (out-Tree x)) e (subst P (sym (out-roll-Tree (Tree-F.Unary op a))) h)

pub at_binary : (P : Tree-F Tree → Type 0) (x : Tree) (op : Binary) (a b : Tree) → t.Binary op a b ≡ x → P (Tree-F.Binary op a b) → P (out-Tree x)
unfolding roll-Tree roll
at_binary P x op a b e h = subst (λ x. P (out-Tree x)) e (subst P (sym (out-roll-Tree (Tree-F.Binary op a b))) h)

pub at_choose : (P : Tree-F Tree → Type 0) (x : Tree) (test a b : Tree) → t.Choose test a b ≡ x → P (Tree-F.Choose test a b) → P (out-Tree x)
unfolding roll-Tree roll
at_choose P x test a b e h = subst (λ x. P (out-Tree x)) e (subst P (sym (out-roll-Tree (Tree-F.Choose test a b))) h)

pub at_concat : (P : Tree-F Tree → Type 0) (x : Tree) (parts : List Tree) → t.Concat parts ≡ x → P (Tree-F.Concat parts) → P (out-Tree x)
unfolding roll-Tree roll
at_concat P x parts e h = subst (λ x. P (out-Tree x)) e (subst P (sym (out-roll-Tree (Tree-F.Concat parts))) h)

pub at_gather : (P : Tree-F Tree → Type 0) (x : Tree) (parts : List Tree) → t.Gather parts ≡ x → P (Tree-F.Gather parts) → P (out-Tree x)
unfolding roll-Tree roll
at_gather P x parts e h = subst (λ x. P (out-Tree x)) e (subst P (sym (out-roll-Tree (Tree-F.Gather parts))) h)

pub at_resize : (P : Tree-F Tree → Type 0) (x : Tree) (a : Tree) (to : Leaf) → t.Resize a to ≡ x → P (Tree-F.Resize a to) → P (out-Tree x)
unfolding roll-Tree roll
at_resize P x a to e h = subst (λ x. P (out-Tree x)) e (subst P (sym (out-roll-Tree (Tree-F.Resize a to))) h)

pub at_call : (P : Tree-F Tree → Type 0) (x : Tree) (f : ℕ) (args : List Tree) → t.Call f args ≡ x → P (Tree-F.Call f args) → P (out-Tree x)
unfolding roll-Tree roll
at_call P x f args e h = subst (λ x. P (out-Tree x)) e (subst P (sym (out-roll-Tree (Tree-F.Call f args))) h)

pub at_size : (P : Tree-F Tree → Type 0) (x : Tree) → t.Size ≡ x → P Tree-F.Size → P (out-Tree x)
unfolding roll-Tree roll
at_size P x e h = subst (λ x. P (out-Tree x)) e (subst P (sym (out-roll-Tree Tree-F.Size)) h)

pub at_time : (P : Tree-F Tree → Type 0) (x : Tree) → t.Time ≡ x → P Tree-F.Time → P (out-Tree x)
unfolding roll-Tree roll
at_time P x e h = subst (λ x. P (out-Tree x)) e (subst P (sym (out-roll-Tree Tree-F.Time)) h)

-- ---- one step further
pub leaves_to : (a : Tree) (first count : ℕ) (to z : Target) → z ≡ into to (pick.Leaves first count) → Reaches (out-Tree a) to → Reaches (Tree-F.Leaves a first count) z
leaves_to a first count to z e h = subst (Reaches (Tree-F.Leaves a first count)) (sym e) (leaves_in a first count h)

pub item_to : (a i j : Tree) (low size : ℕ) (up : Bool) (to z : Target) → j ≡ i → z ≡ into to (pick.Item j low size up) → Reaches (out-Tree a) to → Reaches (Tree-F.Item a i low size up) z
item_to a i j low size up to z f e h = subst (Reaches (Tree-F.Item a i low size up)) (sym (e ∙ ap (λ j. into to (pick.Item j low size up)) f)) (item_in a i low size up h)

pub part_to : (a i j : Tree) (width : ℕ) (to z : Target) → j ≡ i → z ≡ into to (pick.Part j width) → Reaches (out-Tree a) to → Reaches (Tree-F.Part a i width) z
part_to a i j width to z f e h = subst (Reaches (Tree-F.Part a i width)) (sym (e ∙ ap (λ j. into to (pick.Part j width)) f)) (part_in a i width h)

-- ---- a fault rises
pub leaves_err : (a : Tree) (first count : ℕ) (f : Unfit) → Leads (out-Tree a) (Err f) → Leads (Tree-F.Leaves a first count) (Err f)
leaves_err a first count (Breaks r) h = leaves_of a first count h
leaves_err a first count (OutOfMemory e) h = tt

pub item_err : (a i : Tree) (low size : ℕ) (up : Bool) (f : Unfit) → Leads (out-Tree a) (Err f) → Leads (Tree-F.Item a i low size up) (Err f)
item_err a i low size up (Breaks r) h = item_of a i low size up h
item_err a i low size up (OutOfMemory e) h = tt

pub part_err : (a low : Tree) (width : ℕ) (f : Unfit) → Leads (out-Tree a) (Err f) → Leads (Tree-F.Part a low width) (Err f)
part_err a low width (Breaks r) h = part_of a low width h
part_err a low width (OutOfMemory e) h = tt

pub leads_back : (n : Tree-F Tree) (r : Result Target Unfit) (f : Unfit) → r ≡ Err f → Leads n (Err f) → Leads n r
leads_back n r f e h = subst (Leads n) (sym e) h

pub leads_was : (n : Tree-F Tree) (r q : Result Target Unfit) → r ≡ q → Leads n r → Leads n q
leads_was n r q e h = subst (Leads n) e h
