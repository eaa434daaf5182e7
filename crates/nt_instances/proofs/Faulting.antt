-- The faults of instances, one by one.
use Rattle.std.proofs.Common.{◌≡◌, ℕ, suc, ◌<◌, ◌≤◌, ◌⊎◌, true, false, List, [], ◌∷◌, length, take, min, slice_get, Option, Some, None, refl, sym, ap, subst, ◌∙◌, inl, inr, arith}
use Rattle.std.specs.List.{list_any}
use Rattle.std.proofs.lemmas.Option.{slice_get_within}
use Rattle.nt_value.specs.declared.place.Place.{Place}
use Rattle.nt_diag.specs.declared.refusal.Refusal.{Refusal}
use Rattle.nt_diag.specs.declared.rule.Rule.{Rule}
use Rattle.nt_diag.specs.declared.rule.Rule.TheVariants as rule
use Rattle.nt_diag.specs.Order.{IsLeast, IsLeastOf, earlier, Among, AmongAll, among}
use Rattle.nt_diag.proofs.Least.{least_one, both_least, alike_least}
use Rattle.nt_items.specs.declared.item.Conn.{Conn}
use Rattle.nt_items.specs.declared.item.Item.{Item}
use Rattle.nt_items.specs.declared.item.Item.TheOpen.{Item-F}
use Rattle.nt_items.specs.declared.item.Item.TheViews.{out-Item, roll-Item, out-roll-Item}
use Rattle.nt_items.specs.declared.item.Item.TheVariants as i
use denote.Hole.Carrier.{roll}
use Rattle.nt_unit_names.specs.Faults.{refusal}
use Rattle.nt_instances.specs.declared.rows.Row.{Row}
use Rattle.nt_instances.specs.Modules.{find_module, port_names, param_names}
use Rattle.nt_instances.specs.Rows.{is_open, most_instances}
use Rattle.nt_instances.specs.Faults.{is_target, targets_from, targets, ConnFault, nothing, again, ConnsFault, ModuleFault, no_module, inside_itself, HeadFault, in_params, in_ports, InstanceFault, in_module, in_head, RowFault, RowsFault, in_row, too_many, PastFault, past}

-- ---- modules
only_none : (row : Row) (at : Place) (o : Option ℕ) → o ≡ None → (r : Refusal) → ModuleFault row at o r → r ≡ refusal rule.P1 at
only_none row at o e r no_module = refl
only_none row at o e r (inside_itself m f) = cc

pub module_none : (row : Row) (at : Place) (o : Option ℕ) → o ≡ None → IsLeast (ModuleFault row at o) (refusal rule.P1 at)
module_none row at o e = least_one _ _ (subst (λ o. ModuleFault row at o (refusal rule.P1 at)) (sym e) no_module) (λ r f. only_none row at o e r f)

only_open : (row : Row) (at : Place) (m : ℕ) (o : Option ℕ) → o ≡ Some m → (r : Refusal) → ModuleFault row at o r → r ≡ refusal rule.P6 at
only_open row at m o e r no_module = cc
only_open row at m o e r (inside_itself n f) = refl

pub module_open : (row : Row) (at : Place) (o : Option ℕ) (m : ℕ) → o ≡ Some m → is_open row m ≡ true → IsLeast (ModuleFault row at o) (refusal rule.P6 at)
module_open row at o m e t = least_one _ _ (subst (λ o. ModuleFault row at o (refusal rule.P6 at)) (sym e) (inside_itself m t)) (λ r f. only_open row at m o e r f)

pub module_closed : (row : Row) (at : Place) (o : Option ℕ) (m : ℕ) → o ≡ Some m → is_open row m ≡ false → (r : Refusal) → ModuleFault row at o r → ⊥
module_closed row at o m e t r no_module = cc
module_closed row at o m e t r (inside_itself n f) = let g : m ≡ n = cc in cc

-- ---- connections
only_conn : {q : Rule} {ts : List (Option ℕ)} {k : ℕ} {c : Conn} (r : Refusal) → ConnFault q ts k c r → r ≡ refusal q c.at
only_conn r (nothing f) = refl
only_conn r (again t f g) = refl

pub conn_nothing : (q : Rule) (ts : List (Option ℕ)) (k : ℕ) (c : Conn) → slice_get ts k ≡ Some None → IsLeast (ConnFault q ts k c) (refusal q c.at)
conn_nothing q ts k c e = least_one _ _ (nothing e) (λ r f. only_conn r f)

pub conn_again : (q : Rule) (ts : List (Option ℕ)) (k : ℕ) (c : Conn) (t : ℕ) → slice_get ts k ≡ Some (Some t) → list_any (is_target t) (take k ts) ≡ true → IsLeast (ConnFault q ts k c) (refusal q c.at)
conn_again q ts k c t e f = least_one _ _ (again t e f) (λ r f. only_conn r f)

pub conn_fine : (q : Rule) (ts : List (Option ℕ)) (k : ℕ) (c : Conn) (t : ℕ) → slice_get ts k ≡ Some (Some t) → list_any (is_target t) (take k ts) ≡ false → (r : Refusal) → ConnFault q ts k c r → ⊥
conn_fine q ts k c t e f r (nothing g) = cc
conn_fine q ts k c t e f r (again u g h) = let s : t ≡ u = cc in cc

-- ---- instances
out_head : {ms : List Item} {params ports : List Conn} (m : ℕ) (o : Option ℕ) → o ≡ Some m → (r : Refusal) → HeadFault ms params ports o r
    → ConnsFault rule.P7 (param_names (slice_get ms m)) params r ⊎ ConnsFault rule.P2 (port_names (slice_get ms m)) ports r
out_head {ms = ms} {params = params} m o e r (in_params n f) = let s : n ≡ m = cc in inl (subst (λ k. ConnsFault rule.P7 (param_names (slice_get ms k)) params r) s f)
out_head {ms = ms} {ports = ports} m o e r (in_ports n f) = let s : n ≡ m = cc in inr (subst (λ k. ConnsFault rule.P2 (port_names (slice_get ms k)) ports r) s f)

pub head_all : (ms : List Item) (params ports : List Conn) (m : ℕ) (o : Option ℕ) (ps qs : List (List ℕ)) (a b c : Option Refusal) → o ≡ Some m
    → ps ≡ param_names (slice_get ms m) → qs ≡ port_names (slice_get ms m)
    → IsLeastOf (ConnsFault rule.P7 ps params) a → IsLeastOf (ConnsFault rule.P2 qs ports) b → c ≡ earlier a b → IsLeastOf (HeadFault ms params ports o) c
head_all ms params ports m o ps qs a b c e of_params of_ports f g h =
    both_least (ConnsFault rule.P7 (param_names (slice_get ms m)) params) (ConnsFault rule.P2 (port_names (slice_get ms m)) ports) (HeadFault ms params ports o) a b c
    (subst (λ ns. IsLeastOf (ConnsFault rule.P7 ns params) a) of_params f) (subst (λ ns. IsLeastOf (ConnsFault rule.P2 ns ports) b) of_ports g) h
    (λ r x. elim x [ inl y ↦ subst (λ o. HeadFault ms params ports o r) (sym e) (in_params m y) | inr y ↦ subst (λ o. HeadFault ms params ports o r) (sym e) (in_ports m y) ])
    (λ r x. out_head m o e r x)

pub head_none : (ms : List Item) (params ports : List Conn) (o : Option ℕ) → o ≡ None → (r : Refusal) → HeadFault ms params ports o r → ⊥
head_none ms params ports o e r (in_params n f) = cc
head_none ms params ports o e r (in_ports n f) = cc

out_instance : {ms : List Item} {row : Row} {k : ℕ} {at module_at : Place} {of name : List ℕ} {params ports : List Conn} (r : Refusal) → InstanceFault ms row k (Item-F.Instance at module_at of params name ports) r
    → ModuleFault row module_at (find_module ms of) r ⊎ HeadFault ms params ports (find_module ms of) r
out_instance r (in_module _ _ _ _ _ _ f) = inl f
out_instance r (in_head _ _ _ _ _ _ f) = inr f

pub instance_all : (ms : List Item) (row : Row) (k : ℕ) (item : Item) (at module_at : Place) (of name : List ℕ) (params ports : List Conn) (found : Option ℕ) (a b c : Option Refusal)
    → out-Item item ≡ Item-F.Instance at module_at of params name ports → found ≡ find_module ms of
    → IsLeastOf (ModuleFault row module_at found) a → IsLeastOf (HeadFault ms params ports found) b → c ≡ earlier a b → IsLeastOf (InstanceFault ms row k (out-Item item)) c
instance_all ms row k item at module_at of name params ports found a b c is e f g h =
    subst (λ x. IsLeastOf (InstanceFault ms row k x) c) (sym is)
    (both_least (ModuleFault row module_at (find_module ms of)) (HeadFault ms params ports (find_module ms of)) (InstanceFault ms row k (Item-F.Instance at module_at of params name ports)) a b c
    (subst (λ o. IsLeastOf (ModuleFault row module_at o) a) e f) (subst (λ o. IsLeastOf (HeadFault ms params ports o) b) e g) h
    (λ r x. elim x [ inl y ↦ in_module at module_at of name params ports y | inr y ↦ in_head at module_at of name params ports y ])
    (λ r x. out_instance r x))

-- ---- all
past_only : (rows : List Row) (row : Row) → slice_get rows most_instances ≡ Some row → (r : Refusal) → PastFault rows r → r ≡ refusal rule.P8 row.at
past_only rows row e r (past other at) = let g : other ≡ row = cc in ap (λ (o : Row). refusal rule.P8 o.at) g

pub past_one : (rows : List Row) (row : Row) → slice_get rows most_instances ≡ Some row → IsLeast (PastFault rows) (refusal rule.P8 row.at)
past_one rows row e = least_one _ _ (past row e) (λ r f. past_only rows row e r f)

pub past_none : (rows : List Row) → length rows ≤ most_instances → (r : Refusal) → PastFault rows r → ⊥
past_none rows le r (past row at) = let lt = slice_get_within rows most_instances row at in absurd (omega (arith, lt, le))

cut_among : {A : Type 0} (F : ℕ → A → Refusal → Type 0) (m n : ℕ) (xs : List A) → ((k : ℕ) → k < length xs → k < m → k < n) → (r : Refusal) → Among F m xs r → Among F n xs r
cut_among F m n xs le r (among k x lt at f) = among k x (le k (slice_get_within xs k x at) lt) at f

out_rows : {ms : List Item} {rows : List Row} (r : Refusal) → RowsFault ms rows r → Among (RowFault ms) most_instances rows r ⊎ PastFault rows r
out_rows r (in_row f) = inl f
out_rows r (too_many f) = inr f

pub rows_all : (ms : List Item) (n : ℕ) (rows : List Row) (a b c : Option Refusal) → n ≡ min most_instances (length rows) → IsLeastOf (Among (RowFault ms) n rows) a → IsLeastOf (PastFault rows) b → c ≡ earlier a b → IsLeastOf (RowsFault ms rows) c
rows_all ms n rows a b c e f g h =
    both_least (Among (RowFault ms) most_instances rows) (PastFault rows) (RowsFault ms rows) a b c
    (alike_least (Among (RowFault ms) n rows) (Among (RowFault ms) most_instances rows) a (cut_among (RowFault ms) n most_instances rows (λ k lt le. omega arith)) (cut_among (RowFault ms) most_instances n rows (λ k lt le. omega arith)) f)
    g h (λ r x. elim x [ inl i ↦ in_row i | inr t ↦ too_many t ]) (λ r x. out_rows r x)

length_from : (names : List (List ℕ)) (k : ℕ) (cs : List Conn) → length (targets_from names k cs) ≡ length cs
length_from names k [] = refl
length_from names k (c ∷ cs) = ap suc (length_from names (suc k) cs)

pub length_targets : (names : List (List ℕ)) (cs : List Conn) → length (targets names cs) ≡ length cs
length_targets names cs = length_from names 0 cs

pub conns_least : (q : Rule) (names : List (List ℕ)) (cs : List Conn) (ts : List (Option ℕ)) (a : Option Refusal) → ts ≡ targets names cs → IsLeastOf (AmongAll (ConnFault q ts) cs) a → IsLeastOf (ConnsFault q names cs) a
conns_least q names cs ts a e f = subst (λ us. IsLeastOf (AmongAll (ConnFault q us) cs) a) e f

-- the node of an instance
pub seen_instance : (x : Item) (at module_at : Place) (of : List ℕ) (params : List Conn) (name : List ℕ) (ports : List Conn) → x ≡ i.Instance at module_at of params name ports → out-Item x ≡ Item-F.Instance at module_at of params name ports
unfolding roll-Item roll
seen_instance x at module_at of params name ports e = ap out-Item e ∙ out-roll-Item (Item-F.Instance at module_at of params name ports)
