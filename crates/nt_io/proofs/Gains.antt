-- Writes one after another.
use Rattle.std.proofs.Common.{◌≡◌, ℕ, ◌+◌, List, [], ◌++◌, take, drop, Option, Some, None, refl, sym, ◌∙◌, ap, subst, arith, append_assoc, append-nil}
use Rattle.std.proofs.Math.Seq.{take-add}
use Rattle.nt_io.specs.Sinks.{SinkMeaning, Appends, Gained}

-- these bytes and then those
pub appends_then : (old mid new : Option (List ℕ)) (xs ys : List ℕ) → Appends old mid xs → Appends mid new ys → Appends old new (xs ++ ys)
appends_then None mid new xs ys first second = tt
appends_then (Some held) mid new xs ys first second =
    let P : Option (List ℕ) → Type 0 = λ m. Appends m new ys in
    let after : new ≡ Some ((held ++ xs) ++ ys) = subst P first second in
    after ∙ ap (λ (l : List ℕ). Some l) (append_assoc held xs ys)

pub appends_nothing : (told : Option (List ℕ)) → Appends told told []
appends_nothing None = tt
appends_nothing (Some held) = ap (λ (l : List ℕ). Some l) (sym (append-nil held))

-- a write of these bytes and then one of those
pub gained_then : {a b c : SinkMeaning} {xs ys : List ℕ} → Gained a b xs → Gained b c ys → Gained a c (xs ++ ys)
gained_then {a} {b} {c} {xs} {ys} first second = record {
  written = appends_then a.written b.written c.written xs ys first.written second.written;
  path = second.path ∙ first.path;
  faults = omega (arith, first.faults, second.faults);
  open_faults = λ path. omega (arith, first.open_faults path, second.open_faults path);
}

-- no write at all
pub gained_nothing : {a : SinkMeaning} → Gained a a []
gained_nothing {a} = record {
  written = appends_nothing a.written;
  path = refl;
  faults = omega arith;
  open_faults = λ path. omega arith;
}

-- the first i bytes of a piece and then the first n of its rest
pub gained_more : {a b c : SinkMeaning} (bytes : List ℕ) (i n : ℕ) → Gained a b (take i bytes) → Gained b c (take n (drop i bytes)) → Gained a c (take (i + n) bytes)
gained_more {a} {b} {c} bytes i n first second =
    let P : List ℕ → Type 0 = λ l. Gained a c l in
    subst P (sym (take-add i n bytes)) (gained_then first second)
