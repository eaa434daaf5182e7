-- Where nothing outside fails, the status is the one that the words and the file ask for.
use Rattle.std.proofs.Common.{◌≡◌, ◌≢◌, inl, inr, ◌⊎◌, ℕ, List, [], Option, Some, get_or, refl, sym, ◌∙◌, ap, subst}
use Rattle.nt_io.specs.Sinks.{SinkMeaning}
use Rattle.nt_small.specs.Grammar.{Source, Says}
use Rattle.nettype_sim.specs.Words.{AreRunWords}
use Rattle.nettype_sim.specs.Outcomes.{NoRunWords, SaysNothing, RanText, NoneRose, StoppedWriting, witness_path}
use Rattle.nettype_sim.specs.Completeness.{IsAnswered}
use Rattle.nettype_sim.specs.declared.program.Status.{Status}
use Rattle.nettype_sim.specs.declared.program.Status.TheVariants.{Done, Usage, ReadFault, WriteFault, OutOfMemory, NotYet}

-- the words name one file and one module
one_file : (words : List (List ℕ)) (file top other there : List ℕ) (until till : ℕ) → AreRunWords words file top until → AreRunWords words other there till → file ≡ other
one_file words file top other there until till first second = ap (λ (ws : List (List ℕ)). get_or ws 1 []) (sym first.0 ∙ second.0)

one_top : (words : List (List ℕ)) (file top other there : List ℕ) (until till : ℕ) → AreRunWords words file top until → AreRunWords words other there till → top ≡ there
one_top words file top other there until till first second = ap (λ (ws : List (List ℕ)). get_or ws 3 []) (sym first.0 ∙ second.0)

-- no write failed where no count rose
pub no_write_failed : (until : ℕ) (told : Option (List ℕ)) (inputs inputs_now : List ℕ → ℕ) (file top : List ℕ) (t u w x : SinkMeaning) → NoneRose inputs inputs_now t u w x → StoppedWriting until told (inputs file) (inputs_now file) file top t u w x → ⊥
no_write_failed until told inputs inputs_now file top t u w x none (inl (nothing, tells)) = none.no_trace tells.cause
no_write_failed until told inputs inputs_now file top t u w x none (inr (inl (rose, tells))) = none.no_trace tells.cause
no_write_failed until told inputs inputs_now file top t u w x none (inr (inr (stopped, inl rose))) = none.no_trace rose
no_write_failed until told inputs inputs_now file top t u w x none (inr (inr (stopped, inr (inl rose)))) = none.no_witness rose
no_write_failed until told inputs inputs_now file top t u w x none (inr (inr (stopped, inr (inr rose)))) =
    none.no_open (witness_path top) rose

pub usage_answered : (status : Status) (words : List (List ℕ)) (bytes : List ℕ → Option (List ℕ)) → NoRunWords words → (status ≡ Usage) ⊎ (status ≡ WriteFault) → (status ≡ WriteFault → ⊥) → IsAnswered status words bytes
usage_answered status words bytes none either not_write = record {
  usage = λ _. elim either [
    | inl is ↦ is
    | inr fault ↦ absurd (not_write fault)
  ];
  done = λ file top text until s run told says. absurd (none file top until run);
  not_yet = λ file top text until run told nothing. absurd (none file top until run);
}

says_there : (until : ℕ) (told : Option (List ℕ)) (top text : List ℕ) (t u w x : SinkMeaning) → told ≡ Some text → RanText until told top t u w x → (s : Source) × Says top text s
says_there until told top text t u w x is ran =
    let there : RanText until (Some text) top t u w x = subst (λ (o : Option (List ℕ)). RanText until o top t u w x) is ran in
    (there.0, there.1)

nothing_there : (told : Option (List ℕ)) (top text : List ℕ) (s : Source) → told ≡ Some text → SaysNothing told top → Says top text s → ⊥
nothing_there told top text s is nothing says =
    let there : SaysNothing (Some text) top = subst (λ (o : Option (List ℕ)). SaysNothing o top) is nothing in
    there s says

-- what the status of a run says, one by one
is_done : (status : Status) → (status ≢ Usage) → (status ≡ NotYet → ⊥) → (status ≡ ReadFault → ⊥) → (status ≡ WriteFault → ⊥) → (status ≡ Done) ⊎ (status ≡ OutOfMemory)
is_done Done a b c d = inl refl
is_done Usage a b c d = absurd (a refl)
is_done ReadFault a b c d = absurd (c refl)
is_done WriteFault a b c d = absurd (d refl)
is_done OutOfMemory a b c d = inr refl
is_done NotYet a b c d = absurd (b refl)

is_not_yet : (status : Status) → (status ≢ Usage) → (status ≡ Done → ⊥) → (status ≡ ReadFault → ⊥) → (status ≡ WriteFault → ⊥) → (status ≡ NotYet) ⊎ (status ≡ OutOfMemory)
is_not_yet Done a b c d = absurd (b refl)
is_not_yet Usage a b c d = absurd (a refl)
is_not_yet ReadFault a b c d = absurd (c refl)
is_not_yet WriteFault a b c d = absurd (d refl)
is_not_yet OutOfMemory a b c d = inr refl
is_not_yet NotYet a b c d = inl refl

pub run_answered : (status : Status) (words : List (List ℕ)) (bytes : List ℕ → Option (List ℕ)) (file top : List ℕ) (until : ℕ) (t u w x : SinkMeaning) → AreRunWords words file top until → (status ≢ Usage) → (status ≡ Done → RanText until (bytes file) top t u w x) → (status ≡ NotYet → SaysNothing (bytes file) top) → (status ≡ ReadFault → ⊥) → (status ≡ WriteFault → ⊥) → IsAnswered status words bytes
run_answered status words bytes file top until t u w x run not_usage done not_yet not_read not_write = record {
  usage = λ none. absurd (none file top until run);
  done = λ other there text till s runs told says. is_done status not_usage (λ e. nothing_there (bytes file) top text s (at other there text till runs told) (not_yet e) (subst (λ (name : List ℕ). Says name text s) (sym (one_top words file top other there until till run runs)) says)) not_read not_write;
  not_yet = λ other there text till runs told nothing. is_not_yet status not_usage (λ e. let says = says_there until (bytes file) top text t u w x (at other there text till runs told) (done e) in nothing says.0 (subst (λ (name : List ℕ). Says name text says.0) (one_top words file top other there until till run runs) says.1)) not_read not_write;
}
  where
    at : (other there text : List ℕ) (till : ℕ) → AreRunWords words other there till → bytes other ≡ Some text → bytes file ≡ Some text
    at other there text till runs told = ap bytes (one_file words file top other there until till run runs) ∙ told
