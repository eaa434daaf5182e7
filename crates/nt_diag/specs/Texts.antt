-- The texts of rules and refusals.
use Rattle.std.specs.Prelude.{ℕ, List, ◌++◌, codes, decimal}
use Rattle.nt_diag.specs.declared.rule.Rule.{Rule}
use Rattle.nt_diag.specs.declared.rule.Rule.TheVariants.{X1, X2, X3, X4, X5, X6, X7, S1, S2, S3, T1, T2, T3, T4, T5, T6, T7, T8, T9, T10, T11, T12, T13, T14, T15, T16, T17, T18, N1, N2, N3, N4, N5, N6, N7, P1, P2, P3, P4, P5, P6, P7, P8, M1, M2, K1, K2, K3, K4, K5, K6}
use Rattle.nt_diag.specs.declared.refusal.Refusal.{Refusal}

-- the code of a rule
abbrev pub rule_code : Rule → List ℕ
rule_code X1 = codes "X1"
rule_code X2 = codes "X2"
rule_code X3 = codes "X3"
rule_code X4 = codes "X4"
rule_code X5 = codes "X5"
rule_code X6 = codes "X6"
rule_code X7 = codes "X7"
rule_code S1 = codes "S1"
rule_code S2 = codes "S2"
rule_code S3 = codes "S3"
rule_code T1 = codes "T1"
rule_code T2 = codes "T2"
rule_code T3 = codes "T3"
rule_code T4 = codes "T4"
rule_code T5 = codes "T5"
rule_code T6 = codes "T6"
rule_code T7 = codes "T7"
rule_code T8 = codes "T8"
rule_code T9 = codes "T9"
rule_code T10 = codes "T10"
rule_code T11 = codes "T11"
rule_code T12 = codes "T12"
rule_code T13 = codes "T13"
rule_code T14 = codes "T14"
rule_code T15 = codes "T15"
rule_code T16 = codes "T16"
rule_code T17 = codes "T17"
rule_code T18 = codes "T18"
rule_code N1 = codes "N1"
rule_code N2 = codes "N2"
rule_code N3 = codes "N3"
rule_code N4 = codes "N4"
rule_code N5 = codes "N5"
rule_code N6 = codes "N6"
rule_code N7 = codes "N7"
rule_code P1 = codes "P1"
rule_code P2 = codes "P2"
rule_code P3 = codes "P3"
rule_code P4 = codes "P4"
rule_code P5 = codes "P5"
rule_code P6 = codes "P6"
rule_code P7 = codes "P7"
rule_code P8 = codes "P8"
rule_code M1 = codes "M1"
rule_code M2 = codes "M2"
rule_code K1 = codes "K1"
rule_code K2 = codes "K2"
rule_code K3 = codes "K3"
rule_code K4 = codes "K4"
rule_code K5 = codes "K5"
rule_code K6 = codes "K6"

-- a refusal in a file of this name: its rule, the file, and the line and column of its place
abbrev pub refusal_text : Refusal → List ℕ → List ℕ
refusal_text r file =
    rule_code r.rule ++ codes " " ++ file ++ codes ":" ++ decimal r.place.line ++ codes ":" ++ decimal r.place.column
