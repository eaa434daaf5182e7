use Rattle.std.proofs.Common.{◌++◌, ◌∷◌, [], refl, sym, subst}
use Rattle.nt_small.specs.Grammar.{IsAllowed}
use Rattle.nt_small.specs.Said.{item_of}
use Rattle.nt_small.specs.Tables.{IsTable}
use Rattle.nt_small.proofs.Gathering.{may_declare, is_declarable, may_drive, is_drivable, declared_table, driven_table}
use Rattle.nt_small.proofs.table.Table.add.Goals as goal

pub returns-then-not-is_new-clause-refused : goal.returns-then-not-is_new-clause-refused
returns-then-not-is_new-clause-refused c = λ done is allowed.
    c.if-not-is_new.ensures.1 (may_declare _ done _ _ is (subst (λ i. IsAllowed c.args.nettype.now done (item_of i)) c.in-Declare.is allowed))

pub returns-in_default-clause-refused : goal.returns-in_default-clause-refused
returns-in_default-clause-refused c = λ done is allowed.
    let free = may_drive _ done c.args.nettype.now _ c.in-Drive.digits.now is (subst (λ i. IsAllowed c.args.nettype.now done (item_of i)) c.in-Drive.is allowed) in
    absurd (c.in_default.ensures.none free.0 free.1 free.2)

pub returns-in_ok-declare-in-Declare-clause-added : goal.returns-in_ok-declare-in-Declare-clause-added
returns-in_ok-declare-in-Declare-clause-added c = λ done is added.
    let new = c.if-not-is_new.ensures.0 refl in
    let grown = c.in_ok-declare-in-Declare.ensures in
    subst (λ i. IsAllowed c.args.nettype.now done (item_of i) × IsTable c.declare.new.self (done ++ item_of i ∷ [])) (sym c.in-Declare.is)
    (is_declarable _ done _ _ is new, declared_table _ _ done _ is new.2 grown.names grown.drivers grown.assigns)

pub returns-in_ok-drive-in-Drive-clause-added : goal.returns-in_ok-drive-in-Drive-clause-added
returns-in_ok-drive-in-Drive-clause-added c = λ done is added.
    let free = c.in-Some.ensures.found in
    let grown = c.in_ok-drive-in-Drive.ensures in
    subst (λ i. IsAllowed c.args.nettype.now done (item_of i) × IsTable c.drive.new.self (done ++ item_of i ∷ [])) (sym c.in-Drive.is)
    (is_drivable _ done c.args.nettype.now _ _ _ is free.0 free.1 (c.if-not-is_number.ensures.0 refl), driven_table _ _ done _ c.in-Drive.digits.now _ is free.0 free.1 grown.names grown.drivers grown.assigns)
