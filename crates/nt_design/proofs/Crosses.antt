-- Threads may share a design, and one may be handed to another thread: so may expressions, targets, statements,
-- procedures, assignments and functions. Each is shown once here, since a `search` that goes down through statements runs
-- out of steps. Where a call asks it of a type, its answer is a `search` of `sendable` and the lemma of the type, with
-- `depth 12` for a closure that borrows it.
use denote.RattleType.{RattleType}
use denote.Param.Send.{IsSend, IsSync, sendable, enum_send, enum_sync}
use denote.Enum.Declared.{shape}
use denote.Struct.Tuple.{Tuple}
use mathlib.Core.List.{[], ◌∷◌}
use Rattle.sqlite_items.specs.contracts.items.Items as Items
use denote.Param.SendFields.{declared_send, declared_sync, variants_send, variants_sync, as_row_send, as_row_sync}
use Rattle.std.proofs.option.Option.TheSendSync as option
use Rattle.sqlite_items.proofs.boxed.Boxed.TheSendSync as boxed
use Rattle.sqlite_items.proofs.items.Items.TheSendSync as items
use Rattle.nt_value.proofs.kind.Edge.TheSendSync as edge
use Rattle.nt_value.proofs.kind.ProcKind.TheSendSync as proc_kind
use Rattle.nt_value.proofs.leaf.Leaf.TheSendSync as leaf
use Rattle.nt_value.proofs.operator.Binary.TheSendSync as binary
use Rattle.nt_value.proofs.operator.Unary.TheSendSync as unary
use Rattle.nt_value.proofs.place.Place.TheSendSync as place
use Rattle.nt_value.proofs.text.Name.TheSendSync as name
use Rattle.nt_value.proofs.text.Text.TheSendSync as text
use Rattle.nt_value.proofs.unit.Unit.TheSendSync as unit
use Rattle.nt_value.proofs.value.Shape.TheSendSync as shape
use Rattle.nt_value.proofs.value.Value.TheSendSync as value
use Rattle.nt_value.specs.contracts.value.Shape as Shape
use Rattle.nt_design.proofs.act.Act.TheLaws.TheKnot as act_knot
use Rattle.nt_design.proofs.design.Scoped.TheSendSync as scoped
use Rattle.nt_design.proofs.object.Net.TheSendSync as net
use Rattle.nt_design.proofs.object.Object.TheSendSync as object
use Rattle.nt_design.proofs.object.Var.TheSendSync as var
use Rattle.nt_design.proofs.tree.Tree.TheLaws.TheKnot as tree_knot
use Rattle.nt_design.specs.contracts.act.Act as Act
use Rattle.nt_design.specs.contracts.design.Design as Design
use Rattle.nt_design.specs.contracts.design.Scoped as Scoped
use Rattle.nt_design.specs.contracts.function.Function as Function
use Rattle.nt_design.specs.contracts.object.Net as Net
use Rattle.nt_design.specs.contracts.object.Object as Object
use Rattle.nt_design.specs.contracts.object.Var as Var
use Rattle.nt_design.specs.contracts.process.Assign as Assign
use Rattle.nt_design.specs.contracts.process.Proc as Proc
use Rattle.nt_design.specs.contracts.target.Pick as Pick
use Rattle.nt_design.specs.contracts.target.Target as Target
use Rattle.nt_design.specs.contracts.tree.Tree as Tree

tree_field_send : IsSend (Tree.the_field).row
tree_field_send = search (tree_knot.crosses, sendable, value.the_send, object.the_field_send, boxed.the_send, unary.the_field_send, binary.the_field_send, items.the_send, leaf.the_field_send) depth 9

pub tree_send : IsSend Tree.the_row
tree_send = as_row_send Tree.the_field tree_field_send

pub pick_send : IsSend Pick.the_row
pick_send = variants_send Pick.enum ((search sendable, (search sendable, tt)), ((tree_send, (search sendable, (search sendable, (search sendable, tt)))), ((tree_send, (search sendable, tt)), tt)))

pub target_send : IsSend Target.the_row
target_send = let path = items.the_send Pick.the_row pick_send in
    variants_send Target.enum ((search sendable, (path, tt)), ((search sendable, (search sendable, (search sendable, (search sendable, tt)))), ((search sendable, (path, tt)), tt)))

target_field_send : IsSend (Target.the_field).row
target_field_send = let path = items.the_send Pick.the_row pick_send in
    enum_send (shape Target.the_type) ((search sendable, (path, tt)), ((search sendable, (search sendable, (search sendable, (search sendable, tt)))), ((search sendable, (path, tt)), tt)))

arms_send : (R : RattleType) → IsSend R → IsSend (Items.the_row (Tuple (Items.the_row Tree.the_row ∷ R ∷ [])))
arms_send R s = let trees = items.the_send Tree.the_row tree_send in
    let arm : IsSend (Tuple (Items.the_row Tree.the_row ∷ R ∷ [])) = search sendable in
    items.the_send (Tuple (Items.the_row Tree.the_row ∷ R ∷ [])) arm

act_field_send : IsSend (Act.the_field).row
act_field_send = search (act_knot.crosses, sendable, arms_send, items.the_send, boxed.the_send, option.the_send, option.the_field_send, place.the_field_send, target_field_send, tree_field_send, tree_send, edge.the_send, text.the_send) depth 12

pub act_send : IsSend Act.the_row
act_send = as_row_send Act.the_field act_field_send

pub proc_send : IsSend Proc.the_row
proc_send = let reads = items.the_send Object.the_row object.the_send in let locals = items.the_send Shape.the_row shape.the_send in
    declared_send Proc.the_type (proc_kind.the_send, (act_send, (reads, (locals, (place.the_send, tt)))))

pub assign_send : IsSend Assign.the_row
assign_send = let reads = items.the_send Object.the_row object.the_send in
    declared_send Assign.the_type (target_send, (tree_send, (reads, (place.the_send, tt))))

pub function_send : IsSend Function.the_row
function_send = let shapes = items.the_send Shape.the_row shape.the_send in
    declared_send Function.the_type (name.the_send, (shapes, (search sendable, (shapes, (shape.the_send, (items.the_send Act.the_row act_send, (place.the_send, tt)))))))

pub design_send : IsSend Design.the_row
design_send = let nets = items.the_send Net.the_row net.the_send in
    let vars = items.the_send Var.the_row var.the_send in
    let procs = items.the_send Proc.the_row proc_send in
    let assigns = items.the_send Assign.the_row assign_send in
    let functions = items.the_send Function.the_row function_send in
    let scopes = items.the_send Scoped.the_row scoped.the_send in
    declared_send Design.the_type (nets, (vars, (procs, (assigns, (functions, (scopes, (unit.the_send, tt)))))))

tree_field_sync : IsSync (Tree.the_field).row
tree_field_sync = search (tree_knot.crosses, sendable, value.the_sync, object.the_field_sync, boxed.the_sync, unary.the_field_sync, binary.the_field_sync, items.the_sync, leaf.the_field_sync) depth 9

pub tree_sync : IsSync Tree.the_row
tree_sync = as_row_sync Tree.the_field tree_field_sync

pub pick_sync : IsSync Pick.the_row
pick_sync = variants_sync Pick.enum ((search sendable, (search sendable, tt)), ((tree_sync, (search sendable, (search sendable, (search sendable, tt)))), ((tree_sync, (search sendable, tt)), tt)))

pub target_sync : IsSync Target.the_row
target_sync = let path = items.the_sync Pick.the_row pick_sync in
    variants_sync Target.enum ((search sendable, (path, tt)), ((search sendable, (search sendable, (search sendable, (search sendable, tt)))), ((search sendable, (path, tt)), tt)))

target_field_sync : IsSync (Target.the_field).row
target_field_sync = let path = items.the_sync Pick.the_row pick_sync in
    enum_sync (shape Target.the_type) ((search sendable, (path, tt)), ((search sendable, (search sendable, (search sendable, (search sendable, tt)))), ((search sendable, (path, tt)), tt)))

arms_sync : (R : RattleType) → IsSync R → IsSync (Items.the_row (Tuple (Items.the_row Tree.the_row ∷ R ∷ [])))
arms_sync R s = let trees = items.the_sync Tree.the_row tree_sync in
    let arm : IsSync (Tuple (Items.the_row Tree.the_row ∷ R ∷ [])) = search sendable in
    items.the_sync (Tuple (Items.the_row Tree.the_row ∷ R ∷ [])) arm

act_field_sync : IsSync (Act.the_field).row
act_field_sync = search (act_knot.crosses, sendable, arms_sync, items.the_sync, boxed.the_sync, option.the_sync, option.the_field_sync, place.the_field_sync, target_field_sync, tree_field_sync, tree_sync, edge.the_sync, text.the_sync) depth 12

pub act_sync : IsSync Act.the_row
act_sync = as_row_sync Act.the_field act_field_sync

pub proc_sync : IsSync Proc.the_row
proc_sync = let reads = items.the_sync Object.the_row object.the_sync in let locals = items.the_sync Shape.the_row shape.the_sync in
    declared_sync Proc.the_type (proc_kind.the_sync, (act_sync, (reads, (locals, (place.the_sync, tt)))))

pub assign_sync : IsSync Assign.the_row
assign_sync = let reads = items.the_sync Object.the_row object.the_sync in
    declared_sync Assign.the_type (target_sync, (tree_sync, (reads, (place.the_sync, tt))))

pub function_sync : IsSync Function.the_row
function_sync = let shapes = items.the_sync Shape.the_row shape.the_sync in
    declared_sync Function.the_type (name.the_sync, (shapes, (search sendable, (shapes, (shape.the_sync, (items.the_sync Act.the_row act_sync, (place.the_sync, tt)))))))

pub design_sync : IsSync Design.the_row
design_sync = let nets = items.the_sync Net.the_row net.the_sync in
    let vars = items.the_sync Var.the_row var.the_sync in
    let procs = items.the_sync Proc.the_row proc_sync in
    let assigns = items.the_sync Assign.the_row assign_sync in
    let functions = items.the_sync Function.the_row function_sync in
    let scopes = items.the_sync Scoped.the_row scoped.the_sync in
    declared_sync Design.the_type (nets, (vars, (procs, (assigns, (functions, (scopes, (unit.the_sync, tt)))))))
