-- What is derived as a statement from tokens in the order of their offsets has its places in that order.
use Rattle.std.proofs.Common.{ℕ, ◌≤◌, Bool, List, [], ◌∷◌, ◌++◌, Option, sym, ap, subst, arith}
use Rattle.nt_value.specs.declared.place.Place.{Place}
use Rattle.nt_value.specs.declared.kind.Edge.{Edge}
use Rattle.nt_ast.specs.declared.expr.Expr.{Expr}
use Rattle.nt_ast.specs.declared.stmt.Stmt.{Stmt}
use Rattle.nt_lexer.specs.declared.kinds.Token.{Token}
use Rattle.nt_read_stmt.specs.declared.lead.Lead.{Lead}
use Rattle.nt_read_expr.specs.Tables.{Tokens, start}
use Rattle.nt_read_stmt.specs.Tables.{with_body}
use Rattle.nt_read_expr.specs.declared.list.Separator.TheVariants.{CommaOrWord}
use Rattle.nt_read_expr.specs.Lists.{MoreOf, no_item, next_item, ListOf, listed}
use Rattle.nt_read_stmt.specs.Statements.{Tested, tested, Value, given, compound, stepped, Simple, null, assign, nonblocking, called, called_none, return_none, return_of, break, continue, display_none, display_empty, display_of, finish_none, finish_empty, finish_of, Entering, standing, declared, Step, step, Event, any, edged, Leads, while_of, repeat_of, wait_of, forever_of, foreach_of, for_of, delay_number, delay_name, delay_of, event_name, event_of, event_any, event_any_in, Statement, simple, block, led, if_only, if_else, case_of, Statements, no_more, more, Arms, no_arms, arm, Default, no_default, default, default_colon}
use Rattle.nt_ast.specs.declared.expr.Expr.TheViews.{out-Expr}
use Rattle.nt_ast.specs.declared.stmt.Stmt.TheVariants as s
use Rattle.nt_ast.specs.declared.stmt.Stmt.TheViews.{out-Stmt}
use Rattle.nt_ast.specs.Places.{Within, Placed, literal_in, read_in, no_parts, none_in, some_in, EventsPlaced, no_events, more_events, StatementPlaced, null_in, block_in, assign_in, compound_in, nonblocking_in, if_in, case_in, while_in, repeat_stmt_in, for_in, forever_in, foreach_in, delay_in, event_in, wait_in, return_in, break_in, continue_in, called_in, display_in, finish_in, StatementsPlaced, no_statements, more_statements, ArmsPlaced, no_arms_in, more_arms, OtherPlaced, no_other, other_in}
use Rattle.nt_ast.proofs.Rolled.{opened_binary, literal_placed, read_placed, null_placed, block_placed, assign_placed, nonblocking_placed, if_placed, case_placed, while_placed, repeat_stmt_placed, for_placed, forever_placed, foreach_placed, delay_placed, event_placed as event_stmt_placed, wait_placed, return_placed, break_placed, continue_placed, called_placed, display_placed, finish_placed}
use Rattle.nt_lexer.specs.Laws.{Ascending}
use Rattle.nt_read_stmt.specs.Reader.{plain_read}
use Rattle.nt_read_expr.proofs.Begins.{reference_begins, left_begins}
use Rattle.nt_read_expr.proofs.Places.{spans, wider, halves, rest_of, front_of, first_in, start_in, from_first, from_start, from_its_start, path_in, expression_placed, left_placed, several_placed, others_placed}
use Rattle.nt_read_stmt.proofs.Firsts.{Opens, leads_form}

module _ (file : ℕ) where
  -- the place of the first token
  opens_in : {A : Type 0} {f : _ → A} {a : A} {i j : ℕ} {ts : Tokens} → Opens f a ts → Ascending file i j ts → Within file i j (start ts)
  opens_in {i = i} {j = j} o a = subst (λ at. Within file i j at) (sym (ap start o.is)) (first_in file (subst (Ascending file i j) o.is a))

  -- from it on
  opens_from : {A : Type 0} {f : _ → A} {a : A} {i j : ℕ} {ts : Tokens} → Opens f a ts → (us : Tokens) → Ascending file i j (ts ++ us) → Ascending file (start ts).offset j (ts ++ us)
  opens_from {i = i} {j = j} o us a =
      subst (λ (ts : Tokens). Ascending file (start ts).offset j (ts ++ us)) (sym o.is) (from_first file (subst (λ (ts : Tokens). Ascending file i j (ts ++ us)) o.is a))

  plain_in : {i j : ℕ} {t : Token} {ts : Tokens} (name : List ℕ) → Ascending file i j (t ∷ ts) → Placed file i j (out-Expr (plain_read t.at name))
  plain_in name a = read_placed (read_in (first_in file a) (first_in file (from_first file a)))

  module _ (limit : ℕ) where
    tested_placed : {d i j : ℕ} {ts : Tokens} {y : Expr} → Tested limit d ts y → Ascending file i j ts → Placed file i j (out-Expr y)
    tested_placed (tested {ts = ts} o c is_o inner is_c) a = expression_placed file limit inner (front_of file ts (c ∷ []) (rest_of file a))

    -- an assignment to a left side that stands before
    value_placed : {d i h j : ℕ} {at : Place} {x y : Expr} {ts : Tokens} → Value limit d at x ts y → Within file i j at → Placed file at.offset h (out-Expr x) → Ascending file h j ts
        → StatementPlaced file i j (out-Stmt (s.Assign at x y))
    value_placed (given {ts = ts} t is_t inner) w x a = assign_placed (assign_in w x (expression_placed file limit inner (rest_of file a)))
    value_placed (compound {at = at} {x = left} {y = right} mark op t q is_t is_op is_q inner) w x a =
        assign_placed (compound_in w x (opened_binary at op left right) (expression_placed file limit inner (rest_of file (rest_of file a))))
    value_placed (stepped {at = at} {x = left} mark op t is_t is_op) w x a =
        assign_placed (compound_in w x (opened_binary at op left _) (literal_placed (literal_in (first_in file a))))

    simple_placed : {d i j : ℕ} {ts : Tokens} {y : Stmt} → Simple limit d ts y → Ascending file i j ts → StatementPlaced file i j (out-Stmt y)
    simple_placed (null t e) a = null_placed (null_in (first_in file a))
    simple_placed (assign {ts = ts} {us = us} c left le value is_c) a =
        let b = front_of file (ts ++ us) (c ∷ []) a in
        let first = left_begins limit left in
        let h = halves file ts us (from_start file first us b) in
        value_placed value (start_in file first (front_of file ts us b)) (left_placed file limit left h.one) h.two
    simple_placed (nonblocking {ts = ts} {us = us} t c left le is_t inner is_c) a =
        let b = front_of file (ts ++ t ∷ us) (c ∷ []) a in
        let first = left_begins limit left in
        let h = halves file ts (t ∷ us) (from_start file first (t ∷ us) b) in
        nonblocking_placed (nonblocking_in (start_in file first (front_of file ts (t ∷ us) b)) (left_placed file limit left h.one) (expression_placed file limit inner (rest_of file h.two)))
    simple_placed (called {ts = ts} {us = us} o p c ref is_o inner is_p is_c) a =
        let b = front_of file (ts ++ o ∷ us) (p ∷ c ∷ []) a in
        let first = reference_begins ref in
        let h = halves file ts (o ∷ us) (from_start file first (o ∷ us) b) in
        called_placed (called_in (start_in file first (front_of file ts (o ∷ us) b)) (path_in file ref h.one) (several_placed file limit inner (rest_of file h.two)))
    simple_placed (called_none {ts = ts} o p c ref is_o is_p is_c) a =
        let first = reference_begins ref in
        let h = halves file ts (o ∷ p ∷ c ∷ []) (from_start file first (o ∷ p ∷ c ∷ []) a) in
        called_placed (called_in (start_in file first (front_of file ts (o ∷ p ∷ c ∷ []) a)) (path_in file ref h.one) (no_parts (spans file h.two)))
    simple_placed (return_none t c is_t is_c) a = return_placed (return_in (first_in file a) (none_in (spans file (from_first file a))))
    simple_placed (return_of {ts = ts} t c is_t inner is_c) a =
        return_placed (return_in (first_in file a) (some_in (expression_placed file limit inner (front_of file ts (c ∷ []) (rest_of file (from_first file a))))))
    simple_placed (break t c is_t is_c) a = break_placed (break_in (first_in file a))
    simple_placed (continue t c is_t is_c) a = continue_placed (continue_in (first_in file a))
    simple_placed (display_none t c is_t is_task is_c) a = display_placed (display_in (first_in file a) (no_parts (spans file (from_first file a))))
    simple_placed (display_empty t o p c is_t is_task is_o is_p is_c) a = display_placed (display_in (first_in file a) (no_parts (spans file (from_first file a))))
    simple_placed (display_of {us = us} t o g p c is_t is_task is_o is_g more_of is_p is_c) a =
        display_placed (display_in (first_in file a) (others_placed file limit more_of (front_of file us (p ∷ c ∷ []) (rest_of file (rest_of file (rest_of file (from_first file a)))))))
    simple_placed (finish_none t c is_t is_task is_c) a = finish_placed (finish_in (first_in file a))
    simple_placed (finish_empty t o p c is_t is_task is_o is_p is_c) a = finish_placed (finish_in (first_in file a))
    simple_placed (finish_of t o g p c is_t is_task is_o is_g is_p is_c) a = finish_placed (finish_in (first_in file a))

    -- ---- what stands before the one statement inside

    record EnteringPlaced (i j : ℕ) (p : Place) (y : Expr) : Type 0 where
      middle : ℕ
      name_in : Within file i middle p
      value_in : Placed file middle j (out-Expr y)

    entering_placed : {d i j : ℕ} {ts : Tokens} {fresh : Bool} {p : Place} {name : List ℕ} {y : Expr} → Entering limit d ts fresh p name y → Ascending file i j ts → EnteringPlaced i j p y
    entering_placed (standing {ts = ts} t q is_t is_q inner) a =
        let h = halves file (t ∷ []) (q ∷ ts) a in
        record { middle = h.at; name_in = first_in file h.one; value_in = expression_placed file limit inner (rest_of file h.two) }
    entering_placed (declared {ts = ts} c t q is_c is_t is_q inner) a =
        let h = halves file (t ∷ []) (q ∷ ts) (rest_of file a) in
        record { middle = h.at; name_in = first_in file h.one; value_in = expression_placed file limit inner (rest_of file h.two) }

    step_placed : {d i j : ℕ} {ts : Tokens} {y : Stmt} → Step limit d ts y → Ascending file i j ts → StatementPlaced file i j (out-Stmt y)
    step_placed (step {name = name} {ts = ts} t is_t value) a =
        let h = halves file (t ∷ []) ts (from_first file a) in
        value_placed value (first_in file a) (plain_in name h.one) h.two

    event_placed : {d i h j : ℕ} {ts : Tokens} {y : Edge × Expr} {ys : List (Edge × Expr)} → Event limit d ts y → Ascending file i h ts → EventsPlaced file h j ys → EventsPlaced file i j (y ∷ ys)
    event_placed (any inner) a ys = more_events (expression_placed file limit inner a) ys
    event_placed (edged edge t is_edge inner) a ys = more_events (expression_placed file limit inner (rest_of file a)) ys

    more_events_placed : {d : ℕ} {ts : Tokens} {ys : List (Edge × Expr)} → MoreOf CommaOrWord (Event limit d) ts ys → {i j : ℕ} → Ascending file i j ts → EventsPlaced file i j ys
    more_events_placed no_item a = no_events (spans file a)
    more_events_placed (next_item {ts = ts} {us = us} t is_t one more_of) a = let h = halves file ts us (rest_of file a) in event_placed one h.one (more_events_placed more_of h.two)

    events_placed : {d i j : ℕ} {ts : Tokens} {ys : List (Edge × Expr)} → ListOf CommaOrWord (Event limit d) ts ys → Ascending file i j ts → EventsPlaced file i j ys
    events_placed (listed {ts = ts} {us = us} one more_of) a = let h = halves file ts us a in event_placed one h.one (more_events_placed more_of h.two)

    -- With a body that stands after it. The first is of the place from which the lead's tokens are taken.
    lead_placed : {d i h j : ℕ} {at : Place} {ts : Tokens} {lead : Lead} (body : Stmt) → Leads limit d ts lead → Within file i j at → Ascending file at.offset h ts
        → StatementPlaced file h j (out-Stmt body) → ((k : ℕ) → k ≤ h → StatementPlaced file k j (out-Stmt body)) → StatementPlaced file i j (out-Stmt (with_body at lead body))
    lead_placed body (while_of t is_t test) w a y low = while_placed (while_in w (tested_placed test (rest_of file a)) y)
    lead_placed body (repeat_of t is_t test) w a y low = repeat_stmt_placed (repeat_stmt_in w (tested_placed test (rest_of file a)) y)
    lead_placed body (wait_of t is_t test) w a y low = wait_placed (wait_in w (tested_placed test (rest_of file a)) y)
    lead_placed body (forever_of t is_t) w a y low = forever_placed (forever_in w (low _ (spans file a)))
    lead_placed body (foreach_of t o a' b i c p is_t is_o is_a is_b is_i is_c is_p) w a y low =
        let h = halves file (a' ∷ b ∷ []) (i ∷ c ∷ p ∷ []) (rest_of file (rest_of file a)) in
        foreach_placed (foreach_in w (first_in file h.one) (first_in file h.two) y)
    lead_placed body (for_of {ts = ts} {us = us} {vs = vs} t o c p q is_t is_o enter is_c inner is_p one is_q) w a y low =
        let b = front_of file ((ts ++ c ∷ us) ++ p ∷ vs) (q ∷ []) (rest_of file (rest_of file a)) in
        let h = halves file (ts ++ c ∷ us) (p ∷ vs) b in
        let g = halves file ts (c ∷ us) h.one in
        let n = entering_placed enter g.one in
        for_placed (for_in w n.name_in n.value_in (expression_placed file limit inner (rest_of file g.two)) (step_placed one (rest_of file h.two)) y)
    lead_placed body (delay_number t n is_t is_n) w a y low = delay_placed (delay_in w (literal_placed (literal_in (first_in file (rest_of file a)))) y)
    lead_placed body (delay_name t is_t ref) w a y low =
        let b = rest_of file a in
        delay_placed (delay_in w (read_placed (read_in (start_in file (reference_begins ref) b) (path_in file ref (from_its_start file (reference_begins ref) b)))) y)
    lead_placed body (delay_of t is_t test) w a y low = delay_placed (delay_in w (tested_placed test (rest_of file a)) y)
    lead_placed body (event_name {name = name} t n is_t is_n) w a y low = let b = rest_of file a in event_stmt_placed (event_in w (more_events (plain_in name b) (no_events (omega arith))) y)
    lead_placed body (event_of {ts = ts} t o c is_t is_o inner is_c) w a y low = event_stmt_placed (event_in w (events_placed inner (front_of file ts (c ∷ []) (rest_of file (rest_of file a)))) y)
    lead_placed body (event_any t n is_t is_n) w a y low = event_stmt_placed (event_in w (no_events (spans file a)) y)
    lead_placed body (event_any_in t o n c is_t is_o is_n is_c) w a y low = event_stmt_placed (event_in w (no_events (spans file a)) y)

    mutual
      pub statement_placed : {d n i j : ℕ} {o : Bool} {ts : Tokens} {y : Stmt} → Statement limit d o n ts y → Ascending file i j ts → StatementPlaced file i j (out-Stmt y)
      statement_placed (simple x) a = simple_placed x a
      statement_placed (block {ls = ls} {ts = ts} {ms = ms} b c is_b begins items is_c ends) a =
          let front = front_of file (ls ++ ts) (c ∷ ms) (rest_of file (from_first file a)) in
          let h = halves file ls ts front in
          block_placed (block_in (first_in file a) (statements_placed items (wider file (spans file h.one) (omega arith) h.two)))
      statement_placed (led {ts = ts} {us = us} {x = x} leads body le) a =
          let h = halves file ts us (opens_from (leads_form limit leads) us a) in
          lead_placed x leads (opens_in (leads_form limit leads) (front_of file ts us a)) h.one (statement_placed body h.two)
          (λ k below. statement_placed body (wider file below (omega arith) h.two))
      statement_placed (if_only {ts = ts} {us = us} i is_i test body le) a =
          let h = halves file ts us (rest_of file (from_first file a)) in
          if_placed (if_in (first_in file a) (tested_placed test h.one) (statement_placed body h.two) (no_other (omega arith)))
      statement_placed (if_else {ts = ts} {us = us} {vs = vs} i c is_i test body le is_c other) a =
          let h = halves file (ts ++ us) (c ∷ vs) (rest_of file (from_first file a)) in
          let g = halves file ts us h.one in
          if_placed (if_in (first_in file a) (tested_placed test g.one) (statement_placed body g.two) (other_in (statement_placed other (rest_of file h.two))))
      statement_placed (case_of {ts = ts} {us = us} {vs = vs} c f is_c test arms other is_f) a =
          let b = front_of file ((ts ++ us) ++ vs) (f ∷ []) (rest_of file (from_first file a)) in
          let h = halves file (ts ++ us) vs b in
          let g = halves file ts us h.one in
          case_placed (case_in (first_in file a) (tested_placed test g.one) (arms_placed arms g.two) (default_placed other h.two))

      statements_placed : {d i j : ℕ} {ts : Tokens} {ys : List Stmt} → Statements limit d ts ys → Ascending file i j ts → StatementsPlaced file i j ys
      statements_placed no_more a = no_statements (spans file a)
      statements_placed (more {ts = ts} {us = us} y le ys) a = let h = halves file ts us a in more_statements (statement_placed y h.one) (statements_placed ys h.two)

      arms_placed : {d i j : ℕ} {ts : Tokens} {ys : List (List Expr × Stmt)} → Arms limit d ts ys → Ascending file i j ts → ArmsPlaced file i j ys
      arms_placed no_arms a = no_arms_in (spans file a)
      arms_placed (arm {ts = ts} {us = us} {vs = vs} c values is_c y le ys) a =
          let h = halves file (ts ++ c ∷ us) vs a in
          let g = halves file ts (c ∷ us) h.one in
          more_arms (several_placed file limit values g.one) (statement_placed y (rest_of file g.two)) (arms_placed ys h.two)

      default_placed : {d i j : ℕ} {ts : Tokens} {y : Option Stmt} → Default limit d ts y → Ascending file i j ts → OtherPlaced file i j y
      default_placed no_default a = no_other (spans file a)
      default_placed (default t is_t y le) a = other_in (statement_placed y (rest_of file a))
      default_placed (default_colon t c is_t is_c y le) a = other_in (statement_placed y (rest_of file (rest_of file a)))
