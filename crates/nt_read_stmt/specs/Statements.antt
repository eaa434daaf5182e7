-- The grammar of statements: which tokens derive which tree (IEEE 1800-2017, A.6). The limit bounds the number of links of a
-- chain. The number after it bounds the depth: the open nodes over one another, of which a statement inside a statement is one,
-- but for the one after an `else`. An empty block, a case statement without arms, and empty parentheses open nothing. A node has
-- the place of its first token.
use Rattle.std.specs.Prelude.{◌≡◌, ℕ, suc, ◌≤◌, Bool, true, false, List, [], ◌∷◌, ◌++◌, Option, Some, None}
use Rattle.nt_value.specs.declared.place.Place.{Place}
use Rattle.nt_value.specs.declared.literal.Literal.{Literal}
use Rattle.nt_value.specs.declared.operator.Binary.{Binary}
use Rattle.nt_value.specs.declared.kind.Edge.{Edge}
use Rattle.nt_value.specs.declared.kind.Edge.TheVariants.{Any}
use Rattle.nt_ast.specs.declared.path.Path.{Path}
use Rattle.nt_ast.specs.declared.expr.Expr.{Expr}
use Rattle.nt_ast.specs.declared.expr.Expr.TheVariants as e
use Rattle.nt_ast.specs.declared.stmt.Stmt.{Stmt}
use Rattle.nt_ast.specs.declared.stmt.Stmt.TheVariants as s
use Rattle.nt_lexer.specs.Numbers.{decimal_literal}
use Rattle.nt_lexer.specs.declared.kinds.Mark.{Mark}
use Rattle.nt_lexer.specs.declared.kinds.Mark.TheVariants as m
use Rattle.nt_lexer.specs.declared.kinds.Word.TheVariants as w
use Rattle.nt_lexer.specs.declared.kinds.TokenKind.TheVariants as k
use Rattle.nt_lexer.specs.declared.kinds.Token.{Token}
use Rattle.nt_read_stmt.specs.declared.lead.Lead.{Lead}
use Rattle.nt_read_stmt.specs.declared.lead.Lead.TheVariants as l
use Rattle.nt_read_stmt.specs.declared.front.Task.TheVariants.{Display, Finish}
use Rattle.nt_read_expr.specs.Tables.{Tokens, start}
use Rattle.nt_read_stmt.specs.Tables.{compound_of, step_of, edge_of, task_of, with_body, plain_path}
use Rattle.nt_read_expr.specs.declared.list.Separator.TheVariants.{CommaOrWord}
use Rattle.nt_read_expr.specs.Lists.{ListOf}
use Rattle.nt_read_expr.specs.Derivation.{Reference, Expression, Left, Several, Others}

-- the name of a block, which is compared with nothing (9.3.4, A.6.3)
pub data Label : Tokens → Type 0 where
  -- nothing
  unlabelled : Label []
  -- : name
  labelled : {name : List ℕ} (c t : Token) → c.kind ≡ k.Mark m.Colon → t.kind ≡ k.Name name → Label (c ∷ t ∷ [])

-- an expression in the brackets of a statement, which open no node
pub data Tested (limit : ℕ) : ℕ → Tokens → Expr → Type 0 where
  -- ( expression )
  tested : {d : ℕ} {ts : Tokens} {x : Expr} (o c : Token) → o.kind ≡ k.Mark m.LeftParen → Expression limit d ts x → c.kind ≡ k.Mark m.RightParen
      → Tested limit d (o ∷ ts ++ c ∷ []) x

-- what an assignment writes after a left side, and the value that the left side gets
pub data Value (limit : ℕ) : ℕ → Place → Expr → Tokens → Expr → Type 0 where
  -- = expression   (10.4.1, A.6.2)
  given : {d : ℕ} {at : Place} {x y : Expr} {ts : Tokens} (t : Token) → t.kind ≡ k.Mark m.Assign → Expression limit d ts y → Value limit d at x (t ∷ ts) y
  -- 11.4.1, A.6.2: `a op= b` is `a = a op b`
  -- operator = expression
  compound : {d : ℕ} {at : Place} {x y : Expr} {ts : Tokens} (mark : Mark) (op : Binary) (t q : Token) → t.kind ≡ k.Mark mark → compound_of mark ≡ Some op
      → q.kind ≡ k.Mark m.Assign → Expression limit d ts y → Value limit d at x (t ∷ q ∷ ts) (e.Binary at op x y)
  -- 11.4.2, A.6.2: `a++` is `a += 1`
  -- ++ | --
  stepped : {d : ℕ} {at : Place} {x : Expr} (mark : Mark) (op : Binary) (t : Token) → t.kind ≡ k.Mark mark → step_of mark ≡ Some op
      → Value limit d at x (t ∷ []) (e.Binary at op x (e.Literal t.at (decimal_literal 1)))

-- a statement that has none inside
pub data Simple (limit : ℕ) : ℕ → Tokens → Stmt → Type 0 where
  -- ;   (A.6.4)
  null : {d : ℕ} (t : Token) → t.kind ≡ k.Mark m.Semicolon → Simple limit d (t ∷ []) (s.Null t.at)
  -- left value ;   (10.4.1, A.6.2)
  assign : {d n : ℕ} {ts us : Tokens} {x y : Expr} (c : Token) → Left limit d true n ts x → n ≤ limit → Value limit d (start ts) x us y → c.kind ≡ k.Mark m.Semicolon
      → Simple limit d (ts ++ us ++ c ∷ []) (s.Assign (start ts) x y)
  -- left <= expression ;   (10.4.2, A.6.2)
  nonblocking : {d n : ℕ} {ts us : Tokens} {x y : Expr} (t c : Token) → Left limit d true n ts x → n ≤ limit → t.kind ≡ k.Mark m.LessEqual → Expression limit d us y
      → c.kind ≡ k.Mark m.Semicolon → Simple limit d (ts ++ t ∷ us ++ c ∷ []) (s.Nonblocking (start ts) x y)
  -- reference ( expression { , expression } ) ;   (13.4, A.6.9)
  called : {d : ℕ} {ts us : Tokens} {path : Path} {xs : List Expr} (o p c : Token) → Reference ts path → o.kind ≡ k.Mark m.LeftParen → Several limit d us xs
      → p.kind ≡ k.Mark m.RightParen → c.kind ≡ k.Mark m.Semicolon → Simple limit (suc d) (ts ++ o ∷ us ++ p ∷ c ∷ []) (s.Call (start ts) path xs)
  -- reference ( ) ;
  called_none : {d : ℕ} {ts : Tokens} {path : Path} (o p c : Token) → Reference ts path → o.kind ≡ k.Mark m.LeftParen
      → p.kind ≡ k.Mark m.RightParen → c.kind ≡ k.Mark m.Semicolon → Simple limit d (ts ++ o ∷ p ∷ c ∷ []) (s.Call (start ts) path [])
  -- return ;   (12.8, 13.4.1, A.6.5)
  return_none : {d : ℕ} (t c : Token) → t.kind ≡ k.Word w.Return → c.kind ≡ k.Mark m.Semicolon → Simple limit d (t ∷ c ∷ []) (s.Return t.at None)
  -- return expression ;
  return_of : {d : ℕ} {ts : Tokens} {x : Expr} (t c : Token) → t.kind ≡ k.Word w.Return → Expression limit d ts x → c.kind ≡ k.Mark m.Semicolon
      → Simple limit d (t ∷ ts ++ c ∷ []) (s.Return t.at (Some x))
  -- break ;   (12.8, A.6.5)
  break : {d : ℕ} (t c : Token) → t.kind ≡ k.Word w.Break → c.kind ≡ k.Mark m.Semicolon → Simple limit d (t ∷ c ∷ []) (s.Break t.at)
  -- continue ;
  continue : {d : ℕ} (t c : Token) → t.kind ≡ k.Word w.Continue → c.kind ≡ k.Mark m.Semicolon → Simple limit d (t ∷ c ∷ []) (s.Continue t.at)
  -- $display ;   (21.2.1, A.6.9)
  display_none : {d : ℕ} {name : List ℕ} (t c : Token) → t.kind ≡ k.System name → task_of name ≡ Some Display → c.kind ≡ k.Mark m.Semicolon
      → Simple limit d (t ∷ c ∷ []) (s.Display t.at [] [])
  -- $display ( ) ;
  display_empty : {d : ℕ} {name : List ℕ} (t o p c : Token) → t.kind ≡ k.System name → task_of name ≡ Some Display → o.kind ≡ k.Mark m.LeftParen
      → p.kind ≡ k.Mark m.RightParen → c.kind ≡ k.Mark m.Semicolon → Simple limit d (t ∷ o ∷ p ∷ c ∷ []) (s.Display t.at [] [])
  -- $display ( text { , expression } ) ;
  display_of : {d : ℕ} {name text : List ℕ} {us : Tokens} {xs : List Expr} (t o x p c : Token) → t.kind ≡ k.System name → task_of name ≡ Some Display
      → o.kind ≡ k.Mark m.LeftParen → x.kind ≡ k.Text text → Others limit d us xs → p.kind ≡ k.Mark m.RightParen → c.kind ≡ k.Mark m.Semicolon
      → Simple limit (suc d) (t ∷ o ∷ x ∷ us ++ p ∷ c ∷ []) (s.Display t.at text xs)
  -- $finish ;   (20.2, A.6.9)
  finish_none : {d : ℕ} {name : List ℕ} (t c : Token) → t.kind ≡ k.System name → task_of name ≡ Some Finish → c.kind ≡ k.Mark m.Semicolon
      → Simple limit d (t ∷ c ∷ []) (s.Finish t.at)
  -- $finish ( ) ;
  finish_empty : {d : ℕ} {name : List ℕ} (t o p c : Token) → t.kind ≡ k.System name → task_of name ≡ Some Finish → o.kind ≡ k.Mark m.LeftParen
      → p.kind ≡ k.Mark m.RightParen → c.kind ≡ k.Mark m.Semicolon → Simple limit d (t ∷ o ∷ p ∷ c ∷ []) (s.Finish t.at)
  -- $finish ( number ) ;
  finish_of : {d : ℕ} {name : List ℕ} {v : Literal} (t o x p c : Token) → t.kind ≡ k.System name → task_of name ≡ Some Finish → o.kind ≡ k.Mark m.LeftParen
      → x.kind ≡ k.Number v → p.kind ≡ k.Mark m.RightParen → c.kind ≡ k.Mark m.Semicolon → Simple limit d (t ∷ o ∷ x ∷ p ∷ c ∷ []) (s.Finish t.at)

-- what `for` writes first: whether its variable is declared there, the place of its name, the name, and its first value (12.7.1, A.6.8)
pub data Entering (limit : ℕ) : ℕ → Tokens → Bool → Place → List ℕ → Expr → Type 0 where
  -- name = expression
  standing : {d : ℕ} {name : List ℕ} {ts : Tokens} {x : Expr} (t q : Token) → t.kind ≡ k.Name name → q.kind ≡ k.Mark m.Assign → Expression limit d ts x
      → Entering limit d (t ∷ q ∷ ts) false t.at name x
  -- int name = expression
  declared : {d : ℕ} {name : List ℕ} {ts : Tokens} {x : Expr} (i t q : Token) → i.kind ≡ k.Word w.Int → t.kind ≡ k.Name name → q.kind ≡ k.Mark m.Assign
      → Expression limit d ts x → Entering limit d (i ∷ t ∷ q ∷ ts) true t.at name x

-- the step of `for`, which is no statement inside a statement (12.7.1, A.6.8)
pub data Step (limit : ℕ) : ℕ → Tokens → Stmt → Type 0 where
  -- name value
  step : {d : ℕ} {name : List ℕ} {ts : Tokens} {y : Expr} (t : Token) → t.kind ≡ k.Name name → Value limit d t.at (e.Read t.at (plain_path t.at name)) ts y
      → Step limit d (t ∷ ts) (s.Assign t.at (e.Read t.at (plain_path t.at name)) y)

-- an event (9.4.2, A.6.5)
pub data Event (limit : ℕ) : ℕ → Tokens → Edge × Expr → Type 0 where
  -- expression
  any : {d : ℕ} {ts : Tokens} {x : Expr} → Expression limit d ts x → Event limit d ts (Any, x)
  -- posedge expression | negedge expression
  edged : {d : ℕ} {ts : Tokens} {x : Expr} (edge : Edge) (t : Token) → edge_of t.kind ≡ Some edge → Expression limit d ts x → Event limit d (t ∷ ts) (edge, x)

-- what stands before the one statement inside a statement
pub data Leads (limit : ℕ) : ℕ → Tokens → Lead → Type 0 where
  -- while ( expression )   (12.7.4, A.6.8)
  while_of : {d : ℕ} {ts : Tokens} {x : Expr} (t : Token) → t.kind ≡ k.Word w.While → Tested limit d ts x → Leads limit d (t ∷ ts) (l.While x)
  -- repeat ( expression )   (12.7.2, A.6.8)
  repeat_of : {d : ℕ} {ts : Tokens} {x : Expr} (t : Token) → t.kind ≡ k.Word w.Repeat → Tested limit d ts x → Leads limit d (t ∷ ts) (l.Repeat x)
  -- wait ( expression )   (9.4.3, A.6.5)
  wait_of : {d : ℕ} {ts : Tokens} {x : Expr} (t : Token) → t.kind ≡ k.Word w.Wait → Tested limit d ts x → Leads limit d (t ∷ ts) (l.Wait x)
  -- forever   (12.7.6, A.6.8)
  forever_of : {d : ℕ} (t : Token) → t.kind ≡ k.Word w.Forever → Leads limit d (t ∷ []) l.Forever
  -- foreach ( name [ name ] )   (12.7.3, A.6.8)
  foreach_of : {d : ℕ} {array index : List ℕ} (t o a b i c p : Token) → t.kind ≡ k.Word w.Foreach → o.kind ≡ k.Mark m.LeftParen → a.kind ≡ k.Name array
      → b.kind ≡ k.Mark m.LeftBracket → i.kind ≡ k.Name index → c.kind ≡ k.Mark m.RightBracket → p.kind ≡ k.Mark m.RightParen
      → Leads limit d (t ∷ o ∷ a ∷ b ∷ i ∷ c ∷ p ∷ []) (l.Foreach a.at array i.at index)
  -- for ( entering ; expression ; step )   (12.7.1, A.6.8)
  for_of : {d : ℕ} {fresh : Bool} {name_at : Place} {name : List ℕ} {ts us vs : Tokens} {x y : Expr} {z : Stmt} (t o c p r : Token) → t.kind ≡ k.Word w.For → o.kind ≡ k.Mark m.LeftParen
      → Entering limit d ts fresh name_at name x → c.kind ≡ k.Mark m.Semicolon → Expression limit d us y → p.kind ≡ k.Mark m.Semicolon → Step limit d vs z
      → r.kind ≡ k.Mark m.RightParen → Leads limit d (t ∷ o ∷ ts ++ c ∷ us ++ p ∷ vs ++ r ∷ []) (l.For fresh name_at name x y z)
  -- # number   (9.4.1, A.6.5)
  delay_number : {d : ℕ} {v : Literal} (t n : Token) → t.kind ≡ k.Mark m.Hash → n.kind ≡ k.Number v → Leads limit d (t ∷ n ∷ []) (l.Delay (e.Literal n.at v))
  -- # reference
  delay_name : {d : ℕ} {ts : Tokens} {path : Path} (t : Token) → t.kind ≡ k.Mark m.Hash → Reference ts path → Leads limit d (t ∷ ts) (l.Delay (e.Read (start ts) path))
  -- # ( expression )
  delay_of : {d : ℕ} {ts : Tokens} {x : Expr} (t : Token) → t.kind ≡ k.Mark m.Hash → Tested limit d ts x → Leads limit d (t ∷ ts) (l.Delay x)
  -- @ name   (9.4.2, A.6.5)
  event_name : {d : ℕ} {name : List ℕ} (t n : Token) → t.kind ≡ k.Mark m.At → n.kind ≡ k.Name name
      → Leads limit d (t ∷ n ∷ []) (l.Event false ((Any, e.Read n.at (plain_path n.at name)) ∷ []))
  -- @ ( event { , event } ), with `or` for a comma
  event_of : {d : ℕ} {ts : Tokens} {xs : List (Edge × Expr)} (t o c : Token) → t.kind ≡ k.Mark m.At → o.kind ≡ k.Mark m.LeftParen → ListOf CommaOrWord (Event limit d) ts xs
      → c.kind ≡ k.Mark m.RightParen → Leads limit d (t ∷ o ∷ ts ++ c ∷ []) (l.Event false xs)
  -- @ *   (9.4.2.2, A.6.5)
  event_any : {d : ℕ} (t a : Token) → t.kind ≡ k.Mark m.At → a.kind ≡ k.Mark m.Star → Leads limit d (t ∷ a ∷ []) (l.Event true [])
  -- @ ( * )
  event_any_in : {d : ℕ} (t o a c : Token) → t.kind ≡ k.Mark m.At → o.kind ≡ k.Mark m.LeftParen → a.kind ≡ k.Mark m.Star → c.kind ≡ k.Mark m.RightParen
      → Leads limit d (t ∷ o ∷ a ∷ c ∷ []) (l.Event true [])

mutual
  -- A statement (A.6.4). The Bool says whether an `else` that follows would belong to it; the number after it counts the `else`
  -- of the chain that it begins, which are at most limit in a statement inside a statement.
  pub data Statement (limit : ℕ) : ℕ → Bool → ℕ → Tokens → Stmt → Type 0 where
    -- a statement that has none inside
    simple : {d : ℕ} {ts : Tokens} {x : Stmt} → Simple limit d ts x → Statement limit d false 0 ts x
    -- begin [ : name ] { statement } end [ : name ]   (9.3.1, A.6.3)
    block : {d : ℕ} {ls ts ms : Tokens} {xs : List Stmt} (b c : Token) → b.kind ≡ k.Word w.Begin → Label ls → Statements limit d ts xs → c.kind ≡ k.Word w.End
        → Label ms → Statement limit d false 0 (b ∷ ls ++ ts ++ c ∷ ms) (s.Block b.at xs)
    -- lead statement
    led : {d n : ℕ} {o : Bool} {ts us : Tokens} {lead : Lead} {x : Stmt} → Leads limit (suc d) ts lead → Statement limit d o n us x → n ≤ limit
        → Statement limit (suc d) o 0 (ts ++ us) (with_body (start ts) lead x)
    -- if ( expression ) statement   (12.4, A.6.6)
    if_only : {d n : ℕ} {o : Bool} {ts us : Tokens} {x : Expr} {y : Stmt} (i : Token) → i.kind ≡ k.Word w.If → Tested limit (suc d) ts x → Statement limit d o n us y → n ≤ limit
        → Statement limit (suc d) true 0 (i ∷ ts ++ us) (s.If i.at x y None)
    -- no `else` could belong to what stands before the `else`, so it belongs to the nearest `if`
    -- if ( expression ) statement else statement
    if_else : {d n h : ℕ} {o : Bool} {ts us vs : Tokens} {x : Expr} {y z : Stmt} (i c : Token) → i.kind ≡ k.Word w.If → Tested limit (suc d) ts x
        → Statement limit d false n us y → n ≤ limit → c.kind ≡ k.Word w.Else → Statement limit (suc d) o h vs z
        → Statement limit (suc d) o (suc h) (i ∷ ts ++ us ++ c ∷ vs) (s.If i.at x y (Some z))
    -- case ( expression ) { arm } [ default ] endcase   (12.5, A.6.7)
    case_of : {d : ℕ} {ts us vs : Tokens} {x : Expr} {arms : List (List Expr × Stmt)} {other : Option Stmt} (c f : Token) → c.kind ≡ k.Word w.Case → Tested limit d ts x
        → Arms limit d us arms → Default limit d vs other → f.kind ≡ k.Word w.EndCase
        → Statement limit d false 0 (c ∷ ts ++ us ++ vs ++ f ∷ []) (s.Case c.at x arms other)

  -- the statements of a block
  pub data Statements (limit : ℕ) : ℕ → Tokens → List Stmt → Type 0 where
    no_more : {d : ℕ} → Statements limit d [] []
    -- statement { statement }
    more : {d n : ℕ} {o : Bool} {ts us : Tokens} {x : Stmt} {xs : List Stmt} → Statement limit d o n ts x → n ≤ limit → Statements limit (suc d) us xs
        → Statements limit (suc d) (ts ++ us) (x ∷ xs)

  -- the arms of a case statement, each with the values that it is for (A.6.7)
  pub data Arms (limit : ℕ) : ℕ → Tokens → List (List Expr × Stmt) → Type 0 where
    no_arms : {d : ℕ} → Arms limit d [] []
    -- expression { , expression } : statement
    arm : {d n : ℕ} {o : Bool} {ts us vs : Tokens} {xs : List Expr} {y : Stmt} {arms : List (List Expr × Stmt)} (c : Token) → Several limit (suc d) ts xs
        → c.kind ≡ k.Mark m.Colon → Statement limit d o n us y → n ≤ limit → Arms limit (suc d) vs arms
        → Arms limit (suc d) (ts ++ c ∷ us ++ vs) ((xs, y) ∷ arms)

  -- what it does where no arm fits, with or without a colon (A.6.7)
  pub data Default (limit : ℕ) : ℕ → Tokens → Option Stmt → Type 0 where
    no_default : {d : ℕ} → Default limit d [] None
    -- default statement
    default : {d n : ℕ} {o : Bool} {ts : Tokens} {x : Stmt} (t : Token) → t.kind ≡ k.Word w.Default → Statement limit d o n ts x → n ≤ limit
        → Default limit (suc d) (t ∷ ts) (Some x)
    -- default : statement
    default_colon : {d n : ℕ} {o : Bool} {ts : Tokens} {x : Stmt} (t c : Token) → t.kind ≡ k.Word w.Default → c.kind ≡ k.Mark m.Colon → Statement limit d o n ts x → n ≤ limit
        → Default limit (suc d) (t ∷ c ∷ ts) (Some x)
