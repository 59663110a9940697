-- What code has read of lists of statements, beside the state that the reader of tokens is in: statements in memory, and what stands open.
use Rattle.std.specs.Prelude.{◌≡◌, ℕ, ◌+◌, ◌<◌, ◌≤◌, max, Bool, true, false, List, [], ◌∷◌, ◌++◌, length, map, Vec, Option, Some, None}
use Rattle.std.specs.declared.alloc.Global.{Global}
use Rattle.tla_token.specs.declared.place.Place.{Place}
use Rattle.tla_tree.specs.Tree.{Tree}
use Rattle.tla_tree.specs.Pool as pool
use Rattle.tla_tree.specs.Spelling.{tree_of}
use Rattle.tla_tree.specs.Nesting.{greatest}
use Rattle.pcal_tree.specs.declared.algorithm.Stmt.{Stmt}
use Rattle.pcal_tree.specs.Algorithm.{Statement, Statements, Branches}
use Rattle.pcal_tree.specs.Algorithm as tree
use Rattle.pcal_tree.specs.InMemory.{statements_at, binds_at, past_statements, past_binds, past_branches}
use Rattle.pcal_tree.specs.GrammarParts.{span, Labels, with_labels, binds_of}
use Rattle.pcal_tree.specs.GrammarP as p
use Rattle.pcal_tree.specs.Tests.{is_empty}
use Rattle.algorithm_reader.specs.ListsRead.{in_branches, ListStands}
use Rattle.algorithm_reader.specs.PartsRead.{StandsFor}
use Rattle.p_reading.specs.ReadStatements as reader
use Rattle.p_reading.specs.ReadStatements.{Before, none, after, Tests, if_test, elsif_test, Arms, first_arm, later_arm, Stack, bottom, inside, depth}
use Rattle.p_syntax.specs.declared.open.Test.{Test}
use Rattle.p_syntax.specs.declared.open.Frame.{Frame}
use Rattle.p_syntax.specs.declared.open.Frame.TheVariants as frame
use Rattle.p_syntax.specs.declared.open.Open.{Open}
use Rattle.p_syntax.specs.declared.open.Point.{Point}
use Rattle.p_syntax.specs.declared.open.Point.TheVariants as point
use Rattle.p_syntax.specs.declared.open.State.{State}
use Rattle.p_syntax.specs.declared.open.Turn.{Turn}
use Rattle.p_syntax.specs.declared.open.Turn.TheVariants as turn

-- ---- the trees of what was read, before the rest of the list

abbrev pub before_tree : Before → Statements → Statements
before_tree none ss = ss
before_tree (after b ls a q) ss = before_tree b (with_labels ls (tree.then (span (p.statement a [])) (p.statement_tree a) ss))

-- up to the labels of the statement that comes, and past a statement
abbrev pub so_far : Before → Labels → Statements → Statements
so_far b ls ss = before_tree b (with_labels ls ss)

abbrev pub past_one : Before → Labels → p.Statement → Statements → Statements
past_one b ls a ss = so_far b ls (tree.then (span (p.statement a [])) (p.statement_tree a) ss)

-- the `if` of these tests that ends there, with the list of its last `then` and its `else`
abbrev pub tests_place : Tests → Place
tests_place (if_test a e q) = a
tests_place (elsif_test t b a e q) = tests_place t

abbrev pub tests_tree : Tests → Place → Statements → Statements → Statement
tests_tree (if_test a e q) last x y = tree.branch (tree_of e) x y
tests_tree (elsif_test t b a e q) last x y = tests_tree t last (p.statements b) (tree.then (record { first = a; last = last }) (tree.branch (tree_of e) x y) tree.done)

abbrev pub tests_list : Tests → Place → Statements → Statements → Statements
tests_list t last x y = tree.then (record { first = tests_place t; last = last }) (tests_tree t last x y) tree.done

-- the branches of an `either` before others
abbrev pub arms_place : Arms → Place
arms_place (first_arm a) = a
arms_place (later_arm t b a) = arms_place t

abbrev pub arms_tree : Arms → Branches → Branches
arms_tree (first_arm a) xs = xs
arms_tree (later_arm t b a) xs = arms_tree t (tree.or (p.statements b) xs)

abbrev pub is_first : Arms → Bool
is_first (first_arm a) = true
is_first (later_arm t b a) = false

-- ---- the same of what is in memory

-- each test in the `else` of the one before it
abbrev pub nested : List Tree → List Test → Place → Statements → Statements
nested ts [] last rest = rest
nested ts (x ∷ xs) last rest = tree.then (record { first = x.place; last = last }) (tree.branch (pool.at ts x.test) (statements_at ts x.then.items) (nested ts xs last rest)) tree.done

abbrev pub past_test : Test → ℕ
past_test x = max (x.test + 1) (past_statements x.then.items)

-- one statement before others, in place of those behind it
abbrev pub before_rest : Statements → Statements → Statements
before_rest tree.done rest = rest
before_rest (tree.then s x ss) rest = tree.then s x rest
before_rest (tree.mark x m ss) rest = tree.mark x m rest

-- ---- what stands for what, over the trees of a pool

pub record ThenStands (ts : List Tree) (xs : List Test) (a : Place) (e : ℕ) (t : Tests) : Type 0 where
  pub below : greatest (map past_test xs) ≤ length ts
  pub within : e < length ts
  pub tree : (last : Place) (x y : Statements) → nested ts xs last (tree.then (record { first = a; last = last }) (tree.branch (pool.at ts e) x y) tree.done) ≡ tests_list t last x y

pub record ElseStands (ts : List Tree) (xs : List Test) (t : Tests) (c : p.Sequence) : Type 0 where
  pub below : greatest (map past_test xs) ≤ length ts
  pub tree : (last : Place) (y : Statements) → nested ts xs last y ≡ tests_list t last (p.statements c) y

pub record EitherStands (ts : List Tree) (a : Place) (bs : List (Vec Stmt Global)) (t : Arms) : Type 0 where
  pub place : a ≡ arms_place t
  pub below : past_branches bs ≤ length ts
  pub first : is_empty bs ≡ is_first t
  pub tree : (rest : Branches) → in_branches ts bs rest ≡ arms_tree t rest

abbrev pub FrameStands : List Tree → Frame → reader.Frame → Type 0
FrameStands ts (frame.Then xs a e) (reader.in_then t) = ThenStands ts xs.items a e t
FrameStands ts (frame.Else xs x) (reader.in_else t c a) = ElseStands ts (xs.items ++ x ∷ []) t c
FrameStands ts (frame.Either a bs) (reader.in_either t) = EitherStands ts a bs.items t
FrameStands ts (frame.With a bs) (reader.in_with b cs q) = (a ≡ b) × (past_binds bs.items ≤ length ts) × (binds_at ts bs.items ≡ binds_of cs)
FrameStands ts (frame.While a e) (reader.in_while b f q) = (a ≡ b) × (e < length ts) × (pool.at ts e ≡ tree_of f)
FrameStands _ _ _ = ⊥

pub record OpenStands (ts : List Tree) (o : Open) (f : reader.Frame) (b : Before) (ls : Labels) (st : Stack) : Type 0 where
  pub frame : FrameStands ts o.frame f
  pub before : ListStands ts o.before.items (so_far b ls)
  pub depth : o.depth ≡ depth st

-- the innermost is the last in memory
abbrev pub StackStands : List Tree → List Open → Stack → Type 0
StackStands ts os bottom = os ≡ []
StackStands ts os (inside f b ls st) = (under : List Open) × (o : Open) × (os ≡ under ++ o ∷ []) × OpenStands ts o f b ls st × StackStands ts under st

pub record Stands (ts : List Tree) (s : State) (f : Statements → Statements) (st : Stack) : Type 0 where
  pub list : ListStands ts s.list.items f
  pub stack : StackStands ts s.stack.items st
  pub depth : s.depth ≡ depth st

abbrev pub point_of : Option Place → Point
point_of None = point.Ended
point_of (Some q) = point.Separated

abbrev pub StateStands : List Tree → State → reader.State → Type 0
StateStands ts s (reader.begin b ls st) = (s.point ≡ point.Begins) × Stands ts s (so_far b ls) st
StateStands ts s (reader.ended b ls a o st) = (s.point ≡ point_of o) × Stands ts s (past_one b ls a) st

-- a list in memory
abbrev pub list_at : List Tree → Vec Stmt Global → Statements
list_at ts ss = statements_at ts ss.items

abbrev pub past_list : Vec Stmt Global → ℕ
past_list ss = past_statements ss.items

abbrev pub TurnStands : List Tree → Turn → reader.Turn → Type 0
TurnStands ts (turn.On s) (reader.on t) = StateStands ts s t
TurnStands ts (turn.Done ss) (reader.done c) = StandsFor list_at past_list p.statements ts ss c
TurnStands _ _ _ = ⊥
