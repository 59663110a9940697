-- What code has read of lists of statements, beside the state that the reader of tokens is in: statements in memory, and what stands open.
use Rattle.std.specs.Prelude.{◌≡◌, ℕ, ◌<◌, ◌≤◌, Bool, true, false, is_some, List, [], ◌∷◌, ◌++◌, length, Vec, Option, Result}
use Rattle.std.specs.declared.alloc.Global.{Global}
use Rattle.tla_token.specs.declared.place.Place.{Place}
use Rattle.tla_token.specs.declared.token.Tokens.{Tokens}
use Rattle.tla_tree.specs.Tree.{Word, Tree}
use Rattle.tla_tree.specs.Reader.{Reader, Out, ◌>>=◌, gives, refuses}
use Rattle.tla_tree.specs.Pool as pool
use Rattle.tla_tree.specs.Spelling.{tree_of}
use Rattle.pcal_tree.specs.declared.algorithm.Stmt.{Stmt}
use Rattle.pcal_tree.specs.Algorithm.{Statements, Branches}
use Rattle.pcal_tree.specs.Algorithm as tree
use Rattle.pcal_tree.specs.InMemory.{statements_at, binds_at, past_statements, past_binds, past_branches}
use Rattle.pcal_tree.specs.GrammarParts.{last_place, Labels, with_labels, binds_of}
use Rattle.pcal_tree.specs.GrammarC.{Labelled, labelled_tokens, labelled_ends_in_block, flat, statements}
use Rattle.expr_nodes.specs.declared.cursor.Halt.{Halt}
use Rattle.expr_nodes.specs.ReadIn.{Told}
use Rattle.expr_nodes.specs.Ahead.{ahead}
use Rattle.pcal_tree.specs.Tests.{is_empty}
use Rattle.syntax_reading.specs.TokenReaders.{by_next, a_name, pick, Parts}
use Rattle.algorithm_reader.specs.ListsRead.{in_branches, ListStands}
use Rattle.algorithm_reader.specs.PartsRead.{StandsFor, parts_in, StepLess}
use Rattle.algorithm_reader.specs.SimpleRead.{simple_reader}
use Rattle.syntax_reading.specs.ReadParts.{read_colon}
use Rattle.syntax_reading.specs.ReadAround.{with_label, within}
use Rattle.c_reading.specs.ReadStatements as reader
use Rattle.c_reading.specs.ReadStatements.{Before, none, after, Arms, first_arm, later_arm, if_test, with_opening, while_opening, Stack, bottom, in_block, in_then, in_else, in_body, in_either, depth, opens, ends_simple, statement_words, statement_by}
use Rattle.c_syntax.specs.declared.open.Begun.{Begun}
use Rattle.c_syntax.specs.declared.open.Frame.{Frame}
use Rattle.c_syntax.specs.declared.open.Frame.TheVariants as frame
use Rattle.c_syntax.specs.declared.open.Open.{Open}
use Rattle.c_syntax.specs.declared.open.End.{End}
use Rattle.c_syntax.specs.declared.open.Point.{Point}
use Rattle.c_syntax.specs.declared.open.Point.TheVariants as point
use Rattle.c_syntax.specs.declared.open.State.{State}
use Rattle.c_syntax.specs.declared.open.Turn.{Turn}
use Rattle.c_syntax.specs.declared.open.Turn.TheVariants as turn

-- ---- the trees of what was read, before the rest of the list

abbrev pub before_tree : Before → Statements → Statements
before_tree none ss = ss
before_tree (after b a s) ss = before_tree b (flat a ss)

-- the list that the next statement stands in, up to it; that of a `{..}` goes on from the one round it
abbrev pub inner : Stack → Statements → Statements
inner (bottom b) ss = before_tree b ss
inner (in_block ls p b st) ss = inner st (with_labels ls (before_tree b ss))
inner (in_then ls t st) ss = ss
inner (in_else ls t a s p st) ss = ss
inner (in_body ls o st) ss = ss
inner (in_either t st) ss = ss

-- up to a statement with these labels, and past one
abbrev pub up_to : Labels → Stack → Statements → Statements
up_to ls st ss = inner st (with_labels ls ss)

abbrev pub past_one : Labelled → Stack → Statements → Statements
past_one a st ss = inner st (flat a ss)

-- the branches of an `either` before others
abbrev pub arms_labels : Arms → Labels
arms_labels (first_arm ls p) = ls
arms_labels (later_arm t a s p) = arms_labels t

abbrev pub arms_place : Arms → Place
arms_place (first_arm ls p) = p
arms_place (later_arm t a s p) = arms_place t

abbrev pub arms_tree : Arms → Branches → Branches
arms_tree (first_arm ls p) xs = xs
arms_tree (later_arm t a s p) xs = arms_tree t (tree.or (flat a tree.done) xs)

abbrev pub is_first : Arms → Bool
is_first (first_arm ls p) = true
is_first (later_arm t a s p) = false

-- what is open round the innermost
abbrev pub around : Stack → Stack
around (bottom b) = bottom b
around (in_block ls p b st) = st
around (in_then ls t st) = st
around (in_else ls t a s p st) = st
around (in_body ls o st) = st
around (in_either t st) = st

-- ---- what stands for what, over the trees of a pool

-- a statement with these labels that has begun at this place, in the list that it stands in
pub record BegunStands (ts : List Tree) (g : Begun) (ls : Labels) (p : Place) (st : Stack) : Type 0 where
  pub list : ListStands ts g.list.items (up_to ls st)
  pub first : g.first ≡ p

pub record BranchesStand (ts : List Tree) (bs : List (Vec Stmt Global)) (t : Arms) : Type 0 where
  pub below : past_branches bs ≤ length ts
  pub first : is_empty bs ≡ is_first t
  pub tree : (rest : Branches) → in_branches ts bs rest ≡ arms_tree t rest

-- the innermost
abbrev pub FrameStands : List Tree → Frame → Stack → Type 0
FrameStands ts frame.Block (in_block ls p b st) = Unit {0}
FrameStands ts (frame.Then g e) (in_then ls (if_test p q x r) st) = BegunStands ts g ls p st × (e < length ts) × (pool.at ts e ≡ tree_of x)
FrameStands ts (frame.Else g e c) (in_else ls (if_test p q x r) a s u st) = BegunStands ts g ls p st × (e < length ts) × (pool.at ts e ≡ tree_of x) × ListStands ts c.items (flat a)
FrameStands ts (frame.With g bs) (in_body ls (with_opening p q cs r) st) = BegunStands ts g ls p st × (past_binds bs.items ≤ length ts) × (binds_at ts bs.items ≡ binds_of cs)
FrameStands ts (frame.While g e) (in_body ls (while_opening p q x r) st) = BegunStands ts g ls p st × (e < length ts) × (pool.at ts e ≡ tree_of x)
FrameStands ts (frame.Either g bs) (in_either t st) = BegunStands ts g (arms_labels t) (arms_place t) st × BranchesStand ts bs.items t
FrameStands _ _ _ = ⊥

pub record OpenStands (ts : List Tree) (o : Open) (st : Stack) : Type 0 where
  pub frame : FrameStands ts o.frame st
  pub depth : o.depth ≡ depth (around st)

-- the innermost is the last in memory
abbrev pub StackStands : List Tree → List Open → Stack → Type 0
StackStands ts os (bottom b) = os ≡ []
StackStands ts os (in_block ls p b st) = (under : List Open) × (o : Open) × (os ≡ under ++ o ∷ []) × OpenStands ts o (in_block ls p b st) × StackStands ts under st
StackStands ts os (in_then ls t st) = (under : List Open) × (o : Open) × (os ≡ under ++ o ∷ []) × OpenStands ts o (in_then ls t st) × StackStands ts under st
StackStands ts os (in_else ls t a s p st) = (under : List Open) × (o : Open) × (os ≡ under ++ o ∷ []) × OpenStands ts o (in_else ls t a s p st) × StackStands ts under st
StackStands ts os (in_body ls e st) = (under : List Open) × (o : Open) × (os ≡ under ++ o ∷ []) × OpenStands ts o (in_body ls e st) × StackStands ts under st
StackStands ts os (in_either t st) = (under : List Open) × (o : Open) × (os ≡ under ++ o ∷ []) × OpenStands ts o (in_either t st) × StackStands ts under st

-- the list so far, and what stands open
pub record Stands (ts : List Tree) (s : State) (f : Statements → Statements) (st : Stack) : Type 0 where
  pub list : ListStands ts s.list.items f
  pub stack : StackStands ts s.stack.items st
  pub depth : s.depth ≡ depth st

-- a statement that has ended, and whether its `;` was passed
pub record Ends (e : End) (a : Labelled) (s : Option Place) : Type 0 where
  pub last : e.last ≡ last_place (labelled_tokens a [])
  pub block : e.block ≡ labelled_ends_in_block a
  pub divided : e.divided ≡ is_some s

abbrev pub PointStands : Point → Labelled → Option Place → Type 0
PointStands point.Begins a s = ⊥
PointStands (point.Ended e) a s = Ends e a s

-- a state in memory and one of the reader of tokens: whatever comes, what stands here has the same tree
abbrev pub StateStands : List Tree → State → reader.State → Type 0
StateStands ts s (reader.begin ls st) = (s.point ≡ point.Begins) × Stands ts s (up_to ls st) st
StateStands ts s (reader.ended a o st) = PointStands s.point a o × Stands ts s (past_one a st) st

-- a list in memory
abbrev pub list_at : List Tree → Vec Stmt Global → Statements
list_at ts ss = statements_at ts ss.items

abbrev pub past_list : Vec Stmt Global → ℕ
past_list ss = past_statements ss.items

abbrev pub TurnStands : List Tree → Turn → reader.Turn → Type 0
TurnStands ts (turn.On s) (reader.on t) = StateStands ts s t
TurnStands ts (turn.Done ss) (reader.done c) = StandsFor list_at past_list statements ts ss c
TurnStands _ _ _ = ⊥

-- ---- steps

-- what code reads goes where this reader goes
abbrev pub GoesTo : Tokens → List Tree → Result (State × ℕ) Halt → Out reader.Turn → Type 0
GoesTo v us r o = Told (λ (x : State × ℕ) (t : reader.Turn). TurnStands us (turn.On x.0) t) (λ x. ahead v x.1) r o

-- where a statement comes
abbrev pub StepRead : Tokens → List Tree → List Tree → State → ℕ → Result (State × ℕ) Halt → (Parts → ℕ → Labels → Stack → Reader reader.Turn) → Type 0
StepRead v ts us s i r f =
    (n : ℕ) (ls : Labels) (st : Stack) → StepLess v i n → Stands ts s (up_to ls st) st → GoesTo v us r (f (parts_in v) n ls st (ahead v i))

-- by one of the words that open a statement
abbrev pub opens_by : Word → Parts → ℕ → Labels → Stack → Reader reader.Turn
opens_by w m n ls st = by_next (λ p k. pick w (statement_words m n ls st p) refuses)

-- by a `{`
abbrev pub block_step : Parts → ℕ → Labels → Stack → Reader reader.Turn
block_step m n ls st = by_next (λ p k. within m (depth st) (gives (opens (in_block ls p none st))))

-- a label, and a statement that has none in it
abbrev pub label_step : Parts → ℕ → Labels → Stack → Reader reader.Turn
label_step m n ls st = a_name >>= λ x. read_colon >>= λ c. gives (reader.on (reader.begin (with_label ls x c) st))

abbrev pub simple_step : Parts → ℕ → Labels → Stack → Reader reader.Turn
simple_step m n ls st = ends_simple ls st (simple_reader m n)

-- what comes where a statement may
abbrev pub statement_step : Parts → ℕ → Labels → Stack → Reader reader.Turn
statement_step m n ls st = by_next (statement_by m n ls st)
