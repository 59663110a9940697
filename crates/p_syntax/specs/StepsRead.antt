-- What a step in code reads of a list of statements, beside the step of the reader of tokens.
use Rattle.std.specs.Prelude.{◌≡◌, ℕ, ◌<◌, ◌≤◌, List, Option, None, Result, codes}
use Rattle.tla_token.specs.declared.place.Place.{Place}
use Rattle.tla_token.specs.declared.token.Tokens.{Tokens}
use Rattle.tla_tree.specs.Tree.{Word, Tree}
use Rattle.tla_tree.specs.Reader.{Reader, ◌>>=◌, gives, refuses}
use Rattle.tla_tree.specs.Spelling.{Phrase}
use Rattle.pcal_tree.specs.GrammarParts.{Labels}
use Rattle.pcal_tree.specs.GrammarP as p
use Rattle.expr_nodes.specs.declared.cursor.Halt.{Halt}
use Rattle.expr_nodes.specs.ReadIn.{Told}
use Rattle.expr_nodes.specs.Ahead.{ahead}
use Rattle.syntax_reading.specs.TokenReaders.{by_next, a_key, a_name, pick, Parts}
use Rattle.syntax_reading.specs.ReadParts.{read_colon}
use Rattle.syntax_reading.specs.ReadAround.{with_label, within}
use Rattle.algorithm_reader.specs.PartsRead.{StandsFor, parts_in, StepLess}
use Rattle.algorithm_reader.specs.SimpleRead.{simple_reader}
use Rattle.p_reading.specs.ReadStatements as reader
use Rattle.p_reading.specs.ReadStatements.{Before, Stack, inside, depth, statement_words, statement_by, closing_words, takes_end, another_by, ended_by, ends_simple}
use Rattle.p_syntax.specs.declared.open.State.{State}
use Rattle.p_syntax.specs.declared.open.Turn.{Turn}
use Rattle.p_syntax.specs.declared.open.Turn.TheVariants as turn
use Rattle.p_syntax.specs.StatesRead.{so_far, StackStands, Stands, list_at, past_list, TurnStands}

-- what code reads where a statement comes is what this reader reads there
abbrev pub StepRead : Tokens → List Tree → List Tree → State → ℕ → Result (State × ℕ) Halt → (Parts → ℕ → Before → Labels → Stack → Reader reader.Turn) → Type 0
StepRead v ts us s i r f =
    (n : ℕ) (b : Before) (ls : Labels) (st : Stack) → StepLess v i n → Stands ts s (so_far b ls) st
    → Told (λ (x : State × ℕ) (t : reader.Turn). TurnStands us (turn.On x.0) t) (λ x. ahead v x.1) r (f (parts_in v) n b ls st (ahead v i))

-- and where a list may end
abbrev pub ClosingRead : Tokens → List Tree → List Tree → State → ℕ → Result (State × ℕ) Halt → (Parts → p.Sequence → Stack → Reader reader.Turn) → Type 0
ClosingRead v ts us s i r f =
    (c : p.Sequence) (st : Stack) → StandsFor list_at past_list p.statements ts s.list c → StackStands ts s.stack.items st → s.depth ≡ depth st
    → Told (λ (x : State × ℕ) (t : reader.Turn). TurnStands us (turn.On x.0) t) (λ x. ahead v x.1) r (f (parts_in v) c st (ahead v i))

-- a test with `then` behind it, at a word that opens a form
abbrev pub test_reader : Parts → ℕ → Reader (Phrase × Place)
test_reader m d = within m d (m.expr >>= λ e. a_key (codes "then") >>= λ q. gives (e, q))

-- what code reads at the `end` of such a statement, whose last list it holds
abbrev pub EndRead : Tokens → State → ℕ → Result (State × ℕ) Halt → List Tree → (Before → Labels → Stack → Reader reader.Turn) → Type 0
EndRead v s i r ts f = (b : Before) (ls : Labels) (st : Stack) → Stands ts s (so_far b ls) st → Told (λ (x : State × ℕ) (t : reader.Turn). TurnStands ts (turn.On x.0) t) (λ x. ahead v x.1) r (f b ls st (ahead v i))

-- the `;` of a statement, and how its list goes on behind it
abbrev pub separator_step : Parts → ℕ → Before → Labels → p.Statement → Stack → Reader reader.Turn
separator_step m n b ls a st = by_next (another_by m n b ls a None st)

abbrev pub another_step : Parts → ℕ → Before → Labels → p.Statement → Option Place → Stack → Reader reader.Turn
another_step m n b ls a o st = by_next (another_by m n b ls a o st)

-- after a statement
abbrev pub ended_step : Parts → ℕ → Before → Labels → p.Statement → Option Place → Stack → Reader reader.Turn
ended_step m n b ls a o st = by_next (ended_by m n b ls a o st)

-- `end`, where this stands open innermost
abbrev pub end_step : p.Sequence → reader.Frame → Before → Labels → Stack → Reader reader.Turn
end_step c f b ls st = by_next (λ a k. takes_end c a (inside f b ls st))

-- a step goes on only past a token
abbrev pub PassesOn : ℕ → Turn × ℕ → Type 0
PassesOn i (turn.On s, j) = i < j
PassesOn i (turn.Done ss, j) = i ≤ j

-- by one of the words that open a statement, or that close a list
abbrev pub opens_by : Word → Parts → ℕ → Before → Labels → Stack → Reader reader.Turn
opens_by w m n b ls st = by_next (λ a k. pick w (statement_words m n b ls st a) refuses)

abbrev pub closes_by : Word → Parts → p.Sequence → Stack → Reader reader.Turn
closes_by w m c st = by_next (λ a k. pick w (closing_words m c a st) refuses)

-- what comes where a statement may
abbrev pub statement_step : Parts → ℕ → Before → Labels → Stack → Reader reader.Turn
statement_step m n b ls st = by_next (statement_by m n b ls st)

-- a label, and a statement that has none in it
abbrev pub label_step : Parts → ℕ → Before → Labels → Stack → Reader reader.Turn
label_step m n b ls st = a_name >>= λ x. read_colon >>= λ c. gives (reader.on (reader.begin b (with_label ls x c) st))

abbrev pub simple_step : Parts → ℕ → Before → Labels → Stack → Reader reader.Turn
simple_step m n b ls st = ends_simple b ls st (simple_reader m n)
