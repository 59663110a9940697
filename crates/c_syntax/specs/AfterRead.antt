-- Steps of code after a statement, beside those of the reader of tokens.
use Rattle.std.specs.Prelude.{ℕ, ◌<◌, ◌≤◌, Bool, ◌&&◌, not, List, Option, Some, None, Result}
use Rattle.tla_token.specs.declared.place.Place.{Place}
use Rattle.tla_token.specs.declared.token.Tokens.{Tokens}
use Rattle.tla_tree.specs.Tree.{Tree}
use Rattle.tla_tree.specs.Lexical.{TokenView}
use Rattle.tla_tree.specs.Lexical as tk
use Rattle.tla_tree.specs.Reader.{Reader, Out, gives, refuses, skip, is_mark}
use Rattle.expr_nodes.specs.declared.cursor.Halt.{Halt}
use Rattle.expr_nodes.specs.ReadIn.{Told}
use Rattle.expr_nodes.specs.Ahead.{ahead}
use Rattle.pcal_tree.specs.Tests.{only_if}
use Rattle.pcal_tree.specs.GrammarC.{Labelled}
use Rattle.syntax_reading.specs.TokenReaders.{by_next, Parts}
use Rattle.algorithm_reader.specs.PartsRead.{parts_in, StepLess}
use Rattle.c_reading.specs.ReadStatements.{Stack, ask_else, ask_or, ask_other, closed, takes_else, takes_or, is_divided, list_by, ended_by, opens, on, done}
use Rattle.c_reading.specs.ReadStatements as reader
use Rattle.c_syntax.specs.Takes.{another_taken}
use Rattle.c_syntax.specs.StatesRead.{Ends, Stands, past_one, TurnStands}
use Rattle.c_syntax.specs.declared.open.End.{End}
use Rattle.c_syntax.specs.declared.open.State.{State}
use Rattle.c_syntax.specs.declared.open.Turn.{Turn}
use Rattle.c_syntax.specs.declared.open.Turn.TheVariants as turn

-- ---- what the innermost takes, where what ends has ended
abbrev pub taken : {A : Type 0} → (Labelled → Stack → Option A) → Option (Labelled × Stack) → Option A
taken f (Some (a, st)) = f a st
taken f None = None

-- another statement, where one may come
abbrev pub next_taken : Option Place → Labelled → Stack → Option Stack
next_taken s a st = only_if (is_divided s a) (another_taken s a st)

-- ---- where reading goes then
abbrev pub past_word : Option Stack → Reader reader.Turn
past_word (Some st) = skip (gives (opens st))
past_word None = refuses

-- the `}` after the whole list stays
abbrev pub at_brace : Option reader.Turn → Reader reader.Turn
at_brace (Some (on s)) = skip (gives (on s))
at_brace (Some (done ss)) = gives (done ss)
at_brace None = refuses

-- ---- the steps of the reader of tokens, by what comes
abbrev pub Step : Type 0
Step = Parts → ℕ → Labelled → Option Place → Stack → Reader reader.Turn

abbrev pub else_step : Step
else_step m n a s st = by_next (λ p k. takes_else s p (closed ask_else a st))

abbrev pub or_step : Step
or_step m n a s st = by_next (λ p k. takes_or s p (closed ask_or a st))

abbrev pub brace_step : Step
brace_step m n a s st = by_next (λ p k. list_by m n s p (tk.mark tk.close_brace) (closed ask_other a st))

abbrev pub list_step : Step
list_step m n a s st = by_next (λ p k. list_by m n s p k (closed ask_other a st))

abbrev pub ended_step : Step
ended_step m n a s st = by_next (ended_by m n a s st)

-- the `;` of the statement that has ended
abbrev pub is_its_semicolon : Bool → TokenView → Bool
is_its_semicolon divided k = not divided && is_mark tk.semicolon k

-- ---- what code reads goes where this reader goes
abbrev pub TurnsTo : Tokens → List Tree → Result (Turn × ℕ) Halt → Out reader.Turn → Type 0
TurnsTo v us r o = Told (λ (x : Turn × ℕ) (t : reader.Turn). TurnStands us x.0 t) (λ x. ahead v x.1) r o

abbrev pub AfterRead : Tokens → List Tree → List Tree → State → End → ℕ → Result (Turn × ℕ) Halt → Step → Type 0
AfterRead v ts us s e i r f =
    (n : ℕ) (a : Labelled) (o : Option Place) (st : Stack) → StepLess v i n → Ends e a o → Stands ts s (past_one a st) st → TurnsTo v us r (f (parts_in v) n a o st (ahead v i))

-- a step goes on only past a token
abbrev pub PassesOn : ℕ → Turn × ℕ → Type 0
PassesOn i (turn.On s, j) = i < j
PassesOn i (turn.Done ss, j) = i ≤ j
