-- What macros, procedures and processes that were read stand for, beside what is spelled, and how a process begins.
use Rattle.std.specs.Prelude.{ℕ, ◌+◌, Bool, false, List, [], ◌∷◌, map, Vec, Option, Some, None, Result, codes}
use Rattle.std.specs.Str.{bytes_eq}
use Rattle.std.specs.declared.alloc.Global.{Global}
use Rattle.tla_token.specs.declared.place.Place.{Place}
use Rattle.tla_token.specs.declared.token.Tokens.{Tokens}
use Rattle.tla_tree.specs.Tree.{Tree, Word, Name}
use Rattle.tla_tree.specs.Pool.{at}
use Rattle.tla_tree.specs.Lexical.{TokenView}
use Rattle.tla_tree.specs.Lexical as tk
use Rattle.tla_tree.specs.Spelling.{tree_of}
use Rattle.tla_tree.specs.Reader.{Out, Reader, ◌>>=◌, gives, refuses, skip}
use Rattle.tla_tree.specs.Nesting.{greatest}
use Rattle.expr_nodes.specs.declared.cursor.Halt.{Halt}
use Rattle.expr_nodes.specs.ReadIn.{Told}
use Rattle.expr_nodes.specs.Ahead.{ahead}
use Rattle.pcal_tree.specs.declared.mark.Fairness.{Fairness}
use Rattle.pcal_tree.specs.declared.algorithm.Stmt.{Stmt}
use Rattle.pcal_tree.specs.declared.algorithm.Macro.{Macro}
use Rattle.pcal_tree.specs.declared.algorithm.Procedure.{Procedure}
use Rattle.pcal_tree.specs.declared.algorithm.Process.{Process}
use Rattle.pcal_tree.specs.Algorithm as tree
use Rattle.pcal_tree.specs.InMemory.{statements_at, past_statements, macro_at, past_macro, procedure_at, past_procedure, process_at, past_process}
use Rattle.pcal_tree.specs.Grammar.{Fair, unfair, fairness_of, Identity, process_name, is_several, identifiers, Main}
use Rattle.syntax_reading.specs.TokenReaders.{by_next, a_key, pick, Parts}
use Rattle.syntax_reading.specs.ReadAround.{fair_by}
use Rattle.syntax_reading.specs.ReadRoutines.{Ways, main_processes}

-- a word that isn't reserved
abbrev pub is_plain : Word → TokenView → Bool
is_plain w (tk.word x) = bytes_eq w x
is_plain w k = false

-- what is passed and has no value: the tokens behind it are what is left
abbrev pub Passes : {A : Type 0} → Tokens → Result ℕ Halt → Out A → Type 0
Passes v r o = Told (λ i a. Unit {0}) (ahead v) r o

-- ---- what is spelled in two ways
abbrev pub body_at : List Tree → Vec Stmt Global → tree.Statements
body_at ts ss = statements_at ts ss.items

abbrev pub past_body : Vec Stmt Global → ℕ
past_body ss = past_statements ss.items

-- which process it is: its name, whether there are several, and the set of their identifiers or the one
abbrev pub identity_at : List Tree → Name × Bool × ℕ → Name × Bool × Tree
identity_at ts x = (x.0, x.1, at ts x.2)

abbrev pub past_identity : Name × Bool × ℕ → ℕ
past_identity x = x.2 + 1

abbrev pub identity_tree : Identity → Name × Bool × Tree
identity_tree i = (process_name i, is_several i, tree_of (identifiers i))

-- ---- lists
abbrev pub macros_at : List Tree → Vec Macro Global → List tree.Macro
macros_at ts ms = map (macro_at ts) ms.items

abbrev pub past_macros : Vec Macro Global → ℕ
past_macros ms = greatest (map past_macro ms.items)

abbrev pub procedures_at : List Tree → Vec Procedure Global → List tree.Procedure
procedures_at ts ps = map (procedure_at ts) ps.items

abbrev pub past_procedures : Vec Procedure Global → ℕ
past_procedures ps = greatest (map past_procedure ps.items)

abbrev pub processes_at : List Tree → Vec Process Global → List tree.Process
processes_at ts ps = map (process_at ts) ps.items

abbrev pub past_processes : Vec Process Global → ℕ
past_processes ps = greatest (map past_process ps.items)

-- ---- the words before a process: how fair it is, with the place of `process`; none where no process begins
abbrev pub beginning_words : Place → List (Word × Reader (Option (Fair × Place)))
beginning_words p =
    (codes "process", skip (gives (Some (unfair, p))))
    ∷ (codes "fair", skip (by_next (fair_by p) >>= λ a. a_key (codes "process") >>= λ q. gives (Some (a, q))))
    ∷ []

abbrev pub beginning_by : Place → TokenView → Reader (Option (Fair × Place))
beginning_by p (tk.reserved w) = pick w (beginning_words p) (gives None)
beginning_by p k = gives None

abbrev pub read_beginning : Reader (Option (Fair × Place))
read_beginning = by_next beginning_by

abbrev pub beginning_fairness : Option (Fair × Place) → Option Fairness
beginning_fairness None = None
beginning_fairness (Some x) = Some (fairness_of x.0)

-- the processes of a whole algorithm, from the first one's word on
abbrev pub main_processes_by : Parts → Ways → ℕ → Place → TokenView → Reader Main
main_processes_by m f n p (tk.reserved w) = main_processes m f n p w
main_processes_by m f n p k = refuses

abbrev pub read_main_processes : Parts → Ways → ℕ → Reader Main
read_main_processes m f n = by_next (main_processes_by m f n)
