-- What comes of explaining a trace where the trouble that is told is met by the written names, and the processes are looked for once.
use Rattle.std.specs.Prelude.{ℕ, suc, List, [], ◌∷◌, Option, Some, None, Ok, Err}
use Rattle.tla_value.specs.Definitions.{Valuation}
use Rattle.tla_value.specs.Value.{Trouble, Outcome}
use Rattle.pcal_tree.specs.Processes.{actors}
use Rattle.pcal_tree.specs.Program.{Program, Actor}
use Rattle.pcal_tree.specs.Scope.{State}
use Rattle.pcal_tree.specs.Variables.{on_variables}
use Rattle.module_tree.specs.Module.{Module}
use Rattle.module_tree.specs.ModuleTruth.{next_holds, init_holds}
use Rattle.step_runner.specs.Explained.{Explained, troubled, trouble_in, told, after_verdict}
use Rattle.written_runs.specs.WrittenTroubles.{written_trouble_of_all}
use Rattle.written_traces.specs.AskedStarts.{as_written, start_asked}

-- the trouble that is met while it is looked whether a state is initial
abbrev pub written_start_trouble : Program → List Actor → State → Option Trouble
written_start_trouble P vs s = trouble_in (start_asked (as_written P) P vs s)

abbrev pub pairs_explained_once : Program → Module → Valuation → List Actor → ℕ → State → List State → Explained
pairs_explained_once P m constants vs n s [] = record { states = []; halt = None }
pairs_explained_once P m constants vs n s (t ∷ ts) =
    after_verdict n (next_holds P.check m constants (on_variables P s) (on_variables P t)) (told P (written_trouble_of_all P s vs)) t
    (pairs_explained_once P m constants vs (suc n) t ts)

abbrev pub states_explained_once : Program → Module → Valuation → List Actor → List State → Explained
states_explained_once P m constants vs [] = record { states = []; halt = None }
states_explained_once P m constants vs (s ∷ ts) =
    after_verdict 0 (init_holds P.check m constants (on_variables P s)) (told P (written_start_trouble P vs s)) s (pairs_explained_once P m constants vs 1 s ts)

abbrev pub explained_for : Program → Module → Valuation → List State → Outcome (List Actor) → Explained
explained_for P m constants ss (Err k) = record { states = []; halt = Some (troubled k) }
explained_for P m constants ss (Ok vs) = states_explained_once P m constants vs ss

abbrev pub explained_once : Program → Module → Valuation → List State → Explained
explained_once P m constants ss = explained_for P m constants ss (actors P)
