-- What states of a trace are judged by, what is said of them, and why the trace stops by it.
use Rattle.std.specs.Prelude.{ℕ, Bool, true, false, Option, Some, None, Ok, Err}
use Rattle.tla_value.specs.States.{Entries, value_of}
use Rattle.tla_value.specs.Value as tree
use Rattle.tla_value.specs.Value.{Value, Outcome}
use Rattle.module_tree.specs.ActionTruth.{Verdict}
use Rattle.module_tree.specs.Module.{Module}
use Rattle.module_tree.specs.ModuleTruth.{next_holds, init_holds}
use Rattle.module_tree.specs.ProcessPart.{mine_holds}
use Rattle.pcal_tree.specs.Variables.{vars, on_variables}
use Rattle.action_truth.specs.AskedOf.{IsReady}
use Rattle.step_runner.specs.Explained.{Halt, untrue, troubled, told}
use Rattle.step_moves.specs.StatesOf.{state_of, HasJust}
use Rattle.written_runs.specs.WrittenTroubles.{written_trouble_of_all}
use Rattle.written_traces.specs.WrittenTraces.{written_start_trouble}
use Rattle.followed_runs.specs.Parties.{program_of, actors_of, IsParty}
use Rattle.explained_traces.specs.declared.judge.Judge.{Judge}
use Rattle.explained_traces.specs.declared.judge.Pair.{Pair}

-- the processes are those of the program, and the module can be asked
pub record IsJudge (j : Judge) : Type 0 where
  pub party : IsParty j.party
  pub ready : IsReady j.asked

-- just the variables of the translation have values
abbrev pub IsState : Judge → Entries → Type 0
IsState j s = HasJust (vars (program_of j.party)) s

pub record IsPair (j : Judge) (q : Pair) : Type 0 where
  pub from : IsState j q.from.now
  pub to : IsState j q.to.now

-- ---- what is said

-- true or false; none where it is neither
abbrev pub truth_of : Verdict → Option Bool
truth_of (Ok b) = Some b
truth_of (Err k) = None

-- what is read; none where it can't be
abbrev pub read_of : Outcome Value → Option Value
read_of (Ok v) = Some v
read_of (Err k) = None

-- what Next says of a pair
abbrev pub next_of : Judge → Module → Pair → Verdict
next_of j m q =
    next_holds (program_of j.party).check m (value_of j.asked.constants.now) (on_variables (program_of j.party) (state_of q.from.now)) (on_variables (program_of j.party) (state_of q.to.now))

-- what Next says of a process and a pair
abbrev pub mine_of : Judge → Module → Pair → Option Value → Verdict
mine_of j m q v =
    mine_holds (program_of j.party).check m (value_of j.asked.constants.now) (on_variables (program_of j.party) (state_of q.from.now)) (on_variables (program_of j.party) (state_of q.to.now)) v

-- what Init says of a state
abbrev pub init_of : Judge → Module → Entries → Verdict
init_of j m s = init_holds (program_of j.party).check m (value_of j.asked.constants.now) (on_variables (program_of j.party) (state_of s))

-- ---- why a trace stops

-- at state n, where this is said of it
abbrev pub halts : ℕ → Option Bool → tree.Trouble → Option Halt
halts n (Some true) k = None
halts n (Some false) k = Some (untrue n)
halts n None k = Some (troubled k)

-- at the state of a pair
abbrev pub pair_halts : Judge → Module → Pair → Option Halt
pair_halts j m q = halts q.number (truth_of (next_of j m q)) (told (program_of j.party) (written_trouble_of_all (program_of j.party) (state_of q.from.now) (actors_of j.party)))

-- at state 0
abbrev pub start_halts : Judge → Module → Entries → Option Halt
start_halts j m s = halts 0 (truth_of (init_of j m s)) (told (program_of j.party) (written_start_trouble (program_of j.party) (actors_of j.party) (state_of s)))
