-- What Next says of one process: its own action, or a procedure's with the process for `self` ("A PlusCal User's Manual", section 3).
use Rattle.std.specs.Prelude.{List, [], ◌∷◌, filter, false, cond, Option, Some, None, Ok}
use Rattle.tla_tree.specs.Tree.{Tree}
use Rattle.tla_value.specs.Value.{Value, or_all, ◌>>=◌}
use Rattle.tla_value.specs.Order.{holds}
use Rattle.tla_value.specs.Stops.{Check}
use Rattle.tla_value.specs.Meaning.{Env}
use Rattle.tla_value.specs.Definitions.{Valuation}
use Rattle.module_tree.specs.Module.{Call, call, call_with, Way, Module}
use Rattle.module_tree.specs.Ways.{is_procedure, call_of, steps_of, own_steps, processes_in, sets_of}
use Rattle.module_tree.specs.ActionTruth.{Verdict, members_in, Acts, acted, some_way_holds}
use Rattle.module_tree.specs.ModuleTruth.{scope, acts_in}

-- the action of a call, with v in place of its argument
abbrev pub called_for : Acts → Value → Call → Verdict
called_for acts v (call a) = acted (acts a) None
called_for acts v (call_with a e) = acted (acts a) (Some v)

-- v is a member of e, and then the call's action is so
abbrev pub case_for : Check → Env → Acts → Value → Way → Tree → Verdict
case_for c env acts v y e = do
  vs ← members_in c env e
  cond (holds v vs) (called_for acts v (call_of y)) (Ok false)

abbrev pub cases_for : Check → Env → Acts → Value → List Way → List Tree → Verdict
cases_for c env acts v (y ∷ ys) (e ∷ es) = or_all (case_for c env acts v y e) (cases_for c env acts v ys es)
cases_for c env acts v _ _ = Ok false

abbrev pub all_for : Acts → Value → List Way → Verdict
all_for acts v [] = Ok false
all_for acts v (y ∷ ys) = or_all (called_for acts v (call_of y)) (all_for acts v ys)

-- v's own action, or a procedure's with v for `self`; in an algorithm without processes, all but Terminating
abbrev pub mine_by : Check → Env → Acts → Module → Option Value → Verdict
mine_by c env acts m None = some_way_holds c env acts (steps_of m.region.next)
mine_by c env acts m (Some v) =
    or_all (cases_for c env acts v (own_steps m.region.next) (sets_of (processes_in m.region.next) m.region.process_set))
    (all_for acts v (filter is_procedure (steps_of m.region.next)))

abbrev pub mine_holds : Check → Module → Valuation → Valuation → Valuation → Option Value → Verdict
mine_holds c m constants s t v = mine_by c (scope c m constants s t) (acts_in c m constants s t) m v
