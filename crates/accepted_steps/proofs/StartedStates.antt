-- A start of an accepted algorithm that goes through ends in an initial state, under any limits that change no value.
use Rattle.std.proofs.Common.{◌≡◌, Bool, true, false, if◌then◌else◌, Ok, Err}
use Rattle.tla_value.specs.Limits.{fits, bounded}
use Rattle.tla_value.specs.Stops.{Check, plain}
use Rattle.tla_value.specs.Value.{Value, Outcome, over}
use Rattle.pcal_tree.specs.Algorithm.{procedure_routines, main_routines}
use Rattle.pcal_tree.specs.Program.{Program}
use Rattle.pcal_tree.specs.Programs.{program_in}
use Rattle.pcal_tree.proofs.TroubleLaws.{one_left, one_right}
use Rattle.accepted_steps.specs.StartedStates.{HandsOn, StartsInitial}
use Rattle.accepted_steps.proofs.AllNames.{all_once, global_free}
use Rattle.accepted_steps.proofs.EarlyReads.{all_globals_read, routines_read, global_none}
use Rattle.accepted_steps.proofs.Starts.{names_of_processes, names_of_all_routines, own_names, once_globals, once_routines, start_initial}

pub starts_initial : (c : Check) → HandsOn c → StartsInitial c
starts_initial c l o g h values ns ms t q =
    let P : Program = program_in c o g values in
    let us = procedure_routines g in
    let ps = main_routines g g.main in
    let once = all_once c o g h values in
    let own = once_globals g.globals (names_of_all_routines P) once in
    start_initial P l once (all_globals_read c o g h values l once)
    (routines_read c o g h values l us (names_of_processes P) (λ u k. one_left u us ps k) own (global_free c o g h values))
    (routines_read c o g h values l ps own_names (λ u k. one_right u us ps k) (once_routines P us (names_of_processes P) own) (λ x k. global_none c o g h values us (names_of_processes P) x (global_free c o g h values x k)))
    ns ms t q

-- ---- limits

same_value : {v w : Value} → ◌≡◌ {A = Outcome Value} (Ok v) (Ok w) → w ≡ v
same_value q = cc

pub without_limits : StartsInitial plain
without_limits = starts_initial plain (λ at v w q. same_value q)

bounded_hands_on : HandsOn bounded
bounded_hands_on at v w q = by (fits v) q
  where
    by : (b : Bool) → ◌≡◌ {A = Outcome Value} (if b then Ok v else Err (over at)) (Ok w) → w ≡ v
    by true k = same_value k
    by false k = cc

pub within_limits : StartsInitial bounded
within_limits = starts_initial bounded bounded_hands_on
