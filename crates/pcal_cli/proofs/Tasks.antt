-- A task is no run and no trace: what holds of the answer to a command of one text holds of the answer to its command.
use Rattle.std.proofs.Common.{ℕ, List, Option, Some}
use Rattle.outer_io.specs.Outer.{Texts}
use Rattle.pcal_cli.specs.declared.status.Status.{Status}
use Rattle.pcal_cli.specs.declared.task.Task.{Task}
use Rattle.pcal_cli.specs.declared.task.Task.TheVariants as task
use Rattle.pcal_cli.specs.Words.{input_of}
use Rattle.pcal_cli.specs.Causes.{OfInput, KeepsPromise, Promised, ExplainsText, Explains}
use Rattle.pcal_cli.specs.Answered.{AnsweredFrom, Answered}
use Rattle.pcal_cli.specs.Tasks.{as_command}

pub answered_task : {H K : Type 0} (texts : H → Option Texts) (given faults : H → ℕ) (wrote : K → Option (List ℕ)) (write_faults : K → ℕ) (t : Task) (s : Status) (shelf after : H) (out out_after : K)
    → AnsweredFrom texts given faults wrote write_faults (Some (input_of (as_command t))) (Some (as_command t)) s shelf after out out_after → Answered texts given faults wrote write_faults (Some (as_command t)) s shelf after out out_after
answered_task texts given faults wrote write_faults (task.Translate f o) s shelf after out out_after h = h
answered_task texts given faults wrote write_faults (task.Check f b) s shelf after out out_after h = h
answered_task texts given faults wrote write_faults (task.Rewrite f to) s shelf after out out_after h = h
answered_task texts given faults wrote write_faults (task.Map f b) s shelf after out out_after h = h
answered_task texts given faults wrote write_faults (task.Make seed count) s shelf after out out_after h = h

pub promised_task : (ts : Option Texts) (t : Task) (old new : Option (List ℕ)) → OfInput ts (input_of (as_command t)) (KeepsPromise old new (as_command t)) → Promised ts (Some (as_command t)) old new
promised_task ts (task.Translate f o) old new h = h
promised_task ts (task.Check f b) old new h = h
promised_task ts (task.Rewrite f to) old new h = h
promised_task ts (task.Map f b) old new h = h
promised_task ts (task.Make seed count) old new h = h

pub explained_task : (ts : Option Texts) (failed failed_after : ℕ) (t : Task) (s : Status) (old new : Option (List ℕ)) (before after : ℕ) → ExplainsText ts (Some (as_command t)) s old new before after → Explains ts failed failed_after (Some (as_command t)) s old new before after
explained_task ts failed failed_after (task.Translate f o) s old new before after h = h
explained_task ts failed failed_after (task.Check f b) s old new before after h = h
explained_task ts failed failed_after (task.Rewrite f to) s old new before after h = h
explained_task ts failed failed_after (task.Map f b) s old new before after h = h
explained_task ts failed failed_after (task.Make seed count) s old new before after h = h
