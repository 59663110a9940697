-- The line on the error output where a script stops before its end.
use Rattle.std.specs.Prelude.{[], unwrap_or}
use Rattle.tla_tree.specs.Tree.{Word}
use Rattle.pcal_tree.specs.Scope.{State}
use Rattle.pcal_tree.specs.StepAnswers.{Reply, stopped_by}
use Rattle.step_runner.specs.Fronts.{Text}
use Rattle.step_runner.specs.Followed.{Stop}
use Rattle.step_runner.specs.StopLines.{script_line, trouble_line}
use Rattle.std.specs.Prelude.{ℕ}

-- a fault or a limit has its place in the module, any other reply the number of the step
abbrev pub reply_line : Word → ℕ → Reply State → Text
reply_line file n (stopped_by k) = trouble_line file k
reply_line file n r = unwrap_or (script_line n r) []

abbrev pub stop_line : Word → Stop → Text
stop_line file s = reply_line file s.step s.reply
