-- What the loop keeps: what is there, with the arguments that are left, is the whole.
use Rattle.std.proofs.Common.{◌≡◌, ◌++◌, drop}
use Rattle.pcal_tree.specs.Calls.{argument_settings}
use Rattle.step_moves.specs.StatesOf.{settings_of}
use Rattle.step_moves.proofs.settings.add_settings.Given as goal

abbrev pub invariant-loop-i : goal.invariant-loop-i
invariant-loop-i l =
    settings_of l.all.items ++ argument_settings l.path (drop l.i l.names) (drop l.i l.places) (drop l.i l.values) ≡ settings_of l.fn.all.items ++ argument_settings l.path l.names l.places l.values
