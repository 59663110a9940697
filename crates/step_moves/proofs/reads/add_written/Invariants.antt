-- What the loop keeps: what is there, with the names that are left, is the whole.
use Rattle.std.proofs.Common.{◌≡◌, ◌++◌, drop, map}
use Rattle.written_names.specs.Units.{naming_of}
use Rattle.step_moves.specs.Runners.{names_of}
use Rattle.step_moves.proofs.reads.add_written.Given as goal

abbrev pub invariant-loop-one : goal.invariant-loop-one
invariant-loop-one l =
    let written = (naming_of l.naming).local l.unit in
    l.all.items ++ map written (names_of (drop l.one-index l.list)) ≡ l.fn.all.items ++ map written (names_of l.list)
