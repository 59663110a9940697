-- What the loop keeps: the names so far have values, in their order, and all are FALSE.
use Rattle.std.proofs.Common.{◌≡◌, take}
use Rattle.pcal_tree.specs.InitialChoice.{nothing}
use Rattle.step_moves.specs.StatesOf.{state_of}
use Rattle.step_meaning.specs.Begun.{names_in}
use Rattle.step_meaning.proofs.puts.blank.Given as goal

abbrev pub invariant-loop-name : goal.invariant-loop-name
invariant-loop-name l = record {
  names : names_in l.state ≡ take l.name-index l.variables;
  nothing : state_of l.state ≡ nothing;
}
