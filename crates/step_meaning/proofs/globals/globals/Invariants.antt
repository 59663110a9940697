-- What the loop keeps: the rest goes on from here as all do from the beginning.
use Rattle.std.proofs.Common.{drop}
use Rattle.step_moves.specs.StatesOf.{state_of}
use Rattle.step_meaning.specs.Begun.{IsBegun}
use Rattle.step_meaning.proofs.LocalLaws.{GlobalsFrom}
use Rattle.step_meaning.proofs.globals.globals.Given as goal

abbrev pub invariant-loop-one : goal.invariant-loop-one
invariant-loop-one l = record {
  begun : IsBegun l.program l.state;
  flows : GlobalsFrom l.program l.list (state_of l.fn.state) (drop l.fn.used l.choices) l.one-index (state_of l.state) (drop l.used l.choices);
}
