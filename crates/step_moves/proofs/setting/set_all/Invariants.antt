-- What is kept: the rest is set in the state so far as all are in the one before.
use Rattle.std.proofs.Common.{◌≡◌, List, length, drop}
use Rattle.tla_tree.specs.Tree.{Word}
use Rattle.step_moves.specs.StatesOf.{AreOf, HasJust}
use Rattle.step_moves.proofs.StateLaws.{SetFrom}
use Rattle.step_moves.proofs.setting.set_all.Given as goal

abbrev pub invariant-loop-one : goal.invariant-loop-one
invariant-loop-one l = record {
  set : SetFrom l.fn.all.items (length l.yielded) l.fn.state l.state;
  names : (xs : List Word) → AreOf xs l.fn.all.items → HasJust xs l.fn.state → HasJust xs l.state;
}
