-- What the loop keeps: there is one for each identifier so far.
use Rattle.std.proofs.Common.{◌≡◌, map, take}
use Rattle.pcal_tree.specs.Calls.{defaultInitValue}
use Rattle.step_meaning.proofs.spread.each_default.Given as goal

abbrev pub invariant-loop-one : goal.invariant-loop-one
invariant-loop-one l = l.all.items ≡ map (λ v. defaultInitValue) (take l._one-index l.ids)
