-- What the loop keeps: the members so far, with what is left, are the whole.
use Rattle.std.proofs.Common.{drop}
use Rattle.tla_value.specs.Value.{values_in}
use Rattle.step_meaning.proofs.ChoiceLaws.{EachFrom}
use Rattle.step_meaning.proofs.spread.each_member.Given as goal

abbrev pub invariant-loop-one : goal.invariant-loop-one
invariant-loop-one l = EachFrom l.place (values_in l.members) l.ids l._one-index l.all.items (drop l.used l.choices) (drop l.fn.used l.choices)
