-- Proves that the stop is that of what goes through without choices.
use Rattle.std.proofs.Common.{subst}
use Rattle.tla_value.specs.Value.{fault, over}
use Rattle.step_choices.specs.declared.pause.Pause.{Pause}
use Rattle.step_choices.specs.Pauses.{Pauses}
use Rattle.step_walks.specs.Flows.{falls, flowing}
use Rattle.start_troubles.proofs.GivenLaws.{flowing_halts}
use Rattle.start_troubles.proofs.spread.stop_of.Goals as goal

pub returns-in-Fault : goal.returns-in-Fault
returns-in-Fault c o ns h = flowing_halts o ns (fault c.in-Fault.kind c.in-Fault.place) (subst (λ (q : Pause). Pauses q (flowing o (λ v. falls v ns))) c.in-Fault.is h)

pub returns-in-Limit : goal.returns-in-Limit
returns-in-Limit c o ns h = flowing_halts o ns (over c.in-Limit.place) (subst (λ (q : Pause). Pauses q (flowing o (λ v. falls v ns))) c.in-Limit.is h)
