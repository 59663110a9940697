-- Proves that a jump sets `pc` to the value of its label.
use Rattle.std.proofs.Common.{refl, sym, subst}
use Rattle.tla_value.specs.Limits.{bounded}
use Rattle.pcal_tree.specs.Assign as pure
use Rattle.pcal_tree.specs.Program.{index}
use Rattle.pcal_tree.specs.Calls.{setting}
use Rattle.pcal_tree.specs.Variables.{pc}
use Rattle.value_forms.specs.Gives.{Gives}
use Rattle.step_moves.specs.Programs.{program_at}
use Rattle.step_moves.specs.StatesOf.{state_of}
use Rattle.step_moves.proofs.jumps.jump.Goals as goal

pub returns-clause-jumped : goal.returns-clause-jumped
returns-clause-jumped c v u h =
    subst (λ (one : pure.Setting). Gives (λ x. state_of c.set_pc.new.state) c.set_pc.result (pure.set_one bounded one (state_of c.args.state.now)))
    (λ i. setting (sym h.place i) pc (index v.self) (c.in_ok-label.ensures (program_at c.args.runner.now.program) u refl h.number i))
    (c.set_pc.ensures.set v u h)
