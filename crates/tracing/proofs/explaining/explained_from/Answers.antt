-- Proves that what is asked before an explanation holds, and that the trace is explained by the written names.
use Rattle.std.proofs.Common.{List, length, refl, sym, ap, subst, ◌∙◌}
use Rattle.std.specs.List.{AllByRecursion}
use Rattle.pcal_tree.specs.Variables.{vars}
use Rattle.module_write.specs.declared.«module».Action.{Action}
use Rattle.step_moves.specs.declared.program.Program as code
use Rattle.step_moves.specs.Programs.{program_at}
use Rattle.step_moves.specs.StatesOf.{HasJust}
use Rattle.action_truth.specs.AskedOf.{last_titled}
use Rattle.tracing.proofs.ExplainLaws.{once_told}
use Rattle.tracing.proofs.explaining.explained_from.Goals as goal

pub explain-requires-clause-stage : goal.explain-requires-clause-stage
explain-requires-clause-stage c = (let k = c.requires.can.follow in c.stage-from.ensures.stands k.grounds k.whole k.opens)

pub explain-requires-clause-variables : goal.explain-requires-clause-variables
explain-requires-clause-variables c =
    c.as_slice-variables.ensures ∙ c.requires.can.follow.grounds.variables ∙ ap (λ (p : code.Program). vars (program_at p)) (sym c.stage-from.ensures.program)

pub explain-requires-clause-ready : goal.explain-requires-clause-ready
explain-requires-clause-ready c = record {
  region = c.requires.within.region;
  bodies = c.requires.within.bodies;
  titles = λ x. c.in_ok-titles.ensures x ∙ ap (λ (l : List Action). last_titled l x (length l)) c.as_slice-actions.ensures.value;
  nothing = c.new-nothing.ensures;
}

pub explain-requires-clause-constants : goal.explain-requires-clause-constants
explain-requires-clause-constants c = ap (λ (p : code.Program). p.constants.now) (sym c.stage-from.ensures.program)

pub explain-requires-clause-states : goal.explain-requires-clause-states
explain-requires-clause-states c =
    subst (λ (p : code.Program). AllByRecursion (HasJust (vars (program_at p))) c.args.trace.now) (sym c.stage-from.ensures.program) c.requires.can.states

pub returns : goal.returns
returns c =
    once_told c.args.program c.stage-from.result.program c.stage-from.ensures.program c.args.translation.now c.args.trace.now c.explain.result _
    c.explain.ensures.text c.explain.ensures.halt refl (λ m h. record { region = h.region; definitions = h.definitions })
