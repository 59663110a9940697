-- Proves that the program is that of what was read, and that the trace is explained as it is by the definition.
use Rattle.std.proofs.Common.{List, refl, sym, subst}
use Rattle.std.specs.List.{AllByRecursion}
use Rattle.tla_value.specs.States.{Entries}
use Rattle.step_moves.specs.StatesOf.{HasJust}
use Rattle.tracing.specs.Beside.{variables_read}
use Rattle.tracing.proofs.ExplainLaws.{can_explain, explained_told}
use Rattle.tracing.proofs.explaining.explained_beside.Goals as goal

pub explained_from-requires-clause-can : goal.explained_from-requires-clause-can
explained_from-requires-clause-can c =
    can_explain c.args.pool.now c.args.checked.now c.requires.can c.args.read.constants _ refl refl refl c.as_slice-outside.result.now c.as_slice-outside.ensures.value
    c.in_ok-defs.ensures.outside refl c.in_ok-values.ensures c.args.read.made (c.requires.made c.args.read.constants) (c.in_ok-defs.ensures.whole _ refl refl refl)
    c.as_slice-states.result.now
    (subst (λ (l : List Entries). AllByRecursion (HasJust (variables_read c.args.pool.now c.args.checked.now)) l) (sym c.as_slice-states.ensures.value) c.requires.states)

pub returns : goal.returns
returns c =
    explained_told c.args.pool.now c.args.checked.now c.requires.can c.args.read.constants _ refl refl refl c.as_slice-outside.result.now c.as_slice-outside.ensures.value
    c.in_ok-defs.ensures.outside refl c.in_ok-values.ensures c.args.translation.now c.args.read.trace.items c.as_slice-states.result.now c.as_slice-states.ensures.value
    c.explained_from.result c.explained_from.ensures
