-- The actions of steps are put behind others, in a pool that has grown.
use Rattle.std.specs.Prelude.{◌≡◌, List, ◌++◌, map, Option, Some, None}
use Rattle.tla_tree.specs.Tree.{Tree}
use Rattle.pcal_tree.specs.Program.{Program}
use Rattle.pcal_tree.specs.Takers.{Takers, single, Taken}
use Rattle.module_write.specs.declared.«module».Action.{Action}
use Rattle.module_write.specs.InMemory.{actions_at}
use Rattle.step_forms.specs.Steps.{Step, step_action}
use Rattle.step_items.specs.declared.desk.Desk.{Desk}
use Rattle.step_items.specs.Desks.{IsDesk}
use Rattle.module_formulas.specs.declared.takers.Taker.{Taker}
use Rattle.module_formulas.specs.TakersIn.{taker_at}
use Rattle.label_actions.specs.Fitting.{AllFit}

-- what stands for `self` in the steps of a single process
abbrev pub self_of : Takers → Option Tree
self_of (single e) = Some e
self_of _ = None

-- the desk is of t's routine, and the taker is t's
pub record Works (ts : List Tree) (d : Desk) (k : Taker) (P : Program) (t : Taken) : Type 0 where
  pub desk : IsDesk ts d P t.routine (self_of t.takers)
  pub takers : taker_at ts k ≡ t.takers

-- behind the actions of before: those for the steps, in their order
abbrev pub AddsSteps : List Tree → List Tree → Desk → Taker → List Action → List Action → List Step → Type 0
AddsSteps ts us d k old new ss =
    (P : Program) (t : Taken) → Works ts d k P t → AllFit P t.routine ss → actions_at us new ≡ actions_at ts old ++ map (step_action P t) ss
