-- Units and what their actions are written from, as the pool grows.
use Rattle.std.proofs.Common.{◌≡◌, ℕ, ◌≤◌, List, ◌++◌, length, refl, sym, ◌∙◌, arith}
use Rattle.tla_tree.specs.Tree.{Tree}
use Rattle.tla_tree.specs.Pool.{Keeps}
use Rattle.tla_tree.proofs.PoolNumbers.{Keeps-then}
use Rattle.pcal_tree.specs.Algorithm.{Routine, locals, routines}
use Rattle.pcal_tree.specs.Processes.{OneOf}
use Rattle.pcal_tree.specs.Program.{Program}
use Rattle.pcal_tree.specs.Run.{unlabelled}
use Rattle.pcal_tree.specs.Takers.{Taken}
use Rattle.pcal_tree.specs.Variables.{declared}
use Rattle.pcal_tree.proofs.InMemoryGrown.{declarations_at-kept, statements_at-kept}
use Rattle.module_write.specs.declared.«module».Action.{Action}
use Rattle.module_write.specs.InMemory.{ActionsIn}
use Rattle.draft.proofs.Grown.{draft_kept}
use Rattle.draft.proofs.NameLaws.{both_declared}
use Rattle.draft.specs.RoutineNames.{words_of}
use Rattle.step_forms.specs.Steps.{steps}
use Rattle.module_formulas.proofs.Grown.{taker_at-kept}
use Rattle.label_actions.specs.declared.unit.Basis.{Basis}
use Rattle.label_actions.specs.declared.unit.Unit as code
use Rattle.label_actions.specs.Fitting.{AllFit, StepFits, IsActable}
use Rattle.label_actions.specs.Units.{IsBasis, BasisIn, IsUnit, UnitIn}
use Rattle.label_actions.proofs.RoutinesListed.{every_of}

module _ (ts us : List Tree) (k : Keeps ts us) where
  pub basis_kept : (b : Basis) (P : Program) → BasisIn (length ts) b → IsBasis ts b P → IsBasis us b P
  basis_kept b P within h = record { draft = draft_kept ts us k b.draft.now P h.draft; titles = h.titles; empty = h.empty; this = k.same b.this within.this ∙ h.this }

  pub unit_kept : (u : code.Unit) (t : Taken) → UnitIn (length ts) u → IsUnit ts u t → IsUnit us u t
  unit_kept u t within h = record {
    number = h.number;
    takers = taker_at-kept ts us k u.taker within.taker ∙ h.takers;
    params = h.params ∙ sym (declarations_at-kept ts us k u.params.now within.params);
    variables = h.variables ∙ sym (declarations_at-kept ts us k u.variables.now within.variables);
    body = h.body ∙ sym (statements_at-kept ts us k u.body.now within.body);
    exit = h.exit;
  }

pub basis_more : (m n : ℕ) → m ≤ n → (b : Basis) → BasisIn m b → BasisIn n b
basis_more m n le b h = record { draft = (let w = h.draft in omega (arith, w, le)); this = (let w = h.this in omega (arith, w, le)) }

-- its parameters and variables
pub unit_names : (ts : List Tree) (u : code.Unit) (t : Taken) → IsUnit ts u t → declared (locals t.routine) ≡ words_of u.params.now ++ words_of u.variables.now
unit_names ts u t h = (λ i. declared (h.params i ++ h.variables i)) ∙ both_declared ts u.params.now u.variables.now

-- each of its steps fits
pub unit_fits : (P : Program) (u : Routine) → IsActable P → OneOf u (routines P.algorithm) → AllFit P u (steps unlabelled u.body u.exit)
unit_fits P u h one = every_of (StepFits P u) (steps unlabelled u.body u.exit) (λ s listed. h.steps u one s listed)

-- the pool has grown, and all actions are of it
pub record Grows (old now : List Tree) (acts : List Action) : Type 0 where
  pub kept : Keeps old now
  pub within : ActionsIn (length now) acts

pub grows_none : (ts : List Tree) (acts : List Action) → ActionsIn (length ts) acts → Grows ts ts acts
grows_none ts acts h = record { kept = record { longer = omega arith; same = λ i l. refl }; within = h }

pub grows_more : (old now new : List Tree) (acts more : List Action) → Grows old now acts → Keeps now new → ActionsIn (length new) more → Grows old new more
grows_more old now new acts more g k h = record { kept = Keeps-then old now new g.kept k; within = h }
