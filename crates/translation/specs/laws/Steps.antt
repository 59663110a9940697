-- The step from a label of which the laws of written actions speak, as the written module has it.
use Rattle.std.specs.Prelude.{Bool}
use Rattle.tla_tree.specs.Tree.{Word}
use Rattle.module_tree.specs.Formulas.{self}
use Rattle.pcal_tree.specs.Algorithm.{Routine}
use Rattle.pcal_tree.specs.Scope.{Scope}
use Rattle.pcal_tree.specs.Run.{Rules}
use Rattle.pcal_tree.specs.StepStart.{Begin}
use Rattle.pcal_tree.specs.Program.{Program}
use Rattle.action_builder.specs.Jumps.{written_jumps}
use Rattle.action_builder.specs.WrittenNames.{written_statements}
use Rattle.action_builder.specs.OwnVariables.{is_own_variable}
use Rattle.action_builder.specs.LabelActions.{no_jump_places, written_initials}
use Rattle.action_builder.specs.laws.Settling.{Callable}
use Rattle.action_builder.specs.laws.LabelSteps.{LabelStep}

-- from the label l of a routine, which begins with b; with any rules, names that a `with` may bind, calls, and scope
abbrev pub written_step : Program → Routine → Word → Begin → Rules → (Word → Bool) → Callable → Scope → LabelStep
written_step P u l b rules names callable scope = record {
  rules = rules;
  jumps = written_jumps P u (written_initials P) no_jump_places;
  names = names;
  callable = callable;
  self = self;
  own = is_own_variable P;
  scope = scope;
  here = l;
  exit = b.exit;
  statements = written_statements P u b.items;
}
