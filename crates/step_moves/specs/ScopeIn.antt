-- The scope of the written names in which names are bound besides ("A PlusCal User's Manual", section 4, on names in the translation).
use Rattle.std.specs.Prelude.{List, [], None}
use Rattle.tla_tree.specs.Tree.{Word}
use Rattle.tla_value.specs.Value.{Value}
use Rattle.tla_value.specs.Definitions.{no_state}
use Rattle.tla_value.specs.States.{Entries}
use Rattle.pcal_tree.specs.Scope.{Scope}
use Rattle.pcal_tree.specs.Program.{Program}
use Rattle.pcal_tree.specs.Variables.{vars}
use Rattle.action_builder.specs.laws.Ready.{values_of}
use Rattle.action_builder.specs.laws.WrittenScope.{written_env, written_part}
use Rattle.eval_scopes.specs.Scopes.{with_words}
use Rattle.step_moves.specs.declared.program.Program as code
use Rattle.step_moves.specs.Programs.{program_at, IsWhole}
use Rattle.step_moves.specs.StatesOf.{HasJust}

-- of names that are alike the later one counts
abbrev pub scope_in : Program → List Word → List Value → Scope
scope_in P xs vs = record {
  env = λ s. with_words xs vs (written_env P [] None (values_of (vars P) s) no_state);
  part = λ x at s. written_part P x;
  origin = λ x at. at;
}

-- a program that is whole, and a state of its variables
pub record IsScene (p : code.Program) (m : Entries) : Type 0 where
  pub whole : IsWhole p
  pub names : HasJust (vars (program_at p)) m
