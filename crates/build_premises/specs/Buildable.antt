-- Statements for which a step can be written, in their written names and with macro calls written out, before jumps are settled ("A PlusCal User's Manual", sections
-- 3.2 and 3.4).
use Rattle.std.specs.Prelude.{◌≡◌, false, List, [], ◌∷◌, bytes_eq, Some}
use Rattle.tla_token.specs.Signs.{is_among}
use Rattle.tla_tree.specs.Tree.{Word}
use Rattle.module_tree.specs.Formulas.{self}
use Rattle.pcal_tree.specs.Algorithm.{Statements, Routine, procedure_routines}
use Rattle.pcal_tree.specs.Calls.{routine_named}
use Rattle.pcal_tree.specs.Expand.{graft_all}
use Rattle.pcal_tree.specs.Program.{Program}
use Rattle.pcal_tree.specs.Variables.{vars}
use Rattle.action_builder.specs.Jumps.{written_jumps}
use Rattle.action_builder.specs.LabelActions.{no_jump_places, written_initials}
use Rattle.action_builder.specs.OwnVariables.{is_own_variable}
use Rattle.action_builder.specs.Prepared.{prepared}
use Rattle.action_builder.specs.Written.{old_stack}
use Rattle.action_builder.specs.WrittenNames.{renames}
use Rattle.action_builder.specs.laws.Ready.{LeftSides, Settled}
use Rattle.step_forms.specs.OldNames.{NoOld}
use Rattle.step_forms.specs.PartsAssigned.{AllInParts}
use Rattle.step_forms.specs.Steps.{Step}
use Rattle.build_premises.specs.Everywhere.{Parts, anything, Everywhere}

-- there is a procedure of the name
abbrev pub IsNamed : List Routine → Word → Type 0
IsNamed us x = (p : Routine) × (routine_named x us ≡ Some p)

-- each call is of a procedure
abbrev pub CallsNamed : List Routine → Statements → Type 0
CallsNamed us ss = Everywhere (record anything { calls = λ p. IsNamed us p.word }) ss

abbrev pub HasOne : List Routine → Type 0
HasOne [] = ⊥
HasOne (u ∷ us) = Unit {0}

-- left sides begin with variables, no name of a `with` is the old stack's, calls are of procedures, a `return` is only where there are some, and no macro call is left
abbrev pub buildable : Program → Parts
buildable P = record {
  assigns = LeftSides (is_among (vars P));
  binds = λ x. bytes_eq old_stack x ≡ false;
  calls = λ p. IsNamed (procedure_routines P.algorithm) p.word;
  returns = HasOne (procedure_routines P.algorithm);
  macros = ⊥;
}

abbrev pub Buildable : Program → Statements → Type 0
Buildable P ss = Everywhere (buildable P) ss

-- statements of a step of the routine u, from the label `here` with the exit l, have their jumps settled
abbrev pub SettledFor : Program → Routine → Word → Word → Statements → Type 0
SettledFor P u here l ss = Settled (is_among (vars P)) (prepared (written_jumps P u (written_initials P) no_jump_places) self (is_own_variable P) here l ss)

-- and once that is done, several assignments to one variable in a statement are each to a part of it
abbrev pub InPartsFor : Program → Routine → Word → Word → Statements → Type 0
InPartsFor P u here l ss = AllInParts (prepared (written_jumps P u (written_initials P) no_jump_places) self (is_own_variable P) here l ss)

-- ---- all that is wanted of a step

-- statements of the routine u, in their written names, from the label `here` with the exit l
pub record FitsFor (P : Program) (u : Routine) (here l : Word) (ss : Statements) : Type 0 where
  pub settled : SettledFor P u here l ss
  pub parts : InPartsFor P u here l ss
  pub fresh : NoOld ss

abbrev pub StepFits : Program → Routine → Step → Type 0
StepFits P u s = FitsFor P u s.label s.begins.exit (graft_all (renames P u) s.begins.items)
