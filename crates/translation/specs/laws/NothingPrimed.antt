-- An algorithm in which no name is primed, in the statements of a step and in what these use ("A PlusCal User's Manual", section 3.1: expressions are of one state).
use Rattle.std.specs.Prelude.{◌≡◌, List, ◌++◌, reverse, Some}
use Rattle.tla_tree.specs.Tree.{Word, Every}
use Rattle.tla_value.specs.Definitions.{Definition}
use Rattle.tla_value.specs.laws.Grafting.{IsUnprimed}
use Rattle.pcal_tree.specs.Algorithm.{Start, equals, Declaration, Statements, Routine, procedure_routines, routines}
use Rattle.pcal_tree.specs.Expand.{expanded}
use Rattle.pcal_tree.specs.Processes.{OneOf}
use Rattle.pcal_tree.specs.Program.{Program}
use Rattle.pcal_tree.specs.StepStart.{Begin, at_label}
use Rattle.pcal_tree.specs.laws.Expansion.{Throughout}
use Rattle.action_builder.specs.laws.StepsOfLabels.{AllUnprimed}
use Rattle.action_builder.specs.laws.WrittenScope.{definitions_of}

-- up to the next label
abbrev pub NonePrimed : Statements → Type 0
NonePrimed b = Throughout (λ m at. IsUnprimed m at) (λ x. Unit {0}) b

abbrev pub StartUnprimed : Start → Type 0
StartUnprimed (equals e) = Every (λ m at. IsUnprimed m at) e
StartUnprimed _ = Unit {0}

-- from each label on, in the initial values of procedures' variables, and in the definitions in sight and those of extra
pub record NothingPrimed (P : Program) (extra : List Definition) : Type 0 where
  pub items : (u : Routine) → OneOf u (routines P.algorithm) → (l : Word) (b : Begin) → at_label u l ≡ Some b → NonePrimed (expanded (reverse P.algorithm.macros) b.items)
  pub starts : (q : Routine) → OneOf q (procedure_routines P.algorithm) → (d : Declaration) → OneOf d q.variables → StartUnprimed d.start
  pub definitions : AllUnprimed (definitions_of P ++ extra)
