-- The variables of the translation that are functions of the identifiers of processes ("A PlusCal User's Manual", section 3.3, processes).
use Rattle.std.specs.Prelude.{List, [], ◌∷◌, ◌++◌, filter, Bool}
use Rattle.tla_token.specs.Signs.{is_among}
use Rattle.tla_tree.specs.Tree.{Word, Tree, graft}
use Rattle.tla_value.specs.Grafts.{owned}
use Rattle.module_tree.specs.Formulas.{self}
use Rattle.pcal_tree.specs.Algorithm.{Routine, Main, alone, processes, procedure_routines, main_routines}
use Rattle.pcal_tree.specs.Program.{Program}
use Rattle.pcal_tree.specs.Variables.{pc, stack_for, written_by_all}

abbrev pub own_under : Program → List Routine → List Routine → Main → List Word
own_under P procedures mains (alone ss) = []
own_under P procedures mains (processes ps) =
    pc ∷ stack_for procedures ++ written_by_all P procedures ++ written_by_all P (filter (λ u. u.spread) mains)

-- pc, the stack, the variables of procedures, and those of process sets; none where there is one body
abbrev pub own_variables : Program → List Word
own_variables P = own_under P (procedure_routines P.algorithm) (main_routines P.algorithm P.algorithm.main) P.algorithm.main

abbrev pub is_own_variable : Program → Word → Bool
is_own_variable P x = is_among (own_variables P) x

-- an expression with x[self] for each such variable x
abbrev pub localised : Program → Tree → Tree
localised P e = graft (owned self (is_own_variable P)) e
