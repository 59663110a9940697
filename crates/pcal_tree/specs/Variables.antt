-- The variables of the translation, and states that agree on them ("A PlusCal User's Manual", section 4, on the translation).
use Rattle.std.specs.Prelude.{◌≡◌, List, [], ◌∷◌, ◌++◌, codes, map, cond, Some, None}
use Rattle.tla_token.specs.Signs.{is_among}
use Rattle.tla_tree.specs.Tree.{Word, Each}
use Rattle.tla_value.specs.Definitions.{Valuation}
use Rattle.pcal_tree.specs.Algorithm.{Declaration, Routine, locals, procedure_routines, main_routines}
use Rattle.pcal_tree.specs.Scope.{State}
use Rattle.pcal_tree.specs.Program.{Program, written}

abbrev pub pc : Word
pc = codes "pc"

abbrev pub stack : Word
stack = codes "stack"

abbrev pub declared : List Declaration → List Word
declared ds = map (λ d. d.name.word) ds

abbrev pub written_all : Program → Routine → List Declaration → List Word
written_all P u ds = map (written P u) (declared ds)

abbrev pub written_by_all : Program → List Routine → List Word
written_by_all P [] = []
written_by_all P (u ∷ us) = written_all P u (locals u) ++ written_by_all P us

abbrev pub stack_for : List Routine → List Word
stack_for [] = []
stack_for (u ∷ us) = stack ∷ []

-- the names of `vars`: globals, pc, the stack where there are procedures, the variables of procedures and those of processes
abbrev pub vars : Program → List Word
vars P =
    declared P.algorithm.globals ++ (pc ∷ stack_for (procedure_routines P.algorithm))
    ++ written_by_all P (procedure_routines P.algorithm) ++ written_by_all P (main_routines P.algorithm P.algorithm.main)

-- a state as the values of the variables of the translation
abbrev pub on_variables : Program → State → Valuation
on_variables P s x = cond (is_among (vars P) x) (Some (s x)) None

-- the same value at each of the names
abbrev pub Agree : List Word → State → State → Type 0
Agree xs s t = Each (λ x. s x ≡ t x) xs
