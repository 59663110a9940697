-- The scope of the written names, in which every variable of the translation stands for itself, as in the written module; and what is asked so that it fits the scope
-- of a routine ("A PlusCal User's Manual", section 4, on names in the translation).
use Rattle.std.specs.Prelude.{◌≡◌, List, [], ◌∷◌, ◌++◌, Bool, true, false, ◌||◌, not, cond, bytes_eq, Option, Some, None, map, Ok, Err}
use Rattle.tla_token.specs.Signs.{is_among}
use Rattle.tla_tree.specs.Tree.{Word}
use Rattle.tla_value.specs.declared.fault.FaultKind.TheVariants.{NotFunction}
use Rattle.tla_value.specs.Value.{Value, Outcome, fault}
use Rattle.tla_value.specs.Meaning.{Env, bind}
use Rattle.tla_value.specs.Definitions.{Valuation, Definition, no_state, scope_of}
use Rattle.tla_value.specs.laws.FreeNames.{Any, Also, FreeNames}
use Rattle.module_tree.specs.Formulas.{self}
use Rattle.pcal_tree.specs.Algorithm.{nowhere, declares, Routine, locals}
use Rattle.pcal_tree.specs.Scope.{Part, Scope}
use Rattle.pcal_tree.specs.Program.{Program, Actor, inner, local_index, written}
use Rattle.pcal_tree.specs.Processes.{identifier}
use Rattle.pcal_tree.specs.Variables.{vars}
use Rattle.action_builder.specs.OwnVariables.{is_own_variable}
use Rattle.action_builder.specs.laws.Scopes.{part_at, own_path}
use Rattle.action_builder.specs.laws.Ready.{values_of}
use Rattle.tla_value.specs.laws.Untitled.{Untitled}

-- ---- the scope

-- the definitions in sight of expressions of the algorithm, and those that the translation has besides (ProcSet)
abbrev pub definitions_of : Program → List Definition
definitions_of P = P.outside ++ map inner P.algorithm.definitions

abbrev pub self_bound : Option Value → Env → Env
self_bound (Some v) e = bind self v e
self_bound None e = e

-- of a pair of states
abbrev pub written_env : Program → List Definition → Option Value → Valuation → Valuation → Env
written_env P extra v s t = self_bound v (scope_of P.check P.constants (definitions_of P ++ extra) s t)

abbrev pub written_part : Program → Word → Outcome Part
written_part P x = cond (is_among (vars P) x) (Ok (part_at x [])) (Err (fault NotFunction nowhere))

abbrev pub written_scope : Program → List Definition → Actor → Scope
written_scope P extra v = record {
  env = λ s. written_env P extra v.self (values_of (vars P) s) no_state;
  part = λ x at s. written_part P x;
  origin = λ x at. at;
}

-- ---- names

abbrev pub titles : List Definition → List Word
titles ds = map (λ d. d.title) ds

-- names that mean the same in all routines: globals, and what is no variable and no further definition of the translation
abbrev pub common : Program → List Definition → Word → Bool
common P extra x = declares P.algorithm.globals x || not (is_among (vars P) x || is_among (titles extra) x)

-- those that mean something in the routine u: its own variables too
abbrev pub seen : Program → List Definition → Routine → Word → Bool
seen P extra u x = declares (locals u) x || common P extra x

abbrev pub Common : Program → List Definition → Word → Type 0
Common P extra x = common P extra x ≡ true

abbrev pub Seen : Program → List Definition → Routine → Word → Type 0
Seen P extra u x = seen P extra u x ≡ true

abbrev pub AllRead : (Word → Type 0) → List Definition → Type 0
AllRead N [] = Unit {0}
AllRead N (d ∷ ds) = FreeNames (Also d.params N) Any d.body × AllRead N ds

-- definitions without parameters, whose names are of no N
abbrev pub Aside : (Word → Type 0) → List Definition → Type 0
Aside N [] = Unit {0}
Aside N (d ∷ ds) = (d.params ≡ []) × ((x : Word) → N x → bytes_eq d.title x ≡ false) × Aside N ds

-- written names are apart from each other and from what has a name already; definitions read none of them
pub record NamesApart (P : Program) (extra : List Definition) (v : Actor) (u : Routine) : Type 0 where
  pub self_free : is_among (vars P) self ≡ false
  pub self_untitled : is_among (titles extra) self ≡ false
  pub self_local : declares (locals u) self ≡ false
  pub local : (x : Word) → declares (locals u) x ≡ true → is_among (vars P) (written P u x) ≡ true
  pub path : (x : Word) → declares (locals u) x ≡ true → local_index v u ≡ own_path (is_own_variable P (written P u x)) (identifier v.self)
  pub global : (x : Word) → declares P.algorithm.globals x ≡ true → (is_among (vars P) x ≡ true) × (is_own_variable P x ≡ false)
  pub own : (x : Word) → is_own_variable P x ≡ true → (is_among (vars P) x ≡ true) × ((w : Value) × (v.self ≡ Some w))
  pub untitled : (x : Word) → is_among (vars P) x ≡ true → Untitled x (definitions_of P ++ extra)
  pub definitions : AllRead (Common P extra) (definitions_of P)
  pub aside : Aside (Common P extra) extra
