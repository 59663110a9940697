-- When first values are evaluated alike in two ways: those of a procedure's variables at calls, and those of all declarations at a start.
use Rattle.std.specs.Prelude.{◌≡◌, List, Bool, true, false}
use Rattle.std.specs.List.{AllByRecursion}
use Rattle.tla_tree.specs.Tree.{Tree}
use Rattle.tla_value.specs.Value.{Value, Outcome}
use Rattle.pcal_tree.specs.Algorithm.{Start, unset, equals, among, Routine, locals, procedure_routines, main_routines, Algorithm}
use Rattle.pcal_tree.specs.InitialStates.{running, is_multiprocess}
use Rattle.pcal_tree.specs.Processes.{OneOf}
use Rattle.pcal_tree.specs.Program.{Actor}
use Rattle.pcal_tree.specs.Scope.{State}
use Rattle.step_walks.specs.FirstValues.{Evaluation}

-- the expression of a declaration, or its set
abbrev pub Alike : (Tree → State → Outcome Value) → (Tree → State → Outcome Value) → Start → Type 0
Alike f g unset = Unit {0}
Alike f g (equals e) = (s : State) → f e s ≡ g e s
Alike f g (among e) = (s : State) → f e s ≡ g e s

-- of the procedures, for a process that calls them
abbrev pub CallsAlike : Evaluation → Evaluation → Actor → List Routine → Type 0
CallsAlike E F v us = (p : Routine) → OneOf p us → AllByRecursion (λ d. Alike (E.inside v p) (F.inside v p) d.start) p.variables

-- an expression for each process, a set once for all
abbrev pub SpreadAlike : Evaluation → Evaluation → Routine → List Actor → Start → Type 0
SpreadAlike E F u vs unset = Unit {0}
SpreadAlike E F u vs (equals e) = (v : Actor) → OneOf v vs → (s : State) → E.inside v u e s ≡ F.inside v u e s
SpreadAlike E F u vs (among e) = (s : State) → E.outside e s ≡ F.outside e s

abbrev pub LocalAlike : Evaluation → Evaluation → Routine → Bool → List Actor → Start → Type 0
LocalAlike E F u true vs d = SpreadAlike E F u vs d
LocalAlike E F u false vs d = (v : Actor) → OneOf v vs → Alike (E.inside v u) (F.inside v u) d

abbrev pub LocalsAlike : Evaluation → Evaluation → Routine → Bool → List Actor → Type 0
LocalsAlike E F u spread vs = AllByRecursion (λ d. LocalAlike E F u spread vs d.start) (locals u)

-- of all declarations, with these processes
pub record StartsAlike (E F : Evaluation) (a : Algorithm) (vs : List Actor) : Type 0 where
  pub globals : AllByRecursion (λ d. Alike E.outside F.outside d.start) a.globals
  pub procedures : (u : Routine) → OneOf u (procedure_routines a) → LocalsAlike E F u (is_multiprocess a.main) vs
  pub processes : (u : Routine) → OneOf u (main_routines a a.main) → LocalsAlike E F u u.spread (running u vs)
