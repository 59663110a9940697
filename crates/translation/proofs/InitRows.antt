-- Init of an algorithm with a procedure, which is accepted in its file, by the law: true of a state where its variables have their initial values, false of another.
use Rattle.std.proofs.Common.{◌≡◌, [], ◌∷◌, Bool, true, false, ◌||◌, cond, bytes_eq, codes, Option, Some, None, refl, sym, ◌∙◌, ap, subst, Ok, Err}
use Rattle.std.specs.Prelude.{pos}
use Rattle.tla_token.specs.Signs.{is_among}
use Rattle.tla_tree.specs.Tree.{Word}
use Rattle.tla_value.specs.Value.{Value, text, int, Trouble, Outcome, TrueExactly}
use Rattle.tla_value.specs.Order.{IsCanonical}
use Rattle.tla_value.specs.Stops.{plain}
use Rattle.tla_value.specs.Definitions.{Valuation}
use Rattle.tla_value.specs.Outside.{Outside}
use Rattle.module_tree.specs.Module.{Module}
use Rattle.module_tree.specs.ModuleTruth.{init_holds}
use Rattle.pcal_tree.specs.Algorithm.{Algorithm}
use Rattle.pcal_tree.specs.Calls.{defaultInitValue}
use Rattle.pcal_tree.specs.Grammar.{algorithm_of}
use Rattle.pcal_tree.specs.InitialStates.{allowed, empty_stack, Initial}
use Rattle.pcal_tree.specs.Processes.{Proper}
use Rattle.pcal_tree.specs.Program.{Program}
use Rattle.pcal_tree.specs.Programs.{program_in}
use Rattle.pcal_tree.specs.Scope.{State}
use Rattle.pcal_tree.specs.Variables.{on_variables}
use Rattle.action_builder.specs.WrittenNames.{with_names}
use Rattle.promise.specs.ConstantsAndStates.{AreConstants, IsState}
use Rattle.translation.specs.Region.{region_of}
use Rattle.translation.specs.laws.AcceptedAlgorithm.{IsAcceptedInFile}
use Rattle.translation.proofs.InitOfRegion.{init_of_region_law}
use Rattle.translation.proofs.RowsAccepted.{add_accepted}
use Rattle.translation.proofs.RowsProcedures as procedures
use Rattle.translation.proofs.RowsStands.{add_text}

-- where the walk gives a truth value, so does Init, and the same one
pub told : (title : Word) (o : Outside) (a : Algorithm) → IsAcceptedInFile o a → (values : Valuation) (s : State) → AreConstants (record { title = title; outside = o; region = region_of false (with_names o a) }) values → IsState (program_in plain o a values) s
    → Proper (program_in plain o a values) → (b : Bool) → allowed (program_in plain o a values) s ≡ Ok b
    → init_holds plain (record { title = title; outside = o; region = region_of false (with_names o a) }) values (on_variables (program_in plain o a values) s) ≡ Ok b
told title o a h values s k state proper b e = by b e (init_of_region_law false title o a h values s k state proper (λ kind at q. never b (sym e ∙ q)))
  where
    never : (b : Bool) {j : Trouble} → ◌≡◌ {A = Outcome Bool} (Ok b) (Err j) → ⊥
    never b e = cc

    by : (b : Bool) → allowed (program_in plain o a values) s ≡ Ok b
        → TrueExactly (init_holds plain (record { title = title; outside = o; region = region_of false (with_names o a) }) values (on_variables (program_in plain o a values) s)) (Initial (program_in plain o a values) s)
        → init_holds plain (record { title = title; outside = o; region = region_of false (with_names o a) }) values (on_variables (program_in plain o a values) s) ≡ Ok b
    by true e (c, f, g) = f ∙ ap (λ z. Ok z) (g.1 e)
    by false e (true, f, g) = absurd (differ (sym (g.0 refl) ∙ e))
      where
        differ : ◌≡◌ {A = Outcome Bool} (Ok true) (Ok false) → ⊥
        differ q = cc
    by false e (false, f, g) = f

-- ---- the values of constants

-- no module has any constant but defaultInitValue here
abbrev pub values : Valuation
values x = cond (bytes_eq (codes "defaultInitValue") x) (Some defaultInitValue) None

pub no_constants : (x : Word) → is_among (codes "defaultInitValue" ∷ []) x ≡ false → values x ≡ None
no_constants x = other (bytes_eq (codes "defaultInitValue") x)
  where
    other : (b : Bool) → (b || false) ≡ false → cond b (Some defaultInitValue) None ≡ None
    other true e = cc
    other false e = refl

pub values_canonical : (x : Word) (v : Value) → values x ≡ Some v → IsCanonical v
values_canonical x v = canonical (bytes_eq (codes "defaultInitValue") x) v
  where
    canonical : (b : Bool) (v : Value) → cond b (Some defaultInitValue) None ≡ Some v → IsCanonical v
    canonical true v e = subst IsCanonical (same v e) tt
      where
        same : (v : Value) → ◌≡◌ {A = Option Value} (Some defaultInitValue) (Some v) → defaultInitValue ≡ v
        same v e = cc
    canonical false v e = cc

-- ---- the algorithm with a procedure

abbrev adder : Algorithm
adder = algorithm_of add_text

abbrev m : Module
m = record { title = codes "M"; outside = procedures.sequences; region = region_of false (with_names procedures.sequences adder) }

abbrev P : Program
P = program_in plain procedures.sequences adder values

constants_are : AreConstants m values
constants_are = record { unset = refl; given = tt; no_other = no_constants; canonical = values_canonical }

-- r = 0, n = 0, k as it is given, an empty stack, and pc at A
abbrev begun : Value → State
begun k x = cond (bytes_eq (codes "k") x) k (cond (bytes_eq (codes "stack") x) empty_stack (cond (bytes_eq (codes "pc") x) (text (codes "A")) (int (pos 0))))

processes_are : Proper P
processes_are = (_, refl)

starts : init_holds plain m values (on_variables P (begun (int (pos 1)))) ≡ Ok true
starts = told (codes "M") procedures.sequences adder add_accepted values (begun (int (pos 1))) constants_are (tt, (tt, ((tt, tt, tt, refl), (tt, (tt, tt))))) processes_are true refl

does_not_start : init_holds plain m values (on_variables P (begun (int (pos 0)))) ≡ Ok false
does_not_start = told (codes "M") procedures.sequences adder add_accepted values (begun (int (pos 0))) constants_are (tt, (tt, ((tt, tt, tt, refl), (tt, (tt, tt))))) processes_are false refl
