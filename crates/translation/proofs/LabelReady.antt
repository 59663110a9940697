-- Items can be written for a step from a label of a routine, with written names: what is read may be read where it is, nothing is assigned twice, and the scope stands.
use Rattle.std.proofs.Common.{◌≡◌, List, [], ◌++◌, Bool, true, false, codes, Some, reverse}
use Rattle.tla_tree.specs.Tree.{Word}
use Rattle.tla_value.specs.Stops.{plain}
use Rattle.tla_value.specs.Standard.{printed, asserted, standard_sense}
use Rattle.tla_value.specs.Definitions.{Definition}
use Rattle.pcal_tree.specs.Algorithm.{declares, Routine, locals, procedure_routines}
use Rattle.pcal_tree.specs.Expand.{expanded}
use Rattle.pcal_tree.specs.OffencesLabels.{label_offences}
use Rattle.pcal_tree.specs.OffencesStale.{stale_offences}
use Rattle.pcal_tree.specs.Processes.{OneOf}
use Rattle.pcal_tree.specs.Program.{Program, Actor}
use Rattle.pcal_tree.specs.Reads.{readings_of}
use Rattle.pcal_tree.specs.Scope.{State}
use Rattle.pcal_tree.specs.Step.{Stand}
use Rattle.pcal_tree.specs.StepStart.{at_label}
use Rattle.pcal_tree.specs.Variables.{vars}
use Rattle.pcal_tree.specs.laws.Expansion.{Throughout}
use Rattle.action_builder.specs.Prepared.{none}
use Rattle.action_builder.specs.laws.LabelSteps.{IsReady}
use Rattle.action_builder.specs.laws.Settling.{Callable}
use Rattle.action_builder.specs.laws.StepsOfLabels.{step_of, pair_env, AllUnprimed, AllSettledFor}
use Rattle.action_builder.specs.laws.WrittenScope.{definitions_of, NamesApart}
use Rattle.action_builder.proofs.StepsOfLabels.{scope_stands}
use Rattle.translation.specs.laws.FreshReads.{fresh, Plain}
use Rattle.translation.specs.laws.StepNames.{Unused, StepNames, Frames}
use Rattle.translation.specs.laws.TypedAlgorithm.{IsTypedAlgorithm}
use Rattle.translation.specs.laws.WritableAlgorithm.{is_procedure, is_variable, AreWritableStatements}
use Rattle.translation.proofs.BegunSteps.{IsRoutine, label_asked}
use Rattle.translation.proofs.RoutineReady.{step_ready}

-- what is asked of names, and of the definitions that are in sight
pub record NamesSound (P : Program) (extra : List Definition) (v : Actor) (u : Routine) (N : Word → Type 0) (r : Bool) : Type 0 where
  pub names : StepNames P u N
  pub frames : (q : Routine) → OneOf q (procedure_routines P.algorithm) → Frames P u N r
  pub local : (x : Word) → declares (locals u) x ≡ true → Unused P x
  pub apart : NamesApart P extra v u
  pub settled : AllSettledFor P extra (fresh (readings_of P.algorithm))
  pub unprimed : AllUnprimed (definitions_of P ++ extra)
  pub print : (s t : State) → (pair_env P extra v s t).defs (codes "PrintT") ≡ Some (standard_sense plain printed)
  pub assert : (s t : State) → (pair_env P extra v s t).defs (codes "Assert") ≡ Some (standard_sense plain asserted)

-- of a procedure where r is true
pub label_ready : (P : Program) (extra : List Definition) (v : Actor) (d : Stand) (r : Bool) (N : Word → Type 0) (names : Word → Bool) (callable : Callable) → IsRoutine P.algorithm r d.routine → NamesSound P extra v d.routine N r
    → IsTypedAlgorithm P.algorithm → label_offences P.algorithm ≡ [] → stale_offences P.algorithm ≡ []
    → AreWritableStatements (is_procedure P.algorithm) (is_variable P.algorithm d.routine) (expanded (reverse P.algorithm.macros) d.routine.body)
    → at_label d.routine d.label ≡ Some d.begins
    → (AreWritableStatements (is_procedure P.algorithm) (is_variable P.algorithm d.routine) (expanded (reverse P.algorithm.macros) d.begins.items) → Throughout (Plain N) N (expanded (reverse P.algorithm.macros) d.begins.items))
    → IsReady (fresh (readings_of P.algorithm)) (vars P) (pair_env P extra v) none (step_of P extra v d names callable)
label_ready P extra v d r N names callable one k typed labels stale written begins bound =
    let a = P.algorithm in
    let u = d.routine in
    let e = label_asked a r u one N typed labels stale written (λ x n. (k.names.bound x n).1) k.local d.label d.begins begins bound in
    let x = step_ready P u N k.names r k.frames (is_mine r one) d.label d.begins.exit (expanded (reverse a.macros) d.begins.items) e in
    record {
      settled = x.settled;
      fine = x.fine;
      once = x.once;
      within = λ y m. absurd (never m);
      stands = scope_stands P extra v (fresh (readings_of a)) k.settled k.unprimed k.apart.self_free u k.apart k.print k.assert;
    }
  where
    never : false ≡ true → ⊥
    never e = cc

    is_mine : (r : Bool) → IsRoutine P.algorithm r d.routine → r ≡ true → OneOf d.routine (procedure_routines P.algorithm)
    is_mine true k e = k
    is_mine false k e = absurd (never e)
