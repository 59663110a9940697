-- Init of an accepted algorithm's translation is true exactly of its initial states, where no initial value faults: of the region that has the algorithm's own places.
use Rattle.std.proofs.Common.{◌≡◌, List, [], ◌∷◌, ◌++◌, Bool, flat_map, map, filter, refl, sym, ◌∙◌, ap, Ok, Err}
use Rattle.tla_token.specs.declared.place.Place.{Place}
use Rattle.tla_token.specs.Signs.{is_among}
use Rattle.tla_tree.specs.Tree.{Word, Tree, graft}
use Rattle.tla_value.specs.declared.fault.FaultKind.{FaultKind}
use Rattle.tla_value.specs.Value.{Outcome, fault, over, TrueExactly}
use Rattle.tla_value.specs.Stops.{plain}
use Rattle.tla_value.specs.Definitions.{Valuation}
use Rattle.tla_value.specs.Grafts.{owned}
use Rattle.tla_value.specs.Outside.{Outside}
use Rattle.tla_value.proofs.Outcomes.{ok_is}
use Rattle.module_tree.specs.Formulas.{self, named, equal}
use Rattle.module_tree.specs.ModuleTruth.{all_hold, init_holds}
use Rattle.pcal_tree.specs.Algorithm.{Start, Main, alone, processes, Routine, locals, procedure_routines, main_routines, Algorithm}
use Rattle.pcal_tree.specs.InitialStates.{allowed, Initial, InitFault}
use Rattle.pcal_tree.specs.Processes.{actors}
use Rattle.pcal_tree.specs.Program.{Program, Actor, written}
use Rattle.pcal_tree.specs.Programs.{program_in}
use Rattle.pcal_tree.specs.Scope.{State}
use Rattle.pcal_tree.specs.Takers.{Takers, each_of, single, lone, Taken, taken_main}
use Rattle.pcal_tree.specs.Variables.{pc, stack_for, written_all, written_by_all, on_variables}
use Rattle.action_builder.specs.InitialFormulas.{plain_start, spread_start, written_in, start_by, locals_start, globals_start, for_all_processes, stack_start, pc_value, init}
use Rattle.action_builder.specs.LabelActions.{taken_procedures}
use Rattle.action_builder.specs.OwnVariables.{own_under, own_variables}
use Rattle.action_builder.specs.SingleProcess.{in_place_of}
use Rattle.action_builder.specs.WrittenNames.{with_names, renamed}
use Rattle.promise.specs.ConstantsAndStates.{AreConstants, IsState}
use Rattle.translation.specs.Region.{region_of}
use Rattle.translation.specs.laws.AcceptedAlgorithm.{IsAcceptedInFile}
use Rattle.translation.specs.laws.AcceptedLaws.{InitOfRegionLaw}
use Rattle.translation.proofs.InitFollows.{init_follows}
use Rattle.translation.proofs.InitSets.{E}
use Rattle.translation.proofs.InitTroubles.{allowed_in_limits}

-- ---- no value of a constant matters to what is written

module _ (o : Outside) (a : Algorithm) (values : Valuation) where
  abbrev N : Program
  N = with_names o a

  abbrev P : Program
  P = program_in plain o a values

  variables_alike : (us : List Routine) → written_by_all N us ≡ written_by_all P us
  variables_alike [] = refl
  variables_alike (u ∷ us) = ap (λ xs. written_all P u (locals u) ++ xs) (variables_alike us)

  own_alike : own_variables N ≡ own_variables P
  own_alike = by a.main
    where
      by : (m : Main) → own_under N (procedure_routines a) (main_routines a m) m ≡ own_under P (procedure_routines a) (main_routines a m) m
      by (alone ss) = refl
      by (processes ps) = λ i. pc ∷ stack_for (procedure_routines a) ++ variables_alike (procedure_routines a) i ++ variables_alike (filter (λ u. u.spread) (main_routines a (processes ps))) i

  written_alike : (u : Routine) → written_in N u ≡ written_in P u
  written_alike u = λ i e. graft (owned self (λ x. is_among (own_alike i) x)) (renamed P u e)

  start_alike : (u : Routine) (t : Takers) (x : Word) (d : Start) → start_by N u t x d ≡ start_by P u t x d
  start_alike u (each_of s) x d = ap (λ f. spread_start f s x d) (written_alike u)
  start_alike u (single e) x d = ap (λ (f : Tree → Tree). plain_start (λ t. graft (in_place_of self e) (f t)) x d) (written_alike u)
  start_alike u lone x d = ap (λ f. plain_start f x d) (written_alike u)

  locals_alike : (t : Taken) → locals_start N t ≡ locals_start P t
  locals_alike t = λ i. map (λ d. start_alike t.routine t.takers (written P t.routine d.name.word) d.start i) (locals t.routine)

  labels_alike : (ts : List Taken) → pc_value N ts ≡ pc_value P ts
  labels_alike [] = refl
  labels_alike (t ∷ []) = refl
  labels_alike (t ∷ u ∷ ts) = refl

  pub init_alike : init N ≡ init P
  init_alike = λ i.
      globals_start a.globals
      ++ (flat_map (λ t. locals_alike t i) (taken_procedures a)
      ++ (flat_map (λ t. locals_alike t i) (taken_main a a.main)
      ++ (stack_start a.main (procedure_routines a) ++ equal (named pc) (for_all_processes a.main (labels_alike (taken_main a a.main) i)) ∷ [])))

-- ---- the law

init_of : (b : Bool) (title : Word) (o : Outside) (a : Algorithm) (h : IsAcceptedInFile o a) (values : Valuation) (s : State)
    (k : AreConstants (record { title = title; outside = o; region = region_of b (with_names o a) }) values) → IsState (program_in plain o a values) s → (vs : List Actor) → actors (program_in plain o a values) ≡ Ok vs
    → ((kind : FaultKind) (at : Place) → InitFault (program_in plain o a values) s kind at → ⊥)
    → TrueExactly (init_holds plain (record { title = title; outside = o; region = region_of b (with_names o a) }) values (on_variables (program_in plain o a values) s)) (Initial (program_in plain o a values) s)
init_of b title o a h values s k state vs acts fine = by (allowed (program_in plain o a values) s) refl
  where
    by : (v : Outcome Bool) → allowed (program_in plain o a values) s ≡ v
        → TrueExactly (init_holds plain (record { title = title; outside = o; region = region_of b (with_names o a) }) values (on_variables (program_in plain o a values) s)) (Initial (program_in plain o a values) s)
    by (Ok c) e = (
      c,
      (λ i. all_hold plain (E o a h title (region_of b (with_names o a)) values k s) (init_alike o a values i))
          ∙ init_follows o a h title (region_of b (with_names o a)) values k s state vs acts c e,
      ((λ q. e ∙ ap (λ z. Ok z) q), (λ q. ok_is (sym e ∙ q))),
    )
    by (Err (fault kind at)) e = absurd (fine kind at e)
    by (Err (over p)) e = absurd (allowed_in_limits o a values s vs acts p e)

-- for all proper constants and states from which no initial value is a fault Init is true exactly of the initial ones
pub init_of_region_law : InitOfRegionLaw IsAcceptedInFile
init_of_region_law b title o g h values s k state proper fine = init_of b title o g h values s k state proper.0 proper.1 fine
