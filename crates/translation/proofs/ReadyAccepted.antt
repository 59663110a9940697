-- Items can be written for each step of an accepted algorithm in which nothing is primed.
use Rattle.std.proofs.Common.{◌≡◌, [], ◌++◌, Bool, true, false, codes, ◌⊎◌, inl, inr, refl, ◌∙◌}
use Rattle.tla_value.specs.Definitions.{Valuation}
use Rattle.tla_value.specs.Outside.{Outside}
use Rattle.tla_value.specs.Stops.{plain}
use Rattle.pcal_tree.specs.Algorithm.{Routine, procedure_routines, main_routines, routines, Algorithm}
use Rattle.pcal_tree.specs.Processes.{OneOf, IsActor}
use Rattle.pcal_tree.specs.Program.{Program, Actor}
use Rattle.pcal_tree.specs.Programs.{program_in}
use Rattle.pcal_tree.specs.OffencesStale.{stale_offences}
use Rattle.pcal_tree.specs.OffencesOfNames.{offences_of_uses, offences_of_declarations, offences_of_reads, through_each_call, name_offences}
use Rattle.pcal_tree.specs.OffencesReads.{process_offences, own_offences, order_offences}
use Rattle.pcal_tree.specs.OffencesSelf.{self_offences}
use Rattle.pcal_tree.specs.Step.{Stand, routines_of}
use Rattle.pcal_tree.specs.Variables.{vars}
use Rattle.pcal_tree.proofs.ClearLabels.{both_none}
use Rattle.pcal_tree.proofs.OneStand.{runs_routine}
use Rattle.pcal_tree.proofs.RoutineNames.{one_either}
use Rattle.action_builder.specs.Prepared.{none}
use Rattle.action_builder.specs.laws.LabelSteps.{IsReady}
use Rattle.action_builder.specs.laws.StepsOfLabels.{step_of, pair_env}
use Rattle.action_builder.specs.laws.WrittenScope.{definitions_of}
use Rattle.translation.specs.laws.AcceptedAlgorithm.{IsAcceptedInFile}
use Rattle.translation.specs.laws.FreshReads.{readable}
use Rattle.translation.specs.laws.AcceptedLaws.{extra_of, Stance, may_bind, callable_for, ReadyLaw}
use Rattle.translation.specs.laws.NothingPrimed.{NothingPrimed}
use Rattle.translation.proofs.AllSettled.{all_settled}
use Rattle.translation.proofs.BegunSteps.{IsRoutine}
use Rattle.translation.proofs.FramesAccepted.{untitled, bound_defs, defs_through}
use Rattle.translation.proofs.LabelReady.{NamesSound, label_ready}
use Rattle.translation.proofs.LocalNames.{local_outside}
use Rattle.translation.proofs.MacrosSound.{typed}
use Rattle.translation.proofs.NamesApart.{writable, names_apart_law}
use Rattle.translation.proofs.ReadyFrames.{items_plain, frames_ready}
use Rattle.translation.proofs.ReadyNames.{BoundName, outside_unused, names_ready}

stale_none : (a : Algorithm) (o : Outside) → name_offences a o ≡ [] → stale_offences a ≡ []
stale_none a o e =
    let F = through_each_call a o in
    let r = (both_none (offences_of_declarations F a o) (offences_of_reads F a) (both_none (offences_of_uses F a o) _ e).1).1 in
    let s = (both_none (own_offences a) _ (both_none (process_offences a) _ r).1).1 in
    (both_none (stale_offences a) (self_offences a) (both_none (order_offences a) _ s).1).0

module _ (o : Outside) (a : Algorithm) (h : IsAcceptedInFile o a) (values : Valuation) (primes : NothingPrimed (program_in plain o a values) (extra_of a)) where
  abbrev P : Program
  P = program_in plain o a values

  sound : (v : Actor) → IsActor P v → (r : Bool) (u : Routine) → OneOf u (routines_of P v) → OneOf u (routines a) → IsRoutine a r u → NamesSound P (extra_of a) v u (BoundName o a h values) r
  sound v actor r u k j one =
      let apart = names_apart_law o a h values v u actor k in
      record {
        names = names_ready o a h values v u j apart;
        frames = frames_ready o a h values primes.starts v actor r u one;
        local = λ x m. outside_unused o a h values x (local_outside o a h u j x m);
        apart = apart;
        settled = λ A w. all_settled o a h values A w apart.definitions apart.untitled;
        unprimed = primes.definitions;
        print = λ s t. bound_defs v.self _ (codes "PrintT") ∙ defs_through plain (definitions_of P ++ extra_of a) _ (codes "PrintT") (untitled o a h values v actor (codes "PrintT") refl refl);
        assert = λ s t. bound_defs v.self _ (codes "Assert") ∙ defs_through plain (definitions_of P ++ extra_of a) _ (codes "Assert") (untitled o a h values v actor (codes "Assert") refl refl);
      }

  pub step_is_ready : (v : Actor) (d : Stand) → Stance P v d → IsReady (readable a) (vars P) (pair_env P (extra_of a) v) none (step_of P (extra_of a) v d (may_bind o P) (callable_for P))
  step_is_ready v d stance =
      let u = d.routine in
      let j = runs_routine P v u stance.actor stance.routine in
      by j (one_either u (procedure_routines a) (main_routines a a.main) j)
    where
      ready : (r : Bool) → OneOf d.routine (routines a) → IsRoutine a r d.routine → IsReady (readable a) (vars P) (pair_env P (extra_of a) v) none (step_of P (extra_of a) v d (may_bind o P) (callable_for P))
      ready r j one =
          label_ready P (extra_of a) v d r (BoundName o a h values) (may_bind o P) (callable_for P) one (sound v stance.actor r d.routine stance.routine j one) (typed o a h.accepted) h.accepted.labels (stale_none a o h.accepted.names)
          ((writable o a h).routines d.routine j).body stance.label
          (λ w. items_plain o a h values d.routine j d.label d.begins stance.label _ _ w (primes.items d.routine j d.label d.begins stance.label))

      by : OneOf d.routine (routines a) → OneOf d.routine (procedure_routines a) ⊎ OneOf d.routine (main_routines a a.main) → IsReady (readable a) (vars P) (pair_env P (extra_of a) v) none (step_of P (extra_of a) v d (may_bind o P) (callable_for P))
      by j (inl k) = ready true j k
      by j (inr k) = ready false j k

-- where that is so of each accepted algorithm
pub ready_law : ((o : Outside) (g : Algorithm) → IsAcceptedInFile o g → (values : Valuation) → NothingPrimed (program_in plain o g values) (extra_of g)) → ReadyLaw IsAcceptedInFile readable
ready_law primes o g h values v d stance = step_is_ready o g h values (primes o g h values) v d stance
