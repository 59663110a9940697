-- Where Next of an accepted algorithm's region is a fault, some process is in trouble.
use Rattle.std.proofs.Common.{◌≡◌, Bool, Option, Some, None, refl, sym, ap, ◌∙◌, subst}
use Rattle.tla_tree.specs.Tree.{Word}
use Rattle.tla_value.specs.Value.{Trouble, IsBad, TrueExactly}
use Rattle.tla_value.specs.Outside.{Outside}
use Rattle.tla_value.specs.Stops.{plain}
use Rattle.tla_value.specs.Definitions.{Valuation}
use Rattle.tla_value.proofs.Outcomes.{ok_is}
use Rattle.module_tree.specs.ActionTruth.{Verdict}
use Rattle.module_tree.specs.Module.{Module}
use Rattle.module_tree.specs.ModuleTruth.{next_holds}
use Rattle.pcal_tree.specs.Algorithm.{Algorithm}
use Rattle.pcal_tree.specs.Faults.{Sound, Troubled}
use Rattle.pcal_tree.specs.FirstTrouble.{trouble_of_all, FirstTrouble}
use Rattle.pcal_tree.specs.Processes.{IsActor, Proper}
use Rattle.pcal_tree.specs.Program.{Program, Actor}
use Rattle.pcal_tree.specs.Programs.{program_in}
use Rattle.pcal_tree.specs.Scope.{State}
use Rattle.pcal_tree.specs.Variables.{on_variables}
use Rattle.pcal_tree.proofs.OneStand.{stands_once}
use Rattle.pcal_tree.proofs.TroubleLaws.{first_of_all, quiet_sound}
use Rattle.action_builder.specs.WrittenNames.{with_names}
use Rattle.action_builder.specs.laws.Ready.{Readable}
use Rattle.promise.specs.ConstantsAndStates.{AreConstants, IsState}
use Rattle.translation.specs.Region.{region_of}
use Rattle.translation.specs.laws.AcceptedAlgorithm.{IsAcceptedInFile}
use Rattle.translation.proofs.NamesApart.{writable}
use Rattle.translation.proofs.NextLabels.{ReadyHere}
use Rattle.translation.proofs.NextOfRegion.{HasSingle, next_is}
use Rattle.translation.proofs.NextSingle.{single_clear}
use Rattle.translation.proofs.NextTitles.{clear}
use Rattle.translation.proofs.PreparedSteps.{prepared_law}

not_bad : (v : Verdict) (Q : Type 0) → TrueExactly v Q → IsBad v → ⊥
not_bad v Q (b, e, h) f = subst IsBad e f

module _ (U : Readable) (b : Bool) (title : Word) (o : Outside) (g : Algorithm) (h : IsAcceptedInFile o g) (values : Valuation) (s t : State) (ready : ReadyHere U o g values) where
  abbrev first : Module
  first = record { title = title; outside = o; region = region_of b (with_names o g) }

  abbrev P : Program
  P = program_in plain o g values

  pub next_troubles : AreConstants first values → IsState P s → (HasSingle g → IsState P t) → Proper P → IsBad (next_holds plain first values (on_variables P s) (on_variables P t))
      → ((v : Actor) × (k : Trouble) × IsActor P v × Troubled P s v k)
  next_troubles k is it proper bad = by (trouble_of_all P s proper.0) refl
    where
      by : (q : Option Trouble) → trouble_of_all P s proper.0 ≡ q → ((v : Actor) × (k : Trouble) × IsActor P v × Troubled P s v k)
      by (Some j) e = (let (v, one, x) = first_of_all P s proper.0 j e in (v, j, (proper.0, proper.1, one), x))
      by None e = absurd (not_bad _ _ (next_is U prepared_law single_clear b title o g h values s t ready k is it sound) bad)
        where
          quiet : (j : Trouble) → FirstTrouble P s j → ⊥
          quiet j (vs, all, q) = no (sym (ap (trouble_of_all P s) (ok_is (sym proper.1 ∙ all)) ∙ q) ∙ e)
            where
              no : ◌≡◌ {A = Option Trouble} (Some j) None → ⊥
              no z = cc

          sound : Sound P s
          sound = quiet_sound P s proper (stands_once P o refl (writable o g h).few (clear o g h values) s) quiet
