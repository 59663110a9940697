-- That each formula of fairness of a worked file has both sides, from its truth values on a run, which are computed.
use Rattle.std.proofs.Common.{◌≡◌, ℕ, length, List, [], ◌∷◌, Bool, true, false, Some, Ok, refl, sym, ap, subst, ◌∙◌, inl, inr}
use Rattle.std.specs.List.{AllByRecursion}
use Rattle.tla_tree.specs.Tree.{Word}
use Rattle.tla_value.specs.Outside.{Outside}
use Rattle.tla_value.specs.Stops.{plain}
use Rattle.tla_value.specs.Value.{Outcome, TrueExactly}
use Rattle.tla_value.proofs.Outcomes.{ok_is}
use Rattle.pcal_tree.specs.Algorithm.{Algorithm}
use Rattle.pcal_tree.specs.Faults.{Sound}
use Rattle.pcal_tree.specs.Labelled.{labelled}
use Rattle.pcal_tree.specs.Processes.{OneOf, IsActor}
use Rattle.pcal_tree.specs.Program.{Program, Actor}
use Rattle.pcal_tree.specs.Programs.{program_in}
use Rattle.pcal_tree.specs.Scope.{State}
use Rattle.pcal_tree.specs.Takers.{Taken}
use Rattle.pcal_tree.specs.Variables.{on_variables}
use Rattle.pcal_tree.proofs.RoutineNames.{every_one}
use Rattle.module_tree.specs.Module.{Module}
use Rattle.module_tree.specs.TextFront.{Text}
use Rattle.module_tree.specs.Walk.{walk}
use Rattle.module_tree.specs.laws.Outsides.{HasOutside}
use Rattle.module_tree.proofs.SomeOutside.{one_outside_of}
use Rattle.action_builder.specs.WrittenNames.{with_names}
use Rattle.fairness.specs.Demands.{Demand, demands}
use Rattle.fairness.specs.FairnessLines.{line_of}
use Rattle.promise.specs.ConstantsAndStates.{AreConstants, IsState}
use Rattle.promise.specs.Headline.{Stands}
use Rattle.file_answer.proofs.OneTree.{one_stands}
use Rattle.translation.specs.Region.{region_of}
use Rattle.translation.specs.Worked.{Example, Goes, pairs, FairOnBothSides, HasFairness}
use Rattle.translation.specs.laws.AcceptedAlgorithm.{IsAcceptedInFile}
use Rattle.translation.specs.laws.ActionLaws.{line_holds, taken_of, Told}
use Rattle.translation.specs.laws.FreshReads.{readable}
use Rattle.translation.proofs.FairAll.{fairness_told}
use Rattle.translation.proofs.NextLaw.{items_ready}
use Rattle.translation.proofs.NextSingle.{single_clear}
use Rattle.translation.proofs.PreparedSteps.{prepared_law}
use Rattle.translation.proofs.RowsShown.{IsComputed, all_runs}

module _ (o : Outside) (g : Algorithm) (e : Example) where
  abbrev module_with : Bool → Word → Module
  module_with b title = record { title = title; outside = o; region = region_of b (with_names o g) }

  abbrev P : Program
  P = program_in plain o g e.values

  -- the formula on two states, in one of these modules
  abbrev value_of : Bool → Word → Actor → Demand → State × State → Outcome Bool
  value_of b title v D p = line_holds (module_with b title) e.values (on_variables P p.0) (on_variables P p.1) v (line_of P D)

-- what is computed of a demand: of one of the processes its formula is true of one step of the run, and false of another
pub record FairComputed (o : Outside) (g : Algorithm) (e : Example) (D : Demand) : Type 0 where
  pub process : Actor
  pub is_process : IsActor (P o g e) process
  pub taken : Taken
  pub demanded : taken_of D ≡ Some taken
  pub its_own : process.own ≡ taken.routine
  pub step : State × State
  pub in_run : OneOf step (pairs e.first e.later)
  pub is_true : value_of o g e false [] process D step ≡ Ok true
  pub other_step : State × State
  pub also_in_run : OneOf other_step (pairs e.first e.later)
  pub is_false : value_of o g e false [] process D other_step ≡ Ok false

module _ (o : Outside) (g : Algorithm) (accepted : IsAcceptedInFile o g) (e : Example) (c : IsComputed o g e) where
  abbrev own : Program
  own = program_in plain o g e.values

  known : (s : State) (ts : List State) → IsState own s → Goes own s ts → (p : State × State) → OneOf p (pairs s ts) → IsState own p.0 × IsState own p.1 × Sound own p.0
  known s [] is k p one = absurd one
  known s (t ∷ ts) is k p (inl q) = subst (λ (r : State × State). IsState own r.0 × IsState own r.1 × Sound own r.0) (sym q) (is, k.2, k.0)
  known s (t ∷ ts) is k p (inr q) = known t ts k.2 k.3 p q

  module _ (b : Bool) (title : Word) where
    constants_here : AreConstants (module_with o g e b title) e.values
    constants_here = record { unset = c.constants.unset; given = c.constants.given; no_other = c.constants.no_other; canonical = c.constants.canonical }

    told : (p : State × State) → OneOf p (pairs e.first e.later) → (D : Demand) → OneOf D (demands g) → Told (module_with o g e b title) own e.values p.0 p.1 D
    told p one D d =
        let k = known e.first e.later c.first (all_runs o g accepted e c).goes p one in
        every_one (Told (module_with o g e b title) own e.values p.0 p.1) D (demands g)
        (fairness_told readable prepared_law items_ready single_clear b title o g accepted e.values p.0 p.1 constants_here k.0 k.1 k.2) d

  truth : true ≡ false → ⊥
  truth z = cc

  yes : (v : Outcome Bool) (S : Type 0) → TrueExactly v S → v ≡ Ok true → S
  yes v S (a, f, h) q = h.0 (ok_is (sym f ∙ q))

  no : (v : Outcome Bool) (S : Type 0) → TrueExactly v S → v ≡ Ok false → S → ⊥
  no v S (a, f, h) q k = truth (sym (h.1 k) ∙ ok_is (sym f ∙ q))

  true_by : (v : Outcome Bool) (S : Type 0) → TrueExactly v S → S → v ≡ Ok true
  true_by v S (a, f, h) k = f ∙ ap (λ z. Ok z) (h.1 k)

  false_by : (v : Outcome Bool) (S : Type 0) → TrueExactly v S → (S → ⊥) → v ≡ Ok false
  false_by v S (true, f, h) k = absurd (k (h.0 refl))
  false_by v S (false, f, h) k = f

  one_fair : (b : Bool) (title : Word) (D : Demand) → OneOf D (demands g) → FairComputed o g e D → FairOnBothSides (module_with o g e b title) own e D
  one_fair b title D d f =
      let is : IsActor own f.process = f.is_process in
      let steps = yes _ _ (told false [] f.step f.in_run D d f.taken f.demanded f.process is f.its_own) f.is_true in
      let stays = no _ _ (told false [] f.other_step f.also_in_run D d f.taken f.demanded f.process is f.its_own) f.is_false in
      record {
        process = f.process;
        is_process = is;
        taken = f.taken;
        demanded = f.demanded;
        its_own = f.its_own;
        step = f.step;
        in_run = f.in_run;
        is_true = (true_by _ _ (told b title f.step f.in_run D d f.taken f.demanded f.process is f.its_own) steps, steps);
        other_step = f.other_step;
        also_in_run = f.also_in_run;
        is_false = (false_by _ _ (told b title f.other_step f.also_in_run D d f.taken f.demanded f.process is f.its_own) stays, stays);
      }

  all_fair : (b : Bool) (title : Word) (ds : List Demand) → ((D : Demand) → OneOf D ds → OneOf D (demands g)) → AllByRecursion (FairComputed o g e) ds → AllByRecursion (FairOnBothSides (module_with o g e b title) own e) ds
  all_fair b title [] within f = tt
  all_fair b title (D ∷ ds) within f = (one_fair b title D (within D (inl refl)) f.0, all_fair b title ds (λ E k. within E (inr k)) f.1)

  pub fair_here : (b : Bool) (title : Word) → AllByRecursion (FairComputed o g e) (demands g) → AllByRecursion (FairOnBothSides (module_with o g e b title) own e) (demands g)
  fair_here b title f = all_fair b title (demands g) (λ D k. k) f

-- of a file
pub fair_in_file : (forced : Bool) (x : Text) (a g : Algorithm) (o : Outside) (e : Example) → Stands x a → HasOutside (walk x) o → labelled forced a ≡ g → IsAcceptedInFile o g → (c : IsComputed o g e) → (n : ℕ) → length (demands g) ≡ n
    → AllByRecursion (FairComputed o g e) (demands g) → HasFairness forced x e n
fair_in_file forced x a g o e stands has with_labels accepted c n many f d q s k b title =
    let of_g : Algorithm → Outside → Type 0 = λ h r.
    (length (demands h) ≡ n) × AllByRecursion (FairOnBothSides (module_with r h e b title) (program_in plain r h e.values) e) (demands h) in
    subst (λ (h : Algorithm). of_g h q) (sym (ap (labelled forced) (one_stands x d a s stands) ∙ with_labels))
    (subst (λ (r : Outside). of_g g r) (one_outside_of (walk x) o q has k) (many, fair_here o g accepted e c b title f))
