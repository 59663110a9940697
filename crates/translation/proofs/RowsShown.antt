-- That what is written for a worked file has both sides, from what is computed of its algorithm: of a run, of one state that is no start, and of one pair that is no step.
use Rattle.std.proofs.Common.{◌≡◌, ◌<◌, length, List, [], ◌∷◌, Bool, true, false, not, ◌&&◌, codes, None, Ok, Err, refl, sym, ap, subst, ◌∙◌, inl, inr}
use Rattle.std.specs.Bool.{IsTrue}
use Rattle.std.specs.Prelude.{is_some}
use Rattle.tla_token.specs.Limits.{past_text}
use Rattle.tla_token.specs.Signs.{is_among}
use Rattle.tla_tree.specs.Tree.{Each}
use Rattle.tla_value.specs.Outside.{Outside}
use Rattle.tla_value.specs.Stops.{plain}
use Rattle.tla_value.specs.Value.{Trouble, Outcome, TrueExactly}
use Rattle.tla_value.proofs.Outcomes.{ok_is}
use Rattle.pcal_tree.specs.Algorithm.{Algorithm}
use Rattle.pcal_tree.specs.Faults.{Sound}
use Rattle.pcal_tree.specs.FirstTrouble.{trouble_of_all, FirstTrouble}
use Rattle.pcal_tree.specs.InitialStates.{allowed, Initial}
use Rattle.pcal_tree.specs.Labelled.{labelled}
use Rattle.pcal_tree.specs.Processes.{actors}
use Rattle.pcal_tree.specs.Program.{Program, Actor}
use Rattle.pcal_tree.specs.Programs.{program_in}
use Rattle.pcal_tree.specs.Scope.{State}
use Rattle.pcal_tree.specs.Step.{Step}
use Rattle.pcal_tree.specs.Variables.{on_variables}
use Rattle.pcal_tree.proofs.OneStand.{stands_once}
use Rattle.pcal_tree.proofs.TroubleLaws.{quiet_sound}
use Rattle.module_tree.specs.Layout.{layout}
use Rattle.module_tree.specs.Module.{Module}
use Rattle.module_tree.specs.ModuleTruth.{next_holds, init_holds}
use Rattle.module_tree.specs.TextFront.{Text}
use Rattle.module_tree.specs.Walk.{walk}
use Rattle.module_tree.specs.WithTranslation.{WithTranslation}
use Rattle.module_tree.specs.laws.Outsides.{HasOutside, SameOutside}
use Rattle.module_tree.specs.laws.PlacelessRegion.{region_placeless}
use Rattle.module_tree.specs.laws.WritableRegion.{IsWritten}
use Rattle.module_tree.proofs.SomeOutside.{one_outside_of}
use Rattle.module_tree.proofs.WrittenRegion.{written_file}
use Rattle.promise.specs.ConstantsAndStates.{program, AreConstants, IsState}
use Rattle.promise.specs.Headline.{Stands}
use Rattle.promise.specs.NextAndInit.{Moves, NextIs}
use Rattle.promise.specs.Options.{Options}
use Rattle.file_answer.specs.Checking.{AnswersChecking}
use Rattle.file_answer.specs.Holds.{HoldsTree}
use Rattle.file_answer.proofs.OneTree.{one_held, one_stands}
use Rattle.action_builder.specs.WrittenNames.{with_names}
use Rattle.translation.specs.PromiseWhole.{WrittenWhole}
use Rattle.translation.specs.Region.{region_of, written_region}
use Rattle.translation.specs.Worked.{Example, Goes, Runs, NextTrue, Says, HasBothSides, MeetsPremises}
use Rattle.translation.specs.laws.AcceptedAlgorithm.{IsAcceptedInFile}
use Rattle.translation.proofs.AcceptedAlgorithms.{text_writable}
use Rattle.translation.proofs.KeptAccepted.{checked_is_fine, some_stands, stands_held, stands_in_file}
use Rattle.translation.proofs.KeptPromise.{some_whole}
use Rattle.translation.proofs.NamesApart.{writable}
use Rattle.translation.proofs.NextLaw.{next_law, kept_law}
use Rattle.translation.proofs.NextTitles.{clear}
use Rattle.translation.proofs.RowsRuns.{both, is_quiet, some_goes, runs, all_done, step_made, end_stutters}
use Rattle.translation.proofs.SameProgram.{same_program}
use Rattle.translation.proofs.WritableRegions.{written_is_region}

abbrev pub AreStates : Program → List State → Type 0
AreStates P [] = Unit {0}
AreStates P (t ∷ ts) = IsState P t × AreStates P ts

-- ---- an algorithm that is accepted

module _ (o : Outside) (g : Algorithm) (accepted : IsAcceptedInFile o g) (e : Example) where
  abbrev P : Program
  P = program_in plain o g e.values

  abbrev m : Bool → Module
  m b = record { title = []; outside = o; region = region_of b (with_names o g) }

  sound_here : (vs : List Actor) (s : State) → actors P ≡ Ok vs → is_quiet (trouble_of_all P s vs) ≡ true → Sound P s
  sound_here vs s all quiet = quiet_sound P s (vs, all) (stands_once P o refl (writable o g accepted).few (clear o g accepted e.values) s) none
    where
      none : (k : Trouble) → FirstTrouble P s k → ⊥
      none k (ws, also, q) = no (sym (ap (λ us. is_quiet (trouble_of_all P s us)) (ok_is (sym also ∙ all)) ∙ quiet) ∙ ap is_quiet q)
        where
          no : true ≡ false → ⊥
          no z = cc

  goes_by : (vs : List Actor) → actors P ≡ Ok vs → (s : State) (ts : List State) → runs P vs s ts ≡ true → AreStates P ts → Goes P s ts
  goes_by vs all s [] r are = tt
  goes_by vs all s (t ∷ ts) r are =
      let q = both (is_quiet (trouble_of_all P s vs) && some_goes P vs s t) (runs P vs t ts) r in
      let p = both (is_quiet (trouble_of_all P s vs)) (some_goes P vs s t) q.0 in
      (sound_here vs s all p.0, step_made P s t vs all p.1, are.0, goes_by vs all t ts q.1 are.1)

  no_move : (b : Bool) (v : Outcome Bool) (s t : State) → TrueExactly v (Moves b P s t) → v ≡ Ok false → Moves b P s t → ⊥
  no_move b v s t (c, f, h) e k = no (sym (h.1 k) ∙ ok_is (sym f ∙ e))
    where
      no : true ≡ false → ⊥
      no z = cc

  same_moves : (b : Bool) (s t : State) → Moves b P s t → Moves false P s t
  same_moves true s t k = inl k
  same_moves false s t k = k

-- what is computed of an algorithm with its labels, beside o outside: its processes, and the states of the example
pub record IsComputed (o : Outside) (g : Algorithm) (e : Example) : Type 0 where
  pub processes : List Actor
  pub constants : AreConstants (record { title = []; outside = o; region = region_of false (with_names o g) }) e.values
  pub all : actors (program_in plain o g e.values) ≡ Ok processes
  pub first : IsState (program_in plain o g e.values) e.first
  pub later : AreStates (program_in plain o g e.values) e.later
  pub other : IsState (program_in plain o g e.values) e.other
  pub starts : allowed (program_in plain o g e.values) e.first ≡ Ok true
  pub no_start : allowed (program_in plain o g e.values) e.other ≡ Ok false
  pub quiet : is_quiet (trouble_of_all (program_in plain o g e.values) e.first processes) ≡ true
  pub run : runs (program_in plain o g e.values) processes e.first e.later ≡ true
  pub ended : IsState (program_in plain o g e.values) e.ended
  pub quiet_end : is_quiet (trouble_of_all (program_in plain o g e.values) e.ended processes) ≡ true
  pub done : all_done processes e.ended ≡ true
  pub stays : next_holds plain (record { title = []; outside = o; region = region_of true (with_names o g) }) e.values (on_variables (program_in plain o g e.values) e.ended) (on_variables (program_in plain o g e.values) e.ended) ≡ Ok false
  pub apart : next_holds plain (record { title = []; outside = o; region = region_of false (with_names o g) }) e.values (on_variables (program_in plain o g e.values) e.first) (on_variables (program_in plain o g e.values) e.other) ≡ Ok false

module _ (o : Outside) (g : Algorithm) (accepted : IsAcceptedInFile o g) (e : Example) (c : IsComputed o g e) where
  abbrev own : Program
  own = program_in plain o g e.values

  truth : true ≡ false → ⊥
  truth z = cc

  -- no matter which region the module has
  ending : AreConstants (record { title = []; outside = o; region = region_of true (with_names o g) }) e.values
  ending = record { unset = c.constants.unset; given = c.constants.given; no_other = c.constants.no_other; canonical = c.constants.canonical }

  pub all_runs : Runs own e
  all_runs = record {
    is = c.first;
    initial = c.starts;
    goes = goes_by o g accepted e c.processes c.all e.first e.later c.run c.later;
    other_is = c.other;
    not_initial = λ i. truth (ok_is (sym i ∙ c.no_start));
    no_step = λ b k.
        no_move o g accepted e false _ e.first e.other
        (next_law false [] o g accepted e.values e.first e.other c.constants c.first c.other (sound_here o g accepted e c.processes e.first c.all c.quiet)) c.apart
        (same_moves o g accepted e b e.first e.other k);
    ended_is = c.ended;
    sound = sound_here o g accepted e c.processes e.ended c.all c.quiet_end;
    stutters = end_stutters own c.processes e.ended c.all c.done;
    no_more =
        no_move o g accepted e true _ e.ended e.ended
        (next_law true [] o g accepted e.values e.ended e.ended ending c.ended c.ended (sound_here o g accepted e c.processes e.ended c.all c.quiet_end)) c.stays;
  }

  module _ (b : Bool) (m : Module) (same : SameOutside o m.outside) (regions : region_placeless m.region ≡ region_placeless (written_region b o g)) where
    abbrev Q : Program
    Q = program g m e.values

    q : own ≡ Q
    q = same_program o g m same e.values

    pub runs_there : Runs Q e
    runs_there = subst (λ (P : Program). Runs P e) q all_runs

    pub constants_there : AreConstants m e.values
    constants_there = record {
      unset = c.constants.unset;
      given = subst (λ xs. Each (λ x. IsTrue (is_some (e.values x))) xs) same.constants c.constants.given;
      no_other = λ x h. c.constants.no_other x (subst (λ xs. is_among (codes "defaultInitValue" ∷ xs) x ≡ false) (sym same.constants) h);
      canonical = c.constants.canonical;
    }

    next : NextIs b g m
    next = (kept_law b o g m accepted same regions).0

    sound_there : Sound Q e.first
    sound_there = subst (λ (P : Program). Sound P e.first) q (sound_here o g accepted e c.processes e.first c.all c.quiet)

    moves : (b : Bool) (s t : State) → Step Q s t → Moves b Q s t
    moves true s t k = k
    moves false s t k = inl k

    true_by : (v : Outcome Bool) (M : Type 0) → TrueExactly v M → M → v ≡ Ok true
    true_by v M (a, f, h) k = f ∙ ap (λ z. Ok z) (h.1 k)

    false_by : (v : Outcome Bool) (M : Type 0) → TrueExactly v M → (M → ⊥) → v ≡ Ok false
    false_by v M (true, f, h) k = absurd (k (h.0 refl))
    false_by v M (false, f, h) k = f

    next_by : (s : State) (ts : List State) → IsState Q s → Goes Q s ts → NextTrue m Q e.values s ts
    next_by s [] is k = tt
    next_by s (t ∷ ts) is k = (true_by _ _ (next e.values s t constants_there is k.2 k.0) (moves b s t k.1), next_by t ts k.2 k.3)

    ended_by : (b : Bool) → TrueExactly (next_holds plain m e.values (on_variables Q e.ended) (on_variables Q e.ended)) (Moves b Q e.ended e.ended) → next_holds plain m e.values (on_variables Q e.ended) (on_variables Q e.ended) ≡ Ok (not b)
    ended_by true k = false_by _ _ k runs_there.no_more
    ended_by false k = true_by _ _ k (inr runs_there.stutters)

    init_there : (a : Bool) (s : State) → IsState Q s → allowed own s ≡ Ok a → TrueExactly (init_holds plain m e.values (on_variables Q s)) (Initial Q s)
    init_there a s is f =
        (kept_law b o g m accepted same regions).1 e.values s constants_there is sound_there.0 (λ kind at h. fine (sym (subst (λ (P : Program). allowed P s ≡ Ok a) q f) ∙ h))
      where
        fine : {k : Trouble} → ◌≡◌ {A = Outcome Bool} (Ok a) (Err k) → ⊥
        fine z = cc

    pub says_there : Says b m Q e
    says_there = record {
      next_true = next_by e.first e.later runs_there.is runs_there.goes;
      next_false = false_by _ _ (next e.values e.first e.other constants_there runs_there.is runs_there.other_is sound_there) (runs_there.no_step b);
      next_ended = ended_by b (next e.values e.ended e.ended constants_there runs_there.ended_is runs_there.ended_is runs_there.sound);
      init_true = true_by _ _ (init_there true e.first runs_there.is c.starts) runs_there.initial;
      init_false = false_by _ _ (init_there false e.other runs_there.other_is c.no_start) runs_there.not_initial;
    }

-- ---- a file

module _ (forced : Bool) (x : Text) (a g : Algorithm) (o : Outside) (e : Example) (right : AnswersChecking forced x None) (short : length x < past_text) (holds : HoldsTree x a) (has : HasOutside (walk x) o)
    (with_labels : labelled forced a ≡ g) (c : IsComputed o g e) where
  abbrev found : (h : Algorithm) × Stands x h
  found = some_stands forced x right

  pub stands : Stands x a
  stands = subst (Stands x) (one_held x found.0 a (stands_held forced x right found.0 found.1) holds) found.1

  pub accepted : IsAcceptedInFile o g
  accepted = subst (IsAcceptedInFile o) with_labels (stands_in_file forced x right a stands o has short)

  module _ (no_terminating : Bool) (w : Text) (whole : WrittenWhole (record { label = forced; no_terminating = no_terminating }) x w) where
    abbrev options : Options
    options = record { label = forced; no_terminating = no_terminating }

    outside_is : whole.outside ≡ o
    outside_is = one_outside_of (walk x) whole.outside o whole.has has

    algorithm_is : labelled forced whole.algorithm ≡ g
    algorithm_is = ap (labelled forced) (one_stands x whole.algorithm a whole.stands stands) ∙ with_labels

    is : WithTranslation x (layout (written_region no_terminating o g)) w
    is = subst (λ (t : Text). WithTranslation x t w) (λ i. layout (written_region no_terminating (outside_is i) (algorithm_is i))) whole.is

    k : IsWritten x w o (written_region no_terminating o g)
    k =
        written_file x w o (written_region no_terminating o g)
        (written_is_region no_terminating o g (text_writable x o g accepted.accepted short has)) (checked_is_fine forced x right) has is

    regions : region_placeless k.is.written.region ≡ region_placeless (written_region no_terminating o g)
    regions = ap region_placeless k.is.region ∙ k.same

    pub both_sides : HasBothSides options x e
    both_sides = record {
      written = w;
      whole = whole;
      module_of = k.is.written;
      reads = k.is.reads;
      constants = constants_there o g accepted e c no_terminating k.is.written k.is.outside regions;
      runs =
          subst (λ (h : Algorithm). Runs (program h k.is.written e.values) e) (sym algorithm_is)
          (runs_there o g accepted e c no_terminating k.is.written k.is.outside regions);
      says =
          subst (λ (h : Algorithm). Says no_terminating k.is.written (program h k.is.written e.values) e) (sym algorithm_is)
          (says_there o g accepted e c no_terminating k.is.written k.is.outside regions);
    }

  pub meets : MeetsPremises forced x e
  meets = record {
    right = right;
    short = short;
    both = λ b. (let w = some_whole (record { label = forced; no_terminating = b }) x right in both_sides b w.0 w.1);
  }
