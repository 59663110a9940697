-- Each label's action of an accepted algorithm is true exactly of the steps from that label, for each process that takes it, from a sound state.
use Rattle.std.proofs.Common.{◌≡◌, ◌++◌, codes, Option, Some, None, inl, inr, refl, sym, ◌∙◌, subst, Ok, Err}
use Rattle.tla_tree.specs.Tree.{Word, Tree}
use Rattle.tla_value.specs.Value.{Value, Outcome, TrueExactly}
use Rattle.tla_value.specs.Outside.{Outside, found}
use Rattle.tla_value.specs.Stops.{plain}
use Rattle.tla_value.specs.Meaning.{Env, eval}
use Rattle.tla_value.specs.Definitions.{Valuation, scope_of}
use Rattle.tla_value.specs.laws.CanonicalNames.{Sound as SoundNames, TestsByValue}
use Rattle.tla_value.proofs.CanonicalTests.{value_kept, means_its_value}
use Rattle.module_tree.specs.Formulas.{self}
use Rattle.module_tree.specs.ActionTruth.{items_hold}
use Rattle.module_tree.proofs.Tells.{tells_as, tells_placeless}
use Rattle.pcal_tree.specs.Algorithm.{Routine, Algorithm}
use Rattle.pcal_tree.specs.Calls.{defaultInitValue}
use Rattle.pcal_tree.specs.Faults.{Sound}
use Rattle.pcal_tree.specs.Names.{naming}
use Rattle.pcal_tree.specs.OffencesLabels.{label_words}
use Rattle.pcal_tree.specs.Processes.{OneOf, IsActor}
use Rattle.pcal_tree.specs.Program.{Program, Actor}
use Rattle.pcal_tree.specs.Programs.{program_in}
use Rattle.pcal_tree.specs.Run.{unlabelled}
use Rattle.pcal_tree.specs.Scope.{State}
use Rattle.pcal_tree.specs.Step.{Stand, pc_of, routines_of, StepFrom}
use Rattle.pcal_tree.specs.StepStart.{Begin, at_label}
use Rattle.pcal_tree.specs.Takers.{each_of, single, lone}
use Rattle.pcal_tree.specs.Variables.{vars}
use Rattle.pcal_tree.proofs.BodyLabels.{same_labels}
use Rattle.pcal_tree.proofs.ProcessesInOrder.{id}
use Rattle.action_builder.specs.LabelActions.{items_from}
use Rattle.action_builder.specs.SingleProcess.{in_place_of}
use Rattle.action_builder.specs.laws.Grafts.{ClearItems}
use Rattle.action_builder.specs.laws.Ready.{Readable, values_of}
use Rattle.action_builder.specs.laws.StepsOfLabels.{step_of, pair_env}
use Rattle.action_builder.specs.laws.LabelSteps.{IsReady}
use Rattle.action_builder.specs.Prepared.{none}
use Rattle.action_builder.specs.laws.WrittenScope.{self_bound, definitions_of}
use Rattle.action_builder.proofs.ActionsOfLabels.{label_true}
use Rattle.action_builder.proofs.SingleProcess.{meant_law}
use Rattle.translation.specs.laws.AcceptedAlgorithm.{IsAcceptedInFile}
use Rattle.translation.specs.laws.AcceptedLaws.{extra_of, may_bind, callable_for, Stance, PreparedLaw}
use Rattle.translation.proofs.FramesAccepted.{pc_among, pc_path}
use Rattle.translation.proofs.NamesApart.{names_apart_law}
use Rattle.translation.proofs.NamesGiven.{names_given_law}
use Rattle.translation.proofs.NextEnds.{PcRead}
use Rattle.translation.proofs.NextTrue.{FromLabel, LabelTrue}
use Rattle.translation.proofs.WritableBodies.{IsBegun, begins}

some_is : {X : Type 0} {x y : X} → Some x ≡ Some y → x ≡ y
some_is e = cc

-- where a step begins is told by the label
same_begin : (P : Program) (v : Actor) (s t : State) (u : Routine) (l : Word) (b : Begin) → at_label u l ≡ Some b → FromLabel P s t v u l → StepFrom P v (record { routine = u; label = l; begins = b }) s t
same_begin P v s t u l b e (c, d, h) = subst (λ z. StepFrom P v (record { routine = u; label = l; begins = z }) s t) (some_is (sym d ∙ e)) h

-- items can be written for each step of this algorithm
abbrev pub ReadyHere : Readable → Outside → Algorithm → Valuation → Type 0
ReadyHere U o g values = (v : Actor) (d : Stand) → Stance (program_in plain o g values) v d
    → (let P = program_in plain o g values in IsReady U (vars P) (pair_env P (extra_of g) v) none (step_of P (extra_of g) v d (may_bind o P) (callable_for P)))

module _ (U : Readable) (prepared : PreparedLaw IsAcceptedInFile) (o : Outside) (g : Algorithm) (h : IsAcceptedInFile o g) (values : Valuation) (ready : ReadyHere U o g values) (unset : values (codes "defaultInitValue") ≡ Some defaultInitValue) where
  abbrev P : Program
  P = program_in plain o g values

  module _ (s t : State) (sound : Sound P s) where
    abbrev env : Env
    env = scope_of plain values (definitions_of P ++ extra_of g) (values_of (vars P) s) (values_of (vars P) t)

    pub pc_read : (v : Actor) → IsActor P v → PcRead s v
    pc_read v k = by (pc_of v s) refl
      where
        by : (r : Outcome Value) → pc_of v s ≡ r → PcRead s v
        by (Ok w) e = record { value = w; read = e }
        by (Err q) e = absurd (sound.1 v q k (inl e))

    pub stand_true : (v : Actor) → IsActor P v → (d : Stand) → OneOf d.routine (routines_of P v) → at_label d.routine d.label ≡ Some d.begins
        → TrueExactly (items_hold plain (values_of (vars P) s) (values_of (vars P) t) (pair_env P (extra_of g) v s t) (items_from P d.routine d.label (Some d.begins))) (StepFrom P v d s t)
    stand_true v k d one at =
        let stance : Stance P v d = record { actor = k; routine = one; label = at } in
        label_true values (found o.definitions) g (naming g o) (extra_of g) v d (names_apart_law o g h values v d.routine k one) (record { among = pc_among o g h values; path = pc_path o g h values v k }) t
        s (pc_read v k).value (pc_read v k).read one at (names_given_law o g h values v d stance) (may_bind o P) (callable_for P) (prepared o g h values unset v d stance)
        U (ready v d stance) (λ q st has. sound.1 v q k (inr (d, st, has)))

    -- under the name self, where the process has an identifier
    label_holds : (v : Actor) → IsActor P v → (u : Routine) → OneOf u (routines_of P v) → (l : Word) → OneOf l (label_words u.body)
        → TrueExactly (items_hold plain (values_of (vars P) s) (values_of (vars P) t) (pair_env P (extra_of g) v s t) (items_from P u l (at_label u l))) (FromLabel P s t v u l)
    label_holds v k u one l m = by (at_label u l) refl (begins l unlabelled u.body u.exit (subst (OneOf l) (same_labels u.body) m))
      where
        by : (q : Option Begin) → at_label u l ≡ q → IsBegun q
            → TrueExactly (items_hold plain (values_of (vars P) s) (values_of (vars P) t) (pair_env P (extra_of g) v s t) (items_from P u l q)) (FromLabel P s t v u l)
        by None e i = absurd i
        by (Some b) e i = tells_as _ (StepFrom P v (record { routine = u; label = l; begins = b }) s t) (FromLabel P s t v u l) (stand_true v k (record { routine = u; label = l; begins = b }) one e) (λ f. (b, e, f)) (same_begin P v s t u l b e)

    -- the set or the one body
    pub named_true : (v : Actor) → v.self ≡ Some (id v) → IsActor P v → (u : Routine) → OneOf u (routines_of P v) → (e : Tree) → LabelTrue P s t (values_of (vars P) s) (values_of (vars P) t) env (record { takers = each_of e; routine = u }) v
    named_true v n a u one e l m =
        subst (λ w. TrueExactly (items_hold plain (values_of (vars P) s) (values_of (vars P) t) (self_bound w env) (items_from P u l (at_label u l))) (FromLabel P s t v u l)) n (label_holds v a u one l m)

    pub lone_true : (v : Actor) → v.self ≡ None → IsActor P v → (u : Routine) → OneOf u (routines_of P v) → LabelTrue P s t (values_of (vars P) s) (values_of (vars P) t) env (record { takers = lone; routine = u }) v
    lone_true v n a u one l m =
        subst (λ w. TrueExactly (items_hold plain (values_of (vars P) s) (values_of (vars P) t) (self_bound w env) (items_from P u l (at_label u l))) (FromLabel P s t v u l)) n (label_holds v a u one l m)

    -- a single process: its expression stands for self, where it captures nothing and has the identifier for its value
    pub single_true : SoundNames env → TestsByValue env → (v : Actor) → v.self ≡ Some (id v) → IsActor P v → (u : Routine) → OneOf u (routines_of P v) → (e : Tree) → (eval plain e env).value ≡ Ok (id v)
        → ((l : Word) → OneOf l (label_words u.body) → ClearItems plain (in_place_of self e) (items_from P u l (at_label u l))) → LabelTrue P s t (values_of (vars P) s) (values_of (vars P) t) env (record { takers = single e; routine = u }) v
    single_true fine tests v n a u one e is clear l m =
        tells_placeless _ _ (FromLabel P s t v u l)
        (meant_law plain value_kept self e (id v) (items_from P u l (at_label u l)) (clear l m) (values_of (vars P) s) (values_of (vars P) t) env fine (means_its_value e env fine tests (id v) is))
        (named_true v n a u one e l m)
