-- All premises together can be met: the sample's process at its label, with a macro call, a variable of its own, a bound name, a jump and a call.
use Rattle.std.proofs.Common.{◌≡◌, [], ◌∷◌, ◌++◌, Bool, true, false, cond, bytes_eq, codes, Some, None, refl, subst, inl, inr, Ok, Err}
use Rattle.std.proofs.lemmas.Bool.{both_ways, or_parts, or_right}
use Rattle.action_builder.proofs.Equal.{other-name}
use Rattle.tla_token.specs.declared.place.Place.{Place}
use Rattle.tla_token.specs.Signs.{is_among}
use Rattle.tla_tree.specs.Tree.{Word, name, node, no_trees}
use Rattle.tla_value.specs.Value.{Value, Trouble, TrueExactly}
use Rattle.tla_value.specs.Stops.{plain}
use Rattle.tla_value.specs.Grafts.{owned}
use Rattle.tla_value.specs.laws.Grafting.{Apart, NotFreeIn}
use Rattle.tla_value.proofs.Graft.{apart_clear}
use Rattle.tla_value.proofs.Owned.{owned_apart}
use Rattle.pcal_tree.specs.Algorithm.{declares, locals}
use Rattle.pcal_tree.specs.Scope.{State}
use Rattle.pcal_tree.specs.Run.{Has}
use Rattle.pcal_tree.specs.Program.{Program}
use Rattle.pcal_tree.specs.Variables.{vars, pc, stack}
use Rattle.pcal_tree.specs.Step.{Stand, pc_of, StandsAt, StepFrom, course_of}
use Rattle.pcal_tree.specs.StepStart.{at_label}
use Rattle.pcal_tree.proofs.Uncaptured.{uncaptured}
use Rattle.module_tree.specs.Formulas.{self}
use Rattle.module_tree.specs.ActionTruth.{items_hold}
use Rattle.action_builder.specs.Assigned.{Names}
use Rattle.action_builder.specs.Settled.{settled}
use Rattle.action_builder.specs.Prepared.{none}
use Rattle.action_builder.specs.LabelActions.{items_from}
use Rattle.action_builder.specs.WrittenNames.{renames}
use Rattle.action_builder.specs.OwnVariables.{is_own_variable}
use Rattle.action_builder.specs.laws.Ready.{IsWithin, Settled, values_of}
use Rattle.action_builder.specs.laws.LabelSteps.{LabelStep, prepared_of, IsPrepared, IsReady}
use Rattle.action_builder.specs.laws.Jumps.{callable}
use Rattle.action_builder.specs.laws.Sample as sample
use Rattle.action_builder.proofs.Names.{each_name}
use Rattle.action_builder.proofs.Decided.{clear_list, fine_list}
use Rattle.action_builder.proofs.Witness.{sample_calls, some_is, apart, after_x, after_await, after_call, after_b}
use Rattle.action_builder.specs.laws.WrittenScope.{definitions_of, NamesApart}
use Rattle.action_builder.specs.laws.StepsOfLabels.{step_of, pair_env, NamesGiven, AllUnprimed, AllSettledFor}
use Rattle.action_builder.proofs.StepsOfLabels.{scope_stands}
use Rattle.action_builder.proofs.RoutinesStand as routines
use Rattle.action_builder.proofs.ActionsOfLabels as labels
use Rattle.action_builder.proofs.SampleNames.{process_set, process_apart, procedure_apart}
use Rattle.tla_token.specs.Places.{nowhere}
use Rattle.pcal_tree.specs.Expand.{expanded}
use Rattle.std.specs.Prelude.{reverse}

abbrev P : Program
P = sample.program

abbrev none_bound : Word → Bool
none_bound w = false

abbrev here : Stand
here = record { routine = sample.routine; label = codes "A"; begins = record { items = sample.unexpanded; exit = codes "Done" } }

at_a : at_label here.routine here.label ≡ Some here.begins
at_a = refl

abbrev step : LabelStep
step = step_of P process_set sample.actor here none_bound (callable P)

-- ---- names given

i_apart : Apart (renames P sample.routine) (codes "i")
i_apart = record { left = λ at. refl; unread = λ y at. by y at (declares (locals sample.routine) y) refl }
  where
    -- it has the one variable y
    only : (y : Word) → declares (locals sample.routine) y ≡ true → NotFreeIn (codes "i") (Some (node (name y) nowhere no_trees))
    only y e = each_name (λ z. NotFreeIn (codes "i") (Some (node (name z) nowhere no_trees))) (codes "y" ∷ []) ((refl, tt), tt) y e

    by : (y : Word) (at : Place) (b : Bool) → declares (locals sample.routine) y ≡ b → NotFreeIn (codes "i") (cond b (Some (node (name y) at no_trees)) None)
    by y at true e = only y e
    by y at false e = tt

names_given : NamesGiven P process_set here
names_given = record {
  calls = sample_calls;
  clean = uncaptured plain (renames P sample.routine) (expanded (reverse sample.macros) sample.unexpanded) (
    ((tt, tt), (tt, ((tt, tt), ((tt, tt), tt))), tt),
    (
      ((tt, tt), (tt, ((tt, tt), ((tt, tt), tt))), tt),
      (((i_apart, tt), ((tt, ((tt, tt), ((tt, tt), tt))), ((tt, ((tt, tt), ((tt, tt), tt))), tt))), (((tt, ((tt, tt), ((tt, tt), tt))), (tt, tt), (((tt, tt), tt), tt)), tt)),
    ),
  );
  reads = (
    ((refl, tt), (tt, ((refl, tt), ((tt, tt), tt))), tt),
    (
      ((refl, tt), (tt, ((refl, tt), ((refl, tt), tt))), tt),
      ((tt, ((tt, ((tt, tt), ((tt, tt), tt))), ((tt, ((inl refl, tt), ((inr refl, tt), tt))), tt))), (((tt, ((refl, tt), ((tt, tt), tt))), (tt, tt), (((refl, tt), tt), tt)), tt)),
    ),
  );
}

-- ---- the step is prepared

frames : routines.FramesStand P.constants P.outside P.algorithm P.naming process_set sample.actor none_bound
frames = record {
  pc_among = refl;
  pc_path = refl;
  stack_among = refl;
  stack_path = refl;
  unbound = λ x m. refl;
  head = λ s. refl;
  tail = λ s. refl;
}

avoided : Word → Bool
avoided w = is_among (self ∷ vars P) w

own_apart : (x : Word) → avoided x ≡ false → Apart (owned self (is_own_variable P)) x
unfolding avoided
own_apart x h =
    let p = or_parts (bytes_eq self x) (is_among (vars P) x) h in
    owned_apart self (is_own_variable P) x (or_parts (bytes_eq (codes "x") x) (is_own_variable P x) p.1).1 (other-name self x p.0)

pub prepared : IsPrepared step
unfolding avoided
prepared = record {
  free = λ x at p s. refl;
  does = routines.jumps_with P.constants P.outside P.algorithm P.naming process_set sample.actor none_bound frames sample.routine process_apart
      (λ x p e. subst (λ q. NamesApart P process_set sample.actor q × routines.StartsFit P.constants P.outside P.algorithm P.naming process_set sample.actor none_bound q q.variables)
      (some_is (bytes_eq (codes "P") x) sample.called p e) (procedure_apart, (((tt, tt), (tt, tt), (tt, tt)), tt)));
  tidy = (tt, (tt, (tt, (((tt, tt), (refl, tt), (λ e. tt)), tt))));
  clean = clear_list avoided plain (owned self (is_own_variable P)) (λ x h. apart_clear plain (owned self (is_own_variable P)) x (own_apart x h)) (settled step.jumps step.here step.exit step.statements) refl;
}

-- ---- items can be written for it

settled_step : Settled (is_among (vars P)) (prepared_of step)
settled_step = ((refl, tt), ((refl, tt), (tt, ((((refl, tt), tt), ((refl, (refl, tt)), ((refl, tt), ((refl, tt), tt)))), tt))))

not_in : (A : Names) → IsWithin A (is_among (vars P)) → (x : Word) → is_among (vars P) x ≡ false → A x ≡ false
not_in A w x out = by (A x) refl
  where
    by : (b : Bool) → A x ≡ b → b ≡ false
    by true q = absurd (both_ways (is_among (vars P) x) out (w x q))
    by false q = refl

settled_for : AllSettledFor P process_set sample.any_name
settled_for A w = (
  (λ u. record { title = not_in A w (codes "Max") refl; body = (tt, ((tt, ((inr (inl refl), tt), ((inl refl, tt), tt))), ((inr (inl refl), tt), ((inl refl, tt), tt)))) }),
  ((λ u. record { title = not_in A w (codes "ProcSet") refl; body = (tt, ((tt, tt), tt)) }), tt),
)

unprimed : AllUnprimed (definitions_of P ++ process_set)
unprimed = ((tt, ((tt, ((tt, tt), ((tt, tt), tt))), ((tt, tt), ((tt, tt), tt)))), ((tt, ((tt, tt), tt)), tt))

pub ready : IsReady sample.any_name (vars P) (pair_env P process_set sample.actor) none step
unfolding avoided
ready = record {
  settled = settled_step;
  fine = fine_list avoided (vars P) (λ x m. or_right (bytes_eq self x) (is_among (vars P) x) m) none (λ x e. cc) (prepared_of step) settled_step refl;
  once = (
    apart none (codes "x" ∷ []) (refl, tt),
    (
      apart after_x (codes "y" ∷ []) (refl, tt),
      (
        tt,
        (
          (
            (apart after_await (pc ∷ []) (refl, tt), tt),
            (apart after_await (stack ∷ codes "a" ∷ []) (refl, (refl, tt)), (apart after_call (codes "b" ∷ []) (refl, tt), (apart after_b (pc ∷ []) (refl, tt), tt))),
          ),
          tt,
        ),
      ),
    ),
  );
  within = λ x e. cc;
  stands = scope_stands P process_set sample.actor sample.any_name settled_for unprimed refl sample.routine process_apart (λ s t. refl) (λ s t. refl);
}

-- so the written action of this label is true exactly of what the process does from it
pub sample_true : (s t : State) (w : Value) → pc_of sample.actor s ≡ Ok w → ((q : Trouble) → StandsAt P s sample.actor here → Has (course_of P sample.actor here s) (Err q) → ⊥)
    → TrueExactly (items_hold plain (values_of (vars P) s) (values_of (vars P) t) (pair_env P process_set sample.actor s t) (items_from P here.routine here.label (Some here.begins))) (StepFrom P sample.actor here s t)
sample_true s t w e fine =
    labels.label_true P.constants P.outside P.algorithm P.naming process_set sample.actor here process_apart (record { among = refl; path = refl }) t s w e (inl refl) at_a names_given none_bound (callable P) prepared sample.any_name ready fine
