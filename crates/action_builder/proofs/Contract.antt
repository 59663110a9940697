-- The laws of the written action, for statements and their runs.
use Rattle.std.proofs.Common.{◌≡◌, Bool, true, false, ◌↔◌, refl, sym, ◌∙◌, ap, subst, Ok, Err}
use Rattle.pcal_tree.specs.Algorithm.{Statements}
use Rattle.pcal_tree.specs.Scope.{State, Scope}
use Rattle.pcal_tree.specs.Run.{Rules, unlabelled}
use Rattle.tla_value.specs.Stops.{Check}
use Rattle.action_builder.proofs.Names.{all_names}
use Rattle.action_builder.specs.Assigned.{assigned_in, Names, more}
use Rattle.action_builder.specs.laws.States.{mid, SameOn, BadSomewhere}
use Rattle.action_builder.proofs.Effects.{effects_names, Run, Named, effects_of}
use Rattle.tla_value.specs.Value.{IsBad, NotFalse, TrueExactly, Trouble, Outcome}
use Rattle.action_builder.specs.laws.Ready.{Settled}
use Rattle.action_builder.specs.laws.Settling.{to_end}
use Rattle.action_builder.proofs.Actions.{Runs, Fits, NoTrouble, verdict, SomeTrouble, Built}
use Rattle.action_builder.proofs.Sets.{mid_in}
use Rattle.action_builder.proofs.Denotations.{alone, run}
use Rattle.action_builder.proofs.Main.{true_all}
use Rattle.action_builder.proofs.Converse.{fits_all, bad_all, fitting_end}
use Rattle.action_builder.proofs.Faults.{mid_agree, local_all, fault_all}

-- with nothing after, the outcomes of the statements are those of their effects
pub runs_law : (M : Rules) (V A : Names) (ss : Statements) (sc : Scope) (s t : State) (r : Outcome State) → Settled V ss → Named V sc → Runs M A ss sc s t r ↔ Run (effects_of M.check ss) sc (mid s t A) r
runs_law M V A ss sc s t r z n =
    let p = run V M unlabelled ss z sc n to_end (mid s t A) r in
    let q = alone (Run (effects_of M.check ss) sc (mid s t A)) r in
    (λ x. q.0 (p.0 x), λ y. p.1 (q.1 y))

-- the names that are assigned
to_names : (c : Check) (A : Names) (ss : Statements) (t u : State) → SameOn (more A (effects_names (effects_of c ss))) t u → SameOn (more A (assigned_in ss)) t u
to_names c A ss t u h = subst (λ xs. SameOn (more A xs) t u) (all_names c ss) h

of_names : (c : Check) (A : Names) (ss : Statements) (t u : State) → SameOn (more A (assigned_in ss)) t u → SameOn (more A (effects_names (effects_of c ss))) t u
of_names c A ss t u h = subst (λ xs. SameOn (more A xs) t u) (sym (all_names c ss)) h

-- where the action is true, some run has a fitting end
pub true_fits : (M : Rules) (V A : Names) (ss : Statements) (sc : Scope) (s t : State) → Built M V A ss sc → verdict M A ss sc s t ≡ Ok true → Fits M A ss sc s t
true_fits M V A ss sc s t h e = (
  mid s t (more A (effects_names (effects_of M.check ss))),
  (runs_law M V A ss sc s t _ h.0 h.1).1 (true_all A (effects_of M.check ss) sc s t e),
  to_names M.check A ss _ t (λ x i. mid_in s t (more A (effects_names (effects_of M.check ss))) x i),
)

-- where some run has a fitting end, the action is true or faults
pub fits_true : (M : Rules) (V A : Names) (ss : Statements) (sc : Scope) (s t : State) → Built M V A ss sc → Fits M A ss sc s t → NotFalse (verdict M A ss sc s t)
fits_true M V A ss sc s t h f =
    let r : Run (effects_of M.check ss) sc (mid s t A) (Ok f.0) = (runs_law M V A ss sc s t (Ok f.0) h.0 h.1).0 f.1 in
    let end : f.0 ≡ mid s t (more A (effects_names (effects_of M.check ss))) = fitting_end A (effects_of M.check ss) sc s t f.0 r (of_names M.check A ss f.0 t f.2) in
    fits_all A (effects_of M.check ss) sc s t h.2 (subst (λ u. Run (effects_of M.check ss) sc (mid s t A) (Ok u)) end r)

-- where the action faults on (s, t), so does some run
pub bad_runs : (M : Rules) (V A : Names) (ss : Statements) (sc : Scope) (s t : State) → Built M V A ss sc → (k : Trouble) → verdict M A ss sc s t ≡ Err k → SomeTrouble M A ss sc s t
bad_runs M V A ss sc s t h k e =
    let r = bad_all A (effects_of M.check ss) sc s t k e in
    (r.0, (runs_law M V A ss sc s t (Err r.0) h.0 h.1).1 r.1)

-- where no run faults, the action is true exactly if some run has a fitting end, else false
pub true_exactly : (M : Rules) (V A : Names) (ss : Statements) (sc : Scope) (s t : State) → Built M V A ss sc → NoTrouble M A ss sc s t → TrueExactly (verdict M A ss sc s t) (Fits M A ss sc s t)
true_exactly M V A ss sc s t h fine = by (verdict M A ss sc s t) refl
  where
    yes : (b : Bool) → Ok b ≡ verdict M A ss sc s t → NotFalse (verdict M A ss sc s t) → b ≡ true
    yes true e f = refl
    yes false e f = absurd (subst NotFalse (sym e) f)

    by : (o : Outcome Bool) → verdict M A ss sc s t ≡ o → TrueExactly (verdict M A ss sc s t) (Fits M A ss sc s t)
    by (Ok b) e = (b, e, (λ p. true_fits M V A ss sc s t h (e ∙ ap Ok p), λ f. yes b (sym e) (fits_true M V A ss sc s t h f)))
    by (Err k) e = let r = bad_runs M V A ss sc s t h k e in absurd (fine r.0 r.1)

-- the action faults for some later state that agrees on A exactly if some run faults
pub bad_exactly : (M : Rules) (V A : Names) (ss : Statements) (sc : Scope) (s t : State) → Built M V A ss sc → BadSomewhere A t (verdict M A ss sc s) ↔ SomeTrouble M A ss sc s t
bad_exactly M V A ss sc s t h = (λ x. by x.0 x.1 (verdict M A ss sc s x.0) refl x.2, λ y. fault_all A (effects_of M.check ss) sc s t y.0 h.2 ((runs_law M V A ss sc s t (Err y.0) h.0 h.1).0 y.1))
  where
    by : (u : State) → SameOn A u t → (o : Outcome Bool) → verdict M A ss sc s u ≡ o → IsBad (verdict M A ss sc s u) → SomeTrouble M A ss sc s t
    by u a (Ok b) e i = absurd (subst IsBad e i)
    by u a (Err k) e i =
        let r = bad_all A (effects_of M.check ss) sc s u k e in
        (r.0, (runs_law M V A ss sc s t (Err r.0) h.0 h.1).1 (subst (λ m. Run (effects_of M.check ss) sc m (Err r.0)) (mid_agree s u t A a) r.1))

-- it reads of the later state only A and what is assigned
pub reads_assigned : (M : Rules) (A : Names) (ss : Statements) (sc : Scope) (s t u : State) → SameOn (more A (assigned_in ss)) t u → verdict M A ss sc s t ≡ verdict M A ss sc s u
reads_assigned M A ss sc s t u h = local_all A (effects_of M.check ss) sc s t u (of_names M.check A ss t u h)
