-- The laws of the written items, for statements and their runs.
use Rattle.std.proofs.Common.{◌≡◌, List, [], Bool, true, false, ◌↔◌, sym, ◌∙◌, ap, subst, Ok, Err}
use Rattle.tla_token.specs.Signs.{is_among}
use Rattle.tla_tree.specs.Tree.{Word}
use Rattle.tla_value.specs.Stops.{plain}
use Rattle.tla_value.specs.Meaning.{Env}
use Rattle.tla_value.specs.Value.{TrueExactly}
use Rattle.module_tree.specs.ActionTruth.{Verdict}
use Rattle.pcal_tree.specs.Algorithm.{Statements}
use Rattle.pcal_tree.specs.Scope.{State, Scope}
use Rattle.pcal_tree.specs.Run.{Rules}
use Rattle.action_builder.specs.Assigned.{assigned_in, Names, more}
use Rattle.tla_value.specs.Value.{IsBad, NotFalse, Outcome}
use Rattle.action_builder.specs.laws.States.{SameOn, BadSomewhere}
use Rattle.action_builder.proofs.Actions.{Fits, NoTrouble, verdict, SomeTrouble, Built}
use Rattle.action_builder.specs.laws.Ready.{Readable, holds_on, unlimited, Ready}
use Rattle.action_builder.proofs.Matching.{Matches}
use Rattle.action_builder.specs.Written.{write}
use Rattle.action_builder.proofs.Contract.{true_fits, fits_true, true_exactly, bad_exactly, reads_assigned}
use Rattle.action_builder.proofs.Names.{all_once}
use Rattle.action_builder.proofs.Truth.{match_all}

pub match_is : (p : Verdict) (b : Bool) → Matches p (Ok b) → p ≡ Ok b
match_is (Ok a) b h = ap Ok h
match_is (Err k) b h = absurd h

match_back : (b : Bool) (v : Outcome Bool) → Matches (Ok b) v → v ≡ Ok b
match_back b (Ok a) h = ap Ok (sym h)
match_back b (Err k) h = absurd h

match_not_false : (p : Verdict) (v : Outcome Bool) → Matches p v → NotFalse v → NotFalse p
match_not_false (Ok a) (Ok true) h n = subst (λ b. NotFalse (Ok b)) (sym h) tt
match_not_false (Ok a) (Ok false) h n = absurd n
match_not_false (Ok a) (Err k) h n = absurd h
match_not_false (Err k) v h n = tt

match_stopped : (p : Verdict) (v : Outcome Bool) → Matches p v → IsBad p → IsBad v
match_stopped (Ok a) v h i = absurd i
match_stopped (Err k) (Ok b) h i = absurd h
match_stopped (Err k) (Err j) h i = tt

match_bad : (p : Verdict) (v : Outcome Bool) → Matches p v → IsBad v → IsBad p
match_bad (Ok a) (Ok b) h i = absurd i
match_bad (Ok a) (Err k) h i = absurd h
match_bad (Err k) v h i = tt

matched : (M : Rules) (U : Readable) (vs : List Word) (A : Names) (ss : Statements) (sc : Scope) (env : State → State → Env) → Ready U vs A ss sc env → (s t : State) → Matches (holds_on vs env (write vs A ss) s t) (verdict (unlimited M) A ss sc s t)
matched M U vs A ss sc env r s t = match_all U vs A ss r.settled r.fine r.within sc env r.stands s t

built : (M : Rules) (U : Readable) (vs : List Word) (A : Names) (ss : Statements) (sc : Scope) (env : State → State → Env) → Ready U vs A ss sc env → Built (unlimited M) (is_among vs) A ss sc
built M U vs A ss sc env r = (r.settled, λ x m at s. ([], r.stands.scoped.part x m at s), all_once plain A ss r.once)

-- where no run faults, the items are true exactly if some run has a fitting end, else false
pub items_exactly : (M : Rules) (U : Readable) (vs : List Word) (A : Names) (ss : Statements) (sc : Scope) (env : State → State → Env) → Ready U vs A ss sc env → (s t : State) → NoTrouble (unlimited M) A ss sc s t → TrueExactly (holds_on vs env (write vs A ss) s t) (Fits (unlimited M) A ss sc s t)
items_exactly M U vs A ss sc env r s t fine = by (true_exactly (unlimited M) (is_among vs) A ss sc s t (built M U vs A ss sc env r) fine)
  where
    by : TrueExactly (verdict (unlimited M) A ss sc s t) (Fits (unlimited M) A ss sc s t) → TrueExactly (holds_on vs env (write vs A ss) s t) (Fits (unlimited M) A ss sc s t)
    by x = (x.0, match_is (holds_on vs env (write vs A ss) s t) x.0 (subst (Matches (holds_on vs env (write vs A ss) s t)) x.1 (matched M U vs A ss sc env r s t)), x.2)

-- where the items are true, some run has a fitting end
pub items_fit : (M : Rules) (U : Readable) (vs : List Word) (A : Names) (ss : Statements) (sc : Scope) (env : State → State → Env) → Ready U vs A ss sc env → (s t : State) → holds_on vs env (write vs A ss) s t ≡ Ok true → Fits (unlimited M) A ss sc s t
items_fit M U vs A ss sc env r s t e =
    true_fits (unlimited M) (is_among vs) A ss sc s t (built M U vs A ss sc env r) (match_back true _ (subst (λ p. Matches p (verdict (unlimited M) A ss sc s t)) e (matched M U vs A ss sc env r s t)))

-- where some run has a fitting end, the items are true or fault
pub fit_items : (M : Rules) (U : Readable) (vs : List Word) (A : Names) (ss : Statements) (sc : Scope) (env : State → State → Env) → Ready U vs A ss sc env → (s t : State) → Fits (unlimited M) A ss sc s t → NotFalse (holds_on vs env (write vs A ss) s t)
fit_items M U vs A ss sc env r s t f =
    match_not_false (holds_on vs env (write vs A ss) s t) (verdict (unlimited M) A ss sc s t) (matched M U vs A ss sc env r s t) (fits_true (unlimited M) (is_among vs) A ss sc s t (built M U vs A ss sc env r) f)

-- the items fault for some later state that agrees on A exactly if some run faults
pub items_stop : (M : Rules) (U : Readable) (vs : List Word) (A : Names) (ss : Statements) (sc : Scope) (env : State → State → Env) → Ready U vs A ss sc env → (s t : State) → BadSomewhere A t (holds_on vs env (write vs A ss) s) ↔ SomeTrouble (unlimited M) A ss sc s t
items_stop M U vs A ss sc env r s t =
    let q = bad_exactly (unlimited M) (is_among vs) A ss sc s t (built M U vs A ss sc env r) in (
      λ x. q.0 (x.0, x.1, match_stopped (holds_on vs env (write vs A ss) s x.0) (verdict (unlimited M) A ss sc s x.0) (matched M U vs A ss sc env r s x.0) x.2),
      λ y. let z = q.1 y in (z.0, z.1, match_bad (holds_on vs env (write vs A ss) s z.0) (verdict (unlimited M) A ss sc s z.0) (matched M U vs A ss sc env r s z.0) z.2),
    )

-- the items' truth rests on no more of the later state than A and what is assigned
pub items_read : (M : Rules) (U : Readable) (vs : List Word) (A : Names) (ss : Statements) (sc : Scope) (env : State → State → Env) → Ready U vs A ss sc env → (s t u : State) → SameOn (more A (assigned_in ss)) t u → (b : Bool) → holds_on vs env (write vs A ss) s t ≡ Ok b → holds_on vs env (write vs A ss) s u ≡ Ok b
items_read M U vs A ss sc env r s t u h b e =
    let known : verdict (unlimited M) A ss sc s t ≡ Ok b = match_back b _ (subst (λ p. Matches p (verdict (unlimited M) A ss sc s t)) e (matched M U vs A ss sc env r s t)) in
    match_is (holds_on vs env (write vs A ss) s u) b (subst (Matches (holds_on vs env (write vs A ss) s u)) (sym (reads_assigned (unlimited M) A ss sc s t u h) ∙ known) (matched M U vs A ss sc env r s u))
