-- Settled statements have the ends of the statements, and trouble where these have trouble.
use Rattle.std.proofs.Common.{◌≡◌, [], ◌∷◌, Bool, true, false, cond, ◌||◌, ◌⊎◌, refl, ap, subst, inl, inr, ⊎_elim, Ok, Err}
use Rattle.std.proofs.lemmas.Bool.{or_parts}
use Rattle.tla_token.specs.declared.place.Place.{Place}
use Rattle.tla_tree.specs.Tree.{Word}
use Rattle.tla_value.specs.declared.fault.FaultKind.TheVariants.{AssertFailed}
use Rattle.tla_value.specs.Value.{Value, Values, no_values, and, Outcome, fault}
use Rattle.tla_value.specs.Stops.{Check}
use Rattle.tla_value.specs.laws.Grafting.{In}
use Rattle.pcal_tree.specs.Algorithm.{Span, Binds, no_binds, one_of, is, Statement, assign, await, print, assert, skip, branch, either, with, while, goto, macro, call, return, Statements, done, then, mark, Branches, no_branches, or}
use Rattle.pcal_tree.specs.Scope.{State, Scope, bound, test, members, value_of}
use Rattle.pcal_tree.specs.Assign.{after_assignments}
use Rattle.pcal_tree.specs.Run.{Course, stops, Has, HasSome, after, at_each, held, Follow, Rules, unlabelled, label_of, partner_of, run_binds, run_one, run, run_branches, exit_to}
use Rattle.action_builder.specs.laws.Settling.{to_end, Stops, EachBind, Callable, TidyOne, Tidy, TidySome, Outcomes, AnyBad, Close, CloseCourses, DoesAsRules}
use Rattle.action_builder.specs.Settled.{WrittenJumps, jumps_one, jumps, jumps_some, settled_one, settled, settled_some}
use Rattle.action_builder.specs.laws.Scopes.{Inner}
use Rattle.pcal_tree.proofs.ExpandRuns.{following}

-- ---- close courses

pub close_refl : (P : Outcomes) → Close P P
close_refl P = record { ends = λ u. (λ x. x, λ x. x); faults = (λ x. x, λ x. x) }

pub close_after : {X : Type 0} (o : Outcome X) (f g : X → Course) → ((x : X) → Close (Has (f x)) (Has (g x))) → Close (Has (after o f)) (Has (after o g))
close_after (Ok x) f g h = h x
close_after (Err k) f g h = close_refl (λ r. r ≡ Err k)

pub close_cond : (t : Bool) (a b c d : State → Course) (s : State) → Close (Has (a s)) (Has (c s)) → Close (Has (b s)) (Has (d s)) → Close (Has (cond t a b s)) (Has (cond t c d s))
close_cond true a b c d s h k = h
close_cond false a b c d s h k = k

or_map : {A B C D : Type 0} → (A → C) → (B → D) → A ⊎ B → C ⊎ D
or_map f g x = ⊎_elim (λ a. inl (f a)) (λ b. inr (g b)) x

bad_or : (P Q R S : Outcomes) → (AnyBad P → AnyBad R) → (AnyBad Q → AnyBad S) → AnyBad (λ r. P r ⊎ Q r) → AnyBad (λ r. R r ⊎ S r)
bad_or P Q R S f g x = ⊎_elim
    (λ a. let y = f (x.0, x.1, a) in (y.0, y.1, inl y.2))
    (λ b. let y = g (x.0, x.1, b) in (y.0, y.1, inr y.2)) x.2

pub close_or : (P Q R S : Outcomes) → Close P R → Close Q S → Close (λ r. P r ⊎ Q r) (λ r. R r ⊎ S r)
close_or P Q R S h k = record {
  ends = λ u. (or_map (h.ends u).0 (k.ends u).0, or_map (h.ends u).1 (k.ends u).1);
  faults = (bad_or P Q R S h.faults.0 k.faults.0, bad_or R S P Q h.faults.1 k.faults.1);
}

pub close_some : (vs : Values) (f g : Value → Course) → ((v : Value) → Close (Has (f v)) (Has (g v))) → Close (HasSome (at_each vs f)) (HasSome (at_each vs g))
close_some no_values f g h = close_refl (λ r. ⊥)
close_some (and v vs) f g h = close_or (Has (f v)) _ (Has (g v)) _ (h v) (close_some vs f g h)

close_held : (at p : Place) → Close (Has (held at)) (Has (held p))
close_held at p = close_refl (λ r. ⊥)

-- the bodies are close in the scopes that fit, and the names of the binds keep the fit
close_binds : (c : Check) (at : Place) (Fit : Scope → Type 0) (F : Word → Type 0) → ((x : Word) (v : Value) (sc : Scope) → F x → Fit sc → Fit (bound x v sc)) → (bs : Binds) → EachBind F bs → (f g : Scope → State → Course) → ((sc : Scope) → Fit sc → CloseCourses (f sc) (g sc)) → (sc : Scope) → Fit sc → CloseCourses (run_binds c at bs f sc) (run_binds c at bs g sc)
close_binds c at Fit F keep no_binds h f g k sc fit s = k sc fit s
close_binds c at Fit F keep (one_of x e bs) h f g k sc fit s =
    close_after (members c e sc s) _ _ (λ vs. close_some vs (λ v. run_binds c at bs f (bound x.word v sc) s) (λ v. run_binds c at bs g (bound x.word v sc) s) (λ v. close_binds c at Fit F keep bs h.1 f g k (bound x.word v sc) (keep x.word v sc h.0 fit) s))
close_binds c at Fit F keep (is x e bs) h f g k sc fit s =
    close_after (value_of c e sc s) _ _ (λ v. close_binds c at Fit F keep bs h.1 f g k (bound x.word v sc) (keep x.word v sc h.0 fit) s)

-- ---- what follows may be changed for what is close, where nothing jumps

true_false : {P : Type 0} → true ≡ false → P
true_false e = cc

abbrev AnyScope : Scope → Type 0
AnyScope sc = Unit {0}

abbrev AnyName : Word → Type 0
AnyName x = Unit {0}

each_any : (bs : Binds) → EachBind AnyName bs
each_any no_binds = tt
each_any (one_of x e bs) = (tt, each_any bs)
each_any (is x e bs) = (tt, each_any bs)

mutual
  pub free_one : (M : Rules) (here there : Word) (at : Place) (st : Statement) → jumps_one st ≡ false → (sc : Scope) (K L : Follow) → CloseCourses K.goes L.goes → CloseCourses (run_one M here at st sc K) (run_one M there at st sc L)
  free_one M here there at (assign ms) f sc K L h s = close_after (after_assignments M.check ms sc s) K.goes L.goes h
  free_one M here there at (await e) f sc K L h s = close_after (test M.check e sc s) _ _ (λ t. close_cond t K.goes (λ u. held at) L.goes (λ u. held at) s (h s) (close_held at at))
  free_one M here there at (print e) f sc K L h s = close_after (value_of M.check e sc s) (λ v. K.goes s) (λ v. L.goes s) (λ v. h s)
  free_one M here there at (assert e) f sc K L h s =
      close_after (test M.check e sc s) _ _ (λ t. close_cond t K.goes (λ u. stops (fault AssertFailed at)) L.goes (λ u. stops (fault AssertFailed at)) s (h s) (close_refl (λ r. r ≡ Err (fault AssertFailed at))))
  free_one M here there at skip f sc K L h s = h s
  free_one M here there at (branch e a b) f sc K L h s =
      let q = or_parts (jumps a) (jumps b) f in
      close_after (test M.check e sc s) _ _ (λ t. close_cond t (run M unlabelled a sc K) (run M unlabelled b sc K) (run M unlabelled a sc L) (run M unlabelled b sc L) s (free M unlabelled unlabelled a q.0 sc K L h s) (free M unlabelled unlabelled b q.1 sc K L h s))
  free_one M here there at (either bs) f sc K L h s = free_some M bs f sc K L h s
  free_one M here there at (with bs b) f sc K L h s =
      close_binds M.check at AnyScope AnyName (λ x v inner k l. tt) bs (each_any bs) (λ inner. run M unlabelled b inner K) (λ inner. run M unlabelled b inner L) (λ inner k. free M unlabelled unlabelled b f inner K L h) sc tt s
  free_one M here there at st f sc K L h s = true_false f

  pub free : (M : Rules) (here there : Word) (ss : Statements) → jumps ss ≡ false → (sc : Scope) (K L : Follow) → CloseCourses K.goes L.goes → CloseCourses (run M here ss sc K) (run M there ss sc L)
  free M here there done f sc K L h s = h s
  free M here there (then at st rest) f sc K L h s =
      let q = or_parts (jumps_one st) (jumps rest) f in
      free_one M here there at.first st q.0 sc (following M rest sc K) (following M rest sc L) (free M unlabelled unlabelled rest q.1 sc K L h) s
  free M here there (mark l k rest) f sc K L h s = true_false f

  pub free_some : (M : Rules) (bs : Branches) → jumps_some bs ≡ false → (sc : Scope) (K L : Follow) → CloseCourses K.goes L.goes → (s : State) → Close (HasSome (run_branches M bs sc K s)) (HasSome (run_branches M bs sc L s))
  free_some M no_branches f sc K L h s = close_refl (λ r. ⊥)
  free_some M (or b bs) f sc K L h s =
      let q = or_parts (jumps b) (jumps_some bs) f in
      close_or (Has (run M unlabelled b sc K s)) (HasSome (run_branches M bs sc K s)) (Has (run M unlabelled b sc L s)) (HasSome (run_branches M bs sc L s)) (free M unlabelled unlabelled b q.0 sc K L h s) (free_some M bs q.1 sc K L h s)

-- ---- settling

-- where the list stops, what follows is a jump to its label
stopped : (M : Rules) (rest : Statements) (l : Word) (sc : Scope) → Stops rest → exit_to M (label_of rest l) ≡ following M rest sc (exit_to M l)
stopped M done l sc h = refl
stopped M (then at st rest) l sc h = absurd h
stopped M (mark m k rest) l sc h = refl

-- a branching statement: settled where it jumps, and left as it is where it doesn't
by_jump : (b : Bool) (M : Rules) (here : Word) (at : Span) (st st' : Statement) (rest rest' : Statements) (l : Word) (sc : Scope) → (b ≡ true → Stops rest) → (b ≡ false → CloseCourses (run_one M unlabelled at.first st sc (following M rest' sc to_end)) (run_one M here at.first st sc (following M rest sc (exit_to M l)))) → CloseCourses (run_one M unlabelled at.first st' sc to_end) (run_one M here at.first st sc (exit_to M (label_of rest l))) → CloseCourses (run M unlabelled (cond b (then at st' done) (then at st rest')) sc to_end) (run_one M here at.first st sc (following M rest sc (exit_to M l)))
by_jump true M here at st st' rest rest' l sc d f h s = subst (λ F. Close (Has (run_one M unlabelled at.first st' sc to_end s)) (Has (run_one M here at.first st sc F s))) (stopped M rest l sc (d refl)) (h s)
by_jump false M here at st st' rest rest' l sc d f h s = f refl s

mutual
  settle_one : (M : Rules) (W : WrittenJumps) (Fit : Scope → Type 0) (F : Word → Type 0) (g : Callable) → DoesAsRules M W Fit F g → (here l : Word) (at : Span) (st : Statement) (rest : Statements) → TidyOne F g st rest → (sc : Scope) → Fit sc → CloseCourses (run M unlabelled (settled W unlabelled l rest) sc to_end) (run M unlabelled rest sc (exit_to M l)) → CloseCourses (run M unlabelled (settled_one W here (label_of rest l) (partner_of rest) at st (settled W unlabelled l rest)) sc to_end) (run_one M here at.first st sc (following M rest sc (exit_to M l)))
  settle_one M W Fit F g d here l at (assign ms) rest t sc fit h s = close_after (after_assignments M.check ms sc s) _ _ h
  settle_one M W Fit F g d here l at (await e) rest t sc fit h s = free_one M unlabelled here at.first (await e) refl sc (following M (settled W unlabelled l rest) sc to_end) (following M rest sc (exit_to M l)) h s
  settle_one M W Fit F g d here l at (print e) rest t sc fit h s = free_one M unlabelled here at.first (print e) refl sc (following M (settled W unlabelled l rest) sc to_end) (following M rest sc (exit_to M l)) h s
  settle_one M W Fit F g d here l at (assert e) rest t sc fit h s = free_one M unlabelled here at.first (assert e) refl sc (following M (settled W unlabelled l rest) sc to_end) (following M rest sc (exit_to M l)) h s
  settle_one M W Fit F g d here l at skip rest t sc fit h s = h s
  settle_one M W Fit F g d here l at (branch e a b) rest t sc fit h s =
      by_jump (jumps a || jumps b) M here at (branch e a b) (branch e (settled W unlabelled (label_of rest l) a) (settled W unlabelled (label_of rest l) b)) rest (settled W unlabelled l rest) l sc t.2
      (λ f. free_one M unlabelled here at.first (branch e a b) f sc (following M (settled W unlabelled l rest) sc to_end) (following M rest sc (exit_to M l)) h)
      (λ u. close_after (test M.check e sc u) _ _ (λ yes. close_cond yes (run M unlabelled (settled W unlabelled (label_of rest l) a) sc to_end) (run M unlabelled (settled W unlabelled (label_of rest l) b) sc to_end) (run M unlabelled a sc (exit_to M (label_of rest l))) (run M unlabelled b sc (exit_to M (label_of rest l))) u (settle M W Fit F g d unlabelled (label_of rest l) a t.0 sc fit u) (settle M W Fit F g d unlabelled (label_of rest l) b t.1 sc fit u))) s
  settle_one M W Fit F g d here l at (either bs) rest t sc fit h s =
      by_jump (jumps_some bs) M here at (either bs) (either (settled_some W (label_of rest l) bs)) rest (settled W unlabelled l rest) l sc t.1
      (λ f. free_some M bs f sc (following M (settled W unlabelled l rest) sc to_end) (following M rest sc (exit_to M l)) h) (settle_some M W Fit F g d (label_of rest l) bs t.0 sc fit) s
  settle_one M W Fit F g d here l at (with bs b) rest t sc fit h s =
      by_jump (jumps b) M here at (with bs b) (with bs (settled W unlabelled (label_of rest l) b)) rest (settled W unlabelled l rest) l sc t.1
      (λ f. free_one M unlabelled here at.first (with bs b) f sc (following M (settled W unlabelled l rest) sc to_end) (following M rest sc (exit_to M l)) h)
      (close_binds M.check at.first Fit F d.bind bs t.2 (λ inner. run M unlabelled (settled W unlabelled (label_of rest l) b) inner to_end) (λ inner. run M unlabelled b inner (exit_to M (label_of rest l))) (λ inner k. settle M W Fit F g d unlabelled (label_of rest l) b t.0 inner k) sc fit) s
  settle_one M W Fit F g d here l at (while e b) rest t sc fit h s =
      close_after (test M.check e sc s) _ _ (λ yes. close_cond yes (run M unlabelled (settled W unlabelled here b) sc to_end) (run M unlabelled (settled W unlabelled l rest) sc to_end) (run M unlabelled b sc (exit_to M here)) (run M unlabelled rest sc (exit_to M l)) s (settle M W Fit F g d unlabelled here b t sc fit s) (h s))
  settle_one M W Fit F g d here l at (goto m) rest t sc fit h s = d.goto m sc fit s
  settle_one M W Fit F g d here l at (macro m ts) rest t sc fit h s = absurd t
  settle_one M W Fit F g d here l at (call p ts) rest t sc fit h s = d.call at p ts (label_of rest l) (partner_of rest) sc fit t s
  settle_one M W Fit F g d here l at return rest t sc fit h s = d.return at sc fit t s

  -- the law
  pub settle : (M : Rules) (W : WrittenJumps) (Fit : Scope → Type 0) (F : Word → Type 0) (g : Callable) → DoesAsRules M W Fit F g → (here l : Word) (ss : Statements) → Tidy F g ss → (sc : Scope) → Fit sc → CloseCourses (run M unlabelled (settled W here l ss) sc to_end) (run M here ss sc (exit_to M l))
  settle M W Fit F g d here l done t sc fit s = d.goto l sc fit s
  settle M W Fit F g d here l (then at st rest) t sc fit s = settle_one M W Fit F g d here l at st rest t.0 sc fit (settle M W Fit F g d unlabelled l rest t.1 sc fit) s
  settle M W Fit F g d here l (mark m k rest) t sc fit s = d.goto m.word sc fit s

  settle_some : (M : Rules) (W : WrittenJumps) (Fit : Scope → Type 0) (F : Word → Type 0) (g : Callable) → DoesAsRules M W Fit F g → (l : Word) (bs : Branches) → TidySome F g bs → (sc : Scope) → Fit sc → (s : State) → Close (HasSome (run_branches M (settled_some W l bs) sc to_end s)) (HasSome (run_branches M bs sc (exit_to M l) s))
  settle_some M W Fit F g d l no_branches t sc fit s = close_refl (λ r. ⊥)
  settle_some M W Fit F g d l (or b bs) t sc fit s =
      close_or (Has (run M unlabelled (settled W unlabelled l b) sc to_end s)) (HasSome (run_branches M (settled_some W l bs) sc to_end s)) (Has (run M unlabelled b sc (exit_to M l) s)) (HasSome (run_branches M bs sc (exit_to M l) s)) (settle M W Fit F g d unlabelled l b t.0 sc fit s) (settle_some M W Fit F g d l bs t.1 sc fit s)

pub inner_bind : (f : Word → Bool) (sc : Scope) (x : Word) (v : Value) (inner : Scope) → In f x → Inner f sc inner → Inner f sc (bound x v inner)
inner_bind f sc x v inner h k = ((x, v) ∷ k.0, (h, k.1), ap (bound x v) k.2)

pub settle_in : (M : Rules) (W : WrittenJumps) (f : Word → Bool) (g : Callable) (sc : Scope) → DoesAsRules M W (Inner f sc) (In f) g → (here l : Word) (ss : Statements) → Tidy (In f) g ss → CloseCourses (run M unlabelled (settled W here l ss) sc to_end) (run M here ss sc (exit_to M l))
settle_in M W f g sc d here l ss t = settle M W (Inner f sc) (In f) g d here l ss t sc ([], tt, refl)
