-- A run of the statements is a run of their effects, and then what follows.
use Rattle.std.proofs.Common.{◌≡◌, List, [], ◌∷◌, ◌++◌, Bool, true, false, cond, ◌⊎◌, ◌↔◌, refl, sym, ◌∙◌, ap, subst, inl, inr, ⊎_elim, Ok, Err}
use Rattle.tla_token.specs.declared.place.Place.{Place}
use Rattle.tla_tree.specs.Tree.{Word, apply, select, name, strict, Tree, node, Trees, no_trees, tree, root_place}
use Rattle.tla_value.specs.declared.fault.FaultKind.TheVariants.{AssertFailed}
use Rattle.tla_value.specs.Value.{Value, text, Values, no_values, and, Outcome, fault, Trouble, ◌>>=◌}
use Rattle.tla_value.specs.Stops.{Check}
use Rattle.tla_value.specs.Strict.{changed_at}
use Rattle.tla_value.specs.Meaning.{evals, part_values}
use Rattle.tla_value.proofs.Outcomes.{then_then}
use Rattle.pcal_tree.specs.Algorithm.{Assignments, no_assignments, assignment, Binds, no_binds, one_of, is, Statement, Statements, Branches, no_branches, or}
use Rattle.pcal_tree.specs.Algorithm as Source
use Rattle.pcal_tree.specs.Scope.{State, put, Part, deeper, Scope, bound, reach, reach_path, value_of, test, members}
use Rattle.pcal_tree.specs.Assign.{Setting, set_all, settings}
use Rattle.pcal_tree.specs.Assign as Assign
use Rattle.pcal_tree.specs.Run.{Course, chooses, Has, HasSome, after, at_each, held, stops, Follow, Rules, unlabelled, run_binds}
use Rattle.pcal_tree.specs.Run as Courses
use Rattle.pcal_tree.proofs.ExpandRuns.{following}
use Rattle.pcal_tree.specs.Calls.{setting}
use Rattle.action_builder.specs.Assigned.{Names, head_of, head_first}
use Rattle.action_builder.proofs.Effects.{Changes, no_changes, change, evaluated, applied, moved, Awaits, Chosen, Picks, SomeOf, Next, Effects, RunOne, Run, RunSome, changing, part_of, parts_of, nested, effect_of, effects_of, ways_of, Named}
use Rattle.action_builder.specs.laws.Scopes.{part_at}
use Rattle.action_builder.specs.laws.Ready.{IsLeft, LeftFirst, LeftSides, SettledOne, Settled, SettledSome}

-- ---- results

-- two results, and then what is made of both
pub on_both : {X Y Z W : Type 0} (o : Outcome X) (p : X → Outcome Y) (f : X → Y → Z) (go : Z → Outcome W) → (o >>= (λ x. (p x) >>= (λ y. Ok (f x y)))) >>= go ≡ o >>= (λ x. (p x) >>= (λ y. go (f x y)))
on_both (Ok x) p f go = then_then (p x) (λ y. Ok (f x y)) go
on_both (Err k) p f go = refl

-- ---- assignments

mutual
  heads : {X : Type 0} (V : Names) (c : Check) (l : Tree) → IsLeft V l → (sc : Scope) → Named V sc → (s : State) (go : Part → Outcome X) → (reach c l sc s) >>= go ≡ (reach c l sc s) >>= (λ p. go (part_at (head_of l) p.path))
  heads V c (node (name x) at ts) h sc n s go = let q = n x h at s in ap (λ o. o >>= go) q.1 ∙ sym (ap (λ o. o >>= (λ p. go (part_at x p.path))) q.1)
  heads V c (node (strict apply) at ts) h sc n s go = heads_path V c at ts h sc n s go
  heads V c (node (strict (select a)) at ts) h sc n s go =
      then_then (reach_path c at ts sc s) (λ p. Ok (deeper (text a ∷ []) p)) go
      ∙ heads_path V c at ts h sc n s (λ p. go (deeper (text a ∷ []) p))
      ∙ sym (then_then (reach_path c at ts sc s) (λ p. Ok (deeper (text a ∷ []) p)) (λ p. go (part_at (head_first ts) p.path)))
  heads V c (node _ at ts) h sc n s go = absurd h

  heads_path : {X : Type 0} (V : Names) (c : Check) (at : Place) (ts : Trees) → LeftFirst V ts → (sc : Scope) → Named V sc → (s : State) (go : Part → Outcome X) → (reach_path c at ts sc s) >>= go ≡ (reach_path c at ts sc s) >>= (λ p. go (part_at (head_first ts) p.path))
  heads_path V c at no_trees h sc n s go = absurd h
  heads_path V c at (tree f us) h sc n s go =
      then_then (reach c f sc s) (λ p. (part_values (evals c us) (sc.env s)) >>= (λ ks. Ok (deeper ks p))) go
      ∙ heads V c f h sc n s (λ p. ((part_values (evals c us) (sc.env s)) >>= (λ ks. Ok (deeper ks p))) >>= go)
      ∙ (λ i. (reach c f sc s) >>= (λ p. (then_then (part_values (evals c us) (sc.env s)) (λ ks. Ok (part_at (head_of f) (p.path ++ ks))) go
      ∙ sym (then_then (part_values (evals c us) (sc.env s)) (λ ks. Ok (part_at (head_of f) (p.path ++ ks))) (λ q. go (part_at (head_of f) q.path)))) i))
      ∙ sym (heads V c f h sc n s (λ p. ((part_values (evals c us) (sc.env s)) >>= (λ ks. Ok (deeper ks p))) >>= (λ q. go (part_at (head_of f) q.path))))
      ∙ sym (then_then (reach c f sc s) (λ p. (part_values (evals c us) (sc.env s)) >>= (λ ks. Ok (deeper ks p))) (λ q. go (part_at (head_of f) q.path)))

abbrev pub to_changes : Check → List Setting → Changes
to_changes c [] = no_changes
to_changes c (m ∷ ms) = change m.part.variable (changing c m.place m.part.path m.value) (to_changes c ms)

pub settings_law : {X : Type 0} (V : Names) (c : Check) (ms : Assignments) → LeftSides V ms → (sc : Scope) → Named V sc → (s : State) (go : List Setting → Outcome X) (go' : Changes → Outcome X) → ((all : List Setting) → go all ≡ go' (to_changes c all)) → (settings c ms sc s) >>= go ≡ (evaluated (parts_of c ms) sc s) >>= go'
settings_law V c no_assignments h sc n s go go' k = k []
settings_law V c (assignment l e ms) h sc n s go go' k =
    then_then (reach c l sc s) (λ p. (value_of c e sc s) >>= (λ v. (settings c ms sc s) >>= (λ rest. Ok (record { place = root_place l; part = p; value = v } ∷ rest)))) go
    ∙ (λ i. (reach c l sc s) >>= (λ p. on_both (value_of c e sc s) (λ v. settings c ms sc s) (λ v rest. record { place = root_place l; part = p; value = v } ∷ rest) go i))
    ∙ heads V c l h.0 sc n s (λ p. (value_of c e sc s) >>= (λ v. (settings c ms sc s) >>= (λ rest. go (record { place = root_place l; part = p; value = v } ∷ rest))))
    ∙ (λ i. (reach c l sc s) >>= (λ p. (value_of c e sc s) >>= (λ v.
    settings_law V c ms h.1 sc n s (λ rest. go (setting (root_place l) (head_of l) p.path v ∷ rest)) (λ fs. go' (change (head_of l) (changing c (root_place l) p.path v) fs)) (λ all. k (setting (root_place l) (head_of l) p.path v ∷ all)) i)))
    ∙ sym (
    then_then (part_of c l e sc s) (λ f. (evaluated (parts_of c ms) sc s) >>= (λ fs. Ok (change (head_of l) f fs))) go'
    ∙ (λ i. (part_of c l e sc s) >>= (λ f. then_then (evaluated (parts_of c ms) sc s) (λ fs. Ok (change (head_of l) f fs)) go' i))
    ∙ then_then (reach c l sc s) (λ p. (value_of c e sc s) >>= (λ v. Ok (changing c (root_place l) p.path v))) (λ f. (evaluated (parts_of c ms) sc s) >>= (λ fs. go' (change (head_of l) f fs)))
    ∙ (λ i. (reach c l sc s) >>= (λ p. then_then (value_of c e sc s) (λ v. Ok (changing c (root_place l) p.path v)) (λ f. (evaluated (parts_of c ms) sc s) >>= (λ fs. go' (change (head_of l) f fs))) i)))

set_law : (c : Check) (all : List Setting) (s : State) → set_all c all s ≡ applied (to_changes c all) s
set_law c [] s = refl
set_law c (m ∷ ms) s =
    on_both (changed_at m.place m.part.path m.value (s m.part.variable)) (c m.place) (λ w u. put m.part.variable u s) (set_all c ms)
    ∙ (λ i. (changed_at m.place m.part.path m.value (s m.part.variable)) >>= (λ w. (c m.place w) >>= (λ u. set_law c ms (put m.part.variable u s) i)))
    ∙ sym (then_then (changed_at m.place m.part.path m.value (s m.part.variable)) (c m.place) (λ u. applied (to_changes c ms) (put m.part.variable u s)))

pub moved_law : (V : Names) (c : Check) (ms : Assignments) → LeftSides V ms → (sc : Scope) → Named V sc → (s : State) → Assign.after_assignments c ms sc s ≡ moved (parts_of c ms) sc s
moved_law V c ms h sc n s = settings_law V c ms h sc n s (λ all. set_all c all s) (λ fs. applied fs s) (λ all. set_law c all s)

-- ---- runs

-- a first half with a result, and then K
abbrev pub Halves : (Outcome State → Type 0) → (State → Course) → Outcome State → Type 0
Halves P K r = (q : Outcome State) × P q × Next (λ u. Has (K u)) q r

-- the outcomes T are those of P, and then of K
abbrev pub Parted : (Outcome State → Type 0) → (Outcome State → Type 0) → (State → Course) → Type 0
Parted T P K = (r : Outcome State) → T r ↔ Halves P K r

at_result : (o : Outcome State) (K : State → Course) → Parted (Has (after o K)) (λ q. q ≡ o) K
at_result o K r = (λ h. (o, refl, by o h), λ h. back o (subst (λ q. Next (λ u. Has (K u)) q r) h.1 h.2))
  where
    by : (o : Outcome State) → Has (after o K) r → Next (λ u. Has (K u)) o r
    by (Ok u) h = h
    by (Err k) h = h

    back : (o : Outcome State) → Next (λ u. Has (K u)) o r → Has (after o K) r
    back (Ok u) h = h
    back (Err k) h = h

at_stop : (k : Trouble) (K : State → Course) → Parted (λ r. r ≡ Err k) (λ q. q ≡ Err k) K
at_stop k K r = (λ h. (Err k, refl, h), λ h. subst (λ q. Next (λ u. Has (K u)) q r) h.1 h.2)

at_end : (s : State) (K : State → Course) → Parted (Has (K s)) (λ q. q ≡ Ok s) K
at_end s K r = (λ h. (Ok s, refl, h), λ h. subst (λ q. Next (λ u. Has (K u)) q r) h.1 h.2)

parted_await : (o : Outcome Bool) (at : Place) (s : State) (K : State → Course) → Parted (Has (after o (λ t. cond t K (λ u. held at) s))) (λ q. Awaits o s q) K
parted_await (Ok true) at s K r = at_end s K r
parted_await (Ok false) at s K r = (λ h. absurd h, λ h. absurd h.1)
parted_await (Err k) at s K r = at_stop k K r

parted_print : (o : Outcome Value) (s : State) (K : State → Course) → Parted (Has (after o (λ v. K s))) (λ q. Awaits (o >>= (λ v. Ok true)) s q) K
parted_print (Ok v) s K r = at_end s K r
parted_print (Err k) s K r = at_stop k K r

parted_assert : (o : Outcome Bool) (at : Place) (s : State) (K : State → Course) → Parted (Has (after o (λ t. cond t K (λ u. stops (fault AssertFailed at)) s))) (λ q. Awaits (o >>= (λ b. cond b (Ok true) (Err (fault AssertFailed at)))) s q) K
parted_assert (Ok true) at s K r = at_end s K r
parted_assert (Ok false) at s K r = at_stop (fault AssertFailed at) K r
parted_assert (Err k) at s K r = at_stop k K r

parted_chosen : (o : Outcome Bool) (a b : State → Course) (s : State) (P Q : Outcome State → Type 0) (K : State → Course) → Parted (Has (a s)) P K → Parted (Has (b s)) Q K → Parted (Has (after o (λ t. cond t a b s))) (λ q. Chosen o (P q) (Q q) q) K
parted_chosen (Ok true) a b s P Q K h k = h
parted_chosen (Ok false) a b s P Q K h k = k
parted_chosen (Err j) a b s P Q K h k = at_stop j K

parted_or : (T U P Q : Outcome State → Type 0) (K : State → Course) → Parted T P K → Parted U Q K → Parted (λ r. T r ⊎ U r) (λ q. P q ⊎ Q q) K
parted_or T U P Q K h k r = (
  λ x. ⊎_elim (λ a. let y = (h r).0 a in (y.0, inl y.1, y.2)) (λ b. let y = (k r).0 b in (y.0, inr y.1, y.2)) x,
  λ y. ⊎_elim (λ a. inl ((h r).1 (y.0, a, y.2))) (λ b. inr ((k r).1 (y.0, b, y.2))) y.1,
)

parted_none : (K : State → Course) → Parted (λ r. ⊥) (λ q. ⊥) K
parted_none K r = (λ x. absurd x, λ y. absurd y.1)

parted_some : (vs : Values) (go : Value → Course) (P : Value → Outcome State → Type 0) (K : State → Course) → ((v : Value) → Parted (Has (go v)) (P v) K) → Parted (HasSome (at_each vs go)) (λ q. SomeOf vs (λ v. P v q)) K
parted_some no_values go P K h r = parted_none K r
parted_some (and v vs) go P K h r = parted_or (Has (go v)) _ (P v) _ K (h v) (parted_some vs go P K h) r

parted_picks : (o : Outcome Values) (at : Place) (go : Value → Course) (P : Value → Outcome State → Type 0) (K : State → Course) → ((v : Value) → Parted (Has (go v)) (P v) K) → Parted (Has (after o (λ vs. chooses at (at_each vs go)))) (λ q. Picks o (λ v. P v q) q) K
parted_picks (Ok vs) at go P K h = parted_some vs go P K h
parted_picks (Err k) at go P K h = at_stop k K

parted_is : (o : Outcome Value) (go : Value → Course) (P : Value → Outcome State → Type 0) (K : State → Course) → ((v : Value) → Parted (Has (go v)) (P v) K) → Parted (Has (after o go)) (λ q. Picks (o >>= (λ v. Ok (and v no_values))) (λ v. P v q) q) K
parted_is (Ok v) go P K h r =
    (λ x. let y = (h v r).0 x in (y.0, inl y.1, y.2), λ y. (h v r).1 (y.0, ⊎_elim (λ a. a) (λ b. absurd b) y.1, y.2))
parted_is (Err k) go P K h r = at_stop k K r

-- a run of one effect alone
abbrev pub Alone : (Outcome State → Type 0) → Outcome State → Type 0
Alone P r = (q : Outcome State) × P q × Next (λ s r'. r' ≡ Ok s) q r

pub alone : (P : Outcome State → Type 0) (r : Outcome State) → Alone P r ↔ P r
alone P r = (λ h. by h.0 h.1 h.2, λ p. (r, p, here r))
  where
    by : (q : Outcome State) → P q → Next (λ s r'. r' ≡ Ok s) q r → P r
    by (Ok u) p n = subst P (sym n) p
    by (Err k) p n = subst P (sym n) p

    here : (q : Outcome State) → Next (λ s r'. r' ≡ Ok s) q q
    here (Ok u) = refl
    here (Err k) = refl

parted_alone : (T P : Outcome State → Type 0) (K : State → Course) → Parted T P K → Parted T (Alone P) K
parted_alone T P K h r = (λ x. let y = (h r).0 x in (y.0, (alone P y.0).1 y.1, y.2), λ y. (h r).1 (y.0, (alone P y.0).0 y.1, y.2))

through : (R : State → Outcome State → Type 0) (L K : State → Course) (q r : Outcome State) → ((u : State) → Parted (Has (L u)) (R u) K) → Next (λ u. Has (L u)) q r ↔ Halves (Next R q) K r
through R L K (Ok u) r h = h u r
through R L K (Err k) r h = at_stop k K r

-- the body of a `with` in a scope
abbrev Bodies : Names → (Scope → State → Course) → Effects → (State → Course) → Type 0
Bodies V body es K = (sc : Scope) → Named V sc → (s : State) → Parted (Has (body sc s)) (Run es sc s) K

binds_law : (V : Names) (c : Check) (at : Place) (bs : Binds) (es : Effects) (body : Scope → State → Course) (K : State → Course) → Bodies V body es K → (sc : Scope) → Named V sc → (s : State) → Parted (Has (run_binds c at bs body sc s)) (Run (nested c bs es) sc s) K
binds_law V c at no_binds es body K h sc n s = h sc n s
binds_law V c at (one_of x e bs) es body K h sc n s =
    parted_alone _ _ K (parted_picks (members c e sc s) at (λ v. run_binds c at bs body (bound x.word v sc) s) (λ v. Run (nested c bs es) (bound x.word v sc) s) K (λ v. binds_law V c at bs es body K h (bound x.word v sc) n s))
binds_law V c at (is x e bs) es body K h sc n s =
    parted_alone _ _ K (parted_is (value_of c e sc s) (λ v. run_binds c at bs body (bound x.word v sc) s) (λ v. Run (nested c bs es) (bound x.word v sc) s) K (λ v. binds_law V c at bs es body K h (bound x.word v sc) n s))

one_way : (T P : Outcome State → Type 0) (K : State → Course) → Parted T P K → Parted T (λ q. P q ⊎ ⊥) K
one_way T P K h r = (λ x. let y = (h r).0 x in (y.0, inl y.1, y.2), λ y. (h r).1 (y.0, ⊎_elim (λ a. a) (λ b. absurd b) y.1, y.2))

mutual
  run_one : (V : Names) (M : Rules) (here : Word) (at : Place) (st : Statement) → SettledOne V st → (sc : Scope) → Named V sc → (K : Follow) (s : State) → Parted (Has (Courses.run_one M here at st sc K s)) (RunOne (effect_of M.check at st) sc s) K.goes
  run_one V M here at (Source.assign ms) h sc n K s r =
      subst (λ o. Has (after o K.goes) r ↔ Halves (λ q. q ≡ moved (parts_of M.check ms) sc s) K.goes r) (sym (moved_law V M.check ms h sc n s)) (at_result (moved (parts_of M.check ms) sc s) K.goes r)
  run_one V M here at (Source.await e) h sc n K s r = parted_await (test M.check e sc s) at s K.goes r
  run_one V M here at (Source.print e) h sc n K s r = parted_print (value_of M.check e sc s) s K.goes r
  run_one V M here at (Source.assert e) h sc n K s r = parted_assert (test M.check e sc s) at s K.goes r
  run_one V M here at Source.skip h sc n K s r = at_end s K.goes r
  run_one V M here at (Source.branch e a b) h sc n K s r =
      parted_chosen (test M.check e sc s) (Courses.run M unlabelled a sc K) (Courses.run M unlabelled b sc K) s _ _ K.goes (run V M unlabelled a h.0 sc n K s) (run V M unlabelled b h.1 sc n K s) r
  run_one V M here at (Source.either bs) h sc n K s r = run_some V M bs h sc n K s r
  run_one V M here at (Source.with no_binds b) h sc n K s r = one_way _ _ K.goes (run V M unlabelled b h sc n K s) r
  run_one V M here at (Source.with (one_of x e bs) b) h sc n K s r =
      parted_picks (members M.check e sc s) at (λ v. run_binds M.check at bs (λ inner. Courses.run M unlabelled b inner K) (bound x.word v sc) s) (λ v. Run (nested M.check bs (effects_of M.check b)) (bound x.word v sc) s) K.goes
      (λ v. binds_law V M.check at bs (effects_of M.check b) (λ inner. Courses.run M unlabelled b inner K) K.goes (λ inner k u. run V M unlabelled b h inner k K u) (bound x.word v sc) n s) r
  run_one V M here at (Source.with (is x e bs) b) h sc n K s r =
      parted_is (value_of M.check e sc s) (λ v. run_binds M.check at bs (λ inner. Courses.run M unlabelled b inner K) (bound x.word v sc) s) (λ v. Run (nested M.check bs (effects_of M.check b)) (bound x.word v sc) s) K.goes
      (λ v. binds_law V M.check at bs (effects_of M.check b) (λ inner. Courses.run M unlabelled b inner K) K.goes (λ inner k u. run V M unlabelled b h inner k K u) (bound x.word v sc) n s) r
  run_one V M here at _ h sc n K s r = absurd h

  pub run : (V : Names) (M : Rules) (here : Word) (ss : Statements) → Settled V ss → (sc : Scope) → Named V sc → (K : Follow) (s : State) → Parted (Has (Courses.run M here ss sc K s)) (Run (effects_of M.check ss) sc s) K.goes
  run V M here Source.done h sc n K s r = at_end s K.goes r
  run V M here (Source.then at st rest) h sc n K s r = (
    λ x. let y = (run_one V M here at.first st h.0 sc n (following M rest sc K) s r).0 x in
        let z = (through (Run (effects_of M.check rest) sc) (Courses.run M unlabelled rest sc K) K.goes y.0 r (λ u. run V M unlabelled rest h.1 sc n K u)).0 y.2 in
        (z.0, (y.0, y.1, z.1), z.2),
    λ x. (run_one V M here at.first st h.0 sc n (following M rest sc K) s r).1 (x.1.0, x.1.1, (through (Run (effects_of M.check rest) sc) (Courses.run M unlabelled rest sc K) K.goes x.1.0 r (λ u. run V M unlabelled rest h.1 sc n K u)).1 (x.0, x.1.2, x.2)),
  )
  run V M here (Source.mark l k rest) h sc n K s r = absurd h

  run_some : (V : Names) (M : Rules) (bs : Branches) → SettledSome V bs → (sc : Scope) → Named V sc → (K : Follow) (s : State) → Parted (HasSome (Courses.run_branches M bs sc K s)) (RunSome (ways_of M.check bs) sc s) K.goes
  run_some V M no_branches h sc n K s r = parted_none K.goes r
  run_some V M (or b bs) h sc n K s r =
      parted_or (Has (Courses.run M unlabelled b sc K s)) _ (Run (effects_of M.check b) sc s) _ K.goes (run V M unlabelled b h.0 sc n K s) (run_some V M bs h.1 sc n K s) r
