-- Courses of statements from states that agree on some variables: they end in states that agree on them, and stop alike.
use Rattle.std.proofs.Common.{◌≡◌, List, [], ◌∷◌, Bool, true, false, cond, bytes_eq, Option, Some, None, refl, sym, ◌∙◌, ap, subst, inl, inr, Ok, Err}
use Rattle.std.proofs.lemmas.Bool.{or_left, or_right}
use Rattle.tla_token.specs.declared.place.Place.{Place}
use Rattle.tla_tree.specs.Tree.{Word, apply, select, Form, name, strict, Tree, node, Trees, no_trees, tree, Graft, Each, root_place}
use Rattle.tla_value.specs.declared.fault.FaultKind.TheVariants.{AssertFailed}
use Rattle.tla_value.specs.Value.{Value, text, Values, no_values, and, fault, Outcome, ◌>>=◌}
use Rattle.tla_value.specs.Stops.{Check, truth_at, members_at}
use Rattle.tla_value.specs.Strict.{changed_at}
use Rattle.tla_value.specs.Grafts.{through as through_env}
use Rattle.tla_value.specs.Meaning.{bind, eval, evals, part_values}
use Rattle.pcal_tree.specs.Algorithm.{Span, Assignments, no_assignments, assignment, Binds, no_binds, one_of, is, Statement, assign, await, print, assert, skip, branch, either, with, while, goto, macro, call, return, Statements, done, then, mark, Branches, no_branches, or, Macro}
use Rattle.pcal_tree.specs.Scope.{State, put, Part, Scope, bound, places_of, deeper, reach_form, reach, reach_path, reach_in, through, value_of, test, members}
use Rattle.pcal_tree.specs.Assign.{Setting, set_one, set_all, settings, after_assignments}
use Rattle.pcal_tree.specs.Run.{Course, ends, stops, chooses, Courses, no_courses, course, held, after, at_each, Partner, no_partner, partner_of, is_return, Follow, Rules, unlabelled, label_of, run_binds, run_one, run, run_branches, arguments, Calling, with_calls, called, with_macros}
use Rattle.pcal_tree.specs.Variables.{Agree}
use Rattle.pcal_tree.specs.Processes.{OneOf}
use Rattle.pcal_tree.specs.laws.Steps.{has_return_in, has_return, has_return_of}

-- ---- states

pub each_of : (Q : Word → Type 0) (xs : List Word) → ((x : Word) → OneOf x xs → Q x) → Each Q xs
each_of Q [] h = tt
each_of Q (x ∷ xs) h = (h x (inl refl), each_of Q xs (λ y k. h y (inr k)))

pub of_each : (Q : Word → Type 0) (xs : List Word) → Each Q xs → (x : Word) → OneOf x xs → Q x
of_each Q [] h x k = absurd k
of_each Q (y ∷ xs) h x (inl e) = subst Q (sym e) h.0
of_each Q (y ∷ xs) h x (inr k) = of_each Q xs h.1 x k

pub agree_sym : (V : List Word) (s t : State) → Agree V s t → Agree V t s
agree_sym V s t a = each_of (λ x. t x ≡ s x) V (λ x k. sym (of_each (λ x. s x ≡ t x) V a x k))

pub agree_trans : (V : List Word) (s t u : State) → Agree V s t → Agree V t u → Agree V s u
agree_trans V s t u a b = each_of (λ x. s x ≡ u x) V (λ x k. of_each (λ x. s x ≡ t x) V a x k ∙ of_each (λ x. t x ≡ u x) V b x k)

module _ (V : List Word) where
  abbrev In : Word → Type 0
  In x = OneOf x V

  pub value_at : (s t : State) → Agree V s t → (x : Word) → In x → s x ≡ t x
  value_at s t a x k = of_each (λ x. s x ≡ t x) V a x k

  put_agree : (x : Word) (v : Value) (s t : State) → Agree V s t → Agree V (put x v s) (put x v t)
  put_agree x v s t a = each_of (λ y. put x v s y ≡ put x v t y) V (λ y k. ap (λ w. cond (bytes_eq x y) v w) (value_at s t a y k))

  -- ---- results and courses

  abbrev pub SameEnd : Outcome State → Outcome State → Type 0
  SameEnd (Ok s) (Ok t) = Agree V s t
  SameEnd (Err j) (Err k) = j ≡ k
  SameEnd _ _ = ⊥

  abbrev mutual
    pub Same : Course → Course → Type 0
    Same (ends s) (ends t) = Agree V s t
    Same (stops j) (stops k) = j ≡ k
    Same (chooses at cs) (chooses p ds) = (at ≡ p) × SameAll cs ds
    Same _ _ = ⊥

    pub SameAll : Courses → Courses → Type 0
    SameAll no_courses no_courses = Unit {0}
    SameAll (course c cs) (course d ds) = Same c d × SameAll cs ds
    SameAll _ _ = ⊥

  abbrev pub Steady : (State → Course) → Type 0
  Steady f = (s t : State) → Agree V s t → Same (f s) (f t)

  abbrev pub SteadyEnd : (State → Outcome State) → Type 0
  SteadyEnd f = (s t : State) → Agree V s t → SameEnd (f s) (f t)

  pub after_same : {X : Type 0} (o p : Outcome X) (f g : X → Course) → o ≡ p → ((x : X) → Same (f x) (g x)) → Same (after o f) (after p g)
  after_same {X = X} o p f g e h = subst (λ z. Same (after o f) (after z g)) e (by o)
    where
      by : (o : Outcome X) → Same (after o f) (after o g)
      by (Ok x) = h x
      by (Err k) = refl

  after_end : (o p : Outcome State) (f : State → Course) → SameEnd o p → Steady f → Same (after o f) (after p f)
  after_end (Ok s) (Ok t) f a h = h s t a
  after_end (Err j) (Err k) f a h = a
  after_end (Ok s) (Err k) f a h = absurd a
  after_end (Err j) (Ok t) f a h = absurd a

  pub then_end : (o p : Outcome State) (f : State → Outcome State) → SameEnd o p → SteadyEnd f → SameEnd (o >>= f) (p >>= f)
  then_end (Ok s) (Ok t) f a h = h s t a
  then_end (Err j) (Err k) f a h = a
  then_end (Ok s) (Err k) f a h = absurd a
  then_end (Err j) (Ok t) f a h = absurd a

  -- a result that is the same on both sides, and then what keeps states together
  pub then_same : {X : Type 0} (o p : Outcome X) (f g : X → Outcome State) → o ≡ p → ((x : X) → o ≡ Ok x → SameEnd (f x) (g x)) → SameEnd (o >>= f) (p >>= g)
  then_same {X = X} o p f g e h = subst (λ z. SameEnd (o >>= f) (z >>= g)) e (by o refl)
    where
      by : (q : Outcome X) → o ≡ q → SameEnd (q >>= f) (q >>= g)
      by (Ok x) r = h x r
      by (Err k) r = refl

  each_same : (vs : Values) (f g : Value → Course) → ((v : Value) → Same (f v) (g v)) → SameAll (at_each vs f) (at_each vs g)
  each_same no_values f g h = tt
  each_same (and v vs) f g h = (h v, each_same vs f g h)

  cond_steady : (b : Bool) (f g : State → Course) → Steady f → Steady g → Steady (cond b f g)
  cond_steady true f g h k = h
  cond_steady false f g h k = k

  -- ---- scopes that look at these variables alone

  pub record Narrow (sc : Scope) : Type 0 where
    pub env : (s t : State) → Agree V s t → sc.env s ≡ sc.env t
    pub part : (x : Word) (at : Place) (s t : State) → Agree V s t → sc.part x at s ≡ sc.part x at t
    pub inside : (x : Word) (at : Place) (s : State) (p : Part) → sc.part x at s ≡ Ok p → In p.variable

  pub bound_narrow : (x : Word) (v : Value) (sc : Scope) → Narrow sc → Narrow (bound x v sc)
  bound_narrow x v sc n = record { env = λ s t a i. bind x v (n.env s t a i); part = n.part; inside = n.inside }

  -- ---- left sides

  reach_node : (c : Check) (m : Form) (at : Place) (ts : Trees) (sc : Scope) → Narrow sc → (s t : State) → Agree V s t → reach_path c at ts sc s ≡ reach_path c at ts sc t → reach c (node m at ts) sc s ≡ reach c (node m at ts) sc t
  reach_node c (name x) at ts sc n s t a p = n.part x at s t a
  reach_node c (strict apply) at ts sc n s t a p = p
  reach_node c (strict (select f)) at ts sc n s t a p = λ i. (p i) >>= (λ r. Ok (deeper (text f ∷ []) r))
  reach_node c m at ts sc n s t a p = refl

  mutual
    reach_same : (c : Check) (l : Tree) (sc : Scope) → Narrow sc → (s t : State) → Agree V s t → reach c l sc s ≡ reach c l sc t
    reach_same c (node m at ts) sc n s t a = reach_node c m at ts sc n s t a (path_same c at ts sc n s t a)

    path_same : (c : Check) (at : Place) (ts : Trees) (sc : Scope) → Narrow sc → (s t : State) → Agree V s t → reach_path c at ts sc s ≡ reach_path c at ts sc t
    path_same c at no_trees sc n s t a = refl
    path_same c at (tree f us) sc n s t a = λ i. (reach_same c f sc n s t a i) >>= (λ p. (part_values (evals c us) (n.env s t a i)) >>= (λ ks. Ok (deeper ks p)))

  in_deeper : (ks : List Value) (p q : Part) → In p.variable → ◌≡◌ {A = Outcome Part} (Ok (deeper ks p)) (Ok q) → In q.variable
  in_deeper ks p q k e = subst In (ap (of_ok p.variable) e) k
    where
      of_ok : Word → Outcome Part → Word
      of_ok x (Ok r) = r.variable
      of_ok x (Err j) = x

  node_in_vars : (c : Check) (m : Form) (at : Place) (ts : Trees) (sc : Scope) → Narrow sc → (s : State) (p : Part) → reach c (node m at ts) sc s ≡ Ok p → ((q : Part) → reach_path c at ts sc s ≡ Ok q → In q.variable) → In p.variable
  node_in_vars c (name x) at ts sc n s p e h = n.inside x at s p e
  node_in_vars c (strict apply) at ts sc n s p e h = h p e
  node_in_vars c (strict (select f)) at ts sc n s p e h = by (reach_path c at ts sc s) h e
    where
      by : (o : Outcome Part) → ((q : Part) → o ≡ Ok q → In q.variable) → o >>= (λ r. Ok (deeper (text f ∷ []) r)) ≡ Ok p → In p.variable
      by (Ok r) h e = in_deeper (text f ∷ []) r p (h r refl) e
      by (Err k) h e = cc
  node_in_vars c m at ts sc n s p e h = cc

  mutual
    reach_in_vars : (c : Check) (l : Tree) (sc : Scope) → Narrow sc → (s : State) (p : Part) → reach c l sc s ≡ Ok p → In p.variable
    reach_in_vars c (node m at ts) sc n s p e = node_in_vars c m at ts sc n s p e (λ q. path_in_vars c at ts sc n s q)

    path_in_vars : (c : Check) (at : Place) (ts : Trees) (sc : Scope) → Narrow sc → (s : State) (p : Part) → reach_path c at ts sc s ≡ Ok p → In p.variable
    path_in_vars c at no_trees sc n s p e = cc
    path_in_vars c at (tree f us) sc n s p e = by (reach c f sc s) (λ q. reach_in_vars c f sc n s q) (part_values (evals c us) (sc.env s)) e
      where
        by : (o : Outcome Part) → ((q : Part) → o ≡ Ok q → In q.variable) → (w : Outcome (List Value)) → o >>= (λ q. w >>= (λ ks. Ok (deeper ks q))) ≡ Ok p → In p.variable
        by (Ok q) h (Ok ks) e = in_deeper ks q p (h q refl) e
        by (Ok q) h (Err k) e = cc
        by (Err k) h w e = cc

  pub through_narrow : (c : Check) (g : Graft) (sc : Scope) → Narrow sc → Narrow (through c g sc)
  through_narrow c g sc n = record {
    env = λ s t a i. through_env c g (n.env s t a i);
    part = λ x at s t a. same (g x at) x at s t a;
    inside = λ x at s p e. within (g x at) x at s p e;
  }
    where
      same : (o : Option Tree) (x : Word) (at : Place) (s t : State) → Agree V s t → reach_in c o x at sc s ≡ reach_in c o x at sc t
      same (Some l) x at s t a = reach_same c l sc n s t a
      same None x at s t a = n.part x at s t a

      within : (o : Option Tree) (x : Word) (at : Place) (s : State) (p : Part) → reach_in c o x at sc s ≡ Ok p → In p.variable
      within (Some l) x at s p e = reach_in_vars c l sc n s p e
      within None x at s p e = n.inside x at s p e

  -- ---- assignments

  abbrev pub AllIn : List Setting → Type 0
  AllIn [] = Unit {0}
  AllIn (m ∷ ms) = In m.part.variable × AllIn ms

  pub one_set : (c : Check) (m : Setting) → In m.part.variable → SteadyEnd (set_one c m)
  one_set c m k s t a = then_same _ _ _ _ (ap (changed_at m.place m.part.path m.value) (value_at s t a m.part.variable k)) (λ w e. then_same (c m.place w) (c m.place w) _ _ refl (λ u f. put_agree m.part.variable u s t a))

  pub all_set : (c : Check) (ms : List Setting) → AllIn ms → SteadyEnd (set_all c ms)
  all_set c [] k s t a = a
  all_set c (m ∷ ms) k s t a = then_end (set_one c m s) (set_one c m t) (set_all c ms) (one_set c m k.0 s t a) (all_set c ms k.1)

  settings_same : (c : Check) (ms : Assignments) (sc : Scope) → Narrow sc → (s t : State) → Agree V s t → settings c ms sc s ≡ settings c ms sc t
  settings_same c no_assignments sc n s t a = refl
  settings_same c (assignment l e ms) sc n s t a =
      λ i. (reach_same c l sc n s t a i) >>= (λ p. (eval c e (n.env s t a i)).value >>= (λ v. (settings_same c ms sc n s t a i) >>= (λ rest. Ok (record { place = root_place l; part = p; value = v } ∷ rest))))

  settings_in : (c : Check) (ms : Assignments) (sc : Scope) → Narrow sc → (s : State) (all : List Setting) → settings c ms sc s ≡ Ok all → AllIn all
  settings_in c no_assignments sc n s all e = subst AllIn (got all e) tt
    where
      got : (all : List Setting) → ◌≡◌ {A = Outcome (List Setting)} (Ok []) (Ok all) → [] ≡ all
      got all e = cc
  settings_in c (assignment l e ms) sc n s all q =
      by (reach c l sc s) (λ p. reach_in_vars c l sc n s p) (value_of c e sc s) (settings c ms sc s) (λ rest. settings_in c ms sc n s rest) q
    where
      got : (x y : List Setting) → ◌≡◌ {A = Outcome (List Setting)} (Ok x) (Ok y) → x ≡ y
      got x y e = cc

      by : (o : Outcome Part) → ((p : Part) → o ≡ Ok p → In p.variable) → (w : Outcome Value) (r : Outcome (List Setting)) → ((rest : List Setting) → r ≡ Ok rest → AllIn rest) → o >>= (λ p. w >>= (λ v. r >>= (λ rest. Ok (record { place = root_place l; part = p; value = v } ∷ rest)))) ≡ Ok all → AllIn all
      by (Ok p) h (Ok v) (Ok rest) k q = subst AllIn (got (record { place = root_place l; part = p; value = v } ∷ rest) all q) (h p refl, k rest refl)
      by (Ok p) h (Ok v) (Err j) k q = cc
      by (Ok p) h (Err j) r k q = cc
      by (Err j) h w r k q = cc

  moved_steady : (c : Check) (ms : Assignments) (sc : Scope) → Narrow sc → SteadyEnd (after_assignments c ms sc)
  moved_steady c ms sc n s t a = then_same (settings c ms sc s) (settings c ms sc t) (λ all. set_all c all s) (λ all. set_all c all t) (settings_same c ms sc n s t a) (λ all e. all_set c all (settings_in c ms sc n s all e) s t a)

  -- ---- statements

  -- of the rules of a step; `return` is looked at only where R is known
  pub record Even (R : Type 0) (M : Rules) : Type 0 where
    pub goto : (l : Word) → Steady (M.goto l)
    pub call : (at : Place) (p : Word) (ats : List Place) (vs : List Value) (l : Word) (j : Partner) → (is_return j ≡ true → R) → Steady (M.call at p ats vs l j)
    pub return : R → (at : Place) → Steady (M.return at)
    pub macros : (here : Word) (at : Place) (m : Word) (ts : Trees) (sc : Scope) (K : Follow) → Narrow sc → Steady K.goes → Steady (M.macros here at m ts sc K)

  binds_steady : (c : Check) (at : Place) (bs : Binds) (body : Scope → State → Course) → ((sc : Scope) → Narrow sc → Steady (body sc)) → (sc : Scope) → Narrow sc → Steady (run_binds c at bs body sc)
  binds_steady c at no_binds body h sc n s t a = h sc n s t a
  binds_steady c at (one_of x e bs) body h sc n s t a =
      after_same (members c e sc s) (members c e sc t) _ _ (λ i. ((eval c e (n.env s t a i)).value >>= (members_at (Rattle.pcal_tree.specs.Scope.place_of e sc)))) (λ vs. (refl, each_same vs _ _ (λ v. binds_steady c at bs body h (bound x.word v sc) (bound_narrow x.word v sc n) s t a)))
  binds_steady c at (is x e bs) body h sc n s t a =
      after_same (value_of c e sc s) (value_of c e sc t) _ _ (λ i. (eval c e (n.env s t a i)).value) (λ v. binds_steady c at bs body h (bound x.word v sc) (bound_narrow x.word v sc n) s t a)

  test_same : (c : Check) (e : Tree) (sc : Scope) → Narrow sc → (s t : State) → Agree V s t → test c e sc s ≡ test c e sc t
  test_same c e sc n s t a i = (eval c e (n.env s t a i)).value >>= (truth_at (Rattle.pcal_tree.specs.Scope.place_of e sc))

  module _ (R : Type 0) where
    partner_in : (at : Span) (st : Statement) (rest : Statements) → is_return (partner_of (then at st rest)) ≡ true → has_return (then at st rest) ≡ true
    partner_in at return rest h = refl
    partner_in at (goto l) rest h = cc
    partner_in at st rest h = cc

    partner_returns : (ss : Statements) → is_return (partner_of ss) ≡ true → has_return ss ≡ true
    partner_returns done h = cc
    partner_returns (then at st rest) h = partner_in at st rest h
    partner_returns (mark l m rest) h = cc

    mutual
      one_steady : (M : Rules) → Even R M → (here : Word) (at : Place) (st : Statement) → (has_return_in st ≡ true → R) → (sc : Scope) → Narrow sc → (K : Follow) → (is_return K.partner ≡ true → R) → Steady K.goes → Steady (run_one M here at st sc K)
      one_steady M E here at (assign ms) r sc n K j k s t a = after_end (after_assignments M.check ms sc s) (after_assignments M.check ms sc t) K.goes (moved_steady M.check ms sc n s t a) k
      one_steady M E here at (await e) r sc n K j k s t a = after_same (test M.check e sc s) (test M.check e sc t) _ _ (test_same M.check e sc n s t a) (λ b. cond_steady b K.goes (λ u. held at) k (λ u w q. (refl, tt)) s t a)
      one_steady M E here at (print e) r sc n K j k s t a = after_same (value_of M.check e sc s) (value_of M.check e sc t) _ _ (λ i. (eval M.check e (n.env s t a i)).value) (λ v. k s t a)
      one_steady M E here at (assert e) r sc n K j k s t a = after_same (test M.check e sc s) (test M.check e sc t) _ _ (test_same M.check e sc n s t a) (λ b. cond_steady b K.goes (λ u. stops (fault AssertFailed at)) k (λ u w q. refl) s t a)
      one_steady M E here at skip r sc n K j k s t a = k s t a
      one_steady M E here at (branch e x y) r sc n K j k s t a =
          after_same (test M.check e sc s) (test M.check e sc t) _ _ (test_same M.check e sc n s t a) (λ b. cond_steady b (run M unlabelled x sc K) (run M unlabelled y sc K)
          (list_steady M E unlabelled x (λ h. r (or_left (has_return x) (has_return y) h)) sc n K k) (list_steady M E unlabelled y (λ h. r (or_right (has_return x) (has_return y) h)) sc n K k) s t a)
      one_steady M E here at (either bs) r sc n K j k s t a = (refl, branches_steady M E bs r sc n K k s t a)
      one_steady M E here at (with bs b) r sc n K j k s t a =
          binds_steady M.check at bs (λ inner. run M unlabelled b inner K) (λ inner m. list_steady M E unlabelled b r inner m K k) sc n s t a
      one_steady M E here at (while e b) r sc n K j k s t a =
          after_same (test M.check e sc s) (test M.check e sc t) _ _ (test_same M.check e sc n s t a) (λ yes. cond_steady yes (run M unlabelled b sc (record { label = here; partner = no_partner; goes = M.goto here })) K.goes
          (list_steady M E unlabelled b r sc n (record { label = here; partner = no_partner; goes = M.goto here }) (E.goto here)) k s t a)
      one_steady M E here at (goto l) r sc n K j k s t a = E.goto l s t a
      one_steady M E here at (macro m ts) r sc n K j k s t a = E.macros here at m ts sc K n k s t a
      one_steady M E here at (call p ts) r sc n K j k s t a =
          after_same (part_values (evals M.check ts) (sc.env s)) (part_values (evals M.check ts) (sc.env t)) _ _ (λ i. part_values (evals M.check ts) (n.env s t a i)) (λ vs. E.call at p.word (places_of ts sc) vs K.label K.partner j s t a)
      one_steady M E here at return r sc n K j k s t a = E.return (r refl) at s t a

      pub list_steady : (M : Rules) → Even R M → (here : Word) (ss : Statements) → (has_return ss ≡ true → R) → (sc : Scope) → Narrow sc → (K : Follow) → Steady K.goes → Steady (run M here ss sc K)
      list_steady M E here done r sc n K k s t a = k s t a
      list_steady M E here (then at st rest) r sc n K k s t a =
          one_steady M E here at.first st (λ h. r (or_left (has_return_in st) (has_return rest) h)) sc n (record { label = label_of rest K.label; partner = partner_of rest; goes = run M unlabelled rest sc K })
          (λ h. r (or_right (has_return_in st) (has_return rest) (partner_returns rest h)))
          (list_steady M E unlabelled rest (λ h. r (or_right (has_return_in st) (has_return rest) h)) sc n K k) s t a
      list_steady M E here (mark l m rest) r sc n K k s t a = E.goto l.word s t a

      branches_steady : (M : Rules) → Even R M → (bs : Branches) → (has_return_of bs ≡ true → R) → (sc : Scope) → Narrow sc → (K : Follow) → Steady K.goes → (s t : State) → Agree V s t → SameAll (run_branches M bs sc K s) (run_branches M bs sc K t)
      branches_steady M E no_branches r sc n K k s t a = tt
      branches_steady M E (or b bs) r sc n K k s t a =
          (list_steady M E unlabelled b (λ h. r (or_left (has_return b) (has_return_of bs) h)) sc n K k s t a, branches_steady M E bs (λ h. r (or_right (has_return b) (has_return_of bs) h)) sc n K k s t a)

    abbrev Still : Calling → Type 0
    Still f = (here : Word) (at : Place) (m : Word) (ts : Trees) (sc : Scope) (K : Follow) → Narrow sc → Steady K.goes → Steady (f here at m ts sc K)

    called_steady : (M : Rules) → Even R M → (ms : List Macro) → ((d : Macro) → OneOf d ms → has_return d.body ≡ true → R) → Still (called M ms)
    called_steady M E [] r here at m ts sc K n k s t a = (refl, tt)
    called_steady M E (d ∷ older) r here at m ts sc K n k s t a =
        cond_steady (bytes_eq d.name.word m) (run (with_calls M (called M older)) here d.body (through M.check (arguments d.params ts) sc) K) (called M older here at m ts sc K)
        (list_steady (with_calls M (called M older)) (record { goto = E.goto; call = E.call; return = E.return; macros = called_steady M E older (λ c h. r c (inr h)) }) here d.body (r d (inl refl)) (through M.check (arguments d.params ts) sc) (through_narrow M.check (arguments d.params ts) sc n) K k)
        (called_steady M E older (λ c h. r c (inr h)) here at m ts sc K n k) s t a

    pub macros_even : (M : Rules) → Even R M → (ms : List Macro) → ((d : Macro) → OneOf d ms → has_return d.body ≡ true → R) → Even R (with_macros M ms)
    macros_even M E ms r = record { goto = E.goto; call = E.call; return = E.return; macros = called_steady M E ms r }
