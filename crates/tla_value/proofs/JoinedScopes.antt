-- Two evaluations side by side: environments whose names and operators stand for one another, from constants and states to definitions.
use Rattle.std.proofs.Common.{◌≡◌, ℤ, pos, ◌+ℤ◌, ◌-ℤ◌, Bool, true, false, cond, bytes_eq, List, [], ◌∷◌, Option, Some, None, refl, subst, Ok, Err}
use Rattle.std.specs.Prelude.{codes}
use Rattle.tla_token.specs.declared.place.Place.{Place}
use Rattle.tla_tree.specs.Tree.{Word, Form, name, next, operator_call, Tree, node, Trees, no_trees, tree, Every, EveryOf, Each, binders}
use Rattle.tla_value.specs.declared.fault.FaultKind.TheVariants.{NotSet, NotFunction, EmptySequence, AssertFailed}
use Rattle.tla_value.specs.Value.{Value, int, Outcome, Trouble, Sense}
use Rattle.tla_value.specs.Order.{listed}
use Rattle.tla_value.specs.Stops.{Check, misshapen}
use Rattle.tla_value.specs.Meaning.{Env, just, called, eval}
use Rattle.tla_value.specs.Standard.{Standard, length_of, appended, first_of, rest_of, part_of, sequences, size_of, is_finite, printed, asserted, standard_of, headed, tailed, element, part_between, standard_value, standard_sense, standard_called, is_natural, is_int, standard_name}
use Rattle.tla_value.specs.Definitions.{Valuation, Definition, or_sense, base, in_states, at_use, trouble_at, with_arguments, body_sense, defined, with_definitions, scope_of}
use Rattle.tla_value.proofs.Relations.{Bound}
use Rattle.tla_value.proofs.Joined.{Kin, Same, Both, none, one, then_same, same_cond, order_same, ones, twos, threes, truths, ints, sets, sequences as as_sequences, applications, Checks}
use Rattle.tla_value.proofs.JoinedEval.{Senses, senses_of, unlisted, Dens, Read, Kept, eval_both}

-- the environments stand for one another, at places that do
pub record Envs (K : Kin) (e f : Env) : Type 0 where
  pub now : (x : Word) (p q : Place) → K.place p q → Senses K (e.now x p) (f.now x q)
  pub primed : (x : Word) (p q : Place) → K.place p q → Senses K (e.primed x p) (f.primed x q)
  pub defs : (x : Word) (p q : Place) → K.place p q → (vs : List Value) → Senses K (called p (e.defs x) vs) (called q (f.defs x) vs)

module _ (K : Kin) where
  pub just_both : (v : Value) → Senses K (just v) (just v)
  just_both v = senses_of K _ _ refl

  picked : (b : Bool) (s s' t t' : Sense) → Senses K s s' → Senses K t t' → Senses K (cond b s t) (cond b s' t')
  picked true s s' t t' h k = h
  picked false s s' t t' h k = k

  pub bound_both : (x : Word) → Bound (Envs K) x
  bound_both x e f v r = record {
    now = λ y p q at. picked (bytes_eq x y) _ _ _ _ (just_both v) (r.now y p q at);
    primed = r.primed;
    defs = r.defs;
  }

  all_bound : (xs : List Word) → Each (Bound (Envs K)) xs
  all_bound [] = tt
  all_bound (x ∷ xs) = (bound_both x, all_bound xs)

  reads_both : (m : Form) → Read K (Envs K) m
  reads_both (name x) = λ p q at e f r. r.now x p q at
  reads_both (next x) = λ p q at e f r. r.primed x p q at
  reads_both (operator_call g) = λ p q at e f r vs. r.defs g p q at vs
  reads_both m = tt

  pub form_in : (m : Form) (at : Place) → Kept K (Envs K) m at
  form_in m at = (all_bound (binders m), reads_both m)

  mutual
    pub tree_kept : (t : Tree) → Every (Kept K (Envs K)) t
    tree_kept (node m at ts) = (form_in m at, trees_kept ts)

    pub trees_kept : (ts : Trees) → EveryOf (Kept K (Envs K)) ts
    trees_kept no_trees = tt
    trees_kept (tree t ts) = (tree_kept t, trees_kept ts)

  headed_both : (p q : Place) → K.place p q → (vs : List Value) → Same K (headed p vs) (headed q vs)
  headed_both p q at [] = K.faults EmptySequence p q at
  headed_both p q at (v ∷ vs) = refl

  -- troubles of a body where two definitions are used
  abbrev pub UsesJoin : Bool → Bool → Type 0
  UsesJoin b b' = (p q : Place) → K.place p q → (k j : Trouble) → K.beside k j → K.beside (cond b (trouble_at p k) k) (cond b' (trouble_at q j) j)

  used_free : (b : Bool) (p : Place) (k : Trouble) → K.free k → K.free (cond b (trouble_at p k) k)
  used_free true p k h = K.free_moved p k h
  used_free false p k h = h

  pub same_use : (b : Bool) → UsesJoin b b
  same_use true p q at k j h = K.moved p q at k j h
  same_use false p q at k j h = h

  uses : (b b' : Bool) → UsesJoin b b' → (p q : Place) → K.place p q → (o o' : Outcome Value) → Same K o o' → Same K (at_use b p o) (at_use b' q o')
  uses b b' u p q at (Ok v) (Ok w) h = h
  uses b b' u p q at (Ok v) (Err j) h = absurd h
  uses b b' u p q at (Err k) (Ok w) h = used_free b p k h
  uses b b' u p q at (Err k) (Err j) h = u p q at k j h

  called_either : (b : Bool) (p q : Place) (o o' n n' : Option (Place → List Value → Sense)) (vs : List Value) → Senses K (called p o vs) (called q o' vs) → Senses K (called p n vs) (called q n' vs) → Senses K (called p (cond b o n) vs) (called q (cond b o' n') vs)
  called_either true p q o o' n n' vs h k = h
  called_either false p q o o' n n' vs h k = k

  -- environments, or none
  OptionEnvs : Option Env → Option Env → Type 0
  OptionEnvs (Some e) (Some f) = Envs K e f
  OptionEnvs None None = Unit {0}
  OptionEnvs _ _ = ⊥

  arguments_both : (xs : List Word) (vs : List Value) (e f : Env) → Envs K e f → OptionEnvs (with_arguments xs vs e) (with_arguments xs vs f)
  unfolding OptionEnvs
  arguments_both [] [] e f r = r
  arguments_both [] (v ∷ vs) e f r = tt
  arguments_both (x ∷ xs) [] e f r = tt
  arguments_both (x ∷ xs) (v ∷ vs) e f r = arguments_both xs vs _ _ (bound_both x e f v r)

  or_both : (o : Option Value) (s t : Sense) → Senses K s t → Senses K (or_sense o s) (or_sense o t)
  or_both (Some v) s t h = just_both v
  or_both None s t h = h

  pub states_both : (s t : Valuation) (e f : Env) → Envs K e f → Envs K (in_states s t e) (in_states s t f)
  states_both s t e f r = record {
    now = λ x p q at. or_both (s x) _ _ (r.now x p q at);
    primed = λ x p q at. or_both (t x) _ _ (r.primed x p q at);
    defs = r.defs;
  }

  names_both : (x : Word) (p q : Place) → K.place p q → Senses K (standard_name x p) (standard_name x q)
  names_both x p q at =
      picked (bytes_eq (codes "Nat") x) _ _ _ _ (unlisted K p q at is_natural)
      (picked (bytes_eq (codes "Int") x) _ _ _ _ (unlisted K p q at is_int) (senses_of K (misshapen p) (misshapen q) (K.faults NotFunction p q at)))

  module _ (c c' : Check) (l : Checks K c c') where
    pub eval_in : (t : Tree) → Dens K (Envs K) (eval c t) (eval c' t)
    eval_in t = eval_both K (Envs K) c c' l t (tree_kept t)

    -- ---- standard operators

    module _ (p q : Place) (at : K.place p q) where
      tailed_both : (vs : List Value) → Same K (tailed c p vs) (tailed c' q vs)
      tailed_both [] = K.faults EmptySequence p q at
      tailed_both (v ∷ vs) = l p q at _

      element_both : (s : Value) (m : ℤ) (i : Value) → Same K (element c p s m i) (element c' q s m i)
      element_both s m i =
          then_same K ◌≡◌ _ _ _ _ (ints K p q at i) (λ n. then_same K ◌≡◌ _ _ _ _ (l p q at (int (m -ℤ pos 1))) (λ _.
          then_same K ◌≡◌ _ _ _ _ (l p q at (int (n +ℤ (m -ℤ pos 1)))) (λ k. applications K p q at s k)))

      between_both : (s : Value) (m n : ℤ) → Same K (part_between c p s m n) (part_between c' q s m n)
      between_both s m n =
          then_same K ◌≡◌ _ _ _ _ (l p q at (int (n -ℤ m))) (λ _. then_same K ◌≡◌ _ _ _ _ (l p q at (int ((n -ℤ m) +ℤ pos 1))) (λ _.
          then_same K ◌≡◌ _ _ _ _ (l p q at _) (λ domain. then_same K ◌≡◌ _ _ _ _ (sets K p q at domain) (λ is.
          then_same K ◌≡◌ _ _ _ _ (order_same K (listed is) _ _ (element_both s m)) (λ vs. l p q at _)))))

      standard_both : (o : Standard) (vs : List Value) → Same K (standard_value c o p vs) (standard_value c' o q vs)
      standard_both length_of vs = then_same K ◌≡◌ _ _ _ _ (ones K p q at vs) (λ s. then_same K ◌≡◌ _ _ _ _ (as_sequences K p q at s) (λ es. l p q at _))
      standard_both appended vs = then_same K ◌≡◌ _ _ _ _ (twos K p q at vs) (λ (s, e). then_same K ◌≡◌ _ _ _ _ (as_sequences K p q at s) (λ es. l p q at _))
      standard_both first_of vs = then_same K ◌≡◌ _ _ _ _ (ones K p q at vs) (λ s. then_same K ◌≡◌ _ _ _ _ (as_sequences K p q at s) (headed_both p q at))
      standard_both rest_of vs = then_same K ◌≡◌ _ _ _ _ (ones K p q at vs) (λ s. then_same K ◌≡◌ _ _ _ _ (as_sequences K p q at s) tailed_both)
      standard_both part_of vs =
          then_same K ◌≡◌ _ _ _ _ (threes K p q at vs) (λ (s, a, b). then_same K ◌≡◌ _ _ _ _ (as_sequences K p q at s) (λ _.
          then_same K ◌≡◌ _ _ _ _ (ints K p q at a) (λ m. then_same K ◌≡◌ _ _ _ _ (ints K p q at b) (λ n. between_both s m n))))
      standard_both sequences vs = K.faults NotSet p q at
      standard_both size_of vs = then_same K ◌≡◌ _ _ _ _ (ones K p q at vs) (λ a. then_same K ◌≡◌ _ _ _ _ (sets K p q at a) (λ ss. l p q at _))
      standard_both is_finite vs = then_same K ◌≡◌ _ _ _ _ (ones K p q at vs) (λ a. then_same K ◌≡◌ _ _ _ _ (sets K p q at a) (λ ss. refl))
      standard_both printed vs = then_same K ◌≡◌ _ _ _ _ (ones K p q at vs) (λ v. refl)
      standard_both asserted vs =
          then_same K ◌≡◌ _ _ _ _ (twos K p q at vs) (λ (v, m). then_same K ◌≡◌ _ _ _ _ (truths K p q at v) (λ b. same_cond K b _ _ _ _ refl (K.faults AssertFailed p q at)))

      standards_both : (o : Standard) (vs : List Value) → Senses K (standard_sense c o p vs) (standard_sense c' o q vs)
      standards_both sequences vs = record {
        value = K.faults NotSet p q at;
        test = λ a b to v. then_same K ◌≡◌ _ _ _ _ (ones K p q at vs) (λ w. then_same K ◌≡◌ _ _ _ _ (sets K p q at w) (λ ws. refl));
      }
      standards_both o vs = senses_of K _ _ (standard_both o vs)

      called_both : (o : Option Standard) (vs : List Value) → Senses K (called p (standard_called c o) vs) (called q (standard_called c' o) vs)
      called_both None vs = senses_of K _ _ (K.faults NotFunction p q at)
      called_both (Some o) vs = standards_both o vs

    -- ---- scopes

    pub base_both : (k : Valuation) → Envs K (base c k) (base c' k)
    base_both k = record {
      now = λ x p q at. or_both (k x) _ _ (names_both x p q at);
      primed = λ x p q at. senses_of K _ _ (K.faults NotFunction p q at);
      defs = λ f p q at vs. called_both p q at (standard_of f) vs;
    }

    -- definitions whose bodies stand for one another
    pub record DefinitionsJoin (d d' : Definition) : Type 0 where
      pub title : d.title ≡ d'.title
      pub params : d.params ≡ d'.params
      pub body : Dens K (Envs K) (eval c d.body) (eval c' d'.body)
      pub use_as : UsesJoin d.outside d'.outside

    bodies : (d d' : Definition) → DefinitionsJoin d d' → (e f : Option Env) → OptionEnvs e f → (p q : Place) → K.place p q → Senses K (body_sense c d e p) (body_sense c' d' f q)
    unfolding OptionEnvs
    bodies d d' j (Some e) (Some f) r p q at = senses_of K _ _ (uses d.outside d'.outside j.use_as p q at _ _ (j.body e f r).value)
    bodies d d' j (Some e) None r p q at = absurd r
    bodies d d' j None (Some f) r p q at = absurd r
    bodies d d' j None None r p q at = senses_of K _ _ (K.faults NotFunction p q at)

    defined_both : (d d' : Definition) → DefinitionsJoin d d' → (ps : List Word) (e f : Env) → Envs K e f → Envs K (defined c d ps e) (defined c' d' ps f)
    unfolding OptionEnvs
    defined_both d d' j [] e f r = record {
      now = λ x p q at. subst (λ w. Senses K (cond (bytes_eq d.title x) (body_sense c d (Some e) p) (e.now x p)) (cond (bytes_eq w x) (body_sense c' d' (Some f) q) (f.now x q))) j.title
          (picked (bytes_eq d.title x) _ _ _ _ (bodies d d' j (Some e) (Some f) r p q at) (r.now x p q at));
      primed = r.primed;
      defs = r.defs;
    }
    defined_both d d' j (x ∷ xs) e f r = record {
      now = r.now;
      primed = r.primed;
      defs = λ g p q at vs. subst (λ w. Senses K (called p (cond (bytes_eq d.title g) (Some (λ a us. body_sense c d (with_arguments (x ∷ xs) us e) a)) (e.defs g)) vs) (called q (cond (bytes_eq w g) (Some (λ a us. body_sense c' d' (with_arguments (x ∷ xs) us f) a)) (f.defs g)) vs)) j.title
          (called_either (bytes_eq d.title g) p q _ _ _ _ vs (bodies d d' j _ _ (arguments_both (x ∷ xs) vs e f r) p q at) (r.defs g p q at vs));
    }

    pub definitions_both : (ds ds' : List Definition) → Both DefinitionsJoin ds ds' → (e f : Env) → Envs K e f → Envs K (with_definitions c ds e) (with_definitions c' ds' f)
    definitions_both _ _ none e f r = r
    definitions_both _ _ (one {x = d} {y = d'} {xs = ds} {ys = ds'} j js) e f r =
        definitions_both ds ds' js _ _ (subst (λ ps. Envs K (defined c d d.params e) (defined c' d' ps f)) j.params (defined_both d d' j d.params e f r))

    itself : (ds : List Definition) → Both DefinitionsJoin ds ds
    itself [] = none
    itself (d ∷ ds) = one (record { title = refl; params = refl; body = eval_in d.body; use_as = same_use d.outside }) (itself ds)

    pub scopes_both : (k : Valuation) (ds ds' : List Definition) → Both DefinitionsJoin ds ds' → (s t : Valuation) → Envs K (scope_of c k ds s t) (scope_of c' k ds' s t)
    scopes_both k ds ds' js s t = definitions_both ds ds' js _ _ (states_both s t _ _ (base_both k))

    pub scope_both : (k : Valuation) (ds : List Definition) (s t : Valuation) → Envs K (scope_of c k ds s t) (scope_of c' k ds s t)
    scope_both k ds s t = scopes_both k ds ds (itself ds) s t
