-- The assignments written for a call that is one statement with a return have the ends of it, and trouble where it has trouble.
use Rattle.std.proofs.Common.{◌≡◌, List, [], ◌∷◌, ◌++◌, false, bytes_eq, ◌⊎◌, refl, sym, ◌∙◌, ap, subst, inl, inr, Ok, Err}
use Rattle.tla_token.specs.declared.place.Place.{Place}
use Rattle.tla_tree.specs.Tree.{Word, Each}
use Rattle.tla_value.specs.Value.{Value, Outcome, ◌>>=◌}
use Rattle.tla_value.specs.Stops.{plain}
use Rattle.tla_value.proofs.Outcomes.{then_ok, then_then}
use Rattle.tla_value.proofs.Facts.{each_weaker}
use Rattle.pcal_tree.specs.Algorithm.{Declaration, Routine, locals}
use Rattle.pcal_tree.specs.Scope.{State, put}
use Rattle.pcal_tree.specs.Assign.{Setting, set_one, set_all}
use Rattle.pcal_tree.specs.Program.{Program, Actor, index, local_index, read_at, written}
use Rattle.pcal_tree.specs.Variables.{written_all, pc, stack}
use Rattle.pcal_tree.specs.Processes.{OneOf}
use Rattle.pcal_tree.specs.Calls.{setting, initial_value, initial_place, all_read, argument_settings, variables_started, label_value, first_label, part_settings}
use Rattle.pcal_tree.proofs.SameVariables.{of_each}
use Rattle.action_builder.specs.laws.Jumps.{Unlike, AllUnlike, RestOnEarlier, Unread}
use Rattle.action_builder.proofs.Call.{each_parts}
use Rattle.action_builder.proofs.SetAgain.{Like, like_ends, set_twice, Commute, set_swap, commute_read, commute_then, then_do, Others, one_all, AllOthers, Absorbs, absorbs_again, absorbs_past, absorbs_read, set_put}
use Rattle.action_builder.proofs.Equal.{other-name}

-- without limits
abbrev pub loose : Program → Program
loose P = record { check = plain; constants = P.constants; outside = P.outside; algorithm = P.algorithm; naming = P.naming }

pub then_known : {X Y : Type 0} (o : Outcome X) (f g : X → Outcome Y) → ((x : X) → o ≡ Ok x → Like (f x) (g x)) → Like (o >>= f) (o >>= g)
then_known (Ok x) f g h = h x refl
then_known (Err k) f g h = inr (tt, tt)

-- ---- names of settings

pub arguments_others : (x : Word) (path : List Value) (xs : List Word) (ats : List Place) (vs : List Value) → Unlike x xs → Others x (argument_settings path xs ats vs)
arguments_others x path [] ats vs h = tt
arguments_others x path (y ∷ xs) [] vs h = tt
arguments_others x path (y ∷ xs) (at ∷ ats) [] h = tt
arguments_others x path (y ∷ xs) (at ∷ ats) (v ∷ vs) h = (h.0, arguments_others x path xs ats vs h.1)

pub parts_others : (x : Word) (at : Place) (path : List Value) (xs : List Word) (vs : List Value) → Unlike x xs → Others x (part_settings at path xs vs)
parts_others x at path [] vs h = tt
parts_others x at path (y ∷ xs) [] h = tt
parts_others x at path (y ∷ xs) (v ∷ vs) h = (h.0, parts_others x at path xs vs h.1)

pub parts_all_others : (at : Place) (path : List Value) (xs : List Word) (vs : List Value) (ns : List Setting) → Each (λ x. Others x ns) xs → AllOthers (part_settings at path xs vs) ns
parts_all_others at path [] vs ns h = tt
parts_all_others at path (x ∷ xs) [] ns h = tt
parts_all_others at path (x ∷ xs) (v ∷ vs) ns h = (h.0, parts_all_others at path xs vs ns h.1)

pub one_part : (at : Place) (path : List Value) (xs : List Word) (vs : List Value) (m : Setting) → OneOf m (part_settings at path xs vs) → (x : Word) × (w : Value) × OneOf x xs × (m ≡ setting at x path w)
one_part at path [] vs m h = absurd h
one_part at path (x ∷ xs) [] m h = absurd h
one_part at path (x ∷ xs) (v ∷ vs) m (inl e) = (x, v, inl refl, e)
one_part at path (x ∷ xs) (v ∷ vs) m (inr h) = let q = one_part at path xs vs m h in (q.0, q.1, inr q.2, q.3)

pub all_read_else : (at : Place) (path : List Value) (xs : List Word) (s t : State) → Each (λ x. t x ≡ s x) xs → all_read at path xs t ≡ all_read at path xs s
all_read_else at path [] s t h = refl
all_read_else at path (x ∷ xs) s t h = λ i. read_at at path (h.0 i) >>= (λ v. all_read_else at path xs s t h.1 i >>= (λ vs. Ok (v ∷ vs)))

-- an argument for each name
abbrev pub Long : List Word → List Place → List Value → Type 0
Long [] ats vs = Unit {0}
Long (x ∷ xs) (at ∷ ats) (v ∷ vs) = Long xs ats vs
Long (x ∷ xs) _ _ = ⊥

module _ (P0 : Program) (v : Actor) (p : Routine) (at : Place) where
  abbrev P : Program
  P = loose P0

  abbrev idx : List Value
  idx = index v.self

  abbrev path : List Value
  path = local_index v p

  abbrev to_first : State → Outcome State
  to_first = set_one plain (setting at pc idx (label_value P p (first_label p)))

  -- the variables get their initial values, and pc becomes the first label
  abbrev pub tail : List Declaration → State → Outcome State
  tail ds s = variables_started P v p at ds s >>= to_first

  abbrev starts : Declaration → Value → State → Outcome State
  starts d w = set_one plain (setting (initial_place at d.start) (written P p d.name.word) path w)

  abbrev first_started : Declaration → List Declaration → State → Outcome State
  first_started d ds s = initial_value P v p at d.start s >>= (λ w. then_do (starts d w) (tail ds) s)

  tail_step : (d : Declaration) (ds : List Declaration) (s : State) → tail (d ∷ ds) s ≡ first_started d ds s
  tail_step d ds s =
      then_then (initial_value P v p at d.start s) (λ w. starts d w s >>= (λ u. variables_started P v p at ds u)) to_first
      ∙ (λ i. initial_value P v p at d.start s >>= (λ w. then_then (starts d w s) (λ u. variables_started P v p at ds u) to_first i))

  step_absorbs : (f : State → Outcome State) (d : Declaration) (ds : List Declaration) → Absorbs f (first_started d ds) → Absorbs f (tail (d ∷ ds))
  step_absorbs f d ds h s = like_ends _ (f s >>= first_started d ds) _ _ (λ i. f s >>= (λ t. tail_step d ds t i)) (h s) (sym (tail_step d ds s))

  -- what is set makes no difference to the initial value
  unread : (b : Place) (x : Word) (to : List Value) (z : Value) (d : Declaration) → ((w : Value) (s : State) → initial_value P v p at d.start (put x w s) ≡ initial_value P v p at d.start s) → (s t : State) → set_one plain (setting b x to z) s ≡ Ok t → Like (initial_value P v p at d.start t) (initial_value P v p at d.start s)
  unread b x to z d h s t e = let q = set_put (setting b x to z) s t e in inl (ap (initial_value P v p at d.start) q.2 ∙ h q.0 s)

  pc_in_tail : (b : Place) (z : Value) (ds : List Declaration) → Unlike pc (written_all P p ds) → RestOnEarlier P v p at ds → Absorbs (set_one plain (setting b pc idx z)) (tail ds)
  pc_in_tail b z [] n r s = set_twice b at pc idx z (label_value P p (first_label p)) s
  pc_in_tail b z (d ∷ ds) n r s =
      step_absorbs (set_one plain (setting b pc idx z)) d ds
      (absorbs_read (set_one plain (setting b pc idx z)) (initial_value P v p at d.start) (λ w. then_do (starts d w) (tail ds)) (unread b pc idx z d r.0.0)
      (λ w. absorbs_past (set_one plain (setting b pc idx z)) (starts d w) (tail ds) (set_swap (setting b pc idx z) (setting (initial_place at d.start) (written P p d.name.word) path w) n.0) (pc_in_tail b z ds n.1 r.1))) s

  local_in_tail : (b : Place) (x : Word) (z : Value) (ds : List Declaration) → OneOf x (written_all P p ds) → AllUnlike (written_all P p ds) → RestOnEarlier P v p at ds → Absorbs (set_one plain (setting b x path z)) (tail ds)
  local_in_tail b x z [] k n r = absurd k
  local_in_tail b x z (d ∷ ds) k n r =
      step_absorbs (set_one plain (setting b x path z)) d ds
      (absorbs_read (set_one plain (setting b x path z)) (initial_value P v p at d.start) (λ w. then_do (starts d w) (tail ds))
      (unread b x path z d (of_each (λ y. (w : Value) (s : State) → initial_value P v p at d.start (put y w s) ≡ initial_value P v p at d.start s) (written_all P p (d ∷ ds)) r.0.1 x k))
      (λ w. by w k (λ j. local_in_tail b x z ds j n.1 r.1)))
    where
      by : (w : Value) → OneOf x (written_all P p (d ∷ ds)) → (OneOf x (written_all P p ds) → Absorbs (set_one plain (setting b x path z)) (tail ds)) → Absorbs (set_one plain (setting b x path z)) (then_do (starts d w) (tail ds))
      by w (inl e) ih =
          subst (λ y. Absorbs (set_one plain (setting b y path z)) (then_do (starts d w) (tail ds))) (sym e)
          (absorbs_again b (initial_place at d.start) (written P p d.name.word) path z w (tail ds))
      by w (inr j) ih =
          absorbs_past (set_one plain (setting b x path z)) (starts d w) (tail ds)
          (set_swap (setting b x path z) (setting (initial_place at d.start) (written P p d.name.word) path w) (other-name (written P p d.name.word) x (of_each (λ y. bytes_eq (written P p d.name.word) y ≡ false) (written_all P p ds) n.0 x j))) (ih j)

  -- a change of another variable, which no initial value rests on, may come before the variables or after them
  pub other_and_started : (b : Place) (x : Word) (to : List Value) (z : Value) (ds : List Declaration) → Unlike x (written_all P p ds) → (xs : List Word) → OneOf x xs → Unread P v p at xs ds → Commute (set_one plain (setting b x to z)) (variables_started P v p at ds)
  other_and_started b x to z [] n xs k r s = inl (then_ok (set_one plain (setting b x to z) s))
  other_and_started b x to z (d ∷ ds) n xs k r s =
      commute_read (set_one plain (setting b x to z)) (initial_value P v p at d.start) (λ w. then_do (starts d w) (variables_started P v p at ds))
      (unread b x to z d (of_each (λ y. (w : Value) (s : State) → initial_value P v p at d.start (put y w s) ≡ initial_value P v p at d.start s) xs r.0 x k))
      (λ w. commute_then (set_one plain (setting b x to z)) (starts d w) (variables_started P v p at ds)
      (set_swap (setting b x to z) (setting (initial_place at d.start) (written P p d.name.word) path w) n.0) (other_and_started b x to z ds n.1 xs k r.1)) s

  -- ---- arguments

  list_step : (m : Setting) (ms : List Setting) (f go : State → Outcome State) → Absorbs f (then_do (set_one plain m) (then_do (set_all plain ms) go)) → Absorbs f (then_do (set_all plain (m ∷ ms)) go)
  list_step m ms f go h s =
      like_ends _ (f s >>= then_do (set_one plain m) (then_do (set_all plain ms) go)) _ _
      (λ i. f s >>= (λ t. then_then (set_one plain m t) (set_all plain ms) go i)) (h s) (sym (then_then (set_one plain m s) (set_all plain ms) go))

  in_arguments : (b : Place) (x : Word) (z : Value) (go : State → Outcome State) (xs : List Word) (ats : List Place) (vs : List Value) → Long xs ats vs → OneOf x xs → AllUnlike xs → Absorbs (set_one plain (setting b x path z)) (then_do (set_all plain (argument_settings path xs ats vs)) go)
  in_arguments b x z go [] ats vs l k n = absurd k
  in_arguments b x z go (y ∷ xs) [] vs l k n = absurd l
  in_arguments b x z go (y ∷ xs) (a ∷ ats) [] l k n = absurd l
  in_arguments b x z go (y ∷ xs) (a ∷ ats) (w ∷ vs) l k n =
      list_step (setting a y path w) (argument_settings path xs ats vs) (set_one plain (setting b x path z)) go (by k (λ j. in_arguments b x z go xs ats vs l j n.1))
    where
      by : OneOf x (y ∷ xs) → (OneOf x xs → Absorbs (set_one plain (setting b x path z)) (then_do (set_all plain (argument_settings path xs ats vs)) go)) → Absorbs (set_one plain (setting b x path z)) (then_do (set_one plain (setting a y path w)) (then_do (set_all plain (argument_settings path xs ats vs)) go))
      by (inl e) ih =
          subst (λ y'. Absorbs (set_one plain (setting b y' path z)) (then_do (set_one plain (setting a y path w)) (then_do (set_all plain (argument_settings path xs ats vs)) go))) (sym e)
          (absorbs_again b a y path z w (then_do (set_all plain (argument_settings path xs ats vs)) go))
      by (inr j) ih =
          absorbs_past (set_one plain (setting b x path z)) (set_one plain (setting a y path w)) (then_do (set_all plain (argument_settings path xs ats vs)) go)
          (set_swap (setting b x path z) (setting a y path w) (other-name y x (of_each (λ c. bytes_eq y c ≡ false) xs n.0 x j))) (ih j)

  -- ---- the call after the return

  abbrev of_p : List Word
  of_p = written_all P p (locals p)

  abbrev params : List Word
  params = written_all P p p.params

  -- the new stack and the arguments, and then the variables
  abbrev pub entering : Value → List Place → List Value → State → Outcome State
  entering new ats vs = then_do (set_all plain (setting at stack idx new ∷ argument_settings path params ats vs)) (tail p.variables)

  module _ (pc_p : Unlike pc of_p) (stack_p : Unlike stack of_p) (once : AllUnlike of_p) (rests : RestOnEarlier P v p at p.variables) where
    pc_params : Unlike pc params
    pc_params = (each_parts (λ y. bytes_eq pc y ≡ false) P p p.params p.variables pc_p).0

    pc_variables : Unlike pc (written_all P p p.variables)
    pc_variables = (each_parts (λ y. bytes_eq pc y ≡ false) P p p.params p.variables pc_p).1

    unlike_parts : (ds es : List Declaration) → AllUnlike (written_all P p (ds ++ es)) → AllUnlike (written_all P p ds) × AllUnlike (written_all P p es) × Each (λ x. Unlike x (written_all P p es)) (written_all P p ds)
    unlike_parts [] es h = (tt, h, tt)
    unlike_parts (d ∷ ds) es h =
        let r = unlike_parts ds es h.1 in
        let q = each_parts (λ y. bytes_eq (written P p d.name.word) y ≡ false) P p ds es h.0 in
        ((q.0, r.0), r.1, (q.1, r.2))

    pub pc_in_entering : (b : Place) (z new : Value) (ats : List Place) (vs : List Value) → Absorbs (set_one plain (setting b pc idx z)) (entering new ats vs)
    pc_in_entering b z new ats vs =
        absorbs_past (set_one plain (setting b pc idx z)) (set_all plain (setting at stack idx new ∷ argument_settings path params ats vs)) (tail p.variables)
        (one_all (setting b pc idx z) (setting at stack idx new ∷ argument_settings path params ats vs) (refl, arguments_others pc path params ats vs pc_params))
        (pc_in_tail b z p.variables pc_variables rests)

    pub stack_in_entering : (b : Place) (z new : Value) (ats : List Place) (vs : List Value) → Absorbs (set_one plain (setting b stack idx z)) (entering new ats vs)
    stack_in_entering b z new ats vs =
        list_step (setting at stack idx new) (argument_settings path params ats vs) (set_one plain (setting b stack idx z)) (tail p.variables)
        (absorbs_again b at stack idx z new (then_do (set_all plain (argument_settings path params ats vs)) (tail p.variables)))

    either_list : (x : Word) (ds es : List Declaration) → OneOf x (written_all P p (ds ++ es)) → OneOf x (written_all P p ds) ⊎ OneOf x (written_all P p es)
    either_list x [] es h = inr h
    either_list x (d ∷ ds) es (inl e) = inl (inl e)
    either_list x (d ∷ ds) es (inr h) = by (either_list x ds es h)
      where
        by : OneOf x (written_all P p ds) ⊎ OneOf x (written_all P p es) → OneOf x (written_all P p (d ∷ ds)) ⊎ OneOf x (written_all P p es)
        by (inl k) = inl (inr k)
        by (inr k) = inr k

    pub own_in_entering : (b : Place) (x : Word) (z new : Value) (ats : List Place) (vs : List Value) → Long params ats vs → OneOf x of_p → Absorbs (set_one plain (setting b x path z)) (entering new ats vs)
    own_in_entering b x z new ats vs l k =
        list_step (setting at stack idx new) (argument_settings path params ats vs) (set_one plain (setting b x path z)) (tail p.variables)
        (absorbs_past (set_one plain (setting b x path z)) (set_one plain (setting at stack idx new)) (then_do (set_all plain (argument_settings path params ats vs)) (tail p.variables))
        (set_swap (setting b x path z) (setting at stack idx new) (other-name stack x (of_each (λ y. bytes_eq stack y ≡ false) of_p stack_p x k)))
        (by (either_list x p.params p.variables k)))
      where
        lists : AllUnlike params × AllUnlike (written_all P p p.variables) × Each (λ y. Unlike y (written_all P p p.variables)) params
        lists = unlike_parts p.params p.variables once

        by : OneOf x params ⊎ OneOf x (written_all P p p.variables) → Absorbs (set_one plain (setting b x path z)) (then_do (set_all plain (argument_settings path params ats vs)) (tail p.variables))
        by (inl j) = in_arguments b x z (tail p.variables) params ats vs l j lists.0
        by (inr j) =
            absorbs_past (set_one plain (setting b x path z)) (set_all plain (argument_settings path params ats vs)) (tail p.variables)
            (one_all (setting b x path z) (argument_settings path params ats vs) (arguments_others x path params ats vs (each_weaker (λ y. Unlike y (written_all P p p.variables)) (λ y. bytes_eq x y ≡ false) (λ y n. other-name y x (of_each (λ c. bytes_eq y c ≡ false) (written_all P p p.variables) n x j)) params lists.2)))
            (local_in_tail b x z p.variables j lists.1 rests)
