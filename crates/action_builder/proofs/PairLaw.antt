-- The assignments written for a call that is one statement with a return have the ends of it, and trouble where it has trouble.
use Rattle.std.proofs.Common.{◌≡◌, List, [], ◌∷◌, ◌++◌, Bool, true, false, cond, bytes_eq, nat_eq, refl, sym, ◌∙◌, ap, subst, inl, Ok, Err}
use Rattle.std.specs.Option.{ok_or}
use Rattle.tla_token.specs.declared.place.Place.{Place}
use Rattle.tla_tree.specs.Tree.{Word}
use Rattle.tla_value.specs.declared.fault.FaultKind.TheVariants.{NotSequence}
use Rattle.tla_value.specs.Value.{Value, fault, Outcome, ◌>>=◌, IsBad}
use Rattle.tla_value.specs.Order.{seq_from}
use Rattle.tla_value.specs.Stops.{plain, sequence_at}
use Rattle.tla_value.specs.Strict.{applied, strict_value}
use Rattle.tla_value.specs.laws.Places.{AgreeButPlaces}
use Rattle.tla_value.proofs.OrderFuns.{sequence_of_seq}
use Rattle.tla_value.proofs.Outcomes.{then_ok, then_then}
use Rattle.tla_value.proofs.Facts.{each_weaker}
use Rattle.pcal_tree.specs.Algorithm.{Routine, locals}
use Rattle.pcal_tree.specs.Scope.{State, put}
use Rattle.pcal_tree.specs.Assign.{Setting, set_one, set_all}
use Rattle.pcal_tree.specs.Program.{Program, Actor, index, local_index, read_at}
use Rattle.pcal_tree.specs.Variables.{written_all, pc, stack}
use Rattle.pcal_tree.specs.Processes.{OneOf}
use Rattle.pcal_tree.specs.Calls.{setting, all_read, frame, on_stack, argument_settings, variables_started, label_value, first_label, entered_keeping, part_settings}
use Rattle.pcal_tree.proofs.SameVariables.{of_each, each_of}
use Rattle.action_builder.specs.laws.Jumps.{Unlike, PairStands}
use Rattle.action_builder.proofs.AnyPlace.{stack_same}
use Rattle.action_builder.proofs.Call.{each_parts}
use Rattle.action_builder.proofs.SetAgain.{Like, like_refl, like_sym, like_trans, bad_then, like_then, like_ends, read_changed, put_here, put_else, then_do, Others, one_all, all_all, Commute, commute_all, Absorbs, absorbs_past, absorbs_all, set_put, all_else, all_both}
use Rattle.action_builder.proofs.Pairs.{loose, then_known, arguments_others, parts_others, parts_all_others, one_part, all_read_else, Long, tail, entering, other_and_started, pc_in_entering, stack_in_entering, own_in_entering}
use Rattle.action_builder.proofs.Equal.{other-name}

-- ---- results

pub bad_known : {X Y : Type 0} (o : Outcome X) (f : X → Outcome Y) → ((x : X) → o ≡ Ok x → IsBad (f x)) → IsBad (o >>= f)
bad_known (Ok x) f h = h x refl
bad_known (Err k) f h = tt

then_from : {X Y : Type 0} (o : Outcome X) (f : X → Outcome Y) (y : Y) → o >>= f ≡ Ok y → (x : X) × (o ≡ Ok x)
then_from (Ok x) f y e = (x, refl)
then_from (Err k) f y e = cc

ok_agrees : {X : Type 0} (x : X) (o : Outcome X) → AgreeButPlaces (Ok x) o → o ≡ Ok x
ok_agrees x (Ok y) h = ap Ok (sym h)
ok_agrees x (Err k) h = absurd h

-- ---- the return and the call

module _ (P0 : Program) (v : Actor) (u p : Routine) (at end : Place) (h : PairStands (loose P0) v u p) where
  abbrev P : Program
  P = loose P0

  abbrev idx : List Value
  idx = index v.self

  abbrev of_u : List Word
  of_u = written_all P u (locals u)

  abbrev of_p : List Word
  of_p = written_all P p (locals p)

  abbrev params : List Word
  params = written_all P p p.params

  abbrev pub to_first : State → Outcome State
  to_first = set_one plain (setting at pc idx (label_value P p (first_label p)))

  abbrev pub to_pc : Value → Setting
  to_pc label = setting end pc idx label

  abbrev pub restores : List Value → List Setting
  restores us = part_settings end (local_index v u) of_u us

  abbrev pub to_stack : List Value → Setting
  to_stack fr = setting end stack idx (seq_from fr)

  -- what the called procedure's variables are after the return; the truth value tells whether it is the returning one
  abbrev left_by : Bool → Outcome (List Value) → State → Outcome (List Value)
  left_by b us t = cond b us (all_read at (local_index v p) of_p t)

  abbrev pub then_enters : Bool → Value → Outcome (List Value) → List Place → List Value → State → Outcome State
  then_enters b back us ats vs t = left_by b us t >>= (λ olds. entered_keeping P v at back p ats vs olds t)

  abbrev enters : Value → List Value → List Value → List Place → List Value → State → Outcome State
  enters back olds fr ats vs = entering P0 v p at (seq_from (frame P p back olds ∷ fr)) ats vs

  pub returns_is : (back : Value) (us fr : List Value) (go : State → Outcome State) (s : State)
      → set_all plain (to_pc back ∷ (restores us ++ (to_stack fr ∷ []))) s >>= go ≡ set_all plain (to_pc back ∷ restores us) s >>= (λ t. set_one plain (to_stack fr) t >>= go)
  returns_is back us fr go s =
      (λ i. all_both (to_pc back ∷ restores us) (to_stack fr ∷ []) s i >>= go)
      ∙ (λ i. (set_all plain (to_pc back ∷ restores us) s >>= (λ t. then_ok (set_one plain (to_stack fr) t) i)) >>= go)
      ∙ then_then (set_all plain (to_pc back ∷ restores us) s) (set_one plain (to_stack fr)) go

  -- the stack after the return
  stack_after : (s t w : State) (back : Value) (us fr : List Value) (front : Value) (frames : List Value) → on_stack v end s ≡ Ok (front ∷ frames) → set_all plain (to_pc back ∷ restores us) s ≡ Ok t → set_one plain (to_stack fr) t ≡ Ok w → on_stack v at w ≡ Ok fr
  stack_after s t w back us fr front frames e q r =
      (λ i. read_at at idx (kept i) >>= sequence_at at)
      ∙ (λ i. new i >>= sequence_at at)
      ∙ (λ i. ok_or (sequence_of_seq fr i) (fault NotSequence at))
    where
      changes : (z : Value) × (Rattle.tla_value.specs.Strict.changed_at end idx (seq_from fr) (t stack) ≡ Ok z) × (w ≡ put stack z t)
      changes = set_put (to_stack fr) t w r

      kept : w stack ≡ changes.0
      kept = ap (λ (f : State). f stack) changes.2 ∙ put_here stack changes.0 t

      before : t stack ≡ s stack
      before = all_else (to_pc back ∷ restores us) stack (refl, parts_others stack end (local_index v u) of_u us h.stack_of_u) s t q

      here : on_stack v at s ≡ Ok (front ∷ frames)
      here = ok_agrees (front ∷ frames) (on_stack v at s) (subst (λ z. AgreeButPlaces z (on_stack v at s)) e (stack_same v end at s))

      old : (z : Value) × (read_at at idx (s stack) ≡ Ok z)
      old = then_from (read_at at idx (s stack)) (sequence_at at) (front ∷ frames) here

      new : read_at at idx changes.0 ≡ Ok (seq_from fr)
      new = read_changed end at idx (seq_from fr) (t stack) changes.0 old.0 (ap (read_at at idx) before ∙ old.1) changes.1

  -- where the values that are left are known, the return and the call are what the return restores and the entering
  enters_after : (b : Bool) (s : State) (back : Value) (us olds fr : List Value) (front : Value) (frames : List Value) (ats : List Place) (vs : List Value) → on_stack v end s ≡ Ok (front ∷ frames)
      → ((t w : State) → set_all plain (to_pc back ∷ restores us) s ≡ Ok t → set_one plain (to_stack fr) t ≡ Ok w → left_by b (Ok us) w ≡ Ok olds)
      → Like (set_all plain (to_pc back ∷ (restores us ++ (to_stack fr ∷ []))) s >>= then_enters b back (Ok us) ats vs) (set_all plain (restores us) s >>= enters back olds fr ats vs)
  enters_after b s back us olds fr front frames ats vs e left =
      like_ends _ (set_all plain (to_pc back ∷ restores us) s >>= (λ t. set_one plain (to_stack fr) t >>= then_enters b back (Ok us) ats vs)) _ _ (returns_is back us fr (then_enters b back (Ok us) ats vs) s)
      (like_trans _ (set_all plain (to_pc back ∷ restores us) s >>= (λ t. set_one plain (to_stack fr) t >>= enters back olds fr ats vs)) _
      (then_known (set_all plain (to_pc back ∷ restores us) s) _ _ (λ t q. then_known (set_one plain (to_stack fr) t) _ _ (λ w r. inl (is t w q r))))
      (like_trans _ (set_all plain (to_pc back ∷ restores us) s >>= enters back olds fr ats vs) _
      (like_then _ _ _ _ (like_refl (set_all plain (to_pc back ∷ restores us) s)) (λ t. stack_in_entering P0 v p at h.pc_of_p h.stack_of_p h.once (h.initials at) end (seq_from fr) (seq_from (frame P p back olds ∷ fr)) ats vs t))
      (like_ends _ (set_one plain (to_pc back) s >>= (λ t. set_all plain (restores us) t >>= enters back olds fr ats vs)) _ _ (then_then (set_one plain (to_pc back) s) (set_all plain (restores us)) (enters back olds fr ats vs))
      (absorbs_past (set_one plain (to_pc back)) (set_all plain (restores us)) (enters back olds fr ats vs)
      (one_all (to_pc back) (restores us) (parts_others pc end (local_index v u) of_u us h.pc_of_u))
      (pc_in_entering P0 v p at h.pc_of_p h.stack_of_p h.once (h.initials at) end back (seq_from (frame P p back olds ∷ fr)) ats vs) s) refl)))
      refl
    where
      is : (t w : State) → set_all plain (to_pc back ∷ restores us) s ≡ Ok t → set_one plain (to_stack fr) t ≡ Ok w → then_enters b back (Ok us) ats vs w ≡ enters back olds fr ats vs w
      is t w q r =
          (λ i. left t w q r i >>= (λ ws. entered_keeping P v at back p ats vs ws w))
          ∙ (λ i. stack_after s t w back us fr front frames e q r i >>= (λ fs. enters back olds fs ats vs w))

  -- another procedure's variables are as before
  pub others_left : (s t w : State) (back : Value) (us fr : List Value) → nat_eq u.number p.number ≡ false → set_all plain (to_pc back ∷ restores us) s ≡ Ok t → set_one plain (to_stack fr) t ≡ Ok w → all_read at (local_index v p) of_p w ≡ all_read at (local_index v p) of_p s
  others_left s t w back us fr n q r = all_read_else at (local_index v p) of_p s w (each_of (λ x. w x ≡ s x) of_p one)
    where
      one : (x : Word) → OneOf x of_p → w x ≡ s x
      one x k =
          let c = set_put (to_stack fr) t w r in
          ap (λ (f : State). f x) c.2 ∙ put_else stack x c.0 t (of_each (λ y. bytes_eq stack y ≡ false) of_p h.stack_of_p x k)
          ∙ all_else (to_pc back ∷ restores us) x
          (other-name pc x (of_each (λ y. bytes_eq pc y ≡ false) of_p h.pc_of_p x k), parts_others x end (local_index v u) of_u us (each_weaker (λ y. Unlike y of_p) (λ y. bytes_eq x y ≡ false) (λ y m. other-name y x (of_each (λ z. bytes_eq y z ≡ false) of_p m x k)) of_u (h.apart n))) s t q

  -- ---- against the assignments

  abbrev pub first_setting : Value → List Value → List Value → Setting
  first_setting back olds fr = setting at stack idx (seq_from (frame P p back olds ∷ fr))

  -- of the returning procedure itself nothing is left of what the return restores
  pub same_procedure : (back : Value) (us fr : List Value) (front : Value) (frames : List Value) (ats : List Place) (vs : List Value) (s : State) → nat_eq u.number p.number ≡ true → Long params ats vs → on_stack v end s ≡ Ok (front ∷ frames)
      → Like (set_all plain (to_pc back ∷ (restores us ++ (to_stack fr ∷ []))) s >>= then_enters true back (Ok us) ats vs) (enters back us fr ats vs s)
  same_procedure back us fr front frames ats vs s n l e =
      like_trans _ (set_all plain (restores us) s >>= enters back us fr ats vs) _
      (enters_after true s back us us fr front frames ats vs e (λ t w q r. refl))
      (absorbs_all (restores us) (enters back us fr ats vs) one s)
    where
      one : (m : Setting) → OneOf m (restores us) → Absorbs (set_one plain m) (enters back us fr ats vs)
      one m k =
          let q = one_part end (local_index v u) of_u us m k in
          subst (λ c. Absorbs (set_one plain c) (enters back us fr ats vs)) (sym q.3)
          (subst (λ w. Absorbs (set_one plain (setting end q.0 (local_index v w) q.1)) (enters back us fr ats vs)) (sym (h.same n))
          (own_in_entering P0 v p at h.pc_of_p h.stack_of_p h.once (h.initials at) end q.0 q.1 (seq_from (frame P p back us ∷ fr)) ats vs l (subst (λ w. OneOf q.0 (written_all P w (locals w))) (h.same n) q.2)))

  -- of another procedure both are set in any order
  in_one_list : (back : Value) (us olds fr : List Value) (front : Value) (frames : List Value) (ats : List Place) (vs : List Value) (s : State) → nat_eq u.number p.number ≡ false → all_read at (local_index v p) of_p s ≡ Ok olds → on_stack v end s ≡ Ok (front ∷ frames)
      → Like (set_all plain (to_pc back ∷ (restores us ++ (to_stack fr ∷ []))) s >>= then_enters false back (Ok us) ats vs)
      (set_all plain (first_setting back olds fr ∷ (argument_settings (local_index v p) params ats vs ++ restores us)) s >>= tail P0 v p at p.variables)
  in_one_list back us olds fr front frames ats vs s n o e =
      like_trans _ (set_all plain (restores us) s >>= enters back olds fr ats vs) _
      (enters_after false s back us olds fr front frames ats vs e (λ t w q r. others_left s t w back us fr n q r ∙ o))
      (like_ends _ ((set_all plain (restores us) s >>= set_all plain sets) >>= go) _ _ (sym (then_then (set_all plain (restores us) s) (set_all plain sets) go))
      (like_then _ (set_all plain sets s >>= set_all plain (restores us)) go go (all_all (restores us) sets apart s) (λ t. like_refl (go t)))
      (λ i. sym (all_both sets (restores us) s) i >>= go))
    where
      sets : List Setting
      sets = first_setting back olds fr ∷ argument_settings (local_index v p) params ats vs

      go : State → Outcome State
      go = tail P0 v p at p.variables

      apart : Rattle.action_builder.proofs.SetAgain.AllOthers (restores us) sets
      apart = parts_all_others end (local_index v u) of_u us sets (each_of (λ x. Others x sets) of_u (λ x k.
          (other-name stack x (of_each (λ y. bytes_eq stack y ≡ false) of_u h.stack_of_u x k), arguments_others x (local_index v p) params ats vs (each_parts (λ y. bytes_eq x y ≡ false) P p p.params p.variables (of_each (λ y. Unlike y of_p) of_u (h.apart n) x k)).0)))

  -- and what the return restores may be set behind the variables
  pub other_procedure : (back : Value) (us olds fr : List Value) (front : Value) (frames : List Value) (ats : List Place) (vs : List Value) (s : State) → nat_eq u.number p.number ≡ false → all_read at (local_index v p) of_p s ≡ Ok olds → on_stack v end s ≡ Ok (front ∷ frames)
      → Like (set_all plain (to_pc back ∷ (restores us ++ (to_stack fr ∷ []))) s >>= then_enters false back (Ok us) ats vs)
      (set_all plain (first_setting back olds fr ∷ argument_settings (local_index v p) params ats vs) s >>= (λ t. variables_started P v p at p.variables t >>= (λ z. set_all plain (restores us) z >>= to_first)))
  other_procedure back us olds fr front frames ats vs s n o e =
      like_trans _ (set_all plain (sets ++ restores us) s >>= tail P0 v p at p.variables) _ (in_one_list back us olds fr front frames ats vs s n o e)
      (like_ends _ (set_all plain sets s >>= (λ t. set_all plain (restores us) t >>= tail P0 v p at p.variables)) _ _
      ((λ i. all_both sets (restores us) s i >>= tail P0 v p at p.variables) ∙ then_then (set_all plain sets s) (set_all plain (restores us)) (tail P0 v p at p.variables))
      (like_then _ _ _ _ (like_refl (set_all plain sets s)) (λ t.
      like_ends _ ((set_all plain (restores us) t >>= started) >>= to_first) _ _ (sym (then_then (set_all plain (restores us) t) started to_first))
      (like_then _ (started t >>= set_all plain (restores us)) to_first to_first (commute_all (restores us) started one t) (λ z. like_refl (to_first z)))
      (then_then (started t) (set_all plain (restores us)) to_first))) refl)
    where
      sets : List Setting
      sets = first_setting back olds fr ∷ argument_settings (local_index v p) params ats vs

      started : State → Outcome State
      started t = variables_started P v p at p.variables t

      one : (m : Setting) → OneOf m (restores us) → Commute (set_one plain m) started
      one m k =
          let q = one_part end (local_index v u) of_u us m k in
          subst (λ c. Commute (set_one plain c) started) (sym q.3)
          (other_and_started P0 v p at end q.0 (local_index v u) q.1 p.variables (each_parts (λ y. bytes_eq q.0 y ≡ false) P p p.params p.variables (of_each (λ y. Unlike y of_p) of_u (h.apart n) q.0 q.2)).1 of_u q.2 (h.unread n at))
