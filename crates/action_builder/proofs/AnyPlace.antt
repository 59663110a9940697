-- Where a jump, a call or a return is doesn't matter to its end, and not to the kind of its trouble.
use Rattle.std.proofs.Common.{◌≡◌, List, [], ◌∷◌, ◌++◌, Bool, true, false, cond, nat_eq, refl, sym, subst, Ok, Err}
use Rattle.tla_token.specs.declared.place.Place.{Place}
use Rattle.tla_tree.specs.Tree.{Word}
use Rattle.tla_value.specs.Value.{Value, Trouble, fault, over, Outcome, text}
use Rattle.tla_value.specs.Stops.{Check, plain}
use Rattle.tla_value.specs.Definitions.{trouble_at}
use Rattle.tla_value.proofs.Joined.{Kin, Same, applications, paths, sequences}
use Rattle.pcal_tree.specs.Algorithm.{Start, unset, equals, among, Declaration, Routine, locals}
use Rattle.pcal_tree.specs.Scope.{State, value_of}
use Rattle.pcal_tree.specs.Assign.{Setting, set_one, set_all}
use Rattle.pcal_tree.specs.Program.{Program, Actor, index, local_index, read_at, written, routine_scope}
use Rattle.pcal_tree.specs.Variables.{written_all, pc, stack}
use Rattle.pcal_tree.specs.Calls.{setting, all_read, on_stack, initial_value, initial_place, variables_started, argument_settings, entered_keeping, entered, fields_read, part_settings, restored, returned, replaced, returned_and_entered}
use Rattle.tla_value.specs.laws.Places.{SameKind, AgreeButPlaces}
use Rattle.module_tree.proofs.OutcomesAlike.{same_refl, then_same}

pub kinds_moved : (p q : Place) (k j : Trouble) → SameKind k j → SameKind (trouble_at p k) (trouble_at q j)
kinds_moved p q (fault k a) (fault j b) h = h
kinds_moved p q (over a) (over b) h = tt
kinds_moved p q (fault k a) (over b) h = absurd h
kinds_moved p q (over a) (fault j b) h = absurd h

-- all places stand for one another
abbrev pub anywhere : Kin
anywhere = record {
  beside = SameKind;
  free = λ k. ⊥;
  place = λ p q. Unit {0};
  self = λ p. tt;
  anything = λ k j h. absurd h;
  faults = λ k p q e. refl;
  moved = λ p q e k j h. kinds_moved p q k j h;
  free_moved = λ p k h. h;
}

pub of_joined : {X : Type 0} (o q : Outcome X) → Same anywhere o q → AgreeButPlaces o q
of_joined (Ok x) (Ok y) h = h
of_joined (Ok x) (Err j) h = absurd h
of_joined (Err k) (Ok y) h = absurd h
of_joined (Err k) (Err j) h = h

pub set_same : (c : Check) → c ≡ plain → (a b : Place) (x : Word) (path : List Value) (w : Value) (s : State) → AgreeButPlaces (set_one c (setting a x path w) s) (set_one c (setting b x path w) s)
set_same c q a b x path w s =
    subst (λ d. AgreeButPlaces (set_one d (setting a x path w) s) (set_one d (setting b x path w) s)) (sym q)
    (then_same _ _ _ _ (of_joined _ _ (paths anywhere a b tt path w (s x))) (λ v. refl))

check_same : (c : Check) → c ≡ plain → (a b : Place) (v : Value) → AgreeButPlaces (c a v) (c b v)
check_same c q a b v = subst (λ d. AgreeButPlaces (d a v) (d b v)) (sym q) refl

read_same : (a b : Place) (path : List Value) (v : Value) → AgreeButPlaces (read_at a path v) (read_at b path v)
read_same a b [] v = refl
read_same a b (k ∷ ks) f = then_same _ _ _ _ (of_joined _ _ (applications anywhere a b tt f k)) (λ v. read_same a b ks v)

all_read_same : (a b : Place) (path : List Value) (xs : List Word) (s : State) → AgreeButPlaces (all_read a path xs s) (all_read b path xs s)
all_read_same a b path [] s = refl
all_read_same a b path (x ∷ xs) s = then_same _ _ _ _ (read_same a b path (s x)) (λ v. then_same _ _ _ _ (all_read_same a b path xs s) (λ vs. refl))

pub stack_same : (v : Actor) (a b : Place) (s : State) → AgreeButPlaces (on_stack v a s) (on_stack v b s)
stack_same v a b s = then_same _ _ _ _ (read_same a b (index v.self) (s stack)) (λ st. of_joined _ _ (sequences anywhere a b tt st))

initial_same : (P : Program) (v : Actor) (p : Routine) (a b : Place) (d : Start) (s : State) → AgreeButPlaces (initial_value P v p a d s) (initial_value P v p b d s)
initial_same P v p a b unset s = refl
initial_same P v p a b (equals e) s = same_refl (value_of P.check e (routine_scope P v p) s)
initial_same P v p a b (among e) s = refl

variables_same : (P : Program) → P.check ≡ plain → (v : Actor) (p : Routine) (a b : Place) (ds : List Declaration) (s : State) → AgreeButPlaces (variables_started P v p a ds s) (variables_started P v p b ds s)
variables_same P q v p a b [] s = refl
variables_same P q v p a b (d ∷ ds) s =
    then_same _ _ _ _ (initial_same P v p a b d.start s) (λ w.
    then_same _ _ _ _ (set_same P.check q (initial_place a d.start) (initial_place b d.start) (written P p d.name.word) (local_index v p) w s) (λ u. variables_same P q v p a b ds u))

keeping_same : (P : Program) → P.check ≡ plain → (v : Actor) (a b : Place) (back : Value) (p : Routine) (places : List Place) (vs olds : List Value) (s : State) → AgreeButPlaces (entered_keeping P v a back p places vs olds s) (entered_keeping P v b back p places vs olds s)
keeping_same P q v a b back p places vs olds s =
    then_same _ _ _ _ (check_same P.check q a b _) (λ front.
    then_same _ _ _ _ (stack_same v a b s) (λ frames.
    then_same _ _ _ _ (check_same P.check q a b _) (λ new.
    then_same _ _ _ _ (then_same _ _ _ _ (set_same P.check q a b stack (index v.self) new s) (λ u. same_refl (set_all P.check (argument_settings (local_index v p) (written_all P p p.params) places vs) u))) (λ t.
    then_same _ _ _ _ (variables_same P q v p a b p.variables t) (λ u. set_same P.check q a b pc (index v.self) _ u)))))

pub entered_same : (P : Program) → P.check ≡ plain → (v : Actor) (a b : Place) (back : Value) (p : Routine) (places : List Place) (vs : List Value) (s : State) → AgreeButPlaces (entered P v a back p places vs s) (entered P v b back p places vs s)
entered_same P q v a b back p places vs s =
    then_same _ _ _ _ (all_read_same a b (local_index v p) (written_all P p (locals p)) s) (λ olds. keeping_same P q v a b back p places vs olds s)

fields_same : (a b : Place) (xs : List Word) (f : Value) → AgreeButPlaces (fields_read a xs f) (fields_read b xs f)
fields_same a b [] f = refl
fields_same a b (x ∷ xs) f = then_same _ _ _ _ (of_joined _ _ (applications anywhere a b tt f (text x))) (λ v. then_same _ _ _ _ (fields_same a b xs f) (λ vs. refl))

parts_same : (c : Check) → c ≡ plain → (a b : Place) (path : List Value) (xs : List Word) (vs : List Value) (more later : List Setting) → ((s : State) → AgreeButPlaces (set_all c more s) (set_all c later s)) → (s : State) → AgreeButPlaces (set_all c (part_settings a path xs vs ++ more) s) (set_all c (part_settings b path xs vs ++ later) s)
parts_same c q a b path [] vs more later h s = h s
parts_same c q a b path (x ∷ xs) [] more later h s = h s
parts_same c q a b path (x ∷ xs) (v ∷ vs) more later h s = then_same _ _ _ _ (set_same c q a b x path v s) (λ u. parts_same c q a b path xs vs more later h u)

restored_same : (P : Program) → P.check ≡ plain → (v : Actor) (a b : Place) (p : Routine) (frames : List Value) (s : State) → AgreeButPlaces (restored P v a p frames s) (restored P v b p frames s)
restored_same P q v a b p [] s = refl
restored_same P q v a b p (front ∷ frames) s =
    then_same _ _ _ _ (of_joined _ _ (applications anywhere a b tt front (text pc))) (λ label.
    then_same _ _ _ _ (fields_same a b (written_all P p (locals p)) front) (λ vs.
    then_same _ _ _ _ (set_same P.check q a b pc (index v.self) label s) (λ u.
    parts_same P.check q a b (local_index v p) (written_all P p (locals p)) vs _ _ (λ t. then_same _ _ _ _ (set_same P.check q a b stack (index v.self) _ t) (λ w. refl)) u)))

pub returned_same : (P : Program) → P.check ≡ plain → (v : Actor) (a b : Place) (p : Routine) (s : State) → AgreeButPlaces (returned P v a p s) (returned P v b p s)
returned_same P q v a b p s = then_same _ _ _ _ (stack_same v a b s) (λ frames. restored_same P q v a b p frames s)

left_same : (c : Bool) (o p q r : Outcome (List Value)) → AgreeButPlaces o p → AgreeButPlaces q r → AgreeButPlaces (cond c o q) (cond c p r)
left_same true o p q r h k = h
left_same false o p q r h k = k

-- with the places of the call and of the return
replaced_same : (P : Program) → P.check ≡ plain → (v : Actor) (a b c d : Place) (u p : Routine) (places : List Place) (vs frames : List Value) (s : State) → AgreeButPlaces (replaced P v a c u p places vs frames s) (replaced P v b d u p places vs frames s)
replaced_same P q v a b c d u p places vs [] s = refl
replaced_same P q v a b c d u p places vs (front ∷ frames) s =
    then_same _ _ _ _ (of_joined _ _ (applications anywhere c d tt front (text pc))) (λ back.
    then_same _ _ _ _ (restored_same P q v c d u (front ∷ frames) s) (λ t.
    then_same _ _ _ _ (left_same (nat_eq u.number p.number) _ _ _ _ (fields_same c d (written_all P u (locals u)) front) (all_read_same a b (local_index v p) (written_all P p (locals p)) t)) (λ olds.
    keeping_same P q v a b back p places vs olds t)))

pub returned_and_entered_same : (P : Program) → P.check ≡ plain → (v : Actor) (a b c d : Place) (u p : Routine) (places : List Place) (vs : List Value) (s : State) → AgreeButPlaces (returned_and_entered P v a c u p places vs s) (returned_and_entered P v b d u p places vs s)
returned_and_entered_same P q v a b c d u p places vs s = then_same _ _ _ _ (stack_same v c d s) (λ frames. replaced_same P q v a b c d u p places vs frames s)
