-- Calls in the parts in which they are made.
use Rattle.std.proofs.Common.{◌≡◌, List, ◌∷◌, Ok, Err, refl}
use Rattle.tla_token.specs.declared.place.Place.{Place}
use Rattle.tla_value.specs.Value.{Value, Outcome, ◌>>=◌}
use Rattle.tla_value.specs.Order.{seq_from}
use Rattle.pcal_tree.specs.Algorithm.{Declaration, Routine}
use Rattle.pcal_tree.specs.Scope.{State}
use Rattle.pcal_tree.specs.Assign as pure
use Rattle.pcal_tree.specs.Program.{Program, Actor, index, local_index, written}
use Rattle.pcal_tree.specs.Calls.{label_value, first_label, setting, frame, on_stack, argument_settings, initial_place}
use Rattle.pcal_tree.specs.Variables.{pc, stack, written_all}
use Rattle.step_walks.specs.FirstValues.{Evaluation}
use Rattle.step_walks.specs.WrittenCalls.{first_value, variables_by, entered_keeping_by}
use Rattle.step_moves.specs.Prepared.{started, given}

then_two : {A B C : Type 0} (a : Outcome A) (f : A → Outcome B) (go : B → Outcome C) → a >>= (λ x. f x >>= go) ≡ (a >>= f) >>= go
then_two (Ok x) f go = refl
then_two (Err k) f go = refl

then_three : {A B C D : Type 0} (a : Outcome A) (f : A → Outcome B) (g : A → B → Outcome C) (go : C → Outcome D) → a >>= (λ x. f x >>= (λ y. g x y >>= go)) ≡ (a >>= (λ x. f x >>= g x)) >>= go
then_three (Ok x) f g go = then_two (f x) (g x) go
then_three (Err k) f g go = refl

pub variables_step : (E : Evaluation) (P : Program) (v : Actor) (p : Routine) (at : Place) (d : Declaration) (ds : List Declaration) (s : State)
    → variables_by E P v p at (d ∷ ds) s ≡ (started E P v p at d s) >>= (variables_by E P v p at ds)
variables_step E P v p at d ds s =
    then_two (first_value E v p at d.start s) (λ w. pure.set_one P.check (setting (initial_place at d.start) (written P p d.name.word) (local_index v p) w) s) (variables_by E P v p at ds)

pub keeping_form : (E : Evaluation) (P : Program) (v : Actor) (at : Place) (back : Value) (p : Routine) (places : List Place) (vs olds : List Value) (s : State)
    → entered_keeping_by E P v at back p places vs olds s
    ≡ (P.check at (frame P p back olds)) >>= (λ front. (given P v p at front places vs s) >>= (λ t. (variables_by E P v p at p.variables t) >>= (λ w. pure.set_one P.check (setting at pc (index v.self) (label_value P p (first_label p))) w)))
keeping_form E P v at back p places vs olds s =
    λ i. (P.check at (frame P p back olds)) >>= (λ front.
    then_three (on_stack v at s) (λ frames. P.check at (seq_from (front ∷ frames)))
    (λ frames new. pure.set_all P.check (setting at stack (index v.self) new ∷ argument_settings (local_index v p) (written_all P p p.params) places vs) s)
    (λ t. (variables_by E P v p at p.variables t) >>= (λ w. pure.set_one P.check (setting at pc (index v.self) (label_value P p (first_label p))) w)) i)
