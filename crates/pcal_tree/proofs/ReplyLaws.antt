-- A state that a reply reaches is one to which the step, or the start, by just these choices leads.
use Rattle.std.proofs.Common.{◌≡◌, ℕ, List, [], ◌∷◌, Bool, true, false, cond, Option, Some, None, Ok, Err, refl, sym, ap, ◌∙◌, inl, inr}
use Rattle.tla_token.specs.declared.place.Place.{Place}
use Rattle.tla_tree.specs.Tree.{Word}
use Rattle.tla_value.specs.Value.{Value, Outcome}
use Rattle.tla_value.specs.OrderLaws.{same_is}
use Rattle.pcal_tree.specs.Scope.{State}
use Rattle.pcal_tree.specs.Choices.{Walk, went, failed, blocked, wanting, walk}
use Rattle.pcal_tree.specs.Calls.{label_name}
use Rattle.pcal_tree.specs.Program.{Program, Actor}
use Rattle.pcal_tree.specs.Variables.{vars, Agree}
use Rattle.pcal_tree.specs.Processes.{actors, OneOf}
use Rattle.pcal_tree.specs.Step.{pc_of, Stand, routines_of, course_of}
use Rattle.pcal_tree.specs.FirstTrouble.{stand_named}
use Rattle.pcal_tree.specs.InitialChoice.{started}
use Rattle.pcal_tree.specs.Script.{Turn, Reaches, StepBy}
use Rattle.pcal_tree.specs.StepAnswers.{reached, replied, label_place, step_from, step_at, is_self, with_self, step_of, step_in, stepped, start_by}
use Rattle.pcal_tree.proofs.TroubleLaws.{found_stands}
use Rattle.std.proofs.lemmas.Option.{same_Some}

given : {X : Type 0} (x y : X) → reached x ≡ reached y → x ≡ y
given x y e = cc

agree_self : (xs : List Word) (s : State) → Agree xs s s
agree_self [] s = tt
agree_self (x ∷ xs) s = (refl, agree_self xs s)

-- the course ended there, with no choice left over
went_there : {X : Type 0} (f : State → X) (at : Place) (w : Walk) (x : X) → replied f at w ≡ reached x → (u : State) × (w ≡ went u []) × (f u ≡ x)
went_there f at (went u []) x e = (u, refl, given (f u) x e)
went_there f at (went u (n ∷ ns)) x e = cc
went_there f at (failed k) x e = cc
went_there f at (blocked p) x e = cc
went_there f at (wanting n p) x e = cc

self_is : (a b : Option Value) → is_self a b ≡ true → b ≡ a
self_is (Some v) (Some w) h = ap (λ (u : Value). Some u) (sym (same_is v w h))
self_is None None h = refl
self_is (Some v) None h = cc
self_is None (Some w) h = cc

pub found_self : (who : Option Value) (vs : List Actor) (v : Actor) → with_self who vs ≡ Some v → OneOf v vs × (v.self ≡ who)
found_self who [] v e = cc
found_self who (w ∷ vs) v e = by (found_self who vs v) (is_self who w.self) refl e
  where
    further : OneOf v vs × (v.self ≡ who) → OneOf v (w ∷ vs) × (v.self ≡ who)
    further f = (inr f.0, f.1)

    by : (with_self who vs ≡ Some v → OneOf v vs × (v.self ≡ who)) → (b : Bool) → is_self who w.self ≡ b → cond b (Some w) (with_self who vs) ≡ Some v → OneOf v (w ∷ vs) × (v.self ≡ who)
    by ih true h e = (inl (sym (same_Some w v e)), ap (λ (u : Actor). u.self) (sym (same_Some w v e)) ∙ self_is who w.self h)
    by ih false h e = further (ih e)

pub step_replied : (P : Program) (n : Turn) (s t : State) (l : Word) → stepped P s n.who n.choices ≡ reached (t, l) → StepBy P n s t
step_replied P n s t l e = all (actors P) refl e
  where
    end : (vs : List Actor) → actors P ≡ Ok vs → (v : Actor) → with_self n.who vs ≡ Some v → (w : Value) → pc_of v s ≡ Ok w → (d : Stand) → stand_named P w (routines_of P v) ≡ Some d
        → ((u : State) × (walk (course_of P v d s) n.choices ≡ went u []) × (◌≡◌ {A = State × Word} (u, label_name P d.routine d.label) (t, l))) → StepBy P n s t
    end vs a v f w p d h r =
        let who = found_self n.who vs v f in
        let there : r.0 ≡ t = ap (λ (q : State × Word). q.0) r.2 in
        (v, d, (vs, a, who.0), who.1, found_stands P s v w d p h, (t, r.1 ∙ ap (λ (u : State). went u []) there, agree_self (vars P) t))

    stand : (vs : List Actor) → actors P ≡ Ok vs → (v : Actor) → with_self n.who vs ≡ Some v → (w : Value) → pc_of v s ≡ Ok w → (o : Option Stand) → stand_named P w (routines_of P v) ≡ o
        → step_from P v s n.choices o ≡ reached (t, l) → StepBy P n s t
    stand vs a v f w p None h e = cc
    stand vs a v f w p (Some d) h e =
        end vs a v f w p d h (went_there (λ u. (u, label_name P d.routine d.label)) (label_place d.routine d.label) (walk (course_of P v d s) n.choices) (t, l) e)

    pc : (vs : List Actor) → actors P ≡ Ok vs → (v : Actor) → with_self n.who vs ≡ Some v → (o : Outcome Value) → pc_of v s ≡ o → step_at P v s n.choices o ≡ reached (t, l) → StepBy P n s t
    pc vs a v f (Err k) p e = cc
    pc vs a v f (Ok w) p e = stand vs a v f w p (stand_named P w (routines_of P v)) refl e

    one : (vs : List Actor) → actors P ≡ Ok vs → (o : Option Actor) → with_self n.who vs ≡ o → step_of P s n.choices o ≡ reached (t, l) → StepBy P n s t
    one vs a None f e = cc
    one vs a (Some v) f e = pc vs a v f (pc_of v s) refl e

    all : (o : Outcome (List Actor)) → actors P ≡ o → step_in P s n.who n.choices o ≡ reached (t, l) → StepBy P n s t
    all (Err k) a e = cc
    all (Ok vs) a e = one vs a (with_self n.who vs) refl e

pub start_replied : (P : Program) (choices : List ℕ) (s : State) → start_by P choices ≡ reached s → Reaches P (walk (started P) choices) s
start_replied P choices s e =
    let r = went_there (λ u. u) P.algorithm.name.place (walk (started P) choices) s e in
    (s, r.1 ∙ ap (λ (u : State). went u []) r.2, agree_self (vars P) s)
