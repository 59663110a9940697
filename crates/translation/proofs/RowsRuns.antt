-- Tests of a run, which are computed: that nothing is in trouble, that some process steps to the next state, that all are done; and of the values of constants.
use Rattle.std.proofs.Common.{◌≡◌, List, [], ◌∷◌, Bool, true, false, ◌&&◌, ◌||◌, cond, bytes_eq, map, codes, Option, Some, None, Ok, Err, refl, sym, ap, subst, ◌∙◌, inl, inr}
use Rattle.tla_token.specs.Signs.{is_among}
use Rattle.tla_tree.specs.Tree.{Word}
use Rattle.tla_value.specs.Order.{same, IsCanonical}
use Rattle.tla_value.specs.OrderLaws.{same_is}
use Rattle.tla_value.specs.Value.{Value, text, Trouble, Outcome}
use Rattle.tla_value.proofs.Outcomes.{ok_is}
use Rattle.pcal_tree.specs.FirstTrouble.{stand_named, trouble_of_all}
use Rattle.pcal_tree.specs.Processes.{OneOf, actors}
use Rattle.pcal_tree.specs.Program.{Program, Actor}
use Rattle.pcal_tree.specs.Run.{Course, ends, stops, chooses, Has}
use Rattle.pcal_tree.specs.Scope.{State}
use Rattle.pcal_tree.specs.Step.{pc_of, Stand, routines_of, course_of, StepFrom, Step, Stutters}
use Rattle.pcal_tree.specs.Variables.{vars, Agree}
use Rattle.pcal_tree.proofs.TroubleLaws.{found_stands}
use Rattle.translation.specs.Worked.{constants}

-- ---- steps

abbrev agree : List Word → State → State → Bool
agree [] s t = true
agree (x ∷ xs) s t = same (s x) (t x) && agree xs s t

pub both : (a b : Bool) → (a && b) ≡ true → (a ≡ true) × (b ≡ true)
both true b e = (refl, e)
both false b e = cc

agreed : (xs : List Word) (s t : State) → agree xs s t ≡ true → Agree xs s t
agreed [] s t e = tt
agreed (x ∷ xs) s t e = (let q = both (same (s x) (t x)) (agree xs s t) e in (same_is (s x) (t x) q.0, agreed xs s t q.1))

-- it ends, with no choice, in a state with the values of t
abbrev ends_in : Program → Course → State → Bool
ends_in P (ends u) t = agree (vars P) u t
ends_in P _ t = false

abbrev goes_from : Program → Actor → State → State → Option Stand → Bool
goes_from P v s t (Some d) = ends_in P (course_of P v d s) t
goes_from P v s t None = false

abbrev goes_at : Program → Actor → State → State → Outcome Value → Bool
goes_at P v s t (Ok w) = goes_from P v s t (stand_named P w (routines_of P v))
goes_at P v s t (Err k) = false

-- one of the processes goes so
abbrev pub some_goes : Program → List Actor → State → State → Bool
some_goes P [] s t = false
some_goes P (v ∷ vs) s t = goes_at P v s t (pc_of v s) || some_goes P vs s t

abbrev pub is_quiet : Option Trouble → Bool
is_quiet None = true
is_quiet (Some k) = false

-- nothing is in trouble in a state, and some process goes to the next one
abbrev pub runs : Program → List Actor → State → List State → Bool
runs P vs s [] = true
runs P vs s (t ∷ ts) = (is_quiet (trouble_of_all P s vs) && some_goes P vs s t) && runs P vs t ts

module _ (P : Program) (s t : State) where
  ended : (c : Course) → ends_in P c t ≡ true → (u : State) × Has c (Ok u) × Agree (vars P) u t
  ended (ends u) e = (u, refl, agreed (vars P) u t e)
  ended (stops k) e = cc
  ended (chooses at cs) e = cc

  gone : (v : Actor) → goes_at P v s t (pc_of v s) ≡ true → (d : Stand) × StepFrom P v d s t
  gone v e = by (pc_of v s) refl e
    where
      by_stand : (w : Value) → pc_of v s ≡ Ok w → (q : Option Stand) → stand_named P w (routines_of P v) ≡ q → goes_from P v s t q ≡ true → (d : Stand) × StepFrom P v d s t
      by_stand w p None q e = cc
      by_stand w p (Some d) q e = (d, (found_stands P s v w d p q, ended (course_of P v d s) e))

      by : (r : Outcome Value) → pc_of v s ≡ r → goes_at P v s t r ≡ true → (d : Stand) × StepFrom P v d s t
      by (Err k) p e = cc
      by (Ok w) p e = by_stand w p (stand_named P w (routines_of P v)) refl e

  some_gone : (vs : List Actor) → some_goes P vs s t ≡ true → (v : Actor) × OneOf v vs × ((d : Stand) × StepFrom P v d s t)
  some_gone [] e = cc
  some_gone (v ∷ vs) e = by (some_gone vs) (goes_at P v s t (pc_of v s)) refl e
    where
      later : ((w : Actor) × OneOf w vs × ((d : Stand) × StepFrom P w d s t)) → (w : Actor) × OneOf w (v ∷ vs) × ((d : Stand) × StepFrom P w d s t)
      later (w, one, k) = (w, inr one, k)

      by : (some_goes P vs s t ≡ true → (w : Actor) × OneOf w vs × ((d : Stand) × StepFrom P w d s t)) → (b : Bool) → goes_at P v s t (pc_of v s) ≡ b → (b || some_goes P vs s t) ≡ true → (w : Actor) × OneOf w (v ∷ vs) × ((d : Stand) × StepFrom P w d s t)
      by ih true p e = (v, inl refl, gone v p)
      by ih false p e = later (ih e)

  pub step_made : (vs : List Actor) → actors P ≡ Ok vs → some_goes P vs s t ≡ true → Step P s t
  step_made vs all e = (let (v, one, (d, from)) = some_gone vs e in (v, d, (vs, all, one), from))

-- ---- all are done

abbrev is_done : Outcome Value → Bool
is_done (Ok w) = same w (text (codes "Done"))
is_done (Err k) = false

abbrev pub all_done : List Actor → State → Bool
all_done [] s = true
all_done (v ∷ vs) s = is_done (pc_of v s) && all_done vs s

done_here : (r : Outcome Value) → is_done r ≡ true → r ≡ Ok (text (codes "Done"))
done_here (Ok w) e = ap (λ z. Ok z) (same_is w (text (codes "Done")) e)
done_here (Err k) e = cc

each_done : (vs : List Actor) (s : State) → all_done vs s ≡ true → (v : Actor) → OneOf v vs → pc_of v s ≡ Ok (text (codes "Done"))
each_done [] s e v one = absurd one
each_done (w ∷ vs) s e v (inl q) = subst (λ (u : Actor). pc_of u s ≡ Ok (text (codes "Done"))) (sym q) (done_here (pc_of w s) (both (is_done (pc_of w s)) (all_done vs s) e).0)
each_done (w ∷ vs) s e v (inr q) = each_done vs s (both (is_done (pc_of w s)) (all_done vs s) e).1 v q

alike : (xs : List Word) (s : State) → Agree xs s s
alike [] s = tt
alike (x ∷ xs) s = (refl, alike xs s)

pub end_stutters : (P : Program) (vs : List Actor) (s : State) → actors P ≡ Ok vs → all_done vs s ≡ true → Stutters P s s
end_stutters P vs s all e = (λ v (ws, also, one). each_done vs s e v (subst (OneOf v) (ok_is (sym also ∙ all)) one), alike (vars P) s)

-- ---- constants

abbrev AreAllCanonical : List (Word × Value) → Type 0
AreAllCanonical [] = Unit {0}
AreAllCanonical (p ∷ ps) = IsCanonical p.1 × AreAllCanonical ps

pub no_other : (ps : List (Word × Value)) (x : Word) → is_among (map (λ (p : Word × Value). p.0) ps) x ≡ false → constants ps x ≡ None
no_other [] x e = refl
no_other ((y, v) ∷ ps) x e = by (no_other ps x) (bytes_eq y x) e
  where
    by : (is_among (map (λ (p : Word × Value). p.0) ps) x ≡ false → constants ps x ≡ None) → (b : Bool) → (b || is_among (map (λ (p : Word × Value). p.0) ps) x) ≡ false → cond b (Some v) (constants ps x) ≡ None
    by ih true e = cc
    by ih false e = ih e

pub all_canonical : (ps : List (Word × Value)) → AreAllCanonical ps → (x : Word) (w : Value) → constants ps x ≡ Some w → IsCanonical w
all_canonical [] k x w e = cc
all_canonical ((y, v) ∷ ps) k x w e = by (all_canonical ps k.1 x w) (bytes_eq y x) e
  where
    same_some : (a b : Value) → ◌≡◌ {A = Option Value} (Some a) (Some b) → a ≡ b
    same_some a b z = cc

    by : (constants ps x ≡ Some w → IsCanonical w) → (b : Bool) → cond b (Some v) (constants ps x) ≡ Some w → IsCanonical w
    by ih true e = subst IsCanonical (same_some v w e) k.0
    by ih false e = ih e
