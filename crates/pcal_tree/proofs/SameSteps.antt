-- Steps, troubles and runs by a script are the same from states that agree on the variables of the translation.
use Rattle.std.proofs.Common.{◌≡◌, ℕ, zero, suc, List, [], ◌∷◌, Option, Some, None, refl, sym, ◌∙◌, ap, subst, inl, inr, Ok, Err}
use Rattle.std.specs.Option.{option_or}
use Rattle.tla_token.specs.declared.place.Place.{Place}
use Rattle.tla_tree.specs.Tree.{Word}
use Rattle.tla_value.specs.Value.{Value, Trouble, Outcome}
use Rattle.tla_value.proofs.Outcomes.{ok_is}
use Rattle.pcal_tree.specs.Scope.{State}
use Rattle.pcal_tree.specs.Run.{Course, ends, stops, chooses, Courses, no_courses, course, Has, HasSome}
use Rattle.pcal_tree.specs.Choices.{Walk, went, failed, blocked, wanting, missing, walk, walk_into, first_trouble, first_trouble_of}
use Rattle.pcal_tree.specs.Program.{Program, Actor, index, read_at}
use Rattle.pcal_tree.specs.Variables.{pc, vars, Agree}
use Rattle.pcal_tree.specs.Processes.{OneOf, IsActor}
use Rattle.pcal_tree.specs.Step.{pc_of, Stand, routines_of, StandsAt, course_of, Step, Stutters}
use Rattle.pcal_tree.specs.Faults.{Troubled, Sound}
use Rattle.pcal_tree.specs.FirstTrouble.{stand_named, trouble_from, trouble_at, trouble_of_all, FirstTrouble}
use Rattle.pcal_tree.specs.Script.{Turn, Reaches, StepBy, StepsBy, RunOf}
use Rattle.pcal_tree.specs.InitialChoice.{started}
use Rattle.pcal_tree.specs.laws.Steps.{ReturnsInProcedures, AgreeAll}
use Rattle.pcal_tree.proofs.TroubleLaws.{found_stands}
use Rattle.pcal_tree.proofs.SameVariables.{agree_sym, agree_trans, value_at, Same, SameAll}
use Rattle.pcal_tree.proofs.StepVariables.{pc_in, course_steady}

-- ---- what courses that are the same have

mutual
  has_end : (V : List Word) (c d : Course) → Same V c d → (u : State) → Has c (Ok u) → (w : State) × Has d (Ok w) × Agree V u w
  has_end V (ends x) (ends y) a u e = (y, refl, subst (λ z. Agree V z y) (sym (ok_is e)) a)
  has_end V (stops j) (stops k) a u e = cc
  has_end V (chooses at cs) (chooses p ds) a u h = end_of V cs ds a.1 u h
  has_end V (ends x) (stops k) a u h = absurd a
  has_end V (ends x) (chooses p ds) a u h = absurd a
  has_end V (stops j) (ends y) a u h = absurd a
  has_end V (stops j) (chooses p ds) a u h = absurd a
  has_end V (chooses at cs) (ends y) a u h = absurd a
  has_end V (chooses at cs) (stops k) a u h = absurd a

  end_of : (V : List Word) (cs ds : Courses) → SameAll V cs ds → (u : State) → HasSome cs (Ok u) → (w : State) × HasSome ds (Ok w) × Agree V u w
  end_of V no_courses ds a u h = absurd h
  end_of V (course c cs) no_courses a u h = absurd a
  end_of V (course c cs) (course d ds) a u (inl h) = let q = has_end V c d a.0 u h in (q.0, inl q.1, q.2)
  end_of V (course c cs) (course d ds) a u (inr h) = let q = end_of V cs ds a.1 u h in (q.0, inr q.1, q.2)

mutual
  has_trouble : (V : List Word) (c d : Course) → Same V c d → (k : Trouble) → Has c (Err k) → Has d (Err k)
  has_trouble V (ends x) (ends y) a k e = cc
  has_trouble V (stops i) (stops j) a k e = e ∙ ap Err a
  has_trouble V (chooses at cs) (chooses p ds) a k h = trouble_in V cs ds a.1 k h
  has_trouble V (ends x) (stops j) a k h = absurd a
  has_trouble V (ends x) (chooses p ds) a k h = absurd a
  has_trouble V (stops j) (ends y) a k h = absurd a
  has_trouble V (stops j) (chooses p ds) a k h = absurd a
  has_trouble V (chooses at cs) (ends y) a k h = absurd a
  has_trouble V (chooses at cs) (stops j) a k h = absurd a

  trouble_in : (V : List Word) (cs ds : Courses) → SameAll V cs ds → (k : Trouble) → HasSome cs (Err k) → HasSome ds (Err k)
  trouble_in V no_courses ds a k h = absurd h
  trouble_in V (course c cs) no_courses a k h = absurd a
  trouble_in V (course c cs) (course d ds) a k (inl h) = inl (has_trouble V c d a.0 k h)
  trouble_in V (course c cs) (course d ds) a k (inr h) = inr (trouble_in V cs ds a.1 k h)

mutual
  first_same : (V : List Word) (c d : Course) → Same V c d → first_trouble c ≡ first_trouble d
  first_same V (ends x) (ends y) a = refl
  first_same V (stops i) (stops j) a = ap Some a
  first_same V (chooses at cs) (chooses p ds) a = first_same_of V cs ds a.1
  first_same V (ends x) (stops j) a = absurd a
  first_same V (ends x) (chooses p ds) a = absurd a
  first_same V (stops j) (ends y) a = absurd a
  first_same V (stops j) (chooses p ds) a = absurd a
  first_same V (chooses at cs) (ends y) a = absurd a
  first_same V (chooses at cs) (stops j) a = absurd a

  first_same_of : (V : List Word) (cs ds : Courses) → SameAll V cs ds → first_trouble_of cs ≡ first_trouble_of ds
  first_same_of V no_courses no_courses a = refl
  first_same_of V no_courses (course d ds) a = absurd a
  first_same_of V (course c cs) no_courses a = absurd a
  first_same_of V (course c cs) (course d ds) a = λ i. option_or (first_same V c d a.0 i) (first_same_of V cs ds a.1 i)

-- the same choices lead to states that agree
abbrev SameWalk : List Word → Walk → Walk → Type 0
SameWalk V (went s ns) (went t ms) = Agree V s t × (ns ≡ ms)
SameWalk V (went s ns) w = ⊥
SameWalk V v (went t ms) = ⊥
SameWalk V v w = Unit {0}

missing_same : (V : List Word) (cs ds : Courses) (at p : Place) → SameAll V cs ds → SameWalk V (missing cs at) (missing ds p)
missing_same V no_courses no_courses at p a = tt
missing_same V no_courses (course d ds) at p a = absurd a
missing_same V (course c cs) no_courses at p a = absurd a
missing_same V (course c cs) (course d ds) at p a = tt

mutual
  walk_same : (V : List Word) (c d : Course) → Same V c d → (ns : List ℕ) → SameWalk V (walk c ns) (walk d ns)
  walk_same V (ends x) (ends y) a ns = (a, refl)
  walk_same V (stops i) (stops j) a ns = tt
  walk_same V (chooses at cs) (chooses p ds) a [] = missing_same V cs ds at p a.1
  walk_same V (chooses at cs) (chooses p ds) a (n ∷ ns) = into_same V cs ds a.1 (missing cs at) (missing ds p) (missing_same V cs ds at p a.1) n ns
  walk_same V (ends x) (stops j) a ns = absurd a
  walk_same V (ends x) (chooses p ds) a ns = absurd a
  walk_same V (stops j) (ends y) a ns = absurd a
  walk_same V (stops j) (chooses p ds) a ns = absurd a
  walk_same V (chooses at cs) (ends y) a ns = absurd a
  walk_same V (chooses at cs) (stops j) a ns = absurd a

  into_same : (V : List Word) (cs ds : Courses) → SameAll V cs ds → (v w : Walk) → SameWalk V v w → (n : ℕ) (ns : List ℕ) → SameWalk V (walk_into v cs n ns) (walk_into w ds n ns)
  into_same V no_courses no_courses a v w h n ns = h
  into_same V no_courses (course d ds) a v w h n ns = absurd a
  into_same V (course c cs) no_courses a v w h n ns = absurd a
  into_same V (course c cs) (course d ds) a v w h zero ns = h
  into_same V (course c cs) (course d ds) a v w h (suc zero) ns = walk_same V c d a.0 ns
  into_same V (course c cs) (course d ds) a v w h (suc (suc n)) ns = into_same V cs ds a.1 v w h (suc n) ns

walk_end : (V : List Word) (v w : Walk) → SameWalk V v w → (u : State) → v ≡ went u [] → (x : State) × (w ≡ went x []) × Agree V u x
walk_end V (went s ns) (went t ms) a u e = (t, ap (λ r. went t r) (sym a.1 ∙ ap left e), subst (λ z. Agree V z t) (ap end e) a.0)
  where
    left : Walk → List ℕ
    left (went x r) = r
    left y = ns

    end : Walk → State
    end (went x r) = x
    end y = s
walk_end V (went s ns) (failed k) a u e = absurd a
walk_end V (went s ns) (blocked at) a u e = absurd a
walk_end V (went s ns) (wanting n at) a u e = absurd a
walk_end V (failed k) w a u e = cc
walk_end V (blocked at) w a u e = cc
walk_end V (wanting n at) w a u e = cc

module _ (P : Program) where
  pc_same : (v : Actor) (s t : State) → Agree (vars P) s t → pc_of v s ≡ pc_of v t
  pc_same v s t a = λ i. read_at v.own.name.place (index v.self) (value_at (vars P) s t a pc (pc_in P) i)

  stands_same : (v : Actor) (d : Stand) (s t : State) → Agree (vars P) s t → StandsAt P s v d → StandsAt P t v d
  stands_same v d s t a h = (h.0, h.1, sym (pc_same v s t a) ∙ h.2)

  pub stutters_same : (s t s' t' : State) → Agree (vars P) s s' → Agree (vars P) t t' → Stutters P s t → Stutters P s' t'
  stutters_same s t s' t' a b h =
      (λ v k. sym (pc_same v s s' a) ∙ h.0 v k, agree_trans (vars P) s' s t' (agree_sym (vars P) s s' a) (agree_trans (vars P) s t t' h.1 b))

  module _ (placed : ReturnsInProcedures P.algorithm) where
    pub step_same : (s t s' t' : State) → Agree (vars P) s s' → Agree (vars P) t t' → Step P s t → Step P s' t'
    step_same s t s' t' a b (v, d, actor, (stands, (u, h, q))) =
        let e = has_end (vars P) (course_of P v d s) (course_of P v d s') (course_steady P placed v actor d stands.0 stands.1 s s' a) u h in
        (v, d, actor, (stands_same v d s s' a stands, (e.0, e.1, agree_trans (vars P) e.0 u t' (agree_sym (vars P) u e.0 e.2) (agree_trans (vars P) u t t' q b))))

    pub trouble_same : (s s' : State) → Agree (vars P) s s' → (v : Actor) (k : Trouble) → IsActor P v → Troubled P s v k → Troubled P s' v k
    trouble_same s s' a v k actor (inl e) = inl (sym (pc_same v s s' a) ∙ e)
    trouble_same s s' a v k actor (inr (d, stands, h)) =
        inr (d, stands_same v d s s' a stands, has_trouble (vars P) (course_of P v d s) (course_of P v d s') (course_steady P placed v actor d stands.0 stands.1 s s' a) k h)

    pub sound_same : (s s' : State) → Agree (vars P) s s' → Sound P s → Sound P s'
    sound_same s s' a h = (h.0, λ v k actor t. h.1 v k actor (trouble_same s' s (agree_sym (vars P) s s' a) v k actor t))

    -- ---- the first trouble

    at_same : (s s' : State) → Agree (vars P) s s' → (v : Actor) → IsActor P v → trouble_at P s v (pc_of v s) ≡ trouble_at P s' v (pc_of v s')
    at_same s s' a v actor = (λ i. trouble_at P s v (pc_same v s s' a i)) ∙ by (pc_of v s') refl
      where
        by_stand : (w : Value) → pc_of v s' ≡ Ok w → (o : Option Stand) → stand_named P w (routines_of P v) ≡ o → trouble_from P s v o ≡ trouble_from P s' v o
        by_stand w q None e = refl
        by_stand w q (Some d) e =
            let stands = found_stands P s' v w d q e in
            first_same (vars P) (course_of P v d s) (course_of P v d s') (course_steady P placed v actor d stands.0 stands.1 s s' a)

        by : (o : Outcome Value) → pc_of v s' ≡ o → trouble_at P s v o ≡ trouble_at P s' v o
        by (Err k) q = refl
        by (Ok w) q = by_stand w q (stand_named P w (routines_of P v)) refl

    all_same : (s s' : State) → Agree (vars P) s s' → (vs : List Actor) → ((v : Actor) → OneOf v vs → IsActor P v) → trouble_of_all P s vs ≡ trouble_of_all P s' vs
    all_same s s' a [] h = refl
    all_same s s' a (v ∷ vs) h = λ i. option_or (at_same s s' a v (h v (inl refl)) i) (all_same s s' a vs (λ w k. h w (inr k)) i)

    pub first_trouble_same : (s s' : State) → Agree (vars P) s s' → (k : Trouble) → FirstTrouble P s k → FirstTrouble P s' k
    first_trouble_same s s' a k (vs, e, h) = (vs, e, sym (all_same s s' a vs (λ v o. (vs, e, o))) ∙ h)

    -- ---- runs by a script

    reaches_same : (w : Walk) (t t' : State) → Agree (vars P) t t' → Reaches P w t → Reaches P w t'
    reaches_same w t t' b (u, e, q) = (u, e, agree_trans (vars P) u t t' q b)

    turn_same : (n : Turn) (s t s' t' : State) → Agree (vars P) s s' → Agree (vars P) t t' → StepBy P n s t → StepBy P n s' t'
    turn_same n s t s' t' a b (v, d, actor, who, stands, (u, e, q)) =
        let w = walk_end (vars P) (walk (course_of P v d s) n.choices) (walk (course_of P v d s') n.choices)
        (walk_same (vars P) (course_of P v d s) (course_of P v d s') (course_steady P placed v actor d stands.0 stands.1 s s' a) n.choices) u e in
        (v, d, actor, who, stands_same v d s s' a stands, (w.0, w.1, agree_trans (vars P) w.0 u t' (agree_sym (vars P) u w.0 w.2) (agree_trans (vars P) u t t' q b)))

    turns_same : (ns : List Turn) (s s' : State) → Agree (vars P) s s' → (ts ts' : List State) → AgreeAll (vars P) ts ts' → StepsBy P ns s ts → StepsBy P ns s' ts'
    turns_same [] s s' a [] [] b h = tt
    turns_same [] s s' a [] (t' ∷ ts') b h = absurd b
    turns_same [] s s' a (t ∷ ts) ts' b h = absurd h
    turns_same (n ∷ ns) s s' a [] ts' b h = absurd h
    turns_same (n ∷ ns) s s' a (t ∷ ts) [] b h = absurd b
    turns_same (n ∷ ns) s s' a (t ∷ ts) (t' ∷ ts') b h = (turn_same n s t s' t' a b.0 h.0, turns_same ns t t' b.0 ts ts' b.1 h.1)

    pub run_same : (choices : List ℕ) (ns : List Turn) (ss ss' : List State) → AgreeAll (vars P) ss ss' → RunOf P choices ns ss → RunOf P choices ns ss'
    run_same choices ns [] ss' b h = absurd h
    run_same choices ns (s ∷ ss) [] b h = absurd b
    run_same choices ns (s ∷ ss) (s' ∷ ss') b h = (reaches_same (walk (started P) choices) s s' b.0 h.0, turns_same ns s s' b.0 ss ss' b.1 h.1)
