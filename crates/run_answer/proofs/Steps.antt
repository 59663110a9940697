-- The processes, and what comes of a step, under limits.
use Rattle.std.proofs.Common.{ℕ, suc, List, [], ◌∷◌, ◌++◌, map, reverse, Option, Some, None, Ok, Err, refl, ap, subst}
use Rattle.tla_token.specs.declared.place.Place.{Place}
use Rattle.tla_tree.specs.Tree.{root_place}
use Rattle.tla_value.specs.Value.{Value, set, Outcome, fault, over}
use Rattle.tla_value.specs.Order.{set_from}
use Rattle.tla_value.specs.Limits.{bounded}
use Rattle.tla_value.specs.Stops.{plain}
use Rattle.tla_value.specs.Definitions.{no_state}
use Rattle.tla_value.specs.laws.UnderLimits.{Below}
use Rattle.tla_value.proofs.Below.{eval_below, scope_below}
use Rattle.pcal_tree.specs.Algorithm.{Process, Main, alone, processes, first_process}
use Rattle.pcal_tree.specs.Scope.{State}
use Rattle.pcal_tree.specs.Run.{exit_to}
use Rattle.pcal_tree.specs.Choices.{Walk, went, failed, blocked, wanting, walk}
use Rattle.pcal_tree.specs.Program.{Program, Actor, inner, common_env, routine_scope}
use Rattle.pcal_tree.specs.Calls.{label_name, rules_of, rules_without_macros}
use Rattle.pcal_tree.specs.Processes.{one_value, identifiers_of, all_actors, identifiers, apart, last_place, united, actors_in, actors}
use Rattle.pcal_tree.specs.Step.{pc_of, Stand, routines_of, course_of}
use Rattle.pcal_tree.specs.FirstTrouble.{stand_named}
use Rattle.pcal_tree.specs.StepAnswers.{Reply, reached, held_at, no_label, needs_choice, too_many_choices, stopped_by, replied, label_place, step_from, step_at, with_self, step_of, step_in, stepped}
use Rattle.run_answer.specs.LimitedRuns.{under, WalkBelow, ReplyBelow}
use Rattle.run_answer.proofs.Outcomes.{CourseBelow, below_same, below_then, reached_below}
use Rattle.run_answer.proofs.Scopes.{routine_below}
use Rattle.run_answer.proofs.Statements.{list_below, macros_below}
use Rattle.run_answer.proofs.Calls.{rules_below}

-- ---- replies

pub reply_same : {X : Type 0} (r : Reply X) → ReplyBelow r r
reply_same (reached x) = refl
reply_same (held_at at) = refl
reply_same no_label = refl
reply_same (needs_choice n at) = refl
reply_same (too_many_choices at) = refl
reply_same (stopped_by (fault k p)) = refl
reply_same (stopped_by (over p)) = tt

pub replied_below : {X : Type 0} (f : State → X) (at : Place) (w u : Walk) → WalkBelow w u → ReplyBelow (replied f at w) (replied f at u)
replied_below f at (went t []) u h = subst (λ (w : Walk). ReplyBelow (reached (f t)) (replied f at w)) h refl
replied_below f at (went t (n ∷ ns)) u h = ap (replied f at) h
replied_below f at (failed (fault k p)) u h = ap (replied f at) h
replied_below f at (failed (over p)) u h = tt
replied_below f at (blocked p) u h = ap (replied f at) h
replied_below f at (wanting n p) u h = ap (replied f at) h

module _ (P : Program) where
  abbrev B : Program
  B = under bounded P

  abbrev F : Program
  F = under plain P

  -- ---- processes

  identifiers_below : (p : Process) → Below (identifiers_of B p) (identifiers_of F p)
  identifiers_below p =
      below_then _ _ _ _ (eval_below p.identity (common_env B no_state) (common_env F no_state) (scope_below P.constants (P.outside ++ map inner P.algorithm.definitions) no_state no_state)).value
      (λ v. below_same (one_value p.several (root_place p.identity) v))

  all_below : (n : ℕ) (ps : List Process) → Below (all_actors B n ps) (all_actors F n ps)
  all_below n [] = refl
  all_below n (p ∷ ps) = below_then _ _ _ _ (identifiers_below p) (λ vs. below_then _ _ _ _ (all_below (suc n) ps) (λ more. refl))

  united_below : (at : Place) (vs : List Actor) → Below (united B at vs) (united F at vs)
  united_below at vs = below_then _ _ _ _ (reached_below at (set (set_from (identifiers vs)))) (λ w. refl)

  main_below : (m : Main) → Below (actors_in B m) (actors_in F m)
  main_below (alone ss) = refl
  main_below (processes ps) =
      below_then _ _ _ _ (all_below (first_process P.algorithm) ps)
      (λ vs. below_then _ _ _ _ (below_same (apart [] vs)) (λ ws. below_then _ _ _ _ (united_below (last_place P.algorithm.name.place ps) ws) (λ us. refl)))

  pub actors_below : Below (actors B) (actors F)
  actors_below = main_below P.algorithm.main

  -- ---- a step

  pub course_below : (v : Actor) (d : Stand) (s : State) → CourseBelow (course_of B v d s) (course_of F v d s)
  course_below v d s =
      let u = d.routine in
      let parts = rules_below P v u in
      list_below (rules_of B v u) (rules_of F v u) (record { goto = parts.goto; call = parts.call; return = parts.return })
      (macros_below (rules_without_macros B v u) (rules_without_macros F v u) parts (reverse P.algorithm.macros)) d.label d.begins.items (routine_scope B v u) (routine_scope F v u)
      (exit_to (rules_of B v u) d.begins.exit) (exit_to (rules_of F v u) d.begins.exit) s (routine_below P v u) (record { label = refl; partner = refl; goes = parts.goto d.begins.exit })

  from_below : (v : Actor) (s : State) (ns : List ℕ) (o : Option Stand) → ReplyBelow (step_from B v s ns o) (step_from F v s ns o)
  from_below v s ns None = refl
  from_below v s ns (Some d) =
      replied_below (λ t. (t, label_name P d.routine d.label)) (label_place d.routine d.label) (walk (course_of B v d s) ns) (walk (course_of F v d s) ns) (course_below v d s ns)

  at_below : (v : Actor) (s : State) (ns : List ℕ) (o : Outcome Value) → ReplyBelow (step_at B v s ns o) (step_at F v s ns o)
  at_below v s ns (Err (fault k p)) = refl
  at_below v s ns (Err (over p)) = tt
  at_below v s ns (Ok w) = from_below v s ns (stand_named P w (routines_of P v))

  of_below : (s : State) (ns : List ℕ) (o : Option Actor) → ReplyBelow (step_of B s ns o) (step_of F s ns o)
  of_below s ns None = refl
  of_below s ns (Some v) = at_below v s ns (pc_of v s)

  in_below : (s : State) (who : Option Value) (ns : List ℕ) (o q : Outcome (List Actor)) → Below o q → ReplyBelow (step_in B s who ns o) (step_in F s who ns q)
  in_below s who ns (Ok vs) q h = subst (λ (o : Outcome (List Actor)). ReplyBelow (step_in B s who ns (Ok vs)) (step_in F s who ns o)) h (of_below s ns (with_self who vs))
  in_below s who ns (Err (fault k p)) q h = ap (step_in F s who ns) h
  in_below s who ns (Err (over p)) q h = tt

  pub stepped_below : (s : State) (who : Option Value) (ns : List ℕ) → ReplyBelow (stepped B s who ns) (stepped F s who ns)
  stepped_below s who ns = in_below s who ns (actors B) (actors F) actors_below
