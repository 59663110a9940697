-- What the reply to a list of choices tells of the course that these leave.
use Rattle.std.proofs.Common.{◌≡◌, ℕ, List, [], ◌∷◌, Option, Some, None, Result, Ok, Err, IfOk, refl, sym, ap, subst, ◌∙◌}
use Rattle.tla_token.specs.declared.place.Place.{Place}
use Rattle.tla_tree.specs.Tree.{Word}
use Rattle.tla_value.specs.Value.{Value, Outcome}
use Rattle.tla_value.specs.States.{Entries}
use Rattle.pcal_tree.specs.Calls.{label_name}
use Rattle.pcal_tree.specs.Choices.{Walk, walk, first_trouble}
use Rattle.pcal_tree.specs.FirstTrouble.{stand_named}
use Rattle.pcal_tree.specs.Program.{Program, Actor}
use Rattle.pcal_tree.specs.Run.{Course, ends, stops, chooses, no_courses, course}
use Rattle.pcal_tree.specs.Scope.{State}
use Rattle.pcal_tree.specs.Step.{pc_of, Stand, routines_of}
use Rattle.pcal_tree.specs.StepAnswers.{Reply, reached, replied, label_place}
use Rattle.step_moves.specs.declared.actor.Actor as code
use Rattle.step_moves.specs.InMemory.{actor_at}
use Rattle.step_moves.specs.StatesOf.{state_of}
use Rattle.written_runs.specs.Ways.{by_written_names, step_from_by, step_at_by, step_of_by}
use Rattle.written_runs.specs.Searches.{rest_after}
use Rattle.written_runs.specs.WrittenTroubles.{written_course, written_from, written_at, written_step}
use Rattle.written_runs.proofs.RestLaws.{rest_walked}
use Rattle.written_runs.proofs.WrittenLaws.{walks_written}
use Rattle.followed_runs.specs.declared.party.Party.{Party}
use Rattle.followed_runs.specs.Parties.{program_of}
use Rattle.step_meaning.specs.declared.halt.Halt.{Halt}
use Rattle.step_meaning.specs.Replies.{HaltsBy}
use Rattle.followed_runs.specs.declared.trying.Came.{Came}
use Rattle.followed_runs.specs.Tries.{Leads, ComesTo, step_by}

inside : {X : Type 0} {x y : X} → Some x ≡ Some y → y ≡ x
inside e = cc

-- where nothing more is chosen
leads_here : {X : Type 0} (f : State → X) (at : Place) (c : Course) → Leads (replied f at (walk c [])) c
leads_here f at (ends t) = refl
leads_here f at (stops k) = refl
leads_here f at (chooses p no_courses) = refl
leads_here f at (chooses p (course c cs)) = (p, course c cs, refl, refl)

module _ (P : Program) (v : Actor) (s : State) where
  from_leads : (ns : List ℕ) (o : Option Stand) (c : Course) → rest_after (written_from P v s o) ns ≡ Some c → Leads {X = State × Word} (step_from_by by_written_names P v s ns o) c
  from_leads [] None c e = ap first_trouble (inside e)
  from_leads (n ∷ ns) None c e = cc
  from_leads ns (Some d) c e =
      subst (λ (w : Walk). Leads {X = State × Word} (replied (λ t. (t, label_name P d.routine d.label)) (label_place d.routine d.label) w) c)
      (sym (rest_walked (written_course P v d s) c ns e) ∙ walks_written P v d s ns)
      (leads_here {X = State × Word} (λ t. (t, label_name P d.routine d.label)) (label_place d.routine d.label) c)

  at_leads : (ns : List ℕ) (o : Outcome Value) (c : Course) → rest_after (written_at P v s o) ns ≡ Some c → Leads {X = State × Word} (step_at_by by_written_names P v s ns o) c
  at_leads [] (Err k) c e = ap first_trouble (inside e)
  at_leads (n ∷ ns) (Err k) c e = cc
  at_leads ns (Ok w) c e = from_leads ns (stand_named P w (routines_of P v)) c e

  leads : (ns : List ℕ) (c : Course) → rest_after (written_step P v s) ns ≡ Some c → Leads {X = State × Word} (step_of_by by_written_names P s ns (Some v)) c
  leads ns c e = at_leads ns (pc_of v s) c e

-- ---- in code

module _ (p : Party) (a : code.Actor) (m n : Entries) (same : state_of n ≡ state_of m) (ns : List ℕ) where
  abbrev reply_from : State → Reply (State × Word)
  reply_from s = step_of_by by_written_names (program_of p) s ns (Some (actor_at p.stage.program.pool.now a))

  tells : (c : Course) → rest_after (step_by p a m) ns ≡ Some c → Leads (reply_from (state_of n)) c
  tells c e = subst (λ (s : State). Leads (reply_from s) c) (sym same) (leads (program_of p) (actor_at p.stage.program.pool.now a) (state_of m) ns c e)

  pub taken_comes : (x : State × Word) → reply_from (state_of n) ≡ reached x → (c : Course) → rest_after (step_by p a m) ns ≡ Some c → None ≡ first_trouble c
  taken_comes x q c e = sym (subst (λ (r : Reply (State × Word)). Leads r c) q (tells c e))

  pub halted_comes : {E : Type 0} (h : Halt) (r : Result Came E) → HaltsBy h (reply_from (state_of n))
      → IfOk r (λ w. (y : Reply (State × Word)) (c : Course) → HaltsBy h y → Leads y c → ComesTo w c) → IfOk r (λ w. (c : Course) → rest_after (step_by p a m) ns ≡ Some c → ComesTo w c)
  halted_comes h (Ok w) q f = λ c e. f (reply_from (state_of n)) c q (tells c e)
  halted_comes h (Err d) q f = tt
