-- A step by the written names has courses, in whose first trouble an accepted algorithm's meet the definition's.
use Rattle.std.proofs.Common.{◌≡◌, ◌≤◌, ◌+◌, ℕ, List, [], ◌∷◌, Option, Some, None, Ok, Err, refl, sym, ◌∙◌, inl, inr, arith}
use Rattle.std.specs.Option.{option_or}
use Rattle.tla_value.specs.Definitions.{Valuation}
use Rattle.tla_value.specs.Outside.{Outside}
use Rattle.tla_value.specs.Stops.{Check}
use Rattle.tla_value.specs.Value.{Value, Outcome}
use Rattle.pcal_tree.specs.Algorithm.{Algorithm}
use Rattle.pcal_tree.specs.Scope.{State}
use Rattle.pcal_tree.specs.Run.{exit_to}
use Rattle.pcal_tree.specs.Choices.{walk, first_trouble}
use Rattle.pcal_tree.specs.Program.{Program, Actor}
use Rattle.pcal_tree.specs.Programs.{program_in}
use Rattle.pcal_tree.specs.Processes.{actors, OneOf, IsActor}
use Rattle.pcal_tree.specs.Step.{pc_of, Stand, routines_of, StandsAt, course_of}
use Rattle.pcal_tree.specs.FirstTrouble.{stand_named, trouble_from, trouble_at, trouble_of_all}
use Rattle.pcal_tree.proofs.TroubleLaws.{found_stands}
use Rattle.action_builder.specs.laws.WrittenScope.{written_scope}
use Rattle.translation.specs.laws.AcceptedAlgorithm.{IsAcceptedInFile}
use Rattle.translation.specs.laws.AcceptedLaws.{Stance}
use Rattle.accepted_steps.proofs.StepsFlow.{written_steps_flow}
use Rattle.step_walks.specs.WrittenCalls.{written_rules}
use Rattle.step_walks.specs.WrittenFlows.{own_statements}
use Rattle.step_walks.proofs.StepLaws.{list_flows}
use Rattle.written_runs.specs.Ways.{by_written_names}
use Rattle.written_runs.specs.Searches.{weight, found}
use Rattle.written_runs.specs.WrittenTroubles.{written_course, written_from, written_at, written_step, written_trouble_of_all, searched_from, searched_at, searched_of_all}
use Rattle.written_runs.proofs.SearchLaws.{finds, same_first}

pub walks_written : (P : Program) (v : Actor) (d : Stand) (s : State) (ns : List ℕ) → walk (written_course P v d s) ns ≡ by_written_names.step P v d s ns
walks_written P v d s ns =
    let M = written_rules P [] v d.routine in
    list_flows M (λ here at m ts sc K t. refl) d.label (own_statements P d.routine d.begins.items) (written_scope P [] v) (exit_to M d.begins.exit) s ns

-- ---- a search

module _ (P : Program) (s : State) where
  from_searched : (v : Actor) (n : ℕ) (o : Option Stand) → weight (written_from P v s o) ≤ n → searched_from by_written_names P v s n o ≡ first_trouble (written_from P v s o)
  from_searched v n None h = refl
  from_searched v n (Some d) h = (λ i. found n (λ ns. sym (walks_written P v d s ns) i)) ∙ finds (written_course P v d s) n h

  at_searched : (v : Actor) (n : ℕ) (o : Outcome Value) → weight (written_at P v s o) ≤ n → searched_at by_written_names P v s n o ≡ first_trouble (written_at P v s o)
  at_searched v n (Err k) h = refl
  at_searched v n (Ok w) h = from_searched v n (stand_named P w (routines_of P v)) h

  -- how deep it has to go
  abbrev depth : List Actor → ℕ
  depth [] = 0
  depth (v ∷ vs) = weight (written_step P v s) + depth vs

  all_searched : (vs : List Actor) (n : ℕ) → depth vs ≤ n → searched_of_all by_written_names P s n vs ≡ written_trouble_of_all P s vs
  all_searched [] n h = refl
  all_searched (v ∷ vs) n h = λ i. option_or (at_searched v n (pc_of v s) (omega (arith, h)) i) (all_searched vs n (omega (arith, h)) i)

-- ---- accepted algorithms

module _ (c : Check) (o : Outside) (g : Algorithm) (h : IsAcceptedInFile o g) (values : Valuation) (s : State) where
  abbrev P : Program
  P = program_in c o g values

  course_same : (v : Actor) (d : Stand) → IsActor P v → StandsAt P s v d → first_trouble (written_course P v d s) ≡ first_trouble (course_of P v d s)
  course_same v d a p =
      let stance : Stance P v d = record { actor = a; routine = p.0; label = p.1 } in
      same_first (written_course P v d s) (course_of P v d s) (λ ns. walks_written P v d s ns ∙ sym (written_steps_flow c c o g h values v d stance s ns))

  from_same : (v : Actor) → IsActor P v → (r : Option Stand) → ((d : Stand) → r ≡ Some d → StandsAt P s v d) → first_trouble (written_from P v s r) ≡ trouble_from P s v r
  from_same v a None f = refl
  from_same v a (Some d) f = course_same v d a (f d refl)

  at_same : (v : Actor) → IsActor P v → (r : Outcome Value) → pc_of v s ≡ r → first_trouble (written_at P v s r) ≡ trouble_at P s v r
  at_same v a (Err k) p = refl
  at_same v a (Ok w) p = from_same v a (stand_named P w (routines_of P v)) (λ d e. found_stands P s v w d p e)

  each_same : (vs : List Actor) → ((v : Actor) → OneOf v vs → IsActor P v) → written_trouble_of_all P s vs ≡ trouble_of_all P s vs
  each_same [] f = refl
  each_same (v ∷ vs) f = λ i. option_or (at_same v (f v (inl refl)) (pc_of v s) refl i) (each_same vs (λ w k. f w (inr k)) i)

  pub all_same : (vs : List Actor) → actors P ≡ Ok vs → written_trouble_of_all P s vs ≡ trouble_of_all P s vs
  all_same vs q = each_same vs (λ v k. (vs, q, k))

  pub searched : (vs : List Actor) → actors P ≡ Ok vs → (least : ℕ) × ((n : ℕ) → least ≤ n → searched_of_all by_written_names P s n vs ≡ trouble_of_all P s vs)
  searched vs q = (depth P s vs, λ n k. all_searched P s vs n k ∙ all_same vs q)
