-- What a step from a label comes to: its statements, and then the jump to their exit where they fall through.
use Rattle.std.proofs.Common.{◌≡◌, ℕ, List, [], drop, Bool, true, false, Result, Ok, Err, sym, ap, subst, ◌∙◌, true≢false}
use Rattle.std.specs.Result.{IsErr, IsErrAnd}
use Rattle.pcal_tree.specs.Algorithm.{Routine}
use Rattle.pcal_tree.specs.Choices.{Walk, went, walk}
use Rattle.pcal_tree.specs.Program.{Actor}
use Rattle.pcal_tree.specs.Run.{no_partner, Rules}
use Rattle.pcal_tree.specs.Scope.{State}
use Rattle.pcal_tree.specs.Step.{Stand}
use Rattle.action_builder.specs.laws.WrittenScope.{written_scope}
use Rattle.step_walks.specs.Flows.{Flow, falls, halts, finish}
use Rattle.step_walks.specs.StepFlows.{flow}
use Rattle.step_walks.specs.WrittenCalls.{written_rules}
use Rattle.step_walks.specs.WrittenFlows.{written_flow_by}
use Rattle.step_moves.specs.Programs.{program_at}
use Rattle.step_moves.specs.declared.program.Program as program
use Rattle.step_spots.specs.Targets.{target_word}
use Rattle.step_spots.specs.declared.walk.Spot.{Spot}
use Rattle.step_moves.specs.StatesOf.{state_of}
use Rattle.step_moves.specs.ScopeIn.{scope_in}
use Rattle.step_choices.specs.declared.pause.Pause.{Pause}
use Rattle.step_choices.specs.declared.pause.Pause.TheVariants as pause
use Rattle.step_choices.specs.Pauses.{Pauses}
use Rattle.step_moves.specs.declared.runner.Runner.{Runner}
use Rattle.step_flow.specs.declared.going.End.{End}
use Rattle.step_flow.specs.declared.going.End.TheVariants as end
use Rattle.step_flow.specs.declared.going.Going.{Going}
use Rattle.step_flow.specs.Ends.{Ends, left_of, list_from, jump_from}
use Rattle.step_meaning.specs.declared.stands.Stand as code
use Rattle.step_meaning.specs.StandsAt.{stand_at, prepared_at}
use Rattle.step_meaning.specs.Walks.{walk_of, PausesWalk, Walks}

-- ---- a pause

pub finish_pauses : {X : Type 0} (p : Pause) (f : Flow X) (go : X → List ℕ → Walk) → Pauses p f → PausesWalk p (finish f go)
finish_pauses pause.Memory f go h = tt
finish_pauses (pause.Fault k p) f go h = ap (λ q. finish q go) h
finish_pauses (pause.Limit p) f go h = ap (λ q. finish q go) h
finish_pauses (pause.Held p) f go h = ap (λ q. finish q go) h
finish_pauses (pause.Wants n p) f go h = ap (λ q. finish q go) h

abbrev walk_in : Walk → Flow State → Walk
walk_in d (halts w) = w
walk_in d (falls s ns) = d

jump_pauses : (p : Pause) (w : Walk) → Pauses {X = State} p (halts w) → PausesWalk p w
jump_pauses pause.Memory w h = tt
jump_pauses (pause.Fault k p) w h = ap (walk_in w) h
jump_pauses (pause.Limit p) w h = ap (walk_in w) h
jump_pauses (pause.Held p) w h = ap (walk_in w) h
jump_pauses (pause.Wants n p) w h = ap (walk_in w) h

-- a `?` passes the pause on
pub err_walks : {X : Type 0} (r : Result X Pause) (p : Pause) (g : Going) (choices : List ℕ) (w : Walk) → IsErr r × IsErrAnd r (λ e. e ≡ p) → PausesWalk p w → Walks r g choices w
err_walks (Ok x) p g choices w h e = cc
err_walks (Err q) p g choices w h e = subst (λ t. PausesWalk t w) (sym h.1) e

-- ---- the end of the statements

abbrev does_fall : Flow State → Bool
does_fall (falls s ns) = true
does_fall (halts w) = false

jump_walks : (e : End) (g : Going) (choices : List ℕ) (w : Walk) → Ends (Ok e) g choices (halts w) → w ≡ went (state_of g.state) (left_of choices g)
jump_walks end.Falls g choices w h = absurd (true≢false (sym (ap does_fall h)))
jump_walks end.Over g choices w h = ap (walk_in w) h

module _ (r : Runner) (v : Actor) (u : Routine) (s : Spot) (choices : List ℕ) where
  abbrev M : Rules
  M = written_rules (program_at r.program) [] v u

  abbrev from : Going → Flow State
  from g = list_from r v u s.label.now.word s.items.now (target_word s.exit) no_partner g choices

  abbrev onto : State → List ℕ → Walk
  onto t ms = walk (M.goto (target_word s.exit) t) ms

  pub walks_over : (g h : Going) (e : End) → e ≡ end.Over → Ends (Ok e) h choices (from g) → walk_of r v u s g choices ≡ went (state_of h.state) (left_of choices h)
  walks_over g h e is k = ap (λ (f : Flow State). finish f onto) (subst (λ (d : End). Ends (Ok d) h choices (from g)) is k)

  falls_on : (g h : Going) (e : End) → e ≡ end.Falls → Ends (Ok e) h choices (from g) → walk_of r v u s g choices ≡ onto (state_of h.state) (left_of choices h)
  falls_on g h e is k = ap (λ (f : Flow State). finish f onto) (subst (λ (d : End). Ends (Ok d) h choices (from g)) is k)

  pub walks_on : (g h i : Going) (e d : End) → e ≡ end.Falls → Ends (Ok e) h choices (from g) → Ends (Ok d) i choices (jump_from r v u (target_word s.exit) h choices) → walk_of r v u s g choices ≡ went (state_of i.state) (left_of choices i)
  walks_on g h i e d is k l = falls_on g h e is k ∙ jump_walks d i choices _ l

  pub jump_stops : (g h i : Going) (e : End) (p : Pause) → e ≡ end.Falls → Ends (Ok e) h choices (from g) → Ends (Err p) i choices (jump_from r v u (target_word s.exit) h choices) → PausesWalk p (walk_of r v u s g choices)
  jump_stops g h i e p is k l = subst (PausesWalk p) (sym (falls_on g h e is k)) (jump_pauses p _ l)

-- ---- the whole

-- what a step comes to from a label whose statements are prepared
pub stand_walks : (r : Runner) (v : Actor) (one : code.Stand) (d : Stand) (g : Going) (choices : List ℕ) → stand_at r.program.pool.now one ≡ prepared_at (program_at r.program) d
    → scope_in (program_at r.program) g.bound.names.items g.bound.values.items ≡ written_scope (program_at r.program) [] v → g.used ≡ 0
    → walk_of r v d.routine one.spot g choices ≡ written_flow_by (program_at r.program) [] v d (state_of g.state) choices
stand_walks r v one d g choices is bound fresh =
    let M : Rules = written_rules (program_at r.program) [] v d.routine in
    let label = ap (λ (x : Stand). x.label) is in
    let items = ap (λ (x : Stand). x.begins.items) is in
    let exit = ap (λ (x : Stand). x.begins.exit) is in
    λ k. finish (flow M (label k) (items k) (bound k) (exit k) no_partner (state_of g.state) (drop (fresh k) choices)) (λ t ms. walk (M.goto (exit k) t) ms)

-- of a program that is known to be the runner's
pub stand_walks_by : (r : Runner) (v : Actor) (one : code.Stand) (d : Stand) (g : Going) (choices : List ℕ) (p : program.Program) → r.program ≡ p → stand_at p.pool.now one ≡ prepared_at (program_at p) d
    → scope_in (program_at p) g.bound.names.items g.bound.values.items ≡ written_scope (program_at p) [] v → g.used ≡ 0
    → walk_of r v d.routine one.spot g choices ≡ written_flow_by (program_at p) [] v d (state_of g.state) choices
stand_walks_by r v one d g choices p e is bound fresh =
    subst (λ (q : program.Program). stand_at q.pool.now one ≡ prepared_at (program_at q) d → scope_in (program_at q) g.bound.names.items g.bound.values.items ≡ written_scope (program_at q) [] v → walk_of r v d.routine one.spot g choices ≡ written_flow_by (program_at q) [] v d (state_of g.state) choices)
    e (λ k l. stand_walks r v one d g choices k l fresh) is bound
