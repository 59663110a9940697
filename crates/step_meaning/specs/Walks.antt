-- What comes of the statements after a label, up to the end of the step.
use Rattle.std.specs.Prelude.{◌≡◌, ℕ, List, [], Ok, Err, Result}
use Rattle.tla_value.specs.Value.{fault, over}
use Rattle.pcal_tree.specs.Algorithm.{Routine}
use Rattle.pcal_tree.specs.Choices.{Walk, went, failed, blocked, wanting, walk}
use Rattle.pcal_tree.specs.Program.{Actor}
use Rattle.pcal_tree.specs.Run.{no_partner}
use Rattle.step_walks.specs.Flows.{finish}
use Rattle.step_walks.specs.WrittenCalls.{written_rules}
use Rattle.step_moves.specs.Programs.{program_at}
use Rattle.step_spots.specs.declared.walk.Spot.{Spot}
use Rattle.step_spots.specs.Targets.{target_word}
use Rattle.step_moves.specs.StatesOf.{state_of}
use Rattle.step_choices.specs.declared.pause.Pause.{Pause}
use Rattle.step_choices.specs.declared.pause.Pause.TheVariants as pause
use Rattle.step_moves.specs.declared.runner.Runner.{Runner}
use Rattle.step_flow.specs.declared.going.Going.{Going}
use Rattle.step_flow.specs.Ends.{left_of, list_from}

-- from there, with a jump to their exit where they fall through
abbrev pub walk_of : Runner → Actor → Routine → Spot → Going → List ℕ → Walk
walk_of r v u s g choices =
    finish (list_from r v u s.label.now.word s.items.now (target_word s.exit) no_partner g choices)
    (λ t ms. walk ((written_rules (program_at r.program) [] v u).goto (target_word s.exit) t) ms)

abbrev pub PausesWalk : Pause → Walk → Type 0
PausesWalk pause.Memory w = Unit {0}
PausesWalk (pause.Fault k p) w = w ≡ failed (fault k p)
PausesWalk (pause.Limit p) w = w ≡ failed (over p)
PausesWalk (pause.Held p) w = w ≡ blocked p
PausesWalk (pause.Wants n p) w = w ≡ wanting n p

abbrev pub Walks : {X : Type 0} → Result X Pause → Going → List ℕ → Walk → Type 0
Walks (Ok x) g choices w = w ≡ went (state_of g.state) (left_of choices g)
Walks (Err p) g choices w = PausesWalk p w
