-- Proves that the line of a state is put together.
use Rattle.std.proofs.Common.{◌≡◌, ◌++◌, codes, ◌∙◌, ap, List, ℕ, Bor}
use Rattle.std.specs.Fmt.{decimal}
use Rattle.step_runner.specs.Fronts.{Text}
use Rattle.step_runner.specs.StopLines.{state_line}
use Rattle.run_files.proofs.StopLaws.{initial_put, step_put}
use Rattle.run_files.proofs.stops.state_line.Goals.{then-number-eq0, else-number-eq0}
use Rattle.run_files.proofs.stops.state_line.Goals as goal

pub returns : goal.returns
returns c =
    let n = c.args.number in
    let front : Text = codes "pcal: state " ++ decimal n in
    let begun = c.in_ok-extend.ensures.ok ∙ ap (λ (v : Text). v ++ codes "pcal: state ") (c.new-line.ensures ∙ c.new.ensures.items) in
    let numbered = c.in_ok-add_number.ensures ∙ ap (λ (v : Text). v ++ decimal n) begun in
    let whole = c.into_bytes.ensures ∙ (c.in_ok-extend-2.ensures.ok ∙ ap (λ (v : Text). v ++ c.if-number-eq0.extend.now) numbered) in
    let ended : front ++ c.if-number-eq0.extend.now ≡ state_line n = elim c.if-number-eq0.branch [
      | then-number-eq0 w ↦ ap (λ (b : Bor (List ℕ)). front ++ b.now) w.extend-is ∙ initial_put n w.if-number-eq0.true
      | else-number-eq0 w ↦ ap (λ (b : Bor (List ℕ)). front ++ b.now) w.extend-is ∙ step_put n w.if-number-eq0.false
    ] in
    whole ∙ ended
