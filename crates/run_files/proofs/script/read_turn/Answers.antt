-- Proves what is asked of `read_turn`.
use Rattle.std.proofs.Common.{List, ℕ, sym, ap, ◌∙◌, codes}
use Rattle.std.specs.Prelude.{option_and_then}
use Rattle.step_runner.specs.Fronts.{next_at, past, choices_from}
use Rattle.run_files.specs.Lines.{listed}
use Rattle.run_files.proofs.TurnLaws.{no_choices}
use Rattle.run_files.proofs.script.read_turn.Goals as goal

pub returns-in-None-3 : goal.returns-in-None-3
returns-in-None-3 c =
    let l = c.args.line.now in
    let w = rw c.in-Some-2.is at c.in_ok-found.ensures in
    no_choices c.args.multi l c.in-Some.from c.in-Some-2.found.1 c.in-Some-2.found.0
    (c.in-Some.ensures.value ∙ ap (λ (w : List ℕ). past w l c.next_at.result) c.as_slice.ensures ∙ ap (past (codes "step") l) c.next_at.ensures.0)
    w.0
    (sym (ap listed c.in-None-3.is) ∙ c.in_ok-choices.ensures ∙ ap (λ (w : List ℕ). option_and_then (choices_from l) (past w l (next_at l c.in-Some-2.found.1))) c.as_slice-2.ensures)
