-- Proves that the text of a state is put together.
use Rattle.std.proofs.Common.{◌++◌, codes, ◌∙◌, ap}
use Rattle.std.specs.Fmt.{decimal}
use Rattle.std.specs.List.{flat_map}
use Rattle.std.proofs.lemmas.Result.{on_ok_weaker}
use Rattle.step_runner.specs.Fronts.{Text}
use Rattle.step_runner.specs.Shown.{before_text, variable_text}
use Rattle.step_runner.specs.Explained.{state_of}
use Rattle.run_files.specs.InMemory.{before_of}
use Rattle.run_files.proofs.StateLaws.{state_put}
use Rattle.run_files.proofs.state.add_state.Goals as goal

pub returns : goal.returns
returns c =
    let xs = c.args.names.now in
    let b = before_of c.args.before in
    let s = state_of c.args.state.now in
    let numbered = c.in_ok-add_number.ensures ∙ ap (λ (v : Text). v ++ decimal c.args.number) c.in_ok-extend.ensures.ok in
    let parted = c.in_ok-extend-2.ensures.ok ∙ ap (λ (v : Text). v ++ codes ": ") numbered in
    let told = c.in_ok-add_before.ensures ∙ ap (λ (v : Text). v ++ before_text b) parted in
    let ended = c.in_ok-push.ensures.ok ∙ ap (λ (v : Text). v ++ codes "\n") told in
    let whole = ap (λ (v : Text). v ++ flat_map (variable_text s) xs) ended in
    on_ok_weaker c.add_variables.result (λ h P e. h ∙ (whole ∙ state_put P xs c.args.out.now c.args.number b s e)) c.add_variables.ensures
