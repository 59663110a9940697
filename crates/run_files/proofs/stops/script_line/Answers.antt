-- Proves that the line of a step is put together.
use Rattle.std.proofs.Common.{◌++◌, codes, Some, ◌∙◌, ap, sym}
use Rattle.std.specs.Fmt.{decimal}
use Rattle.step_runner.specs.Fronts.{Text}
use Rattle.run_files.proofs.StopLaws.{why_of, script_put}
use Rattle.run_files.proofs.stops.script_line.Goals as goal

pub returns : goal.returns
returns c =
    let n = c.args.step in
    let begun = c.in_ok-extend.ensures.ok ∙ ap (λ (v : Text). v ++ codes "pcal: script step ") (c.new-line.ensures ∙ c.new.ensures.items) in
    let numbered = c.in_ok-add_number.ensures ∙ ap (λ (v : Text). v ++ decimal n) begun in
    let parted = c.in_ok-extend-2.ensures.ok ∙ ap (λ (v : Text). v ++ codes ": ") numbered in
    let told = c.in_ok-add_why.ensures ∙ ap (λ (v : Text). v ++ why_of c.args.why) parted in
    let ended = c.in_ok-push.ensures.ok ∙ ap (λ (v : Text). v ++ codes "\n") told in
    script_put n c.args.why ∙ ap (λ (v : Text). Some v) (sym (c.into_bytes.ensures ∙ ended))
