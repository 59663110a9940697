use Rattle.std.proofs.Common.{◌≡◌, drop, is_some, ◌∙◌}
use Rattle.std.proofs.lemmas.List.{take_rest}
use Rattle.module_tree.specs.TextFront.{past_name}
use Rattle.module_split.proofs.BeginningSteps.{named_yes}
use Rattle.module_split.proofs.beginning.is_named.Goals as goal

pub returns-then-blanks-gt0 : goal.returns-then-blanks-gt0
returns-then-blanks-gt0 c =
    let t = c.args.text.now in
    let n = c.blank_len-blanks.result in
    let h : c.has_name.result ≡ is_some (past_name (drop n t)) = rw take_rest at c.has_name.ensures in
    h ∙ named_yes t n c.blank_len-blanks.ensures.value c.if-blanks-gt0.true
