use Rattle.std.proofs.Common.{◌≡◌, length, drop, codes, sym, ◌∙◌, is_some}
use Rattle.std.proofs.lemmas.List.{take_rest}
use Rattle.tla_token.specs.Lexemes.{is_blank}
use Rattle.tla_token.specs.Cut.{run}
use Rattle.module_tree.specs.TextFront.{on_some, past_word, past_all}
use Rattle.module_split.proofs.BeginningSteps.{options_yes}
use Rattle.module_split.proofs.beginning.has_options.Goals as goal

pub returns-then-blanks-gt0 : goal.returns-then-blanks-gt0
returns-then-blanks-gt0 c =
    let t = c.args.text.now in
    let n = c.blank_len-blanks.result in
    let e : n ≡ length (run is_blank (drop 7 t)) = rw take_rest at c.blank_len-blanks.ensures.value in
    let g : c.opens_options.result ≡ is_some (on_some (past_word (codes "options") (drop n (drop 7 t))) (λ r. past_word (codes "(") (past_all is_blank r))) = simp take_rest at c.opens_options.ensures in
    options_yes t n c.opens_options.result (sym c.starts_with.ensures.value ∙ c.if-not-starts_with.false) e c.if-blanks-gt0.true g
