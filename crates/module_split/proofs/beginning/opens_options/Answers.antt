use Rattle.std.proofs.Common.{◌≡◌, length, drop, codes, sym, ◌∙◌}
use Rattle.std.proofs.lemmas.List.{take_rest}
use Rattle.tla_token.specs.Lexemes.{is_blank}
use Rattle.tla_token.specs.Cut.{run}
use Rattle.module_tree.specs.TextFront.{begins}
use Rattle.module_split.proofs.BeginningSteps.{opens_yes}
use Rattle.module_split.proofs.beginning.opens_options.Goals as goal

pub returns : goal.returns
returns c =
    let t = c.args.text.now in
    let n = c.blank_len.result in
    let e : n ≡ length (run is_blank (drop 7 t)) = rw take_rest at c.blank_len.ensures.value in
    let g : c.starts_with-2.result ≡ begins (drop n (drop 7 t)) (codes "(") = simp take_rest at c.starts_with-2.ensures.value in
    opens_yes t n c.starts_with-2.result (sym c.starts_with.ensures.value ∙ c.if-not-starts_with.false) e g
