-- Proves what is asked of `write_in`.
use Rattle.std.proofs.Common.{◌++◌, ap, ◌∙◌, sym}
use Rattle.pcal_tree.specs.Printed.{opening, algorithm_word}
use Rattle.pcal_tree.specs.InMemory.{algorithm_at}
use Rattle.pcal_tree.specs.Syntaxes.{syntax_of}
use Rattle.syntax_print.specs.Adding.{behind, lines_behind}
use Rattle.syntax_print.proofs.Units.{first_and_behind}
use Rattle.syntax_print.proofs.write_algorithm.write_in.Goals as goal

pub returns : goal.returns
returns c =
    let s = syntax_of c.args.syntax in
    let a = algorithm_at c.args.pool.now c.args.algorithm.now in
    c.into_bytes.ensures ∙ c.in_ok-write_rest.ensures ∙ ap (λ w. w ++ behind (lines_behind s a)) (c.in_ok-write_first_line.ensures ∙ ap (λ w. w ++ (algorithm_word a.fair ++ opening s a.name.word)) (c.new-text.ensures ∙ c.new.ensures.items)) ∙ sym (first_and_behind (algorithm_word a.fair ++ opening s a.name.word) (lines_behind s a))
