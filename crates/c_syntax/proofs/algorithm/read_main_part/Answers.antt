-- Proves what is asked of `read_main_part`.
use Rattle.std.proofs.Common.{sym, subst, ◌∙◌}
use Rattle.expr_nodes.specs.Ahead.{ahead}
use Rattle.pcal_tree.specs.InMemory.{main_at, past_main}
use Rattle.pcal_tree.specs.Grammar.{main_tree}
use Rattle.algorithm_reader.specs.PartsRead.{ReadsPart, parts_in}
use Rattle.c_syntax.proofs.MainBlock.{main_is_processes}
use Rattle.c_syntax.proofs.algorithm.read_main_part.Goals as goal

pub read_main_block-requires-clause-block : goal.read_main_block-requires-clause-block
read_main_block-requires-clause-block c = sym c.is_next_mark.ensures ∙ c.if-is_next_mark.true

pub returns-else-is_next_mark-clause-read : goal.returns-else-is_next_mark-clause-read
returns-else-is_next_mark-clause-read c n e =
    let v = c.args.tokens.now in
    subst (ReadsPart main_at past_main main_tree v c.read_main_processes.new.pool c.read_main_processes.result) (sym (main_is_processes (parts_in v) n (ahead v c.args.at) (sym c.is_next_mark.ensures ∙ c.if-is_next_mark.false))) (c.read_main_processes.ensures.read n e)
