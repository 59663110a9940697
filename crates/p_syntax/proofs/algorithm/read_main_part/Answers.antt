-- Proves what is asked of `read_main_part`.
use Rattle.std.proofs.Common.{subst, arith}
use Rattle.expr_nodes.specs.Ahead.{ahead}
use Rattle.pcal_tree.specs.InMemory.{main_at, past_main}
use Rattle.pcal_tree.specs.Grammar.{main_tree}
use Rattle.syntax_reading.specs.TokenReaders.{first}
use Rattle.algorithm_reader.specs.PartsRead.{ReadsPart, parts_in}
use Rattle.p_syntax.proofs.MainParts.{main_is_list, main_is_processes}
use Rattle.p_syntax.proofs.algorithm.read_main_part.Goals as goal

pub returns-in-Some-clause-read : goal.returns-in-Some-clause-read
returns-in-Some-clause-read c n e =
    let v = c.args.tokens.now in
    let word = c.in-Some.ensures in
    subst (ReadsPart main_at past_main main_tree v c.read_main_list.new.pool c.read_main_list.result) (main_is_list (parts_in v) n v c.args.at c.in-Some.next word.there word.rest)
    (c.read_main_list.ensures.read n (first (ahead v c.args.at)).place (omega (arith, e, word.further)))

pub returns-in-None-clause-read : goal.returns-in-None-clause-read
returns-in-None-clause-read c n e =
    let v = c.args.tokens.now in
    subst (ReadsPart main_at past_main main_tree v c.read_main_processes.new.pool c.read_main_processes.result) (main_is_processes (parts_in v) n (ahead v c.args.at) c.in-None.ensures.none) (c.read_main_processes.ensures.read n e)
