-- Proves what is asked of `read_define`.
use Rattle.std.proofs.Common.{subst, arith}
use Rattle.tla_tree.specs.Reader.{Out}
use Rattle.expr_nodes.specs.Ahead.{ahead}
use Rattle.pcal_tree.specs.Grammar.{Define, defined}
use Rattle.syntax_reading.specs.TokenReaders.{first}
use Rattle.algorithm_reader.specs.PartsRead.{ReadsPart, parts_in, all_defined_at, past_all_defined}
use Rattle.algorithm_reader.proofs.MacroRounds.{define_read}
use Rattle.algorithm_reader.proofs.macros.read_define.Goals as goal

pub returns-in-Some-clause-read : goal.returns-in-Some-clause-read
returns-in-Some-clause-read g c n h =
    let v = c.args.tokens.now in
    let word = c.in-Some.ensures in
    subst (λ (o : Out Define). ReadsPart all_defined_at past_all_defined defined v c.definitions.new.pool c.definitions.result o) (define_read (g.W.Ways.readers (parts_in v)) n v c.args.at c.in-Some.next word.there word.rest)
    (c.definitions.ensures.read n (first (ahead v c.args.at)).place (omega (arith, h, word.further)))
