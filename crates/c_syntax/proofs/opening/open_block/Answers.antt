-- Proves what is asked of `open_block`.
use Rattle.std.proofs.Common.{◌<◌, sym, ap, ◌∙◌, arith}
use Rattle.tla_token.specs.Limits.{deepest_statement}
use Rattle.tla_tree.specs.Reader.{gives}
use Rattle.expr_nodes.proofs.AheadLemmas.{ahead_tail}
use Rattle.expr_nodes.specs.Ahead.{ahead}
use Rattle.syntax_reading.specs.TokenReaders.{first}
use Rattle.algorithm_reader.proofs.StatementSteps.{fits_within}
use Rattle.c_reading.specs.ReadStatements.{Turn, opens, in_block, none, depth}
use Rattle.c_syntax.proofs.Steps.{block_stands}
use Rattle.c_syntax.proofs.opening.open_block.Goals as goal

pub returns-clause-read : goal.returns-clause-read
returns-clause-read c ts n ls st enough h =
    let v = c.args.tokens.now in
    let p = (first (ahead v c.args.at)).place in
    let few : depth st < deepest_statement = omega (arith, c.in_ok-depth.ensures.few, h.depth) in
    let said = c.in_ok-opened_block.ensures in
    let turn : Turn = opens (in_block ls p none st) in
    record {
      what = turn;
      is = fits_within v (depth st) (gives turn) (ahead v c.args.at) few ∙ ap (gives turn) (sym (ahead_tail v c.args.at));
      told = block_stands ts c.args.state c.in_ok-opened_block.field-0 ls p st h said.list said.stack said.point (said.depth ∙ c.in_ok-depth.ensures.deeper ∙ omega (arith, h.depth));
    }
