-- Proves what is asked of `open_either`.
use Rattle.std.proofs.Common.{◌≡◌, ◌<◌, sym, ap, ◌∙◌, arith}
use Rattle.tla_token.specs.Limits.{deepest_statement}
use Rattle.tla_tree.specs.Lexical.{Token}
use Rattle.tla_tree.specs.Reader.{gives}
use Rattle.expr_nodes.proofs.AheadLemmas.{ahead_tail}
use Rattle.expr_nodes.specs.Ahead.{ahead}
use Rattle.syntax_reading.specs.TokenReaders.{first}
use Rattle.p_reading.specs.ReadStatements.{Turn, opens, in_either, first_arm, depth}
use Rattle.algorithm_reader.proofs.StatementSteps.{fits_within}
use Rattle.p_syntax.proofs.Steps.{opened_stands, first_branch_stands}
use Rattle.p_syntax.proofs.opening.open_either.Goals as goal

pub returns-clause-read : goal.returns-clause-read
returns-clause-read c ts n b ls st enough h =
    let v = c.args.tokens.now in
    let p = (first (ahead v c.args.at)).place in
    let few : depth st < deepest_statement = omega (arith, c.in_ok-depth.ensures.few, h.depth) in
    let said = c.in_ok-opened.ensures in
    let place : c.next_token.result.place ≡ p = ap (λ (t : Token). t.place) c.next_token.ensures in
    let turn : Turn = opens (in_either (first_arm p)) b ls st in
    record {
      what = turn;
      is = fits_within v (depth st) (gives turn) (ahead v c.args.at) few ∙ ap (gives turn) (sym (ahead_tail v c.args.at));
      told = opened_stands ts c.args.state c.in_ok-opened.field-0 b ls st _ (in_either (first_arm p)) h (first_branch_stands ts c.next_token.result.place p c.new.result.items c.new.ensures.items place)
          said.list said.stack said.point (said.depth ∙ c.in_ok-depth.ensures.deeper ∙ omega (arith, h.depth));
    }
