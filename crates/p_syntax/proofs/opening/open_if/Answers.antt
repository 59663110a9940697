-- Proves what is asked of `open_if`.
use Rattle.std.proofs.Common.{◌≡◌, ◌<◌, refl, sym, ap, ◌∙◌, arith, codes}
use Rattle.tla_token.specs.Limits.{deepest_statement}
use Rattle.tla_tree.specs.Lexical.{Token}
use Rattle.tla_tree.specs.Reader.{◌>>=◌, gives}
use Rattle.expr_nodes.specs.Ahead.{ahead}
use Rattle.syntax_reading.specs.TokenReaders.{first, a_key}
use Rattle.algorithm_reader.specs.PartsRead.{parts_in}
use Rattle.p_reading.specs.ReadStatements.{opens, in_then, if_test, depth}
use Rattle.p_syntax.proofs.Grows.{stands_grow}
use Rattle.algorithm_reader.proofs.StatementSteps.{goes_on, fits_within}
use Rattle.p_syntax.proofs.Steps.{opened_stands, first_test_stands}
use Rattle.p_syntax.proofs.opening.open_if.Goals as goal

pub returns-clause-read : goal.returns-clause-read
returns-clause-read c n b ls st enough h =
    let v = c.args.tokens.now in
    let p = (first (ahead v c.args.at)).place in
    let us = c.read_expression.new.pool in
    let few : depth st < deepest_statement = omega (arith, c.in_ok-depth.ensures.few, h.depth) in
    let e = c.in_ok-test.ensures in
    let key = c.in_ok-end.ensures.value in
    let said = c.in_ok-opened.ensures in
    let place : c.next_token.result.place ≡ p = ap (λ (t : Token). t.place) c.next_token.ensures in
    let deeper = c.in_ok-depth.ensures.deeper in
    record {
      what = opens (in_then (if_test p e.read.what c.in_ok-end.field-0-0)) b ls st;
      is =
          fits_within v (depth st) ((parts_in v).expr >>= λ a. a_key (codes "then") >>= λ q. gives (opens (in_then (if_test p a q)) b ls st)) (ahead v c.args.at) few
          ∙ ap ((parts_in v).expr >>= λ a. a_key (codes "then") >>= λ q. gives (opens (in_then (if_test p a q)) b ls st)) (sym c.behind.ensures.rest)
          ∙ goes_on ((parts_in v).expr (ahead v c.behind.result)) (λ a. a_key (codes "then") >>= λ q. gives (opens (in_then (if_test p a q)) b ls st)) _ _ _ e.read.is (goes_on (a_key (codes "then") (ahead v c.in_ok-test.end)) (λ q. gives (opens (in_then (if_test p e.read.what q)) b ls st)) _ _ _ key refl);
      told = opened_stands us c.args.state c.in_ok-opened.field-0 b ls st _ (in_then (if_test p e.read.what c.in_ok-end.field-0-0)) (stands_grow _ us e.kept c.args.state _ st h)
          (first_test_stands us c.new.result.items c.next_token.result.place p c.in_ok-end.field-0-0 c.in_ok-test.test e.read.what c.new.ensures.items place e.within e.read.told.tree)
          said.list said.stack said.point (said.depth ∙ deeper ∙ omega (arith, h.depth));
    }
