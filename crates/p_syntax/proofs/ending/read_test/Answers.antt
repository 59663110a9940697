-- Proves what is asked of `read_test`.
use Rattle.std.proofs.Common.{refl, sym, ap, ◌∙◌, codes}
use Rattle.tla_tree.specs.Reader.{◌>>=◌, gives}
use Rattle.expr_nodes.specs.Ahead.{ahead}
use Rattle.syntax_reading.specs.TokenReaders.{a_key}
use Rattle.algorithm_reader.specs.PartsRead.{parts_in}
use Rattle.algorithm_reader.proofs.StatementSteps.{goes_on, fits_within}
use Rattle.p_syntax.proofs.ending.read_test.Goals as goal

pub returns-clause-read : goal.returns-clause-read
returns-clause-read c =
    let v = c.args.tokens.now in
    let e = c.in_ok-test.ensures in
    record {
      what = (e.read.what, c.in_ok-end.field-0-0);
      is =
          fits_within v c.args.depth ((parts_in v).expr >>= λ a. a_key (codes "then") >>= λ q. gives (a, q)) (ahead v c.args.at) c.in_ok-one_deeper.ensures.few
          ∙ ap ((parts_in v).expr >>= λ a. a_key (codes "then") >>= λ q. gives (a, q)) (sym c.behind.ensures.rest)
          ∙ goes_on ((parts_in v).expr (ahead v c.behind.result)) (λ a. a_key (codes "then") >>= λ q. gives (a, q)) _ _ _ e.read.is (goes_on (a_key (codes "then") (ahead v c.in_ok-test.end)) (λ q. gives (e.read.what, q)) _ _ _ c.in_ok-end.ensures.value refl);
      told = e.read.told.tree;
    }
