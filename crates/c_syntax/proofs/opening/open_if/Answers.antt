-- Proves what is asked of `open_if`.
use Rattle.std.proofs.Common.{◌≡◌, ◌<◌, refl, sym, ap, ◌∙◌, arith}
use Rattle.tla_token.specs.declared.place.Place.{Place}
use Rattle.tla_token.specs.Limits.{deepest_statement}
use Rattle.tla_tree.specs.Lexical.{Token}
use Rattle.tla_tree.specs.Lexical as tk
use Rattle.tla_tree.specs.Spelling.{Phrase}
use Rattle.tla_tree.specs.Reader.{Reader, ◌>>=◌, gives}
use Rattle.expr_nodes.specs.Ahead.{ahead}
use Rattle.syntax_reading.specs.TokenReaders.{first, a_mark}
use Rattle.algorithm_reader.specs.PartsRead.{parts_in}
use Rattle.algorithm_reader.proofs.StatementSteps.{goes_on, fits_within}
use Rattle.c_reading.specs.ReadStatements.{Stack, Turn, opens, bracketed, in_then, if_test, depth}
use Rattle.c_syntax.specs.declared.open.Frame.TheVariants as frame
use Rattle.c_syntax.proofs.Steps.{stands_kept, begun_stands, opened_stands}
use Rattle.c_syntax.proofs.opening.open_if.Goals as goal

pub returns-clause-read : goal.returns-clause-read
returns-clause-read c n ls st enough h =
    let v = c.args.tokens.now in
    let p = (first (ahead v c.args.at)).place in
    let us = c.read_expression.new.pool in
    let few : depth st < deepest_statement = omega (arith, c.in_ok-depth.ensures.few, h.depth) in
    let e = c.in_ok-test.ensures in
    let said = c.in_ok-opened.ensures in
    let place : c.next_token.result.place ≡ p = ap (λ (t : Token). t.place) c.next_token.ensures in
    let grown = stands_kept _ us e.kept c.args.state _ st h in
    let opens_it : Place → Phrase → Place → Stack = λ q x r. in_then ls (if_test p q x r) st in
    let reads : Reader Turn = bracketed (parts_in v).expr (λ q x r. opens (opens_it q x r)) in
    record {
      what = opens (opens_it c.in_ok-end.field-0-0 e.read.what c.in_ok-end-2.field-0-0);
      is =
          fits_within v (depth st) reads (ahead v c.args.at) few
          ∙ ap reads (sym c.behind.ensures.rest)
          ∙ goes_on (a_mark tk.open_bracket (ahead v c.behind.result)) (λ q. (parts_in v).expr >>= λ x. a_mark tk.close_bracket >>= λ r. gives (opens (opens_it q x r))) _ _ _ c.in_ok-end.ensures.value
          (goes_on ((parts_in v).expr (ahead v c.in_ok-end.end)) (λ x. a_mark tk.close_bracket >>= λ r. gives (opens (opens_it c.in_ok-end.field-0-0 x r))) _ _ _ e.read.is
          (goes_on (a_mark tk.close_bracket (ahead v c.in_ok-test.end)) (λ r. gives (opens (opens_it c.in_ok-end.field-0-0 e.read.what r))) _ _ _ c.in_ok-end-2.ensures.value refl));
      told = opened_stands us c.in_ok-opened.field-0 c.args.state.stack.items (record { frame = frame.Then (record { list = c.args.state.list; first = c.next_token.result.place }) c.in_ok-test.test; depth = c.args.state.depth })
          (opens_it c.in_ok-end.field-0-0 e.read.what c.in_ok-end-2.field-0-0) refl grown.stack
          (record { frame = (begun_stands us c.args.state ls c.next_token.result.place p st grown place, e.within, e.read.told.tree); depth = h.depth })
          said.list said.stack said.point (said.depth ∙ c.in_ok-depth.ensures.deeper ∙ omega (arith, h.depth));
    }
