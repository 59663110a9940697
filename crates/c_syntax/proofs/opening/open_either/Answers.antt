-- Proves what is asked of `open_either`.
use Rattle.std.proofs.Common.{◌≡◌, ◌<◌, refl, sym, ap, ◌∙◌, arith}
use Rattle.tla_token.specs.Limits.{deepest_statement}
use Rattle.tla_tree.specs.Lexical.{Token}
use Rattle.tla_tree.specs.Reader.{gives}
use Rattle.expr_nodes.proofs.AheadLemmas.{ahead_tail}
use Rattle.expr_nodes.specs.Ahead.{ahead}
use Rattle.syntax_reading.specs.TokenReaders.{first}
use Rattle.algorithm_reader.specs.PartsRead.{parts_in}
use Rattle.algorithm_reader.proofs.StatementSteps.{fits_within}
use Rattle.c_reading.specs.ReadStatements.{Turn, opens, either_if, in_either, first_arm, depth}
use Rattle.c_syntax.specs.declared.open.Frame.TheVariants as frame
use Rattle.c_syntax.proofs.Steps.{begun_stands, opened_stands, first_branch_stands}
use Rattle.c_syntax.proofs.opening.open_either.Goals as goal

pub returns-clause-read : goal.returns-clause-read
returns-clause-read c ts n ls st enough h =
    let v = c.args.tokens.now in
    let p = (first (ahead v c.args.at)).place in
    let few : depth st < deepest_statement = omega (arith, c.in_ok-depth.ensures.few, h.depth) in
    let said = c.in_ok-opened.ensures in
    let place : c.next_token.result.place ≡ p = ap (λ (t : Token). t.place) c.next_token.ensures in
    let turn : Turn = opens (in_either (first_arm ls p) st) in
    record {
      what = turn;
      is = ap (λ b. either_if b (parts_in v) ls p st (ahead v c.args.at)) (c.requires.apart ts st h.stack) ∙ fits_within v (depth st) (gives turn) (ahead v c.args.at) few ∙ ap (gives turn) (sym (ahead_tail v c.args.at));
      told = opened_stands ts c.in_ok-opened.field-0 c.args.state.stack.items (record { frame = frame.Either (record { list = c.args.state.list; first = c.next_token.result.place }) c.new.result; depth = c.args.state.depth })
          (in_either (first_arm ls p) st) refl h.stack
          (record { frame = (begun_stands ts c.args.state ls c.next_token.result.place p st h place, first_branch_stands ts ls p c.new.result.items c.new.ensures.items); depth = h.depth })
          said.list said.stack said.point (said.depth ∙ c.in_ok-depth.ensures.deeper ∙ omega (arith, h.depth));
    }
