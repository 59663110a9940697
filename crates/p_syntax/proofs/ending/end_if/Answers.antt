-- Proves what is asked of `end_if`.
use Rattle.std.proofs.Common.{◌+◌, None, refl, sym, ap, ◌∙◌, codes}
use Rattle.tla_tree.specs.Reader.{◌>>=◌, gives}
use Rattle.expr_nodes.proofs.AheadLemmas.{ahead_tail}
use Rattle.expr_nodes.specs.Ahead.{ahead}
use Rattle.syntax_reading.specs.TokenReaders.{a_key}
use Rattle.p_reading.specs.ReadStatements.{closed_if, on, ended}
use Rattle.algorithm_reader.proofs.StatementSteps.{goes_on}
use Rattle.p_syntax.proofs.Closed.{ended_stands, if_stands}
use Rattle.p_syntax.proofs.ending.end_if.Goals as goal

pub returns-clause-read : goal.returns-clause-read
returns-clause-read c ts t d e r h w i b ls st k =
    let v = c.args.tokens.now in
    let q = c.in_ok-last.last in
    let said = c.in_ok-extended.ensures in
    let one = c.in_ok-statement.ensures in
    record {
      what = on (ended b ls (closed_if t d e r q) None st);
      is = ap (a_key (codes "if") >>= λ q. gives (on (ended b ls (closed_if t d e r q) None st))) (sym (ahead_tail v c.args.at)) ∙ goes_on (a_key (codes "if") (ahead v (c.args.at + 1))) (λ q. gives (on (ended b ls (closed_if t d e r q) None st))) _ _ _ c.in_ok-last.ensures.value refl;
      told = ended_stands ts c.args.around c.in_ok-extended.field-0 b ls st c.in_ok-statement.statement _ k (if_stands ts _ c.args.otherwise.items c.in_ok-statement.statement t d e r q h w (i q) one.tree one.below) said.list said.stack said.point said.depth;
    }
