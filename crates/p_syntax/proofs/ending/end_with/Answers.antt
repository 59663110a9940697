-- Proves what is asked of `end_with`.
use Rattle.std.proofs.Common.{◌+◌, None, refl, sym, ap, ◌∙◌, codes}
use Rattle.tla_tree.specs.Reader.{◌>>=◌, gives}
use Rattle.expr_nodes.proofs.AheadLemmas.{ahead_tail}
use Rattle.expr_nodes.specs.Ahead.{ahead}
use Rattle.pcal_tree.specs.GrammarP.{with}
use Rattle.syntax_reading.specs.TokenReaders.{a_key}
use Rattle.p_reading.specs.ReadStatements.{on, ended}
use Rattle.algorithm_reader.proofs.StatementSteps.{goes_on}
use Rattle.p_syntax.proofs.Closed.{ended_stands, with_stands}
use Rattle.p_syntax.proofs.ending.end_with.Goals as goal

pub returns-clause-read : goal.returns-clause-read
returns-clause-read c ts d s cs u r h i b ls st k =
    let v = c.args.tokens.now in
    let q = c.in_ok-last.last in
    let said = c.in_ok-extended.ensures in
    record {
      what = on (ended b ls (with s cs u d r q) None st);
      is = ap (a_key (codes "with") >>= λ q. gives (on (ended b ls (with s cs u d r q) None st))) (sym (ahead_tail v c.args.at)) ∙ goes_on (a_key (codes "with") (ahead v (c.args.at + 1))) (λ q. gives (on (ended b ls (with s cs u d r q) None st))) _ _ _ c.in_ok-last.ensures.value refl;
      told = ended_stands ts c.args.around c.in_ok-extended.field-0 b ls st _ _ k (with_stands ts c.args.place s u r q c.args.binds cs c.args.list d h i) said.list said.stack said.point said.depth;
    }
