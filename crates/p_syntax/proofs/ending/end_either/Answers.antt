-- Proves what is asked of `end_either`.
use Rattle.std.proofs.Common.{◌+◌, None, refl, sym, ap, ◌∙◌, codes}
use Rattle.tla_tree.specs.Reader.{◌>>=◌, gives}
use Rattle.expr_nodes.proofs.AheadLemmas.{ahead_tail}
use Rattle.expr_nodes.specs.Ahead.{ahead}
use Rattle.pcal_tree.specs.GrammarP.{last_branch}
use Rattle.syntax_reading.specs.TokenReaders.{a_key}
use Rattle.p_reading.specs.ReadStatements.{closed_either, on, ended}
use Rattle.algorithm_reader.proofs.StatementSteps.{goes_on}
use Rattle.p_syntax.proofs.Closed.{ended_stands, either_stands}
use Rattle.p_syntax.proofs.ending.end_either.Goals as goal

pub returns-clause-read : goal.returns-clause-read
returns-clause-read c ts t d f s r h i b ls st k =
    let v = c.args.tokens.now in
    let q = c.in_ok-last.last in
    let said = c.in_ok-extended.ensures in
    record {
      what = on (ended b ls (closed_either t d (last_branch s f) r q) None st);
      is = ap (a_key (codes "either") >>= λ q. gives (on (ended b ls (closed_either t d (last_branch s f) r q) None st))) (sym (ahead_tail v c.args.at)) ∙ goes_on (a_key (codes "either") (ahead v (c.args.at + 1))) (λ q. gives (on (ended b ls (closed_either t d (last_branch s f) r q) None st))) _ _ _ c.in_ok-last.ensures.value refl;
      told = ended_stands ts c.args.around c.in_ok-extended.field-0 b ls st _ _ k (either_stands ts c.args.place c.args.branches c.push.new.self c.args.list t d f s r q q h i c.in_ok-push.ensures.items) said.list said.stack said.point said.depth;
    }
