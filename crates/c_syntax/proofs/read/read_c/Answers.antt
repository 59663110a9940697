-- Proves that the answer to the tokens is given, and that those before the place where reading stops are completed.
use Rattle.std.proofs.Common.{Some}
use Rattle.tla_token.specs.TokensSeen.{tokens_seen}
use Rattle.pcal_tree.specs.AlgorithmTokens.{views}
use Rattle.pcal_tree.specs.Grammar.{c_syntax}
use Rattle.algorithm_answer.proofs.AnswerRules.{late_is_read}
use Rattle.syntax_reading.proofs.CompletedOf.{completed_there}
use Rattle.algorithm_reader.proofs.Answered.{answers, below, past_there, spelled_there, answered_there}
use Rattle.c_reading.specs.ReadAlgorithm.{read_algorithm, read_limited_algorithm}
use Rattle.c_reading.proofs.Stops.{reads_all}
use Rattle.c_reading.proofs.StopsWithin.{reads_within}
use Rattle.c_syntax.proofs.read.read_c.Goals as goal

pub answered-requires : goal.answered-requires
answered-requires c = below c_syntax read_algorithm read_limited_algorithm reads_within c.args.tokens.now c.read_algorithm-read.new.pool c.read_algorithm-read.result c.read_algorithm-read.ensures.read

pub returns : goal.returns
unfolding reads_all
returns c =
    let v = c.args.tokens.now in
    let new = c.read_algorithm-read.new.pool in
    let got = c.read_algorithm-read.result in
    let read = c.read_algorithm-read.ensures.read in
    record {
      kept = c.read_algorithm-read.ensures.kept;
      past = past_there c_syntax read_algorithm read_limited_algorithm reads_within v new got read c.answered.result c.answered.ensures.kept;
      spelled = spelled_there c_syntax read_algorithm read_limited_algorithm reads_within v new got read c.answered.result c.answered.ensures.kept c.answered.ensures.fine;
      answered = answered_there c_syntax read_algorithm read_limited_algorithm reads_within v new got read c.answered.result c.answered.ensures.fine;
      refused = λ r e. answers c_syntax read_algorithm read_limited_algorithm reads_within v new got read (Some r) (c.answered.ensures.refused r e);
      stopped = λ r e l. late_is_read c_syntax (tokens_seen v) v.end r (answers c_syntax read_algorithm read_limited_algorithm reads_within v new got read (Some r) (c.answered.ensures.refused r e)) l;
      completed = λ r a. completed_there c_syntax read_algorithm reads_all (views (tokens_seen v)) a.passed r.rule a.stops;
    }
