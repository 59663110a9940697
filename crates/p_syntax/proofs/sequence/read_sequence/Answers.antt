-- Proves what is asked of `read_sequence`.
use Rattle.std.proofs.Common.{sym, subst}
use Rattle.std.proofs.lemmas.Result.{err_from_is_err_and}
use Rattle.pcal_tree.specs.GrammarParts.{no_labels}
use Rattle.pcal_tree.specs.GrammarP.{statements}
use Rattle.algorithm_reader.specs.PartsRead.{ReadsPart}
use Rattle.p_reading.specs.ReadStatements.{none, bottom}
use Rattle.p_syntax.specs.StatesRead.{list_at, past_list}
use Rattle.p_syntax.proofs.Sequences.{starts, goes_on, fails_there}
use Rattle.p_syntax.proofs.sequence.read_sequence.Goals as goal

pub returns-clause-read : goal.returns-clause-read
returns-clause-read c n e =
    let v = c.args.tokens.now in
    let said = c.in_ok-first.ensures in
    let us = c.read_statement.new.pool in
    let new = c.start.ensures in
    let so = starts v c.args.pool.now c.start.result c.args.at n new.list new.stack new.point new.depth e in
    let next = goes_on v c.args.pool.now c.start.result c.args.at _ c.requires.there so us c.in_ok-first.first c.in_ok-first.next said.further (λ k l. said.read k none no_labels bottom l so.stands.1) in
    subst (ReadsPart list_at past_list statements v c.read_on_to_end.new.pool c.read_on_to_end.result) (sym next.is) (c.read_on_to_end.ensures.read next.steps next.now next.enough next.stands)

pub returns-in_err-first-clause-read : goal.returns-in_err-first-clause-read
returns-in_err-first-clause-read c n e =
    let v = c.args.tokens.now in
    let new = c.start.ensures in
    let so = starts v c.args.pool.now c.start.result c.args.at n new.list new.stack new.point new.depth e in
    let p = err_from_is_err_and c.from_residual.result c.from_residual.ensures.1 in
    rw (p.1, p.2) (fails_there v c.args.pool.now c.start.result c.args.at _ c.requires.there so c.in_err-first.field-0.0 (λ k l. c.in_err-first.ensures.read k none no_labels bottom l so.stands.1))
