-- Proves what is asked of `read_sequence`.
use Rattle.std.proofs.Common.{sym, subst}
use Rattle.std.proofs.lemmas.Result.{err_from_is_err_and}
use Rattle.pcal_tree.specs.GrammarParts.{no_labels}
use Rattle.pcal_tree.specs.GrammarC.{statements}
use Rattle.algorithm_reader.specs.PartsRead.{ReadsPart}
use Rattle.c_reading.specs.ReadStatements.{none, bottom}
use Rattle.c_syntax.specs.StatesRead.{list_at, past_list}
use Rattle.c_syntax.proofs.Sequences.{begins_there, goes_first, fails_first}
use Rattle.c_syntax.proofs.sequence.read_sequence.Goals as goal

pub returns-clause-read : goal.returns-clause-read
returns-clause-read c n e =
    let v = c.args.tokens.now in
    let ts = c.args.pool.now in
    let new = c.start.ensures in
    let h = begins_there ts c.start.result new.list new.point new.stack new.depth in
    let said = c.in_ok-first.ensures in
    let next = goes_first v ts c.start.result c.args.at n e c.requires.there h c.read_statement.new.pool c.in_ok-first.first c.in_ok-first.next said.further (λ k l. said.read k no_labels (bottom none) l h.1) in
    subst (ReadsPart list_at past_list statements v c.read_on_to_end.new.pool c.read_on_to_end.result) (sym next.is) (c.read_on_to_end.ensures.read next.steps next.now next.enough next.stands)

pub returns-in_err-first-clause-read : goal.returns-in_err-first-clause-read
returns-in_err-first-clause-read c n e =
    let v = c.args.tokens.now in
    let ts = c.args.pool.now in
    let new = c.start.ensures in
    let h = begins_there ts c.start.result new.list new.point new.stack new.depth in
    let r = err_from_is_err_and c.from_residual.result c.from_residual.ensures.1 in
    rw (r.1, r.2) (fails_first v ts c.start.result c.args.at n e c.requires.there h c.in_err-first.field-0.0 (λ k l. c.in_err-first.ensures.read k no_labels (bottom none) l h.1))
