-- Proves what is asked of `read_define`.
use Rattle.std.proofs.Common.{sym, subst}
use Rattle.std.proofs.lemmas.Result.{err_from_is_err_and}
use Rattle.expr_nodes.specs.ReadIn.{Fails}
use Rattle.algorithm_reader.specs.PartsRead.{parts_in}
use Rattle.algorithm_reader.proofs.Gathered.{fails_then}
use Rattle.pcal_tree.specs.Grammar.{define_end}
use Rattle.p_reading.proofs.Bodies.{behind_definitions, behind_its_end, behind_define, define_at_end, define_at_word, define_whole}
use Rattle.p_syntax.proofs.ways.read_define.Goals as goal

pub returns-clause-read : goal.returns-clause-read
returns-clause-read c n q e =
    let list = c.in_ok-list.ensures.read n e in
    record {
      what = define_end q list.what c.in_ok-word_at.field-0-0 c.in_ok-last.field-0-0 c.past_semicolon-next.result.0;
      is = define_whole (parts_in c.args.tokens.now) n q _ _ _ list.is _ _ c.in_ok-word_at.ensures.value _ _ _ _ c.in_ok-last.ensures.value c.past_semicolon-next.ensures.read;
      told = record { below = list.told.below; tree = list.told.tree };
    }

pub returns-in_err-list-clause-read : goal.returns-in_err-list-clause-read
returns-in_err-list-clause-read c n q e =
    let p = err_from_is_err_and c.from_residual.result c.from_residual.ensures.1 in
    let x = c.in_err-list.field-0.0 in
    rw (p.1, p.2) (fails_then x _ (behind_definitions (parts_in c.args.tokens.now) n q) (c.in_err-list.ensures.read n e))

pub returns-in_err-word_at-clause-read : goal.returns-in_err-word_at-clause-read
returns-in_err-word_at-clause-read c n q e =
    let m = parts_in c.args.tokens.now in
    let p = err_from_is_err_and c.from_residual-in_err-word_at.result c.from_residual-in_err-word_at.ensures.1 in
    let x = c.in_err-word_at.field-0.0 in
    let list = c.in_ok-list.ensures.read n e in
    rw (p.1, p.2) (subst (Fails x) (sym (define_at_end m n q _ _ _ list.is)) (fails_then x _ (behind_its_end m n q list.what) c.in_err-word_at.ensures.value))

pub returns-in_err-last-clause-read : goal.returns-in_err-last-clause-read
returns-in_err-last-clause-read c n q e =
    let m = parts_in c.args.tokens.now in
    let p = err_from_is_err_and c.from_residual-in_err-last.result c.from_residual-in_err-last.ensures.1 in
    let x = c.in_err-last.field-0.0 in
    let list = c.in_ok-list.ensures.read n e in
    rw (p.1, p.2) (subst (Fails x) (sym (define_at_word m n q _ _ _ list.is _ _ c.in_ok-word_at.ensures.value)) (fails_then x _ (behind_define m n q list.what c.in_ok-word_at.field-0-0) c.in_err-last.ensures.value))
