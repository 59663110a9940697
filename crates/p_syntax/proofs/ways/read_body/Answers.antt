-- Proves what is asked of `read_body`.
use Rattle.std.proofs.Common.{sym, subst, arith}
use Rattle.std.proofs.lemmas.Result.{err_from_is_err_and}
use Rattle.tla_token.specs.ReservedWords.{pluscal_spelling}
use Rattle.expr_nodes.specs.ReadIn.{Fails}
use Rattle.expr_nodes.specs.Ahead.{ahead}
use Rattle.algorithm_reader.specs.PartsRead.{parts_in}
use Rattle.algorithm_reader.proofs.Gathered.{fails_then}
use Rattle.pcal_tree.specs.Grammar.{begin_end}
use Rattle.p_reading.proofs.Bodies.{behind_list, behind_end, behind_word, body_at_list, body_at_end, body_at_word, body_whole}
use Rattle.p_syntax.proofs.ways.read_body.Goals as goal

pub returns-clause-read : goal.returns-clause-read
returns-clause-read c n e =
    let v = c.args.tokens.now in
    let list = c.in_ok-list.ensures.read n (omega (arith, e, c.in_ok-from.ensures.further)) in
    record {
      what = begin_end c.in_ok-from.field-0-0 list.what c.in_ok-word_at.field-0-0 c.in_ok-last.field-0-0 c.past_semicolon-next.result.0;
      is = body_whole (parts_in v) n (pluscal_spelling c.args.word) _ (ahead v c.args.at) _ c.in_ok-from.ensures.value _ _ list.is _ _ c.in_ok-word_at.ensures.value _ _ _ _ c.in_ok-last.ensures.value c.past_semicolon-next.ensures.read;
      told = record { below = list.told.below; tree = list.told.tree };
    }

pub returns-in_err-list-clause-read : goal.returns-in_err-list-clause-read
returns-in_err-list-clause-read c n e =
    let m = parts_in c.args.tokens.now in
    let p = err_from_is_err_and c.from_residual-in_err-list.result c.from_residual-in_err-list.ensures.1 in
    let x = c.in_err-list.field-0.0 in
    rw (p.1, p.2) (subst (Fails x) (sym (body_at_list m n (pluscal_spelling c.args.word) _ (ahead c.args.tokens.now c.args.at) _ c.in_ok-from.ensures.value)) (fails_then x _ (behind_list m n (pluscal_spelling c.args.word) c.in_ok-from.field-0-0) (c.in_err-list.ensures.read n (omega (arith, e, c.in_ok-from.ensures.further)))))

pub returns-in_err-word_at-clause-read : goal.returns-in_err-word_at-clause-read
returns-in_err-word_at-clause-read c n e =
    let m = parts_in c.args.tokens.now in
    let p = err_from_is_err_and c.from_residual-in_err-word_at.result c.from_residual-in_err-word_at.ensures.1 in
    let x = c.in_err-word_at.field-0.0 in
    let list = c.in_ok-list.ensures.read n (omega (arith, e, c.in_ok-from.ensures.further)) in
    rw (p.1, p.2) (subst (Fails x) (sym (body_at_end m n (pluscal_spelling c.args.word) _ (ahead c.args.tokens.now c.args.at) _ c.in_ok-from.ensures.value _ _ list.is)) (fails_then x _ (behind_end m n (pluscal_spelling c.args.word) c.in_ok-from.field-0-0 list.what) c.in_err-word_at.ensures.value))

pub returns-in_err-last-clause-read : goal.returns-in_err-last-clause-read
returns-in_err-last-clause-read c n e =
    let m = parts_in c.args.tokens.now in
    let p = err_from_is_err_and c.from_residual-in_err-last.result c.from_residual-in_err-last.ensures.1 in
    let x = c.in_err-last.field-0.0 in
    let list = c.in_ok-list.ensures.read n (omega (arith, e, c.in_ok-from.ensures.further)) in
    rw (p.1, p.2) (subst (Fails x) (sym (body_at_word m n (pluscal_spelling c.args.word) _ (ahead c.args.tokens.now c.args.at) _ c.in_ok-from.ensures.value _ _ list.is _ _ c.in_ok-word_at.ensures.value)) (fails_then x _ (behind_word m n (pluscal_spelling c.args.word) c.in_ok-from.field-0-0 list.what c.in_ok-word_at.field-0-0) c.in_err-last.ensures.value))
