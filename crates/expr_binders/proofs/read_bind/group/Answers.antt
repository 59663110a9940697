-- Proves what is asked of `group`.
use Rattle.std.proofs.Common.{arith}
use Rattle.std.proofs.lemmas.Result.{err_from_is_err_and}
use Rattle.tla_token.specs.TokensSeen.{span_bytes}
use Rattle.expr_nodes.specs.ReadIn.{word_seen}
use Rattle.expr_binders.proofs.ReadBinds.{names_first, names_next, name_lost, sign_lost, set_lost, group_end}
use Rattle.expr_binders.proofs.read_bind.group.Goals as goal

pub loop-from-init : goal.loop-from-init
loop-from-init g c = record {
  names = rw (c.in_ok-keep_name.ensures, c.new-names.ensures.items) (names_first c.args.tokens.now c.args.s.left c.args.s.edge c.args.s.at c.args.first.place (span_bytes c.args.tokens.now.bytes.items c.args.first.span));
  inside = c.requires.given.there;
  further = omega arith;
}

pub loop-from-preserved : goal.loop-from-preserved
loop-from-preserved g c =
    let v = c.args.tokens.now in
    let s = c.args.s in
    let so_far = c.loop-from.invariant in
    let next = names_next v s.left s.edge c.in-Some.from c.in_ok-word.past (word_seen v.bytes.items c.in_ok-word.word) so_far.names c.in-Some.ensures.there c.in-Some.ensures.rest c.in_ok-word.ensures.value in
    record {
      names = rw (c.in_ok-keep_name-2.ensures) next;
      inside = c.in_ok-word.ensures.inside;
      further = omega (arith, so_far.further, c.in-Some.ensures.further, c.in_ok-word.ensures.further);
    }

pub returns-in_err-word-clause-read : goal.returns-in_err-word-clause-read
returns-in_err-word-clause-read g c =
    let p = err_from_is_err_and c.from_residual-in_err-word.result c.from_residual-in_err-word.ensures.1 in
    rw (p.1, p.2) (name_lost c.args.tokens.now c.args.s.left c.args.s.edge c.in-Some.from _ c.loop-from.invariant.names c.in-Some.ensures.there c.in-Some.ensures.rest c.in_err-word.ensures.value)

pub returns-in_err-from-clause-read : goal.returns-in_err-from-clause-read
returns-in_err-from-clause-read g c =
    let p = err_from_is_err_and c.from_residual-in_err-from.result c.from_residual-in_err-from.ensures.1 in
    rw (p.1, p.2) (sign_lost c.args.tokens.now c.args.s.left c.args.s.edge _ c.loop-from.invariant.names c.in_default.ensures.none c.in_err-from.ensures.value)

pub returns-in_err-set-clause-read : goal.returns-in_err-set-clause-read
returns-in_err-set-clause-read g c =
    let one = c.requires.given.reads _ _ _ _ _ (omega arith) c.in_ok-from.ensures.inside c.in_err-set.ensures in
    let p = err_from_is_err_and c.from_residual-in_err-set.result c.from_residual-in_err-set.ensures.1 in
    rw (p.1, p.2) (set_lost c.args.tokens.now c.args.s.left c.args.s.edge c.in_ok-from.from _ _ c.loop-from.invariant.names c.in_default.ensures.none c.in_ok-from.ensures.value one.read)

pub returns-clause-read : goal.returns-clause-read
returns-clause-read g c =
    let one = c.requires.given.reads _ _ _ _ _ (omega arith) c.in_ok-from.ensures.inside c.in_ok-set.ensures in
    group_end c.args.tokens.now c.args.s.left c.args.s.edge c.in_ok-from.from c.in_ok-set.next _ c.loop-from.invariant.names c.in_default.ensures.none c.in_ok-from.ensures.value one.read
