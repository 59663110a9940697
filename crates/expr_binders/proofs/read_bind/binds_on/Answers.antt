-- Proves what is asked of `binds_on`.
use Rattle.std.proofs.Common.{◌≤◌, suc, length, [], ◌∷◌, arith, ap}
use Rattle.std.proofs.lemmas.Result.{err_from_is_err_and}
use Rattle.tla_token.specs.TokensSeen.{span_bytes}
use Rattle.tla_pool.specs.FormOf.{groups_of}
use Rattle.tla_tree.specs.Spelling.{last_bind, named}
use Rattle.expr_nodes.specs.Ahead.{ahead}
use Rattle.expr_nodes.specs.ReadIn.{word_seen}
use Rattle.expr_binders.proofs.ReadBinds.{one_bound, rest_none, rest_lost, rest_later, rest_all}
use Rattle.expr_binders.proofs.BindsRead.{first_named}
use Rattle.expr_binders.proofs.read_bind.binds_on.Goals as goal

pub returns-in_default-clause-read : goal.returns-in_default-clause-read
returns-in_default-clause-read g c = λ i q h.
    let s = c.args.s in
    let x = span_bytes c.args.tokens.now.bytes.items c.args.word.span in
    let one = c.in_ok-all.ensures in
    record {
      what = last_bind c.args.word.place x q i;
      is = rest_none _ s.left s.edge c.args.word.place x q i (ahead c.args.tokens.now s.at) c.in_default.ensures.none;
      told = rw (one.groups, one.sets, one.nesting) (one_bound c.args.word.place x q h);
    }

pub returns-in_err-other-clause-read : goal.returns-in_err-other-clause-read
returns-in_err-other-clause-read g c = λ i q h.
    let s = c.args.s in
    let p = err_from_is_err_and c.from_residual-in_err-other.result c.from_residual-in_err-other.ensures.1 in
    rw (p.1, p.2) (rest_lost _ s.left s.edge c.args.word.place (span_bytes c.args.tokens.now.bytes.items c.args.word.span) q i (ahead c.args.tokens.now s.at) c.in-Some.ensures.there _ c.in-Some.ensures.rest _ c.in_err-other.ensures.value)

pub returns-in_err-rest-clause-read : goal.returns-in_err-rest-clause-read
returns-in_err-rest-clause-read g c = λ i q h.
    let v = c.args.tokens.now in
    let s = c.args.s in
    let p = err_from_is_err_and c.from_residual-in_err-rest.result c.from_residual-in_err-rest.ensures.1 in
    rw (p.1, p.2) (rest_later _ s.left s.edge c.args.word.place (span_bytes v.bytes.items c.args.word.span) q i (ahead v s.at) c.in-Some.ensures.there _ c.in-Some.ensures.rest (word_seen v.bytes.items c.in_ok-other.other) _ c.in_ok-other.ensures.value _ c.in_err-rest.ensures.read)

pub returns-clause-read : goal.returns-clause-read
returns-clause-read g c = λ i q h.
    let v = c.args.tokens.now in
    let s = c.args.s in
    let all = c.in_ok-all-2.ensures in
    rw (all.groups, all.sets, all.nesting) (rest_all _ s.left s.edge c.args.word.place (span_bytes v.bytes.items c.args.word.span) q i (ahead v s.at) c.in-Some.ensures.there _ c.in-Some.ensures.rest (word_seen v.bytes.items c.in_ok-other.other) _ c.in_ok-other.ensures.value h c.in_ok-rest.ensures.kept c.in_ok-rest.ensures.read)

pub returns-clause-named : goal.returns-clause-named
returns-clause-named g c =
    let x = named c.args.word.place (span_bytes c.args.tokens.now.bytes.items c.args.word.span) in
    let one : 1 ≤ length (x ∷ []) = omega arith in
    rw (c.in_ok-all-2.ensures.groups) (first_named (x ∷ []) (groups_of c.in_ok-rest.rest.groups.items) one c.in_ok-rest.ensures.named)

pub returns-clause-as_many : goal.returns-clause-as_many
returns-clause-as_many g c = rw (c.in_ok-all-2.ensures.groups, c.in_ok-all-2.ensures.sets) (ap suc c.in_ok-rest.ensures.as_many)
