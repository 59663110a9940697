-- Proves what is asked of `bullets`.
use Rattle.std.proofs.Common.{◌≡◌, ◌+◌, ◌-◌, ℕ, suc, max, true, arith, sym, ap, ◌∙◌, subst}
use Rattle.std.proofs.lemmas.Result.{err_from_is_err_and}
use Rattle.tla_tree.proofs.PoolNumbers.{Keeps-then}
use Rattle.expr_nodes.specs.Ahead.{ahead}
use Rattle.expr_lists.proofs.ReadBullets.{BulletsSoFar, is_next, bullets_first, bullets_next, bullets_lost, deep_fails, item_fails}
use Rattle.expr_lists.proofs.read_bullets.bullets.Goals as goal

pub loop-boxes-init : goal.loop-boxes-init
loop-boxes-init g c =
    let v = c.args.tokens.now in
    let s = c.args.s in
    let d = c.in_ok-left.field-0.left in
    let one = c.in_ok-one.ensures in
    let x = c.in_ok-one.one in
    let l : d + 1 ≡ s.left = omega (arith, c.in_ok-left.ensures.left) in
    let k : 1 ≡ s.left - d = omega (arith, l) in
    record {
      row = subst (λ (k : ℕ). BulletsSoFar c.args.s.linked v c.next_item.new.pool s.left d s.edge c.args.op c.args.col s.at c.in_ok-one.next x.read.id x.place x.read.shape.boxes (1 + x.read.shape.nesting) k) k
          (bullets_first v s.edge c.args.op c.args.col s.left d s.at c.in_ok-one.next l one.read);
      kept = one.kept;
      left = omega (arith, l);
      small = omega (arith, l, one.small);
      inside = one.inside;
      further = one.further;
    }

pub loop-boxes-preserved : goal.loop-boxes-preserved
loop-boxes-preserved g c =
    let v = c.args.tokens.now in
    let s = c.args.s in
    let o = c.args.op in
    let col = c.args.col in
    let so = c.loop-boxes.invariant in
    let d = c.loop-boxes.left in
    let f = c.in_ok-left-2.field-0.left in
    let one = c.in_ok-a.ensures in
    let x = c.in_ok-a.a.read in
    let p = c.in_ok-one.one.place in
    let l : f + 1 ≡ d = omega (arith, c.in_ok-left-2.ensures.left) in
    let k : suc (s.left - d) ≡ s.left - f = omega (arith, l, so.left) in
    let nesting : max c.loop-boxes.nesting (suc (s.left - d) + x.shape.nesting) ≡ c.larger-nesting.result = ap (λ (j : ℕ). max c.loop-boxes.nesting (j + x.shape.nesting)) k ∙ sym c.larger-nesting.ensures in
    let there : is_next s.edge o col (ahead v c.loop-boxes.at) ≡ true = sym c.is_bullet_next.ensures ∙ c.loop-boxes-test.true in
    let next = bullets_next v s.edge o col s.at c.loop-boxes.at so.row there f c.in_ok-a.next c.in_ok-id.id l one.kept one.read c.in_ok-id.ensures.within c.in_ok-id.ensures.tree in
    record {
      row = subst (λ (n : ℕ). BulletsSoFar c.args.s.linked v c.joined.new.pool s.left f s.edge o col s.at c.in_ok-a.next c.in_ok-id.id p x.shape.boxes n (s.left - f)) nesting
          (subst (λ (k : ℕ). BulletsSoFar c.args.s.linked v c.joined.new.pool s.left f s.edge o col s.at c.in_ok-a.next c.in_ok-id.id p x.shape.boxes (max c.loop-boxes.nesting (suc (s.left - d) + x.shape.nesting)) k) k next);
      kept = Keeps-then _ _ _ so.kept (Keeps-then _ _ _ one.kept c.in_ok-id.ensures.kept);
      left = omega (arith, l, so.left);
      small = omega (arith, nesting, k, l, so.left, so.small, one.small);
      inside = one.inside;
      further = omega (arith, so.further, one.further);
    }

pub returns-in_err-left-clause-read : goal.returns-in_err-left-clause-read
returns-in_err-left-clause-read g c =
    let s = c.args.s in
    let p = err_from_is_err_and c.from_residual.result c.from_residual.ensures.1 in
    rw (p.1, p.2) (deep_fails _ s.left s.edge c.args.op c.args.col (ahead c.args.tokens.now s.at) c.in_err-left.field-0.0 c.in_err-left.ensures.refused c.in_err-left.ensures.deep)

pub returns-in_err-one-clause-read : goal.returns-in_err-one-clause-read
returns-in_err-one-clause-read g c =
    let s = c.args.s in
    let d = c.in_ok-left.field-0.left in
    let l : d + 1 ≡ s.left = omega (arith, c.in_ok-left.ensures.left) in
    let p = err_from_is_err_and c.from_residual-in_err-one.result c.from_residual-in_err-one.ensures.1 in
    rw (p.1, p.2) (item_fails _ s.left s.edge c.args.op c.args.col (ahead c.args.tokens.now s.at) d c.in_err-one.field-0.0 l c.in_err-one.ensures.read)

pub returns-in_err-left-2-clause-read : goal.returns-in_err-left-2-clause-read
returns-in_err-left-2-clause-read g c =
    let v = c.args.tokens.now in
    let s = c.args.s in
    let o = c.args.op in
    let col = c.args.col in
    let there : is_next s.edge o col (ahead v c.loop-boxes.at) ≡ true = sym c.is_bullet_next.ensures ∙ c.loop-boxes-test.true in
    let p = err_from_is_err_and c.from_residual-in_err-left-2.result c.from_residual-in_err-left-2.ensures.1 in
    rw (p.1, p.2) (bullets_lost v s.edge o col s.at c.loop-boxes.at c.loop-boxes.invariant.row there c.in_err-left-2.field-0.0
    (deep_fails _ c.loop-boxes.left s.edge o col (ahead v c.loop-boxes.at) c.in_err-left-2.field-0.0 c.in_err-left-2.ensures.refused c.in_err-left-2.ensures.deep))

pub returns-in_err-a-clause-read : goal.returns-in_err-a-clause-read
returns-in_err-a-clause-read g c =
    let v = c.args.tokens.now in
    let s = c.args.s in
    let o = c.args.op in
    let col = c.args.col in
    let f = c.in_ok-left-2.field-0.left in
    let l : f + 1 ≡ c.loop-boxes.left = omega (arith, c.in_ok-left-2.ensures.left) in
    let there : is_next s.edge o col (ahead v c.loop-boxes.at) ≡ true = sym c.is_bullet_next.ensures ∙ c.loop-boxes-test.true in
    let p = err_from_is_err_and c.from_residual-in_err-a.result c.from_residual-in_err-a.ensures.1 in
    rw (p.1, p.2) (bullets_lost v s.edge o col s.at c.loop-boxes.at c.loop-boxes.invariant.row there c.in_err-a.field-0.0
    (item_fails _ c.loop-boxes.left s.edge o col (ahead v c.loop-boxes.at) f c.in_err-a.field-0.0 l c.in_err-a.ensures.read))
