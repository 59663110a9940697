-- Proves what is asked of `arms`.
use Rattle.std.proofs.Common.{◌≡◌, ℕ, suc, max, List, [], ◌∷◌, ◌++◌, length, length-append, arith, sym, ap, ◌∙◌, subst}
use Rattle.std.proofs.lemmas.Result.{err_from_is_err_and}
use Rattle.tla_tree.specs.Shapes.{IsPaired}
use Rattle.tla_tree.specs.Pool.{AllBelow}
use Rattle.tla_tree.proofs.PoolNumbers.{Keeps-then}
use Rattle.expr_lists.proofs.ReadArms.{ArmsSoFar, moved, arms_first, arms_next, arms_fails, arms_end, other_fails, other_end, paired_more}
use Rattle.expr_lists.proofs.read_arms.arms.Goals as goal

pub loop-from-init : goal.loop-from-init
loop-from-init g c =
    let s = c.args.s in
    let one = c.in_ok-first.ensures in
    let x = c.in_ok-first.first in
    let items : c.in_ok-ids.ids.items ≡ x.test.id ∷ x.value.id ∷ [] = c.in_ok-ids.ensures.items in
    record {
      row = rw (items, c.larger-nesting.ensures) (arms_first _ c.args.tokens.now s.left s.edge s.at c.in_ok-first.next one.read);
      kept = one.kept;
      paired = rw items tt;
      small = grind (arith, c.larger-nesting.ensures, one.test_small, one.value_small);
      inside = one.inside;
      further = one.further;
    }

pub loop-from-preserved : goal.loop-from-preserved
loop-from-preserved g c =
    let s = c.args.s in
    let one = c.in_ok-a.ensures in
    let so = c.loop-from.invariant in
    let x = c.in_ok-a.a in
    let is = c.loop-from.ids.items in
    let items : c.extend_from_slice.new.self.items ≡ is ++ x.test.id ∷ x.value.id ∷ [] = c.in_ok-extend_from_slice.ensures.items in
    let nesting : c.larger-nesting-in-Some.result ≡ max c.loop-from.nesting (max x.test.shape.nesting x.value.shape.nesting) = c.larger-nesting-in-Some.ensures ∙ ap (max c.loop-from.nesting) c.larger.ensures in
    let size : length c.extend_from_slice.new.self.items ≡ suc (suc (length is)) = ap length items ∙ length-append is (x.test.id ∷ x.value.id ∷ []) ∙ omega arith in
    let next = arms_next _ c.args.tokens.now s.left s.edge s.at c.loop-from.at so.row c.in-Some.ensures.there c.in-Some.from c.in-Some.ensures.rest c.in_default-after_key.ensures.none c.in_ok-a.next one.kept one.read in
    record {
      row = subst (λ (n : ℕ). ArmsSoFar c.args.s.linked c.args.tokens.now c.next_arm-in-Some.new.pool s.left s.edge s.at c.in_ok-a.next c.extend_from_slice.new.self.items n x.value.shape) (sym nesting)
          (subst (λ (js : List ℕ). ArmsSoFar c.args.s.linked c.args.tokens.now c.next_arm-in-Some.new.pool s.left s.edge s.at c.in_ok-a.next js (max c.loop-from.nesting (max x.test.shape.nesting x.value.shape.nesting)) x.value.shape) (sym items) next);
      kept = Keeps-then _ _ _ so.kept one.kept;
      paired = subst IsPaired (sym size) (paired_more (length is) so.paired);
      small = omega (arith, nesting, so.small, one.test_small, one.value_small);
      inside = one.inside;
      further = omega (arith, so.further, c.in-Some.ensures.further, one.further);
    }

pub returns-in_err-a-clause-read : goal.returns-in_err-a-clause-read
returns-in_err-a-clause-read g c =
    let s = c.args.s in
    let p = err_from_is_err_and c.from_residual-in_err-a.result c.from_residual-in_err-a.ensures.1 in
    rw (p.1, p.2) (arms_fails _ c.args.tokens.now s.left s.edge s.at c.loop-from.at c.loop-from.invariant.row c.in-Some.ensures.there c.in-Some.from c.in-Some.ensures.rest c.in_default-after_key.ensures.none c.in_err-a.field-0.0 c.in_err-a.ensures.read)

pub returns-in_err-c-clause-read : goal.returns-in_err-c-clause-read
returns-in_err-c-clause-read g c =
    let s = c.args.s in
    let p = err_from_is_err_and c.from_residual-in_err-c.result c.from_residual-in_err-c.ensures.1 in
    rw (p.1, p.2) (other_fails _ c.args.tokens.now s.left s.edge s.at c.loop-from.at c.loop-from.invariant.row c.in-Some.ensures.there c.in-Some.from c.in-Some.ensures.rest c.in-Some-after_key.ensures.there c.in-Some-after_key.from c.in-Some-after_key.ensures.rest c.in_err-c.field-0.0 c.in_err-c.ensures.read)

pub returns-in-Some-after_key-clause-read : goal.returns-in-Some-after_key-clause-read
returns-in-Some-after_key-clause-read g c =
    let s = c.args.s in
    let last = other_end _ c.args.tokens.now s.left s.edge s.at c.loop-from.at c.loop-from.invariant.row c.in-Some.ensures.there c.in-Some.from c.in-Some.ensures.rest c.in-Some-after_key.ensures.there c.in-Some-after_key.from c.in-Some-after_key.ensures.rest c.in_ok-c.at c.in_ok-c.ensures.kept c.in_ok-c.ensures.read in
    record { what = last.what; is = last.is; told = moved (sym c.in_ok-push.ensures.items) (sym c.larger-nesting-in-Some-after_key.ensures) last.told }

pub returns-in-Some-after_key-clause-below : goal.returns-in-Some-after_key-clause-below
returns-in-Some-after_key-clause-below g c =
    let s = c.args.s in
    let last = other_end _ c.args.tokens.now s.left s.edge s.at c.loop-from.at c.loop-from.invariant.row c.in-Some.ensures.there c.in-Some.from c.in-Some.ensures.rest c.in-Some-after_key.ensures.there c.in-Some-after_key.from c.in-Some-after_key.ensures.rest c.in_ok-c.at c.in_ok-c.ensures.kept c.in_ok-c.ensures.read in
    subst (λ (is : List ℕ). AllBelow (length c.behind.new.pool) is) (sym c.in_ok-push.ensures.items) last.told.below

pub returns-clause-read : goal.returns-clause-read
returns-clause-read g c = arms_end _ c.args.tokens.now c.args.s.left c.args.s.edge c.args.s.at c.loop-from.at c.loop-from.invariant.row c.in_default.ensures.none
