-- Proves what is asked of `phrases`.
use Rattle.std.proofs.Common.{◌≡◌, ◌≤◌, ℕ, List, [], ◌∷◌, ◌++◌, length, arith, sym, ap, ◌∙◌, subst}
use Rattle.std.proofs.lemmas.Result.{err_from_is_err_and}
use Rattle.tla_tree.proofs.PoolNumbers.{Keeps-then}
use Rattle.expr_rows.proofs.ReadRows.{RowSoFar, row_first, row_next, row_fails}
use Rattle.expr_rows.proofs.read_row.phrases.Goals as goal

pub loop-from-init : goal.loop-from-init
loop-from-init g c =
    let one = c.requires.given.reads _ _ _ _ _ (omega arith) c.requires.given.there c.in_ok-first.ensures in
    let s = c.args.s in
    let items : c.push.new.self.items ≡ c.in_ok-first.first.id ∷ [] = c.in_ok-push.ensures.items ∙ ap (λ (is : List ℕ). is ++ c.in_ok-first.first.id ∷ []) c.new-ids.ensures.items in
    record {
      row = subst (λ (is : List ℕ). RowSoFar s.linked c.args.tokens.now c.inner.new.arg2 s.left s.edge s.at c.in_ok-first.next is c.in_ok-first.first.shape.start c.in_ok-first.first.shape.nesting) (sym items) (row_first _ c.args.tokens.now s.left s.edge s.at c.in_ok-first.next one.read);
      kept = one.kept;
      some = subst (λ (is : List ℕ). 1 ≤ length is) (sym items) (omega arith);
      small = one.small;
      inside = one.inside;
      further = one.further;
    }

pub loop-from-preserved : goal.loop-from-preserved
loop-from-preserved g c =
    let s = c.args.s in
    let one = c.requires.given.reads _ _ _ _ _ (omega arith) c.in-Some.ensures.inside c.in_ok-a.ensures in
    let so_far = c.loop-from.invariant in
    let next = row_next _ c.args.tokens.now s.left s.edge s.at c.loop-from.at c.in-Some.from c.in_ok-a.next so_far.row c.in-Some.ensures.there c.in-Some.ensures.rest one.kept one.read in
    record {
      row = rw (c.in_ok-push-2.ensures.items, c.larger-nesting.ensures) next;
      kept = Keeps-then _ _ _ so_far.kept one.kept;
      some = grind (arith, c.in_ok-push-2.ensures.len, so_far.some);
      small = grind (arith, c.larger-nesting.ensures, so_far.small, one.small);
      inside = one.inside;
      further = omega (arith, so_far.further, c.in-Some.ensures.further, one.further);
    }

pub returns-in_err-a-clause-read : goal.returns-in_err-a-clause-read
returns-in_err-a-clause-read g c =
    let s = c.args.s in
    let one = c.requires.given.reads _ _ _ _ _ (omega arith) c.in-Some.ensures.inside c.in_err-a.ensures in
    let p = err_from_is_err_and c.from_residual-in_err-a.result c.from_residual-in_err-a.ensures.1 in
    rw (p.1, p.2) (row_fails _ c.args.tokens.now s.left s.edge s.at c.loop-from.at c.in-Some.from c.in_err-a.field-0.0 c.loop-from.invariant.row c.in-Some.ensures.there c.in-Some.ensures.rest one.read)
