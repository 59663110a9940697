-- Proves what is asked of `put_path`.
use Rattle.std.proofs.Common.{◌∷◌, arith, sym, ap, ◌∙◌, ◌-◌, ◌≤◌, drop}
use Rattle.tla_tree.specs.Shapes.{subscripts}
use Rattle.tla_pool.specs.declared.form.Step.{Step}
use Rattle.tla_pool.specs.FormOf.{step_of, steps_of}
use Rattle.tla_tree.specs.Written.{path_pieces}
use Rattle.tla_write.proofs.WritingLemmas.{shown_append, map_next, part_next, subscripts_less}
use Rattle.tla_write.proofs.write.put_path.Goals as goal

pub overflow_sub-first : goal.overflow_sub-first
overflow_sub-first c =
    let ss = steps_of c.args.path.now in
    let step = map_next step_of c.args.path.now c.loop-i.i c.index-path-i.result c.index-path-i.is (omega (arith, c.loop-i-test.true)) c.loop-i.invariant.0 ∙ ap (λ (s : Step). step_of s ∷ drop c.loop-i.i ss) c.in-Index.is in
    omega (arith, c.requires, c.loop-i.invariant.1.0, subscripts_less ss (c.loop-i.i - 1), ap subscripts step)

pub loop-i-preserved-in-Continue-branch-3 : goal.loop-i-preserved-in-Continue-branch-3
loop-i-preserved-in-Continue-branch-3 c =
    let ss = steps_of c.args.path.now in
    let inv = c.loop-i.invariant in
    let step = map_next step_of c.args.path.now c.loop-i.i c.index-path-i.result c.index-path-i.is (omega (arith, c.loop-i-test.true)) inv.0 ∙ ap (λ (s : Step). step_of s ∷ drop c.loop-i.i ss) c.in-Index.is in
    let less : 1 ≤ c.loop-i.first = omega (arith, c.requires, inv.1.0, subscripts_less ss (c.loop-i.i - 1), ap subscripts step) in (
      omega (arith, inv.0),
      (
        omega (arith, inv.1.0, less, ap subscripts step),
        λ xs l ps rest e. rw (c.in_ok-push-in-Index-3.ensures.items, c.in_ok-push-in-Index-2.ensures.items, c.in_ok-push-in-Index.ensures.items)
            (simp shown_append (rw (inv.1.1 xs l ps rest e) (λ j. path_pieces (sym step j) (sym (part_next xs c.loop-i.first less (omega (arith, l, inv.1.0))) j) rest))),
      ),
    )

pub loop-i-preserved : goal.loop-i-preserved
loop-i-preserved c =
    let ss = steps_of c.args.path.now in
    let inv = c.loop-i.invariant in
    let step = map_next step_of c.args.path.now c.loop-i.i c.index-path-i.result c.index-path-i.is (omega (arith, c.loop-i-test.true)) inv.0 ∙ ap (λ (s : Step). step_of s ∷ drop c.loop-i.i ss) c.in-Field.is in (
      omega (arith, inv.0),
      (
        omega (arith, inv.1.0, ap subscripts step),
        λ xs l ps rest e. rw (c.in_ok-push-in-Field-2.ensures.items, c.in_ok-push-in-Field.ensures.items)
            (simp shown_append (rw (inv.1.1 xs l ps rest e) (λ j. path_pieces (sym step j) (drop c.loop-i.first xs) rest))),
      ),
    )
