-- Proves what is asked of the functions that go through an expression.
use Rattle.std.proofs.Common.{ℕ, ◌≤◌, List, slice_index_or, length, sym, ap, subst, ◌∙◌, arith}
use Rattle.std.proofs.lemmas.List.{get_or_default}
use Rattle.tla_tree.specs.Tree.{grafts, size, sizes}
use Rattle.tla_tree.specs.Shapes.{Shaped}
use Rattle.tla_tree.specs.Pool.{Entry, at, trees_at}
use Rattle.tla_tree.proofs.PoolNumbers.{Keeps-then, AllBelow-more, past_at}
use Rattle.pcal_tree.specs.InMemory.{past_number, past_numbers}
use Rattle.pcal_tree.proofs.InMemoryEach.{all_below_past, past_all_below}
use Rattle.tla_pool.specs.FormOf.{form_of}
use Rattle.expansion_size.specs.FramesIn.{put_by}
use Rattle.macro_arguments.specs.FramesStay.{outside_same, graft_grown}
use Rattle.macro_arguments.proofs.TreeLaws.{part_size, parts_size, as_many}
use Rattle.macro_arguments.proofs.Lists.{put, put_grown, numbers_grow, made_more, made_all, numbers_made}
use Rattle.macro_arguments.proofs.expressions.+trees.Goals as goal

pub expression-returns-in-Outside-clause-tree : goal.expression-returns-in-Outside-clause-tree
expression-returns-in-Outside-clause-tree t c = outside_same c.args.pool.now c.args.frames.now (at c.args.pool.now c.args.e) c.in-Outside.is

pub expressions-expression-requires : goal.expressions-expression-requires
expressions-expression-requires t c =
    let old = c.args.pool.now in
    let g = put_by old c.args.frames.now in
    let kept = c.loop-i.invariant.0 in
    let e = slice_index_or c.args.list.now c.loop-i.i 0 in
    let here = get_or_default c.args.list.now c.loop-i.i 0 e c.loop-i-test.true in
    let past = past_at past_number c.args.list.now c.loop-i.i e here c.loop-i-test.true in
    let less = part_size g old c.args.list.now c.loop-i.i e here c.loop-i-test.true in
    let same = ap size (graft_grown old c.loop-i.pool kept c.args.frames.now c.requires.inner e (omega (arith, past, c.requires.there))) in
    (omega (arith, less, same, c.decreases), (omega (arith, past, c.requires.there, kept.longer), omega (arith, c.requires.inner, kept.longer)))

pub expressions-loop-i-preserved : goal.expressions-loop-i-preserved
expressions-loop-i-preserved t c =
    let e = slice_index_or c.args.list.now c.loop-i.i 0 in
    let here = get_or_default c.args.list.now c.loop-i.i 0 e c.loop-i-test.true in
    let past = past_at past_number c.args.list.now c.loop-i.i e here c.loop-i-test.true in
    let old = c.args.pool.now in
    let said = c.in_ok-expression.ensures in
    let kept = c.loop-i.invariant.0 in (
      Keeps-then _ _ _ kept said.kept,
      made_more past_number at (put (put_by old c.args.frames.now) old) numbers_grow c.loop-i.pool c.expression.new.pool said.kept c.loop-i.made.items c.args.list.now c.loop-i.i e c.in_ok-expression.field-0
          c.loop-i.invariant.1 here c.loop-i-test.true (omega (arith, said.within))
          (said.tree ∙ put_grown old c.loop-i.pool kept c.args.frames.now c.requires.inner e (omega (arith, past, c.requires.there))) c.push.new.self.items c.in_ok-push.ensures.items,
    )

pub expressions-returns-clause-made : goal.expressions-returns-clause-made
expressions-returns-clause-made t c =
    let old = c.args.pool.now in
    let g = put_by old c.args.frames.now in
    numbers_made g old c.loop-i.pool c.loop-i.made.items c.args.list.now (made_all past_number at (put g old) c.loop-i.pool c.loop-i.made.items c.args.list.now c.loop-i.i c.loop-i-test.false c.loop-i.invariant.1)

pub expression-expressions-requires : goal.expression-expressions-requires
expression-expressions-requires t c =
    let n = c.node.result.now in
    let ts = c.args.pool.now in
    let g = put_by ts c.args.frames.now in
    let parts = c.deref.ensures.value ∙ ap (λ (n : Entry). n.parts) (c.form.view_is ∙ c.in_ok-form-in-None.ensures) in
    let whole = parts_size g (at ts c.args.e) n.form n.place (trees_at ts n.parts) c.in-None.ensures.none c.node.ensures.tree in
    let same = ap (λ (is : List ℕ). sizes (grafts g (trees_at ts is))) parts in (
      omega (arith, c.decreases, whole, same),
      (
        subst (λ (is : List ℕ). past_numbers is ≤ length ts) (sym parts) (all_below_past (length ts) n.parts (AllBelow-more c.args.e (length ts) n.parts (omega (arith, c.requires.there)) c.node.ensures.older)),
        c.requires.inner,
      ),
    )

pub expression-put-requires-clause-below : goal.expression-put-requires-clause-below
expression-put-requires-clause-below t c = past_all_below (length c.expressions.new.pool) c.in_ok-others-in-None.others.items c.in_ok-others-in-None.ensures.made.within

pub expression-put-requires-clause-shaped : goal.expression-put-requires-clause-shaped
expression-put-requires-clause-shaped t c =
    let g = put_by c.args.pool.now c.args.frames.now in
    let node = c.form.view_is ∙ c.in_ok-form-in-None.ensures in
    let shaped = subst (λ (n : Entry). Shaped n.form (length n.parts)) (sym node) c.node.ensures.shaped in
    subst (Shaped (form_of c.form.inside.form))
    (ap (λ (is : List ℕ). length is) (sym c.deref.ensures.value) ∙ as_many g c.expressions.new.pool c.args.pool.now c.in_ok-others-in-None.others.items c.deref.result.now c.in_ok-others-in-None.ensures.made.stand) shaped
