-- Proves that each of the expressions is made.
use Rattle.std.proofs.Common.{slice_index_or, ap, ◌∙◌, arith}
use Rattle.std.proofs.lemmas.List.{get_or_default}
use Rattle.tla_tree.specs.Tree.{tree, graft}
use Rattle.tla_tree.proofs.PoolNumbers.{Keeps-then, past_at}
use Rattle.pcal_tree.specs.InMemory.{past_number}
use Rattle.running.specs.Prepared.{names_put, own_put}
use Rattle.running.proofs.MadeOnto.{made_more, made_all}
use Rattle.running.proofs.Members.{number_before, numbers_twice, numbers_grow, numbers_made}
use Rattle.running.proofs.grafts.expressions.Goals as goal

pub expression-requires : goal.expression-requires
expression-requires c =
    let e = slice_index_or c.args.list.now c.loop-i.i 0 in
    let here = get_or_default c.args.list.now c.loop-i.i 0 e c.loop-i-test.true in
    let past = past_at past_number c.args.list.now c.loop-i.i e here c.loop-i-test.true in
    omega (arith, past, c.requires, c.loop-i.invariant.0.longer)

pub loop-i-preserved : goal.loop-i-preserved
loop-i-preserved c =
    let e = slice_index_or c.args.list.now c.loop-i.i 0 in
    let here = get_or_default c.args.list.now c.loop-i.i 0 e c.loop-i-test.true in
    let past = past_at past_number c.args.list.now c.loop-i.i e here c.loop-i-test.true in
    let old = c.args.pool.now in
    let h = own_put c.args.places.now.own in
    let g = names_put c.args.places.now.local in
    let said = c.in_ok-expression.ensures in
    let kept = c.loop-i.invariant.0 in (
      Keeps-then _ _ _ kept said.kept,
      made_more past_number number_before (numbers_twice h g) numbers_grow old c.loop-i.pool c.expression.new.pool said.kept c.loop-i.made.items c.args.list.now c.loop-i.i e c.in_ok-expression.field-0 c.loop-i.invariant.1 here
          c.loop-i-test.true (omega (arith, said.within))
          (λ us j. tree ((said.tree ∙ ap (λ t. graft h (graft g t)) (kept.same e (omega (arith, past, c.requires)))) j) (numbers_twice h g us)) c.push.new.self.items c.in_ok-push.ensures.items,
    )

pub returns-clause-trees : goal.returns-clause-trees
returns-clause-trees c =
    let old = c.args.pool.now in
    let h = own_put c.args.places.now.own in
    let g = names_put c.args.places.now.local in
    numbers_made h g old c.loop-i.pool c.loop-i.made.items c.args.list.now
    (made_all past_number number_before (numbers_twice h g) old c.loop-i.pool c.loop-i.made.items c.args.list.now c.loop-i.i c.loop-i-test.false c.loop-i.invariant.1)
