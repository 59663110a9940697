-- Proves that the first offence of definitions is found, and that they are known then.
use Rattle.std.proofs.Common.{◌≡◌, ℕ, List, Some, length, get_or, sym, ap, ◌∙◌, subst}
use Rattle.tla_tree.specs.Tree.{Name}
use Rattle.pcal_tree.specs.declared.algorithm.Definition.{Definition}
use Rattle.pcal_tree.specs.NameUses as names
use Rattle.name_rules.proofs.RoutineLaws.{defining_start, defining_step, defining_told, known_inside, inside_latest}
use Rattle.declared_rules.proofs.SeenLaws.{sees_is, latest_all}
use Rattle.name_rules.proofs.found.Found.of_definitions.Goals as goal

pub loop-i-init : goal.loop-i-init
loop-i-init c = defining_start c.args.pool.now c.args.list.now c.args.sight.now

pub loop-i-preserved : goal.loop-i-preserved
loop-i-preserved c =
    let at_i = subst (λ (d : Definition). d ≡ get_or c.args.list.now c.loop-i.i d) (sym c.one.view_is) c.index-list-i.is in
    let ts = c.args.pool.now in
    let many = c.how_many.ensures ∙ ap (λ (xs : List Name). length xs) c.deref-in-loop-i.ensures.value in
    defining_step ts c.args.list.now c.args.sight.now c.loop-i.sight c.set.new.self c.loop-i.found c.in_ok-offence.offence c.least-found.result c.loop-i.i _ c.deref.result.now at_i c.loop-i-test.true c.deref.ensures.value
    (λ s h. c.in_ok-offence.ensures s h)
    c.least-found.ensures
    (λ s h. c.in_ok-set.ensures s (names.takes _) h (ap (λ (n : ℕ). Some (names.takes n)) many))
    c.loop-i.invariant

pub returns-clause-first : goal.returns-clause-first
returns-clause-first c = defining_told c.args.pool.now c.args.list.now c.args.sight.now c.loop-i.sight c.loop-i.found c.loop-i.i c.loop-i-test.false c.loop-i.invariant

pub returns-clause-seen : goal.returns-clause-seen
returns-clause-seen c = λ s h.
    sees_is c.loop-i.sight _ _ (inside_latest c.args.pool.now c.args.list.now s) (latest_all known_inside c.loop-i.sight c.args.list.now c.loop-i.i s c.loop-i-test.false (c.loop-i.invariant.seen s h))
