-- Proves that processes are apart and in order, or that two share an identifier.
use Rattle.std.proofs.Common.{map, Err, ap, sym, ◌∙◌}
use Rattle.tla_tree.specs.Tree.{Name}
use Rattle.tla_value.specs.declared.fault.FaultKind.TheVariants.{SameIdentifier}
use Rattle.tla_value.specs.Value.{fault}
use Rattle.step_moves.specs.InMemory.{named_at}
use Rattle.step_moves.proofs.EntryLaws.{none_placed, next_placed, next_shared, none_left, all_apart, all_sorted}
use Rattle.step_moves.proofs.apart.apart.Goals as goal

pub loop-one-init : goal.loop-one-init
loop-one-init c = λ ts. none_placed ts (map (named_at ts) c.args.all.now) c.new-known.result.entries c.new-known.ensures.empty

pub loop-one-preserved : goal.loop-one-preserved
loop-one-preserved c = λ ts.
    next_placed ts c.args.all.now c.loop-one.one-index c.one-item.result c.one-item.is c.loop-one-test.true c.loop-one.known.entries c.insert.new.self.entries _ _ c.in_ok-identifier.ensures
    c.in_ok-insert.ensures.old (sym c.is_some.ensures ∙ c.if-is_some.false) c.in_ok-insert.ensures.entries (c.loop-one.invariant ts)

pub returns-then-is_some-clause-apart : goal.returns-then-is_some-clause-apart
returns-then-is_some-clause-apart c = λ ts.
    next_shared ts c.args.all.now c.loop-one.one-index c.one-item.result c.one-item.is c.loop-one-test.true c.loop-one.known.entries _ _ c.in_ok-identifier.ensures
    c.in_ok-insert.ensures.old (sym c.is_some.ensures ∙ c.if-is_some.true) (c.loop-one.invariant ts)
    ∙ ap (λ (n : Name). Err (fault SameIdentifier n.place)) (sym c.name.view_is)

pub returns-clause-apart : goal.returns-clause-apart
returns-clause-apart c = λ ts.
    all_apart ts (map (named_at ts) c.args.all.now) c.loop-one.known.entries (none_left ts c.args.all.now c.loop-one.one-index c.loop-one.known.entries c.loop-one-test.false (c.loop-one.invariant ts))

pub returns-clause-sorted : goal.returns-clause-sorted
returns-clause-sorted c = λ ts.
    all_sorted ts (map (named_at ts) c.args.all.now) c.loop-one.known.entries (none_left ts c.args.all.now c.loop-one.one-index c.loop-one.known.entries c.loop-one-test.false (c.loop-one.invariant ts))
