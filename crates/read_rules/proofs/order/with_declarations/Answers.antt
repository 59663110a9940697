-- Proves that the first offence of declarations is found.
use Rattle.std.proofs.Common.{◌∷◌, [], refl, ap, ◌∙◌, subst}
use Rattle.pcal_tree.specs.declared.algorithm.Declaration.{Declaration}
use Rattle.pcal_tree.specs.InMemory.{start_at}
use Rattle.pcal_tree.specs.Offences.{first}
use Rattle.algorithm_answer.specs.Joined.{joined}
use Rattle.read_rules.specs.EarlyReads.{early_in_start}
use Rattle.algorithm_limits.specs.DepthsIn.{Hides}
use Rattle.read_rules.proofs.OrderLaws.{early_start, early_more, early_all, early_hides}
use Rattle.read_rules.proofs.order.with_declarations.Goals as goal

pub loop-i-init : goal.loop-i-init
loop-i-init c = early_start c.args.known.now c.args.so_far c.args.pool.now c.args.list.now

pub loop-i-preserved : goal.loop-i-preserved
loop-i-preserved c =
    let d = c.index-list-i.result in
    early_more c.args.known.now c.loop-i.known _ c.args.so_far c.loop-i.found c.in_ok-found.found c.args.pool.now c.args.list.now c.loop-i.i d c.index-list-i.is c.loop-i-test.true
    (λ all ls before k. c.in_ok-found.ensures all ls before k ∙ ap (λ (e : Declaration). joined c.loop-i.found (first (early_in_start all ls before c.loop-i.i (start_at c.args.pool.now e.start)))) c.declaration.view_is) refl refl
    (subst (λ (e : Declaration). Hides c.loop-i.known.before c.add.new.self (e.name.word ∷ [])) c.declaration.view_is c.in_ok-add.ensures) c.loop-i.invariant

pub returns-clause-found : goal.returns-clause-found
returns-clause-found c = early_all c.args.known.now c.loop-i.known c.args.so_far c.loop-i.found c.args.pool.now c.args.list.now c.loop-i.i c.loop-i-test.false c.loop-i.invariant

pub returns-clause-hides : goal.returns-clause-hides
returns-clause-hides c = early_hides c.args.known.now c.loop-i.known c.args.so_far c.loop-i.found c.args.pool.now c.args.list.now c.loop-i.i c.loop-i-test.false c.loop-i.invariant
