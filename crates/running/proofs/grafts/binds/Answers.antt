-- Proves that each of what a `with` names is made.
use Rattle.std.proofs.Common.{◌∙◌, arith}
use Rattle.tla_tree.proofs.PoolNumbers.{Keeps-then, past_at}
use Rattle.pcal_tree.specs.InMemory.{bind_at, past_bind}
use Rattle.running.specs.Prepared.{names_put, own_put}
use Rattle.running.proofs.MadeOnto.{made_more, made_all}
use Rattle.running.proofs.Members.{binds_twice, binds_grow, binds_made}
use Rattle.running.proofs.grafts.binds.Goals as goal

pub bind-requires : goal.bind-requires
bind-requires c =
    let past = past_at past_bind c.args.list.now c.loop-one.one-index c.one-item.result c.one-item.is c.loop-one-test.true in omega (arith, past, c.requires, c.loop-one.invariant.0.longer)

pub loop-one-preserved : goal.loop-one-preserved
loop-one-preserved c =
    let o = c.one-item.result in
    let past = past_at past_bind c.args.list.now c.loop-one.one-index o c.one-item.is c.loop-one-test.true in
    let old = c.args.pool.now in
    let ts = c.loop-one.pool in
    let h = own_put c.args.places.now.own in
    let g = names_put c.args.places.now.local in
    let said = c.in_ok-bind.ensures in
    let kept = c.loop-one.invariant.0 in (
      Keeps-then _ _ _ kept said.kept,
      made_more past_bind bind_at (binds_twice h g) binds_grow old ts c.bind.new.pool said.kept c.loop-one.made.items c.args.list.now c.loop-one.one-index o c.in_ok-bind.field-0 c.loop-one.invariant.1 c.one-item.is
          c.loop-one-test.true said.within
          (λ bs. said.made bs ∙ (λ j. binds_twice h g (binds_grow old ts kept o (omega (arith, past, c.requires)) j bs))) c.push.new.self.items c.in_ok-push.ensures.items,
    )

pub returns-clause-made : goal.returns-clause-made
returns-clause-made c =
    let old = c.args.pool.now in
    let h = own_put c.args.places.now.own in
    let g = names_put c.args.places.now.local in
    binds_made h g old c.loop-one.pool c.loop-one.made.items c.args.list.now (made_all past_bind bind_at (binds_twice h g) old c.loop-one.pool c.loop-one.made.items c.args.list.now c.loop-one.one-index c.loop-one-test.false c.loop-one.invariant.1)
