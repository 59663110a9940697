-- Proves that each of what a `with` names is made.
use Rattle.std.proofs.Common.{◌∙◌, arith}
use Rattle.tla_tree.proofs.PoolNumbers.{Keeps-then, past_at}
use Rattle.pcal_tree.specs.InMemory.{bind_at, past_bind}
use Rattle.expansion_size.specs.FramesIn.{put_by}
use Rattle.macro_arguments.specs.Expressions.{bind_put}
use Rattle.macro_arguments.proofs.Lists.{bind_grown, binds_grow, made_more, made_all, binds_made}
use Rattle.expansion.proofs.parts.binds.Goals as goal

pub bind-requires-clause-there : goal.bind-requires-clause-there
bind-requires-clause-there c =
    let past = past_at past_bind c.args.list.now c.loop-one.one-index c.one-item.result c.one-item.is c.loop-one-test.true in omega (arith, past, c.requires.there, c.loop-one.invariant.0.longer)

pub loop-one-preserved : goal.loop-one-preserved
loop-one-preserved c =
    let past = past_at past_bind c.args.list.now c.loop-one.one-index c.one-item.result c.one-item.is c.loop-one-test.true in
    let old = c.args.pool.now in
    let said = c.in_ok-bind.ensures in
    let kept = c.loop-one.invariant.0 in (
      Keeps-then _ _ _ kept said.kept,
      made_more past_bind bind_at (bind_put (put_by old c.args.frames.now) old) binds_grow c.loop-one.pool c.bind.new.pool said.kept c.loop-one.made.items c.args.list.now c.loop-one.one-index c.one-item.result c.in_ok-bind.field-0
          c.loop-one.invariant.1 c.one-item.is c.loop-one-test.true said.within
          (said.made ∙ bind_grown old c.loop-one.pool kept c.args.frames.now c.requires.inner c.one-item.result (omega (arith, past, c.requires.there))) c.push.new.self.items c.in_ok-push.ensures.items,
    )

pub returns-clause-made : goal.returns-clause-made
returns-clause-made c =
    let old = c.args.pool.now in
    let g = put_by old c.args.frames.now in
    binds_made g old c.loop-one.pool c.loop-one.made.items c.args.list.now (made_all past_bind bind_at (bind_put g old) c.loop-one.pool c.loop-one.made.items c.args.list.now c.loop-one.one-index c.loop-one-test.false c.loop-one.invariant.1)
