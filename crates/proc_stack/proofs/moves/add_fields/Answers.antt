-- Proves that an assignment is added for each name.
use Rattle.tla_tree.specs.Pool.{at}
use Rattle.tla_tree.proofs.PoolNumbers.{Keeps-then}
use Rattle.pcal_tree.specs.Algorithm.{nowhere, assignment}
use Rattle.pcal_tree.specs.InMemory.{past_assignment}
use Rattle.written_names.specs.Units.{naming_of}
use Rattle.action_builder.specs.Jumps.{name_at}
use Rattle.proc_stack.specs.Made.{sides_at}
use Rattle.proc_stack.specs.Pieces.{selected, field_sides}
use Rattle.proc_stack.proofs.MadeLaws.{sides_grow, adds_next, adds_all}
use Rattle.proc_stack.proofs.moves.add_fields.Goals as goal

pub loop-name-preserved : goal.loop-name-preserved
loop-name-preserved c =
    let old = c.args.pool.now in
    let local = (naming_of c.args.locals.now.naming.now).local c.args.locals.now.unit in
    let said = c.in_ok-add_field.ensures in
    let before = c.loop-name.invariant.0 in (
      Keeps-then _ _ _ before said.kept,
      adds_next past_assignment sides_at (field_sides local (at old c.args.frame)) sides_grow c.loop-name.pool c.add_field.new.pool said.kept c.args.out.now.items c.loop-name.out.items c.add_field.new.out.items c.args.locals.now.names.now c.loop-name.name-index
          c.name-item.result (assignment (name_at nowhere c.local-written.result.now) (selected (at c.loop-name.pool c.args.frame) c.local-written.result.now)) c.name-item.is c.loop-name-test.true
          (λ j. assignment (name_at nowhere (c.local-written.ensures j)) (selected (before.same c.args.frame c.requires j) (c.local-written.ensures j)))
          c.loop-name.invariant.1 said.made,
    )

pub returns-clause-made : goal.returns-clause-made
returns-clause-made c =
    let local = (naming_of c.args.locals.now.naming.now).local c.args.locals.now.unit in
    adds_all past_assignment sides_at (field_sides local (at c.args.pool.now c.args.frame)) c.loop-name.pool c.args.out.now.items c.loop-name.out.items c.args.locals.now.names.now c.loop-name.name-index c.loop-name-test.false c.loop-name.invariant.1
