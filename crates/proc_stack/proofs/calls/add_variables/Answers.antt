-- Proves that an assignment is added for each variable.
use Rattle.std.proofs.Common.{ap, arith}
use Rattle.tla_tree.proofs.PoolNumbers.{Keeps-then, past_at}
use Rattle.pcal_tree.specs.Algorithm.{Declaration, Assignments}
use Rattle.pcal_tree.specs.InMemory.{declaration_at, past_declaration}
use Rattle.written_names.specs.Units.{naming_of}
use Rattle.proc_stack.specs.Moves.{move_at, past_move}
use Rattle.proc_stack.specs.Pieces.{variable_move}
use Rattle.proc_stack.proofs.MadeLaws.{moves_grow, adds_next, adds_all, declaration_kept}
use Rattle.proc_stack.proofs.calls.add_variables.Goals as goal

pub add_variable-requires : goal.add_variable-requires
add_variable-requires c =
    let past = past_at past_declaration c.args.variables.now c.loop-one.one-index c.one-item.result c.one-item.is c.loop-one-test.true in omega (arith, past, c.requires, c.loop-one.invariant.0.longer)

pub loop-one-preserved : goal.loop-one-preserved
loop-one-preserved c =
    let old = c.args.pool.now in
    let past = past_at past_declaration c.args.variables.now c.loop-one.one-index c.one-item.result c.one-item.is c.loop-one-test.true in
    let set : Declaration → Assignments = variable_move ((naming_of c.args.local.now.naming.now).local c.args.local.now.unit) c.args.local.now.locals.now in
    let said = c.in_ok-add_variable.ensures in
    let before = c.loop-one.invariant.0 in (
      Keeps-then _ _ _ before said.kept,
      adds_next past_move move_at (λ d. set (declaration_at old d)) moves_grow c.loop-one.pool c.add_variable.new.pool said.kept c.args.out.now.items c.loop-one.out.items c.add_variable.new.out.items c.args.variables.now c.loop-one.one-index
          c.one-item.result (set (declaration_at c.loop-one.pool c.one-item.result)) c.one-item.is c.loop-one-test.true
          (ap set (declaration_kept old c.loop-one.pool before c.one-item.result (omega (arith, past, c.requires))))
          c.loop-one.invariant.1 said.made,
    )

pub returns-clause-made : goal.returns-clause-made
returns-clause-made c =
    let set : Declaration → Assignments = variable_move ((naming_of c.args.local.now.naming.now).local c.args.local.now.unit) c.args.local.now.locals.now in
    adds_all past_move move_at (λ d. set (declaration_at c.args.pool.now d)) c.loop-one.pool c.args.out.now.items c.loop-one.out.items c.args.variables.now c.loop-one.one-index c.loop-one-test.false c.loop-one.invariant.1
