-- Proves that each parameter has its argument.
use Rattle.std.proofs.Common.{◌+◌, ◌<◌, [], ◌∷◌, length, take, get_or, arith}
use Rattle.tla_tree.specs.Pool.{at}
use Rattle.tla_tree.proofs.PoolNumbers.{Keeps-then, past_at, same_default}
use Rattle.pcal_tree.specs.InMemory.{past_number, past_assignment}
use Rattle.written_names.specs.Units.{naming_of}
use Rattle.proc_stack.specs.Made.{Sides, sides_at}
use Rattle.proc_stack.specs.Pieces.{argument_sides}
use Rattle.proc_stack.proofs.MadeLaws.{sides_grow, adds_same, adds_then}
use Rattle.proc_stack.proofs.ArgumentLaws.{given, arguments_more, arguments_all}
use Rattle.proc_stack.proofs.calls.add_arguments.Goals as goal

pub add_argument-requires : goal.add_argument-requires
add_argument-requires c =
    let es = c.args.arguments.now in
    let e = get_or es c.loop-i.i 0 in
    let less : c.loop-i.i < length es = omega (arith, c.loop-i-test.true, c.min-count.ensures) in
    let past = past_at past_number es c.loop-i.i e (same_default es c.loop-i.i 0 e less) less in
    omega (arith, past, c.requires, c.loop-i.invariant.0.longer)

pub loop-i-preserved : goal.loop-i-preserved
loop-i-preserved c =
    let old = c.args.pool.now in
    let middle = c.loop-i.pool in
    let end = c.add_argument.new.pool in
    let local = (naming_of c.args.locals.now.naming.now).local c.args.locals.now.unit in
    let ps = c.args.params.now in
    let es = c.args.arguments.now in
    let i = c.loop-i.i in
    let p = c.index-params-i.result in
    let e = get_or es i 0 in
    let fewer : i < length ps = omega (arith, c.loop-i-test.true, c.min-count.ensures) in
    let less : i < length es = omega (arith, c.loop-i-test.true, c.min-count.ensures) in
    let here = same_default es i 0 e less in
    let past = past_at past_number es i e here less in
    let below : e < length old = omega (arith, past, c.requires) in
    let one : Sides = argument_sides local p.name.word (at old e) in
    let before = c.loop-i.invariant.0 in
    let said = c.in_ok-add_argument.ensures in (
      Keeps-then old middle end before said.kept,
      adds_same past_assignment sides_at end c.args.out.now.items c.add_argument.new.out.items _ (given local old (take (i + 1) ps) (take (i + 1) es))
          (arguments_more local old ps es i p e c.index-params-i.is here fewer less)
          (adds_then past_assignment sides_at sides_grow middle end said.kept c.args.out.now.items c.loop-i.out.items c.add_argument.new.out.items (given local old (take i ps) (take i es)) (one ∷ []) c.loop-i.invariant.1
          (adds_same past_assignment sides_at end c.loop-i.out.items c.add_argument.new.out.items _ (one ∷ []) (λ j. argument_sides local p.name.word (before.same e below j) ∷ []) said.made)),
    )

pub returns-clause-made : goal.returns-clause-made
returns-clause-made c =
    let local = (naming_of c.args.locals.now.naming.now).local c.args.locals.now.unit in
    adds_same past_assignment sides_at c.loop-i.pool c.args.out.now.items c.loop-i.out.items _ (given local c.args.pool.now c.args.params.now c.args.arguments.now)
    (arguments_all local c.args.pool.now c.args.params.now c.args.arguments.now c.loop-i.i (omega (arith, c.loop-i-test.false, c.min-count.ensures)))
    c.loop-i.invariant.1
