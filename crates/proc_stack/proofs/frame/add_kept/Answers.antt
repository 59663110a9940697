-- Proves that a value is added for each name.
use Rattle.std.proofs.Common.{option_map, Option, refl, ap, ◌∙◌, arith}
use Rattle.tla_tree.specs.Tree.{Word, Tree}
use Rattle.tla_tree.specs.Pool.{at}
use Rattle.tla_tree.proofs.PoolNumbers.{Keeps-then}
use Rattle.pcal_tree.specs.InMemory.{past_number}
use Rattle.written_names.specs.Units.{naming_of}
use Rattle.proc_stack.specs.Pieces.{value_kept}
use Rattle.proc_stack.proofs.MadeLaws.{trees_grow, adds_one, adds_next, adds_all, maybe_within, maybe_kept}
use Rattle.proc_stack.proofs.frame.add_kept.Goals as goal

pub kept_value-requires : goal.kept_value-requires
kept_value-requires c = maybe_within c.args.pool.now c.loop-name.pool c.loop-name.invariant.0 c.args.from c.requires

pub loop-name-preserved : goal.loop-name-preserved
loop-name-preserved c =
    let old = c.args.pool.now in
    let local = (naming_of c.args.locals.now.naming.now).local c.args.locals.now.unit in
    let h : Word → Tree = λ x. value_kept (option_map (at old) c.args.from) (local x) in
    let said = c.in_ok-kept.ensures in
    let before = c.loop-name.invariant.0 in (
      Keeps-then _ _ _ before said.kept,
      adds_next past_number at h trees_grow c.loop-name.pool c.kept_value.new.pool said.kept c.args.out.now.items c.loop-name.out.items c.push.new.self.items c.args.locals.now.names.now c.loop-name.name-index c.name-item.result
          (at c.kept_value.new.pool c.in_ok-kept.kept) c.name-item.is c.loop-name-test.true
          (said.tree
          ∙ ap (λ (o : Option Tree). value_kept o c.local-written.result.now) (maybe_kept old c.loop-name.pool before c.args.from c.requires)
          ∙ ap (value_kept (option_map (at old) c.args.from)) c.local-written.ensures)
          c.loop-name.invariant.1
          (adds_one past_number at c.kept_value.new.pool c.loop-name.out.items c.push.new.self.items c.in_ok-kept.kept (at c.kept_value.new.pool c.in_ok-kept.kept) c.in_ok-push.ensures.items (omega (arith, said.within)) refl),
    )

pub returns-clause-made : goal.returns-clause-made
returns-clause-made c =
    let local = (naming_of c.args.locals.now.naming.now).local c.args.locals.now.unit in
    adds_all past_number at (λ x. value_kept (option_map (at c.args.pool.now) c.args.from) (local x)) c.loop-name.pool c.args.out.now.items c.loop-name.out.items c.args.locals.now.names.now c.loop-name.name-index c.loop-name-test.false
    c.loop-name.invariant.1
