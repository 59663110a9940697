-- Proves that the arm of one process is added.
use Rattle.std.proofs.Common.{length, refl, sym, ap, ◌∙◌, arith}
use Rattle.tla_tree.proofs.PoolNumbers.{Keeps-then}
use Rattle.pcal_tree.specs.Algorithm.{process_routine}
use Rattle.pcal_tree.specs.InMemory.{process_at, statements_at}
use Rattle.action_builder.specs.InitialFormulas.{is_taker}
use Rattle.module_formulas.proofs.Grown.{below_two}
use Rattle.module_formulas.proofs.Behind.{adds_two}
use Rattle.module_formulas.proofs.init.add_arm.Goals as goal

pub is_taker-requires-clause-within : goal.is_taker-requires-clause-within
is_taker-requires-clause-within c = c.taker_of.ensures.within (length c.args.pool.now) c.requires.there

pub returns-clause-made : goal.returns-clause-made
returns-clause-made c = λ P d this.
    let ts = c.args.pool.now in
    let test = c.in_ok-test.ensures in
    let value = c.in_ok-value.ensures in
    adds_two ts c.first_pc.new.pool c.args.out.now.items c.extend_from_slice.new.self.items c.in_ok-test.test c.in_ok-value.value _ _ (Keeps-then _ _ _ test.kept value.kept) c.requires.below
    (value.kept.same c.in_ok-test.test test.within ∙ test.tree this ∙ ap is_taker (c.taker_of.ensures.stands ts))
    (value.tree ts P (process_routine c.args.unit (process_at ts c.args.process.now)) d.naming refl (ap (statements_at ts) (sym c.deref.ensures.value)) refl)
    c.in_ok-extend_from_slice.ensures.items

pub returns-clause-below : goal.returns-clause-below
returns-clause-below c =
    let ts = c.args.pool.now in
    let test = c.in_ok-test.ensures in
    let value = c.in_ok-value.ensures in
    below_two ts c.first_pc.new.pool c.args.out.now.items c.extend_from_slice.new.self.items c.in_ok-test.test c.in_ok-value.value (Keeps-then _ _ _ test.kept value.kept) c.requires.below
    (omega (arith, test.within, value.kept.longer)) value.within c.in_ok-extend_from_slice.ensures.items
