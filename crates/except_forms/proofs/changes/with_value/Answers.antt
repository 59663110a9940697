-- Proves what is asked of `with_value`.
use Rattle.std.proofs.Common.{◌∙◌, sym, ap, arith, Ok}
use Rattle.except_forms.proofs.ChangeLaws.{value_over, value_stored, value_made}
use Rattle.except_forms.proofs.changes.with_value.Goals as goal

pub returns-then-depth_of-ge-DEEPEST : goal.returns-then-depth_of-ge-DEEPEST
returns-then-depth_of-ge-DEEPEST c =
    value_over c.args.at c.args.domain.items c.args.values.items c.args.i c.args.new c.requires.place (omega (arith, c.depth_of.ensures.depth, c.if-depth_of-ge-DEEPEST.true))

pub whole-requires : goal.whole-requires
whole-requires c =
    value_stored c.args.domain.items c.args.values.items c.args.i c.args.new c.requires.function c.depth_of.ensures.stored (omega (arith, c.depth_of.ensures.depth, c.if-depth_of-ge-DEEPEST.false))

pub returns : goal.returns
returns c =
    value_made c.args.at c.args.domain.items c.args.values.items c.args.i c.args.new c.requires.function c.depth_of.ensures.stored (omega (arith, c.depth_of.ensures.depth, c.if-depth_of-ge-DEEPEST.false)) ∙ ap Ok (sym c.whole.ensures)
