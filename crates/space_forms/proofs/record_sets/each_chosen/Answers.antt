-- Proves what is asked of `each_chosen`.
use Rattle.std.proofs.Common.{◌∙◌, sym, arith}
use Rattle.std.specs.Option.{option_copied}
use Rattle.space_forms.proofs.RecordLaws.{beside_step, beside_end}
use Rattle.space_forms.proofs.record_sets.each_chosen.Goals as goal

pub returns-then-not-chosen_from : goal.returns-then-not-chosen_from
returns-then-not-chosen_from c =
    beside_step c.args.values.now c.args.keys.now c.args.sets.now c.args.domain.now c.loop-i.i c.index-values-i.result c.index-domain-i.result (option_copied c.first_beside.result) _ _ (omega (arith, c.requires.values)) (omega arith) c.index-values-i.is c.index-domain-i.is c.first_beside.ensures c.requires.each (sym c.chosen_from.ensures ∙ c.if-not-chosen_from.true) c.loop-i.invariant

pub loop-i-preserved : goal.loop-i-preserved
loop-i-preserved c =
    beside_step c.args.values.now c.args.keys.now c.args.sets.now c.args.domain.now c.loop-i.i c.index-values-i.result c.index-domain-i.result (option_copied c.first_beside.result) _ _ (omega (arith, c.requires.values)) (omega arith) c.index-values-i.is c.index-domain-i.is c.first_beside.ensures c.requires.each (sym c.chosen_from.ensures ∙ c.if-not-chosen_from.false) c.loop-i.invariant

pub returns : goal.returns
returns c = beside_end c.args.values.now c.args.keys.now c.args.sets.now c.args.domain.now c.loop-i.i _ (omega (arith, c.requires.values)) (omega arith) c.loop-i.invariant
