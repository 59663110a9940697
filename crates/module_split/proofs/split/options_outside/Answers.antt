use Rattle.std.proofs.Common.{sym, ◌∙◌, arith}
use Rattle.tla_token.specs.Readings.{joined}
use Rattle.module_split.specs.SplitSeen.{is_region_stand}
use Rattle.module_split.proofs.SplitParts.{no_options, options_new, options_old, sound_end}
use Rattle.module_split.proofs.split.options_outside.Goals as goal

pub returns-in-None : goal.returns-in-None
returns-in-None c = no_options c.args.text.now c.args.stands.now (sym c.in-None.ensures)

pub returns-in-None-region : goal.returns-in-None-region
returns-in-None-region c =
    options_new c.args.text.now c.args.stands.now c.in-Some.first c.end_index-end.result c.options_fault.result (sym c.in-Some.ensures) (sym c.in-None-region.ensures) c.end_index-end.ensures.value c.options_fault.ensures

pub returns-in-Some-region : goal.returns-in-Some-region
returns-in-Some-region c =
    options_old c.args.text.now c.args.stands.now c.in-Some.first c.in-Some-region.old c.end_index-end.result c.sooner.result c.requires.solid (sym c.in-Some.ensures) (sym c.in-Some-region.ensures) c.end_index-end.ensures.value
    (c.sooner.ensures ∙ (λ i. joined (c.options_fault-in-Some-region.ensures i) (c.options_fault-in-Some-region-2.ensures i)))

pub options_fault-requires-in-Some-region : goal.options_fault-requires-in-Some-region
options_fault-requires-in-Some-region c = (let l = sound_end c.args.text.now c.args.stands.now c.in-Some-region.old is_region_stand c.requires.solid (sym c.in-Some-region.ensures) in omega arith)

pub overflow_add-old : goal.overflow_add-old
overflow_add-old c = (let l = sound_end c.args.text.now c.args.stands.now c.in-Some-region.old is_region_stand c.requires.solid (sym c.in-Some-region.ensures) in omega arith)
