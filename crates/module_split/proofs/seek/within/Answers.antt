use Rattle.std.proofs.Common.{ap, ◌∙◌}
use Rattle.module_split.specs.declared.stand.Shape.TheVariants as shape
use Rattle.module_split.proofs.Comments.{short_block, whole_block, short_open, whole_open}
use Rattle.module_split.proofs.seek.within.Goals as goal

pub returns-then-stand-lt4 : goal.returns-then-stand-lt4
returns-then-stand-lt4 c = short_block c.args.text.now c.args.stand c.requires (c.in-Part.is ∙ ap shape.Part c.in-Block.is) c.if-stand-lt4.true

pub returns-else-stand-lt4 : goal.returns-else-stand-lt4
returns-else-stand-lt4 c = whole_block c.args.text.now c.args.stand c.requires (c.in-Part.is ∙ ap shape.Part c.in-Block.is) c.if-stand-lt4.false

pub returns-then-stand-lt2 : goal.returns-then-stand-lt2
returns-then-stand-lt2 c = short_open c.args.text.now c.args.stand c.requires (c.in-Part.is ∙ ap shape.Part c.in-OpenBlock.is) c.if-stand-lt2.true

pub returns-else-stand-lt2 : goal.returns-else-stand-lt2
returns-else-stand-lt2 c = whole_open c.args.text.now c.args.stand c.requires (c.in-Part.is ∙ ap shape.Part c.in-OpenBlock.is) c.if-stand-lt2.false
