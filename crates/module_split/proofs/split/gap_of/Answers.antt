use Rattle.std.proofs.Common.{refl}
use Rattle.module_split.proofs.Comments.{no_stand}
use Rattle.module_split.proofs.Gaps.{gap_old, gap_new}
use Rattle.module_split.proofs.split.gap_of.Goals as goal

pub returns-then-index-stands : goal.returns-then-index-stands
returns-then-index-stands c =
    gap_old c.args.text.now c.args.stands.now c.region_index-index.result no_stand _ c.requires.solid c.region_index-index.ensures c.if-index-stands.true refl refl c.behind.ensures refl refl

pub returns : goal.returns
returns c =
    gap_new c.args.text.now c.args.stands.now c.region_index-index.result c.args.comment c.newline_index-end.result _ c.requires.solid c.region_index-index.ensures c.if-index-stands.false c.requires.comment
    c.behind-rest.result.now c.behind-rest.ensures c.newline_index-end.ensures c.up_to.ensures c.up_to-2.ensures c.behind-2.ensures c.insertion.ensures refl
