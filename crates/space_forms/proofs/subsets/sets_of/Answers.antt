-- Proves what is asked of `sets_of`.
use Rattle.space_forms.proofs.SubListLaws.{row_at}
use Rattle.space_forms.proofs.subsets.sets_of.Goals as goal

pub as_set-requires : goal.as_set-requires
as_set-requires c = row_at 65536 c.args.rows.now c.loop-row.row-index c.row-item.result c.loop-row-test.true c.row-item.is c.requires
