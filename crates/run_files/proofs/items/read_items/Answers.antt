-- Proves what is asked of `read_items`.
use Rattle.run_files.proofs.ItemLaws.{so_far_more, items_stop}
use Rattle.run_files.proofs.items.read_items.Goals as goal

pub loop-at-preserved : goal.loop-at-preserved
loop-at-preserved c =
    let a = c.in-Ok.ensures in
    let n = c.next_at-at-in-Ok.ensures in (
      so_far_more c.args.bullet c.args.known.now c.args.text.now c.loop-at.state c.read_item.new.state c.loop-at.at c.in-Ok.to c.next_at-at-in-Ok.result a.0 c.loop-at.invariant.0 a.1 a.2 a.3 n.0,
      n.2,
    )

pub returns-in-Err : goal.returns-in-Err
returns-in-Err c =
    items_stop c.args.bullet c.args.known.now c.args.text.now c.loop-at.state c.read_item.new.state c.loop-at.at c.in-Err.halt c.loop-at.invariant.0 c.in-Err.ensures
