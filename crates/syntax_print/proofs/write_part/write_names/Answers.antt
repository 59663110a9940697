-- Proves what is asked of `write_names`.
use Rattle.tla_write.proofs.OneMore.{parted_more}
use Rattle.syntax_print.proofs.Commas.{names_parted}
use Rattle.syntax_print.proofs.write_part.write_names.Goals as goal

pub loop-i-preserved : goal.loop-i-preserved
loop-i-preserved c =
    parted_more _ _ _ (names_parted) c.args.into.now c.loop-i.into c.write_between.new.into c.write_name.new.into c.args.names.now c.loop-i.i c.index-names-i.result
    c.index-names-i.is c.loop-i-test.true c.loop-i.invariant c.in_ok-write_between.ensures c.in_ok-write_name.ensures
