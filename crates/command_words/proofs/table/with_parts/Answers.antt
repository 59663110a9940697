-- Proves what is asked of `with_parts`: each part is one rule more.
use Rattle.clap.specs.Simple.{app_of}
use Rattle.command_words.proofs.TableLemmas.{one_more}
use Rattle.command_words.proofs.table.with_parts.Goals as goal

pub loop-part-preserved : goal.loop-part-preserved
loop-part-preserved c =
    record {
      app = one_more (app_of c.loop-part.command) (app_of c.in_ok-command.command) c.args.name.now c.args.parts.now c.loop-part.part-index _ c.loop-part-test.true c.loop-part.invariant.app c.in_ok-command.ensures.app;
      local = c.in_ok-command.ensures.local;
    }
