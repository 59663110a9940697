-- Proves that the test of Terminating is put in, and the rest stays.
use Rattle.std.proofs.Common.{length}
use Rattle.module_write.proofs.InMemoryGrown.{region_at-kept}
use Rattle.module_builder.proofs.RegionsGrown.{region_more}
use Rattle.module_builder.proofs.region.add_ended.Goals as goal

pub returns-clause-made : goal.returns-clause-made
returns-clause-made c = λ P d h j. record (region_at-kept c.args.pool.now c.ended.new.pool c.in_ok-region.ensures.kept c.args.region.now h j) { ended = c.in_ok-region.ensures.tree P d j }

pub returns-clause-within : goal.returns-clause-within
returns-clause-within c = λ h.
    let rest = region_more (length c.args.pool.now) (length c.ended.new.pool) c.in_ok-region.ensures.kept.longer c.args.region.now h in record {
      definitions = rest.definitions;
      process_set = rest.process_set;
      init = rest.init;
      actions = rest.actions;
      ended = c.in_ok-region.ensures.within;
      next = rest.next;
      fairness = rest.fairness;
      termination = rest.termination;
    }
