-- Proves that the conjuncts of Init are put in, and the rest stays.
use Rattle.std.proofs.Common.{length}
use Rattle.module_write.proofs.InMemoryGrown.{region_at-kept}
use Rattle.module_builder.proofs.RegionsGrown.{region_more}
use Rattle.module_builder.proofs.region.add_init.Goals as goal

pub returns-clause-made : goal.returns-clause-made
returns-clause-made c = λ P d runs h j. record (region_at-kept c.args.pool.now c.build_init.new.pool c.in_ok-region.ensures.kept c.args.region.now h j) { init = c.in_ok-region.ensures.made P d runs j }

pub returns-clause-within : goal.returns-clause-within
returns-clause-within c = λ h.
    let rest = region_more (length c.args.pool.now) (length c.build_init.new.pool) c.in_ok-region.ensures.kept.longer c.args.region.now h in record {
      definitions = rest.definitions;
      process_set = rest.process_set;
      init = c.in_ok-region.ensures.below;
      actions = rest.actions;
      ended = rest.ended;
      next = rest.next;
      fairness = rest.fairness;
      termination = rest.termination;
    }
