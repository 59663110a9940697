-- Proves what is asked of `in_order`.
use Rattle.value_text.proofs.EntryLemmas.{kept_function, kept_ascending}
use Rattle.value_text.proofs.make.in_order.Goals as goal

pub returns-clause-ascending : goal.returns-clause-ascending
returns-clause-ascending c = kept_ascending c.sort.new.self.items c.dedup.new.self.items c.in_ok-sort.ensures.sorted c.dedup.ensures.filtered

pub returns-clause-pairs : goal.returns-clause-pairs
returns-clause-pairs c = kept_function c.args.entries.items c.sort.new.self.items c.dedup.new.self.items c.in_ok-sort.ensures.stable c.dedup.ensures.filtered
