-- Proves that the definitions are put in, and the rest stays.
use Rattle.std.proofs.Common.{◌≤◌, List, sym, subst, arith}
use Rattle.pcal_tree.specs.declared.algorithm.Definition.{Definition}
use Rattle.pcal_tree.specs.InMemory.{past_definitions}
use Rattle.module_builder.proofs.region.add_definitions.Goals as goal

pub returns-clause-within : goal.returns-clause-within
returns-clause-within c = λ m past h. record {
  definitions = c.in_ok-region.ensures.within m (subst (λ (ds : List Definition). past_definitions ds ≤ m) (sym c.deref.ensures.value) (omega (arith, past)));
  process_set = h.process_set;
  init = h.init;
  actions = h.actions;
  ended = h.ended;
  next = h.next;
  fairness = h.fairness;
  termination = h.termination;
}
