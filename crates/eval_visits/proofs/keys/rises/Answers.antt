-- Proves what is asked of `rises`.
use Rattle.std.proofs.Common.{◌∙◌, sym, ap}
use Rattle.std.specs.Ordering.{is_lt}
use Rattle.eval_visits.proofs.KeyLemmas.{rises_by}
use Rattle.eval_visits.proofs.keys.rises.Goals as goal

pub returns : goal.returns
returns c = λ h k. rises_by c.args.values.now c.args.i _ _ c.requires c.index-values-i.is c.index-values-i-2.is (ap is_lt (sym c.compare.ensures) ∙ sym c.is_lt.ensures ∙ h) k
