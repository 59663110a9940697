-- Proves what is asked of `count_of`.
use Rattle.std.proofs.Common.{sym}
use Rattle.tla_value.proofs.ValueLists.{count-values_in}
use Rattle.function_forms.proofs.sequences.count_of.Goals as goal

pub returns : goal.returns
returns c = sym (count-values_in c.args.values.now)
