-- Proves the law `written_out_macros_run_the_same`.
use Rattle.pcal_tree.proofs.ExpandRuns.{expansion}
use Rattle.pcal_tree.proofs.laws.written_out_macros_run_the_same.Goals as goal

pub returns : goal.returns
returns c = expansion
