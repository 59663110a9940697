-- Proves the law `a_machine_cuts_texts`.
use Rattle.tla_token.proofs.MachineRuns.{run_so, run_kept}
use Rattle.tla_token.proofs.laws.a_machine_cuts_texts.Goals as goal

pub returns-clause-whole : goal.returns-clause-whole
returns-clause-whole c = run_so

pub returns-clause-kept : goal.returns-clause-kept
returns-clause-kept c = run_kept
