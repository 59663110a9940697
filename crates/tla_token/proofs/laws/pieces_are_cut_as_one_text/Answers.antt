-- Proves the law `pieces_are_cut_as_one_text`.
use Rattle.tla_token.proofs.MachineFeeding.{fed_so, decided_so, kept_so}
use Rattle.tla_token.proofs.laws.pieces_are_cut_as_one_text.Goals as goal

pub returns-clause-whole : goal.returns-clause-whole
returns-clause-whole c = fed_so

pub returns-clause-decided : goal.returns-clause-decided
returns-clause-decided c = decided_so

pub returns-clause-kept : goal.returns-clause-kept
returns-clause-kept c = kept_so
