-- The names are the same.
use Rattle.read_rules.proofs.NamesOfBodies.{body_names}
use Rattle.read_rules.proofs.laws.paths_do_not_matter_to_names.Goals as goal

pub returns : goal.returns
returns c = body_names
