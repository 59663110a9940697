-- Proves the law `printing_an_algorithm_in_its_file_rewrites_it`.
use Rattle.printed_text.proofs.Rewritten.{rewritten_rewrites}
use Rattle.printed_text.proofs.laws.printing_an_algorithm_in_its_file_rewrites_it.Goals as goal

pub returns : goal.returns
returns c = rewritten_rewrites
