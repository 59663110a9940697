-- Proves the law `printing_rests_on_no_place`.
use Rattle.printed_text.proofs.PrintedBare.{same_printed}
use Rattle.printed_text.proofs.laws.printing_rests_on_no_place.Goals as goal

pub returns : goal.returns
returns c = same_printed
