-- Proves the law `printed_algorithms_hold_no_comments`.
use Rattle.printed_text.proofs.Back.{unmarked, paired}
use Rattle.printed_text.proofs.laws.printed_algorithms_hold_no_comments.Goals as goal

pub returns-clause-unmarked : goal.returns-clause-unmarked
returns-clause-unmarked c = unmarked

pub returns-clause-paired : goal.returns-clause-paired
returns-clause-paired c = paired
