-- Proves the law `spelled_tokens_are_refused_for_depth_alone`.
use Rattle.printed_text.proofs.Rewritten.{too_deep}
use Rattle.printed_text.proofs.laws.spelled_tokens_are_refused_for_depth_alone.Goals as goal

pub returns : goal.returns
returns c = too_deep
