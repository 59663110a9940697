-- Proves the law `macros_are_counted_once`.
use Rattle.macro_expand.proofs.CountLaws.{counted_once}
use Rattle.macro_expand.proofs.laws.macros_are_counted_once.Goals as goal

pub returns : goal.returns
returns c = counted_once
