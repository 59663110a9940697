-- Proves the law `a_translation_is_one_module`.
use Rattle.std.proofs.Common.{sym}
use Rattle.promise.proofs.laws.a_translation_is_one_module.Goals as goal

pub returns : goal.returns
returns c = λ n o x w g h a b. sym (a.only b.module_of b.reads)
