-- Proves the law `scripts_make_steps`.
use Rattle.std.proofs.Common.{ap, Ok}
use Rattle.pcal_tree.specs.Step.{course_of}
use Rattle.pcal_tree.specs.laws.Choosing.{told}
use Rattle.pcal_tree.proofs.Choices.{walk_has}
use Rattle.pcal_tree.proofs.laws.scripts_make_steps.Goals as goal

pub returns : goal.returns
returns c = λ P n s t (v, d, actor, who, stands, (u, e, q)). (v, d, actor, (stands, (u, walk_has (course_of P v d s) n.choices (Ok u) (ap told e), q)))
