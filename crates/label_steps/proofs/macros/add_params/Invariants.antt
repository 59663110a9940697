-- What is kept: the parameters that were passed are there too.
use Rattle.std.proofs.Common.{◌≡◌, ◌||◌, take}
use Rattle.tla_token.specs.Signs.{is_among}
use Rattle.tla_tree.specs.Tree.{Word}
use Rattle.label_steps.specs.MacrosIn.{params_of}
use Rattle.label_steps.proofs.macros.add_params.Given as goal

abbrev pub invariant-loop-one : goal.invariant-loop-one
invariant-loop-one l = (x : Word) → is_among l.set.keys x ≡ (is_among l.fn.set.keys x || is_among (params_of (take l.one-index l.params)) x)
