-- What is kept: the parameters of the macros that were passed are there.
use Rattle.std.proofs.Common.{◌≡◌, take}
use Rattle.std.specs.List.{list_any}
use Rattle.tla_token.specs.Signs.{is_among}
use Rattle.tla_tree.specs.Tree.{Word}
use Rattle.pcal_tree.specs.declared.algorithm.Macro.{Macro}
use Rattle.label_steps.specs.MacrosIn.{params_of}
use Rattle.label_steps.proofs.macros.all_params.Given as goal

abbrev pub invariant-loop-one : goal.invariant-loop-one
invariant-loop-one l = (x : Word) → is_among l.set.keys x ≡ list_any (λ (d : Macro). is_among (params_of d.params.items) x) (take l.one-index l.macros)
