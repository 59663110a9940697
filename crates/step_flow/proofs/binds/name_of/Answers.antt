-- Proves which name is bound.
use Rattle.std.proofs.Common.{◌∙◌, sym, ap}
use Rattle.tla_tree.specs.Tree.{Name}
use Rattle.step_flow.specs.Binding.{bind_name}
use Rattle.step_flow.proofs.binds.name_of.Goals as goal

pub returns-in-Among : goal.returns-in-Among
returns-in-Among c = ap (λ (n : Name). n.word) c.name.view_is ∙ sym (ap bind_name c.in-Among.is)

pub returns-in-Is : goal.returns-in-Is
returns-in-Is c = ap (λ (n : Name). n.word) c.name-in-Is.view_is ∙ sym (ap bind_name c.in-Is.is)
