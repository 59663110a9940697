-- Proves that a form's groups of names tell how often its parts count.
use Rattle.std.proofs.Common.{sym, ap, ◌∙◌}
use Rattle.std.proofs.lemmas.Simd.{map-map}
use Rattle.tla_pool.specs.declared.form.Form.{Form}
use Rattle.tla_pool.specs.FormOf.{form_of}
use Rattle.macro_expand.specs.Size.{weights}
use Rattle.expansion_size.specs.TreesSpent.{lengths}
use Rattle.expansion_size.proofs.expressions.groups.Goals as goal

pub returns-in-Binding : goal.returns-in-Binding
returns-in-Binding c = ap lengths c.deref.ensures.value ∙ sym (map-map _ _ c.in-Binding.groups.items) ∙ ap (λ (f : Form). weights (form_of f)) (sym c.in-Binding.is)
