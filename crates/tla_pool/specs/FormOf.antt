-- The form of the pure tree that a form of the code stands for.
use Rattle.std.specs.Prelude.{List, Vec, map}
use Rattle.std.specs.declared.alloc.Global.{Global}
use Rattle.tla_tree.specs.Tree as pure
use Rattle.tla_pool.specs.declared.form.Step.{Step}
use Rattle.tla_pool.specs.declared.form.Step.TheVariants as step
use Rattle.tla_pool.specs.declared.form.Slot.{Slot}
use Rattle.tla_pool.specs.declared.form.Strict.{Strict}
use Rattle.tla_pool.specs.declared.form.Strict.TheVariants as strict
use Rattle.tla_pool.specs.declared.form.Form.{Form}
use Rattle.tla_pool.specs.declared.form.Form.TheVariants as form

abbrev pub step_of : Step → pure.PathStep
step_of step.Index = pure.index
step_of (step.Field a) = pure.field a

abbrev pub steps_of : List Step → List pure.PathStep
steps_of ss = map step_of ss

abbrev pub slot_of : Slot → pure.Slot
slot_of s = record { path = steps_of s.path.items; place = s.place }

abbrev pub slots_of : List Slot → List pure.Slot
slots_of ss = map slot_of ss

abbrev pub strict_of : Strict → pure.Strict
strict_of (strict.Operator o) = pure.operator o
strict_of strict.SetOf = pure.set_of
strict_of strict.Tuple = pure.tuple
strict_of (strict.Fields xs) = pure.fields xs
strict_of (strict.Records xs) = pure.records xs
strict_of strict.Functions = pure.functions
strict_of strict.Apply = pure.apply
strict_of (strict.Select a) = pure.select a
strict_of (strict.Except slots) = pure.except (slots_of slots.items)

abbrev pub groups_of : List (Vec pure.Name Global) → List (List pure.Name)
groups_of gs = map (λ (g : Vec pure.Name Global). g.items) gs

abbrev pub form_of : Form → pure.Form
form_of (form.Number n) = pure.number n
form_of (form.String t) = pure.string t
form_of (form.Truth b) = pure.truth b
form_of form.Booleans = pure.booleans
form_of form.Strings = pure.strings
form_of (form.Name x) = pure.name x
form_of (form.Next x) = pure.next x
form_of (form.Strict s) = pure.strict (strict_of s)
form_of (form.Call f) = pure.operator_call f
form_of form.Conjunction = pure.conjunction
form_of form.Disjunction = pure.disjunction
form_of form.Implication = pure.implication
form_of (form.Member b) = pure.member b
form_of form.IfThenElse = pure.if_then_else
form_of (form.Cases b) = pure.cases b
form_of (form.Binding b gs) = pure.binding b (groups_of gs.items)
form_of (form.Local xs) = pure.local xs.items
