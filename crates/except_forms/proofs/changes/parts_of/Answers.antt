-- Proves what is asked of `parts_of`.
use Rattle.std.proofs.Common.{◌∙◌, sym, ap}
use Rattle.tla_value.specs.Stops.{function_at}
use Rattle.tla_value.specs.ValueOf.{kind_value}
use Rattle.except_forms.proofs.changes.parts_of.Goals as goal

pub returns-in-Bool-clause-parts : goal.returns-in-Bool-clause-parts
returns-in-Bool-clause-parts c = ap (function_at c.args.at) (sym c.f.view_is ∙ ap kind_value c.in-Bool.is)

pub returns-in-Int-clause-parts : goal.returns-in-Int-clause-parts
returns-in-Int-clause-parts c = ap (function_at c.args.at) (sym c.f.view_is ∙ ap kind_value c.in-Int.is)

pub returns-in-Text-clause-parts : goal.returns-in-Text-clause-parts
returns-in-Text-clause-parts c = ap (function_at c.args.at) (sym c.f.view_is ∙ ap kind_value c.in-Text.is)

pub returns-in-Model-clause-parts : goal.returns-in-Model-clause-parts
returns-in-Model-clause-parts c = ap (function_at c.args.at) (sym c.f.view_is ∙ ap kind_value c.in-Model.is)
