-- Proves what is asked of `is_function_on`.
use Rattle.std.proofs.Common.{◌∙◌, sym, ap}
use Rattle.std.specs.Prelude.{◌&&◌}
use Rattle.tla_value.specs.Value.{set, values_in}
use Rattle.tla_value.specs.Sets.{all_chosen, repeated}
use Rattle.space_forms.proofs.MemberLaws.{function_by}
use Rattle.space_forms.proofs.members.is_function_on.Goals as goal

pub returns-then-not-same_members : goal.returns-then-not-same_members
returns-then-not-same_members c =
    ap (λ b. b && all_chosen (values_in c.args.vs.now) (repeated (values_in c.args.domain.now) (set (values_in c.args.results.now)))) (sym c.if-not-same_members.true ∙ c.same_members.ensures)

pub returns : goal.returns
returns c =
    c.each_among.ensures ∙ function_by (values_in c.args.es.now) (values_in c.args.vs.now) (values_in c.args.domain.now) (set (values_in c.args.results.now)) c.requires.function (sym c.same_members.ensures ∙ c.if-not-same_members.false)
