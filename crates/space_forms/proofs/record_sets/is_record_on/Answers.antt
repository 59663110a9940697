-- Proves what is asked of `is_record_on`.
use Rattle.std.proofs.Common.{◌∙◌, sym, ap}
use Rattle.std.specs.Prelude.{◌&&◌}
use Rattle.tla_value.specs.Value.{values_in}
use Rattle.tla_value.specs.Sets.{all_chosen}
use Rattle.space_forms.specs.Spaces.{beside}
use Rattle.space_forms.proofs.RecordLaws.{as_long}
use Rattle.space_forms.proofs.record_sets.is_record_on.Goals as goal

pub returns-then-not-same_members : goal.returns-then-not-same_members
returns-then-not-same_members c =
    ap (λ b. b && all_chosen (values_in c.args.vs.now) (beside c.args.keys.now c.args.sets.now c.args.domain.now)) (sym c.if-not-same_members.true ∙ c.same_members.ensures)

pub each_chosen-requires-clause-values : goal.each_chosen-requires-clause-values
each_chosen-requires-clause-values c = as_long c.args.es.now c.args.vs.now c.args.domain.now c.requires.function (sym c.same_members.ensures ∙ c.if-not-same_members.false)

pub returns : goal.returns
returns c =
    c.each_chosen.ensures ∙ ap (λ b. b && all_chosen (values_in c.args.vs.now) (beside c.args.keys.now c.args.sets.now c.args.domain.now)) (sym (sym c.same_members.ensures ∙ c.if-not-same_members.false))
