-- Proves what is asked of `times_members`.
use Rattle.std.proofs.Common.{◌∙◌, ◌*◌, sym, ap, subst}
use Rattle.std.specs.Option.{option_copied}
use Rattle.tla_value.specs.Order.{count, in_front}
use Rattle.tla_value.proofs.ValueLists.{count-values_in}
use Rattle.value_forms.specs.Counts.{Counts}
use Rattle.space_forms.specs.Spaces.{ways}
use Rattle.space_forms.proofs.record_sets.times_members.Goals as goal

pub returns-in-Some : goal.returns-in-Some
returns-in-Some c = λ ss h.
    subst (λ o. Counts c.times.result (ways (in_front (option_copied o) ss))) (sym c.in-Some.is)
    (subst (λ n. Counts c.times.result (n * ways ss)) (sym (count-values_in c.members_in.result.now) ∙ ap count c.members_in.ensures.members) (c.times.ensures (ways ss) h))
