-- Proves what is asked of `with_rest`.
use Rattle.std.proofs.Common.{◌≡◌, ap, sym, ◌∙◌, ◌++◌, if◌then◌else◌, arith}
use Rattle.std.proofs.lemmas.Grind.{common_steps}
use Rattle.tla_value.specs.Value.{values_in, no_values}
use Rattle.value_forms.specs.Parts.{follow}
use Rattle.value_forms.proofs.Rows.{follow_nothing, values_append}
use Rattle.value_forms.proofs.sets.with_rest.Goals as goal

pub returns-then-not-taken : goal.returns-then-not-taken
returns-then-not-taken c =
    let all = values_in c.args.all.items in
    sym (ap (λ t. follow all (if t then values_in c.args.rest.now else no_values)) c.if-not-taken.true ∙ follow_nothing all)

pub returns : goal.returns
returns c =
    let e : c.loop-v.all.items ≡ c.args.all.items ++ c.args.rest.now = grind (arith, common_steps) in
    ap values_in e ∙ values_append c.args.all.items c.args.rest.now ∙ ap (λ t. follow (values_in c.args.all.items) (if t then values_in c.args.rest.now else no_values)) (sym c.if-not-taken.false)
