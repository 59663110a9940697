-- Proves what is asked of `first_found`.
use Rattle.std.proofs.Common.{◌∙◌, sym, ap}
use Rattle.tla_value.specs.Value.{values_in}
use Rattle.tla_value.specs.Order.{found_at}
use Rattle.function_forms.proofs.FunctionLaws.{first_of_two, or_else}
use Rattle.override_forms.proofs.overriding.first_found.Goals as goal

pub returns-in-Some : goal.returns-in-Some
returns-in-Some c =
    let later = found_at (values_in c.args.es.now) (values_in c.args.qs.now) c.args.d.now in
    ap (λ o. or_else o later) c.in-Some.ensures ∙ sym (first_of_two (values_in c.args.ds.now) (values_in c.args.rs.now) (values_in c.args.es.now) (values_in c.args.qs.now) c.args.d.now)

pub returns-in-None : goal.returns-in-None
returns-in-None c =
    let later = found_at (values_in c.args.es.now) (values_in c.args.qs.now) c.args.d.now in
    c.value_at-in-None.ensures ∙ ap (λ o. or_else o later) c.in-None.ensures ∙ sym (first_of_two (values_in c.args.ds.now) (values_in c.args.rs.now) (values_in c.args.es.now) (values_in c.args.qs.now) c.args.d.now)
