-- Proves that the domain decides, and then the values.
use Rattle.std.proofs.Common.{◌≡◌, sym, ap, ◌∙◌}
use Rattle.tla_value.specs.Value.{fun, values_in}
use Rattle.tla_value.specs.ValueOf.{view_of}
use Rattle.tla_value.specs.declared.value.Kind.{Kind}
use Rattle.start_troubles.proofs.MemberLaws.{other_domain}
use Rattle.start_troubles.proofs.spread.gives_members.Goals as goal

pub returns-then-not-same_members : goal.returns-then-not-same_members
returns-then-not-same_members c =
    let is : c.args.f.now ≡ fun (values_in c.as_slice.result.now) (values_in c.in-Fun.values) =
    sym c.f.view_is ∙ ap (λ (k : Kind). view_of (record { kind = k })) c.in-Fun.is ∙ sym (ap (λ ds. fun (values_in ds) (values_in c.in-Fun.values)) (c.as_slice.ensures.value ∙ c.domain.view_is)) in
    other_domain c.args.f.now (values_in c.args.ids.now) (values_in c.args.members.now) (values_in c.as_slice.result.now) (values_in c.in-Fun.values) is (sym c.same_members.ensures ∙ c.if-not-same_members.true)
