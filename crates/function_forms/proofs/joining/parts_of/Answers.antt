-- Proves what is asked of `parts_of`.
use Rattle.std.proofs.Common.{◌∙◌, sym, ap, subst}
use Rattle.std.specs.Ordering.{is_eq}
use Rattle.tla_value.specs.Value.{fun, values_in}
use Rattle.tla_value.specs.Order.{orders, numbers_from}
use Rattle.tla_value.specs.ValueOf.{IsStored, kind_value}
use Rattle.function_forms.proofs.JoiningLaws.{places_are, sequence_there, sequence_nowhere}
use Rattle.function_forms.proofs.joining.parts_of.Goals as goal

pub returns-then-is_numbered-clause-elements : goal.returns-then-is_numbered-clause-elements
returns-then-is_numbered-clause-elements c =
    let test = c.is_numbered.ensures ∙ (λ n. is_eq (orders (values_in (c.deref.ensures.value n)) (numbers_from 1 (c.deref-in-Fun.ensures.value n)))) in
    let places = sym c.in-Fun.places-is ∙ sym c.places.view_is in
    let elements = sym c.in-Fun.elements-is ∙ sym c.elements.view_is in
    sequence_there c.args.at c.args.s c.places.inside.items.items c.elements.inside.items.items (sym c.s.view_is ∙ ap kind_value c.in-Fun.is ∙ (λ n. fun (values_in (places n)) (values_in (elements n)))) (sym test ∙ c.if-is_numbered.true)

pub returns-then-is_numbered-clause-numbered : goal.returns-then-is_numbered-clause-numbered
returns-then-is_numbered-clause-numbered c =
    let test = c.is_numbered.ensures ∙ (λ n. is_eq (orders (values_in (c.deref.ensures.value n)) (numbers_from 1 (c.deref-in-Fun.ensures.value n)))) in
    places_are c.places.inside.items.items c.elements.inside.items.items (sym test ∙ c.if-is_numbered.true)

pub returns-then-is_numbered-clause-stored : goal.returns-then-is_numbered-clause-stored
returns-then-is_numbered-clause-stored c =
    let ps = c.places.inside.items.items in
    let vs = c.elements.inside.items.items in
    let test = c.is_numbered.ensures ∙ (λ n. is_eq (orders (values_in (c.deref.ensures.value n)) (numbers_from 1 (c.deref-in-Fun.ensures.value n)))) in
    let places = sym c.in-Fun.places-is ∙ sym c.places.view_is in
    let elements = sym c.in-Fun.elements-is ∙ sym c.elements.view_is in
    subst (λ ds. IsStored (fun ds (values_in vs))) (places_are ps vs (sym test ∙ c.if-is_numbered.true))
    (subst IsStored (ap kind_value c.in-Fun.is ∙ (λ n. fun (values_in (places n)) (values_in (elements n)))) c.s.invariant)

pub returns-in-Fun-clause-elements : goal.returns-in-Fun-clause-elements
returns-in-Fun-clause-elements c =
    let test = c.is_numbered.ensures ∙ (λ n. is_eq (orders (values_in (c.deref.ensures.value n)) (numbers_from 1 (c.deref-in-Fun.ensures.value n)))) in
    let places = sym c.in-Fun.places-is ∙ sym c.places.view_is in
    let elements = sym c.in-Fun.elements-is ∙ sym c.elements.view_is in
    sequence_nowhere c.args.at c.args.s c.places.inside.items.items c.elements.inside.items.items (sym c.s.view_is ∙ ap kind_value c.in-Fun.is ∙ (λ n. fun (values_in (places n)) (values_in (elements n)))) (sym test ∙ c.if-is_numbered.false)
