-- Proves what is asked of `add_element`.
use Rattle.std.proofs.Common.{◌≡◌, ◌∙◌, ◌∷◌, [], ◌++◌, ◌+◌, pos, length, sym, ap, arith, to_z}
use Rattle.std.specs.Int.{w128}
use Rattle.std.proofs.lemmas.Int.{ints}
use Rattle.tla_value.specs.Value.{values_in}
use Rattle.tla_value.specs.Order.{numbers_from}
use Rattle.function_forms.proofs.JoiningLaws.{place_added}
use Rattle.function_forms.proofs.joining.add_element.Goals as goal

pub returns-clause-numbered : goal.returns-clause-numbered
returns-clause-numbered c =
    let ps = c.args.places.now.items in
    let vs = c.args.elements.now.items in
    let many : to_z w128 (c.len.result + 1) ≡ pos (1 + length vs) = omega (arith, ints, c.len.ensures, c.requires.few) in
    ap values_in (c.in_ok-push.ensures.items ∙ ap (λ v. ps ++ v ∷ []) c.int.ensures) ∙ place_added ps vs c.args.e (to_z w128 (c.len.result + 1)) many c.requires.numbered ∙
    ap (numbers_from 1) (sym c.in_ok-push-2.ensures.items)
