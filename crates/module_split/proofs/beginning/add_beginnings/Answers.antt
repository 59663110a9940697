use Rattle.std.proofs.Common.{◌≡◌, true, false, take, drop, sym, ap, ◌∙◌, ◌∷◌, ◌++◌, ℕ, List, append-nil}
use Rattle.std.proofs.lemmas.List.{take_rest}
use Rattle.module_tree.specs.Beginnings.{begins_algorithm, all_at}
use Rattle.module_split.proofs.BeginningSteps.{on_yes, on_no, on_end, all_stretch, added}
use Rattle.module_split.proofs.BeginningPlaces.{algorithms_need}
use Rattle.module_split.proofs.beginning.add_beginnings.Goals as goal
use Rattle.module_split.proofs.beginning.add_beginnings.Goals.{then-begins_algorithm+in_ok-push, else-begins_algorithm}

pub places-init : goal.places-init
places-init c = ap (λ (ns : List ℕ). c.args.into.now.items ++ ns) (sym (c.next_byte-at.ensures.skipped begins_algorithm algorithms_need))

pub places-preserved : goal.places-preserved
places-preserved c =
    let x = c.args.text.now in
    let at = c.places.at in
    let items = c.places.into.items in
    let next = c.next_byte-at-in-places.result in
    let on = c.next_byte-at-in-places.ensures.skipped begins_algorithm algorithms_need in
    let more = all_at begins_algorithm next (drop next (take c.args.to x)) in
    elim c.if-begins_algorithm.branch [
      | then-begins_algorithm+in_ok-push w ↦ (let h : begins_algorithm (drop at (take c.args.to x)) ≡ true = sym (rw take_rest at c.begins_algorithm.ensures) ∙ w.if-begins_algorithm.true in
          ap (λ v. v.items ++ more) w.into-is
          ∙ ap (λ (ns : List ℕ). ns ++ more) w.in_ok-push.ensures.items
          ∙ added items more at
          ∙ ap (λ (ns : List ℕ). items ++ at ∷ ns) (sym on)
          ∙ ap (λ (ns : List ℕ). items ++ ns) (sym (on_yes begins_algorithm x c.args.to at c.requires c.places-test.true h))
          ∙ c.places.invariant)
      | else-begins_algorithm w ↦ (let h : begins_algorithm (drop at (take c.args.to x)) ≡ false = sym (rw take_rest at c.begins_algorithm.ensures) ∙ w.if-begins_algorithm.false in
          ap (λ v. v.items ++ more) w.into-is
          ∙ ap (λ (ns : List ℕ). items ++ ns) (sym on)
          ∙ ap (λ (ns : List ℕ). items ++ ns) (sym (on_no begins_algorithm x c.args.to at c.requires c.places-test.true h))
          ∙ c.places.invariant)
    ]

pub returns : goal.returns
returns c =
    let x = c.args.text.now in
    let items = c.places.into.items in
    sym (append-nil items)
    ∙ ap (λ (ns : List ℕ). items ++ ns) (sym (on_end begins_algorithm x c.args.to c.places.at c.requires c.places-test.false))
    ∙ c.places.invariant
    ∙ ap (λ (ns : List ℕ). c.args.into.now.items ++ ns) (all_stretch begins_algorithm x c.args.from c.args.to c.requires)
