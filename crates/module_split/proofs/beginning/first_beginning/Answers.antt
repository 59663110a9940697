use Rattle.std.proofs.Common.{◌≡◌, true, false, take, drop, sym, ap, ◌∙◌, arith}
use Rattle.std.proofs.lemmas.List.{take_rest}
use Rattle.module_tree.specs.Beginnings.{begins_algorithm}
use Rattle.module_tree.specs.FileParts.{first_of}
use Rattle.module_split.proofs.BeginningSteps.{on_yes, on_no, on_end, all_stretch, stretch_is}
use Rattle.module_split.proofs.BeginningPlaces.{algorithms_need}
use Rattle.module_split.proofs.beginning.first_beginning.Goals as goal

pub returns-then-begins_algorithm-clause-first : goal.returns-then-begins_algorithm-clause-first
returns-then-begins_algorithm-clause-first c =
    let x = c.args.text.now in
    let h : begins_algorithm (drop c.places.at (take c.args.to x)) ≡ true = sym (rw take_rest at c.begins_algorithm.ensures) ∙ c.if-begins_algorithm.true in
    sym (ap first_of (on_yes begins_algorithm x c.args.to c.places.at c.requires c.places-test.true h)) ∙ c.places.invariant.first ∙ ap first_of (all_stretch begins_algorithm x c.args.from c.args.to c.requires)

pub places-init : goal.places-init
places-init c = record { ahead = c.next_byte-at.ensures.ahead; first = ap first_of (sym (c.next_byte-at.ensures.skipped begins_algorithm algorithms_need)) }

pub places-preserved : goal.places-preserved
places-preserved c =
    let x = c.args.text.now in
    let h : begins_algorithm (drop c.places.at (take c.args.to x)) ≡ false = sym (rw take_rest at c.begins_algorithm.ensures) ∙ c.if-begins_algorithm.false in
    let on = c.next_byte-at-in-places.ensures.skipped begins_algorithm algorithms_need in
    record {
      ahead = omega (arith, c.places.invariant.ahead, c.next_byte-at-in-places.ensures.ahead);
      first = ap first_of (sym on) ∙ sym (ap first_of (on_no begins_algorithm x c.args.to c.places.at c.requires c.places-test.true h)) ∙ c.places.invariant.first;
    }

pub returns-clause-first : goal.returns-clause-first
returns-clause-first c =
    let x = c.args.text.now in
    sym (ap first_of (on_end begins_algorithm x c.args.to c.places.at c.requires c.places-test.false)) ∙ c.places.invariant.first ∙ ap first_of (all_stretch begins_algorithm x c.args.from c.args.to c.requires)

pub returns-then-begins_algorithm-clause-begins : goal.returns-then-begins_algorithm-clause-begins
returns-then-begins_algorithm-clause-begins c =
    let x = c.args.text.now in
    let h : begins_algorithm (drop c.places.at (take c.args.to x)) ≡ true = sym (rw take_rest at c.begins_algorithm.ensures) ∙ c.if-begins_algorithm.true in
    ap begins_algorithm (sym (stretch_is x c.places.at c.args.to c.requires)) ∙ h
