use Rattle.std.proofs.Common.{◌≡◌, true, false, take, drop, sym, ap, ◌∙◌, ◌∷◌, ℕ, List}
use Rattle.std.proofs.lemmas.List.{take_rest}
use Rattle.tla_token.specs.declared.rule.Rule.TheVariants.{Options}
use Rattle.tla_token.specs.Offences.{least}
use Rattle.tla_token.specs.Readings.{joined}
use Rattle.tla_token.proofs.Faults.{joined_none}
use Rattle.module_tree.specs.Beginnings.{is_options, all_at}
use Rattle.module_tree.specs.FileOffences.{offences_at}
use Rattle.module_split.proofs.BeginningSteps.{on_yes, on_no, on_end, all_stretch, fault_on}
use Rattle.module_split.proofs.BeginningPlaces.{options_need}
use Rattle.module_split.proofs.beginning.options_fault.Goals as goal
use Rattle.module_split.proofs.beginning.options_fault.Goals.{then-is_options, else-is_options}

pub places-init : goal.places-init
places-init c = ap (λ (ns : List ℕ). least (offences_at Options ns)) (sym (c.next_byte-at.ensures.skipped is_options options_need))

pub places-preserved : goal.places-preserved
places-preserved c =
    let x = c.args.text.now in
    let at = c.places.at in
    let next = c.next_byte-at-in-places.result in
    let on = c.next_byte-at-in-places.ensures.skipped is_options options_need in
    let more = all_at is_options next (drop next (take c.args.to x)) in
    elim c.if-is_options.branch [
      | then-is_options w ↦ (let h : is_options (drop at (take c.args.to x)) ≡ true = sym (rw take_rest at c.is_options.ensures) ∙ w.if-is_options.true in
          ap (λ o. joined o (least (offences_at Options more))) (w.fault-is ∙ w.sooner-fault.ensures)
          ∙ fault_on c.places.fault Options at more
          ∙ ap (λ (ns : List ℕ). joined c.places.fault (least (offences_at Options (at ∷ ns)))) (sym on)
          ∙ ap (λ (ns : List ℕ). joined c.places.fault (least (offences_at Options ns))) (sym (on_yes is_options x c.args.to at c.requires c.places-test.true h))
          ∙ c.places.invariant)
      | else-is_options w ↦ (let h : is_options (drop at (take c.args.to x)) ≡ false = sym (rw take_rest at c.is_options.ensures) ∙ w.if-is_options.false in
          ap (λ o. joined o (least (offences_at Options more))) w.fault-is
          ∙ ap (λ (ns : List ℕ). joined c.places.fault (least (offences_at Options ns))) (sym on)
          ∙ ap (λ (ns : List ℕ). joined c.places.fault (least (offences_at Options ns))) (sym (on_no is_options x c.args.to at c.requires c.places-test.true h))
          ∙ c.places.invariant)
    ]

pub returns : goal.returns
returns c =
    let x = c.args.text.now in
    sym (joined_none c.places.fault)
    ∙ ap (λ (ns : List ℕ). joined c.places.fault (least (offences_at Options ns))) (sym (on_end is_options x c.args.to c.places.at c.requires c.places-test.false))
    ∙ c.places.invariant
    ∙ ap (λ (ns : List ℕ). least (offences_at Options ns)) (all_stretch is_options x c.args.from c.args.to c.requires)
