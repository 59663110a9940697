-- Proves that a name is kept under each that is bound.
use Rattle.std.proofs.Common.{List, sym, ap, ◌∙◌, subst, arith}
use Rattle.std.specs.Prelude.{slice_get}
use Rattle.std.proofs.lemmas.Option.{get_or_from_slice_get}
use Rattle.tla_tree.specs.Tree.{Word}
use Rattle.pcal_tree.specs.laws.MacroBindings.{beneath, offences_where}
use Rattle.declared_rules.specs.Telling.{Gains}
use Rattle.declared_rules.proofs.LeafLaws.{under_then, under_done}
use Rattle.declared_rules.proofs.bind_walk.Walk.under_bound.Goals as goal

pub loop-i-preserved : goal.loop-i-preserved
loop-i-preserved c =
    let old = c.args.self.now in
    let i = c.loop-i.i in
    let y = c.at.result.now in
    under_then old c.loop-i.self c.keep.new.self c.args.name.now y i (sym (get_or_from_slice_get old.bound i y y (ap (λ (bs : List Word). slice_get bs i) (sym c.loop-i.invariant.bound) ∙ c.at.ensures)))
    (omega (arith, c.loop-i-test.true, c.len-count.ensures))
    (subst (λ (w : Word). Gains c.loop-i.self c.keep.new.self (λ ms s. offences_where ms s (beneath w y))) c.in_ok-copied.ensures
    (subst (λ (v : Word). Gains c.loop-i.self c.keep.new.self (λ ms s. offences_where ms s (beneath c.in_ok-copied.field-0 v))) c.in_ok-under.ensures c.in_ok-keep.ensures))
    c.loop-i.invariant

pub returns : goal.returns
returns c = under_done c.args.self.now c.loop-i.self c.args.name.now c.loop-i.i (omega (arith, c.loop-i-test.false, c.len-count.ensures)) c.loop-i.invariant
