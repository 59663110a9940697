-- Proves that the names of units that were not read are hidden.
use Rattle.std.proofs.Common.{List, ◌++◌, map, take, refl, ap, subst}
use Rattle.tla_tree.specs.Tree.{Word}
use Rattle.module_outside.specs.declared.passed.Passed.{Passed}
use Rattle.pcal_tree.specs.NameUses as names
use Rattle.declared_rules.specs.UsesSeen.{Sees}
use Rattle.declared_rules.proofs.OutsideLaws.{names_passed}
use Rattle.declared_rules.proofs.SeenLaws.{seen_of, sees_is, things_more, things_all}
use Rattle.declared_rules.proofs.use_sight.Sight.set_passed.Goals as goal

abbrev words_of : Passed → List Word
words_of u = u.names.items

pub loop-unit-preserved : goal.loop-unit-preserved
loop-unit-preserved c = λ s h.
    let before = seen_of words_of names.unread (take c.loop-unit.unit-index c.args.list.now) s in
    things_more words_of names.unread c.set_names.new.self c.args.list.now c.loop-unit.unit-index c.unit-item.result s c.unit-item.is c.loop-unit-test.true
    (subst (λ (ws : List Word). Sees c.set_names.new.self (map (names.knowing names.unread) ws ++ before)) c.deref.ensures.value (c.in_ok-set_names.ensures before names.unread (c.loop-unit.invariant s h) refl))

pub returns : goal.returns
returns c = λ s h.
    sees_is c.loop-unit.self _ _ (ap (λ (ws : List Word). map (names.knowing names.unread) ws ++ s) (names_passed c.args.list.now))
    (things_all words_of names.unread c.loop-unit.self c.args.list.now c.loop-unit.unit-index s c.loop-unit-test.false (c.loop-unit.invariant s h))
