-- Proves that variables are known.
use Rattle.std.proofs.Common.{◌≡◌, List, [], ◌∷◌, ◌++◌, map, get_or, take, refl, sym, ap, subst}
use Rattle.tla_tree.specs.Tree.{Word}
use Rattle.pcal_tree.specs.declared.algorithm.Declaration.{Declaration}
use Rattle.pcal_tree.specs.NameUses as names
use Rattle.declared_rules.proofs.SeenLaws.{seen_of, sees_is, things_more, things_all, all_declared}
use Rattle.declared_rules.proofs.use_sight.Sight.set_variables.Goals as goal

abbrev words_of : Declaration → List Word
words_of d = d.name.word ∷ []

pub loop-i-preserved : goal.loop-i-preserved
loop-i-preserved c = λ s h.
    let at = subst (λ (d : Declaration). d ≡ get_or c.args.list.now c.loop-i.i d) (sym c.one.view_is) c.index-list-i.is in
    things_more words_of names.variable c.set.new.self c.args.list.now c.loop-i.i _ s at c.loop-i-test.true
    (c.in_ok-set.ensures (seen_of words_of names.variable (take c.loop-i.i c.args.list.now) s) names.variable (c.loop-i.invariant s h) refl)

pub returns : goal.returns
returns c = λ ts s h.
    sees_is c.loop-i.self _ _ (ap (λ (ws : List Word). map (names.knowing names.variable) ws ++ s) (all_declared ts c.args.list.now))
    (things_all words_of names.variable c.loop-i.self c.args.list.now c.loop-i.i s c.loop-i-test.false (c.loop-i.invariant s h))
