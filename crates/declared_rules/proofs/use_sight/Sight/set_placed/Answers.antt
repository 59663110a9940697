-- Proves that names at places are known.
use Rattle.std.proofs.Common.{◌≡◌, List, [], ◌∷◌, ◌++◌, map, get_or, take, sym, ap, subst}
use Rattle.tla_tree.specs.Tree.{Word, Name}
use Rattle.pcal_tree.specs.NameUses.{knowing}
use Rattle.declared_rules.proofs.SeenLaws.{seen_of, sees_is, things_more, things_all, one_placed}
use Rattle.declared_rules.proofs.use_sight.Sight.set_placed.Goals as goal

abbrev words_of : Name → List Word
words_of x = x.word ∷ []

pub loop-one-preserved : goal.loop-one-preserved
loop-one-preserved c = λ s u h e.
    let at = subst (λ (x : Name). x ≡ get_or c.args.list.now c.loop-one.one-index x) (sym c.one.view_is) c.one-item.is in
    things_more words_of u c.set.new.self c.args.list.now c.loop-one.one-index _ s at c.loop-one-test.true
    (c.in_ok-set.ensures (seen_of words_of u (take c.loop-one.one-index c.args.list.now) s) u (c.loop-one.invariant s u h e) e)

pub returns : goal.returns
returns c = λ s u h e.
    sees_is c.loop-one.self _ _ (ap (λ (ws : List Word). map (knowing u) ws ++ s) (one_placed c.args.list.now))
    (things_all words_of u c.loop-one.self c.args.list.now c.loop-one.one-index s c.loop-one-test.false (c.loop-one.invariant s u h e))
