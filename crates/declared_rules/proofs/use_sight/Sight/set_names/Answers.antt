-- Proves that names are known.
use Rattle.std.proofs.Common.{List, [], ◌∷◌, ◌++◌, map, take, ap}
use Rattle.tla_tree.specs.Tree.{Word}
use Rattle.pcal_tree.specs.NameUses.{knowing}
use Rattle.declared_rules.proofs.OutsideLaws.{one_word}
use Rattle.declared_rules.proofs.SeenLaws.{seen_of, sees_is, things_more, things_all}
use Rattle.declared_rules.proofs.use_sight.Sight.set_names.Goals as goal

abbrev words_of : Word → List Word
words_of x = x ∷ []

pub loop-name-preserved : goal.loop-name-preserved
loop-name-preserved c = λ s u h e.
    things_more words_of u c.set.new.self c.args.list.now c.loop-name.name-index c.name-item.result s c.name-item.is c.loop-name-test.true
    (c.in_ok-set.ensures (seen_of words_of u (take c.loop-name.name-index c.args.list.now) s) u (c.loop-name.invariant s u h e) e)

pub returns : goal.returns
returns c = λ s u h e.
    sees_is c.loop-name.self _ _ (ap (λ (ws : List Word). map (knowing u) ws ++ s) (one_word c.args.list.now))
    (things_all words_of u c.loop-name.self c.args.list.now c.loop-name.name-index s c.loop-name-test.false (c.loop-name.invariant s u h e))
