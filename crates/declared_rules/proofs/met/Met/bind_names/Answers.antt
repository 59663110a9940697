-- Proves that the names that a `with` binds are added.
use Rattle.std.proofs.Common.{◌≡◌, List, [], ◌∷◌, map, ⊎_elim, refl, sym, ap, ◌∙◌}
use Rattle.std.specs.List.{flat_map}
use Rattle.tla_tree.specs.Tree.{Name, Word, words}
use Rattle.pcal_tree.specs.declared.algorithm.Bind.{Bind}
use Rattle.declared_rules.specs.Parts.{bind_name}
use Rattle.declared_rules.proofs.MetWalks.{adds_as, adds_more, adds_all}
use Rattle.declared_rules.proofs.met.Met.bind_names.Goals as goal

abbrev word_of : Bind → List Word
word_of b = (bind_name b).word ∷ []

each_word : (bs : List Bind) → flat_map word_of bs ≡ words (map bind_name bs)
each_word [] = refl
each_word (b ∷ bs) = ap (λ (ws : List Word). (bind_name b).word ∷ ws) (each_word bs)

pub loop-bind-preserved : goal.loop-bind-preserved
loop-bind-preserved c = λ ts.
    adds_more ts word_of c.args.binds.now c.args.self.now c.loop-bind.self c.name-in-Among.new.self c.loop-bind.bind-index c.bind-item.result c.bind-item.is c.loop-bind-test.true (c.loop-bind.invariant ts)
    (adds_as ts c.loop-bind.self c.name-in-Among.new.self _ _ (ap (λ (x : Name). x.word ∷ []) (c.name.view_is ∙ sym (⊎_elim (λ e. ap bind_name e.1) (λ e. ap bind_name e.1) c.in-Among.is))) (c.in_ok-name-in-Among.ensures ts))

pub returns : goal.returns
returns c = λ ts.
    adds_as ts c.args.self.now c.loop-bind.self _ _ (each_word c.args.binds.now)
    (adds_all ts word_of c.args.binds.now c.args.self.now c.loop-bind.self c.loop-bind.bind-index c.loop-bind-test.false (c.loop-bind.invariant ts))
