-- Proves that names are copied one by one.
use Rattle.std.proofs.Common.{◌≡◌, ℕ, ◌+◌, ◌<◌, List, [], ◌∷◌, ◌++◌, length, get_or, take, sym, ap, ◌∙◌}
use Rattle.std.proofs.lemmas.List.{take_more, take_all, map-append}
use Rattle.tla_tree.specs.Tree.{Name, words}
use Rattle.name_rules.proofs.names.without_places.Goals as goal

one_more : (ns : List Name) (i : ℕ) (x : Name) → x ≡ get_or ns i x → i < length ns → words (take i ns) ++ x.word ∷ [] ≡ words (take (i + 1) ns)
one_more ns i x e l =
    ap (λ (x : Name). words (take i ns) ++ x.word ∷ []) e ∙ sym (ap words (take_more ns i x l) ∙ map-append (λ (x : Name). x.word) (take i ns) (get_or ns i x ∷ []))

pub loop-one-init : goal.loop-one-init
loop-one-init c = c.new-copies.ensures.items

pub loop-one-preserved : goal.loop-one-preserved
loop-one-preserved c =
    c.in_ok-push.ensures.items ∙ (λ i. c.loop-one.invariant i ++ (c.in_ok-copied.ensures ∙ ap (λ (n : Name). n.word) c.one.view_is) i ∷ [])
    ∙ one_more c.args.names.now c.loop-one.one-index c.one-item.result c.one-item.is c.loop-one-test.true

pub returns : goal.returns
returns c = c.loop-one.invariant ∙ ap words (take_all c.loop-one.one-index c.args.names.now c.loop-one-test.false)
