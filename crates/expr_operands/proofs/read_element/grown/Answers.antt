-- Proves what is asked of `grown`.
use Rattle.tla_tree.proofs.PoolNumbers.{Keeps-then}
use Rattle.expr_nodes.proofs.MakeLemmas.{kept_in}
use Rattle.expr_operands.proofs.ReadElement.{may_kept, element_room}
use Rattle.expr_operands.proofs.read_element.grown.Goals as goal

pub returns-clause-read : goal.returns-clause-read
returns-clause-read c = λ w i j p q x h k.
    let one = c.in_ok-whole.ensures in
    let two = c.in_ok-element.ensures in
    let all = one.read w i j c.args.place h.set k in
    record {
      named = kept_in (Keeps-then _ _ _ one.kept two.kept) h.named;
      set = kept_in two.kept all;
      part = two.read w i j p q x (kept_in one.kept h.named) (may_kept _ one.kept c.args.a.element _ h.part) (kept_in one.kept k) all;
    }

pub element_of_infix-requires-clause-left_in : goal.element_of_infix-requires-clause-left_in
element_of_infix-requires-clause-left_in c =
    let some = c.requires.some.1 in
    element_room _ some.place some.word_of some.sign _ some.told c.in_ok-whole.ensures.kept.longer c.args.b.shape.nesting c.requires.chained
