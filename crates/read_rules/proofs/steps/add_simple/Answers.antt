-- Proves what a call of a procedure uses.
use Rattle.std.proofs.Common.{ℕ, List, ◌++◌, ◌≡◌, ◌∙◌, map, sym, ap, subst}
use Rattle.std.proofs.lemmas.Result.{on_ok_weaker}
use Rattle.tla_tree.specs.Tree.{Name}
use Rattle.tla_tree.specs.Pool.{trees_at}
use Rattle.pcal_tree.specs.declared.algorithm.Simple.{Simple}
use Rattle.pcal_tree.specs.InMemory.{simple_at}
use Rattle.pcal_tree.specs.OffencesStale.{self_at, jumps_use}
use Rattle.pcal_tree.specs.Algorithm.{call}
use Rattle.pcal_tree.specs.laws.MacroSpots.{other, uses_of_all}
use Rattle.read_rules.specs.StepsIn.{jump_words, others_at, simple_uses}
use Rattle.read_rules.specs.UsesIn.{uses_of}
use Rattle.read_rules.proofs.StepLaws.{call_uses, call_step}
use Rattle.read_rules.proofs.steps.add_simple.Goals as goal

pub returns-in_ok-add_self-in-Call : goal.returns-in_ok-add_self-in-Call
returns-in_ok-add_self-in-Call c =
    on_ok_weaker c.add_jump.result
    (λ done ps a.
    let ts = c.args.pool.now in
    let at = c.args.place in
    let q = c.in-Call.name in
    let js = c.args.jumps.now in
    let us = uses_of_all (trees_at ts c.in-Call.args.items) in
    subst (λ (s : Simple). uses_of c.add_jump.new.list.items ≡ uses_of c.args.list.now.items ++ simple_uses ps at (simple_at ts s)) (sym c.in-Call.is)
    (call_step (uses_of c.args.list.now.items) (uses_of c.add_all_uses.new.list.items) (uses_of c.add_self-in-Call.new.list.items) (uses_of c.add_jump.new.list.items) us
    (others_at at (jump_words js q.word)) (map other (jumps_use ps at (call q (trees_at ts c.in-Call.args.items)))) (other (self_at at))
    (subst (λ (es : List ℕ). uses_of c.add_all_uses.new.list.items ≡ uses_of c.args.list.now.items ++ uses_of_all (trees_at ts es)) c.deref-in-Call.ensures.value c.in_ok-add_all_uses-in-Call.ensures)
    c.in_ok-add_self-in-Call.ensures
    (done ∙ ap (λ (n : Name). uses_of c.add_self-in-Call.new.list.items ++ others_at at (jump_words js n.word)) c.name.view_is)
    (call_uses js ps a at q))) c.add_jump.ensures
