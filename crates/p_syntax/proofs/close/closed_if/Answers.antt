-- Proves what is asked of `closed_if`.
use Rattle.std.proofs.Common.{◌≡◌, [], ◌∷◌, ◌++◌, List, map, sym, ap, ◌∙◌, arith}
use Rattle.tla_tree.specs.Tree.{Tree}
use Rattle.tla_tree.specs.Nesting.{greatest}
use Rattle.pcal_tree.specs.declared.algorithm.Stmt.{Stmt}
use Rattle.pcal_tree.specs.Algorithm.{Statements, done}
use Rattle.pcal_tree.specs.InMemory.{stmt_at, statements_at, past_statements}
use Rattle.pcal_tree.proofs.InMemoryEach.{past_one_more}
use Rattle.p_syntax.specs.declared.open.Test.{Test}
use Rattle.p_syntax.specs.StatesRead.{nested, before_rest, past_test}
use Rattle.p_syntax.proofs.Nested.{nested-append}
use Rattle.p_syntax.proofs.close.closed_if.Goals as goal

pub loop-test-init : goal.loop-test-init
loop-test-init c =
    let said = c.one_if-statement.ensures in
    let o = c.args.otherwise.items in
    record {
      whole = λ ts. ap (nested ts c.args.tests.items c.args.last) (said.tree ts done) ∙ sym (nested-append ts c.args.tests.items (c.args.test ∷ []) c.args.last (statements_at ts o));
      alone = λ ts rest. said.tree ts rest ∙ ap (λ (z : Statements). before_rest z rest) (sym (said.tree ts done));
      below = omega (arith, said.below, past_one_more past_test c.args.tests.items c.args.test);
    }

pub loop-test-preserved : goal.loop-test-preserved
loop-test-preserved c =
    let said = c.one_if-statement-in-Some.ensures in
    let kept = c.loop-test.invariant in
    let last = c.args.last in
    let left = c.pop.new.self.items in
    let x = c.in-Some.test in
    let one : c.push.new.self.items ≡ c.loop-test.statement ∷ [] = c.in_ok-push.ensures.items ∙ ap (λ (l : List Stmt). l ++ c.loop-test.statement ∷ []) c.new-otherwise.ensures.items in
    let behind : (ts : List Tree) → statements_at ts c.push.new.self.items ≡ stmt_at ts c.loop-test.statement done = λ ts. ap (statements_at ts) one in
    record {
      whole = λ ts.
          ap (nested ts left last) (said.tree ts done ∙ ap (nested ts (x ∷ []) last) (behind ts))
          ∙ sym (nested-append ts left (x ∷ []) last (stmt_at ts c.loop-test.statement done))
          ∙ ap (λ (l : List Test). nested ts l last (stmt_at ts c.loop-test.statement done)) (sym c.in-Some.ensures.items)
          ∙ kept.whole ts;
      alone = λ ts rest. said.tree ts rest ∙ ap (λ (z : Statements). before_rest z rest) (sym (said.tree ts done));
      below = omega (arith, said.below, kept.below, ap (λ (l : List Test). greatest (map past_test l)) c.in-Some.ensures.items, past_one_more past_test left x, ap past_statements one);
    }
