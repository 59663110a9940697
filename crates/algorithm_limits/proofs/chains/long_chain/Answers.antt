-- Proves that a chain that is too long is found.
use Rattle.std.proofs.Common.{◌≡◌, ◌+◌, max, List, map, drop, get_or, sym, ap, ◌∙◌, subst}
use Rattle.tla_tree.specs.Tree.{Word}
use Rattle.pcal_tree.specs.declared.algorithm.Stmt.{Stmt}
use Rattle.pcal_tree.specs.declared.algorithm.Macro.{Macro}
use Rattle.pcal_tree.specs.InMemory.{statements_at, macro_at}
use Rattle.pcal_tree.specs.OffencesCounts.{calls_of}
use Rattle.algorithm_limits.specs.Numbers.{with_number}
use Rattle.algorithm_limits.specs.ChainsIn.{longest_in}
use Rattle.algorithm_limits.proofs.CallWalks.{one_longer, found_as, chain_more}
use Rattle.algorithm_limits.proofs.chains.long_chain.Goals as goal

pub loop-one-preserved : goal.loop-one-preserved
loop-one-preserved c = λ ts.
    let is = subst (λ (m : Macro). m ≡ get_or c.args.macros.now c.loop-one.one-index m) (sym c.one.view_is) c.one-item.is in
    found_as _ c.set.new.self _ c.or_offence-found.result (map (macro_at ts) c.args.macros.now) (map (macro_at ts) (drop (c.loop-one.one-index + 1) c.args.macros.now))
    (c.in_ok-set.ensures ∙ ap (λ (x : Word). with_number c.loop-one.chains x c.in_ok-length.length) c.in_ok-copied.ensures) c.or_offence-found.ensures
    (chain_more ts c.args.macros.now c.loop-one.chains c.loop-one.found c.loop-one.one-index _ c.in_ok-length.length is c.loop-one-test.true
    (one_longer c.in_ok-length.length c.longest_in_statements-longest.result _ c.in_ok-length.ensures
    (c.longest_in_statements-longest.ensures ts ∙ ap (λ (ys : List Stmt). max 0 (longest_in c.loop-one.chains (calls_of (statements_at ts ys)))) c.deref.ensures.value))
    (c.loop-one.invariant ts))
