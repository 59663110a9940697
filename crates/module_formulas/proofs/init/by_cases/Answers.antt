-- Proves that the CASE has an arm for each process.
use Rattle.std.proofs.Common.{◌≡◌, ℕ, List, ◌++◌, length, map, sym, ap, subst, ◌∙◌, arith}
use Rattle.std.proofs.lemmas.Result.{IfOk-weaker}
use Rattle.tla_tree.specs.Tree.{Tree, node, cases}
use Rattle.tla_tree.specs.TreeOf.{trees_from}
use Rattle.std.proofs.Common.{false}
use Rattle.tla_token.specs.Places.{nowhere}
use Rattle.tla_tree.specs.Pool.{at, AllBelow}
use Rattle.pcal_tree.specs.Algorithm.{numbered}
use Rattle.pcal_tree.specs.Takers.{taken_process}
use Rattle.action_builder.specs.InitialFormulas.{arms}
use Rattle.draft.proofs.Grown.{draft_kept}
use Rattle.module_formulas.proofs.RoutineLaws.{arms_paired, processes_kept}
use Rattle.module_formulas.proofs.init.by_cases.Goals as goal

pub add_arms-requires-clause-below : goal.add_arms-requires-clause-below
add_arms-requires-clause-below c = subst (AllBelow (length c.name_of.new.pool)) (sym c.new-arms.ensures.items) tt

pub choice-requires-clause-paired : goal.choice-requires-clause-paired
choice-requires-clause-paired c =
    let none : length c.new-arms.result.items ≡ 0 = ap (λ (l : List ℕ). length l) c.new-arms.ensures.items in
    arms_paired (length c.args.list.now) (length c.add_arms.new.out.items) c.requires.some (omega (arith, c.in_ok-add_arms.ensures.paired, none))

pub choice-requires-clause-below : goal.choice-requires-clause-below
choice-requires-clause-below c = c.in_ok-add_arms.ensures.below

pub returns-clause-tree : goal.returns-clause-tree
returns-clause-tree c =
    let ts = c.args.pool.now in
    let us = c.name_of.new.pool in
    let kept = c.in_ok-this.ensures.kept in
    let said = c.in_ok-add_arms.ensures in
    IfOk-weaker c.choice.result _ _ (λ r h P d.
    h
    ∙ ap (λ (l : List Tree). node (cases false) nowhere (trees_from l))
    (said.made P (draft_kept ts us kept c.args.draft.now P d) c.in_ok-this.ensures.tree
    ∙ (λ j. map (at us) (c.new-arms.ensures.items j) ++ arms P (numbered taken_process c.args.first (processes_kept ts us kept c.args.list.now c.requires.there j)))))
    c.choice.ensures.tree
