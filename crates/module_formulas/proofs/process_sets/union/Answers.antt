-- Proves that the sets of all processes are united.
use Rattle.std.proofs.Common.{List, map, ap, ◌∙◌, arith}
use Rattle.std.proofs.lemmas.List.{take_rest}
use Rattle.pcal_tree.specs.declared.algorithm.Process.{Process}
use Rattle.pcal_tree.specs.InMemory.{process_at}
use Rattle.std.proofs.lemmas.Result.{IfOk-weaker}
use Rattle.tla_tree.specs.Pool.{at}
use Rattle.action_builder.specs.ProcessSets.{set_of_takers, union_from, sets_of_processes}
use Rattle.module_formulas.proofs.RoutineLaws.{union_all}
use Rattle.module_formulas.proofs.process_sets.union.Goals as goal

pub returns-in_ok-members-in-len1-up-clause-tree : goal.returns-in_ok-members-in-len1-up-clause-tree
returns-in_ok-members-in-len1-up-clause-tree c =
    let ts = c.args.pool.now in
    let us = c.set_of.new.pool in
    let said = c.in_ok-members-in-len1-up.ensures in
    IfOk-weaker c.union_with.result _ _ (λ r h.
    union_all ts us said.kept c.args.list.now c.requires c.first-item.result c.first-item.is (omega (arith, c.in-len1-up.len_at_least)) (at us c.in_ok-members-in-len1-up.members) (at c.union_with.new.pool r)
    (said.tree ∙ ap set_of_takers (c.taker_of.ensures.stands ts))
    (h ∙ ap (λ (ps : List Process). union_from (at us c.in_ok-members-in-len1-up.members) (sets_of_processes (map (process_at us) ps))) (take_rest c.args.list.now 1)))
    c.union_with.ensures.tree
