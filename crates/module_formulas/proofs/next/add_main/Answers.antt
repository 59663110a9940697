-- Proves that the disjuncts of what runs are added.
use Rattle.std.proofs.Common.{◌≤◌, ◌++◌, List, map, refl, sym, ap, subst, ◌∙◌, arith}
use Rattle.std.proofs.lemmas.Result.{on_ok_weaker}
use Rattle.tla_tree.specs.Nesting.{greatest}
use Rattle.pcal_tree.specs.declared.algorithm.Main.{Main}
use Rattle.pcal_tree.specs.declared.algorithm.Process.{Process}
use Rattle.pcal_tree.specs.declared.algorithm.Stmt.{Stmt}
use Rattle.pcal_tree.specs.Algorithm.{numbered}
use Rattle.pcal_tree.specs.InMemory.{statements_at, process_at, past_main, past_process}
use Rattle.pcal_tree.specs.OffencesLabels.{label_words}
use Rattle.pcal_tree.specs.Takers.{lone, taken_process}
use Rattle.module_write.specs.InMemory.{ways_at}
use Rattle.action_builder.specs.NextFormula.{own_way}
use Rattle.module_formulas.specs.TakersIn.{taken}
use Rattle.module_formulas.specs.LabelWays.{label_way}
use Rattle.module_formulas.specs.MainWays.{body_routine, main_ways_at}
use Rattle.module_formulas.proofs.next.add_main.Goals as goal

pub returns-in-Alone-clause-made : goal.returns-in-Alone-clause-made
returns-in-Alone-clause-made c =
    on_ok_weaker c.add_label_ways.result (λ h ts P this naming.
    h ts P (body_routine c.args.number (statements_at ts c.in-Alone.body.items)) this naming refl
    ∙ ap (λ (ss : List Stmt). ways_at ts c.args.out.now.items ++ map (label_way P (taken lone (body_routine c.args.number (statements_at ts c.in-Alone.body.items)))) (label_words (statements_at ts ss))) c.deref.ensures.value
    ∙ ap (λ (m : Main). ways_at ts c.args.out.now.items ++ main_ways_at P c.args.number ts m) (sym c.in-Alone.is))
    c.add_label_ways.ensures.made

pub returns-in-Processes-clause-made : goal.returns-in-Processes-clause-made
returns-in-Processes-clause-made c =
    on_ok_weaker c.add_process_ways.result (λ h ts P this naming.
    h ts P this naming
    ∙ ap (λ (ps : List Process). ways_at ts c.args.out.now.items ++ map (own_way P) (numbered taken_process c.args.number (map (process_at ts) ps))) c.deref-in-Processes.ensures.value
    ∙ ap (λ (m : Main). ways_at ts c.args.out.now.items ++ main_ways_at P c.args.number ts m) (sym c.in-Processes.is))
    c.add_process_ways.ensures.made

pub returns-in-Processes-clause-within : goal.returns-in-Processes-clause-within
returns-in-Processes-clause-within c =
    on_ok_weaker c.add_process_ways.result (λ h m this past ways.
    let inner = ap past_main c.in-Processes.is in
    h m this (subst (λ (ps : List Process). greatest (map past_process ps) ≤ m) (sym c.deref-in-Processes.ensures.value) (omega (arith, past, inner))) ways)
    c.add_process_ways.ensures.within

pub returns-in-Alone-clause-within : goal.returns-in-Alone-clause-within
returns-in-Alone-clause-within c = on_ok_weaker c.add_label_ways.result (λ h m this past ways. h m this ways) c.add_label_ways.ensures.within
