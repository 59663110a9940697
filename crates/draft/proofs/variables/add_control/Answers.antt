-- Proves that the stack is added where there are procedures.
use Rattle.std.proofs.Common.{◌<◌, List, ◌∷◌, ◌++◌, [], length, map, ap, ◌∙◌, append_assoc, rules, arith}
use Rattle.std.proofs.lemmas.Result.{on_ok_weaker}
use Rattle.std.proofs.lemmas.List.{length-map}
use Rattle.tla_tree.specs.Tree.{Word}
use Rattle.pcal_tree.specs.Algorithm.{procedure_routine}
use Rattle.pcal_tree.specs.InMemory.{procedure_at}
use Rattle.pcal_tree.specs.Variables.{pc, stack}
use Rattle.draft.proofs.NameLaws.{some_stack}
use Rattle.draft.proofs.variables.add_control.Goals as goal

pub returns-else-is_empty : goal.returns-else-is_empty
returns-else-is_empty c =
    let some : 0 < length c.args.procedures.now = search rules in
    on_ok_weaker c.add_word-else-is_empty.result (λ h ts n.
    h ∙ ap (λ (l : List Word). l ++ stack ∷ []) c.in_ok-add_word.ensures ∙ append_assoc c.args.into.now (pc ∷ []) (stack ∷ [])
    ∙ ap (λ (l : List Word). c.args.into.now ++ (pc ∷ l)) (some_stack procedure_routine n (map (procedure_at ts) c.args.procedures.now) (omega (arith, length-map c.args.procedures.now (procedure_at ts), some))))
    c.add_word-else-is_empty.ensures
