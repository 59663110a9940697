-- Proves that what is missing in a body or assigned twice is found.
use Rattle.std.proofs.Common.{◌++◌, List, ap, ◌∙◌}
use Rattle.std.proofs.lemmas.Result.{on_ok_weaker}
use Rattle.tla_token.specs.declared.rule.Refusal.{Refusal}
use Rattle.pcal_tree.specs.InMemory.{statements_at}
use Rattle.added_labels.specs.Sight.{effects_of}
use Rattle.label_rules.proofs.AllLaws.{all_told, longer_if_ok}
use Rattle.step_offences.proofs.ToldLaws.{told_list, told_none}
use Rattle.label_rules.proofs.all.add_missing.Goals as goal

pub returns-in-None : goal.returns-in-None
returns-in-None c = λ ms k.
    told_none c.of_list.new.found _
    (all_told (effects_of c.args.place.now ms) c.args.due (statements_at c.args.pool.now c.args.stmts.now) c.new-ways.result c.of_list.new.ways c.new-list.result c.of_list.new.found c.in_ok-of_list.field-0
    c.new-ways.ensures c.new-list.ensures.items (c.in_ok-of_list.ensures ms k)) c.in-None.is

pub returns : goal.returns
returns c =
    on_ok_weaker c.extend_from_slice.result (λ h ms k.
    h ∙ ap (λ (rs : List Refusal). c.args.found.now.items ++ rs)
    (c.deref.ensures.value
    ∙ told_list c.of_list.new.found c.in-Some.all _
    (all_told (effects_of c.args.place.now ms) c.args.due (statements_at c.args.pool.now c.args.stmts.now) c.new-ways.result c.of_list.new.ways c.new-list.result c.of_list.new.found c.in_ok-of_list.field-0
    c.new-ways.ensures c.new-list.ensures.items (c.in_ok-of_list.ensures ms k)) c.in-Some.is)) (longer_if_ok c.extend_from_slice.result _ _ _ c.extend_from_slice.ensures.items)
