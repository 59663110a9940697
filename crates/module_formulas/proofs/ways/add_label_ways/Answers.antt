-- Proves that the calls of all labels of a body are added.
use Rattle.std.proofs.Common.{◌++◌, List, map, ap, ◌∙◌}
use Rattle.std.proofs.lemmas.Result.{on_ok_weaker}
use Rattle.tla_tree.specs.Tree.{Word}
use Rattle.module_write.specs.InMemory.{ways_at}
use Rattle.module_formulas.specs.TakersIn.{taker_at, taken}
use Rattle.module_formulas.specs.LabelWays.{label_way}
use Rattle.module_formulas.proofs.ways.add_label_ways.Goals as goal

pub returns-clause-made : goal.returns-clause-made
returns-clause-made c =
    on_ok_weaker c.add_calls.result (λ h ts P u this naming number.
    h ts P u this naming number
    ∙ ap (λ (ls : List Word). ways_at ts c.args.out.now.items ++ map (label_way P (taken (taker_at ts c.args.caller.taker) u)) ls) (c.as_slice.ensures ∙ c.in_ok-labels.ensures ts))
    c.add_calls.ensures.made
