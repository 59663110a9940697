-- Proves that the action calls those of the labels.
use Rattle.std.proofs.Common.{◌++◌, map, sym, subst, ◌∙◌}
use Rattle.module_tree.specs.Module.{some_of}
use Rattle.pcal_tree.specs.OffencesLabels.{label_words}
use Rattle.module_write.specs.InMemory.{ways_at, WaysIn}
use Rattle.module_formulas.specs.TakersIn.{taker_at, taken}
use Rattle.module_formulas.specs.LabelWays.{label_way}
use Rattle.module_formulas.proofs.ways.own_action.Goals as goal

pub returns-clause-made : goal.returns-clause-made
returns-clause-made c = λ ts P u this naming number body.
    let calls = c.in_ok-add_label_ways.ensures.made ts P u this naming number
    ∙ (λ i. ways_at ts (c.new-calls.ensures.items i) ++ map (label_way P (taken (taker_at ts c.args.caller.taker) u)) (label_words (sym body i))) in
    λ i. record {
      title = (c.in_ok-title.ensures ∙ c.title.ensures ∙ (λ j. (naming j).title (sym number j))) i;
      parameter = c.in_ok-parameter.ensures ts i;
      body = some_of (calls i);
    }

pub returns-clause-within : goal.returns-clause-within
returns-clause-within c = λ m this. c.in_ok-add_label_ways.ensures.within m this (subst (WaysIn m) (sym c.new-calls.ensures.items) tt)
