-- Proves that one more name has the value FALSE.
use Rattle.std.proofs.Common.{sym, ap, ◌∙◌}
use Rattle.tla_value.specs.Value.{Value}
use Rattle.tla_value.specs.States.{updated}
use Rattle.step_meaning.proofs.OrderedNames.{none_there, names_next, blank_next}
use Rattle.step_meaning.proofs.puts.blank.Goals as goal

pub loop-name-preserved : goal.loop-name-preserved
loop-name-preserved c =
    let made = c.in_ok-old.ensures.ok ∙ ap (λ (v : Value). updated c.loop-name.state c.in_ok-copied.field-0 v) c.truth.ensures in
    record {
      names = names_next c.args.variables.now c.loop-name.name-index c.name-item.result c.in_ok-copied.field-0 c.loop-name.state c.replace.new.self c.loop-name-test.true c.name-item.is made c.in_ok-copied.ensures (sym c.in_ok-old.ensures.before ∙ none_there c.in_ok-old.old (sym c.is_some.ensures ∙ c.if-is_some.false)) c.loop-name.invariant.names;
      nothing = blank_next c.loop-name.state c.replace.new.self c.name-item.result c.in_ok-copied.field-0 made c.in_ok-copied.ensures c.loop-name.invariant.nothing;
    }
