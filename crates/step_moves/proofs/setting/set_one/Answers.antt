-- Proves that a part is set in memory.
use Rattle.std.proofs.Common.{List, unwrap_or, ap, sym, ◌∙◌}
use Rattle.tla_value.specs.Value.{Value}
use Rattle.except_forms.specs.Changes.{reached_change}
use Rattle.step_moves.specs.StatesOf.{setting_of}
use Rattle.step_moves.proofs.StateLaws.{set_in_memory, set_stops, names_in_memory}
use Rattle.step_moves.proofs.setting.set_one.Goals as goal

pub returns-clause-set : goal.returns-clause-set
returns-clause-set c =
    set_in_memory (setting_of c.args.one) c.args.state.now c.replace.new.self c.set.new.self c.in_ok-copied.field-0 c.in_ok-copied-2.field-0 _ c.unwrap_or.result c.in_ok-new.new c.in_ok-old.old c.in_ok-copied.ensures c.in_ok-copied-2.ensures c.in_ok-old.ensures.ok c.in_ok-set.ensures.ok c.in_ok-old.ensures.before
    (c.unwrap_or.ensures ∙ ap (λ (v : Value). unwrap_or c.in_ok-old.old v) c.truth-2.ensures)
    (ap (λ (ks : List Value). reached_change c.args.one.place ks c.args.one.value c.unwrap_or.result) (sym c.deref.ensures.value) ∙ c.in_ok-new.ensures)

pub returns-clause-names : goal.returns-clause-names
returns-clause-names c =
    names_in_memory c.args.one.variable.now c.args.state.now c.replace.new.self c.set.new.self c.in_ok-copied.field-0 c.in_ok-copied-2.field-0 _ c.in_ok-new.new c.in_ok-copied.ensures c.in_ok-copied-2.ensures c.in_ok-old.ensures.ok c.in_ok-set.ensures.ok
