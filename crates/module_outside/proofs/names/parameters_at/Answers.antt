-- Parameters are names in brackets.
use Rattle.std.proofs.Common.{ap, sym, ◌∙◌, arith}
use Rattle.module_outside.specs.Fronts.{names_and_rest}
use Rattle.module_outside.proofs.NameLaws.{no_parameters, params_unnamed, params_closed, params_open}
use Rattle.module_outside.proofs.names.parameters_at.Goals as goal

pub returns-then-not-is_mark_at-clause-value : goal.returns-then-not-is_mark_at-clause-value
returns-then-not-is_mark_at-clause-value c = no_parameters c.args.tokens.now c.args.from c.new.result.items c.requires.there (sym c.is_mark_at.ensures.value ∙ c.if-not-is_mark_at.true) c.new.ensures.items

pub returns-then-is_closed-clause-value : goal.returns-then-is_closed-clause-value
returns-then-is_closed-clause-value c =
    params_closed c.args.tokens.now c.args.from (sym c.is_mark_at.ensures.value ∙ c.if-not-is_mark_at.false) c.in-Some.names.items c.in-Some.end c.is_closed.result
    (ap (names_and_rest c.args.tokens.now) (sym c.in-Some.is) ∙ c.in_ok-names.ensures.value) c.is_closed.ensures.value c.if-is_closed.true

pub returns-else-is_closed-clause-value : goal.returns-else-is_closed-clause-value
returns-else-is_closed-clause-value c =
    params_open c.args.tokens.now c.args.from (sym c.is_mark_at.ensures.value ∙ c.if-not-is_mark_at.false) c.in-Some.names.items c.in-Some.end c.is_closed.result
    (ap (names_and_rest c.args.tokens.now) (sym c.in-Some.is) ∙ c.in_ok-names.ensures.value) c.is_closed.ensures.value c.if-is_closed.false

pub returns-in-None-clause-value : goal.returns-in-None-clause-value
returns-in-None-clause-value c =
    params_unnamed c.args.tokens.now c.args.from (sym c.is_mark_at.ensures.value ∙ c.if-not-is_mark_at.false) (ap (names_and_rest c.args.tokens.now) (sym c.in-None.is) ∙ c.in_ok-names.ensures.value)

pub returns-then-is_closed-clause-within : goal.returns-then-is_closed-clause-within
returns-then-is_closed-clause-within c = (let h = c.is_closed.ensures.there c.if-is_closed.true in omega (arith, h))
