-- The sign of a definition is behind its parameters.
use Rattle.std.proofs.Common.{ap, sym, ◌∙◌}
use Rattle.module_outside.specs.Fronts.{names_and_rest}
use Rattle.module_outside.proofs.NameLaws.{head_some, head_unsigned}
use Rattle.module_outside.proofs.names.head_at.Goals as goal

pub returns-then-is_placed_at-clause-value : goal.returns-then-is_placed_at-clause-value
returns-then-is_placed_at-clause-value c =
    head_some c.args.tokens.now c.args.from c.in-Some.at c.in-Some.params.items c.is_placed_at.result (ap (names_and_rest c.args.tokens.now) (sym c.in-Some.is) ∙ c.in_ok-params.ensures.value)
    c.is_placed_at.ensures.value c.if-is_placed_at.true

pub returns-else-is_placed_at-clause-value : goal.returns-else-is_placed_at-clause-value
returns-else-is_placed_at-clause-value c =
    head_unsigned c.args.tokens.now c.args.from c.in-Some.at c.in-Some.params.items c.is_placed_at.result (ap (names_and_rest c.args.tokens.now) (sym c.in-Some.is) ∙ c.in_ok-params.ensures.value)
    c.is_placed_at.ensures.value c.if-is_placed_at.false
