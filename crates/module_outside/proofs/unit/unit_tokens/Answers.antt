-- Proves that the tokens of a unit are a part of all.
use Rattle.std.proofs.Common.{◌-◌, List, take, drop, ap, ◌∙◌}
use Rattle.std.proofs.lemmas.Result.{IfOk-from_err}
use Rattle.tla_token.specs.declared.token.Token.{Token}
use Rattle.module_outside.proofs.UnitLaws.{part_kept, part_ahead}
use Rattle.module_outside.proofs.unit.unit_tokens.Goals as goal

pub returns-in_err-from_slice-clause-tokens : goal.returns-in_err-from_slice-clause-tokens
returns-in_err-from_slice-clause-tokens c = IfOk-from_err c.from_residual.result _ c.from_residual.ensures.0

pub returns-in_err-from_slice-clause-bytes : goal.returns-in_err-from_slice-clause-bytes
returns-in_err-from_slice-clause-bytes c = IfOk-from_err c.from_residual.result _ c.from_residual.ensures.0

pub invariant_of-result : goal.invariant_of-result
invariant_of-result c = record {
  kept = part_kept c.args.bytes.items c.args.tokens.now.bytes.items c.args.from (c.args.to - c.args.from) c.args.tokens.now.items.items c.in_ok-from_slice.field-0.items c.requires.bytes
      (c.in_ok-from_slice.ensures.items ∙ ap (λ (ts : List Token). take (c.args.to - c.args.from) (drop c.args.from ts)) c.deref.ensures.value) c.args.tokens.now.kept;
}

pub returns-clause-tokens : goal.returns-clause-tokens
returns-clause-tokens c =
    part_ahead c.args.tokens.now c.args.bytes.items c.in_ok-from_slice.field-0.items c.args.from (c.args.to - c.args.from) c.requires.bytes (c.in_ok-from_slice.ensures.items ∙ ap (λ (ts : List Token). take (c.args.to - c.args.from) (drop c.args.from ts)) c.deref.ensures.value)

pub returns-clause-bytes : goal.returns-clause-bytes
returns-clause-bytes c = c.requires.bytes
