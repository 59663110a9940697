-- No identifier is there, where none was found.
use Rattle.std.proofs.Common.{refl, arith}
use Rattle.std.proofs.lemmas.Result.{IfOk-from_err}
use Rattle.module_outside.proofs.PassedLaws.{first_here, first_further, first_none}
use Rattle.module_outside.proofs.passed.first_identifier.Goals as goal

pub returns : goal.returns
returns c = first_none c.args.tokens.now c.loop-at.at c.loop-at.names.items c.loop-at.invariant.none (let h = c.loop-at-test.false in let k = c.len-at-end.ensures in omega (arith, h, k)) c.loop-at.invariant.value

pub loop-at-init : goal.loop-at-init
loop-at-init c = record { none = c.new-names.ensures.items; value = refl }

pub identifier_at-requires : goal.identifier_at-requires
identifier_at-requires c = (let h = c.loop-at-test.true in let k = c.len-at-end.ensures in omega (arith, h, k))

pub returns-in_err-one : goal.returns-in_err-one
returns-in_err-one c = IfOk-from_err c.from_residual.result _ c.from_residual.ensures.0

pub returns-in_err-push : goal.returns-in_err-push
returns-in_err-push c = IfOk-from_err c.from_residual-in_err-push.result _ c.from_residual-in_err-push.ensures.0

pub returns-in-Some : goal.returns-in-Some
returns-in-Some c = first_here c.args.tokens.now c.loop-at.at c.in_ok-one.field-0 c.in-Some.one c.push.new.self.items c.loop-at.names.items c.in-Some.is c.in_ok-one.ensures c.loop-at.invariant.none c.in_ok-push.ensures.items c.loop-at.invariant.value

pub loop-at-preserved : goal.loop-at-preserved
loop-at-preserved c = record { none = c.loop-at.invariant.none; value = first_further c.args.tokens.now c.loop-at.at c.in_ok-one.field-0 c.in_default.is c.in_ok-one.ensures c.loop-at.invariant.value }
