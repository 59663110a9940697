-- Proves that a unit begins at the number that is given, or none does.
use Rattle.std.proofs.Common.{refl, sym, ◌∙◌, arith}
use Rattle.module_outside.proofs.UnitLaws.{begun_here, none_begun, begun_further}
use Rattle.module_outside.proofs.unit.next_begun.Goals as goal

pub loop-at-init : goal.loop-at-init
loop-at-init c = record { inside = c.requires; further = omega arith; value = refl }

pub is_begun_at-requires : goal.is_begun_at-requires
is_begun_at-requires c = (let h = c.loop-at-test.true in let k = c.len.ensures in omega (arith, h, k))

pub returns-then-is_begun_at-clause-value : goal.returns-then-is_begun_at-clause-value
returns-then-is_begun_at-clause-value c = begun_here c.args.tokens.now c.args.from c.loop-at.at c.is_begun_at.result c.is_begun_at.ensures c.if-is_begun_at.true c.loop-at.invariant.value

pub returns-then-is_begun_at-clause-within : goal.returns-then-is_begun_at-clause-within
returns-then-is_begun_at-clause-within c = c.loop-at.invariant.inside

pub returns-then-is_begun_at-clause-further : goal.returns-then-is_begun_at-clause-further
returns-then-is_begun_at-clause-further c = c.loop-at.invariant.further

pub returns-then-is_begun_at-clause-begins : goal.returns-then-is_begun_at-clause-begins
returns-then-is_begun_at-clause-begins c l = sym c.is_begun_at.ensures ∙ c.if-is_begun_at.true

pub loop-at-smaller : goal.loop-at-smaller
loop-at-smaller c = (let h = c.loop-at-test.true in let k = c.len.ensures in omega (arith, h, k))

pub loop-at-preserved : goal.loop-at-preserved
loop-at-preserved c = record {
  inside = (let h = c.loop-at-test.true in let k = c.len.ensures in omega (arith, h, k));
  further = (let h = c.loop-at.invariant.further in omega (arith, h));
  value = begun_further c.args.tokens.now c.args.from c.loop-at.at c.is_begun_at.result (let h = c.loop-at-test.true in let k = c.len.ensures in omega (arith, h, k)) c.is_begun_at.ensures c.if-is_begun_at.false c.loop-at.invariant.value;
}

pub returns-clause-value : goal.returns-clause-value
returns-clause-value c = none_begun c.args.tokens.now c.args.from c.loop-at.at (let h = c.loop-at-test.false in let k = c.len.ensures in omega (arith, h, k)) c.loop-at.invariant.value

pub returns-clause-within : goal.returns-clause-within
returns-clause-within c = c.loop-at.invariant.inside

pub returns-clause-further : goal.returns-clause-further
returns-clause-further c = c.loop-at.invariant.further

pub returns-clause-begins : goal.returns-clause-begins
returns-clause-begins c l = absurd (let h = c.loop-at-test.false in let k = c.len.ensures in omega (arith, h, k, l))
