-- Proves that for a call the body of the newest macro of its name is written.
use Rattle.std.proofs.Common.{◌≡◌, ℕ, ◌+◌, ◌-◌, ◌<◌, IsTrue, ◌↔◌, length, take, sym, ap, ◌∙◌, subst, arith}
use Rattle.tla_tree.proofs.PoolNumbers.{same_default}
use Rattle.pcal_tree.specs.declared.algorithm.Macro.{Macro}
use Rattle.pcal_tree.specs.Expand.{written_out}
use Rattle.expansion_size.specs.FramesIn.{newest_first}
use Rattle.expansion.proofs.MacroLaws.{named_so, named_other}
use Rattle.expansion.proofs.macros.newest.Goals as goal

pub returns-then-is-clause-some : goal.returns-then-is-clause-some
returns-then-is-clause-some c = λ ts at us o here.
    let ms = c.args.macros.now in
    let i = length ms - 1 - c.loop-i.i in
    let x = c.args.name.now in
    let within : i < length ms = omega (arith, c.loop-i-test.true) in
    let same : c.index-macros-at.result ≡ o = c.index-macros-at.is ∙ same_default ms i c.index-macros-at.result o within ∙ sym here in
    let next : i + 1 ≡ length ms - c.loop-i.i = omega (arith, c.loop-i-test.true) in
    named_so ts ms i o here within at x us c.is.result (subst (λ (o : Macro). IsTrue c.is.result ↔ (o.name.word ≡ x)) (c.one.view_is ∙ same) c.is.ensures) c.if-is.true
    ∙ ap (λ (n : ℕ). written_out (newest_first ts (take n ms)) at x us) next
    ∙ c.loop-i.invariant ts at us

pub loop-i-preserved : goal.loop-i-preserved
loop-i-preserved c = λ ts at us.
    let ms = c.args.macros.now in
    let i = length ms - 1 - c.loop-i.i in
    let x = c.args.name.now in
    let within : i < length ms = omega (arith, c.loop-i-test.true) in
    let next : i + 1 ≡ length ms - c.loop-i.i = omega (arith, c.loop-i-test.true) in
    let this : length ms - (c.loop-i.i + 1) ≡ i = omega arith in
    ap (λ (n : ℕ). written_out (newest_first ts (take n ms)) at x us) this
    ∙ named_other ts ms i c.index-macros-at.result c.index-macros-at.is within at x us c.is.result (subst (λ (o : Macro). IsTrue c.is.result ↔ (o.name.word ≡ x)) c.one.view_is c.is.ensures) c.if-is.false
    ∙ ap (λ (n : ℕ). written_out (newest_first ts (take n ms)) at x us) next
    ∙ c.loop-i.invariant ts at us
