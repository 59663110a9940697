-- Proves what is asked of `part`.
use Rattle.std.proofs.Common.{◌≡◌, ◌∙◌, sym, subst, ◌-ℤ◌, Ok}
use Rattle.std.proofs.lemmas.Int.{to_z-of_z}
use Rattle.tla_value.specs.Value.{int}
use Rattle.tla_value.specs.Limits.{bounded}
use Rattle.value_forms.specs.Gives.{Tells}
use Rattle.function_forms.specs.SubSequences.{part_after}
use Rattle.value_forms.proofs.StopLaws.{tells_then}
use Rattle.function_forms.proofs.parts.part.Goals as goal

pub returns : goal.returns
returns c =
    let at = c.args.at in
    let s = c.args.s.now in
    let m = to_z-of_z _ c.args.m c.ranges.m in
    let n = to_z-of_z _ c.args.n c.ranges.n in
    let k = to_z-of_z _ c.in_ok-less.less c.in_ok-less.ensures.small ∙ c.in_ok-less.ensures.same ∙ (λ i. n i -ℤ m i) in
    let made : bounded at (int (c.args.n -ℤ c.args.m)) ≡ Ok (int c.in_ok-less.less) = (λ i. bounded at (int (sym n i -ℤ sym m i))) ∙ c.in_ok-less.ensures.value in
    tells_then c.part_longer.result (int c.in_ok-less.less) (bounded at (int (c.args.n -ℤ c.args.m))) (λ _. part_after at s c.args.m (c.args.n -ℤ c.args.m)) made (subst (Tells c.part_longer.result) (λ i. part_after at s (m i) (k i)) c.part_longer.ensures)
