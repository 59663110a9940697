-- Proves what is asked of `range_between`.
use Rattle.std.proofs.Common.{◌<◌, ◌+ℤ◌, ◌-ℤ◌, pos, sym, subst}
use Rattle.std.proofs.lemmas.Int.{to_z-of_z}
use Rattle.tla_token.specs.Limits.{most_members}
use Rattle.tla_value.specs.Sets.{range, natural}
use Rattle.value_forms.proofs.PartLaws.{set_over}
use Rattle.value_forms.proofs.RangeLaws.{count_integers}
use Rattle.value_forms.proofs.ranges.range_between.Goals as goal

pub returns-in-None : goal.returns-in-None
returns-in-None c =
    let m = c.args.m in
    let n = c.args.n in
    set_over c.args.at (range m n) (subst (λ k. most_members < k) (sym (count_integers (natural ((n +ℤ pos 1) -ℤ m)) m)) (subst (λ k. most_members < k) (λ i. natural ((to_z-of_z _ n c.ranges.n i +ℤ pos 1) -ℤ to_z-of_z _ m c.ranges.m i)) c.in-None.ensures))
