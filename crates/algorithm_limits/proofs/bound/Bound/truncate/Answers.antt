-- Proves that the names that were bound first are kept.
use Rattle.std.proofs.Common.{ℕ, ◌-◌, List, ◌++◌, take, sym, ap, ◌∙◌, arith}
use Rattle.std.proofs.lemmas.List.{take_all}
use Rattle.tla_tree.specs.Tree.{Word}
use Rattle.algorithm_limits.proofs.BoundLemmas.{many_kept}
use Rattle.algorithm_limits.proofs.bound.Bound.truncate.Goals as goal

pub returns-then-len : goal.returns-then-len
returns-then-len c = sym (take_all c.args.len c.args.self.now (omega (arith, c.if-len.true, c.len.ensures)))

pub returns-else-len-few : goal.returns-else-len-few
returns-else-len-few c =
    let few = c.self.inside.few.items in
    let many = c.self.inside.many.keys in
    let n = c.args.len in
    let all = c.len-few.ensures ∙ c.self.inside.few.ok.0 in
    ap (λ (ks : List Word). few ++ ks) (c.truncate-else-len-few.ensures.keys ∙ ap (λ (k : ℕ). take (n - k) many) all)
    ∙ many_kept few many n (omega (arith, c.if-len-few.false, all))
    ∙ ap (take n) c.self.view_is
