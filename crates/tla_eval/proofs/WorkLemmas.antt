-- The work of the body of a definition is part of that of the definitions that are seen.
use Rattle.std.proofs.Common.{◌≡◌, ℕ, suc, zero, ◌+◌, ◌-◌, ◌<◌, ◌≤◌, List, Some, length, sym, ap, ◌∙◌, subst, arith, get_or}
use Rattle.std.proofs.lemmas.Option.{slice_get-get_or}
use Rattle.tla_tree.specs.Tree.{Tree}
use Rattle.tla_tree.specs.Pool.{at}
use Rattle.tla_value.specs.declared.names.Definition.{Definition as Kept}
use Rattle.tla_eval.specs.Work.{work, body_work, defs_work}

pub used_work : (ts : List Tree) (ds : List Kept) (k : ℕ) (d : Kept) → k < length ds → d ≡ get_or ds k d → defs_work ts ds (suc k) ≡ suc (work (at ts d.body) + defs_work ts ds k)
used_work ts ds k d lt is = ap (λ o. suc (body_work ts o + defs_work ts ds k)) (slice_get-get_or ds k d lt ∙ ap (λ w. Some w) (sym is))

work_more : (ts : List Tree) (ds : List Kept) (k m : ℕ) → defs_work ts ds k ≤ defs_work ts ds (m + k)
work_more ts ds k zero = let e : k ≡ 0 + k = omega arith in subst (λ n. defs_work ts ds k ≤ defs_work ts ds n) e (omega arith)
work_more ts ds k (suc m) = let e : suc (m + k) ≡ suc m + k = omega arith in subst (λ n. defs_work ts ds k ≤ defs_work ts ds n) e (omega (arith, work_more ts ds k m))

pub work_grows : (ts : List Tree) (ds : List Kept) (k n : ℕ) → k ≤ n → defs_work ts ds k ≤ defs_work ts ds n
work_grows ts ds k n h =
    let e : (n - k) + k ≡ n = omega (arith, h) in
    subst (λ m. defs_work ts ds k ≤ defs_work ts ds m) e (work_more ts ds k (n - k))
