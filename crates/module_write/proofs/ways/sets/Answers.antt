-- Proves what is asked of `sets`.
use Rattle.std.proofs.Common.{◌≡◌, ℕ, suc, ◌-◌, ◌<◌, List, [], ◌∷◌, ◌++◌, length, map, reverse, sym, ap, subst, ◌∙◌, arith}
use Rattle.std.proofs.lemmas.List.{reverse-append}
use Rattle.tla_tree.specs.Tree.{Tree}
use Rattle.tla_tree.specs.Pool.{at, AllBelow}
use Rattle.tla_tree.proofs.PoolNumbers.{AllBelow-push}
use Rattle.module_tree.specs.Ways.{split_cup}
use Rattle.module_write.proofs.Below.{reverse_below}
use Rattle.module_write.proofs.ways.sets.Goals as goal

-- one more set is split off
one_less : (ts : List Tree) (found items : List ℕ) (rest front last left : ℕ) (all : List Tree) → 1 < left → items ≡ found ++ last ∷ []
    → ((n : ℕ) (es : List Tree) → split_cup (suc n) (at ts rest) es ≡ split_cup n (at ts front) (at ts last ∷ es))
    → split_cup (left - 1) (at ts rest) (map (at ts) (reverse found)) ≡ all → split_cup (left - 1 - 1) (at ts front) (map (at ts) (reverse items)) ≡ all
one_less ts found items rest front last left all lt e h inv =
    let r : map (at ts) (reverse items) ≡ at ts last ∷ map (at ts) (reverse found) = ap (λ (es : List ℕ). map (at ts) (reverse es)) e ∙ ap (map (at ts)) (reverse-append found (last ∷ [])) in
    let n : suc (left - 1 - 1) ≡ left - 1 = omega (arith, lt) in
    ap (split_cup (left - 1 - 1) (at ts front)) r ∙ sym (h (left - 1 - 1) (map (at ts) (reverse found))) ∙ ap (λ (k : ℕ). split_cup k (at ts rest) (map (at ts) (reverse found))) n ∙ inv

pub loop-left-preserved-in-Some : goal.loop-left-preserved-in-Some
loop-left-preserved-in-Some c =
    let m = length c.args.pool.now in
    let h = c.in-Some.ensures in
    let inv = c.loop-left.invariant in
    let found = c.loop-left.found.items in
    let items = c.in_ok-push-in-Some.ensures.items in (
      h.0,
      subst (AllBelow m) (sym items) (AllBelow-push m found c.in-Some.last inv.1 h.1),
      one_less c.args.pool.now found c.push.new.self.items c.loop-left.rest c.in-Some.front c.in-Some.last c.loop-left.left _ c.loop-left-test.true items h.2 inv.2,
    )

pub returns-clause-below : goal.returns-clause-below
returns-clause-below c =
    let m = length c.args.pool.now in
    let inv = c.loop-left.invariant in
    let pushed = subst (AllBelow m) (sym c.in_ok-push.ensures.items) (AllBelow-push m c.loop-left.found.items c.loop-left.rest inv.1 inv.0) in
    subst (AllBelow m) (sym c.reverse.ensures.items) (reverse_below m c.push-2.new.self.items pushed)
