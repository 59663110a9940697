-- What is in memory stays as the pool grows.
use Rattle.std.proofs.Common.{◌≡◌, ℕ, ◌<◌, ◌≤◌, List, [], ◌∷◌, ◌++◌, length, refl, sym, ap, subst, arith}
use Rattle.tla_tree.specs.Tree.{Tree}
use Rattle.tla_tree.specs.Pool.{Keeps}
use Rattle.module_formulas.specs.TakersIn.{taker_at, TakerIn}
use Rattle.module_formulas.specs.declared.takers.Taker.{Taker}
use Rattle.module_formulas.specs.declared.takers.Taker.TheVariants.{Each, Single, Lone}
use Rattle.pcal_tree.specs.Takers.{each_of, single}
use Rattle.tla_tree.specs.Pool.{AllBelow}
use Rattle.tla_tree.proofs.PoolNumbers.{Keeps-then, AllBelow-more, AllBelow-push}
use Rattle.pcal_tree.specs.declared.algorithm.Declaration.{Declaration}
use Rattle.pcal_tree.specs.declared.algorithm.Process.{Process}
use Rattle.pcal_tree.specs.InMemory.{declaration_at, process_at, past_declaration, past_process}
use Rattle.pcal_tree.proofs.InMemoryGrown.{start_at-kept, declarations_at-kept, statements_at-kept}

module _ (ts us : List Tree) (k : Keeps ts us) where
  pub taker_at-kept : (t : Taker) → TakerIn (length ts) t → taker_at us t ≡ taker_at ts t
  taker_at-kept (Each s) h = ap each_of (k.same s h)
  taker_at-kept (Single e) h = ap single (k.same e h)
  taker_at-kept Lone h = refl

  pub taker_in-kept : (t : Taker) → TakerIn (length ts) t → TakerIn (length us) t
  taker_in-kept (Each s) h = omega (arith, h, k.longer)
  taker_in-kept (Single e) h = omega (arith, h, k.longer)
  taker_in-kept Lone h = tt

  pub declaration_at-kept : (d : Declaration) → past_declaration d ≤ length ts → declaration_at us d ≡ declaration_at ts d
  declaration_at-kept d h = λ j. record { name = d.name; start = start_at-kept ts us k d.start h j }

  pub process_at-kept : (p : Process) → past_process p ≤ length ts → process_at us p ≡ process_at ts p
  process_at-kept p h = λ j. record {
    name = p.name;
    fairness = p.fairness;
    several = p.several;
    identity = k.same p.identity (omega (arith, h)) j;
    variables = declarations_at-kept ts us k p.variables.items (omega (arith, h)) j;
    body = statements_at-kept ts us k p.body.items (omega (arith, h)) j;
  }

-- the pool has grown, and all numbers are of it
pub record Grows (old now : List Tree) (js : List ℕ) : Type 0 where
  pub kept : Keeps old now
  pub below : AllBelow (length now) js

pub grows_none : (ts : List Tree) (js : List ℕ) → AllBelow (length ts) js → Grows ts ts js
grows_none ts js h = record { kept = record { longer = omega arith; same = λ i l. refl }; below = h }

pub below_one : (ts us : List Tree) (is js : List ℕ) (i : ℕ) → Keeps ts us → AllBelow (length ts) is → i < length us → js ≡ is ++ i ∷ [] → AllBelow (length us) js
below_one ts us is js i k h less more = subst (AllBelow (length us)) (sym more) (AllBelow-push (length us) is i (AllBelow-more (length ts) (length us) is k.longer h) less)

both_below : (m : ℕ) (is : List ℕ) (i k : ℕ) → AllBelow m is → i < m → k < m → AllBelow m (is ++ i ∷ k ∷ [])
both_below m [] i k h a b = (a, (b, tt))
both_below m (j ∷ is) i k h a b = (h.0, both_below m is i k h.1 a b)

pub below_two : (ts us : List Tree) (is js : List ℕ) (i k : ℕ) → Keeps ts us → AllBelow (length ts) is → i < length us → k < length us → js ≡ is ++ i ∷ k ∷ [] → AllBelow (length us) js
below_two ts us is js i k h b less lesser more = subst (AllBelow (length us)) (sym more) (both_below (length us) is i k (AllBelow-more (length ts) (length us) is h.longer b) less lesser)

pub grows_more : (old now new : List Tree) (is js : List ℕ) → Grows old now is → Keeps now new → AllBelow (length new) js → Grows old new js
grows_more old now new is js g k h = record { kept = Keeps-then old now new g.kept k; below = h }

pub grows_one : (old now new : List Tree) (is js : List ℕ) (i : ℕ) → Grows old now is → Keeps now new → i < length new → js ≡ is ++ i ∷ [] → Grows old new js
grows_one old now new is js i g k h more = record {
  kept = Keeps-then old now new g.kept k;
  below = subst (AllBelow (length new)) (sym more) (AllBelow-push (length new) is i (AllBelow-more (length now) (length new) is k.longer g.below) h);
}
