-- What is told stays true as the pool grows; and forms over what is told.
use Rattle.std.proofs.Common.{◌≡◌, ℕ, ◌≤◌, Bool, List, Option, Some, None, sym, ap, ◌∙◌, arith}
use Rattle.tla_token.specs.declared.place.Place.{Place}
use Rattle.tla_tree.specs.Tree.{Tree, Word}
use Rattle.tla_tree.specs.Pool.{Keeps}
use Rattle.module_tree.specs.Grammar.{CallForm, WayForm}
use Rattle.module_tree.specs.Units.{OverForm, GuardForm, FairForm, SpecForm, start_line, steps_line, fair_line}
use Rattle.module_tree.specs.Module as tree
use Rattle.module_write.specs.declared.«module».Call.{Call}
use Rattle.module_write.specs.declared.«module».Call.TheVariants as call
use Rattle.module_write.specs.declared.«module».Way.{Way}
use Rattle.module_write.specs.declared.«module».Way.TheVariants as way
use Rattle.module_write.specs.declared.«module».Fairness.{Fairness}
use Rattle.module_write.specs.InMemory.{CallIn, WayIn, OverIn, MaybeIn}
use Rattle.module_write.proofs.InMemoryGrown.{call_at-kept, over_at-kept, maybe-kept}
use Rattle.region_items.proofs.ItemsStand.{tree_kept}
use Rattle.region_calls.specs.declared.fairness.SpecLine.{SpecLine}
use Rattle.region_calls.specs.declared.fairness.SpecLine.TheVariants as line
use Rattle.region_calls.specs.Told.{IsCall, IsWay, IsOver, IsGuard, IsFair, IsSpec, AmongForm, IsAmong, some_way}

-- ---- numbers of a pool are of a longer one
call_longer : {m n : ℕ} (c : Call) → m ≤ n → CallIn m c → CallIn n c
call_longer (call.Bare a) l h = tt
call_longer (call.With a i) l h = omega (arith, h, l)

way_longer : {m n : ℕ} (w : Way) → m ≤ n → WayIn m w → WayIn n w
way_longer (way.One c) l h = call_longer c l h
way_longer (way.Among x i c) l h = (omega (arith, h.0, l), call_longer c l h.1)

over_longer : {m n : ℕ} (x : Option (Word × ℕ)) → m ≤ n → OverIn m x → OverIn n x
over_longer None l h = tt
over_longer (Some x) l h = omega (arith, h, l)

test_longer : {m n : ℕ} (x : Option ℕ) → m ≤ n → MaybeIn m x → MaybeIn n x
test_longer None l h = tt
test_longer (Some i) l h = omega (arith, h, l)

-- ---- what is told stays true
module _ {old new : List Tree} (k : Keeps old new) where
  pub over_kept : {x : Option (Word × ℕ)} {f : Option OverForm} → IsOver old x f → IsOver new x f
  over_kept {x} {f} h = record { below = over_longer x k.longer h.below; over = over_at-kept old new k x h.below ∙ h.over }

  pub guard_kept : {x : Option ℕ} {g : Option GuardForm} → IsGuard old x g → IsGuard new x g
  guard_kept {x} {g} h = record { below = test_longer x k.longer h.below; guard = maybe-kept old new k x h.below ∙ h.guard }

  pub way_kept : {w : Way} {f : WayForm} → IsWay old w f → IsWay new w f
  way_kept {w = way.One c} {f} h = record { below = call_longer c k.longer h.below; way = ap tree.one_way (call_at-kept old new k c h.below) ∙ h.way }
  way_kept {w = way.Among x i c} {f} h = record {
    below = way_longer (way.Among x i c) k.longer h.below;
    way = (λ j. tree.some_way x (k.same i h.below.0 j) (call_at-kept old new k c h.below.1 j)) ∙ h.way;
  }

  pub fair_kept : {x : Fairness} {f : FairForm} → IsFair old x f → IsFair new x f
  fair_kept {x} {f} h = record {
    below = record { over = over_longer x.over k.longer h.below.over; guard = test_longer x.guard k.longer h.below.guard; action = call_longer x.action k.longer h.below.action };
    fair = (λ i. record { over = over_at-kept old new k x.over h.below.over i; strong = x.strong; guard = maybe-kept old new k x.guard h.below.guard i; action = call_at-kept old new k x.action h.below.action i }) ∙ h.fair;
  }

  pub spec_kept : (x : SpecLine) (f : SpecForm) → IsSpec old x f → IsSpec new x f
  spec_kept line.Start (start_line p) h = tt
  spec_kept line.Steps (steps_line p q s t u) h = tt
  spec_kept (line.Fair x) (fair_line f) h = fair_kept h
  spec_kept x f h = absurd h

-- ---- forms over what is told
pub way_told : {old new : List Tree} {x : Word} {s : ℕ} {c : Call} {f : AmongForm} {u : CallForm} (p : Place) → Keeps old new → IsAmong old (x, s) f → IsCall new c u → IsWay new (way.Among x s c) (some_way p f u)
way_told p k a h = (let set = tree_kept k a.set in record { below = (set.below, h.below); way = λ i. tree.some_way (a.name i) (set.tree i) (h.call i) })

pub fair_told : {old new : List Tree} {x : Option (Word × ℕ)} {strong : Bool} {y : Option ℕ} {c : Call} {o : Option OverForm} {b : Place × Bool} {g : Option GuardForm} {u : CallForm} (p q : Place)
    → Keeps old new → IsOver old x o → b.1 ≡ strong → IsGuard old y g → IsCall new c u
    → IsFair new (record { over = x; strong = strong; guard = y; action = c }) (record { over = o; at = b.0; strong = b.1; left = p; guard = g; action = u; right = q })
fair_told p q k o s g h = (let over = over_kept k o in let guard = guard_kept k g in record {
  below = record { over = over.below; guard = guard.below; action = h.below };
  fair = λ i. record { over = over.over i; strong = sym s i; guard = guard.guard i; action = h.call i };
})
