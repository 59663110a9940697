-- The label that a value of `pc` names, as a walk over labels in memory finds it.
use Rattle.std.proofs.Common.{◌≡◌, ℕ, zero, suc, ◌+◌, ◌<◌, ◌≤◌, List, [], ◌∷◌, length, drop, get_or, map, Bool, true, false, cond, Option, Some, None, refl, sym, ap, ◌∙◌, arith}
use Rattle.std.specs.Prelude.{IfSome}
use Rattle.tla_tree.specs.Tree.{Tree}
use Rattle.tla_value.specs.Value.{Value}
use Rattle.tla_value.specs.Order.{same}
use Rattle.pcal_tree.specs.Algorithm.{Routine}
use Rattle.pcal_tree.specs.Calls.{label_value}
use Rattle.pcal_tree.specs.Program.{Program}
use Rattle.pcal_tree.specs.Step.{Stand}
use Rattle.step_spots.specs.declared.walk.Spot as code
use Rattle.step_spots.specs.InMemory.{spot_at}
use Rattle.step_spots.specs.Spots.{Spot}
use Rattle.written_runs.specs.Stands.{stand_of, stand_among}

more : (ts : List Tree) (all : List code.Spot) (i : ℕ) (s : code.Spot) → s ≡ get_or all i s → i < length all → drop i (map (spot_at ts) all) ≡ spot_at ts s ∷ drop (i + 1) (map (spot_at ts) all)
more ts [] i s is less = absurd (let no : ⊥ = omega (arith, less) in no)
more ts (x ∷ all) zero s is less = ap (λ (y : code.Spot). spot_at ts y ∷ map (spot_at ts) all) (sym is)
more ts (x ∷ all) (suc i) s is less =
    let up : suc (i + 1) ≡ suc i + 1 = omega arith in
    more ts all i s is (omega (arith, less)) ∙ ap (λ (k : ℕ). spot_at ts s ∷ drop k (map (spot_at ts) (x ∷ all))) up

none : (ts : List Tree) (all : List code.Spot) (i : ℕ) → length all ≤ i → drop i (map (spot_at ts) all) ≡ []
none ts [] zero h = refl
none ts [] (suc i) h = refl
none ts (x ∷ all) zero h = absurd (let no : ⊥ = omega (arith, h) in no)
none ts (x ∷ all) (suc i) h = none ts all i (omega (arith, h))

module _ (ts : List Tree) (P : Program) (w : Value) (v : Routine) (all : List code.Spot) where
  abbrev A : List Spot
  A = map (spot_at ts) all

  -- what is found from the number i on
  abbrev pub from : ℕ → Option Stand
  from i = stand_among P w v A (drop i A)

  next : (i : ℕ) (s : code.Spot) (x : Value) → s ≡ get_or all i s → i < length all → x ≡ label_value P v s.label.now.word → from i ≡ cond (same w x) (stand_of v A (spot_at ts s)) (from (i + 1))
  next i s x is less e = ap (stand_among P w v A) (more ts all i s is less) ∙ ap (λ (y : Value). cond (same w y) (stand_of v A (spot_at ts s)) (from (i + 1))) (sym e)

  pub found : (i : ℕ) (s : code.Spot) (x : Value) → s ≡ get_or all i s → i < length all → x ≡ label_value P v s.label.now.word → same w x ≡ true → from i ≡ stand_of v A (spot_at ts s)
  found i s x is less e h = next i s x is less e ∙ ap (λ (b : Bool). cond b (stand_of v A (spot_at ts s)) (from (i + 1))) h

  pub missed : (i : ℕ) (s : code.Spot) (x : Value) → s ≡ get_or all i s → i < length all → x ≡ label_value P v s.label.now.word → same w x ≡ false → from i ≡ from (i + 1)
  missed i s x is less e h = next i s x is less e ∙ ap (λ (b : Bool). cond b (stand_of v A (spot_at ts s)) (from (i + 1))) h

  pub ended : (i : ℕ) → length all ≤ i → from i ≡ None
  ended i h = ap (stand_among P w v A) (none ts all i h)

-- all three of an option
pub if_three : {X : Type 0} (A B C D : X → Type 0) (o : Option X) → IfSome o A → IfSome o B → IfSome o C → ((x : X) → A x → B x → C x → D x) → IfSome o D
if_three A B C D None h k l f = tt
if_three A B C D (Some x) h k l f = f x h k l
