-- What is made in memory behind what was there, as the pool grows.
use Rattle.std.proofs.Common.{◌≡◌, ℕ, ◌+◌, ◌<◌, ◌≤◌, max, List, [], ◌∷◌, ◌++◌, length, map, take, get_or, Vec, Global, Option, Some, None, option_map, refl, sym, ap, ◌∙◌, append_assoc, arith}
use Rattle.std.proofs.lemmas.List.{map-append, map_push, take_more, take_all}
use Rattle.tla_tree.specs.Tree.{Tree}
use Rattle.tla_tree.specs.Pool.{at, Keeps}
use Rattle.std.specs.Prelude.{IfSome}
use Rattle.tla_tree.specs.Nesting.{greatest}
use Rattle.pcal_tree.specs.declared.algorithm.Assignment.{Assignment}
use Rattle.pcal_tree.specs.declared.algorithm.Declaration.{Declaration as Kept}
use Rattle.pcal_tree.specs.Algorithm.{no_assignments, assignment}
use Rattle.pcal_tree.specs.InMemory.{assignments_at, declaration_at, past_number, past_assignment, past_declaration}
use Rattle.pcal_tree.proofs.InMemoryGrown.{each_kept, assignments_at-kept, start_at-kept}
use Rattle.proc_stack.specs.Moves.{move_at, moves_at, past_move, past_moves}
use Rattle.proc_stack.specs.Made.{Adds, sides_at}
use Rattle.proc_stack.specs.Pieces.{joined}

-- what a member stands for stays as the pool grows
abbrev pub Grows : {A B : Type 0} → (A → ℕ) → (List Tree → A → B) → Type 0
Grows past f = (ts us : List Tree) → Keeps ts us → (a : _) → past a ≤ length ts → f us a ≡ f ts a

pub trees_grow : Grows past_number at
trees_grow ts us k e h = k.same e (omega (arith, h))

pub sides_grow : Grows past_assignment sides_at
sides_grow ts us k m h = λ j. assignment (k.same m.left (omega (arith, h)) j) (k.same m.right (omega (arith, h)) j)

pub moves_grow : Grows past_move move_at
moves_grow ts us k m h = assignments_at-kept ts us k m.items h

pub moves_at-kept : (ts us : List Tree) → Keeps ts us → (ms : List (Vec Assignment Global)) → past_moves ms ≤ length ts → moves_at us ms ≡ moves_at ts ms
moves_at-kept ts us k ms h = each_kept ts us k (move_at us) (move_at ts) past_move (moves_grow ts us k) ms h

append_none : {A : Type 0} (xs : List A) → xs ++ [] ≡ xs
append_none [] = refl
append_none (x ∷ xs) = ap (λ l. x ∷ l) (append_none xs)

greatest_both : (ms ns : List ℕ) → greatest (ms ++ ns) ≡ max (greatest ms) (greatest ns)
greatest_both [] ns = omega arith
greatest_both (m ∷ ms) ns = let e = greatest_both ms ns in omega (arith, e)

module _ {A B : Type 0} (past : A → ℕ) (f : List Tree → A → B) where
  pub adds_none : (ts : List Tree) (xs : List A) → Adds past f ts xs xs []
  adds_none ts xs = record { made = []; behind = sym (append_none xs); within = omega arith; stand = refl }

  pub adds_one : (ts : List Tree) (xs ys : List A) (a : A) (b : B) → ys ≡ xs ++ a ∷ [] → past a ≤ length ts → f ts a ≡ b → Adds past f ts xs ys (b ∷ [])
  adds_one ts xs ys a b behind within stand = record { made = a ∷ []; behind = behind; within = omega (arith, within); stand = ap (λ (c : B). c ∷ []) stand }

  pub adds_same : (ts : List Tree) (xs ys : List A) (these those : List B) → these ≡ those → Adds past f ts xs ys these → Adds past f ts xs ys those
  adds_same ts xs ys these those e h = record { made = h.made; behind = h.behind; within = h.within; stand = h.stand ∙ e }

  pub adds_then : Grows past f → (ts us : List Tree) → Keeps ts us → (xs ys zs : List A) (these those : List B) → Adds past f ts xs ys these → Adds past f us ys zs those → Adds past f us xs zs (these ++ those)
  adds_then grows ts us k xs ys zs these those g h = record {
    made = g.made ++ h.made;
    behind = h.behind ∙ ap (λ (l : List A). l ++ h.made) g.behind ∙ append_assoc xs g.made h.made;
    within = (
        let all = ap greatest (map-append past g.made h.made) ∙ greatest_both (map past g.made) (map past h.made) in
        omega (arith, all, g.within, h.within, k.longer)
        );
    stand =
        map-append (f us) g.made h.made
        ∙ (λ j. (each_kept ts us k (f us) (f ts) past (grows ts us k) g.made g.within ∙ g.stand) j ++ h.stand j);
  }

  pub adds_kept : Grows past f → (ts us : List Tree) → Keeps ts us → (xs ys : List A) (these : List B) → Adds past f ts xs ys these → Adds past f us xs ys these
  adds_kept grows ts us k xs ys these g = record {
    made = g.made;
    behind = g.behind;
    within = omega (arith, g.within, k.longer);
    stand = each_kept ts us k (f us) (f ts) past (grows ts us k) g.made g.within ∙ g.stand;
  }

  -- what is made of one member more of a list
  pub adds_next : {C : Type 0} (h : C → B) → Grows past f → (ts us : List Tree) → Keeps ts us → (xs ys zs : List A) (cs : List C) (i : ℕ) (c : C) (b : B) → c ≡ get_or cs i c → i < length cs → b ≡ h c
      → Adds past f ts xs ys (map h (take i cs)) → Adds past f us ys zs (b ∷ []) → Adds past f us xs zs (map h (take (i + 1) cs))
  adds_next {C} h grows ts us k xs ys zs cs i c b here less is before one =
      adds_same us xs zs (map h (take i cs) ++ b ∷ []) (map h (take (i + 1) cs))
      (ap (λ (d : B). map h (take i cs) ++ d ∷ []) is
      ∙ sym (map_push h (take i cs) c)
      ∙ ap (map h) (ap (λ (d : C). take i cs ++ d ∷ []) here ∙ sym (take_more cs i c less)))
      (adds_then grows ts us k xs ys zs (map h (take i cs)) (b ∷ []) before one)

  -- what is made of all
  pub adds_all : {C : Type 0} (h : C → B) (ts : List Tree) (xs ys : List A) (cs : List C) (i : ℕ) → length cs ≤ i → Adds past f ts xs ys (map h (take i cs)) → Adds past f ts xs ys (map h cs)
  adds_all h ts xs ys cs i less g = adds_same ts xs ys (map h (take i cs)) (map h cs) (ap (map h) (take_all i cs less)) g

  -- behind nothing
  pub made_within : (ts : List Tree) (xs ys : List A) (these : List B) → xs ≡ [] → Adds past f ts xs ys these → greatest (map past ys) ≤ length ts
  made_within ts xs ys these none g = (
      let all = ap (λ (l : List A). greatest (map past l)) (g.behind ∙ ap (λ (l : List A). l ++ g.made) none) in
      omega (arith, all, g.within)
      )

  pub made_stand : (ts : List Tree) (xs ys : List A) (these : List B) → xs ≡ [] → Adds past f ts xs ys these → map (f ts) ys ≡ these
  made_stand ts xs ys these none g = ap (map (f ts)) (g.behind ∙ ap (λ (l : List A). l ++ g.made) none) ∙ g.stand

-- ---- assignments

pub sides_joined : (ts : List Tree) (ms : List Assignment) → assignments_at ts ms ≡ joined (map (sides_at ts) ms) no_assignments
sides_joined ts [] = refl
sides_joined ts (m ∷ ms) = ap (sides_at ts m) (sides_joined ts ms)

-- ---- a number, or none

pub maybe_within : (ts us : List Tree) → Keeps ts us → (o : Option ℕ) → IfSome o (λ r. r < length ts) → IfSome o (λ r. r < length us)
maybe_within ts us k None h = tt
maybe_within ts us k (Some e) h = omega (arith, h, k.longer)

pub maybe_kept : (ts us : List Tree) → Keeps ts us → (o : Option ℕ) → IfSome o (λ r. r < length ts) → option_map (at us) o ≡ option_map (at ts) o
maybe_kept ts us k None h = refl
maybe_kept ts us k (Some e) h = ap Some (k.same e h)

pub declaration_kept : (ts us : List Tree) → Keeps ts us → (d : Kept) → past_declaration d ≤ length ts → declaration_at us d ≡ declaration_at ts d
declaration_kept ts us k d h = λ j. record { name = d.name; start = start_at-kept ts us k d.start h j }
