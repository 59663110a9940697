-- Lists that have items are as they were, and UNCHANGED stands where it has a name.
use Rattle.std.proofs.Common.{◌≡◌, ℕ, ◌==◌, ◌<◌, ◌≤◌, false, true≢false, List, [], ◌∷◌, length, refl, sym, ap, ◌∙◌, arith}
use Rattle.tla_token.specs.declared.place.Place.{Place}
use Rattle.tla_tree.specs.Tree.{Word, Tree}
use Rattle.module_tree.specs.Module.{unchanged, no_items, item}
use Rattle.module_write.specs.declared.«module».Item.{Item}
use Rattle.module_write.specs.InMemory.{items_at}
use Rattle.action_builder.specs.Written.{filled, unchanged_of}

-- a list that has items is filled
pub filled_same : (p : Place) (ts : List Tree) (is : List Item) (n : ℕ) → n ≡ length is → false ≡ (n == 0) → items_at ts is ≡ filled p (items_at ts is)
filled_same p ts [] n e h = absurd (true≢false (sym (h ∙ ap (λ (m : ℕ). m == 0) e)))
filled_same p ts (i ∷ is) n e h = refl

-- UNCHANGED for some names
pub unchanged_some : (xs : List Word) → 0 < length xs → unchanged_of xs ≡ item (unchanged xs) no_items
unchanged_some [] h = absurd (let no : ⊥ = omega (arith, h) in no)
unchanged_some (x ∷ xs) h = refl

pub unchanged_none : (xs : List Word) → length xs ≤ 0 → unchanged_of xs ≡ no_items
unchanged_none [] h = refl
unchanged_none (x ∷ xs) h = absurd (let no : ⊥ = omega (arith, h) in no)
