-- What names of macros are where they are called, one after another.
use Rattle.std.proofs.Common.{◌≡◌, ℕ, ◌+◌, ◌<◌, ◌≤◌, Bool, ◌||◌, List, [], ◌∷◌, ◌++◌, length, take, get_or, map, sym, ap, ◌∙◌, append-nil, Option, Some, None}
use Rattle.std.specs.List.{list_any, flat_map}
use Rattle.std.proofs.lemmas.List.{map-append, take_more, take_all}
use Rattle.std.proofs.lemmas.List.Folds.{list_any-append}
use Rattle.std.proofs.lemmas.Grind.{flat_map-append}
use Rattle.std.proofs.Math.Bool.{or-false}
use Rattle.tla_tree.specs.Tree.{Word, Trees}
use Rattle.pcal_tree.specs.Algorithm.{Name}
use Rattle.pcal_tree.specs.Paths.{some_word}
use Rattle.pcal_tree.specs.laws.MacroSummaries as found
use Rattle.pcal_tree.specs.laws.MacroSummaries.{argument, resolved}
use Rattle.label_steps.specs.declared.put.Pair.{Pair}
use Rattle.label_steps.specs.PutIn.{pair_of, variable_put}

-- ---- variables, one after another

module _ (ps : List Name) (ts : Trees) (xs : List Word) (i : ℕ) (x : Word) (e : x ≡ get_or xs i x) (l : i < length xs) where
  one_more : flat_map (variable_put ps ts) (take (i + 1) xs) ≡ flat_map (variable_put ps ts) (take i xs) ++ variable_put ps ts x
  one_more =
      ap (flat_map (variable_put ps ts)) (take_more xs i x l ∙ ap (λ (z : Word). take i xs ++ z ∷ []) (sym e))
      ∙ flat_map-append (variable_put ps ts) (take i xs) (x ∷ []) ∙ ap (λ (ys : List Word). flat_map (variable_put ps ts) (take i xs) ++ ys) (append-nil (variable_put ps ts x))

  pub variables_more : (us vs : List Word) → vs ≡ us ++ variable_put ps ts x → us ≡ flat_map (variable_put ps ts) (take i xs) → vs ≡ flat_map (variable_put ps ts) (take (i + 1) xs)
  variables_more us vs k h = k ∙ ap (λ (ws : List Word). ws ++ variable_put ps ts x) h ∙ sym one_more

pub put_none : (ps : List Name) (ts : Trees) (x : Word) (us : List Word) → None ≡ resolved (argument ps ts) x → us ≡ us ++ variable_put ps ts x
put_none ps ts x us n = sym (append-nil us) ∙ ap (λ (o : Option Word). us ++ some_word o) n

pub put_some : (ps : List Name) (ts : Trees) (x y : Word) (us : List Word) → Some y ≡ resolved (argument ps ts) x → us ++ y ∷ [] ≡ us ++ variable_put ps ts x
put_some ps ts x y us s = ap (λ (o : Option Word). us ++ some_word o) s

pub variables_all : (ps : List Name) (ts : Trees) (us xs : List Word) (i : ℕ) → length xs ≤ i → us ≡ flat_map (variable_put ps ts) (take i xs) → us ≡ flat_map (variable_put ps ts) xs
variables_all ps ts us xs i l h = h ∙ ap (flat_map (variable_put ps ts)) (take_all i xs l)

-- ---- pairs, one after another

pub pair_more : (f : found.Pair → Bool) (qs : List Pair) (i : ℕ) (q : Pair) (b c : Bool) → q ≡ get_or qs i q → i < length qs → c ≡ f (pair_of q) → b ≡ list_any f (map pair_of (take i qs)) → (b || c) ≡ list_any f (map pair_of (take (i + 1) qs))
pair_more f qs i q b c e l k h =
    (λ j. h j || (k ∙ sym (or-false (f (pair_of q)))) j) ∙ sym (list_any-append f (map pair_of (take i qs)) (pair_of q ∷ []))
    ∙ ap (list_any f) (sym (map-append pair_of (take i qs) (q ∷ [])) ∙ ap (map pair_of) (ap (λ (z : Pair). take i qs ++ z ∷ []) e ∙ sym (take_more qs i q l)))

pub pairs_all : (f : found.Pair → Bool) (qs : List Pair) (i : ℕ) (b : Bool) → length qs ≤ i → b ≡ list_any f (map pair_of (take i qs)) → b ≡ list_any f (map pair_of qs)
pairs_all f qs i b l h = h ∙ ap (λ (rs : List Pair). list_any f (map pair_of rs)) (take_all i qs l)
