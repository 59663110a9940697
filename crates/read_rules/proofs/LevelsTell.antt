-- The level of a definition tells which variables it reads.
use Rattle.std.proofs.Common.{◌≡◌, ℕ, nat_lt, Bool, true, false, ◌&&◌, ◌||◌, not, List, [], ◌∷◌, take, filter, cond, bytes_eq, refl, sym, ap, ◌∙◌, arith, le-ltb}
use Rattle.std.specs.List.{list_any}
use Rattle.tla_token.specs.Signs.{is_among}
use Rattle.tla_tree.specs.Tree.{Word, words}
use Rattle.pcal_tree.specs.Algorithm.{Name, Definition}
use Rattle.pcal_tree.specs.Reads.{Reading, used, through, looked_at, among_looked_at, readings}
use Rattle.pcal_tree.proofs.SetLaws.{any_same}
use Rattle.read_rules.specs.Levels.{number_among, Levels, level_of, reach_of, furthest, levels}
use Rattle.read_rules.proofs.NumbersOfVariables.{past_number, past_either, any_filter, any_and, any_turned, found_in_both, any_inside}

module _ (gs : List Word) (i : ℕ) where
  abbrev Past : Word → Bool
  Past y = nat_lt i (number_among gs y)

  -- what has a number is among them
  past_among : (y : Word) → (is_among gs y && Past y) ≡ Past y
  past_among y = ap (λ (b : Bool). is_among gs y && b) (sym (past_number gs i y)) ∙ again (is_among gs y) (not (is_among (take i gs) y)) ∙ past_number gs i y
    where
      again : (a b : Bool) → (a && (a && b)) ≡ (a && b)
      again true b = refl
      again false b = refl

  abbrev Told : List Reading → Levels → Type 0
  Told ds ls = (x : Word) → list_any Past (through ds x) ≡ nat_lt i (level_of ls x)

  reach_told : (ds : List Reading) (ls : Levels) → Told ds ls → (n : Name) → list_any Past (looked_at ds n) ≡ nat_lt i (reach_of gs ls n.word)
  reach_told ds ls t n = ap (λ (b : Bool). Past n.word || b) (t n.word) ∙ sym (past_either i (number_among gs n.word) (level_of ls n.word))

  furthest_told : (ds : List Reading) (ls : Levels) → Told ds ls → (ns : List Name) → list_any (λ n. list_any Past (looked_at ds n)) ns ≡ nat_lt i (furthest gs ls ns)
  furthest_told ds ls t [] = sym (le-ltb i 0 (omega arith))
  furthest_told ds ls t (n ∷ ns) = (λ k. reach_told ds ls t n k || furthest_told ds ls t ns k) ∙ sym (past_either i (reach_of gs ls n.word) (furthest gs ls ns))

  -- those that are kept of all variables
  kept_told : (ds : List Reading) (ls : Levels) → Told ds ls → (ns : List Name) → list_any Past (filter (among_looked_at ds ns) gs) ≡ nat_lt i (furthest gs ls ns)
  kept_told ds ls t ns =
      any_filter Past (among_looked_at ds ns) gs
      ∙ any_same (λ y. among_looked_at ds ns y && Past y) (λ y. list_any (λ n. is_among (looked_at ds n) y && Past y) ns) (λ y. any_and (λ n. is_among (looked_at ds n) y) (Past y) ns) gs
      ∙ any_turned (λ y n. is_among (looked_at ds n) y && Past y) gs ns
      ∙ any_same (λ n. list_any (λ y. is_among (looked_at ds n) y && Past y) gs) (λ n. list_any Past (looked_at ds n)) (λ n. found_in_both Past gs (looked_at ds n) ∙ any_same (λ z. is_among gs z && Past z) Past past_among (looked_at ds n)) ns
      ∙ furthest_told ds ls t ns

  pub level_told : (ds : List Definition) → Told (readings gs ds) (levels gs ds)
  level_told [] x = sym (le-ltb i 0 (omega arith))
  level_told (d ∷ older) x = by (bytes_eq d.name.word x) (kept_told (readings gs older) (levels gs older) (level_told older) (used d.body (words d.params))) (level_told older x)
    where
      own : List Word
      own = filter (among_looked_at (readings gs older) (used d.body (words d.params))) gs

      far : ℕ
      far = furthest gs (levels gs older) (used d.body (words d.params))

      by : (b : Bool) → list_any Past own ≡ nat_lt i far → list_any Past (through (readings gs older) x) ≡ nat_lt i (level_of (levels gs older) x)
          → list_any Past (cond b own (through (readings gs older) x)) ≡ nat_lt i (cond b far (level_of (levels gs older) x))
      by true h k = h
      by false h k = k

  pub looked_told : (ds : List Definition) (n : Name) → list_any Past (looked_at (readings gs ds) n) ≡ nat_lt i (reach_of gs (levels gs ds) n.word)
  looked_told ds n = reach_told (readings gs ds) (levels gs ds) (level_told ds) n

-- what a definition reads is among the variables
pub read_inside : (f g : Word → Bool) (gs : List Word) (ds : List Definition) (x : Word) → ((y : Word) → is_among gs y ≡ true → f y ≡ g y) → list_any f (through (readings gs ds) x) ≡ list_any g (through (readings gs ds) x)
read_inside f g gs [] x h = refl
read_inside f g gs (d ∷ older) x h = by (bytes_eq d.name.word x) (read_inside f g gs older x h)
  where
    p : Word → Bool
    p = among_looked_at (readings gs older) (used d.body (words d.params))

    by : (b : Bool) → list_any f (through (readings gs older) x) ≡ list_any g (through (readings gs older) x)
        → list_any f (cond b (filter p gs) (through (readings gs older) x)) ≡ list_any g (cond b (filter p gs) (through (readings gs older) x))
    by true e = any_filter f p gs ∙ any_inside_kept ∙ sym (any_filter g p gs)
      where
        any_inside_kept : list_any (λ y. p y && f y) gs ≡ list_any (λ y. p y && g y) gs
        any_inside_kept = any_inside (λ y. p y && f y) (λ y. p y && g y) gs (λ y e. ap (λ (b : Bool). p y && b) (h y e))
    by false e = e
