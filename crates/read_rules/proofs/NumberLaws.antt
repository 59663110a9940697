-- Tables of the numbers of variables and of the levels of definitions, as one more is added.
use Rattle.std.proofs.Common.{◌≡◌, ℕ, zero, suc, ◌+◌, ◌<◌, Bool, true, false, List, [], ◌∷◌, ◌++◌, length, take, reverse, get_or, refl, sym, ap, ◌∙◌, arith, cond, bytes_eq}
use Rattle.std.proofs.lemmas.List.{take_more, map-append, reverse-append}
use Rattle.std.proofs.lemmas.Slice.Eq.{bytes_eq-Decides}
use Rattle.tla_tree.specs.Tree.{Word, Tree}
use Rattle.pcal_tree.specs.declared.algorithm.Declaration.{Declaration}
use Rattle.pcal_tree.specs.declared.algorithm.Definition.{Definition}
use Rattle.pcal_tree.specs.Algorithm as tree
use Rattle.pcal_tree.specs.InMemory.{definition_at, definitions_at, declarations_at}
use Rattle.pcal_tree.specs.Variables.{declared}
use Rattle.algorithm_limits.specs.Numbers.{Numbers, number_of, with_number}
use Rattle.algorithm_limits.proofs.Tables.{number_of_with}
use Rattle.read_rules.specs.Levels.{one_further, number_among, Levels}
use Rattle.read_rules.specs.NumbersIn.{declared_in, AreNumbers, AreLevels}

-- ---- the numbers of variables

-- the last one has a number of its own where it isn't among the others
abbrev kept_or : ℕ → ℕ → ℕ
kept_or zero n = n
kept_or (suc k) n = suc k

number_of_last : (ws : List Word) (x y : Word) → number_among (ws ++ x ∷ []) y ≡ kept_or (number_among ws y) (cond (bytes_eq x y) (length ws + 1) 0)
number_of_last [] x y = refl
number_of_last (w ∷ ws) x y = by (bytes_eq w y) (number_among ws y) (number_of_last ws x y)
  where
    one : (c : Bool) (k : ℕ) → one_further (cond c (k + 1) 0) ≡ cond c (suc k + 1) 0
    one true k = ap one_further (sym (next k)) ∙ last k
      where
        next : (k : ℕ) → suc k ≡ k + 1
        next k = omega arith

        last : (k : ℕ) → suc (suc k) ≡ suc k + 1
        last k = omega arith
    one false k = refl

    by : (b : Bool) (k : ℕ) → number_among (ws ++ x ∷ []) y ≡ kept_or k (cond (bytes_eq x y) (length ws + 1) 0)
        → cond b 1 (one_further (number_among (ws ++ x ∷ []) y)) ≡ kept_or (cond b 1 (one_further k)) (cond (bytes_eq x y) (suc (length ws) + 1) 0)
    by true k e = refl
    by false zero e = ap one_further e ∙ one (bytes_eq x y) (length ws)
    by false (suc k) e = ap one_further e

other_kept : (k : ℕ) → kept_or k 0 ≡ k
other_kept zero = refl
other_kept (suc k) = refl

pub numbers_more : (es : Numbers) (ws : List Word) (x : Word) (n : ℕ) → number_of es x ≡ 0 → n ≡ length ws + 1 → AreNumbers es ws → AreNumbers (with_number es x n) (ws ++ x ∷ [])
numbers_more es ws x n z e h y = number_of_with es x n y ∙ by (bytes_eq x y) refl ∙ sym (number_of_last ws x y)
  where
    by : (b : Bool) → bytes_eq x y ≡ b → cond b n (number_of es y) ≡ kept_or (number_among ws y) (cond b (length ws + 1) 0)
    by true s = e ∙ ap (λ (k : ℕ). kept_or k (length ws + 1)) (sym z ∙ ap (number_of es) ((bytes_eq-Decides x y).0 s) ∙ h y)
    by false s = h y ∙ sym (other_kept (number_among ws y))

pub numbers_same : (es : Numbers) (ws : List Word) (x : Word) → ((number_of es x ≡ 0) → ⊥) → AreNumbers es ws → AreNumbers es (ws ++ x ∷ [])
numbers_same es ws x z h y = by (bytes_eq x y) refl ∙ sym (number_of_last ws x y)
  where
    some : (k : ℕ) → ((k ≡ 0) → ⊥) → (n : ℕ) → k ≡ kept_or k n
    some zero f n = absurd (f refl)
    some (suc k) f n = refl

    by : (b : Bool) → bytes_eq x y ≡ b → number_of es y ≡ kept_or (number_among ws y) (cond b (length ws + 1) 0)
    by true s = h y ∙ some (number_among ws y) (λ e. z (ap (number_of es) ((bytes_eq-Decides x y).0 s) ∙ h y ∙ e)) (length ws + 1)
    by false s = h y ∙ sym (other_kept (number_among ws y))

pub declared_more : (ds : List Declaration) (i : ℕ) (d : Declaration) → d ≡ get_or ds i d → i < length ds → declared_in (take i ds) ++ d.name.word ∷ [] ≡ declared_in (take (i + 1) ds)
declared_more ds i d e l =
    sym (ap declared_in (take_more ds i d l) ∙ map-append (λ (d : Declaration). d.name.word) (take i ds) (get_or ds i d ∷ []) ∙ ap (λ (z : Declaration). declared_in (take i ds) ++ z.name.word ∷ []) (sym e))

-- ---- the levels of definitions

pub levels_more : (es : Numbers) (ls : Levels) (x : Word) (n : ℕ) → AreLevels es ls → AreLevels (with_number es x n) ((x, n) ∷ ls)
levels_more es ls x n h y = number_of_with es x n y ∙ ap (λ (k : ℕ). cond (bytes_eq x y) n k) (h y)

pub newest_first : (ts : List Tree) (ds : List Definition) (i : ℕ) (d : Definition) → d ≡ get_or ds i d → i < length ds
    → reverse (definitions_at ts (take (i + 1) ds)) ≡ definition_at ts d ∷ reverse (definitions_at ts (take i ds))
newest_first ts ds i d e l =
    ap (λ (es : List Definition). reverse (definitions_at ts es)) (take_more ds i d l ∙ ap (λ (z : Definition). take i ds ++ z ∷ []) (sym e))
    ∙ ap (λ (es : List tree.Definition). reverse es) (map-append (definition_at ts) (take i ds) (d ∷ []))
    ∙ reverse-append (definitions_at ts (take i ds)) (definition_at ts d ∷ [])

-- ---- declarations in memory

pub declared_is : (ts : List Tree) (ds : List Declaration) → declared (declarations_at ts ds) ≡ declared_in ds
declared_is ts [] = refl
declared_is ts (d ∷ ds) = ap (λ (ws : List Word). d.name.word ∷ ws) (declared_is ts ds)
