-- What is known as variables are declared one after another, and the first offence of their initial values.
use Rattle.std.proofs.Common.{◌≡◌, ℕ, suc, ◌+◌, ◌<◌, ◌≤◌, Bool, true, false, ◌||◌, List, [], ◌∷◌, ◌++◌, length, take, drop, get_or, Option, refl, sym, ap, ◌∙◌, subst, arith, bytes_eq}
use Rattle.std.proofs.lemmas.List.{drop_more, drop_all, take_all}
use Rattle.std.proofs.lemmas.List.Folds.{list_any-append}
use Rattle.tla_token.specs.declared.rule.Refusal.{Refusal}
use Rattle.tla_token.specs.Signs.{is_among}
use Rattle.tla_tree.specs.Tree.{Word, Tree}
use Rattle.pcal_tree.specs.declared.algorithm.Declaration.{Declaration}
use Rattle.pcal_tree.specs.InMemory.{start_at, declarations_at}
use Rattle.pcal_tree.specs.Offences.{first}
use Rattle.algorithm_limits.specs.DepthsIn.{Hides}
use Rattle.algorithm_limits.proofs.BoundLemmas.{hides_none, hides_then, hides_as}
use Rattle.algorithm_answer.specs.Joined.{joined}
use Rattle.algorithm_answer.proofs.Joins.{joined_assoc, joined_none, first_append}
use Rattle.read_rules.specs.Levels.{Levels}
use Rattle.read_rules.specs.EarlyReads.{early_in_start, early_in}
use Rattle.module_outside.specs.SightIn.{Binds}
use Rattle.module_outside.proofs.SightLaws.{binds_more}
use Rattle.read_rules.specs.declared.order.Known.{Known}
use Rattle.read_rules.specs.NumbersIn.{declared_in, AreLevels}
use Rattle.read_rules.specs.Order.{Knows, behind}
use Rattle.read_rules.proofs.NumberLaws.{declared_more}

-- ---- words that are declared one after another

pub behind_last : (xs : List Word) (x : Word) (before : List Word) → behind (xs ++ x ∷ []) before ≡ x ∷ behind xs before
behind_last [] x before = refl
behind_last (w ∷ xs) x before = behind_last xs x (w ∷ before)

pub behind_among : (xs before : List Word) (y : Word) → is_among (behind xs before) y ≡ is_among (xs ++ before) y
behind_among [] before y = refl
behind_among (x ∷ xs) before y =
    behind_among xs (x ∷ before) y ∙ list_any-append (λ v. bytes_eq v y) xs (x ∷ before) ∙ moved (is_among xs y) (bytes_eq x y) (is_among before y)
    ∙ ap (λ (b : Bool). bytes_eq x y || b) (sym (list_any-append (λ v. bytes_eq v y) xs before))
  where
    moved : (a b c : Bool) → (a || (b || c)) ≡ (b || (a || c))
    moved true true c = refl
    moved true false c = refl
    moved false b c = refl

pub knows_behind : (old now : Known) (xs all before : List Word) (ls : Levels) → now.all ≡ old.all → now.levels ≡ old.levels → Hides old.before now.before xs → Knows old all ls before → Knows now all ls (behind xs before)
knows_behind old now xs all before ls a l h k = record {
  all = subst (λ (hs : List Word). Binds hs all) (sym a) k.all;
  levels = subst (λ es. AreLevels es ls) (sym l) k.levels;
  before = λ y. binds_more old.before now.before xs before k.before h y ∙ sym (behind_among xs before y);
}

-- ---- in the loop

pub record MetEarly (old now : Known) (start found : Option Refusal) (ts : List Tree) (ds : List Declaration) (i : ℕ) : Type 0 where
  pub all : now.all ≡ old.all
  pub levels : now.levels ≡ old.levels
  pub hides : Hides old.before now.before (declared_in (take i ds))
  pub finds : (all : List Word) (ls : Levels) (before : List Word) → Knows old all ls before
      → joined found (first (early_in all ls (behind (declared_in (take i ds)) before) i (declarations_at ts (drop i ds)))) ≡ joined start (first (early_in all ls before 0 (declarations_at ts ds)))

pub early_start : (k : Known) (start : Option Refusal) (ts : List Tree) (ds : List Declaration) → MetEarly k k start start ts ds 0
early_start k start ts ds = record { all = refl; levels = refl; hides = hides_none k.before; finds = λ all ls before h. refl }

pub early_more : (old now next : Known) (start found then : Option Refusal) (ts : List Tree) (ds : List Declaration) (i : ℕ) (d : Declaration) → d ≡ get_or ds i d → i < length ds
    → ((all : List Word) (ls : Levels) (before : List Word) → Knows now all ls before → then ≡ joined found (first (early_in_start all ls before i (start_at ts d.start))))
    → next.all ≡ now.all → next.levels ≡ now.levels → Hides now.before next.before (d.name.word ∷ []) → MetEarly old now start found ts ds i → MetEarly old next start then ts ds (i + 1)
early_more old now next start found then ts ds i d e l t a v h m = record {
  all = a ∙ m.all;
  levels = v ∙ m.levels;
  hides = hides_as old.before next.before _ _ (declared_more ds i d e l) (hides_then old.before now.before next.before (declared_in (take i ds)) (d.name.word ∷ []) m.hides h);
  finds = λ all ls before k.
      let words = declared_in (take i ds) in
      let here = early_in_start all ls (behind words before) i (start_at ts d.start) in
      let more = early_in all ls (d.name.word ∷ behind words before) (suc i) (declarations_at ts (drop (i + 1) ds)) in
      (λ j. joined (t all ls (behind words before) (knows_behind old now words all before ls m.all m.levels m.hides k) j)
      (first (early_in all ls ((ap (λ (ws : List Word). behind ws before) (sym (declared_more ds i d e l)) ∙ behind_last words d.name.word before) j) (sym (next_one i) j) (declarations_at ts (drop (i + 1) ds)))))
      ∙ joined_assoc found (first here) (first more)
      ∙ ap (joined found) (sym (first_append here more))
      ∙ ap (λ (es : List Declaration). joined found (first (early_in all ls (behind words before) i (declarations_at ts es)))) (ap (λ (z : Declaration). z ∷ drop (i + 1) ds) e ∙ sym (drop_more ds i d l))
      ∙ m.finds all ls before k;
}
  where
    next_one : (i : ℕ) → suc i ≡ i + 1
    next_one i = omega arith

pub early_all : (old now : Known) (start found : Option Refusal) (ts : List Tree) (ds : List Declaration) (i : ℕ) → length ds ≤ i → MetEarly old now start found ts ds i
    → (all : List Word) (ls : Levels) (before : List Word) → Knows old all ls before → found ≡ joined start (first (early_in all ls before 0 (declarations_at ts ds)))
early_all old now start found ts ds i l m all ls before k =
    sym (joined_none found) ∙ ap (λ (es : List Declaration). joined found (first (early_in all ls (behind (declared_in (take i ds)) before) i (declarations_at ts es)))) (sym (drop_all i ds l)) ∙ m.finds all ls before k

pub early_hides : (old now : Known) (start found : Option Refusal) (ts : List Tree) (ds : List Declaration) (i : ℕ) → length ds ≤ i → MetEarly old now start found ts ds i → Hides old.before now.before (declared_in ds)
early_hides old now start found ts ds i l m = hides_as old.before now.before _ _ (ap declared_in (take_all i ds l)) m.hides
