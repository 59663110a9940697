-- What a file of constants spells is a canonical value for each constant that the module reads, and for no other name.
use Rattle.std.proofs.Common.{◌≡◌, ℕ, Bool, true, false, not, ◌&&◌, ◌||◌, cond, bytes_eq, codes, List, [], ◌∷◌, ◌++◌, Option, Some, None, refl, sym, ap, subst, ◌∙◌}
use Rattle.std.specs.Prelude.{is_some, ◌==◌}
use Rattle.std.specs.Bool.{IsTrue}
use Rattle.std.specs.Cmp.Lexicographic.{pointwise, bytes_decides}
use Rattle.std.specs.List.{list_all}
use Rattle.std.proofs.lemmas.Bool.{and_parts, or_parts}
use Rattle.std.proofs.lemmas.Slice.Eq.{bytes_eq-Decides}
use Rattle.tla_token.specs.Signs.{is_among}
use Rattle.tla_tree.specs.Tree.{Word, Each, words}
use Rattle.tla_value.specs.Value.{Value}
use Rattle.tla_value.specs.Order.{IsCanonical}
use Rattle.tla_value.specs.Outside.{Outside}
use Rattle.tla_value.specs.States.{Entries, value_of}
use Rattle.tla_value.specs.ValueSeen.{marks_of}
use Rattle.tla_value.proofs.ValueWithin.{spelled_is_canonical}
use Rattle.module_tree.specs.Module.{Module}
use Rattle.pcal_tree.specs.Calls.{defaultInitValue}
use Rattle.pcal_tree.proofs.SelfByMacro.{turned}
use Rattle.promise.specs.ConstantsAndStates.{AreConstants}
use Rattle.step_runner.specs.Config.{SpellsConfig, constants_of}
use Rattle.step_runner.specs.Fronts.{Text}
use Rattle.step_runner.specs.Items.{SpellsItems, names_of, is_new, are_new}

-- ---- entries

abbrev equal : Word → Word → Bool
equal = pointwise ◌==◌

told : (a b : Bool) → (a ≡ true → b ≡ true) → (b ≡ true → a ≡ true) → a ≡ b
told true b f g = sym (f refl)
told false true f g = g refl
told false false f g = refl

same_test : (x y : Word) → equal x y ≡ bytes_eq y x
same_test x y =
    told (equal x y) (bytes_eq y x) (λ e. (bytes_eq-Decides y x).1 (sym ((bytes_decides x y).0 e))) (λ e. (bytes_decides x y).1 (sym ((bytes_eq-Decides y x).0 e)))

has_value : (es : Entries) (x : Word) → is_some (value_of es x) ≡ is_among (names_of es) x
has_value [] x = refl
has_value (e ∷ es) x = ap (λ (b : Bool). is_some (cond b (Some e.1) (value_of es x))) (same_test x e.0) ∙ by (bytes_eq e.0 x) (has_value es x)
  where
    by : (b : Bool) → is_some (value_of es x) ≡ is_among (names_of es) x → is_some (cond b (Some e.1) (value_of es x)) ≡ (b || is_among (names_of es) x)
    by true h = refl
    by false h = h

abbrev AllCanonical : Entries → Type 0
AllCanonical [] = Unit {0}
AllCanonical (e ∷ es) = IsCanonical e.1 × AllCanonical es

value_canonical : (es : Entries) → AllCanonical es → (x : Word) (v : Value) → value_of es x ≡ Some v → IsCanonical v
value_canonical [] h x v e = cc
value_canonical (e ∷ es) h x v q = by (equal x e.0) q (value_canonical es h.1 x v)
  where
    same : {u w : Value} → Some u ≡ Some w → u ≡ w
    same p = cc

    by : (b : Bool) → cond b (Some e.1) (value_of es x) ≡ Some v → (value_of es x ≡ Some v → IsCanonical v) → IsCanonical v
    by true p f = subst IsCanonical (same p) h.0
    by false p f = f p

items_canonical : (b : Bool) (x : Text) (at : ℕ) (es : Entries) (end : ℕ) → SpellsItems b x at es end → AllCanonical es
items_canonical b x at [] end h = tt
items_canonical b x at (e ∷ es) end (to, (from, begun, spelled), more) = (spelled_is_canonical (marks_of spelled.pieces) e.1 spelled.spells, items_canonical b x to es end more)

-- ---- names

all_known : (known before xs : List Word) → are_new known before xs ≡ true → list_all (is_among known) xs ≡ true
all_known known before [] h = refl
all_known known before (x ∷ xs) h =
    let p = and_parts (is_new known before x) (are_new known (before ++ (x ∷ [])) xs) h in
    let q = and_parts (is_among known x) (not (is_among before x)) p.0 in
    λ i. q.0 i && all_known known (before ++ (x ∷ [])) xs p.1 i

among_holds : (p : Word → Bool) (xs : List Word) (x : Word) → list_all p xs ≡ true → is_among xs x ≡ true → p x ≡ true
among_holds p [] x h m = cc
among_holds p (y ∷ ys) x h m = (let k = and_parts (p y) (list_all p ys) h in by (bytes_eq y x) refl m k.0 (among_holds p ys x k.1))
  where
    by : (b : Bool) → bytes_eq y x ≡ b → (b || is_among ys x) ≡ true → p y ≡ true → (is_among ys x ≡ true → p x ≡ true) → p x ≡ true
    by true e k q f = subst (λ (z : Word). p z ≡ true) ((bytes_eq-Decides y x).0 e) q
    by false e k q f = f k

each_of : (Q : Word → Type 0) (p : Word → Bool) → ((x : Word) → p x ≡ true → Q x) → (xs : List Word) → list_all p xs ≡ true → Each Q xs
each_of Q p f [] h = tt
each_of Q p f (x ∷ xs) h = (let k = and_parts (p x) (list_all p xs) h in (f x k.0, each_of Q p f xs k.1))

-- ---- the constants of a run

module _ (o : Outside) (x : Text) (es : Entries) (h : SpellsConfig o x es) where
  abbrev unset : Word
  unset = codes "defaultInitValue"

  has : (y : Word) → is_among (names_of es) y ≡ true → IsTrue (is_some (constants_of es y))
  has y m = by (bytes_eq y unset) (has_value es y ∙ m)
    where
      by : (b : Bool) → is_some (value_of es y) ≡ true → is_some (cond b (Some defaultInitValue) (value_of es y)) ≡ true
      by true e = refl
      by false e = e

  none : (y : Word) → is_among (unset ∷ words o.constants) y ≡ false → constants_of es y ≡ None
  none y m =
      let k = or_parts (bytes_eq unset y) (is_among (words o.constants) y) m in
      λ i. cond ((turned y unset ∙ k.0) i) (Some defaultInitValue) (absent (value_of es y) refl k.1 i)
    where
      absent : (r : Option Value) → value_of es y ≡ r → is_among (words o.constants) y ≡ false → value_of es y ≡ None
      absent None e k = e
      absent (Some v) e k =
          let known = among_holds (is_among (words o.constants)) (names_of es) y (all_known (words o.constants) [] (names_of es) h.3) (sym (has_value es y) ∙ ap (λ (r : Option Value). is_some r) e) in
          let f : false ≡ true = sym k ∙ known in
          absurd cc

  canonical : (y : Word) (v : Value) → constants_of es y ≡ Some v → IsCanonical v
  canonical y v e = by (bytes_eq y unset) e
    where
      same : {u w : Value} → Some u ≡ Some w → u ≡ w
      same p = cc

      by : (b : Bool) → cond b (Some defaultInitValue) (value_of es y) ≡ Some v → IsCanonical v
      by true p = subst IsCanonical (same p) tt
      by false p = value_canonical es (items_canonical false x 0 es h.0 h.1) y v p

  pub are_constants : (m : Module) → words o.constants ≡ words m.outside.constants → AreConstants m (constants_of es)
  are_constants m e = record {
    unset = refl;
    given = subst (Each (λ y. IsTrue (is_some (constants_of es y)))) e (each_of (λ y. IsTrue (is_some (constants_of es y))) (is_among (names_of es)) has (words o.constants) h.4);
    no_other = λ y m. none y (subst (λ (xs : List Word). is_among (unset ∷ xs) y ≡ false) (sym e) m);
    canonical = canonical;
  }
