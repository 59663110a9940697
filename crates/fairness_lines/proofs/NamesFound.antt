-- Names among others, and their numbers.
use Rattle.std.proofs.Common.{◌≡◌, inl, inr, ◌⊎◌, ℕ, zero, suc, Bool, true, false, ◌||◌, bytes_eq, List, [], ◌∷◌, ◌++◌, map, get_or, Option, Some, None, refl, sym, ap, ◌∙◌, subst, true≢false}
use Rattle.std.specs.Prelude.{slice_get, position}
use Rattle.std.proofs.lemmas.Slice.Eq.{bytes_eq-Decides}
use Rattle.tla_token.specs.Signs.{is_among}
use Rattle.tla_tree.specs.Tree.{Word}
use Rattle.pcal_tree.specs.Processes.{OneOf}
use Rattle.pcal_tree.proofs.TroubleLaws.{one_left, one_right}
use Rattle.pcal_tree.proofs.RoutineNames.{one_either}
use Rattle.name_bits.proofs.NameLaws.{no_place}
use Rattle.fairness_lines.specs.Numbers.{listed, number_in, numbers_in}

pub same_names : (x y : Word) → bytes_eq x y ≡ true → x ≡ y
same_names x y h = (bytes_eq-Decides x y).0 h

pub same_itself : (x : Word) → bytes_eq x x ≡ true
same_itself x = (bytes_eq-Decides x x).1 refl

pub either_true : (a b : Bool) → (a || b) ≡ true → (a ≡ true) ⊎ (b ≡ true)
either_true true b h = inl refl
either_true false b h = inr h

pub or_first : (a b : Bool) → a ≡ true → (a || b) ≡ true
or_first true b h = refl
or_first false b h = absurd (true≢false (sym h))

pub or_second : (a b : Bool) → b ≡ true → (a || b) ≡ true
or_second true b h = refl
or_second false b h = h

pub only_some : {X : Type 0} (x y : X) → Some x ≡ Some y → x ≡ y
only_some x y h = cc

pub none_some : {X : Type 0} (x : X) → None ≡ Some x → ⊥
none_some x h = cc

pub there : (xs : List Word) (n : ℕ) (x : Word) → slice_get xs n ≡ Some x → is_among xs x ≡ true
there [] n x h = absurd (none_some x h)
there (y ∷ ys) zero x h = or_first _ _ (ap (bytes_eq y) (sym (only_some y x h)) ∙ same_itself y)
there (y ∷ ys) (suc n) x h = or_second _ _ (there ys n x h)

pub at_place : {X Y : Type 0} (g : X → Y) (xs : List X) (i : ℕ) (x : X) (d : Y) → slice_get xs i ≡ Some x → get_or (map g xs) i d ≡ g x
at_place g [] i x d h = absurd (none_some x h)
at_place g (y ∷ ys) zero x d h = ap g (only_some y x h)
at_place g (y ∷ ys) (suc i) x d h = at_place g ys i x d h

-- ---- names and their numbers

abbrev pub HasNumber : List Word → Word → ℕ → Type 0
HasNumber names x i = position (λ v. bytes_eq v x) names ≡ Some i

pub numbered_in : (names ws : List Word) (x : Word) (i : ℕ) → HasNumber names x i → is_among ws x ≡ true → OneOf i (numbers_in names ws)
numbered_in names [] x i e h = absurd (true≢false (sym h))
numbered_in names (w ∷ ws) x i e h = by (either_true (bytes_eq w x) (is_among ws x) h) (λ k. numbered_in names ws x i e k)
  where
    by : (bytes_eq w x ≡ true) ⊎ (is_among ws x ≡ true) → (is_among ws x ≡ true → OneOf i (numbers_in names ws)) → OneOf i (number_in names w ++ numbers_in names ws)
    by (inl q) ih =
        one_left i (number_in names w) (numbers_in names ws)
        (subst (λ (ns : List ℕ). OneOf i ns) (sym (ap (λ (y : Word). number_in names y) (same_names w x q) ∙ ap listed e)) (inl refl))
    by (inr q) ih = one_right i (number_in names w) (numbers_in names ws) (ih q)

of_number : (names : List Word) (w : Word) (i : ℕ) → OneOf i (number_in names w) → HasNumber names w i
of_number names w i h = by (position (λ v. bytes_eq v w) names) refl h
  where
    by : (o : Option ℕ) → position (λ v. bytes_eq v w) names ≡ o → OneOf i (listed o) → HasNumber names w i
    by None e h = absurd h
    by (Some j) e (inl q) = e ∙ ap Some (sym q)
    by (Some j) e (inr q) = absurd q

pub named_in : (names ws : List Word) (i : ℕ) → OneOf i (numbers_in names ws) → (x : Word) × (is_among ws x ≡ true) × HasNumber names x i
named_in names [] i h = absurd h
named_in names (w ∷ ws) i h = by (one_either i (number_in names w) (numbers_in names ws) h) (named_in names ws i)
  where
    later : (x : Word) × (is_among ws x ≡ true) × HasNumber names x i → (x : Word) × (is_among (w ∷ ws) x ≡ true) × HasNumber names x i
    later t = (t.0, or_second _ _ t.1, t.2)

    by : OneOf i (number_in names w) ⊎ OneOf i (numbers_in names ws) → (OneOf i (numbers_in names ws) → (x : Word) × (is_among ws x ≡ true) × HasNumber names x i)
        → (x : Word) × (is_among (w ∷ ws) x ≡ true) × HasNumber names x i
    by (inl q) ih = (w, or_first _ _ (same_itself w), of_number names w i q)
    by (inr q) ih = later (ih q)

pub number_of : (names : List Word) (x : Word) → is_among names x ≡ true → (i : ℕ) × HasNumber names x i
number_of names x h = by (position (λ v. bytes_eq v x) names) refl
  where
    by : (o : Option ℕ) → position (λ v. bytes_eq v x) names ≡ o → (i : ℕ) × HasNumber names x i
    by None e = absurd (true≢false (sym h ∙ no_place x names e))
    by (Some i) e = (i, e)
