-- The states of a trace have a value for each variable, and for no other name.
use Rattle.std.proofs.Common.{◌≡◌, Bool, true, false, not, ◌&&◌, ◌||◌, cond, bytes_eq, List, [], ◌∷◌, ◌++◌, Some, refl, sym, ap, subst, ◌∙◌}
use Rattle.std.specs.Prelude.{is_some, ◌==◌}
use Rattle.std.specs.Cmp.Lexicographic.{pointwise, bytes_decides}
use Rattle.std.specs.List.{AllByRecursion, list_all}
use Rattle.std.proofs.lemmas.Bool.{and_parts}
use Rattle.std.proofs.lemmas.Slice.Eq.{bytes_eq-Decides}
use Rattle.tla_token.specs.Signs.{is_among}
use Rattle.tla_tree.specs.Tree.{Word}
use Rattle.tla_value.specs.States.{Entries, value_of}
use Rattle.step_runner.specs.Fronts.{Text}
use Rattle.step_runner.specs.Items.{names_of, is_new, are_new, SpellsValues}
use Rattle.step_runner.specs.Stretches.{Stretch}
use Rattle.step_runner.specs.Trace.{SpellStates, SpellsTrace}
use Rattle.step_moves.specs.StatesOf.{HasJust}

abbrev equal : Word → Word → Bool
equal = pointwise ◌==◌

told : (a b : Bool) → (a ≡ true → b ≡ true) → (b ≡ true → a ≡ true) → a ≡ b
told true b f g = sym (f refl)
told false true f g = g refl
told false false f g = refl

same_test : (x y : Word) → equal x y ≡ bytes_eq y x
same_test x y =
    told (equal x y) (bytes_eq y x) (λ e. (bytes_eq-Decides y x).1 (sym ((bytes_decides x y).0 e))) (λ e. (bytes_decides x y).1 (sym ((bytes_eq-Decides y x).0 e)))

-- a name has a value where it is one of the names
has_value : (es : Entries) (x : Word) → is_some (value_of es x) ≡ is_among (names_of es) x
has_value [] x = refl
has_value (e ∷ es) x = ap (λ (b : Bool). is_some (cond b (Some e.1) (value_of es x))) (same_test x e.0) ∙ by (bytes_eq e.0 x) (has_value es x)
  where
    by : (b : Bool) → is_some (value_of es x) ≡ is_among (names_of es) x → is_some (cond b (Some e.1) (value_of es x)) ≡ (b || is_among (names_of es) x)
    by true h = refl
    by false h = h

all_known : (known before xs : List Word) → are_new known before xs ≡ true → list_all (is_among known) xs ≡ true
all_known known before [] h = refl
all_known known before (x ∷ xs) h =
    let p = and_parts (is_new known before x) (are_new known (before ++ (x ∷ [])) xs) h in
    let q = and_parts (is_among known x) (not (is_among before x)) p.0 in
    λ i. q.0 i && all_known known (before ++ (x ∷ [])) xs p.1 i

among_holds : (p : Word → Bool) (xs : List Word) (x : Word) → list_all p xs ≡ true → is_among xs x ≡ true → p x ≡ true
among_holds p [] x h m = cc
among_holds p (y ∷ ys) x h m = (let k = and_parts (p y) (list_all p ys) h in by (bytes_eq y x) refl m k.0 (among_holds p ys x k.1))
  where
    by : (b : Bool) → bytes_eq y x ≡ b → (b || is_among ys x) ≡ true → p y ≡ true → (is_among ys x ≡ true → p x ≡ true) → p x ≡ true
    by true e k q f = subst (λ (z : Word). p z ≡ true) ((bytes_eq-Decides y x).0 e) q
    by false e k q f = f k

has_just : (b : Bool) (vars : List Word) (x : Text) (es : Entries) → SpellsValues b vars x es → HasJust vars es
has_just b vars x es h y =
    has_value es y
    ∙ told (is_among (names_of es) y) (is_among vars y) (among_holds (is_among vars) (names_of es) y (all_known vars [] (names_of es) h.3)) (among_holds (is_among (names_of es)) vars y h.4)

each_just : (vars : List Word) (ss : List Stretch) (trace : List Entries) → SpellStates vars ss trace → AllByRecursion (HasJust vars) trace
each_just vars [] [] h = tt
each_just vars (s ∷ ss) (es ∷ more) h = (has_just true vars s.text es h.0, each_just vars ss more h.1)
each_just vars [] (es ∷ more) h = absurd h
each_just vars (s ∷ ss) [] h = absurd h

pub all_just : (vars : List Word) (x : Text) (trace : List Entries) → SpellsTrace vars x trace → AllByRecursion (HasJust vars) trace
all_just vars x trace h = each_just vars _ trace h.2
