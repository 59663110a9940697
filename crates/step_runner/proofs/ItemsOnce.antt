-- A text gives its names one list of values, or has one first offence.
use Rattle.std.proofs.Common.{◌≡◌, ◌⊎◌, inl, inr, ℕ, Bool, true, false, true≢false, List, [], ◌∷◌, ◌++◌, length, drop, None, refl, sym, ap, subst, ◌∙◌, arith}
use Rattle.std.proofs.lemmas.List.{append_assoc, length-drop}
use Rattle.std.proofs.lemmas.Bool.{and_parts}
use Rattle.tla_token.specs.Cut.{parts}
use Rattle.tla_tree.specs.Tree.{Word}
use Rattle.tla_value.specs.Value.{Value}
use Rattle.tla_value.specs.States.{Entries}
use Rattle.tla_value.specs.ValueSeen.{SpellsFrom}
use Rattle.tla_value.proofs.ValueOnce.{value_once}
use Rattle.step_runner.specs.Fronts.{Text, next_at, token_at, first_token}
use Rattle.step_runner.specs.Items.{item_begins, SpellsItem, SpellsItems, names_of, is_new, are_new, are_all, SpellsValues, NoNewItem, OffendsAt}
use Rattle.step_runner.proofs.Offended.{none_some, same_some}

abbrev pub Entry : Type 0
Entry = Word × Value

-- ---- one item

pub item_once : (b : Bool) (x : Text) (at to end : ℕ) (e f : Entry) → SpellsItem b x at to e → SpellsItem b x at end f → (to ≡ end) × (e ≡ f)
item_once b x at to end e f s t =
    let p : Word × ℕ = (e.0, s.0) in
    let q : Word × ℕ = (f.0, t.0) in
    let same_front : p ≡ q = same_some p q (sym s.1 ∙ t.1) in
    let F : ℕ → Type 0 = λ k. SpellsFrom x k to e.1 in
    let once = value_once x t.0 to end e.1 f.1 (subst F (ap (λ (o : Word × ℕ). o.1) same_front) s.2) t.2 in
    (once.0, λ i. ((same_front i).0, once.1 i))

no_bytes : (x : List ℕ) → length x ≡ 0 → x ≡ []
no_bytes [] h = refl
no_bytes (y ∷ x) h = absurd (omega (arith, h))

-- there is no token at the end
no_token : (x : Text) → token_at x (length x) ≡ None
no_token x = ap (λ (u : List ℕ). first_token (parts u)) (no_bytes (drop (length x) x) (omega (arith, length-drop (length x) x)))

begins_none : (b : Bool) (x : Text) → item_begins b x (length x) ≡ None
begins_none true x = rw (no_token x) refl
begins_none false x = rw (no_token x) refl

none_at_end : (b : Bool) (x : Text) (at to : ℕ) (e : Entry) → at ≡ length x → SpellsItem b x at to e → ⊥
none_at_end b x at to e l s = none_some (e.0, s.0) (sym (begins_none b x) ∙ ap (item_begins b x) (sym l) ∙ s.1)

-- ---- two lists of items from one place on

-- the second goes on with an item after the first
abbrev Further : Bool → Text → Entries → ℕ → Entries → Type 0
Further b x es end fs = (e : Entry) × (rest : Entries) × (to : ℕ) × (fs ≡ es ++ (e ∷ rest)) × SpellsItem b x (next_at x end) to e

abbrev Compared : Bool → Text → Entries → ℕ → Entries → ℕ → Type 0
Compared b x es end fs stop = ((es ≡ fs) × (end ≡ stop)) ⊎ (Further b x es end fs ⊎ Further b x fs stop es)

further : (b : Bool) (x : Text) (e : Entry) (es : Entries) (end : ℕ) (fs : Entries) → Further b x es end fs → Further b x (e ∷ es) end (e ∷ fs)
further b x e es end fs f = (f.0, f.1, f.2, ap (λ (l : Entries). e ∷ l) f.3, f.4)

compared : (b : Bool) (x : Text) (e : Entry) (es : Entries) (end : ℕ) (fs : Entries) (stop : ℕ) → Compared b x es end fs stop → Compared b x (e ∷ es) end (e ∷ fs) stop
compared b x e es end fs stop (inl c) = inl (ap (λ (l : Entries). e ∷ l) c.0, c.1)
compared b x e es end fs stop (inr (inl f)) = inr (inl (further b x e es end fs f))
compared b x e es end fs stop (inr (inr f)) = inr (inr (further b x e fs stop es f))

compare : (b : Bool) (x : Text) (at : ℕ) (es : Entries) (end : ℕ) (fs : Entries) (stop : ℕ) → SpellsItems b x at es end → SpellsItems b x at fs stop → Compared b x es end fs stop
compare b x at [] end [] stop s t = inl (refl, sym s ∙ t)
compare b x at [] end (f ∷ fs) stop s t =
    let F : ℕ → Type 0 = λ k. SpellsItem b x (next_at x k) t.0 f in
    inr (inl (f, fs, t.0, refl, subst F s t.1))
compare b x at (e ∷ es) end [] stop s t =
    let F : ℕ → Type 0 = λ k. SpellsItem b x (next_at x k) s.0 e in
    inr (inr (e, es, s.0, refl, subst F t s.1))
compare b x at (e ∷ es) end (f ∷ fs) stop s t =
    let once = item_once b x (next_at x at) s.0 t.0 e f s.1 t.1 in
    let F : ℕ → Type 0 = λ k. SpellsItems b x k es end in
    let G : Entry → Type 0 = λ o. Compared b x (e ∷ es) end (o ∷ fs) stop in
    subst G once.1 (compared b x e es end fs stop (compare b x t.0 es end fs stop (subst F once.0 s.2) t.2))

-- ---- names that are new

new_after : (known before : List Word) (es : Entries) (e : Entry) (rest : Entries) → are_new known before (names_of (es ++ (e ∷ rest))) ≡ true → is_new known (before ++ names_of es) e.0 ≡ true
new_after known before [] e rest h = ap (λ (l : List Word). is_new known l e.0) (append_nil before) ∙ (and_parts (is_new known before e.0) (are_new known (before ++ (e.0 ∷ [])) (names_of rest)) h).0
  where
    append_nil : (l : List Word) → l ++ [] ≡ l
    append_nil [] = refl
    append_nil (w ∷ l) = ap (λ (m : List Word). w ∷ m) (append_nil l)
new_after known before (f ∷ es) e rest h =
    ap (λ (l : List Word). is_new known l e.0) (sym (append_assoc before (f.0 ∷ []) (names_of es)))
    ∙ new_after known (before ++ (f.0 ∷ [])) es e rest (and_parts (is_new known before f.0) (are_new known (before ++ (f.0 ∷ [])) (names_of (es ++ (e ∷ rest)))) h).1

new_next : (b : Bool) (known : List Word) (x : Text) (es : Entries) (end : ℕ) (fs : Entries) (f : Further b x es end fs) → are_new known [] (names_of fs) ≡ true → is_new known (names_of es) f.0.0 ≡ true
new_next b known x es end fs f h = new_after known [] es f.0 f.1 (ap (λ (l : Entries). are_new known [] (names_of l)) (sym f.3) ∙ h)

-- no offence is where an item with a new name goes on
abbrev Ends : Bool → List Word → Text → Entries → ℕ → Type 0
Ends b known x es at = NoNewItem b known (names_of es) x at ⊎ ((at ≡ length x) × (are_all known (names_of es) ≡ false))

no_offence : (b : Bool) (known : List Word) (x : Text) (es : Entries) (end : ℕ) (fs : Entries) (at : ℕ) → Further b x es end fs → are_new known [] (names_of fs) ≡ true → next_at x end ≡ at → Ends b known x es at → ⊥
no_offence b known x es end fs at f h e (inl n) =
    let F : ℕ → Type 0 = λ k. SpellsItem b x k f.2 f.0 in
    true≢false (sym (new_next b known x es end fs f h) ∙ n.1 f.2 f.0 (subst F e f.4))
no_offence b known x es end fs at f h e (inr m) =
    none_at_end b x (next_at x end) f.2 f.0 (e ∙ m.0) f.4

-- ---- whole texts

pub values_once : (b : Bool) (known : List Word) (x : Text) (es fs : Entries) → SpellsValues b known x es → SpellsValues b known x fs → es ≡ fs
values_once b known x es fs s t = by (compare b x 0 es s.0 fs t.0 s.1 t.1)
  where
    by : Compared b x es s.0 fs t.0 → es ≡ fs
    by (inl c) = c.0
    by (inr (inl f)) = absurd (none_at_end b x (next_at x s.0) f.2 f.0 s.2 f.4)
    by (inr (inr f)) = absurd (none_at_end b x (next_at x t.0) f.2 f.0 t.2 f.4)

pub values_or_offence : (b : Bool) (known : List Word) (x : Text) (es : Entries) (at : ℕ) → SpellsValues b known x es → OffendsAt b known x at → ⊥
values_or_offence b known x es at s o = by (compare b x 0 es s.0 o.0 o.1 s.1 o.2) o.5
  where
    by : Compared b x es s.0 o.0 o.1 → Ends b known x o.0 at → ⊥
    by (inl c) (inl n) = absurd (omega (arith, n.0, s.2, o.3, ap (next_at x) c.1))
    by (inl c) (inr m) = true≢false (sym s.4 ∙ ap (λ (l : Entries). are_all known (names_of l)) c.0 ∙ m.1)
    by (inr (inl f)) e = none_at_end b x (next_at x s.0) f.2 f.0 s.2 f.4
    by (inr (inr f)) e = no_offence b known x o.0 o.1 es at f s.3 o.3 e

pub offence_once : (b : Bool) (known : List Word) (x : Text) (at to : ℕ) → OffendsAt b known x at → OffendsAt b known x to → at ≡ to
offence_once b known x at to o p = by (compare b x 0 o.0 o.1 p.0 p.1 o.2 p.2)
  where
    by : Compared b x o.0 o.1 p.0 p.1 → at ≡ to
    by (inl c) = sym o.3 ∙ ap (next_at x) c.1 ∙ p.3
    by (inr (inl f)) = absurd (no_offence b known x o.0 o.1 p.0 at f p.4 o.3 o.5)
    by (inr (inr f)) = absurd (no_offence b known x p.0 p.1 o.0 to f o.4 p.3 p.5)
