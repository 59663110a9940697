-- A text gives its names their values, or has a first offence.
use Rattle.std.proofs.Common.{◌≡◌, ◌⊎◌, inl, inr, ◌<◌, ◌≤◌, ◌+◌, ℕ, zero, suc, Bool, true, false, List, [], ◌∷◌, ◌++◌, length, drop, Option, Some, None, refl, sym, ap, subst, ◌∙◌, arith, codes, length-append}
use Rattle.std.specs.Prelude.{bytes_eq, option_and_then, option_map, if◌then◌else◌}
use Rattle.std.proofs.lemmas.List.{append_assoc, length-drop}
use Rattle.std.proofs.lemmas.Bool.{cases_lt, and_from}
use Rattle.tla_token.specs.Lexemes.{Kind, name, number, string, one, other}
use Rattle.tla_token.specs.Tokens.{blank, block, line, lexeme}
use Rattle.tla_token.specs.Offences.{Part, sound, stray, bad_string, open_string, open_block, part_bytes, parts_text}
use Rattle.tla_token.specs.Cut.{parts}
use Rattle.tla_token.proofs.Cutting.{cut_fits}
use Rattle.tla_tree.specs.Tree.{Word}
use Rattle.tla_value.specs.Value.{Value}
use Rattle.tla_value.specs.States.{Entries}
use Rattle.tla_value.specs.ValueSeen.{SpellsFrom}
use Rattle.tla_value.proofs.ValueOnce.{starts_before}
use Rattle.tla_value.proofs.ValueDecided.{Told, value_told}
use Rattle.step_runner.specs.Fronts.{Text, gap, next_at, token_at, name_in, name_at, end_if, past}
use Rattle.step_runner.specs.Items.{value_begins, named_at, item_begins, SpellsItem, SpellsItems, names_of, is_new, are_new, are_all, SpellsValues, NoNewItem, OffendsAt}
use Rattle.step_runner.proofs.Offended.{none_some, same_some}
use Rattle.step_runner.proofs.ItemsOnce.{Entry, item_once}

-- ---- one item

abbrev ItemAt : Bool → Text → ℕ → Type 0
ItemAt b x at = (to : ℕ) × (e : Entry) × SpellsItem b x at to e

item_told : (b : Bool) (x : Text) (at : ℕ) → Told (ItemAt b x at)
item_told b x at = by (item_begins b x at) refl
  where
    value : (w : Word) (from : ℕ) → item_begins b x at ≡ Some (w, from) → Told ((to : ℕ) × (v : Value) × SpellsFrom x from to v) → Told (ItemAt b x at)
    value w from e (inl v) = inl (v.0, (w, v.1), (from, e, v.2))
    value w from e (inr n) = inr (λ i.
        let p : Word × ℕ = (i.1.0, i.2.0) in
        let q : Word × ℕ = (w, from) in
        let F : ℕ → Type 0 = λ k. SpellsFrom x k i.0 i.1.1 in
        n (i.0, i.1.1, subst F (ap (λ (o : Word × ℕ). o.1) (same_some p q (sym i.2.1 ∙ e))) i.2.2))

    by : (o : Option (Word × ℕ)) → item_begins b x at ≡ o → Told (ItemAt b x at)
    by None e = inr (λ i. none_some (i.1.0, i.2.0) (sym e ∙ i.2.1))
    by (Some (w, from)) e = value w from e (value_told x from)

-- ---- places go on

gap_within : (ps : List Part) → gap ps ≤ length (parts_text ps)
gap_within [] = omega arith
gap_within (sound (blank b) ∷ ps) = omega (arith, gap_within ps)
gap_within (sound (line body) ∷ ps) = omega (arith, gap_within ps, length-append (part_bytes (sound (line body))) (parts_text ps))
gap_within (sound (block body) ∷ ps) = omega arith
gap_within (sound (lexeme k bytes) ∷ ps) = omega arith
gap_within (stray b ∷ ps) = omega arith
gap_within (bad_string raw ∷ ps) = omega arith
gap_within (open_string raw ∷ ps) = omega arith
gap_within (open_block body ∷ ps) = omega arith

pub next_within : (x : Text) (at : ℕ) → at ≤ length x → next_at x at ≤ length x
next_within x at l = omega (arith, l, gap_within (parts (drop at x)), ap length (cut_fits (drop at x)).0, length-drop at x)

next_after : (x : Text) (at : ℕ) → at ≤ next_at x at
next_after x at = omega arith

end_after : (b : Bool) (n at to : ℕ) → (if b then Some (at + n) else None) ≡ Some to → at ≤ to
end_after true n at to e = (let s = same_some (at + n) to e in omega (arith, s))
end_after false n at to e = absurd (none_some to e)

past_after : (w : Text) (x : Text) (at to : ℕ) → past w x at ≡ Some to → at ≤ to
past_after w x at to e = by (token_at x at) e
  where
    by : (o : Option (Kind × Text)) → option_and_then (end_if w at) o ≡ Some to → at ≤ to
    by None e = absurd (none_some to e)
    by (Some t) e = end_after (bytes_eq w t.1) (length w) at to e

name_after : (x : Text) (at : ℕ) (n : Word × ℕ) → name_at x at ≡ Some n → at ≤ n.1
name_after x at n e = by (token_at x at) e
  where
    by : (o : Option (Kind × Text)) → option_and_then (name_in at) o ≡ Some n → at ≤ n.1
    by None e = absurd (none_some n e)
    by (Some (name w, bytes)) e = (let p : Word × ℕ = (w, at + length bytes) in let s = ap (λ (o : Word × ℕ). o.1) (same_some p n e) in omega (arith, s))
    by (Some (number k, bytes)) e = absurd (none_some n e)
    by (Some (string w, bytes)) e = absurd (none_some n e)
    by (Some (one s, bytes)) e = absurd (none_some n e)
    by (Some (other w, bytes)) e = absurd (none_some n e)

value_after : (x : Text) (n v : Word × ℕ) → value_begins x n ≡ Some v → n.1 ≤ v.1
value_after x n v e = by (past (codes "=") x (next_at x n.1)) refl e
  where
    by : (o : Option ℕ) → past (codes "=") x (next_at x n.1) ≡ o → option_map (λ to. (n.0, next_at x to)) o ≡ Some v → n.1 ≤ v.1
    by None f e = absurd (none_some v e)
    by (Some to) f e =
        let p : Word × ℕ = (n.0, next_at x to) in
        let s = ap (λ (o : Word × ℕ). o.1) (same_some p v e) in
        omega (arith, s, past_after (codes "=") x (next_at x n.1) to f, next_after x n.1, next_after x to)

named_after : (x : Text) (at : ℕ) (v : Word × ℕ) → named_at x at ≡ Some v → at ≤ v.1
named_after x at v e = by (name_at x at) refl e
  where
    by : (o : Option (Word × ℕ)) → name_at x at ≡ o → option_and_then (value_begins x) o ≡ Some v → at ≤ v.1
    by None f e = absurd (none_some v e)
    by (Some n) f e = omega (arith, name_after x at n f, value_after x n v e)

begins_after : (b : Bool) (x : Text) (at : ℕ) (v : Word × ℕ) → item_begins b x at ≡ Some v → at ≤ v.1
begins_after false x at v e = named_after x at v e
begins_after true x at v e = by (past (codes "/\\") x at) refl e
  where
    by : (o : Option ℕ) → past (codes "/\\") x at ≡ o → option_and_then (λ to. named_at x (next_at x to)) o ≡ Some v → at ≤ v.1
    by None f e = absurd (none_some v e)
    by (Some to) f e = omega (arith, past_after (codes "/\\") x at to f, named_after x (next_at x to) v e, next_after x to)

goes_on : (b : Bool) (x : Text) (at to : ℕ) (e : Entry) → SpellsItem b x at to e → (at < to) × (to ≤ length x)
goes_on b x at to e s = (omega (arith, begins_after b x at (e.0, s.0) s.1, starts_before x s.0 to e.1 s.2), s.2.inside)

-- ---- all items

-- up to the end, or to where no item with a new name is
abbrev ItemsFrom : Bool → List Word → Text → List Word → ℕ → Type 0
ItemsFrom b known x before at =
    (es : Entries) × (end : ℕ) × SpellsItems b x at es end × (are_new known before (names_of es) ≡ true)
    × ((next_at x end ≡ length x) ⊎ NoNewItem b known (before ++ names_of es) x (next_at x end))

append_nil : (l : List Word) → l ++ [] ≡ l
append_nil [] = refl
append_nil (w ∷ l) = ap (λ (m : List Word). w ∷ m) (append_nil l)

-- with what is so behind the first item
one_item : (b : Bool) (known : List Word) (x : Text) (before : List Word) (at : ℕ) → at ≤ length x → ((after : List Word) (to : ℕ) → at < to → to ≤ length x → ItemsFrom b known x after to) → ItemsFrom b known x before at
one_item b known x before at l next = by (cases_lt (next_at x at) (length x))
  where
    more : (to : ℕ) (e : Entry) → SpellsItem b x (next_at x at) to e → is_new known before e.0 ≡ true → ItemsFrom b known x before at
    more to e s h =
        let on = goes_on b x (next_at x at) to e s in
        let r = next (before ++ (e.0 ∷ [])) to (omega (arith, on.0, next_after x at)) on.1 in
        let F : List Word → Type 0 = λ o. (next_at x r.1 ≡ length x) ⊎ NoNewItem b known o x (next_at x r.1) in
        (e ∷ r.0, r.1, (to, s, r.2), and_from (is_new known before e.0) (are_new known (before ++ (e.0 ∷ [])) (names_of r.0)) h r.3, subst F (append_assoc before (e.0 ∷ []) (names_of r.0)) r.4)

    new : (g : next_at x at < length x) (i : ItemAt b x (next_at x at)) (k : Bool) → is_new known before i.1.0 ≡ k → ItemsFrom b known x before at
    new g i true h = more i.0 i.1 i.2 h
    new g i false h =
        let G : List Word → Type 0 = λ o. NoNewItem b known o x (next_at x at) in
        let none : NoNewItem b known before x (next_at x at) = (g, λ to e s. ap (λ (o : Entry). is_new known before o.0) (item_once b x (next_at x at) to i.0 e i.1 s i.2).1 ∙ h) in
        ([], at, refl, refl, inr (subst G (sym (append_nil before)) none))

    item : next_at x at < length x → Told (ItemAt b x (next_at x at)) → ItemsFrom b known x before at
    item g (inr n) = ([], at, refl, refl, inr (g, λ to e s. absurd (n (to, e, s))))
    item g (inl i) = new g i (is_new known before i.1.0) refl

    by : (next_at x at < length x) ⊎ (length x ≤ next_at x at) → ItemsFrom b known x before at
    by (inl g) = item g (item_told b x (next_at x at))
    by (inr g) = ([], at, refl, refl, inl (omega (arith, g, next_within x at l)))

items_from : (fuel : ℕ) (b : Bool) (known : List Word) (x : Text) (before : List Word) (at : ℕ) → at ≤ length x → length x ≤ at + fuel → ItemsFrom b known x before at
items_from zero b known x before at l f = one_item b known x before at l (λ after to g h. absurd (omega (arith, f, g, h)))
items_from (suc fuel) b known x before at l f = one_item b known x before at l (λ after to g h. items_from fuel b known x after to h (omega (arith, f, g)))

pub values_told : (b : Bool) (known : List Word) (x : Text) → ((es : Entries) × SpellsValues b known x es) ⊎ ((at : ℕ) × OffendsAt b known x at)
values_told b known x = by (items_from (length x) b known x [] 0 (omega arith) (omega arith))
  where
    by : ItemsFrom b known x [] 0 → ((es : Entries) × SpellsValues b known x es) ⊎ ((at : ℕ) × OffendsAt b known x at)
    by (es, end, s, new, inl e) = whole (are_all known (names_of es)) refl
      where
        whole : (k : Bool) → are_all known (names_of es) ≡ k → ((es : Entries) × SpellsValues b known x es) ⊎ ((at : ℕ) × OffendsAt b known x at)
        whole true h = inl (es, (end, s, e, new, h))
        whole false h = inr (length x, (es, end, s, e, new, inr (refl, h)))
    by (es, end, s, new, inr n) = inr (next_at x end, (es, end, s, refl, new, inl n))
