-- Items one after the other: what is read, and where nothing more is.
use Rattle.std.proofs.Common.{◌≡◌, inl, inr, ℕ, ◌<◌, ◌≤◌, Bool, true, false, not, ◌&&◌, ◌||◌, cond, List, [], ◌∷◌, ◌++◌, length, codes, Option, Some, None, Err, refl, sym, ap, subst, ◌∙◌, arith, append-nil, append_assoc, bytes_eq}
use Rattle.std.specs.Prelude.{option_map, option_and_then, is_some, if◌then◌else◌}
use Rattle.std.specs.List.{list_any}
use Rattle.std.proofs.lemmas.Bool.{and_parts, and_from}
use Rattle.std.proofs.lemmas.List.{map-append}
use Rattle.tla_token.specs.Signs.{is_among}
use Rattle.tla_tree.specs.Tree.{Word}
use Rattle.tla_value.specs.Value.{Value}
use Rattle.tla_value.specs.States.{Entries, value_of, updated}
use Rattle.tla_value.specs.ValueSeen.{SpellsFrom}
use Rattle.tla_value.proofs.ValueOnce.{starts_before}
use Rattle.algorithm_limits.specs.DepthsIn.{Hides}
use Rattle.algorithm_limits.proofs.Tables.{equal, same_test}
use Rattle.step_runner.specs.Fronts.{Text, next_at, name_at, past}
use Rattle.step_runner.specs.Items.{value_begins, named_at, item_begins, SpellsItem, SpellsItems, names_of, is_new, are_new, are_all, SpellsValues, NoNewItem, OffendsAt}
use Rattle.step_runner.proofs.Offended.{same_some}
use Rattle.run_files.specs.declared.items.Halt.{Halt}
use Rattle.run_files.specs.declared.items.Halt.TheVariants as halt
use Rattle.run_files.specs.SoFar.{behind, SoFar, ItemAnswer, ItemsAnswer}

-- ---- the front of an item

pub no_equals : (x : Text) (at begin : ℕ) → begin ≡ next_at x at → None ≡ past (codes "=") x begin → None ≡ behind x at
no_equals x at begin b e = ap (option_map (next_at x)) (e ∙ ap (past (codes "=") x) b)

pub behind_equals : (x : Text) (at begin to v : ℕ) → begin ≡ next_at x at → Some to ≡ past (codes "=") x begin → v ≡ next_at x to → Some v ≡ behind x at
behind_equals x at begin to v b e f = ap (λ (k : ℕ). Some k) f ∙ ap (option_map (next_at x)) (e ∙ ap (past (codes "=") x) b)

pub no_name : (x : Text) (at : ℕ) → None ≡ name_at x at → None ≡ named_at x at
no_name x at e = ap (option_and_then (value_begins x)) e

pub no_bullet : (b : Bool) (x : Text) (at : ℕ) → b ≡ true → None ≡ past (codes "/\\") x at → None ≡ item_begins b x at
no_bullet true x at h e = ap (option_and_then (λ to. named_at x (next_at x to))) e
no_bullet false x at h e = absurd cc

pub behind_bullet : (b : Bool) (x : Text) (at to next : ℕ) (o : Option (Word × ℕ)) → b ≡ true → Some to ≡ past (codes "/\\") x at → next ≡ next_at x to → o ≡ named_at x next → o ≡ item_begins b x at
behind_bullet true x at to next o h e n f = f ∙ ap (named_at x) n ∙ ap (option_and_then (λ to. named_at x (next_at x to))) e
behind_bullet false x at to next o h e n f = absurd cc

pub without_bullet : (b : Bool) (x : Text) (at : ℕ) (o : Option (Word × ℕ)) → b ≡ false → o ≡ named_at x at → o ≡ item_begins b x at
without_bullet true x at o h f = absurd cc
without_bullet false x at o h f = f

-- ---- names that have a value

has_value : (es : Entries) (x : Word) → is_some (value_of es x) ≡ is_among (names_of es) x
has_value [] x = refl
has_value (e ∷ es) x = by (equal x e.0) refl (has_value es x)
  where
    by : (b : Bool) → equal x e.0 ≡ b → is_some (value_of es x) ≡ is_among (names_of es) x → is_some (cond (equal x e.0) (Some e.1) (value_of es x)) ≡ (bytes_eq e.0 x || is_among (names_of es) x)
    by true h rest = ap (λ (b : Bool). is_some (cond b (Some e.1) (value_of es x))) h ∙ sym (ap (λ (b : Bool). b || is_among (names_of es) x) (sym (same_test x e.0) ∙ h))
    by false h rest = ap (λ (b : Bool). is_some (cond b (Some e.1) (value_of es x))) h ∙ rest ∙ sym (ap (λ (b : Bool). b || is_among (names_of es) x) (sym (same_test x e.0) ∙ h))

pub has_one : (es : Entries) (x : Word) (v : Value) → Some v ≡ value_of es x → true ≡ is_among (names_of es) x
has_one es x v e = ap (λ (o : Option Value). is_some o) e ∙ has_value es x

pub has_none : (es : Entries) (x : Word) → None ≡ value_of es x → false ≡ is_among (names_of es) x
has_none es x e = ap (λ (o : Option Value). is_some o) e ∙ has_value es x

or_none : (a b : Bool) → (a || b) ≡ false → (a ≡ false) × (b ≡ false)
or_none true b h = absurd cc
or_none false b h = (refl, h)

-- a name without a value goes last
pub goes_last : (es : Entries) (x : Word) (v : Value) → is_among (names_of es) x ≡ false → updated es x v ≡ es ++ (x, v) ∷ []
goes_last [] x v h = refl
goes_last (e ∷ es) x v h =
    let o = or_none (bytes_eq e.0 x) (is_among (names_of es) x) h in
    ap (λ (b : Bool). if b then (e.0, v) ∷ es else e ∷ updated es x v) (same_test x e.0 ∙ o.0) ∙ ap (λ (l : Entries). e ∷ l) (goes_last es x v o.1)

among_is : (known : List Word) (x : Word) → list_any (equal x) known ≡ is_among known x
among_is [] x = refl
among_is (w ∷ ws) x = λ i. same_test x w i || among_is ws x i

pub new_unknown : (known before : List Word) (x : Word) → list_any (equal x) known ≡ false → false ≡ is_new known before x
new_unknown known before x h = λ i. sym (sym (among_is known x) ∙ h) i && not (is_among before x)

pub new_known : (known before : List Word) (x : Word) (b : Bool) → list_any (equal x) known ≡ true → b ≡ is_among before x → not b ≡ is_new known before x
new_known known before x b h k = λ i. sym (sym (among_is known x) ∙ h) i && not (k i)

not_among : (known before : List Word) (x : Word) → is_new known before x ≡ true → is_among before x ≡ false
not_among known before x h = by (is_among before x) (and_parts (is_among known x) (not (is_among before x)) h).1
  where
    by : (b : Bool) → not b ≡ true → b ≡ false
    by true k = absurd cc
    by false k = refl

-- ---- where no item is

no_value : (b : Bool) (known before : List Word) (x : Text) (at : ℕ) (w : Word) (p : ℕ) → at < length x → item_begins b x at ≡ Some (w, p) → ((to : ℕ) (v : Value) → SpellsFrom x p to v → ⊥) → NoNewItem b known before x at
no_value b known before x at w p l e n = (l, λ to it i. absurd (by to it i))
  where
    by : (to : ℕ) (it : Word × Value) → SpellsItem b x at to it → ⊥
    by to it i =
        let same : (it.0, i.0) ≡ (w, p) = same_some (it.0, i.0) (w, p) (sym i.1 ∙ e) in
        let F : ℕ → Type 0 = λ k. SpellsFrom x k to it.1 in
        n to it.1 (subst F (ap (λ (q : Word × ℕ). q.1) same) i.2)

pub refused_value : (b : Bool) (known before : List Word) (x : Text) (at : ℕ) (w : Word) (p : ℕ) → at < length x → Some (w, p) ≡ item_begins b x at → ((to : ℕ) (v : Value) → SpellsFrom x p to v → ⊥) → (at ≡ at) × NoNewItem b known before x at
refused_value b known before x at w p l e n = (refl, no_value b known before x at w p l (sym e) n)

-- what is read at a place
pub item_read : (b : Bool) (known : List Word) (es fs : Entries) (x : Text) (at p to : ℕ) (w : Word) (v : Value) → at ≤ p → Some (w, p) ≡ item_begins b x at → true ≡ is_new known (names_of es) w → SpellsFrom x p to v → fs ≡ updated es w v
    → (e : Word × Value) × SpellsItem b x at to e × (fs ≡ es ++ e ∷ []) × (is_new known (names_of es) e.0 ≡ true) × (at < to) × (to ≤ length x)
item_read b known es fs x at p to w v l e n s f =
    ((w, v), (p, sym e, s), f ∙ goes_last es w v (not_among known (names_of es) w (sym n)), sym n, omega (arith, l, starts_before x p to v s), s.inside)

-- ---- items one after the other

items_more : (b : Bool) (x : Text) (at end to : ℕ) (es : Entries) (e : Word × Value) → SpellsItems b x at es end → SpellsItem b x (next_at x end) to e → SpellsItems b x at (es ++ e ∷ []) to
items_more b x at end to [] e s i = (to, subst (λ (k : ℕ). SpellsItem b x (next_at x k) to e) (sym s) i, refl)
items_more b x at end to (d ∷ es) e s i = (s.0, s.1, items_more b x s.0 end to es e s.2 i)

new_more : (known before xs : List Word) (y : Word) → are_new known before xs ≡ true → is_new known (before ++ xs) y ≡ true → are_new known before (xs ++ y ∷ []) ≡ true
new_more known before [] y h k = and_from (is_new known before y) true (subst (λ (l : List Word). is_new known l y ≡ true) (append-nil before) k) refl
new_more known before (x ∷ xs) y h k =
    let a = and_parts (is_new known before x) (are_new known (before ++ x ∷ []) xs) h in
    and_from (is_new known before x) (are_new known (before ++ x ∷ []) (xs ++ y ∷ [])) a.0
    (new_more known (before ++ x ∷ []) xs y a.1 (subst (λ (l : List Word). is_new known l y ≡ true) (sym (append_assoc before (x ∷ []) xs)) k))

pub so_far_more : (b : Bool) (known : List Word) (x : Text) (es fs : Entries) (at to n : ℕ) (e : Word × Value) → SoFar b known x es at → SpellsItem b x at to e → fs ≡ es ++ e ∷ [] → is_new known (names_of es) e.0 ≡ true → n ≡ next_at x to → SoFar b known x fs n
so_far_more b known x es fs at to n e s i f new m =
    let F : Entries → Type 0 = λ l. SoFar b known x l n in
    subst F (sym f) (
      to,
      items_more b x 0 s.0 to es e s.1 (subst (λ (k : ℕ). SpellsItem b x k to e) (sym s.2) i),
      sym m,
      ap (are_new known []) (map-append (λ (d : Word × Value). d.0) es (e ∷ [])) ∙ new_more known [] (names_of es) e.0 s.3 new,
    )

pub items_stop : (b : Bool) (known : List Word) (x : Text) (es fs : Entries) (at : ℕ) (h : Halt) → SoFar b known x es at → ItemAnswer b known x at es fs (Err h) → ItemsAnswer b known x (Err h)
items_stop b known x es fs at halt.Memory s a = tt
items_stop b known x es fs at (halt.At n) s a =
    let F : ℕ → Type 0 = λ k. (ds : Entries) × SoFar b known x ds k × NoNewItem b known (names_of ds) x k in
    subst F (sym a.0) (es, s, a.1)

-- ---- with other lists of the same names

abbrev Same : List Word → List Word → Type 0
Same known ws = (x : Word) → is_among known x ≡ is_among ws x

new_same : (known ws before : List Word) (x : Word) → Same known ws → is_new known before x ≡ is_new ws before x
new_same known ws before x h = ap (λ (a : Bool). a && not (is_among before x)) (h x)

are_new_same : (known ws before xs : List Word) → Same known ws → are_new known before xs ≡ are_new ws before xs
are_new_same known ws before [] h = refl
are_new_same known ws before (x ∷ xs) h = λ i. new_same known ws before x h i && are_new_same known ws (before ++ x ∷ []) xs h i

pub known_same : (known ws : List Word) → Hides [] known ws → Same known ws
known_same known ws h x = sym (among_is known x) ∙ h.has x ∙ among_is ws x

pub whole_values : (b : Bool) (known ws : List Word) (x : Text) (es : Entries) → Same known ws → SoFar b known x es (length x) → are_all ws (names_of es) ≡ true → SpellsValues b ws x es
whole_values b known ws x es h s all = (s.0, s.1, s.2, sym (are_new_same known ws [] (names_of es) h) ∙ s.3, all)

pub name_missing : (b : Bool) (known ws : List Word) (x : Text) (es : Entries) → Same known ws → SoFar b known x es (length x) → are_all ws (names_of es) ≡ false → OffendsAt b ws x (length x)
name_missing b known ws x es h s all = (es, s.0, s.1, s.2, sym (are_new_same known ws [] (names_of es) h) ∙ s.3, inr (refl, all))

pub item_missing : (b : Bool) (known ws : List Word) (x : Text) (es : Entries) (at : ℕ) → Same known ws → SoFar b known x es at → NoNewItem b known (names_of es) x at → OffendsAt b ws x at
item_missing b known ws x es at h s n =
    (es, s.0, s.1, s.2, sym (are_new_same known ws [] (names_of es) h) ∙ s.3, inl (n.0, λ to e i. sym (new_same known ws (names_of es) e.0 h) ∙ n.1 to e i))
