-- A copy of a state: the values of variables, one after the other, and in the end all values.
use Rattle.std.proofs.Common.{◌≡◌, ℕ, ◌+◌, ◌<◌, ◌≤◌, Bool, true, false, ◌||◌, cond, bytes_eq, List, [], ◌∷◌, length, get_or, drop, Option, Some, None, unwrap_or, refl, sym, ap, subst, ◌∙◌, true≢false}
use Rattle.std.proofs.lemmas.List.{drop_more, drop_all}
use Rattle.std.proofs.lemmas.Slice.Eq.{bytes_eq-Decides}
use Rattle.std.specs.Option.{is_some}
use Rattle.tla_token.specs.Signs.{is_among}
use Rattle.tla_tree.specs.Tree.{Word}
use Rattle.tla_value.specs.Value.{Value, truth}
use Rattle.tla_value.specs.States.{Entries, value_of, updated}
use Rattle.step_moves.specs.declared.program.Program as code
use Rattle.step_moves.specs.StatesOf.{state_of, HasJust}
use Rattle.step_moves.proofs.StateLaws.{value_updated}
use Rattle.step_moves.specs.ScopeIn.{IsScene}

-- names that aren't left have their values there
abbrev pub Copied : List Word → Entries → Entries → Type 0
Copied left m n = (x : Word) → is_among left x ≡ false → value_of n x ≡ value_of m x

pub none_copied : (xs : List Word) (m n : Entries) → n ≡ [] → HasJust xs m → Copied xs m n
none_copied xs m n e h x p = ap (λ (z : Entries). value_of z x) e ∙ by (value_of m x) (h x ∙ p)
  where
    by : (o : Option Value) → is_some o ≡ false → value_of [] x ≡ o
    by None q = refl
    by (Some v) q = absurd (true≢false q)

one_copied : (x : Word) (left : List Word) (v : Value) (m n : Entries) → Some v ≡ value_of m x → Copied (x ∷ left) m n → Copied left m (updated n x v)
one_copied x left v m n e h y p = value_updated n x v y ∙ by (bytes_eq x y) refl (h y)
  where
    by : (b : Bool) → bytes_eq x y ≡ b → ((b || is_among left y) ≡ false → value_of n y ≡ value_of m y) → cond b (Some v) (value_of n y) ≡ value_of m y
    by true q f = e ∙ ap (value_of m) ((bytes_eq-Decides x y).0 q)
    by false q f = f p

pub next_copied : (xs : List Word) (i : ℕ) (x y : Word) (u v : Value) (m n new : Entries) → x ≡ get_or xs i x → i < length xs → Some v ≡ value_of m x → y ≡ x → u ≡ v → new ≡ updated n y u
    → Copied (drop i xs) m n → Copied (drop (i + 1) xs) m new
next_copied xs i x y u v m n new is less e same copy put h =
    subst (Copied (drop (i + 1) xs) m) (sym (put ∙ (λ k. updated n (same k) (copy k))))
    (one_copied x (drop (i + 1) xs) v m n e (subst (λ (left : List Word). Copied left m n) (drop_more xs i x less ∙ ap (λ (z : Word). z ∷ drop (i + 1) xs) (sym is)) h))

pub all_copied : (xs : List Word) (i : ℕ) (m n : Entries) → length xs ≤ i → Copied (drop i xs) m n → (x : Word) → value_of n x ≡ value_of m x
all_copied xs i m n past h x = h x (ap (λ (left : List Word). is_among left x) (drop_all i xs past))

-- ---- the copy

pub same_state : (m n : Entries) → ((x : Word) → value_of n x ≡ value_of m x) → state_of n ≡ state_of m
same_state m n h i x = unwrap_or (h x i) (truth false)

pub same_scene : (p : code.Program) (m n : Entries) → ((x : Word) → value_of n x ≡ value_of m x) → IsScene p m → IsScene p n
same_scene p m n h s = record { whole = s.whole; names = λ x. ap is_some (h x) ∙ s.names x }
