-- Where one offence tells another: of both lists, the first one is that of these.
use Rattle.std.proofs.Common.{◌≡◌, ℕ, ◌+◌, ◌<◌, List, ◌∷◌, ◌++◌, length, take, drop, get_or, Bool, true, false, ◌&&◌, ◌||◌, nat_eq, cond, Option, Some, None, refl, sym, ap, ◌∙◌, subst, le-ltb, arith}
use Rattle.std.specs.List.{flat_map}
use Rattle.std.proofs.lemmas.List.{drop_more, take-append-drop}
use Rattle.std.proofs.lemmas.Grind.{flat_map-append}
use Rattle.tla_token.specs.declared.place.Place.{Place}
use Rattle.tla_token.specs.declared.rule.Rule.{Rule}
use Rattle.tla_token.specs.declared.rule.Refusal.{Refusal}
use Rattle.tla_token.specs.Rules.{rule_number}
use Rattle.pcal_tree.specs.Offences.{offence_if, is_before, is_sooner, first}
use Rattle.algorithm_answer.specs.Joined.{joined}
use Rattle.algorithm_answer.proofs.Joins.{joined_assoc, joined_swapped, first_append}

abbrev pub Covers : List Refusal → List Refusal → Type 0
Covers a b = joined (first a) (first b) ≡ first a

pub covers_itself : (a : List Refusal) → Covers a a
covers_itself a = by (first a)
  where
    either : (b : Bool) (r : Refusal) → Some (cond b r r) ≡ Some r
    either true r = refl
    either false r = refl

    by : (o : Option Refusal) → joined o o ≡ o
    by None = refl
    by (Some r) = either (is_sooner r r) r

pub covers_before : (a b c : List Refusal) → Covers a c → Covers (a ++ b) c
covers_before a b c h = ap (λ (o : Option Refusal). joined o (first c)) (first_append a b) ∙ joined_swapped (first a) (first b) (first c) ∙ ap (λ (o : Option Refusal). joined o (first b)) h ∙ sym (first_append a b)

pub covers_behind : (a b c : List Refusal) → Covers b c → Covers (a ++ b) c
covers_behind a b c h = ap (λ (o : Option Refusal). joined o (first c)) (first_append a b) ∙ joined_assoc (first a) (first b) (first c) ∙ ap (joined (first a)) h ∙ sym (first_append a b)

pub covers_both : (a c d : List Refusal) → Covers a c → Covers a d → Covers a (c ++ d)
covers_both a c d h k = ap (joined (first a)) (first_append c d) ∙ sym (joined_assoc (first a) (first c) (first d)) ∙ ap (λ (o : Option Refusal). joined o (first d)) h ∙ k

pub covers_each : (a b c d : List Refusal) → Covers a c → Covers b d → Covers (a ++ b) (c ++ d)
covers_each a b c d h k = covers_both (a ++ b) c d (covers_before a b c h) (covers_behind a b d k)

-- ---- one rule, at two places

pub covers_if : (b : Bool) (k : Rule) (p q : Place) → is_before q p ≡ false → Covers (offence_if b k p) (offence_if b k q)
covers_if true k p q e = ap (λ (b : Bool). Some (cond b (record { rule = k; place = q }) (record { rule = k; place = p }))) ((λ i. le-ltb n n (omega arith) i || (nat_eq n n && e i)) ∙ last (nat_eq n n))
  where
    n : ℕ
    n = rule_number k

    last : (b : Bool) → (b && false) ≡ false
    last true = refl
    last false = refl
covers_if false k p q e = refl

-- ---- one of those of a list

pub covers_in : {X : Type 0} (h : X → List Refusal) (xs ys : List X) (i : ℕ) (x : X) (rs : List Refusal) → xs ≡ ys → x ≡ get_or xs i x → i < length xs → Covers (h x) rs → Covers (flat_map h ys) rs
covers_in {X = X} h xs ys i x rs w e l c =
    let rest = drop (i + 1) xs in
    let whole = sym (flat_map-append h (take i xs) (x ∷ rest)) ∙ ap (λ (zs : List X). flat_map h (take i xs ++ zs)) (ap (λ (z : X). z ∷ rest) e ∙ sym (drop_more xs i x l)) ∙ ap (flat_map h) (take-append-drop i xs) ∙ ap (flat_map h) w in
    subst (λ (qs : List Refusal). Covers qs rs) whole (covers_behind (flat_map h (take i xs)) (h x ++ flat_map h rest) rs (covers_before (h x) (flat_map h rest) rs c))
