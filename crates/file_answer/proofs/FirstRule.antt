-- The first of two lists of refusals is the first of the one in front, where all behind are of greater rules.
use Rattle.std.proofs.Common.{◌≡◌, ℕ, ◌<◌, ◌≤◌, Bool, true, false, ◌&&◌, ◌||◌, nat_eq, nat_le, nat_lt, List, [], ◌∷◌, ◌++◌, cond, Option, Some, None, refl, sym, ap, subst, ◌∙◌, arith, le-ltb, ltb-true, eqb-true}
use Rattle.std.specs.List.{list_all}
use Rattle.std.proofs.lemmas.Bool.{and_parts, false_from_ne_true, leb-true}
use Rattle.std.proofs.lemmas.Option.{same_Some}
use Rattle.tla_token.specs.declared.rule.Refusal.{Refusal}
use Rattle.tla_token.specs.Rules.{rule_number}
use Rattle.pcal_tree.specs.Offences.{is_before, is_sooner, sooner, first}
use Rattle.algorithm_answer.specs.Joined.{joined}
use Rattle.algorithm_answer.proofs.Joins.{first_append}

-- the first one is among them
first_all : (p : Refusal → Bool) (rs : List Refusal) (q : Refusal) → list_all p rs ≡ true → first rs ≡ Some q → p q ≡ true
first_all p [] q h e = absurd cc
first_all p (r ∷ rs) q h e = (let k = and_parts (p r) (list_all p rs) h in by (first rs) refl k.0 (λ s f. first_all p rs s k.1 f))
  where
    either : (b : Bool) (s : Refusal) → p r ≡ true → p s ≡ true → p (cond b s r) ≡ true
    either true s a b = b
    either false s a b = a

    by : (o : Option Refusal) → first rs ≡ o → p r ≡ true → ((s : Refusal) → first rs ≡ Some s → p s ≡ true) → p q ≡ true
    by None o a deeper =
        let f : Some r ≡ Some q = ap (λ (o : Option Refusal). Some (sooner r o)) (sym o) ∙ e in
        subst (λ (q : Refusal). p q ≡ true) (same_Some r q f) a
    by (Some s) o a deeper =
        let f : Some (sooner r (Some s)) ≡ Some q = ap (λ (o : Option Refusal). Some (sooner r o)) (sym o) ∙ e in
        subst (λ (q : Refusal). p q ≡ true) (same_Some (sooner r (Some s)) q f) (either (is_sooner s r) s a (deeper s o))

-- of a lesser rule
stays : (r q : Refusal) → rule_number r.rule < rule_number q.rule → sooner r (Some q) ≡ r
stays r q l = ap (λ (b : Bool). cond b q r) (λ i. le-ltb (rule_number q.rule) (rule_number r.rule) (omega (arith, l)) i || (apart i && is_before q.place r.place))
  where
    apart : nat_eq (rule_number q.rule) (rule_number r.rule) ≡ false
    apart = false_from_ne_true (nat_eq (rule_number q.rule) (rule_number r.rule)) (λ h. (let e = eqb-true (rule_number q.rule) (rule_number r.rule) h in omega (arith, l, e)))

pub front_first : (n : ℕ) (xs ys : List Refusal) (r : Refusal) → list_all (λ (q : Refusal). nat_le (rule_number q.rule) n) xs ≡ true → list_all (λ (q : Refusal). nat_lt n (rule_number q.rule)) ys ≡ true → first xs ≡ Some r
    → first (xs ++ ys) ≡ Some r
front_first n xs ys r low high e = first_append xs ys ∙ ap (λ (o : Option Refusal). joined o (first ys)) e ∙ by (first ys) refl
  where
    least : rule_number r.rule ≤ n
    least = leb-true (rule_number r.rule) n (first_all (λ (q : Refusal). nat_le (rule_number q.rule) n) xs r low e)

    by : (o : Option Refusal) → first ys ≡ o → joined (Some r) (first ys) ≡ Some r
    by None o = ap (joined (Some r)) o
    by (Some q) o =
        let l = ltb-true n (rule_number q.rule) (first_all (λ (q : Refusal). nat_lt n (rule_number q.rule)) ys q high o) in
        let k = least in
        ap (joined (Some r)) o ∙ ap (λ (r : Refusal). Some r) (stays r q (omega (arith, l, k)))
