-- Reading an expression of a module, within a bound, beside reading it without: the bound only refuses, and only what opens more forms.
use Rattle.std.proofs.Common.{◌≡◌, ◌⊎◌, ℕ, suc, ◌*◌, ◌+◌, ◌<◌, ◌≤◌, nat_le, Bool, true, false, List, [], length, None, Some, Ok, Err, inl, inr, refl, sym, subst, arith}
use Rattle.std.proofs.lemmas.Bool.{leb-true, leb-false}
use Rattle.tla_token.specs.declared.rule.Rule.{Rule}
use Rattle.tla_token.specs.declared.rule.Rule.TheVariants.{TooDeep, Syntax}
use Rattle.tla_tree.specs.Lexical.{Token}
use Rattle.tla_tree.specs.Spelling.{Phrase}
use Rattle.tla_tree.specs.Nesting.{counts_in, nesting_in}
use Rattle.tla_tree.specs.Reader.{Out, read}
use Rattle.tla_tree.specs.Whole.{read_bounded}
use Rattle.tla_tree.specs.laws.Bounded.{BoundedRefuses}
use Rattle.tla_tree.proofs.SpellAhead.{held}
use Rattle.tla_tree.proofs.DeepCounts.{Fit, fit_both, fit_greatest, greatest_fits, ahead_in}
use Rattle.tla_tree.proofs.Limited.{Late, On, told_ok, told_err}
use Rattle.tla_tree.proofs.LimitedAll.{limited}
use Rattle.tla_tree.proofs.LimitedStops.{fit_or_deep, noughts, as_long, noughts_fit}
use Rattle.tla_tree.proofs.Whole.{read_is}
use Rattle.tla_tree.specs.Reader.{free}

module _ (l e : ℕ) (ts : List Token) where
  bounded_beside : On true l (λ u. u) (λ a u. counts_in false 0 a u) ts (read_bounded l e ts) (read e ts)
  bounded_beside = subst (λ (q : Out Phrase). On true l (λ u. u) (λ a u. counts_in false 0 a u) ts (read_bounded l e ts) q) (sym (read_is true None e ts))
      ((limited false l (suc (suc (4 * length ts))) 0 l (omega arith)).expr e free refl (λ u. u) held ts)

  pub bounded_read : (us : List Token) (a : Phrase) → read_bounded l e ts ≡ Ok (a, us) → (read e ts ≡ Ok (a, us)) × (nesting_in false a ≤ l)
  bounded_read us a o = (let w = told_ok bounded_beside o in (w.0, greatest_fits (counts_in false 0 a []) l (w.1 (λ z u i. i) refl [] tt)))

  -- what fits isn't late
  in_time : (u : List Token) (a : Phrase) (rest : List Token) → nesting_in false a ≤ l → Late l (λ s. counts_in false 0 a s) (length u) (length rest) → ⊥
  in_time u a rest h late =
      let n = as_long rest in
      let all = fit_both l (counts_in false 0 a []) (noughts rest) (fit_greatest (counts_in false 0 a []) l h) (noughts_fit l rest) in
      fit_or_deep l (counts_in false 0 a (noughts rest)) (length u) (subst (λ (s : List ℕ). Fit l s) (sym ((ahead_in false 0 a).is [] (noughts rest))) all) (late (noughts rest) (length u) (omega (arith, n)))

  deeper_than : (u : List Token) (a : Phrase) (rest : List Token) → Late l (λ s. counts_in false 0 a s) (length u) (length rest) → l < nesting_in false a
  deeper_than u a rest late = by (nat_le (nesting_in false a) l) refl
    where
      by : (t : Bool) → nat_le (nesting_in false a) l ≡ t → l < nesting_in false a
      by true i = absurd (in_time u a rest (leb-true (nesting_in false a) l i) late)
      by false i = leb-false (nesting_in false a) l i

  pub bounded_refuses : (us : List Token) (r : Rule) → read_bounded l e ts ≡ Err (r, us) → BoundedRefuses l (read e ts) r us
  bounded_refuses us r o = elim (told_err bounded_beside o) [ inl p ↦ inl (p.0, p.1) | inr p ↦ inr (p.2, λ a rest i. deeper_than p.1 a rest (p.5 a rest i)) ]
