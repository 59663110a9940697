-- The readers of expressions of a module within a bound, as a bound takes them: the bound only refuses, and no more tokens are left than there were.
use Rattle.std.proofs.Common.{◌≡◌, ◌⊎◌, ◌<◌, ◌≤◌, ℕ, List, length, Ok, Err, Some, false, inl, inr, sym, ap, ◌∙◌, subst}
use Rattle.tla_token.specs.declared.rule.Rule.{Rule}
use Rattle.tla_token.specs.declared.rule.Rule.TheVariants.{TooDeep, Syntax}
use Rattle.tla_tree.specs.Lexical.{Token}
use Rattle.tla_tree.specs.Spelling.{Phrase}
use Rattle.tla_tree.specs.Nesting.{nesting_in}
use Rattle.tla_tree.specs.Reader.{Out, free, read}
use Rattle.tla_tree.specs.Whole.{read_bounded}
use Rattle.tla_tree.proofs.ReadBounded.{bounded_read, bounded_refuses}
use Rattle.tla_tree.proofs.Whole.{expr_less}
use Rattle.region_reading.specs.Bound.{bounded, OnlyRefuses, ReadsWithin, Shortens}
use Rattle.region_reading.proofs.BoundLaws.{bounded_shortens}
use Rattle.region_reading.proofs.EnoughSteps.{rest_is}

apart : (us : List Token) → ◌≡◌ {A = Rule} Syntax TooDeep → ⊥
apart us e = cc

pub bound_is_read : ReadsWithin read_bounded (nesting_in false)
bound_is_read l e ts = record {
  same = λ a us o. bounded_read l e ts us a o;
  none = λ us o a vs q. elim (bounded_refuses l e ts us Syntax o) [
    | inl p ↦ (let no : ◌≡◌ {A = Out Phrase} (Ok (a, vs)) (Err (p.1.0, us)) = sym q ∙ p.1.1 in absurd cc)
    | inr p ↦ absurd (apart us p.0)
  ];
  deep = λ us o a vs q. elim (bounded_refuses l e ts us TooDeep o) [ inl p ↦ absurd (apart us (sym p.0)) | inr p ↦ p.1 a vs q ];
  rule = λ r us o. elim (bounded_refuses l e ts us r o) [ inl p ↦ inl p.0 | inr p ↦ inr p.0 ];
}

pub bound_shortens : (l : ℕ) → Shortens (bounded read_bounded l)
bound_shortens l = bounded_shortens read_bounded (λ k e ts. rw (rest_is (read_bounded k e ts)) (expr_less false (Some k) e free ts)) l
