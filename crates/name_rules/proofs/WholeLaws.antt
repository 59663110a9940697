-- The first offence of lists is the same in whatever order they are; and so all offences against the rules on names are joined.
use Rattle.std.proofs.Common.{◌≡◌, List, [], ◌∷◌, ◌++◌, Option, None, refl, sym, ap, ◌∙◌, append-nil, append_assoc}
use Rattle.std.specs.List.{flat_map}
use Rattle.tla_token.specs.declared.rule.Refusal.{Refusal}
use Rattle.tla_value.specs.Outside.{Outside}
use Rattle.pcal_tree.specs.Algorithm.{Algorithm}
use Rattle.pcal_tree.specs.Offences.{first}
use Rattle.pcal_tree.specs.OffencesModules.{module_needs, outside_variables}
use Rattle.pcal_tree.specs.OffencesNames.{use_offences_of, repeated_names}
use Rattle.pcal_tree.specs.OffencesOfNames.{name_offences}
use Rattle.pcal_tree.specs.OffencesReads.{process_offences, own_offences, order_offences}
use Rattle.pcal_tree.specs.OffencesRebind.{rebind_offences_of}
use Rattle.pcal_tree.specs.OffencesReserved.{reserved_declared}
use Rattle.pcal_tree.specs.OffencesSelf.{self_offences}
use Rattle.pcal_tree.specs.OffencesStale.{stale_offences, stale_offences_by}
use Rattle.pcal_tree.specs.laws.MacroSpots.{spots_by_macros}
use Rattle.pcal_tree.proofs.RefusedAlike.{first_with_rebinds}
use Rattle.algorithm_answer.specs.Joined.{joined}
use Rattle.algorithm_answer.proofs.Joins.{joined_assoc, joined_turned, first_append}

-- ---- in whatever order

swapped : (a b c : Option Refusal) → joined a (joined b c) ≡ joined b (joined a c)
swapped a b c = sym (joined_assoc a b c) ∙ ap (λ (o : Option Refusal). joined o c) (joined_turned a b) ∙ joined_assoc b a c

abbrev Lists : Type 0
Lists = List (List Refusal)

abbrev all_of : Lists → List Refusal
all_of xss = flat_map (λ (xs : List Refusal). xs) xss

abbrev FirstOf : Lists → Option Refusal
FirstOf xss = first (all_of xss)

-- one of them in front of those before it
pulled : (xss : Lists) (x : List Refusal) (yss : Lists) → FirstOf (xss ++ x ∷ yss) ≡ FirstOf (x ∷ (xss ++ yss))
pulled [] x yss = refl
pulled (w ∷ xss) x yss =
    first_append w (all_of (xss ++ x ∷ yss)) ∙ ap (joined (first w)) (pulled xss x yss ∙ first_append x (all_of (xss ++ yss)))
    ∙ swapped (first w) (first x) (FirstOf (xss ++ yss))
    ∙ ap (joined (first x)) (sym (first_append w (all_of (xss ++ yss)))) ∙ sym (first_append x (all_of (w ∷ (xss ++ yss))))

three : (a b c d : List Refusal) → (a ++ (b ++ c)) ++ d ≡ a ++ (b ++ (c ++ d))
three a b c d = append_assoc a (b ++ c) d ∙ ap (λ (xs : List Refusal). a ++ xs) (append_assoc b c d)

module _ (u n v d b r p w e s f : List Refusal) where
  -- as they are defined
  defined : first ((u ++ (n ++ v)) ++ ((d ++ (b ++ r)) ++ (p ++ (w ++ (e ++ (s ++ f)))))) ≡ FirstOf (d ∷ b ∷ r ∷ s ∷ u ∷ n ∷ v ∷ p ∷ w ∷ e ∷ f ∷ [])
  defined =
      ap first (three u n v ((d ++ (b ++ r)) ++ (p ++ (w ++ (e ++ (s ++ f)))))
      ∙ ap (λ (xs : List Refusal). u ++ (n ++ (v ++ xs))) (three d b r (p ++ (w ++ (e ++ (s ++ f)))) ∙ ap (λ (xs : List Refusal). d ++ (b ++ (r ++ (p ++ (w ++ (e ++ (s ++ xs))))))) (sym (append-nil f))))
      ∙ pulled (u ∷ n ∷ v ∷ d ∷ b ∷ r ∷ p ∷ w ∷ e ∷ []) s (f ∷ [])
      ∙ pulled (s ∷ u ∷ n ∷ v ∷ d ∷ b ∷ []) r (p ∷ w ∷ e ∷ f ∷ [])
      ∙ pulled (r ∷ s ∷ u ∷ n ∷ v ∷ d ∷ []) b (p ∷ w ∷ e ∷ f ∷ [])
      ∙ pulled (b ∷ r ∷ s ∷ u ∷ n ∷ v ∷ []) d (p ∷ w ∷ e ∷ f ∷ [])

  -- as they are found
  found : joined (first u) (joined (first (d ++ (r ++ (n ++ v)))) (joined (first (p ++ (w ++ e))) (joined (first b) (joined (first s) (first f))))) ≡ FirstOf (d ∷ b ∷ r ∷ s ∷ u ∷ n ∷ v ∷ p ∷ w ∷ e ∷ f ∷ [])
  found =
      ap (joined (first u)) (ap (joined (first (d ++ (r ++ (n ++ v))))) (ap (joined (first (p ++ (w ++ e)))) (ap (joined (first b)) (sym (first_append s f)) ∙ sym (first_append b (s ++ f)))
      ∙ sym (first_append (p ++ (w ++ e)) (b ++ (s ++ f))))
      ∙ sym (first_append (d ++ (r ++ (n ++ v))) ((p ++ (w ++ e)) ++ (b ++ (s ++ f)))))
      ∙ sym (first_append u ((d ++ (r ++ (n ++ v))) ++ ((p ++ (w ++ e)) ++ (b ++ (s ++ f)))))
      ∙ ap (λ (xs : List Refusal). first (u ++ xs)) (append_assoc d (r ++ (n ++ v)) ((p ++ (w ++ e)) ++ (b ++ (s ++ f)))
      ∙ ap (λ (xs : List Refusal). d ++ xs) (three r n v ((p ++ (w ++ e)) ++ (b ++ (s ++ f)))
      ∙ ap (λ (xs : List Refusal). r ++ (n ++ (v ++ xs))) (three p w e (b ++ (s ++ f)) ∙ ap (λ (xs : List Refusal). p ++ (w ++ (e ++ (b ++ (s ++ xs))))) (sym (append-nil f)))))
      ∙ pulled (u ∷ d ∷ r ∷ n ∷ v ∷ p ∷ w ∷ e ∷ b ∷ []) s (f ∷ [])
      ∙ pulled (s ∷ u ∷ d ∷ []) r (n ∷ v ∷ p ∷ w ∷ e ∷ b ∷ f ∷ [])
      ∙ pulled (r ∷ s ∷ u ∷ d ∷ n ∷ v ∷ p ∷ w ∷ e ∷ []) b (f ∷ [])
      ∙ pulled (b ∷ r ∷ s ∷ u ∷ []) d (n ∷ v ∷ p ∷ w ∷ e ∷ f ∷ [])

-- what is found by macros once each is beside the other offences the same
pub all_joined : (a : Algorithm) (o : Outside)
    → joined (first (use_offences_of a o)) (joined (first (repeated_names a o ++ (reserved_declared a o ++ (module_needs a o ++ outside_variables o))))
    (joined (first (process_offences a ++ (own_offences a ++ order_offences a))) (joined (first (rebind_offences_of a o)) (joined (first (stale_offences_by (spots_by_macros a) a)) (first (self_offences a))))))
    ≡ first (name_offences a o)
all_joined a o =
    found u n v d b r p w e (stale_offences_by (spots_by_macros a) a) f
    ∙ under d (others (stale_offences_by (spots_by_macros a) a)) (others (stale_offences a)) (sym (first_with_rebinds a o (all_of (u ∷ n ∷ v ∷ p ∷ w ∷ e ∷ f ∷ []))))
    ∙ sym (defined u n v d b r p w e (stale_offences a) f)
  where
    u : List Refusal
    u = use_offences_of a o

    n : List Refusal
    n = module_needs a o

    v : List Refusal
    v = outside_variables o

    d : List Refusal
    d = repeated_names a o

    b : List Refusal
    b = rebind_offences_of a o

    r : List Refusal
    r = reserved_declared a o

    p : List Refusal
    p = process_offences a

    w : List Refusal
    w = own_offences a

    e : List Refusal
    e = order_offences a

    f : List Refusal
    f = self_offences a

    others : List Refusal → List Refusal
    others s = all_of (b ∷ r ∷ s ∷ u ∷ n ∷ v ∷ p ∷ w ∷ e ∷ f ∷ [])

    under : (x ys zs : List Refusal) → first ys ≡ first zs → first (x ++ ys) ≡ first (x ++ zs)
    under x ys zs h = first_append x ys ∙ ap (joined (first x)) h ∙ sym (first_append x zs)

-- where none is first, there is none
pub none_first : (rs : List Refusal) → first rs ≡ None → rs ≡ []
none_first [] e = refl
none_first (r ∷ rs) e = cc
