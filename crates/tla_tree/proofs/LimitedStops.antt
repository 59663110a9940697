-- What is read within the limit, and where reading within it stops.
use Rattle.std.proofs.Common.{◌≡◌, ◌⊎◌, ℕ, zero, suc, ◌+◌, ◌*◌, ◌≤◌, nat_le, true, List, [], ◌∷◌, ◌++◌, length, take, map, get_or, Option, Some, Ok, Err, inl, inr, refl, sym, ap, ◌∙◌, subst, append_assoc, length-append, arith}
use Rattle.std.specs.List.{list_all}
use Rattle.std.proofs.lemmas.List.{append-nil, append_cancel_right, length-map}
use Rattle.std.proofs.lemmas.Bool.{and_parts, leb-true}
use Rattle.tla_token.specs.declared.place.Place.{Place}
use Rattle.tla_token.specs.declared.rule.Rule.{Rule}
use Rattle.tla_token.specs.declared.rule.Rule.TheVariants.{TooDeep, Syntax}
use Rattle.tla_token.specs.Limits.{deepest_expression}
use Rattle.tla_token.specs.declared.rule.Refusal.{Refusal}
use Rattle.tla_tree.specs.Tree.{Tree}
use Rattle.tla_tree.specs.Lexical.{Token}
use Rattle.tla_tree.specs.Spelling.{Phrase, Good, spell, tree_of}
use Rattle.tla_tree.specs.Nesting.{counts, text_nesting}
use Rattle.tla_tree.specs.Reader.{Out, free, read, read_limited}
use Rattle.tla_tree.specs.FirstStop.{Look, look, looks, to_end, Open, is_within, Begins, Passes, StopsAt, in_expression, phrases, Completes, ReadsExpression, RefusesExpression}
use Rattle.tla_tree.proofs.Columns.{spelled_again, bare, looks_of_bare, begun_looks, looked_ahead, begins}
use Rattle.tla_tree.proofs.CountsMoved.{same_counts}
use Rattle.tla_tree.proofs.CountsLaws.{as_many_counts}
use Rattle.tla_tree.proofs.ReadAll.{spelled_is_read}
use Rattle.tla_tree.proofs.SoundLists.{read_is_spelled}
use Rattle.tla_tree.proofs.SpellAhead.{held, ahead}
use Rattle.tla_tree.proofs.Alike.{Within, Alike}
use Rattle.tla_tree.proofs.AlikeSteps.{fair_readers}
use Rattle.tla_tree.proofs.StopLaws.{stops_by_one_rule, passes_before}
use Rattle.tla_tree.proofs.StopsThere.{before, through, is_there, read_passes, read_stops, refused_is_completed, refused_at}
use Rattle.tla_tree.proofs.MendedLists.{refused_fits}
use Rattle.tla_tree.proofs.Completed.{completed, completed_there}
use Rattle.tla_tree.proofs.DeepCounts.{Fit, Deep, fit_both, fit_greatest, greatest_fits, ahead_counts}
use Rattle.tla_tree.proofs.Limited.{Late, Plain, Past, On, told_ok, told_err}
use Rattle.tla_tree.proofs.LimitedAll.{limited}

pub beside : (ts : List Token) → On true deepest_expression (λ u. u) (λ a u. counts 0 a u) ts (read_limited ts) (read 0 ts)
beside ts = (limited true deepest_expression (4 * length ts) 0 deepest_expression (omega arith)).expr 0 free refl (λ u. u) held ts

-- it is read without the limit too, and is no deeper
pub read_within : (ts rest : List Token) (a : Phrase) → read_limited ts ≡ Ok (a, rest) → (read 0 ts ≡ Ok (a, rest)) × (text_nesting a ≤ deepest_expression)
read_within ts rest a o = (let w = told_ok (beside ts) o in (w.0, greatest_fits (counts 0 a []) deepest_expression (w.1 (λ e u i. i) refl [] tt)))

-- and what is no deeper is read within the limit
pub fit_or_deep : (b : ℕ) (ns : List ℕ) (m : ℕ) → Fit b ns → Deep b ns m → ⊥
fit_or_deep b [] m f d = d
fit_or_deep b (n ∷ ns) m f (inl (l, k)) = (let h = f.0 in absurd (omega (arith, h, l)))
fit_or_deep b (n ∷ ns) m f (inr d) = fit_or_deep b ns m f.1 d

pub noughts : List Token → List ℕ
noughts [] = []
noughts (t ∷ ts) = 0 ∷ noughts ts

pub as_long : (ts : List Token) → length (noughts ts) ≡ length ts
unfolding noughts
as_long [] = refl
as_long (t ∷ ts) = (let h = as_long ts in omega (arith, h))

pub noughts_fit : (b : ℕ) (ts : List Token) → Fit b (noughts ts)
unfolding noughts
noughts_fit b [] = tt
noughts_fit b (t ∷ ts) = (omega arith, noughts_fit b ts)

pub fits_within : (ts rest : List Token) (a : Phrase) → read 0 ts ≡ Ok (a, rest) → text_nesting a ≤ deepest_expression → read_limited ts ≡ Ok (a, rest)
fits_within ts rest a o h = by (read_limited ts) refl
  where
    deep : (u : List Token) → Late deepest_expression (λ s. counts 0 a s) (length u) (length rest) → ⊥
    deep u late =
        let n = as_long rest in
        let all = fit_both deepest_expression (counts 0 a []) (noughts rest) (fit_greatest (counts 0 a []) deepest_expression h) (noughts_fit deepest_expression rest) in
        fit_or_deep deepest_expression (counts 0 a (noughts rest)) (length u) (subst (λ (s : List ℕ). Fit deepest_expression s) (sym ((ahead_counts 0 a).is [] (noughts rest))) all) (late (noughts rest) (length u) (omega (arith, n)))

    by : (z : Out Phrase) → read_limited ts ≡ z → read_limited ts ≡ Ok (a, rest)
    by (Ok y) e = e ∙ sym (read_within ts y.1 y.0 e).0 ∙ o
    by (Err s) e = elim (told_err (beside ts) e) [
      | inl p ↦ (let no : ◌≡◌ {A = Out Phrase} (Ok (a, rest)) (Err (p.1.0, s.1)) = sym o ∙ p.1.1 in absurd cc)
      | inr p ↦ absurd (deep p.1 (p.5 a rest o))
    ]

pub is_read : (ts rest : List Token) (a : Phrase) → read_limited ts ≡ Ok (a, rest) → ReadsExpression ts (length (spell a [])) (tree_of a)
is_read ts rest a o = (let w = read_within ts rest a o in read_stops ts rest a w.0 w.1)

-- ---- a token that is too deep
-- what passes begins a phrase with these tokens, whose counts are within the limit so far
begun_within : (ts : List Token) → Passes (phrases 0) (map Some (looks ts)) → (b : Phrase) × (more : List Token) × Good 0 b × (spell b [] ≡ ts ++ more) × (list_all is_within (take (length ts) (map in_expression (counts 0 b []))) ≡ true)
begun_within ts (more, ns, (a, g, s, c), few) =
    let ks = begun_looks (looks (spell a [])) (looks ts) [] more (λ y vs n. cc) (append-nil (map Some (looks (spell a []))) ∙ s) in
    let us = ts ++ map bare ks.0 in
    let v = spelled_again 0 (spell a []) us (ks.1 ∙ sym (looks_of_bare ts ks.0)) a g refl in
    let same : map in_expression (counts 0 v.0 []) ≡ ns = ap (map in_expression) (same_counts 0 v.0 a v.3) ∙ c in
    let long : length (map Some (looks ts)) ≡ length ts = length-map (looks ts) Some ∙ length-map ts look in
    (v.0, map bare ks.0, v.1, sym v.2, ap (λ (os : List Open). list_all is_within (take (length ts) os)) same ∙ ap (λ (n : ℕ). list_all is_within (take n ns)) (sym long) ∙ few)

-- one that passes the limit is not among the first ones
never_late : (cs : List ℕ) (m : ℕ) → length cs ≤ m → Deep deepest_expression cs m → ⊥
never_late [] m h d = d
never_late (c ∷ cs) m h (inl (l, k)) = absurd (omega (arith, h, k))
never_late (c ∷ cs) m h (inr d) = never_late cs m (omega (arith, h)) d

not_first : (n m : ℕ) (cs : List ℕ) → length cs ≤ n + m → list_all is_within (take n (map in_expression cs)) ≡ true → Deep deepest_expression cs m → ⊥
not_first zero m cs h w d = never_late cs m (omega (arith, h)) d
not_first (suc n) m [] h w d = d
not_first (suc n) m (c ∷ cs) h w (inl (l, k)) =
    let p = and_parts (is_within (in_expression c)) (list_all is_within (take n (map in_expression cs))) w in
    let i = leb-true c deepest_expression (and_parts (nat_le c deepest_expression) true p.0).0 in
    absurd (omega (arith, l, i))
not_first (suc n) m (c ∷ cs) h w (inr d) =
    (let p = and_parts (is_within (in_expression c)) (list_all is_within (take n (map in_expression cs))) w in not_first n m cs (omega (arith, h)) p.1 d)

-- it is refused there whatever follows
same_refusal : (k : List Token) (t : Token) (r s : List Token) (q : Rule) (o : Out Phrase) → Alike k t r s (Err (q, t ∷ r)) o → o ≡ Err (q, t ∷ s)
same_refusal k t r s q o (inl ([], l, e, d)) = d
same_refusal k t r s q o (inl (x ∷ j, l, e, d)) = (let n : length r ≡ length (j ++ t ∷ r) = (let m = ap length e in omega (arith, m)) in let i = length-append j (t ∷ r) in absurd (omega (arith, n, i)))
same_refusal k t r s q o (inr (w, v)) = (let n = ap length w.1 in let i = length-append w.0 (t ∷ r) in absurd (omega (arith, n, i)))

refused_again : (k : List Token) (t : Token) (r s : List Token) (q : Rule) → read_limited (k ++ t ∷ r) ≡ Err (q, t ∷ r) → read_limited (k ++ t ∷ s) ≡ Err (q, t ∷ s)
refused_again k t r s q o =
    let n = 4 * length (k ++ t ∷ r) in
    let m = 4 * length (k ++ t ∷ s) in
    let b = 4 + 4 * length k in
    let i : b ≤ n = omega (arith, length-append k (t ∷ r)) in
    let j : b ≤ m = omega (arith, length-append k (t ∷ s)) in
    same_refusal k t r s q (read_limited (k ++ t ∷ s)) (subst (λ (o : Out Phrase). Alike k t r s o (read_limited (k ++ t ∷ s))) o (((fair_readers b n m i j (Some deepest_expression)).expr 0 free).alike k t r s (omega arith)))

-- a phrase that goes on there is too deep there or before
too_deep_through : (k : List Token) (t : Token) (r : List Token) (q : Rule) → read_limited (k ++ t ∷ r) ≡ Err (q, t ∷ r) → Passes (phrases 0) (map Some (looks (k ++ t ∷ []))) → ⊥
too_deep_through k t r q o p =
    let w = begun_within (k ++ t ∷ []) p in
    let s : spell w.0 [] ≡ k ++ t ∷ w.1 = w.3 ∙ append_assoc k (t ∷ []) w.1 in
    let here = refused_again k t r w.1 q o in
    let whole : read 0 (k ++ t ∷ w.1) ≡ Ok (w.0, []) = ap (λ (ts : List Token). read 0 ts) (sym s) ∙ spelled_is_read 0 w.0 w.2 in
    by w.0 w.1 s w.4 whole (told_err (beside (k ++ t ∷ w.1)) here)
  where
    by : (b : Phrase) (more : List Token) → spell b [] ≡ k ++ t ∷ more → list_all is_within (take (length (k ++ t ∷ [])) (map in_expression (counts 0 b []))) ≡ true → read 0 (k ++ t ∷ more) ≡ Ok (b, [])
        → Plain (q, t ∷ more) (read 0 (k ++ t ∷ more)) ⊎ Past (λ a. Late deepest_expression (λ u. counts 0 a u)) (q, t ∷ more) (read 0 (k ++ t ∷ more)) → ⊥
    by b more s few whole (inl (d, (v, e))) = (let no : ◌≡◌ {A = Out Phrase} (Ok (b, [])) (Err (v, t ∷ more)) = sym whole ∙ e in absurd cc)
    by b more s few whole (inr (t', u, d, e, w, late)) =
        let same : u ≡ more = (let both : t ∷ more ≡ t' ∷ u = e in cc) in
        let n = as_many_counts 0 b ∙ ap length s ∙ length-append k (t ∷ more) in
        let i = length-append k (t ∷ []) in
        let z = ap length same in
        not_first (length (k ++ t ∷ [])) (length u) (counts 0 b []) (omega (arith, n, i, z)) few (late b [] whole [] (length u) (omega arith))

-- and some phrase goes on there
goes_through : (k : List Token) (t : Token) (r : List Token) → Within r (read 0 (k ++ t ∷ r)) → Begins (phrases 0) (map Some (looks (k ++ t ∷ [])))
goes_through k t r w = by (read 0 (k ++ t ∷ r)) refl w
  where
    by : (o : Out Phrase) → read 0 (k ++ t ∷ r) ≡ o → Within r o → Begins (phrases 0) (map Some (looks (k ++ t ∷ [])))
    by (Ok (a, us)) o (x, e) =
        let v = read_is_spelled 0 (k ++ t ∷ r) us a o in
        let s : spell a [] ++ us ≡ (k ++ t ∷ x) ++ us = sym ((ahead a).is [] us) ∙ sym v.1 ∙ ap (λ (u : List Token). k ++ t ∷ u) e ∙ sym (append_assoc k (t ∷ x) us) in
        begins 0 (k ++ t ∷ []) x a v.0 (append_cancel_right (spell a []) (k ++ t ∷ x) us s ∙ sym (append_assoc k (t ∷ []) x))
    by (Err (v, us)) o (x, e) =
        let s : k ++ t ∷ r ≡ (k ++ t ∷ x) ++ us = ap (λ (u : List Token). k ++ t ∷ u) e ∙ sym (append_assoc k (t ∷ x) us) in
        let m = refused_is_completed 0 (k ++ t ∷ r) (k ++ t ∷ x) us v o s in
        begins 0 (k ++ t ∷ []) (x ++ m.0) m.1 m.2 (m.3 ∙ append_assoc k (t ∷ x) m.0 ∙ sym (append_assoc k (t ∷ []) (x ++ m.0)))

-- ---- a refusal, where what was passed passes
deep_stops : (passed : List Token) (t : Token) (r : List Token) → read_limited (passed ++ t ∷ r) ≡ Err (TooDeep, t ∷ r) → Within r (read 0 (passed ++ t ∷ r)) → Passes (phrases 0) (map Some (looks passed)) → StopsAt (phrases 0) (to_end (passed ++ t ∷ r)) (length passed) TooDeep
deep_stops passed t r o w p = record {
  there = is_there passed (t ∷ r);
  passed = subst (λ (ks : List (Option Look)). Passes (phrases 0) ks) (sym (before passed (t ∷ r))) p;
  stopped = λ b. too_deep_through passed t r TooDeep o (subst (λ (ks : List (Option Look)). Passes (phrases 0) ks) (through passed t r) b);
  rule = inl (refl, subst (λ (ks : List (Option Look)). Begins (phrases 0) ks) (sym (through passed t r)) (goes_through passed t r w));
}

pub refused_where_passed : (ts passed rest : List Token) (end : Place) (r : Rule) → read_limited ts ≡ Err (r, rest) → ts ≡ passed ++ rest → Passes (phrases 0) (map Some (looks passed)) → RefusesExpression ts end (record { rule = r; place = get_or (map (λ (t : Token). t.place) ts) (length passed) end })
refused_where_passed ts passed rest end r o s p = by (told_err (beside ts) o)
  where
    Goal : Rule → Type 0
    Goal r = RefusesExpression ts end (record { rule = r; place = get_or (map (λ (t : Token). t.place) ts) (length passed) end })

    by : Plain (r, rest) (read 0 ts) ⊎ Past (λ a. Late deepest_expression (λ u. counts 0 a u)) (r, rest) (read 0 ts) → Goal r
    by (inl (d, (v, e))) = subst Goal (sym d) (refused_at ts passed rest end v e s p)
    by (inr (t, u, d, e, w, late)) = subst Goal (sym d) (record {
      passed = length passed;
      stops = stops;
      place = refl;
      unread = λ a b. (let no : TooDeep ≡ Syntax = stops_by_one_rule (phrases 0) (to_end ts) (length passed) (length passed) TooDeep Syntax stops b.stops in absurd cc);
      completed = completed_there ts (length passed) TooDeep stops;
    })
      where
        at : ts ≡ passed ++ t ∷ u
        at = s ∙ ap (λ (v : List Token). passed ++ v) e

        stops : StopsAt (phrases 0) (to_end ts) (length passed) TooDeep
        stops = subst (λ (us : List Token). StopsAt (phrases 0) (to_end us) (length passed) TooDeep) (sym at)
            (deep_stops passed t u (ap (λ (us : List Token). read_limited us) (sym at) ∙ o ∙ (λ i. Err (d i, e i))) (subst (λ (us : List Token). Within u (read 0 us)) at w) p)

-- ---- what was passed passes
pub completed_within : (ts passed rest : List Token) (r : Rule) → read_limited ts ≡ Err (r, rest) → ts ≡ passed ++ rest → (fix : List Token) × (a : Phrase) × Good 0 a × (spell a [] ≡ passed ++ fix) × (text_nesting a ≤ deepest_expression) × (length fix ≤ 16 * get_or (counts 0 a []) (length passed) 0 + 1)
completed_within ts passed rest r o s =
    let m = refused_fits ts (r, rest) o in
    let same : m.0 ≡ passed = append_cancel_right m.0 passed rest (sym m.3 ∙ s) in
    (m.1, m.2, m.4, m.5 ∙ ap (λ (k : List Token). k ++ m.1) same, greatest_fits (counts 0 m.2 []) deepest_expression m.6, subst (λ (k : List Token). length m.1 ≤ 16 * get_or (counts 0 m.2 []) (length k) 0 + 1) same m.7)

refused_passes : (ts passed rest : List Token) (r : Rule) → read_limited ts ≡ Err (r, rest) → ts ≡ passed ++ rest → Passes (phrases 0) (map Some (looks passed))
refused_passes ts passed rest r o s =
    let m = completed_within ts passed rest r o s in
    passes_before (phrases 0) (map Some (looks passed)) (map Some (looks m.0)) (subst (λ (ks : List (Option Look)). Passes (phrases 0) ks) (ap (λ (us : List Token). map Some (looks us)) m.3 ∙ looked_ahead passed m.0) (read_passes m.1 m.2 m.4))

pub is_refused : (ts passed rest : List Token) (end : Place) (r : Rule) → read_limited ts ≡ Err (r, rest) → ts ≡ passed ++ rest → RefusesExpression ts end (record { rule = r; place = get_or (map (λ (t : Token). t.place) ts) (length passed) end })
is_refused ts passed rest end r o s = refused_where_passed ts passed rest end r o s (refused_passes ts passed rest r o s)

pub limited_completes : (ts passed rest : List Token) (r : Rule) → read_limited ts ≡ Err (r, rest) → ts ≡ passed ++ rest → Completes 0 passed
limited_completes ts passed rest r o s = (let m = completed_within ts passed rest r o s in completed 0 passed m.0 m.1 m.2 m.3)

-- ---- one of both, whatever the tokens
pub one_of_both : (ts : List Token) (end : Place) → ((n : ℕ) × (t : Tree) × ReadsExpression ts n t) ⊎ ((r : Refusal) × RefusesExpression ts end r)
one_of_both ts end = by (read_limited ts) refl
  where
    by : (z : Out Phrase) → read_limited ts ≡ z → ((n : ℕ) × (t : Tree) × ReadsExpression ts n t) ⊎ ((r : Refusal) × RefusesExpression ts end r)
    by (Ok (a, rest)) e = inl (length (spell a []), tree_of a, is_read ts rest a e)
    by (Err (r, rest)) e = (let m = refused_fits ts (r, rest) e in inr (record { rule = r; place = get_or (map (λ (t : Token). t.place) ts) (length m.0) end }, is_refused ts m.0 rest end r e m.3))
