-- What is read within the limits, and where reading within them stops: not early, not late, and by the rule of the grammar: of readers of either syntax.
use Rattle.std.proofs.Common.{◌≡◌, ◌⊎◌, ℕ, zero, suc, ◌+◌, ◌≤◌, true, false, List, [], ◌∷◌, ◌++◌, length, take, map, Option, Some, None, Ok, Err, inl, inr, refl, sym, ap, ◌∙◌, subst, append_assoc, length-append, arith}
use Rattle.std.specs.List.{list_all}
use Rattle.std.proofs.lemmas.List.{append-nil, length-map, append_cancel_right, take_at}
use Rattle.std.proofs.lemmas.Bool.{and_parts}
use Rattle.tla_token.specs.declared.place.Place.{Place}
use Rattle.tla_token.specs.declared.rule.Rule.{Rule}
use Rattle.tla_token.specs.declared.rule.Rule.TheVariants.{TooDeep}
use Rattle.tla_token.specs.Limits.{deepest_expression}
use Rattle.tla_tree.specs.Lexical.{Token}
use Rattle.tla_tree.specs.Reader.{Out, free, Stop, Reader}
use Rattle.tla_tree.specs.FirstStop.{Look, look, looks, to_end, Open, is_within, Begins, Passes, StopRule}
use Rattle.tla_tree.proofs.Alike.{Within, Alike, weaker}
use Rattle.tla_tree.proofs.AlikeSteps.{fair_readers}
use Rattle.tla_tree.proofs.Columns.{bare, looks_of_bare, begun_looks, looked_ahead}
use Rattle.tla_tree.proofs.Limited.{Plain, Past, told_ok, told_err, Limited}
use Rattle.tla_tree.proofs.StopLaws.{passes_begins}
use Rattle.tla_tree.proofs.StopsThere.{before, through, is_there}
use Rattle.pcal_tree.specs.AlgorithmTokens.{views}
use Rattle.pcal_tree.specs.Grammar.{Text, Good, spell, algorithm_of, Spells}
use Rattle.pcal_tree.specs.OpenForms.{opens}
use Rattle.pcal_tree.specs.OffencesSyntax.{algorithms, PassesTokens, RefusesTokens}
use Rattle.pcal_tree.proofs.LinesGood.{spelled_again, begins}
use Rattle.pcal_tree.proofs.OpensLaws.{as_many_opens}
use Rattle.syntax_reading.specs.TokenReaders.{limited_parts}
use Rattle.syntax_reading.proofs.Fair.{FairParts}
use Rattle.syntax_reading.proofs.Beside.{Fit, Deep, Late}
use Rattle.tla_token.specs.declared.rule.Refusal.{Refusal}
use Rattle.pcal_tree.specs.Algorithm.{Algorithm}
use Rattle.syntax_reading.proofs.Within.{Ending}
use Rattle.syntax_reading.proofs.StopsOf.{ReadsAll, refused_is_completed, refused_there, read_passes, passed_is_read, place_at}
use Rattle.syntax_reading.proofs.SameOpens.{same_opens}
use Rattle.tla_token.specs.Tokens as text
use Rattle.pcal_tree.specs.Grammar as grammar

-- a reader within the limits beside one without: a refusal of it looks no further, and what was passed can be gone on with within the limits
pub record ReadsWithin (syntax : grammar.Syntax) (read limited : Reader Text) : Type 0 where
  pub all : ReadsAll syntax read
  pub beside : (ts : List Token) → Limited (Fit []) (Late []) (λ z. Fit (opens z)) (λ z. Late (opens z)) ts (limited ts) (read ts)
  pub refused_again : (k : List Token) (t : Token) (r s : List Token) (q : Rule) → limited (k ++ t ∷ r) ≡ Err (q, t ∷ r) → limited (k ++ t ∷ s) ≡ Err (q, t ∷ s)
  pub refused_ends : (ts : List Token) (u : Stop) → limited ts ≡ Err u → Ending (Good syntax) spell [] opens ts u

-- ---- counts
-- one that passes the limits is not among the first ones
never_deep : (cs : List Open) (m : ℕ) → length cs ≤ m → Deep cs m → ⊥
never_deep [] m h d = d
never_deep (c ∷ cs) m h (inl (l, k)) = absurd (omega (arith, h, k))
never_deep (c ∷ cs) m h (inr d) = never_deep cs m (omega (arith, h)) d

not_first : (n m : ℕ) (cs : List Open) → length cs ≤ n + m → list_all is_within (take n cs) ≡ true → Deep cs m → ⊥
not_first zero m cs h w d = never_deep cs m (omega (arith, h)) d
not_first (suc n) m [] h w d = d
not_first (suc n) m (c ∷ cs) h w (inl (l, k)) = (let p = and_parts (is_within c) (list_all is_within (take n cs)) w in let both : true ≡ false = sym p.0 ∙ l in absurd cc)
not_first (suc n) m (c ∷ cs) h w (inr d) = (let p = and_parts (is_within c) (list_all is_within (take n cs)) w in not_first n m cs (omega (arith, h)) p.1 d)

-- what is late in an algorithm that was read to its end is deep
late_is_deep : (cs : List Open) (j : ℕ) → Late cs j 0 → Deep cs j
late_is_deep cs j l = subst (λ (z : List Open). Deep z j) (append-nil cs) (l [] j (omega arith))

fit_or_deep : (cs : List Open) (m : ℕ) → Fit cs → Deep cs m → ⊥
fit_or_deep [] m f d = d
fit_or_deep (c ∷ cs) m f (inl (l, k)) = (let p = and_parts (is_within c) (list_all is_within cs) f in let both : true ≡ false = sym p.0 ∙ l in absurd cc)
fit_or_deep (c ∷ cs) m f (inr d) = (let p = and_parts (is_within c) (list_all is_within cs) f in fit_or_deep cs m p.1 d)

-- ---- a refusal, whatever follows
pub limited_fair : (b n m : ℕ) → b ≤ n → b ≤ m → FairParts b (limited_parts n) (limited_parts m)
limited_fair b n m i j =
    (let h = fair_readers b n m i j (Some deepest_expression) in
    let k = fair_readers b n m i j (Some 199) in
    record { expr = weaker (omega arith) (h.expr 0 free); arguments = weaker (omega arith) (h.phrases 0); subscripts = weaker (omega arith) (k.phrases 0); room = λ d. refl })

-- it is refused there whatever follows
pub same_refusal : (k : List Token) (t : Token) (r s : List Token) (q : Rule) (o : Out Text) → Alike k t r s (Err (q, t ∷ r)) o → o ≡ Err (q, t ∷ s)
same_refusal k t r s q o (inl ([], l, e, d)) = d
same_refusal k t r s q o (inl (x ∷ j, l, e, d)) = (let n : length r ≡ length (j ++ t ∷ r) = (let m = ap length e in omega (arith, m)) in let i = length-append j (t ∷ r) in absurd (omega (arith, n, i)))
same_refusal k t r s q o (inr (w, v)) = (let n = ap length w.1 in let i = length-append w.0 (t ∷ r) in absurd (omega (arith, n, i)))

module _ (syntax : grammar.Syntax) (read limited : Reader Text) (facts : ReadsWithin syntax read limited) where
  -- ---- what is read
  -- it is read without the limits too, and nowhere in it too many forms are open
  pub read_within : (ts : List Token) (x : Text) (rest : List Token) → limited ts ≡ Ok (x, rest) → (read ts ≡ Ok (x, rest)) × Fit (opens x)
  read_within ts x rest o = (let w = told_ok (facts.beside ts) o in (w.0, w.1 refl))

  -- and what is so is read within the limits
  pub fits_within : (ts : List Token) (x : Text) (rest : List Token) → read ts ≡ Ok (x, rest) → Fit (opens x) → limited ts ≡ Ok (x, rest)
  fits_within ts x rest o f = by (limited ts) refl
    where
      late : (u : List Token) → Late (opens x) (length u) (length rest) → ⊥
      late u l = (let w = facts.all.spelled ts x rest o in fit_or_deep (opens x) (length u) f (late_is_deep (opens x) (length u) (subst (λ (us : List Token). Late (opens x) (length u) (length us)) w.2 l)))

      by : (z : Out Text) → limited ts ≡ z → limited ts ≡ Ok (x, rest)
      by (Ok y) e = e ∙ sym (read_within ts y.0 y.1 e).0 ∙ o
      by (Err s) e = elim (told_err (facts.beside ts) e) [
        | inl p ↦ (let both : ◌≡◌ {A = Out Text} (Ok (x, rest)) (Err (p.1.0, s.1)) = sym o ∙ p.1.1 in absurd cc)
        | inr p ↦ absurd (late p.1 (p.5 x rest o))
      ]

  -- so what is read so are the tokens that pass
  pub limited_passes : (ts : List text.Token) (x : Text) (rest : List Token) → limited (views ts) ≡ Ok (x, rest) → PassesTokens syntax ts × Spells syntax ts (algorithm_of x)
  limited_passes ts x rest o = (let w = read_within (views ts) x rest o in read_passes syntax read facts.all ts x rest w.0 w.1)

  pub passed_is_limited : (ts : List text.Token) → PassesTokens syntax ts → (x : Text) × (limited (views ts) ≡ Ok (x, []))
  passed_is_limited ts p = (let w = passed_is_read syntax read facts.all ts p in (w.0, fits_within (views ts) w.0 [] w.1 w.2))

  -- what passes begins an algorithm with these tokens, whose counts are within the limits so far
  begun_within : (ts : List Token) → Passes (algorithms syntax) (map Some (looks ts)) → (y : Text) × (more : List Token) × Good syntax y × (spell y [] ≡ ts ++ more) × (list_all is_within (take (length ts) (opens y)) ≡ true)
  begun_within ts (more, ns, (x, g, s, c), few) =
      let ks = begun_looks (looks (spell x [])) (looks ts) (None ∷ []) more (λ y vs n. absurd cc) s in
      let us = ts ++ map bare ks.0 in
      let v = spelled_again syntax (spell x []) us (ks.1 ∙ sym (looks_of_bare ts ks.0)) x g refl in
      let same : opens v.0 ≡ ns = same_opens v.0 x v.3 ∙ c in
      let long : length (map Some (looks ts)) ≡ length ts = length-map (looks ts) Some ∙ length-map ts look in
      (v.0, map bare ks.0, v.1, sym v.2, ap (λ (os : List Open). list_all is_within (take (length ts) os)) same ∙ ap (λ (n : ℕ). list_all is_within (take n ns)) (sym long) ∙ few)

  -- an algorithm that goes on there is too deep there or before
  too_deep_through : (k : List Token) (t : Token) (r : List Token) (q : Rule) → limited (k ++ t ∷ r) ≡ Err (q, t ∷ r) → Passes (algorithms syntax) (map Some (looks (k ++ t ∷ []))) → ⊥
  too_deep_through k t r q o p =
      let w = begun_within (k ++ t ∷ []) p in
      let s : spell w.0 [] ≡ k ++ t ∷ w.1 = w.3 ∙ append_assoc k (t ∷ []) w.1 in
      by w.0 w.1 s w.4 (facts.all.again w.0 w.2 (k ++ t ∷ w.1) s) (told_err (facts.beside (k ++ t ∷ w.1)) (facts.refused_again k t r w.1 q o))
    where
      by : (y : Text) (more : List Token) → spell y [] ≡ k ++ t ∷ more → list_all is_within (take (length (k ++ t ∷ [])) (opens y)) ≡ true → read (k ++ t ∷ more) ≡ Ok (y, [])
          → Plain (q, t ∷ more) (read (k ++ t ∷ more)) ⊎ Past (λ z. Late (opens z)) (q, t ∷ more) (read (k ++ t ∷ more)) → ⊥
      by y more s few whole (inl (d, (v, e))) = (let both : ◌≡◌ {A = Out Text} (Ok (y, [])) (Err (v, t ∷ more)) = sym whole ∙ e in absurd cc)
      by y more s few whole (inr (t', u, d, e, w, late)) =
          let same : u ≡ more = (let both : t ∷ more ≡ t' ∷ u = e in cc) in
          let n = as_many_opens y ∙ ap length s ∙ length-append k (t ∷ more) in
          let i = length-append k (t ∷ []) in
          let z = ap length same in
          not_first (length (k ++ t ∷ [])) (length u) (opens y) (omega (arith, n, i, z)) few (late_is_deep (opens y) (length u) (late y [] whole))

  -- and some algorithm goes on there
  goes_through : (k : List Token) (t : Token) (r : List Token) → Within r (read (k ++ t ∷ r)) → Begins (algorithms syntax) (map Some (looks (k ++ t ∷ [])))
  goes_through k t r w = by (read (k ++ t ∷ r)) refl w
    where
      by : (o : Out Text) → read (k ++ t ∷ r) ≡ o → Within r o → Begins (algorithms syntax) (map Some (looks (k ++ t ∷ [])))
      by (Ok (y, us)) o (x, e) = (let v = facts.all.spelled (k ++ t ∷ r) y us o in begins syntax (k ++ t ∷ []) r y v.0 (sym v.1 ∙ sym (append_assoc k (t ∷ []) r)))
      by (Err (v, us)) o (x, e) =
          let s : k ++ t ∷ r ≡ (k ++ t ∷ x) ++ us = ap (λ (u : List Token). k ++ t ∷ u) e ∙ sym (append_assoc k (t ∷ x) us) in
          let m = refused_is_completed syntax read facts.all (k ++ t ∷ r) (k ++ t ∷ x) us v o s in
          begins syntax (k ++ t ∷ []) (x ++ m.0) m.1 m.2 (m.3 ∙ append_assoc k (t ∷ x) m.0 ∙ sym (append_assoc k (t ∷ []) (x ++ m.0)))

  -- ---- a refusal is not early, and by the rule of the grammar
  abbrev pub NotThrough : List Token → ℕ → Rule → Type 0
  NotThrough ts n r = (Passes (algorithms syntax) (take (suc n) (to_end ts)) → ⊥) × StopRule (algorithms syntax) (take (suc n) (to_end ts)) r

  deep_stops : (passed : List Token) (t : Token) (r : List Token) → limited (passed ++ t ∷ r) ≡ Err (TooDeep, t ∷ r) → Within r (read (passed ++ t ∷ r)) → NotThrough (passed ++ t ∷ r) (length passed) TooDeep
  deep_stops passed t r o w = (
    λ b. too_deep_through passed t r TooDeep o (subst (λ (ks : List (Option Look)). Passes (algorithms syntax) ks) (through passed t r) b),
    inl (refl, subst (λ (ks : List (Option Look)). Begins (algorithms syntax) ks) (sym (through passed t r)) (goes_through passed t r w)),
  )

  pub refused_through : (ts passed rest : List Token) (r : Rule) → limited ts ≡ Err (r, rest) → ts ≡ passed ++ rest → NotThrough ts (length passed) r
  refused_through ts passed rest r o s = by (told_err (facts.beside ts) o)
    where
      by : Plain (r, rest) (read ts) ⊎ Past (λ z. Late (opens z)) (r, rest) (read ts) → NotThrough ts (length passed) r
      by (inl (d, (v, e))) =
          (let w = refused_there syntax read facts.all ts passed rest v e s in
          subst (λ (q : Rule). NotThrough ts (length passed) q) (sym d) ((λ b. w.1 (passes_begins (algorithms syntax) _ b)), inr (refl, w.1)))
      by (inr (t, u, d, e, w, late)) =
          (let at : ts ≡ passed ++ t ∷ u = s ∙ ap (λ (v : List Token). passed ++ v) e in
          let there = deep_stops passed t u (ap limited (sym at) ∙ o ∙ (λ i. Err (d i, e i))) (subst (λ (us : List Token). Within u (read us)) at w) in
          subst (λ (q : Rule). NotThrough ts (length passed) q) (sym d) (subst (λ (us : List Token). NotThrough us (length passed) TooDeep) (sym at) there))

  -- so the tokens of a text are refused there, where those before pass
  pub limited_is_refused : (ts : List text.Token) (passed rest : List Token) (end : Place) (r : Rule) → limited (views ts) ≡ Err (r, rest) → views ts ≡ passed ++ rest → Passes (algorithms syntax) (map Some (looks passed))
      → RefusesTokens syntax ts end (record { rule = r; place = place_at ts (length passed) end })
  limited_is_refused ts passed rest end r o s p =
      let w = refused_through (views ts) passed rest r o s in
      record {
        passed = length passed;
        stops = record {
          there = subst (λ (us : List Token). suc (length passed) ≤ length (to_end us)) (sym s) (is_there passed rest);
          passed = subst (λ (us : List Token). Passes (algorithms syntax) (take (length passed) (to_end us))) (sym s) (subst (λ (ks : List (Option Look)). Passes (algorithms syntax) ks) (sym (before passed rest)) p);
          stopped = w.0;
          rule = w.1;
        };
        place = refl;
      }

  -- ---- all tokens are read or refused
  -- what was passed before a refusal passes
  pub refused_passes : (ts passed rest : List Token) (r : Rule) → limited ts ≡ Err (r, rest) → ts ≡ passed ++ rest → Passes (algorithms syntax) (map Some (looks passed))
  refused_passes ts passed rest r o s =
      let m = facts.refused_ends ts (r, rest) o in
      let same : m.read ≡ passed = append_cancel_right m.read passed rest (sym m.parts ∙ s) in
      let spelled : spell m.whole [] ≡ passed ++ m.fix = m.tokens [] ∙ ap (λ (v : List Token). m.read ++ v) (append-nil m.fix) ∙ ap (λ (v : List Token). v ++ m.fix) same in
      let ends : to_end (spell m.whole []) ≡ map Some (looks passed) ++ (map Some (looks m.fix) ++ None ∷ []) =
      ap to_end spelled ∙ ap (λ (ks : List (Option Look)). ks ++ None ∷ []) (looked_ahead passed m.fix) ∙ append_assoc (map Some (looks passed)) (map Some (looks m.fix)) (None ∷ []) in
      let a = as_many_opens m.whole in
      let b = ap length spelled in
      let c = length-append passed m.fix in
      let d = ap length m.counts in
      let e = length-append m.known m.more in
      let l = m.long in
      let n = length-map (looks passed) Some ∙ length-map passed look in
      let front : take (length (map Some (looks passed))) (opens m.whole) ≡ m.known = ap (λ (os : List Open). take (length (map Some (looks passed))) os) m.counts ∙ take_at m.known m.more (length (map Some (looks passed))) (omega (arith, a, b, c, d, e, l, n)) in
      (map Some (looks m.fix) ++ None ∷ [], opens m.whole, (m.whole, m.good, ends, refl), ap (list_all is_within) front ∙ m.fit refl)

  pub is_refused_there : (ts : List text.Token) (passed rest : List Token) (end : Place) (r : Rule) → limited (views ts) ≡ Err (r, rest) → views ts ≡ passed ++ rest → RefusesTokens syntax ts end (record { rule = r; place = place_at ts (length passed) end })
  is_refused_there ts passed rest end r o s = limited_is_refused ts passed rest end r o s (refused_passes (views ts) passed rest r o s)

  -- one of both, whatever the tokens
  pub one_of_both : (ts : List text.Token) (end : Place) → ((a : Algorithm) × PassesTokens syntax ts × Spells syntax ts a) ⊎ ((r : Refusal) × RefusesTokens syntax ts end r)
  one_of_both ts end = by (limited (views ts)) refl
    where
      by : (z : Out Text) → limited (views ts) ≡ z → ((a : Algorithm) × PassesTokens syntax ts × Spells syntax ts a) ⊎ ((r : Refusal) × RefusesTokens syntax ts end r)
      by (Ok (x, rest)) o = (let w = limited_passes ts x rest o in inl (algorithm_of x, w.0, w.1))
      by (Err (r, rest)) o = (let m = facts.refused_ends (views ts) (r, rest) o in inr (record { rule = r; place = place_at ts (length m.read) end }, is_refused_there ts m.read rest end r o m.parts))
