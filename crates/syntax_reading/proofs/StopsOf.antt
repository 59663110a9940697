-- What is read passes, and what is refused is refused at the first token that no algorithm has there, over kinds and columns: of a reader of either syntax.
use Rattle.std.proofs.Common.{◌≡◌, ◌⊎◌, ℕ, suc, ◌<◌, ◌≤◌, true, List, [], ◌∷◌, ◌++◌, length, take, drop, map, get_or, Option, Some, None, Ok, Err, inl, inr, refl, sym, ap, ◌∙◌, subst, append_assoc, length-append, arith}
use Rattle.std.specs.List.{list_all}
use Rattle.std.proofs.lemmas.List.{append-nil, append_cancel_right, take-append-drop, take_all, length-map}
use Rattle.std.proofs.lemmas.List.Folds.{list_all-append}
use Rattle.std.proofs.lemmas.Bool.{and_parts, cases_order}
use Rattle.tla_token.specs.declared.place.Place.{Place}
use Rattle.tla_token.specs.declared.rule.Rule.{Rule}
use Rattle.tla_token.specs.declared.rule.Rule.TheVariants.{Syntax}
use Rattle.tla_token.specs.Tokens as text
use Rattle.tla_tree.specs.Lexical.{Token}
use Rattle.tla_tree.specs.Reader.{Out, Stop, Reader}
use Rattle.tla_tree.specs.FirstStop.{Look, look, looks, to_end, Open, is_within, Grammar, Begins, Passes, StopRule, StopsAt}
use Rattle.tla_tree.proofs.StopLaws.{longer, passes_begins}
use Rattle.tla_tree.proofs.StopsThere.{before, through, is_there}
use Rattle.pcal_tree.specs.AlgorithmTokens.{views}
use Rattle.pcal_tree.specs.Grammar as grammar
use Rattle.pcal_tree.specs.Grammar.{Text, Good, spell, algorithm_of, Spells}
use Rattle.pcal_tree.specs.OpenForms.{opens}
use Rattle.pcal_tree.specs.OffencesSyntax.{algorithms, PassesTokens, RefusesTokens}
use Rattle.pcal_tree.proofs.LinesGood.{spelled_again, begins, begun}
use Rattle.pcal_tree.proofs.OpensLaws.{as_many_opens}
use Rattle.syntax_reading.specs.Missing.{Missing}
use Rattle.syntax_reading.proofs.Mends.{Mend, none}
use Rattle.syntax_reading.proofs.SameOpens.{same_opens}

-- a reader of algorithms of this syntax: what it reads is spelled, what is spelled it reads, and where it refuses none goes on and those before can be gone on with
pub record ReadsAll (syntax : grammar.Syntax) (read : Reader Text) : Type 0 where
  pub spelled : (ts : List Token) (x : Text) (rest : List Token) → read ts ≡ Ok (x, rest) → Good syntax x × (ts ≡ spell x []) × (rest ≡ [])
  pub through : (ts : List Token) (t : Token) (rest : List Token) (q : Rule) → read ts ≡ Err (q, t ∷ rest) → (passed : List Token) → ts ≡ passed ++ t ∷ rest → (x : Text) → Good syntax x → (more : List Token) → spell x [] ≡ passed ++ t ∷ more → ⊥
  pub unspelled : (ts rest : List Token) (q : Rule) → read ts ≡ Err (q, rest) → (x : Text) → Good syntax x → ts ≡ spell x [] → ⊥
  pub again : (x : Text) → Good syntax x → (ts : List Token) → spell x [] ≡ ts → read ts ≡ Ok (x, [])
  pub missing : Missing
  pub mended : (ts : List Token) (u : Stop) → read ts ≡ Err u → Mend (Good syntax) spell opens none 0 16 (missing ts) ts u

-- ---- tokens with the end after them
ends_there : (xs ys : List Look) (more : List (Option Look)) → map Some xs ++ None ∷ [] ≡ (map Some ys ++ None ∷ []) ++ more → xs ≡ ys
ends_there [] [] more e = refl
ends_there [] (y ∷ ys) more e = absurd cc
ends_there (x ∷ xs) [] more e = absurd cc
ends_there (x ∷ xs) (y ∷ ys) more e = (let rest = ends_there xs ys more (ap (drop 1) e) in let same : x ≡ y = cc in λ i. same i ∷ rest i)

all_to_end : (ts : List Token) → take (suc (length ts)) (to_end ts) ≡ to_end ts
all_to_end ts =
    let n = length-append (map Some (looks ts)) (None ∷ []) in
    let m = length-map (looks ts) Some ∙ length-map ts look in
    take_all (suc (length ts)) (to_end ts) (omega (arith, n, m))

begins_shorter : (G : Grammar) (ks : List (Option Look)) (n m : ℕ) → n ≤ m → Begins G (take m ks) → Begins G (take n ks)
begins_shorter G ks n m h (more, ns, g) =
    let w = longer n m ks h in
    (w.0 ++ more, ns, subst (λ (ls : List (Option Look)). G ls ns) (ap (λ (ls : List (Option Look)). ls ++ more) w.1 ∙ append_assoc (take n ks) w.0 more) g)

abbrev pub place_at : List text.Token → ℕ → Place → Place
place_at ts n end = get_or (map (λ (t : text.Token). t.place) ts) n end

module _ (syntax : grammar.Syntax) (read : Reader Text) (facts : ReadsAll syntax read) where
  -- an algorithm that goes to the end of tokens has tokens that look like them
  spelled_to_end : (ts : List Token) → Begins (algorithms syntax) (to_end ts) → (x : Text) × Good syntax x × (ts ≡ spell x [])
  spelled_to_end ts (more, ns, (x, g, s, c)) = (let v = spelled_again syntax (spell x []) ts (ends_there (looks (spell x [])) (looks ts) more s) x g refl in (v.0, v.1, v.2))

  -- ---- a refusal
  -- it is by the rule of syntax
  pub refused_by_syntax : (ts rest : List Token) (q : Rule) → read ts ≡ Err (q, rest) → q ≡ Syntax
  refused_by_syntax ts rest q o = (facts.mended ts (q, rest) o).rule

  -- and what was passed can be gone on with
  pub refused_is_completed : (ts passed rest : List Token) (q : Rule) → read ts ≡ Err (q, rest) → ts ≡ passed ++ rest → (fix : List Token) × (x : Text) × Good syntax x × (spell x [] ≡ passed ++ fix)
  refused_is_completed ts passed rest q o s =
      let c = facts.mended ts (q, rest) o in
      let same : passed ≡ c.read = append_cancel_right passed c.read rest (sym s ∙ c.parts) in
      (c.fill.fix, c.fill.whole, c.fill.good, c.fill.tokens [] ∙ ap (λ (v : List Token). c.read ++ v) (append-nil c.fill.fix) ∙ ap (λ (v : List Token). v ++ c.fill.fix) (sym same))

  pub begins_before : (passed rest : List Token) (q : Rule) → read (passed ++ rest) ≡ Err (q, rest) → Begins (algorithms syntax) (take (length passed) (to_end (passed ++ rest)))
  begins_before passed rest q o =
      let w = refused_is_completed (passed ++ rest) passed rest q o refl in
      subst (λ (ks : List (Option Look)). Begins (algorithms syntax) ks) (sym (before passed rest)) (begins syntax passed w.0 w.1 w.2 w.3)

  pub none_begins : (passed rest : List Token) (q : Rule) → read (passed ++ rest) ≡ Err (q, rest) → Begins (algorithms syntax) (take (suc (length passed)) (to_end (passed ++ rest))) → ⊥
  none_begins passed (t ∷ rest) q o b =
      let w = begun syntax (passed ++ t ∷ []) (subst (λ (ks : List (Option Look)). Begins (algorithms syntax) ks) (through passed t rest) b) in
      facts.through (passed ++ t ∷ rest) t rest q o passed refl w.0 w.2 w.1 (w.3 ∙ append_assoc passed (t ∷ []) w.1)
  none_begins passed [] q o b =
      let whole = ap (λ (ts : List Token). take (suc (length passed)) (to_end ts)) (append-nil passed) ∙ all_to_end passed in
      let w = spelled_to_end passed (subst (λ (ks : List (Option Look)). Begins (algorithms syntax) ks) whole b) in
      facts.unspelled (passed ++ []) [] q o w.0 w.1 (append-nil passed ∙ w.2)

  pub refused_there : (ts passed rest : List Token) (q : Rule) → read ts ≡ Err (q, rest) → ts ≡ passed ++ rest
      → Begins (algorithms syntax) (take (length passed) (to_end ts)) × (Begins (algorithms syntax) (take (suc (length passed)) (to_end ts)) → ⊥)
  refused_there ts passed rest q o s =
      let at = ap read (sym s) ∙ o in
      subst (λ (us : List Token). Begins (algorithms syntax) (take (length passed) (to_end us)) × (Begins (algorithms syntax) (take (suc (length passed)) (to_end us)) → ⊥)) (sym s) (begins_before passed rest q at, none_begins passed rest q at)

  -- where what was passed passes
  refused_stops : (ts passed rest : List Token) (q : Rule) → read ts ≡ Err (q, rest) → ts ≡ passed ++ rest → Passes (algorithms syntax) (map Some (looks passed)) → StopsAt (algorithms syntax) (to_end ts) (length passed) Syntax
  refused_stops ts passed rest q o s p =
      let w = refused_there ts passed rest q o s in
      record {
        there = subst (λ (us : List Token). length passed < length (to_end us)) (sym s) (is_there passed rest);
        passed = subst (λ (us : List Token). Passes (algorithms syntax) (take (length passed) (to_end us))) (sym s) (subst (λ (ks : List (Option Look)). Passes (algorithms syntax) ks) (sym (before passed rest)) p);
        stopped = λ b. w.1 (passes_begins (algorithms syntax) _ b);
        rule = inr (refl, w.1);
      }

  pub is_refused : (ts : List text.Token) (passed rest : List Token) (end : Place) (q : Rule) → read (views ts) ≡ Err (q, rest) → views ts ≡ passed ++ rest → Passes (algorithms syntax) (map Some (looks passed))
      → RefusesTokens syntax ts end (record { rule = q; place = place_at ts (length passed) end })
  is_refused ts passed rest end q o s p =
      subst (λ (r : Rule). RefusesTokens syntax ts end (record { rule = r; place = place_at ts (length passed) end })) (sym (refused_by_syntax (views ts) rest q o))
      (record { passed = length passed; stops = refused_stops (views ts) passed rest q o s p; place = refl })

  -- ---- what is read passes, and what passes is read
  pub read_passes : (ts : List text.Token) (x : Text) (rest : List Token) → read (views ts) ≡ Ok (x, rest) → list_all is_within (opens x) ≡ true → PassesTokens syntax ts × Spells syntax ts (algorithm_of x)
  read_passes ts x rest o h =
      let w = facts.spelled (views ts) x rest o in
      let ks = to_end (views ts) in
      let all = take-append-drop (length ks) (opens x) in
      let few = (and_parts (list_all is_within (take (length ks) (opens x))) (list_all is_within (drop (length ks) (opens x))) (sym (list_all-append is_within (take (length ks) (opens x)) (drop (length ks) (opens x))) ∙ ap (list_all is_within) all ∙ h)).0 in
      (([], opens x, (x, w.0, ap to_end (sym w.1) ∙ sym (append-nil ks), refl), few), (x, w.0, w.1, refl))

  pub passed_is_read : (ts : List text.Token) → PassesTokens syntax ts → (x : Text) × (read (views ts) ≡ Ok (x, [])) × (list_all is_within (opens x) ≡ true)
  passed_is_read ts (more, ns, (x, g, s, c), few) =
      let us = views ts in
      let v = spelled_again syntax (spell x []) us (ends_there (looks (spell x [])) (looks us) more s) x g refl in
      let n = as_many_opens v.0 ∙ ap length (sym v.2) in
      let m = length-append (map Some (looks us)) (None ∷ []) in
      let l = length-map (looks us) Some ∙ length-map us look in
      let all = take_all (length (to_end us)) (opens v.0) (omega (arith, n, m, l)) in
      let same : opens v.0 ≡ ns = same_opens v.0 x v.3 ∙ c in
      (v.0, facts.again v.0 v.1 us (sym v.2), ap (list_all is_within) (sym all) ∙ ap (λ (os : List Open). list_all is_within (take (length (to_end us)) os)) same ∙ few)

  -- ---- a refusal by the rule of syntax is where reading stops
  stops_before : (ts passed rest : List Token) (q : Rule) → read ts ≡ Err (q, rest) → ts ≡ passed ++ rest → (n : ℕ) → Begins (algorithms syntax) (take n (to_end ts)) → (Begins (algorithms syntax) (take (suc n) (to_end ts)) → ⊥) → n ≡ length passed
  stops_before ts passed rest q o s n b none = by (cases_order n (length passed))
    where
      by : (n ≡ length passed) ⊎ ((n < length passed) ⊎ (length passed < n)) → n ≡ length passed
      by (inl e) = e
      by (inr (inl l)) = absurd (none (begins_shorter (algorithms syntax) (to_end ts) (suc n) (length passed) (omega arith) (refused_there ts passed rest q o s).0))
      by (inr (inr l)) = absurd ((refused_there ts passed rest q o s).1 (begins_shorter (algorithms syntax) (to_end ts) (suc (length passed)) n (omega arith) b))

  read_begins : (ts : List Token) (x : Text) (rest : List Token) (n : ℕ) → read ts ≡ Ok (x, rest) → Begins (algorithms syntax) (take n (to_end ts))
  read_begins ts x rest n o =
      let w = facts.spelled ts x rest o in
      (drop n (to_end ts), opens x, (x, w.0, ap to_end (sym w.1) ∙ sym (take-append-drop n (to_end ts)), refl))

  abbrev pub StopsReading : List text.Token → Place → Place → Type 0
  StopsReading ts end at = (passed rest : List Token) × (read (views ts) ≡ Err (Syntax, rest)) × (views ts ≡ passed ++ rest) × (at ≡ place_at ts (length passed) end)

  pub refused_is_read_so : (ts : List text.Token) (end at : Place) → RefusesTokens syntax ts end (record { rule = Syntax; place = at }) → StopsReading ts end at
  refused_is_read_so ts end at a = none a.stops.rule
    where
      from : (Begins (algorithms syntax) (take (suc a.passed) (to_end (views ts))) → ⊥) → (o : Out Text) → read (views ts) ≡ o → StopsReading ts end at
      from never (Ok (x, rest)) o = absurd (never (read_begins (views ts) x rest (suc a.passed) o))
      from never (Err (q, rest)) o =
          let m = facts.mended (views ts) (q, rest) o in
          let n = stops_before (views ts) m.read rest q o m.parts a.passed (passes_begins (algorithms syntax) _ a.stops.passed) never in
          (m.read, rest, o ∙ ap (λ (r : Rule). Err (r, rest)) m.rule, m.parts, a.place ∙ ap (λ (i : ℕ). place_at ts i end) n)

      none : StopRule (algorithms syntax) (take (suc a.passed) (to_end (views ts))) Syntax → StopsReading ts end at
      none (inl (e, b)) = absurd cc
      none (inr (e, never)) = from never (read (views ts)) refl
