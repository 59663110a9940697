-- What code read of all tokens of an algorithm, as the rules on spelling, on too much and on what is left out answer these tokens: for readers of either syntax.
use Rattle.std.proofs.Common.{◌≡◌, ◌⊎◌, inl, inr, ℕ, suc, ◌+◌, ◌-◌, ◌≤◌, nat_lt, false, ◌||◌, List, [], ◌∷◌, length, map, take, get_or, Option, Some, None, Result, Ok, Err, IfOk, refl, sym, ap, subst, ◌∙◌, length-append, arith}
use Rattle.std.proofs.lemmas.List.{length-map}
use Rattle.tla_token.specs.declared.place.Place.{Place}
use Rattle.tla_token.specs.declared.rule.Rule.{Rule}
use Rattle.tla_token.specs.declared.rule.Refusal.{Refusal}
use Rattle.tla_token.specs.declared.rule.Stop.{Stop}
use Rattle.tla_token.specs.declared.token.Token as code_token
use Rattle.tla_token.specs.declared.token.Tokens.{Tokens}
use Rattle.tla_token.specs.Rules.{rule_number}
use Rattle.tla_token.specs.TokensSeen.{token_seen, tokens_seen}
use Rattle.tla_token.specs.Tokens as text
use Rattle.tla_tree.specs.Tree.{Tree}
use Rattle.tla_tree.specs.Lexical.{Token}
use Rattle.tla_tree.specs.TokenViews as expression
use Rattle.tla_tree.specs.Reader.{Out, Reader}
use Rattle.tla_tree.specs.FirstStop.{Look, Grammar, StopRule, to_end}
use Rattle.expr_nodes.specs.declared.cursor.Halt.{Halt}
use Rattle.expr_nodes.specs.declared.cursor.Halt.TheVariants as halt
use Rattle.expr_nodes.specs.ReadIn.{seen, Fails}
use Rattle.expr_nodes.specs.Ahead.{ahead, place_before}
use Rattle.pcal_tree.specs.declared.algorithm.Algorithm as code
use Rattle.pcal_tree.specs.Algorithm.{Algorithm}
use Rattle.pcal_tree.specs.AlgorithmTokens.{view, views}
use Rattle.pcal_tree.specs.Grammar.{Syntax, Text, algorithm_of, Spells}
use Rattle.pcal_tree.specs.InMemory.{algorithm_at, past_algorithm}
use Rattle.pcal_tree.specs.Offences.{first}
use Rattle.pcal_tree.specs.OffencesCounts.{count_offences}
use Rattle.pcal_tree.specs.OffencesSyntax.{algorithms, PassesTokens, RefusesTokens}
use Rattle.algorithm_answer.specs.TokensRefused.{left_out_at}
use Rattle.algorithm_answer.specs.Answered.{AreAnswered}
use Rattle.algorithm_answer.proofs.LeftOutFirst.{IsLeftOut, AreLater, counts_later, left_out_first, some_first, seen_alike}
use Rattle.algorithm_reader.specs.PartsRead.{ReadsPart}
use Rattle.syntax_reading.proofs.StopsOf.{place_at}
use Rattle.syntax_reading.proofs.StopsWithin.{ReadsWithin, limited_passes, refused_through, is_refused_there, one_of_both}
use Rattle.algorithm_reader.specs.AnsweredRead.{Answers, AnswersRead}

-- ---- tokens in memory, as both grammars see them

seen_views : (bytes : List ℕ) (items : List code_token.Token) → expression.views (map (token_seen bytes) items) ≡ seen bytes items
seen_views bytes [] = refl
seen_views bytes (t ∷ items) = ap (λ (us : List Token). expression.view (token_seen bytes t) ∷ us) (seen_views bytes items)

places_seen : (bytes : List ℕ) (items : List code_token.Token) → map (λ (t : text.Token). t.place) (map (token_seen bytes) items) ≡ map (λ (t : code_token.Token). t.place) items
places_seen bytes [] = refl
places_seen bytes (t ∷ items) = ap (λ (ps : List Place). t.place ∷ ps) (places_seen bytes items)

ahead_views : (v : Tokens) → expression.views (tokens_seen v) ≡ ahead v 0
ahead_views v = seen_views v.bytes.items v.items.items

-- the place behind so many tokens
place_behind : (v : Tokens) (k n : ℕ) → k + n ≡ length (views (tokens_seen v)) → place_at (tokens_seen v) k v.end ≡ place_before v n
place_behind v k n e =
    let l = length-map (tokens_seen v) view in
    let m = length-map v.items.items (token_seen v.bytes.items) in
    let at : k ≡ length v.items.items - n = omega (arith, e, l, m) in
    ap (λ (ps : List Place). get_or ps k v.end) (places_seen v.bytes.items v.items.items) ∙ ap (λ (j : ℕ). get_or (map (λ (t : code_token.Token). t.place) v.items.items) j v.end) at

-- ---- where a grammar stops, it is by a later rule than that on what is left out
stops_later : (G : Grammar) (ks : List (Option Look)) (r : Rule) (p : Place) → StopRule G ks r → AreLater (record { rule = r; place = p } ∷ [])
stops_later G ks r p (inl d) = ap (λ (q : Rule). nat_lt (rule_number q) 12 || false) d.0
stops_later G ks r p (inr d) = ap (λ (q : Rule). nat_lt (rule_number q) 12 || false) d.0

module _ (s : Syntax) (read limited : Reader Text) (facts : ReadsWithin s read limited) (v : Tokens) (new : List Tree) where
  abbrev ts : List text.Token
  ts = tokens_seen v

  abbrev IsAnswered : Option Refusal → Type 0
  IsAnswered answer = AreAnswered s ts v.end answer

  -- ---- where a token is left out, nothing else counts
  left_out : (answer : Option Refusal) → IsLeftOut (left_out_at ts) → answer ≡ first (left_out_at ts) → IsAnswered answer
  left_out answer h e = by (one_of_both s read limited facts ts v.end)
    where
      by : ((a : Algorithm) × PassesTokens s ts × Spells s ts a) ⊎ ((r : Refusal) × RefusesTokens s ts v.end r) → IsAnswered answer
      by (inl (a, p, w)) = record { syntax = None; counts = count_offences a; read = p; counted = (a, w, refl); is = e ∙ sym (left_out_first ts (count_offences a) h (counts_later a)) }
      by (inr (r, w)) = record { syntax = Some r; counts = []; read = w; counted = refl; is = e ∙ sym (left_out_first ts (r ∷ []) h (stops_later (algorithms s) (take (suc w.passed) (to_end (views ts))) r.rule r.place w.stops.rule)) }

  -- ---- an algorithm was read
  module _ (x : code.Algorithm) (n : ℕ) (r : ReadsPart algorithm_at past_algorithm algorithm_of v new (Ok (x, n)) (limited (ahead v 0))) where
    passed : views ts ≡ expression.views ts → PassesTokens s ts × Spells s ts (algorithm_of r.what)
    passed e = limited_passes s read limited facts ts r.what (ahead v n) (ap limited (e ∙ ahead_views v) ∙ r.is)

    one_answered : (answer : Option Refusal) → Answers v (count_offences (algorithm_at new x)) answer → IsAnswered answer
    one_answered answer a = by (seen_alike ts)
      where
        by : (views ts ≡ expression.views ts) ⊎ IsLeftOut (left_out_at ts) → IsAnswered answer
        by (inl e) = (let w = passed e in record { syntax = None; counts = count_offences (algorithm_at new x); read = w.0; counted = (algorithm_of r.what, w.1, ap count_offences r.told.tree); is = a })
        by (inr h) = left_out answer h (a ∙ left_out_first ts (count_offences (algorithm_at new x)) h (counts_later (algorithm_at new x)))

    one_spelled : Answers v (count_offences (algorithm_at new x)) None → Spells s ts (algorithm_at new x)
    one_spelled a = by (seen_alike ts)
      where
        by : (views ts ≡ expression.views ts) ⊎ IsLeftOut (left_out_at ts) → Spells s ts (algorithm_at new x)
        by (inl e) = subst (λ (g : Algorithm). Spells s ts g) (sym r.told.tree) (passed e).1
        by (inr h) = absurd (some_first (left_out_at ts) h (a ∙ left_out_first ts (count_offences (algorithm_at new x)) h (counts_later (algorithm_at new x))))

  -- ---- reading stopped
  module _ (q : Rule) (n : ℕ) (f : Fails (halt.Refused q n) (limited (ahead v 0))) where
    abbrev refusal : Refusal
    refusal = record { rule = q; place = place_before v n }

    -- at the refused token, in a reading of the same tokens
    abbrev Stopped : List Token → Type 0
    Stopped us = (rest : List Token) × (limited us ≡ Err (q, rest)) × (length rest ≡ n)

    stopped_ahead : Stopped (ahead v 0)
    stopped_ahead = by (limited (ahead v 0)) refl f
      where
        by : (o : Out Text) → limited (ahead v 0) ≡ o → Fails (halt.Refused q n) o → Stopped (ahead v 0)
        by (Ok y) e k = absurd k
        by (Err u) e k = (u.1, e ∙ (λ i. Err (k.0 i, u.1)), k.1)

    refused_there : views ts ≡ expression.views ts → RefusesTokens s ts v.end refusal
    refused_there e =
        let w : Stopped (views ts) = subst (λ (us : List Token). Stopped us) (sym (e ∙ ahead_views v)) stopped_ahead in
        let m = facts.refused_ends (views ts) (q, w.0) w.1 in
        let l : length m.read + n ≡ length (views ts) = (let a = ap length m.parts in let b = length-append m.read w.0 in let c = w.2 in omega (arith, a, b, c)) in
        subst (λ (p : Place). RefusesTokens s ts v.end (record { rule = q; place = p })) (place_behind v (length m.read) n l) (is_refused_there s read limited facts ts m.read w.0 v.end q w.1 m.parts)

    refusal_later : AreLater (refusal ∷ [])
    refusal_later =
        let w = stopped_ahead in
        let m = facts.refused_ends (ahead v 0) (q, w.0) w.1 in
        stops_later (algorithms s) (take (suc (length m.read)) (to_end (ahead v 0))) q (place_before v n) (refused_through s read limited facts (ahead v 0) m.read w.0 q w.1 m.parts).1

    stop_answered : (answer : Option Refusal) → Answers v (refusal ∷ []) answer → IsAnswered answer
    stop_answered answer a = by (seen_alike ts)
      where
        by : (views ts ≡ expression.views ts) ⊎ IsLeftOut (left_out_at ts) → IsAnswered answer
        by (inl e) = record { syntax = Some refusal; counts = []; read = refused_there e; counted = refl; is = a }
        by (inr h) = left_out answer h (a ∙ left_out_first ts (refusal ∷ []) h refusal_later)

  -- ---- whatever was read
  abbrev Got : Result (code.Algorithm × ℕ) Halt → Type 0
  Got z = ReadsPart algorithm_at past_algorithm algorithm_of v new z (limited (ahead v 0))

  pub answers : (z : Result (code.Algorithm × ℕ) Halt) → Got z → (answer : Option Refusal) → AnswersRead v new z answer → IsAnswered answer
  answers (Ok x) r answer a = one_answered x.0 x.1 r answer a
  answers (Err halt.Memory) r answer a = absurd a
  answers (Err (halt.Refused q n)) r answer a = stop_answered q n r answer a

  pub below : (z : Result (code.Algorithm × ℕ) Halt) → Got z → IfOk z (λ x. past_algorithm x.0 ≤ length new)
  below (Ok x) r = r.told.below
  below (Err e) r = tt

  -- ---- what is answered in its place
  module _ (z : Result (code.Algorithm × ℕ) Halt) (got : Got z) where
    abbrev Kept : Result code.Algorithm Stop → Type 0
    Kept o = IfOk o (λ a. (n : ℕ) × (z ≡ Ok (a, n)))

    abbrev Fine : Result code.Algorithm Stop → Type 0
    Fine o = IfOk o (λ a. AnswersRead v new z None)

    pub past_there : (o : Result code.Algorithm Stop) → Kept o → IfOk o (λ a. past_algorithm a ≤ length new)
    past_there (Ok a) k = (let r = subst (λ (y : Result (code.Algorithm × ℕ) Halt). Got y) k.1 got in r.told.below)
    past_there (Err e) k = tt

    pub spelled_there : (o : Result code.Algorithm Stop) → Kept o → Fine o → IfOk o (λ a. Spells s ts (algorithm_at new a))
    spelled_there (Ok a) k f = one_spelled a k.0 (subst (λ (y : Result (code.Algorithm × ℕ) Halt). Got y) k.1 got) (subst (λ (y : Result (code.Algorithm × ℕ) Halt). AnswersRead v new y None) k.1 f)
    spelled_there (Err e) k f = tt

    pub answered_there : (o : Result code.Algorithm Stop) → Fine o → IfOk o (λ a. AreAnswered s ts v.end None)
    answered_there (Ok a) f = answers z got None f
    answered_there (Err e) f = tt
