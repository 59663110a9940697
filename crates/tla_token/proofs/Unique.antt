-- A stretch of a text has at most one token list, and at most one refusal.
use Rattle.std.proofs.Common.{◌≡◌, ℕ, ◌+◌, Bool, true, false, nat_eq, List, [], ◌∷◌, ◌++◌, length, drop, codes, ◌⊎◌, inl, inr, subst, map, Option, Some, None, refl, sym, ap, ◌∙◌}
use Rattle.std.specs.List.{flat_map, starts_with}
use Rattle.std.specs.Str.{bytes_eq}
use Rattle.std.proofs.lemmas.Bool.{or_cases}
use Rattle.tla_token.specs.declared.rule.Rule.{Rule}
use Rattle.tla_token.specs.declared.rule.Refusal.{Refusal}
use Rattle.tla_token.specs.declared.place.Place.{Place}
use Rattle.tla_token.specs.Places.{after, place_at}
use Rattle.tla_token.specs.Signs.{is_among}
use Rattle.tla_token.specs.Lexemes.{name}
use Rattle.tla_token.specs.Tokens.{Token, Piece, blank, block, line, lexeme, openings, TokAlgorithm, bytes_of, text_of, AllFit, tokens_of, stretch, Tok}
use Rattle.tla_token.specs.Offences.{Part, sound, parts_text, PartsFit, Offence, kind_offences, offences, least, Offends}
use Rattle.tla_token.specs.Cut.{parts, pieces}
use Rattle.tla_token.proofs.Spelled.{begins_is, same_bytes}
use Rattle.tla_token.proofs.Parted.{cut_back}

pub sound_text : (ps : List Piece) → parts_text (map sound ps) ≡ text_of ps
sound_text [] = refl
sound_text (p ∷ ps) = ap (λ (u : List ℕ). bytes_of p ++ u) (sound_text ps)

pub sound_fit : (ps : List Piece) → AllFit ps → PartsFit (map sound ps)
sound_fit [] h = tt
sound_fit (p ∷ ps) (f, h) = (rw (sound_text ps) f, sound_fit ps h)

pub sound_pieces : (ps : List Piece) → pieces (map sound ps) ≡ ps
sound_pieces [] = refl
sound_pieces (p ∷ ps) = ap (λ (qs : List Piece). p ∷ qs) (sound_pieces ps)

-- pieces that fit are found
pub pieces_back : (ps : List Piece) → AllFit ps → parts (text_of ps) ≡ map sound ps
pieces_back ps h = ap parts (sym (sound_text ps)) ∙ cut_back (map sound ps) (sound_fit ps h)

pub tok_parts : (text : List ℕ) (from to : ℕ) (ts : List Token) → Tok text from to ts
    → (ps : List Piece) × (parts (stretch text from to) ≡ map sound ps) × (ts ≡ tokens_of (place_at text from) from ps)
tok_parts text from to ts t = (t.pieces, ap parts t.cut ∙ pieces_back t.pieces t.fit, t.tokens)

tok_tokens : (text : List ℕ) (from to : ℕ) (ts : List Token) → Tok text from to ts → ts ≡ tokens_of (place_at text from) from (pieces (parts (stretch text from to)))
tok_tokens text from to ts t =
    let r = tok_parts text from to ts t in
    r.2 ∙ ap (tokens_of (place_at text from) from) (sym (ap pieces r.1 ∙ sound_pieces r.0))

pub one_list : (text : List ℕ) (from to : ℕ) (ts us : List Token) → Tok text from to ts → Tok text from to us → ts ≡ us
one_list text from to ts us t u = tok_tokens text from to ts t ∙ sym (tok_tokens text from to us u)

-- ---- offences

pub offends_parts : (a : Bool) (text : List ℕ) (from to : ℕ) (r : Refusal) → Offends a text from to r
    → (at : ℕ) × (least (offences a from (parts (stretch text from to))) ≡ Some (r.rule, at)) × (r.place ≡ place_at text at)
offends_parts a text from to r o =
    let same : parts (stretch text from to) ≡ o.parts = ap parts o.cut ∙ cut_back o.parts o.fit in
    (o.at, ap (λ (ps : List Part). least (offences a from ps)) same ∙ o.first, o.place)

same_offence : (r q : Rule) (at by : ℕ) → ◌≡◌ {A = Option Offence} (Some (r, at)) (Some (q, by)) → (r ≡ q) × (at ≡ by)
same_offence r q at by e = (ap (λ (o : Option Offence). rule_in r o) e, ap (λ (o : Option Offence). at_in at o) e)
  where
    rule_in : Rule → Option Offence → Rule
    rule_in d None = d
    rule_in d (Some o) = o.0

    at_in : ℕ → Option Offence → ℕ
    at_in d None = d
    at_in d (Some o) = o.1

same_refusal : (r q : Refusal) → r.rule ≡ q.rule → r.place ≡ q.place → r ≡ q
same_refusal r q e f = λ i. record { rule = e i; place = f i }

pub one_refusal : (a : Bool) (text : List ℕ) (from to : ℕ) (r q : Refusal) → Offends a text from to r → Offends a text from to q → r ≡ q
one_refusal a text from to r q o p =
    let x = offends_parts a text from to r o in
    let y = offends_parts a text from to q p in
    let s = same_offence r.rule q.rule x.0 y.0 (sym x.1 ∙ y.1) in
    same_refusal r q s.0 (x.2 ∙ ap (place_at text) s.1 ∙ sym y.2)

-- ---- algorithms

one_opening : (bytes v w : List ℕ) → is_among openings v ≡ true → is_among openings w ≡ true → starts_with nat_eq bytes v ≡ true → starts_with nat_eq bytes w ≡ true → v ≡ w
one_opening bytes v w i j x y =
    elim (opening_is v i) [
      | inl a ↦ elim (opening_is w j) [
        | inl b ↦ sym a ∙ b
        | inr b ↦ absurd (apart (drop 11 bytes) (drop 6 bytes) (sym (begins_is bytes (codes "--algorithm") (rw (← a) at x)) ∙ begins_is bytes (codes "--fair") (rw (← b) at y)))
      ]
      | inr a ↦ elim (opening_is w j) [
        | inl b ↦ absurd (apart (drop 11 bytes) (drop 6 bytes) (sym (begins_is bytes (codes "--algorithm") (rw (← b) at y)) ∙ begins_is bytes (codes "--fair") (rw (← a) at x)))
        | inr b ↦ sym a ∙ b
      ]
    ]
  where
    opening_is : (v : List ℕ) → is_among openings v ≡ true → (codes "--algorithm" ≡ v) ⊎ (codes "--fair" ≡ v)
    opening_is v i =
        elim (or_cases (bytes_eq (codes "--algorithm") v) (is_among (codes "--fair" ∷ []) v) i) [
          | inl e ↦ inl (same_bytes (codes "--algorithm") v e)
          | inr k ↦ elim (or_cases (bytes_eq (codes "--fair") v) false k) [ inl e ↦ inr (same_bytes (codes "--fair") v e) | inr f ↦ absurd cc ]
        ]

    apart : (l r : List ℕ) → codes "--algorithm" ++ l ≡ codes "--fair" ++ r → ⊥
    apart l r e = (let f : true ≡ false = ap (λ (u : List ℕ). starts_with nat_eq u (codes "--a")) e in cc)

pub one_algorithm : (text : List ℕ) (from to : ℕ) (ts us : List Token) → TokAlgorithm text from to ts → TokAlgorithm text from to us → ts ≡ us
one_algorithm text from to ts us t u =
    let o : t.opening ≡ u.opening = one_opening (stretch text from to) t.opening u.opening t.is_opening u.is_opening t.stands u.stands in
    let F : List ℕ → Type 0 = λ w. Tok text (from + length w) to t.more in
    let m : t.more ≡ u.more = one_list text (from + length u.opening) to t.more u.more (subst F o t.tok) u.tok in
    t.tokens ∙ begun o m ∙ sym u.tokens
  where
    begun : t.opening ≡ u.opening → t.more ≡ u.more
        → record { kind = name t.opening; at = from; place = place_at text from } ∷ t.more ≡ record { kind = name u.opening; at = from; place = place_at text from } ∷ u.more
    begun o m = rw (o, m) refl

-- ---- offences of sound parts are those of their tokens

abbrev pub token_offences : Bool → Token → List Offence
token_offences a t = kind_offences a t.at t.kind

sound_offences : (a : Bool) (p : Place) (at : ℕ) (ps : List Piece) → offences a at (map sound ps) ≡ flat_map (token_offences a) (tokens_of p at ps)
sound_offences a p at [] = refl
sound_offences a p at (blank b ∷ ps) = sound_offences a (after p (b ∷ [])) (at + 1) ps
sound_offences a p at (block body ∷ ps) = sound_offences a (after p (bytes_of (block body))) (at + length (bytes_of (block body))) ps
sound_offences a p at (line body ∷ ps) = sound_offences a (after p (bytes_of (line body))) (at + length (bytes_of (line body))) ps
sound_offences a p at (lexeme k bytes ∷ ps) = ap (λ (os : List Offence). kind_offences a at k ++ os) (sound_offences a (after p bytes) (at + length bytes) ps)

pub tok_offences : (a : Bool) (text : List ℕ) (from to : ℕ) (ts : List Token) → Tok text from to ts → offences a from (parts (stretch text from to)) ≡ flat_map (λ t. kind_offences a t.at t.kind) ts
tok_offences a text from to ts t =
    let r = tok_parts text from to ts t in
    ap (offences a from) r.1 ∙ sound_offences a (place_at text from) from r.0 ∙ ap (flat_map (token_offences a)) (sym r.2)
