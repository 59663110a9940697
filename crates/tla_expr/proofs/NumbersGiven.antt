-- The tokens of a text that is given to be read have no numbers past the limit.
use Rattle.std.proofs.Common.{◌≡◌, ℕ, zero, suc, ◌+◌, ◌<◌, if◌then◌else◌, Bool, true, false, nat_lt, nat_le, List, [], ◌∷◌, ◌++◌, length, map, Option, Some, None, refl, sym, ap, ◌∙◌, subst}
use Rattle.std.specs.Prelude.{drop}
use Rattle.std.specs.Str.{bytes_eq}
use Rattle.std.specs.List.{flat_map}
use Rattle.std.specs.Option.{option_map}
use Rattle.std.proofs.lemmas.Bool.{leb-false}
use Rattle.tla_token.specs.declared.place.Place.{Place}
use Rattle.tla_token.specs.declared.fault.Reading.TheVariants as reading
use Rattle.tla_token.specs.declared.rule.Rule.{Rule}
use Rattle.tla_token.specs.declared.token.Token as code_token
use Rattle.tla_token.specs.declared.token.Tokens.{Tokens}
use Rattle.tla_token.specs.Limits.{past_numbers}
use Rattle.tla_token.specs.Places.{after, place_at}
use Rattle.tla_token.specs.Words.{is_pluscal_word, is_tla_word}
use Rattle.tla_token.specs.Lexemes.{Kind, name, number, string, one, other}
use Rattle.tla_token.specs.Tokens.{Token, Piece, blank, block, line, lexeme, bytes_of, tokens_of, stretch, Tok, TokAlgorithm}
use Rattle.tla_token.specs.Offences.{sound, Offence, offence_if, kind_offences, offences, or_earlier, least}
use Rattle.tla_token.specs.Cut.{parts}
use Rattle.tla_token.specs.Readings.{read_offences, number_offences, joined, last_quote, line_offence, first_offence, opening_of, IsCutAs, offence_as, AreTokens, given_offence}
use Rattle.tla_token.specs.Scanning.{lexemes_of}
use Rattle.tla_token.specs.TokensSeen.{token_seen, tokens_seen}
use Rattle.tla_token.proofs.Unique.{tok_parts, tok_offences, one_algorithm}
use Rattle.tla_token.proofs.Given.{found_tok, algorithm_by}
use Rattle.tla_tree.specs.Tree.{Word}
use Rattle.tla_tree.specs.Lexical as tk
use Rattle.tla_tree.specs.Lexical.{TokenView}
use Rattle.tla_tree.specs.TokenViews.{word_kinds, kind_among, word_kind, kind_of, view, views}
use Rattle.tla_tree.specs.Reader.{next}
use Rattle.tla_tree.specs.laws.Writable.{IsOfText, AreOfText, IsSmall, AreSmall}
use Rattle.tla_tree.proofs.TextTokens.{text_tokens}
use Rattle.expr_nodes.specs.ReadIn.{seen}
use Rattle.tla_expr.specs.Numbers.{NumbersFit}

-- ---- no offence
no_least : (os : List Offence) → least os ≡ None → os ≡ []
no_least [] e = refl
no_least (o ∷ os) e = some o (least os) e
  where
    some : (o : Offence) (q : Option Offence) → or_earlier o q ≡ None → o ∷ os ≡ []
    some o None e = absurd cc
    some o (Some q) e = absurd cc

no_front : {A : Type 0} (xs ys : List A) → xs ++ ys ≡ [] → (xs ≡ []) × (ys ≡ [])
no_front [] ys e = (refl, e)
no_front (x ∷ xs) ys e = absurd cc

no_left : (o q : Option Offence) → joined o q ≡ None → o ≡ None
no_left None q e = refl
no_left (Some o) None e = absurd cc
no_left (Some o) (Some q) e = absurd cc

below : (m n : ℕ) (r : Rule) (at : ℕ) → offence_if (nat_le m n) r at ≡ [] → n < m
below m n r at e = by (nat_le m n) refl e
  where
    by : (b : Bool) → nat_le m n ≡ b → offence_if b r at ≡ [] → n < m
    by true h e = absurd cc
    by false h e = leb-false m n h

small_kind : (at : ℕ) (k : Kind) → kind_offences true at k ≡ [] → IsSmall k
small_kind at (name w) e = tt
small_kind at (number n) e = below past_numbers n _ at e
small_kind at (string w) e = tt
small_kind at (one s) e = tt
small_kind at (other w) e = tt

-- ---- tokens without one
small_algorithm : (ts : List Token) → flat_map (λ (t : Token). kind_offences true t.at t.kind) ts ≡ [] → AreSmall ts
small_algorithm [] e = tt
small_algorithm (t ∷ ts) e =
    let s = no_front (kind_offences true t.at t.kind) (flat_map (λ (t : Token). kind_offences true t.at t.kind) ts) e in
    (small_kind t.at t.kind s.0, small_algorithm ts s.1)

small_number : (at : ℕ) (k : Kind) (bytes : List ℕ) → number_offences at (sound (lexeme k bytes)) ≡ [] → IsSmall k
small_number at (name w) bytes e = tt
small_number at (number n) bytes e = small_kind at (number n) e
small_number at (string w) bytes e = tt
small_number at (one s) bytes e = tt
small_number at (other w) bytes e = tt

small_read : (p : Place) (at : ℕ) (ps : List Piece) → read_offences at (map sound ps) ≡ [] → AreSmall (tokens_of p at ps)
small_read p at [] e = tt
small_read p at (blank b ∷ ps) e = small_read (after p (b ∷ [])) (at + 1) ps e
small_read p at (block body ∷ ps) e = small_read (after p (bytes_of (block body))) (at + length (bytes_of (block body))) ps e
small_read p at (line body ∷ ps) e = small_read (after p (bytes_of (line body))) (at + length (bytes_of (line body))) ps e
small_read p at (lexeme k bytes ∷ ps) e =
    let s = no_front (kind_offences false at k ++ number_offences at (sound (lexeme k bytes))) (read_offences (at + length bytes) (map sound ps)) e in
    let h = no_front (kind_offences false at k) (number_offences at (sound (lexeme k bytes))) s.0 in
    (small_number at k bytes h.1, small_read (after p bytes) (at + length bytes) ps s.1)

-- ---- as they are given
module _ (text : List ℕ) (from to : ℕ) where
  read_small : (ts : List Token) → Tok text from to ts → first_offence reading.Read text from to ≡ None → AreSmall ts
  read_small ts t e =
      let r = tok_parts text from to ts t in
      let z : read_offences from (map sound r.0) ≡ [] = ap (read_offences from) (sym r.1) ∙ no_least (read_offences from (parts (stretch text from to))) e in
      subst (λ (us : List Token). AreSmall us) (sym r.2) (small_read (place_at text from) from r.0 z)

  algorithm_small : (ts : List Token) → Tok text from to ts → first_offence reading.Algorithm text from to ≡ None → AreSmall ts
  algorithm_small ts t e =
      let xs = parts (stretch text from to) in
      let z : offences true from xs ≡ [] = no_least (offences true from xs) (no_left (least (offences true from xs)) (line_offence text (last_quote from None xs)) e) in
      small_algorithm ts (sym (tok_offences true text from to ts t) ∙ z)

-- the tokens of an algorithm behind its first one
record Behind (ts : List Token) : Type 0 where
  pub first : Token
  pub opening : List ℕ
  pub named : first.kind ≡ name opening
  pub more : List Token
  pub is : ts ≡ first ∷ more
  pub text : List ℕ
  pub from : ℕ
  pub to : ℕ
  pub tok : Tok text from to more
  pub small : AreSmall more

module _ (text : List ℕ) (from to : ℕ) (ts : List Token) where
  behind : (w : List ℕ) → opening_of (stretch text from to) ≡ Some w → TokAlgorithm text from to ts → first_offence reading.Algorithm text (from + length w) to ≡ None → Behind ts
  behind w o t e =
      let more = lexemes_of (place_at text (from + length w)) (from + length w) (parts (stretch text (from + length w) to)) in
      let k = found_tok reading.Algorithm text (from + length w) to e in
      let u : List Token = record { kind = name (stretch (stretch text from to) 0 (length w)); at = from; place = place_at text from } ∷ more in
      let a : AreTokens text from to u = algorithm_by text from to (length w) u (ap (option_map length) (sym o)) e refl in
      record {
        first = record { kind = name (stretch (stretch text from to) 0 (length w)); at = from; place = place_at text from };
        opening = stretch (stretch text from to) 0 (length w);
        named = refl;
        more = more;
        is = one_algorithm text from to ts u t (subst (λ (o : Option (List ℕ)). IsCutAs o text from to u) o a);
        text = text;
        from = from + length w;
        to = to;
        tok = k;
        small = algorithm_small text (from + length w) to more k e;
      }

-- ---- as they are seen
-- such a kind is no number past the limit
abbrev pub Fits : TokenView → Type 0
Fits k = (n : ℕ) → k ≡ tk.number n → n < past_numbers

abbrev pub AllFit : List tk.Token → Type 0
AllFit [] = Unit {0}
AllFit (t ∷ ts) = Fits t.kind × AllFit ts

abbrev is_number : TokenView → Bool
is_number (tk.number n) = true
is_number k = false

no_number : (k : TokenView) → is_number k ≡ false → Fits k
no_number k h n e = (let f : false ≡ true = sym h ∙ ap is_number e in absurd cc)

no_if : (b : Bool) (k m : TokenView) → is_number k ≡ false → is_number m ≡ false → is_number (if b then k else m) ≡ false
no_if true k m h i = h
no_if false k m h i = i

abbrev AllNo : List (Word × TokenView) → Type 0
AllNo [] = Unit {0}
AllNo (p ∷ ps) = (is_number p.1 ≡ false) × AllNo ps

among_no_number : (ps : List (Word × TokenView)) (w : Word) (k : TokenView) → AllNo ps → is_number k ≡ false → is_number (kind_among ps w k) ≡ false
among_no_number [] w k h i = i
among_no_number (p ∷ ps) w k h i = no_if (bytes_eq p.0 w) p.1 (kind_among ps w k) h.0 (among_no_number ps w k h.1 i)

no_words : AllNo word_kinds
no_words = (refl, (refl, (refl, (refl, (refl, (refl, (refl, (refl, (refl, (refl, (refl, (refl, (refl, (refl, (refl, tt)))))))))))))))

word_fits : (w : Word) → Fits (word_kind w)
word_fits w =
    let rest = among_no_number word_kinds w (if is_tla_word w then tk.other w else tk.word w) no_words (no_if (is_tla_word w) (tk.other w) (tk.word w) refl refl) in
    no_number (word_kind w) (no_if (is_pluscal_word w) (tk.reserved w) (kind_among word_kinds w (if is_tla_word w then tk.other w else tk.word w)) refl rest)

pub of_text : (k : TokenView) → IsOfText k → Fits k
of_text k h n e = subst (λ (m : TokenView). IsOfText m) e h

all_of_text : (ts : List tk.Token) → AreOfText ts → AllFit ts
all_of_text [] h = tt
all_of_text (t ∷ ts) h = (of_text t.kind h.0, all_of_text ts h.1)

-- the next token, wherever it is
fits_ahead : (bytes : List ℕ) (items : List code_token.Token) → AllFit (views (map (token_seen bytes) items)) → (i e n : ℕ) → (next e (seen bytes (drop i items))).kind ≡ tk.number n → n < past_numbers
fits_ahead bytes [] h zero e n k = absurd cc
fits_ahead bytes [] h (suc i) e n k = absurd cc
fits_ahead bytes (t ∷ items) h zero e n k = by (nat_lt e t.place.col) refl
  where
    by : (b : Bool) → nat_lt e t.place.col ≡ b → n < past_numbers
    by true l = h.0 n (rw l at k)
    by false l = (let z = rw l at k in absurd cc)
fits_ahead bytes (t ∷ items) h (suc i) e n k = fits_ahead bytes items h.1 i e n k

pub seen_fit : (v : Tokens) → AllFit (views (tokens_seen v)) → NumbersFit v
seen_fit v h i e n k = fits_ahead v.bytes.items v.items.items h i e n k

behind_fits : (v : Tokens) → Behind (tokens_seen v) → NumbersFit v
behind_fits v b =
    let first : Fits (view b.first).kind = subst (λ (k : Kind). Fits (kind_of k)) (sym b.named) (word_fits b.opening) in
    let all : AllFit (views (b.first ∷ b.more)) = (first, all_of_text (views b.more) (text_tokens b.text b.from b.to b.more b.tok b.small)) in
    seen_fit v (subst (λ (us : List Token). AllFit (views us)) (sym b.is) all)

behind_small : (ts : List Token) → Behind ts → AreSmall ts
behind_small ts b = subst (λ (us : List Token). AreSmall us) (sym b.is) (subst (λ (k : Kind). IsSmall k) (sym b.named) tt, b.small)

-- ---- what the scanner promises
module _ (text : List ℕ) (from to : ℕ) where
  given_small_as : (o : Option (List ℕ)) (ts : List Token) → opening_of (stretch text from to) ≡ o → IsCutAs o text from to ts → offence_as o text from to ≡ None → AreSmall ts
  given_small_as None ts i t e = read_small text from to ts t e
  given_small_as (Some w) ts i t e = behind_small ts (behind text from to ts w i t e)

  pub given_small : (ts : List Token) → AreTokens text from to ts → given_offence text from to ≡ None → AreSmall ts
  given_small ts t e = given_small_as (opening_of (stretch text from to)) ts refl t e

  given_fit_as : (o : Option (List ℕ)) (v : Tokens) → opening_of (stretch text from to) ≡ o → IsCutAs o text from to (tokens_seen v) → offence_as o text from to ≡ None → NumbersFit v
  given_fit_as None v i t e = seen_fit v (all_of_text (views (tokens_seen v)) (text_tokens text from to (tokens_seen v) t (read_small text from to (tokens_seen v) t e)))
  given_fit_as (Some w) v i t e = behind_fits v (behind text from to (tokens_seen v) w i t e)

  pub given_fit : (v : Tokens) → AreTokens text from to (tokens_seen v) → given_offence text from to ≡ None → NumbersFit v
  given_fit v t e = given_fit_as (opening_of (stretch text from to)) v refl t e
