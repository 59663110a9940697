-- What is found of a stretch without an offence are its tokens, also where it is an algorithm's.
use Rattle.std.proofs.Common.{◌≡◌, ℕ, zero, suc, ◌+◌, ◌-◌, ◌<◌, ◌≤◌, get_or, Bool, true, false, not, nat_eq, List, [], ◌∷◌, ◌++◌, length, take, drop, map, codes, Option, Some, None, Result, Ok, Err, IfOk, refl, sym, ap, subst, ◌∙◌, arith, length-append, length-drop}
use Rattle.std.specs.Option.{option_map}
use Rattle.std.specs.List.{list_all, flat_map, starts_with}
use Rattle.std.proofs.Math.Seq.{take-append_seam}
use Rattle.std.proofs.lemmas.List.{length-take-le}
use Rattle.std.proofs.lemmas.List.Elements.{All-from_get_or}
use Rattle.std.proofs.lemmas.Bool.{and_from}
use Rattle.tla_token.specs.declared.place.Place.{Place}
use Rattle.tla_token.specs.declared.fault.Reading.{Reading}
use Rattle.tla_token.specs.declared.fault.Reading.TheVariants as reading
use Rattle.tla_token.specs.declared.rule.Refusal.{Refusal}
use Rattle.tla_token.specs.declared.rule.Stop.{Stop}
use Rattle.tla_token.specs.declared.token.Token as code
use Rattle.tla_token.specs.declared.token.Tokens.{Tokens}
use Rattle.tla_token.specs.declared.token.Kind.TheVariants as kinds
use Rattle.tla_token.specs.Places.{after, place_at}
use Rattle.tla_token.specs.Lexemes.{Kind, name, number, string, one, other}
use Rattle.tla_token.specs.Signs.{is_among}
use Rattle.tla_token.specs.Tokens.{openings, Token, Piece, blank, block, line, lexeme, bytes_of, tokens_of, stretch, holds_mark, is_unmarked, Tok, TokAlgorithm}
use Rattle.tla_token.specs.Offences.{Part, sound, part_bytes, PartsFit, Offence, kind_offences, part_offences, offences, or_earlier, least}
use Rattle.tla_token.specs.Cut.{parts}
use Rattle.tla_token.specs.Readings.{read_offences, number_offences, offences_in, joined, last_quote, line_offence, first_offence, IsRefused, names_algorithm, opening_of, IsCutAs, offence_as, AreTokens, given_offence, IsGivenRefused}
use Rattle.tla_token.specs.Words.{is_reserved}
use Rattle.tla_token.specs.KeptWords.{is_kept}
use Rattle.tla_token.specs.TokensSeen.{token_seen, tokens_seen, IsCanonical, AllCanonical}
use Rattle.tla_token.specs.Scanning.{lexemes_of}
use Rattle.tla_token.proofs.Spelled.{begins_is}
use Rattle.tla_token.proofs.Unique.{tok_offences}
use Rattle.tla_token.proofs.Cutting.{cut_fits}
use Rattle.tla_token.proofs.Exact.{parts_tok}
use Rattle.tla_token.proofs.Faulty.{all_sound}

no_least : (os : List Offence) → least os ≡ None → os ≡ []
no_least [] e = refl
no_least (o ∷ os) e = some o (least os) e
  where
    some : (o : Offence) (q : Option Offence) → or_earlier o q ≡ None → o ∷ os ≡ []
    some o None e = absurd cc
    some o (Some q) e = absurd cc

no_front : (xs ys : List Offence) → xs ++ ys ≡ [] → (xs ≡ []) × (ys ≡ [])
no_front [] ys e = (refl, e)
no_front (x ∷ xs) ys e = absurd cc

unread : (at : ℕ) (xs : List Part) → read_offences at xs ≡ [] → offences false at xs ≡ []
unread at [] e = refl
unread at (x ∷ xs) e =
    let s = no_front (part_offences false at x ++ number_offences at x) (read_offences (at + length (part_bytes x)) xs) e in
    let p = no_front (part_offences false at x) (number_offences at x) s.0 in
    λ i. p.0 i ++ unread (at + length (part_bytes x)) xs s.1 i

sounds : (r : Reading) (at : ℕ) (xs : List Part) → PartsFit xs → offences_in r at xs ≡ [] → (ps : List Piece) × (xs ≡ map sound ps)
sounds reading.Unread at xs h e = all_sound false at xs h e
sounds reading.Read at xs h e = all_sound false at xs h (unread at xs e)
sounds reading.Algorithm at xs h e = all_sound true at xs h e

lexemes_are : (p : Place) (at : ℕ) (ps : List Piece) → lexemes_of p at (map sound ps) ≡ tokens_of p at ps
lexemes_are p at [] = refl
lexemes_are p at (blank b ∷ ps) = lexemes_are (after p (b ∷ [])) (at + 1) ps
lexemes_are p at (block body ∷ ps) = lexemes_are (after p (bytes_of (block body))) (at + length (bytes_of (block body))) ps
lexemes_are p at (line body ∷ ps) = lexemes_are (after p (bytes_of (line body))) (at + length (bytes_of (line body))) ps
lexemes_are p at (lexeme k bytes ∷ ps) = ap (λ (ts : List Token). record { kind = k; at = at; place = p } ∷ ts) (lexemes_are (after p bytes) (at + length bytes) ps)

no_left : (o q : Option Offence) → joined o q ≡ None → o ≡ None
no_left None q e = refl
no_left (Some o) None e = absurd cc
no_left (Some o) (Some q) e = absurd cc

-- where no offence counts, nothing is wrong with a part
nothing_wrong : (r : Reading) (text : List ℕ) (from to : ℕ) → first_offence r text from to ≡ None → offences_in r from (parts (stretch text from to)) ≡ []
nothing_wrong reading.Unread text from to e = no_least (offences false from (parts (stretch text from to))) e
nothing_wrong reading.Read text from to e = no_least (read_offences from (parts (stretch text from to))) e
nothing_wrong reading.Algorithm text from to e =
    let xs = parts (stretch text from to) in
    no_least (offences true from xs) (no_left (least (offences true from xs)) (line_offence text (last_quote from None xs)) e)

-- the tokens that are found, where nothing is wrong
pub found_tok : (r : Reading) (text : List ℕ) (from to : ℕ) → first_offence r text from to ≡ None → Tok text from to (lexemes_of (place_at text from) from (parts (stretch text from to)))
found_tok r text from to none =
    let xs = parts (stretch text from to) in
    let s = sounds r from xs (cut_fits (stretch text from to)).1 (nothing_wrong r text from to none) in
    let P : List Token → Type 0 = λ ts. Tok text from to ts in
    subst P (sym (ap (lexemes_of (place_at text from) from) s.1 ∙ lexemes_are (place_at text from) from s.0)) (parts_tok text from to s.0 s.1)

pub tok_by : (r : Reading) (text : List ℕ) (from to : ℕ) (ts : List Token) → ts ≡ lexemes_of (place_at text from) from (parts (stretch text from to)) → first_offence r text from to ≡ None → Tok text from to ts
tok_by r text from to ts e none = (let P : List Token → Type 0 = λ us. Tok text from to us in subst P (sym e) (found_tok r text from to none))

-- ---- algorithms

unmarked_token : (t : Token) → kind_offences true t.at t.kind ≡ [] → is_unmarked t ≡ true
unmarked_token t e = by t.kind refl e
  where
    marked : (at : ℕ) (w : List ℕ) (k : Bool) → holds_mark w ≡ k → kind_offences true at (string w) ≡ [] → not (holds_mark w) ≡ true
    marked at w false h e = rw h refl
    marked at w true h e = (let z = (rw h at e) in absurd cc)

    by : (k : Kind) → t.kind ≡ k → kind_offences true t.at t.kind ≡ [] → is_unmarked t ≡ true
    by (name w) k e = rw k refl
    by (number n) k e = rw k refl
    by (string w) k e = (let f : kind_offences true t.at (string w) ≡ [] = rw k at e in rw k (marked t.at w (holds_mark w) refl f))
    by (one s) k e = rw k refl
    by (other w) k e = rw k refl

unmarked_all : (ts : List Token) → flat_map (λ t. kind_offences true t.at t.kind) ts ≡ [] → list_all is_unmarked ts ≡ true
unmarked_all [] e = refl
unmarked_all (t ∷ ts) e =
    let s = no_front (kind_offences true t.at t.kind) (flat_map (λ t. kind_offences true t.at t.kind) ts) e in
    and_from (is_unmarked t) (list_all is_unmarked ts) (unmarked_token t s.0) (unmarked_all ts s.1)

-- ---- what a stretch begins with

record Begins (bytes : List ℕ) (n : ℕ) : Type 0 where
  pub word : List ℕ
  pub is : opening_of bytes ≡ Some word
  pub len : n ≡ length word
  pub stands : starts_with nat_eq bytes word ≡ true
  pub opens : is_among openings word ≡ true
  pub free : is_reserved word ≡ false

begins : (bytes : List ℕ) (n : ℕ) → Some n ≡ option_map length (opening_of bytes) → Begins bytes n
begins bytes n e = by (starts_with nat_eq bytes (codes "--algorithm")) refl (starts_with nat_eq bytes (codes "--fair")) refl (names_algorithm (drop 6 bytes)) refl
  where
    by : (i : Bool) → starts_with nat_eq bytes (codes "--algorithm") ≡ i → (j : Bool) → starts_with nat_eq bytes (codes "--fair") ≡ j → (k : Bool) → names_algorithm (drop 6 bytes) ≡ k → Begins bytes n
    by true i j jj k kk =
        let is : opening_of bytes ≡ Some (codes "--algorithm") = rw i refl in
        let m : Some n ≡ Some 11 = e ∙ ap (option_map length) is in
        record { word = codes "--algorithm"; is = is; len = cc; stands = i; opens = refl; free = refl }
    by false i true j true k =
        let is : opening_of bytes ≡ Some (codes "--fair") = rw (i, j, k) refl in
        let m : Some n ≡ Some 6 = e ∙ ap (option_map length) is in
        record { word = codes "--fair"; is = is; len = cc; stands = j; opens = refl; free = refl }
    by false i true j false k = (let is : opening_of bytes ≡ None = rw (i, j, k) refl in let m : Some n ≡ None = e ∙ ap (option_map length) is in absurd cc)
    by false i false j k kk = (let is : opening_of bytes ≡ None = rw (i, j) refl in let m : Some n ≡ None = e ∙ ap (option_map length) is in absurd cc)

begins_so : (bytes : List ℕ) (n : ℕ) (b : Begins bytes n) → stretch bytes 0 n ≡ b.word
begins_so bytes n b =
    let s : bytes ≡ b.word ++ drop (length b.word) bytes = begins_is bytes b.word b.stands in
    let z : n - 0 ≡ length b.word = omega (arith, b.len) in
    ap (λ (k : ℕ). take k bytes) z ∙ ap (take (length b.word)) s ∙ take-append_seam b.word (drop (length b.word) bytes)

-- it is no reserved word
opening_kept : (bytes : List ℕ) (n : ℕ) → Some n ≡ option_map length (opening_of bytes) → is_kept bytes (kinds.Name (record { from = 0; to = n })) ≡ true
unfolding is_kept
opening_kept bytes n e = (let b = begins bytes n e in ap (λ (w : List ℕ). not (is_reserved w)) (begins_so bytes n b) ∙ ap not b.free)

pub opening_canonical : (bytes : List ℕ) (n at : ℕ) (p : Place) (items : List code.Token) → Some n ≡ option_map length (opening_of bytes)
    → items ≡ record { kind = kinds.Name (record { from = 0; to = n }); at = at; place = p } ∷ [] → AllCanonical bytes items
opening_canonical bytes n at p items e is = subst (AllCanonical bytes) (sym is) (All-from_get_or P (t ∷ []) t one)
  where
    t : code.Token
    t = record { kind = kinds.Name (record { from = 0; to = n }); at = at; place = p }

    P : code.Token → Type 0
    P u = IsCanonical bytes u.kind

    one : (i : ℕ) → i < 1 → P (get_or (t ∷ []) i t)
    one zero l = opening_kept bytes n e
    one (suc i) l = absurd (omega arith)

begins_not : (bytes : List ℕ) → None ≡ option_map length (opening_of bytes) → opening_of bytes ≡ None
begins_not bytes e = by (opening_of bytes) e
  where
    by : (o : Option (List ℕ)) → None ≡ option_map length o → o ≡ None
    by None e = refl
    by (Some w) e = absurd cc

pub opening_within : (text : List ℕ) (from to n : ℕ) → from ≤ to → to ≤ length text → Some n ≡ option_map length (opening_of (stretch text from to)) → from + n ≤ to
opening_within text from to n f l e =
    let b = begins (stretch text from to) n e in
    let s : stretch text from to ≡ b.word ++ drop (length b.word) (stretch text from to) = begins_is (stretch text from to) b.word b.stands in
    let size : length (stretch text from to) ≡ to - from = length-take-le (to - from) (drop from text) (omega (arith, length-drop from text)) in
    let k = ap length s in
    omega (arith, b.len, length-append b.word (drop (length b.word) (stretch text from to)))

pub algorithm_by : (text : List ℕ) (from to n : ℕ) (ts : List Token) → Some n ≡ option_map length (opening_of (stretch text from to)) → first_offence reading.Algorithm text (from + n) to ≡ None
    → ts ≡ record { kind = name (stretch (stretch text from to) 0 n); at = from; place = place_at text from } ∷ lexemes_of (place_at text (from + n)) (from + n) (parts (stretch text (from + n) to))
    → AreTokens text from to ts
algorithm_by text from to n ts e none is =
    let bytes = stretch text from to in
    let b = begins bytes n e in
    let more = lexemes_of (place_at text (from + n)) (from + n) (parts (stretch text (from + n) to)) in
    let tok : Tok text (from + n) to more = found_tok reading.Algorithm text (from + n) to none in
    let marks = sym (tok_offences true text (from + n) to more tok) ∙ nothing_wrong reading.Algorithm text (from + n) to none in
    let w : stretch bytes 0 n ≡ b.word = begins_so bytes n b in
    let F : ℕ → Type 0 = λ k. Tok text (from + k) to more in
    let P : Option (List ℕ) → Type 0 = λ o. IsCutAs o text from to ts in
    let t : TokAlgorithm text from to ts =
    record {
      opening = b.word;
      is_opening = b.opens;
      stands = b.stands;
      more = more;
      tok = subst F b.len tok;
      unmarked = unmarked_all more marks;
      tokens = is ∙ ap (λ (u : List ℕ). record { kind = name u; at = from; place = place_at text from } ∷ more) w;
    } in
    subst P (sym b.is) t

pub algorithm_fine : (text : List ℕ) (from to n : ℕ) → Some n ≡ option_map length (opening_of (stretch text from to)) → first_offence reading.Algorithm text (from + n) to ≡ given_offence text from to
algorithm_fine text from to n e =
    let b = begins (stretch text from to) n e in
    ap (λ (k : ℕ). first_offence reading.Algorithm text (from + k) to) b.len ∙ ap (λ (o : Option (List ℕ)). offence_as o text from to) (sym b.is)

-- ---- otherwise

pub given_tokens : (text : List ℕ) (from to : ℕ) (ts : List Token) → None ≡ option_map length (opening_of (stretch text from to)) → Tok text from to ts → AreTokens text from to ts
given_tokens text from to ts e t = (let P : Option (List ℕ) → Type 0 = λ o. IsCutAs o text from to ts in subst P (sym (begins_not (stretch text from to) e)) t)

pub given_fine : (text : List ℕ) (from to : ℕ) → None ≡ option_map length (opening_of (stretch text from to)) → first_offence reading.Read text from to ≡ given_offence text from to
given_fine text from to e = ap (λ (o : Option (List ℕ)). offence_as o text from to) (sym (begins_not (stretch text from to) e))

pub given_refused : (text : List ℕ) (from to : ℕ) (r : Refusal) → None ≡ option_map length (opening_of (stretch text from to)) → IsRefused reading.Read text from to r → IsGivenRefused text from to r
given_refused text from to r e (at, f, p) = (at, sym (given_fine text from to e) ∙ f, p)

pub algorithm_refused : (text : List ℕ) (from to n : ℕ) (r : Refusal) → Some n ≡ option_map length (opening_of (stretch text from to)) → IsRefused reading.Algorithm text (from + n) to r → IsGivenRefused text from to r
algorithm_refused text from to n r e (at, f, p) = (at, sym (algorithm_fine text from to n e) ∙ f, p)

-- ---- as code answers

pub tok_ok : (rd : Reading) (r : Result Tokens Stop) (text : List ℕ) (from to : ℕ) (items : List code.Token) → items ≡ []
    → IfOk r (λ v. map (token_seen v.bytes.items) v.items.items ≡ map (token_seen v.bytes.items) items ++ lexemes_of (place_at text from) from (parts (stretch text from to)))
    → IfOk r (λ v. first_offence rd text from to ≡ None) → IfOk r (λ v. Tok text from to (tokens_seen v))
tok_ok rd (Ok v) text from to items none is fine =
    tok_by rd text from to (tokens_seen v) (is ∙ ap (λ (us : List code.Token). map (token_seen v.bytes.items) us ++ lexemes_of (place_at text from) from (parts (stretch text from to))) none) fine
tok_ok rd (Err e) text from to items none is fine = tt

pub algorithm_ok : (r : Result Tokens Stop) (text : List ℕ) (from to n : ℕ) (p : Place) (items : List code.Token) → Some n ≡ option_map length (opening_of (stretch text from to)) → p ≡ place_at text from
    → items ≡ record { kind = kinds.Name (record { from = 0; to = n }); at = from; place = p } ∷ []
    → IfOk r (λ v. v.bytes.items ≡ stretch text from to)
    → IfOk r (λ v. map (token_seen v.bytes.items) v.items.items ≡ map (token_seen v.bytes.items) items ++ lexemes_of (place_at text (from + n)) (from + n) (parts (stretch text (from + n) to)))
    → IfOk r (λ v. first_offence reading.Algorithm text (from + n) to ≡ None) → IfOk r (λ v. AreTokens text from to (tokens_seen v))
algorithm_ok (Ok v) text from to n p items opens place single bytes is fine =
    let more = lexemes_of (place_at text (from + n)) (from + n) (parts (stretch text (from + n) to)) in
    let first : map (token_seen v.bytes.items) items ++ more ≡ record { kind = name (stretch v.bytes.items 0 n); at = from; place = p } ∷ more = ap (λ (us : List code.Token). map (token_seen v.bytes.items) us ++ more) single in
    let whole : record { kind = name (stretch v.bytes.items 0 n); at = from; place = p } ∷ more ≡ record { kind = name (stretch (stretch text from to) 0 n); at = from; place = place_at text from } ∷ more =
    (λ i. record { kind = name (stretch (bytes i) 0 n); at = from; place = place i } ∷ more) in
    algorithm_by text from to n (tokens_seen v) opens fine (is ∙ first ∙ whole)
algorithm_ok (Err e) text from to n p items opens place single bytes is fine = tt

pub given_tokens_ok : (r : Result Tokens Stop) (text : List ℕ) (from to : ℕ) → None ≡ option_map length (opening_of (stretch text from to)) → IfOk r (λ v. Tok text from to (tokens_seen v)) → IfOk r (λ v. AreTokens text from to (tokens_seen v))
given_tokens_ok (Ok v) text from to e t = given_tokens text from to (tokens_seen v) e t
given_tokens_ok (Err x) text from to e t = tt

pub given_fine_ok : (r : Result Tokens Stop) (text : List ℕ) (from to : ℕ) → None ≡ option_map length (opening_of (stretch text from to)) → IfOk r (λ v. first_offence reading.Read text from to ≡ None) → IfOk r (λ v. given_offence text from to ≡ None)
given_fine_ok (Ok v) text from to e f = sym (given_fine text from to e) ∙ f
given_fine_ok (Err x) text from to e f = tt
