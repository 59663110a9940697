-- The tokens of the algorithm of a file with a translation are those of the file that was read, moved.
use Rattle.std.proofs.Common.{◌≡◌, ℕ, zero, suc, ◌+◌, Bool, true, not, List, [], ◌∷◌, ◌++◌, length, map, drop, Some, refl, sym, ap, subst, ◌∙◌, arith}
use Rattle.std.proofs.lemmas.Option.{same_Some}
use Rattle.tla_token.specs.Tokens.{block, blank, line, lexeme, Token, Piece, bytes_of, tokens_of}
use Rattle.module_tree.specs.TextFront.{Text}
use Rattle.module_tree.specs.AlgorithmText.{AlgorithmText, algorithm_in, algorithm_tokens}
use Rattle.module_tree.specs.WithTranslation.{WithTranslation}
use Rattle.module_tree.specs.laws.Walks.{IsInside, Near}
use Rattle.module_tree.specs.laws.Kept.{IsFine, TokensMoved, AlgorithmMoved}
use Rattle.tla_token.specs.declared.place.Place.{Place}
use Rattle.tla_token.specs.Places.{after, place_at}
use Rattle.tla_token.specs.Lexemes.{name, Kind, one}
use Rattle.tla_token.specs.Cut.{pieces}
use Rattle.module_tree.proofs.AlgorithmKept.{near_after, algorithms_fine}
use Rattle.tla_token.specs.declared.sign.Sign.TheVariants as sign
use Rattle.tla_token.specs.declared.rule.Rule.TheVariants.{LeftOutWord, TooMany}
use Rattle.tla_token.specs.Limits.{most_tokens}
use Rattle.tla_token.specs.Offences.{Offence, offence_if, kind_offences}
use Rattle.tla_token.specs.AlgorithmOffences.{begins_path, is_left_out, left_out, number_offences, too_many_tokens, algorithm_offences as token_offences}
use Rattle.module_tree.proofs.WalkPlace.{both_empty}
use Rattle.module_tree.proofs.WalkSame.{if_anywhere, kind_anywhere}

tokens_moved : (i j m n : ℕ) (p q : Place) (at to : ℕ) → Near i j m n at p to q → (ps : List Piece) → TokensMoved i j m n (tokens_of p at ps) (tokens_of q to ps)
tokens_moved i j m n p q at to near [] = tt
tokens_moved i j m n p q at to near (lexeme k w ∷ ps) = (refl, near, tokens_moved i j m n (after p w) (after q w) (at + length w) (to + length w) (near_after i j m n p q at to w near) ps)
tokens_moved i j m n p q at to near (blank b ∷ ps) =
    tokens_moved i j m n (after p (b ∷ [])) (after q (b ∷ [])) (at + length (b ∷ [])) (to + length (b ∷ [])) (near_after i j m n p q at to (b ∷ []) near) ps
tokens_moved i j m n p q at to near (block w ∷ ps) =
    let u = bytes_of (block w) in
    tokens_moved i j m n (after p u) (after q u) (at + length u) (to + length u) (near_after i j m n p q at to u near) ps
tokens_moved i j m n p q at to near (line w ∷ ps) =
    let u = bytes_of (line w) in
    tokens_moved i j m n (after p u) (after q u) (at + length u) (to + length u) (near_after i j m n p q at to u near) ps

pub tokens_kept : (x t w : Text) (a b : AlgorithmText) → IsFine x → IsInside t → WithTranslation x t w → algorithm_in x ≡ Some a → algorithm_in w ≡ Some b → AlgorithmMoved x w a b
tokens_kept x t w a b fine inside put e f =
    let r = algorithms_fine x t w fine inside put in
    let first = r.near 0 (omega arith) in
    let more = r.near (length r.old.opening) (omega arith) in
    let start : Near r.bytes_here r.bytes_there r.lines_here r.lines_there r.old.from (place_at x r.old.from) r.algorithm.from (place_at w r.algorithm.from) =
    subst (λ (k : ℕ). Near r.bytes_here r.bytes_there r.lines_here r.lines_there k (place_at x k) r.algorithm.from (place_at w r.algorithm.from)) (none r.old.from)
    (subst (λ (k : ℕ). Near r.bytes_here r.bytes_there r.lines_here r.lines_there (r.old.from + 0) (place_at x (r.old.from + 0)) k (place_at w k)) (none r.algorithm.from) first) in
    let ps = pieces (map (λ p. p.1) r.old.rest.parts) in
    let n = r.old.from + length r.old.opening in
    let m = r.algorithm.from + length r.old.opening in
    let rest = tokens_moved r.bytes_here r.bytes_there r.lines_here r.lines_there (place_at x n) (place_at w m) n m more ps in
    let there : tokens_of (place_at w m) m ps ≡ tokens_of (place_at w (r.algorithm.from + length r.algorithm.opening)) (r.algorithm.from + length r.algorithm.opening) (pieces (map (λ p. p.1) r.algorithm.rest.parts)) =
    λ i. tokens_of (place_at w (r.algorithm.from + length (r.same.opening i))) (r.algorithm.from + length (r.same.opening i)) (pieces (r.same.parts i)) in
    let all : TokensMoved r.bytes_here r.bytes_there r.lines_here r.lines_there (algorithm_tokens x r.old) (algorithm_tokens w r.algorithm) =
    (ap name r.same.opening, start, subst (λ (us : List Token). TokensMoved r.bytes_here r.bytes_there r.lines_here r.lines_there (tokens_of (place_at x n) n ps) us) there rest) in
    let moved : AlgorithmMoved x w r.old r.algorithm = record { bytes_here = r.bytes_here; bytes_there = r.bytes_there; lines_here = r.lines_here; lines_there = r.lines_there; tokens = all } in
    subst (λ (a : AlgorithmText). AlgorithmMoved x w a b) (same_Some r.old a (sym r.is_old ∙ e))
    (subst (λ (b : AlgorithmText). AlgorithmMoved x w r.old b) (same_Some r.algorithm b (sym r.is ∙ f)) moved)
  where
    none : (n : ℕ) → n + 0 ≡ n
    none n = omega arith

-- ---- their offences go by kinds alone

begins_same : (i j m n : ℕ) (ts us : List Token) → TokensMoved i j m n ts us → begins_path ts ≡ begins_path us
begins_same i j m n [] [] h = refl
begins_same i j m n [] (u ∷ us) h = absurd h
begins_same i j m n (t ∷ ts) [] h = absurd h
begins_same i j m n (t ∷ ts) (u ∷ us) h = ap (λ (k : Kind). begins_path (record { kind = k; at = t.at; place = t.place } ∷ ts)) h.0 ∙ by u.kind
  where
    by : (k : Kind) → begins_path (record { kind = k; at = t.at; place = t.place } ∷ ts) ≡ begins_path (record { kind = k; at = u.at; place = u.place } ∷ us)
    by k = refl

left_out_same : (i j m n : ℕ) (k : Kind) (ts us : List Token) → TokensMoved i j m n ts us → is_left_out k ts ≡ is_left_out k us
left_out_same i j m n (one sign.Bang) ts us h = ap not (begins_same i j m n ts us h)
left_out_same i j m n k ts us h = refl

left_out_moved : (i j m n : ℕ) (ts us : List Token) → TokensMoved i j m n ts us → left_out ts ≡ [] → left_out us ≡ []
left_out_moved i j m n [] [] h e = refl
left_out_moved i j m n [] (u ∷ us) h e = absurd h
left_out_moved i j m n (t ∷ ts) [] h e = refl
left_out_moved i j m n (t ∷ ts) (u ∷ us) h e =
    let o = both_empty (offence_if (is_left_out t.kind ts) LeftOutWord t.at) (left_out ts) e in
    let same : is_left_out t.kind ts ≡ is_left_out u.kind us = ap (λ (k : Kind). is_left_out k ts) h.0 ∙ left_out_same i j m n u.kind ts us h.2 in
    let here : offence_if (is_left_out u.kind us) LeftOutWord u.at ≡ [] =
    if_anywhere (is_left_out u.kind us) LeftOutWord t.at u.at (ap (λ (k : Bool). offence_if k LeftOutWord t.at) (sym same) ∙ o.0) in
    λ l. here l ++ left_out_moved i j m n ts us h.2 o.1 l

numbers_moved : (i j m n : ℕ) (ts us : List Token) → TokensMoved i j m n ts us → number_offences ts ≡ [] → number_offences us ≡ []
numbers_moved i j m n [] [] h e = refl
numbers_moved i j m n [] (u ∷ us) h e = absurd h
numbers_moved i j m n (t ∷ ts) [] h e = refl
numbers_moved i j m n (t ∷ ts) (u ∷ us) h e =
    let o = both_empty (kind_offences true t.at t.kind) (number_offences ts) e in
    let here : kind_offences true u.at u.kind ≡ [] = ap (kind_offences true u.at) (sym h.0) ∙ kind_anywhere true t.at u.at t.kind o.0 in
    λ l. here l ++ numbers_moved i j m n ts us h.2 o.1 l

few_moved : (i j m n k : ℕ) (ts us : List Token) → TokensMoved i j m n ts us → drop k ts ≡ [] → drop k us ≡ []
few_moved i j m n k [] [] h e = e
few_moved i j m n k [] (u ∷ us) h e = absurd h
few_moved i j m n k (t ∷ ts) [] h e = absurd h
few_moved i j m n zero (t ∷ ts) (u ∷ us) h e = absurd cc
few_moved i j m n (suc k) (t ∷ ts) (u ∷ us) h e = few_moved i j m n k ts us h.2 e

too_many_moved : (i j m n : ℕ) (ts us : List Token) → TokensMoved i j m n ts us → too_many_tokens ts ≡ [] → too_many_tokens us ≡ []
too_many_moved i j m n ts us h e = by (drop most_tokens ts) refl
  where
    by : (vs : List Token) → drop most_tokens ts ≡ vs → too_many_tokens us ≡ []
    by [] o = (let none = few_moved i j m n most_tokens ts us h o in rw none refl)
    by (v ∷ vs) o = (let f : ◌≡◌ {A = List Offence} ((TooMany, v.at) ∷ []) [] = rw o at e in absurd cc)

pub token_offences_kept : (x t w : Text) (a b : AlgorithmText) → IsFine x → IsInside t → WithTranslation x t w → algorithm_in x ≡ Some a → algorithm_in w ≡ Some b
    → token_offences (algorithm_tokens x a) ≡ [] → token_offences (algorithm_tokens w b) ≡ []
token_offences_kept x t w a b fine inside put e f none =
    let r = tokens_kept x t w a b fine inside put e f in
    let ts = algorithm_tokens x a in
    let us = algorithm_tokens w b in
    let o = both_empty (left_out ts) (number_offences ts ++ too_many_tokens ts) none in
    let p = both_empty (number_offences ts) (too_many_tokens ts) o.1 in
    let first = left_out_moved r.bytes_here r.bytes_there r.lines_here r.lines_there ts us r.tokens o.0 in
    let second = numbers_moved r.bytes_here r.bytes_there r.lines_here r.lines_there ts us r.tokens p.0 in
    let third = too_many_moved r.bytes_here r.bytes_there r.lines_here r.lines_there ts us r.tokens p.1 in
    λ i. first i ++ (second i ++ third i)
