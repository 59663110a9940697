-- Each token of a text has the place of its first byte, so what tokens offend at their places is what they offend at their bytes.
use Rattle.std.proofs.Common.{◌≡◌, ℕ, zero, suc, ◌+◌, ◌-◌, ◌≤◌, Bool, true, false, List, [], ◌∷◌, ◌++◌, length, take, drop, refl, sym, ap, ◌∙◌, subst, append_assoc, length-append}
use Rattle.std.proofs.lemmas.List.{take-append-drop, map-append, length-take-le}
use Rattle.std.proofs.Math.Seq.{take-append_seam}
use Rattle.tla_token.specs.declared.place.Place.{Place}
use Rattle.tla_token.specs.declared.rule.Rule.{Rule}
use Rattle.tla_token.specs.declared.rule.Rule.TheVariants.{LeftOutWord, TooMany}
use Rattle.tla_token.specs.Limits.{most_tokens}
use Rattle.tla_token.specs.Places.{start, after, place_at}
use Rattle.tla_token.specs.Tokens.{Token, Piece, blank, block, line, lexeme, bytes_of, text_of, tokens_of, Tok, TokAlgorithm}
use Rattle.tla_token.specs.Offences as byte
use Rattle.tla_token.specs.AlgorithmOffences.{is_left_out, left_out, number_offences, too_many_tokens, algorithm_offences}
use Rattle.tla_token.proofs.Scans.{after_append}
use Rattle.pcal_tree.specs.Offences.{offence_if}
use Rattle.algorithm_answer.specs.TokensRefused.{left_out_at, at_first_token, token_refusals, placed}

abbrev pub IsPlaced : List ℕ → Token → Type 0
IsPlaced text t = place_at text t.at ≡ t.place

abbrev pub ArePlaced : List ℕ → List Token → Type 0
ArePlaced text [] = Unit {0}
ArePlaced text (t ∷ ts) = IsPlaced text t × ArePlaced text ts

-- ---- tokens of a text

-- the text, place and index behind a piece
module _ (pre post : List ℕ) (ps : List Piece) (p : Place) (at : ℕ) (e : p ≡ after start pre) (n : at ≡ length pre) (text bytes : List ℕ) (is : text ≡ pre ++ ((bytes ++ text_of ps) ++ post)) where
  here : place_at text at ≡ p
  here =
      (λ i. after start (take (n i) (is i))) ∙ ap (after start) (take-append_seam pre ((bytes ++ text_of ps) ++ post)) ∙ sym e

  next_place : after p bytes ≡ after start (pre ++ bytes)
  next_place = ap (λ (q : Place). after q bytes) e ∙ sym (after_append start pre bytes)

  next_index : at + length bytes ≡ length (pre ++ bytes)
  next_index = ap (λ (m : ℕ). m + length bytes) n ∙ sym (length-append pre bytes)

  next_text : text ≡ (pre ++ bytes) ++ (text_of ps ++ post)
  next_text = is ∙ ap (λ (l : List ℕ). pre ++ l) (append_assoc bytes (text_of ps) post) ∙ sym (append_assoc pre bytes (text_of ps ++ post))

-- those of pieces behind some bytes and before others
pieces_placed : (pre post : List ℕ) (ps : List Piece) (p : Place) (at : ℕ) → p ≡ after start pre → at ≡ length pre → (text : List ℕ) → text ≡ pre ++ (text_of ps ++ post) → ArePlaced text (tokens_of p at ps)
pieces_placed pre post [] p at e n text is = tt
pieces_placed pre post (blank b ∷ ps) p at e n text is =
    let w : List ℕ = b ∷ [] in
    pieces_placed (pre ++ w) post ps (after p w) (at + length w) (next_place pre post ps p at e n text w is) (next_index pre post ps p at e n text w is) text (next_text pre post ps p at e n text w is)
pieces_placed pre post (block body ∷ ps) p at e n text is =
    let w = bytes_of (block body) in
    pieces_placed (pre ++ w) post ps (after p w) (at + length w) (next_place pre post ps p at e n text w is) (next_index pre post ps p at e n text w is) text (next_text pre post ps p at e n text w is)
pieces_placed pre post (line body ∷ ps) p at e n text is =
    let w = bytes_of (line body) in
    pieces_placed (pre ++ w) post ps (after p w) (at + length w) (next_place pre post ps p at e n text w is) (next_index pre post ps p at e n text w is) text (next_text pre post ps p at e n text w is)
pieces_placed pre post (lexeme k w ∷ ps) p at e n text is = (
  here pre post ps p at e n text w is,
  pieces_placed (pre ++ w) post ps (after p w) (at + length w) (next_place pre post ps p at e n text w is) (next_index pre post ps p at e n text w is) text (next_text pre post ps p at e n text w is),
)

tok_placed : (text : List ℕ) (from to : ℕ) (ts : List Token) → from ≤ length text → Tok text from to ts → ArePlaced text ts
tok_placed text from to ts l t =
    let n : length (take from text) ≡ from = length-take-le from text l in
    subst (λ (us : List Token). ArePlaced text us) (sym t.tokens)
    (pieces_placed (take from text) (drop (to - from) (drop from text)) t.pieces (place_at text from) from refl (sym n) text
    (sym (ap (λ (l : List ℕ). take from text ++ l) (ap (λ (l : List ℕ). l ++ drop (to - from) (drop from text)) (sym t.cut) ∙ take-append-drop (to - from) (drop from text)) ∙ take-append-drop from text)))

pub algorithm_placed : (text : List ℕ) (from to : ℕ) (ts : List Token) (t : TokAlgorithm text from to ts) → from + length t.opening ≤ length text → ArePlaced text ts
algorithm_placed text from to ts t l =
    subst (λ (us : List Token). ArePlaced text us) (sym t.tokens) (refl, tok_placed text (from + length t.opening) to t.more l t.tok)

-- ---- what they offend

placed_if : (text : List ℕ) (b : Bool) (r : Rule) (at : ℕ) (p : Place) → place_at text at ≡ p → placed text (byte.offence_if b r at) ≡ offence_if b r p
placed_if text true r at p e = λ i. record { rule = r; place = e i } ∷ []
placed_if text false r at p e = refl

pub left_out_placed : (text : List ℕ) (ts : List Token) → ArePlaced text ts → placed text (left_out ts) ≡ left_out_at ts
left_out_placed text [] h = refl
left_out_placed text (t ∷ ts) h =
    map-append _ (byte.offence_if (is_left_out t.kind ts) LeftOutWord t.at) (left_out ts)
    ∙ (λ i. placed_if text (is_left_out t.kind ts) LeftOutWord t.at t.place h.0 i ++ left_out_placed text ts h.1 i)

-- the offence at the first of the tokens that are left
abbrev at_byte : List Token → List byte.Offence
at_byte [] = []
at_byte (t ∷ more) = (TooMany, t.at) ∷ []

past_is : (us : List Token) (text : List ℕ) → ArePlaced text us → placed text (at_byte us) ≡ at_first_token us
past_is [] text h = refl
past_is (u ∷ us) text h = λ i. record { rule = TooMany; place = h.0 i } ∷ []

dropped : (text : List ℕ) (n : ℕ) (ts : List Token) → ArePlaced text ts → ArePlaced text (drop n ts)
dropped text zero ts h = h
dropped text (suc n) [] h = tt
dropped text (suc n) (t ∷ ts) h = dropped text n ts h.1

too_many_is : (ts : List Token) → too_many_tokens ts ≡ at_byte (drop most_tokens ts)
too_many_is ts = refl

pub refusals_placed : (text : List ℕ) (ts : List Token) → ArePlaced text ts → number_offences ts ≡ [] → placed text (algorithm_offences ts) ≡ token_refusals ts
refusals_placed text ts h e =
    ap (λ (os : List byte.Offence). placed text (left_out ts ++ (os ++ too_many_tokens ts))) e
    ∙ map-append _ (left_out ts) (too_many_tokens ts)
    ∙ (λ i. left_out_placed text ts h i ++ (ap (placed text) (too_many_is ts) ∙ past_is (drop most_tokens ts) text (dropped text most_tokens ts h)) i)
