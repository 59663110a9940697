-- The first word or sign that is left out, found from left to right.
use Rattle.std.proofs.Common.{◌≡◌, ℕ, ◌+◌, ◌<◌, ◌≤◌, true, false, not, List, [], ◌∷◌, length, map, get_or, drop, Option, Some, None, refl, sym, ap, ◌∙◌}
use Rattle.std.proofs.lemmas.List.{drop_more, drop_all, drop-map}
use Rattle.tla_token.specs.declared.place.Place.{Place}
use Rattle.tla_token.specs.declared.sign.Sign.{Sign}
use Rattle.tla_token.specs.declared.sign.Sign.TheVariants as sign
use Rattle.tla_token.specs.Lexemes.{one}
use Rattle.tla_token.specs.declared.rule.Rule.TheVariants.{LeftOutWord, TooMany}
use Rattle.tla_token.specs.declared.rule.Refusal.{Refusal}
use Rattle.tla_token.specs.declared.token.Token as code
use Rattle.tla_token.specs.Limits.{most_tokens}
use Rattle.tla_token.specs.Tokens.{Token}
use Rattle.tla_token.specs.TokensSeen.{kind_seen, token_seen}
use Rattle.tla_token.specs.AlgorithmOffences.{begins_path, is_left_out}
use Rattle.pcal_tree.specs.Offences.{offence_if, first}
use Rattle.algorithm_answer.specs.Joined.{joined}
use Rattle.algorithm_answer.specs.TokensRefused.{left_out_at, at_first_token, past_tokens_at}
use Rattle.algorithm_answer.proofs.Joins.{joined_assoc, joined_none, first_append}

-- ---- one token

pub path_by_bracket : (s : Sign) (at : ℕ) (p : Place) → s ≡ sign.OpenSquare → true ≡ begins_path (record { kind = one s; at = at; place = p } ∷ [])
path_by_bracket s at p e = ap (λ (r : Sign). begins_path (record { kind = one r; at = at; place = p } ∷ [])) (sym e)

pub path_by_dot : (s : Sign) (at : ℕ) (p : Place) → s ≡ sign.Dot → true ≡ begins_path (record { kind = one s; at = at; place = p } ∷ [])
path_by_dot s at p e = ap (λ (r : Sign). begins_path (record { kind = one r; at = at; place = p } ∷ [])) (sym e)

pub path_by_none : (s : Sign) (at : ℕ) (p : Place) → (s ≡ sign.OpenSquare → ⊥) → (s ≡ sign.Dot → ⊥) → false ≡ begins_path (record { kind = one s; at = at; place = p } ∷ [])
path_by_none sign.OpenSquare at p h k = absurd (h refl)
path_by_none sign.Dot at p h k = absurd (k refl)
path_by_none s at p h k = refl

pub path_there : (bytes : List ℕ) (items : List code.Token) (at : ℕ) (t : code.Token) → t ≡ get_or items at t → at < length items → begins_path (token_seen bytes t ∷ []) ≡ begins_path (map (token_seen bytes) (drop at items))
path_there bytes items at t e l =
    ap (λ (u : code.Token). begins_path (token_seen bytes u ∷ map (token_seen bytes) (drop (at + 1) items))) e ∙ ap (λ (us : List code.Token). begins_path (map (token_seen bytes) us)) (sym (drop_more items at t l))

pub path_behind : (bytes : List ℕ) (items : List code.Token) (at : ℕ) → length items ≤ at → false ≡ begins_path (map (token_seen bytes) (drop at items))
path_behind bytes items at l = ap (λ (us : List code.Token). begins_path (map (token_seen bytes) us)) (sym (drop_all at items l))

pub bang_left_out : (s : Sign) (rest : List Token) → s ≡ sign.Bang → not (begins_path rest) ≡ is_left_out (one s) rest
bang_left_out s rest e = ap (λ (r : Sign). is_left_out (one r) rest) (sym e)

pub other_kept : (s : Sign) (rest : List Token) → (s ≡ sign.Bang → ⊥) → false ≡ is_left_out (one s) rest
other_kept sign.Bang rest h = absurd (h refl)
other_kept s rest h = refl

-- ---- all tokens

-- what was found, with what is found from this token on
abbrev pub found_from : List ℕ → List code.Token → Option Refusal → ℕ → Option Refusal
found_from bytes items found i = joined found (first (left_out_at (map (token_seen bytes) (drop i items))))

ahead : (bytes : List ℕ) (items : List code.Token) (found : Option Refusal) (i : ℕ) (t : code.Token) → t ≡ get_or items i t → i < length items
    → found_from bytes items found i ≡ joined found (first (left_out_at (token_seen bytes t ∷ map (token_seen bytes) (drop (i + 1) items))))
ahead bytes items found i t e l =
    ap (λ (us : List code.Token). joined found (first (left_out_at (map (token_seen bytes) us)))) (drop_more items i t l)
    ∙ ap (λ (u : code.Token). joined found (first (left_out_at (token_seen bytes u ∷ map (token_seen bytes) (drop (i + 1) items))))) (sym e)

-- one token more
pub found_more : (bytes : List ℕ) (items : List code.Token) (found : Option Refusal) (i : ℕ) (t : code.Token) → t ≡ get_or items i t → i < length items
    → found_from bytes items (joined found (first (offence_if (is_left_out (kind_seen bytes t.kind) (map (token_seen bytes) (drop (i + 1) items))) LeftOutWord t.place))) (i + 1) ≡ found_from bytes items found i
found_more bytes items found i t e l =
    let more = map (token_seen bytes) (drop (i + 1) items) in
    let one = offence_if (is_left_out (kind_seen bytes t.kind) more) LeftOutWord t.place in
    joined_assoc found (first one) (first (left_out_at more)) ∙ ap (joined found) (sym (first_append one (left_out_at more))) ∙ sym (ahead bytes items found i t e l)

pub found_all : (bytes : List ℕ) (items : List code.Token) (found : Option Refusal) (i : ℕ) → length items ≤ i → found_from bytes items found i ≡ found
found_all bytes items found i l = ap (λ (us : List code.Token). joined found (first (left_out_at (map (token_seen bytes) us)))) (drop_all i items l) ∙ joined_none found

-- ---- too many

none_at : (n : ℕ) (bytes : List ℕ) (items : List code.Token) → length items ≤ n → first (at_first_token (drop n (map (token_seen bytes) items))) ≡ None
none_at n bytes items l = ap (λ (us : List Token). first (at_first_token us)) (drop-map (token_seen bytes) n items) ∙ ap (λ (us : List code.Token). first (at_first_token (map (token_seen bytes) us))) (drop_all n items l)

one_at : (n : ℕ) (bytes : List ℕ) (items : List code.Token) (t : code.Token) → t ≡ get_or items n t → n < length items
    → first (at_first_token (drop n (map (token_seen bytes) items))) ≡ Some (record { rule = TooMany; place = t.place })
one_at n bytes items t e l =
    ap (λ (us : List Token). first (at_first_token us)) (drop-map (token_seen bytes) n items)
    ∙ ap (λ (us : List code.Token). first (at_first_token (map (token_seen bytes) us))) (drop_more items n t l)
    ∙ ap (λ (u : code.Token). first (at_first_token (token_seen bytes u ∷ map (token_seen bytes) (drop (n + 1) items)))) (sym e)

pub none_past : (bytes : List ℕ) (items : List code.Token) → length items ≤ most_tokens → None ≡ first (past_tokens_at (map (token_seen bytes) items))
none_past bytes items l = sym (none_at most_tokens bytes items l)

pub one_past : (bytes : List ℕ) (items : List code.Token) (t : code.Token) → t ≡ get_or items most_tokens t → most_tokens < length items
    → Some (record { rule = TooMany; place = t.place }) ≡ first (past_tokens_at (map (token_seen bytes) items))
one_past bytes items t e l = sym (one_at most_tokens bytes items t e l)
