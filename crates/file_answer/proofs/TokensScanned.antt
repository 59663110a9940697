-- What the scanner says of the stretch of a file's algorithm: its tokens, or the first number that is too big.
use Rattle.std.proofs.Common.{◌≡◌, ℕ, ◌+◌, Bool, true, false, ◌&&◌, nat_eq, List, [], ◌∷◌, length, map, drop, codes, Option, Some, None, refl, sym, ap, subst, ◌∙◌}
use Rattle.std.specs.Prelude.{if◌then◌else◌}
use Rattle.std.specs.List.{starts_with}
use Rattle.std.proofs.lemmas.Option.{none-some, same_Some}
use Rattle.tla_token.specs.declared.rule.Refusal.{Refusal}
use Rattle.tla_token.specs.declared.fault.Reading.TheVariants as reading
use Rattle.tla_token.specs.Tokens.{Token, Piece, bytes_of, stretch, Tok, TokAlgorithm}
use Rattle.tla_token.specs.Offences.{sound, Offence, offences, or_earlier, least}
use Rattle.tla_token.specs.Cut.{parts}
use Rattle.tla_token.specs.AlgorithmOffences.{number_offences}
use Rattle.tla_token.specs.Readings.{joined, last_quote, line_offence, first_offence, IsRefused, names_algorithm, IsCutAs, offence_as, AreTokens, given_offence, IsGivenRefused}
use Rattle.tla_token.proofs.Unique.{tok_parts, tok_offences, one_algorithm}
use Rattle.tla_token.proofs.Exact.{parts_offend}
use Rattle.tla_token.proofs.Faulty.{never_both}
use Rattle.tla_token.proofs.Faults.{joined_none}
use Rattle.pcal_tree.specs.Offences.{first}
use Rattle.module_tree.specs.TextFront.{Text}
use Rattle.module_tree.specs.AlgorithmText.{AlgorithmText, algorithm_in, algorithm_tokens}
use Rattle.module_tree.specs.FileOffences.{splitting_offences}
use Rattle.algorithm_answer.specs.TokensRefused.{placed}
use Rattle.file_answer.proofs.PlaceOrder.{first_told}
use Rattle.file_answer.proofs.AlgorithmStretch.{has_tokens, opens_with, opening_is}

-- ---- behind the first token

-- tokens end in no open string
no_quote : (at : ℕ) (ps : List Piece) → last_quote at None (map sound ps) ≡ None
no_quote at [] = refl
no_quote at (p ∷ ps) = no_quote (at + length (bytes_of p)) ps

first_number : (x : Text) (from to : ℕ) (ts : List Token) → Tok x from to ts → first_offence reading.Algorithm x from to ≡ least (number_offences ts)
first_number x from to ts t =
    let r = tok_parts x from to ts t in
    let xs = parts (stretch x from to) in
    ap (λ (q : Option ℕ). joined (least (offences true from xs)) (line_offence x q)) (ap (last_quote from None) r.1 ∙ no_quote from r.0)
    ∙ joined_none (least (offences true from xs))
    ∙ ap least (tok_offences true x from to ts t)

no_least : (os : List Offence) → least os ≡ None → os ≡ []
no_least [] e = refl
no_least (o ∷ os) e = some (least os) e
  where
    some : (q : Option Offence) → or_earlier o q ≡ None → o ∷ os ≡ []
    some None e = absurd cc
    some (Some q) e = absurd cc

-- where numbers aren't looked at, none of them is refused
pub never_refused : (x : Text) (from to : ℕ) (ts : List Token) (r : Refusal) → Tok x from to ts → IsRefused reading.Unread x from to r → ⊥
never_refused x from to ts r t (at, first, place) = never_both x from to ts r t (parts_offend false x from to r at first place)

-- ---- of an algorithm
module _ (x : Text) (a : AlgorithmText) (fine : splitting_offences x ≡ []) (is : algorithm_in x ≡ Some a) where
  abbrev tok : TokAlgorithm x a.from a.rest.to (algorithm_tokens x a)
  tok = has_tokens x a fine is

  pub rest_tok : Tok x (a.from + length a.opening) a.rest.to tok.more
  rest_tok = subst (λ (w : Text). Tok x (a.from + length w) a.rest.to tok.more) (sym (opens_with x a tok)) tok.tok

  given_is : given_offence x a.from a.rest.to ≡ least (number_offences (algorithm_tokens x a))
  given_is =
      ap (λ (o : Option Text). offence_as o x a.from a.rest.to) (opening_is x a fine is)
      ∙ first_number x (a.from + length a.opening) a.rest.to tok.more rest_tok
      ∙ ap (λ (ts : List Token). least (number_offences ts)) (sym tok.tokens)

  pub scanned : (ts : List Token) → AreTokens x a.from a.rest.to ts → ts ≡ algorithm_tokens x a
  scanned ts t = one_algorithm x a.from a.rest.to ts (algorithm_tokens x a) (subst (λ (o : Option Text). IsCutAs o x a.from a.rest.to ts) (opening_is x a fine is) t) tok

  pub scanned_small : given_offence x a.from a.rest.to ≡ None → number_offences (algorithm_tokens x a) ≡ []
  scanned_small e = no_least (number_offences (algorithm_tokens x a)) (sym given_is ∙ e)

  pub scanned_big : (r : Refusal) → IsGivenRefused x a.from a.rest.to r → first (placed x (number_offences (algorithm_tokens x a))) ≡ Some r
  scanned_big r (at, e, place) =
      first_told x (number_offences (algorithm_tokens x a)) (r.rule, at) (sym given_is ∙ e) ∙ (λ i. Some (record { rule = r.rule; place = sym place i }))

  -- how long the first word is
  pub word_len : (if starts_with nat_eq (stretch x a.from a.rest.to) (codes "--algorithm") then 11 else 6) ≡ length a.opening
  word_len = by (starts_with nat_eq (stretch x a.from a.rest.to) (codes "--algorithm")) refl (starts_with nat_eq (stretch x a.from a.rest.to) (codes "--fair") && names_algorithm (drop 6 (stretch x a.from a.rest.to))) refl
    where
      by : (b : Bool) → starts_with nat_eq (stretch x a.from a.rest.to) (codes "--algorithm") ≡ b → (c : Bool) → (starts_with nat_eq (stretch x a.from a.rest.to) (codes "--fair") && names_algorithm (drop 6 (stretch x a.from a.rest.to))) ≡ c
          → (if starts_with nat_eq (stretch x a.from a.rest.to) (codes "--algorithm") then 11 else 6) ≡ length a.opening
      by true b c cc =
          let o : Some (codes "--algorithm") ≡ Some a.opening = ap (λ (k : Bool). if k then Some (codes "--algorithm") else (if starts_with nat_eq (stretch x a.from a.rest.to) (codes "--fair") && names_algorithm (drop 6 (stretch x a.from a.rest.to)) then Some (codes "--fair") else None)) (sym b) ∙ opening_is x a fine is in
          ap (λ (k : Bool). if k then 11 else 6) b ∙ ap length (same_Some (codes "--algorithm") a.opening o)
      by false b true c =
          let o : Some (codes "--fair") ≡ Some a.opening = (λ i. if sym b i then Some (codes "--algorithm") else (if sym c i then Some (codes "--fair") else None)) ∙ opening_is x a fine is in
          ap (λ (k : Bool). if k then 11 else 6) b ∙ ap length (same_Some (codes "--fair") a.opening o)
      by false b false c =
          let o : None ≡ Some a.opening = (λ i. if sym b i then Some (codes "--algorithm") else (if sym c i then Some (codes "--fair") else None)) ∙ opening_is x a fine is in
          absurd (none-some a.opening o)
