-- The kind of token that a part is, in memory.
use Rattle.std.proofs.Common.{◌≡◌, ℕ, zero, suc, ◌+◌, ◌-◌, ◌^◌, ◌<◌, ◌≤◌, Bool, true, false, nat_lt, List, [], ◌∷◌, length, get_or, take, drop, Some, None, refl, sym, ap, ◌∙◌, arith, length-drop}
use Rattle.std.proofs.lemmas.List.{length-take-le}
use Rattle.std.proofs.lemmas.Bool.{ltb-false, le-leb}
use Rattle.tla_token.specs.declared.rule.Rule.TheVariants.{NumberTooBig}
use Rattle.tla_token.specs.declared.token.Kind.TheVariants as code
use Rattle.tla_token.specs.declared.token.Span.{Span}
use Rattle.tla_token.specs.Limits.{past_numbers}
use Rattle.tla_token.specs.Lexemes.{number_of}
use Rattle.tla_token.specs.Tokens.{stretch}
use Rattle.tla_token.specs.Scan.{in_128_bits, inner}
use Rattle.tla_token.specs.Offences.{Offence, kind_offences}
use Rattle.tla_token.specs.TokensSeen.{span_bytes, kind_seen, IsCanonical}
use Rattle.tla_token.proofs.Steps.{byte_there}

pub span_whole : (bytes : List ℕ) (at n : ℕ) → stretch bytes at (at + n) ≡ take n (drop at bytes)
span_whole bytes at n = (let e : at + n - at ≡ n = omega arith in rw e refl)

take_less : (m : ℕ) (xs : List ℕ) → take m (take (suc m) xs) ≡ take m xs
take_less zero xs = refl
take_less (suc m) [] = refl
take_less (suc m) (x ∷ xs) = ap (λ (u : List ℕ). x ∷ u) (take_less m xs)

inner_is : (b : ℕ) (bs : List ℕ) (n : ℕ) → 2 ≤ n → n ≤ suc (length bs) → inner (take n (b ∷ bs)) ≡ take (n - 2) bs
inner_is b bs zero two l = absurd (omega arith)
inner_is b bs (suc zero) two l = absurd (omega arith)
inner_is b bs (suc (suc m)) two l =
    let size : length (take (suc m) bs) ≡ suc m = length-take-le (suc m) bs (omega arith) in
    let e : suc (length (take (suc m) bs)) - 2 ≡ m = omega arith in
    let f : suc (suc m) - 2 ≡ m = omega arith in
    rw (e, f) (take_less m bs)

pub span_inner : (bytes : List ℕ) (at n : ℕ) → 2 ≤ n → at + n ≤ length bytes → stretch bytes (at + 1) (at + n - 1) ≡ inner (take n (drop at bytes))
span_inner bytes at n two l =
    let some : at < length bytes = omega arith in
    let size : n ≤ suc (length (drop (at + 1) bytes)) = omega (arith, length-drop (at + 1) bytes) in
    let e : at + n - 1 - (at + 1) ≡ n - 2 = omega arith in
    ap (λ (k : ℕ). take k (drop (at + 1) bytes)) e
    ∙ sym (inner_is (get_or bytes at 0) (drop (at + 1) bytes) n two size)
    ∙ ap (λ (u : List ℕ). inner (take n u)) (sym (byte_there at bytes some))

number_by : (n : ℕ) (k : Bool) → nat_lt n (2 ^ 128) ≡ k → (m : ℕ) → Some m ≡ in_128_bits n → m ≡ n
number_by n true e m h = (let g : Some m ≡ Some n = rw e at h in cc)
number_by n false e m h = (let g : Some m ≡ None = rw e at h in absurd cc)

pub number_fits : (n m : ℕ) → Some m ≡ in_128_bits n → m ≡ n
number_fits n m h = number_by n (nat_lt n (2 ^ 128)) refl m h

past_by : (n : ℕ) (k : Bool) → nat_lt n (2 ^ 128) ≡ k → in_128_bits n ≡ None → 2 ^ 128 ≤ n
past_by n true e h = (let g : Some n ≡ None = rw e at h in absurd cc)
past_by n false e h = ltb-false n (2 ^ 128) e

pub number_past : (n : ℕ) → None ≡ in_128_bits n → 2 ^ 128 ≤ n
number_past n h = past_by n (nat_lt n (2 ^ 128)) refl (sym h)

-- a number that is kept by its digits is too big for an algorithm
pub too_big_by_digits : (bytes : List ℕ) (at : ℕ) (s : Span) → IsCanonical bytes (code.BigNumber s) → ◌≡◌ {A = List Offence} (kind_offences true at (kind_seen bytes (code.BigNumber s))) ((NumberTooBig, at) ∷ [])
too_big_by_digits bytes at s big =
    let k = le-leb past_numbers (number_of (span_bytes bytes s)) (omega arith) in
    rw k refl
