-- Lines one after the other, and the choices on one.
use Rattle.std.proofs.Common.{◌≡◌, ℕ, suc, ◌+◌, ◌-◌, ◌<◌, ◌≤◌, Bool, true, false, not, nat_eq, nat_le, List, [], ◌∷◌, length, take, drop, Option, Some, None, refl, sym, ap, subst, ◌∙◌, arith, cond}
use Rattle.std.specs.Prelude.{option_map, if◌then◌else◌}
use Rattle.std.proofs.lemmas.List.Sums.{take_while-cons}
use Rattle.std.proofs.lemmas.List.{length-drop, drop_all, take_all, take_rest}
use Rattle.tla_token.specs.declared.part.Class.{Class}
use Rattle.tla_token.specs.declared.part.Class.TheVariants as class
use Rattle.tla_token.specs.declared.part.Part as code
use Rattle.tla_token.specs.Lexemes.{number_of}
use Rattle.tla_token.specs.Tokens.{stretch}
use Rattle.tla_token.specs.Offences.{Part}
use Rattle.tla_token.specs.Cut.{parts, run}
use Rattle.tla_token.specs.Scan.{part_of, front}
use Rattle.tla_token.proofs.Found.{nothing_found}
use Rattle.tla_token.proofs.Scans.{drop_more}
use Rattle.step_runner.specs.Fronts.{Text, choices_of, choices_from, largest_choice}
use Rattle.step_runner.specs.Stretches.{Stretch, with_byte, lines_from}
use Rattle.run_files.specs.Fronts.{is_passed, Stops}
use Rattle.run_files.specs.Lines.{IsLine}
use Rattle.run_files.proofs.Scanned.{cut_at, piece_at}

-- ---- where a line ends

abbrev pub goes_on : ℕ → Bool
goes_on b = not (nat_eq b 10)

run_by : (b : ℕ) (bs : Text) (c : Bool) → nat_eq b 10 ≡ c → run goes_on (b ∷ bs) ≡ cond (not c) (b ∷ run goes_on bs) []
run_by b bs c h = take_while-cons goes_on b bs ∙ ap (λ (c : Bool). cond (not c) (b ∷ run goes_on bs) []) h

cut_broken : (at n : ℕ) (t : Text) → n ≡ length (run goes_on t) → n < length t → lines_from at t ≡ record { from = at; text = take (suc n) t } ∷ lines_from (at + suc n) (drop (suc n) t)
cut_broken at n [] e l = absurd (omega (arith, l))
cut_broken at n (b ∷ bs) e l = by (nat_eq b 10) refl (λ k. cut_broken (suc at) (length (run goes_on bs)) bs refl k)
  where
    R : ℕ → Type 0
    R k = lines_from at (b ∷ bs) ≡ record { from = at; text = take (suc k) (b ∷ bs) } ∷ lines_from (at + suc k) (drop (suc k) (b ∷ bs))

    S : ℕ → Type 0
    S m = m < length bs → lines_from (suc at) bs ≡ record { from = suc at; text = take (suc m) bs } ∷ lines_from (suc at + suc m) (drop (suc m) bs)

    by : (c : Bool) → nat_eq b 10 ≡ c → S (length (run goes_on bs)) → R n
    by true h rest =
        let none : n ≡ 0 = e ∙ ap length (run_by b bs true h) in
        let next : suc at ≡ at + 1 = omega arith in
        subst R (sym none) (ap (λ (c : Bool). with_byte c at b (lines_from (suc at) bs)) h ∙ ap (λ (k : ℕ). record { from = at; text = b ∷ [] } ∷ lines_from k bs) next)
    by false h rest =
        let m = length (run goes_on bs) in
        let more : n ≡ suc m = e ∙ ap length (run_by b bs false h) in
        let next : suc at + suc m ≡ at + suc (suc m) = omega arith in
        subst R (sym more) (
        ap (λ (c : Bool). with_byte c at b (lines_from (suc at) bs)) h
        ∙ ap (λ (ls : List Stretch). with_byte false at b ls) (rest (omega (arith, l, more)))
        ∙ ap (λ (k : ℕ). record { from = at; text = b ∷ take (suc m) bs } ∷ lines_from k (drop (suc m) bs)) next)

cut_last : (at b : ℕ) (bs : Text) → length (b ∷ bs) ≤ length (run goes_on (b ∷ bs)) → lines_from at (b ∷ bs) ≡ record { from = at; text = b ∷ bs } ∷ []
cut_last at b [] l = by (nat_eq b 10)
  where
    by : (c : Bool) → with_byte c at b [] ≡ record { from = at; text = b ∷ [] } ∷ []
    by true = refl
    by false = refl
cut_last at b (d ∷ ds) l = by (nat_eq b 10) refl (λ k. cut_last (suc at) d ds k)
  where
    by : (c : Bool) → nat_eq b 10 ≡ c → (length (d ∷ ds) ≤ length (run goes_on (d ∷ ds)) → lines_from (suc at) (d ∷ ds) ≡ record { from = suc at; text = d ∷ ds } ∷ [])
        → lines_from at (b ∷ d ∷ ds) ≡ record { from = at; text = b ∷ d ∷ ds } ∷ []
    by true h rest = absurd (omega (arith, l, ap length (run_by b (d ∷ ds) true h)))
    by false h rest =
        ap (λ (c : Bool). with_byte c at b (lines_from (suc at) (d ∷ ds))) h
        ∙ ap (λ (ls : List Stretch). with_byte false at b ls) (rest (omega (arith, l, ap length (run_by b (d ∷ ds) false h))))

pub run_within : (t : Text) → length (run goes_on t) ≤ length t
run_within [] = omega arith
run_within (b ∷ bs) = by (nat_eq b 10) refl (run_within bs)
  where
    by : (c : Bool) → nat_eq b 10 ≡ c → length (run goes_on bs) ≤ length bs → length (run goes_on (b ∷ bs)) ≤ length (b ∷ bs)
    by true h rest = omega (arith, ap length (run_by b bs true h))
    by false h rest = omega (arith, ap length (run_by b bs false h), rest)

pub line_broken : (x : Text) (from n : ℕ) → n ≡ length (run goes_on (take (length x - from) (drop from x))) → from + n < length x → IsLine x from (from + n + 1)
line_broken x from n e l =
    let cut = cut_broken from n (drop from x) (e ∙ ap (λ (t : Text). length (run goes_on t)) (take_rest x from)) (omega (arith, l, length-drop from x)) in
    let here : suc n ≡ from + n + 1 - from = omega arith in
    let there : from + suc n ≡ from + n + 1 = omega arith in (
      omega arith,
      omega (arith, l),
      cut ∙ (λ i. record { from = from; text = take (here i) (drop from x) } ∷ lines_from (there i) ((drop_more from (suc n) x ∙ ap (λ (k : ℕ). drop k x) there) i)),
    )

last_cut : (from : ℕ) (t : Text) → 0 < length t → length t ≤ length (run goes_on t) → lines_from from t ≡ record { from = from; text = t } ∷ []
last_cut from [] s l = absurd (omega (arith, s))
last_cut from (b ∷ bs) s l = cut_last from b bs l

pub line_last : (x : Text) (from n : ℕ) → from < length x → n ≡ length (run goes_on (take (length x - from) (drop from x))) → length x ≤ from + n → IsLine x from (from + n)
line_last x from n s e l =
    let t = drop from x in
    let whole : n ≡ length (run goes_on t) = e ∙ ap (λ (t : Text). length (run goes_on t)) (take_rest x from) in
    let size = length-drop from x in
    let within = run_within t in
    let here : from + n - from ≡ length t = omega (arith, s, l, whole, size, within) in
    let none : lines_from (from + n) (drop (from + n) x) ≡ [] = ap (lines_from (from + n)) (drop_all (from + n) x l) in (
      omega (arith, s, l),
      omega (arith, s, whole, size, within),
      last_cut from t (omega (arith, s, size)) (omega (arith, s, l, whole, size)) ∙ sym (λ i. record { from = from; text = (ap (λ (k : ℕ). take k t) here ∙ take_all (length t) t (omega arith)) i } ∷ none i),
    )

-- ---- choices

some_number : (n k : ℕ) (c : Bool) (o : Option (List ℕ)) → Some n ≡ (if c then Some k else None) → (if c then option_map (λ ns. k ∷ ns) o else None) ≡ option_map (λ ns. n ∷ ns) o
some_number n k true o e = (let s : n ≡ k = cc in ap (λ (j : ℕ). option_map (λ ns. j ∷ ns) o) (sym s))
some_number n k false o e = absurd cc

no_number : (k : ℕ) (c : Bool) (o : Option (List ℕ)) → None ≡ (if c then Some k else None) → (if c then option_map (λ ns. k ∷ ns) o else None) ≡ None
no_number k true o e = absurd cc
no_number k false o e = refl

number_here : (x : Text) (at : ℕ) (p : code.Part) → Some p ≡ front (drop at x) → p.class ≡ class.Number
    → choices_from x at ≡ (if nat_le (number_of (stretch x at (at + p.len))) largest_choice then option_map (λ ns. number_of (stretch x at (at + p.len)) ∷ ns) (choices_from x (at + p.len)) else None)
number_here x at p e h =
    ap choices_of (cut_at x at p e ∙ (λ i. part_of (h i) (take p.len (drop at x)) ∷ parts (drop (at + p.len) x)))
    ∙ ap (λ (w : Text). if nat_le (number_of w) largest_choice then option_map (λ ns. number_of w ∷ ns) (choices_from x (at + p.len)) else None) (piece_at x at p)

pub choice_read : (x : Text) (at n : ℕ) (p : code.Part) → Some p ≡ front (drop at x) → p.class ≡ class.Number
    → Some n ≡ (if nat_le (number_of (stretch x at (at + p.len))) largest_choice then Some (number_of (stretch x at (at + p.len))) else None) → choices_from x at ≡ option_map (λ ns. n ∷ ns) (choices_from x (at + p.len))
choice_read x at n p e h s =
    let k = number_of (stretch x at (at + p.len)) in
    number_here x at p e h ∙ some_number n k (nat_le k largest_choice) (choices_from x (at + p.len)) s

pub choice_large : (x : Text) (at : ℕ) (p : code.Part) → Some p ≡ front (drop at x) → p.class ≡ class.Number
    → None ≡ (if nat_le (number_of (stretch x at (at + p.len))) largest_choice then Some (number_of (stretch x at (at + p.len))) else None) → choices_from x at ≡ None
choice_large x at p e h s =
    let k = number_of (stretch x at (at + p.len)) in
    number_here x at p e h ∙ no_number k (nat_le k largest_choice) (choices_from x (at + p.len)) s

no_choice : (c : Class) (bytes : Text) (ps : List Part) → is_passed c ≡ false → (c ≡ class.Number → ⊥) → choices_of (part_of c bytes ∷ ps) ≡ None
no_choice class.Number bytes ps h n = absurd (n refl)
no_choice class.Blank bytes ps h n = absurd cc
no_choice class.Line bytes ps h n = absurd cc
no_choice class.Block bytes ps h n = refl
no_choice class.Name bytes ps h n = refl
no_choice class.Text bytes ps h n = refl
no_choice (class.Sign s) bytes ps h n = refl
no_choice class.Other bytes ps h n = refl
no_choice class.Stray bytes ps h n = refl
no_choice class.BadText bytes ps h n = refl
no_choice class.OpenText bytes ps h n = refl
no_choice class.OpenBlock bytes ps h n = refl

pub choice_other : (x : Text) (at : ℕ) (p : code.Part) → Some p ≡ front (drop at x) → Stops x at → (p.class ≡ class.Number → ⊥) → choices_from x at ≡ None
choice_other x at p e s n = ap choices_of (cut_at x at p e) ∙ no_choice p.class (take p.len (drop at x)) (parts (drop (at + p.len) x)) (s p e) n

pub something_there : (x : Text) (at : ℕ) → at < length x → None ≡ front (drop at x) → ⊥
something_there x at l e = omega (arith, l, nothing_found (drop at x) e, length-drop at x)
