-- How many bytes belong to what is at the front of a line, and to the line.
use Rattle.std.proofs.Common.{◌≡◌, ℕ, suc, ◌+◌, ◌-◌, ◌<◌, ◌≤◌, Bool, true, false, not, nat_eq, [], ◌∷◌, length, take, drop, Option, Some, None, refl, sym, ap, ◌∙◌, arith, codes, length-append}
use Rattle.std.specs.List.{list_any}
use Rattle.std.proofs.Math.Seq.{take-append_seam}
use Rattle.std.proofs.lemmas.Bool.{eqb-true, eqb-false, eq-eqb, ne_eqb}
use Rattle.std.proofs.lemmas.List.{take_rest}
use Rattle.tla_token.specs.Lexemes.{is_word, is_letter}
use Rattle.tla_token.specs.Cut.{run}
use Rattle.tla_token.proofs.Words.{run_splits, run_over}
use Rattle.module_tree.specs.TextFront.{Text, past_all, on_some, past_word, past_blanks, past_run, past_name, line_here, whole_line}

-- ---- runs

run_first : (p : ℕ → Bool) (b : ℕ) (s : Text) → p b ≡ true → run p (b ∷ s) ≡ b ∷ run p s
run_first p b s h = run_over p (b ∷ []) s (rw h refl)

pub run_within : (p : ℕ → Bool) (t : Text) → length (run p t) ≤ length t
run_within p t =
    let s = run_splits p t in
    let e : length t ≡ length (run p t) + length s.0 = ap length s.1 ∙ length-append (run p t) s.0 in
    omega arith

pub run_taken : (p : ℕ → Bool) (t : Text) (n : ℕ) → n ≡ length (run p t) → take n t ≡ run p t
run_taken p t n e =
    let s = run_splits p t in
    ap (λ (m : ℕ). take m t) e ∙ ap (take (length (run p t))) s.1 ∙ take-append_seam (run p t) s.0

pub past_len : (p : ℕ → Bool) (t : Text) → drop (length (run p t)) t ≡ past_all p t
past_len p [] = refl
past_len p (b ∷ s) = by (p b) refl (past_len p s)
  where
    by : (k : Bool) → p b ≡ k → drop (length (run p s)) s ≡ past_all p s → drop (length (run p (b ∷ s))) (b ∷ s) ≡ past_all p (b ∷ s)
    by true k h = (let first : past_all p (b ∷ s) ≡ past_all p s = rw k refl in ap (λ (u : Text). drop (length u) (b ∷ s)) (run_first p b s k) ∙ h ∙ sym first)
    by false k h = rw k refl

-- what is left after so many bytes, as code takes it
abbrev pub left : ℕ → Text → Text
left n t = take (length t - n) (drop n t)

pub past_of : (p : ℕ → Bool) (t : Text) (n : ℕ) → n ≡ length (run p t) → left n t ≡ past_all p t
past_of p t n e = take_rest t n ∙ ap (λ (m : ℕ). drop m t) e ∙ past_len p t

past_same : (p q : ℕ → Bool) → ((b : ℕ) → p b ≡ q b) → (t : Text) → past_all p t ≡ past_all q t
past_same p q h [] = refl
past_same p q h (b ∷ s) = by (q b) refl (past_same p q h s)
  where
    by : (k : Bool) → q b ≡ k → past_all p s ≡ past_all q s → past_all p (b ∷ s) ≡ past_all q (b ∷ s)
    by true k e = (let j : p b ≡ true = h b ∙ k in rw (j, k) e)
    by false k e = (let j : p b ≡ false = h b ∙ k in rw (j, k) refl)

-- ---- blanks, dashes, names

pub some_blanks : (p : ℕ → Bool) (t : Text) (n : ℕ) → n ≡ length (run p t) → 0 < n → past_blanks p t ≡ Some (left n t)
some_blanks p [] n e l = absurd (omega arith)
some_blanks p (b ∷ s) n e l = by (p b) refl
  where
    by : (k : Bool) → p b ≡ k → past_blanks p (b ∷ s) ≡ Some (left n (b ∷ s))
    by true k = (let first : past_blanks p (b ∷ s) ≡ Some (past_all p (b ∷ s)) = rw k refl in first ∙ ap Some (sym (past_of p (b ∷ s) n e)))
    by false k = (let z : n ≡ 0 = rw k at e in absurd (omega arith))

pub no_blanks : (p : ℕ → Bool) (t : Text) (n : ℕ) → n ≡ length (run p t) → n ≤ 0 → past_blanks p t ≡ None
no_blanks p [] n e l = refl
no_blanks p (b ∷ s) n e l = by (p b) refl
  where
    by : (k : Bool) → p b ≡ k → past_blanks p (b ∷ s) ≡ None
    by true k = (let z : n ≡ length (b ∷ run p s) = e ∙ ap length (run_first p b s k) in absurd (omega arith))
    by false k = rw k refl

flipped : (c b : ℕ) → nat_eq c b ≡ nat_eq b c
flipped c b = by (nat_eq b c) refl
  where
    by : (k : Bool) → nat_eq b c ≡ k → nat_eq c b ≡ k
    by true k = eq-eqb c b (sym (eqb-true b c k))
    by false k = ne_eqb c b (λ e. eqb-false b c k (sym e))

pub dashed : (t r : Text) (n : ℕ) → past_word (codes "----") t ≡ Some r → n ≡ length (run (λ c. nat_eq c 45) r) → past_run 45 t ≡ Some (left n r)
dashed t r n e l =
    ap (λ (o : Option Text). on_some o (λ r. Some (past_all (nat_eq 45) r))) e
    ∙ ap Some (past_same (nat_eq 45) (λ c. nat_eq c 45) (flipped 45) r ∙ sym (past_of (λ c. nat_eq c 45) r n l))

pub undashed : (t : Text) → past_word (codes "----") t ≡ None → past_run 45 t ≡ None
undashed t e = ap (λ (o : Option Text). on_some o (λ r. Some (past_all (nat_eq 45) r))) e

pub named : (t : Text) (n : ℕ) → n ≡ length (run is_word t) → list_any is_letter (take n t) ≡ true → past_name t ≡ Some (left n t)
named t n e h =
    let k : list_any is_letter (run is_word t) ≡ true = ap (list_any is_letter) (sym (run_taken is_word t n e)) ∙ h in
    let is : past_name t ≡ Some (past_all is_word t) = rw k refl in
    is ∙ ap Some (sym (past_of is_word t n e))

pub nameless : (t : Text) (n : ℕ) → n ≡ length (run is_word t) → list_any is_letter (take n t) ≡ false → past_name t ≡ None
nameless t n e h = (let k : list_any is_letter (run is_word t) ≡ false = ap (list_any is_letter) (sym (run_taken is_word t n e)) ∙ h in rw k refl)

pub name_is : (t : Text) (n : ℕ) → n ≡ length (run is_word t) → take n t ≡ run is_word t
name_is t n e = run_taken is_word t n e

-- ---- whole lines

abbrev goes_on : ℕ → Bool
goes_on b = not (nat_eq b 10)

pub whole_more : (t : Text) (n : ℕ) → n ≡ length (line_here t) → n < length t → n + 1 ≡ length (whole_line t)
whole_more [] n e l = absurd (omega arith)
whole_more (b ∷ s) n e l = by (nat_eq b 10) refl (whole_more s)
  where
    by : (k : Bool) → nat_eq b 10 ≡ k → ((m : ℕ) → m ≡ length (line_here s) → m < length s → m + 1 ≡ length (whole_line s)) → n + 1 ≡ length (whole_line (b ∷ s))
    by true k deeper = (let z : n ≡ 0 = rw k at e in rw (z, k) refl)
    by false k deeper =
        let g : goes_on b ≡ true = rw k refl in
        let more : n ≡ suc (length (line_here s)) = e ∙ ap length (run_first goes_on b s g) in
        let d = deeper (length (line_here s)) refl (omega arith) in
        rw k (omega arith)

pub whole_all : (t : Text) (n : ℕ) → n ≡ length (line_here t) → length t ≤ n → n ≡ length (whole_line t)
whole_all [] n e l = e
whole_all (b ∷ s) n e l = by (nat_eq b 10) refl (whole_all s)
  where
    by : (k : Bool) → nat_eq b 10 ≡ k → ((m : ℕ) → m ≡ length (line_here s) → length s ≤ m → m ≡ length (whole_line s)) → n ≡ length (whole_line (b ∷ s))
    by true k deeper = (let z : n ≡ 0 = rw k at e in absurd (omega arith))
    by false k deeper =
        let g : goes_on b ≡ true = rw k refl in
        let more : n ≡ suc (length (line_here s)) = e ∙ ap length (run_first goes_on b s g) in
        let d = deeper (length (line_here s)) refl (omega arith) in
        rw k (omega arith)

pub whole_some : (t : Text) (n : ℕ) → n ≡ length (whole_line t) → 0 < length t → 0 < n
whole_some [] n e l = absurd (omega arith)
whole_some (b ∷ s) n e l = by (nat_eq b 10) refl
  where
    by : (k : Bool) → nat_eq b 10 ≡ k → 0 < n
    by true k = (let z : n ≡ 1 = rw k at e in omega arith)
    by false k = (let z : n ≡ suc (length (whole_line s)) = rw k at e in omega arith)
