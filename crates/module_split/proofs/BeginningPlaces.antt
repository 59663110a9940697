-- What is passed over where a byte is sought: nothing that begins with it.
use Rattle.std.proofs.Common.{◌≡◌, ℕ, zero, suc, ◌+◌, ◌-◌, ◌<◌, ◌≤◌, Bool, true, false, nat_eq, [], ◌∷◌, length, drop, Some, None, refl, sym, ap, ◌∙◌, arith, length-drop}
use Rattle.std.specs.Prelude.{slice_index}
use Rattle.std.proofs.lemmas.Bool.{eqb-true, eq-eqb}
use Rattle.std.proofs.lemmas.List.{drop_all}
use Rattle.memchr.specs.Find.{IsFirstByte, is_byte}
use Rattle.tla_token.proofs.Scans.{drop_more}
use Rattle.module_tree.specs.TextFront.{Text, begins}
use Rattle.module_tree.specs.Beginnings.{begins_algorithm, is_options, index_if, all_at}
use Rattle.module_split.specs.BeginningsSeen.{Needs}
use Rattle.module_split.proofs.BeginningSteps.{unbegun, options_unbegun}

-- an algorithm begins with a dash, and a line of options with a P
pub algorithms_need : Needs 45 begins_algorithm
algorithms_need s h = sym (unbegun s h)

pub options_need : Needs 80 is_options
options_need s h = sym (options_unbegun s h)

-- another byte is in front
other_byte : (b x : ℕ) (s : Text) → ¬ (is_byte b x ≡ true) → begins (x ∷ s) (b ∷ []) ≡ false
other_byte b x s h = by (nat_eq b x) refl
  where
    by : (k : Bool) → nat_eq b x ≡ k → begins (x ∷ s) (b ∷ []) ≡ false
    by true e = absurd (h (ap (λ (y : ℕ). is_byte b y) (sym (eqb-true b x e)) ∙ eq-eqb b b refl))
    by false e = rw e refl

passed_over : (p : Text → Bool) (b : ℕ) → Needs b p → (s : Text) (at n : ℕ) → n ≤ length s → ((k : ℕ) → k < n → ¬ (is_byte b (slice_index s k) ≡ true)) → all_at p at s ≡ all_at p (at + n) (drop n s)
passed_over p b need s at zero l h = ap (λ (m : ℕ). all_at p m s) (omega arith)
passed_over p b need [] at (suc n) l h = absurd (omega arith)
passed_over p b need (x ∷ s) at (suc n) l h =
    let f : p (x ∷ s) ≡ false = need (x ∷ s) (other_byte b x s (h 0 (omega arith))) in
    let e : suc at + n ≡ at + suc n = omega arith in
    ap (λ (k : Bool). index_if k at (all_at p (suc at) s)) f
    ∙ passed_over p b need s (suc at) n (omega arith) (λ k m. h (suc k) (omega arith))
    ∙ ap (λ (m : ℕ). all_at p m (drop n s)) e

pub found_there : (b : ℕ) (s : Text) (at n : ℕ) → IsFirstByte (is_byte b) (drop at s) (Some n) → (p : Text → Bool) → Needs b p → all_at p at (drop at s) ≡ all_at p (at + n) (drop (at + n) s)
found_there b s at n (none, here) p need =
    passed_over p b need (drop at s) at n (omega (arith, none.high)) (λ k m. none.before k (omega arith) m)
    ∙ ap (all_at p (at + n)) (drop_more at n s)

pub found_nowhere : (b : ℕ) (s : Text) (at : ℕ) → at < length s → IsFirstByte (is_byte b) (drop at s) None → (p : Text → Bool) → Needs b p → all_at p at (drop at s) ≡ all_at p (length s) (drop (length s) s)
found_nowhere b s at l none p need =
    let size : length (drop at s) ≡ length s - at = length-drop at s in
    passed_over p b need (drop at s) at (length (drop at s)) (omega arith) (λ k m. none k (omega arith) m)
    ∙ ap (all_at p (at + length (drop at s))) (drop_all (length (drop at s)) (drop at s) (omega arith))
    ∙ sym (ap (all_at p (length s)) (drop_all (length s) s (omega arith)))
