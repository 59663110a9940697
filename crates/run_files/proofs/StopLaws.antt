-- The lines that are written where a run or a trace stops, put together piece by piece.
use Rattle.std.proofs.Common.{◌≡◌, ℕ, zero, suc, [], ◌++◌, codes, Some, unwrap_or, refl, sym, ap, append_assoc}
use Rattle.std.specs.Fmt.{decimal, digits}
use Rattle.step_runner.specs.Fronts.{Text}
use Rattle.step_runner.specs.Shown.{why_text}
use Rattle.step_runner.specs.StopLines.{script_line, state_line}
use Rattle.run_files.specs.InMemory.{reply_of}
use Rattle.run_files.specs.declared.stops.Why.{Why}
use Rattle.run_files.specs.declared.stops.Why.TheVariants as why

-- ---- scripts

abbrev pub why_of : Why → Text
why_of y = unwrap_or (why_text (reply_of y)) []

abbrev pub script_pieces : ℕ → Text → Text
script_pieces n w = (((codes "pcal: script step " ++ decimal n) ++ codes ": ") ++ w) ++ codes "\n"

four_put : (a b c d e : Text) → a ++ (b ++ (c ++ (d ++ e))) ≡ (((a ++ b) ++ c) ++ d) ++ e
four_put a b c d e = sym (simp append_assoc)

put_some : (n : ℕ) (w : Text) → Some (codes "pcal: script step " ++ (decimal n ++ (codes ": " ++ (w ++ codes "\n")))) ≡ Some (script_pieces n w)
put_some n w = ap (λ (x : Text). Some x) (four_put (codes "pcal: script step ") (decimal n) (codes ": ") w (codes "\n"))

pub script_put : (n : ℕ) (y : Why) → script_line n (reply_of y) ≡ Some (script_pieces n (why_of y))
script_put n (why.Held at) = put_some n (why_of (why.Held at))
script_put n why.NoLabel = put_some n (why_of why.NoLabel)
script_put n (why.NeedsChoice k at) = put_some n (why_of (why.NeedsChoice k at))
script_put n (why.TooManyChoices at) = put_some n (why_of (why.TooManyChoices at))

-- ---- traces

pub initial_put : (n : ℕ) → n ≡ 0 → (codes "pcal: state " ++ decimal n) ++ codes " is not initial\n" ≡ state_line n
unfolding digits
initial_put zero e = refl
initial_put (suc n) e = cc

pub step_put : (n : ℕ) → (n ≡ 0 → ⊥) → (codes "pcal: state " ++ decimal n) ++ codes " is no step\n" ≡ state_line n
step_put zero ne = absurd (ne refl)
step_put (suc n) ne = append_assoc (codes "pcal: state ") (decimal (suc n)) (codes " is no step\n")
