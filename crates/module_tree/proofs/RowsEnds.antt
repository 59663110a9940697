-- Worked examples of where algorithms end, by computation.
use Rattle.std.specs.Prelude.{◌≡◌, ℕ, false, List, [], ◌∷◌, ◌++◌, Option, Some, codes}
use Rattle.std.proofs.Common.{refl}
use Rattle.tla_token.specs.declared.sign.Sign.TheVariants.{OpenCurly, CloseCurly}
use Rattle.tla_token.specs.Lexemes.{Kind, name, one}
use Rattle.module_tree.specs.TextFront.{Text, on_some}
use Rattle.module_tree.specs.AlgorithmText.{Stage, open_p, past_p, past_c, algorithm_in}
use Rattle.module_tree.specs.laws.AlgorithmEnd.{from_name, behind_name, end_algorithm, opened, closed}

-- a module whose comment holds these words
abbrev file : Text → Text
file w = codes "---- MODULE M ----\n(* " ++ w ++ codes " *)\n====\n"

-- an algorithm's tokens from its name on, and how it ends
abbrev told : Text → Option (List Kind × Stage)
told w = on_some (algorithm_in (file w)) (λ a. Some (from_name a, a.rest.stage))

-- how many braces are opened and closed behind its name
abbrev braces : Text → Option (ℕ × ℕ)
braces w = on_some (algorithm_in (file w)) (λ a. Some (opened (behind_name a), closed (behind_name a)))

first_of_two : told (codes "--algorithm A end algorithm end algorithm") ≡ Some (name (codes "A") ∷ end_algorithm, past_p)
first_of_two = refl

after_fair : told (codes "--fair algorithm A skip end algorithm") ≡ Some (name (codes "A") ∷ name (codes "skip") ∷ end_algorithm, past_p)
after_fair = refl

-- the name may be the first of the two words
named_end : told (codes "--algorithm end algorithm x end algorithm") ≡ Some (end_algorithm, past_p)
named_end = refl

apart : on_some (algorithm_in (file (codes "--algorithm A end ; algorithm"))) (λ a. Some a.rest.stage) ≡ Some (open_p false)
apart = refl

within_braces : told (codes "--algorithm A { { } } }") ≡ Some (name (codes "A") ∷ one OpenCurly ∷ one OpenCurly ∷ one CloseCurly ∷ one CloseCurly ∷ [], past_c)
within_braces = refl

as_many : braces (codes "--algorithm A { { } } }") ≡ Some (2, 2)
as_many = refl

words_in_braces : told (codes "--algorithm A { end algorithm }") ≡ Some (name (codes "A") ∷ one OpenCurly ∷ name (codes "end") ∷ name (codes "algorithm") ∷ one CloseCurly ∷ [], past_c)
words_in_braces = refl

still_open : braces (codes "--algorithm A { { }") ≡ Some (2, 1)
still_open = refl
