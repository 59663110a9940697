-- The text of a state, put together piece by piece.
use Rattle.std.proofs.Common.{◌≡◌, ℕ, List, ◌++◌, codes, sym, ap, ◌∙◌, append_assoc}
use Rattle.std.specs.Fmt.{decimal}
use Rattle.std.specs.List.{flat_map}
use Rattle.tla_tree.specs.Tree.{Word}
use Rattle.pcal_tree.specs.Scope.{State}
use Rattle.pcal_tree.specs.Program.{Program}
use Rattle.pcal_tree.specs.Variables.{vars}
use Rattle.step_runner.specs.Fronts.{Text}
use Rattle.step_runner.specs.Shown.{Before, before_text, variable_text, state_text}

-- the pieces of a state's text behind another text
abbrev pub state_pieces : Text → ℕ → Text → Text → Text
state_pieces out n b lines = (((((out ++ codes "State ") ++ decimal n) ++ codes ": ") ++ b) ++ codes "\n") ++ lines

five_put : (out a b c d e f : Text) → (((((out ++ a) ++ b) ++ c) ++ d) ++ e) ++ f ≡ out ++ (a ++ (b ++ (c ++ (d ++ (e ++ f)))))
five_put out a b c d e f = simp append_assoc

pub state_put : (P : Program) (xs : List Word) (out : Text) (n : ℕ) (b : Before) (s : State) → vars P ≡ xs
    → state_pieces out n (before_text b) (flat_map (variable_text s) xs) ≡ out ++ state_text P n b s
state_put P xs out n b s e =
    five_put out (codes "State ") (decimal n) (codes ": ") (before_text b) (codes "\n") (flat_map (variable_text s) xs)
    ∙ ap (λ (ys : List Word). out ++ (codes "State " ++ (decimal n ++ (codes ": " ++ (before_text b ++ (codes "\n" ++ flat_map (variable_text s) ys)))))) (sym e)
