-- Parts of forms, and what the left side of a connective decides alone.
use Rattle.std.specs.Prelude.{ℕ, Bool, true, false, List, [], ◌∷◌, Option, Some, None}
use Rattle.tla_tree.specs.Tree.{Form, conjunction, disjunction, implication}
use Rattle.eval_steps.specs.declared.forms.Connective.{Connective}
use Rattle.eval_steps.specs.declared.forms.Connective.TheVariants.{And, Or, Implies}

abbrev pub pair_of : List ℕ → Option (ℕ × ℕ)
pair_of (a ∷ b ∷ []) = Some (a, b)
pair_of _ = None

abbrev pub triple_of : List ℕ → Option (ℕ × ℕ × ℕ)
triple_of (a ∷ b ∷ d ∷ []) = Some (a, b, d)
triple_of _ = None

-- the form of a connective
abbrev pub connective_form : Connective → Form
connective_form And = conjunction
connective_form Or = disjunction
connective_form Implies = implication

-- what its left side alone decides
abbrev pub left_alone : Connective → Bool → Option Bool
left_alone And true = None
left_alone And false = Some false
left_alone Or true = Some true
left_alone Or false = None
left_alone Implies true = None
left_alone Implies false = Some true
