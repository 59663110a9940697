-- Values by how many there are.
use Rattle.std.specs.Prelude.{◌≡◌, List, [], ◌∷◌}
use Rattle.tla_value.specs.Value.{Value}
use Rattle.eval_operators.specs.declared.operands.Operands.{Operands}
use Rattle.eval_operators.specs.declared.operands.Operands.TheVariants.{One, Two, Three, Other}

-- neither one nor two nor three
abbrev pub AreOther : List Value → Type 0
AreOther [] = Unit {0}
AreOther (a ∷ []) = ⊥
AreOther (a ∷ b ∷ []) = ⊥
AreOther (a ∷ b ∷ d ∷ []) = ⊥
AreOther _ = Unit {0}

abbrev pub AreOperands : Operands → List Value → Type 0
AreOperands (One a) vs = vs ≡ a ∷ []
AreOperands (Two a b) vs = vs ≡ a ∷ b ∷ []
AreOperands (Three a b d) vs = vs ≡ a ∷ b ∷ d ∷ []
AreOperands Other vs = AreOther vs
