-- Where there is no first offence there is none.
use Rattle.std.proofs.Common.{◌≡◌, List, [], ◌∷◌, None, refl}
use Rattle.tla_token.specs.declared.rule.Refusal.{Refusal}
use Rattle.pcal_tree.specs.Offences.{first}

pub none_first : (rs : List Refusal) → first rs ≡ None → rs ≡ []
none_first [] e = refl
none_first (r ∷ rs) e = absurd cc
