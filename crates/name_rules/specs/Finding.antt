-- What was found of offences and of uses of names, as more is looked at.
use Rattle.std.specs.Prelude.{◌≡◌, List, [], Option, None, length, take}
use Rattle.tla_token.specs.declared.rule.Refusal.{Refusal}
use Rattle.pcal_tree.specs.Offences.{first}
use Rattle.pcal_tree.specs.NameUses.{Sight}
use Rattle.algorithm_answer.specs.Joined.{joined}
use Rattle.name_rules.specs.declared.found.Found.{Found}
use Rattle.declared_rules.specs.UsesTold.{told_by, Inside}

abbrev pub told : Found → Sight → Option Refusal
told k s = told_by k.first k.free.keys s

-- what was looked at offends so where it stands; no more names are bound than before
pub record Tells (old new : Found) (offends : Sight → List Refusal) : Type 0 where
  pub bound : new.bound ≡ old.bound
  pub tells : (s r : Sight) → Inside old.bound s r → told new s ≡ joined (told old s) (first (offends r))

-- the same, and more may be bound behind those
pub record TellsParts (old new : Found) (offends : Sight → List Refusal) : Type 0 where
  pub bound : take (length old.bound) new.bound ≡ old.bound
  pub tells : (s r : Sight) → Inside old.bound s r → told new s ≡ joined (told old s) (first (offends r))

-- nothing was found, and no name is bound
pub record IsNew (k : Found) : Type 0 where
  pub first : k.first ≡ None
  pub free : k.free.keys ≡ []
  pub bound : k.bound ≡ []
