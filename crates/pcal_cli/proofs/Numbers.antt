-- No two answers have one number.
use Rattle.std.proofs.Common.{◌≡◌, ℕ, [], ◌∷◌, get_or, refl, sym, ap, ◌∙◌}
use Rattle.pcal_cli.specs.Answers.{status_number}
use Rattle.pcal_cli.specs.declared.status.Status.{Status}
use Rattle.pcal_cli.specs.declared.status.Status.TheVariants.{Fine, Memory, Usage, ReadFault, WriteFault, Refused, ScriptStep, NotAStep, Faulted, Limit, TooLong}

-- the answer with a number
abbrev status_at : ℕ → Status
status_at n = get_or (Fine ∷ Memory ∷ Usage ∷ ReadFault ∷ WriteFault ∷ Refused ∷ ScriptStep ∷ NotAStep ∷ Faulted ∷ Limit ∷ TooLong ∷ []) n Fine

at_its_number : (s : Status) → status_at (status_number s) ≡ s
at_its_number Fine = refl
at_its_number Memory = refl
at_its_number Usage = refl
at_its_number ReadFault = refl
at_its_number WriteFault = refl
at_its_number Refused = refl
at_its_number ScriptStep = refl
at_its_number NotAStep = refl
at_its_number Faulted = refl
at_its_number Limit = refl
at_its_number TooLong = refl

pub number_is : (a b : Status) → status_number a ≡ status_number b → a ≡ b
number_is a b e = sym (at_its_number a) ∙ ap status_at e ∙ at_its_number b
