-- What holds of any three texts holds of those that are told.
use Rattle.std.specs.Prelude.{IfSome}
use Rattle.std.proofs.Common.{ℕ, List, Option, Some, None}
use Rattle.outer_io.specs.Outer.{Texts, Tells, told_at}
use Rattle.run_answer.specs.Chosen.{Files}
use Rattle.running.specs.Names.{Names, OfTexts}
use Rattle.pcal_cli.proofs.TextsTold.{of_all}

-- what is said of the others, where some are told
abbrev WithTwo : (Files → Type 0) → List ℕ → List ℕ → List ℕ → Type 0
WithTwo P x y z = P (record { source = x; config = y; third = z })

abbrev WithOne : Option Texts → Names → (Files → Type 0) → List ℕ → List ℕ → Type 0
WithOne ts n P x y = Tells ts n.third (WithTwo P x y)

abbrev WithNone : Option Texts → Names → (Files → Type 0) → List ℕ → Type 0
WithNone ts n P x = Tells ts n.config (WithOne ts n P x)

-- what holds of all texts holds of those that are told
pub of_texts : (ts : Option Texts) (n : Names) (P : Files → Type 0) → ((f : Files) → P f) → OfTexts ts n P
of_texts ts n P p =
    of_all ts n.source (WithNone ts n P) (λ x. of_all ts n.config (WithOne ts n P x) (λ y. of_all ts n.third (WithTwo P x y) (λ z. p (record { source = x; config = y; third = z }))))

if_told : (o : Option (List ℕ)) (P Q : List ℕ → Type 0) → ((x : List ℕ) → P x → Q x) → IfSome o P → IfSome o Q
if_told None P Q f h = tt
if_told (Some x) P Q f h = f x h

-- and so does what follows from it
pub map_texts : (ts : Option Texts) (n : Names) (P Q : Files → Type 0) → ((f : Files) → P f → Q f) → OfTexts ts n P → OfTexts ts n Q
map_texts ts n P Q f h =
    if_told (told_at ts n.source) (WithNone ts n P) (WithNone ts n Q)
    (λ x. if_told (told_at ts n.config) (WithOne ts n P x) (WithOne ts n Q x)
    (λ y. if_told (told_at ts n.third) (WithTwo P x y) (WithTwo Q x y) (λ z. f (record { source = x; config = y; third = z }))))
    h
