-- The trouble that is met first, processes in canonical order, and of each its lists of choices item by item.
use Rattle.std.specs.Prelude.{◌≡◌, List, [], ◌∷◌, cond, Option, Some, None, Ok, Err}
use Rattle.std.specs.Option.{option_or}
use Rattle.tla_tree.specs.Tree.{Word}
use Rattle.tla_value.specs.Value.{Value, Trouble, Outcome}
use Rattle.tla_value.specs.Order.{same}
use Rattle.pcal_tree.specs.Algorithm.{Routine}
use Rattle.pcal_tree.specs.Scope.{State}
use Rattle.pcal_tree.specs.Choices.{first_trouble}
use Rattle.pcal_tree.specs.StepStart.{Begin, at_label}
use Rattle.pcal_tree.specs.OffencesLabels.{label_words}
use Rattle.pcal_tree.specs.Program.{Program, Actor}
use Rattle.pcal_tree.specs.Calls.{label_value}
use Rattle.pcal_tree.specs.Processes.{actors}
use Rattle.pcal_tree.specs.Step.{pc_of, Stand, routines_of, course_of}

abbrev pub stand_at : Routine → Word → Option Begin → Option Stand
stand_at u l None = None
stand_at u l (Some b) = Some (record { routine = u; label = l; begins = b })

-- the label that a value of pc names
abbrev pub label_named : Program → Value → Routine → List Word → Option Stand
label_named P w u [] = None
label_named P w u (l ∷ ls) = option_or (cond (same w (label_value P u l)) (stand_at u l (at_label u l)) None) (label_named P w u ls)

abbrev pub stand_named : Program → Value → List Routine → Option Stand
stand_named P w [] = None
stand_named P w (u ∷ us) = option_or (label_named P w u (label_words u.body)) (stand_named P w us)

abbrev pub trouble_from : Program → State → Actor → Option Stand → Option Trouble
trouble_from P s v None = None
trouble_from P s v (Some d) = first_trouble (course_of P v d s)

abbrev pub trouble_at : Program → State → Actor → Outcome Value → Option Trouble
trouble_at P s v (Err k) = Some k
trouble_at P s v (Ok w) = trouble_from P s v (stand_named P w (routines_of P v))

abbrev pub trouble_of_all : Program → State → List Actor → Option Trouble
trouble_of_all P s [] = None
trouble_of_all P s (v ∷ vs) = option_or (trouble_at P s v (pc_of v s)) (trouble_of_all P s vs)

-- the first that is met, processes in canonical order, each by its lists of choices item by item
abbrev pub FirstTrouble : Program → State → Trouble → Type 0
FirstTrouble P s k = (vs : List Actor) × (actors P ≡ Ok vs) × (trouble_of_all P s vs ≡ Some k)
