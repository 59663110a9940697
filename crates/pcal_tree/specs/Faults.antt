-- What goes wrong in a step, and the states from which nothing does ("A PlusCal User's Manual", section 3.7, labels).
use Rattle.std.specs.Prelude.{◌≡◌, ◌⊎◌, Err}
use Rattle.tla_token.specs.declared.place.Place.{Place}
use Rattle.tla_value.specs.declared.fault.FaultKind.{FaultKind}
use Rattle.tla_value.specs.Value.{Trouble, fault}
use Rattle.pcal_tree.specs.Scope.{State}
use Rattle.pcal_tree.specs.Run.{Has}
use Rattle.pcal_tree.specs.Program.{Program, Actor}
use Rattle.pcal_tree.specs.Processes.{Proper, IsActor}
use Rattle.pcal_tree.specs.Step.{pc_of, Stand, StandsAt, course_of}

-- process v's pc can't be read, or a step from where it is stops
abbrev pub Troubled : Program → State → Actor → Trouble → Type 0
Troubled P s v k = (pc_of v s ≡ Err k) ⊎ ((d : Stand) × StandsAt P s v d × Has (course_of P v d s) (Err k))

abbrev pub Faulty : Program → State → Actor → FaultKind → Place → Type 0
Faulty P s v kind at = Troubled P s v (fault kind at)

-- the identifiers are proper, and no process is in trouble
abbrev pub Sound : Program → State → Type 0
Sound P s = Proper P × ((v : Actor) (k : Trouble) → IsActor P v → Troubled P s v k → ⊥)
