-- Runs that follow a script: the choices of the start, and then whose step comes next, with its choices.
use Rattle.std.specs.Prelude.{◌≡◌, ℕ, List, [], ◌∷◌, Option}
use Rattle.tla_value.specs.Value.{Value}
use Rattle.pcal_tree.specs.Scope.{State}
use Rattle.pcal_tree.specs.Choices.{Walk, went, walk}
use Rattle.pcal_tree.specs.Program.{Program, Actor}
use Rattle.pcal_tree.specs.Step.{Stand, StandsAt, course_of}
use Rattle.pcal_tree.specs.InitialChoice.{started}
use Rattle.pcal_tree.specs.Variables.{vars, Agree}
use Rattle.pcal_tree.specs.Processes.{IsActor}

-- a process by its identifier, or the one body, and its choices
pub record Turn : Type 0 where
  pub who : Option Value
  pub choices : List ℕ

-- a course ends in t by choices that are all used
abbrev pub Reaches : Program → Walk → State → Type 0
Reaches P w t = (u : State) × (w ≡ went u []) × Agree (vars P) u t

abbrev pub StepBy : Program → Turn → State → State → Type 0
StepBy P n s t =
    (v : Actor) × (d : Stand) × IsActor P v × (v.self ≡ n.who) × StandsAt P s v d × Reaches P (walk (course_of P v d s) n.choices) t

abbrev pub StepsBy : Program → List Turn → State → List State → Type 0
StepsBy P [] s [] = Unit {0}
StepsBy P (n ∷ ns) s (t ∷ ts) = StepBy P n s t × StepsBy P ns t ts
StepsBy P _ s _ = ⊥

-- the states of the whole script
abbrev pub RunOf : Program → List ℕ → List Turn → List State → Type 0
RunOf P choices ns [] = ⊥
RunOf P choices ns (s ∷ ts) = Reaches P (walk (started P) choices) s × StepsBy P ns s ts
