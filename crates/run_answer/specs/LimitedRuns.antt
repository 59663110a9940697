-- What the limits of a run change: what is told with them is what is told without, or that one was passed.
use Rattle.std.specs.Prelude.{◌≡◌, List, ◌++◌, Option, Some, None}
use Rattle.tla_value.specs.Value.{fault, over}
use Rattle.tla_value.specs.Stops.{Check}
use Rattle.pcal_tree.specs.Scope.{State}
use Rattle.pcal_tree.specs.Program.{Program}
use Rattle.pcal_tree.specs.Choices.{Walk, went, failed, blocked, wanting}
use Rattle.pcal_tree.specs.StepAnswers.{Reply, reached, held_at, no_label, needs_choice, too_many_choices, stopped_by}
use Rattle.step_runner.specs.Followed.{Followed, Stop}

-- the program with these limits in place of its own
abbrev pub under : Check → Program → Program
under c P = record { check = c; constants = P.constants; outside = P.outside; algorithm = P.algorithm; naming = P.naming }

-- a walk is the other one, or passed a limit
abbrev pub WalkBelow : Walk → Walk → Type 0
WalkBelow (failed (over p)) w = Unit {0}
WalkBelow (failed (fault k p)) w = failed (fault k p) ≡ w
WalkBelow (went t ns) w = went t ns ≡ w
WalkBelow (blocked at) w = blocked at ≡ w
WalkBelow (wanting n at) w = wanting n at ≡ w

abbrev pub ReplyBelow : {X : Type 0} → Reply X → Reply X → Type 0
ReplyBelow (stopped_by (over p)) r = Unit {0}
ReplyBelow (stopped_by (fault k p)) r = stopped_by (fault k p) ≡ r
ReplyBelow (reached x) r = reached x ≡ r
ReplyBelow (held_at at) r = held_at at ≡ r
ReplyBelow no_label r = no_label ≡ r
ReplyBelow (needs_choice n at) r = needs_choice n at ≡ r
ReplyBelow (too_many_choices at) r = too_many_choices at ≡ r

-- the states of one are the first of the other
abbrev pub Begins : List State → List State → Type 0
Begins ss ts = (more : List State) × (ts ≡ ss ++ more)

-- where a script stops past a limit, its states are the first of those without; else all is the same
abbrev pub StoppedBelow : Reply State → Followed → Followed → Type 0
StoppedBelow (stopped_by (over p)) f g = Begins f.states g.states
StoppedBelow _ f g = f ≡ g

abbrev pub StopBelow : Option Stop → Followed → Followed → Type 0
StopBelow None f g = f ≡ g
StopBelow (Some s) f g = StoppedBelow s.reply f g

abbrev pub FollowedBelow : Followed → Followed → Type 0
FollowedBelow f g = StopBelow f.stop f g
