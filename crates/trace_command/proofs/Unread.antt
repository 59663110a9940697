-- What is known of a run of which a file wasn't read, said of a trace.
use Rattle.std.proofs.Common.{◌≡◌, ◌⊎◌, inl, inr}
use Rattle.run_answer.specs.Chosen.{Which}
use Rattle.running.specs.declared.files.Which as code
use Rattle.running.specs.Answers as runs
use Rattle.running.specs.declared.answer.RunAnswer.{RunAnswer}
use Rattle.running.specs.declared.answer.RunAnswer.TheVariants as run
use Rattle.trace_command.specs.Answers.{StopsAt, IsReadFault, IsTooLong, IsUnread}
use Rattle.trace_command.specs.Unread.{unread_as}
use Rattle.trace_command.specs.declared.answer.TraceAnswer.TheVariants as answer

-- it is one of a file that wasn't read
pub as_unread : (a : RunAnswer) → IsUnread (unread_as a)
as_unread run.Fine = tt
as_unread run.Memory = tt
as_unread (run.ReadFault w) = tt
as_unread run.WriteFault = tt
as_unread (run.Refused w r) = tt
as_unread (run.TooLong w) = tt
as_unread (run.Stopped s) = tt

-- of the same one
pub read_fault_of : (a : RunAnswer) (w : code.Which) → unread_as a ≡ answer.ReadFault w → a ≡ run.ReadFault w
read_fault_of run.Fine w e = absurd cc
read_fault_of run.Memory w e = absurd cc
read_fault_of (run.ReadFault v) w e = cc
read_fault_of run.WriteFault w e = absurd cc
read_fault_of (run.Refused v r) w e = absurd cc
read_fault_of (run.TooLong v) w e = absurd cc
read_fault_of (run.Stopped s) w e = absurd cc

pub too_long_of : (a : RunAnswer) (w : code.Which) → unread_as a ≡ answer.TooLong w → a ≡ run.TooLong w
too_long_of run.Fine w e = absurd cc
too_long_of run.Memory w e = absurd cc
too_long_of (run.ReadFault v) w e = absurd cc
too_long_of run.WriteFault w e = absurd cc
too_long_of (run.Refused v r) w e = absurd cc
too_long_of (run.TooLong v) w e = cc
too_long_of (run.Stopped s) w e = absurd cc

pub stops_of : (a : RunAnswer) (w : Which) → StopsAt (unread_as a) w → runs.StopsAt a w
stops_of run.Fine w h = absurd h
stops_of run.Memory w h = absurd h
stops_of (run.ReadFault v) w h = h
stops_of run.WriteFault w h = absurd h
stops_of (run.Refused v r) w h = absurd h
stops_of (run.TooLong v) w h = h
stops_of (run.Stopped s) w h = absurd h

-- and of the same kind
is_fault : (a : RunAnswer) → runs.IsReadFault a → IsReadFault (unread_as a)
is_fault run.Fine h = absurd h
is_fault run.Memory h = absurd h
is_fault (run.ReadFault w) h = tt
is_fault run.WriteFault h = absurd h
is_fault (run.Refused w r) h = absurd h
is_fault (run.TooLong w) h = absurd h
is_fault (run.Stopped s) h = absurd h

is_long : (a : RunAnswer) → runs.IsTooLong a → IsTooLong (unread_as a)
is_long run.Fine h = absurd h
is_long run.Memory h = absurd h
is_long (run.ReadFault w) h = absurd h
is_long run.WriteFault h = absurd h
is_long (run.Refused w r) h = absurd h
is_long (run.TooLong w) h = tt
is_long (run.Stopped s) h = absurd h

-- a clause of both
pub or_fault : {X : Type 0} (a : RunAnswer) → runs.IsReadFault a ⊎ X → IsReadFault (unread_as a) ⊎ X
or_fault a (inl h) = inl (is_fault a h)
or_fault a (inr x) = inr x

pub or_long : {X : Type 0} (a : RunAnswer) → runs.IsTooLong a ⊎ X → IsTooLong (unread_as a) ⊎ X
or_long a (inl h) = inl (is_long a h)
or_long a (inr x) = inr x
