-- The answers of a run, by what they say of its files and of its output.
use Rattle.std.specs.Prelude.{◌≡◌, Option, Some, None}
use Rattle.run_answer.specs.Chosen.{Which}
use Rattle.step_runner.specs.Followed.{Stop}
use Rattle.followed_runs.specs.Stopping.{stop_of}
use Rattle.running.specs.InMemory.{which_of}
use Rattle.running.specs.declared.answer.RunAnswer.{RunAnswer}
use Rattle.running.specs.declared.answer.RunAnswer.TheVariants.{Fine, Memory, ReadFault, WriteFault, Refused, TooLong, Stopped}

-- this file couldn't be read, or is too long
abbrev pub StopsAt : RunAnswer → Which → Type 0
StopsAt (ReadFault v) w = which_of v ≡ w
StopsAt (TooLong v) w = which_of v ≡ w
StopsAt a w = ⊥

abbrev pub IsReadFault : RunAnswer → Type 0
IsReadFault (ReadFault w) = Unit {0}
IsReadFault a = ⊥

abbrev pub IsTooLong : RunAnswer → Type 0
IsTooLong (TooLong w) = Unit {0}
IsTooLong a = ⊥

-- on these all files were read whole
abbrev pub IsRead : RunAnswer → Type 0
IsRead Fine = Unit {0}
IsRead WriteFault = Unit {0}
IsRead (Refused w r) = Unit {0}
IsRead (Stopped s) = Unit {0}
IsRead a = ⊥

-- on these the output wasn't called
abbrev pub LeavesOut : RunAnswer → Type 0
LeavesOut Fine = ⊥
LeavesOut WriteFault = ⊥
LeavesOut (Stopped s) = ⊥
LeavesOut a = Unit {0}

-- where a file is missing, or too long
abbrev pub IsUnread : RunAnswer → Type 0
IsUnread Memory = Unit {0}
IsUnread (ReadFault w) = Unit {0}
IsUnread (TooLong w) = Unit {0}
IsUnread a = ⊥

-- where one is refused
abbrev pub IsUnwritten : RunAnswer → Type 0
IsUnwritten (Refused w r) = Unit {0}
IsUnwritten a = IsUnread a

-- where nothing is in the way: so a script ends that stops there, or doesn't stop
abbrev pub IsEnd : Option Stop → RunAnswer → Type 0
IsEnd None Fine = Unit {0}
IsEnd (Some s) (Stopped t) = stop_of (Some t) ≡ Some s
IsEnd o Memory = Unit {0}
IsEnd o a = ⊥

-- where no file is refused
abbrev pub IsUnrefused : Option Stop → RunAnswer → Type 0
IsUnrefused o (ReadFault w) = Unit {0}
IsUnrefused o (TooLong w) = Unit {0}
IsUnrefused o WriteFault = Unit {0}
IsUnrefused o a = IsEnd o a
