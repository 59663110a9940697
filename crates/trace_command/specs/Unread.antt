-- What is answered to a trace of which a file wasn't read: just what is answered to such a run.
use Rattle.running.specs.declared.answer.RunAnswer.{RunAnswer}
use Rattle.running.specs.declared.answer.RunAnswer.TheVariants as run
use Rattle.trace_command.specs.declared.answer.TraceAnswer.{TraceAnswer}
use Rattle.trace_command.specs.declared.answer.TraceAnswer.TheVariants as answer

-- where no file is at fault, there was no memory
abbrev pub unread_as : RunAnswer → TraceAnswer
unread_as (run.ReadFault w) = answer.ReadFault w
unread_as (run.TooLong w) = answer.TooLong w
unread_as a = answer.Memory
