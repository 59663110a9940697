-- What holds of the answer to a trace whose texts are at hand: why it comes, and what becomes of the output.
use Rattle.std.specs.Prelude.{◌≡◌, ◌⊎◌, ℕ, ◌+◌, ◌≤◌, List, Option, Some, None}
use Rattle.outer_io.specs.Outer.{RoseBy}
use Rattle.tla_token.specs.declared.rule.Refusal.{Refusal}
use Rattle.promise.specs.Options.{Options}
use Rattle.step_runner.specs.Explained as pure
use Rattle.run_answer.specs.Chosen.{Files, Which}
use Rattle.trace_answer.specs.Traced.{RefusesTrace, IsTrace}
use Rattle.explained_traces.specs.Halts.{halt_of}
use Rattle.explained_traces.specs.declared.explaining.Halt.{Halt}
use Rattle.running.specs.InMemory.{which_of}
use Rattle.running.specs.declared.files.Which as code
use Rattle.trace_command.specs.Answers.{LeavesOut, IsUnwritten, IsEnd}
use Rattle.trace_command.specs.Answers as answers
use Rattle.trace_command.specs.Answered.{Writes, WritesInPart}
use Rattle.trace_command.specs.declared.answer.TraceAnswer.{TraceAnswer}
use Rattle.trace_command.specs.declared.answer.TraceAnswer.TheVariants as answer

-- the answer where all is written
abbrev pub answer_of : Option Halt → TraceAnswer
answer_of None = answer.Fine
answer_of (Some s) = answer.Halted s

-- one of no file
abbrev pub IsPut : TraceAnswer → Type 0
IsPut (answer.ReadFault w) = ⊥
IsPut (answer.TooLong w) = ⊥
IsPut a = Unit {0}

-- wrote, faults: what the output tells and counts; each clause is that of the same name in `AnsweredTrace`
pub record Put {K : Type 0} (wrote : K → Option (List ℕ)) (faults : K → ℕ) (options : Options) (f : Files) (a : TraceAnswer) (out out_after : K) : Type 0 where
  pub kind : IsPut a
  pub write_fault : a ≡ answer.WriteFault → RoseBy 1 (faults out) (faults out_after)
  pub refused : (w : code.Which) (r : Refusal) → a ≡ answer.Refused w r → RefusesTrace options.label f (which_of w) r
  pub offends : (w : Which) (r : Refusal) → RefusesTrace options.label f w r → IsUnwritten a
  pub traced : (w : List ℕ) (s : Option pure.Halt) → IsTrace options f w s → answers.IsUnrefused s a
  pub complete : (w : List ℕ) (s : Option pure.Halt) → IsTrace options f w s → (RoseBy 1 (faults out) (faults out_after) → ⊥) → IsEnd s a
  pub unused : LeavesOut a → out_after ≡ out
  pub fine : a ≡ answer.Fine → Writes (wrote out) (wrote out_after) options None f
  pub halted : (s : Halt) → a ≡ answer.Halted s → Writes (wrote out) (wrote out_after) options (halt_of (Some s)) f
  pub in_part : a ≡ answer.WriteFault → WritesInPart (wrote out) (wrote out_after) options f
  pub write_faults_grow : faults out ≤ faults out_after
  pub write_counted : (a ≡ answer.WriteFault) ⊎ (faults out_after ≡ faults out)
  pub one_write_fault : faults out_after ≤ faults out + 1
