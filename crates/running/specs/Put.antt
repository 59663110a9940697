-- What holds of the answer to a run whose texts are at hand: why it comes, and what becomes of the output.
use Rattle.std.specs.Prelude.{◌≡◌, ◌⊎◌, ℕ, ◌+◌, ◌≤◌, List, Bool, Option, Some, None}
use Rattle.outer_io.specs.Outer.{RoseBy}
use Rattle.tla_token.specs.declared.rule.Refusal.{Refusal}
use Rattle.step_runner.specs.Followed as runner
use Rattle.run_answer.specs.Chosen.{Files, Which, Refuses, IsRun}
use Rattle.followed_runs.specs.Stopping.{stop_of}
use Rattle.followed_runs.specs.declared.cause.Stop.{Stop}
use Rattle.running.specs.InMemory.{which_of}
use Rattle.running.specs.declared.files.Which as code
use Rattle.running.specs.Answers.{LeavesOut, IsUnwritten, IsEnd}
use Rattle.running.specs.Answers as answers
use Rattle.running.specs.Answered.{Writes, WritesInPart}
use Rattle.running.specs.declared.answer.RunAnswer.{RunAnswer}
use Rattle.running.specs.declared.answer.RunAnswer.TheVariants as answer

-- the answer where all is written
abbrev pub answer_of : Option Stop → RunAnswer
answer_of None = answer.Fine
answer_of (Some s) = answer.Stopped s

-- one of no file
abbrev pub IsPut : RunAnswer → Type 0
IsPut (answer.ReadFault w) = ⊥
IsPut (answer.TooLong w) = ⊥
IsPut a = Unit {0}

-- wrote, faults: what the output tells and counts; each clause is that of the same name in `AnsweredRun`
pub record Put {K : Type 0} (wrote : K → Option (List ℕ)) (faults : K → ℕ) (forced : Bool) (f : Files) (a : RunAnswer) (out out_after : K) : Type 0 where
  pub kind : IsPut a
  pub write_fault : a ≡ answer.WriteFault → RoseBy 1 (faults out) (faults out_after)
  pub refused : (w : code.Which) (r : Refusal) → a ≡ answer.Refused w r → Refuses forced f (which_of w) r
  pub offends : (w : Which) (r : Refusal) → Refuses forced f w r → IsUnwritten a
  pub runs : (w : List ℕ) (s : Option runner.Stop) → IsRun forced f w s → answers.IsUnrefused s a
  pub complete : (w : List ℕ) (s : Option runner.Stop) → IsRun forced f w s → (RoseBy 1 (faults out) (faults out_after) → ⊥) → IsEnd s a
  pub unused : LeavesOut a → out_after ≡ out
  pub fine : a ≡ answer.Fine → Writes (wrote out) (wrote out_after) forced None f
  pub stopped : (s : Stop) → a ≡ answer.Stopped s → Writes (wrote out) (wrote out_after) forced (stop_of (Some s)) f
  pub in_part : a ≡ answer.WriteFault → WritesInPart (wrote out) (wrote out_after) forced f
  pub write_faults_grow : faults out ≤ faults out_after
  pub write_counted : (a ≡ answer.WriteFault) ⊎ (faults out_after ≡ faults out)
  pub one_write_fault : faults out_after ≤ faults out + 1
