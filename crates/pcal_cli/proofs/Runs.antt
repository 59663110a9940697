-- What is answered to a run where there is no memory, why each of its answers comes, and when the answer is Fine.
use Rattle.std.proofs.Common.{◌≡◌, ℕ, ◌+◌, ◌<◌, ◌≤◌, List, [], length, Bool, Option, Some, None, refl, inr, arith}
use Rattle.outer_io.specs.Outer.{Texts, RoseBy}
use Rattle.tla_token.specs.Limits.{most_bytes}
use Rattle.tla_token.specs.declared.rule.Refusal.{Refusal}
use Rattle.step_runner.specs.Followed as runner
use Rattle.run_answer.specs.Chosen.{Which, Refuses, IsRun}
use Rattle.run_files.specs.declared.stops.Trouble.TheVariants as trouble
use Rattle.followed_runs.specs.declared.cause.Cause.{Cause}
use Rattle.followed_runs.specs.declared.cause.Cause.TheVariants as cause
use Rattle.followed_runs.specs.Stopping.{stop_of}
use Rattle.running.specs.InMemory.{which_of}
use Rattle.running.specs.declared.answer.RunAnswer.{RunAnswer}
use Rattle.running.specs.declared.answer.RunAnswer.TheVariants as run
use Rattle.running.specs.Names.{Names, name_of, size_of, AreShort}
use Rattle.running.specs.Answers.{IsUnread, IsUnwritten, IsEnd}
use Rattle.running.specs.Answers as answers
use Rattle.running.specs.Answered.{Writes, AnsweredRun}
use Rattle.pcal_cli.specs.declared.status.Status.{Status}
use Rattle.pcal_cli.specs.declared.status.Status.TheVariants.{Fine, Memory}
use Rattle.pcal_cli.specs.Answers.{line_of}
use Rattle.pcal_cli.specs.declared.status.Answer.TheVariants as answer
use Rattle.pcal_cli.specs.Told.{Told}
use Rattle.pcal_cli.specs.Runs.{status_by, status_of_run, HasRun, IsRunCause, AnsweredThree, ExplainsRun}
use Rattle.pcal_cli.proofs.TextsTold.{of_all}
use Rattle.pcal_cli.proofs.ThreeTold.{of_texts, map_texts}

end_memory : (s : Option runner.Stop) → IsEnd s run.Memory
end_memory None = tt
end_memory (Some s) = tt

-- Fine says that the script was followed to its end
no_stop : (c : Cause) → status_by c ≡ Fine → ⊥
no_stop (cause.Step w) h = absurd cc
no_stop (cause.Trouble (trouble.Fault k at)) h = absurd cc
no_stop (cause.Trouble (trouble.Limit at)) h = absurd cc

pub fine_run : (a : RunAnswer) → status_of_run a ≡ Fine → a ≡ run.Fine
fine_run run.Fine h = refl
fine_run run.Memory h = absurd cc
fine_run (run.ReadFault w) h = absurd cc
fine_run run.WriteFault h = absurd cc
fine_run (run.Refused w r) h = absurd cc
fine_run (run.TooLong w) h = absurd cc
fine_run (run.Stopped s) h = absurd (no_stop s.cause h)

module _ {H K : Type 0} (texts : H → Option Texts) (given faults : H → ℕ) (wrote : K → Option (List ℕ)) (write_faults : K → ℕ) (names : Names) (forced : Bool) where
  -- where there is no memory, nothing was called
  memory_run : (shelf : H) (out : K) → AnsweredRun texts given faults wrote write_faults names forced run.Memory shelf shelf out out
  memory_run shelf out = record {
    read_fault = λ w h. absurd cc;
    write_fault = λ h. absurd cc;
    too_long = λ w h. absurd cc;
    longer = λ w h. absurd cc;
    earlier = λ w v h b. absurd h;
    refused = λ w r h. absurd cc;
    lacking = λ w h. tt;
    long = λ w. of_all (texts shelf) (name_of names w) (λ x. most_bytes < length x → IsUnread run.Memory) (λ x h. tt);
    offends = of_texts (texts shelf) names (λ f. (w : Which) (r : Refusal) → Refuses forced f w r → IsUnwritten run.Memory) (λ f w r h. tt);
    runs = of_texts (texts shelf) names (λ f. (w : List ℕ) (s : Option runner.Stop) → IsRun forced f w s → answers.IsUnrefused s run.Memory) (λ f w s h. end_memory s);
    complete =
        of_texts (texts shelf) names (λ f. (w : List ℕ) (s : Option runner.Stop) → AreShort f → IsRun forced f w s → (RoseBy 1 (faults shelf) (faults shelf) → ⊥) → (RoseBy 1 (write_faults out) (write_faults out) → ⊥) → IsEnd s run.Memory) (λ f w s l h r o. end_memory s);
    unused = λ h. refl;
    fine = λ h. absurd cc;
    stopped = λ s h. absurd cc;
    in_part = λ h. absurd cc;
    texts_stay = refl;
    given_whole = λ h. absurd h;
    within = inr (omega arith);
    read_once = of_texts (texts shelf) names (λ f. given shelf ≤ given shelf + size_of f) (λ f. omega arith);
    read_few = omega arith;
    given_grows = omega arith;
    read_faults_grow = omega arith;
    write_faults_grow = omega arith;
    read_counted = inr refl;
    one_read_fault = omega arith;
    write_counted = inr refl;
    one_write_fault = omega arith;
  }

  pub three_memory : (s : Status) (shelf : H) (out : K) → s ≡ Memory → AnsweredThree texts given faults wrote write_faults names forced s shelf shelf out out
  three_memory s shelf out e = rw e (record { answer = run.Memory; is = refl; answered = memory_run shelf out })

  -- why an answer comes
  pub run_cause : (a : RunAnswer) (shelf after : H) (out out_after : K) → AnsweredRun texts given faults wrote write_faults names forced a shelf after out out_after → IsRunCause (texts shelf) (faults shelf) (faults after) names forced a
  run_cause run.Fine shelf after out out_after h = tt
  run_cause run.Memory shelf after out out_after h = tt
  run_cause (run.ReadFault w) shelf after out out_after h = (h.read_fault w refl, λ v b. h.earlier (which_of w) v refl b)
  run_cause run.WriteFault shelf after out out_after h = tt
  run_cause (run.Refused w r) shelf after out out_after h = h.refused w r refl
  run_cause (run.TooLong w) shelf after out out_after h = (h.longer w refl, λ v b. h.earlier (which_of w) v refl b)
  run_cause (run.Stopped s) shelf after out out_after h =
      map_texts (texts shelf) names (Writes (wrote out) (wrote out_after) forced (stop_of (Some s))) (HasRun forced (stop_of (Some s))) (λ f (w, grows, run). (w, run)) (h.stopped s refl)

-- no memory is no cause
pub memory_explains : (ts : Option Texts) (failed failed_after : ℕ) (names : Names) (forced : Bool) (s : Status) (old new : Option (List ℕ)) (before after : ℕ) → s ≡ Memory → Told old new before after (line_of answer.Memory [])
    → ExplainsRun ts failed failed_after names forced s old new before after
memory_explains ts failed failed_after names forced s old new before after e t = rw e (record { answer = run.Memory; is = refl; cause = tt; told = t })
