-- What is answered to a trace where there is no memory, why each of its answers comes, and when the answer is Fine.
use Rattle.std.proofs.Common.{◌≡◌, ℕ, ◌+◌, ◌<◌, ◌≤◌, List, [], length, Option, Some, None, refl, inr, arith}
use Rattle.outer_io.specs.Outer.{Texts, RoseBy}
use Rattle.tla_token.specs.Limits.{most_bytes}
use Rattle.tla_token.specs.declared.rule.Refusal.{Refusal}
use Rattle.promise.specs.Options.{Options}
use Rattle.step_runner.specs.Explained as pure
use Rattle.run_answer.specs.Chosen.{Which}
use Rattle.trace_answer.specs.Traced.{RefusesTrace, IsTrace}
use Rattle.run_files.specs.declared.stops.Trouble.TheVariants as trouble
use Rattle.explained_traces.specs.declared.explaining.Halt.{Halt}
use Rattle.explained_traces.specs.declared.explaining.Halt.TheVariants as halt
use Rattle.explained_traces.specs.Halts.{halt_of}
use Rattle.running.specs.InMemory.{which_of}
use Rattle.running.specs.Names.{Names, name_of, size_of, AreShort}
use Rattle.trace_command.specs.declared.answer.TraceAnswer.{TraceAnswer}
use Rattle.trace_command.specs.declared.answer.TraceAnswer.TheVariants as trace
use Rattle.trace_command.specs.Answers.{IsUnread, IsUnwritten, IsUnrefused, IsEnd}
use Rattle.trace_command.specs.Answered.{Writes, AnsweredTrace}
use Rattle.pcal_cli.specs.declared.status.Status.{Status}
use Rattle.pcal_cli.specs.declared.status.Status.TheVariants.{Fine, Memory}
use Rattle.pcal_cli.specs.Answers.{line_of}
use Rattle.pcal_cli.specs.declared.status.Answer.TheVariants as answer
use Rattle.pcal_cli.specs.Told.{Told}
use Rattle.pcal_cli.specs.Traces.{status_of_halt, status_of_trace, HasTrace, IsTraceCause, AnsweredTraced, ExplainsTrace}
use Rattle.pcal_cli.proofs.TextsTold.{of_all}
use Rattle.pcal_cli.proofs.ThreeTold.{of_texts, map_texts}

end_memory : (s : Option pure.Halt) → IsEnd s trace.Memory
end_memory None = tt
end_memory (Some s) = tt

-- Fine says that all states were shown
no_halt : (h : Halt) → status_of_halt h ≡ Fine → ⊥
no_halt (halt.Untrue n) h = absurd cc
no_halt (halt.Troubled (trouble.Fault k at)) h = absurd cc
no_halt (halt.Troubled (trouble.Limit at)) h = absurd cc

pub fine_trace : (a : TraceAnswer) → status_of_trace a ≡ Fine → a ≡ trace.Fine
fine_trace trace.Fine h = refl
fine_trace trace.Memory h = absurd cc
fine_trace (trace.ReadFault w) h = absurd cc
fine_trace trace.WriteFault h = absurd cc
fine_trace (trace.Refused w r) h = absurd cc
fine_trace (trace.TooLong w) h = absurd cc
fine_trace (trace.Halted s) h = absurd (no_halt s h)

module _ {H K : Type 0} (texts : H → Option Texts) (given faults : H → ℕ) (wrote : K → Option (List ℕ)) (write_faults : K → ℕ) (names : Names) (options : Options) where
  -- where there is no memory, nothing was called
  memory_traced : (shelf : H) (out : K) → AnsweredTrace texts given faults wrote write_faults names options trace.Memory shelf shelf out out
  memory_traced shelf out = record {
    read_fault = λ w h. absurd cc;
    write_fault = λ h. absurd cc;
    too_long = λ w h. absurd cc;
    longer = λ w h. absurd cc;
    earlier = λ w v h b. absurd h;
    refused = λ w r h. absurd cc;
    lacking = λ w h. tt;
    long = λ w. of_all (texts shelf) (name_of names w) (λ x. most_bytes < length x → IsUnread trace.Memory) (λ x h. tt);
    offends = of_texts (texts shelf) names (λ f. (w : Which) (r : Refusal) → RefusesTrace options.label f w r → IsUnwritten trace.Memory) (λ f w r h. tt);
    traced = of_texts (texts shelf) names (λ f. (w : List ℕ) (s : Option pure.Halt) → IsTrace options f w s → IsUnrefused s trace.Memory) (λ f w s h. end_memory s);
    complete =
        of_texts (texts shelf) names (λ f. (w : List ℕ) (s : Option pure.Halt) → AreShort f → IsTrace options f w s → (RoseBy 1 (faults shelf) (faults shelf) → ⊥) → (RoseBy 1 (write_faults out) (write_faults out) → ⊥) → IsEnd s trace.Memory) (λ f w s l h r o. end_memory s);
    unused = λ h. refl;
    fine = λ h. absurd cc;
    halted = λ s h. absurd cc;
    in_part = λ h. absurd cc;
    texts_stay = refl;
    given_whole = λ h. absurd h;
    within = inr (omega arith);
    read_once = of_texts (texts shelf) names (λ f. given shelf ≤ given shelf + size_of f) (λ f. omega arith);
    read_few = omega arith;
    given_grows = omega arith;
    read_faults_grow = omega arith;
    write_faults_grow = omega arith;
    read_counted = inr refl;
    one_read_fault = omega arith;
    write_counted = inr refl;
    one_write_fault = omega arith;
  }

  pub traced_memory : (s : Status) (shelf : H) (out : K) → s ≡ Memory → AnsweredTraced texts given faults wrote write_faults names options s shelf shelf out out
  traced_memory s shelf out e = rw e (record { answer = trace.Memory; is = refl; answered = memory_traced shelf out })

  -- why an answer comes
  pub trace_cause : (a : TraceAnswer) (shelf after : H) (out out_after : K) → AnsweredTrace texts given faults wrote write_faults names options a shelf after out out_after → IsTraceCause (texts shelf) (faults shelf) (faults after) names options a
  trace_cause trace.Fine shelf after out out_after h = tt
  trace_cause trace.Memory shelf after out out_after h = tt
  trace_cause (trace.ReadFault w) shelf after out out_after h = (h.read_fault w refl, λ v b. h.earlier (which_of w) v refl b)
  trace_cause trace.WriteFault shelf after out out_after h = tt
  trace_cause (trace.Refused w r) shelf after out out_after h = h.refused w r refl
  trace_cause (trace.TooLong w) shelf after out out_after h = (h.longer w refl, λ v b. h.earlier (which_of w) v refl b)
  trace_cause (trace.Halted s) shelf after out out_after h =
      map_texts (texts shelf) names (Writes (wrote out) (wrote out_after) options (halt_of (Some s))) (HasTrace options (halt_of (Some s))) (λ f (w, grows, trace). (w, trace)) (h.halted s refl)

-- no memory is no cause
pub trace_memory_explains : (ts : Option Texts) (failed failed_after : ℕ) (names : Names) (options : Options) (s : Status) (old new : Option (List ℕ)) (before after : ℕ) → s ≡ Memory → Told old new before after (line_of answer.Memory [])
    → ExplainsTrace ts failed failed_after names options s old new before after
trace_memory_explains ts failed failed_after names options s old new before after e t = rw e (record { answer = trace.Memory; is = refl; cause = tt; told = t })
