-- The answer to a trace whose texts are at hand, by what became of the output.
use Rattle.std.proofs.Common.{◌≡◌, ℕ, ◌+◌, ◌≤◌, List, Option, Some, None, refl, subst, inl, inr, arith}
use Rattle.outer_io.specs.Outer.{RoseBy, Grows, GrowsInPart}
use Rattle.tla_token.specs.declared.rule.Refusal.{Refusal}
use Rattle.promise.specs.Options.{Options}
use Rattle.step_runner.specs.Explained as pure
use Rattle.run_answer.specs.Chosen.{Files}
use Rattle.trace_answer.specs.Traced.{RefusesTrace, IsTrace}
use Rattle.trace_answer.specs.Promised.{KeepsTrace}
use Rattle.trace_answer.proofs.Explanations.{not_both, one_trace}
use Rattle.explained_traces.specs.Halts.{halt_of}
use Rattle.explained_traces.specs.declared.explaining.Halt.{Halt}
use Rattle.running.specs.InMemory.{which_of}
use Rattle.running.specs.declared.files.Which as code
use Rattle.trace_command.specs.Answers.{LeavesOut, IsEnd}
use Rattle.trace_command.specs.Answers as answers
use Rattle.trace_command.specs.Answered.{KeepsPromise}
use Rattle.trace_command.specs.Put.{answer_of, IsPut, Put}
use Rattle.trace_command.specs.declared.answer.TraceAnswer.{TraceAnswer}
use Rattle.trace_command.specs.declared.answer.TraceAnswer.TheVariants as answer
use Rattle.trace_command.proofs.Answering.{memory_end}

-- ---- the answer to a trace that stops so

ended_put : (o : Option Halt) → IsPut (answer_of o)
ended_put None = tt
ended_put (Some s) = tt

ended_end : (o : Option Halt) → IsEnd (halt_of o) (answer_of o)
ended_end None = tt
ended_end (Some s) = refl

ended_trace : (o : Option Halt) → answers.IsUnrefused (halt_of o) (answer_of o)
ended_trace None = tt
ended_trace (Some s) = refl

ended_out : {X : Type 0} (o : Option Halt) → LeavesOut (answer_of o) → X
ended_out None h = absurd h
ended_out (Some s) h = absurd h

ended_fault : {X : Type 0} (o : Option Halt) → answer_of o ≡ answer.WriteFault → X
ended_fault None e = absurd cc
ended_fault (Some s) e = absurd cc

ended_refused : {X : Type 0} (o : Option Halt) (w : code.Which) (r : Refusal) → answer_of o ≡ answer.Refused w r → X
ended_refused None w r e = absurd cc
ended_refused (Some s) w r e = absurd cc

-- it is that of this stop alone
pub ended_fine : (o : Option Halt) → answer_of o ≡ answer.Fine → o ≡ None
ended_fine None e = refl
ended_fine (Some s) e = absurd cc

pub ended_halted : (o : Option Halt) (s : Halt) → answer_of o ≡ answer.Halted s → o ≡ Some s
ended_halted None s e = absurd cc
ended_halted (Some t) s e = cc

-- ---- what became of the output

module _ {K : Type 0} (wrote : K → Option (List ℕ)) (faults : K → ℕ) (options : Options) (f : Files) (out : K) where
  pub put_memory : Put wrote faults options f answer.Memory out out
  put_memory = record {
    kind = tt;
    write_fault = λ e. absurd cc;
    refused = λ w r e. absurd cc;
    offends = λ w r h. tt;
    traced = λ w s h. memory_end s;
    complete = λ w s h never. memory_end s;
    unused = λ h. refl;
    fine = λ e. absurd cc;
    halted = λ s e. absurd cc;
    in_part = λ e. absurd cc;
    write_faults_grow = omega arith;
    write_counted = inr refl;
    one_write_fault = omega arith;
  }

  -- a file is refused
  pub put_refused : (w : code.Which) (r : Refusal) → RefusesTrace options.label f (which_of w) r → Put wrote faults options f (answer.Refused w r) out out
  put_refused w r h = record {
    kind = tt;
    write_fault = λ e. absurd cc;
    refused = λ v q e. subst (IsRefusedBy) e h;
    offends = λ v q k. tt;
    traced = λ v s k. absurd (not_both options.label f (which_of w) r h k.given);
    complete = λ v s k never. absurd (not_both options.label f (which_of w) r h k.given);
    unused = λ k. refl;
    fine = λ e. absurd cc;
    halted = λ s e. absurd cc;
    in_part = λ e. absurd cc;
    write_faults_grow = omega arith;
    write_counted = inr refl;
    one_write_fault = omega arith;
  }
    where
      IsRefusedBy : TraceAnswer → Type 0
      IsRefusedBy (answer.Refused v q) = RefusesTrace options.label f (which_of v) q
      IsRefusedBy a = ⊥

  -- the text of the trace went out
  module _ (after : K) (b : List ℕ) (o : Option Halt) (trace : IsTrace options f b (halt_of o)) where
    -- each trace of the files stops so
    one_halt : (v : List ℕ) (s : Option pure.Halt) → IsTrace options f v s → halt_of o ≡ s
    one_halt v s h = (one_trace options f b v (halt_of o) s trace h).1

    -- whole, as w
    pub put_whole : (w : List ℕ) → w ≡ b → Grows (wrote out) (wrote after) w → faults after ≡ faults out → Put wrote faults options f (answer_of o) out after
    put_whole w e grows same =
        let whole = subst (Grows (wrote out) (wrote after)) e grows in
        record {
          kind = ended_put o;
          write_fault = ended_fault o;
          refused = λ v r k. ended_refused o v r k;
          offends = λ v r k. absurd (not_both options.label f v r k trace.given);
          traced = λ v s k. subst (λ t. answers.IsUnrefused t (answer_of o)) (one_halt v s k) (ended_trace o);
          complete = λ v s k never. subst (λ t. IsEnd t (answer_of o)) (one_halt v s k) (ended_end o);
          unused = ended_out o;
          fine = λ k. (b, whole, subst (λ p. IsTrace options f b (halt_of p)) (ended_fine o k) trace);
          halted = λ s k. (b, whole, subst (λ p. IsTrace options f b (halt_of p)) (ended_halted o s k) trace);
          in_part = ended_fault o;
          write_faults_grow = omega (arith, same);
          write_counted = inr same;
          one_write_fault = omega (arith, same);
        }

    -- the first bytes of it
    pub put_part : (w : List ℕ) → w ≡ b → GrowsInPart (wrote out) (wrote after) w → RoseBy 1 (faults out) (faults after) → faults out ≤ faults after → faults after ≤ faults out + 1
        → Put wrote faults options f answer.WriteFault out after
    put_part w e grows rose more once = record {
      kind = tt;
      write_fault = λ k. rose;
      refused = λ v r k. absurd cc;
      offends = λ v r k. absurd (not_both options.label f v r k trace.given);
      traced = λ v s k. tt;
      complete = λ v s k never. absurd (never rose);
      unused = λ k. absurd k;
      fine = λ k. absurd cc;
      halted = λ s k. absurd cc;
      in_part = λ k. (b, halt_of o, subst (GrowsInPart (wrote out) (wrote after)) e grows, trace);
      write_faults_grow = more;
      write_counted = inl refl;
      one_write_fault = once;
    }

  -- what went out keeps the promise
  pub put_promise : (after : K) (b w : List ℕ) → w ≡ b → Grows (wrote out) (wrote after) w → KeepsTrace options f b → KeepsPromise (wrote out) (wrote after) options f
  put_promise after b w e grows keeps = (b, subst (Grows (wrote out) (wrote after)) e grows, keeps)
