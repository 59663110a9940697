-- The answer to a run whose texts are at hand, by what became of the output.
use Rattle.std.specs.Prelude.{Bool}
use Rattle.std.proofs.Common.{◌≡◌, ℕ, ◌+◌, ◌≤◌, List, Option, Some, None, refl, subst, inl, inr, arith}
use Rattle.outer_io.specs.Outer.{RoseBy, Grows, GrowsInPart}
use Rattle.tla_token.specs.declared.rule.Refusal.{Refusal}
use Rattle.step_runner.specs.Followed as runner
use Rattle.run_answer.specs.Chosen.{Files, Refuses, IsRun}
use Rattle.run_answer.specs.Promised.{KeepsRun}
use Rattle.run_answer.proofs.Choices.{not_both, one_run}
use Rattle.followed_runs.specs.Stopping.{stop_of}
use Rattle.followed_runs.specs.declared.cause.Stop.{Stop}
use Rattle.running.specs.InMemory.{which_of}
use Rattle.running.specs.declared.files.Which as code
use Rattle.running.specs.Answers.{LeavesOut, IsEnd}
use Rattle.running.specs.Answers as answers
use Rattle.running.specs.Answered.{KeepsPromise}
use Rattle.running.specs.Put.{answer_of, IsPut, Put}
use Rattle.running.specs.declared.answer.RunAnswer.{RunAnswer}
use Rattle.running.specs.declared.answer.RunAnswer.TheVariants as answer
use Rattle.running.proofs.Answering.{memory_end}

-- ---- the answer to a run that stops so

ended_put : (o : Option Stop) → IsPut (answer_of o)
ended_put None = tt
ended_put (Some s) = tt

ended_end : (o : Option Stop) → IsEnd (stop_of o) (answer_of o)
ended_end None = tt
ended_end (Some s) = refl

ended_run : (o : Option Stop) → answers.IsUnrefused (stop_of o) (answer_of o)
ended_run None = tt
ended_run (Some s) = refl

ended_out : {X : Type 0} (o : Option Stop) → LeavesOut (answer_of o) → X
ended_out None h = absurd h
ended_out (Some s) h = absurd h

ended_fault : {X : Type 0} (o : Option Stop) → answer_of o ≡ answer.WriteFault → X
ended_fault None e = absurd cc
ended_fault (Some s) e = absurd cc

ended_refused : {X : Type 0} (o : Option Stop) (w : code.Which) (r : Refusal) → answer_of o ≡ answer.Refused w r → X
ended_refused None w r e = absurd cc
ended_refused (Some s) w r e = absurd cc

-- it is that of this stop alone
pub ended_fine : (o : Option Stop) → answer_of o ≡ answer.Fine → o ≡ None
ended_fine None e = refl
ended_fine (Some s) e = absurd cc

pub ended_stopped : (o : Option Stop) (s : Stop) → answer_of o ≡ answer.Stopped s → o ≡ Some s
ended_stopped None s e = absurd cc
ended_stopped (Some t) s e = cc

-- ---- what became of the output

module _ {K : Type 0} (wrote : K → Option (List ℕ)) (faults : K → ℕ) (forced : Bool) (f : Files) (out : K) where
  pub put_memory : Put wrote faults forced f answer.Memory out out
  put_memory = record {
    kind = tt;
    write_fault = λ e. absurd cc;
    refused = λ w r e. absurd cc;
    offends = λ w r h. tt;
    runs = λ w s h. memory_end s;
    complete = λ w s h never. memory_end s;
    unused = λ h. refl;
    fine = λ e. absurd cc;
    stopped = λ s e. absurd cc;
    in_part = λ e. absurd cc;
    write_faults_grow = omega arith;
    write_counted = inr refl;
    one_write_fault = omega arith;
  }

  -- a file is refused
  pub put_refused : (w : code.Which) (r : Refusal) → Refuses forced f (which_of w) r → Put wrote faults forced f (answer.Refused w r) out out
  put_refused w r h = record {
    kind = tt;
    write_fault = λ e. absurd cc;
    refused = λ v q e. subst (IsRefusedBy) e h;
    offends = λ v q k. tt;
    runs = λ v s k. absurd (not_both forced f (which_of w) r h k.chosen);
    complete = λ v s k never. absurd (not_both forced f (which_of w) r h k.chosen);
    unused = λ k. refl;
    fine = λ e. absurd cc;
    stopped = λ s e. absurd cc;
    in_part = λ e. absurd cc;
    write_faults_grow = omega arith;
    write_counted = inr refl;
    one_write_fault = omega arith;
  }
    where
      IsRefusedBy : RunAnswer → Type 0
      IsRefusedBy (answer.Refused v q) = Refuses forced f (which_of v) q
      IsRefusedBy a = ⊥

  -- the text of the run went out
  module _ (after : K) (b : List ℕ) (o : Option Stop) (run : IsRun forced f b (stop_of o)) where
    -- each run of the files stops so
    one_stop : (v : List ℕ) (s : Option runner.Stop) → IsRun forced f v s → stop_of o ≡ s
    one_stop v s h = (one_run forced f b v (stop_of o) s run h).1

    -- whole, as w
    pub put_whole : (w : List ℕ) → w ≡ b → Grows (wrote out) (wrote after) w → faults after ≡ faults out → Put wrote faults forced f (answer_of o) out after
    put_whole w e grows same =
        let whole = subst (Grows (wrote out) (wrote after)) e grows in
        record {
          kind = ended_put o;
          write_fault = ended_fault o;
          refused = λ v r k. ended_refused o v r k;
          offends = λ v r k. absurd (not_both forced f v r k run.chosen);
          runs = λ v s k. subst (λ t. answers.IsUnrefused t (answer_of o)) (one_stop v s k) (ended_run o);
          complete = λ v s k never. subst (λ t. IsEnd t (answer_of o)) (one_stop v s k) (ended_end o);
          unused = ended_out o;
          fine = λ k. (b, whole, subst (λ p. IsRun forced f b (stop_of p)) (ended_fine o k) run);
          stopped = λ s k. (b, whole, subst (λ p. IsRun forced f b (stop_of p)) (ended_stopped o s k) run);
          in_part = ended_fault o;
          write_faults_grow = omega (arith, same);
          write_counted = inr same;
          one_write_fault = omega (arith, same);
        }

    -- the first bytes of it
    pub put_part : (w : List ℕ) → w ≡ b → GrowsInPart (wrote out) (wrote after) w → RoseBy 1 (faults out) (faults after) → faults out ≤ faults after → faults after ≤ faults out + 1
        → Put wrote faults forced f answer.WriteFault out after
    put_part w e grows rose more once = record {
      kind = tt;
      write_fault = λ k. rose;
      refused = λ v r k. absurd cc;
      offends = λ v r k. absurd (not_both forced f v r k run.chosen);
      runs = λ v s k. tt;
      complete = λ v s k never. absurd (never rose);
      unused = λ k. absurd k;
      fine = λ k. absurd cc;
      stopped = λ s k. absurd cc;
      in_part = λ k. (b, stop_of o, subst (GrowsInPart (wrote out) (wrote after)) e grows, run);
      write_faults_grow = more;
      write_counted = inl refl;
      one_write_fault = once;
    }

  -- what went out keeps the promise
  pub put_promise : (after : K) (b w : List ℕ) → w ≡ b → Grows (wrote out) (wrote after) w → KeepsRun forced f b → KeepsPromise (wrote out) (wrote after) forced f
  put_promise after b w e grows keeps = (b, subst (Grows (wrote out) (wrote after)) e grows, keeps)
