-- The answer to a run is that of its files, where these weren't all read, and else that to their texts.
use Rattle.std.specs.Prelude.{Bool}
use Rattle.std.proofs.Common.{◌≡◌, ◌⊎◌, ℕ, ◌+◌, ◌<◌, ◌≤◌, List, length, Option, Some, None, refl, subst, inl, inr, arith}
use Rattle.outer_io.specs.Outer.{Texts, HasNoText, RoseBy}
use Rattle.tla_token.specs.declared.rule.Refusal.{Refusal}
use Rattle.tla_token.specs.Limits.{most_bytes}
use Rattle.step_runner.specs.Followed as runner
use Rattle.run_answer.specs.Chosen.{Files, Which, of_module, of_config, of_third, Refuses, IsRun}
use Rattle.followed_runs.specs.Stopping.{stop_of}
use Rattle.running.specs.InMemory.{which_of}
use Rattle.running.specs.declared.files.Which as code
use Rattle.running.specs.Names.{Names, name_of, size_of, AreShort}
use Rattle.running.specs.Answers.{StopsAt, IsRead, IsUnread, IsUnwritten, IsEnd}
use Rattle.running.specs.Answers as answers
use Rattle.running.specs.Answered.{AnsweredRun, Writes, WritesInPart}
use Rattle.running.specs.Put.{IsPut, Put}
use Rattle.running.specs.Reading.{text_of, AllRead, Unread}
use Rattle.running.specs.declared.answer.RunAnswer.{RunAnswer}
use Rattle.running.specs.declared.answer.RunAnswer.TheVariants as answer
use Rattle.running.proofs.Told.{told, found, told_fact, told_there, not_lacking, AreTold, of_told, of_read}

-- ---- where a file wasn't read

unwritten : (a : RunAnswer) → IsUnread a → IsUnwritten a
unwritten answer.Fine h = absurd h
unwritten answer.Memory h = tt
unwritten (answer.ReadFault w) h = tt
unwritten answer.WriteFault h = absurd h
unwritten (answer.Refused w r) h = absurd h
unwritten (answer.TooLong w) h = tt
unwritten (answer.Stopped s) h = absurd h

-- want of memory may end each script
pub memory_end : (o : Option runner.Stop) → IsEnd o answer.Memory
memory_end None = tt
memory_end (Some s) = tt

unread_run : (o : Option runner.Stop) (a : RunAnswer) → IsUnread a → answers.IsUnrefused o a
unread_run o answer.Fine h = absurd h
unread_run o answer.Memory h = memory_end o
unread_run o (answer.ReadFault w) h = tt
unread_run o answer.WriteFault h = absurd h
unread_run o (answer.Refused w r) h = absurd h
unread_run o (answer.TooLong w) h = tt
unread_run o (answer.Stopped s) h = absurd h

unread_not_read : {X : Type 0} (a : RunAnswer) → IsUnread a → IsRead a → X
unread_not_read answer.Fine h k = absurd h
unread_not_read answer.Memory h k = absurd k
unread_not_read (answer.ReadFault w) h k = absurd k
unread_not_read answer.WriteFault h k = absurd h
unread_not_read (answer.Refused w r) h k = absurd h
unread_not_read (answer.TooLong w) h k = absurd k
unread_not_read (answer.Stopped s) h k = absurd h

-- it is none on which the output was called, and no refusal
no_unread : {X : Type 0} (a b : RunAnswer) → IsUnread a → (IsUnread b → ⊥) → a ≡ b → X
no_unread a b u never e = absurd (never (subst IsUnread e u))

short_file : (f : Files) → AreShort f → (w : Which) → length (text_of f w) ≤ most_bytes
short_file f s of_module = s.source
short_file f s of_config = s.config
short_file f s of_third = s.third

not_long : {X : Type 0} (a n : ℕ) → a ≤ n → n < a → X
not_long a n h k = absurd (omega (arith, h, k))

-- ---- where all were

put_stops : {X : Type 0} (a : RunAnswer) (w : Which) → IsPut a → StopsAt a w → X
put_stops answer.Fine w h k = absurd k
put_stops answer.Memory w h k = absurd k
put_stops (answer.ReadFault v) w h k = absurd h
put_stops answer.WriteFault w h k = absurd k
put_stops (answer.Refused v r) w h k = absurd k
put_stops (answer.TooLong v) w h k = absurd h
put_stops (answer.Stopped s) w h k = absurd k

no_put : {X : Type 0} (a b : RunAnswer) → IsPut a → (IsPut b → ⊥) → a ≡ b → X
no_put a b p never e = absurd (never (subst IsPut e p))

-- ---- the answer

-- the clauses of these names
abbrev Long : RunAnswer → List ℕ → Type 0
Long a x = most_bytes < length x → IsUnread a

abbrev Offends : Bool → RunAnswer → Files → Type 0
Offends forced a f = (w : Which) (r : Refusal) → Refuses forced f w r → IsUnwritten a

abbrev Runs : Bool → RunAnswer → Files → Type 0
Runs forced a f = (w : List ℕ) (s : Option runner.Stop) → IsRun forced f w s → answers.IsUnrefused s a

module _ {H K : Type 0} (texts : H → Option Texts) (given faults : H → ℕ) (wrote : K → Option (List ℕ)) (write_faults : K → ℕ) (n : Names) (forced : Bool) (a : RunAnswer) (shelf after : H) where
  abbrev Completes : K → K → Files → Type 0
  Completes out out_after f =
      (w : List ℕ) (s : Option runner.Stop) → AreShort f → IsRun forced f w s → (RoseBy 1 (faults shelf) (faults after) → ⊥) → (RoseBy 1 (write_faults out) (write_faults out_after) → ⊥) → IsEnd s a

  module _ (u : Unread texts given faults n a shelf after) where
    -- where nothing is in the way
    unread_end : (f : Files) (o : Option runner.Stop) → AreTold (texts shelf) n f → AreShort f → (RoseBy 1 (faults shelf) (faults after) → ⊥) → IsEnd o a
    unread_end f o t short never = by a refl
      where
        fault : (w : code.Which) → RoseBy 1 (faults shelf) (faults after) ⊎ HasNoText (texts shelf) (name_of n (which_of w)) → ⊥
        fault w (inl h) = never h
        fault w (inr h) = told_there (texts shelf) (name_of n (which_of w)) (text_of f (which_of w)) (t (which_of w)) h

        by : (b : RunAnswer) → a ≡ b → IsEnd o b
        by answer.Fine e = no_unread a answer.Fine u.unread (λ h. h) e
        by answer.Memory e = memory_end o
        by (answer.ReadFault w) e = absurd (fault w (u.read_fault w e))
        by answer.WriteFault e = no_unread a answer.WriteFault u.unread (λ h. h) e
        by (answer.Refused w r) e = no_unread a (answer.Refused w r) u.unread (λ h. h) e
        by (answer.TooLong w) e =
            not_long (length (text_of f (which_of w))) most_bytes (short_file f short (which_of w))
            (told_fact (texts shelf) (name_of n (which_of w)) (text_of f (which_of w)) (λ x. most_bytes < length x) (t (which_of w)) (u.longer w e))
        by (answer.Stopped s) e = no_unread a (answer.Stopped s) u.unread (λ h. h) e

    pub answered_unread : (out : K) → AnsweredRun texts given faults wrote write_faults n forced a shelf after out out
    answered_unread out = record {
      read_fault = u.read_fault;
      write_fault = no_unread a answer.WriteFault u.unread (λ h. h);
      too_long = u.too_long;
      longer = u.longer;
      earlier = u.earlier;
      refused = λ w r. no_unread a (answer.Refused w r) u.unread (λ h. h);
      lacking = λ w h. u.unread;
      long = λ w. found (texts shelf) (name_of n w) (Long a) (λ x e h. u.unread);
      offends = of_told (texts shelf) n (Offends forced a) (λ f t w r h. unwritten a u.unread);
      runs = of_told (texts shelf) n (Runs forced a) (λ f t w o h. unread_run o a u.unread);
      complete = of_told (texts shelf) n (Completes out out) (λ f t w o short h never none. unread_end f o t short never);
      unused = λ h. refl;
      fine = no_unread a answer.Fine u.unread (λ h. h);
      stopped = λ s. no_unread a (answer.Stopped s) u.unread (λ h. h);
      in_part = no_unread a answer.WriteFault u.unread (λ h. h);
      texts_stay = u.texts_stay;
      given_whole = unread_not_read a u.unread;
      within = u.within;
      read_once = u.read_once;
      read_few = u.read_few;
      given_grows = u.given_grows;
      read_faults_grow = u.read_faults_grow;
      write_faults_grow = omega arith;
      read_counted = u.read_counted;
      one_read_fault = u.one_read_fault;
      write_counted = inr refl;
      one_write_fault = omega arith;
    }

  pub answered_read : (f : Files) (out out_after : K) → AllRead texts given faults n f shelf after → Put wrote write_faults forced f a out out_after
      → AnsweredRun texts given faults wrote write_faults n forced a shelf after out out_after
  answered_read f out out_after r p =
      let one = r.short of_module in
      let two = r.short of_config in
      let three = r.short of_third in
      let more = r.rose.no_more in
      let same = r.kept in
      record {
        read_fault = λ w. no_put a (answer.ReadFault w) p.kind (λ h. h);
        write_fault = p.write_fault;
        too_long = λ w. no_put a (answer.TooLong w) p.kind (λ h. h);
        longer = λ w. no_put a (answer.TooLong w) p.kind (λ h. h);
        earlier = λ w v h. put_stops a w p.kind h;
        refused = λ w q e. of_read (texts shelf) n f (λ x. Refuses forced x (which_of w) q) r.text (p.refused w q e);
        lacking = λ w h. absurd (not_lacking (texts shelf) (name_of n w) (text_of f w) (r.text w) h);
        long = λ w. told (texts shelf) (name_of n w) (text_of f w) (Long a) (r.text w) (not_long (length (text_of f w)) most_bytes (r.short w));
        offends = of_read (texts shelf) n f (Offends forced a) r.text p.offends;
        runs = of_read (texts shelf) n f (Runs forced a) r.text p.runs;
        complete = of_read (texts shelf) n f (Completes out out_after) r.text (λ w o short h never. p.complete w o h);
        unused = p.unused;
        fine = λ e. of_read (texts shelf) n f (Writes (wrote out) (wrote out_after) forced None) r.text (p.fine e);
        stopped = λ s e. of_read (texts shelf) n f (Writes (wrote out) (wrote out_after) forced (stop_of (Some s))) r.text (p.stopped s e);
        in_part = λ e. of_read (texts shelf) n f (WritesInPart (wrote out) (wrote out_after) forced) r.text (p.in_part e);
        texts_stay = r.same;
        given_whole = λ h. of_read (texts shelf) n f (λ x. RoseBy (size_of x) (given shelf) (given after)) r.text r.rose;
        within = inr (omega (arith, one, two, three, more));
        read_once = of_read (texts shelf) n f (λ x. given after ≤ given shelf + size_of x) r.text more;
        read_few = omega (arith, one, two, three, more);
        given_grows = r.grows;
        read_faults_grow = omega (arith, same);
        write_faults_grow = p.write_faults_grow;
        read_counted = inr r.kept;
        one_read_fault = omega (arith, same);
        write_counted = p.write_counted;
        one_write_fault = p.one_write_fault;
      }
