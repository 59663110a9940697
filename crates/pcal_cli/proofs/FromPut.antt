-- The answer to a command is that to its text, where this was read from a file, and where it was made.
use Rattle.std.proofs.Common.{◌≡◌, ℕ, ◌+◌, ◌<◌, ◌≤◌, List, length, Option, Some, None, refl, subst, inl, inr, arith}
use Rattle.outer_io.specs.Outer.{Texts, HasText, Tells, RoseBy, Grows, GrowsInPart, piece_bytes}
use Rattle.tla_token.specs.declared.rule.Refusal.{Refusal}
use Rattle.tla_token.specs.Limits.{most_bytes}
use Rattle.command_words.specs.Commands.{Command, translates, checks, rewrites, maps, runs, traces, makes}
use Rattle.pcal_cli.specs.declared.status.Answer.{Answer}
use Rattle.pcal_cli.specs.declared.status.Answer.TheVariants as answer
use Rattle.pcal_cli.specs.declared.status.Status.{Status}
use Rattle.pcal_cli.specs.declared.status.Status.TheVariants.{Fine, Memory, Usage, ReadFault, WriteFault, Refused, ScriptStep, NotAStep, Faulted, Limit, TooLong}
use Rattle.std.specs.Prelude.{option_map}
use Rattle.pcal_cli.specs.Words.{Input, from_file, this_text, input_of}
use Rattle.pcal_cli.specs.Asked.{Refuses, HasOffence, Accepts, Makes, promised}
use Rattle.pcal_cli.specs.Causes.{OfInput, OfBoth, OfFile, IsAnswer, IsUnasked, IsUnread, IsUnwritten, IsDone, IsRefusal, IsCause}
use Rattle.pcal_cli.specs.Put.{IsPut, Put}
use Rattle.pcal_cli.specs.Answered.{AnsweredFrom, Answered}
use Rattle.pcal_cli.proofs.Told.{told, not_lacking, no_refusal}
use Rattle.pcal_cli.proofs.TextsTold.{of_all}
use Rattle.pcal_cli.proofs.Runs.{three_memory}
use Rattle.pcal_cli.proofs.Traces.{traced_memory}

-- an answer to a text is one of a command, and of no file
put_answer : (s : Status) → IsPut s → IsAnswer s
put_answer Fine h = tt
put_answer Memory h = tt
put_answer Usage h = absurd h
put_answer ReadFault h = absurd h
put_answer WriteFault h = tt
put_answer Refused h = tt
put_answer ScriptStep h = absurd h
put_answer NotAStep h = absurd h
put_answer Faulted h = absurd h
put_answer Limit h = absurd h
put_answer TooLong h = absurd h

put_unasked : (s : Status) → IsPut s → IsUnasked s
put_unasked Fine h = tt
put_unasked Memory h = tt
put_unasked Usage h = absurd h
put_unasked ReadFault h = absurd h
put_unasked WriteFault h = tt
put_unasked Refused h = tt
put_unasked ScriptStep h = absurd h
put_unasked NotAStep h = absurd h
put_unasked Faulted h = absurd h
put_unasked Limit h = absurd h
put_unasked TooLong h = absurd h

-- ---- the answer to a text

module _ {K : Type 0} (wrote : K → Option (List ℕ)) (faults : K → ℕ) (c : Command) (x : List ℕ) (out after : K) where
  -- b went out whole, as w
  pub put_fine : (b w : List ℕ) → w ≡ b → Grows (wrote out) (wrote after) w → Makes c x b → Accepts c x → faults after ≡ faults out → Put wrote faults c x Fine out after
  put_fine b w e grows written accepts same = record {
    answer = tt;
    write_fault = λ h. absurd cc;
    refused = λ h. absurd cc;
    offends = λ (r, h). absurd (no_refusal c x r accepts h);
    complete = λ a h. tt;
    unused = λ h. absurd h;
    fine = λ h. (b, subst (Grows (wrote out) (wrote after)) e grows, written);
    in_part = λ h. absurd cc;
    write_faults_grow = omega (arith, same);
    write_counted = inr same;
    one_write_fault = omega (arith, same);
  }

  -- the first bytes of it did
  pub put_fault : (b w : List ℕ) → w ≡ b → GrowsInPart (wrote out) (wrote after) w → Makes c x b → Accepts c x → RoseBy 1 (faults out) (faults after) → faults out ≤ faults after → faults after ≤ faults out + 1
      → Put wrote faults c x WriteFault out after
  put_fault b w e grows written accepts rose more once = record {
    answer = tt;
    write_fault = λ h. rose;
    refused = λ h. absurd cc;
    offends = λ (r, h). absurd (no_refusal c x r accepts h);
    complete = λ a h. absurd (h rose);
    unused = λ h. absurd h;
    fine = λ h. absurd cc;
    in_part = λ h. (b, subst (GrowsInPart (wrote out) (wrote after)) e grows, written);
    write_faults_grow = more;
    write_counted = inl refl;
    one_write_fault = once;
  }

  -- it is refused
  pub put_refused : (r : Refusal) → Refuses c x r → Put wrote faults c x Refused out out
  put_refused r refuses = record {
    answer = tt;
    write_fault = λ h. absurd cc;
    refused = λ h. (r, refuses);
    offends = λ h. tt;
    complete = λ a h. absurd (no_refusal c x r a refuses);
    unused = λ h. refl;
    fine = λ h. absurd cc;
    in_part = λ h. absurd cc;
    write_faults_grow = omega arith;
    write_counted = inr refl;
    one_write_fault = omega arith;
  }

-- ---- the answer to a command

-- it is none of these
abbrev IsOther : Status → Type 0
IsOther Usage = Unit {0}
IsOther ReadFault = Unit {0}
IsOther TooLong = Unit {0}
IsOther s = ⊥

not_other : {X : Type 0} (s t : Status) → IsOther t → IsPut s → s ≡ t → X
not_other s t o h e = absurd (by t o (subst_put e h))
  where
    subst_put : s ≡ t → IsPut s → IsPut t
    subst_put e h = rw (← e) h

    by : (t : Status) → IsOther t → IsPut t → ⊥
    by Fine o h = o
    by Memory o h = o
    by Usage o h = h
    by ReadFault o h = h
    by WriteFault o h = o
    by Refused o h = o
    by ScriptStep o h = o
    by NotAStep o h = o
    by Faulted o h = o
    by Limit o h = o
    by TooLong o h = h

not_long : {X : Type 0} (a n : ℕ) → a ≤ n → n < a → X
not_long a n h k = absurd (omega arith)

module _ {H K : Type 0} (texts : H → Option Texts) (given faults : H → ℕ) (wrote : K → Option (List ℕ)) (write_faults : K → ℕ) (c : Command) (s : Status) (shelf after : H) (out out_after : K) (v : List ℕ) (put : Put wrote write_faults c v s out out_after) where
  -- what the shelf tells and counts, where the text v was read from the file f
  pub record WasRead (f : List ℕ) : Type 0 where
    pub text : HasText (texts shelf) f v
    pub short : length v ≤ most_bytes
    pub rose : RoseBy (length v) (given shelf) (given after)
    pub same : texts after ≡ texts shelf
    pub most : given after ≤ given shelf + most_bytes
    pub once : Tells (texts shelf) f (λ x. given after ≤ given shelf + length x)
    pub few : given after ≤ given shelf + most_bytes + piece_bytes
    pub grows : given shelf ≤ given after
    pub kept : faults after ≡ faults shelf

  pub answered_read : (f : List ℕ) → WasRead f → AnsweredFrom texts given faults wrote write_faults (Some (from_file f)) (Some c) s shelf after out out_after
  answered_read f r =
      let tells : (P : List ℕ → Type 0) → P v → Tells (texts shelf) f P = λ P p. told (texts shelf) f v P r.text p in
      let same = r.kept in
      record {
        answer = inl (put_answer s put.answer);
        usage = not_other s Usage tt put.answer;
        no_command = λ e. absurd cc;
        read_fault = not_other s ReadFault tt put.answer;
        write_fault = put.write_fault;
        too_long = not_other s TooLong tt put.answer;
        longer = not_other s TooLong tt put.answer;
        refused = λ e. tells (HasOffence c) (put.refused e);
        lacking = λ l. absurd (not_lacking (texts shelf) f v r.text l);
        long = tells _ (not_long (length v) most_bytes r.short);
        offends = tells _ put.offends;
        complete = tells _ (λ l a rose. put.complete a);
        unread = λ h. absurd h;
        unasked = λ h. absurd h;
        unused = put.unused;
        fine = λ e. tells _ (put.fine e);
        in_part = λ e. tells _ (put.in_part e);
        texts_stay = r.same;
        given_whole = λ u. tells _ r.rose;
        within = inr r.most;
        read_once = r.once;
        read_few = r.few;
        given_grows = r.grows;
        read_faults_grow = omega (arith, same);
        write_faults_grow = put.write_faults_grow;
        read_counted = inr r.kept;
        one_read_fault = omega (arith, same);
        write_counted = put.write_counted;
        one_write_fault = put.one_write_fault;
      }

  -- where it was made, the shelf isn't looked at
  pub answered_made : AnsweredFrom texts given faults wrote write_faults (Some (this_text v)) (Some c) s shelf shelf out out_after
  answered_made = record {
    answer = inl (put_answer s put.answer);
    usage = not_other s Usage tt put.answer;
    no_command = λ e. absurd cc;
    read_fault = not_other s ReadFault tt put.answer;
    write_fault = put.write_fault;
    too_long = not_other s TooLong tt put.answer;
    longer = not_other s TooLong tt put.answer;
    refused = put.refused;
    lacking = λ l. absurd l;
    long = tt;
    offends = put.offends;
    complete = λ l a rose. put.complete a;
    unread = λ h. refl;
    unasked = λ h. put_unasked s put.answer;
    unused = put.unused;
    fine = put.fine;
    in_part = put.in_part;
    texts_stay = refl;
    given_whole = λ u. tt;
    within = inr (omega arith);
    read_once = tt;
    read_few = omega arith;
    given_grows = omega arith;
    read_faults_grow = omega arith;
    write_faults_grow = put.write_faults_grow;
    read_counted = inr refl;
    one_read_fault = omega arith;
    write_counted = put.write_counted;
    one_write_fault = put.one_write_fault;
  }

-- what holds of each text holds of the one that a command is of
of_input : (ts : Option Texts) (i : Input) (P : List ℕ → Type 0) → ((x : List ℕ) → P x) → OfInput ts i P
of_input ts (from_file f) P p = of_all ts f P p
of_input ts (this_text x) P p = p x

of_both : (ts : Option Texts) (o : Option Command) (P : Command → List ℕ → Type 0) → ((c : Command) (x : List ℕ) → P c x) → OfBoth ts (option_map input_of o) o P
of_both ts None P p = tt
of_both ts (Some c) P p = of_input ts (input_of c) (P c) (p c)

of_file : (ts : Option Texts) (o : Option Command) (P : List ℕ → Type 0) → ((x : List ℕ) → P x) → OfFile ts (option_map input_of o) P
of_file ts None P p = tt
of_file ts (Some c) P p = of_named (input_of c)
  where
    of_named : (i : Input) → OfFile ts (Some i) P
    of_named (from_file f) = of_all ts f P p
    of_named (this_text x) = tt

-- where there is no memory, nothing was called
text_memory : {H K : Type 0} (texts : H → Option Texts) (given faults : H → ℕ) (wrote : K → Option (List ℕ)) (write_faults : K → ℕ) (o : Option Command) (s : Status) (shelf : H) (out : K) → s ≡ Memory
    → AnsweredFrom texts given faults wrote write_faults (option_map input_of o) o s shelf shelf out out
text_memory texts given faults wrote write_faults o s shelf out e = rw e (record {
  answer = inl tt;
  usage = λ h. absurd cc;
  no_command = λ h. tt;
  read_fault = λ h. absurd cc;
  write_fault = λ h. absurd cc;
  too_long = λ h. absurd cc;
  longer = λ h. absurd cc;
  refused = λ h. absurd cc;
  lacking = λ h. tt;
  long = of_file (texts shelf) o (λ x. most_bytes < length x → IsUnread Memory) (λ x h. tt);
  offends = of_both (texts shelf) o (λ c x. HasOffence c x → IsUnwritten Memory) (λ c x h. tt);
  complete = of_both (texts shelf) o (λ c x. length x ≤ most_bytes → Accepts c x → (RoseBy 1 (faults shelf) (faults shelf) → ⊥) → (RoseBy 1 (write_faults out) (write_faults out) → ⊥) → IsDone Memory) (λ c x l a r w. tt);
  unread = λ h. refl;
  unasked = λ h. tt;
  unused = λ h. refl;
  fine = λ h. absurd cc;
  in_part = λ h. absurd cc;
  texts_stay = refl;
  given_whole = λ h. absurd h;
  within = inr (omega arith);
  read_once = of_file (texts shelf) o (λ x. given shelf ≤ given shelf + length x) (λ x. omega arith);
  read_few = omega arith;
  given_grows = omega arith;
  read_faults_grow = omega arith;
  write_faults_grow = omega arith;
  read_counted = inr refl;
  one_read_fault = omega arith;
  write_counted = inr refl;
  one_write_fault = omega arith;
})

pub answered_memory : {H K : Type 0} (texts : H → Option Texts) (given faults : H → ℕ) (wrote : K → Option (List ℕ)) (write_faults : K → ℕ) (o : Option Command) (s : Status) (shelf : H) (out : K) → s ≡ Memory
    → Answered texts given faults wrote write_faults o s shelf shelf out out
answered_memory texts given faults wrote write_faults None s shelf out e = text_memory texts given faults wrote write_faults None s shelf out e
answered_memory texts given faults wrote write_faults (Some (translates file options)) s shelf out e = text_memory texts given faults wrote write_faults (Some (translates file options)) s shelf out e
answered_memory texts given faults wrote write_faults (Some (checks file forced)) s shelf out e = text_memory texts given faults wrote write_faults (Some (checks file forced)) s shelf out e
answered_memory texts given faults wrote write_faults (Some (rewrites file to)) s shelf out e = text_memory texts given faults wrote write_faults (Some (rewrites file to)) s shelf out e
answered_memory texts given faults wrote write_faults (Some (maps file forced)) s shelf out e = text_memory texts given faults wrote write_faults (Some (maps file forced)) s shelf out e
answered_memory texts given faults wrote write_faults (Some (runs file config script options)) s shelf out e = three_memory texts given faults wrote write_faults (record { source = file; config = config; third = script }) options.forced s shelf out e
answered_memory texts given faults wrote write_faults (Some (traces file config trace options)) s shelf out e = traced_memory texts given faults wrote write_faults (record { source = file; config = config; third = trace }) (promised options) s shelf out e
answered_memory texts given faults wrote write_faults (Some (makes seed count)) s shelf out e = text_memory texts given faults wrote write_faults (Some (makes seed count)) s shelf out e

-- a refusal of the text that was read is one of the text that is told
pub cause_read : (ts : Option Texts) (f v : List ℕ) (R : List ℕ → Refusal → Type 0) (a : Answer) → HasText ts f v → IsRefusal (R v) a → IsCause ts (from_file f) R a
cause_read ts f v R answer.Fine h k = tt
cause_read ts f v R answer.Memory h k = tt
cause_read ts f v R answer.Usage h k = tt
cause_read ts f v R answer.ReadFault h k = tt
cause_read ts f v R answer.WriteFault h k = tt
cause_read ts f v R (answer.Refused r) h k = told ts f v (λ x. R x r) h k
cause_read ts f v R answer.TooLong h k = tt

pub cause_made : (ts : Option Texts) (v : List ℕ) (R : List ℕ → Refusal → Type 0) (a : Answer) → IsRefusal (R v) a → IsCause ts (this_text v) R a
cause_made ts v R answer.Fine k = tt
cause_made ts v R answer.Memory k = tt
cause_made ts v R answer.Usage k = tt
cause_made ts v R answer.ReadFault k = tt
cause_made ts v R answer.WriteFault k = tt
cause_made ts v R (answer.Refused r) k = k
cause_made ts v R answer.TooLong k = tt
