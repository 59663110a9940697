-- What was read is what is told, and what is written for it went out.
use Rattle.std.specs.Prelude.{IfOk, Result}
use Rattle.std.proofs.Common.{◌≡◌, ◌⊎◌, ℕ, List, [], false, Option, Some, None, Ok, Err, ◌∙◌, refl, sym, inl, inr}
use Rattle.std.proofs.lemmas.Option.{none-some}
use Rattle.outer_io.specs.Outer.{Texts, HasText, Tells, HasNoText}
use Rattle.tla_token.specs.declared.rule.Refusal.{Refusal}
use Rattle.command_words.specs.Commands.{Command, translates, checks, rewrites, maps, runs, traces, makes}
use Rattle.file_answer.proofs.CheckAnswers.{one_check}
use Rattle.file_answer.proofs.OneAnswer as rewritings
use Rattle.pcal_cli.specs.Words.{input_of}
use Rattle.pcal_cli.specs.Asked.{Refuses, Accepts, promised}
use Rattle.pcal_cli.specs.declared.status.Answer.TheVariants as answer
use Rattle.pcal_cli.specs.declared.status.Status.{Status}
use Rattle.pcal_cli.specs.declared.status.Status.TheVariants.{Memory, Usage}
use Rattle.pcal_cli.specs.Answers.{line_of}
use Rattle.pcal_cli.specs.Told.{Told}
use Rattle.pcal_cli.specs.Causes.{OfCommand, IsCause, ExplainsText, Explains}
use Rattle.pcal_cli.proofs.Runs.{memory_explains}
use Rattle.pcal_cli.proofs.Traces.{trace_memory_explains}

-- a fact of the text that was read is one of the text that is told
pub told : (ts : Option Texts) (file v : List ℕ) (P : List ℕ → Type 0) → HasText ts file v → P v → Tells ts file P
told None file v P h p = tt
told (Some ts) file v P h p = rw h p

-- a text that was read is there
pub not_lacking : (ts : Option Texts) (file v : List ℕ) → HasText ts file v → HasNoText ts file → ⊥
not_lacking None file v h k = k
not_lacking (Some ts) file v h k = (let e : Some v ≡ None = sym h ∙ k in absurd cc)

-- what was read was read without a fault
pub read : {T E P : Type 0} (t : T) (e : E) → (Ok t ≡ Err e) ⊎ P → P
read t e (inl h) = absurd cc
read t e (inr p) = p

-- what was given is both
pub both_ok : {T E : Type 0} (P Q : T → Type 0) (r : Result T E) → IfOk r P → IfOk r Q → IfOk r (λ v. P v × Q v)
both_ok P Q (Ok v) p q = (p, q)
both_ok P Q (Err e) p q = tt

-- a text in which nothing is in a command's way is not refused
pub no_refusal : (c : Command) (x : List ℕ) (r : Refusal) → Accepts c x → Refuses c x r → ⊥
no_refusal (translates file options) x r h k = none-some r (one_check options.forced x None (Some r) h k)
no_refusal (rewrites file to) x r h k = none-some r (rewritings.one_answer x None (Some r) h k)
no_refusal (checks file forced) x r h k = none-some r (one_check forced x None (Some r) h k)
no_refusal (maps file forced) x r h k = none-some r (one_check forced x None (Some r) h k)
no_refusal (runs file config script options) x r h k = h
no_refusal (traces file config trace options) x r h k = h
no_refusal (makes seed count) x r h k = none-some r (one_check false x None (Some r) h k)

-- ---- the line on the error output

-- what holds of each command
of_any_command : (o : Option Command) (Q : Command → Type 0) → ((c : Command) → Q c) → OfCommand o Q
of_any_command None Q q = tt
of_any_command (Some c) Q q = q c

-- no memory is no refusal
memory_cause : (ts : Option Texts) (o : Option Command) → OfCommand o (λ c. IsCause ts (input_of c) (Refuses c) answer.Memory)
memory_cause ts o = of_any_command o (λ c. IsCause ts (input_of c) (Refuses c) answer.Memory) (λ c. tt)

text_memory : (ts : Option Texts) (o : Option Command) (s : Status) (old new : Option (List ℕ)) (before after : ℕ) → s ≡ Memory → Told old new before after (line_of answer.Memory []) → ExplainsText ts o s old new before after
text_memory ts o s old new before after e t = rw e (record { answer = answer.Memory; is = refl; cause = memory_cause ts o; told = t })

-- the lines that name no file
pub memory_told : (ts : Option Texts) (failed failed_after : ℕ) (o : Option Command) (s : Status) (old new : Option (List ℕ)) (before after : ℕ) → s ≡ Memory → Told old new before after (line_of answer.Memory []) → Explains ts failed failed_after o s old new before after
memory_told ts failed failed_after None s old new before after e t = text_memory ts None s old new before after e t
memory_told ts failed failed_after (Some (translates file options)) s old new before after e t = text_memory ts (Some (translates file options)) s old new before after e t
memory_told ts failed failed_after (Some (checks file forced)) s old new before after e t = text_memory ts (Some (checks file forced)) s old new before after e t
memory_told ts failed failed_after (Some (rewrites file to)) s old new before after e t = text_memory ts (Some (rewrites file to)) s old new before after e t
memory_told ts failed failed_after (Some (maps file forced)) s old new before after e t = text_memory ts (Some (maps file forced)) s old new before after e t
memory_told ts failed failed_after (Some (runs file config script options)) s old new before after e t = memory_explains ts failed failed_after (record { source = file; config = config; third = script }) options.forced s old new before after e t
memory_told ts failed failed_after (Some (traces file config trace options)) s old new before after e t = trace_memory_explains ts failed failed_after (record { source = file; config = config; third = trace }) (promised options) s old new before after e t
memory_told ts failed failed_after (Some (makes seed count)) s old new before after e t = text_memory ts (Some (makes seed count)) s old new before after e t

-- where the words mean no command
pub usage_told : (ts : Option Texts) (failed failed_after : ℕ) (o : Option Command) (old new : Option (List ℕ)) (before after : ℕ) → None ≡ o → Told old new before after (line_of answer.Usage []) → Explains ts failed failed_after o Usage old new before after
usage_told ts failed failed_after None old new before after e t = record { answer = answer.Usage; is = refl; cause = tt; told = t }
usage_told ts failed failed_after (Some c) old new before after e t = absurd cc
