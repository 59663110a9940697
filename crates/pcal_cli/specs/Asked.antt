-- What each command asks of its file, what it writes for it, and what it promises.
use Rattle.std.specs.Prelude.{◌≡◌, not, false, List, ℕ, Some, None}
use Rattle.tla_token.specs.declared.rule.Refusal.{Refusal}
use Rattle.command_words.specs.Commands as words
use Rattle.command_words.specs.Commands.{Command, translates, checks, rewrites, maps, makes}
use Rattle.promise.specs.Options.{Options}
use Rattle.promise.specs.Headline.{Headline}
use Rattle.translation.specs.PromiseWhole.{WrittenWhole}
use Rattle.printed_text.specs.Rewritten.{Rewritten}
use Rattle.printed_text.specs.Rewrites.{Rewrites}
use Rattle.file_answer.specs.Checking.{AnswersChecking}
use Rattle.file_answer.specs.Mapped.{IsMapped}
use Rattle.file_answer.specs.Spelling.{AnswersRewriting}
use Rattle.pcal_cli.specs.Checked.{checked_text}
use Rattle.pcal_cli.specs.Counted.{IsCounted, CountsKept}

-- ---- what it asks

-- its text is refused so: where it is only printed in another syntax by how it is spelled, else by all rules
abbrev pub Refuses : Command → List ℕ → Refusal → Type 0
Refuses (translates file options) x r = AnswersChecking options.forced x (Some r)
Refuses (checks file forced) x r = AnswersChecking forced x (Some r)
Refuses (rewrites file to) x r = AnswersRewriting x (Some r)
Refuses (maps file forced) x r = AnswersChecking forced x (Some r)
Refuses (makes seed count) x r = AnswersChecking false x (Some r)
Refuses c x r = ⊥

abbrev pub HasOffence : Command → List ℕ → Type 0
HasOffence c x = (r : Refusal) × Refuses c x r

-- nothing in the text is in the way
abbrev pub Accepts : Command → List ℕ → Type 0
Accepts (translates file options) x = AnswersChecking options.forced x None
Accepts (checks file forced) x = AnswersChecking forced x None
Accepts (rewrites file to) x = AnswersRewriting x None
Accepts (maps file forced) x = AnswersChecking forced x None
Accepts (makes seed count) x = AnswersChecking false x None
Accepts c x = ⊥

-- ---- what it writes

-- the options of a translation, as the promise has them
abbrev pub promised : words.Options → Options
promised options = record { label = options.forced; no_terminating = not options.terminating }

-- w is what is written for the text x
abbrev pub Makes : Command → List ℕ → List ℕ → Type 0
Makes (translates file options) x w = WrittenWhole (promised options) x w
Makes (checks file forced) x w = w ≡ checked_text
Makes (rewrites file to) x w = Rewritten to x w
Makes (maps file forced) x w = IsMapped forced x w
Makes (makes seed count) x w = IsCounted x w
Makes c x w = ⊥

-- ---- what it promises

abbrev pub Promises : Command → List ℕ → List ℕ → Type 0
Promises (translates file options) x w = Headline (promised options) x w
Promises (checks file forced) x w = (w ≡ checked_text) × AnswersChecking forced x None  -- nothing is wrong with x
Promises (rewrites file to) x w = Rewrites to x w
Promises (maps file forced) x w = IsMapped forced x w × AnswersChecking forced x None
Promises (makes seed count) x w = CountsKept x w × AnswersChecking false x None
Promises c x w = ⊥
