-- Worked examples of what commands ask and promise, by computation.
use Rattle.std.specs.Prelude.{ℕ, List, Bool, true, false, Option, Some, None}
use Rattle.std.proofs.Common.{◌≡◌, refl}
use Rattle.outer_io.specs.Outer.{Texts}
use Rattle.tla_tree.specs.Tree.{Word}
use Rattle.pcal_tree.specs.Grammar.{Syntax}
use Rattle.command_words.specs.Commands.{Options, Command, checks, rewrites, maps, runs, traces, makes}
use Rattle.promise.specs.Options.{no_options}
use Rattle.make_module.specs.Big.{big}
use Rattle.pcal_cli.specs.Words.{input_of, this_text}
use Rattle.pcal_cli.specs.Asked.{Makes, Promises, promised}
use Rattle.running.specs.Names.{OfTexts}
use Rattle.running.specs.Answered.{KeepsPromise}
use Rattle.trace_command.specs.Answered as traced
use Rattle.pcal_cli.specs.Causes.{OfText, Promised}

without_options : promised (record { forced = false; terminating = true }) ≡ no_options
without_options = refl

with_options : promised (record { forced = true; terminating = true }) ≡ record no_options { label = true }
with_options = refl

without_the_end : promised (record { forced = false; terminating = false }) ≡ record no_options { no_terminating = true }
without_the_end = refl

-- the promise of a rewriting says what is written, to the byte
promise_of_all_bytes : (file : Word) (to : Syntax) (x w : List ℕ) → Promises (rewrites file to) x w → Makes (rewrites file to) x w
promise_of_all_bytes file to x w h = h.written

-- a check and a list of labels promise what they write
promise_of_a_check : (file : Word) (forced : Bool) (x w : List ℕ) → Promises (checks file forced) x w → Makes (checks file forced) x w
promise_of_a_check file forced x w h = h.0

promise_of_a_map : (file : Word) (forced : Bool) (x w : List ℕ) → Promises (maps file forced) x w → Makes (maps file forced) x w
promise_of_a_map file forced x w h = h.0

-- what `make` is of isn't read from a file
made : input_of (makes 1 1) ≡ this_text (big 1 1)
made = refl

-- a run is of three files, with any options; of these labels are added everywhere or not
promise_of_a_run : (texts : Option Texts) (file config script : Word) (options : Options) (old new : Option (List ℕ)) → Promised texts (Some (runs file config script options)) old new
    → OfTexts texts (record { source = file; config = config; third = script }) (KeepsPromise old new options.forced)
promise_of_a_run texts file config script options old new h = h

-- and so is a trace, with the options of a translation
promise_of_a_trace : (texts : Option Texts) (file config trace : Word) (options : Options) (old new : Option (List ℕ)) → Promised texts (Some (traces file config trace options)) old new
    → OfTexts texts (record { source = file; config = config; third = trace }) (traced.KeepsPromise old new (promised options))
promise_of_a_trace texts file config trace options old new h = h

-- neither promises anything of one text
run_of_one_text : (file config script : Word) (options : Options) (x w : List ℕ) → Promises (runs file config script options) x w → ⊥
run_of_one_text file config script options x w h = h

trace_of_one_text : (file config trace : Word) (options : Options) (x w : List ℕ) → Promises (traces file config trace options) x w → ⊥
trace_of_one_text file config trace options x w h = h

-- where the words mean no command nothing is said
no_command : (texts : Option Texts) (P : Command → List ℕ → Type 0) → OfText texts None P
no_command texts P = tt
