-- Where scripts stop, and which file is refused first, tried by computation.
use Rattle.std.proofs.Common.{◌≡◌, ℕ, pos, Bool, false, List, [], ◌∷◌, refl, sym, ap, subst, ◌∙◌, codes, arith, inr}
use Rattle.std.specs.Fmt.{digits}
use Rattle.tla_token.specs.declared.place.Place.{Place}
use Rattle.tla_token.specs.declared.rule.Refusal.{Refusal}
use Rattle.tla_token.specs.declared.rule.Rule.{Rule}
use Rattle.tla_token.specs.declared.rule.Rule.TheVariants.{NoModule, BadLine}
use Rattle.tla_tree.specs.Reader.{readers, readers_in}
use Rattle.tla_tree.specs.Tree.{Word, words}
use Rattle.tla_value.specs.declared.fault.FaultKind.TheVariants.{BadDivisor}
use Rattle.tla_value.specs.Outside.{Outside}
use Rattle.tla_value.specs.States.{Entries}
use Rattle.tla_value.specs.Value.{int, fault, over}
use Rattle.tla_value.specs.ValueSeen.{SpellsFrom}
use Rattle.tla_value.specs.ValueText.{digits as of_digits}
use Rattle.pcal_tree.specs.InitialChoice.{nothing}
use Rattle.pcal_tree.specs.Scope.{State}
use Rattle.pcal_tree.specs.StepAnswers.{Reply, reached, held_at, no_label, needs_choice, too_many_choices, stopped_by}
use Rattle.module_tree.specs.TextFront.{Text}
use Rattle.module_tree.specs.Walk.{walk}
use Rattle.module_tree.proofs.SomeOutside.{outside_read, has_outside, one_outside_of}
use Rattle.file_answer.proofs.CheckAnswers.{check_refused}
use Rattle.file_answer.proofs.SplitDecides.{split_decides}
use Rattle.step_runner.specs.Config.{SpellsConfig, ConfigOffends}
use Rattle.step_runner.specs.Followed.{Stop}
use Rattle.step_runner.specs.Fronts.{bad_line}
use Rattle.step_runner.specs.Items.{SpellsValues, OffendsAt}
use Rattle.step_runner.proofs.Spelled.{value_here}
use Rattle.translation.specs.WorkedFiles.{counting_file}
use Rattle.translation.proofs.RowsCounting.{counting_meets}
use Rattle.run_answer.specs.Chosen.{Files, of_module, of_config, of_third, Right, Refuses, Chosen}
use Rattle.run_answer.specs.Stops.{reply_line, stop_line}
use Rattle.run_answer.proofs.Choices.{some_right}

abbrev at : ℕ → ℕ → Place
at l c = record { line = l; col = c }

abbrev refusal : Rule → ℕ → ℕ → Refusal
refusal k l c = record { rule = k; place = at l c }

-- ---- stops

abbrev stop : ℕ → Reply State → Stop
stop n r = record { step = n; reply = r }

abbrev file : Word
file = codes "M.tla"

held : stop_line file (stop 1 (held_at (at 7 6))) ≡ codes "pcal: script step 1: held at 7:6\n"
unfolding digits
held = refl

at_no_label : stop_line file (stop 12 no_label) ≡ codes "pcal: script step 12: no label\n"
unfolding digits
at_no_label = refl

-- step 0 is `init`
start_needs_choice : stop_line file (stop 0 (needs_choice 2 (at 5 11))) ≡ codes "pcal: script step 0: choice of 2 at 5:11\n"
unfolding digits
start_needs_choice = refl

start_has_too_many : stop_line file (stop 0 (too_many_choices (at 4 13))) ≡ codes "pcal: script step 0: too many choices at 4:13\n"
unfolding digits
start_has_too_many = refl

-- a fault and a limit are at their place in the module, whatever the step
faults : (n : ℕ) → stop_line file (stop n (stopped_by (fault BadDivisor (at 7 11)))) ≡ codes "pcal: M.tla:7:11: fault BadDivisor\n"
unfolding digits
faults n = refl

limited : (n : ℕ) → stop_line file (stop n (stopped_by (over (at 7 11)))) ≡ codes "pcal: M.tla:7:11: limit\n"
unfolding digits
limited n = refl

-- a step that is taken has no line
taken : (n : ℕ) → reply_line file n (reached nothing) ≡ []
taken n = refl

-- ---- which file is refused

abbrev files : Text → Text → Text → Files
files x y z = record { source = x; config = y; third = z }

-- without a module nothing else is looked at
no_module : (forced : Bool) (config script : Text) → Refuses forced (files [] config script) of_module (refusal NoModule 1 1)
no_module forced config script = check_refused forced [] (refusal NoModule 1 1) (split_decides [] (refusal NoModule 1 1) (record { at = 0; first = refl; place = refl }))

-- nothing is wrong with a module that has the constant Most
right : (forced : Bool) → Right forced counting_file
right forced = some_right forced counting_file (counting_meets forced).right

abbrev its_constants : List Word
its_constants = codes "Most" ∷ []

has_most : words (outside_read (walk counting_file)).constants ≡ its_constants
unfolding readers_in
has_most = refl

most_outside : (forced : Bool) → words (right forced).outside.constants ≡ its_constants
most_outside forced =
    ap (λ (o : Outside). words o.constants) (one_outside_of (walk counting_file) (right forced).outside (outside_read (walk counting_file)) (right forced).has (has_outside (walk counting_file))) ∙ has_most

-- the constant is missing, at the end of an empty file
lacks : (o : Outside) → words o.constants ≡ its_constants → ConfigOffends o [] (refusal BadLine 1 1)
lacks o e = subst (λ (xs : List Word). (n : ℕ) × OffendsAt false xs [] n × (refusal BadLine 1 1 ≡ bad_line [] n)) (sym e) (0, ([], 0, refl, refl, refl, inr (refl, refl)), refl)

no_constant : (forced : Bool) (script : Text) → Refuses forced (files counting_file [] script) of_config (refusal BadLine 1 1)
no_constant forced script = (right forced, lacks (right forced).outside (most_outside forced))

abbrev config : Text
config = codes "Most = 1"

abbrev constants : Entries
constants = (codes "Most", int (pos 1)) ∷ []

one : SpellsFrom config 7 8 (int (pos 1))
one = value_here config 7 8 1 (int (pos 1)) (omega arith) refl refl refl (search) (search) (of_digits 1, tt, refl, refl, refl)

spelled : (o : Outside) → words o.constants ≡ its_constants → SpellsConfig o config constants
spelled o e = subst (λ (xs : List Word). SpellsValues false xs config constants) (sym e) (8, (8, (7, refl, one), refl), refl, refl, refl)

-- then the script, which begins with `init`
no_init : (forced : Bool) → Refuses forced (files counting_file config (codes "go")) of_third (refusal BadLine 1 1)
no_init forced = (right forced, constants, spelled (right forced).outside (most_outside forced), (0, refl, refl))

-- nothing is refused
chosen : (forced : Bool) → Chosen forced (files counting_file config (codes "init"))
chosen forced = record {
  right = right forced;
  constants = constants;
  spells_constants = spelled (right forced).outside (most_outside forced);
  script = record { choices = []; turns = [] };
  spells_script = (refl, tt);
}
