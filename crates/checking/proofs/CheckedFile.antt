-- A file is answered as its names and labels are, where a rewriting of it isn't refused; else as that is.
use Rattle.std.proofs.Common.{◌≡◌, ◌≤◌, Bool, List, [], ◌∷◌, ◌++◌, length, Option, Some, None, Result, Ok, Err, IfOk, IfErr, OnOk, refl, sym, ap, subst, ◌∙◌}
use Rattle.tla_token.specs.declared.rule.Refusal.{Refusal}
use Rattle.tla_token.specs.declared.rule.Stop.{Stop}
use Rattle.tla_token.specs.declared.rule.Stop.TheVariants as stop
use Rattle.tla_tree.specs.Tree.{Tree}
use Rattle.tla_value.specs.Outside.{Outside}
use Rattle.pcal_tree.specs.declared.algorithm.Algorithm as code
use Rattle.pcal_tree.specs.InMemory.{algorithm_at, past_algorithm}
use Rattle.pcal_tree.specs.Names.{naming}
use Rattle.pcal_tree.specs.Algorithm.{Algorithm}
use Rattle.pcal_tree.specs.Labelled.{labelled}
use Rattle.pcal_tree.specs.Offences.{first}
use Rattle.pcal_tree.specs.OffencesLabels.{label_offences}
use Rattle.pcal_tree.specs.OffencesOfNames.{name_offences}
use Rattle.module_tree.specs.TextFront.{Text}
use Rattle.module_tree.specs.Walk.{walk}
use Rattle.module_tree.specs.laws.Outsides.{HasOutside}
use Rattle.macro_expand.specs.TooLarge.{too_large}
use Rattle.file_answer.specs.Checking.{AnswersChecking}
use Rattle.file_answer.specs.Holds.{HoldsTree}
use Rattle.file_answer.specs.Refusals.{or_else, IsStop}
use Rattle.file_answer.specs.Spelling.{AnswersRewriting}
use Rattle.module_outside.specs.declared.outside.Outside as beside
use Rattle.module_outside.specs.FoundAt.{AreHeld}
use Rattle.module_outside.specs.WholeAt.{outside_at}
use Rattle.written_names.specs.Units.{naming_of}
use Rattle.checking.specs.CheckedIn.{IsLabelled}
use Rattle.checking.specs.declared.check.Checked.{Checked}
use Rattle.file_answer.proofs.CheckAnswers.{check_refused, check_decided}

-- what stops a rewriting stops a check
pub stops_alike : (forced : Bool) (x : Text) (s : Stop) → IsStop (λ r. AnswersRewriting x (Some r)) s → IsStop (λ r. AnswersChecking forced x (Some r)) s
stops_alike forced x stop.Memory h = tt
stops_alike forced x (stop.Refused r) h = check_refused forced x r h

-- all that counts of what is wrong with an algorithm that has its labels
abbrev pub wrong : Algorithm → Outside → List Refusal
wrong a o = or_else (name_offences a o) (label_offences a ++ too_large a)

-- those in front count before the others
pub first_before : (rs qs : List Refusal) (r : Refusal) → first rs ≡ Some r → first (or_else rs qs) ≡ Some r
first_before [] qs r e = absurd cc
first_before (q ∷ rs) qs r e = e

-- an algorithm a that is g with labels added, g being that of the file x, which has o outside
module _ (forced : Bool) (x : Text) (g a : Algorithm) (o : Outside) (right : AnswersRewriting x None) (holds : HoldsTree x g) (has : HasOutside (walk x) o) (is : a ≡ labelled forced g) where
  decided : (r : Option Refusal) → first (wrong a o) ≡ r → AnswersChecking forced x r
  decided r e =
      subst (AnswersChecking forced x) e
      (subst (λ (b : Algorithm). AnswersChecking forced x (first (wrong b o))) (sym is) (check_decided forced x g o right holds has))

  pub clean_told : (r : Result Checked Stop) → OnOk r (wrong a o ≡ []) → IfOk r (λ c. AnswersChecking forced x None)
  clean_told (Ok c) e = decided None (ap first e)
  clean_told (Err s) e = tt

  pub stop_told : (r : Result Checked Stop) → ((q : Refusal) → r ≡ Err (stop.Refused q) → first (wrong a o) ≡ Some q) → IfErr r (λ e. IsStop (λ q. AnswersChecking forced x (Some q)) e)
  stop_told (Ok c) h = tt
  stop_told (Err stop.Memory) h = tt
  stop_told (Err (stop.Refused q)) h = decided (Some q) (h q refl)

  -- in memory
  pub labelled_told : (ts : List Tree) (b : code.Algorithm) (u : beside.Outside) → algorithm_at ts b ≡ a → past_algorithm b ≤ length ts → outside_at ts u ≡ o → AreHeld (length ts) u.definitions.items → (r : Result Checked Stop)
      → IfOk r (λ c. c.algorithm ≡ b) → IfOk r (λ c. c.outside ≡ u) → IfOk r (λ c. naming_of c.naming ≡ naming (algorithm_at ts b) o) → IfOk r (λ c. IsLabelled forced x ts c)
  labelled_told ts b u at past this held (Err s) h l k = tt
  labelled_told ts b u at past this held (Ok c) h l k = record {
    tree = g;
    holds = holds;
    outside = o;
    has = has;
    algorithm = ap (algorithm_at ts) h ∙ at ∙ is;
    past = subst (λ (d : code.Algorithm). past_algorithm d ≤ length ts) (sym h) past;
    names = k ∙ ap (λ (d : Algorithm). naming d o) (at ∙ is);
    is_outside = ap (outside_at ts) l ∙ this;
    held = subst (λ (v : beside.Outside). AreHeld (length ts) v.definitions.items) (sym l) held;
  }
