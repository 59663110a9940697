-- What is before a statement, as code that goes through a list has it.
use Rattle.std.specs.Prelude.{◌≡◌, List, ◌||◌, Bool, true, false, Option, Some, None, cond}
use Rattle.tla_token.specs.declared.rule.Rule.{Rule}
use Rattle.tla_token.specs.declared.rule.Rule.TheVariants.{AfterJump}
use Rattle.tla_token.specs.declared.rule.Refusal.{Refusal}
use Rattle.pcal_tree.specs.Algorithm.{Statements}
use Rattle.pcal_tree.specs.Run.{Partner, is_pair, partner_of}
use Rattle.pcal_tree.specs.Offences.{first}
use Rattle.pcal_tree.specs.OffencesSteps.{holds}
use Rattle.algorithm_answer.specs.Joined.{joined}
use Rattle.label_steps.specs.declared.due.Before.{Before}
use Rattle.label_steps.specs.declared.due.Walk.{Walk}
use Rattle.label_steps.specs.declared.due.Before.TheVariants as before
use Rattle.label_steps.specs.MissingLabels.{due_in}

abbrev pub is_labelled : Before → Bool
is_labelled before.Label = true
is_labelled _ = false

-- the rule by which a label must be there; true before what may be a call's partner
abbrev pub rule_due : Before → Bool → Option Rule
rule_due (before.Due r) b = Some r
rule_due before.Call b = cond b None (Some AfterJump)
rule_due _ b = None

-- what is missing in these statements, which come next
abbrev pub due_next : Before → Statements → List Refusal
due_next k b = due_in (is_labelled k) (rule_due k (is_pair (partner_of b))) b

-- this rule holds behind a statement, where this comes next: what is missing there is as much as this says
abbrev pub IsBehind : Before → Partner → Option Rule → Type 0
IsBehind k p r = (is_labelled k ≡ false) × (rule_due k (is_pair p) ≡ r)

-- a label or a statement was passed, which stands for what goes before the rest of its list
pub record Passes (old new : Walk) (f : Statements → Statements) : Type 0 where
  pub first : (rest : Statements) → joined new.first (first (due_next new.before rest)) ≡ joined old.first (first (due_next old.before (f rest)))
  pub holds : (rest : Statements) → (new.holds || holds rest) ≡ (old.holds || holds (f rest))
