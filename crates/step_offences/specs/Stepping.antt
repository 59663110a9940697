-- What statements offend where they are gone through along all paths.
use Rattle.std.specs.Prelude.{◌≡◌, List, [], ◌++◌, Bool, true, false, cond, Option, Some, None, Vec}
use Rattle.std.specs.Global.{Global}
use Rattle.std.specs.List.{flat_map}
use Rattle.std.specs.Option.{option_map}
use Rattle.tla_token.specs.declared.place.Place.{Place}
use Rattle.tla_token.specs.declared.rule.Rule.{Rule}
use Rattle.tla_token.specs.declared.rule.Rule.TheVariants.{WhileLabel, AssignTwice}
use Rattle.tla_token.specs.declared.rule.Refusal.{Refusal}
use Rattle.pcal_tree.specs.Algorithm.{Span, Statement, Statements, Branches}
use Rattle.pcal_tree.specs.Offences.{offence_if}
use Rattle.pcal_tree.specs.OffencesSteps.{holds_one, holds, holds_some, due_after, due_offence, inside, Visit, visits, visits_of_some, offences_at}
use Rattle.pcal_tree.specs.Paths as paths
use Rattle.pcal_tree.specs.Paths.{Effects, after_one, after, after_some}
use Rattle.pcal_tree.specs.Run.{Partner}
use Rattle.pcal_tree.proofs.EffectLaws.{Alike}
use Rattle.label_steps.specs.declared.ways.Ways.{Ways}
use Rattle.label_steps.specs.PathsIn.{path_of}
use Rattle.label_steps.specs.WaysIn.{LeadsBoth, standing, visits_one}
use Rattle.step_offences.specs.declared.steps.Spot.{Spot}
use Rattle.step_offences.specs.declared.steps.Behind.{Behind}

-- ---- what is told

-- a list of offences in memory; none where only paths are asked for
abbrev pub Told : Type 0
Told = Option (Vec Refusal Global)

abbrev pub is_told : Told → Bool
is_told None = false
is_told (Some rs) = true

abbrev pub told : Told → Option (List Refusal)
told o = option_map (λ (rs : Vec Refusal Global). rs.items) o

-- these were put behind what was found, where it is told
abbrev pub Tells : Told → Told → List Refusal → Type 0
Tells m n rs = told n ≡ option_map (λ (ms : List Refusal). ms ++ rs) (told m)

-- what these offend was
abbrev pub TellsVisits : Effects → Told → Told → List Visit → Type 0
TellsVisits E m n vs = Tells m n (flat_map (offences_at E) vs)

-- what a statement offends itself, where it is a loop or none, and assigns something twice or nothing
abbrev pub here : Spot → Bool → Bool → Place → List Refusal
here s loops twice at = cond s.labelled [] (due_offence s.due at ++ offence_if loops WhileLabel at) ++ offence_if twice AssignTwice at

-- ---- statements

-- these were gone through, which hold a label or a jump, or none
pub record Goes (E : Effects) (f : paths.Path → paths.Path) (vs : paths.Path → List Visit) (holds : Bool) (old new : Ways) (m n : Told) (said : Bool) : Type 0 where
  pub leads : LeadsBoth f old new
  pub found : (p : paths.Path) → Alike p (path_of old.reached) → TellsVisits E m n (vs p)
  pub held : is_told m ≡ true → said ≡ holds

-- a statement, where a label is right before it, or must be there by the rule
pub record GoesOne (E : Effects) (l : Bool) (r : Option Rule) (at : Span) (st : Statement) (j : Partner) (old new : Ways) (m n : Told) (b : Behind) : Type 0 where
  pub goes : Goes E (after_one E st l) (λ p. visits_one E (standing l r p) at st j) (holds_one st) old new m n b.held
  pub due : is_told m ≡ true → b.due ≡ due_after st j

-- a list, where a label must be before its first statement by the rule
abbrev pub GoesAll : Effects → Option Rule → Statements → Ways → Ways → Told → Told → Bool → Type 0
GoesAll E r b old new m n said = Goes E (after E b false) (λ p. visits E (standing false r p) b) (holds b) old new m n said

abbrev pub GoesSome : Effects → Branches → Ways → Ways → Told → Told → Bool → Type 0
GoesSome E bs old new m n said = Goes E (after_some E bs) (λ p. visits_of_some E (inside p) bs) (holds_some bs) old new m n said
