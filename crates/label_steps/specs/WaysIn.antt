-- What is met where statements are gone through along all paths, whatever labels are missing.
use Rattle.std.specs.Prelude.{◌≡◌, List, [], ◌∷◌, ◌++◌, Bool, false, Option, Some, None, cond}
use Rattle.std.specs.List.{flat_map}
use Rattle.tla_token.specs.declared.rule.Rule.{Rule}
use Rattle.pcal_tree.specs.Algorithm.{Span, Statement, Statements, Branches}
use Rattle.pcal_tree.specs.OffencesSteps.{Before, inside, Visit, visits_inside, visits, visits_of_some}
use Rattle.pcal_tree.specs.Paths as paths
use Rattle.pcal_tree.specs.Paths.{Effects, rounds, after_one, after, after_some, is_reached}
use Rattle.pcal_tree.specs.Run.{Partner}
use Rattle.pcal_tree.specs.laws.MacroSummaries.{Summary, Found, found_here}
use Rattle.pcal_tree.proofs.EffectLaws.{Alike}
use Rattle.label_steps.specs.declared.around.Around.{Around}
use Rattle.label_steps.specs.declared.gathered.Gathered.{Gathered}
use Rattle.label_steps.specs.declared.known.Known.{Known}
use Rattle.label_steps.specs.declared.path.Path.{Path}
use Rattle.label_steps.specs.declared.ways.Ways.{Ways}
use Rattle.label_steps.specs.Gathered.{assigning, names_met, pairs_met, names_there}
use Rattle.label_steps.specs.GatheredIn.{AddsSome}
use Rattle.label_steps.specs.KnownIn.{AreMacros}
use Rattle.label_steps.specs.PathsIn.{path_of}

-- ---- paths

-- what any number of rounds makes of a path, where a body leads no path to the first one, and one without names to the second
abbrev pub rounds_by : paths.Path → paths.Path → paths.Path → paths.Path
rounds_by u r None = cond (is_reached u) r None
rounds_by u r (Some xs) = Some (xs ++ names_there r)

-- behind a loop with this body; true where a label is right before it
abbrev pub looped : Effects → Statements → Bool → paths.Path → paths.Path
looped E b l p = cond l p (rounds paths.joined (λ q. after E b false q) p)

-- paths in memory lead where these do
abbrev pub Leads : (paths.Path → paths.Path) → Path → Path → Type 0
Leads f old new = (p : paths.Path) → Alike p (path_of old) → Alike (f p) (path_of new)

pub record LeadsBoth (f : paths.Path → paths.Path) (old new : Ways) : Type 0 where
  pub unreached : Leads f old.unreached new.unreached
  pub reached : Leads f old.reached new.reached

-- both are these
pub record AreWays (u r : paths.Path) (w : Ways) : Type 0 where
  pub unreached : Alike u (path_of w.unreached)
  pub reached : Alike r (path_of w.reached)

-- ---- statements

abbrev pub standing : Bool → Option Rule → paths.Path → Before
standing l r p = record { labelled = l; due = r; path = p }

-- a statement and those in it
abbrev pub visits_one : Effects → Before → Span → Statement → Partner → List Visit
visits_one E b at st j = record { before = b; place = at.first; statement = st; partner = j } ∷ visits_inside E b st

-- what is found in these was gathered
abbrev pub AddsVisits : Known → (Statement → Found) → Option Gathered → Option Gathered → List Visit → Type 0
AddsVisits k S m n vs = AddsSome k m n (flat_map (names_met S) vs) (flat_map (pairs_met S) vs)

-- where a path leads to something, it was gathered
abbrev pub Gathers : Known → (Statement → Found) → (paths.Path → List Visit) → Path → Option Gathered → Option Gathered → Type 0
Gathers k S vs old m n = (p : paths.Path) → Alike p (path_of old) → AddsVisits k S m n (vs p)

-- these were gone through
pub record Goes (k : Known) (S : Statement → Found) (f : paths.Path → paths.Path) (vs : paths.Path → List Visit) (old new : Ways) (m n : Option Gathered) : Type 0 where
  pub leads : LeadsBoth f old new
  pub found : Gathers k S vs old.reached m n

abbrev pub GoesOne : Known → (Statement → Found) → Bool → Span → Statement → Ways → Ways → Option Gathered → Option Gathered → Type 0
GoesOne k S l at st old new m n =
    (r : Option Rule) (j : Partner) → Goes k S (after_one (assigning S) st l) (λ p. visits_one (assigning S) (standing l r p) at st j) old new m n

abbrev pub GoesAll : Known → (Statement → Found) → Statements → Ways → Ways → Option Gathered → Option Gathered → Type 0
GoesAll k S b old new m n = Goes k S (after (assigning S) b false) (λ p. visits (assigning S) (inside p) b) old new m n

abbrev pub GoesSome : Known → (Statement → Found) → Branches → Ways → Ways → Option Gathered → Option Gathered → Type 0
GoesSome k S bs old new m n = Goes k S (after_some (assigning S) bs) (λ p. visits_of_some (assigning S) (inside p) bs) old new m n

-- in a macro, where these are known
abbrev pub InMacro : Around → ((Statement → Found) → Type 0) → Type 0
InMacro a f = (ms : List Summary) → AreMacros a.known ms → a.name ≡ None → a.own.items ≡ [] → f (found_here ms)
