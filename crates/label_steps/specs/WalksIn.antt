-- What is met where statements are gone through.
use Rattle.std.specs.Prelude.{◌≡◌, List, [], ◌∷◌, Bool, true, false, Option, Some, None}
use Rattle.std.specs.List.{flat_map}
use Rattle.tla_tree.specs.Tree.{Tree}
use Rattle.pcal_tree.specs.declared.mark.Mark.{Mark}
use Rattle.pcal_tree.specs.declared.algorithm.Stmt.{Stmt}
use Rattle.pcal_tree.specs.Algorithm.{Name, Span, Statement, Statements, mark, then, Branches}
use Rattle.pcal_tree.specs.InMemory.{stmt_at}
use Rattle.pcal_tree.specs.Offences.{first}
use Rattle.pcal_tree.specs.OffencesSteps.{inside, Visit}
use Rattle.pcal_tree.specs.Paths as paths
use Rattle.pcal_tree.specs.Paths.{Effects}
use Rattle.pcal_tree.specs.Run.{Partner, is_return}
use Rattle.pcal_tree.specs.laws.MacroSummaries.{Summary, found_here}
use Rattle.pcal_tree.proofs.EffectLaws.{Alike}
use Rattle.pcal_tree.proofs.SetLaws.{Same}
use Rattle.algorithm_answer.specs.Joined.{joined}
use Rattle.label_steps.specs.declared.around.Around.{Around}
use Rattle.label_steps.specs.declared.path.Path.{Path}
use Rattle.label_steps.specs.declared.walk.Met.{Met}
use Rattle.label_steps.specs.AroundIn.{effects_around}
use Rattle.label_steps.specs.AssignedTwice.{twice_at}
use Rattle.label_steps.specs.Gathered.{names_met, pairs_met}
use Rattle.label_steps.specs.GatheredIn.{AddsSome}
use Rattle.label_steps.specs.KnownIn.{AreMacros}
use Rattle.label_steps.specs.PathsIn.{path_of, ends_of}
use Rattle.label_steps.specs.StraightPaths.{straight_one, straight, straight_some, straight_inside, straight_visits, straight_in_some}

-- a label, or none
abbrev pub IsKind : Bool → List Tree → Stmt → Type 0
IsKind true ts s = (x : Name) × (k : Mark) × (stmt_at ts s ≡ mark x k)
IsKind false ts s = (at : Span) × (st : Statement) × (stmt_at ts s ≡ then at st)

-- statements assign the same variables by both
abbrev pub SameVariables : Effects → Effects → Type 0
SameVariables E F = (st : Statement) → Same (E st).variables (F st).variables

-- these statements were met
pub record Gains (a : Around) (ms : List Summary) (m n : Met) (vs : List Visit) : Type 0 where
  pub first : n.first ≡ joined m.first (first (flat_map (twice_at (effects_around a ms)) vs))
  pub found : a.name ≡ None → a.own.items ≡ [] → AddsSome a.known m.found n.found (flat_map (names_met (found_here ms)) vs) (flat_map (pairs_met (found_here ms)) vs)

-- they were met along a path, which leads to this one
pub record Walks (a : Around) (ms : List Summary) (q : paths.Path) (new : Path) (m n : Met) (vs : List Visit) : Type 0 where
  pub path : Alike q (path_of new)
  pub met : Gains a ms m n vs

-- whatever assigns so, from each path that has assigned as much as that in memory
abbrev pub OnPaths : Around → Path → (List Summary → Effects → paths.Path → Type 0) → Type 0
OnPaths a old f =
    (ms : List Summary) → AreMacros a.known ms → (E : Effects) → SameVariables E (effects_around a ms) → (p : paths.Path) → Alike p (path_of old) → f ms E p

abbrev pub one_visit : paths.Path → Span → Statement → Partner → Visit
one_visit p at st j = record { before = inside p; place = at.first; statement = st; partner = j }

-- a statement was passed, behind which a `return` comes or none
abbrev pub PassesOne : Around → Bool → Span → Statement → Path → Path → Met → Met → Type 0
PassesOne a returns at st old new m n =
    OnPaths a old (λ ms E p. (j : Partner) → returns ≡ is_return j → Walks a ms (straight_one E st p) new m n (one_visit p at st j ∷ straight_inside E p st))

-- statements were
abbrev pub PassesAll : Around → Statements → Path → Path → Met → Met → Type 0
PassesAll a b old new m n = OnPaths a old (λ ms E p. Walks a ms (straight E b p) new m n (straight_visits E p b))

-- those behind a label were
abbrev pub PassesBehind : Around → Statements → Met → Met → Type 0
PassesBehind a b m n =
    (ms : List Summary) → AreMacros a.known ms → (E : Effects) → SameVariables E (effects_around a ms) → Gains a ms m n (straight_visits E (Some []) b)

-- a branch was, behind others that ended so
pub record EndsSo (a : Around) (ms : List Summary) (old : Path) (q : paths.Path) (ends : Option Path) (m n : Met) (vs : List Visit) : Type 0 where
  pub path : Alike (ends_of old.names.keys ends) q
  pub met : Gains a ms m n vs

abbrev pub PassesArm : Around → Statements → Path → Option Path → Option Path → Met → Met → Type 0
PassesArm a b old before ends m n =
    OnPaths a old (λ ms E p. EndsSo a ms old (paths.joined (ends_of old.names.keys before) (straight E b p)) ends m n (straight_visits E p b))

-- all of a statement's branches were
abbrev pub PassesArms : Around → Branches → Path → Option Path → Met → Met → Type 0
PassesArms a bs old ends m n = OnPaths a old (λ ms E p. EndsSo a ms old (straight_some E bs p) ends m n (straight_in_some E p bs))
