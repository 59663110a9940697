-- What is seen of statements inside a `with`.
use Rattle.std.specs.Prelude.{◌≡◌, List, [], Bool, true, false, ◌||◌, ◌&&◌, not, cond, Option, Some, None}
use Rattle.std.specs.List.{flat_map}
use Rattle.tla_token.specs.declared.rule.Rule.{Rule}
use Rattle.pcal_tree.specs.Algorithm.{Statement, branch, either, with, while, Statements, Branches}
use Rattle.pcal_tree.specs.Run.{Partner, is_pair, is_return}
use Rattle.pcal_tree.specs.Tests.{is_empty}
use Rattle.pcal_tree.specs.Paths as paths
use Rattle.pcal_tree.specs.Paths.{Effects, nothing, joined, after_one, after, after_some, has_assigned}
use Rattle.pcal_tree.specs.OffencesSteps.{Before, inside, holds_one, holds, holds_some, due_after, visits_inside, visits_of_some, offences_at, effect_with, step_offences}
use Rattle.pcal_tree.specs.laws.MacroSummaries.{Summary}
use Rattle.pcal_tree.proofs.EffectLaws.{Alike}
use Rattle.label_steps.specs.AroundIn.{effects_around}
use Rattle.label_steps.specs.PathsIn.{Behind, path_of, ends_of}
use Rattle.label_steps.specs.declared.path.Path.{Path}
use Rattle.added_labels.specs.declared.seen.Seen.{Seen}
use Rattle.added_labels.specs.declared.seen.Next.{Next}
use Rattle.added_labels.specs.declared.seen.Where.{Where}

-- what statements assign there, where these are the macros, the newest first
abbrev pub effects_of : Where → List Summary → Effects
effects_of w ms = cond w.silent (λ st. nothing) (effects_around w.around ms)

pub record IsNext (n : Next) (j : Partner) : Type 0 where
  pub pairs : n.pairs ≡ is_pair j
  pub returns : n.returns ≡ is_return j

-- ---- what is missing

abbrev pub is_due : Option Rule → Bool
is_due None = false
is_due (Some r) = true

abbrev pub is_while : Statement → Bool
is_while (while e b) = true
is_while _ = false

-- at a statement a label is missing, or a variable is assigned twice
abbrev pub here : Effects → Before → Statement → Partner → Bool
here E p st j = (not p.labelled && (is_due p.due || is_while st)) || ((effect_with E st j).twice || has_assigned p.path (effect_with E st j).variables)

abbrev pub offends : Effects → Before → Statements → Bool
offends E p b = not (is_empty (step_offences E p b))

abbrev pub offends_inside : Effects → Before → Statement → Bool
offends_inside E p st = not (is_empty (flat_map (offences_at E) (visits_inside E p st)))

abbrev pub offends_in_some : Effects → paths.Path → Branches → Bool
offends_in_some E p bs = not (is_empty (flat_map (offences_at E) (visits_of_some E (inside p) bs)))

-- ---- in memory

pub record Stands (m : Seen) (p : Before) : Type 0 where
  pub labelled : m.labelled ≡ p.labelled
  pub due : m.due ≡ (not p.labelled && is_due p.due)

-- where nothing is missing, the path is that in memory
abbrev pub Fine : Seen → Path → Before → Type 0
Fine m old p = m.missing ≡ false → m.due ≡ false → Alike (path_of old) p.path

-- the path behind a statement is that in memory, if that before it was
abbrev pub is_kept : Bool → Statement → Bool
is_kept l (branch e a b) = not (holds a || holds b)
is_kept l (either bs) = not (holds_some bs)
is_kept l (with bs b) = not (holds b)
is_kept l (while e b) = l || not (holds b)
is_kept l st = true

pub record SeesOne (E : Effects) (st : Statement) (j : Partner) (old new : Path) (m r : Seen) : Type 0 where
  pub held : r.held ≡ (m.held || holds_one st)
  pub labelled : r.labelled ≡ false
  pub due : r.due ≡ is_due (due_after st j)
  pub missing : (p : Before) → Stands m p → Fine m old p → r.missing ≡ (m.missing || (here E p st j || offends_inside E p st))
  pub path : (p : Before) → Stands m p → Alike (path_of old) p.path → is_kept p.labelled st ≡ true → Alike (path_of new) (after_one E st p.labelled p.path)

pub record SeesList (E : Effects) (b : Statements) (old new : Path) (m r : Seen) : Type 0 where
  pub held : r.held ≡ (m.held || holds b)
  pub missing : (p : Before) → Stands m p → Fine m old p → r.missing ≡ (m.missing || offends E p b)
  pub path : (p : Before) → Stands m p → Alike (path_of old) p.path → holds b ≡ false → Alike (path_of new) (after E b p.labelled p.path)

-- a branch, with how those before it end
pub record SeesBranch (E : Effects) (b : Statements) (old : Path) (ends : Option Path) (m r : Seen) (all : Option Path) : Type 0 where
  pub held : r.held ≡ (m.held || holds b)
  pub missing : (q : paths.Path) → (m.missing ≡ false → Alike (path_of old) q) → r.missing ≡ (m.missing || offends E (inside q) b)
  pub joins : (q e : paths.Path) → Alike (path_of old) q → holds b ≡ false → Alike (ends_of old.names.keys ends) e → Alike (ends_of old.names.keys all) (joined e (after E b false q))

pub record SeesBranches (E : Effects) (bs : Branches) (old : Path) (m r : Seen) (all : Option Path) : Type 0 where
  pub held : r.held ≡ (m.held || holds_some bs)
  pub missing : (q : paths.Path) → (m.missing ≡ false → Alike (path_of old) q) → r.missing ≡ (m.missing || offends_in_some E q bs)
  pub ends : (q : paths.Path) → Alike (path_of old) q → holds_some bs ≡ false → Alike (ends_of old.names.keys all) (after_some E bs q)

-- ---- labels in a list

-- what is kept is the path with which the list began
abbrev pub Begins : Path → Path → Option Path → Option Path → Type 0
Begins old new None result = (new.names.keys ≡ []) × (new.reached ≡ true) × (result ≡ Some old)
Begins old new (Some first) result = (new.names.keys ≡ []) × (new.reached ≡ true) × (result ≡ Some first)

abbrev pub Finishes : Path → Path → Option Path → Type 0
Finishes old new None = new ≡ old
Finishes old new (Some first) = new ≡ first

abbrev pub IsKept : Path → Path → Option Path → Type 0
IsKept old now None = Behind old.names.keys now.names.keys
IsKept old now (Some first) = Behind old.names.keys first.names.keys

-- behind a loop, of which a round ends so; without a label one more may have been gone
abbrev pub Rounds : Bool → Path → Path → Option Path → Type 0
Rounds true old new ends = new ≡ old
Rounds false old new ends = (f : paths.Path) → Alike (ends_of old.names.keys ends) f → Alike (path_of new) (cond old.reached (joined f (path_of old)) None)
