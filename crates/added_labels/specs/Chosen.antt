-- What is decided along a path in memory.
use Rattle.std.specs.Prelude.{◌≡◌, List, [], ◌++◌, Bool, true, false, ◌||◌, Option, Some}
use Rattle.pcal_tree.specs.Algorithm.{Statement, Statements, Branches}
use Rattle.pcal_tree.specs.Run.{Partner}
use Rattle.pcal_tree.specs.Paths as paths
use Rattle.pcal_tree.specs.Paths.{Effects, joined}
use Rattle.pcal_tree.specs.OffencesSteps.{Before, inside}
use Rattle.pcal_tree.proofs.EffectLaws.{Alike}
use Rattle.label_steps.specs.PathsIn.{path_of, ends_of}
use Rattle.label_steps.specs.declared.path.Path.{Path}
use Rattle.added_labels.specs.declared.seen.Seen.{Seen}
use Rattle.added_labels.specs.Decided as decided
use Rattle.added_labels.specs.Decided.{held_inside, due_behind, path_behind, ending, held_some, path_behind_some, chosen_inside, chosen_some}
use Rattle.added_labels.specs.Sight.{is_due, Stands, Begins}

-- behind the decision whether a label is added
abbrev pub StandsNow : Bool → Path → Path → Option Path → Option Path → Seen → Seen → Type 0
StandsNow true old new kept first m r = Begins old new kept first × (r ≡ record { missing = m.missing; held = true; labelled = true; due = false })
StandsNow false old new kept first m r = (new ≡ old) × (first ≡ kept) × (r ≡ m)

-- this is what is before the next statement; where a label must be there, whatever the statement is, the path doesn't matter
pub record OnPath (m : Seen) (old : Path) (p : Before) : Type 0 where
  pub stands : Stands m p
  pub path : m.due ≡ false → Alike (path_of old) p.path

pub record ChoosesOne (E : Effects) (q : paths.Path) (st : Statement) (j : Partner) (old new : Path) (m r : Seen) (ws vs : List Bool) : Type 0 where
  pub chosen : (more : List Bool) → ws ++ chosen_inside E q st more ≡ vs ++ more
  pub held : r.held ≡ (m.held || held_inside E q st)
  pub labelled : r.labelled ≡ false
  pub due : r.due ≡ is_due (due_behind E q st j)
  pub path : r.due ≡ false → Alike (path_of new) (path_behind E q st)

pub record ChoosesList (E : Effects) (p : Before) (b : Statements) (new : Path) (m r : Seen) (ws vs : List Bool) : Type 0 where
  pub chosen : (more : List Bool) → ws ++ decided.chosen E p b more ≡ vs ++ more
  pub held : r.held ≡ (m.held || decided.held E p b)
  pub path : m.due ≡ false → decided.held E p b ≡ false → Alike (path_of new) (ending E p b).path

-- a branch, with how those before it end
pub record ChoosesBranch (E : Effects) (q : paths.Path) (b : Statements) (old : Path) (ends : Option Path) (m r : Seen) (all : Option Path) (ws vs : List Bool) : Type 0 where
  pub chosen : (more : List Bool) → ws ++ decided.chosen E (inside q) b more ≡ vs ++ more
  pub held : r.held ≡ (m.held || decided.held E (inside q) b)
  pub joins : decided.held E (inside q) b ≡ false → (e : paths.Path) → Alike (ends_of old.names.keys ends) e → Alike (ends_of old.names.keys all) (joined e (ending E (inside q) b).path)

pub record ChoosesBranches (E : Effects) (q : paths.Path) (bs : Branches) (old : Path) (m r : Seen) (all : Option Path) (ws vs : List Bool) : Type 0 where
  pub chosen : (more : List Bool) → ws ++ chosen_some E q bs more ≡ vs ++ more
  pub held : r.held ≡ (m.held || held_some E q bs)
  pub ends : held_some E q bs ≡ false → Alike (ends_of old.names.keys all) (path_behind_some E q bs)

-- so a body begins; true where a label must be before its first statement
abbrev pub begins_with : Bool → Before → Type 0
begins_with due p = (p.labelled ≡ false) × (is_due p.due ≡ due) × (p.path ≡ Some [])
