-- What is known of macros and procedures, in memory.
use Rattle.std.specs.Prelude.{◌≡◌, ℕ, zero, suc, ◌+◌, List, [], ◌∷◌, ◌++◌, length, reverse, Bool, Option, Some, None, cond, bytes_eq, slice_get}
use Rattle.tla_tree.specs.Tree.{Word, Trees}
use Rattle.pcal_tree.specs.Algorithm.{Procedure, Algorithm}
use Rattle.pcal_tree.specs.laws.MacroSpots.{At, Called, MacroSeen, before_on, put_called, seen_from, unlabelled}
use Rattle.pcal_tree.proofs.SpotGrafts.{putting}
use Rattle.algorithm_limits.specs.Numbers.{number_of, with_number}
use Rattle.read_rules.specs.declared.known.Known.{Known}
use Rattle.read_rules.specs.declared.known.Summary.{Summary}
use Rattle.read_rules.specs.declared.walk.Ways.{Ways}
use Rattle.read_rules.specs.Pruned.{macros_pruned}
use Rattle.read_rules.specs.SeenIn.{IsWay}
use Rattle.read_rules.specs.StepsIn.{AreJumps}

-- this was seen in a body, where no path leads to it and where one does
pub record AreWays (w : Ways) (u r : Called) : Type 0 where
  pub unreached : IsWay w.unreached u
  pub reached : IsWay w.reached r

pub record IsSummary (s : Summary) (d : MacroSeen) : Type 0 where
  pub params : s.params.items ≡ d.params
  pub plain : AreWays s.plain d.unreached d.reached
  pub labelled : AreWays s.labelled d.unreached_at_label d.reached_at_label

-- the newest of a name
abbrev pub find_seen : List MacroSeen → Word → Option MacroSeen
find_seen [] m = None
find_seen (d ∷ older) m = cond (bytes_eq d.title m) (Some d) (find_seen older m)

abbrev pub seen_by_found : Option MacroSeen → Trees → At → Called
seen_by_found None ts z = record { seen = []; end = unlabelled None }
seen_by_found (Some d) ts z = put_called (putting d.params ts (before_on z.trail)) (seen_from d z.labelled z.trail)

-- the summary of a number is of this one; 0 is none's
abbrev pub IsFound : List Summary → ℕ → Option MacroSeen → Type 0
IsFound ss zero o = o ≡ None
IsFound ss (suc i) o = (d : MacroSeen) × (s : Summary) × (o ≡ Some d) × (slice_get ss i ≡ Some s) × IsSummary s d

abbrev pub AreMacros : Known → List MacroSeen → Type 0
AreMacros k ms = (m : Word) → IsFound k.summaries.items (number_of k.numbers m) (find_seen ms m)

pub record Knows (k : Known) (ms : List MacroSeen) (ps : List Procedure) : Type 0 where
  pub macros : AreMacros k ms
  pub jumps : AreJumps k.jumps.items ps

-- all macros of an algorithm, with those uses that pass a test
abbrev pub KnowsAll : (Word → Bool) → Known → Algorithm → Type 0
KnowsAll T k a = Knows k (macros_pruned T a.procedures (reverse a.macros)) a.procedures

-- a newer macro of a name is this
pub record HasMacro (old new : Known) (x : Word) (s : Summary) : Type 0 where
  pub summaries : new.summaries.items ≡ old.summaries.items ++ s ∷ []
  pub numbers : new.numbers ≡ with_number old.numbers x (length old.summaries.items + 1)
  pub jumps : new.jumps.items ≡ old.jumps.items
