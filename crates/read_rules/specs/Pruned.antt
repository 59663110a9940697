-- Macros of which only those uses are kept that may matter.
use Rattle.std.specs.Prelude.{List, [], ◌∷◌, Bool, filter}
use Rattle.tla_tree.specs.Tree.{Word}
use Rattle.pcal_tree.specs.Algorithm.{Macro, Procedure, Statements}
use Rattle.pcal_tree.specs.laws.MacroSpots.{At, Seen, Called, MacroSeen, name_used, once, seen_in_body, seen_in_call}
use Rattle.read_rules.specs.MacrosIn.{macro_seen}

-- uses of names that pass a test
abbrev pub only : (Word → Bool) → List Seen → List Seen
only T ss = filter (λ s. T (name_used s.use_of).word) ss

abbrev pub pruned : (Word → Bool) → Called → Called
pruned T c = record { seen = only T c.seen; end = c.end }

-- in a macro's body, each use once
abbrev pub kept_from : (Word → Bool) → List MacroSeen → List Procedure → Statements → At → Called
kept_from T ms ps b z = pruned T (once (seen_in_body (seen_in_call ms) ps b z))

abbrev pub macro_pruned : (Word → Bool) → MacroSeen → MacroSeen
macro_pruned T d = record {
  title = d.title;
  params = d.params;
  reached = pruned T d.reached;
  reached_at_label = pruned T d.reached_at_label;
  unreached = pruned T d.unreached;
  unreached_at_label = pruned T d.unreached_at_label;
}

-- the newest first
abbrev pub macros_pruned : (Word → Bool) → List Procedure → List Macro → List MacroSeen
macros_pruned T ps [] = []
macros_pruned T ps (d ∷ older) = let before = macros_pruned T ps older in macro_pruned T (macro_seen ps before d) ∷ before
