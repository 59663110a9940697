-- What is kept of macros and procedures.
use Rattle.std.specs.Prelude.{◌≡◌, ◌==◌, ℕ, List, map, reverse}
use Rattle.std.specs.Cmp.Lexicographic.{pointwise}
use Rattle.indexmap.specs.IndexMap.{insert_entry}
use Rattle.tla_token.specs.declared.place.Place.{Place}
use Rattle.tla_tree.specs.Tree.{Tree}
use Rattle.pcal_tree.specs.declared.algorithm.Macro.{Macro}
use Rattle.pcal_tree.specs.declared.algorithm.Procedure as code
use Rattle.pcal_tree.specs.Algorithm.{Name, Procedure}
use Rattle.pcal_tree.specs.InMemory.{statements_at, macro_at, procedure_at}
use Rattle.pcal_tree.specs.Offences.{first}
use Rattle.pcal_tree.specs.NameUses.{Sight}
use Rattle.pcal_tree.specs.OffencesNames.{Calls, call_offences, in_body, macro_offences}
use Rattle.algorithm_limits.specs.Numbers.{Numbers, number_of}
use Rattle.name_rules.specs.declared.macros.MacroUses.{MacroUses}
use Rattle.name_rules.specs.declared.macros.Callees.{Callees}
use Rattle.declared_rules.specs.UsesTold.{told_by}
use Rattle.name_rules.specs.Calling.{procedure_offences, Means}

-- this is kept of a macro, whose calls offend this
pub record Keeps (C : Calls) (ps : List Procedure) (ts : List Tree) (d : Macro) (u : MacroUses) : Type 0 where
  pub params : u.params.items ≡ d.params.items
  pub tells : (s : Sight) → told_by u.found.first u.found.free.keys s ≡ first (in_body C ps (statements_at ts d.body.items) s)

-- the table has these procedures
abbrev pub AreProcedures : Numbers → List Procedure → Type 0
AreProcedures es ps = (x : Name) (p : Place) (n : ℕ) → call_offences ps p x n ≡ procedure_offences (number_of es x.word) p x n

abbrev pub procedures_at : List Tree → List code.Procedure → List Procedure
procedures_at ts ps = map (procedure_at ts) ps

-- calls of macros of which each calls those before it
abbrev pub calls_at : List Tree → List Macro → List Procedure → Calls
calls_at ts ms ps = macro_offences (reverse (map (macro_at ts) ms)) ps

-- one more macro is known
pub record MacroKept (ts : List Tree) (d : Macro) (old new : Callees) : Type 0 where
  pub uses : MacroUses
  pub keeps : (C : Calls) (ps : List Procedure) → Means old C ps → Keeps C ps ts d uses
  pub puts : new.macros.entries ≡ insert_entry (pointwise ◌==◌) old.macros.entries d.name.word uses
  pub procedures : new.procedures ≡ old.procedures
