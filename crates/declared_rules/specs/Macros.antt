-- What is kept of macros, and their own texts.
use Rattle.std.specs.Prelude.{◌≡◌, ◌==◌, List, [], ◌++◌, Bool, codes}
use Rattle.std.specs.List.{flat_map}
use Rattle.std.specs.Cmp.Lexicographic.{pointwise}
use Rattle.indexmap.specs.IndexMap.{insert_entry}
use Rattle.tla_tree.specs.Tree.{Word, Tree, words}
use Rattle.pcal_tree.specs.declared.algorithm.Macro as declared
use Rattle.pcal_tree.specs.declared.algorithm.Procedure as memory
use Rattle.pcal_tree.specs.Algorithm.{Macro, Procedure}
use Rattle.pcal_tree.specs.InMemory.{declarations_at, statements_at}
use Rattle.pcal_tree.specs.OffencesRebind as pure
use Rattle.pcal_tree.specs.OffencesRebind.{any_name, naming, rebound_all, starts_rebind, body_rebinds, call_rebinds, macro_rebinds, texts_rebind}
use Rattle.declared_rules.specs.declared.sight.Sight.{Sight}
use Rattle.declared_rules.specs.declared.bind_walk.Walk.{Walk}
use Rattle.declared_rules.specs.declared.kept.Kept.{Kept}
use Rattle.declared_rules.specs.declared.kept.Keeps.{Keeps}
use Rattle.declared_rules.specs.declared.kept.Calls.{Calls}
use Rattle.declared_rules.specs.Telling.{told, Adds}
use Rattle.declared_rules.specs.Keeping.{Within, Tells, Means, KnowsCalls}

-- all parameters
abbrev pub macro_names : List declared.Macro → List Word
macro_names ms = flat_map (λ (m : declared.Macro). words m.params.items) ms

-- macros may be gone through: near no text is put in, and far from here for the parameters of macros
pub record Ready (near far : Sight) (k : Calls) (ps : List Procedure) (params : List Word) : Type 0 where
  pub modules : near.modules ≡ far.modules
  pub process : k.process ≡ codes "self"
  pub alone : near.stands ≡ []
  pub within : Within far.stands params
  pub procedures : Means far far.stands k.procedures (λ ms s x ts. call_rebinds ms ps x s)

-- these were, the newest first
pub record MacrosAt (near far : Sight) (ps : List Procedure) (old new : Walk) (before after : Calls) (ds : List Macro) : Type 0 where
  pub adds : Adds near any_name old new (λ ms r. texts_rebind ms ps (macro_rebinds ms ps) r ds)
  pub macros : Means far far.stands after.macros (λ ms. macro_rebinds ms ps ds)
  pub procedures : after.procedures ≡ before.procedures
  pub process : after.process ≡ before.process

-- one macro was, and this is kept of it
pub record MacroKept (near far : Sight) (ts : List Tree) (d : declared.Macro) (old new : Walk) (before after : Calls) : Type 0 where
  pub kept : Kept
  pub params : kept.params.items ≡ d.params.items
  pub tells : (C : List Word → pure.Calls) (ps : List Procedure) → KnowsCalls far before C ps → Tells far any_name kept.found (λ ms s. body_rebinds ms ps (C ms) (statements_at ts d.body.items) s)
  pub text : Adds near any_name old new (λ ms r. rebound_all ms r kept.params.items ++ told ms kept.found (naming (words kept.params.items) r))
  pub puts : after.macros.kept.entries ≡ insert_entry (pointwise ◌==◌) before.macros.kept.entries d.name.word kept
  pub procedures : after.procedures ≡ before.procedures
  pub process : after.process ≡ before.process

-- this is kept of a procedure
pub record ProcedureKept (g : Sight) (ts : List Tree) (p : memory.Procedure) (before after : Keeps) : Type 0 where
  pub kept : Kept
  pub params : kept.params.items ≡ []
  pub tells : (K : Word → Bool) → Tells g K kept.found (λ ms s. starts_rebind ms K (declarations_at ts p.variables.items) s)
  pub puts : after.kept.entries ≡ insert_entry (pointwise ◌==◌) before.kept.entries p.name.word kept
