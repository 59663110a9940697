-- What an algorithm offends, where it stands.
use Rattle.std.specs.Prelude.{◌≡◌, List, [], ◌++◌, map, reverse, codes}
use Rattle.std.specs.List.{flat_map}
use Rattle.tla_token.specs.declared.rule.Refusal.{Refusal}
use Rattle.tla_token.specs.Signs.{is_among}
use Rattle.tla_tree.specs.Tree.{Word, Tree}
use Rattle.module_outside.specs.declared.modules.Modules.{Modules}
use Rattle.pcal_tree.specs.declared.algorithm.Macro as declared
use Rattle.pcal_tree.specs.declared.algorithm.Algorithm as declared_algorithm
use Rattle.pcal_tree.specs.Algorithm.{Algorithm}
use Rattle.pcal_tree.specs.InMemory.{procedure_at}
use Rattle.pcal_tree.specs.OffencesRebind.{Standings, any_name, self_alone, starts_rebind, call_rebinds, macro_rebinds, texts_rebind, procedure_rebinds, main_rebinds}
use Rattle.declared_rules.specs.declared.rebinds.Sights.{Sights}
use Rattle.declared_rules.specs.declared.kept.Calls.{Calls}
use Rattle.declared_rules.specs.Keeping.{Within, Means}
use Rattle.declared_rules.specs.Macros.{macro_names}

-- in the text itself no text is put in, in bodies of single processes for `self`, and in macros for parameters too
pub record AreSights (m : Modules) (ds : List declared.Macro) (s : Sights) : Type 0 where
  pub near_modules : s.near.modules ≡ m
  pub own_modules : s.own.modules ≡ m
  pub far_modules : s.far.modules ≡ m
  pub alone : s.near.stands ≡ []
  pub own : (x : Word) → is_among s.own.stands x ≡ self_alone x
  pub far : Within s.far.stands (macro_names ds)
  pub further : Within s.far.stands s.own.stands

-- no text is put in anywhere
pub record AreAlone (m : Modules) (s : Sights) : Type 0 where
  pub near_modules : s.near.modules ≡ m
  pub own_modules : s.own.modules ≡ m
  pub far_modules : s.far.modules ≡ m
  pub near : s.near.stands ≡ []
  pub own : s.own.stands ≡ []
  pub far : s.far.stands ≡ []

-- nothing is kept
pub record AreNone (k : Calls) : Type 0 where
  pub process : k.process ≡ codes "self"
  pub macros : k.macros.kept.entries ≡ []
  pub procedures : k.procedures.kept.entries ≡ []

-- nothing is kept of macros yet, and of procedures what calls of them offend
pub record Begins (s : Sights) (ts : List Tree) (a : declared_algorithm.Algorithm) (k : Calls) : Type 0 where
  pub modules : Modules
  pub sights : AreSights modules a.macros.items s
  pub process : k.process ≡ codes "self"
  pub macros : k.macros.kept.entries ≡ []
  pub procedures : Means s.own s.far.stands k.procedures (λ ms z x us. call_rebinds ms (map (procedure_at ts) a.procedures.items) x z)

-- all but the definitions, where these are in scope
abbrev pub insides : List Word → Algorithm → Standings → List Refusal
insides ms a r =
    starts_rebind ms any_name a.globals r
    ++ (texts_rebind ms a.procedures (macro_rebinds ms a.procedures) r (reverse a.macros)
    ++ (flat_map (procedure_rebinds ms a.procedures (macro_rebinds ms a.procedures (reverse a.macros)) r) a.procedures
    ++ main_rebinds ms a.procedures (macro_rebinds ms a.procedures (reverse a.macros)) r a.main))
