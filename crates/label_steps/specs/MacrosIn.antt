-- What is known of macros, one after another.
use Rattle.std.specs.Prelude.{◌≡◌, List, [], false, Some, map}
use Rattle.tla_token.specs.Signs.{is_among}
use Rattle.tla_tree.specs.Tree.{Word}
use Rattle.pcal_tree.specs.Algorithm.{Name, Statements, Macro}
use Rattle.pcal_tree.specs.laws.MacroSummaries.{Summary, found_here, found}
use Rattle.pcal_tree.proofs.SetLaws.{Same}
use Rattle.label_steps.specs.declared.around.Around.{Around}
use Rattle.label_steps.specs.declared.gathered.Gathered.{Gathered}
use Rattle.label_steps.specs.GatheredIn.{gathered_pairs}
use Rattle.label_steps.specs.PutIn.{SameBroken}

abbrev pub params_of : List Name → List Word
params_of ps = map (λ p. p.word) ps

-- these parameters are among those of macros
abbrev pub AreInside : List Word → List Name → Type 0
AreInside xs ps = (x : Word) → is_among xs x ≡ false → is_among (params_of ps) x ≡ false

-- this was gathered of a body that calls these macros
pub record IsGathered (xs : List Word) (a : Gathered) (ms : List Summary) (b : Statements) : Type 0 where
  pub names : Same a.names.keys (found (found_here ms) false (Some []) b).names
  pub pairs : SameBroken xs (gathered_pairs a) (found (found_here ms) false (Some []) b).pairs

-- the summary of a macro that calls these
abbrev pub summary_after : List Summary → Macro → Summary
summary_after ms d = record { name = d.name.word; params = d.params; found = found (found_here ms) false (Some []) d.body }

-- only what is known of macros may be another
pub record StaysAround (old new : Around) : Type 0 where
  pub name : new.name ≡ old.name
  pub own : new.own ≡ old.own
  pub params : new.known.params ≡ old.known.params
