-- What is found in what a `with` names, and in statements.
use Rattle.std.specs.Prelude.{◌≡◌, ℕ, List, [], ◌∷◌, ◌++◌}
use Rattle.tla_token.specs.declared.rule.Refusal.{Refusal}
use Rattle.tla_tree.specs.Tree.{Word, Tree, words}
use Rattle.tla_tree.specs.Pool.{at}
use Rattle.pcal_tree.specs.declared.algorithm.Bind.{Bind}
use Rattle.pcal_tree.specs.declared.algorithm.Bind.TheVariants as bind
use Rattle.pcal_tree.specs.declared.algorithm.Stmt.{Stmt}
use Rattle.pcal_tree.specs.Algorithm.{Statements, Procedure}
use Rattle.pcal_tree.specs.BoundNames.{names_of_binds}
use Rattle.pcal_tree.specs.InMemory.{binds_at, stmt_at}
use Rattle.pcal_tree.specs.OffencesRebind.{Standings, any_name, Calls, whole_rebinds, binds_rebind, body_rebinds}
use Rattle.declared_rules.specs.declared.sight.Sight.{Sight}
use Rattle.declared_rules.specs.declared.bind_walk.Walk.{Walk}
use Rattle.declared_rules.specs.Parts.{bind_name}
use Rattle.declared_rules.specs.Telling.{Adds, AddsNaming}

abbrev pub bind_number : Bind → ℕ
bind_number (bind.Among x e) = e
bind_number (bind.Is x e) = e

-- its expression was looked at, and its name is bound
abbrev pub AddsBind : Sight → List Tree → Bind → Walk → Walk → Type 0
AddsBind g ts b old new = AddsNaming g any_name old new ((bind_name b).word ∷ []) (λ ms r. whole_rebinds ms (at ts (bind_number b)) r)

-- the same of all that a `with` names
abbrev pub AddsBinds : Sight → List Tree → List Bind → Walk → Walk → Type 0
AddsBinds g ts bs old new = AddsNaming g any_name old new (words (names_of_binds (binds_at ts bs))) (λ ms r. binds_rebind ms (binds_at ts bs) r)

-- the offences of a statement were found, which come before those of the rest of its list
pub record AddsStmt (g : Sight) (C : List Word → Calls) (ps : List Procedure) (ts : List Tree) (s : Stmt) (old new : Walk) : Type 0 where
  pub these : List Word → Standings → List Refusal
  pub ahead : (rest : Statements) (ms : List Word) (r : Standings) → body_rebinds ms ps (C ms) (stmt_at ts s rest) r ≡ these ms r ++ body_rebinds ms ps (C ms) rest r
  pub adds : Adds g any_name old new these
