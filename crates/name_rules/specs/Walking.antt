-- What is found in what a `with` names, and in statements.
use Rattle.std.specs.Prelude.{◌≡◌, List, ◌++◌}
use Rattle.tla_tree.specs.Tree.{Word, Tree}
use Rattle.tla_token.specs.declared.rule.Refusal.{Refusal}
use Rattle.pcal_tree.specs.declared.algorithm.Stmt.{Stmt}
use Rattle.pcal_tree.specs.Algorithm.{Binds, Statements, Procedure}
use Rattle.pcal_tree.specs.InMemory.{stmt_at}
use Rattle.pcal_tree.specs.Offences.{first}
use Rattle.pcal_tree.specs.NameUses.{Sight}
use Rattle.pcal_tree.specs.OffencesNames.{Calls, in_binds, after_binds, in_body}
use Rattle.algorithm_answer.specs.Joined.{joined}
use Rattle.name_rules.specs.declared.found.Found.{Found}
use Rattle.declared_rules.specs.UsesTold.{Inside}
use Rattle.name_rules.specs.Finding.{told, Tells}

-- more names may be bound behind those that were
pub record Behind (old new : List Word) : Type 0 where
  pub more : List Word
  pub kept : new ≡ old ++ more

-- what a `with` names was looked at, and is bound
pub record TellsBinds (bs : Binds) (old new : Found) : Type 0 where
  pub behind : Behind old.bound new.bound
  pub inside : (s r : Sight) → Inside old.bound s r → Inside new.bound s (after_binds bs r)
  pub tells : (s r : Sight) → Inside old.bound s r → told new s ≡ joined (told old s) (first (in_binds bs r))

-- a statement was looked at, whose offences come before those of the rest of its list
pub record TellsStmt (C : Calls) (ps : List Procedure) (ts : List Tree) (s : Stmt) (old new : Found) : Type 0 where
  pub these : Sight → List Refusal
  pub ahead : (rest : Statements) (r : Sight) → in_body C ps (stmt_at ts s rest) r ≡ these r ++ in_body C ps rest r
  pub tells : Tells old new these
