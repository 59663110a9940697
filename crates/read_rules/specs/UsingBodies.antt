-- Names that are met in what a `with` names, and in statements.
use Rattle.std.specs.Prelude.{◌≡◌, ℕ, List, [], ◌∷◌, ◌++◌}
use Rattle.tla_tree.specs.Tree.{Word, Tree, words}
use Rattle.tla_tree.specs.Pool.{at}
use Rattle.pcal_tree.specs.declared.algorithm.Bind.{Bind}
use Rattle.pcal_tree.specs.declared.algorithm.Bind.TheVariants as bind
use Rattle.pcal_tree.specs.declared.algorithm.Stmt.{Stmt}
use Rattle.pcal_tree.specs.Algorithm.{Name, Statements}
use Rattle.pcal_tree.specs.BoundNames.{names_of_binds}
use Rattle.pcal_tree.specs.InMemory.{binds_at, stmt_at}
use Rattle.pcal_tree.specs.Reads.{used, used_by_binds}
use Rattle.algorithm_limits.specs.DepthsIn.{Hides}
use Rattle.read_rules.specs.BodyNames.{names_in}
use Rattle.module_outside.specs.SightIn.{Binds}
use Rattle.read_rules.specs.declared.used.Used.{Used}
use Rattle.read_rules.specs.Using.{kept, Adds}

abbrev pub bind_word : Bind → Word
bind_word (bind.Among x e) = x.word
bind_word (bind.Is x e) = x.word

abbrev pub bind_number : Bind → ℕ
bind_number (bind.Among x e) = e
bind_number (bind.Is x e) = e

-- the names of its expression were met, and its name is bound
pub record AddsBind (ts : List Tree) (b : Bind) (old new : Used) : Type 0 where
  pub only : new.only_self ≡ old.only_self
  pub hides : Hides old.bound new.bound (bind_word b ∷ [])
  pub meets : (xs : List Word) → Binds old.bound xs → new.names.items ≡ old.names.items ++ kept old.only_self (used (at ts (bind_number b)) xs)

-- the same of all that a `with` names
pub record AddsBinds (ts : List Tree) (bs : List Bind) (old new : Used) : Type 0 where
  pub only : new.only_self ≡ old.only_self
  pub hides : Hides old.bound new.bound (words (names_of_binds (binds_at ts bs)))
  pub meets : (xs : List Word) → Binds old.bound xs → new.names.items ≡ old.names.items ++ kept old.only_self (used_by_binds (binds_at ts bs) xs)

-- the names of a statement were met, which come before those of the rest of its list
pub record AddsStmt (ts : List Tree) (s : Stmt) (old new : Used) : Type 0 where
  pub these : List Word → List Name
  pub ahead : (rest : Statements) (xs : List Word) → names_in (stmt_at ts s rest) xs ≡ these xs ++ names_in rest xs
  pub adds : Adds old new these
