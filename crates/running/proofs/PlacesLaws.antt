-- What stands for names is that of a routine; and declarations and statements are prepared by it.
use Rattle.std.proofs.Common.{◌≡◌, ℕ, List, [], ◌∷◌, Bool, reverse, cond, Some, None, refl, sym}
use Rattle.tla_token.specs.Signs.{is_among}
use Rattle.tla_tree.specs.Tree.{Word, name, node, no_trees, Graft, graft}
use Rattle.tla_value.specs.Grafts.{owned}
use Rattle.module_tree.specs.Formulas.{self}
use Rattle.pcal_tree.specs.Algorithm.{Start, unset, equals, among, Declaration, declares, locals, Statements, Macro, Routine, Naming}
use Rattle.pcal_tree.specs.Expand.{graft_all, expanded}
use Rattle.pcal_tree.specs.Program.{Program}
use Rattle.action_builder.specs.WrittenNames.{renames}
use Rattle.action_builder.specs.OwnVariables.{is_own_variable}
use Rattle.prime_subst.specs.Readers.{renames_of}
use Rattle.running.specs.Prepared.{graft_start, graft_declarations}
use Rattle.step_walks.specs.WrittenFlows.{own_statements}
use Rattle.step_moves.specs.Prepared.{prepared_start, prepared_declarations}

-- ---- the grafts

pub names_alike : (ks : List Word) (f : Naming) (n : ℕ) (P : Program) (u : Routine) → f ≡ P.naming → u.number ≡ n → ((x : Word) → is_among ks x ≡ declares (locals u) x)
    → renames_of (is_among ks) (f.local n) ≡ renames P u
names_alike ks f n P u e m h = λ j x at. cond (h x j) (Some (node (name ((e j).local (sym m j) x)) at no_trees)) None

pub own_alike : (this : Word) (A : Word → Bool) (P : Program) → this ≡ self → ((x : Word) → A x ≡ is_own_variable P x) → owned this A ≡ owned self (is_own_variable P)
own_alike this A P e h = λ j. owned (e j) (λ x. h x j)

-- ---- what is made by them

module _ (g h : Graft) (P : Program) (u : Routine) (names : g ≡ renames P u) (own : h ≡ owned self (is_own_variable P)) where
  start_prepared : (d : Start) → graft_start h (graft_start g d) ≡ prepared_start P u d
  start_prepared unset = refl
  start_prepared (equals e) = λ j. equals (graft (own j) (graft (names j) e))
  start_prepared (among e) = λ j. among (graft (own j) (graft (names j) e))

  pub declarations_prepared : (ds : List Declaration) → graft_declarations h (graft_declarations g ds) ≡ prepared_declarations P u ds
  declarations_prepared [] = refl
  declarations_prepared (d ∷ ds) = λ j. record { name = d.name; start = start_prepared d.start j } ∷ declarations_prepared ds j

  pub statements_prepared : (ms : List Macro) → ms ≡ P.algorithm.macros → (ss : Statements) → graft_all h (graft_all g (expanded (reverse ms) ss)) ≡ own_statements P u ss
  statements_prepared ms e ss = λ j. graft_all (own j) (graft_all (names j) (expanded (reverse (e j)) ss))
