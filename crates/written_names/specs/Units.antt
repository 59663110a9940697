-- The written names of routines, one routine after another, and the naming that looks them up.
use Rattle.std.specs.Prelude.{◌≡◌, List, [], ◌∷◌, ◌++◌, map, get_or, unwrap_or}
use Rattle.std.specs.Coded.{Coded, codes}
use Rattle.tla_tree.specs.Tree.{Word, Tree, words}
use Rattle.pcal_tree.specs.declared.algorithm.Stmt.{Stmt}
use Rattle.pcal_tree.specs.InMemory.{stmt_at}
use Rattle.algorithm_limits.specs.LabelNames.{label_names}
use Rattle.pcal_tree.specs.Algorithm.{Name, Procedure, Process, Main, alone, processes, Statements, Algorithm, Naming}
use Rattle.pcal_tree.specs.OffencesLabels.{label_words}
use Rattle.pcal_tree.specs.Variables.{declared}
use Rattle.pcal_tree.specs.Names.{first_free}
use Rattle.written_names.specs.declared.naming.UnitNames.{UnitNames}
use Rattle.written_names.specs.Giving.{taken_after, first_named, Known, Knows, Pairs, found, Gives}

pub unit_code : Coded UnitNames
unit_code = hlevel codes

abbrev pub no_names : UnitNames
no_names = record { title = []; variables = []; labels = [] }

-- units in the order of their numbers
abbrev pub naming_of : List UnitNames → Naming
naming_of us = record {
  local = λ n x. unwrap_or (found (get_or us n no_names).variables x) x;
  label = λ n x. unwrap_or (found (get_or us n no_names).labels x) x;
  title = λ n. (get_or us n no_names).title;
}

-- ---- what wants names

-- the words of a routine that want names: its own, if it has one, those of its variables and those of its labels
pub record Asked : Type 0 where
  pub titles : List Word
  pub variables : List Word
  pub labels : List Word

abbrev pub asked_procedure : Procedure → Asked
asked_procedure p = record { titles = p.name.word ∷ []; variables = declared (p.params ++ p.variables); labels = label_words p.body }

abbrev pub asked_process : Process → Asked
asked_process p = record { titles = p.name.word ∷ []; variables = declared p.variables; labels = label_words p.body }

abbrev pub asked_alone : Statements → Asked
asked_alone b = record { titles = []; variables = []; labels = label_words b }

abbrev pub asked_main : Main → List Asked
asked_main (alone b) = asked_alone b ∷ []
asked_main (processes ps) = map asked_process ps

abbrev pub asked : Algorithm → List Asked
asked a = map asked_procedure a.procedures ++ asked_main a.main

-- ---- names given to them

abbrev pub title_given : List Word → List Word → List Word → Word
title_given extended taken [] = []
title_given extended taken (w ∷ ws) = first_free extended taken w

-- what is taken when a routine has its names
abbrev pub after_unit : List Word → List Word → Asked → List Word
after_unit extended taken q = taken_after extended (taken_after extended (taken_after extended taken q.titles) q.variables) q.labels

abbrev pub after_units : List Word → List Word → List Asked → List Word
after_units extended taken [] = taken
after_units extended taken (q ∷ qs) = after_units extended (after_unit extended taken q) qs

-- its variables and labels have theirs
pub record IsWithin (extended taken vs ls : List Word) (u : UnitNames) : Type 0 where
  pub variables : (x : Word) → found u.variables x ≡ first_named extended taken vs x
  pub labels : (x : Word) → found u.labels x ≡ first_named extended (taken_after extended taken vs) ls x

pub record IsUnit (extended taken : List Word) (q : Asked) (u : UnitNames) : Type 0 where
  pub title : u.title ≡ title_given extended taken q.titles
  pub within : IsWithin extended (taken_after extended taken q.titles) q.variables q.labels u

abbrev pub AreUnits : List Word → List Word → List Asked → List UnitNames → Type 0
AreUnits extended taken [] [] = Unit {0}
AreUnits extended taken (q ∷ qs) (u ∷ us) = IsUnit extended taken q u × AreUnits extended (after_unit extended taken q) qs us
AreUnits extended taken _ _ = ⊥

-- ---- what code leaves

-- these words of a routine got their names
pub record NamesWithin (old new : Known) (vs ls : List Word) (u : UnitNames) : Type 0 where
  pub names : (extended taken : List Word) → Knows old extended taken → IsWithin extended taken vs ls u
  pub known : (extended taken : List Word) → Knows old extended taken → Knows new extended (taken_after extended (taken_after extended taken vs) ls)

-- a routine got its names
pub record NamesUnit (old new : Known) (q : Asked) (u : UnitNames) : Type 0 where
  pub names : (extended taken : List Word) → Knows old extended taken → IsUnit extended taken q u
  pub known : (extended taken : List Word) → Knows old extended taken → Knows new extended (after_unit extended taken q)

-- routines got theirs
pub record NamesUnits (old new : Known) (qs : List Asked) (us : List UnitNames) : Type 0 where
  pub names : (extended taken : List Word) → Knows old extended taken → AreUnits extended taken qs us
  pub known : (extended taken : List Word) → Knows old extended taken → Knows new extended (after_units extended taken qs)

-- the labels of a statement got theirs, which come before those of the rest of its list
pub record NamesStmt (ts : List Tree) (s : Stmt) (old new : Known) (before after : Pairs) : Type 0 where
  pub these : List Name
  pub ahead : (rest : Statements) → label_names (stmt_at ts s rest) ≡ these ++ label_names rest
  pub gives : Gives old new before after (words these)

-- routines got their names, which are behind those of others
pub record AddsUnits (old new : Known) (before after : List UnitNames) (qs : List Asked) : Type 0 where
  pub more : List UnitNames
  pub behind : after ≡ before ++ more
  pub gives : NamesUnits old new qs more
