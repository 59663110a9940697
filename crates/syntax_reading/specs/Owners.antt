-- Whose list of statements it is that is read, with what was read before it ("A PlusCal User's Manual", section 3).
use Rattle.std.specs.Prelude.{List, [], ◌∷◌, ◌++◌}
use Rattle.tla_token.specs.declared.place.Place.{Place}
use Rattle.tla_tree.specs.Tree.{Name}
use Rattle.pcal_tree.specs.GrammarParts.{Section, MacroParameters, ProcedureParameters}
use Rattle.pcal_tree.specs.Grammar.{Macro, Procedure, Fair, Identity, Process, Main, processes}

-- the macros, procedures and processes in front of it, and its own part up to its `begin` or `{`
pub data Owner : Type 0 where
  in_macro : List Macro → Place → Name → MacroParameters → Place → Owner
  in_procedure : List Macro → List Procedure → Place → Name → ProcedureParameters → Section → Place → Owner
  in_process : List Macro → List Procedure → List Process → Fair → Place → Identity → Section → Place → Owner
  in_main : List Macro → List Procedure → Place → Owner

-- a process with those before it and those after it
abbrev pub main_of : List Process → Process → List Process → Main
main_of [] x xs = processes x xs
main_of (y ∷ ys) x xs = processes y (ys ++ x ∷ xs)
