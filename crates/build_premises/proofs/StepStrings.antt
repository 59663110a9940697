-- Each step of a body that can be written begins with statements that can be written, and its label and its exit can be written as strings.
use Rattle.std.proofs.Common.{List, Bool, refl}
use Rattle.std.specs.List.{AllByRecursion}
use Rattle.tla_tree.specs.Tree.{Word}
use Rattle.tla_tree.specs.laws.Writable.{IsString}
use Rattle.pcal_tree.specs.Algorithm.{Statement, assign, await, print, assert, skip, branch, either, with, while, goto, macro, call, return, Statements, done, then, mark, Branches, no_branches, or}
use Rattle.pcal_tree.specs.Run.{unlabelled, label_of}
use Rattle.action_builder.proofs.FitJumps.{identifier_string}
use Rattle.step_forms.specs.Steps.{Step, steps_in, steps, steps_some}
use Rattle.step_forms.proofs.Words.{every_both}
use Rattle.translation.specs.laws.WritableAlgorithm.{IsWritableStatement, AreWritableStatements, AreWritableBranches}

-- C: the procedures; V: the variables that may be assigned
pub record IsWritableStep (C V : Word → Bool) (s : Step) : Type 0 where
  pub label : IsString s.label
  pub exit : IsString s.begins.exit
  pub items : AreWritableStatements C V s.begins.items

module _ (C V : Word → Bool) where
  abbrev Each : List Step → Type 0
  Each xs = AllByRecursion (IsWritableStep C V) xs

  label_string : (rest : Statements) (x : Word) → AreWritableStatements C V rest → IsString x → IsString (label_of rest x)
  label_string done x h s = s
  label_string (then at st rest) x h s = refl
  label_string (mark l k rest) x h s = identifier_string l.word h.0

  mutual
    one_written : (here : Word) (st : Statement) (x : Word) → IsString here → IsString x → IsWritableStatement C V st → Each (steps_in here st x)
    one_written here (branch e a b) x i s h =
        every_both (IsWritableStep C V) (steps unlabelled a x) (steps unlabelled b x) (steps_written unlabelled a x refl s h.1) (steps_written unlabelled b x refl s h.2)
    one_written here (either no_branches) x i s h = absurd h
    one_written here (either (or b bs)) x i s h =
        every_both (IsWritableStep C V) (steps unlabelled b x) (steps_some bs x) (steps_written unlabelled b x refl s h.0) (some_written bs x s h.1)
    one_written here (with bs b) x i s h = steps_written unlabelled b x refl s h.1
    one_written here (while e b) x i s h = steps_written unlabelled b here refl i h.1
    one_written here (assign ms) x i s h = tt
    one_written here (await e) x i s h = tt
    one_written here (print e) x i s h = tt
    one_written here (assert e) x i s h = tt
    one_written here skip x i s h = tt
    one_written here (goto l) x i s h = tt
    one_written here (macro m ts) x i s h = tt
    one_written here (call p ts) x i s h = tt
    one_written here return x i s h = tt

    pub steps_written : (here : Word) (ss : Statements) (x : Word) → IsString here → IsString x → AreWritableStatements C V ss → Each (steps here ss x)
    steps_written here done x i s h = tt
    steps_written here (then at st rest) x i s h =
        every_both (IsWritableStep C V) (steps_in here st (label_of rest x)) (steps unlabelled rest x) (one_written here st (label_of rest x) i (label_string rest x h.1 s) h.0) (steps_written unlabelled rest x refl s h.1)
    steps_written here (mark l k rest) x i s h =
        let n = identifier_string l.word h.0 in
        (record { label = n; exit = s; items = h.1 }, steps_written l.word rest x n s h.1)

    some_written : (bs : Branches) (x : Word) → IsString x → AreWritableBranches C V bs → Each (steps_some bs x)
    some_written no_branches x s h = tt
    some_written (or b bs) x s h = every_both (IsWritableStep C V) (steps unlabelled b x) (steps_some bs x) (steps_written unlabelled b x refl s h.0) (some_written bs x s h.1)
