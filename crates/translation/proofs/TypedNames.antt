-- The names that want a written one in an algorithm that has what its text gives are identifiers, so none begins with WF or SF and an underscore.
use Rattle.std.proofs.Common.{◌≡◌, ℕ, suc, List, [], ◌∷◌, map, Bool, true, false}
use Rattle.std.specs.List.{AllByRecursion, flat_map}
use Rattle.tla_token.specs.Words.{begins_fairness}
use Rattle.tla_tree.specs.Tree.{Word}
use Rattle.tla_tree.specs.laws.Writable.{IsIdentifier}
use Rattle.pcal_tree.specs.Algorithm.{Statement, assign, await, print, assert, skip, branch, either, with, while, goto, macro, call, return, Statements, done, then, mark, Branches, no_branches, or, Declaration, Procedure, Process, Main, alone, processes, Routine, locals, procedure_routine, process_routine, alone_routine, numbered, first_procedure, first_process, procedure_routines, Algorithm}
use Rattle.pcal_tree.specs.Names.{Role, variable, label, Want, wants, wanted_within, wanted_by, wanted_by_main, wanted}
use Rattle.pcal_tree.specs.OffencesLabels.{Label, labels_of_one, labels, labels_of_some, label_words}
use Rattle.pcal_tree.specs.Variables.{declared}
use Rattle.pcal_tree.specs.laws.Apart.{AreNames}
use Rattle.pcal_tree.proofs.FreeNames.{every_map}
use Rattle.pcal_tree.proofs.OneStand.{every_both}
use Rattle.translation.specs.laws.WritableAlgorithm.{IsWritableDeclaration}
use Rattle.translation.specs.laws.TypedAlgorithm.{IsTypedStatement, AreTypedStatements, AreTypedBranches, IsTypedProcedure, IsTypedProcess, IsTypedMain, IsTypedAlgorithm}
use Rattle.translation.proofs.WrittenIdentifiers.{no_fairness}

-- ---- labels

abbrev IsNamed : Label → Type 0
IsNamed l = IsIdentifier l.name.word

mutual
  one_labels : (st : Statement) → IsTypedStatement st → AllByRecursion IsNamed (labels_of_one st)
  one_labels (branch e a b) h = every_both IsNamed (labels false a) (labels false b) (all_labels false a h.1) (all_labels false b h.2)
  one_labels (either no_branches) h = tt
  one_labels (either (or b bs)) h = every_both IsNamed (labels false b) (labels_of_some bs) (all_labels false b h.0) (some_labels bs h.1)
  one_labels (with bs b) h = all_labels false b h.1
  one_labels (while e b) h = all_labels false b h.1
  one_labels (assign ms) h = tt
  one_labels (await e) h = tt
  one_labels (print e) h = tt
  one_labels (assert e) h = tt
  one_labels skip h = tt
  one_labels (goto l) h = tt
  one_labels (macro m ts) h = tt
  one_labels (call p ts) h = tt
  one_labels return h = tt

  all_labels : (l : Bool) (b : Statements) → AreTypedStatements b → AllByRecursion IsNamed (labels l b)
  all_labels l done h = tt
  all_labels l (then at st rest) h = every_both IsNamed (labels_of_one st) (labels false rest) (one_labels st h.0) (all_labels false rest h.1)
  all_labels l (mark n k rest) h = (h.0, all_labels true rest h.1)

  some_labels : (bs : Branches) → AreTypedBranches bs → AllByRecursion IsNamed (labels_of_some bs)
  some_labels no_branches h = tt
  some_labels (or b bs) h = every_both IsNamed (labels false b) (labels_of_some bs) (all_labels false b h.0) (some_labels bs h.1)

-- ---- routines

abbrev IsWanted : Want → Type 0
IsWanted w = IsIdentifier w.word

wants_named : (n : ℕ) (r : Role) (ws : List Word) → AllByRecursion IsIdentifier ws → AllByRecursion IsWanted (wants n r ws)
wants_named n r [] h = tt
wants_named n r (w ∷ ws) h = (h.0, wants_named n r ws h.1)

words_named : (ls : List Label) → AllByRecursion IsNamed ls → AllByRecursion IsIdentifier (map (λ (l : Label). l.name.word) ls)
words_named [] h = tt
words_named (l ∷ ls) h = (h.0, words_named ls h.1)

declared_named : (ds : List Declaration) → AllByRecursion IsWritableDeclaration ds → AllByRecursion IsIdentifier (declared ds)
declared_named [] h = tt
declared_named (d ∷ ds) h = (h.0.0, declared_named ds h.1)

within_named : (u : Routine) → AllByRecursion IsWritableDeclaration (locals u) → AreTypedStatements u.body → AllByRecursion IsWanted (wanted_within u)
within_named u h k =
    every_both IsWanted (wants u.number variable (declared (locals u))) (wants u.number label (label_words u.body))
    (wants_named u.number variable (declared (locals u)) (declared_named (locals u) h))
    (wants_named u.number label (label_words u.body) (words_named (labels false u.body) (all_labels false u.body k)))

procedures_named : (n : ℕ) (ps : List Procedure) → AllByRecursion IsTypedProcedure ps → AllByRecursion IsWanted (flat_map wanted_by (numbered procedure_routine n ps))
procedures_named n [] h = tt
procedures_named n (p ∷ ps) h =
    every_both IsWanted (wanted_by (procedure_routine n p)) (flat_map wanted_by (numbered procedure_routine (suc n) ps))
    (h.0.0, within_named (procedure_routine n p) (every_both IsWritableDeclaration p.params p.variables h.0.1 h.0.2) h.0.3.1) (procedures_named (suc n) ps h.1)

processes_named : (n : ℕ) (ps : List Process) → AllByRecursion IsTypedProcess ps → AllByRecursion IsWanted (flat_map wanted_by (numbered process_routine n ps))
processes_named n [] h = tt
processes_named n (p ∷ ps) h =
    every_both IsWanted (wanted_by (process_routine n p)) (flat_map wanted_by (numbered process_routine (suc n) ps))
    (h.0.0, within_named (process_routine n p) h.0.2 h.0.3.1) (processes_named (suc n) ps h.1)

main_named : (a : Algorithm) (m : Main) → IsTypedMain m → AllByRecursion IsWanted (wanted_by_main a m)
main_named a (alone b) h = every_both IsWanted (wanted_within (alone_routine a b)) [] (within_named (alone_routine a b) tt h.1) tt
main_named a (processes []) h = absurd h
main_named a (processes (p ∷ ps)) h = processes_named (first_process a) (p ∷ ps) h

pub typed_names : (a : Algorithm) → IsTypedAlgorithm a → AreNames a
typed_names a h =
    every_map IsWanted (λ w. begins_fairness w.word ≡ false) (λ w k. no_fairness w.word k) (wanted a)
    (every_both IsWanted (flat_map wanted_by (procedure_routines a)) (wanted_by_main a a.main) (procedures_named (first_procedure a) a.procedures h.procedures) (main_named a a.main h.main))
