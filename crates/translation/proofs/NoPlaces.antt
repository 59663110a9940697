-- The written names of an algorithm don't depend on its places: neither the names that are taken nor those that are wanted do.
use Rattle.std.proofs.Common.{◌≡◌, ℕ, suc, ◌+◌, length, List, [], ◌∷◌, ◌++◌, map, Bool, false, refl, ap, ◌∙◌}
use Rattle.std.specs.List.{flat_map}
use Rattle.tla_tree.specs.Tree.{Word, words}
use Rattle.tla_value.specs.Outside.{Outside}
use Rattle.pcal_tree.specs.Algorithm.{Statements, Declaration, Definition, Macro, Procedure, Process, Main, alone, processes, Algorithm, procedure_routine, process_routine, numbered, main_routines, first_process, first_procedure}
use Rattle.pcal_tree.specs.BoundNames.{all_of, bound_lists}
use Rattle.pcal_tree.specs.Names.{kept, taken_outside, Want, wants, title, variable, label, wanted_by, wanted_by_main, wanted, give, naming_by, naming}
use Rattle.pcal_tree.specs.OffencesLabels.{Label, labels}
use Rattle.pcal_tree.specs.Placeless.{statements_placeless, declarations_placeless, definitions_placeless, macros_placeless, procedures_placeless, processes_placeless, main_placeless, placeless}
use Rattle.pcal_tree.specs.Variables.{pc, stack_for, declared, written_by_all, vars}
use Rattle.action_builder.specs.WrittenNames.{with_names}
use Rattle.translation.proofs.BareNames.{each_same, words_bare, all_bare, declarations_joined, bound_bare, label_placeless, labels_bare}

-- ---- declared names

pub declared_bare : (ds : List Declaration) → declared (declarations_placeless ds) ≡ declared ds
declared_bare [] = refl
declared_bare (d ∷ ds) = λ i. d.name.word ∷ declared_bare ds i

-- ---- names that are kept

bound_words : (a : Algorithm) → words (all_of (bound_lists (placeless a))) ≡ words (all_of (bound_lists a))
bound_words a = ap words (ap all_of (bound_bare a) ∙ all_bare (bound_lists a)) ∙ words_bare (all_of (bound_lists a))

definition_names_bare : (ds : List Definition) → flat_map (λ (d : Definition). d.name.word ∷ words d.params) (definitions_placeless ds) ≡ flat_map (λ (d : Definition). d.name.word ∷ words d.params) ds
definition_names_bare [] = refl
definition_names_bare (d ∷ ds) = λ i. d.name.word ∷ (words_bare d.params i ++ definition_names_bare ds i)

macro_names_bare : (ms : List Macro) → flat_map (λ (d : Macro). words d.params) (macros_placeless ms) ≡ flat_map (λ (d : Macro). words d.params) ms
macro_names_bare [] = refl
macro_names_bare (d ∷ ms) = λ i. words_bare d.params i ++ macro_names_bare ms i

pub kept_bare : (a : Algorithm) → kept (placeless a) ≡ kept a
kept_bare a = λ i. declared_bare a.globals i ++ (definition_names_bare a.definitions i ++ (macro_names_bare a.macros i ++ bound_words a i))

-- ---- names that are wanted

pub all_labels : (l : Bool) (b : Statements) → map (λ (k : Label). k.name.word) (labels l (statements_placeless b)) ≡ map (λ (k : Label). k.name.word) (labels l b)
all_labels l b = ap (map (λ (k : Label). k.name.word)) (labels_bare l b) ∙ each_same label_placeless (λ k. k.name.word) (λ k. k.name.word) (λ k. refl) (labels l b)

-- the wants of a routine by its names
abbrev wants_of : ℕ → List Word → List Word → List Want
wants_of n vs ls = wants n variable vs ++ wants n label ls

procedure_wants : (n : ℕ) (ps : List Procedure) → flat_map wanted_by (numbered procedure_routine n (procedures_placeless ps)) ≡ flat_map wanted_by (numbered procedure_routine n ps)
procedure_wants n [] = refl
procedure_wants n (p ∷ ps) =
    let vs : declared (declarations_placeless p.params ++ declarations_placeless p.variables) ≡ declared (p.params ++ p.variables) = ap declared (declarations_joined p.params p.variables) ∙ declared_bare (p.params ++ p.variables) in
    λ i. (record { unit = n; role = title; word = p.name.word } ∷ wants_of n (vs i) (all_labels false p.body i)) ++ procedure_wants (suc n) ps i

process_wants : (n : ℕ) (ps : List Process) → flat_map wanted_by (numbered process_routine n (processes_placeless ps)) ≡ flat_map wanted_by (numbered process_routine n ps)
process_wants n [] = refl
process_wants n (p ∷ ps) =
    λ i. (record { unit = n; role = title; word = p.name.word } ∷ wants_of n (declared_bare p.variables i) (all_labels false p.body i)) ++ process_wants (suc n) ps i

pub as_many_macros : (ms : List Macro) → length (macros_placeless ms) ≡ length ms
as_many_macros [] = refl
as_many_macros (m ∷ ms) = ap suc (as_many_macros ms)

pub as_many_procedures : (ps : List Procedure) → length (procedures_placeless ps) ≡ length ps
as_many_procedures [] = refl
as_many_procedures (p ∷ ps) = ap suc (as_many_procedures ps)

pub first_process_bare : (a : Algorithm) → first_process (placeless a) ≡ first_process a
first_process_bare a = λ i. as_many_macros a.macros i + as_many_procedures a.procedures i

main_wants : (a : Algorithm) (m : Main) → wanted_by_main (placeless a) (main_placeless m) ≡ wanted_by_main a m
main_wants a (alone b) = λ i. wants_of (first_process_bare a i) [] (all_labels false b i) ++ []
main_wants a (processes ps) =
    ap (λ (n : ℕ). flat_map wanted_by (numbered process_routine n (processes_placeless ps))) (first_process_bare a) ∙ process_wants (first_process a) ps

pub wanted_bare : (a : Algorithm) → wanted (placeless a) ≡ wanted a
wanted_bare a =
    let first = ap (λ (n : ℕ). flat_map wanted_by (numbered procedure_routine n (procedures_placeless a.procedures))) (as_many_macros a.macros) ∙ procedure_wants (first_procedure a) a.procedures in
    λ i. first i ++ main_wants a a.main i

pub naming_bare : (o : Outside) (a : Algorithm) → naming (placeless a) o ≡ naming a o
naming_bare o a = λ i. naming_by (give o.extended (taken_outside o ++ kept_bare a i) (wanted_bare a i))

-- ---- the variables

procedures_written : (o : Outside) (a : Algorithm) (n : ℕ) (ps : List Procedure)
    → written_by_all (with_names o (placeless a)) (numbered procedure_routine n (procedures_placeless ps)) ≡ written_by_all (with_names o a) (numbered procedure_routine n ps)
procedures_written o a n [] = refl
procedures_written o a n (p ∷ ps) =
    let vs : declared (declarations_placeless p.params ++ declarations_placeless p.variables) ≡ declared (p.params ++ p.variables) = ap declared (declarations_joined p.params p.variables) ∙ declared_bare (p.params ++ p.variables) in
    λ i. map ((naming_bare o a i).local n) (vs i) ++ procedures_written o a (suc n) ps i

processes_written : (o : Outside) (a : Algorithm) (n : ℕ) (ps : List Process)
    → written_by_all (with_names o (placeless a)) (numbered process_routine n (processes_placeless ps)) ≡ written_by_all (with_names o a) (numbered process_routine n ps)
processes_written o a n [] = refl
processes_written o a n (p ∷ ps) = λ i. map ((naming_bare o a i).local n) (declared_bare p.variables i) ++ processes_written o a (suc n) ps i

main_written : (o : Outside) (a : Algorithm) (m : Main)
    → written_by_all (with_names o (placeless a)) (main_routines (placeless a) (main_placeless m)) ≡ written_by_all (with_names o a) (main_routines a m)
main_written o a (alone b) = refl
main_written o a (processes ps) =
    ap (λ (n : ℕ). written_by_all (with_names o (placeless a)) (numbered process_routine n (processes_placeless ps))) (first_process_bare a)
    ∙ processes_written o a (first_process a) ps

stack_bare : (n m : ℕ) (ps : List Procedure) → stack_for (numbered procedure_routine n (procedures_placeless ps)) ≡ stack_for (numbered procedure_routine m ps)
stack_bare n m [] = refl
stack_bare n m (p ∷ ps) = refl

pub variables_bare : (o : Outside) (a : Algorithm) → vars (with_names o (placeless a)) ≡ vars (with_names o a)
variables_bare o a =
    let procedures =
    ap (λ (n : ℕ). written_by_all (with_names o (placeless a)) (numbered procedure_routine n (procedures_placeless a.procedures))) (as_many_macros a.macros)
    ∙ procedures_written o a (first_procedure a) a.procedures in
    λ i. declared_bare a.globals i ++ (pc ∷ stack_bare (first_procedure (placeless a)) (first_procedure a) a.procedures i) ++ procedures i ++ main_written o a a.main i
