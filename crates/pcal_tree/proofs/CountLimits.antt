-- Where nothing offends against the limits of counts, counts are within them.
use Rattle.std.proofs.Common.{◌≡◌, false, ℕ, suc, ◌+◌, ◌-◌, ◌≤◌, List, [], ◌∷◌, ◌++◌, length, drop, refl, sym, ap, ◌∙◌, arith, length-append}
use Rattle.std.specs.List.{flat_map}
use Rattle.std.proofs.lemmas.List.{append-nil, length-drop, length-map}
use Rattle.std.proofs.lemmas.Grind.{flat_map-append}
use Rattle.tla_tree.specs.Tree.{Word}
use Rattle.tla_token.specs.Limits.{most_variables, most_processes, most_procedures, most_labels}
use Rattle.pcal_tree.specs.Algorithm.{Name, Statements, Routine, locals, Macro, Main, alone, processes, Algorithm, routines, procedure_routines, main_routines, numbered, first_procedure, first_process, procedure_routine, process_routine, Procedure, Process}
use Rattle.pcal_tree.specs.Variables.{declared}
use Rattle.pcal_tree.specs.Names.{Role, variable, label, wants, wanted, wanted_by, wanted_within, wanted_by_main}
use Rattle.pcal_tree.specs.OffencesNames.{names_of, process_names}
use Rattle.pcal_tree.specs.OffencesLabels.{Label, labels, label_words, labels_of_main, all_labels}
use Rattle.pcal_tree.specs.OffencesCounts.{variable_names, procedure_names, all_label_names, at_first_name, first_past, count_offences}
use Rattle.pcal_tree.proofs.ClearLabels.{both_none}

none_first : (xs : List Name) → at_first_name xs ≡ [] → xs ≡ []
none_first [] h = refl
none_first (x ∷ xs) h = absurd cc

none_past : (n : ℕ) (xs : List Name) → first_past n xs ≡ [] → length xs ≤ n
none_past n xs h =
    let none : length xs - n ≡ 0 = sym (length-drop n xs) ∙ ap (λ (ys : List Name). length ys) (none_first (drop n xs) h) in
    omega arith

parts : (a : Algorithm) → count_offences a ≡ [] → (first_past most_variables (variable_names a) ≡ []) × (first_past most_processes (process_names a.main) ≡ []) × (first_past most_procedures (procedure_names a) ≡ []) × (first_past most_labels (all_label_names a) ≡ [])
parts a h =
    let v = both_none (first_past most_variables (variable_names a)) _ h in
    let p = both_none (first_past most_processes (process_names a.main)) _ v.1 in
    let q = both_none (first_past most_procedures (procedure_names a)) _ p.1 in
    let l = both_none (first_past most_labels (all_label_names a)) _ q.1 in
    (v.0, p.0, q.0, l.0)

pub few_variables : (a : Algorithm) → count_offences a ≡ [] → length (variable_names a) ≤ most_variables
few_variables a h = none_past most_variables (variable_names a) (parts a h).0

pub few_processes : (a : Algorithm) → count_offences a ≡ [] → length (process_names a.main) ≤ most_processes
few_processes a h = none_past most_processes (process_names a.main) (parts a h).1

pub few_procedures : (a : Algorithm) → count_offences a ≡ [] → length (procedure_names a) ≤ most_procedures
few_procedures a h = none_past most_procedures (procedure_names a) (parts a h).2

pub few_labels : (a : Algorithm) → count_offences a ≡ [] → length (all_label_names a) ≤ most_labels
few_labels a h = none_past most_labels (all_label_names a) (parts a h).3

-- ---- names that want a written one

abbrev variables_of : List Routine → ℕ
variables_of us = length (flat_map (λ (u : Routine). names_of (locals u)) us)

abbrev labels_of : List Routine → ℕ
labels_of us = length (flat_map (λ (u : Routine). labels false u.body) us)

pub wants_count : (n : ℕ) (r : Role) (ws : List Word) → length (wants n r ws) ≡ length ws
wants_count n r ws = length-map ws (λ (w : Word). record { unit = n; role = r; word = w })

within_count : (u : Routine) → length (wanted_within u) ≡ length (names_of (locals u)) + length (labels false u.body)
within_count u =
    let w = length-append (wants u.number variable (declared (locals u))) (wants u.number label (label_words u.body)) in
    let v = wants_count u.number variable (declared (locals u)) in
    let l = wants_count u.number label (label_words u.body) in
    let vs = length-map (locals u) (λ d. d.name.word) in
    let vn = length-map (locals u) (λ d. d.name) in
    let ls = length-map (labels false u.body) (λ k. k.name.word) in
    omega arith

-- of bodies without a name, and of those with one
all_within : (us : List Routine) → length (flat_map wanted_within us) ≡ variables_of us + labels_of us
all_within [] = refl
all_within (u ∷ us) =
    let h = all_within us in
    let k = within_count u in
    let w = length-append (wanted_within u) (flat_map wanted_within us) in
    let v = length-append (names_of (locals u)) (flat_map (λ (r : Routine). names_of (locals r)) us) in
    let l = length-append (labels false u.body) (flat_map (λ (r : Routine). labels false r.body) us) in
    omega arith

all_by : (us : List Routine) → length (flat_map wanted_by us) ≡ length us + (variables_of us + labels_of us)
all_by [] = refl
all_by (u ∷ us) =
    let h = all_by us in
    let k = within_count u in
    let w = length-append (wanted_by u) (flat_map wanted_by us) in
    let v = length-append (names_of (locals u)) (flat_map (λ (r : Routine). names_of (locals r)) us) in
    let l = length-append (labels false u.body) (flat_map (λ (r : Routine). labels false r.body) us) in
    omega arith

numbered_count : {A B : Type 0} (f : ℕ → A → B) (n : ℕ) (xs : List A) → length (numbered f n xs) ≡ length xs
numbered_count f n [] = refl
numbered_count f n (x ∷ xs) = ap suc (numbered_count f (suc n) xs)

main_count : (a : Algorithm) (m : Main) → length (wanted_by_main a m) ≤ length (process_names m) + (variables_of (main_routines a m) + labels_of (main_routines a m))
main_count a (alone b) = (let h = all_within (main_routines a (alone b)) in omega arith)
main_count a (processes ps) =
    let h = all_by (main_routines a (processes ps)) in
    let k = numbered_count process_routine (first_process a) ps in
    let l = length-map ps (λ (p : Process). p.name) in
    omega arith

-- the labels of routines are those of what they are made of
numbered_labels : {X : Type 0} (f : ℕ → X → Routine) (b : X → Statements) → ((n : ℕ) (x : X) → (f n x).body ≡ b x) → (n : ℕ) (xs : List X)
    → flat_map (λ x. labels false (b x)) xs ≡ flat_map (λ (u : Routine). labels false u.body) (numbered f n xs)
numbered_labels f b same n [] = refl
numbered_labels f b same n (x ∷ xs) = λ i. labels false (sym (same n x) i) ++ numbered_labels f b same (suc n) xs i

main_labels : (a : Algorithm) (m : Main) → labels_of_main m ≡ flat_map (λ (u : Routine). labels false u.body) (main_routines a m)
main_labels a (alone b) = sym (append-nil (labels false b))
main_labels a (processes ps) = numbered_labels process_routine (λ p. p.body) (λ n p. refl) (first_process a) ps

pub few_wanted : (a : Algorithm) → count_offences a ≡ [] → length (wanted a) ≤ most_procedures + most_processes + most_variables + most_labels
few_wanted a h =
    let ps = procedure_routines a in
    let ms = main_routines a a.main in
    let w = length-append (flat_map wanted_by ps) (wanted_by_main a a.main) in
    let p = all_by ps in
    let n = numbered_count procedure_routine (first_procedure a) a.procedures in
    let l = length-map a.procedures (λ (q : Procedure). q.name) in
    let m = main_count a a.main in
    let vs = length-append (names_of a.globals) (flat_map (λ (u : Routine). names_of (locals u)) (routines a)) in
    let vr = ap (λ (xs : List Name). length xs) (flat_map-append (λ (u : Routine). names_of (locals u)) ps ms) ∙ length-append (flat_map (λ (u : Routine). names_of (locals u)) ps) (flat_map (λ (u : Routine). names_of (locals u)) ms) in
    let ln = length-map (all_labels a) (λ k. k.name) in
    let ls = length-append (flat_map (λ (d : Macro). labels false d.body) a.macros) (flat_map (λ (q : Procedure). labels false q.body) a.procedures ++ labels_of_main a.main) in
    let lr = length-append (flat_map (λ (q : Procedure). labels false q.body) a.procedures) (labels_of_main a.main) in
    let lp = ap (λ (ks : List Label). length ks) (numbered_labels procedure_routine (λ q. q.body) (λ n q. refl) (first_procedure a) a.procedures) in
    let lm = ap (λ (ks : List Label). length ks) (main_labels a a.main) in
    let fv = few_variables a h in
    let fp = few_processes a h in
    let fq = few_procedures a h in
    let fl = few_labels a h in
    omega arith
