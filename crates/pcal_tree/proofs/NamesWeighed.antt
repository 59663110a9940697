-- The names that an algorithm keeps, and those that want a written one, are no more than what is declared, bound and labelled in it.
use Rattle.std.proofs.Common.{◌≡◌, ℕ, suc, ◌+◌, ◌≤◌, List, [], ◌∷◌, ◌++◌, length, Bool, true, false, refl, ap, ◌∙◌, arith, length-append}
use Rattle.std.specs.List.{flat_map}
use Rattle.std.proofs.lemmas.List.{length-map}
use Rattle.std.proofs.lemmas.Grind.{flat_map-append}
use Rattle.tla_tree.specs.Tree.{Name, words, Tree, node, Trees, no_trees, tree}
use Rattle.pcal_tree.specs.Algorithm.{Assignments, no_assignments, assignment, Binds, no_binds, one_of, is, Statement, assign, await, print, assert, skip, branch, either, with, while, goto, macro, call, return, Statements, done, then, mark, Branches, no_branches, or, Start, unset, equals, among, Declaration, Definition, Macro, Procedure, Process, Main, alone, processes, Routine, locals, procedure_routine, process_routine, alone_routine, numbered, first_procedure, first_process, procedure_routines, Algorithm}
use Rattle.pcal_tree.specs.BoundNames.{Lists, all_of, lists_of, lists_in, lists_in_all, lists_in_assignments, names_of_binds, lists_in_binds, lists_in_one, lists_in_body, lists_in_branches, lists_in_start, lists_in_declared, lists_in_procedure, lists_in_process, lists_in_main, bound_lists}
use Rattle.pcal_tree.specs.Grammar.{Text, spell, algorithm_of}
use Rattle.pcal_tree.specs.Names.{variable, label, wants, kept, wanted_within, wanted_by, wanted_by_main, wanted}
use Rattle.pcal_tree.specs.OffencesLabels.{Label, labels_of_one, labels, labels_of_some, label_words}
use Rattle.pcal_tree.specs.Variables.{declared}
use Rattle.pcal_tree.proofs.BoundTokens.{count_in, count_in_all}
use Rattle.pcal_tree.proofs.TokenWeights.{assignments_weight, binds_weight, inner_weight, body_weight, branches_weight, start_weight, declared_weight, definitions_weight, macros_weight, procedures_weight, processes_weight, main_weight, weight, weight_of_text}
use Rattle.pcal_tree.proofs.CountLimits.{wants_count}

-- ---- names of lists

abbrev Many : Lists → ℕ
Many xss = length (all_of xss)

many_both : (xss yss : Lists) → Many (xss ++ yss) ≡ Many xss + Many yss
many_both xss yss = ap (λ (ns : List Name). length ns) (flat_map-append (λ (xs : List Name). xs) xss yss) ∙ length-append (all_of xss) (all_of yss)

many_first : (xs : List Name) (xss : Lists) → Many (xs ∷ xss) ≡ length xs + Many xss
many_first xs xss = length-append xs (all_of xss)

-- ---- expressions

mutual
  pub many_in : (t : Tree) → Many (lists_in t) ≡ count_in t
  many_in (node m at ts) = many_both (lists_of m) (lists_in_all ts) ∙ ap (λ (n : ℕ). Many (lists_of m) + n) (many_in_all ts)

  many_in_all : (ts : Trees) → Many (lists_in_all ts) ≡ count_in_all ts
  many_in_all no_trees = refl
  many_in_all (tree t ts) = many_both (lists_in t) (lists_in_all ts) ∙ (λ i. many_in t i + many_in_all ts i)

-- ---- statements

assigned : (ms : Assignments) → Many (lists_in_assignments ms) ≡ assignments_weight ms
assigned no_assignments = refl
assigned (assignment l e ms) =
    let a = many_both (lists_in l) (lists_in e ++ lists_in_assignments ms) in
    let b = many_both (lists_in e) (lists_in_assignments ms) in
    let u = many_in l in
    let v = many_in e in
    let w = assigned ms in
    omega arith

named : (bs : Binds) → length (names_of_binds bs) + Many (lists_in_binds bs) ≡ binds_weight bs
named no_binds = refl
named (one_of x e bs) =
    let a = many_both (lists_in e) (lists_in_binds bs) in
    let u = many_in e in
    let w = named bs in
    omega arith
named (is x e bs) =
    let a = many_both (lists_in e) (lists_in_binds bs) in
    let u = many_in e in
    let w = named bs in
    omega arith

mutual
  in_one : (st : Statement) → Many (lists_in_one st) + length (labels_of_one st) ≤ inner_weight st
  in_one (assign ms) = (let u = assigned ms in omega arith)
  in_one (await e) = (let u = many_in e in omega arith)
  in_one (print e) = (let u = many_in e in omega arith)
  in_one (assert e) = (let u = many_in e in omega arith)
  in_one skip = omega arith
  in_one (branch e a b) =
      let f = many_both (lists_in e) (lists_in_body a ++ lists_in_body b) in
      let g = many_both (lists_in_body a) (lists_in_body b) in
      let h = length-append (labels false a) (labels false b) in
      let u = many_in e in
      let v = in_body false a in
      let w = in_body false b in
      omega arith
  in_one (either bs) = in_some bs
  in_one (with bs b) =
      let f = many_first (names_of_binds bs) (lists_in_binds bs ++ lists_in_body b) in
      let g = many_both (lists_in_binds bs) (lists_in_body b) in
      let u = named bs in
      let v = in_body false b in
      omega arith
  in_one (while e b) =
      let f = many_both (lists_in e) (lists_in_body b) in
      let u = many_in e in
      let v = in_body false b in
      omega arith
  in_one (goto l) = omega arith
  in_one (macro m ts) = (let u = many_in_all ts in omega arith)
  in_one (call q ts) = (let u = many_in_all ts in omega arith)
  in_one return = omega arith

  in_body : (l : Bool) (b : Statements) → Many (lists_in_body b) + length (labels l b) ≤ body_weight b
  in_body l done = omega arith
  in_body l (then at st rest) =
      let f = many_both (lists_in_one st) (lists_in_body rest) in
      let g = length-append (labels_of_one st) (labels false rest) in
      let u = in_one st in
      let v = in_body false rest in
      omega arith
  in_body l (mark n k rest) = (let u = in_body true rest in omega arith)

  in_some : (bs : Branches) → Many (lists_in_branches bs) + length (labels_of_some bs) ≤ branches_weight bs
  in_some no_branches = omega arith
  in_some (or b bs) =
      let f = many_both (lists_in_body b) (lists_in_branches bs) in
      let g = length-append (labels false b) (labels_of_some bs) in
      let u = in_body false b in
      let v = in_some bs in
      omega arith

-- ---- declarations

in_start : (s : Start) → Many (lists_in_start s) ≡ start_weight s
in_start unset = refl
in_start (equals e) = many_in e
in_start (among e) = many_in e

in_declared : (ds : List Declaration) → Many (lists_in_declared ds) + length ds ≡ declared_weight ds
in_declared [] = refl
in_declared (d ∷ ds) =
    let f = many_both (lists_in_start d.start) (lists_in_declared ds) in
    let u = in_start d.start in
    let v = in_declared ds in
    omega arith

declared_both : (ds es : List Declaration) → declared_weight (ds ++ es) ≡ declared_weight ds + declared_weight es
declared_both [] es = omega arith
declared_both (d ∷ ds) es = (let u = declared_both ds es in omega arith)

in_definitions : (ds : List Definition) → length (flat_map (λ (d : Definition). d.name.word ∷ words d.params) ds) + Many (flat_map (λ (d : Definition). lists_in d.body) ds) ≤ definitions_weight ds
in_definitions [] = omega arith
in_definitions (d ∷ ds) =
    let e = length-append (words d.params) (flat_map (λ (f : Definition). f.name.word ∷ words f.params) ds) in
    let w = length-map d.params (λ (x : Name). x.word) in
    let f = many_both (lists_in d.body) (flat_map (λ (h : Definition). lists_in h.body) ds) in
    let u = many_in d.body in
    let v = in_definitions ds in
    omega arith

in_macros : (ds : List Macro) → length (flat_map (λ (d : Macro). words d.params) ds) + Many (flat_map (λ (d : Macro). lists_in_body d.body) ds) ≤ macros_weight ds
in_macros [] = omega arith
in_macros (d ∷ ds) =
    let e = length-append (words d.params) (flat_map (λ (f : Macro). words f.params) ds) in
    let w = length-map d.params (λ (x : Name). x.word) in
    let f = many_both (lists_in_body d.body) (flat_map (λ (h : Macro). lists_in_body h.body) ds) in
    let u = in_body false d.body in
    let v = in_macros ds in
    omega arith

-- ---- what wants a name

within : (u : Routine) → length (wanted_within u) ≡ length (locals u) + length (labels false u.body)
within u =
    let a = length-append (wants u.number variable (declared (locals u))) (wants u.number label (label_words u.body)) in
    let v = wants_count u.number variable (declared (locals u)) in
    let l = wants_count u.number label (label_words u.body) in
    let vs = length-map (locals u) (λ (d : Declaration). d.name.word) in
    let ls = length-map (labels false u.body) (λ (k : Label). k.name.word) in
    omega arith

in_procedures : (n : ℕ) (ps : List Procedure) → Many (flat_map lists_in_procedure ps) + length (flat_map wanted_by (numbered procedure_routine n ps)) ≤ procedures_weight ps
in_procedures n [] = omega arith
in_procedures n (p ∷ ps) =
    let f = many_both (lists_in_procedure p) (flat_map lists_in_procedure ps) in
    let g = many_both (lists_in_declared (p.params ++ p.variables)) (lists_in_body p.body) in
    let h = length-append (wanted_within (procedure_routine n p)) (flat_map wanted_by (numbered procedure_routine (suc n) ps)) in
    let k = within (procedure_routine n p) in
    let u = in_declared (p.params ++ p.variables) in
    let d = declared_both p.params p.variables in
    let v = in_body false p.body in
    let w = in_procedures (suc n) ps in
    omega arith

in_processes : (n : ℕ) (ps : List Process) → Many (flat_map lists_in_process ps) + length (flat_map wanted_by (numbered process_routine n ps)) ≤ processes_weight ps
in_processes n [] = omega arith
in_processes n (p ∷ ps) =
    let f = many_both (lists_in_process p) (flat_map lists_in_process ps) in
    let e = many_both (lists_in p.identity) (lists_in_declared p.variables ++ lists_in_body p.body) in
    let g = many_both (lists_in_declared p.variables) (lists_in_body p.body) in
    let h = length-append (wanted_within (process_routine n p)) (flat_map wanted_by (numbered process_routine (suc n) ps)) in
    let k = within (process_routine n p) in
    let t = many_in p.identity in
    let u = in_declared p.variables in
    let v = in_body false p.body in
    let w = in_processes (suc n) ps in
    omega arith

in_main : (a : Algorithm) (m : Main) → Many (lists_in_main m) + length (wanted_by_main a m) ≤ main_weight m
in_main a (alone b) =
    let h = length-append (wanted_within (alone_routine a b)) [] in
    let k = within (alone_routine a b) in
    let v = in_body false b in
    omega arith
in_main a (processes ps) = in_processes (first_process a) ps

-- ---- the whole

pub names_weighed : (a : Algorithm) → length (kept a) + length (wanted a) ≤ weight a
names_weighed a =
    let k1 = length-append (declared a.globals) (flat_map (λ (d : Definition). d.name.word ∷ words d.params) a.definitions ++ (flat_map (λ (d : Macro). words d.params) a.macros ++ words (all_of (bound_lists a)))) in
    let k2 = length-append (flat_map (λ (d : Definition). d.name.word ∷ words d.params) a.definitions) (flat_map (λ (d : Macro). words d.params) a.macros ++ words (all_of (bound_lists a))) in
    let k3 = length-append (flat_map (λ (d : Macro). words d.params) a.macros) (words (all_of (bound_lists a))) in
    let k4 = length-map (all_of (bound_lists a)) (λ (x : Name). x.word) in
    let k5 = length-map a.globals (λ (d : Declaration). d.name.word) in
    let b1 = many_both (lists_in_declared a.globals) (flat_map (λ (d : Definition). lists_in d.body) a.definitions ++ (flat_map (λ (d : Macro). lists_in_body d.body) a.macros ++ (flat_map lists_in_procedure a.procedures ++ lists_in_main a.main))) in
    let b2 = many_both (flat_map (λ (d : Definition). lists_in d.body) a.definitions) (flat_map (λ (d : Macro). lists_in_body d.body) a.macros ++ (flat_map lists_in_procedure a.procedures ++ lists_in_main a.main)) in
    let b3 = many_both (flat_map (λ (d : Macro). lists_in_body d.body) a.macros) (flat_map lists_in_procedure a.procedures ++ lists_in_main a.main) in
    let b4 = many_both (flat_map lists_in_procedure a.procedures) (lists_in_main a.main) in
    let w = length-append (flat_map wanted_by (procedure_routines a)) (wanted_by_main a a.main) in
    let g = in_declared a.globals in
    let d = in_definitions a.definitions in
    let m = in_macros a.macros in
    let p = in_procedures (first_procedure a) a.procedures in
    let n = in_main a a.main in
    omega arith

pub names_of_text : (x : Text) → length (kept (algorithm_of x)) + length (wanted (algorithm_of x)) ≤ length (spell x [])
names_of_text x =
    let w = names_weighed (algorithm_of x) in
    let t = weight_of_text x [] in
    omega arith
