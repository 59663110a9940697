-- Names that are bound again rest on what calls offend, and not on how that is found; so what is computed once for each macro gives the same offences.
use Rattle.std.proofs.Common.{◌≡◌, List, [], ◌∷◌, ◌++◌, Bool, true, false, cond, bytes_eq, reverse, refl}
use Rattle.std.specs.List.{flat_map}
use Rattle.tla_token.specs.declared.rule.Refusal.{Refusal}
use Rattle.tla_tree.specs.Tree.{Word, Trees, words}
use Rattle.tla_value.specs.Outside.{Outside}
use Rattle.pcal_tree.specs.Algorithm.{Statement, assign, await, print, assert, skip, branch, either, with, while, goto, macro, call, return, Statements, done, then, mark, Branches, no_branches, or, Macro, Procedure, Process, Main, alone, processes, Algorithm}
use Rattle.pcal_tree.specs.BoundNames.{names_of_binds}
use Rattle.pcal_tree.specs.Variables.{declared}
use Rattle.pcal_tree.specs.Offences.{first}
use Rattle.pcal_tree.specs.OffencesRebind.{Standings, naming, rebound_all, any_name, Calls, starts_rebind, whole_rebinds, each_rebinds, binds_rebind, one_rebinds, body_rebinds, branches_rebind, putting_in, macro_rebinds, CallsAmong, texts_rebind, standing_outside, standing_inside, definitions_rebind, locals_rebind, procedure_rebinds, in_process_body, process_rebinds, main_rebinds, rebind_offences_by, rebind_offences_of}
use Rattle.pcal_tree.specs.laws.MacroBindings.{MacroBindings, body_bindings, call_bindings, macro_bindings, offences_seen, rebinds_by}
use Rattle.pcal_tree.proofs.SetLaws.{Same, same_both}
use Rattle.pcal_tree.proofs.FirstLaws.{same_first}
use Rattle.pcal_tree.proofs.UsesByMacro.{same_after, same_before, same_then, same_flat}
use Rattle.pcal_tree.proofs.RebindNames.{around_none}
use Rattle.pcal_tree.proofs.RebindLaws.{says_body, says_call}

abbrev pub Alike : Calls → Calls → Type 0
Alike C D = (s : Standings) (m : Word) (ts : Trees) → Same (C s m ts) (D s m ts)

-- ---- statements

mutual
  one_alike : (ms : List Word) (ps : List Procedure) (C D : Calls) → Alike C D → (st : Statement) (s : Standings) → Same (one_rebinds ms ps C st s) (one_rebinds ms ps D st s)
  one_alike ms ps C D a (assign ns) s = λ f. refl
  one_alike ms ps C D a (await e) s = λ f. refl
  one_alike ms ps C D a (print e) s = λ f. refl
  one_alike ms ps C D a (assert e) s = λ f. refl
  one_alike ms ps C D a skip s = λ f. refl
  one_alike ms ps C D a (branch e b d) s =
      same_after (whole_rebinds ms e s) (body_rebinds ms ps C b s ++ body_rebinds ms ps C d s) (body_rebinds ms ps D b s ++ body_rebinds ms ps D d s)
      (same_both (body_rebinds ms ps C b s) (body_rebinds ms ps D b s) (body_rebinds ms ps C d s) (body_rebinds ms ps D d s) (body_alike ms ps C D a b s) (body_alike ms ps C D a d s))
  one_alike ms ps C D a (either bs) s = branches_alike ms ps C D a bs s
  one_alike ms ps C D a (with bs b) s =
      let inner = naming (words (names_of_binds bs)) s in
      same_after (rebound_all ms s (names_of_binds bs)) (binds_rebind ms bs s ++ body_rebinds ms ps C b inner) (binds_rebind ms bs s ++ body_rebinds ms ps D b inner)
      (same_after (binds_rebind ms bs s) (body_rebinds ms ps C b inner) (body_rebinds ms ps D b inner) (body_alike ms ps C D a b inner))
  one_alike ms ps C D a (while e b) s = same_after (whole_rebinds ms e s) (body_rebinds ms ps C b s) (body_rebinds ms ps D b s) (body_alike ms ps C D a b s)
  one_alike ms ps C D a (goto l) s = λ f. refl
  one_alike ms ps C D a (macro m ts) s = same_before (C s m ts) (D s m ts) (each_rebinds ms ts s) (a s m ts)
  one_alike ms ps C D a (call p ts) s = λ f. refl
  one_alike ms ps C D a return s = λ f. refl

  body_alike : (ms : List Word) (ps : List Procedure) (C D : Calls) → Alike C D → (b : Statements) (s : Standings) → Same (body_rebinds ms ps C b s) (body_rebinds ms ps D b s)
  body_alike ms ps C D a done s = λ f. refl
  body_alike ms ps C D a (then at st rest) s =
      same_both (one_rebinds ms ps C st s) (one_rebinds ms ps D st s) (body_rebinds ms ps C rest s) (body_rebinds ms ps D rest s)
      (one_alike ms ps C D a st s) (body_alike ms ps C D a rest s)
  body_alike ms ps C D a (mark l k rest) s = body_alike ms ps C D a rest s

  branches_alike : (ms : List Word) (ps : List Procedure) (C D : Calls) → Alike C D → (bs : Branches) (s : Standings)
      → Same (branches_rebind ms ps C bs s) (branches_rebind ms ps D bs s)
  branches_alike ms ps C D a no_branches s = λ f. refl
  branches_alike ms ps C D a (or b bs) s =
      same_both (body_rebinds ms ps C b s) (body_rebinds ms ps D b s) (branches_rebind ms ps C bs s) (branches_rebind ms ps D bs s)
      (body_alike ms ps C D a b s) (branches_alike ms ps C D a bs s)

-- ---- macros

-- what was found once for each macro
abbrev pub by_bindings : List Word → List Procedure → CallsAmong
by_bindings ms ps ds = rebinds_by ms (macro_bindings ms ps ds)

macros_alike : (ms : List Word) (ps : List Procedure) (ds : List Macro) → Alike (macro_rebinds ms ps ds) (by_bindings ms ps ds)
macros_alike ms ps [] s m ts = λ f. refl
macros_alike ms ps (d ∷ older) s m ts = by (bytes_eq d.name.word m) (macros_alike ms ps older)
  where
    inner : Standings
    inner = putting_in d.params ts s s

    before : List MacroBindings
    before = macro_bindings ms ps older

    by : (b : Bool) → Alike (macro_rebinds ms ps older) (rebinds_by ms before)
        → Same (cond b (body_rebinds ms ps (macro_rebinds ms ps older) d.body inner) (macro_rebinds ms ps older s m ts))
        (cond b (offences_seen ms (body_bindings ms ps (call_bindings ms before) d.body []) inner) (rebinds_by ms before s m ts))
    by true h =
        same_then (body_rebinds ms ps (macro_rebinds ms ps older) d.body inner) (body_rebinds ms ps (rebinds_by ms before) d.body inner)
        (offences_seen ms (body_bindings ms ps (call_bindings ms before) d.body []) inner)
        (body_alike ms ps (macro_rebinds ms ps older) (rebinds_by ms before) h d.body inner)
        (says_body ms ps (rebinds_by ms before) (call_bindings ms before) inner (says_call ms before inner) d.body [] inner (around_none inner))
    by false h = h s m ts

-- ---- algorithms

texts_alike : (ms : List Word) (ps : List Procedure) (C D : CallsAmong) → ((ds : List Macro) → Alike (C ds) (D ds)) → (s : Standings) (ds : List Macro)
    → Same (texts_rebind ms ps C s ds) (texts_rebind ms ps D s ds)
texts_alike ms ps C D a s [] = λ f. refl
texts_alike ms ps C D a s (d ∷ older) =
    let inner = naming (words d.params) s in
    let heads = rebound_all ms s d.params in
    same_both (heads ++ body_rebinds ms ps (C older) d.body inner) (heads ++ body_rebinds ms ps (D older) d.body inner) (texts_rebind ms ps C s older) (texts_rebind ms ps D s older)
    (same_after heads (body_rebinds ms ps (C older) d.body inner) (body_rebinds ms ps (D older) d.body inner) (body_alike ms ps (C older) (D older) (a older) d.body inner))
    (texts_alike ms ps C D a s older)

procedure_alike : (ms : List Word) (ps : List Procedure) (C D : Calls) → Alike C D → (s : Standings) (p : Procedure)
    → Same (procedure_rebinds ms ps C s p) (procedure_rebinds ms ps D s p)
procedure_alike ms ps C D a s p =
    let ds = p.params ++ p.variables in
    let inner = naming (declared ds) s in
    same_after (locals_rebind ms ds s) (body_rebinds ms ps C p.body inner) (body_rebinds ms ps D p.body inner) (body_alike ms ps C D a p.body inner)

process_alike : (ms : List Word) (ps : List Procedure) (C D : Calls) → Alike C D → (s : Standings) (p : Process)
    → Same (process_rebinds ms ps C s p) (process_rebinds ms ps D s p)
process_alike ms ps C D a s p =
    let inner = in_process_body p s in
    let heads = locals_rebind ms p.variables s in
    same_after (whole_rebinds ms p.identity s) (heads ++ body_rebinds ms ps C p.body inner) (heads ++ body_rebinds ms ps D p.body inner)
    (same_after heads (body_rebinds ms ps C p.body inner) (body_rebinds ms ps D p.body inner) (body_alike ms ps C D a p.body inner))

main_alike : (ms : List Word) (ps : List Procedure) (C D : Calls) → Alike C D → (s : Standings) (m : Main) → Same (main_rebinds ms ps C s m) (main_rebinds ms ps D s m)
main_alike ms ps C D a s (alone b) = body_alike ms ps C D a b s
main_alike ms ps C D a s (processes qs) = same_flat (process_rebinds ms ps C s) (process_rebinds ms ps D s) (process_alike ms ps C D a s) qs

algorithm_alike : (C D : CallsAmong) → ((ds : List Macro) → Alike (C ds) (D ds)) → (a : Algorithm) (o : Outside) → Same (rebind_offences_by C a o) (rebind_offences_by D a o)
algorithm_alike C D k a o =
    let ms = o.extended in
    let ps = a.procedures in
    let s = standing_inside a o in
    let ds = reverse a.macros in
    let starts = starts_rebind ms any_name a.globals s in
    let inner = definitions_rebind ms a.definitions (standing_outside a o) in
    let T = texts_rebind ms ps C s ds in
    let U = texts_rebind ms ps D s ds in
    let P = flat_map (procedure_rebinds ms ps (C ds) s) ps in
    let Q = flat_map (procedure_rebinds ms ps (D ds) s) ps in
    let M = main_rebinds ms ps (C ds) s a.main in
    let N = main_rebinds ms ps (D ds) s a.main in
    same_after starts (inner ++ (T ++ (P ++ M))) (inner ++ (U ++ (Q ++ N)))
    (same_after inner (T ++ (P ++ M)) (U ++ (Q ++ N))
    (same_both T U (P ++ M) (Q ++ N) (texts_alike ms ps C D k s ds)
    (same_both P Q M N
    (same_flat (procedure_rebinds ms ps (C ds) s) (procedure_rebinds ms ps (D ds) s) (procedure_alike ms ps (C ds) (D ds) (k ds) s) ps)
    (main_alike ms ps (C ds) (D ds) (k ds) s a.main))))

pub rebinds_alike : (a : Algorithm) (o : Outside) → Same (rebind_offences_of a o) (rebind_offences_by (by_bindings o.extended a.procedures) a o)
rebinds_alike a o =
    algorithm_alike (macro_rebinds o.extended a.procedures) (by_bindings o.extended a.procedures) (macros_alike o.extended a.procedures) a o

pub first_rebind_alike : (a : Algorithm) (o : Outside) (others : List Refusal)
    → first (rebind_offences_of a o ++ others) ≡ first (rebind_offences_by (by_bindings o.extended a.procedures) a o ++ others)
first_rebind_alike a o others =
    let by_macro = rebind_offences_by (by_bindings o.extended a.procedures) a o in
    same_first (rebind_offences_of a o ++ others) (by_macro ++ others) (same_before (rebind_offences_of a o) by_macro others (rebinds_alike a o))
