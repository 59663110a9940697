-- Offences rest on what calls offend, and not on how that is found; so what is computed once for each macro gives the same ones.
use Rattle.std.proofs.Common.{◌≡◌, List, [], ◌∷◌, ◌++◌, Bool, true, false, not, nat_eq, length, cond, bytes_eq, reverse, refl, ◌∙◌}
use Rattle.std.specs.List.{flat_map}
use Rattle.tla_token.specs.declared.place.Place.{Place}
use Rattle.tla_token.specs.declared.rule.Rule.TheVariants.{Arity}
use Rattle.tla_token.specs.declared.rule.Refusal.{Refusal}
use Rattle.tla_tree.specs.Tree.{Word, Trees}
use Rattle.tla_value.specs.Outside.{Outside}
use Rattle.pcal_tree.specs.Algorithm.{Statement, assign, await, print, assert, skip, branch, either, with, while, goto, macro, call, return, Statements, done, then, mark, Branches, no_branches, or, Macro, Procedure, Process, Main, alone, processes, Algorithm}
use Rattle.pcal_tree.specs.Variables.{declared}
use Rattle.pcal_tree.specs.Offences.{offence_if, first}
use Rattle.pcal_tree.specs.NameUses.{Sight, seeing_variables}
use Rattle.pcal_tree.specs.OffencesNames.{in_whole, in_each, seeing_parameters, Calls, in_binds, after_binds, in_one, in_body, in_branches, count, macro_offences, sight_outside, sight_inside, in_declared, in_definitions, in_procedure, in_process, in_main, use_offences_by, use_offences_of}
use Rattle.pcal_tree.specs.laws.MacroUses.{MacroUses, body_uses, call_uses, macro_uses, offences_seen, offences_by_uses}
use Rattle.pcal_tree.proofs.SetLaws.{Same, same_both}
use Rattle.pcal_tree.proofs.FirstLaws.{same_first}
use Rattle.pcal_tree.proofs.UseLaws.{around_all, says_body, says_call}

abbrev pub Alike : Calls → Calls → Type 0
Alike C D = (s : Sight) (at : Place) (m : Word) (ts : Trees) → Same (C s at m ts) (D s at m ts)

pub same_after : (rs xs ys : List Refusal) → Same xs ys → Same (rs ++ xs) (rs ++ ys)
same_after rs xs ys s = same_both rs rs xs ys (λ f. refl) s

pub same_before : (xs ys rs : List Refusal) → Same xs ys → Same (xs ++ rs) (ys ++ rs)
same_before xs ys rs s = same_both xs ys rs rs s (λ f. refl)

-- ---- statements

mutual
  one_alike : (C D : Calls) → Alike C D → (ps : List Procedure) (at : Place) (st : Statement) (s : Sight) → Same (in_one C ps at st s) (in_one D ps at st s)
  one_alike C D a ps at (assign ms) s = λ f. refl
  one_alike C D a ps at (await e) s = λ f. refl
  one_alike C D a ps at (print e) s = λ f. refl
  one_alike C D a ps at (assert e) s = λ f. refl
  one_alike C D a ps at skip s = λ f. refl
  one_alike C D a ps at (branch e b d) s =
      same_after (in_whole e s) (in_body C ps b s ++ in_body C ps d s) (in_body D ps b s ++ in_body D ps d s)
      (same_both (in_body C ps b s) (in_body D ps b s) (in_body C ps d s) (in_body D ps d s) (body_alike C D a ps b s) (body_alike C D a ps d s))
  one_alike C D a ps at (either bs) s = branches_alike C D a ps bs s
  one_alike C D a ps at (with bs b) s =
      same_after (in_binds bs s) (in_body C ps b (after_binds bs s)) (in_body D ps b (after_binds bs s)) (body_alike C D a ps b (after_binds bs s))
  one_alike C D a ps at (while e b) s = same_after (in_whole e s) (in_body C ps b s) (in_body D ps b s) (body_alike C D a ps b s)
  one_alike C D a ps at (goto l) s = λ f. refl
  one_alike C D a ps at (macro m ts) s = same_before (C s at m ts) (D s at m ts) (in_each ts s) (a s at m ts)
  one_alike C D a ps at (call p ts) s = λ f. refl
  one_alike C D a ps at return s = λ f. refl

  body_alike : (C D : Calls) → Alike C D → (ps : List Procedure) (b : Statements) (s : Sight) → Same (in_body C ps b s) (in_body D ps b s)
  body_alike C D a ps done s = λ f. refl
  body_alike C D a ps (then at st rest) s =
      same_both (in_one C ps at.first st s) (in_one D ps at.first st s) (in_body C ps rest s) (in_body D ps rest s)
      (one_alike C D a ps at.first st s) (body_alike C D a ps rest s)
  body_alike C D a ps (mark l k rest) s = body_alike C D a ps rest s

  branches_alike : (C D : Calls) → Alike C D → (ps : List Procedure) (bs : Branches) (s : Sight) → Same (in_branches C ps bs s) (in_branches D ps bs s)
  branches_alike C D a ps no_branches s = λ f. refl
  branches_alike C D a ps (or b bs) s =
      same_both (in_body C ps b s) (in_body D ps b s) (in_branches C ps bs s) (in_branches D ps bs s) (body_alike C D a ps b s) (branches_alike C D a ps bs s)

-- ---- macros

pub same_then : (xs ys zs : List Refusal) → Same xs ys → Same ys zs → Same xs zs
same_then xs ys zs s r f = s f ∙ r f

macros_alike : (ms : List Macro) (ps : List Procedure) → Alike (macro_offences ms ps) (offences_by_uses (macro_uses ms ps))
macros_alike [] ps s at m ts = λ f. refl
macros_alike (d ∷ older) ps s at m ts = by (bytes_eq d.name.word m) (macros_alike older ps)
  where
    wrong : List Refusal
    wrong = offence_if (not (nat_eq (length d.params) (count ts))) Arity at

    inner : Sight
    inner = seeing_parameters d.params ts s s

    before : List MacroUses
    before = macro_uses older ps

    by : (b : Bool) → Alike (macro_offences older ps) (offences_by_uses before)
        → Same (cond b (wrong ++ in_body (macro_offences older ps) ps d.body inner) (macro_offences older ps s at m ts))
        (cond b (wrong ++ offences_seen (body_uses (call_uses before) ps d.body []) inner) (offences_by_uses before s at m ts))
    by true h =
        same_after wrong (in_body (macro_offences older ps) ps d.body inner) (offences_seen (body_uses (call_uses before) ps d.body []) inner)
        (same_then (in_body (macro_offences older ps) ps d.body inner) (in_body (offences_by_uses before) ps d.body inner)
        (offences_seen (body_uses (call_uses before) ps d.body []) inner)
        (body_alike (macro_offences older ps) (offences_by_uses before) h ps d.body inner)
        (says_body (offences_by_uses before) (call_uses before) ps inner (says_call before inner) d.body [] inner (around_all [] inner)))
    by false h = h s at m ts

-- ---- algorithms

pub same_flat : {X : Type 0} (g h : X → List Refusal) → ((x : X) → Same (g x) (h x)) → (xs : List X) → Same (flat_map g xs) (flat_map h xs)
same_flat g h e [] = λ f. refl
same_flat g h e (x ∷ xs) = same_both (g x) (h x) (flat_map g xs) (flat_map h xs) (e x) (same_flat g h e xs)

procedure_alike : (C D : Calls) → Alike C D → (ps : List Procedure) (s : Sight) (p : Procedure) → Same (in_procedure C ps s p) (in_procedure D ps s p)
procedure_alike C D a ps s p =
    let within = seeing_variables (declared (p.params ++ p.variables)) s in
    same_after (in_declared (p.params ++ p.variables) within) (in_body C ps p.body within) (in_body D ps p.body within) (body_alike C D a ps p.body within)

process_alike : (C D : Calls) → Alike C D → (ps : List Procedure) (s : Sight) (p : Process) → Same (in_process C ps s p) (in_process D ps s p)
process_alike C D a ps s p =
    let within = seeing_variables (declared p.variables) s in
    let starts = in_declared p.variables within in
    same_after (in_whole p.identity s) (starts ++ in_body C ps p.body within) (starts ++ in_body D ps p.body within)
    (same_after starts (in_body C ps p.body within) (in_body D ps p.body within) (body_alike C D a ps p.body within))

main_alike : (C D : Calls) → Alike C D → (ps : List Procedure) (s : Sight) (m : Main) → Same (in_main C ps s m) (in_main D ps s m)
main_alike C D a ps s (alone b) = body_alike C D a ps b s
main_alike C D a ps s (processes qs) = same_flat (in_process C ps s) (in_process D ps s) (process_alike C D a ps s) qs

algorithm_alike : (C D : Calls) → Alike C D → (a : Algorithm) (o : Outside) → Same (use_offences_by C a o) (use_offences_by D a o)
algorithm_alike C D k a o =
    let s = sight_inside a o in
    let starts = in_declared a.globals s in
    let inner = in_definitions a.definitions (seeing_variables (declared a.globals) (sight_outside o)) in
    let P = flat_map (in_procedure C a.procedures s) a.procedures in
    let Q = flat_map (in_procedure D a.procedures s) a.procedures in
    let M = in_main C a.procedures s a.main in
    let N = in_main D a.procedures s a.main in
    same_after starts (inner ++ (P ++ M)) (inner ++ (Q ++ N))
    (same_after inner (P ++ M) (Q ++ N)
    (same_both P Q M N
    (same_flat (in_procedure C a.procedures s) (in_procedure D a.procedures s) (procedure_alike C D k a.procedures s) a.procedures)
    (main_alike C D k a.procedures s a.main)))

pub uses_alike : (a : Algorithm) (o : Outside) → Same (use_offences_of a o) (use_offences_by (offences_by_uses (macro_uses (reverse a.macros) a.procedures)) a o)
uses_alike a o =
    algorithm_alike (macro_offences (reverse a.macros) a.procedures) (offences_by_uses (macro_uses (reverse a.macros) a.procedures))
    (macros_alike (reverse a.macros) a.procedures) a o

pub first_alike : (a : Algorithm) (o : Outside) (others : List Refusal)
    → first (use_offences_of a o ++ others) ≡ first (use_offences_by (offences_by_uses (macro_uses (reverse a.macros) a.procedures)) a o ++ others)
first_alike a o others =
    let by_uses = use_offences_by (offences_by_uses (macro_uses (reverse a.macros) a.procedures)) a o in
    same_first (use_offences_of a o ++ others) (by_uses ++ others) (same_before (use_offences_of a o) by_uses others (uses_alike a o))
