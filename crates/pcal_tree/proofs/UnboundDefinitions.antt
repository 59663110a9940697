-- Where no name is bound again and none that is declared or bound is reserved, no text binds the name of a definition, or `self`.
use Rattle.std.proofs.Common.{◌≡◌, List, [], ◌∷◌, ◌++◌, Bool, true, false, ◌&&◌, ◌||◌, not, cond, bytes_eq, codes, reverse, map, refl, sym, ◌∙◌, ap, true≢false}
use Rattle.std.specs.List.{list_any, flat_map}
use Rattle.std.proofs.lemmas.Bool.{or_left, or_right, or_parts}
use Rattle.std.proofs.lemmas.Slice.Eq.{bytes_eq-Decides}
use Rattle.tla_token.specs.declared.place.Place.{Place}
use Rattle.tla_token.specs.declared.rule.Rule.TheVariants.{Rebind, Reserved}
use Rattle.tla_token.specs.declared.rule.Refusal.{Refusal}
use Rattle.tla_token.specs.Signs.{is_among}
use Rattle.tla_token.specs.Words.{is_own, is_standard}
use Rattle.tla_tree.specs.Tree.{Word, Name, Tree, node, Trees, no_trees, tree, words, seen_names}
use Rattle.tla_value.specs.Outside.{Outside}
use Rattle.pcal_tree.specs.Algorithm.{Assignments, no_assignments, assignment, Binds, no_binds, one_of, is, Statement, assign, await, print, assert, skip, branch, either, with, while, goto, macro, call, return, Statements, done, then, mark, Branches, no_branches, or, Declaration, Definition, Macro, Procedure, Process, Main, alone, processes, Algorithm}
use Rattle.pcal_tree.specs.BoundNames.{Lists, all_of, lists_of, lists_in, lists_in_all, lists_in_assignments, names_of_binds, lists_in_binds, lists_in_one, lists_in_body, lists_in_branches, lists_in_declared, lists_in_procedure, lists_in_process, lists_in_main, bound_lists}
use Rattle.pcal_tree.specs.Offences.{offence_if}
use Rattle.pcal_tree.specs.OffencesNames.{names_of}
use Rattle.pcal_tree.specs.OffencesRebind.{stands_for, Standings, naming, in_scope, rebound, rebound_all, put_in, any_name, form_rebinds, tree_rebinds, parts_rebind, bound_by, Calls, starts_rebind, jump_rebinds, call_rebinds, whole_rebinds, each_rebinds, assignments_rebind, binds_rebind, one_rebinds, body_rebinds, branches_rebind, macro_rebinds, CallsAmong, texts_rebind, standing_outside, standing_inside, definitions_rebind, locals_rebind, procedure_rebinds, in_process_body, process_rebinds, main_rebinds, rebind_offences_of}
use Rattle.pcal_tree.specs.OffencesLabels.{all_labels}
use Rattle.pcal_tree.specs.OffencesReserved.{names_of_definition, names_of_macro, names_of_procedure, names_of_process, names_of_main, declared_names, reserved_name, reserved_label, reserved_outside, reserved_declared}
use Rattle.pcal_tree.specs.Reads.{readings, readings_of}
use Rattle.pcal_tree.specs.Variables.{declared}
use Rattle.pcal_tree.specs.laws.BoundDefinitions.{has_one, lists_have_one, may_be_stale, bound_in_text, bound_in_main, binds_definitions}
use Rattle.pcal_tree.proofs.BoundWrittenOut.{bound_in_macro, any_reversed}
use Rattle.pcal_tree.proofs.RebindNames.{scope_of_both}
use Rattle.pcal_tree.proofs.SetLaws.{any_flat, any_map, neither, none_of_both, none_together}

-- ---- no element passes a test

none_in_each : {X Y : Type 0} (f : Y → Bool) (g : X → List Y) (t u bad : X → Bool) → ((x : X) → t x ≡ false → u x ≡ false → list_any f (g x) ≡ false → bad x ≡ false) → (xs : List X)
    → list_any t xs ≡ false → list_any u xs ≡ false → list_any f (flat_map g xs) ≡ false → list_any bad xs ≡ false
none_in_each f g t u bad h [] e d q = refl
none_in_each f g t u bad h (x ∷ xs) e d q =
    let j = or_parts (t x) (list_any t xs) e in
    let k = or_parts (u x) (list_any u xs) d in
    let p = none_of_both f (g x) (flat_map g xs) q in
    neither (h x j.0 k.0 p.0) (none_in_each f g t u bad h xs j.1 k.1 p.1)

-- ---- own and standard names

abbrev Theirs : List Word → Word → Bool
Theirs extended x = is_own x || is_standard extended x

names_of_lists : (D : Word → Bool) (xss : Lists) → has_one D (all_of xss) ≡ lists_have_one D xss
names_of_lists D xss = any_flat (λ (n : Name). D n.word) (λ (xs : List Name). xs) xss

-- ---- where the names that matter are in scope

-- f tells of an offence of a name that is bound again
module _ (extended : List Word) (D : Word → Bool) (f : Refusal → Bool) (told : (at : Place) → f (record { rule = Rebind; place = at }) ≡ true) where
  abbrev T : Word → Bool
  T = Theirs extended

  abbrev Quiet : List Refusal → Type 0
  Quiet rs = list_any f rs ≡ false

  abbrev Holds : Standings → Type 0
  Holds s = (x : Word) → T x ≡ false → D x ≡ true → in_scope s x ≡ true

  naming_holds : (xs : List Word) (s : Standings) → Holds s → Holds (naming xs s)
  naming_holds xs s h x r d = scope_of_both xs s x ∙ or_right (is_among xs x) (in_scope s x) (h x r d)

  offends : (b c : Bool) (at : Place) → b ≡ true → c ≡ false → Quiet (offence_if (b && not c) Rebind at) → ⊥
  offends true false at e r q = true≢false (sym (or_left (f (record { rule = Rebind; place = at })) false (told at)) ∙ q)
  offends true true at e r q = true≢false r
  offends false c at e r q = true≢false (sym e)

  name_unbound : (n : Name) (s : Standings) → Holds s → T n.word ≡ false → Quiet (rebound extended s n) → D n.word ≡ false
  name_unbound n s h r q = by (D n.word) refl
    where
      by : (b : Bool) → D n.word ≡ b → b ≡ false
      by true e = absurd (offends (in_scope s n.word) (T n.word) n.place (h n.word r e) r q)
      by false e = refl

  names_unbound : (ns : List Name) (s : Standings) → Holds s → has_one T ns ≡ false → Quiet (rebound_all extended s ns) → has_one D ns ≡ false
  names_unbound [] s h r q = refl
  names_unbound (n ∷ ns) s h r q =
      let k = or_parts (T n.word) (has_one T ns) r in
      let p = none_of_both f (rebound extended s n) (rebound_all extended s ns) q in
      neither (name_unbound n s h k.0 p.0) (names_unbound ns s h k.1 p.1)

  lists_unbound : (xss : Lists) (s : Standings) → Holds s → lists_have_one T xss ≡ false → Quiet (rebound_all extended s (all_of xss)) → lists_have_one D xss ≡ false
  lists_unbound xss s h r q = sym (names_of_lists D xss) ∙ names_unbound (all_of xss) s h (names_of_lists T xss ∙ r) q

  -- ---- expressions

  mutual
    tree_unbound : (K : Word → Bool) (t : Tree) (s : Standings) → Holds s → lists_have_one T (lists_in t) ≡ false → Quiet (tree_rebinds extended K t s)
        → lists_have_one D (lists_in t) ≡ false
    tree_unbound K (node m at ts) s h r q =
        let k = none_of_both (has_one T) (lists_of m) (lists_in_all ts) r in
        let p = none_of_both f (form_rebinds extended K s m) (parts_rebind extended K (seen_names m) ts s) q in
        let o = none_of_both f (rebound_all extended s (all_of (lists_of m))) (rebound_all extended s (put_in K s m)) p.0 in
        none_together (has_one D) (lists_of m) (lists_in_all ts) (lists_unbound (lists_of m) s h k.0 o.0) (parts_unbound K (seen_names m) ts s h k.1 p.1)

    parts_unbound : (K : Word → Bool) (names : List (List Word)) (ts : Trees) (s : Standings) → Holds s → lists_have_one T (lists_in_all ts) ≡ false
        → Quiet (parts_rebind extended K names ts s) → lists_have_one D (lists_in_all ts) ≡ false
    parts_unbound K names no_trees s h r q = refl
    parts_unbound K [] (tree t ts) s h r q =
        let k = none_of_both (has_one T) (lists_in t) (lists_in_all ts) r in
        let p = none_of_both f (tree_rebinds extended K t s) (parts_rebind extended K [] ts s) q in
        none_together (has_one D) (lists_in t) (lists_in_all ts) (tree_unbound K t s h k.0 p.0) (parts_unbound K [] ts s h k.1 p.1)
    parts_unbound K (xs ∷ names) (tree t ts) s h r q =
        let k = none_of_both (has_one T) (lists_in t) (lists_in_all ts) r in
        let p = none_of_both f (tree_rebinds extended K t (naming xs s)) (parts_rebind extended K names ts s) q in
        none_together (has_one D) (lists_in t) (lists_in_all ts) (tree_unbound K t (naming xs s) (naming_holds xs s h) k.0 p.0) (parts_unbound K names ts s h k.1 p.1)

  whole_unbound : (t : Tree) (s : Standings) → Holds s → lists_have_one T (lists_in t) ≡ false → Quiet (whole_rebinds extended t s) → lists_have_one D (lists_in t) ≡ false
  whole_unbound t s h r q = tree_unbound any_name t s h r q

  -- ---- statements

  assignments_unbound : (ms : Assignments) (s : Standings) → Holds s → lists_have_one T (lists_in_assignments ms) ≡ false → Quiet (assignments_rebind extended ms s)
      → lists_have_one D (lists_in_assignments ms) ≡ false
  assignments_unbound no_assignments s h r q = refl
  assignments_unbound (assignment l e ms) s h r q =
      let j = none_of_both (has_one T) (lists_in l) (lists_in e ++ lists_in_assignments ms) r in
      let k = none_of_both (has_one T) (lists_in e) (lists_in_assignments ms) j.1 in
      let o = none_of_both f (whole_rebinds extended l s) (whole_rebinds extended e s ++ assignments_rebind extended ms s) q in
      let p = none_of_both f (whole_rebinds extended e s) (assignments_rebind extended ms s) o.1 in
      none_together (has_one D) (lists_in l) (lists_in e ++ lists_in_assignments ms) (whole_unbound l s h j.0 o.0)
      (none_together (has_one D) (lists_in e) (lists_in_assignments ms) (whole_unbound e s h k.0 p.0) (assignments_unbound ms s h k.1 p.1))

  binds_unbound : (bs : Binds) (s : Standings) → Holds s → lists_have_one T (lists_in_binds bs) ≡ false → Quiet (binds_rebind extended bs s) → lists_have_one D (lists_in_binds bs) ≡ false
  binds_unbound no_binds s h r q = refl
  binds_unbound (one_of x e bs) s h r q =
      let k = none_of_both (has_one T) (lists_in e) (lists_in_binds bs) r in
      let p = none_of_both f (whole_rebinds extended e s) (binds_rebind extended bs (naming (x.word ∷ []) s)) q in
      none_together (has_one D) (lists_in e) (lists_in_binds bs) (whole_unbound e s h k.0 p.0) (binds_unbound bs (naming (x.word ∷ []) s) (naming_holds (x.word ∷ []) s h) k.1 p.1)
  binds_unbound (is x e bs) s h r q =
      let k = none_of_both (has_one T) (lists_in e) (lists_in_binds bs) r in
      let p = none_of_both f (whole_rebinds extended e s) (binds_rebind extended bs (naming (x.word ∷ []) s)) q in
      none_together (has_one D) (lists_in e) (lists_in_binds bs) (whole_unbound e s h k.0 p.0) (binds_unbound bs (naming (x.word ∷ []) s) (naming_holds (x.word ∷ []) s h) k.1 p.1)

  module _ (ps : List Procedure) where
    mutual
      one_unbound : (C : Calls) (st : Statement) (s : Standings) → Holds s → lists_have_one T (lists_in_one st) ≡ false → Quiet (one_rebinds extended ps C st s)
          → lists_have_one D (lists_in_one st) ≡ false
      one_unbound C (assign ms) s h r q = assignments_unbound ms s h r q
      one_unbound C (await e) s h r q = whole_unbound e s h r q
      one_unbound C (print e) s h r q = whole_unbound e s h r q
      one_unbound C (assert e) s h r q = whole_unbound e s h r q
      one_unbound C skip s h r q = refl
      one_unbound C (branch e a b) s h r q =
          let j = none_of_both (has_one T) (lists_in e) (lists_in_body a ++ lists_in_body b) r in
          let k = none_of_both (has_one T) (lists_in_body a) (lists_in_body b) j.1 in
          let A = body_rebinds extended ps C a s in
          let B = body_rebinds extended ps C b s in
          let o = none_of_both f (whole_rebinds extended e s) (A ++ B) q in
          let p = none_of_both f A B o.1 in
          none_together (has_one D) (lists_in e) (lists_in_body a ++ lists_in_body b) (whole_unbound e s h j.0 o.0)
          (none_together (has_one D) (lists_in_body a) (lists_in_body b) (body_unbound C a s h k.0 p.0) (body_unbound C b s h k.1 p.1))
      one_unbound C (either bs) s h r q = branches_unbound C bs s h r q
      one_unbound C (with bs b) s h r q =
          let ns = names_of_binds bs in
          let j = or_parts (has_one T ns) (lists_have_one T (lists_in_binds bs ++ lists_in_body b)) r in
          let k = none_of_both (has_one T) (lists_in_binds bs) (lists_in_body b) j.1 in
          let B = body_rebinds extended ps C b (naming (words ns) s) in
          let o = none_of_both f (rebound_all extended s ns) (binds_rebind extended bs s ++ B) q in
          let p = none_of_both f (binds_rebind extended bs s) B o.1 in
          neither (names_unbound ns s h j.0 o.0)
          (none_together (has_one D) (lists_in_binds bs) (lists_in_body b) (binds_unbound bs s h k.0 p.0) (body_unbound C b (naming (words ns) s) (naming_holds (words ns) s h) k.1 p.1))
      one_unbound C (while e b) s h r q =
          let k = none_of_both (has_one T) (lists_in e) (lists_in_body b) r in
          let p = none_of_both f (whole_rebinds extended e s) (body_rebinds extended ps C b s) q in
          none_together (has_one D) (lists_in e) (lists_in_body b) (whole_unbound e s h k.0 p.0) (body_unbound C b s h k.1 p.1)
      one_unbound C (goto l) s h r q = refl
      one_unbound C (macro m ts) s h r q =
          parts_unbound any_name [] ts s h r (none_of_both f (C s m ts) (each_rebinds extended ts s) q).1
      one_unbound C (call c ts) s h r q =
          let p = none_of_both f (jump_rebinds extended s) (call_rebinds extended ps c.word s ++ each_rebinds extended ts s) q in
          parts_unbound any_name [] ts s h r (none_of_both f (call_rebinds extended ps c.word s) (each_rebinds extended ts s) p.1).1
      one_unbound C return s h r q = refl

      body_unbound : (C : Calls) (b : Statements) (s : Standings) → Holds s → lists_have_one T (lists_in_body b) ≡ false → Quiet (body_rebinds extended ps C b s)
          → lists_have_one D (lists_in_body b) ≡ false
      body_unbound C done s h r q = refl
      body_unbound C (then at st rest) s h r q =
          let k = none_of_both (has_one T) (lists_in_one st) (lists_in_body rest) r in
          let p = none_of_both f (one_rebinds extended ps C st s) (body_rebinds extended ps C rest s) q in
          none_together (has_one D) (lists_in_one st) (lists_in_body rest) (one_unbound C st s h k.0 p.0) (body_unbound C rest s h k.1 p.1)
      body_unbound C (mark l k rest) s h r q = body_unbound C rest s h r q

      branches_unbound : (C : Calls) (bs : Branches) (s : Standings) → Holds s → lists_have_one T (lists_in_branches bs) ≡ false → Quiet (branches_rebind extended ps C bs s)
          → lists_have_one D (lists_in_branches bs) ≡ false
      branches_unbound C no_branches s h r q = refl
      branches_unbound C (or b bs) s h r q =
          let k = none_of_both (has_one T) (lists_in_body b) (lists_in_branches bs) r in
          let p = none_of_both f (body_rebinds extended ps C b s) (branches_rebind extended ps C bs s) q in
          none_together (has_one D) (lists_in_body b) (lists_in_branches bs) (body_unbound C b s h k.0 p.0) (branches_unbound C bs s h k.1 p.1)

    -- ---- macros, procedures, processes, where s is around them

    module _ (s : Standings) (h : Holds s) where
      texts_unbound : (C : CallsAmong) (ms : List Macro) → list_any (bound_in_macro T) ms ≡ false → Quiet (texts_rebind extended ps C s ms)
          → list_any (bound_in_macro D) ms ≡ false
      texts_unbound C [] r q = refl
      texts_unbound C (d ∷ older) r q =
          let inner = naming (words d.params) s in
          let B = body_rebinds extended ps (C older) d.body inner in
          let k = or_parts (bound_in_macro T d) (list_any (bound_in_macro T) older) r in
          let o = none_of_both f (rebound_all extended s d.params ++ B) (texts_rebind extended ps C s older) q in
          let p = none_of_both f (rebound_all extended s d.params) B o.0 in
          neither (body_unbound (C older) d.body inner (naming_holds (words d.params) s h) k.0 p.1) (texts_unbound C older k.1 o.1)

      text_unbound : (C : Calls) (ds : List Declaration) (b : Statements) (inner : Standings) → Holds inner → has_one T (names_of ds) ≡ false → lists_have_one T (lists_in_body b) ≡ false
          → Quiet (locals_rebind extended ds s ++ body_rebinds extended ps C b inner) → bound_in_text D (declared ds) b ≡ false
      text_unbound C ds b inner k n r q =
          let o = none_of_both f (locals_rebind extended ds s) (body_rebinds extended ps C b inner) q in
          let p = none_of_both f (rebound_all extended s (names_of ds)) (starts_rebind extended any_name ds (naming (declared ds) s)) o.0 in
          neither (any_map D (λ d. d.name.word) ds ∙ sym (any_map (λ n. D n.word) (λ d. d.name) ds) ∙ names_unbound (names_of ds) s h n p.0)
          (body_unbound C b inner k r o.1)

      procedure_unbound : (C : Calls) (p : Procedure) → has_one T (names_of_procedure p) ≡ false → lists_have_one T (lists_in_procedure p) ≡ false
          → Quiet (procedure_rebinds extended ps C s p) → bound_in_text D (declared (p.params ++ p.variables)) p.body ≡ false
      procedure_unbound C p n r q =
          let ds = p.params ++ p.variables in
          let j = or_parts (T p.name.word) (has_one T (names_of ds)) n in
          let k = none_of_both (has_one T) (lists_in_declared ds) (lists_in_body p.body) r in
          text_unbound C ds p.body (naming (declared ds) s) (naming_holds (declared ds) s h) j.1 k.1 q

      process_holds : (p : Process) → Holds (in_process_body p s)
      process_holds p = by p.several
        where
          inner : Standings
          inner = naming (declared p.variables) s

          by : (b : Bool) → Holds (cond b inner (stands_for (codes "self") (bound_by p.identity s) ∷ inner))
          by true = naming_holds (declared p.variables) s h
          by false = naming_holds (declared p.variables) s h

      process_unbound : (C : Calls) (p : Process) → has_one T (names_of_process p) ≡ false → lists_have_one T (lists_in_process p) ≡ false
          → Quiet (process_rebinds extended ps C s p) → bound_in_text D (declared p.variables) p.body ≡ false
      process_unbound C p n r q =
          let inner = in_process_body p s in
          let B = body_rebinds extended ps C p.body inner in
          let j = or_parts (T p.name.word) (has_one T (names_of p.variables)) n in
          let k = none_of_both (has_one T) (lists_in p.identity) (lists_in_declared p.variables ++ lists_in_body p.body) r in
          let l = none_of_both (has_one T) (lists_in_declared p.variables) (lists_in_body p.body) k.1 in
          let o = none_of_both f (whole_rebinds extended p.identity s) (locals_rebind extended p.variables s ++ B) q in
          text_unbound C p.variables p.body inner (process_holds p) j.1 l.1 o.1

      procedures_unbound : (C : Calls) (qs : List Procedure) → has_one T (flat_map names_of_procedure qs) ≡ false → lists_have_one T (flat_map lists_in_procedure qs) ≡ false
          → Quiet (flat_map (procedure_rebinds extended ps C s) qs) → list_any (λ p. bound_in_text D (declared (p.params ++ p.variables)) p.body) qs ≡ false
      procedures_unbound C qs n r q =
          none_in_each f (procedure_rebinds extended ps C s) (λ p. has_one T (names_of_procedure p)) (λ p. lists_have_one T (lists_in_procedure p))
          (λ p. bound_in_text D (declared (p.params ++ p.variables)) p.body) (procedure_unbound C) qs
          (sym (any_flat (λ n. T n.word) names_of_procedure qs) ∙ n) (sym (any_flat (has_one T) lists_in_procedure qs) ∙ r) q

      main_unbound : (C : Calls) (m : Main) → has_one T (names_of_main m) ≡ false → lists_have_one T (lists_in_main m) ≡ false → Quiet (main_rebinds extended ps C s m)
          → bound_in_main D m ≡ false
      main_unbound C (alone b) n r q = body_unbound C b s h r q
      main_unbound C (processes qs) n r q =
          none_in_each f (process_rebinds extended ps C s) (λ p. has_one T (names_of_process p)) (λ p. lists_have_one T (lists_in_process p))
          (λ p. bound_in_text D (declared p.variables) p.body) (process_unbound C) qs
          (sym (any_flat (λ n. T n.word) names_of_process qs) ∙ n) (sym (any_flat (has_one T) lists_in_process qs) ∙ r) q

-- ---- what may be used after an assignment is in scope or reserved

titles : (gs : List Word) (ds : List Definition) → map (λ d. d.title) (readings gs ds) ≡ map (λ d. d.name.word) ds
titles gs [] = refl
titles gs (d ∷ older) = ap (λ (ws : List Word). d.name.word ∷ ws) (titles gs older)

title_of_definition : (a : Algorithm) (x : Word) → is_among (map (λ d. d.title) (readings_of a)) x ≡ is_among (map (λ d. d.name.word) a.definitions) x
title_of_definition a x =
    let named : Definition → Word = λ d. d.name.word in
    let here : Word → Bool = λ v. bytes_eq v x in
    ap (λ (ws : List Word). is_among ws x) (titles (declared a.globals) (reverse a.definitions))
    ∙ any_map here named (reverse a.definitions) ∙ any_reversed (λ d. here (named d)) a.definitions ∙ sym (any_map here named a.definitions)

in_scope_or_reserved : (a : Algorithm) (o : Outside) (x : Word) → Theirs o.extended x ≡ false → may_be_stale a x ≡ true → in_scope (standing_inside a o) x ≡ true
in_scope_or_reserved a o x r d = by (bytes_eq (codes "self") x) refl d
  where
    by : (b : Bool) → bytes_eq (codes "self") x ≡ b → (b || is_among (map (λ d. d.title) (readings_of a)) x) ≡ true → in_scope (standing_inside a o) x ≡ true
    by true e d = absurd (true≢false (sym (or_left (is_own x) (is_standard o.extended x) (sym (ap is_own ((bytes_eq-Decides (codes "self") x).0 e)))) ∙ r))
    by false e d =
        let ws = map (λ d. d.name.word) a.definitions in
        scope_of_both ws (standing_outside a o) x ∙ or_left (is_among ws x) (in_scope (standing_outside a o) x) (sym (title_of_definition a x) ∙ d)

-- ---- algorithms

-- f tells of an offence of a reserved name
names_free : (o : Outside) (f : Refusal → Bool) → ((at : Place) → f (record { rule = Reserved; place = at }) ≡ true) → (ns : List Name)
    → list_any f (flat_map (reserved_name o) ns) ≡ false → has_one (Theirs o.extended) ns ≡ false
names_free o f told [] q = refl
names_free o f told (n ∷ ns) q =
    let p = none_of_both f (reserved_name o n) (flat_map (reserved_name o) ns) q in
    neither (by (Theirs o.extended n.word) p.0) (names_free o f told ns p.1)
  where
    by : (b : Bool) → list_any f (offence_if b Reserved n.place) ≡ false → b ≡ false
    by true e = absurd (true≢false (sym (or_left (f (record { rule = Reserved; place = n.place })) false (told n.place)) ∙ e))
    by false e = refl

pub unbound_by_rules : (f : Refusal → Bool) → ((at : Place) → f (record { rule = Rebind; place = at }) ≡ true) → ((at : Place) → f (record { rule = Reserved; place = at }) ≡ true)
    → (a : Algorithm) (o : Outside) → list_any f (rebind_offences_of a o) ≡ false → list_any f (reserved_declared a o) ≡ false → binds_definitions a ≡ false
unbound_by_rules f rebinds reserves a o q e =
    let T = Theirs o.extended in
    let D = may_be_stale a in
    let s = standing_inside a o in
    let h = in_scope_or_reserved a o in
    let ps = a.procedures in
    let ms = reverse a.macros in
    let C = macro_rebinds o.extended ps in
    -- names
    let t : Name → Bool = λ n. T n.word in
    let names_before = flat_map names_of_definition a.definitions in
    let names_in_macros = flat_map names_of_macro a.macros in
    let names_in_procedures = flat_map names_of_procedure ps in
    let names_here = names_of_main a.main in
    let bound = all_of (bound_lists a) in
    let labels = flat_map reserved_label (all_labels a) in
    let inside = none_of_both f (reserved_outside o) (flat_map (reserved_name o) (declared_names a) ++ labels) e in
    let free = names_free o f reserves (declared_names a) (none_of_both f (flat_map (reserved_name o) (declared_names a)) labels inside.1).0 in
    let n1 = none_of_both t (names_of a.globals) (names_before ++ (names_in_macros ++ (names_in_procedures ++ (names_here ++ bound)))) free in
    let n2 = none_of_both t names_before (names_in_macros ++ (names_in_procedures ++ (names_here ++ bound))) n1.1 in
    let n3 = none_of_both t names_in_macros (names_in_procedures ++ (names_here ++ bound)) n2.1 in
    let n4 = none_of_both t names_in_procedures (names_here ++ bound) n3.1 in
    let n5 = none_of_both t names_here bound n4.1 in
    -- lists
    let lists_before = flat_map (λ (d : Definition). lists_in d.body) a.definitions in
    let lists_in_macros = flat_map (λ (d : Macro). lists_in_body d.body) a.macros in
    let lists_in_procedures = flat_map lists_in_procedure ps in
    let lists_here = lists_in_main a.main in
    let l1 = none_of_both (has_one T) (lists_in_declared a.globals) (lists_before ++ (lists_in_macros ++ (lists_in_procedures ++ lists_here))) (sym (names_of_lists T (bound_lists a)) ∙ n5.1) in
    let l2 = none_of_both (has_one T) lists_before (lists_in_macros ++ (lists_in_procedures ++ lists_here)) l1.1 in
    let l3 = none_of_both (has_one T) lists_in_macros (lists_in_procedures ++ lists_here) l2.1 in
    let l4 = none_of_both (has_one T) lists_in_procedures lists_here l3.1 in
    -- offences
    let texts = texts_rebind o.extended ps C s ms in
    let in_procedures = flat_map (procedure_rebinds o.extended ps (C ms) s) ps in
    let here = main_rebinds o.extended ps (C ms) s a.main in
    let before = definitions_rebind o.extended a.definitions (standing_outside a o) in
    let q1 = none_of_both f (starts_rebind o.extended any_name a.globals s) (before ++ (texts ++ (in_procedures ++ here))) q in
    let q2 = none_of_both f before (texts ++ (in_procedures ++ here)) q1.1 in
    let q3 = none_of_both f texts (in_procedures ++ here) q2.1 in
    let q4 = none_of_both f in_procedures here q3.1 in
    let macros_free = any_reversed (bound_in_macro T) a.macros ∙ sym (any_flat (has_one T) (λ (d : Macro). lists_in_body d.body) a.macros) ∙ l3.0 in
    neither (sym (any_reversed (bound_in_macro D) a.macros) ∙ texts_unbound o.extended D f rebinds ps s h C ms macros_free q3.0)
    (neither (procedures_unbound o.extended D f rebinds ps s h (C ms) ps n4.0 l4.0 q4.0) (main_unbound o.extended D f rebinds ps s h (C ms) a.main n5.0 l4.1 q4.1))
