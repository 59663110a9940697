-- Where no rule on labels is broken, each loop is right after a label, no `return` is outside procedures, and no label is in a `with`, with macro calls written out.
use Rattle.std.proofs.Common.{◌≡◌, ℕ, suc, List, [], ◌∷◌, reverse, Bool, true, false, not, ◌||◌, cond, bytes_eq, codes, Some, None, inl, inr, refl, sym, subst}
use Rattle.std.specs.List.{flat_map, AllByRecursion}
use Rattle.tla_token.specs.declared.rule.Rule.TheVariants.{FirstLabel, LabelInside, ReturnOutside}
use Rattle.tla_tree.specs.Tree.{Word, Trees, Graft}
use Rattle.pcal_tree.specs.Algorithm.{Span, Statement, assign, await, print, assert, skip, branch, either, with, while, goto, macro, call, return, Statements, done, then, mark, Branches, no_branches, or, Macro, Procedure, Process, Main, alone, processes, Routine, procedure_routine, process_routine, numbered, first_procedure, first_process, procedure_routines, main_routines, Algorithm}
use Rattle.pcal_tree.specs.Expand.{graft_one, graft_all, graft_some, followed_by, Writing, expand_one, expand, expand_some, written_out, expanded}
use Rattle.pcal_tree.specs.Offences.{offence_if}
use Rattle.pcal_tree.specs.OffencesSteps.{Before, at_label, inside, next, Visit, visits_inside, visits, visits_of_some, due_offence, missing_label, offences_at, at_first, missing_in_body, missing_in_macro, call_effect, procedure_effects, outer_effects}
use Rattle.pcal_tree.specs.OffencesLabels.{Within, within_with, jump_offences_here, jump_offences_inside, jump_offences, jump_offences_of_some, label_words, of_macro, of_procedure, of_body, of_main, label_offences}
use Rattle.pcal_tree.specs.Paths.{Effect, Effects, nothing, after_one}
use Rattle.pcal_tree.specs.Processes.{OneOf}
use Rattle.pcal_tree.specs.Run.{Partner, partner_of, arguments}
use Rattle.pcal_tree.proofs.ClearLabels.{nothing_left, nothing_right}
use Rattle.translation.specs.laws.PlacedStatements.{PlacedOne, Placed, AllPlaced}
use Rattle.translation.proofs.AcceptedNames.{no_offence, each_none}
use Rattle.translation.proofs.EndingJumps.{while_missing, each_one}
use Rattle.translation.proofs.KnownRoutines.{reversed}
use Rattle.translation.proofs.StepsOnce.{visit_of}
use Rattle.translation.proofs.EachStepOnce.{two_fine}

-- ---- less is asked where more may be

one_more : (r w l : Bool) (st : Statement) → PlacedOne r w false st → PlacedOne r w l st
one_more r w l (branch e a b) h = h
one_more r w l (either bs) h = h
one_more r w l (with bs b) h = h
one_more r w l (while e b) h = absurd cc
one_more r w l return h = h
one_more r w l (assign ms) h = tt
one_more r w l (await e) h = tt
one_more r w l (print e) h = tt
one_more r w l (assert e) h = tt
one_more r w l skip h = tt
one_more r w l (goto m) h = tt
one_more r w l (macro m ts) h = tt
one_more r w l (call p ts) h = tt

labelled_more : (r w l : Bool) (b : Statements) → Placed r w false b → Placed r w l b
labelled_more r w l done h = tt
labelled_more r w l (then at st rest) h = (one_more r w l st h.0, h.1)
labelled_more r w l (mark m k rest) h = h

-- what has neither may stand anywhere
mutual
  one_anywhere : (r w l : Bool) (st : Statement) → PlacedOne false true l st → PlacedOne r w l st
  one_anywhere r w l (branch e a b) h = (all_anywhere r w false a h.0, all_anywhere r w false b h.1)
  one_anywhere r w l (either bs) h = some_anywhere r w bs h
  one_anywhere r w l (with bs b) h = all_anywhere r true false b h
  one_anywhere r w l (while e b) h = (h.0, all_anywhere r w false b h.1)
  one_anywhere r w l return h = absurd cc
  one_anywhere r w l (assign ms) h = tt
  one_anywhere r w l (await e) h = tt
  one_anywhere r w l (print e) h = tt
  one_anywhere r w l (assert e) h = tt
  one_anywhere r w l skip h = tt
  one_anywhere r w l (goto m) h = tt
  one_anywhere r w l (macro m ts) h = tt
  one_anywhere r w l (call p ts) h = tt

  all_anywhere : (r w l : Bool) (b : Statements) → Placed false true l b → Placed r w l b
  all_anywhere r w l done h = tt
  all_anywhere r w l (then at st rest) h = (one_anywhere r w l st h.0, all_anywhere r w false rest h.1)
  all_anywhere r w l (mark m k rest) h = absurd (differ h.0)
    where
      differ : true ≡ false → ⊥
      differ e = cc

  some_anywhere : (r w : Bool) (bs : Branches) → AllPlaced false true bs → AllPlaced r w bs
  some_anywhere r w no_branches h = tt
  some_anywhere r w (or b bs) h = (all_anywhere r w false b h.0, some_anywhere r w bs h.1)

-- ---- trees put in, and macro calls written out

mutual
  one_put : (g : Graft) (r w l : Bool) (st : Statement) → PlacedOne r w l st → PlacedOne r w l (graft_one g st)
  one_put g r w l (branch e a b) h = (all_put g r w false a h.0, all_put g r w false b h.1)
  one_put g r w l (either bs) h = some_put g r w bs h
  one_put g r w l (with bs b) h = all_put g r true false b h
  one_put g r w l (while e b) h = (h.0, all_put g r w false b h.1)
  one_put g r w l return h = h
  one_put g r w l (assign ms) h = tt
  one_put g r w l (await e) h = tt
  one_put g r w l (print e) h = tt
  one_put g r w l (assert e) h = tt
  one_put g r w l skip h = tt
  one_put g r w l (goto m) h = tt
  one_put g r w l (macro m ts) h = tt
  one_put g r w l (call p ts) h = tt

  all_put : (g : Graft) (r w l : Bool) (b : Statements) → Placed r w l b → Placed r w l (graft_all g b)
  all_put g r w l done h = tt
  all_put g r w l (then at st rest) h = (one_put g r w l st h.0, all_put g r w false rest h.1)
  all_put g r w l (mark m k rest) h = (h.0, all_put g r w true rest h.1)

  some_put : (g : Graft) (r w : Bool) (bs : Branches) → AllPlaced r w bs → AllPlaced r w (graft_some g bs)
  some_put g r w no_branches h = tt
  some_put g r w (or b bs) h = (all_put g r w false b h.0, some_put g r w bs h.1)

followed_placed : (r w l : Bool) (a b : Statements) → Placed r w l a → Placed r w false b → Placed r w l (followed_by a b)
followed_placed r w l done b h k = labelled_more r w l b k
followed_placed r w l (then at st a) b h k = (h.0, followed_placed r w false a b h.1 k)
followed_placed r w l (mark m n a) b h k = (h.0, followed_placed r w true a b h.1 k)

abbrev CallsPlaced : Writing → Type 0
CallsPlaced X = (at : Span) (m : Word) (ts : Trees) → Placed false true false (X at m ts)

module _ (X : Writing) (calls : CallsPlaced X) where
  mutual
    one_expanded : (r w l : Bool) (at : Span) (st : Statement) (rest : Statements) → PlacedOne r w l st → Placed r w false rest → Placed r w l (expand_one X at st rest)
    one_expanded r w l at (macro m ts) rest h k = followed_placed r w l (X at m ts) rest (all_anywhere r w l (X at m ts) (labelled_more false true l (X at m ts) (calls at m ts))) k
    one_expanded r w l at (branch e a b) rest h k = ((all_expanded r w false a h.0, all_expanded r w false b h.1), k)
    one_expanded r w l at (either bs) rest h k = (some_expanded r w bs h, k)
    one_expanded r w l at (with bs b) rest h k = (all_expanded r true false b h, k)
    one_expanded r w l at (while e b) rest h k = ((h.0, all_expanded r w false b h.1), k)
    one_expanded r w l at return rest h k = (h, k)
    one_expanded r w l at (assign ms) rest h k = (tt, k)
    one_expanded r w l at (await e) rest h k = (tt, k)
    one_expanded r w l at (print e) rest h k = (tt, k)
    one_expanded r w l at (assert e) rest h k = (tt, k)
    one_expanded r w l at skip rest h k = (tt, k)
    one_expanded r w l at (goto m) rest h k = (tt, k)
    one_expanded r w l at (call p ts) rest h k = (tt, k)

    all_expanded : (r w l : Bool) (b : Statements) → Placed r w l b → Placed r w l (expand X b)
    all_expanded r w l done h = tt
    all_expanded r w l (then at st rest) h = one_expanded r w l at st (expand X rest) h.0 (all_expanded r w false rest h.1)
    all_expanded r w l (mark m k rest) h = (h.0, all_expanded r w true rest h.1)

    some_expanded : (r w : Bool) (bs : Branches) → AllPlaced r w bs → AllPlaced r w (expand_some X bs)
    some_expanded r w no_branches h = tt
    some_expanded r w (or b bs) h = (all_expanded r w false b h.0, some_expanded r w bs h.1)

-- ---- by the rules

abbrev NoOffences : Effects → List Visit → Type 0
NoOffences E vs = flat_map (offences_at E) vs ≡ []

or_true : (b : Bool) → (b || true) ≡ true
or_true true = refl
or_true false = refl

module _ (E : Effects) where
  mutual
    one_placed : (w : Within) (p : Before) (at : Span) (st : Statement) (j : Partner) → offences_at E (visit_of p at st j) ≡ [] → NoOffences E (visits_inside E p st)
        → jump_offences_here w at.first st ≡ [] → jump_offences_inside w st ≡ [] → PlacedOne w.procedure (w.macro || w.with) p.labelled st
    one_placed w p at (branch e a b) j o i h k =
        let v = two_fine E (visits E (inside p.path) a) (visits E (inside p.path) b) i in
        (all_placed w (inside p.path) a v.0 (nothing_left (jump_offences w a) _ k), all_placed w (inside p.path) b v.1 (nothing_right (jump_offences w a) _ k))
    one_placed w p at (either bs) j o i h k = some_placed w (inside p.path) refl bs i k
    one_placed w p at (with bs b) j o i h k = subst (λ (c : Bool). Placed w.procedure c false b) (or_true w.macro) (all_placed (within_with w) (inside p.path) b i k)
    one_placed w p at (while e b) j o i h k =
        (labelled p.labelled refl, all_placed w (inside (after_one E (while e b) p.labelled p.path)) b i k)
      where
        labelled : (l : Bool) → p.labelled ≡ l → l ≡ true
        labelled true q = refl
        labelled false q = absurd (while_missing p.labelled (due_offence p.due at.first) _ q (nothing_left (missing_label (visit_of p at (while e b) j)) _ o))
    one_placed w p at return j o i h k = returns w.procedure (no_offence (not w.procedure) ReturnOutside at.first (nothing_right (offence_if w.macro _ at.first) _ h))
      where
        returns : (b : Bool) → not b ≡ false → b ≡ true
        returns true e = refl
        returns false e = cc
    one_placed w p at (assign ms) j o i h k = tt
    one_placed w p at (await e) j o i h k = tt
    one_placed w p at (print e) j o i h k = tt
    one_placed w p at (assert e) j o i h k = tt
    one_placed w p at skip j o i h k = tt
    one_placed w p at (goto m) j o i h k = tt
    one_placed w p at (macro m ts) j o i h k = tt
    one_placed w p at (call q ts) j o i h k = tt

    all_placed : (w : Within) (p : Before) (b : Statements) → NoOffences E (visits E p b) → jump_offences w b ≡ [] → Placed w.procedure (w.macro || w.with) p.labelled b
    all_placed w p done o k = tt
    all_placed w p (then at st rest) o k =
        let j = partner_of rest in
        let v = two_fine E (visits_inside E p st) (visits E (next E p st j) rest) (nothing_right (offences_at E (visit_of p at st j)) _ o) in
        let r = nothing_right (jump_offences_here w at.first st) _ k in (
          one_placed w p at st j (nothing_left (offences_at E (visit_of p at st j)) _ o) v.0 (nothing_left (jump_offences_here w at.first st) _ k) (nothing_left (jump_offences_inside w st) _ r),
          all_placed w (next E p st j) rest v.1 (nothing_right (jump_offences_inside w st) _ r),
        )
    all_placed w p (mark m n rest) o k =
        (no_offence (w.macro || w.with) LabelInside m.place (nothing_left (offence_if (w.macro || w.with) LabelInside m.place) _ k), all_placed w at_label rest o (nothing_right (offence_if (w.macro || w.with) LabelInside m.place) _ k))

    some_placed : (w : Within) (p : Before) → p.labelled ≡ false → (bs : Branches) → NoOffences E (visits_of_some E p bs) → jump_offences_of_some w bs ≡ [] → AllPlaced w.procedure (w.macro || w.with) bs
    some_placed w p l no_branches o k = tt
    some_placed w p l (or b bs) o k =
        let v = two_fine E (visits E p b) (visits_of_some E p bs) o in
        (subst (λ (c : Bool). Placed w.procedure (w.macro || w.with) c b) l (all_placed w p b v.0 (nothing_left (jump_offences w b) _ k)), some_placed w p l bs v.1 (nothing_right (jump_offences w b) _ k))

-- ---- bodies

-- of a procedure, or not
abbrev within : Bool → Bool → Statements → Within
within m q b = record { macro = m; with = false; procedure = q; targets = codes "Done" ∷ label_words b }

macros_placed : (ds : List Macro) → AllByRecursion (λ (d : Macro). of_macro d ≡ []) ds → CallsPlaced (written_out ds)
macros_placed [] h at m ts = (tt, tt)
macros_placed (d ∷ older) h at m ts = by (bytes_eq d.name.word m) (macros_placed older h.1)
  where
    body : Placed false true false d.body
    body = all_placed (λ st. nothing) (within true false d.body) (at_first None) d.body (nothing_left (missing_in_macro d) _ h.0)
        (nothing_left (jump_offences (within true false d.body) d.body) _ (nothing_right (missing_in_macro d) _ h.0))

    by : (b : Bool) → CallsPlaced (written_out older) → Placed false true false (cond b (graft_all (arguments d.params ts) (expand (written_out older) d.body)) (written_out older at m ts))
    by true f = all_put (arguments d.params ts) false true false (expand (written_out older) d.body) (all_expanded (written_out older) f false true false d.body body)
    by false f = f at m ts

module _ (ms : List Macro) (calls : CallsPlaced (written_out ms)) (C : Word → Trees → Effect) where
  body_placed : (E : Effects) (q : Bool) (b : Statements) → missing_in_body E b ≡ [] → jump_offences (within false q b) b ≡ [] → Placed q false false (expanded ms b)
  body_placed E q b h k = all_expanded (written_out ms) calls q false false b (all_placed E (within false q b) (at_first (Some FirstLabel)) b h k)

  procedures_placed : (n : ℕ) (ps : List Procedure) → flat_map (of_procedure C) ps ≡ [] → (u : Routine) → OneOf u (numbered procedure_routine n ps) → Placed true false false (expanded ms u.body)
  procedures_placed n [] e u k = absurd k
  procedures_placed n (p ∷ ps) e u (inl q) =
      let h = nothing_left (of_procedure C p) _ e in
      subst (λ (v : Routine). Placed true false false (expanded ms v.body)) (sym q)
      (body_placed (procedure_effects C p) true p.body (nothing_left (missing_in_body (procedure_effects C p) p.body) _ h)
      (nothing_left (jump_offences (within false true p.body) p.body) _ (nothing_right (missing_in_body (procedure_effects C p) p.body) _ h)))
  procedures_placed n (p ∷ ps) e u (inr k) = procedures_placed (suc n) ps (nothing_right (of_procedure C p) _ e) u k

  main_body : (b : Statements) → of_body C b ≡ [] → Placed false false false (expanded ms b)
  main_body b h =
      body_placed (outer_effects C) false b (nothing_left (missing_in_body (outer_effects C) b) _ h)
      (nothing_left (jump_offences (within false false b) b) _ (nothing_right (missing_in_body (outer_effects C) b) _ h))

  processes_placed : (n : ℕ) (ps : List Process) → flat_map (λ (p : Process). of_body C p.body) ps ≡ [] → (u : Routine) → OneOf u (numbered process_routine n ps) → Placed false false false (expanded ms u.body)
  processes_placed n [] e u k = absurd k
  processes_placed n (p ∷ ps) e u (inl q) = subst (λ (v : Routine). Placed false false false (expanded ms v.body)) (sym q) (main_body p.body (nothing_left (of_body C p.body) _ e))
  processes_placed n (p ∷ ps) e u (inr k) = processes_placed (suc n) ps (nothing_right (of_body C p.body) _ e) u k

  main_placed : (a : Algorithm) (m : Main) → of_main C m ≡ [] → (u : Routine) → OneOf u (main_routines a m) → Placed false false false (expanded ms u.body)
  main_placed a (alone b) e u (inl q) = subst (λ (v : Routine). Placed false false false (expanded ms v.body)) (sym q) (main_body b e)
  main_placed a (alone b) e u (inr k) = absurd k
  main_placed a (processes ps) e u k = processes_placed (first_process a) ps e u k

rules_of : (a : Algorithm) → label_offences a ≡ [] → CallsPlaced (written_out (reverse a.macros))
rules_of a e = macros_placed (reverse a.macros) (reversed (λ (d : Macro). of_macro d ≡ []) a.macros (each_one (λ (d : Macro). of_macro d ≡ []) a.macros (each_none of_macro a.macros (nothing_left (flat_map of_macro a.macros) _ e))))

-- in a procedure
pub procedure_placed : (a : Algorithm) → label_offences a ≡ [] → (u : Routine) → OneOf u (procedure_routines a) → Placed true false false (expanded (reverse a.macros) u.body)
procedure_placed a e u k =
    procedures_placed (reverse a.macros) (rules_of a e) (call_effect (reverse a.macros)) (first_procedure a) a.procedures
    (nothing_left (flat_map (of_procedure (call_effect (reverse a.macros))) a.procedures) _ (nothing_right (flat_map of_macro a.macros) _ e)) u k

-- in a process, or the one body
pub body_placed_in : (a : Algorithm) → label_offences a ≡ [] → (u : Routine) → OneOf u (main_routines a a.main) → Placed false false false (expanded (reverse a.macros) u.body)
body_placed_in a e u k =
    main_placed (reverse a.macros) (rules_of a e) (call_effect (reverse a.macros)) a a.main
    (nothing_right (flat_map (of_procedure (call_effect (reverse a.macros))) a.procedures) (of_main (call_effect (reverse a.macros)) a.main) (nothing_right (flat_map of_macro a.macros) _ e)) u k
