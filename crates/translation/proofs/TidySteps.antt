-- From each label of an accepted algorithm on, macro calls written out and names given, what jumps ends its list, each call is of a procedure with as many parameters as it
-- has arguments, and there is a `return` only where there are procedures.
use Rattle.std.proofs.Common.{◌≡◌, ℕ, suc, length, List, [], ◌∷◌, reverse, Bool, true, false, ◌||◌, ◌&&◌, not, cond, nat_eq, bytes_eq, Some, ◌⊎◌, inl, inr, refl, sym, ap, subst, ◌∙◌, arith}
use Rattle.std.specs.List.{flat_map}
use Rattle.std.proofs.lemmas.Bool.{or_parts, and_from, eqb-true}
use Rattle.std.proofs.lemmas.Slice.Eq.{bytes_eq-Decides}
use Rattle.tla_token.specs.declared.place.Place.{Place}
use Rattle.tla_token.specs.declared.rule.Rule.TheVariants.{LabelInside, ReturnOutside, Arity}
use Rattle.tla_tree.specs.Tree.{Word, Form, name, Tree, node, Trees, no_trees, tree, Graft, grafts}
use Rattle.tla_tree.specs.laws.Writable.{IsIdentifier, AreWritable}
use Rattle.pcal_tree.specs.Algorithm.{Name, Span, Binds, no_binds, one_of, is, Statement, assign, await, print, assert, skip, branch, either, with, while, goto, macro, call, return, Statements, done, then, mark, Branches, no_branches, or, Declaration, Procedure, Process, Main, alone, processes, Routine, procedure_routine, process_routine, numbered, first_procedure, first_process, procedure_routines, main_routines, routines, Algorithm}
use Rattle.pcal_tree.specs.Calls.{routine_named}
use Rattle.pcal_tree.specs.Expand.{graft_binds, graft_one, graft_all, graft_some, followed_by, Writing, expand_one, expand, expand_some}
use Rattle.pcal_tree.specs.NameUses.{Sight}
use Rattle.pcal_tree.specs.Offences.{offence_if}
use Rattle.pcal_tree.specs.OffencesLabels.{Within, within_with, jump_offences_here, jump_offences_inside, jump_offences, jump_offences_of_some, misplaced, of_macro, of_procedure, of_body, of_main, label_offences}
use Rattle.pcal_tree.specs.OffencesNames.{Calls, count, call_offences, in_whole, in_binds, after_binds, in_one, in_body, in_branches}
use Rattle.pcal_tree.specs.OffencesSteps.{call_effect, missing_in_body, procedure_effects, outer_effects}
use Rattle.pcal_tree.specs.Paths.{Effect}
use Rattle.pcal_tree.specs.Processes.{OneOf}
use Rattle.pcal_tree.specs.Program.{Program}
use Rattle.pcal_tree.specs.Run.{Partner, partner_of}
use Rattle.pcal_tree.specs.Variables.{written_all}
use Rattle.pcal_tree.specs.laws.Expansion.{ThroughoutBinds, ThroughoutOne, Throughout, ThroughoutSome}
use Rattle.pcal_tree.proofs.ClearLabels.{both_none}
use Rattle.pcal_tree.proofs.RoutineNames.{one_either}
use Rattle.tla_value.specs.laws.Grafting.{In}
use Rattle.action_builder.specs.Settled.{jumps_one, jumps, jumps_some}
use Rattle.action_builder.specs.Written.{old_stack}
use Rattle.action_builder.specs.laws.Jumps.{as_many, lacks, all_lack, is_name}
use Rattle.action_builder.specs.laws.Settling.{Callable, Stops, EachBind, TidyOne, Tidy, TidySome}
use Rattle.action_builder.proofs.FitTrees.{FitNames, Fits, AllFit}
use Rattle.translation.specs.laws.JumpsEnd.{JumpEnds, JumpsEnd, AllJumpsEnd}
use Rattle.translation.specs.laws.WritableAlgorithm.{IsWritableStatement, AreWritableStatements, AreWritableBranches}
use Rattle.translation.proofs.AcceptedNames.{no_offence}
use Rattle.translation.proofs.EndingJumps.{all_jumps, some_jumps, IsStill}
use Rattle.translation.proofs.FromLabels.{Passes}

-- ---- calls and returns, up to the next label

module _ (K : Name → Trees → Type 0) (R : Type 0) where
  abbrev mutual
    pub CallsFitOne : Statement → Type 0
    CallsFitOne (branch e a b) = CallsFit a × CallsFit b
    CallsFitOne (either bs) = CallsFitSome bs
    CallsFitOne (with bs b) = CallsFit b
    CallsFitOne (while e b) = CallsFit b
    CallsFitOne (call p ts) = K p ts
    CallsFitOne return = R
    CallsFitOne _ = Unit {0}

    pub CallsFit : Statements → Type 0
    CallsFit done = Unit {0}
    CallsFit (then at st rest) = CallsFitOne st × CallsFit rest
    CallsFit (mark l k rest) = Unit {0}

    pub CallsFitSome : Branches → Type 0
    CallsFitSome no_branches = Unit {0}
    CallsFitSome (or b bs) = CallsFit b × CallsFitSome bs

  -- there are none where nothing jumps
  mutual
    quiet_one : (st : Statement) → jumps_one st ≡ false → CallsFitOne st
    quiet_one (branch e a b) q = (let k = or_parts (jumps a) (jumps b) q in (quiet a k.0, quiet b k.1))
    quiet_one (either bs) q = quiet_some bs q
    quiet_one (with bs b) q = quiet b q
    quiet_one (while e b) q = cc
    quiet_one (goto l) q = cc
    quiet_one (call p ts) q = cc
    quiet_one return q = cc
    quiet_one (assign ms) q = tt
    quiet_one (await e) q = tt
    quiet_one (print e) q = tt
    quiet_one (assert e) q = tt
    quiet_one skip q = tt
    quiet_one (macro m ts) q = tt

    quiet : (ss : Statements) → jumps ss ≡ false → CallsFit ss
    quiet done q = tt
    quiet (then at st rest) q = (let k = or_parts (jumps_one st) (jumps rest) q in (quiet_one st k.0, quiet rest k.1))
    quiet (mark l k rest) q = tt

    quiet_some : (bs : Branches) → jumps_some bs ≡ false → CallsFitSome bs
    quiet_some no_branches q = tt
    quiet_some (or b bs) q = (let k = or_parts (jumps b) (jumps_some bs) q in (quiet b k.0, quiet_some bs k.1))

  followed_fit : (a b : Statements) → CallsFit a → CallsFit b → CallsFit (followed_by a b)
  followed_fit done b h k = k
  followed_fit (then at st a) b h k = (h.0, followed_fit a b h.1 k)
  followed_fit (mark l m a) b h k = tt

  -- where no call and no `return` offends; macro calls bring neither
  module _ (C : Calls) (ps : List Procedure) (X : Writing) (still : IsStill X) (known : (at : Place) (p : Name) (ts : Trees) → call_offences ps at p (count ts) ≡ [] → K p ts) where
    abbrev Inside : Within → Type 0
    Inside w = w.procedure ≡ true → R

    returns_inside : (b : Bool) (at : Place) → offence_if (not b) ReturnOutside at ≡ [] → b ≡ true
    returns_inside true at e = refl
    returns_inside false at e = cc

    mutual
      one_fits : (w : Within) → Inside w → (s : Sight) (p q : Place) (at : Span) (st : Statement) (rest : Statements) → in_one C ps p st s ≡ [] → jump_offences_here w q st ≡ [] → jump_offences_inside w st ≡ [] → CallsFit rest
          → CallsFit (expand_one X at st rest)
      one_fits w i s p q at (branch e a b) rest u h k r =
          let v = both_none (in_body C ps a s) (in_body C ps b s) (both_none (in_whole e s) _ u).1 in
          let j = both_none (jump_offences w a) (jump_offences w b) k in
          ((all_fit w i s a v.0 j.0, all_fit w i s b v.1 j.1), r)
      one_fits w i s p q at (either bs) rest u h k r = (some_fit w i s bs u k, r)
      one_fits w i s p q at (with bs b) rest u h k r = (all_fit (within_with w) i (after_binds bs s) b (both_none (in_binds bs s) _ u).1 k, r)
      one_fits w i s p q at (while e b) rest u h k r = (all_fit w i s b (both_none (in_whole e s) _ u).1 k, r)
      one_fits w i s p q at (macro m ts) rest u h k r = followed_fit (X at m ts) rest (quiet (X at m ts) (still at m ts)) r
      one_fits w i s p q at (call n ts) rest u h k r = (known p n ts (both_none (call_offences ps p n (count ts)) _ u).0, r)
      one_fits w i s p q at return rest u h k r = (i (returns_inside w.procedure q (both_none (offence_if w.macro LabelInside q) _ h).1), r)
      one_fits w i s p q at (assign ms) rest u h k r = (tt, r)
      one_fits w i s p q at (await e) rest u h k r = (tt, r)
      one_fits w i s p q at (print e) rest u h k r = (tt, r)
      one_fits w i s p q at (assert e) rest u h k r = (tt, r)
      one_fits w i s p q at skip rest u h k r = (tt, r)
      one_fits w i s p q at (goto l) rest u h k r = (tt, r)

      pub all_fit : (w : Within) → Inside w → (s : Sight) (b : Statements) → in_body C ps b s ≡ [] → jump_offences w b ≡ [] → CallsFit (expand X b)
      all_fit w i s done u h = tt
      all_fit w i s (then at st rest) u h =
          let v = both_none (in_one C ps at.first st s) (in_body C ps rest s) u in
          let j = both_none (jump_offences_here w at.first st) _ h in
          let k = both_none (jump_offences_inside w st) (jump_offences w rest) j.1 in
          one_fits w i s at.first at.first at st (expand X rest) v.0 j.0 k.0 (all_fit w i s rest v.1 k.1)
      all_fit w i s (mark l k rest) u h = tt

      some_fit : (w : Within) → Inside w → (s : Sight) (bs : Branches) → in_branches C ps bs s ≡ [] → jump_offences_of_some w bs ≡ [] → CallsFitSome (expand_some X bs)
      some_fit w i s no_branches u h = tt
      some_fit w i s (or b bs) u h =
          let v = both_none (in_body C ps b s) (in_branches C ps bs s) u in
          let j = both_none (jump_offences w b) (jump_offences_of_some w bs) h in
          (all_fit w i s b v.0 j.0, some_fit w i s bs v.1 j.1)

  -- ---- tidy statements

  module _ (F : Form → Place → Type 0) (f : Word → Bool) (V D : Word → Bool) (h : Graft) (g : Callable)
      (calls : (p : Name) (ts : Trees) (j : Partner) → K p ts → AreWritable ts → g.calls p (grafts h ts) j ≡ true) (returns : R → g.returns ≡ true) where
    stops_still : (ss : Statements) → Stops ss → Stops (graft_all h ss)
    stops_still done k = tt
    stops_still (then at st rest) k = absurd k
    stops_still (mark l m rest) k = tt

    each_bind : (bs : Binds) → ThroughoutBinds F (In f) bs → EachBind (In f) (graft_binds h bs)
    each_bind no_binds k = tt
    each_bind (one_of x e bs) k = (k.1, each_bind bs k.2)
    each_bind (is x e bs) k = (k.1, each_bind bs k.2)

    mutual
      one_tidy : (st : Statement) (rest : Statements) → JumpEnds st rest → ThroughoutOne F (In f) st → CallsFitOne st → IsWritableStatement D V st → TidyOne (In f) g (graft_one h st) (graft_all h rest)
      one_tidy (branch e a b) rest j t c w =
          (all_tidy a j.0 t.1 c.0 w.1, all_tidy b j.1 t.2 c.1 w.2, λ q. stops_still rest (j.2 ((λ i. sym (all_jumps h a) i || sym (all_jumps h b) i) ∙ q)))
      one_tidy (either no_branches) rest j t c w = absurd w
      one_tidy (either (or b bs)) rest j t c w =
          ((all_tidy b j.0.0 t.0 c.0 w.0, some_tidy bs j.0.1 t.1 c.1 w.1), λ q. stops_still rest (j.1 (sym (some_jumps h (or b bs)) ∙ q)))
      one_tidy (with bs b) rest j t c w = (all_tidy b j.0 t.1 c w.1, (λ q. stops_still rest (j.1 (sym (all_jumps h b) ∙ q))), each_bind bs t.0)
      one_tidy (while e b) rest j t c w = all_tidy b j t.1 c w.1
      one_tidy (macro m ts) rest j t c w = absurd t
      one_tidy (call p ts) rest j t c w = calls p ts (partner_of (graft_all h rest)) c w.1
      one_tidy return rest j t c w = returns c
      one_tidy (assign ms) rest j t c w = tt
      one_tidy (await e) rest j t c w = tt
      one_tidy (print e) rest j t c w = tt
      one_tidy (assert e) rest j t c w = tt
      one_tidy skip rest j t c w = tt
      one_tidy (goto l) rest j t c w = tt

      pub all_tidy : (ss : Statements) → JumpsEnd ss → Throughout F (In f) ss → CallsFit ss → AreWritableStatements D V ss → Tidy (In f) g (graft_all h ss)
      all_tidy done j t c w = tt
      all_tidy (then at st rest) j t c w = (one_tidy st rest j.0 t.0 c.0 w.0, all_tidy rest j.1 t.1 c.1 w.1)
      all_tidy (mark l m rest) j t c w = tt

      some_tidy : (bs : Branches) → AllJumpsEnd bs → ThroughoutSome F (In f) bs → CallsFitSome bs → AreWritableBranches D V bs → TidySome (In f) g (graft_some h bs)
      some_tidy no_branches j t c w = tt
      some_tidy (or b bs) j t c w = (all_tidy b j.0 t.0 c.0 w.0, some_tidy bs j.1 t.1 c.1 w.1)

-- ---- from a label on

-- where the parts of a statement are all that is told of it
abbrev pub PartsOf : (Statements → Type 0) → (Branches → Type 0) → Statement → Type 0
PartsOf A C (branch e a b) = A a × A b
PartsOf A C (either bs) = C bs
PartsOf A C (with bs b) = A b
PartsOf A C (while e b) = A b
PartsOf A C _ = Unit {0}

module _ (X : Writing) where
  abbrev pub Ends : Statements → Type 0
  Ends ss = JumpsEnd (expand X ss)

  abbrev pub EndsSome : Branches → Type 0
  EndsSome bs = AllJumpsEnd (expand_some X bs)

  ends_after : (a b : Statements) → JumpsEnd (followed_by a b) → JumpsEnd b
  ends_after done b h = h
  ends_after (then at st a) b h = ends_after a b h.1
  ends_after (mark l k a) b h = ends_after a b h

  ends_first : (at : Span) (st : Statement) (rest : Statements) → Ends (then at st rest) → PartsOf Ends EndsSome st × Ends rest
  ends_first at (branch e a b) rest h = ((h.0.0, h.0.1), h.1)
  ends_first at (either bs) rest h = (h.0.0, h.1)
  ends_first at (with bs b) rest h = (h.0.0, h.1)
  ends_first at (while e b) rest h = (h.0, h.1)
  ends_first at (macro m ts) rest h = (tt, ends_after (X at m ts) (expand X rest) h)
  ends_first at (assign ms) rest h = (tt, h.1)
  ends_first at (await e) rest h = (tt, h.1)
  ends_first at (print e) rest h = (tt, h.1)
  ends_first at (assert e) rest h = (tt, h.1)
  ends_first at skip rest h = (tt, h.1)
  ends_first at (goto l) rest h = (tt, h.1)
  ends_first at (call p ts) rest h = (tt, h.1)
  ends_first at return rest h = (tt, h.1)

  pub ends_pass : Passes Ends (PartsOf Ends EndsSome) EndsSome
  ends_pass = record {
    of_first = ends_first;
    of_mark = λ l k rest h. h;
    of_branch = λ e a b h. h;
    of_either = λ bs h. h;
    of_with = λ bs b h. h;
    of_while = λ e b h. h;
    of_or = λ b bs h. h;
  }

  module _ (D V : Word → Bool) where
    abbrev pub Written : Statements → Type 0
    Written ss = AreWritableStatements D V (expand X ss)

    abbrev pub WrittenSome : Branches → Type 0
    WrittenSome bs = AreWritableBranches D V (expand_some X bs)

    written_after : (a b : Statements) → AreWritableStatements D V (followed_by a b) → AreWritableStatements D V b
    written_after done b h = h
    written_after (then at st a) b h = written_after a b h.1
    written_after (mark l k a) b h = written_after a b h.1

    written_first : (at : Span) (st : Statement) (rest : Statements) → Written (then at st rest) → PartsOf Written WrittenSome st × Written rest
    written_first at (branch e a b) rest h = ((h.0.1, h.0.2), h.1)
    written_first at (either no_branches) rest h = absurd h.0
    written_first at (either (or b bs)) rest h = (h.0, h.1)
    written_first at (with bs b) rest h = (h.0.1, h.1)
    written_first at (while e b) rest h = (h.0.1, h.1)
    written_first at (macro m ts) rest h = (tt, written_after (X at m ts) (expand X rest) h)
    written_first at (assign ms) rest h = (tt, h.1)
    written_first at (await e) rest h = (tt, h.1)
    written_first at (print e) rest h = (tt, h.1)
    written_first at (assert e) rest h = (tt, h.1)
    written_first at skip rest h = (tt, h.1)
    written_first at (goto l) rest h = (tt, h.1)
    written_first at (call p ts) rest h = (tt, h.1)
    written_first at return rest h = (tt, h.1)

    pub written_pass : Passes Written (PartsOf Written WrittenSome) WrittenSome
    written_pass = record {
      of_first = written_first;
      of_mark = λ l k rest h. h.1;
      of_branch = λ e a b h. h;
      of_either = λ bs h. h;
      of_with = λ bs b h. h;
      of_while = λ e b h. h;
      of_or = λ b bs h. h;
    }

-- no jump is where it may not be, and where there is a `return` this is in a procedure
module _ (R : Type 0) where
  abbrev pub Placed : Statements → Type 0
  Placed ss = (w : Within) × (w.procedure ≡ true → R) × (jump_offences w ss ≡ [])

  abbrev PlacedOne : Statement → Type 0
  PlacedOne st = (w : Within) × (w.procedure ≡ true → R) × (jump_offences_inside w st ≡ [])

  abbrev PlacedSome : Branches → Type 0
  PlacedSome bs = (w : Within) × (w.procedure ≡ true → R) × (jump_offences_of_some w bs ≡ [])

  pub placed_pass : Passes Placed PlacedOne PlacedSome
  placed_pass = record {
    of_first = λ at st rest h.
        (let j = both_none (jump_offences_here h.0 at.first st) _ h.2 in
        let k = both_none (jump_offences_inside h.0 st) (jump_offences h.0 rest) j.1 in
        ((h.0, h.1, k.0), (h.0, h.1, k.1)));
    of_mark = λ l k rest h. (h.0, h.1, (both_none (offence_if (h.0.macro || h.0.with) LabelInside l.place) (jump_offences h.0 rest) h.2).1);
    of_branch = λ e a b h. (let k = both_none (jump_offences h.0 a) (jump_offences h.0 b) h.2 in ((h.0, h.1, k.0), (h.0, h.1, k.1)));
    of_either = λ bs h. h;
    of_with = λ bs b h. (within_with h.0, h.1, h.2);
    of_while = λ e b h. h;
    of_or = λ b bs h. (let k = both_none (jump_offences h.0 b) (jump_offences_of_some h.0 bs) h.2 in ((h.0, h.1, k.0), (h.0, h.1, k.1)));
  }

  -- ---- of each routine, where there is an R if there is a procedure

  module _ (C : Word → Trees → Effect) where
    procedures_placed : (n : ℕ) (ps : List Procedure) → R → flat_map (of_procedure C) ps ≡ [] → (u : Routine) → OneOf u (numbered procedure_routine n ps) → Placed u.body
    procedures_placed n [] r e u k = absurd k
    procedures_placed n (p ∷ ps) r e u (inl q) =
        let j = both_none (missing_in_body (procedure_effects C p) p.body) (misplaced false true p.body) (both_none (of_procedure C p) _ e).0 in
        subst (λ (v : Routine). Placed v.body) (sym q) (_, (λ z. r), (both_none (jump_offences _ p.body) _ j.1).0)
    procedures_placed n (p ∷ ps) r e u (inr k) = procedures_placed (suc n) ps r (both_none (of_procedure C p) _ e).1 u k

    body_placed : (b : Statements) → of_body C b ≡ [] → Placed b
    body_placed b e =
        (_, (λ z. absurd (false_true z)), (both_none (jump_offences _ b) _ (both_none (missing_in_body (outer_effects C) b) (misplaced false false b) e).1).0)
      where
        false_true : false ≡ true → ⊥
        false_true z = cc

    processes_placed : (n : ℕ) (ps : List Process) → flat_map (λ (p : Process). of_body C p.body) ps ≡ [] → (u : Routine) → OneOf u (numbered process_routine n ps) → Placed u.body
    processes_placed n [] e u k = absurd k
    processes_placed n (p ∷ ps) e u (inl q) = subst (λ (v : Routine). Placed v.body) (sym q) (body_placed p.body (both_none (of_body C p.body) _ e).0)
    processes_placed n (p ∷ ps) e u (inr k) = processes_placed (suc n) ps (both_none (of_body C p.body) _ e).1 u k

    main_placed : (a : Algorithm) (m : Main) → of_main C m ≡ [] → (u : Routine) → OneOf u (main_routines a m) → Placed u.body
    main_placed a (alone b) e u (inl q) = subst (λ (v : Routine). Placed v.body) (sym q) (body_placed b e)
    main_placed a (alone b) e u (inr k) = absurd k
    main_placed a (processes ps) e u k = processes_placed (first_process a) ps e u k

  pub routine_placed : (a : Algorithm) → ((u : Routine) → OneOf u (procedure_routines a) → R) → label_offences a ≡ [] → (u : Routine) → OneOf u (routines a) → Placed u.body
  routine_placed a f e u k =
      let C = call_effect (reverse a.macros) in
      let r = both_none (flat_map (of_procedure C) a.procedures) (of_main C a.main) (both_none (flat_map of_macro a.macros) _ e).1 in
      by r.0 r.1 (one_either u (procedure_routines a) (main_routines a a.main) k)
    where
      by : flat_map (of_procedure (call_effect (reverse a.macros))) a.procedures ≡ [] → of_main (call_effect (reverse a.macros)) a.main ≡ [] → OneOf u (procedure_routines a) ⊎ OneOf u (main_routines a a.main) → Placed u.body
      by b c (inl q) = procedures_placed (call_effect (reverse a.macros)) (first_procedure a) a.procedures (f u q) b u q
      by b c (inr q) = main_placed (call_effect (reverse a.macros)) a a.main c u q

-- ---- calls that fit

-- a procedure of the name, with as many parameters as arguments
abbrev pub Called : List Routine → Name → Trees → Type 0
Called us p ts = (r : Routine) × (routine_named p.word us ≡ Some r) × (length r.params ≡ count ts)

pub called_known : (n : ℕ) (ps : List Procedure) (at : Place) (p : Name) (ts : Trees) → call_offences ps at p (count ts) ≡ [] → Called (numbered procedure_routine n ps) p ts
called_known n [] at p ts e = cc
called_known n (d ∷ ds) at p ts e = by (bytes_eq d.name.word p.word) e (called_known (suc n) ds at p ts)
  where
    by : (b : Bool) → cond b (offence_if (not (nat_eq (length d.params) (count ts))) Arity p.place) (call_offences ds at p (count ts)) ≡ []
        → (call_offences ds at p (count ts) ≡ [] → Called (numbered procedure_routine (suc n) ds) p ts)
        → (r : Routine) × (cond b (Some (procedure_routine n d)) (routine_named p.word (numbered procedure_routine (suc n) ds)) ≡ Some r) × (length r.params ≡ count ts)
    by true q f = (procedure_routine n d, refl, eqb-true (length d.params) (count ts) (as_true (nat_eq (length d.params) (count ts)) (no_offence _ Arity p.place q)))
      where
        as_true : (c : Bool) → not c ≡ false → c ≡ true
        as_true true z = refl
        as_true false z = cc
    by false q f = f q

pub as_many_of : (P : Program) (r : Routine) (ds : List Declaration) (ts : Trees) → length ds ≡ count ts → as_many (written_all P r ds) ts ≡ true
as_many_of P r [] no_trees e = refl
as_many_of P r [] (tree t ts) e = absurd (omega (arith, e))
as_many_of P r (d ∷ ds) no_trees e = absurd (omega (arith, e))
as_many_of P r (d ∷ ds) (tree t ts) e = as_many_of P r ds ts (omega (arith, e))

pub count_grafts : (h : Graft) (ts : Trees) → count (grafts h ts) ≡ count ts
count_grafts h no_trees = refl
count_grafts h (tree t ts) = ap (λ (n : ℕ). suc n) (count_grafts h ts)

-- an identifier has no blank in it
pub no_old : (x : Word) → IsIdentifier x → bytes_eq old_stack x ≡ false
no_old x i = by (bytes_eq old_stack x) refl
  where
    never : true ≡ false → ⊥
    never e = cc

    by : (b : Bool) → bytes_eq old_stack x ≡ b → b ≡ false
    by true q = absurd (never (sym (subst IsIdentifier (sym ((bytes_eq-Decides old_stack x).0 q)) i).0.0))
    by false q = refl

form_lacks : (m : Form) → FitNames IsIdentifier m → is_name old_stack m ≡ false
form_lacks (name x) h = no_old x h.0
form_lacks m h = refl

mutual
  fit_lacks : (t : Tree) → Fits IsIdentifier t → lacks old_stack t ≡ true
  fit_lacks (node m at ts) h = (λ i. not (form_lacks m h.1 i) && all_lack old_stack ts) ∙ fit_all_lack ts h.4

  pub fit_all_lack : (ts : Trees) → AllFit IsIdentifier ts → all_lack old_stack ts ≡ true
  fit_all_lack no_trees h = refl
  fit_all_lack (tree t ts) h = and_from (lacks old_stack t) (all_lack old_stack ts) (fit_lacks t h.0) (fit_all_lack ts h.1)
