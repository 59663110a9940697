-- Bodies that break no rule on what is assigned twice: with macro calls written out, no statement assigns a variable beside a part of it, where none does that is written out for a macro call.
use Rattle.std.proofs.Common.{◌≡◌, ℕ, suc, List, [], ◌∷◌, ◌++◌, reverse, Bool, true, false, ◌||◌, Some, ◌⊎◌, inl, inr, refl, sym, ap, subst, ◌∙◌}
use Rattle.std.proofs.lemmas.Bool.{or_parts}
use Rattle.std.proofs.lemmas.List.Folds.{list_any-append}
use Rattle.std.specs.List.{list_any, flat_map}
use Rattle.tla_token.specs.declared.rule.Rule.TheVariants.{FirstLabel, AssignTwice}
use Rattle.tla_tree.specs.Tree.{Word, Trees}
use Rattle.pcal_tree.specs.Algorithm.{Span, Assignments, Statement, assign, await, print, assert, skip, branch, either, with, while, goto, macro, call, return, Statements, done, then, mark, Branches, no_branches, or, Macro, Procedure, Process, Main, alone, processes, Routine, procedure_routine, process_routine, numbered, first_procedure, first_process, procedure_routines, main_routines, Algorithm}
use Rattle.pcal_tree.specs.Expand.{followed_by, Writing, expand_one, expand, expand_some, written_out, expanded}
use Rattle.pcal_tree.specs.OffencesLabels.{of_macro, of_procedure, of_body, of_main, label_offences_by}
use Rattle.pcal_tree.specs.OffencesSteps.{Before, at_label, at_first, inside, next, Visit, visits_inside, visits, visits_of_some, missing_label, assigns_twice, offences_at, missing_in_body, procedure_effects, outer_effects}
use Rattle.pcal_tree.specs.Paths.{clashes, Effect, Effects, after_one}
use Rattle.pcal_tree.specs.Processes.{OneOf}
use Rattle.pcal_tree.specs.Run.{partner_of}
use Rattle.pcal_tree.proofs.RoutineNames.{one_either}
use Rattle.translation.specs.laws.AcceptedAlgorithm.{EachAssignsOnce}
use Rattle.translation.specs.laws.AssignedOnce.{AssignOnce, AllAssignOnce}
use Rattle.translation.proofs.AcceptedNames.{no_offence}
use Rattle.pcal_tree.proofs.ClearLabels.{both_none}

-- ---- statements of which none assigns twice by itself, where macro calls have the effects of E

abbrev mutual
  pub IsOnceBy : Effects → Statement → Type 0
  IsOnceBy E (assign ms) = clashes ms ≡ false
  IsOnceBy E (macro m ts) = (E (macro m ts)).twice ≡ false
  IsOnceBy E (branch e a b) = AreOnceBy E a × AreOnceBy E b
  IsOnceBy E (either bs) = AllOnceBy E bs
  IsOnceBy E (with bs b) = AreOnceBy E b
  IsOnceBy E (while e b) = AreOnceBy E b
  IsOnceBy E _ = Unit {0}

  pub AreOnceBy : Effects → Statements → Type 0
  AreOnceBy E done = Unit {0}
  AreOnceBy E (then at st rest) = IsOnceBy E st × AreOnceBy E rest
  AreOnceBy E (mark l k rest) = AreOnceBy E rest

  pub AllOnceBy : Effects → Branches → Type 0
  AllOnceBy E no_branches = Unit {0}
  AllOnceBy E (or b bs) = AreOnceBy E b × AllOnceBy E bs

abbrev pub NoneTwice : Effects → List Visit → Type 0
NoneTwice E vs = list_any (assigns_twice E) vs ≡ false

pub two_lists : (E : Effects) (vs ws : List Visit) → NoneTwice E (vs ++ ws) → NoneTwice E vs × NoneTwice E ws
two_lists E vs ws h = or_parts (list_any (assigns_twice E) vs) (list_any (assigns_twice E) ws) (sym (list_any-append (assigns_twice E) vs ws) ∙ h)

-- where E says of assignments what they say themselves
module _ (E : Effects) (own : (ms : Assignments) → (E (assign ms)).twice ≡ clashes ms) where
  mutual
    -- the statement itself, and those inside it
    one_visited : (p : Before) (at : Span) (st : Statement) (rest : Statements) → assigns_twice E (record { before = p; place = at.first; statement = st; partner = partner_of rest }) ≡ false → NoneTwice E (visits_inside E p st) → IsOnceBy E st
    one_visited p at (assign ms) rest h k = sym (own ms) ∙ (or_parts (E (assign ms)).twice _ h).0
    one_visited p at (macro m ts) rest h k = (or_parts (E (macro m ts)).twice _ h).0
    one_visited p at (branch e a b) rest h k =
        let q = two_lists E (visits E (inside p.path) a) (visits E (inside p.path) b) k in
        (all_visited (inside p.path) a q.0, all_visited (inside p.path) b q.1)
    one_visited p at (either bs) rest h k = some_visited (inside p.path) bs k
    one_visited p at (with bs b) rest h k = all_visited (inside p.path) b k
    one_visited p at (while e b) rest h k = all_visited (inside (after_one E (while e b) p.labelled p.path)) b k
    one_visited p at _ rest h k = tt

    pub all_visited : (p : Before) (b : Statements) → NoneTwice E (visits E p b) → AreOnceBy E b
    all_visited p done h = tt
    all_visited p (mark n k rest) h = all_visited at_label rest h
    all_visited p (then at st rest) h =
        let q = or_parts (assigns_twice E (record { before = p; place = at.first; statement = st; partner = partner_of rest })) _ h in
        let r = two_lists E (visits_inside E p st) (visits E (next E p st (partner_of rest)) rest) q.1 in
        (one_visited p at st rest q.0 r.0, all_visited (next E p st (partner_of rest)) rest r.1)

    some_visited : (p : Before) (bs : Branches) → NoneTwice E (visits_of_some E p bs) → AllOnceBy E bs
    some_visited p no_branches h = tt
    some_visited p (or b bs) h =
        let q = two_lists E (visits E p b) (visits_of_some E p bs) h in
        (all_visited p b q.0, some_visited p bs q.1)

pub none_offends : (E : Effects) (vs : List Visit) → flat_map (offences_at E) vs ≡ [] → NoneTwice E vs
none_offends E [] h = refl
none_offends E (v ∷ vs) h = by (assigns_twice E v) (no_offence (assigns_twice E v) AssignTwice v.place (both_none (missing_label v) _ p.0).1) (none_offends E vs p.1)
  where
    p : (offences_at E v ≡ []) × (flat_map (offences_at E) vs ≡ [])
    p = both_none (offences_at E v) (flat_map (offences_at E) vs) h

    by : (b : Bool) → b ≡ false → NoneTwice E vs → (b || list_any (assigns_twice E) vs) ≡ false
    by true e k = cc
    by false e k = k

-- ---- with macro calls written out

pub followed_once : (a b : Statements) → AssignOnce a → AssignOnce b → AssignOnce (followed_by a b)
followed_once done b h k = k
followed_once (then at st a) b h k = (h.0, followed_once a b h.1 k)
followed_once (mark l m a) b h k = followed_once a b h k

module _ (E : Effects) (X : Writing) (calls : (at : Span) (m : Word) (ts : Trees) → (E (macro m ts)).twice ≡ false → AssignOnce (X at m ts)) where
  mutual
    one_expanded : (at : Span) (st : Statement) (rest : Statements) → IsOnceBy E st → AssignOnce rest → AssignOnce (expand_one X at st rest)
    one_expanded at (macro m ts) rest h k = followed_once (X at m ts) rest (calls at m ts h) k
    one_expanded at (branch e a b) rest h k = ((all_expanded a h.0, all_expanded b h.1), k)
    one_expanded at (either bs) rest h k = (some_expanded bs h, k)
    one_expanded at (with bs b) rest h k = (all_expanded b h, k)
    one_expanded at (while e b) rest h k = (all_expanded b h, k)
    one_expanded at (assign ms) rest h k = (h, k)
    one_expanded at (await e) rest h k = (tt, k)
    one_expanded at (print e) rest h k = (tt, k)
    one_expanded at (assert e) rest h k = (tt, k)
    one_expanded at skip rest h k = (tt, k)
    one_expanded at (goto l) rest h k = (tt, k)
    one_expanded at (call p ts) rest h k = (tt, k)
    one_expanded at return rest h k = (tt, k)

    all_expanded : (b : Statements) → AreOnceBy E b → AssignOnce (expand X b)
    all_expanded done h = tt
    all_expanded (then at st rest) h = one_expanded at st (expand X rest) h.0 (all_expanded rest h.1)
    all_expanded (mark l k rest) h = all_expanded rest h

    some_expanded : (bs : Branches) → AllOnceBy E bs → AllAssignOnce (expand_some X bs)
    some_expanded no_branches h = tt
    some_expanded (or b bs) h = (all_expanded b h.0, some_expanded bs h.1)

-- ---- bodies

-- where macro calls assign what C says
module _ (ms : List Macro) (C : Word → Trees → Effect) (calls : (at : Span) (m : Word) (ts : Trees) → (C m ts).twice ≡ false → AssignOnce (written_out ms at m ts)) where
  body_once : (E : Effects) → ((ns : Assignments) → (E (assign ns)).twice ≡ clashes ns) → ((m : Word) (ts : Trees) → E (macro m ts) ≡ C m ts) → (b : Statements) → missing_in_body E b ≡ [] → AssignOnce (expanded ms b)
  body_once E own same b h =
      all_expanded E (written_out ms) (λ at m ts k. calls at m ts (ap (λ (e : Effect). e.twice) (sym (same m ts)) ∙ k)) b
      (all_visited E own (at_first (Some FirstLabel)) b (none_offends E (visits E (at_first (Some FirstLabel)) b) h))

  procedures_once : (n : ℕ) (ps : List Procedure) → flat_map (of_procedure C) ps ≡ [] → (u : Routine) → OneOf u (numbered procedure_routine n ps) → AssignOnce (expanded ms u.body)
  procedures_once n [] e u k = absurd k
  procedures_once n (p ∷ ps) e u (inl q) =
      subst (λ (v : Routine). AssignOnce (expanded ms v.body)) (sym q)
      (body_once (procedure_effects C p) (λ ns. refl) (λ m ts. refl) p.body (both_none (missing_in_body (procedure_effects C p) p.body) _ (both_none (of_procedure C p) _ e).0).0)
  procedures_once n (p ∷ ps) e u (inr k) = procedures_once (suc n) ps (both_none (of_procedure C p) _ e).1 u k

  processes_once : (n : ℕ) (ps : List Process) → flat_map (λ (p : Process). of_body C p.body) ps ≡ [] → (u : Routine) → OneOf u (numbered process_routine n ps) → AssignOnce (expanded ms u.body)
  processes_once n [] e u k = absurd k
  processes_once n (p ∷ ps) e u (inl q) =
      subst (λ (v : Routine). AssignOnce (expanded ms v.body)) (sym q)
      (body_once (outer_effects C) (λ ns. refl) (λ m ts. refl) p.body (both_none (missing_in_body (outer_effects C) p.body) _ (both_none (of_body C p.body) _ e).0).0)
  processes_once n (p ∷ ps) e u (inr k) = processes_once (suc n) ps (both_none (of_body C p.body) _ e).1 u k

  main_once : (a : Algorithm) (m : Main) → of_main C m ≡ [] → (u : Routine) → OneOf u (main_routines a m) → AssignOnce (expanded ms u.body)
  main_once a (alone b) e u (inl q) =
      subst (λ (v : Routine). AssignOnce (expanded ms v.body)) (sym q) (body_once (outer_effects C) (λ ns. refl) (λ m ts. refl) b (both_none (missing_in_body (outer_effects C) b) _ e).0)
  main_once a (alone b) e u (inr k) = absurd k
  main_once a (processes ps) e u k = processes_once (first_process a) ps e u k

pub bodies_once : (a : Algorithm) (C : Word → Trees → Effect) → ((at : Span) (m : Word) (ts : Trees) → (C m ts).twice ≡ false → AssignOnce (written_out (reverse a.macros) at m ts)) → label_offences_by C a ≡ [] → EachAssignsOnce a
bodies_once a C calls e u k =
    let b = both_none (flat_map (of_procedure C) a.procedures) (of_main C a.main) (both_none (flat_map of_macro a.macros) _ e).1 in
    by b.0 b.1 (one_either u (procedure_routines a) (main_routines a a.main) k)
  where
    by : flat_map (of_procedure C) a.procedures ≡ [] → of_main C a.main ≡ [] → OneOf u (procedure_routines a) ⊎ OneOf u (main_routines a a.main) → AssignOnce (expanded (reverse a.macros) u.body)
    by b c (inl q) = procedures_once (reverse a.macros) C calls (first_procedure a) a.procedures b u q
    by b c (inr q) = main_once (reverse a.macros) C calls a a.main c u q
