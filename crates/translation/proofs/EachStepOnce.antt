-- Bodies that break no rule on labels: no variable is assigned again before the next label, with macro calls written out.
use Rattle.std.proofs.Common.{◌≡◌, ℕ, suc, List, [], ◌∷◌, ◌++◌, reverse, Bool, true, false, ◌||◌, cond, bytes_eq, codes, Some, None, ◌⊎◌, inl, inr, refl, sym, subst, ◌∙◌}
use Rattle.std.proofs.lemmas.Bool.{or_parts}
use Rattle.std.proofs.lemmas.Grind.{flat_map-append}
use Rattle.std.proofs.Math.Bool.{or-false}
use Rattle.std.specs.List.{flat_map, AllByRecursion}
use Rattle.tla_token.specs.declared.rule.Refusal.{Refusal}
use Rattle.tla_token.specs.declared.rule.Rule.{Rule}
use Rattle.tla_token.specs.declared.rule.Rule.TheVariants.{FirstLabel, AfterJump, AfterBranch}
use Rattle.tla_tree.specs.Tree.{Word, Trees, Graft, grafts}
use Rattle.pcal_tree.specs.Algorithm.{Name, Span, Assignments, no_assignments, assignment, Statement, assign, await, print, assert, skip, branch, either, with, while, goto, macro, call, return, Statements, done, then, mark, Branches, no_branches, or, Macro, Procedure, Process, Main, alone, processes, Routine, locals, procedure_routine, process_routine, numbered, first_procedure, first_process, procedure_routines, main_routines, routines, Algorithm}
use Rattle.pcal_tree.specs.Expand.{graft_assignments, graft_one, graft_all, graft_some, followed_by, Writing, expand_one, expand, expand_some, written_out, expanded}
use Rattle.pcal_tree.specs.OffencesSteps.{effect_with, due_after, holds, holds_one, holds_some, Before, at_label, inside, next, Visit, visits_inside, visits, visits_of_some, due_offence, missing_label, assigns_twice, offences_at, in_macro, effect_of_body, called_with, effect_within, nothing_put, call_effect, at_first, missing_in_body, effects_in, procedure_effects, outer_effects}
use Rattle.pcal_tree.specs.OffencesLabels.{jump_offences_here, jump_offences_inside, jump_offences, jump_offences_of_some, label_words, of_macro, of_procedure, of_body, of_main, label_offences}
use Rattle.pcal_tree.specs.Processes.{OneOf}
use Rattle.pcal_tree.specs.Paths as path
use Rattle.pcal_tree.specs.Variables.{declared}
use Rattle.pcal_tree.specs.Paths.{Effect, Effects, Path, root, some_word, roots, after_one, has_assigned}
use Rattle.pcal_tree.specs.Run.{Partner, no_partner, goto_partner, return_partner, is_pair, partner_of, arguments}
use Rattle.pcal_tree.proofs.ClearLabels.{nothing_left, nothing_right}
use Rattle.pcal_tree.proofs.PlainMacros.{in_body, IsPlain, plain}
use Rattle.pcal_tree.proofs.RoutineNames.{one_either}
use Rattle.pcal_tree.proofs.TargetLaws.{Anywhere, called_anywhere}
use Rattle.action_builder.specs.Assigned.{Names, more}
use Rattle.action_builder.specs.Settled.{jumps_one, jumps, jumps_some}
use Rattle.action_builder.specs.laws.Ready.{Apart}
use Rattle.translation.specs.laws.StepsOnce.{set_by, set_in, set_in_some, none_set, SetsOnceOne, SetsOnce, SetsOnceSome, JumpsOnceOne, JumpsOnce, JumpsOnceSome}
use Rattle.translation.specs.laws.TypedAlgorithm.{IsTypedStatement, AreTypedStatements, AreTypedBranches, IsTypedMacro, IsTypedProcedure, IsTypedProcess, IsTypedMain, IsTypedAlgorithm}
use Rattle.translation.proofs.EndingJumps.{all_jumps, while_missing, due_missing, each_one}
use Rattle.translation.proofs.KnownRoutines.{reversed}
use Rattle.translation.proofs.OnceStatements.{none_offends}
use Rattle.translation.proofs.OnceThrough.{side_root, all_unput}
use Rattle.translation.proofs.StepsOnce.{Within, in_nothing, more_both, followed_once, Has, apart_of, visit_of, IsQuiet, AreQuiet, AllQuiet, sets_has, IsWritten, split_text, one_sets, list_sets}

-- ---- what is put in twice is put in once

module _ (ps : List Name) (us : Trees) (g : Graft) (free : Anywhere g) where
  abbrev around : Graft
  around = called_with ps (grafts g us) g

  roots_twice : (ms : Assignments) → roots (graft_assignments around ms) ≡ roots (graft_assignments g (graft_assignments (arguments ps us) ms))
  roots_twice no_assignments = refl
  roots_twice (assignment l e ms) = λ i. some_word (side_root ps us g free l i) ++ roots_twice ms i

  mutual
    set_by_twice : (st : Statement) → set_by (graft_one around st) ≡ set_by (graft_one g (graft_one (arguments ps us) st))
    set_by_twice (assign ms) = roots_twice ms
    set_by_twice (branch e a b) = λ i. set_in_twice a i ++ set_in_twice b i
    set_by_twice (either bs) = set_some_twice bs
    set_by_twice (with bs b) = set_in_twice b
    set_by_twice (while e b) = refl
    set_by_twice (await e) = refl
    set_by_twice (print e) = refl
    set_by_twice (assert e) = refl
    set_by_twice skip = refl
    set_by_twice (goto l) = refl
    set_by_twice (macro m ts) = refl
    set_by_twice (call m ts) = refl
    set_by_twice return = refl

    set_in_twice : (b : Statements) → set_in (graft_all around b) ≡ set_in (graft_all g (graft_all (arguments ps us) b))
    set_in_twice done = refl
    set_in_twice (then at st rest) = λ i. set_by_twice st i ++ set_in_twice rest i
    set_in_twice (mark l k rest) = refl

    set_some_twice : (bs : Branches) → set_in_some (graft_some around bs) ≡ set_in_some (graft_some g (graft_some (arguments ps us) bs))
    set_some_twice no_branches = refl
    set_some_twice (or b bs) = λ i. set_in_twice b i ++ set_some_twice bs i

  mutual
    one_twice : (A : Names) (st : Statement) → SetsOnceOne A (graft_one around st) → SetsOnceOne A (graft_one g (graft_one (arguments ps us) st))
    one_twice A (assign ms) h = subst (Apart A) (roots_twice ms) h
    one_twice A (branch e a b) h = (all_twice A a h.0, all_twice A b h.1)
    one_twice A (either bs) h = some_twice A bs h
    one_twice A (with bs b) h = all_twice A b h
    one_twice A (while e b) h = all_twice none_set b h
    one_twice A (await e) h = tt
    one_twice A (print e) h = tt
    one_twice A (assert e) h = tt
    one_twice A skip h = tt
    one_twice A (goto l) h = tt
    one_twice A (macro m ts) h = tt
    one_twice A (call m ts) h = tt
    one_twice A return h = tt

    all_twice : (A : Names) (b : Statements) → SetsOnce A (graft_all around b) → SetsOnce A (graft_all g (graft_all (arguments ps us) b))
    all_twice A done h = tt
    all_twice A (then at st rest) h =
        (one_twice A st h.0, all_twice (more A (set_by (graft_one g (graft_one (arguments ps us) st)))) rest (subst (λ (xs : List Word). SetsOnce (more A xs) (graft_all around rest)) (set_by_twice st) h.1))
    all_twice A (mark l k rest) h = all_twice none_set rest h

    some_twice : (A : Names) (bs : Branches) → SetsOnceSome A (graft_some around bs) → SetsOnceSome A (graft_some g (graft_some (arguments ps us) bs))
    some_twice A no_branches h = tt
    some_twice A (or b bs) h = (all_twice A b h.0, some_twice A bs h.1)

  written_twice : (b : Statements) (ws : List Word) → IsWritten (graft_all around b) ws → IsWritten (graft_all g (graft_all (arguments ps us) b)) ws
  written_twice b ws h = (
    all_twice none_set b h.0,
    subst (λ (xs : List Word). Within xs ws) (set_in_twice b) h.1,
    all_jumps g (graft_all (arguments ps us) b) ∙ (all_jumps (arguments ps us) b ∙ (sym (all_jumps around b) ∙ h.2)),
  )

-- ---- macro calls written out

-- what is written for a call, with g put in, assigns what the call assigns, and nothing twice
abbrev CallsWritten : List Macro → Type 0
CallsWritten ms = (g : Graft) → Anywhere g → (at : Span) (m : Word) (us : Trees) → (effect_within ms g m (grafts g us)).twice ≡ false → IsWritten (graft_all g (written_out ms at m us)) (effect_within ms g m (grafts g us)).variables

has_none : Has none_set (Some [])
has_none = (tt, λ x m. absurd cc)

pub calls_written : (ms : List Macro) → AllByRecursion (λ (d : Macro). AreQuiet d.body) ms → CallsWritten ms
calls_written [] quiet g free at m us h = ((tt, tt), (λ x n. absurd (in_nothing x n)), refl)
calls_written (d ∷ older) quiet g free at m us h = by (calls_written older quiet.1) (bytes_eq d.name.word m) h
  where
    inner : Graft
    inner = called_with d.params (grafts g us) g

    E : Effects
    E = in_macro (effect_within older inner)

    by : CallsWritten older → (b : Bool)
        → (cond b (effect_of_body E (graft_all inner d.body)) (effect_within older g m (grafts g us))).twice ≡ false
        → IsWritten (graft_all g (cond b (graft_all (arguments d.params us) (expand (written_out older) d.body)) (written_out older at m us)))
        (cond b (effect_of_body E (graft_all inner d.body)) (effect_within older g m (grafts g us))).variables
    by f true k =
        let s = list_sets E (effect_within older inner) (λ ms. refl) (λ n ts. refl) inner (written_out older) (f inner (called_anywhere d.params (grafts g us) g free)) none_set (inside (Some [])) d.body has_none quiet.0 k in
        written_twice d.params us g free (expand (written_out older) d.body) (effect_of_body E (graft_all inner d.body)).variables (s.once, s.within, s.still)
    by f false k = f g free at m us k

-- ---- where no rule on labels is broken

abbrev NoOffences : Effects → List Visit → Type 0
NoOffences E vs = flat_map (offences_at E) vs ≡ []

pub two_fine : (E : Effects) (vs ws : List Visit) → NoOffences E (vs ++ ws) → NoOffences E vs × NoOffences E ws
two_fine E vs ws h =
    let e = sym (flat_map-append (offences_at E) vs ws) ∙ h in
    (nothing_left (flat_map (offences_at E) vs) _ e, nothing_right (flat_map (offences_at E) vs) _ e)

none_missing : (E : Effects) (v : Visit) → offences_at E v ≡ [] → missing_label v ≡ []
none_missing E v h = nothing_left (missing_label v) _ h

module _ (E : Effects) (h : Graft) where
  -- without a label or a jump, where there is no label before
  mutual
    one_quiet : (p : Before) → p.labelled ≡ false → (at : Span) (st : Statement) (j : Partner) → IsTypedStatement st → missing_label (visit_of p at (graft_one h st) j) ≡ [] → NoOffences E (visits_inside E p (graft_one h st)) → holds_one (graft_one h st) ≡ false → IsQuiet st
    one_quiet p l at (branch e a b) j t m k q =
        let v = two_fine E (visits E (inside p.path) (graft_all h a)) (visits E (inside p.path) (graft_all h b)) k in
        let r = or_parts (holds (graft_all h a)) (holds (graft_all h b)) q in
        (all_quiet (inside p.path) refl a t.1 v.0 r.0, all_quiet (inside p.path) refl b t.2 v.1 r.1)
    one_quiet p l at (either no_branches) j t m k q = absurd t
    one_quiet p l at (either (or b bs)) j t m k q =
        let v = two_fine E (visits E (inside p.path) (graft_all h b)) (visits_of_some E (inside p.path) (graft_some h bs)) k in
        let r = or_parts (holds (graft_all h b)) (holds_some (graft_some h bs)) q in
        (all_quiet (inside p.path) refl b t.0 v.0 r.0, some_quiet (inside p.path) refl bs t.1 v.1 r.1)
    one_quiet p l at (with bs b) j t m k q = all_quiet (inside p.path) refl b t.1 k q
    one_quiet p l at (while e b) j t m k q = absurd (while_missing p.labelled (due_offence p.due at.first) _ l m)
    one_quiet p l at (goto n) j t m k q = cc
    one_quiet p l at (call n ts) j t m k q = cc
    one_quiet p l at return j t m k q = cc
    one_quiet p l at (macro n ts) j t m k q = tt
    one_quiet p l at (assign ms) j t m k q = tt
    one_quiet p l at (await e) j t m k q = tt
    one_quiet p l at (print e) j t m k q = tt
    one_quiet p l at (assert e) j t m k q = tt
    one_quiet p l at skip j t m k q = tt

    all_quiet : (p : Before) → p.labelled ≡ false → (b : Statements) → AreTypedStatements b → NoOffences E (visits E p (graft_all h b)) → holds (graft_all h b) ≡ false → AreQuiet b
    all_quiet p l done t k q = tt
    all_quiet p l (then at st rest) t k q =
        let j = partner_of (graft_all h rest) in
        let r = or_parts (holds_one (graft_one h st)) (holds (graft_all h rest)) q in
        let o = nothing_right (offences_at E (visit_of p at (graft_one h st) j)) _ k in
        let v = two_fine E (visits_inside E p (graft_one h st)) (visits E (next E p (graft_one h st) j) (graft_all h rest)) o in (
          one_quiet p l at st j t.0 (none_missing E (visit_of p at (graft_one h st) j) (nothing_left (offences_at E (visit_of p at (graft_one h st) j)) _ k)) v.0 r.0,
          all_quiet (next E p (graft_one h st) j) refl rest t.1 v.1 r.1,
        )
    all_quiet p l (mark n k rest) t o q = cc

    some_quiet : (p : Before) → p.labelled ≡ false → (bs : Branches) → AreTypedBranches bs → NoOffences E (visits_of_some E p (graft_some h bs)) → holds_some (graft_some h bs) ≡ false → AllQuiet bs
    some_quiet p l no_branches t k q = tt
    some_quiet p l (or b bs) t k q =
        let v = two_fine E (visits E p (graft_all h b)) (visits_of_some E p (graft_some h bs)) k in
        let r = or_parts (holds (graft_all h b)) (holds_some (graft_some h bs)) q in
        (all_quiet p l b t.0 v.0 r.0, some_quiet p l bs t.1 v.1 r.1)

-- ---- where nothing jumps, nothing is asked of calls and returns

module _ (E : Effects) where
  mutual
    still_one : (A : Names) (st : Statement) (j : Partner) → jumps_one st ≡ false → JumpsOnceOne E A st j
    still_one A (branch e a b) j h = (let r = or_parts (jumps a) (jumps b) h in (still A a r.0, still A b r.1))
    still_one A (either bs) j h = still_some A bs h
    still_one A (with bs b) j h = still A b h
    still_one A (while e b) j h = cc
    still_one A (call p ts) j h = cc
    still_one A return j h = cc
    still_one A (assign ms) j h = tt
    still_one A (await e) j h = tt
    still_one A (print e) j h = tt
    still_one A (assert e) j h = tt
    still_one A skip j h = tt
    still_one A (goto l) j h = tt
    still_one A (macro m ts) j h = tt

    still : (A : Names) (b : Statements) → jumps b ≡ false → JumpsOnce E A b
    still A done h = tt
    still A (then at st rest) h = (let r = or_parts (jumps_one st) (jumps rest) h in (still_one A st (partner_of rest) r.0, still (more A (set_by st)) rest r.1))
    still A (mark l k rest) h = cc

    still_some : (A : Names) (bs : Branches) → jumps_some bs ≡ false → JumpsOnceSome E A bs
    still_some A no_branches h = tt
    still_some A (or b bs) h = (let r = or_parts (jumps b) (jumps_some bs) h in (still A b r.0, still_some A bs r.1))

  followed_still : (A : Names) (a b : Statements) → jumps a ≡ false → JumpsOnce E (more A (set_in a)) b → JumpsOnce E A (followed_by a b)
  followed_still A done b h k = subst (λ (B : Names). JumpsOnce E B b) (λ i x. or-false (A x) i) k
  followed_still A (then at st a) b h k =
      let r = or_parts (jumps_one st) (jumps a) h in
      (still_one A st (partner_of (followed_by a b)) r.0, followed_still (more A (set_by st)) a b r.1 (subst (λ (B : Names). JumpsOnce E B b) (sym (more_both A (set_by st) (set_in a))) k))
  followed_still A (mark l m a) b h k = cc

module _ (E : Effects) (C : Word → Trees → Effect) (own : (ms : Assignments) → E (assign ms) ≡ path.assigned (assign ms)) (same : (m : Word) (ts : Trees) → E (macro m ts) ≡ C m ts) (h : Graft) (X : Writing)
    (calls : (at : Span) (m : Word) (us : Trees) → (C m (grafts h us)).twice ≡ false → IsWritten (graft_all h (X at m us)) (C m (grafts h us)).variables) where
  -- of assignments, and of what calls and returns assign
  abbrev Fit : Names → Statements → Type 0
  Fit A b = SetsOnce A b × JumpsOnce E A b

  -- the rest after a statement that is quiet
  after_quiet : (A : Names) (p : Before) (at : Span) (st : Statement) (rest : Statements) → Has A p.path → IsQuiet st
      → offences_at E (visit_of p at (graft_one h st) (partner_of (graft_all h rest))) ≡ [] → NoOffences E (visits_inside E p (graft_one h st))
      → ((B : Names) → Has B (after_one E (graft_one h st) p.labelled p.path) → Fit B (graft_all h (expand X rest))) → Fit A (graft_all h (expand_one X at st (expand X rest)))
  after_quiet A p at st rest k q o v go =
      let w = visit_of p at (graft_one h st) (partner_of (graft_all h rest)) in
      let t = or_parts (assigns_twice E w) false (none_offends E (w ∷ []) (λ i. o i ++ [])) in
      let s = one_sets E C own same h X calls A p at st (partner_of (graft_all h rest)) k q t.0 (none_offends E (visits_inside E p (graft_one h st)) v) in
      let g = go (more A (set_in (graft_all h (expand_one X at st done)))) (sets_has A _ _ p.path _ k s) in
      subst (Fit A) (sym (split_text E C own same h X calls at st (expand X rest))) (
        followed_once A (graft_all h (expand_one X at st done)) (graft_all h (expand X rest)) s.still s.once g.0,
        followed_still E A (graft_all h (expand_one X at st done)) (graft_all h (expand X rest)) s.still g.1,
      )

  has_labelled : (l : Bool) (A : Names) (p q : Path) → l ≡ true → Has A p → Has A (cond l p q)
  has_labelled true A p q e k = k
  has_labelled false A p q e k = absurd cc

  has_empty : (A : Names) (p : Path) → Has A p → Has (more A []) p
  has_empty A p k = subst (λ (B : Names). Has B p) (λ i x. sym (or-false (A x)) i) k

  is_labelled : (l : Bool) (xs : List Refusal) (r : Refusal) → cond l [] (xs ++ (r ∷ [])) ≡ [] → l ≡ true
  is_labelled true xs r e = refl
  is_labelled false xs r e = (let k = nothing_right xs (r ∷ []) e in absurd cc)

  has_none_of : (A : Names) (p : Path) → Has A p → Has none_set p
  has_none_of A p k = (k.0, λ x m. absurd cc)

  never_due : (p : Before) (q : Rule) → p.labelled ≡ false → p.due ≡ Some q → (at : Span) (st : Statement) (j : Partner) (vs : List Visit) → NoOffences E (visit_of p at st j ∷ vs) → ⊥
  never_due p q l d at st j vs o =
      due_missing p.labelled p.due q at.first _ l d (none_missing E (visit_of p at st j) (nothing_left (offences_at E (visit_of p at st j)) _ o))

  abbrev FitSome : Names → Branches → Type 0
  FitSome A bs = SetsOnceSome A bs × JumpsOnceSome E A bs

  -- a statement assigns nothing that a path to it has assigned
  not_assigned : (A : Names) (p : Before) (at : Span) (st : Statement) (j : Partner) → Has A p.path → offences_at E (visit_of p at st j) ≡ [] → Apart A (effect_with E st j).variables
  not_assigned A p at st j k o =
      let w = visit_of p at st j in
      let t = or_parts (assigns_twice E w) false (none_offends E (w ∷ []) (λ i. o i ++ [])) in
      apart_of A p.path (effect_with E st j).variables k (or_parts (effect_with E st j).twice (has_assigned p.path (effect_with E st j).variables) t.0).1

  -- where a `return` is the partner of the call before it
  abbrev Returns : Names → Partner → Type 0
  Returns A (return_partner q) = Apart A (E return).variables
  Returns A j = Unit {0}

  returned : (A : Names) (m : Name) (ts : Trees) (j : Partner) → Apart A (effect_with E (call m ts) j).variables → Returns (more A []) j
  returned A m ts (return_partner q) a = subst (λ (B : Names). Apart B (E return).variables) (λ i x. sym (or-false (A x)) i) a
  returned A m ts no_partner a = tt
  returned A m ts (goto_partner l) a = tt

  -- macro calls don't come between a call and its partner
  same_partner : (p : Before) → p.labelled ≡ false → (b : Statements) → p.due ≡ cond (is_pair (partner_of (graft_all h b))) None (Some AfterJump) → NoOffences E (visits E p (graft_all h b)) → partner_of (graft_all h b) ≡ partner_of (graft_all h (expand X b))
  same_partner p l done d o = refl
  same_partner p l (mark m k rest) d o = refl
  same_partner p l (then at (goto m) rest) d o = refl
  same_partner p l (then at return rest) d o = refl
  same_partner p l (then at (branch e a b) rest) d o = absurd (never_due p AfterJump l d at (graft_one h (branch e a b)) (partner_of (graft_all h rest)) _ o)
  same_partner p l (then at (either bs) rest) d o = absurd (never_due p AfterJump l d at (graft_one h (either bs)) (partner_of (graft_all h rest)) _ o)
  same_partner p l (then at (with bs b) rest) d o = absurd (never_due p AfterJump l d at (graft_one h (with bs b)) (partner_of (graft_all h rest)) _ o)
  same_partner p l (then at (while e b) rest) d o = absurd (never_due p AfterJump l d at (graft_one h (while e b)) (partner_of (graft_all h rest)) _ o)
  same_partner p l (then at (call m ts) rest) d o = absurd (never_due p AfterJump l d at (graft_one h (call m ts)) (partner_of (graft_all h rest)) _ o)
  same_partner p l (then at (macro m ts) rest) d o = absurd (never_due p AfterJump l d at (graft_one h (macro m ts)) (partner_of (graft_all h rest)) _ o)
  same_partner p l (then at (assign ms) rest) d o = absurd (never_due p AfterJump l d at (graft_one h (assign ms)) (partner_of (graft_all h rest)) _ o)
  same_partner p l (then at (await e) rest) d o = absurd (never_due p AfterJump l d at (graft_one h (await e)) (partner_of (graft_all h rest)) _ o)
  same_partner p l (then at (print e) rest) d o = absurd (never_due p AfterJump l d at (graft_one h (print e)) (partner_of (graft_all h rest)) _ o)
  same_partner p l (then at (assert e) rest) d o = absurd (never_due p AfterJump l d at (graft_one h (assert e)) (partner_of (graft_all h rest)) _ o)
  same_partner p l (then at skip rest) d o = absurd (never_due p AfterJump l d at (graft_one h skip) (partner_of (graft_all h rest)) _ o)

  mutual
    -- a list with labels or jumps in it
    list_steps : (A : Names) (p : Before) (b : Statements) → Has A p.path → AreTypedStatements b → NoOffences E (visits E p (graft_all h b)) → Fit A (graft_all h (expand X b))
    list_steps A p done k t o = (tt, tt)
    list_steps A p (mark l m rest) k t o = list_steps none_set at_label rest has_none t.1 o
    list_steps A p (then at st rest) k t o =
        let j = partner_of (graft_all h rest) in
        let w = visit_of p at (graft_one h st) j in
        let n = next E p (graft_one h st) j in
        let v = two_fine E (visits_inside E p (graft_one h st)) (visits E n (graft_all h rest)) (nothing_right (offences_at E w) _ o) in
        one_steps A p at st rest k t.0 (nothing_left (offences_at E w) _ o) v.0 v.1
        (λ B r. list_steps B n rest r t.1 v.1) (λ B q d. due_steps B n q refl d rest t.1 v.1)
        (λ B d u. pair_steps B n refl rest d u t.1 v.1) (λ d. same_partner n refl rest d v.1)

    -- go: where a path leads to the rest; due: where a label is due before it; pair: after a call, whose partner may be a `return`, and is what it was
    one_steps : (A : Names) (p : Before) (at : Span) (st : Statement) (rest : Statements) → Has A p.path → IsTypedStatement st
        → offences_at E (visit_of p at (graft_one h st) (partner_of (graft_all h rest))) ≡ [] → NoOffences E (visits_inside E p (graft_one h st))
        → NoOffences E (visits E (next E p (graft_one h st) (partner_of (graft_all h rest))) (graft_all h rest))
        → ((B : Names) → Has B (after_one E (graft_one h st) p.labelled p.path) → Fit B (graft_all h (expand X rest)))
        → ((B : Names) (q : Rule) → due_after (graft_one h st) (partner_of (graft_all h rest)) ≡ Some q → Fit B (graft_all h (expand X rest)))
        → ((B : Names) → due_after (graft_one h st) (partner_of (graft_all h rest)) ≡ cond (is_pair (partner_of (graft_all h rest))) None (Some AfterJump) → Returns B (partner_of (graft_all h rest)) → Fit B (graft_all h (expand X rest)))
        → (due_after (graft_one h st) (partner_of (graft_all h rest)) ≡ cond (is_pair (partner_of (graft_all h rest))) None (Some AfterJump) → partner_of (graft_all h rest) ≡ partner_of (graft_all h (expand X rest)))
        → Fit A (graft_all h (expand_one X at st (expand X rest)))
    one_steps A p at (branch e a b) rest k t o i n go due pair like = by (holds (graft_all h a) || holds (graft_all h b)) refl
        (list_steps A (inside p.path) a k t.1 v.0) (list_steps A (inside p.path) b k t.2 v.1)
      where
        v : NoOffences E (visits E (inside p.path) (graft_all h a)) × NoOffences E (visits E (inside p.path) (graft_all h b))
        v = two_fine E (visits E (inside p.path) (graft_all h a)) (visits E (inside p.path) (graft_all h b)) i

        by : (c : Bool) → (holds (graft_all h a) || holds (graft_all h b)) ≡ c → Fit A (graft_all h (expand X a)) → Fit A (graft_all h (expand X b)) → Fit A (graft_all h (expand_one X at (branch e a b) (expand X rest)))
        by true q y z = (let r = due _ AfterBranch (λ x. cond (q x) (Some AfterBranch) None) in (((y.0, z.0), r.0), ((y.1, z.1), r.1)))
        by false q y z =
            let r = or_parts (holds (graft_all h a)) (holds (graft_all h b)) q in
            after_quiet A p at (branch e a b) rest k (all_quiet E h (inside p.path) refl a t.1 v.0 r.0, all_quiet E h (inside p.path) refl b t.2 v.1 r.1) o i go
    one_steps A p at (either no_branches) rest k t o i n go due pair like = absurd t
    one_steps A p at (either (or b bs)) rest k t o i n go due pair like = by (holds (graft_all h b) || holds_some (graft_some h bs)) refl
        (list_steps A (inside p.path) b k t.0 v.0) (some_steps A p.path bs k t.1 v.1)
      where
        v : NoOffences E (visits E (inside p.path) (graft_all h b)) × NoOffences E (visits_of_some E (inside p.path) (graft_some h bs))
        v = two_fine E (visits E (inside p.path) (graft_all h b)) (visits_of_some E (inside p.path) (graft_some h bs)) i

        by : (c : Bool) → (holds (graft_all h b) || holds_some (graft_some h bs)) ≡ c → Fit A (graft_all h (expand X b)) → FitSome A (graft_some h (expand_some X bs)) → Fit A (graft_all h (expand_one X at (either (or b bs)) (expand X rest)))
        by true q y z = (let r = due _ AfterBranch (λ x. cond (q x) (Some AfterBranch) None) in (((y.0, z.0), r.0), ((y.1, z.1), r.1)))
        by false q y z =
            let r = or_parts (holds (graft_all h b)) (holds_some (graft_some h bs)) q in
            after_quiet A p at (either (or b bs)) rest k (all_quiet E h (inside p.path) refl b t.0 v.0 r.0, some_quiet E h (inside p.path) refl bs t.1 v.1 r.1) o i go
    one_steps A p at (with bs b) rest k t o i n go due pair like = by (holds (graft_all h b)) refl (list_steps A (inside p.path) b k t.1 i)
      where
        by : (c : Bool) → holds (graft_all h b) ≡ c → Fit A (graft_all h (expand X b)) → Fit A (graft_all h (expand_one X at (with bs b) (expand X rest)))
        by true q y = (let r = due _ AfterBranch (λ x. cond (q x) (Some AfterBranch) None) in ((y.0, r.0), (y.1, r.1)))
        by false q y = after_quiet A p at (with bs b) rest k (all_quiet E h (inside p.path) refl b t.1 i q) o i go
    one_steps A p at (while e b) rest k t o i n go due pair like =
        let l = is_labelled p.labelled (due_offence p.due at.first) _ (none_missing E (visit_of p at (graft_one h (while e b)) (partner_of (graft_all h rest))) o) in
        let r = has_labelled p.labelled A p.path _ l k in
        let y = list_steps none_set (inside (after_one E (graft_one h (while e b)) p.labelled p.path)) b (has_none_of A _ r) t.1 i in
        let g = go (more A []) (has_empty A _ r) in
        ((y.0, g.0), (y.1, g.1))
    one_steps A p at (goto l) rest k t o i n go due pair like = (let r = due _ AfterJump refl in ((tt, r.0), (tt, r.1)))
    one_steps A p at return rest k t o i n go due pair like =
        let r = due _ AfterJump refl in
        ((tt, r.0), (not_assigned A p at return (partner_of (graft_all h rest)) k o, r.1))
    one_steps A p at (call m ts) rest k t o i n go due pair like =
        let a = not_assigned A p at (call m (grafts h ts)) (partner_of (graft_all h rest)) k o in
        let r = pair (more A []) refl (returned A m (grafts h ts) (partner_of (graft_all h rest)) a) in
        ((tt, r.0), (subst (λ (j : Partner). Apart A (effect_with E (call m (grafts h ts)) j).variables) (like refl) a, r.1))
    one_steps A p at (macro m ts) rest k t o i n go due pair like = after_quiet A p at (macro m ts) rest k tt o i go
    one_steps A p at (assign ms) rest k t o i n go due pair like = after_quiet A p at (assign ms) rest k tt o i go
    one_steps A p at (await e) rest k t o i n go due pair like = after_quiet A p at (await e) rest k tt o i go
    one_steps A p at (print e) rest k t o i n go due pair like = after_quiet A p at (print e) rest k tt o i go
    one_steps A p at (assert e) rest k t o i n go due pair like = after_quiet A p at (assert e) rest k tt o i go
    one_steps A p at skip rest k t o i n go due pair like = after_quiet A p at skip rest k tt o i go

    due_steps : (A : Names) (p : Before) (q : Rule) → p.labelled ≡ false → p.due ≡ Some q → (b : Statements) → AreTypedStatements b → NoOffences E (visits E p (graft_all h b)) → Fit A (graft_all h (expand X b))
    due_steps A p q l d done t o = (tt, tt)
    due_steps A p q l d (mark m k rest) t o = list_steps none_set at_label rest has_none t.1 o
    due_steps A p q l d (then at st rest) t o =
        absurd (never_due p q l d at (graft_one h st) (partner_of (graft_all h rest)) _ o)

    -- after a call, before its partner or where a label is due
    pair_steps : (A : Names) (p : Before) → p.labelled ≡ false → (b : Statements) → p.due ≡ cond (is_pair (partner_of (graft_all h b))) None (Some AfterJump) → Returns A (partner_of (graft_all h b)) → AreTypedStatements b → NoOffences E (visits E p (graft_all h b)) → Fit A (graft_all h (expand X b))
    pair_steps A p l done d u t o = (tt, tt)
    pair_steps A p l (mark m k rest) d u t o = list_steps none_set at_label rest has_none t.1 o
    pair_steps A p l (then at (goto m) rest) d u t o =
        let j = partner_of (graft_all h rest) in
        let v = two_fine E [] (visits E (next E p (goto m) j) (graft_all h rest)) (nothing_right (offences_at E (visit_of p at (goto m) j)) _ o) in
        let r = due_steps _ (next E p (goto m) j) AfterJump refl refl rest t.1 v.1 in
        ((tt, r.0), (tt, r.1))
    pair_steps A p l (then at return rest) d u t o =
        let j = partner_of (graft_all h rest) in
        let v = two_fine E [] (visits E (next E p return j) (graft_all h rest)) (nothing_right (offences_at E (visit_of p at return j)) _ o) in
        let r = due_steps _ (next E p return j) AfterJump refl refl rest t.1 v.1 in
        ((tt, r.0), (u, r.1))
    pair_steps A p l (then at (branch e a b) rest) d u t o = absurd (never_due p AfterJump l d at (graft_one h (branch e a b)) (partner_of (graft_all h rest)) _ o)
    pair_steps A p l (then at (either bs) rest) d u t o = absurd (never_due p AfterJump l d at (graft_one h (either bs)) (partner_of (graft_all h rest)) _ o)
    pair_steps A p l (then at (with bs b) rest) d u t o = absurd (never_due p AfterJump l d at (graft_one h (with bs b)) (partner_of (graft_all h rest)) _ o)
    pair_steps A p l (then at (while e b) rest) d u t o = absurd (never_due p AfterJump l d at (graft_one h (while e b)) (partner_of (graft_all h rest)) _ o)
    pair_steps A p l (then at (call m ts) rest) d u t o = absurd (never_due p AfterJump l d at (graft_one h (call m ts)) (partner_of (graft_all h rest)) _ o)
    pair_steps A p l (then at (macro m ts) rest) d u t o = absurd (never_due p AfterJump l d at (graft_one h (macro m ts)) (partner_of (graft_all h rest)) _ o)
    pair_steps A p l (then at (assign ms) rest) d u t o = absurd (never_due p AfterJump l d at (graft_one h (assign ms)) (partner_of (graft_all h rest)) _ o)
    pair_steps A p l (then at (await e) rest) d u t o = absurd (never_due p AfterJump l d at (graft_one h (await e)) (partner_of (graft_all h rest)) _ o)
    pair_steps A p l (then at (print e) rest) d u t o = absurd (never_due p AfterJump l d at (graft_one h (print e)) (partner_of (graft_all h rest)) _ o)
    pair_steps A p l (then at (assert e) rest) d u t o = absurd (never_due p AfterJump l d at (graft_one h (assert e)) (partner_of (graft_all h rest)) _ o)
    pair_steps A p l (then at skip rest) d u t o = absurd (never_due p AfterJump l d at (graft_one h skip) (partner_of (graft_all h rest)) _ o)

    some_steps : (A : Names) (r : Path) (bs : Branches) → Has A r → AreTypedBranches bs → NoOffences E (visits_of_some E (inside r) (graft_some h bs)) → FitSome A (graft_some h (expand_some X bs))
    some_steps A r no_branches k t o = (tt, tt)
    some_steps A r (or b bs) k t o =
        let v = two_fine E (visits E (inside r) (graft_all h b)) (visits_of_some E (inside r) (graft_some h bs)) o in
        let y = list_steps A (inside r) b k t.0 v.0 in
        let z = some_steps A r bs k t.1 v.1 in
        ((y.0, z.0), (y.1, z.1))

-- ---- macros

module _ (targets : List Word) where
  mutual
    one_still : (w : Bool) (at : Span) (st : Statement) → IsTypedStatement st → jump_offences_here (in_body targets w) at.first st ≡ [] → jump_offences_inside (in_body targets w) st ≡ [] → IsQuiet st
    one_still w at (branch e a b) t m k = (all_still w a t.1 (nothing_left (jump_offences (in_body targets w) a) _ k), all_still w b t.2 (nothing_right (jump_offences (in_body targets w) a) _ k))
    one_still w at (either no_branches) t m k = absurd t
    one_still w at (either (or b bs)) t m k = (all_still w b t.0 (nothing_left (jump_offences (in_body targets w) b) _ k), some_still w bs t.1 (nothing_right (jump_offences (in_body targets w) b) _ k))
    one_still w at (with bs b) t m k = all_still true b t.1 k
    one_still w at (while e b) t m k = cc
    one_still w at (goto l) t m k = cc
    one_still w at (call p ts) t m k = cc
    one_still w at return t m k = cc
    one_still w at (macro n ts) t m k = tt
    one_still w at (assign ms) t m k = tt
    one_still w at (await e) t m k = tt
    one_still w at (print e) t m k = tt
    one_still w at (assert e) t m k = tt
    one_still w at skip t m k = tt

    all_still : (w : Bool) (b : Statements) → AreTypedStatements b → jump_offences (in_body targets w) b ≡ [] → AreQuiet b
    all_still w done t k = tt
    all_still w (then at st rest) t k =
        let r = nothing_right (jump_offences_here (in_body targets w) at.first st) _ k in (
          one_still w at st t.0 (nothing_left (jump_offences_here (in_body targets w) at.first st) _ k) (nothing_left (jump_offences_inside (in_body targets w) st) _ r),
          all_still w rest t.1 (nothing_right (jump_offences_inside (in_body targets w) st) _ r),
        )
    all_still w (mark n m rest) t k = cc

    some_still : (w : Bool) (bs : Branches) → AreTypedBranches bs → jump_offences_of_some (in_body targets w) bs ≡ [] → AllQuiet bs
    some_still w no_branches t k = tt
    some_still w (or b bs) t k = (all_still w b t.0 (nothing_left (jump_offences (in_body targets w) b) _ k), some_still w bs t.1 (nothing_right (jump_offences (in_body targets w) b) _ k))

quiet_macros : (ds : List Macro) → AllByRecursion IsTypedMacro ds → AllByRecursion IsPlain ds → AllByRecursion (λ (d : Macro). AreQuiet d.body) ds
quiet_macros [] t k = tt
quiet_macros (d ∷ ds) t k = (all_still (codes "Done" ∷ label_words d.body) false d.body t.0.2.1 k.0, quiet_macros ds t.1 k.1)

-- ---- bodies

module _ (ms : List Macro) (calls : CallsWritten ms) where
  abbrev C : Word → Trees → Effect
  C = call_effect ms

  body_steps : (E : Effects) → ((ns : Assignments) → E (assign ns) ≡ path.assigned (assign ns)) → ((m : Word) (ts : Trees) → E (macro m ts) ≡ C m ts) → (b : Statements) → AreTypedStatements b → missing_in_body E b ≡ [] → SetsOnce none_set (expanded ms b) × JumpsOnce E none_set (expanded ms b)
  body_steps E own same b t o =
      subst (λ (c : Statements). SetsOnce none_set c × JumpsOnce E none_set c) (all_unput (expanded ms b))
      (list_steps E C own same nothing_put (written_out ms) (calls nothing_put (λ x p q. refl)) none_set (at_first (Some FirstLabel)) b has_none t
      (subst (λ (c : Statements). NoOffences E (visits E (at_first (Some FirstLabel)) c)) (sym (all_unput b)) o))

  procedures_steps : (n : ℕ) (ps : List Procedure) → AllByRecursion IsTypedProcedure ps → flat_map (of_procedure C) ps ≡ [] → (u : Routine) → OneOf u (numbered procedure_routine n ps) → SetsOnce none_set (expanded ms u.body)
  procedures_steps n [] t e u k = absurd k
  procedures_steps n (p ∷ ps) t e u (inl q) =
      subst (λ (v : Routine). SetsOnce none_set (expanded ms v.body)) (sym q)
      (body_steps (procedure_effects C p) (λ ns. refl) (λ m ts. refl) p.body t.0.3.1 (nothing_left (missing_in_body (procedure_effects C p) p.body) _ (nothing_left (of_procedure C p) _ e))).0
  procedures_steps n (p ∷ ps) t e u (inr k) = procedures_steps (suc n) ps t.1 (nothing_right (of_procedure C p) _ e) u k

  procedures_jump : (n : ℕ) (ps : List Procedure) → AllByRecursion IsTypedProcedure ps → flat_map (of_procedure C) ps ≡ [] → (u : Routine) → OneOf u (numbered procedure_routine n ps) → JumpsOnce (effects_in C (Some u.name) (declared (locals u))) none_set (expanded ms u.body)
  procedures_jump n [] t e u k = absurd k
  procedures_jump n (p ∷ ps) t e u (inl q) =
      subst (λ (v : Routine). JumpsOnce (effects_in C (Some v.name) (declared (locals v))) none_set (expanded ms v.body)) (sym q)
      (body_steps (procedure_effects C p) (λ ns. refl) (λ m ts. refl) p.body t.0.3.1 (nothing_left (missing_in_body (procedure_effects C p) p.body) _ (nothing_left (of_procedure C p) _ e))).1
  procedures_jump n (p ∷ ps) t e u (inr k) = procedures_jump (suc n) ps t.1 (nothing_right (of_procedure C p) _ e) u k

  processes_steps : (n : ℕ) (ps : List Process) → AllByRecursion IsTypedProcess ps → flat_map (λ (p : Process). of_body C p.body) ps ≡ [] → (u : Routine) → OneOf u (numbered process_routine n ps) → SetsOnce none_set (expanded ms u.body)
  processes_steps n [] t e u k = absurd k
  processes_steps n (p ∷ ps) t e u (inl q) =
      subst (λ (v : Routine). SetsOnce none_set (expanded ms v.body)) (sym q)
      (body_steps (outer_effects C) (λ ns. refl) (λ m ts. refl) p.body t.0.3.1 (nothing_left (missing_in_body (outer_effects C) p.body) _ (nothing_left (of_body C p.body) _ e))).0
  processes_steps n (p ∷ ps) t e u (inr k) = processes_steps (suc n) ps t.1 (nothing_right (of_body C p.body) _ e) u k

  main_steps : (a : Algorithm) (m : Main) → IsTypedMain m → of_main C m ≡ [] → (u : Routine) → OneOf u (main_routines a m) → SetsOnce none_set (expanded ms u.body)
  main_steps a (alone b) t e u (inl q) =
      subst (λ (v : Routine). SetsOnce none_set (expanded ms v.body)) (sym q) (body_steps (outer_effects C) (λ ns. refl) (λ m ts. refl) b t.1 (nothing_left (missing_in_body (outer_effects C) b) _ e)).0
  main_steps a (alone b) t e u (inr k) = absurd k
  main_steps a (processes []) t e u k = absurd t
  main_steps a (processes (p ∷ ps)) t e u k = processes_steps (first_process a) (p ∷ ps) t e u k

pub steps_once : (a : Algorithm) → IsTypedAlgorithm a → label_offences a ≡ [] → (u : Routine) → OneOf u (routines a) → SetsOnce none_set (expanded (reverse a.macros) u.body)
steps_once a t e u k =
    let quiet = quiet_macros a.macros t.macros (each_one IsPlain a.macros (plain a e)) in
    let r = nothing_right (flat_map of_macro a.macros) _ e in
    by (calls_written (reverse a.macros) (reversed (λ (d : Macro). AreQuiet d.body) a.macros quiet))
    (nothing_left (flat_map (of_procedure (call_effect (reverse a.macros))) a.procedures) _ r) (nothing_right (flat_map (of_procedure (call_effect (reverse a.macros))) a.procedures) (of_main (call_effect (reverse a.macros)) a.main) r)
    (one_either u (procedure_routines a) (main_routines a a.main) k)
  where
    by : CallsWritten (reverse a.macros) → flat_map (of_procedure (call_effect (reverse a.macros))) a.procedures ≡ [] → of_main (call_effect (reverse a.macros)) a.main ≡ [] → OneOf u (procedure_routines a) ⊎ OneOf u (main_routines a a.main) → SetsOnce none_set (expanded (reverse a.macros) u.body)
    by c b m (inl q) = procedures_steps (reverse a.macros) c (first_procedure a) a.procedures t.procedures b u q
    by c b m (inr q) = main_steps (reverse a.macros) c a a.main t.main m u q

-- what calls and returns of a procedure assign, as the rule has it
pub jumps_once : (a : Algorithm) → IsTypedAlgorithm a → label_offences a ≡ [] → (u : Routine) → OneOf u (procedure_routines a)
    → JumpsOnce (effects_in (call_effect (reverse a.macros)) (Some u.name) (declared (locals u))) none_set (expanded (reverse a.macros) u.body)
jumps_once a t e u k =
    let quiet = quiet_macros a.macros t.macros (each_one IsPlain a.macros (plain a e)) in
    let r = nothing_right (flat_map of_macro a.macros) _ e in
    procedures_jump (reverse a.macros) (calls_written (reverse a.macros) (reversed (λ (d : Macro). AreQuiet d.body) a.macros quiet)) (first_procedure a) a.procedures t.procedures
    (nothing_left (flat_map (of_procedure (call_effect (reverse a.macros))) a.procedures) _ r) u k
