-- Where no label is missing, each statement that jumps ends its list or is followed by a label, also with macro calls written out.
use Rattle.std.proofs.Common.{◌≡◌, ℕ, suc, List, [], ◌∷◌, ◌++◌, reverse, Bool, true, false, ◌||◌, cond, bytes_eq, codes, Option, Some, None, ◌⊎◌, inl, inr, refl, sym, subst, ◌∙◌}
use Rattle.std.proofs.lemmas.Bool.{or_parts, both_ways}
use Rattle.std.specs.List.{flat_map, AllByRecursion}
use Rattle.tla_token.specs.declared.rule.Refusal.{Refusal}
use Rattle.tla_token.specs.declared.rule.Rule.{Rule}
use Rattle.tla_token.specs.declared.rule.Rule.TheVariants.{FirstLabel, AfterBranch}
use Rattle.tla_token.specs.declared.place.Place.{Place}
use Rattle.tla_tree.specs.Tree.{Word, Trees, Graft}
use Rattle.pcal_tree.specs.Algorithm.{Span, Statement, assign, await, print, assert, skip, branch, either, with, while, goto, macro, call, return, Statements, done, then, mark, Branches, no_branches, or, Macro, Procedure, Process, Main, alone, processes, Routine, procedure_routine, process_routine, numbered, first_procedure, first_process, procedure_routines, main_routines, routines, Algorithm}
use Rattle.pcal_tree.specs.Expand.{graft_one, graft_all, graft_some, followed_by, Writing, expand_one, expand, expand_some, written_out, expanded}
use Rattle.pcal_tree.specs.OffencesLabels.{jump_offences_here, jump_offences_inside, jump_offences, jump_offences_of_some, label_words, of_macro, of_procedure, of_body, of_main, label_offences}
use Rattle.pcal_tree.specs.OffencesSteps.{holds, holds_one, holds_some, Before, at_label, at_first, inside, next, Visit, visits_inside, visits, visits_of_some, due_after, due_offence, missing_label, offences_at, call_effect, missing_in_body, procedure_effects, outer_effects}
use Rattle.pcal_tree.specs.Paths.{Effect, Effects, after_one}
use Rattle.pcal_tree.specs.Processes.{OneOf}
use Rattle.pcal_tree.specs.Run.{Partner, arguments, partner_of}
use Rattle.pcal_tree.proofs.ClearLabels.{nothing_left, nothing_right}
use Rattle.pcal_tree.proofs.PlainMacros.{in_body, IsPlain, plain}
use Rattle.pcal_tree.proofs.RoutineNames.{one_either}
use Rattle.action_builder.specs.Settled.{jumps_one, jumps, jumps_some}
use Rattle.action_builder.specs.laws.Settling.{Stops}
use Rattle.translation.specs.laws.JumpsEnd.{JumpEnds, JumpsEnd, AllJumpsEnd}
use Rattle.translation.proofs.KnownRoutines.{reversed}

-- ---- macros don't jump

module _ (g : Graft) where
  mutual
    one_jumps : (st : Statement) → jumps_one (graft_one g st) ≡ jumps_one st
    one_jumps (assign ms) = refl
    one_jumps (await e) = refl
    one_jumps (print e) = refl
    one_jumps (assert e) = refl
    one_jumps skip = refl
    one_jumps (branch e a b) = λ i. all_jumps a i || all_jumps b i
    one_jumps (either bs) = some_jumps bs
    one_jumps (with bs b) = all_jumps b
    one_jumps (while e b) = refl
    one_jumps (goto l) = refl
    one_jumps (macro m ts) = refl
    one_jumps (call m ts) = refl
    one_jumps return = refl

    pub all_jumps : (b : Statements) → jumps (graft_all g b) ≡ jumps b
    all_jumps done = refl
    all_jumps (then at st rest) = λ i. one_jumps st i || all_jumps rest i
    all_jumps (mark l k rest) = refl

    pub some_jumps : (bs : Branches) → jumps_some (graft_some g bs) ≡ jumps_some bs
    some_jumps no_branches = refl
    some_jumps (or b bs) = λ i. all_jumps b i || some_jumps bs i

neither : (a b : Bool) → a ≡ false → b ≡ false → (a || b) ≡ false
neither a b e f = (λ i. e i || b) ∙ f

pub followed_jumps : (a b : Statements) → jumps a ≡ false → jumps (followed_by a b) ≡ jumps b
followed_jumps done b h = refl
followed_jumps (then at st a) b h =
    let p = or_parts (jumps_one st) (jumps a) h in
    (λ i. p.0 i || jumps (followed_by a b)) ∙ followed_jumps a b p.1
followed_jumps (mark l k a) b h = cc

-- what is written for a call never jumps
abbrev pub IsStill : Writing → Type 0
IsStill X = (at : Span) (m : Word) (ts : Trees) → jumps (X at m ts) ≡ false

module _ (X : Writing) (still : IsStill X) (targets : List Word) where
  mutual
    one_still : (w : Bool) (at : Span) (st : Statement) (rest : Statements) → jump_offences_here (in_body targets w) at.first st ≡ [] → jump_offences_inside (in_body targets w) st ≡ [] → jumps rest ≡ false → jumps (expand_one X at st rest) ≡ false
    one_still w at (macro m ts) rest h k r = followed_jumps (X at m ts) rest (still at m ts) ∙ r
    one_still w at (branch e a b) rest h k r =
        neither (jumps (expand X a) || jumps (expand X b)) (jumps rest)
        (neither (jumps (expand X a)) (jumps (expand X b)) (all_still w a (nothing_left (jump_offences (in_body targets w) a) _ k)) (all_still w b (nothing_right (jump_offences (in_body targets w) a) _ k))) r
    one_still w at (either bs) rest h k r = neither (jumps_some (expand_some X bs)) (jumps rest) (some_still w bs k) r
    one_still w at (with bs b) rest h k r = neither (jumps (expand X b)) (jumps rest) (all_still true b k) r
    one_still w at (while e b) rest h k r = cc
    one_still w at (goto l) rest h k r = cc
    one_still w at (call p ts) rest h k r = cc
    one_still w at return rest h k r = cc
    one_still w at (assign ms) rest h k r = r
    one_still w at (await e) rest h k r = r
    one_still w at (print e) rest h k r = r
    one_still w at (assert e) rest h k r = r
    one_still w at skip rest h k r = r

    all_still : (w : Bool) (b : Statements) → jump_offences (in_body targets w) b ≡ [] → jumps (expand X b) ≡ false
    all_still w done h = refl
    all_still w (then at st rest) h =
        let r = nothing_right (jump_offences_here (in_body targets w) at.first st) _ h in
        one_still w at st (expand X rest) (nothing_left (jump_offences_here (in_body targets w) at.first st) _ h) (nothing_left (jump_offences_inside (in_body targets w) st) _ r)
        (all_still w rest (nothing_right (jump_offences_inside (in_body targets w) st) _ r))
    all_still w (mark n k rest) h = cc

    some_still : (w : Bool) (bs : Branches) → jump_offences_of_some (in_body targets w) bs ≡ [] → jumps_some (expand_some X bs) ≡ false
    some_still w no_branches h = refl
    some_still w (or b bs) h =
        neither (jumps (expand X b)) (jumps_some (expand_some X bs)) (all_still w b (nothing_left (jump_offences (in_body targets w) b) _ h)) (some_still w bs (nothing_right (jump_offences (in_body targets w) b) _ h))

pub macros_still : (ms : List Macro) → AllByRecursion IsPlain ms → IsStill (written_out ms)
macros_still [] h at m ts = refl
macros_still (d ∷ older) h at m ts = by (bytes_eq d.name.word m) (macros_still older h.1)
  where
    by : (b : Bool) → IsStill (written_out older) → jumps (cond b (graft_all (arguments d.params ts) (expand (written_out older) d.body)) (written_out older at m ts)) ≡ false
    by true f = all_jumps (arguments d.params ts) (expand (written_out older) d.body) ∙ all_still (written_out older) f (codes "Done" ∷ label_words d.body) false d.body h.0
    by false f = f at m ts

-- ---- before another list

mutual
  one_ends : (st : Statement) (rest : Statements) → jumps_one st ≡ false → JumpEnds st rest
  one_ends (branch e a b) rest h =
      let p = or_parts (jumps a) (jumps b) h in
      (all_end a p.0, all_end b p.1, λ k. absurd (both_ways (jumps a || jumps b) h k))
  one_ends (either bs) rest h = (some_end bs h, λ k. absurd (both_ways (jumps_some bs) h k))
  one_ends (with bs b) rest h = (all_end b h, λ k. absurd (both_ways (jumps b) h k))
  one_ends (while e b) rest h = cc
  one_ends _ rest h = tt

  all_end : (b : Statements) → jumps b ≡ false → JumpsEnd b
  all_end done h = tt
  all_end (then at st rest) h = (let p = or_parts (jumps_one st) (jumps rest) h in (one_ends st rest p.0, all_end rest p.1))
  all_end (mark l k rest) h = cc

  some_end : (bs : Branches) → jumps_some bs ≡ false → AllJumpsEnd bs
  some_end no_branches h = tt
  some_end (or b bs) h = (let p = or_parts (jumps b) (jumps_some bs) h in (all_end b p.0, some_end bs p.1))

followed_ends : (a b : Statements) → jumps a ≡ false → JumpsEnd b → JumpsEnd (followed_by a b)
followed_ends done b h k = k
followed_ends (then at st a) b h k = (let p = or_parts (jumps_one st) (jumps a) h in (one_ends st (followed_by a b) p.0, followed_ends a b p.1 k))
followed_ends (mark l m a) b h k = cc

-- ---- where no label is missing

abbrev NoneMissing : List Visit → Type 0
NoneMissing vs = flat_map missing_label vs ≡ []

two_missing : (vs ws : List Visit) → NoneMissing (vs ++ ws) → NoneMissing vs × NoneMissing ws
two_missing [] ws h = (refl, h)
two_missing (v ∷ vs) ws h =
    let p = two_missing vs ws (nothing_right (missing_label v) _ h) in
    (subst (λ (r : List Refusal). r ++ flat_map missing_label vs ≡ []) (sym (nothing_left (missing_label v) _ h)) p.0, p.1)

none_missing : (E : Effects) (vs : List Visit) → flat_map (offences_at E) vs ≡ [] → NoneMissing vs
none_missing E [] h = refl
none_missing E (v ∷ vs) h =
    subst (λ (r : List Refusal). r ++ flat_map missing_label vs ≡ []) (sym (nothing_left (missing_label v) _ (nothing_left (offences_at E v) _ h))) (none_missing E vs (nothing_right (offences_at E v) _ h))

pub while_missing : (l : Bool) (xs : List Refusal) (r : Refusal) → l ≡ false → cond l [] (xs ++ (r ∷ [])) ≡ [] → ⊥
while_missing true xs r e h = absurd cc
while_missing false xs r e h = (let k = nothing_right xs (r ∷ []) h in absurd cc)

pub due_missing : (l : Bool) (d : Option Rule) (q : Rule) (at : Place) (ws : List Refusal) → l ≡ false → d ≡ Some q → cond l [] (due_offence d at ++ ws) ≡ [] → ⊥
due_missing true d q at ws e f h = absurd cc
due_missing false None q at ws e f h = absurd cc
due_missing false (Some r) q at ws e f h = absurd cc

module _ (E : Effects) (X : Writing) (still : IsStill X) where
  -- without a label or a jump, where there is no label before the list
  mutual
    one_quiet : (p : Before) → p.labelled ≡ false → (at : Span) (st : Statement) (j : Partner) (rest : Statements) → missing_label (record { before = p; place = at.first; statement = st; partner = j }) ≡ [] → NoneMissing (visits_inside E p st) → holds_one st ≡ false → jumps rest ≡ false
        → jumps (expand_one X at st rest) ≡ false
    one_quiet p l at (branch e a b) j rest m h k r =
        let v = two_missing (visits E (inside p.path) a) (visits E (inside p.path) b) h in
        let q = or_parts (holds a) (holds b) k in
        neither (jumps (expand X a) || jumps (expand X b)) (jumps rest) (neither (jumps (expand X a)) (jumps (expand X b)) (all_quiet (inside p.path) refl a v.0 q.0) (all_quiet (inside p.path) refl b v.1 q.1)) r
    one_quiet p l at (either bs) j rest m h k r = neither (jumps_some (expand_some X bs)) (jumps rest) (some_quiet (inside p.path) refl bs h k) r
    one_quiet p l at (with bs b) j rest m h k r = neither (jumps (expand X b)) (jumps rest) (all_quiet (inside p.path) refl b h k) r
    one_quiet p l at (while e b) j rest m h k r = absurd (while_missing p.labelled (due_offence p.due at.first) _ l m)
    one_quiet p l at (macro n ts) j rest m h k r = followed_jumps (X at n ts) rest (still at n ts) ∙ r
    one_quiet p l at (goto n) j rest m h k r = cc
    one_quiet p l at (call n ts) j rest m h k r = cc
    one_quiet p l at return j rest m h k r = cc
    one_quiet p l at (assign ms) j rest m h k r = r
    one_quiet p l at (await e) j rest m h k r = r
    one_quiet p l at (print e) j rest m h k r = r
    one_quiet p l at (assert e) j rest m h k r = r
    one_quiet p l at skip j rest m h k r = r

    all_quiet : (p : Before) → p.labelled ≡ false → (b : Statements) → NoneMissing (visits E p b) → holds b ≡ false → jumps (expand X b) ≡ false
    all_quiet p l done h k = refl
    all_quiet p l (then at st rest) h k =
        let q = or_parts (holds_one st) (holds rest) k in
        let m = nothing_left (missing_label (record { before = p; place = at.first; statement = st; partner = partner_of rest })) _ h in
        let v = two_missing (visits_inside E p st) (visits E (next E p st (partner_of rest)) rest) (nothing_right (missing_label (record { before = p; place = at.first; statement = st; partner = partner_of rest })) _ h) in
        one_quiet p l at st (partner_of rest) (expand X rest) m v.0 q.0 (all_quiet (next E p st (partner_of rest)) refl rest v.1 q.1)
    all_quiet p l (mark n k rest) h q = cc

    some_quiet : (p : Before) → p.labelled ≡ false → (bs : Branches) → NoneMissing (visits_of_some E p bs) → holds_some bs ≡ false → jumps_some (expand_some X bs) ≡ false
    some_quiet p l no_branches h k = refl
    some_quiet p l (or b bs) h k =
        let v = two_missing (visits E p b) (visits_of_some E p bs) h in
        let q = or_parts (holds b) (holds_some bs) k in
        neither (jumps (expand X b)) (jumps_some (expand_some X bs)) (all_quiet p l b v.0 q.0) (some_quiet p l bs v.1 q.1)

  -- where a label is due
  stops_after : (p : Before) (q : Rule) → p.labelled ≡ false → p.due ≡ Some q → (rest : Statements) → NoneMissing (visits E p rest) → Stops (expand X rest)
  stops_after p q l d done h = tt
  stops_after p q l d (mark n k rest) h = tt
  stops_after p q l d (then at st rest) h =
      absurd (due_missing p.labelled p.due q at.first _ l d (nothing_left (missing_label (record { before = p; place = at.first; statement = st; partner = partner_of rest })) _ h))

  -- a statement that holds a label or a jump, before the rest
  stops_if : (p : Before) (st : Statement) (j : Partner) (b c : Bool) → due_after st j ≡ cond b (Some AfterBranch) None → (b ≡ false → c ≡ false) → (rest : Statements) → NoneMissing (visits E (next E p st j) rest) → c ≡ true → Stops (expand X rest)
  stops_if p st j true c d f rest h k = stops_after (next E p st j) AfterBranch refl d rest h
  stops_if p st j false c d f rest h k = absurd (both_ways c (f refl) k)

  mutual
    one_ordered : (p : Before) (at : Span) (st : Statement) (rest : Statements) → NoneMissing (visits_inside E p st) → NoneMissing (visits E (next E p st (partner_of rest)) rest) → JumpsEnd (expand X rest) → JumpsEnd (expand_one X at st (expand X rest))
    one_ordered p at (branch e a b) rest h n r =
        let v = two_missing (visits E (inside p.path) a) (visits E (inside p.path) b) h in
        let quiet = λ (k : (holds a || holds b) ≡ false). (let q = or_parts (holds a) (holds b) k in neither (jumps (expand X a)) (jumps (expand X b)) (all_quiet (inside p.path) refl a v.0 q.0) (all_quiet (inside p.path) refl b v.1 q.1)) in
        ((all_ordered (inside p.path) a v.0, all_ordered (inside p.path) b v.1, stops_if p (branch e a b) (partner_of rest) (holds a || holds b) (jumps (expand X a) || jumps (expand X b)) refl quiet rest n), r)
    one_ordered p at (either bs) rest h n r =
        ((some_ordered (inside p.path) bs h, stops_if p (either bs) (partner_of rest) (holds_some bs) (jumps_some (expand_some X bs)) refl (some_quiet (inside p.path) refl bs h) rest n), r)
    one_ordered p at (with bs b) rest h n r =
        ((all_ordered (inside p.path) b h, stops_if p (with bs b) (partner_of rest) (holds b) (jumps (expand X b)) refl (all_quiet (inside p.path) refl b h) rest n), r)
    one_ordered p at (while e b) rest h n r = (all_ordered (inside (after_one E (while e b) p.labelled p.path)) b h, r)
    one_ordered p at (macro m ts) rest h n r = followed_ends (X at m ts) (expand X rest) (still at m ts) r
    one_ordered p at (assign ms) rest h n r = (tt, r)
    one_ordered p at (await e) rest h n r = (tt, r)
    one_ordered p at (print e) rest h n r = (tt, r)
    one_ordered p at (assert e) rest h n r = (tt, r)
    one_ordered p at skip rest h n r = (tt, r)
    one_ordered p at (goto l) rest h n r = (tt, r)
    one_ordered p at (call m ts) rest h n r = (tt, r)
    one_ordered p at return rest h n r = (tt, r)

    all_ordered : (p : Before) (b : Statements) → NoneMissing (visits E p b) → JumpsEnd (expand X b)
    all_ordered p done h = tt
    all_ordered p (then at st rest) h =
        let v = two_missing (visits_inside E p st) (visits E (next E p st (partner_of rest)) rest) (nothing_right (missing_label (record { before = p; place = at.first; statement = st; partner = partner_of rest })) _ h) in
        one_ordered p at st rest v.0 v.1 (all_ordered (next E p st (partner_of rest)) rest v.1)
    all_ordered p (mark n k rest) h = all_ordered at_label rest h

    some_ordered : (p : Before) (bs : Branches) → NoneMissing (visits_of_some E p bs) → AllJumpsEnd (expand_some X bs)
    some_ordered p no_branches h = tt
    some_ordered p (or b bs) h = (let v = two_missing (visits E p b) (visits_of_some E p bs) h in (all_ordered p b v.0, some_ordered p bs v.1))

-- ---- bodies

module _ (ms : List Macro) (still : IsStill (written_out ms)) (C : Word → Trees → Effect) where
  body_ends : (E : Effects) (b : Statements) → missing_in_body E b ≡ [] → JumpsEnd (expanded ms b)
  body_ends E b h = all_ordered E (written_out ms) still (at_first (Some FirstLabel)) b (none_missing E (visits E (at_first (Some FirstLabel)) b) h)

  procedures_end : (n : ℕ) (ps : List Procedure) → flat_map (of_procedure C) ps ≡ [] → (u : Routine) → OneOf u (numbered procedure_routine n ps) → JumpsEnd (expanded ms u.body)
  procedures_end n [] e u k = absurd k
  procedures_end n (p ∷ ps) e u (inl q) =
      subst (λ (v : Routine). JumpsEnd (expanded ms v.body)) (sym q) (body_ends (procedure_effects C p) p.body (nothing_left (missing_in_body (procedure_effects C p) p.body) _ (nothing_left (of_procedure C p) _ e)))
  procedures_end n (p ∷ ps) e u (inr k) = procedures_end (suc n) ps (nothing_right (of_procedure C p) _ e) u k

  processes_end : (n : ℕ) (ps : List Process) → flat_map (λ (p : Process). of_body C p.body) ps ≡ [] → (u : Routine) → OneOf u (numbered process_routine n ps) → JumpsEnd (expanded ms u.body)
  processes_end n [] e u k = absurd k
  processes_end n (p ∷ ps) e u (inl q) =
      subst (λ (v : Routine). JumpsEnd (expanded ms v.body)) (sym q) (body_ends (outer_effects C) p.body (nothing_left (missing_in_body (outer_effects C) p.body) _ (nothing_left (of_body C p.body) _ e)))
  processes_end n (p ∷ ps) e u (inr k) = processes_end (suc n) ps (nothing_right (of_body C p.body) _ e) u k

  main_ends : (a : Algorithm) (m : Main) → of_main C m ≡ [] → (u : Routine) → OneOf u (main_routines a m) → JumpsEnd (expanded ms u.body)
  main_ends a (alone b) e u (inl q) = subst (λ (v : Routine). JumpsEnd (expanded ms v.body)) (sym q) (body_ends (outer_effects C) b (nothing_left (missing_in_body (outer_effects C) b) _ e))
  main_ends a (alone b) e u (inr k) = absurd k
  main_ends a (processes ps) e u k = processes_end (first_process a) ps e u k

pub each_one : (P : Macro → Type 0) (ds : List Macro) → ((d : Macro) → OneOf d ds → P d) → AllByRecursion P ds
each_one P [] h = tt
each_one P (d ∷ ds) h = (h d (inl refl), each_one P ds (λ e k. h e (inr k)))

pub jumps_end : (a : Algorithm) → label_offences a ≡ [] → (u : Routine) → OneOf u (routines a) → JumpsEnd (expanded (reverse a.macros) u.body)
jumps_end a e u k =
    let C = call_effect (reverse a.macros) in
    let still = macros_still (reverse a.macros) (reversed IsPlain a.macros (each_one IsPlain a.macros (plain a e))) in
    let r = nothing_right (flat_map of_macro a.macros) _ e in
    by still (nothing_left (flat_map (of_procedure C) a.procedures) _ r) (nothing_right (flat_map (of_procedure C) a.procedures) (of_main C a.main) r) (one_either u (procedure_routines a) (main_routines a a.main) k)
  where
    by : IsStill (written_out (reverse a.macros)) → flat_map (of_procedure (call_effect (reverse a.macros))) a.procedures ≡ [] → of_main (call_effect (reverse a.macros)) a.main ≡ [] → OneOf u (procedure_routines a) ⊎ OneOf u (main_routines a a.main) → JumpsEnd (expanded (reverse a.macros) u.body)
    by still b c (inl q) = procedures_end (reverse a.macros) still (call_effect (reverse a.macros)) (first_procedure a) a.procedures b u q
    by still b c (inr q) = main_ends (reverse a.macros) still (call_effect (reverse a.macros)) a a.main c u q
