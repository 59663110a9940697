-- From each label of a body on, with macro calls written out: each part of the step has what is asked of it.
use Rattle.std.proofs.Common.{◌≡◌, ℕ, suc, List, [], ◌∷◌, ◌++◌, reverse, Bool, true, false, cond, bytes_eq, Option, Some, None, ◌⊎◌, inl, inr, refl, sym, subst}
use Rattle.std.proofs.lemmas.Option.{same_Some}
use Rattle.std.specs.List.{flat_map}
use Rattle.std.specs.Option.{option_or}
use Rattle.tla_token.specs.declared.rule.Rule.TheVariants.{DefinedStale}
use Rattle.tla_tree.specs.Tree.{Word, words, Trees}
use Rattle.pcal_tree.specs.Algorithm.{Name, Span, Statement, assign, await, print, assert, skip, branch, either, with, while, goto, macro, call, return, Statements, done, then, mark, Branches, no_branches, or, Procedure, Process, Main, alone, processes, Routine, locals, procedure_routine, process_routine, numbered, first_procedure, first_process, procedure_routines, main_routines, routines, Algorithm}
use Rattle.pcal_tree.specs.BoundNames.{names_of_binds}
use Rattle.pcal_tree.specs.Expand.{followed_by, Writing, expand_one, expand, expand_some, written_out, expanded}
use Rattle.pcal_tree.specs.Offences.{offence_if}
use Rattle.pcal_tree.specs.OffencesLabels.{label_offences}
use Rattle.pcal_tree.specs.OffencesStale.{jumps_use, stale_at, stale_in_procedure, stale_in_process, stale_in_main, written_out_spots, stale_offences, Looking}
use Rattle.pcal_tree.specs.OffencesSteps.{call_effect, effects_in, effect_with}
use Rattle.pcal_tree.specs.Paths as path
use Rattle.pcal_tree.specs.Paths.{Effects, nothing, Path, after_one, has_assigned}
use Rattle.pcal_tree.specs.Processes.{OneOf}
use Rattle.pcal_tree.specs.Reads.{used, used_by_binds, Reading, through, readings_of}
use Rattle.pcal_tree.specs.Run.{Partner, no_partner, goto_partner, return_partner, partner_of, unlabelled, label_of}
use Rattle.pcal_tree.specs.Spots.{Spot, after_path, Further, spots_of_one, spots, spots_of_some, spots_in}
use Rattle.pcal_tree.specs.StepStart.{Begin, begin_in, begin, begin_some, at_label}
use Rattle.pcal_tree.specs.Variables.{declared}
use Rattle.pcal_tree.specs.laws.Expansion.{Throughout}
use Rattle.pcal_tree.proofs.ClearLabels.{nothing_left, nothing_right}
use Rattle.pcal_tree.proofs.RoutineNames.{one_either}
use Rattle.pcal_tree.proofs.TroubleLaws.{one_left, one_right}
use Rattle.action_builder.specs.laws.Ready.{Apart}
use Rattle.action_builder.specs.Assigned.{Names, more}
use Rattle.translation.specs.laws.FreshReads.{Plain, asked}
use Rattle.translation.specs.laws.JumpsEnd.{JumpsEnd, AllJumpsEnd}
use Rattle.translation.specs.laws.PlacedStatements.{Placed, AllPlaced}
use Rattle.translation.specs.laws.StepParts.{AskedIn}
use Rattle.translation.specs.laws.StepsOnce.{set_by, none_set, SetsOnce, SetsOnceSome, JumpsOnceOne, JumpsOnce, JumpsOnceSome}
use Rattle.translation.specs.laws.TypedAlgorithm.{IsTypedAlgorithm}
use Rattle.translation.specs.laws.WritableAlgorithm.{is_procedure, is_variable, AreWritableStatements, AreWritableBranches}
use Rattle.translation.proofs.AcceptedNames.{no_offence}
use Rattle.translation.proofs.AskedSteps.{two_fine, IsFine, AreFine, Unread, list_asked}
use Rattle.translation.proofs.EachStepOnce.{steps_once, jumps_once}
use Rattle.translation.proofs.EndingJumps.{jumps_end}
use Rattle.translation.proofs.PlacedStatements.{procedure_placed, body_placed_in}
use Rattle.translation.proofs.StepsOnce.{Has}

-- ---- from a label on

or_either : (o p : Option Begin) (b : Begin) → option_or o p ≡ Some b → (o ≡ Some b) ⊎ (p ≡ Some b)
or_either None p b h = inr h
or_either (Some c) p b h = inl h

none_some : (b : Begin) → ◌≡◌ {A = Option Begin} None (Some b) → ⊥
none_some b e = cc

module _ (ds : List Reading) (F : Further) (E : Effects) (r : Bool) (C V : Word → Bool) (xs : List Word) where
  -- in a `with` where w is true; ys: the names that are bound there
  record Ahead (w : Bool) (ys : List Word) (b : Statements) : Type 0 where
    sets : (A : Names) × SetsOnce A b
    calls : (A : Names) × JumpsOnce E A b
    placed : (l : Bool) × Placed r w l b
    ends : JumpsEnd b
    written : AreWritableStatements C V b
    fine : (l : Bool) × (p : Path) × AreFine ds (spots F l p b ys)

  record SomeAhead (w : Bool) (ys : List Word) (bs : Branches) : Type 0 where
    sets : (A : Names) × SetsOnceSome A bs
    calls : (A : Names) × JumpsOnceSome E A bs
    placed : AllPlaced r w bs
    ends : AllJumpsEnd bs
    written : AreWritableBranches C V bs
    fine : (p : Path) × AreFine ds (spots_of_some F p bs ys)

  -- right after a label
  record Begun (b : Statements) : Type 0 where
    sets : SetsOnce none_set b
    calls : JumpsOnce E none_set b
    placed : Placed r false true b
    ends : JumpsEnd b
    written : AreWritableStatements C V b
    fine : AreFine ds (spots F true (Some []) b xs)

  past : (w : Bool) (ys : List Word) (at : Span) (st : Statement) (b : Statements) → Ahead w ys (then at st b) → Ahead w ys b
  past w ys at st b h = record {
    sets = (more h.sets.0 (set_by st), h.sets.1.1);
    calls = (more h.calls.0 (set_by st), h.calls.1.1);
    placed = (false, h.placed.1.1);
    ends = h.ends.1;
    written = h.written.1;
    fine = (false, after_one path.assigned st h.fine.0 h.fine.1, (two_fine (IsFine ds) (spots_of_one F h.fine.0 h.fine.1 at.first st ys) _ h.fine.2).1);
  }

  past_mark : (w : Bool) (ys : List Word) (m : _) (k : _) (b : Statements) → Ahead w ys (mark m k b) → Ahead w ys b
  past_mark w ys m k b h = record {
    sets = (none_set, h.sets.1);
    calls = (none_set, h.calls.1);
    placed = (true, h.placed.1.1);
    ends = h.ends;
    written = h.written.1;
    fine = (true, Some [], h.fine.2);
  }

  past_all : (w : Bool) (ys : List Word) (a b : Statements) → Ahead w ys (followed_by a b) → Ahead w ys b
  past_all w ys done b h = h
  past_all w ys (then at st a) b h = past_all w ys a b (past w ys at st (followed_by a b) h)
  past_all w ys (mark m k a) b h = past_all w ys a b (past_mark w ys m k (followed_by a b) h)

  in_first : (w : Bool) (ys : List Word) (at : Span) (e : _) (a b rest : Statements) → Ahead w ys (then at (branch e a b) rest) → Ahead w ys a
  in_first w ys at e a b rest h =
      let f = two_fine (IsFine ds) (spots_of_one F h.fine.0 h.fine.1 at.first (branch e a b) ys) _ h.fine.2 in
      let g = two_fine (IsFine ds) (after_path h.fine.1 (used e ys)) _ f.0 in
      let i = two_fine (IsFine ds) (spots F false h.fine.1 a ys) _ g.1 in
      record {
        sets = (h.sets.0, h.sets.1.0.0);
        calls = (h.calls.0, h.calls.1.0.0);
        placed = (false, h.placed.1.0.0);
        ends = h.ends.0.0;
        written = h.written.0.1;
        fine = (false, h.fine.1, i.0);
      }

  in_second : (w : Bool) (ys : List Word) (at : Span) (e : _) (a b rest : Statements) → Ahead w ys (then at (branch e a b) rest) → Ahead w ys b
  in_second w ys at e a b rest h =
      let f = two_fine (IsFine ds) (spots_of_one F h.fine.0 h.fine.1 at.first (branch e a b) ys) _ h.fine.2 in
      let g = two_fine (IsFine ds) (after_path h.fine.1 (used e ys)) _ f.0 in
      let i = two_fine (IsFine ds) (spots F false h.fine.1 a ys) _ g.1 in
      record {
        sets = (h.sets.0, h.sets.1.0.1);
        calls = (h.calls.0, h.calls.1.0.1);
        placed = (false, h.placed.1.0.1);
        ends = h.ends.0.1;
        written = h.written.0.2;
        fine = (false, h.fine.1, i.1);
      }

  in_with : (w : Bool) (ys : List Word) (at : Span) (bs : _) (b rest : Statements) → Ahead w ys (then at (with bs b) rest) → Ahead true (words (names_of_binds bs) ++ ys) b
  in_with w ys at bs b rest h =
      let f = two_fine (IsFine ds) (spots_of_one F h.fine.0 h.fine.1 at.first (with bs b) ys) _ h.fine.2 in
      let g = two_fine (IsFine ds) (after_path h.fine.1 (used_by_binds bs ys)) _ f.0 in
      record {
        sets = (h.sets.0, h.sets.1.0);
        calls = (h.calls.0, h.calls.1.0);
        placed = (false, h.placed.1.0);
        ends = h.ends.0.0;
        written = h.written.0.1;
        fine = (false, h.fine.1, g.1);
      }

  in_loop : (w : Bool) (ys : List Word) (at : Span) (e : _) (b rest : Statements) → Ahead w ys (then at (while e b) rest) → Ahead w ys b
  in_loop w ys at e b rest h =
      let f = two_fine (IsFine ds) (spots_of_one F h.fine.0 h.fine.1 at.first (while e b) ys) _ h.fine.2 in
      let o = after_one path.assigned (while e b) h.fine.0 h.fine.1 in
      let g = two_fine (IsFine ds) (after_path o (used e ys)) _ f.0 in
      record {
        sets = (none_set, h.sets.1.0);
        calls = (none_set, h.calls.1.0);
        placed = (false, h.placed.1.0.1);
        ends = h.ends.0;
        written = h.written.0.1;
        fine = (false, o, g.1);
      }

  in_branches : (w : Bool) (ys : List Word) (at : Span) (b : Statements) (bs : Branches) (rest : Statements) → Ahead w ys (then at (either (or b bs)) rest) → SomeAhead w ys (or b bs)
  in_branches w ys at b bs rest h =
      let f = two_fine (IsFine ds) (spots_of_one F h.fine.0 h.fine.1 at.first (either (or b bs)) ys) _ h.fine.2 in
      record {
        sets = (h.sets.0, h.sets.1.0);
        calls = (h.calls.0, h.calls.1.0);
        placed = h.placed.1.0;
        ends = h.ends.0.0;
        written = h.written.0;
        fine = (h.fine.1, f.0);
      }

  first_of : (w : Bool) (ys : List Word) (b : Statements) (bs : Branches) → SomeAhead w ys (or b bs) → Ahead w ys b
  first_of w ys b bs h =
      let f = two_fine (IsFine ds) (spots F false h.fine.0 b ys) _ h.fine.1 in
      record { sets = (h.sets.0, h.sets.1.0); calls = (h.calls.0, h.calls.1.0); placed = (false, h.placed.0); ends = h.ends.0; written = h.written.0; fine = (false, h.fine.0, f.0) }

  others_of : (w : Bool) (ys : List Word) (b : Statements) (bs : Branches) → SomeAhead w ys (or b bs) → SomeAhead w ys bs
  others_of w ys b bs h =
      let f = two_fine (IsFine ds) (spots F false h.fine.0 b ys) _ h.fine.1 in
      record { sets = (h.sets.0, h.sets.1.1); calls = (h.calls.0, h.calls.1.1); placed = h.placed.1; ends = h.ends.1; written = h.written.1; fine = (h.fine.0, f.1) }

  label_here : (w : Bool) (ys : List Word) → (w ≡ false → ys ≡ xs) → (m : _) (k : _) (b : Statements) → Ahead w ys (mark m k b) → Begun b
  label_here w ys q m k b h = record {
    sets = h.sets.1;
    calls = h.calls.1;
    placed = subst (λ (c : Bool). Placed r c true b) h.placed.1.0 h.placed.1.1;
    ends = h.ends;
    written = h.written.1;
    fine = subst (λ (zs : List Word). AreFine ds (spots F true (Some []) b zs)) (q h.placed.1.0) h.fine.2;
  }

  module _ (X : Writing) where
    after_this : (w : Bool) (ys : List Word) (at : Span) (st : Statement) (rest : Statements) → Ahead w ys (expand_one X at st rest) → Ahead w ys rest
    after_this w ys at (macro m ts) rest h = past_all w ys (X at m ts) rest h
    after_this w ys at (branch e a b) rest h = past w ys at (branch e (expand X a) (expand X b)) rest h
    after_this w ys at (either bs) rest h = past w ys at (either (expand_some X bs)) rest h
    after_this w ys at (with bs b) rest h = past w ys at (with bs (expand X b)) rest h
    after_this w ys at (while e b) rest h = past w ys at (while e (expand X b)) rest h
    after_this w ys at (assign ms) rest h = past w ys at (assign ms) rest h
    after_this w ys at (await e) rest h = past w ys at (await e) rest h
    after_this w ys at (print e) rest h = past w ys at (print e) rest h
    after_this w ys at (assert e) rest h = past w ys at (assert e) rest h
    after_this w ys at skip rest h = past w ys at skip rest h
    after_this w ys at (goto m) rest h = past w ys at (goto m) rest h
    after_this w ys at (call p ts) rest h = past w ys at (call p ts) rest h
    after_this w ys at return rest h = past w ys at return rest h

    mutual
      begun_in : (w : Bool) (ys : List Word) → (w ≡ false → ys ≡ xs) → (l here : Word) (at : Span) (st : Statement) (rest : Statements) (x : Word) → Ahead w ys (expand_one X at st rest) → (b : Begin) → begin_in l here st x ≡ Some b → Begun (expand X b.items)
      begun_in w ys q l here at (branch e a c) rest x h b k = by (or_either (begin l unlabelled a x) (begin l unlabelled c x) b k)
          (begun w ys q l unlabelled a x (in_first w ys at e (expand X a) (expand X c) rest h) b) (begun w ys q l unlabelled c x (in_second w ys at e (expand X a) (expand X c) rest h) b)
        where
          by : (begin l unlabelled a x ≡ Some b) ⊎ (begin l unlabelled c x ≡ Some b) → (begin l unlabelled a x ≡ Some b → Begun (expand X b.items)) → (begin l unlabelled c x ≡ Some b → Begun (expand X b.items)) → Begun (expand X b.items)
          by (inl z) f g = f z
          by (inr z) f g = g z
      begun_in w ys q l here at (either no_branches) rest x h b k = absurd (none_some b k)
      begun_in w ys q l here at (either (or c bs)) rest x h b k = begun_some w ys q l (or c bs) x (in_branches w ys at (expand X c) (expand_some X bs) rest h) b k
      begun_in w ys q l here at (with bs c) rest x h b k = begun true (words (names_of_binds bs) ++ ys) never l unlabelled c x (in_with w ys at bs (expand X c) rest h) b k
        where
          never : true ≡ false → (words (names_of_binds bs) ++ ys) ≡ xs
          never e = cc
      begun_in w ys q l here at (while e c) rest x h b k = begun w ys q l unlabelled c here (in_loop w ys at e (expand X c) rest h) b k
      begun_in w ys q l here at (macro m ts) rest x h b k = absurd (none_some b k)
      begun_in w ys q l here at (assign ms) rest x h b k = absurd (none_some b k)
      begun_in w ys q l here at (await e) rest x h b k = absurd (none_some b k)
      begun_in w ys q l here at (print e) rest x h b k = absurd (none_some b k)
      begun_in w ys q l here at (assert e) rest x h b k = absurd (none_some b k)
      begun_in w ys q l here at skip rest x h b k = absurd (none_some b k)
      begun_in w ys q l here at (goto m) rest x h b k = absurd (none_some b k)
      begun_in w ys q l here at (call p ts) rest x h b k = absurd (none_some b k)
      begun_in w ys q l here at return rest x h b k = absurd (none_some b k)

      begun : (w : Bool) (ys : List Word) → (w ≡ false → ys ≡ xs) → (l here : Word) (ss : Statements) (x : Word) → Ahead w ys (expand X ss) → (b : Begin) → begin l here ss x ≡ Some b → Begun (expand X b.items)
      begun w ys q l here done x h b k = absurd (none_some b k)
      begun w ys q l here (then at st rest) x h b k = by (or_either (begin_in l here st (label_of rest x)) (begin l unlabelled rest x) b k)
          (begun_in w ys q l here at st (expand X rest) (label_of rest x) h b) (begun w ys q l unlabelled rest x (after_this w ys at st (expand X rest) h) b)
        where
          by : (begin_in l here st (label_of rest x) ≡ Some b) ⊎ (begin l unlabelled rest x ≡ Some b) → (begin_in l here st (label_of rest x) ≡ Some b → Begun (expand X b.items)) → (begin l unlabelled rest x ≡ Some b → Begun (expand X b.items)) → Begun (expand X b.items)
          by (inl z) f g = f z
          by (inr z) f g = g z
      begun w ys q l here (mark m n rest) x h b k = by (bytes_eq l m.word) k (begun w ys q l m.word rest x (past_mark w ys m n (expand X rest) h) b)
        where
          by : (c : Bool) → cond c (Some (record { items = rest; exit = x })) (begin l m.word rest x) ≡ Some b → (begin l m.word rest x ≡ Some b → Begun (expand X b.items)) → Begun (expand X b.items)
          by true z f = subst (λ (d : Begin). Begun (expand X d.items)) (same_Some (record { items = rest; exit = x }) b z) (label_here w ys q m n (expand X rest) h)
          by false z f = f z

      begun_some : (w : Bool) (ys : List Word) → (w ≡ false → ys ≡ xs) → (l : Word) (bs : Branches) (x : Word) → SomeAhead w ys (expand_some X bs) → (b : Begin) → begin_some l bs x ≡ Some b → Begun (expand X b.items)
      begun_some w ys q l no_branches x h b k = absurd (none_some b k)
      begun_some w ys q l (or c bs) x h b k = by (or_either (begin l unlabelled c x) (begin_some l bs x) b k)
          (begun w ys q l unlabelled c x (first_of w ys (expand X c) (expand_some X bs) h) b) (begun_some w ys q l bs x (others_of w ys (expand X c) (expand_some X bs) h) b)
        where
          by : (begin l unlabelled c x ≡ Some b) ⊎ (begin_some l bs x ≡ Some b) → (begin l unlabelled c x ≡ Some b → Begun (expand X b.items)) → (begin_some l bs x ≡ Some b → Begun (expand X b.items)) → Begun (expand X b.items)
          by (inl z) f g = f z
          by (inr z) f g = g z

-- ---- of the rules

looked_fine : (ds : List Reading) (ns : List Name) (ss : List Spot) → flat_map (stale_at ds ns) ss ≡ [] → AreFine ds ss
looked_fine ds ns [] h = tt
looked_fine ds ns (s ∷ ss) h =
    let k = nothing_left (stale_at ds ns s) (flat_map (stale_at ds ns) ss) h in (
      no_offence (has_assigned s.path (through ds s.name.word)) DefinedStale s.name.place (nothing_left (offence_if (has_assigned s.path (through ds s.name.word)) DefinedStale s.name.place) _ k),
      looked_fine ds ns ss (nothing_right (stale_at ds ns s) (flat_map (stale_at ds ns) ss) h),
    )

module _ (a : Algorithm) where
  abbrev ds : List Reading
  ds = readings_of a

  abbrev L : Looking
  L = written_out_spots a

  -- of a routine's body, from its beginning
  abbrev pub BodyFine : Routine → Type 0
  BodyFine u = AreFine ds (spots_in (jumps_use a.procedures) (expanded (reverse a.macros) u.body) (declared (locals u)))

  procedures_fine : (n : ℕ) (ps : List Procedure) → flat_map (stale_in_procedure L ds) ps ≡ [] → (u : Routine) → OneOf u (numbered procedure_routine n ps) → BodyFine u
  procedures_fine n [] h u k = absurd k
  procedures_fine n (p ∷ ps) h u (inl q) = subst BodyFine (sym q) (looked_fine ds [] _ (nothing_left (stale_in_procedure L ds p) _ h))
  procedures_fine n (p ∷ ps) h u (inr k) = procedures_fine (suc n) ps (nothing_right (stale_in_procedure L ds p) _ h) u k

  processes_fine : (n : ℕ) (ps : List Process) → flat_map (stale_in_process L ds) ps ≡ [] → (u : Routine) → OneOf u (numbered process_routine n ps) → BodyFine u
  processes_fine n [] h u k = absurd k
  processes_fine n (p ∷ ps) h u (inl q) = subst BodyFine (sym q) (looked_fine ds (cond p.several [] (used p.identity [])) _ (nothing_left (stale_in_process L ds p) _ h))
  processes_fine n (p ∷ ps) h u (inr k) = processes_fine (suc n) ps (nothing_right (stale_in_process L ds p) _ h) u k

  main_fine : (m : Main) → stale_in_main L ds m ≡ [] → (u : Routine) → OneOf u (main_routines a m) → BodyFine u
  main_fine (alone b) h u (inl q) = subst BodyFine (sym q) (looked_fine ds [] _ h)
  main_fine (alone b) h u (inr k) = absurd k
  main_fine (processes ps) h u k = processes_fine (first_process a) ps h u k

  pub body_fine : stale_offences a ≡ [] → (u : Routine) → OneOf u (routines a) → BodyFine u
  body_fine h u k = by (one_either u (procedure_routines a) (main_routines a a.main) k)
    where
      by : OneOf u (procedure_routines a) ⊎ OneOf u (main_routines a a.main) → BodyFine u
      by (inl q) = procedures_fine (first_procedure a) a.procedures (nothing_left (flat_map (stale_in_procedure L ds) a.procedures) _ h) u q
      by (inr q) = main_fine a.main (nothing_right (flat_map (stale_in_procedure L ds) a.procedures) _ h) u q

-- where nothing is assigned by calls and returns
abbrev pub no_effects : Effects
no_effects st = nothing

apart_nothing : (A : Names) → Apart A []
apart_nothing A x m = cc

no_effect : (A : Names) (p : Name) (ts : Trees) (j : Partner) → Apart A (effect_with no_effects (call p ts) j).variables
no_effect A p ts no_partner = apart_nothing A
no_effect A p ts (goto_partner l) = apart_nothing A
no_effect A p ts (return_partner at) = apart_nothing A

mutual
  none_one : (A : Names) (st : Statement) (j : Partner) → JumpsOnceOne no_effects A st j
  none_one A (branch e a b) j = (none_all A a, none_all A b)
  none_one A (either bs) j = none_each A bs
  none_one A (with bs b) j = none_all A b
  none_one A (while e b) j = none_all none_set b
  none_one A (call p ts) j = no_effect A p ts j
  none_one A return j = apart_nothing A
  none_one A (assign ms) j = tt
  none_one A (await e) j = tt
  none_one A (print e) j = tt
  none_one A (assert e) j = tt
  none_one A skip j = tt
  none_one A (goto l) j = tt
  none_one A (macro m ts) j = tt

  none_all : (A : Names) (b : Statements) → JumpsOnce no_effects A b
  none_all A done = tt
  none_all A (then at st rest) = (none_one A st (partner_of rest), none_all (more A (set_by st)) rest)
  none_all A (mark l k rest) = none_all none_set rest

  none_each : (A : Names) (bs : Branches) → JumpsOnceSome no_effects A bs
  none_each A no_branches = tt
  none_each A (or b bs) = (none_all A b, none_each A bs)

-- ---- a step of a routine

has_none : Has none_set (Some [])
has_none = (tt, λ x m. absurd cc)

-- a routine in which a `return` may be where r is true, and where calls and returns assign what E says
module _ (a : Algorithm) (u : Routine) (E : Effects) (r : Bool) (N : Word → Type 0) (typed : IsTypedAlgorithm a) (labels : label_offences a ≡ []) (one : OneOf u (routines a))
    (calls : JumpsOnce E none_set (expanded (reverse a.macros) u.body)) (placed : Placed r false false (expanded (reverse a.macros) u.body))
    (written : AreWritableStatements (is_procedure a) (is_variable a u) (expanded (reverse a.macros) u.body)) (fine : BodyFine a u)
    (unread : (x : Word) → N x → through (readings_of a) x ≡ []) (own : Unread (readings_of a) (declared (locals u))) where
  step_asked : (l : Word) (b : Begin) → at_label u l ≡ Some b
      → (AreWritableStatements (is_procedure a) (is_variable a u) (expanded (reverse a.macros) b.items) → Throughout (Plain N) N (expanded (reverse a.macros) b.items))
      → AskedIn (asked (readings_of a) a.procedures (is_procedure a) (is_variable a u) N E r) none_set (expanded (reverse a.macros) b.items)
  step_asked l b q t =
      let h = begun (readings_of a) (jumps_use a.procedures) E r (is_procedure a) (is_variable a u) (declared (locals u)) (written_out (reverse a.macros)) false (declared (locals u)) (λ e. refl) l unlabelled u.body u.exit
      (record {
        sets = (none_set, steps_once a typed labels u one);
        calls = (none_set, calls);
        placed = (false, placed);
        ends = jumps_end a labels u one;
        written = written;
        fine = (false, Some [], fine);
      }) b q in
      list_asked (readings_of a) a.procedures (is_procedure a) (is_variable a u) N E r unread false true none_set (Some []) (declared (locals u)) (expanded (reverse a.macros) b.items)
      has_none (λ x e. absurd (never e)) (λ e x. refl) own h.sets h.calls h.placed h.ends h.written (t h.written) h.fine
    where
      never : false ≡ true → ⊥
      never e = cc

-- what a return in the routine, or its call of itself, assigns: nothing outside procedures
abbrev pub effects_of : Algorithm → Bool → Routine → Effects
effects_of a true u = effects_in (call_effect (reverse a.macros)) (Some u.name) (declared (locals u))
effects_of a false u = no_effects

-- of a procedure where r is true
abbrev pub IsRoutine : Algorithm → Bool → Routine → Type 0
IsRoutine a true u = OneOf u (procedure_routines a)
IsRoutine a false u = OneOf u (main_routines a a.main)

pub routine_one : (a : Algorithm) (r : Bool) (u : Routine) → IsRoutine a r u → OneOf u (routines a)
routine_one a true u k = one_left u (procedure_routines a) (main_routines a a.main) k
routine_one a false u k = one_right u (procedure_routines a) (main_routines a a.main) k

-- from each label of a routine on, where no rule on labels and on definitions is broken; N: the names that are bound there
pub label_asked : (a : Algorithm) (r : Bool) (u : Routine) → IsRoutine a r u → (N : Word → Type 0) → IsTypedAlgorithm a → label_offences a ≡ [] → stale_offences a ≡ []
    → AreWritableStatements (is_procedure a) (is_variable a u) (expanded (reverse a.macros) u.body)
    → ((x : Word) → N x → through (readings_of a) x ≡ []) → Unread (readings_of a) (declared (locals u))
    → (l : Word) (b : Begin) → at_label u l ≡ Some b
    → (AreWritableStatements (is_procedure a) (is_variable a u) (expanded (reverse a.macros) b.items) → Throughout (Plain N) N (expanded (reverse a.macros) b.items))
    → AskedIn (asked (readings_of a) a.procedures (is_procedure a) (is_variable a u) N (effects_of a r u) r) none_set (expanded (reverse a.macros) b.items)
label_asked a true u k N typed labels stale written unread own =
    let one = routine_one a true u k in
    step_asked a u (effects_of a true u) true N typed labels one (jumps_once a typed labels u k) (procedure_placed a labels u k) written (body_fine a stale u one) unread own
label_asked a false u k N typed labels stale written unread own =
    let one = routine_one a false u k in
    step_asked a u (effects_of a false u) false N typed labels one (none_all none_set (expanded (reverse a.macros) u.body)) (body_placed_in a labels u k) written (body_fine a stale u one) unread own
