-- What was read within the limits can be gone on with within them: lists of statements.
use Rattle.std.proofs.Common.{◌≡◌, ℕ, zero, suc, ◌+◌, ◌≤◌, Bool, true, false, not, List, [], ◌++◌, length, Option, Some, None, refl, sym, ap, ◌∙◌, append_assoc, length-append, arith, codes}
use Rattle.std.proofs.lemmas.List.{append-nil}
use Rattle.std.specs.Prelude.{IsTrue}
use Rattle.tla_token.specs.declared.place.Place.{Place}
use Rattle.tla_token.specs.Places.{nowhere}
use Rattle.tla_tree.specs.Tree.{Name}
use Rattle.tla_tree.specs.Lexical.{TokenView, Token}
use Rattle.tla_tree.specs.Lexical as tk
use Rattle.tla_tree.specs.Reader.{Reader, refuses}
use Rattle.tla_tree.specs.FirstStop.{Open}
use Rattle.tla_tree.proofs.SpellAhead.{Ahead, held, put_ahead, then_ahead}
use Rattle.tla_tree.proofs.Limited.{told_ok}
use Rattle.pcal_tree.specs.GrammarParts.{name, key, mark, semicolon, maybe_semicolon, Labels, no_labels, labels}
use Rattle.pcal_tree.specs.GrammarParts as g
use Rattle.pcal_tree.specs.GrammarC.{simple, branch, either, with, while, compound, Labelled, labelled, else_then, last_branch, more_branches, Sequence, last_statement, labelled_tokens, sequence, labelled_takes_else, labelled_takes_or, Divided, GoodLabelled, GoodSequence}
use Rattle.pcal_tree.specs.OpenForms.{here, plain, expression_opens, after_binds, c_labelled, c_sequence}
use Rattle.syntax_reading.specs.TokenReaders.{limited_parts, pick}
use Rattle.syntax_reading.specs.ReadAround.{with_label}
use Rattle.syntax_reading.specs.ReadSimple.{simple_words}
use Rattle.syntax_reading.proofs.Sound.{sound_pick, sound_stays, sound_refuses}
use Rattle.syntax_reading.proofs.SoundSimple.{named_sound, words_sound}
use Rattle.syntax_reading.proofs.Aheads.{ahead_simple}
use Rattle.syntax_reading.proofs.WithLabel.{with_label_tokens}
use Rattle.syntax_reading.proofs.Beside.{Sits, sits_on, sits_here, beside_pick, beside_stays, beside_refuses}
use Rattle.syntax_reading.proofs.BesideAround.{sits_moved, binds_sit, with_label_opens}
use Rattle.syntax_reading.proofs.BesideParts.{unlimited_parts}
use Rattle.syntax_reading.proofs.BesideSimple.{beside_named, beside_words}
use Rattle.syntax_reading.proofs.Lower.{lowered_ends}
use Rattle.syntax_reading.proofs.Within.{Filled, Ends, EndsAt, Part, AllEnd, fits_of, here_filled, ends_gives, ends_refuses, ends_after, ends_bind, ends_then, ends_next, ends_stays, ends_past, ends_opened, ends_same, ends_pick, ends_moved, mark_part}
use Rattle.syntax_reading.proofs.WithinParts.{limited_sound, expr_part, colon_part, binds_part}
use Rattle.syntax_reading.proofs.WithinSimple.{named_ends, words_end}
use Rattle.c_reading.specs.ReadStatements.{none, after, first_arm, later_arm, if_test, with_opening, while_opening, Stack, bottom, in_block, in_then, in_else, in_body, in_either, depth, State, begin, ended, Turn, on, done, with_before, joined}
use Rattle.c_reading.specs.ReadStatements.{before_or, opens, either_if, ends_simple, after_name, statement_words, statement_by, ask_else, ask_or, ask_other, closed, takes_else, takes_or, closing_words, is_divided, another_if, list_by, ended_by, step, turned, run, read_sequence}
use Rattle.c_reading.proofs.SoundStatements.{stack, passed, turn, at, GoodStack, GoodState, GoodTurn, with_before_tokens, with_before_good, joined_tokens, joined_good, joined_takes_else, AllFound, closes, divides, step_sound, sequence_sound}
use Rattle.c_reading.proofs.MendStatements.{ahead_at, ahead_passed, ahead_turn, ahead_sequence}
use Rattle.c_reading.proofs.BesideStatements.{stack_opens, divider_depth, state_opens, turn_opens, with_before_opens, joined_opens, tested_opens, AllCounted, closes_counted, at_sits, lower_sits, front_sits, step_beside, beside_sequence}

abbrev skips : Labelled
skips = labelled no_labels (simple (g.skip nowhere))

module _ (e : ℕ) (z : List Open) where
  abbrev all : Turn → List Open
  all t = z ++ turn_opens t

  abbrev whole : Sequence → List Open
  whole ss = z ++ c_sequence 0 ss

  abbrev front : Labels → Stack → List Open
  front ls st = z ++ stack_opens st ++ plain (depth st) (labels ls)

  -- ---- what completes a state
  abbrev Completed : (List Token → List Token) → List Open → Type 0
  Completed x y = Filled x GoodSequence sequence y whole

  -- some tokens, and then what completes it after them
  onward : (x y : List Token → List Token) (fix : List Token) → ((ts : List Token) → y ts ≡ x (fix ++ ts)) → (c v m : List Open) → v ≡ c ++ m → length m ≡ length fix → Completed y v → Completed x c
  onward x y fix t c v m o l f = record {
    whole = f.whole;
    good = f.good;
    more = m ++ f.more;
    counts = f.counts ∙ ap (λ (w : List Open). w ++ f.more) o ∙ append_assoc c m f.more;
    fix = fix ++ f.fix;
    long = (let n = length-append m f.more in let k = length-append fix f.fix in let j = f.long in omega (arith, n, k, j, l));
    tokens = λ w. f.tokens w ∙ t (f.fix ++ w) ∙ ap x (sym (append_assoc fix f.fix w));
  }

  -- a statement that stands where nothing that comes is its own
  abbrev Ended : Stack → Labelled → Type 0
  Ended st a = Completed (λ ts. stack st (labelled_tokens a ts)) (z ++ (stack_opens st ++ c_labelled (depth st) a))

  stack_completed : (st : Stack) → GoodStack st → (a : Labelled) → GoodLabelled a → IsTrue (not (labelled_takes_else a)) → (before_or st ≡ true → IsTrue (not (labelled_takes_or a))) → Ended st a
  stack_completed (bottom b) d a i n c =
      here_filled (with_before b (last_statement a None)) (with_before_good b (last_statement a None) d i) (λ ts. with_before_tokens b (last_statement a None) ts) (ap (λ (y : List Open). z ++ y) (with_before_opens 0 b (last_statement a None)) ∙ simp (append_assoc, append-nil) refl)
  stack_completed (in_block ls p b st) d a i n c =
      (let k = depth st in
      let ss = last_statement a None in
      let it = labelled ls (compound p (with_before b ss) nowhere) in
      let outside = z ++ stack_opens st ++ plain k (labels ls) ++ here (k + 1) in
      onward (λ ts. stack (in_block ls p b st) (labelled_tokens a ts)) (λ ts. stack st (labelled_tokens it ts)) (mark nowhere tk.close_brace [])
      (λ ts. ap (λ (us : List Token). stack st (labels ls (mark p tk.open_brace us))) (with_before_tokens b ss (mark nowhere tk.close_brace ts)))
      (z ++ (stack_opens (in_block ls p b st) ++ c_labelled (k + 1) a)) (z ++ (stack_opens st ++ c_labelled k it)) (here (k + 1))
      (simp append_assoc refl ∙ ap (λ (y : List Open). outside ++ y ++ here (k + 1)) (with_before_opens (k + 1) b ss) ∙ simp (append_assoc, append-nil) refl) refl
      (stack_completed st d.1 it (with_before_good b ss d.0 i) refl (λ j. refl)))
  stack_completed (in_then ls (if_test u v w q) st) d a i n c =
      (let k = depth st in
      let b = else_then None nowhere skips in
      let it = labelled ls (branch u v w q a b) in
      onward (λ ts. stack (in_then ls (if_test u v w q) st) (labelled_tokens a ts)) (λ ts. stack st (labelled_tokens it ts)) (key nowhere (codes "else") (key nowhere (codes "skip") [])) (λ ts. refl)
      (z ++ (stack_opens (in_then ls (if_test u v w q) st) ++ c_labelled (k + 1) a)) (z ++ (stack_opens st ++ c_labelled k it)) (here (k + 1) ++ here (k + 1))
      (ap (λ (y : List Open). z ++ (stack_opens st ++ y)) (tested_opens k ls (if_test u v w q) a b) ∙ simp append_assoc refl) refl
      (stack_completed st d.1 it (d.0, i, (n, tt)) refl (λ j. refl)))
  stack_completed (in_else ls (if_test u v w r) b q p st) d a i n c =
      (let k = depth st in
      let it = labelled ls (branch u v w r b (else_then q p a)) in
      onward (λ ts. stack (in_else ls (if_test u v w r) b q p st) (labelled_tokens a ts)) (λ ts. stack st (labelled_tokens it ts)) [] (λ ts. refl)
      (z ++ (stack_opens (in_else ls (if_test u v w r) b q p st) ++ c_labelled (k + 1) a)) (z ++ (stack_opens st ++ c_labelled k it)) []
      (ap (λ (y : List Open). z ++ (stack_opens st ++ y)) (tested_opens k ls (if_test u v w r) b (else_then q p a)) ∙ simp (append_assoc, append-nil) refl) refl
      (stack_completed st d.3 it (d.0, d.1, (d.2, i)) n c))
  stack_completed (in_body ls (with_opening u v bs w) st) d a i n c =
      (let it = labelled ls (with u v bs w a) in
      onward (λ ts. stack (in_body ls (with_opening u v bs w) st) (labelled_tokens a ts)) (λ ts. stack st (labelled_tokens it ts)) [] (λ ts. refl)
      (z ++ (stack_opens (in_body ls (with_opening u v bs w) st) ++ c_labelled (after_binds (depth st) bs) a)) (z ++ (stack_opens st ++ c_labelled (depth st) it)) [] (simp (append_assoc, append-nil) refl) refl
      (stack_completed st d.1 it (d.0, i) n c))
  stack_completed (in_body ls (while_opening u v q w) st) d a i n c =
      (let it = labelled ls (while u v q w a) in
      onward (λ ts. stack (in_body ls (while_opening u v q w) st) (labelled_tokens a ts)) (λ ts. stack st (labelled_tokens it ts)) [] (λ ts. refl)
      (z ++ (stack_opens (in_body ls (while_opening u v q w) st) ++ c_labelled (depth st + 1) a)) (z ++ (stack_opens st ++ c_labelled (depth st) it)) [] (simp (append_assoc, append-nil) refl) refl
      (stack_completed st d.1 it (d.0, i) n c))
  stack_completed (in_either (first_arm ls p) st) d a i n c =
      (let k = depth st in
      let bs = last_branch None nowhere skips in
      let it = labelled ls (either p a bs) in
      onward (λ ts. stack (in_either (first_arm ls p) st) (labelled_tokens a ts)) (λ ts. stack st (labelled_tokens it ts)) (key nowhere (codes "or") (key nowhere (codes "skip") [])) (λ ts. refl)
      (z ++ (stack_opens (in_either (first_arm ls p) st) ++ c_labelled (k + 1) a)) (z ++ (stack_opens st ++ c_labelled k it)) (here (k + 1) ++ here (k + 1))
      (ap (λ (y : List Open). z ++ (stack_opens st ++ y)) (joined_opens k (first_arm ls p) a bs) ∙ simp append_assoc refl) refl
      (stack_completed st d.2 it (i, c refl, tt) refl (λ j. absurd (let f = d.1 in cc))))
  stack_completed (in_either (later_arm t b q p) st) d a i n c =
      (let k = depth st in
      let bs = last_branch q p a in
      let it = joined t b bs in
      onward (λ ts. stack (in_either (later_arm t b q p) st) (labelled_tokens a ts)) (λ ts. stack st (labelled_tokens it ts)) [] (λ ts. ap (stack st) (joined_tokens t b bs ts))
      (z ++ (stack_opens (in_either (later_arm t b q p) st) ++ c_labelled (k + 1) a)) (z ++ (stack_opens st ++ c_labelled k it)) []
      (ap (λ (y : List Open). z ++ (stack_opens st ++ y)) (joined_opens k t b bs) ∙ simp (append_assoc, append-nil) refl) refl
      (stack_completed st d.2 it (joined_good t b bs d.0.0 d.0.1 d.0.2 i) (ap not (joined_takes_else t b bs) ∙ n) (λ j. absurd (let f = d.1 in cc))))

  -- and then a `;`, which an `else` or an `or` takes, or the list
  semicolon_completed : (st : Stack) → GoodStack st → (a : Labelled) → GoodLabelled a → IsTrue (not (labelled_takes_else a)) → IsTrue (not (labelled_takes_or a)) → (o : Place)
      → Completed (λ ts. stack st (labelled_tokens a (semicolon o ts))) (z ++ (stack_opens st ++ c_labelled (depth st) a ++ here (divider_depth st)))
  semicolon_completed (bottom b) d a i n c o =
      (let ss = last_statement a (Some o) in
      here_filled (with_before b ss) (with_before_good b ss d i) (λ ts. with_before_tokens b ss ts) (ap (λ (y : List Open). z ++ y) (with_before_opens 0 b ss) ∙ simp append_assoc refl))
  semicolon_completed (in_block ls p b st) d a i n c o =
      (let k = depth st in
      let ss = last_statement a (Some o) in
      let it = labelled ls (compound p (with_before b ss) nowhere) in
      let outside = z ++ stack_opens st ++ plain k (labels ls) ++ here (k + 1) in
      onward (λ ts. stack (in_block ls p b st) (labelled_tokens a (semicolon o ts))) (λ ts. stack st (labelled_tokens it ts)) (mark nowhere tk.close_brace [])
      (λ ts. ap (λ (us : List Token). stack st (labels ls (mark p tk.open_brace us))) (with_before_tokens b ss (mark nowhere tk.close_brace ts)))
      (z ++ (stack_opens (in_block ls p b st) ++ c_labelled (k + 1) a ++ here (k + 1))) (z ++ (stack_opens st ++ c_labelled k it)) (here (k + 1))
      (simp append_assoc refl ∙ ap (λ (y : List Open). outside ++ y ++ here (k + 1)) (with_before_opens (k + 1) b ss) ∙ simp append_assoc refl) refl
      (stack_completed st d.1 it (with_before_good b ss d.0 i) refl (λ j. refl)))
  semicolon_completed (in_then ls (if_test u v w q) st) d a i n c o =
      (let k = depth st in
      let b = else_then (Some o) nowhere skips in
      let it = labelled ls (branch u v w q a b) in
      onward (λ ts. stack (in_then ls (if_test u v w q) st) (labelled_tokens a (semicolon o ts))) (λ ts. stack st (labelled_tokens it ts)) (key nowhere (codes "else") (key nowhere (codes "skip") [])) (λ ts. refl)
      (z ++ (stack_opens (in_then ls (if_test u v w q) st) ++ c_labelled (k + 1) a ++ here (k + 1))) (z ++ (stack_opens st ++ c_labelled k it)) (here (k + 1) ++ here (k + 1))
      (ap (λ (y : List Open). z ++ (stack_opens st ++ y)) (tested_opens k ls (if_test u v w q) a b) ∙ simp append_assoc refl) refl
      (stack_completed st d.1 it (d.0, i, (n, tt)) refl (λ j. refl)))
  semicolon_completed (in_else ls (if_test u v w r) b q p st) d a i n c o =
      (let k = depth st in
      let it = labelled ls (branch u v w r b (else_then q p a)) in
      let f = divider_depth st in
      onward (λ ts. stack (in_else ls (if_test u v w r) b q p st) (labelled_tokens a (semicolon o ts))) (λ ts. stack st (labelled_tokens it (semicolon o ts))) [] (λ ts. refl)
      (z ++ (stack_opens (in_else ls (if_test u v w r) b q p st) ++ c_labelled (k + 1) a ++ here f)) (z ++ (stack_opens st ++ c_labelled k it ++ here f)) []
      (ap (λ (y : List Open). z ++ (stack_opens st ++ y ++ here f)) (tested_opens k ls (if_test u v w r) b (else_then q p a)) ∙ simp (append_assoc, append-nil) refl) refl
      (semicolon_completed st d.3 it (d.0, d.1, (d.2, i)) n c o))
  semicolon_completed (in_body ls (with_opening u v bs w) st) d a i n c o =
      (let it = labelled ls (with u v bs w a) in
      let f = divider_depth st in
      onward (λ ts. stack (in_body ls (with_opening u v bs w) st) (labelled_tokens a (semicolon o ts))) (λ ts. stack st (labelled_tokens it (semicolon o ts))) [] (λ ts. refl)
      (z ++ (stack_opens (in_body ls (with_opening u v bs w) st) ++ c_labelled (after_binds (depth st) bs) a ++ here f)) (z ++ (stack_opens st ++ c_labelled (depth st) it ++ here f)) [] (simp (append_assoc, append-nil) refl) refl
      (semicolon_completed st d.1 it (d.0, i) n c o))
  semicolon_completed (in_body ls (while_opening u v q w) st) d a i n c o =
      (let it = labelled ls (while u v q w a) in
      let f = divider_depth st in
      onward (λ ts. stack (in_body ls (while_opening u v q w) st) (labelled_tokens a (semicolon o ts))) (λ ts. stack st (labelled_tokens it (semicolon o ts))) [] (λ ts. refl)
      (z ++ (stack_opens (in_body ls (while_opening u v q w) st) ++ c_labelled (depth st + 1) a ++ here f)) (z ++ (stack_opens st ++ c_labelled (depth st) it ++ here f)) [] (simp (append_assoc, append-nil) refl) refl
      (semicolon_completed st d.1 it (d.0, i) n c o))
  semicolon_completed (in_either (first_arm ls p) st) d a i n c o =
      (let k = depth st in
      let bs = last_branch (Some o) nowhere skips in
      let it = labelled ls (either p a bs) in
      onward (λ ts. stack (in_either (first_arm ls p) st) (labelled_tokens a (semicolon o ts))) (λ ts. stack st (labelled_tokens it ts)) (key nowhere (codes "or") (key nowhere (codes "skip") [])) (λ ts. refl)
      (z ++ (stack_opens (in_either (first_arm ls p) st) ++ c_labelled (k + 1) a ++ here (k + 1))) (z ++ (stack_opens st ++ c_labelled k it)) (here (k + 1) ++ here (k + 1))
      (ap (λ (y : List Open). z ++ (stack_opens st ++ y)) (joined_opens k (first_arm ls p) a bs) ∙ simp append_assoc refl) refl
      (stack_completed st d.2 it (i, c, tt) refl (λ j. absurd (let f = d.1 in cc))))
  semicolon_completed (in_either (later_arm t b q p) st) d a i n c o =
      (let k = depth st in
      let bs = more_branches q p a (last_branch (Some o) nowhere skips) in
      let it = joined t b bs in
      onward (λ ts. stack (in_either (later_arm t b q p) st) (labelled_tokens a (semicolon o ts))) (λ ts. stack st (labelled_tokens it ts)) (key nowhere (codes "or") (key nowhere (codes "skip") []))
      (λ ts. ap (stack st) (joined_tokens t b bs ts))
      (z ++ (stack_opens (in_either (later_arm t b q p) st) ++ c_labelled (k + 1) a ++ here (k + 1))) (z ++ (stack_opens st ++ c_labelled k it)) (here (k + 1) ++ here (k + 1))
      (ap (λ (y : List Open). z ++ (stack_opens st ++ y)) (joined_opens k t b bs) ∙ simp append_assoc refl) refl
      (stack_completed st d.2 it (joined_good t b bs d.0.0 d.0.1 d.0.2 (i, c, tt)) (ap not (joined_takes_else t b bs)) (λ j. absurd (let f = d.1 in cc))))

  state_completed : (s : State) → GoodState s → Completed (passed s) (z ++ state_opens s)
  state_completed (begin ls st) i =
      (let it = labelled ls (simple (g.skip nowhere)) in
      onward (at ls st) (λ ts. stack st (labelled_tokens it ts)) (key nowhere (codes "skip") []) (λ ts. refl) (z ++ state_opens (begin ls st)) (z ++ (stack_opens st ++ c_labelled (depth st) it)) (here (depth st)) (simp append_assoc refl) refl
      (stack_completed st i it tt refl (λ k. refl)))
  state_completed (ended a None st) i = onward (passed (ended a None st)) (λ ts. stack st (labelled_tokens a ts)) [] (λ ts. refl) (z ++ state_opens (ended a None st)) (z ++ (stack_opens st ++ c_labelled (depth st) a)) [] (simp (append_assoc, append-nil) refl) refl (stack_completed st i.3 a i.0 i.1 (λ k. i.2))
  state_completed (ended a (Some o) st) i = semicolon_completed st i.3 a i.0 i.1 i.2 o

  -- ---- a step
  abbrev StepsAt : Place → TokenView → (List Token → List Token) → List Open → Reader Turn → Type 0
  StepsAt p k x y r = EndsAt p k x GoodTurn turn y all r

  -- where what was passed is a state
  abbrev Stands : (List Token → List Token) → List Open → Type 0
  Stands x y = Ahead x × Filled x GoodTurn turn y all

  stops : (p : Place) (k : TokenView) (x : List Token → List Token) (y : List Open) → Stands x y → StepsAt p k x y refuses
  stops p k x y i = ends_stays (ends_refuses i.0 i.1)

  begin_stands : (ls : Labels) (st : Stack) → GoodStack st → Stands (at ls st) (front ls st)
  begin_stands ls st i = (ahead_at ls st, here_filled (on (begin ls st)) i (λ ts. refl) (simp append_assoc refl))

  named_steps : (n : ℕ) (ls : Labels) (st : Stack) → GoodStack st → (x : Name) (p : Place) (k : TokenView) → StepsAt p k (λ ts. at ls st (name x ts)) (front ls st ++ here (depth st)) (after_name (limited_parts e) n ls st x p k)
  named_steps n ls st i x p (tk.mark tk.colon) =
      ends_stays (ends_bind (then_ahead (ahead_at ls st) (put_ahead held)) (colon_part (depth st) (front ls st ++ here (depth st)) (sits_on (here (depth st)) (at_sits e z ls st))) (λ c u hc.
      ends_gives (on (begin (with_label ls x c) st)) i (λ ts. ap (stack st) (with_label_tokens ls x c ts)) (rw (with_label_opens (depth st) ls x c) (simp append_assoc refl))))
  named_steps n ls st i x p k =
      ends_stays (ends_after (at ls st) (ahead_at ls st) (named_sound (limited_parts e) (limited_sound e) n x p k) (λ a u. ahead_simple a) (fits_of (beside_named e (depth st) n (front ls st) (at_sits e z ls st) x p k)) (named_ends e (depth st) n (front ls st) (at_sits e z ls st) x p k)
      (λ s l hs. ends_gives (on (ended (labelled ls (simple s)) None st)) (l, refl, refl, i) (λ ts. refl) (simp (append_assoc, append-nil) refl)))

  either_steps : (ls : Labels) (p : Place) (st : Stack) → GoodStack st → (b : Bool) → before_or st ≡ b → StepsAt p (tk.reserved (codes "either")) (at ls st) (front ls st) (either_if b (limited_parts e) ls p st)
  either_steps ls p st i true o = stops p (tk.reserved (codes "either")) (at ls st) (front ls st) (begin_stands ls st i)
  either_steps ls p st i false o = (let s = begin_stands ls st i in ends_opened (depth st + 1) refl s.0 s.1 (ends_gives (opens (in_either (first_arm ls p) st)) (tt, o, i) (λ ts. refl) (simp (append_assoc, append-nil) refl)))

  words_step : (n : ℕ) (ls : Labels) (st : Stack) → GoodStack st → (p : Place) → AllEnd p (at ls st) GoodTurn turn (front ls st) all (statement_words (limited_parts e) n ls st p)
  words_step n ls st i p =
      (let d = depth st in
      let y = front ls st in
      let s = sits_here (d + 1) y in
      let v = sits_here (d + 1) (y ++ here (d + 1)) in
      let hx = ahead_at ls st in
      let f = (begin_stands ls st i).1 in (
        ends_opened (d + 1) refl hx f (ends_bind (then_ahead hx (put_ahead held)) (mark_part (d + 1) s tk.open_bracket) (λ q t hq. ends_bind hq (expr_part e (d + 1) (y ++ here (d + 1) ++ here (d + 1)) v) (λ a k he. ends_bind he (mark_part (d + 1) (sits_on (expression_opens (d + 1) a) v) tk.close_bracket) (λ r u hr.
            ends_gives (opens (in_then ls (if_test p q a r) st)) (k, i) (λ ts. refl) (simp (append_assoc, append-nil) refl))))),
        (
          either_steps ls p st i (before_or st) refl,
          (
            ends_past d (at_sits e z ls st) refl (ends_bind (then_ahead hx (put_ahead held)) (mark_part d (sits_on (here d) (at_sits e z ls st)) tk.open_bracket) (λ q t hq. ends_bind hq (binds_part e n d (y ++ here d ++ here d)) (λ bs k hb. ends_bind hb (mark_part (after_binds d bs) (binds_sit d (y ++ here d ++ here d) bs) tk.close_bracket) (λ r u hr.
                ends_gives (opens (in_body ls (with_opening p q bs r) st)) (k, i) (λ ts. refl) (simp (append_assoc, append-nil) refl))))),
            (
              ends_opened (d + 1) refl hx f (ends_bind (then_ahead hx (put_ahead held)) (mark_part (d + 1) s tk.open_bracket) (λ q t hq. ends_bind hq (expr_part e (d + 1) (y ++ here (d + 1) ++ here (d + 1)) v) (λ a k he. ends_bind he (mark_part (d + 1) (sits_on (expression_opens (d + 1) a) v) tk.close_bracket) (λ r u hr.
                  ends_gives (opens (in_body ls (while_opening p q a r) st)) (k, i) (λ ts. refl) (simp (append_assoc, append-nil) refl))))),
              tt,
            ),
          ),
        ),
      ))

  statement_steps : (n : ℕ) (ls : Labels) (st : Stack) → GoodStack st → (p : Place) (k : TokenView) → StepsAt p k (at ls st) (front ls st) (statement_by (limited_parts e) n ls st p k)
  statement_steps n ls st i p (tk.word x) =
      ends_past (depth st) (at_sits e z ls st) refl
      (ends_next
      (record {
        whole = on (ended (labelled ls (simple (g.macro (record { place = p; word = x }) (g.no_arguments nowhere nowhere)))) None st);
        good = (tt, refl, refl, i);
        more = here (depth st) ++ here (depth st);
        counts = simp (append_assoc, append-nil) refl;
        fix = mark nowhere tk.open_bracket (mark nowhere tk.close_bracket []);
        long = refl;
        tokens = λ v. refl;
      })
      (named_steps n ls st i (record { place = p; word = x })))
  statement_steps n ls st i p (tk.reserved w) =
      (let y = front ls st in
      let s = at_sits e z ls st in
      ends_pick w (statement_words (limited_parts e) n ls st p) (ends_simple ls st (pick w (simple_words (limited_parts e) p) refuses)) (words_step n ls st i p)
      (ends_then (at ls st) (ahead_at ls st) (sound_pick w (simple_words (limited_parts e) p) refuses (words_sound (limited_parts e) (limited_sound e) p) (sound_stays sound_refuses)) (λ a u. ahead_simple a)
      (λ ts v a us o. (told_ok ((beside_pick w (simple_words (limited_parts e) p) (simple_words (unlimited_parts e) p) refuses refuses (beside_words e (depth st) y s p w) (beside_stays beside_refuses)).is ts v) o).1)
      (ends_pick w (simple_words (limited_parts e) p) refuses (words_end e (depth st) y s p) (ends_stays (ends_refuses held (record { whole = g.skip nowhere; good = tt; more = here (depth st); counts = refl; fix = key nowhere (codes "skip") []; long = refl; tokens = λ v. refl }))))
      (λ t l hs. ends_gives (on (ended (labelled ls (simple t)) None st)) (l, refl, refl, i) (λ ts. refl) (simp (append_assoc, append-nil) refl))))
  statement_steps n ls st i p (tk.mark tk.open_brace) = (let s = begin_stands ls st i in ends_opened (depth st + 1) refl s.0 s.1 (ends_gives (opens (in_block ls p none st)) (tt, i) (λ ts. refl) (simp (append_assoc, append-nil) refl)))
  statement_steps n ls st i p k = stops p k (at ls st) (front ls st) (begin_stands ls st i)

  -- ---- after a statement, with its tokens x and the counts c of them
  module _ (x : List Token → List Token) (c : List Open) (n : ℕ) (s : Option Place) (sc : Sits n (z ++ c)) where
    abbrev lower : ℕ → List Open
    lower d = z ++ c ++ plain d (maybe_semicolon s)

    abbrev behind : List Token → List Token
    behind ts = x (maybe_semicolon s ts)

    else_taken : (p : Place) (o : Option (Labelled × Stack)) → AllFound ask_else x o → AllCounted c n o → Stands behind (lower n) → StepsAt p (tk.reserved (codes "else")) behind (lower n) (takes_else s p o)
    else_taken p (Some (a, in_then ls t st)) f k i =
        (let d = depth st + 1 in
        lowered_ends (z ++ c) n d k.1 sc s
        (ends_past d (lower_sits e z c n s sc d k.1) refl (ends_gives (opens (in_else ls t a s p st)) (f.stands.0, f.good, f.leaves, f.stands.1) (λ ts. f.same (maybe_semicolon s (key p (codes "else") ts)))
        (simp (append_assoc, append-nil) refl ∙ ap (λ (y : List Open). z ++ y ++ plain d (maybe_semicolon s) ++ here d) k.0))))
    else_taken p o f k i = stops p (tk.reserved (codes "else")) behind (lower n) i

    or_taken : (p : Place) (o : Option (Labelled × Stack)) → AllFound ask_or x o → AllCounted c n o → Stands behind (lower n) → StepsAt p (tk.reserved (codes "or")) behind (lower n) (takes_or s p o)
    or_taken p (Some (a, in_either t st)) f k i =
        (let d = depth st + 1 in
        lowered_ends (z ++ c) n d k.1 sc s
        (ends_past d (lower_sits e z c n s sc d k.1) refl (ends_gives (opens (in_either (later_arm t a s p) st)) ((f.stands.0, f.good, f.leaves), f.stands.1, f.stands.2) (λ ts. f.same (maybe_semicolon s (key p (codes "or") ts)))
        (simp (append_assoc, append-nil) refl ∙ ap (λ (y : List Open). z ++ y ++ plain d (maybe_semicolon s) ++ here d) k.0))))
    or_taken p o f k i = stops p (tk.reserved (codes "or")) behind (lower n) i

    another_steps : (m : ℕ) (p : Place) (k : TokenView) (a : Labelled) (st : Stack) (d : ℕ) → d ≤ n → front no_labels st ≡ lower d → Stands behind (lower n) → (Divided s a → GoodStack st) → ((ts : List Token) → stack st ts ≡ behind ts) → (b : Bool) → is_divided s a ≡ b
        → StepsAt p k behind (lower n) (another_if b (statement_by (limited_parts e) m no_labels st p k))
    another_steps m p k a st d l j i h o true q = lowered_ends (z ++ c) n d l sc s (ends_same o j (statement_steps m no_labels st (h (divides s a q)) p k))
    another_steps m p k a st d l j i h o false q = stops p k behind (lower n) i

    list_steps : (m : ℕ) (p : Place) (k : TokenView) (o : Option (Labelled × Stack)) → AllFound ask_other x o → AllCounted c n o → Stands behind (lower n) → StepsAt p k behind (lower n) (list_by (limited_parts e) m s p k o)
    list_steps m p (tk.mark tk.close_brace) (Some (a, bottom b)) f k i =
        (let ss = last_statement a s in
        lowered_ends (z ++ c) n 0 k.1 sc s
        (ends_stays (ends_gives (done (with_before b ss)) (with_before_good b ss f.stands f.good) (λ ts. with_before_tokens b ss ts ∙ f.same (maybe_semicolon s ts))
        (ap (λ (y : List Open). z ++ y) (with_before_opens 0 b ss) ∙ simp append_assoc refl ∙ ap (λ (y : List Open). z ++ y ++ plain 0 (maybe_semicolon s)) k.0))))
    list_steps m p (tk.mark tk.close_brace) (Some (a, in_block ls q b st)) f k i =
        (let d = depth st + 1 in
        let ss = last_statement a s in
        let outside = stack_opens st ++ plain (depth st) (labels ls) ++ here d in
        lowered_ends (z ++ c) n d k.1 sc s
        (ends_past d (lower_sits e z c n s sc d k.1) refl (ends_gives (on (ended (labelled ls (compound q (with_before b ss) p)) None st)) (with_before_good b ss f.stands.0 f.good, refl, refl, f.stands.1)
        (λ ts. ap (λ (us : List Token). stack st (labels ls (mark q tk.open_brace us))) (with_before_tokens b ss (mark p tk.close_brace ts)) ∙ f.same (maybe_semicolon s (mark p tk.close_brace ts)))
        (simp (append_assoc, append-nil) refl ∙ ap (λ (y : List Open). z ++ (outside ++ y) ++ here d) (with_before_opens d b ss) ∙ simp append_assoc refl ∙ ap (λ (y : List Open). z ++ y ++ plain d (maybe_semicolon s) ++ here d) k.0))))
    list_steps m p t (Some (a, bottom b)) f k i =
        another_steps m p t a (bottom (after b a s)) 0 k.1 (simp (append_assoc, append-nil) refl ∙ ap (λ (y : List Open). z ++ y ++ plain 0 (maybe_semicolon s)) k.0) i (λ d. (f.stands, f.good, d)) (λ ts. f.same (maybe_semicolon s ts)) (is_divided s a) refl
    list_steps m p t (Some (a, in_block ls q b st)) f k i =
        (let d = depth st + 1 in
        another_steps m p t a (in_block ls q (after b a s) st) d k.1 (simp (append_assoc, append-nil) refl ∙ ap (λ (y : List Open). z ++ y ++ plain d (maybe_semicolon s)) k.0) i (λ v. ((f.stands.0, f.good, v), f.stands.1)) (λ ts. f.same (maybe_semicolon s ts)) (is_divided s a) refl)
    list_steps m p t o f k i = stops p t behind (lower n) i

  ended_stands : (a : Labelled) (s : Option Place) (st : Stack) → GoodState (ended a s st) → Stands (passed (ended a s st)) (z ++ (stack_opens st ++ c_labelled (depth st) a) ++ plain (divider_depth st) (maybe_semicolon s))
  ended_stands a s st i = (ahead_passed (ended a s st), here_filled (on (ended a s st)) i (λ ts. refl) (simp append_assoc refl))

  ended_steps : (n : ℕ) (a : Labelled) (s : Option Place) (st : Stack) → GoodState (ended a s st) → (p : Place) (k : TokenView) → StepsAt p k (passed (ended a s st)) (z ++ state_opens (ended a s st)) (ended_by (limited_parts e) n a s st p k)
  ended_steps n a None st i p (tk.mark tk.semicolon) =
      ends_past (divider_depth st) (sits_moved (simp (append_assoc, append-nil) refl) (front_sits e z a st)) refl (ends_gives (on (ended a (Some p) st)) i (λ ts. refl) (simp (append_assoc, append-nil) refl))
  ended_steps n a s st i p (tk.reserved w) =
      (let x : List Token → List Token = λ ts. stack st (labelled_tokens a ts) in
      let c = stack_opens st ++ c_labelled (depth st) a in
      let d = divider_depth st in
      let f = front_sits e z a st in
      let o = ended_stands a s st i in
      ends_same (λ ts. refl) (simp append_assoc refl)
      (ends_pick w (closing_words a s st p) (list_by (limited_parts e) n s p (tk.reserved w) (closed ask_other a st)) (
        else_taken x c d s f p (closed ask_else a st) (closes st ask_else a i.0 i.1 i.3) (closes_counted st ask_else a c d refl (omega arith)) o,
        (or_taken x c d s f p (closed ask_or a st) (closes st ask_or a i.0 i.2 i.3) (closes_counted st ask_or a c d refl (omega arith)) o, tt),
      )
      (list_steps x c d s f n p (tk.reserved w) (closed ask_other a st) (closes st ask_other a i.0 tt i.3) (closes_counted st ask_other a c d refl (omega arith)) o)))
  ended_steps n a s st i p k =
      (let c = stack_opens st ++ c_labelled (depth st) a in
      let d = divider_depth st in
      ends_same (λ ts. refl) (simp append_assoc refl)
      (list_steps (λ ts. stack st (labelled_tokens a ts)) c d s (front_sits e z a st) n p k (closed ask_other a st) (closes st ask_other a i.0 tt i.3) (closes_counted st ask_other a c d refl (omega arith)) (ended_stands a s st i)))

  step_ends : (n : ℕ) (s : State) → GoodState s → Ends (passed s) GoodTurn turn (z ++ state_opens s) all (step (limited_parts e) n s)
  step_ends n (begin ls st) i = ends_moved (simp append_assoc refl) (ends_next (begin_stands ls st i).1 (statement_steps n ls st i))
  step_ends n (ended a s st) i = ends_next (here_filled (on (ended a s st)) i (λ ts. refl) refl) (ended_steps n a s st i)

  run_ends : (n : ℕ) (s : State) → GoodState s → Ends (passed s) GoodSequence sequence (z ++ state_opens s) whole (run (limited_parts e) n s)
  run_ends zero s i = ends_refuses (ahead_passed s) (state_completed s i)
  run_ends (suc n) s i = ends_after (λ ts. ts) held (step_sound (limited_parts e) (limited_sound e) n s i) (λ a u. ahead_turn a) (fits_of (step_beside e z n s)) (step_ends n s i) (turned_ends (run_ends n))
    where
      turned_ends : ((s : State) → GoodState s → Ends (passed s) GoodSequence sequence (z ++ state_opens s) whole (run (limited_parts e) n s)) → (t : Turn) → GoodTurn t → Ahead (turn t) → Ends (turn t) GoodSequence sequence (all t) whole (turned (run (limited_parts e) n) t)
      turned_ends r (on s) i ht = r s i
      turned_ends r (done ss) i ht = ends_gives ss i (λ ts. refl) refl

  pub sequence_part : (n : ℕ) → Part GoodSequence sequence z whole (read_sequence (limited_parts e) n)
  sequence_part n = record {
    sound = sequence_sound (limited_parts e) (limited_sound e) n;
    ahead = λ a u. ahead_sequence a;
    fits = fits_of (beside_sequence e z n);
    ends = ends_moved (simp append-nil refl) (run_ends n (begin no_labels (bottom none)) tt);
  }
