-- Reading within the limits beside reading without: lists of statements.
use Rattle.std.proofs.Common.{◌≡◌, ℕ, zero, suc, ◌+◌, List, ◌++◌, Option, Some, None, refl, ◌∙◌, subst, append_assoc, codes}
use Rattle.std.proofs.lemmas.List.{append-nil}
use Rattle.tla_token.specs.declared.place.Place.{Place}
use Rattle.tla_tree.specs.Tree.{Word, Name}
use Rattle.tla_tree.specs.Lexical.{TokenView}
use Rattle.tla_tree.specs.Lexical as tk
use Rattle.tla_tree.specs.Reader.{Reader, refuses}
use Rattle.tla_tree.specs.FirstStop.{Open}
use Rattle.pcal_tree.specs.GrammarParts.{Labels, no_labels, labels, maybe_semicolon, Simple}
use Rattle.pcal_tree.specs.GrammarP.{Statement, simple, with, while, no_else, else_then, last_branch, Sequence, last_statement}
use Rattle.pcal_tree.specs.OpenForms.{here, plain, expression_opens, binds_open, after_binds, simple_opens, p_statement, p_sequence}
use Rattle.syntax_reading.specs.TokenReaders.{limited_parts, pick}
use Rattle.syntax_reading.specs.ReadSimple.{simple_words}
use Rattle.syntax_reading.proofs.Beside.{Sits, sits, sits_on, sits_here, Beside, BesideAt, BothAt, beside_gives, beside_refuses, beside_bind, beside_then, beside_next, beside_stays, beside_same, beside_moved, beside_skip, beside_opened, beside_key, beside_pick}
use Rattle.syntax_reading.proofs.BesideParts.{unlimited_parts, beside_expr, beside_colon, beside_binds}
use Rattle.syntax_reading.proofs.BesideSimple.{beside_named, beside_words}
use Rattle.syntax_reading.specs.ReadAround.{with_label}
use Rattle.syntax_reading.proofs.BesideAround.{with_label_opens, sits_last, sits_less, binds_sit}
use Rattle.p_reading.proofs.Closing.{tests_deep}
use Rattle.p_reading.proofs.Opened.{before_opens, tests_open, arms_open, frame_opens, stack_opens, state_opens, turn_opens, with_before_opens, closed_if_opens, closed_either_opens}
use Rattle.p_reading.specs.ReadStatements.{Before, none, after, Tests, if_test, elsif_test, first_arm, later_arm, Frame, in_then, in_else, in_either, in_with, in_while, Stack, bottom, inside, after_tests, inside_frame, depth, State, begin, ended, Turn, on, done, with_before, closed_if, closed_either}
use Rattle.p_reading.specs.ReadStatements.{opens, ends_simple, after_name, statement_words, statement_by, takes_else, takes_elsif, takes_or, ends, takes_end, closing_words, another_by, ended_by, step, turned, run, read_sequence}

-- ---- as many forms may be open as are
tests_sit : (d : ℕ) (x : List Open) (t : Tests) → Sits (after_tests d t) (x ++ tests_open d t)
tests_sit d x (if_test p e q) = sits_last (d + 1) x (here (d + 1) ++ expression_opens (d + 1) e)
tests_sit d x (elsif_test t a p e q) = sits_last (after_tests d t + 1) x (tests_open d t ++ p_sequence (after_tests d t) a ++ here (after_tests d t + 1) ++ expression_opens (after_tests d t + 1) e)

frame_sits : (d : ℕ) (x : List Open) (f : Frame) → Sits (inside_frame d f) (x ++ frame_opens d f)
frame_sits d x (in_then t) = tests_sit d x t
frame_sits d x (in_else t a p) = sits_last (after_tests d t) x (tests_open d t ++ p_sequence (after_tests d t) a)
frame_sits d x (in_either (first_arm p)) = sits_here (d + 1) x
frame_sits d x (in_either (later_arm t a p)) = sits_last (d + 1) x (arms_open d t ++ p_sequence (d + 1) a)
frame_sits d x (in_with p bs q) = sits_last (after_binds d bs) x (here d ++ binds_open d bs)
frame_sits d x (in_while p e q) = sits_last (d + 1) x (here (d + 1) ++ expression_opens (d + 1) e)

pub stack_sits : (x : List Open) (st : Stack) → Sits (depth st) (x ++ stack_opens st)
stack_sits x bottom = sits
stack_sits x (inside f b ls st) =
    (let y = stack_opens st ++ before_opens (depth st) b ++ plain (depth st) (labels ls) in
    subst (λ (z : List Open). Sits (inside_frame (depth st) f) z) (append_assoc x y (frame_opens (depth st) f)) (frame_sits (depth st) (x ++ y) f))

-- ---- a statement comes
module _ (e : ℕ) (x : List Open) where
  abbrev all : Turn → List Open
  all t = x ++ turn_opens t

  abbrev at : Before → Labels → Stack → List Open
  at b ls st = x ++ stack_opens st ++ before_opens (depth st) b ++ plain (depth st) (labels ls)

  pub at_sits : (b : Before) (ls : Labels) (st : Stack) → Sits (depth st) (at b ls st)
  at_sits b ls st = sits_on (plain (depth st) (labels ls)) (sits_on (before_opens (depth st) b) (stack_sits x st))

  simple_beside : (b : Before) (ls : Labels) (st : Stack) {y : List Open} {r q : Reader Simple} → Beside y (λ z. at b ls st ++ simple_opens (depth st) z) r q → Beside y all (ends_simple b ls st r) (ends_simple b ls st q)
  simple_beside b ls st h = beside_bind h (λ s. beside_gives (on (ended b ls (simple s) None st)) (simp (append_assoc, append-nil) refl))

  name_beside : (n : ℕ) (b : Before) (ls : Labels) (st : Stack) (y : Name) (p : Place) (k : TokenView) → BesideAt p k (at b ls st ++ here (depth st)) all (after_name (limited_parts e) n b ls st y p k) (after_name (unlimited_parts e) n b ls st y p k)
  name_beside n b ls st y p (tk.mark tk.colon) =
      beside_stays (beside_bind (beside_colon (depth st) (at b ls st ++ here (depth st)) (sits_on (here (depth st)) (at_sits b ls st))) (λ c.
      beside_gives (on (begin b (with_label ls y c) st)) (rw (with_label_opens (depth st) ls y c) (simp append_assoc refl))))
  name_beside n b ls st y p k = beside_stays (simple_beside b ls st (beside_named e (depth st) n (at b ls st) (at_sits b ls st) y p k))

  words_beside : (n : ℕ) (b : Before) (ls : Labels) (st : Stack) (p : Place) (w : Word) → BothAt p w (at b ls st) all (statement_words (limited_parts e) n b ls st p) (statement_words (unlimited_parts e) n b ls st p)
  words_beside n b ls st p w =
      (let d = depth st in
      let y = at b ls st in
      let s = sits_here (d + 1) y in (
        refl,
        beside_opened (d + 1) refl (beside_bind (beside_expr e (d + 1) (y ++ here (d + 1)) s) (λ a. beside_bind (beside_key (d + 1) (sits_on (expression_opens (d + 1) a) s) (codes "then")) (λ q.
            beside_gives (opens (in_then (if_test p a q)) b ls st) (simp (append_assoc, append-nil) refl)))),
        (
          refl,
          beside_opened (d + 1) refl (beside_gives (opens (in_either (first_arm p)) b ls st) (simp (append_assoc, append-nil) refl)),
          (
            refl,
            beside_skip d (at_sits b ls st) refl (beside_bind (beside_binds e n d (y ++ here d)) (λ bs. beside_bind (beside_key (after_binds d bs) (binds_sit d (y ++ here d) bs) (codes "do")) (λ q.
                beside_gives (opens (in_with p bs q) b ls st) (simp (append_assoc, append-nil) refl)))),
            (
              refl,
              beside_opened (d + 1) refl (beside_bind (beside_expr e (d + 1) (y ++ here (d + 1)) s) (λ a. beside_bind (beside_key (d + 1) (sits_on (expression_opens (d + 1) a) s) (codes "do")) (λ q.
                  beside_gives (opens (in_while p a q) b ls st) (simp (append_assoc, append-nil) refl)))),
              tt,
            ),
          ),
        ),
      ))

  statement_beside : (n : ℕ) (b : Before) (ls : Labels) (st : Stack) (p : Place) (k : TokenView) → BesideAt p k (at b ls st) all (statement_by (limited_parts e) n b ls st p k) (statement_by (unlimited_parts e) n b ls st p k)
  statement_beside n b ls st p (tk.word y) = beside_skip (depth st) (at_sits b ls st) refl (beside_next (name_beside n b ls st (record { place = p; word = y })))
  statement_beside n b ls st p (tk.reserved w) =
      beside_pick w (statement_words (limited_parts e) n b ls st p) (statement_words (unlimited_parts e) n b ls st p) (ends_simple b ls st (pick w (simple_words (limited_parts e) p) refuses)) (ends_simple b ls st (pick w (simple_words (unlimited_parts e) p) refuses)) (words_beside n b ls st p w)
      (beside_then (beside_pick w (simple_words (limited_parts e) p) (simple_words (unlimited_parts e) p) refuses refuses (beside_words e (depth st) (at b ls st) (at_sits b ls st) p w) (beside_stays beside_refuses))
      (λ s. beside_gives (on (ended b ls (simple s) None st)) (simp (append_assoc, append-nil) refl)))
  statement_beside n b ls st p k = beside_stays beside_refuses

  -- ---- a list ends
  abbrev listed : Sequence → Stack → List Open
  listed a st = x ++ stack_opens st ++ p_sequence (depth st) a

  pub listed_sits : (a : Sequence) (st : Stack) → Sits (depth st) (listed a st)
  listed_sits a st = sits_on (p_sequence (depth st) a) (stack_sits x st)

  else_beside : (a : Sequence) (p : Place) (w : Word) (st : Stack) → BesideAt p (tk.reserved w) (listed a st) all (takes_else a p st) (takes_else a p st)
  else_beside a p w (inside (in_then t) b ls st) = beside_skip (after_tests (depth st) t) (listed_sits a (inside (in_then t) b ls st)) refl (beside_gives (opens (in_else t a p) b ls st) (simp (append_assoc, append-nil) refl))
  else_beside a p w st = beside_stays beside_refuses

  elsif_beside : (a : Sequence) (p : Place) (w : Word) (st : Stack) → BesideAt p (tk.reserved w) (listed a st) all (takes_elsif (limited_parts e) a p st) (takes_elsif (unlimited_parts e) a p st)
  elsif_beside a p w (inside (in_then t) b ls st) =
      (let d = after_tests (depth st) t + 1 in
      let y = listed a (inside (in_then t) b ls st) in
      let s = sits_here d y in
      beside_opened d refl (beside_bind (beside_expr e d (y ++ here d) s) (λ c. beside_bind (beside_key d (sits_on (expression_opens d c) s) (codes "then")) (λ q.
      beside_gives (opens (in_then (elsif_test t a p c q)) b ls st) (simp (append_assoc, append-nil) refl)))))
  elsif_beside a p w st = beside_stays beside_refuses

  or_beside : (a : Sequence) (p : Place) (w : Word) (st : Stack) → BesideAt p (tk.reserved w) (listed a st) all (takes_or a p st) (takes_or a p st)
  or_beside a p w (inside (in_either t) b ls st) = beside_skip (depth st + 1) (listed_sits a (inside (in_either t) b ls st)) refl (beside_gives (opens (in_either (later_arm t a p)) b ls st) (simp (append_assoc, append-nil) refl))
  or_beside a p w st = beside_stays beside_refuses

  end_beside : (w : Word) (f : Place → Statement) (b : Before) (ls : Labels) (st : Stack) (d : ℕ) (y z : List Open) → Sits d y → ((q : Place) → p_statement (depth st) (f q) ≡ z ++ here d ++ here d) → y ≡ at b ls st ++ z → (p : Place) (v : Word)
      → BesideAt p (tk.reserved v) y all (ends w f b ls st) (ends w f b ls st)
  end_beside w f b ls st d y z s i j p v =
      beside_skip d s refl (beside_bind (beside_key d (sits_on (here d) s) w) (λ q. beside_gives (on (ended b ls (f q) None st)) (rw (i q, j) (simp (append_assoc, append-nil) refl))))

  ends_beside : (a : Sequence) (p : Place) (w : Word) (st : Stack) → BesideAt p (tk.reserved w) (listed a st) all (takes_end a p st) (takes_end a p st)
  ends_beside a p w bottom = beside_stays (beside_gives (done a) (simp append-nil refl))
  ends_beside a p w (inside (in_then t) b ls st) =
      (let d = depth st in
      end_beside (codes "if") (closed_if t a no_else p) b ls st (d + 1) (listed a (inside (in_then t) b ls st)) (tests_open d t ++ p_sequence (after_tests d t) a) (sits_less (d + 1) (tests_deep d t) (listed_sits a (inside (in_then t) b ls st)))
      (λ q. closed_if_opens d t a no_else p q ∙ simp (append_assoc, append-nil) refl) (simp append_assoc refl) p w)
  ends_beside a p w (inside (in_else t c r) b ls st) =
      (let d = depth st in
      end_beside (codes "if") (closed_if t c (else_then r a) p) b ls st (d + 1) (listed a (inside (in_else t c r) b ls st)) (frame_opens d (in_else t c r) ++ p_sequence (after_tests d t) a) (sits_less (d + 1) (tests_deep d t) (listed_sits a (inside (in_else t c r) b ls st)))
      (λ q. closed_if_opens d t c (else_then r a) p q ∙ simp append_assoc refl) (simp append_assoc refl) p w)
  ends_beside a p w (inside (in_either (first_arm r)) b ls st) = beside_stays beside_refuses
  ends_beside a p w (inside (in_either (later_arm t c r)) b ls st) =
      (let d = depth st in
      end_beside (codes "either") (closed_either t c (last_branch r a) p) b ls st (d + 1) (listed a (inside (in_either (later_arm t c r)) b ls st)) (arms_open d (later_arm t c r) ++ p_sequence (d + 1) a) (listed_sits a (inside (in_either (later_arm t c r)) b ls st))
      (λ q. closed_either_opens d t c (last_branch r a) p q ∙ simp append_assoc refl) (simp append_assoc refl) p w)
  ends_beside a p w (inside (in_with r bs s) b ls st) =
      (let d = depth st in
      end_beside (codes "with") (with r bs s a p) b ls st (after_binds d bs) (listed a (inside (in_with r bs s) b ls st)) (frame_opens d (in_with r bs s) ++ p_sequence (after_binds d bs) a) (listed_sits a (inside (in_with r bs s) b ls st))
      (λ q. simp append_assoc refl) (simp append_assoc refl) p w)
  ends_beside a p w (inside (in_while r c s) b ls st) =
      (let d = depth st in
      end_beside (codes "while") (while r c s a p) b ls st (d + 1) (listed a (inside (in_while r c s) b ls st)) (frame_opens d (in_while r c s) ++ p_sequence (d + 1) a) (listed_sits a (inside (in_while r c s) b ls st))
      (λ q. refl) (simp append_assoc refl) p w)

  -- ---- after a statement
  pub ended_sits : (b : Before) (ls : Labels) (a : Statement) (o : Option Place) (st : Stack) → Sits (depth st) (x ++ state_opens (ended b ls a o st))
  ended_sits b ls a o st =
      (let y = before_opens (depth st) b ++ plain (depth st) (labels ls) ++ p_statement (depth st) a ++ plain (depth st) (maybe_semicolon o) in
      let m : x ++ stack_opens st ++ y ≡ x ++ state_opens (ended b ls a o st) = simp append_assoc refl in
      subst (λ (z : List Open). Sits (depth st) z) m (sits_on y (stack_sits x st)))

  another_beside : (n : ℕ) (b : Before) (ls : Labels) (a : Statement) (o : Option Place) (st : Stack) (p : Place) (k : TokenView)
      → BesideAt p k (x ++ state_opens (ended b ls a o st)) all (another_by (limited_parts e) n b ls a o st p k) (another_by (unlimited_parts e) n b ls a o st p k)
  another_beside n b ls a (Some s) st p k = beside_same (simp (append_assoc, append-nil) refl) (statement_beside n (after b ls a s) no_labels st p k)
  another_beside n b ls a None st p (tk.mark tk.semicolon) = beside_skip (depth st) (ended_sits b ls a None st) refl (beside_gives (on (ended b ls a (Some p) st)) (simp (append_assoc, append-nil) refl))
  another_beside n b ls a None st p k = beside_stays beside_refuses

  ended_beside : (n : ℕ) (b : Before) (ls : Labels) (a : Statement) (o : Option Place) (st : Stack) (p : Place) (k : TokenView)
      → BesideAt p k (x ++ state_opens (ended b ls a o st)) all (ended_by (limited_parts e) n b ls a o st p k) (ended_by (unlimited_parts e) n b ls a o st p k)
  ended_beside n b ls a o st p (tk.reserved w) =
      (let ss = with_before b (last_statement ls a o) in
      let m : listed ss st ≡ x ++ state_opens (ended b ls a o st) = rw (with_before_opens (depth st) b (last_statement ls a o)) (simp append_assoc refl) in
      beside_pick w (closing_words (limited_parts e) ss p st) (closing_words (unlimited_parts e) ss p st) (another_by (limited_parts e) n b ls a o st p (tk.reserved w)) (another_by (unlimited_parts e) n b ls a o st p (tk.reserved w))
      (refl, beside_same m (else_beside ss p w st), (refl, beside_same m (elsif_beside ss p w st), (refl, beside_same m (or_beside ss p w st), (refl, beside_same m (ends_beside ss p w st), tt))))
      (another_beside n b ls a o st p (tk.reserved w)))
  ended_beside n b ls a o st p k = another_beside n b ls a o st p k

  pub step_beside : (n : ℕ) (s : State) → Beside (x ++ state_opens s) all (step (limited_parts e) n s) (step (unlimited_parts e) n s)
  step_beside n (begin b ls st) = beside_moved (simp append_assoc refl) (beside_next (statement_beside n b ls st))
  step_beside n (ended b ls a o st) = beside_next (ended_beside n b ls a o st)

  pub run_beside : (n : ℕ) (s : State) → Beside (x ++ state_opens s) (λ ss. x ++ p_sequence 0 ss) (run (limited_parts e) n s) (run (unlimited_parts e) n s)
  run_beside zero s = beside_refuses
  run_beside (suc n) s = beside_bind (step_beside n s) (by (run_beside n))
    where
      by : ((s : State) → Beside (x ++ state_opens s) (λ ss. x ++ p_sequence 0 ss) (run (limited_parts e) n s) (run (unlimited_parts e) n s)) → (t : Turn) → Beside (all t) (λ ss. x ++ p_sequence 0 ss) (turned (run (limited_parts e) n) t) (turned (run (unlimited_parts e) n) t)
      by h (on t) = h t
      by h (done ss) = beside_gives ss refl

  pub beside_sequence : (n : ℕ) → Beside x (λ ss. x ++ p_sequence 0 ss) (read_sequence (limited_parts e) n) (read_sequence (unlimited_parts e) n)
  beside_sequence n = beside_moved (append-nil x) (run_beside n (begin none no_labels bottom))
