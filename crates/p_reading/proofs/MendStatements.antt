-- What stands before a refused token can be gone on with, by the tokens that are missing: each state can be completed.
use Rattle.std.proofs.Common.{◌≡◌, ℕ, zero, suc, ◌+◌, ◌*◌, ◌≤◌, List, [], ◌∷◌, ◌++◌, length, Option, Some, None, refl, sym, ap, ◌∙◌, append_assoc, arith, codes}
use Rattle.std.proofs.lemmas.List.{append-nil}
use Rattle.tla_token.specs.declared.place.Place.{Place}
use Rattle.tla_token.specs.Places.{nowhere}
use Rattle.tla_tree.specs.Tree.{Word, Name}
use Rattle.tla_tree.specs.Lexical.{TokenView, Token}
use Rattle.tla_tree.specs.Lexical as tk
use Rattle.tla_tree.specs.Reader.{Reader, refuses}
use Rattle.tla_tree.specs.FirstStop.{Open}
use Rattle.tla_tree.proofs.SpellAhead.{Ahead, held, put_ahead, then_ahead, ahead}
use Rattle.pcal_tree.specs.GrammarParts.{name, key, Labels, no_labels, labels}
use Rattle.pcal_tree.specs.GrammarParts as g
use Rattle.pcal_tree.specs.GrammarP.{Statement, simple, branch, either, with, while, Else, no_else, else_then, else_if, Branches, last_branch, more_branches, Sequence, last_statement, more_statements}
use Rattle.pcal_tree.specs.GrammarP.{statement, else_tokens, branches, sequence, GoodStatement, GoodSequence}
use Rattle.pcal_tree.specs.OpenForms.{here, after_binds, p_statement, p_branches, p_sequence}
use Rattle.syntax_reading.specs.TokenReaders.{Parts}
use Rattle.syntax_reading.specs.ReadSimple.{simple_words}
use Rattle.syntax_reading.specs.ReadAround.{with_label, within}
use Rattle.syntax_reading.specs.Missing.{Missing, past_misses, all_of, PartsMiss}
use Rattle.syntax_reading.specs.MissingParts.{no_list}
use Rattle.syntax_reading.specs.MissingSimple.{missing_simple_words}
use Rattle.syntax_reading.specs.Completes.{forms}
use Rattle.syntax_reading.proofs.Sound.{sound_pick, sound_stays, sound_refuses}
use Rattle.syntax_reading.proofs.SoundSimple.{named_sound, words_sound}
use Rattle.syntax_reading.proofs.Aheads.{ahead_semicolon, ahead_labels, ahead_binds, ahead_simple}
use Rattle.syntax_reading.proofs.WithLabel.{with_label_tokens}
use Rattle.syntax_reading.proofs.BesideAround.{with_label_opens, binds_deep}
use Rattle.syntax_reading.proofs.Mends.{Fill, Mends, MendsAt, IsPart, AllMend, onward, filled, refilled, mends_gives, mends_refuses, mends_on, mends_bind, mends_then, mends_same, mends_next, mends_stays, mends_past, mends_pick, mends_fits, part_key}
use Rattle.syntax_reading.proofs.Mends as part
use Rattle.syntax_reading.proofs.MendParts.{MendsParts, part_colon, part_binds}
use Rattle.syntax_reading.proofs.MendSimple.{named_mends, words_mend}
use Rattle.p_reading.specs.ReadStatements.{Before, none, after, Tests, if_test, elsif_test, Arms, first_arm, later_arm, Frame, in_then, in_else, in_either, in_with, in_while, Stack, bottom, inside, State, begin, ended, Turn, on, done, with_before, closed_if, closed_either}
use Rattle.p_reading.specs.ReadStatements.{opens, depth, after_tests, after_name, statement_words, statement_by, takes_else, takes_elsif, takes_or, ends, takes_end, closing_words, another_by, ended_by, step, turned, run, read_sequence, ends_with, closing, rest}
use Rattle.p_reading.specs.MissingStatements.{missing_after_name, missing_statement_words, missing_statement_by, missing_elsif, missing_its_word, missing_ends, missing_closing_words, missing_another_by, missing_ended_by, missing_step, missing_turned, missing_run, missing_sequence}
use Rattle.p_reading.proofs.SoundStatements.{before, tests, arms, frame, stack, passed, turn, GoodBefore, GoodStack, GoodState, GoodTurn, with_before_tokens, with_before_good, closed_if_tokens, closed_if_good, closed_either_tokens, closed_either_good, step_sound, sequence_sound}
use Rattle.p_reading.proofs.Opened.{tests_open, arms_open, frame_opens, stack_opens, state_opens, turn_opens, with_before_opens, closed_if_opens, closed_either_opens}
use Rattle.p_reading.proofs.Closing.{tests_deep, few_closing}

-- ---- tokens before those that come
mutual
  ahead_statement : (a : Statement) → Ahead (statement a)
  ahead_statement (simple s) = ahead_simple s
  ahead_statement (branch p e q a c x y) = put_ahead (then_ahead (ahead e) (put_ahead (then_ahead (ahead_sequence a) (then_ahead (ahead_else c) (put_ahead (put_ahead held))))))
  ahead_statement (either p a bs x y) = put_ahead (then_ahead (ahead_sequence a) (then_ahead (ahead_branches bs) (put_ahead (put_ahead held))))
  ahead_statement (with p bs q a x y) = put_ahead (then_ahead (ahead_binds bs) (put_ahead (then_ahead (ahead_sequence a) (put_ahead (put_ahead held)))))
  ahead_statement (while p e q a x y) = put_ahead (then_ahead (ahead e) (put_ahead (then_ahead (ahead_sequence a) (put_ahead (put_ahead held)))))

  ahead_else : (c : Else) → Ahead (else_tokens c)
  ahead_else no_else = held
  ahead_else (else_then p a) = put_ahead (ahead_sequence a)
  ahead_else (else_if p e q a c) = put_ahead (then_ahead (ahead e) (put_ahead (then_ahead (ahead_sequence a) (ahead_else c))))

  ahead_branches : (bs : Branches) → Ahead (branches bs)
  ahead_branches (last_branch p a) = put_ahead (ahead_sequence a)
  ahead_branches (more_branches p a bs) = put_ahead (then_ahead (ahead_sequence a) (ahead_branches bs))

  pub ahead_sequence : (ss : Sequence) → Ahead (sequence ss)
  ahead_sequence (last_statement ls a o) = then_ahead (ahead_labels ls) (then_ahead (ahead_statement a) (ahead_semicolon o))
  ahead_sequence (more_statements ls a p ss) = then_ahead (ahead_labels ls) (then_ahead (ahead_statement a) (put_ahead (ahead_sequence ss)))

ahead_before : (b : Before) → Ahead (before b)
ahead_before none = held
ahead_before (after b ls a p) = then_ahead (ahead_before b) (then_ahead (ahead_labels ls) (then_ahead (ahead_statement a) (put_ahead held)))

ahead_tests : (t : Tests) → Ahead (tests t)
ahead_tests (if_test p e q) = put_ahead (then_ahead (ahead e) (put_ahead held))
ahead_tests (elsif_test t a p e q) = then_ahead (ahead_tests t) (then_ahead (ahead_sequence a) (put_ahead (then_ahead (ahead e) (put_ahead held))))

ahead_arms : (t : Arms) → Ahead (arms t)
ahead_arms (first_arm p) = put_ahead held
ahead_arms (later_arm t a p) = then_ahead (ahead_arms t) (then_ahead (ahead_sequence a) (put_ahead held))

ahead_frame : (f : Frame) → Ahead (frame f)
ahead_frame (in_then t) = ahead_tests t
ahead_frame (in_else t a p) = then_ahead (ahead_tests t) (then_ahead (ahead_sequence a) (put_ahead held))
ahead_frame (in_either t) = ahead_arms t
ahead_frame (in_with p bs q) = put_ahead (then_ahead (ahead_binds bs) (put_ahead held))
ahead_frame (in_while p e q) = put_ahead (then_ahead (ahead e) (put_ahead held))

pub ahead_stack : (st : Stack) → Ahead (stack st)
ahead_stack bottom = held
ahead_stack (inside f b ls st) = then_ahead (ahead_stack st) (then_ahead (ahead_before b) (then_ahead (ahead_labels ls) (ahead_frame f)))

abbrev at : Before → Labels → Stack → List Token → List Token
at b ls st ts = stack st (before b (labels ls ts))

pub ahead_at : (b : Before) (ls : Labels) (st : Stack) → Ahead (at b ls st)
ahead_at b ls st = then_ahead (ahead_stack st) (then_ahead (ahead_before b) (ahead_labels ls))

pub ahead_passed : (s : State) → Ahead (passed s)
ahead_passed (begin b ls st) = ahead_at b ls st
ahead_passed (ended b ls a o st) = then_ahead (ahead_at b ls st) (then_ahead (ahead_statement a) (ahead_semicolon o))

pub ahead_turn : (t : Turn) → Ahead (turn t)
ahead_turn (on s) = ahead_passed s
ahead_turn (done ss) = ahead_sequence ss

-- the forms that are open at those
abbrev at_opens : Before → Labels → Stack → List Open
at_opens b ls st = state_opens (begin b ls st)

abbrev listed : Sequence → Stack → List Open
listed a st = stack_opens st ++ p_sequence (depth st) a

-- ---- what completes a state
abbrev Filled : (List Token → List Token) → List Open → List Token → Type 0
Filled x y told = Fill x y GoodSequence sequence (p_sequence 0) part.none 0 4 told

-- a statement that ends in its list, and then what is open around it; z are the counts of its tokens x, and o the first of those that complete it
outer : (b : Before) (ls : Labels) (st : Stack) → GoodBefore b → ((ss : Sequence) → GoodSequence ss → Filled (λ ts. stack st (sequence ss ts)) (listed ss st) (closing st)) → (a : Statement) → GoodStatement a → (x : List Token → List Token) (fix : List Token)
    → ((ts : List Token) → statement a ts ≡ x (fix ++ ts)) → (y z : List Open) (o : Open) (os : List Open) → p_statement (depth st) a ≡ z ++ o ∷ os → at_opens b ls st ++ z ≡ y → length (o ∷ os) ≡ length fix → length fix + length (closing st) ≤ 16 * forms o + 4
    → Filled (λ ts. at b ls st (x ts)) y (fix ++ closing st)
outer b ls st d k a i x fix e y z o os c f l few =
    let ss = last_statement ls a None in
    let counts : listed (with_before b ss) st ≡ y ++ o ∷ os = rw (with_before_opens (depth st) b ss, c, sym f) (simp (append_assoc, append-nil) refl) in
    onward (λ ts. at b ls st (x ts)) (λ ts. stack st (sequence (with_before b ss) ts)) fix o os (λ ts. ap (stack st) (with_before_tokens b ss ts) ∙ ap (at b ls st) (e ts)) counts l (omega (arith, few)) (k (with_before b ss) (with_before_good b ss d i))

-- the word that ends a form, two tokens
abbrev its_end : Word → List Token
its_end w = ends_with w []

list_filled : (st : Stack) → GoodStack st → (ss : Sequence) → GoodSequence ss → Filled (λ ts. stack st (sequence ss ts)) (listed ss st) (closing st)
list_filled bottom d ss i = filled ss i (λ ts. refl) refl
list_filled (inside (in_then t) b ls st) d ss i =
    (let n = depth st in
    outer b ls st d.1 (list_filled st d.2) (closed_if t ss no_else nowhere nowhere) (closed_if_good t ss no_else nowhere nowhere d.0 i tt) (λ ts. tests t (sequence ss ts)) (its_end (codes "if"))
    (λ ts. closed_if_tokens t ss no_else nowhere nowhere ts) (listed ss (inside (in_then t) b ls st)) (tests_open n t ++ p_sequence (after_tests n t) ss) (record { expressions = 0; statements = n + 1 }) (here (n + 1))
    (closed_if_opens n t ss no_else nowhere nowhere ∙ simp (append_assoc, append-nil) refl) (simp append_assoc refl) refl (let e = few_closing st in omega (arith, e)))
list_filled (inside (in_else t c p) b ls st) d ss i =
    (let n = depth st in
    outer b ls st d.1 (list_filled st d.2) (closed_if t c (else_then p ss) nowhere nowhere) (closed_if_good t c (else_then p ss) nowhere nowhere d.0.0 d.0.1 i) (λ ts. frame (in_else t c p) (sequence ss ts)) (its_end (codes "if"))
    (λ ts. closed_if_tokens t c (else_then p ss) nowhere nowhere ts) (listed ss (inside (in_else t c p) b ls st)) (frame_opens n (in_else t c p) ++ p_sequence (after_tests n t) ss) (record { expressions = 0; statements = n + 1 }) (here (n + 1))
    (closed_if_opens n t c (else_then p ss) nowhere nowhere ∙ simp append_assoc refl) (simp append_assoc refl) refl (let e = few_closing st in omega (arith, e)))
list_filled (inside (in_either (first_arm p)) b ls st) d ss i =
    (let n = depth st in
    let bs = last_branch nowhere (last_statement no_labels (simple (g.skip nowhere)) None) in
    let e : p_branches (n + 1) bs ≡ here (n + 1) ++ here (n + 1) = refl in
    outer b ls st d.1 (list_filled st d.2) (closed_either (first_arm p) ss bs nowhere nowhere) (closed_either_good (first_arm p) ss bs nowhere nowhere d.0 i tt) (λ ts. arms (first_arm p) (sequence ss ts))
    (key nowhere (codes "or") (key nowhere (codes "skip") (its_end (codes "either")))) (λ ts. refl) (listed ss (inside (in_either (first_arm p)) b ls st)) (arms_open n (first_arm p) ++ p_sequence (n + 1) ss) (record { expressions = 0; statements = n + 1 })
    (here (n + 1) ++ here (n + 1) ++ here (n + 1)) (ap (λ (ks : List Open). arms_open n (first_arm p) ++ p_sequence (n + 1) ss ++ ks ++ here (n + 1) ++ here (n + 1)) e ∙ simp append_assoc refl) (simp append_assoc refl) refl (let f = few_closing st in omega (arith, f)))
list_filled (inside (in_either (later_arm t c p)) b ls st) d ss i =
    (let n = depth st in
    let bs = last_branch p ss in
    outer b ls st d.1 (list_filled st d.2) (closed_either t c bs nowhere nowhere) (closed_either_good t c bs nowhere nowhere d.0.0 d.0.1 i) (λ ts. arms (later_arm t c p) (sequence ss ts)) (its_end (codes "either"))
    (λ ts. closed_either_tokens t c bs nowhere nowhere ts) (listed ss (inside (in_either (later_arm t c p)) b ls st)) (arms_open n (later_arm t c p) ++ p_sequence (n + 1) ss) (record { expressions = 0; statements = n + 1 }) (here (n + 1))
    (closed_either_opens n t c bs nowhere nowhere ∙ simp append_assoc refl) (simp append_assoc refl) refl (let e = few_closing st in omega (arith, e)))
list_filled (inside (in_with p bs q) b ls st) d ss i =
    (let n = depth st in
    let k = after_binds n bs in
    outer b ls st d.1 (list_filled st d.2) (with p bs q ss nowhere nowhere) (d.0, i) (λ ts. frame (in_with p bs q) (sequence ss ts)) (its_end (codes "with")) (λ ts. refl)
    (listed ss (inside (in_with p bs q) b ls st)) (frame_opens n (in_with p bs q) ++ p_sequence k ss) (record { expressions = 0; statements = k }) (here k)
    (simp append_assoc refl) (simp append_assoc refl) refl (let e = few_closing st in let f = binds_deep n bs in omega (arith, e, f)))
list_filled (inside (in_while p e q) b ls st) d ss i =
    (let n = depth st in
    outer b ls st d.1 (list_filled st d.2) (while p e q ss nowhere nowhere) (d.0, i) (λ ts. frame (in_while p e q) (sequence ss ts)) (its_end (codes "while")) (λ ts. refl)
    (listed ss (inside (in_while p e q) b ls st)) (frame_opens n (in_while p e q) ++ p_sequence (n + 1) ss) (record { expressions = 0; statements = n + 1 }) (here (n + 1)) (simp append_assoc refl) (simp append_assoc refl) refl (let f = few_closing st in omega (arith, f)))

state_filled : (s : State) → GoodState s → Filled (passed s) (state_opens s) (rest s)
state_filled (begin b ls st) i =
    outer b ls st i.0 (list_filled st i.1) (simple (g.skip nowhere)) tt (λ ts. ts) (key nowhere (codes "skip") []) (λ ts. refl)
    (at_opens b ls st) [] (record { expressions = 0; statements = depth st }) [] refl (append-nil (at_opens b ls st)) refl (let e = few_closing st in omega (arith, e))
state_filled (ended b ls a o st) i =
    (let ss = last_statement ls a o in
    refilled (passed (ended b ls a o st)) (λ ts. stack st (sequence (with_before b ss) ts)) (λ v. ap (stack st) (with_before_tokens b ss v)) (ap (λ (ks : List Open). stack_opens st ++ ks) (with_before_opens (depth st) b ss) ∙ simp append_assoc refl)
    (list_filled st i.2 (with_before b ss) (with_before_good b ss i.0 i.1)))

-- what closes the state to which a step goes, and nothing after the whole list
abbrev rest_turn : Turn → List Token
rest_turn (on s) = rest s
rest_turn (done ss) = []

-- ---- a step
abbrev StepsAt : Place → TokenView → (List Token → List Token) → List Open → Missing → Reader Turn → Type 0
StepsAt p k x y n r = MendsAt p k x y GoodTurn turn turn_opens rest_turn 0 4 n r

module _ (m : Parts) (w : PartsMiss) (h : MendsParts m w) where
  named_steps : (n : ℕ) (b : Before) (ls : Labels) (st : Stack) → GoodBefore b → GoodStack st → (x : Name) (p : Place) (k : TokenView)
      → StepsAt p k (λ ts. at b ls st (name x ts)) (at_opens b ls st ++ here (depth st)) (missing_after_name m w n st x p k) (after_name m n b ls st x p k)
  named_steps n b ls st i j x p (tk.mark tk.colon) =
      mends_stays (mends_bind (then_ahead (ahead_at b ls st) (put_ahead held)) (part_colon (depth st)) (let f = few_closing st in omega (arith, f)) (λ c u hc.
      mends_gives (on (begin b (with_label ls x c) st)) (i, j) (λ ts. ap (λ (us : List Token). stack st (before b us)) (with_label_tokens ls x c ts)) (rw (with_label_opens (depth st) ls x c) (simp append_assoc refl))))
  named_steps n b ls st i j x p k =
      mends_then (at b ls st) (at_opens b ls st) (ahead_at b ls st) (sound_stays (named_sound m h.sound n x p k)) (λ a u. ahead_simple a) (named_mends m w h (depth st) n x p k) (let f = few_closing st in omega (arith, f))
      (λ s l hs. mends_gives (on (ended b ls (simple s) None st)) (i, l, j) (λ ts. refl) (simp (append_assoc, append-nil) refl))

  -- past a word that opens a form
  open_step : {p : Place} {z : Word} {x : List Token → List Token} {y : List Open} {told : List Token} {n : Missing} {r : Reader Turn} (d : ℕ)
      → Mends (λ ts. x (key p z ts)) (y ++ here (d + 1)) GoodTurn turn turn_opens rest_turn 0 4 told n r → StepsAt p (tk.reserved z) x y (past_misses n) (within m d r)
  open_step d i = mends_fits (h.room (d + 1)) (mends_past (here (d + 1)) refl i)

  words_step : (n : ℕ) (b : Before) (ls : Labels) (st : Stack) → GoodBefore b → GoodStack st → (p : Place)
      → AllMend p (at b ls st) (at_opens b ls st) GoodTurn turn turn_opens rest_turn 0 4 (missing_statement_words m w n st) (statement_words m n b ls st p)
  words_step n b ls st i j p =
      (let d = depth st in
      let f = few_closing st in
      let ha : (v : Word) → Ahead (λ ts. at b ls st (key p v ts)) = λ v. then_ahead (ahead_at b ls st) (put_ahead held) in (
        refl,
        open_step d (mends_bind (ha (codes "if")) (h.expr (d + 1)) (omega (arith, f)) (λ e k he. mends_bind he (part_key (d + 1) (codes "then")) (omega (arith, f)) (λ q u hq.
            mends_gives (opens (in_then (if_test p e q)) b ls st) (tt, (k, i, j)) (λ ts. refl) (simp (append_assoc, append-nil) refl)))),
        (
          refl,
          open_step {n = all_of []} d (mends_gives (opens (in_either (first_arm p)) b ls st) (tt, (tt, i, j)) (λ ts. refl) (simp (append_assoc, append-nil) refl)),
          (
            refl,
            mends_past (here d) refl (mends_bind (ha (codes "with")) (part_binds m w h n d) (omega (arith, f)) (λ bs k hb. mends_bind hb (part_key (after_binds d bs) (codes "do")) (let e = binds_deep d bs in omega (arith, e, f)) (λ q u hq.
                mends_gives (opens (in_with p bs q) b ls st) (tt, (k, i, j)) (λ ts. refl) (simp (append_assoc, append-nil) refl)))),
            (
              refl,
              open_step d (mends_bind (ha (codes "while")) (h.expr (d + 1)) (omega (arith, f)) (λ e k he. mends_bind he (part_key (d + 1) (codes "do")) (omega (arith, f)) (λ q u hq.
                  mends_gives (opens (in_while p e q) b ls st) (tt, (k, i, j)) (λ ts. refl) (simp (append_assoc, append-nil) refl)))),
              tt,
            ),
          ),
        ),
      ))

  statement_steps : (n : ℕ) (b : Before) (ls : Labels) (st : Stack) → GoodBefore b → GoodStack st → (p : Place) (k : TokenView) → StepsAt p k (at b ls st) (at_opens b ls st) (missing_statement_by m w n st p k) (statement_by m n b ls st p k)
  statement_steps n b ls st i j p (tk.word x) =
      (let f = few_closing st in
      mends_past (here (depth st)) refl
      (mends_next
      (record {
        whole = on (ended b ls (simple (g.macro (record { place = p; word = x }) (g.no_arguments nowhere nowhere))) None st);
        good = (i, tt, j);
        fix = no_list [];
        tokens = λ v. refl;
        given = refl;
        back = here (depth st) ++ here (depth st);
        opens = simp (append_assoc, append-nil) refl;
        long = refl;
        enough = omega (arith, f);
      })
      (named_steps n b ls st i j (record { place = p; word = x }))))
  statement_steps n b ls st i j p (tk.reserved z) =
      (let f = few_closing st in
      mends_pick z (missing_statement_words m w n st) (statement_words m n b ls st p) (words_step n b ls st i j p)
      (mends_same (λ ts. refl) (append-nil (at_opens b ls st))
      (mends_then (at b ls st) (at_opens b ls st) (ahead_at b ls st) (sound_pick z (simple_words m p) refuses (words_sound m h.sound p) (sound_stays sound_refuses)) (λ a u. ahead_simple a)
      (mends_pick z (missing_simple_words m w) (simple_words m p) (words_mend m w h (depth st) p)
      (mends_stays (mends_refuses held (record { whole = g.skip nowhere; good = tt; fix = key nowhere (codes "skip") []; tokens = λ v. refl; given = refl; back = here (depth st); opens = refl; long = refl; enough = omega arith }))))
      (omega (arith, f)) (λ s l hs. mends_gives (on (ended b ls (simple s) None st)) (i, l, j) (λ ts. refl) (simp (append_assoc, append-nil) refl)))))
  statement_steps n b ls st i j p k = mends_stays (mends_refuses (ahead_at b ls st) (filled (on (begin b ls st)) (i, j) (λ ts. refl) refl))

  -- ---- a list ends, or it is refused where it stands
  abbrev Listed : Stack → Sequence → Type 0
  Listed st a = Fill (λ ts. stack st (sequence a ts)) (listed a st) GoodTurn turn turn_opens rest_turn 0 4 (closing st)

  abbrev ListedAt : Place → Word → Stack → Sequence → Missing → Reader Turn → Type 0
  ListedAt p z st a n r = StepsAt p (tk.reserved z) (λ ts. stack st (sequence a ts)) (listed a st) n r

  stops : (a : Sequence) (st : Stack) → Listed st a → (p : Place) (z : Word) → ListedAt p z st a (all_of (closing st)) refuses
  stops a st f p z = mends_stays (mends_refuses (then_ahead (ahead_stack st) (ahead_sequence a)) f)

  else_taken : (a : Sequence) → GoodSequence a → (p : Place) (st : Stack) → GoodStack st → Listed st a → ListedAt p (codes "else") st a (all_of (closing st)) (takes_else a p st)
  else_taken a j p (inside (in_then t) b ls st) i f =
      mends_past {n = all_of (closing (inside (in_then t) b ls st))} (here (after_tests (depth st) t)) refl (mends_gives (opens (in_else t a p) b ls st) (tt, ((i.0, j), i.1, i.2)) (λ ts. refl) (simp (append_assoc, append-nil) refl))
  else_taken a j p st i f = stops a st f p (codes "else")

  elsif_taken : (a : Sequence) → GoodSequence a → (p : Place) (st : Stack) → GoodStack st → Listed st a → ListedAt p (codes "elsif") st a (missing_elsif m w st) (takes_elsif m a p st)
  elsif_taken a j p (inside (in_then t) b ls st) i f =
      (let d = after_tests (depth st) t in
      let c = few_closing st in
      let deep = tests_deep (depth st) t in
      open_step d (mends_bind (then_ahead (ahead_stack (inside (in_then t) b ls st)) (then_ahead (ahead_sequence a) (put_ahead held))) (h.expr (d + 1)) (omega (arith, c, deep)) (λ e k he. mends_bind he (part_key (d + 1) (codes "then")) (omega (arith, c, deep)) (λ q u hq.
      mends_gives (opens (in_then (elsif_test t a p e q)) b ls st) (tt, ((i.0, j, k), i.1, i.2)) (λ ts. refl) (simp (append_assoc, append-nil) refl)))))
  elsif_taken a j p st i f = stops a st f p (codes "elsif")

  or_taken : (a : Sequence) → GoodSequence a → (p : Place) (st : Stack) → GoodStack st → Listed st a → ListedAt p (codes "or") st a (all_of (closing st)) (takes_or a p st)
  or_taken a j p (inside (in_either t) b ls st) i f =
      mends_past {n = all_of (closing (inside (in_either t) b ls st))} (here (depth st + 1)) refl (mends_gives (opens (in_either (later_arm t a p)) b ls st) (tt, ((i.0, j), i.1, i.2)) (λ ts. refl) (simp (append_assoc, append-nil) refl))
  or_taken a j p st i f = stops a st f p (codes "or")

  -- past `end`, where d forms are open, and its word
  end_taken : (z : Word) (f : Place → Statement) (b : Before) (ls : Labels) (st : Stack) → GoodBefore b → GoodStack st → ((q : Place) → GoodStatement (f q))
      → (x : List Token → List Token) → Ahead x → (p : Place) → ((q : Place) (ts : List Token) → statement (f q) ts ≡ x (key p (codes "end") (key q z ts)))
      → (d : ℕ) → depth st ≤ d → (y s : List Open) → ((q : Place) → p_statement (depth st) (f q) ≡ s ++ here d ++ here d) → y ≡ at_opens b ls st ++ s → StepsAt p (tk.reserved (codes "end")) (λ ts. at b ls st (x ts)) y (missing_its_word z st) (ends z f b ls st)
  end_taken z f b ls st i j k x hx p e d deep y s c o =
      (let g = few_closing st in
      mends_past (here d) refl (mends_bind (then_ahead (ahead_at b ls st) (then_ahead hx (put_ahead held))) (part_key d z) (omega (arith, g, deep)) (λ q u hq.
      mends_gives (on (ended b ls (f q) None st)) (i, k q, j) (λ ts. ap (at b ls st) (e q ts)) (rw (c q, o) (simp (append_assoc, append-nil) refl)))))

  ends_taken : (a : Sequence) → GoodSequence a → (p : Place) (st : Stack) → GoodStack st → Listed st a → ListedAt p (codes "end") st a (missing_ends st) (takes_end a p st)
  ends_taken a j p bottom i f = mends_stays (mends_gives (done a) j (λ ts. refl) refl)
  ends_taken a j p (inside (in_then t) b ls st) i f =
      (let d = depth st in
      end_taken (codes "if") (closed_if t a no_else p) b ls st i.1 i.2 (λ q. closed_if_good t a no_else p q i.0 j tt) (λ ts. tests t (sequence a ts)) (then_ahead (ahead_tests t) (ahead_sequence a)) p (λ q ts. closed_if_tokens t a no_else p q ts)
      (d + 1) (omega arith) (listed a (inside (in_then t) b ls st)) (tests_open d t ++ p_sequence (after_tests d t) a) (λ q. closed_if_opens d t a no_else p q ∙ simp (append_assoc, append-nil) refl) (simp append_assoc refl))
  ends_taken a j p (inside (in_else t c r) b ls st) i f =
      (let d = depth st in
      end_taken (codes "if") (closed_if t c (else_then r a) p) b ls st i.1 i.2 (λ q. closed_if_good t c (else_then r a) p q i.0.0 i.0.1 j) (λ ts. frame (in_else t c r) (sequence a ts)) (then_ahead (ahead_frame (in_else t c r)) (ahead_sequence a)) p
      (λ q ts. closed_if_tokens t c (else_then r a) p q ts) (d + 1) (omega arith) (listed a (inside (in_else t c r) b ls st)) (frame_opens d (in_else t c r) ++ p_sequence (after_tests d t) a)
      (λ q. closed_if_opens d t c (else_then r a) p q ∙ simp append_assoc refl) (simp append_assoc refl))
  ends_taken a j p (inside (in_either (first_arm r)) b ls st) i f = stops a (inside (in_either (first_arm r)) b ls st) f p (codes "end")
  ends_taken a j p (inside (in_either (later_arm t c r)) b ls st) i f =
      (let d = depth st in
      end_taken (codes "either") (closed_either t c (last_branch r a) p) b ls st i.1 i.2 (λ q. closed_either_good t c (last_branch r a) p q i.0.0 i.0.1 j) (λ ts. arms (later_arm t c r) (sequence a ts)) (then_ahead (ahead_arms (later_arm t c r)) (ahead_sequence a)) p
      (λ q ts. closed_either_tokens t c (last_branch r a) p q ts) (d + 1) (omega arith) (listed a (inside (in_either (later_arm t c r)) b ls st)) (arms_open d (later_arm t c r) ++ p_sequence (d + 1) a)
      (λ q. closed_either_opens d t c (last_branch r a) p q ∙ simp append_assoc refl) (simp append_assoc refl))
  ends_taken a j p (inside (in_with r bs s) b ls st) i f =
      (let d = depth st in
      let k = after_binds d bs in
      end_taken (codes "with") (with r bs s a p) b ls st i.1 i.2 (λ q. (i.0, j)) (λ ts. frame (in_with r bs s) (sequence a ts)) (then_ahead (ahead_frame (in_with r bs s)) (ahead_sequence a)) p (λ q ts. refl)
      k (let e = binds_deep d bs in omega (arith, e)) (listed a (inside (in_with r bs s) b ls st)) (frame_opens d (in_with r bs s) ++ p_sequence k a) (λ q. simp append_assoc refl) (simp append_assoc refl))
  ends_taken a j p (inside (in_while r e s) b ls st) i f =
      (let d = depth st in
      end_taken (codes "while") (while r e s a p) b ls st i.1 i.2 (λ q. (i.0, j)) (λ ts. frame (in_while r e s) (sequence a ts)) (then_ahead (ahead_frame (in_while r e s)) (ahead_sequence a)) p (λ q ts. refl)
      (d + 1) (omega arith) (listed a (inside (in_while r e s) b ls st)) (frame_opens d (in_while r e s) ++ p_sequence (d + 1) a) (λ q. refl) (simp append_assoc refl))

  -- ---- after a statement
  abbrev EndedAt : Place → TokenView → State → Missing → Reader Turn → Type 0
  EndedAt p k s n r = StepsAt p k (passed s) (state_opens s) n r

  there : (s : State) → GoodState s → Fill (passed s) (state_opens s) GoodTurn turn turn_opens rest_turn 0 4 (rest s)
  there s i = filled (on s) i (λ ts. refl) refl

  -- after its `;`
  next_steps : (n : ℕ) (b : Before) (ls : Labels) (a : Statement) (s : Place) (st : Stack) → GoodState (ended b ls a (Some s) st) → (p : Place) (k : TokenView)
      → EndedAt p k (ended b ls a (Some s) st) (missing_statement_by m w n st p k) (statement_by m n (after b ls a s) no_labels st p k)
  next_steps n b ls a s st i p k = mends_same (λ ts. refl) (simp (append_assoc, append-nil) refl) (statement_steps n (after b ls a s) no_labels st (i.0, i.1) i.2 p k)

  another_steps : (n : ℕ) (b : Before) (ls : Labels) (a : Statement) (o : Option Place) (st : Stack) → GoodState (ended b ls a o st) → (p : Place) (k : TokenView) → EndedAt p k (ended b ls a o st) (missing_another_by m w n o st p k) (another_by m n b ls a o st p k)
  another_steps n b ls a (Some s) st i p (tk.word x) = next_steps n b ls a s st i p (tk.word x)
  another_steps n b ls a (Some s) st i p (tk.reserved z) = next_steps n b ls a s st i p (tk.reserved z)
  another_steps n b ls a (Some s) st i p k = mends_stays (mends_refuses (ahead_passed (ended b ls a (Some s) st)) (there (ended b ls a (Some s) st) i))
  another_steps n b ls a None st i p (tk.mark tk.semicolon) = mends_past {n = all_of (closing st)} (here (depth st)) refl (mends_gives (on (ended b ls a (Some p) st)) i (λ ts. refl) (simp (append_assoc, append-nil) refl))
  another_steps n b ls a None st i p k = mends_stays (mends_refuses (ahead_passed (ended b ls a None st)) (there (ended b ls a None st) i))

  ended_steps : (n : ℕ) (b : Before) (ls : Labels) (a : Statement) (o : Option Place) (st : Stack) → GoodState (ended b ls a o st) → (p : Place) (k : TokenView) → EndedAt p k (ended b ls a o st) (missing_ended_by m w n o st p k) (ended_by m n b ls a o st p k)
  ended_steps n b ls a o st i p (tk.reserved z) =
      (let ss = last_statement ls a o in
      let all = with_before b ss in
      let j = with_before_good b ss i.0 i.1 in
      let counts : listed all st ≡ state_opens (ended b ls a o st) = rw (with_before_opens (depth st) b ss) (simp append_assoc refl) in
      let f : Listed st all = filled (on (ended b ls a o st)) i (λ ts. ap (stack st) (sym (with_before_tokens b ss ts))) (sym counts) in
      mends_same (λ ts. ap (stack st) (with_before_tokens b ss ts)) counts
      (mends_pick z (missing_closing_words m w st) (closing_words m all p st) (refl, else_taken all j p st i.2 f, (refl, elsif_taken all j p st i.2 f, (refl, or_taken all j p st i.2 f, (refl, ends_taken all j p st i.2 f, tt))))
      (mends_same (λ ts. ap (stack st) (sym (with_before_tokens b ss ts))) (sym counts) (another_steps n b ls a o st i p (tk.reserved z)))))
  ended_steps n b ls a o st i p k = another_steps n b ls a o st i p k

  -- ---- all steps
  step_mends : (n : ℕ) (s : State) → GoodState s → Mends (passed s) (state_opens s) GoodTurn turn turn_opens rest_turn 0 4 (rest s) (missing_step m w n s) (step m n s)
  step_mends n (begin b ls st) i = mends_next (there (begin b ls st) i) (statement_steps n b ls st i.0 i.1)
  step_mends n (ended b ls a o st) i = mends_next (there (ended b ls a o st) i) (ended_steps n b ls a o st i)

  abbrev Runs : (n : ℕ) → State → Type 0
  Runs n s = Mends (passed s) (state_opens s) GoodSequence sequence (p_sequence 0) part.none 0 4 (rest s) (missing_run m w n s) (run m n s)

  run_mends : (n : ℕ) (s : State) → GoodState s → Runs n s
  run_mends zero s i = mends_refuses (ahead_passed s) (state_filled s i)
  run_mends (suc n) s i = mends_on (λ ts. ts) [] held (step_sound m h.sound n s i) (λ a u. ahead_turn a) (step_mends n s i) (turned_mends (run_mends n))
    where
      turned_mends : ((s : State) → GoodState s → Runs n s) → (t : Turn) → GoodTurn t → Ahead (turn t) → Mends (turn t) (turn_opens t) GoodSequence sequence (p_sequence 0) part.none 0 4 (rest_turn t) (missing_turned (missing_run m w n) t) (turned (run m n) t)
      turned_mends r (on s) i ht = r s i
      turned_mends r (done ss) i ht = mends_gives ss i (λ ts. refl) refl

  pub part_sequence : (n : ℕ) → IsPart GoodSequence sequence (p_sequence 0) 0 4 (key nowhere (codes "skip") []) (missing_sequence m w n) (read_sequence m n)
  part_sequence n = record { sound = sequence_sound m h.sound n; ahead = λ a u. ahead_sequence a; mends = run_mends n (begin none no_labels bottom) (tt, tt) }
