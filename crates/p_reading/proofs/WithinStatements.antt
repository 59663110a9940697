-- What was read within the limits can be gone on with within them: lists of statements.
use Rattle.std.proofs.Common.{◌≡◌, ℕ, zero, suc, ◌+◌, List, [], ◌++◌, length, Option, Some, None, refl, sym, ap, ◌∙◌, append_assoc, length-append, arith, codes}
use Rattle.std.proofs.lemmas.List.{append-nil}
use Rattle.tla_token.specs.declared.place.Place.{Place}
use Rattle.tla_token.specs.Places.{nowhere}
use Rattle.tla_tree.specs.Tree.{Word, Name}
use Rattle.tla_tree.specs.Lexical.{TokenView, Token}
use Rattle.tla_tree.specs.Lexical as tk
use Rattle.tla_tree.specs.Reader.{Reader, refuses}
use Rattle.tla_tree.specs.FirstStop.{Open}
use Rattle.tla_tree.proofs.SpellAhead.{Ahead, held, put_ahead, then_ahead}
use Rattle.pcal_tree.specs.GrammarParts.{name, key, mark, Labels, no_labels, labels}
use Rattle.pcal_tree.specs.GrammarParts as g
use Rattle.pcal_tree.specs.GrammarP.{Statement, simple, with, while, no_else, else_then, last_branch, Sequence, last_statement, statement, sequence, GoodStatement, GoodSequence}
use Rattle.pcal_tree.specs.OpenForms.{here, plain, expression_opens, after_binds, p_statement, p_sequence}
use Rattle.syntax_reading.specs.TokenReaders.{limited_parts, pick}
use Rattle.syntax_reading.specs.ReadSimple.{simple_words}
use Rattle.syntax_reading.proofs.Sound.{sound_pick, sound_stays, sound_refuses}
use Rattle.syntax_reading.proofs.SoundSimple.{named_sound, words_sound}
use Rattle.syntax_reading.proofs.Aheads.{ahead_simple}
use Rattle.syntax_reading.proofs.Beside.{Sits, sits_on, sits_here, beside_pick, beside_stays, beside_refuses}
use Rattle.syntax_reading.proofs.BesideSimple.{beside_named, beside_words}
use Rattle.syntax_reading.proofs.BesideParts.{unlimited_parts}
use Rattle.syntax_reading.proofs.Within.{Filled, Ends, EndsAt, Part, AllEnd, fits_of, here_filled, ends_gives, ends_refuses, ends_after, ends_bind, ends_then, ends_next, ends_stays, ends_past, ends_opened, ends_same, ends_pick, ends_moved, key_part}
use Rattle.syntax_reading.proofs.WithinParts.{limited_sound, expr_part, colon_part, binds_part}
use Rattle.syntax_reading.proofs.WithinSimple.{named_ends, words_end}
use Rattle.tla_tree.proofs.Limited.{told_ok}
use Rattle.syntax_reading.specs.ReadAround.{with_label}
use Rattle.syntax_reading.proofs.WithLabel.{with_label_tokens}
use Rattle.syntax_reading.proofs.BesideAround.{with_label_opens, sits_less, binds_sit}
use Rattle.p_reading.specs.ReadStatements.{Before, none, after, if_test, elsif_test, first_arm, later_arm, in_then, in_else, in_either, in_with, in_while, Stack, bottom, inside, after_tests, depth, State, begin, ended, Turn, on, done, with_before, closed_if, closed_either}
use Rattle.p_reading.specs.ReadStatements.{opens, ends_simple, after_name, statement_words, statement_by, takes_else, takes_elsif, takes_or, ends, takes_end, closing_words, another_by, ended_by, step, turned, run, read_sequence}
use Rattle.p_reading.proofs.SoundStatements.{tests, arms, frame, stack, passed, turn, GoodBefore, GoodStack, GoodState, GoodTurn, with_before_tokens, with_before_good, closed_if_tokens, closed_if_good, closed_either_tokens, closed_either_good, step_sound, sequence_sound}
use Rattle.p_reading.proofs.SoundStatements as spelled
use Rattle.p_reading.proofs.MendStatements.{ahead_stack, ahead_at, ahead_passed, ahead_turn, ahead_sequence}
use Rattle.p_reading.proofs.Closing.{tests_deep}
use Rattle.p_reading.proofs.Opened.{before_opens, tests_open, arms_open, frame_opens, stack_opens, state_opens, turn_opens, with_before_opens, closed_if_opens, closed_either_opens}
use Rattle.p_reading.proofs.BesideStatements.{at_sits, listed_sits, ended_sits, step_beside, beside_sequence}

abbrev at : Before → Labels → Stack → List Token → List Token
at b ls st ts = stack st (spelled.before b (labels ls ts))

module _ (e : ℕ) (z : List Open) where
  abbrev all : Turn → List Open
  all t = z ++ turn_opens t

  abbrev whole : Sequence → List Open
  whole ss = z ++ p_sequence 0 ss

  abbrev front : Before → Labels → Stack → List Open
  front b ls st = z ++ stack_opens st ++ before_opens (depth st) b ++ plain (depth st) (labels ls)

  abbrev listed : Sequence → Stack → List Open
  listed a st = z ++ stack_opens st ++ p_sequence (depth st) a

  -- ---- what completes a state
  abbrev Completed : (List Token → List Token) → List Open → Type 0
  Completed x y = Filled x GoodSequence sequence y whole

  -- a statement that ends in its list, and then what is open around it
  outer : (b : Before) (ls : Labels) (st : Stack) → GoodBefore b → ((ss : Sequence) → GoodSequence ss → Completed (λ ts. stack st (sequence ss ts)) (listed ss st)) → (a : Statement) → GoodStatement a → (x : List Token → List Token) (fix : List Token) → ((ts : List Token) → statement a ts ≡ x (fix ++ ts))
      → (y v m : List Open) → y ≡ front b ls st ++ v → p_statement (depth st) a ≡ v ++ m → length m ≡ length fix → Completed (λ ts. at b ls st (x ts)) y
  outer b ls st d k a i x fix t y v m c o l =
      (let ss = last_statement ls a None in
      let f = k (with_before b ss) (with_before_good b ss d i) in
      record {
        whole = f.whole;
        good = f.good;
        more = m ++ f.more;
        counts = f.counts ∙ rw (c, with_before_opens (depth st) b ss, o) (simp (append_assoc, append-nil) refl);
        fix = fix ++ f.fix;
        long = (let n = length-append m f.more in let k = length-append fix f.fix in let j = f.long in omega (arith, n, k, j, l));
        tokens = λ w. f.tokens w ∙ ap (stack st) (with_before_tokens b ss (f.fix ++ w)) ∙ ap (at b ls st) (t (f.fix ++ w)) ∙ ap (λ (u : List Token). at b ls st (x u)) (sym (append_assoc fix f.fix w));
      })

  list_completed : (st : Stack) → GoodStack st → (ss : Sequence) → GoodSequence ss → Completed (λ ts. stack st (sequence ss ts)) (listed ss st)
  list_completed bottom d ss i = here_filled ss i (λ ts. refl) (simp append-nil refl)
  list_completed (inside (in_then t) b ls st) d ss i =
      (let n = depth st in
      outer b ls st d.1 (list_completed st d.2) (closed_if t ss no_else nowhere nowhere) (closed_if_good t ss no_else nowhere nowhere d.0 i tt) (λ ts. tests t (sequence ss ts)) (key nowhere (codes "end") (key nowhere (codes "if") [])) (λ ts. closed_if_tokens t ss no_else nowhere nowhere ts)
      (listed ss (inside (in_then t) b ls st)) (tests_open n t ++ p_sequence (after_tests n t) ss) (here (n + 1) ++ here (n + 1)) (simp append_assoc refl) (closed_if_opens n t ss no_else nowhere nowhere ∙ simp (append_assoc, append-nil) refl) refl)
  list_completed (inside (in_else t c p) b ls st) d ss i =
      (let n = depth st in
      outer b ls st d.1 (list_completed st d.2) (closed_if t c (else_then p ss) nowhere nowhere) (closed_if_good t c (else_then p ss) nowhere nowhere d.0.0 d.0.1 i) (λ ts. frame (in_else t c p) (sequence ss ts)) (key nowhere (codes "end") (key nowhere (codes "if") [])) (λ ts. closed_if_tokens t c (else_then p ss) nowhere nowhere ts)
      (listed ss (inside (in_else t c p) b ls st)) (frame_opens n (in_else t c p) ++ p_sequence (after_tests n t) ss) (here (n + 1) ++ here (n + 1)) (simp append_assoc refl) (closed_if_opens n t c (else_then p ss) nowhere nowhere ∙ simp append_assoc refl) refl)
  list_completed (inside (in_either t) b ls st) d ss i =
      (let n = depth st in
      let bs = last_branch nowhere (last_statement no_labels (simple (g.skip nowhere)) None) in
      outer b ls st d.1 (list_completed st d.2) (closed_either t ss bs nowhere nowhere) (closed_either_good t ss bs nowhere nowhere d.0 i tt) (λ ts. arms t (sequence ss ts))
      (key nowhere (codes "or") (key nowhere (codes "skip") (key nowhere (codes "end") (key nowhere (codes "either") [])))) (λ ts. closed_either_tokens t ss bs nowhere nowhere ts)
      (listed ss (inside (in_either t) b ls st)) (arms_open n t ++ p_sequence (n + 1) ss) (here (n + 1) ++ here (n + 1) ++ here (n + 1) ++ here (n + 1)) (simp append_assoc refl) (closed_either_opens n t ss bs nowhere nowhere ∙ simp append_assoc refl) refl)
  list_completed (inside (in_with p bs q) b ls st) d ss i =
      (let n = depth st in
      outer b ls st d.1 (list_completed st d.2) (with p bs q ss nowhere nowhere) (d.0, i) (λ ts. frame (in_with p bs q) (sequence ss ts)) (key nowhere (codes "end") (key nowhere (codes "with") [])) (λ ts. refl)
      (listed ss (inside (in_with p bs q) b ls st)) (frame_opens n (in_with p bs q) ++ p_sequence (after_binds n bs) ss) (here (after_binds n bs) ++ here (after_binds n bs)) (simp append_assoc refl) (simp append_assoc refl) refl)
  list_completed (inside (in_while p a q) b ls st) d ss i =
      (let n = depth st in
      outer b ls st d.1 (list_completed st d.2) (while p a q ss nowhere nowhere) (d.0, i) (λ ts. frame (in_while p a q) (sequence ss ts)) (key nowhere (codes "end") (key nowhere (codes "while") [])) (λ ts. refl)
      (listed ss (inside (in_while p a q) b ls st)) (frame_opens n (in_while p a q) ++ p_sequence (n + 1) ss) (here (n + 1) ++ here (n + 1)) (simp append_assoc refl) (simp append_assoc refl) refl)

  state_completed : (s : State) → GoodState s → Completed (passed s) (z ++ state_opens s)
  state_completed (begin b ls st) i = outer b ls st i.0 (list_completed st i.1) (simple (g.skip nowhere)) tt (λ ts. ts) (key nowhere (codes "skip") []) (λ ts. refl) (z ++ state_opens (begin b ls st)) [] (here (depth st)) (simp (append_assoc, append-nil) refl) refl refl
  state_completed (ended b ls a o st) i =
      (let ss = last_statement ls a o in
      let f = list_completed st i.2 (with_before b ss) (with_before_good b ss i.0 i.1) in
      record { whole = f.whole; good = f.good; more = f.more; counts = f.counts ∙ rw (with_before_opens (depth st) b ss) (simp append_assoc refl); fix = f.fix; long = f.long; tokens = λ v. f.tokens v ∙ ap (stack st) (with_before_tokens b ss (f.fix ++ v)) })

  -- ---- a step
  abbrev StepsAt : Place → TokenView → (List Token → List Token) → List Open → Reader Turn → Type 0
  StepsAt p k x y r = EndsAt p k x GoodTurn turn y all r

  named_steps : (n : ℕ) (b : Before) (ls : Labels) (st : Stack) → GoodBefore b → GoodStack st → (x : Name) (p : Place) (k : TokenView) → StepsAt p k (λ ts. at b ls st (name x ts)) (front b ls st ++ here (depth st)) (after_name (limited_parts e) n b ls st x p k)
  named_steps n b ls st i j x p (tk.mark tk.colon) =
      ends_stays (ends_bind (then_ahead (ahead_at b ls st) (put_ahead held)) (colon_part (depth st) (front b ls st ++ here (depth st)) (sits_on (here (depth st)) (at_sits e z b ls st))) (λ c u hc.
      ends_gives (on (begin b (with_label ls x c) st)) (i, j) (λ ts. ap (λ (us : List Token). stack st (spelled.before b us)) (with_label_tokens ls x c ts)) (rw (with_label_opens (depth st) ls x c) (simp append_assoc refl))))
  named_steps n b ls st i j x p k =
      ends_stays (ends_after (at b ls st) (ahead_at b ls st) (named_sound (limited_parts e) (limited_sound e) n x p k) (λ a u. ahead_simple a) (fits_of (beside_named e (depth st) n (front b ls st) (at_sits e z b ls st) x p k)) (named_ends e (depth st) n (front b ls st) (at_sits e z b ls st) x p k)
      (λ s l hs. ends_gives (on (ended b ls (simple s) None st)) (i, l, j) (λ ts. refl) (simp (append_assoc, append-nil) refl)))

  begun : (b : Before) (ls : Labels) (st : Stack) → GoodBefore b → GoodStack st → Filled (at b ls st) GoodTurn turn (front b ls st) all
  begun b ls st i j = here_filled (on (begin b ls st)) (i, j) (λ ts. refl) (simp append_assoc refl)

  words_step : (n : ℕ) (b : Before) (ls : Labels) (st : Stack) → GoodBefore b → GoodStack st → (p : Place) → AllEnd p (at b ls st) GoodTurn turn (front b ls st) all (statement_words (limited_parts e) n b ls st p)
  words_step n b ls st i j p =
      (let d = depth st in
      let y = front b ls st in
      let s = sits_here (d + 1) y in
      let hx = ahead_at b ls st in
      let f = begun b ls st i j in (
        ends_opened (d + 1) refl hx f (ends_bind (then_ahead hx (put_ahead held)) (expr_part e (d + 1) (y ++ here (d + 1)) s) (λ a k he. ends_bind he (key_part (d + 1) (sits_on (expression_opens (d + 1) a) s) (codes "then")) (λ q u hq.
            ends_gives (opens (in_then (if_test p a q)) b ls st) (tt, (k, i, j)) (λ ts. refl) (simp (append_assoc, append-nil) refl)))),
        (
          ends_opened (d + 1) refl hx f (ends_gives (opens (in_either (first_arm p)) b ls st) (tt, (tt, i, j)) (λ ts. refl) (simp (append_assoc, append-nil) refl)),
          (
            ends_past d (at_sits e z b ls st) refl (ends_bind (then_ahead hx (put_ahead held)) (binds_part e n d (y ++ here d)) (λ bs k hb. ends_bind hb (key_part (after_binds d bs) (binds_sit d (y ++ here d) bs) (codes "do")) (λ q u hq.
                ends_gives (opens (in_with p bs q) b ls st) (tt, (k, i, j)) (λ ts. refl) (simp (append_assoc, append-nil) refl)))),
            (
              ends_opened (d + 1) refl hx f (ends_bind (then_ahead hx (put_ahead held)) (expr_part e (d + 1) (y ++ here (d + 1)) s) (λ a k he. ends_bind he (key_part (d + 1) (sits_on (expression_opens (d + 1) a) s) (codes "do")) (λ q u hq.
                  ends_gives (opens (in_while p a q) b ls st) (tt, (k, i, j)) (λ ts. refl) (simp (append_assoc, append-nil) refl)))),
              tt,
            ),
          ),
        ),
      ))

  statement_steps : (n : ℕ) (b : Before) (ls : Labels) (st : Stack) → GoodBefore b → GoodStack st → (p : Place) (k : TokenView) → StepsAt p k (at b ls st) (front b ls st) (statement_by (limited_parts e) n b ls st p k)
  statement_steps n b ls st i j p (tk.word x) =
      ends_past (depth st) (at_sits e z b ls st) refl
      (ends_next
      (record { whole = on (ended b ls (simple (g.macro (record { place = p; word = x }) (g.no_arguments nowhere nowhere))) None st); good = (i, tt, j); more = here (depth st) ++ here (depth st); counts = simp (append_assoc, append-nil) refl; fix = mark nowhere tk.open_bracket (mark nowhere tk.close_bracket []); long = refl; tokens = λ v. refl })
      (named_steps n b ls st i j (record { place = p; word = x })))
  statement_steps n b ls st i j p (tk.reserved w) =
      (let y = front b ls st in
      let s = at_sits e z b ls st in
      ends_pick w (statement_words (limited_parts e) n b ls st p) (ends_simple b ls st (pick w (simple_words (limited_parts e) p) refuses)) (words_step n b ls st i j p)
      (ends_then (at b ls st) (ahead_at b ls st) (sound_pick w (simple_words (limited_parts e) p) refuses (words_sound (limited_parts e) (limited_sound e) p) (sound_stays sound_refuses)) (λ a u. ahead_simple a)
      (λ ts v a us o. (told_ok ((beside_pick w (simple_words (limited_parts e) p) (simple_words (unlimited_parts e) p) refuses refuses (beside_words e (depth st) y s p w) (beside_stays beside_refuses)).is ts v) o).1)
      (ends_pick w (simple_words (limited_parts e) p) refuses (words_end e (depth st) y s p) (ends_stays (ends_refuses held (record { whole = g.skip nowhere; good = tt; more = here (depth st); counts = refl; fix = key nowhere (codes "skip") []; long = refl; tokens = λ v. refl }))))
      (λ t l hs. ends_gives (on (ended b ls (simple t) None st)) (i, l, j) (λ ts. refl) (simp (append_assoc, append-nil) refl))))
  statement_steps n b ls st i j p k = ends_stays (ends_refuses (ahead_at b ls st) (begun b ls st i j))

  -- ---- a list ends, or it is refused where it stands
  abbrev Listed : Stack → Sequence → Type 0
  Listed st a = Filled (λ ts. stack st (sequence a ts)) GoodTurn turn (listed a st) all

  abbrev TakenAt : Place → Word → Sequence → Stack → Reader Turn → Type 0
  TakenAt p w a st r = StepsAt p (tk.reserved w) (λ ts. stack st (sequence a ts)) (listed a st) r

  stops : (a : Sequence) (st : Stack) → Listed st a → (p : Place) (w : Word) → TakenAt p w a st refuses
  stops a st f p w = ends_stays (ends_refuses (then_ahead (ahead_stack st) (ahead_sequence a)) f)

  else_taken : (a : Sequence) → GoodSequence a → (p : Place) (st : Stack) → GoodStack st → Listed st a → TakenAt p (codes "else") a st (takes_else a p st)
  else_taken a j p (inside (in_then t) b ls st) i f = ends_past (after_tests (depth st) t) (listed_sits e z a (inside (in_then t) b ls st)) refl (ends_gives (opens (in_else t a p) b ls st) (tt, ((i.0, j), i.1, i.2)) (λ ts. refl) (simp (append_assoc, append-nil) refl))
  else_taken a j p st i f = stops a st f p (codes "else")

  elsif_taken : (a : Sequence) → GoodSequence a → (p : Place) (st : Stack) → GoodStack st → Listed st a → TakenAt p (codes "elsif") a st (takes_elsif (limited_parts e) a p st)
  elsif_taken a j p (inside (in_then t) b ls st) i f =
      (let d = after_tests (depth st) t + 1 in
      let y = listed a (inside (in_then t) b ls st) in
      let s = sits_here d y in
      let hx = then_ahead (ahead_stack (inside (in_then t) b ls st)) (ahead_sequence a) in
      ends_opened d refl hx f (ends_bind (then_ahead (ahead_stack (inside (in_then t) b ls st)) (then_ahead (ahead_sequence a) (put_ahead held))) (expr_part e d (y ++ here d) s)
      (λ c k he. ends_bind he (key_part d (sits_on (expression_opens d c) s) (codes "then")) (λ q u hq. ends_gives (opens (in_then (elsif_test t a p c q)) b ls st) (tt, ((i.0, j, k), i.1, i.2)) (λ ts. refl) (simp (append_assoc, append-nil) refl)))))
  elsif_taken a j p st i f = stops a st f p (codes "elsif")

  or_taken : (a : Sequence) → GoodSequence a → (p : Place) (st : Stack) → GoodStack st → Listed st a → TakenAt p (codes "or") a st (takes_or a p st)
  or_taken a j p (inside (in_either t) b ls st) i f = ends_past (depth st + 1) (listed_sits e z a (inside (in_either t) b ls st)) refl (ends_gives (opens (in_either (later_arm t a p)) b ls st) (tt, ((i.0, j), i.1, i.2)) (λ ts. refl) (simp (append_assoc, append-nil) refl))
  or_taken a j p st i f = stops a st f p (codes "or")

  end_taken : (w : Word) (f : Place → Statement) (b : Before) (ls : Labels) (st : Stack) → GoodBefore b → GoodStack st → ((q : Place) → GoodStatement (f q)) → (x y : List Token → List Token) → Ahead y → ((ts : List Token) → at b ls st (x ts) ≡ y ts) → (p : Place)
      → ((q : Place) (ts : List Token) → statement (f q) ts ≡ x (key p (codes "end") (key q w ts))) → (d : ℕ) (c v : List Open) → Sits d c → ((q : Place) → p_statement (depth st) (f q) ≡ v ++ here d ++ here d) → c ≡ front b ls st ++ v
      → StepsAt p (tk.reserved (codes "end")) y c (ends w f b ls st)
  end_taken w f b ls st i j k x y hy t p r d c v s o m =
      ends_past d s refl (ends_bind (then_ahead hy (put_ahead held)) (key_part d (sits_on (here d) s) w) (λ q u hq.
      ends_gives (on (ended b ls (f q) None st)) (i, k q, j) (λ ts. ap (at b ls st) (r q ts) ∙ t (key p (codes "end") (key q w ts))) (rw (o q, m) (simp (append_assoc, append-nil) refl))))

  ends_taken : (a : Sequence) → GoodSequence a → (p : Place) (st : Stack) → GoodStack st → Listed st a → TakenAt p (codes "end") a st (takes_end a p st)
  ends_taken a j p bottom i f = ends_stays (ends_gives (done a) j (λ ts. refl) (simp append-nil refl))
  ends_taken a j p (inside (in_then t) b ls st) i f =
      (let s = inside (in_then t) b ls st in
      let n = depth st in
      end_taken (codes "if") (closed_if t a no_else p) b ls st i.1 i.2 (λ q. closed_if_good t a no_else p q i.0 j tt) (λ ts. tests t (sequence a ts)) (λ ts. stack s (sequence a ts)) (then_ahead (ahead_stack s) (ahead_sequence a)) (λ ts. refl) p (λ q ts. closed_if_tokens t a no_else p q ts)
      (n + 1) (listed a s) (tests_open n t ++ p_sequence (after_tests n t) a) (sits_less (n + 1) (tests_deep n t) (listed_sits e z a s)) (λ q. closed_if_opens n t a no_else p q ∙ simp (append_assoc, append-nil) refl) (simp append_assoc refl))
  ends_taken a j p (inside (in_else t c r) b ls st) i f =
      (let s = inside (in_else t c r) b ls st in
      let n = depth st in
      end_taken (codes "if") (closed_if t c (else_then r a) p) b ls st i.1 i.2 (λ q. closed_if_good t c (else_then r a) p q i.0.0 i.0.1 j) (λ ts. frame (in_else t c r) (sequence a ts)) (λ ts. stack s (sequence a ts)) (then_ahead (ahead_stack s) (ahead_sequence a)) (λ ts. refl) p (λ q ts. closed_if_tokens t c (else_then r a) p q ts)
      (n + 1) (listed a s) (frame_opens n (in_else t c r) ++ p_sequence (after_tests n t) a) (sits_less (n + 1) (tests_deep n t) (listed_sits e z a s)) (λ q. closed_if_opens n t c (else_then r a) p q ∙ simp append_assoc refl) (simp append_assoc refl))
  ends_taken a j p (inside (in_either (first_arm r)) b ls st) i f = stops a (inside (in_either (first_arm r)) b ls st) f p (codes "end")
  ends_taken a j p (inside (in_either (later_arm t c r)) b ls st) i f =
      (let s = inside (in_either (later_arm t c r)) b ls st in
      let n = depth st in
      end_taken (codes "either") (closed_either t c (last_branch r a) p) b ls st i.1 i.2 (λ q. closed_either_good t c (last_branch r a) p q i.0.0 i.0.1 j) (λ ts. arms (later_arm t c r) (sequence a ts)) (λ ts. stack s (sequence a ts)) (then_ahead (ahead_stack s) (ahead_sequence a)) (λ ts. refl) p
      (λ q ts. closed_either_tokens t c (last_branch r a) p q ts) (n + 1) (listed a s) (arms_open n (later_arm t c r) ++ p_sequence (n + 1) a) (listed_sits e z a s) (λ q. closed_either_opens n t c (last_branch r a) p q ∙ simp append_assoc refl) (simp append_assoc refl))
  ends_taken a j p (inside (in_with r bs s) b ls st) i f =
      (let o = inside (in_with r bs s) b ls st in
      let n = depth st in
      end_taken (codes "with") (with r bs s a p) b ls st i.1 i.2 (λ q. (i.0, j)) (λ ts. frame (in_with r bs s) (sequence a ts)) (λ ts. stack o (sequence a ts)) (then_ahead (ahead_stack o) (ahead_sequence a)) (λ ts. refl) p (λ q ts. refl)
      (after_binds n bs) (listed a o) (frame_opens n (in_with r bs s) ++ p_sequence (after_binds n bs) a) (listed_sits e z a o) (λ q. simp append_assoc refl) (simp append_assoc refl))
  ends_taken a j p (inside (in_while r c s) b ls st) i f =
      (let o = inside (in_while r c s) b ls st in
      let n = depth st in
      end_taken (codes "while") (while r c s a p) b ls st i.1 i.2 (λ q. (i.0, j)) (λ ts. frame (in_while r c s) (sequence a ts)) (λ ts. stack o (sequence a ts)) (then_ahead (ahead_stack o) (ahead_sequence a)) (λ ts. refl) p (λ q ts. refl)
      (n + 1) (listed a o) (frame_opens n (in_while r c s) ++ p_sequence (n + 1) a) (listed_sits e z a o) (λ q. refl) (simp append_assoc refl))

  -- ---- after a statement
  another_steps : (n : ℕ) (b : Before) (ls : Labels) (a : Statement) (o : Option Place) (st : Stack) → GoodState (ended b ls a o st) → (p : Place) (k : TokenView) → StepsAt p k (passed (ended b ls a o st)) (z ++ state_opens (ended b ls a o st)) (another_by (limited_parts e) n b ls a o st p k)
  another_steps n b ls a (Some s) st i p k = ends_same (λ ts. refl) (simp (append_assoc, append-nil) refl) (statement_steps n (after b ls a s) no_labels st (i.0, i.1) i.2 p k)
  another_steps n b ls a None st i p (tk.mark tk.semicolon) = ends_past (depth st) (ended_sits e z b ls a None st) refl (ends_gives (on (ended b ls a (Some p) st)) i (λ ts. refl) (simp (append_assoc, append-nil) refl))
  another_steps n b ls a None st i p k = ends_stays (ends_refuses (ahead_passed (ended b ls a None st)) (here_filled (on (ended b ls a None st)) i (λ ts. refl) refl))

  ended_steps : (n : ℕ) (b : Before) (ls : Labels) (a : Statement) (o : Option Place) (st : Stack) → GoodState (ended b ls a o st) → (p : Place) (k : TokenView) → StepsAt p k (passed (ended b ls a o st)) (z ++ state_opens (ended b ls a o st)) (ended_by (limited_parts e) n b ls a o st p k)
  ended_steps n b ls a o st i p (tk.reserved w) =
      (let ss = last_statement ls a o in
      let every = with_before b ss in
      let j = with_before_good b ss i.0 i.1 in
      let m : listed every st ≡ z ++ state_opens (ended b ls a o st) = rw (with_before_opens (depth st) b ss) (simp append_assoc refl) in
      let f : Listed st every = here_filled (on (ended b ls a o st)) i (λ ts. ap (stack st) (sym (with_before_tokens b ss ts))) (sym m) in
      ends_same (λ ts. ap (stack st) (with_before_tokens b ss ts)) m
      (ends_pick w (closing_words (limited_parts e) every p st) (another_by (limited_parts e) n b ls a o st p (tk.reserved w))
      (else_taken every j p st i.2 f, (elsif_taken every j p st i.2 f, (or_taken every j p st i.2 f, (ends_taken every j p st i.2 f, tt))))
      (ends_same (λ ts. ap (stack st) (sym (with_before_tokens b ss ts))) (sym m) (another_steps n b ls a o st i p (tk.reserved w)))))
  ended_steps n b ls a o st i p k = another_steps n b ls a o st i p k

  step_ends : (n : ℕ) (s : State) → GoodState s → Ends (passed s) GoodTurn turn (z ++ state_opens s) all (step (limited_parts e) n s)
  step_ends n (begin b ls st) i = ends_moved (simp append_assoc refl) (ends_next (begun b ls st i.0 i.1) (statement_steps n b ls st i.0 i.1))
  step_ends n (ended b ls a o st) i = ends_next (here_filled (on (ended b ls a o st)) i (λ ts. refl) refl) (ended_steps n b ls a o st i)

  run_ends : (n : ℕ) (s : State) → GoodState s → Ends (passed s) GoodSequence sequence (z ++ state_opens s) whole (run (limited_parts e) n s)
  run_ends zero s i = ends_refuses (ahead_passed s) (state_completed s i)
  run_ends (suc n) s i = ends_after (λ ts. ts) held (step_sound (limited_parts e) (limited_sound e) n s i) (λ a u. ahead_turn a) (fits_of (step_beside e z n s)) (step_ends n s i) (turned_ends (run_ends n))
    where
      turned_ends : ((s : State) → GoodState s → Ends (passed s) GoodSequence sequence (z ++ state_opens s) whole (run (limited_parts e) n s)) → (t : Turn) → GoodTurn t → Ahead (turn t) → Ends (turn t) GoodSequence sequence (all t) whole (turned (run (limited_parts e) n) t)
      turned_ends r (on s) i ht = r s i
      turned_ends r (done ss) i ht = ends_gives ss i (λ ts. refl) refl

  pub sequence_part : (n : ℕ) → Part GoodSequence sequence z whole (read_sequence (limited_parts e) n)
  sequence_part n = record {
    sound = sequence_sound (limited_parts e) (limited_sound e) n;
    ahead = λ a u. ahead_sequence a;
    fits = fits_of (beside_sequence e z n);
    ends = ends_moved (append-nil z) (run_ends n (begin none no_labels bottom) (tt, tt));
  }
