-- A reader looks no further than the token at which it stops: lists of statements.
use Rattle.std.proofs.Common.{◌≡◌, ℕ, ◌+◌, ◌*◌, ◌≤◌, Bool, true, false, subst, Option, Some, None, refl, arith, codes}
use Rattle.tla_token.specs.declared.place.Place.{Place}
use Rattle.tla_tree.specs.Tree.{Word, Name}
use Rattle.tla_tree.specs.Lexical.{TokenView}
use Rattle.tla_tree.specs.Lexical as tk
use Rattle.tla_tree.specs.Reader.{Reader, ◌>>=◌, gives, refuses, skip, if_fits}
use Rattle.tla_tree.proofs.Alike.{IsFair, fair_gives, fair_refuses, fair_too_deep, fair_skip, fair_bind}
use Rattle.pcal_tree.specs.GrammarParts.{Labels, no_labels, Simple}
use Rattle.pcal_tree.specs.GrammarParts as g
use Rattle.pcal_tree.specs.GrammarP.{Statement, simple, with, while, no_else, else_then, last_branch, Sequence, last_statement}
use Rattle.syntax_reading.specs.TokenReaders.{by_next, pick, Parts}
use Rattle.syntax_reading.specs.ReadSimple.{simple_words}
use Rattle.syntax_reading.proofs.Fair.{fair_next, pick_both, Step, fair_steps, FairParts, less_parts, left_parts, right_parts}
use Rattle.syntax_reading.proofs.FairParts.{fair_name, colon_fair, binds_fair}
use Rattle.syntax_reading.proofs.FairSimple.{arguments_fair, named_fair}
use Rattle.syntax_reading.proofs.FairAround.{fair_key}
use Rattle.syntax_reading.specs.ReadAround.{within}
use Rattle.p_reading.specs.ReadStatements.{Before, none, after, in_then, in_else, in_either, in_with, in_while, first_arm, later_arm, Stack, bottom, inside, State, begin, ended, Turn, on, done, with_before, closed_if, closed_either}
use Rattle.p_reading.specs.ReadStatements.{depth, after_tests, ends_simple, after_name, statement_words, statement_by, takes_else, takes_elsif, takes_or, ends, takes_end, closing_words, another_by, ended_by, step, turned, run, read_sequence}

-- whatever comes after the step, which takes a token or is the last one
pub record Takes (b c : ℕ) (p q : Reader Turn) : Type 0 where
  pub is : (r s : State → Reader Sequence) → ((t : State) → IsFair c (r t) (s t)) → IsFair b (p >>= turned r) (q >>= turned s)

turned_fair : {c : ℕ} (r s : State → Reader Sequence) → ((t : State) → IsFair c (r t) (s t)) → (t : Turn) → IsFair c (turned r t) (turned s t)
turned_fair r s h (on t) = h t
turned_fair r s h (done ss) = fair_gives

takes_skip : {b c : ℕ} {p q : Reader Turn} → b ≤ c + 4 → IsFair c p q → Takes b c (skip p) (skip q)
takes_skip l h = record { is = λ r s f. fair_skip l (fair_bind h (turned_fair r s f)) }

takes_refuses : {b c : ℕ} → Takes b c refuses refuses
takes_refuses = record { is = λ r s f. fair_refuses }

takes_fits : {b c : ℕ} {p q : Reader Turn} (x y : Bool) → x ≡ y → Takes b c p q → Takes b c (if_fits x p) (if_fits y q)
takes_fits {b} {c} {p} {q} x y e h = subst (λ (z : Bool). Takes b c (if_fits x p) (if_fits z q)) e (by x)
  where
    by : (x : Bool) → Takes b c (if_fits x p) (if_fits x q)
    by true = h
    by false = record { is = λ r s f. fair_too_deep }

takes_done : {b c : ℕ} (ss : Sequence) → Takes b c (gives (done ss)) (gives (done ss))
takes_done ss = record { is = λ r s f. fair_gives }

takes_next : {b c : ℕ} {f g : Place → TokenView → Reader Turn} → ((p : Place) (k : TokenView) → Takes b c (f p k) (g p k)) → Takes b c (by_next f) (by_next g)
takes_next {b} {c} {f} {g} h = record { is = λ r s i. fair_next {f = λ p k. f p k >>= turned r} {g = λ p k. g p k >>= turned s} (λ p k. (h p k).is r s i) }

module _ (d : ℕ) (m q : Parts) (h : FairParts d m q) (b c n o : ℕ) (e : b ≤ d) (l : b ≤ c + 4) (v : c ≤ b) (k : c ≤ 4 * n) (s : c ≤ 4 * o) where
  parts : FairParts c m q
  parts = less_parts (omega (arith, e, v)) h

  -- past a word that opens a form
  takes_opened : {r t : Reader Turn} (i : ℕ) → IsFair c r t → Takes b c (within m i r) (within q i t)
  takes_opened {r} {t} i f = takes_fits (m.room (i + 1)) (q.room (i + 1)) (h.room (i + 1)) (takes_skip l f)

  -- ---- a statement comes
  after_name_fair : (a : Before) (ls : Labels) (st : Stack) (x : Name) (p : Place) (j : TokenView) → IsFair c (after_name m n a ls st x p j) (after_name q o a ls st x p j)
  after_name_fair a ls st x p (tk.mark tk.colon) = fair_bind colon_fair (λ y. fair_gives)
  after_name_fair a ls st x p j = fair_bind (named_fair d h n o c (omega (arith, e, v)) k s x p j) (λ y. fair_gives)

  statement_takes : (a : Before) (ls : Labels) (st : Stack) (p : Place) (j : TokenView) → Takes b c (statement_by m n a ls st p j) (statement_by q o a ls st p j)
  statement_takes a ls st p (tk.word x) = takes_skip l (fair_next (after_name_fair a ls st (record { place = p; word = x })))
  statement_takes a ls st p (tk.reserved w) =
      pick_both (Takes b c) w (statement_words m n a ls st p) (statement_words q o a ls st p) (ends_simple a ls st (pick w (simple_words m p) refuses)) (ends_simple a ls st (pick w (simple_words q p) refuses)) (
        refl,
        takes_opened (depth st) (fair_bind (parts).expr (λ x. fair_key {n = c} (codes "then") (omega arith) (λ z. fair_gives))),
        (
          refl,
          takes_opened (depth st) fair_gives,
          (
            refl,
            takes_skip l (fair_bind (binds_fair d h n o c (depth st) (omega (arith, e, v)) k s) (λ x. fair_key {n = c} (codes "do") (omega arith) (λ z. fair_gives))),
            (refl, takes_opened (depth st) (fair_bind (parts).expr (λ x. fair_key {n = c} (codes "do") (omega arith) (λ z. fair_gives))), tt),
          ),
        ),
      )
      (pick_both (λ x y. Takes b c (ends_simple a ls st x) (ends_simple a ls st y)) w (simple_words m p) (simple_words q p) refuses refuses (
        refl,
        takes_skip l (fair_bind (fair_bind (parts).expr (λ x. fair_gives)) (λ x. fair_gives)),
        (
          refl,
          takes_skip l (fair_bind (fair_bind (parts).expr (λ x. fair_gives)) (λ x. fair_gives)),
          (
            refl,
            takes_skip l (fair_bind (fair_bind (parts).expr (λ x. fair_gives)) (λ x. fair_gives)),
            (
              refl,
              takes_skip l (fair_bind (fair_bind (parts).expr (λ x. fair_gives)) (λ x. fair_gives)),
              (
                refl,
                takes_skip l (fair_bind {A = Simple} (fair_gives {a = g.skip p}) (λ x. fair_gives {a = on (ended a ls (simple x) None st)})),
                (
                  refl,
                  takes_skip l (fair_bind (fair_name {n = c} (omega arith) (λ x. fair_gives)) (λ x. fair_gives)),
                  (
                    refl,
                    takes_skip l (fair_bind (fair_name {n = c} (omega arith) (λ x. fair_bind (arguments_fair parts) (λ y. fair_gives))) (λ x. fair_gives)),
                    (refl, takes_skip l (fair_bind {A = Simple} (fair_gives {a = g.return p}) (λ x. fair_gives {a = on (ended a ls (simple x) None st)})), tt),
                  ),
                ),
              ),
            ),
          ),
        ),
      )
      takes_refuses)
  statement_takes a ls st p j = takes_refuses

  -- ---- a list ends
  else_takes : (a : Sequence) (p : Place) (st : Stack) → Takes b c (takes_else a p st) (takes_else a p st)
  else_takes a p (inside (in_then t) x ls st) = takes_skip l fair_gives
  else_takes a p st = takes_refuses

  elsif_takes : (a : Sequence) (p : Place) (st : Stack) → Takes b c (takes_elsif m a p st) (takes_elsif q a p st)
  elsif_takes a p (inside (in_then t) x ls st) = takes_opened (after_tests (depth st) t) (fair_bind (parts).expr (λ y. fair_key {n = c} (codes "then") (omega arith) (λ z. fair_gives)))
  elsif_takes a p st = takes_refuses

  or_takes : (a : Sequence) (p : Place) (st : Stack) → Takes b c (takes_or a p st) (takes_or a p st)
  or_takes a p (inside (in_either t) x ls st) = takes_skip l fair_gives
  or_takes a p st = takes_refuses

  ends_fair : (w : Word) (f : Place → Statement) (x : Before) (ls : Labels) (st : Stack) → Takes b c (ends w f x ls st) (ends w f x ls st)
  ends_fair w f x ls st = takes_skip l (fair_key {n = c} w (omega arith) (λ z. fair_gives))

  end_takes : (a : Sequence) (p : Place) (st : Stack) → Takes b c (takes_end a p st) (takes_end a p st)
  end_takes a p bottom = takes_done a
  end_takes a p (inside (in_then t) x ls st) = ends_fair (codes "if") (closed_if t a no_else p) x ls st
  end_takes a p (inside (in_else t y r) x ls st) = ends_fair (codes "if") (closed_if t y (else_then r a) p) x ls st
  end_takes a p (inside (in_either (first_arm r)) x ls st) = takes_refuses
  end_takes a p (inside (in_either (later_arm t y r)) x ls st) = ends_fair (codes "either") (closed_either t y (last_branch r a) p) x ls st
  end_takes a p (inside (in_with r y z) x ls st) = ends_fair (codes "with") (with r y z a p) x ls st
  end_takes a p (inside (in_while r y z) x ls st) = ends_fair (codes "while") (while r y z a p) x ls st

  -- ---- after a statement
  another_takes : (x : Before) (ls : Labels) (a : Statement) (y : Option Place) (st : Stack) (p : Place) (j : TokenView) → Takes b c (another_by m n x ls a y st p j) (another_by q o x ls a y st p j)
  another_takes x ls a (Some z) st p j = statement_takes (after x ls a z) no_labels st p j
  another_takes x ls a None st p (tk.mark tk.semicolon) = takes_skip l fair_gives
  another_takes x ls a None st p j = takes_refuses

  ended_takes : (x : Before) (ls : Labels) (a : Statement) (y : Option Place) (st : Stack) (p : Place) (j : TokenView) → Takes b c (ended_by m n x ls a y st p j) (ended_by q o x ls a y st p j)
  ended_takes x ls a y st p (tk.reserved w) =
      (let all = with_before x (last_statement ls a y) in
      pick_both (Takes b c) w (closing_words m all p st) (closing_words q all p st) (another_by m n x ls a y st p (tk.reserved w)) (another_by q o x ls a y st p (tk.reserved w))
      (refl, else_takes all p st, (refl, elsif_takes all p st, (refl, or_takes all p st, (refl, end_takes all p st, tt))))
      (another_takes x ls a y st p (tk.reserved w)))
  ended_takes x ls a y st p j = another_takes x ls a y st p j

  step_takes : (t : State) → Takes b c (step m n t) (step q o t)
  step_takes (begin x ls st) = takes_next (statement_takes x ls st)
  step_takes (ended x ls a y st) = takes_next (ended_takes x ls a y st)

run_step : (d : ℕ) {m q : Parts} → FairParts d m q → Step d (run m) (run q)
run_step d {m} {q} h b c n o l k v s t f x = (step_takes d m q h b c n o l k v s t x).is (run m n) (run q o) f

pub sequence_fair : (d : ℕ) {m q : Parts} → FairParts d m q → (n o b : ℕ) → b ≤ d → b ≤ 4 * n → b ≤ 4 * o → IsFair b (read_sequence m n) (read_sequence q o)
sequence_fair d {m} {q} h n o b l k s =
    fair_steps d (run m) (run q) (λ t. fair_refuses) (λ t. fair_refuses) (run_step 0 (left_parts h)) (run_step 0 (right_parts h)) (run_step d h) n o b l k s (begin none no_labels bottom)
