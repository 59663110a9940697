-- A reader looks no further than the token at which it stops: lists of statements.
use Rattle.std.proofs.Common.{◌≡◌, subst, Bool, true, false, ℕ, ◌+◌, ◌*◌, ◌≤◌, Option, Some, None, refl, arith}
use Rattle.tla_token.specs.declared.place.Place.{Place}
use Rattle.tla_tree.specs.Tree.{Name}
use Rattle.tla_tree.specs.Lexical.{TokenView}
use Rattle.tla_tree.specs.Lexical as tk
use Rattle.tla_tree.specs.Reader.{Reader, ◌>>=◌, gives, refuses, skip, if_fits}
use Rattle.tla_tree.proofs.Alike.{IsFair, fair_gives, fair_refuses, fair_too_deep, fair_skip, fair_bind}
use Rattle.pcal_tree.specs.GrammarParts.{Labels, no_labels, Simple}
use Rattle.pcal_tree.specs.GrammarParts as g
use Rattle.pcal_tree.specs.GrammarC.{simple, Labelled, labelled, Sequence, last_statement}
use Rattle.syntax_reading.specs.TokenReaders.{by_next, pick, Parts}
use Rattle.syntax_reading.specs.ReadSimple.{simple_words}
use Rattle.syntax_reading.proofs.Fair.{fair_next, pick_both, Step, fair_steps, FairParts, less_parts, left_parts, right_parts}
use Rattle.syntax_reading.proofs.FairParts.{fair_mark, fair_name, colon_fair, binds_fair}
use Rattle.syntax_reading.proofs.FairSimple.{arguments_fair, named_fair}
use Rattle.syntax_reading.specs.ReadAround.{within}
use Rattle.c_reading.specs.ReadStatements.{after, if_test, with_opening, while_opening, none, Stack, bottom, in_block, in_then, in_either, in_body, State, begin, ended, Turn, on, done, with_before, before_or, opens}
use Rattle.c_reading.specs.ReadStatements.{depth, either_if, ends_simple, after_name, bracketed, statement_words, statement_by, ask_else, ask_or, ask_other, closed, takes_else, takes_or, closing_words, is_divided, another_if, list_by, ended_by, step, turned, run, read_sequence}

-- whatever comes after the step, which takes a token or is the last one
pub record Takes (b c : ℕ) (p q : Reader Turn) : Type 0 where
  pub is : (r s : State → Reader Sequence) → ((t : State) → IsFair c (r t) (s t)) → IsFair b (p >>= turned r) (q >>= turned s)

turned_fair : {c : ℕ} (r s : State → Reader Sequence) → ((t : State) → IsFair c (r t) (s t)) → (t : Turn) → IsFair c (turned r t) (turned s t)
turned_fair r s h (on t) = h t
turned_fair r s h (done ss) = fair_gives

takes_skip : {b c : ℕ} {p q : Reader Turn} → b ≤ c + 4 → IsFair c p q → Takes b c (skip p) (skip q)
takes_skip l h = record { is = λ r s f. fair_skip l (fair_bind h (turned_fair r s f)) }

takes_refuses : {b c : ℕ} → Takes b c refuses refuses
takes_refuses = record { is = λ r s f. fair_refuses }

takes_fits : {b c : ℕ} {p q : Reader Turn} (x y : Bool) → x ≡ y → Takes b c p q → Takes b c (if_fits x p) (if_fits y q)
takes_fits {b} {c} {p} {q} x y e h = subst (λ (z : Bool). Takes b c (if_fits x p) (if_fits z q)) e (by x)
  where
    by : (x : Bool) → Takes b c (if_fits x p) (if_fits x q)
    by true = h
    by false = record { is = λ r s f. fair_too_deep }

takes_done : {b c : ℕ} (ss : Sequence) → Takes b c (gives (done ss)) (gives (done ss))
takes_done ss = record { is = λ r s f. fair_gives }

takes_next : {b c : ℕ} {f g : Place → TokenView → Reader Turn} → ((p : Place) (k : TokenView) → Takes b c (f p k) (g p k)) → Takes b c (by_next f) (by_next g)
takes_next {b} {c} {f} {g} h = record { is = λ r s i. fair_next {f = λ p k. f p k >>= turned r} {g = λ p k. g p k >>= turned s} (λ p k. (h p k).is r s i) }

module _ (d : ℕ) (m q : Parts) (h : FairParts d m q) (b c n o : ℕ) (e : b ≤ d) (l : b ≤ c + 4) (v : c ≤ b) (k : c ≤ 4 * n) (s : c ≤ 4 * o) where
  parts : FairParts c m q
  parts = less_parts (omega (arith, e, v)) h

  -- ---- a statement comes
  after_name_fair : (ls : Labels) (st : Stack) (x : Name) (p : Place) (j : TokenView) → IsFair c (after_name m n ls st x p j) (after_name q o ls st x p j)
  after_name_fair ls st x p (tk.mark tk.colon) = fair_bind colon_fair (λ y. fair_gives)
  after_name_fair ls st x p j = fair_bind (named_fair d h n o c (omega (arith, e, v)) k s x p j) (λ y. fair_gives)

  -- past a word or brace that opens a form
  takes_within : {r t : Reader Turn} (i : ℕ) → IsFair c r t → Takes b c (within m i r) (within q i t)
  takes_within {r} {t} i f = takes_fits (m.room (i + 1)) (q.room (i + 1)) (h.room (i + 1)) (takes_skip l f)

  -- ( .. )
  brackets_fair : {A : Type 0} {r t : Reader A} (f : Place → A → Place → Turn) → IsFair c r t → IsFair c (bracketed r f) (bracketed t f)
  brackets_fair f i = fair_mark {n = c} tk.open_bracket (omega arith) (λ x. fair_bind i (λ y. fair_mark {n = c} tk.close_bracket (omega arith) (λ z. fair_gives)))

  either_takes : (i : Bool) (ls : Labels) (p : Place) (st : Stack) → Takes b c (either_if i m ls p st) (either_if i q ls p st)
  either_takes true ls p st = takes_refuses
  either_takes false ls p st = takes_within (depth st) fair_gives

  statement_takes : (ls : Labels) (st : Stack) (p : Place) (j : TokenView) → Takes b c (statement_by m n ls st p j) (statement_by q o ls st p j)
  statement_takes ls st p (tk.word x) = takes_skip l (fair_next (after_name_fair ls st (record { place = p; word = x })))
  statement_takes ls st p (tk.mark tk.open_brace) = takes_within (depth st) fair_gives
  statement_takes ls st p (tk.reserved w) =
      pick_both (Takes b c) w (statement_words m n ls st p) (statement_words q o ls st p) (ends_simple ls st (pick w (simple_words m p) refuses)) (ends_simple ls st (pick w (simple_words q p) refuses)) (
        refl,
        takes_within (depth st) (brackets_fair (λ x y z. opens (in_then ls (if_test p x y z) st)) (parts).expr),
        (
          refl,
          either_takes (before_or st) ls p st,
          (
            refl,
            takes_skip l (brackets_fair (λ x y z. opens (in_body ls (with_opening p x y z) st)) (binds_fair d h n o c (depth st) (omega (arith, e, v)) k s)),
            (refl, takes_within (depth st) (brackets_fair (λ x y z. opens (in_body ls (while_opening p x y z) st)) (parts).expr), tt),
          ),
        ),
      )
      (pick_both (λ x y. Takes b c (ends_simple ls st x) (ends_simple ls st y)) w (simple_words m p) (simple_words q p) refuses refuses (
        refl,
        takes_skip l (fair_bind (fair_bind (parts).expr (λ x. fair_gives)) (λ x. fair_gives)),
        (
          refl,
          takes_skip l (fair_bind (fair_bind (parts).expr (λ x. fair_gives)) (λ x. fair_gives)),
          (
            refl,
            takes_skip l (fair_bind (fair_bind (parts).expr (λ x. fair_gives)) (λ x. fair_gives)),
            (
              refl,
              takes_skip l (fair_bind (fair_bind (parts).expr (λ x. fair_gives)) (λ x. fair_gives)),
              (
                refl,
                takes_skip l (fair_bind {A = Simple} (fair_gives {a = g.skip p}) (λ x. fair_gives {a = on (ended (labelled ls (simple x)) None st)})),
                (
                  refl,
                  takes_skip l (fair_bind (fair_name {n = c} (omega arith) (λ x. fair_gives)) (λ x. fair_gives)),
                  (
                    refl,
                    takes_skip l (fair_bind (fair_name {n = c} (omega arith) (λ x. fair_bind (arguments_fair parts) (λ y. fair_gives))) (λ x. fair_gives)),
                    (refl, takes_skip l (fair_bind {A = Simple} (fair_gives {a = g.return p}) (λ x. fair_gives {a = on (ended (labelled ls (simple x)) None st)})), tt),
                  ),
                ),
              ),
            ),
          ),
        ),
      )
      takes_refuses)
  statement_takes ls st p j = takes_refuses

  -- ---- after a statement
  else_takes : (y : Option Place) (p : Place) (x : Option (Labelled × Stack)) → Takes b c (takes_else y p x) (takes_else y p x)
  else_takes y p (Some (a, in_then ls t st)) = takes_skip l fair_gives
  else_takes y p x = takes_refuses

  or_takes : (y : Option Place) (p : Place) (x : Option (Labelled × Stack)) → Takes b c (takes_or y p x) (takes_or y p x)
  or_takes y p (Some (a, in_either t st)) = takes_skip l fair_gives
  or_takes y p x = takes_refuses

  another_takes : (i : Bool) (st : Stack) (p : Place) (j : TokenView) → Takes b c (another_if i (statement_by m n no_labels st p j)) (another_if i (statement_by q o no_labels st p j))
  another_takes true st p j = statement_takes no_labels st p j
  another_takes false st p j = takes_refuses

  list_takes : (y : Option Place) (p : Place) (j : TokenView) (x : Option (Labelled × Stack)) → Takes b c (list_by m n y p j x) (list_by q o y p j x)
  list_takes y p (tk.mark tk.close_brace) (Some (a, bottom u)) = takes_done (with_before u (last_statement a y))
  list_takes y p (tk.mark tk.close_brace) (Some (a, in_block ls z u st)) = takes_skip l fair_gives
  list_takes y p j (Some (a, bottom u)) = another_takes (is_divided y a) (bottom (after u a y)) p j
  list_takes y p j (Some (a, in_block ls z u st)) = another_takes (is_divided y a) (in_block ls z (after u a y) st) p j
  list_takes y p j x = takes_refuses

  ended_takes : (a : Labelled) (y : Option Place) (st : Stack) (p : Place) (j : TokenView) → Takes b c (ended_by m n a y st p j) (ended_by q o a y st p j)
  ended_takes a None st p (tk.mark tk.semicolon) = takes_skip l fair_gives
  ended_takes a y st p (tk.reserved w) =
      pick_both (Takes b c) w (closing_words a y st p) (closing_words a y st p) (list_by m n y p (tk.reserved w) (closed ask_other a st)) (list_by q o y p (tk.reserved w) (closed ask_other a st))
      (refl, else_takes y p (closed ask_else a st), (refl, or_takes y p (closed ask_or a st), tt)) (list_takes y p (tk.reserved w) (closed ask_other a st))
  ended_takes a y st p j = list_takes y p j (closed ask_other a st)

  step_takes : (t : State) → Takes b c (step m n t) (step q o t)
  step_takes (begin ls st) = takes_next (statement_takes ls st)
  step_takes (ended a y st) = takes_next (ended_takes a y st)

run_step : (d : ℕ) {m q : Parts} → FairParts d m q → Step d (run m) (run q)
run_step d {m} {q} h b c n o l k v s t f x = (step_takes d m q h b c n o l k v s t x).is (run m n) (run q o) f

pub sequence_fair : (d : ℕ) {m q : Parts} → FairParts d m q → (n o b : ℕ) → b ≤ d → b ≤ 4 * n → b ≤ 4 * o → IsFair b (read_sequence m n) (read_sequence q o)
sequence_fair d {m} {q} h n o b l k s =
    fair_steps d (run m) (run q) (λ t. fair_refuses) (λ t. fair_refuses) (run_step 0 (left_parts h)) (run_step 0 (right_parts h)) (run_step d h) n o b l k s (begin no_labels (bottom none))
