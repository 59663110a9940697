-- Reading opens an `either` only where no `or` must come right after it.
use Rattle.std.proofs.Common.{◌≡◌, ℕ, ◌+◌, Bool, true, false, List, Option, Some, None, Ok, refl}
use Rattle.tla_token.specs.declared.place.Place.{Place}
use Rattle.tla_tree.specs.Tree.{Word, Name}
use Rattle.tla_tree.specs.Lexical.{TokenView, Token}
use Rattle.tla_tree.specs.Lexical as tk
use Rattle.tla_tree.specs.Reader.{Reader, ◌>>=◌, gives, refuses, skip, if_fits, tail}
use Rattle.tla_tree.proofs.SoundTokens.{then_ok}
use Rattle.tla_tree.proofs.SoundTokens as edge
use Rattle.pcal_tree.specs.GrammarParts.{Labels, no_labels, Simple}
use Rattle.pcal_tree.specs.GrammarC.{Labelled, no_else, else_then, last_branch}
use Rattle.syntax_reading.specs.TokenReaders.{first, by_next, a_mark, pick, Parts}
use Rattle.syntax_reading.specs.ReadParts.{read_colon, read_binds}
use Rattle.syntax_reading.specs.ReadSimple.{named_by, simple_words}
use Rattle.syntax_reading.proofs.Sound.{All, pick_is}
use Rattle.syntax_reading.specs.ReadAround.{within}
use Rattle.c_reading.specs.ReadStatements.{depth, after, if_test, with_opening, while_opening, first_arm, later_arm, Stack, bottom, in_block, in_then, in_else, in_body, in_either, State, begin, ended, Turn, on, done, joined, tested, opened, before_or, opens, either_if, ends_simple, after_name, bracketed, statement_words, statement_by}
use Rattle.c_reading.specs.ReadStatements.{Ask, ask_else, ask_or, ask_other, closed, takes_else, takes_or, closing_words, is_divided, another_if, list_by, ended_by, step, AreApart, open_stack}

abbrev Kept : Turn → Type 0
Kept (on s) = AreApart (open_stack s)
Kept (done ss) = Unit {0}

record Keeps (r : Reader Turn) : Type 0 where
  is : (ts : List Token) (t : Turn) (us : List Token) → r ts ≡ Ok (t, us) → Kept t

keeps_gives : (t : Turn) → Kept t → Keeps (gives t)
keeps_gives t i = record { is = λ ts u us e. edge.given (λ v vs. Kept v) e i }

keeps_refuses : Keeps refuses
keeps_refuses = record { is = λ ts u us e. absurd cc }

keeps_bind : {A : Type 0} (r : Reader A) {f : A → Reader Turn} → ((a : A) → Keeps (f a)) → Keeps (r >>= f)
keeps_bind {A} r {f} h = record { is = λ ts u us e. (let v = then_ok {o = r ts} {f = f} e in (h v.0).is v.1 u us v.3) }

keeps_skip : {r : Reader Turn} → Keeps r → Keeps (skip r)
keeps_skip h = record { is = λ ts u us e. h.is (tail ts) u us e }

keeps_fits : {r : Reader Turn} (b : Bool) → Keeps r → Keeps (if_fits b r)
keeps_fits true h = h
keeps_fits false h = record { is = λ ts u us e. absurd cc }

keeps_next : {f : Place → TokenView → Reader Turn} → ((p : Place) (k : TokenView) → Keeps (f p k)) → Keeps (by_next f)
keeps_next h = record { is = λ ts u us e. (h (first ts).place (first ts).kind).is ts u us e }

abbrev AllKeep : List (Word × Reader Turn) → Type 0
AllKeep rs = All (λ w r. Keeps r) rs

keeps_pick : (w : Word) (rs : List (Word × Reader Turn)) (d : Reader Turn) → AllKeep rs → Keeps d → Keeps (pick w rs d)
keeps_pick w rs d h i = pick_is (λ v r. Keeps r) w rs d h i

-- ---- a statement comes
keeps_simple : (ls : Labels) (st : Stack) → AreApart st → (r : Reader Simple) → Keeps (ends_simple ls st r)
keeps_simple ls st i r = keeps_bind r (λ s. keeps_gives _ i)

keeps_brackets : {A : Type 0} (r : Reader A) (f : Place → A → Place → Turn) → ((q : Place) (a : A) (s : Place) → Kept (f q a s)) → Keeps (bracketed r f)
keeps_brackets r f h = keeps_bind (a_mark tk.open_bracket) (λ q. keeps_bind r (λ a. keeps_bind (a_mark tk.close_bracket) (λ s. keeps_gives (f q a s) (h q a s))))

module _ (m : Parts) (n : ℕ) where
  keeps_within : {r : Reader Turn} (d : ℕ) → Keeps r → Keeps (within m d r)
  keeps_within d h = keeps_fits (m.room (d + 1)) (keeps_skip h)

  keeps_either : (ls : Labels) (p : Place) (st : Stack) → AreApart st → (b : Bool) → before_or st ≡ b → Keeps (either_if b m ls p st)
  keeps_either ls p st i true e = keeps_refuses
  keeps_either ls p st i false e = keeps_within (depth st) (keeps_gives (opens (in_either (first_arm ls p) st)) (e, i))

  keeps_named : (ls : Labels) (st : Stack) → AreApart st → (x : Name) (p : Place) (k : TokenView) → Keeps (after_name m n ls st x p k)
  keeps_named ls st i x p (tk.mark tk.colon) = keeps_bind read_colon (λ c. keeps_gives _ i)
  keeps_named ls st i x p k = keeps_bind (named_by m n x p k) (λ s. keeps_gives _ i)

  keeps_words : (ls : Labels) (st : Stack) → AreApart st → (p : Place) → AllKeep (statement_words m n ls st p)
  keeps_words ls st i p = (
    keeps_within (depth st) (keeps_brackets m.expr (λ q e r. opens (in_then ls (if_test p q e r) st)) (λ q a s. i)),
    (
      keeps_either ls p st i (before_or st) refl,
      (keeps_skip (keeps_brackets (read_binds m n (depth st)) (λ q bs r. opens (in_body ls (with_opening p q bs r) st)) (λ q a s. i)), (keeps_within (depth st) (keeps_brackets m.expr (λ q e r. opens (in_body ls (while_opening p q e r) st)) (λ q a s. i)), tt)),
    ),
  )

  keeps_statement : (ls : Labels) (st : Stack) → AreApart st → (p : Place) (k : TokenView) → Keeps (statement_by m n ls st p k)
  keeps_statement ls st i p (tk.word x) = keeps_skip (keeps_next (keeps_named ls st i (record { place = p; word = x })))
  keeps_statement ls st i p (tk.reserved w) = keeps_pick w (statement_words m n ls st p) (ends_simple ls st (pick w (simple_words m p) refuses)) (keeps_words ls st i p) (keeps_simple ls st i (pick w (simple_words m p) refuses))
  keeps_statement ls st i p (tk.mark tk.open_brace) = keeps_within (depth st) (keeps_gives _ i)
  keeps_statement ls st i p k = keeps_refuses

  -- ---- after a statement
  abbrev Found : Option (Labelled × Stack) → Type 0
  Found None = Unit {0}
  Found (Some (a, st)) = AreApart st

  found : (st : Stack) (q : Ask) (a : Labelled) → AreApart st → Found (closed q a st)
  found (bottom b) ask_else a i = tt
  found (bottom b) ask_or a i = tt
  found (bottom b) ask_other a i = tt
  found (in_block ls p b st) ask_else a i = tt
  found (in_block ls p b st) ask_or a i = tt
  found (in_block ls p b st) ask_other a i = i
  found (in_then ls t st) ask_else a i = i
  found (in_then ls t st) ask_or a i = found st ask_or (tested ls t a no_else) i
  found (in_then ls t st) ask_other a i = found st ask_other (tested ls t a no_else) i
  found (in_else ls t c s p st) q a i = found st q (tested ls t c (else_then s p a)) i
  found (in_body ls o st) q a i = found st q (opened ls o a) i
  found (in_either t st) ask_or a i = i
  found (in_either (first_arm ls p) st) ask_else a i = tt
  found (in_either (later_arm t c s p) st) ask_else a i = found st ask_else (joined t c (last_branch s p a)) i.1
  found (in_either (first_arm ls p) st) ask_other a i = tt
  found (in_either (later_arm t c s p) st) ask_other a i = found st ask_other (joined t c (last_branch s p a)) i.1

  keeps_else : (s : Option Place) (p : Place) (o : Option (Labelled × Stack)) → Found o → Keeps (takes_else s p o)
  keeps_else s p (Some (a, in_then ls t st)) i = keeps_skip (keeps_gives _ i)
  keeps_else s p o i = keeps_refuses

  keeps_or : (s : Option Place) (p : Place) (o : Option (Labelled × Stack)) → Found o → Keeps (takes_or s p o)
  keeps_or s p (Some (a, in_either t st)) i = keeps_skip (keeps_gives _ i)
  keeps_or s p o i = keeps_refuses

  keeps_another : (b : Bool) (st : Stack) → AreApart st → (p : Place) (k : TokenView) → Keeps (another_if b (statement_by m n no_labels st p k))
  keeps_another true st i p k = keeps_statement no_labels st i p k
  keeps_another false st i p k = keeps_refuses

  keeps_list : (s : Option Place) (p : Place) (k : TokenView) (o : Option (Labelled × Stack)) → Found o → Keeps (list_by m n s p k o)
  keeps_list s p (tk.mark tk.close_brace) (Some (a, bottom b)) i = keeps_gives _ tt
  keeps_list s p (tk.mark tk.close_brace) (Some (a, in_block ls q b st)) i = keeps_skip (keeps_gives _ i)
  keeps_list s p k (Some (a, bottom b)) i = keeps_another (is_divided s a) (bottom (after b a s)) tt p k
  keeps_list s p k (Some (a, in_block ls q b st)) i = keeps_another (is_divided s a) (in_block ls q (after b a s) st) i p k
  keeps_list s p k o i = keeps_refuses

  keeps_ended : (a : Labelled) (s : Option Place) (st : Stack) → AreApart st → (p : Place) (k : TokenView) → Keeps (ended_by m n a s st p k)
  keeps_ended a None st i p (tk.mark tk.semicolon) = keeps_skip (keeps_gives _ i)
  keeps_ended a s st i p (tk.reserved w) =
      keeps_pick w (closing_words a s st p) (list_by m n s p (tk.reserved w) (closed ask_other a st)) (keeps_else s p (closed ask_else a st) (found st ask_else a i), (keeps_or s p (closed ask_or a st) (found st ask_or a i), tt))
      (keeps_list s p (tk.reserved w) (closed ask_other a st) (found st ask_other a i))
  keeps_ended a s st i p k = keeps_list s p k (closed ask_other a st) (found st ask_other a i)

  keeps_step : (s : State) → AreApart (open_stack s) → Keeps (step m n s)
  keeps_step (begin ls st) i = keeps_next (keeps_statement ls st i)
  keeps_step (ended a s st) i = keeps_next (keeps_ended a s st i)

pub stays_apart : (m : Parts) (n : ℕ) (s : State) (ts : List Token) (t : State) (us : List Token) → AreApart (open_stack s) → step m n s ts ≡ Ok (on t, us) → AreApart (open_stack t)
stays_apart m n s ts t us i e = (keeps_step m n s i).is ts (on t) us e
