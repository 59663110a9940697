-- What is spelled is read: each statement is passed where what comes after it is.
use Rattle.std.proofs.Common.{◌≡◌, ℕ, zero, suc, ◌+◌, ◌<◌, ◌≤◌, Bool, true, false, not, List, length, Option, Some, None, Ok, refl, sym, ap, subst, ◌∙◌, arith, codes}
use Rattle.std.specs.Prelude.{IsTrue}
use Rattle.tla_token.specs.declared.place.Place.{Place}
use Rattle.tla_tree.specs.Tree.{Name}
use Rattle.tla_tree.specs.Lexical.{TokenView, Token}
use Rattle.tla_tree.specs.Lexical as tk
use Rattle.tla_tree.specs.Spelling.{spell}
use Rattle.tla_tree.specs.Reader.{Out, Reader, then_read}
use Rattle.pcal_tree.specs.GrammarParts.{name, key, mark, semicolon, maybe_semicolon, Colon, colon, colon_plus, colon_minus, colon_tokens, Labels, no_labels, label, labels, binds, Assignments, assignments, GoodAssignments, Arguments, no_arguments, some_arguments, arguments, Simple, simple_tokens, GoodSimple}
use Rattle.pcal_tree.specs.GrammarParts as g
use Rattle.pcal_tree.specs.GrammarC.{Statement, simple, branch, either, with, while, compound, Labelled, labelled, no_else, else_then, Branches, last_branch, more_branches, Sequence, last_statement, more_statements}
use Rattle.pcal_tree.specs.GrammarC.{statement, labelled_tokens, branches, sequence, branches_end_in_block, branches_take_else, takes_or, labelled_takes_or, Divided, GoodStatement, GoodLabelled, GoodBranches, GoodSequence}
use Rattle.syntax_reading.specs.TokenReaders.{first, Parts}
use Rattle.syntax_reading.proofs.Whole.{Fits, smaller, then_is, WholeParts}
use Rattle.syntax_reading.proofs.WholeSimple.{root, first_left, after_first, assignment_tokens, assignment_next, is_left_next, arguments_whole}
use Rattle.syntax_reading.proofs.Lengths.{grow_phrase, grow_colon, grow_binds, grow_simple}
use Rattle.syntax_reading.specs.ReadAround.{with_label}
use Rattle.c_reading.specs.ReadStatements.{depth, Before, none, after, Arms, first_arm, later_arm, Test, if_test, with_opening, while_opening, Stack, bottom, in_block, in_then, in_else, in_body, in_either, State, begin, ended, Turn, on, with_before, joined, before_or, either_if, after_name, statement_by, ask_other, closed}
use Rattle.c_reading.specs.ReadStatements.{list_by, ended_by, step, turned, run, read_sequence}
use Rattle.c_reading.proofs.Behind.{ask_of, ask_at, Quiet, QuietStatement, QuietLabelled, quiet_else, quiet_or, quiet_other, else_asks, else_divides, branches_ask, branches_divide, brace_asks, brace_divides, Starts, start_statement, start_labels, start_sequence, start_asks, start_divides, divided}
use Rattle.c_reading.proofs.Elsewhere.{word_taken, then_ends, either_ends, same_run}
use Rattle.syntax_reading.proofs.WholeEnds.{is_divider_next, next_calm, is_statement_start, colon_ends, binds_end}
use Rattle.syntax_reading.proofs.WholeAssign.{assign_ends}

-- ---- labels
append : Labels → Labels → Labels
append no_labels ls = ls
append (label x c ms) ls = label x c (append ms ls)

append_label : (ms : Labels) (x : Name) (c : Colon) (ls : Labels) → append (with_label ms x c) ls ≡ append ms (label x c ls)
unfolding append
append_label no_labels x c ls = refl
append_label (label y d ms) x c ls = ap (λ (l : Labels). label y d l) (append_label ms x c ls)

append_none : (ms : Labels) → append ms no_labels ≡ ms
unfolding append
append_none no_labels = refl
append_none (label x c ms) = ap (λ (l : Labels). label x c l) (append_none ms)

-- ---- lists, at the bottom and in a block
data Base : Type 0 where
  at_bottom : Base
  in_braces : Labels → Place → Stack → Base

abbrev base : Base → Before → Stack
base at_bottom b = bottom b
base (in_braces ls p st) b = in_block ls p b st

abbrev went : State → List Token → Out Turn
went s ts = Ok (on s, ts)

abbrev opened_either : Labels → Stack → Place → State
opened_either ls st p = begin no_labels (in_either (first_arm ls p) st)

abbrev listed : Sequence → List Token → Out Sequence
listed ss ts = Ok (ss, ts)

-- ---- in a list
base_closed : (o : Base) (b : Before) (a : Labelled) → closed ask_other a (base o b) ≡ Some (a, base o b)
base_closed at_bottom b a = refl
base_closed (in_braces ls p st) b a = refl

base_calm : (o : Base) (b : Before) → before_or (base o b) ≡ false
base_calm at_bottom b = refl
base_calm (in_braces ls p st) b = refl

module _ (m : ℕ) (r : Parts) (h : WholeParts m r) where
  -- from here it ends so
  abbrev pub Gives : State → List Token → Out Sequence → Type 0
  Gives s ts o = (n : ℕ) → length ts < n → length ts ≤ m → run r n s ts ≡ o

  -- a step is taken
  advance : (s : State) (ts : List Token) (t : State) (us : List Token) (o : Out Sequence) → ((n : ℕ) → Fits n m ts → step r n s ts ≡ went t us) → suc (length us) ≤ length ts → Gives t us o → Gives s ts o
  advance s ts t us o e l k zero i j = absurd (omega (arith, i))
  advance s ts t us o e l k (suc n) i j = then_is _ (e n (record { list = omega (arith, i); all = j })) (k n (omega (arith, l, i)) (omega (arith, l, j)))

  -- ---- a statement goes on as another one elsewhere
  goes_on : (a : Labelled) (x : Stack) (b : Labelled) (y : Stack) (ts : List Token) (o : Out Sequence) → closed (ask_at ts) a x ≡ closed (ask_at ts) b y → Gives (ended b None y) ts o → Gives (ended a None x) ts o
  goes_on a x b y ts o e k n i j = same_run r n a x b y ts e ∙ k n i j

  -- ---- simple statements
  assign_step : (n : ℕ) (ms : Assignments) → GoodAssignments ms → (ls : Labels) (st : Stack) (ts : List Token) → is_divider_next (first ts).kind ≡ true → Fits n m (assignments ms ts) → (p : Place) (k : TokenView) → is_left_next k ≡ true
      → after_name r n ls st (root (first_left ms)) p k (after_first ms ts) ≡ went (ended (labelled ls (simple (g.assign ms))) None st) ts
  assign_step n ms i ls st ts d f p (tk.mark tk.colon) e = absurd cc
  assign_step n ms i ls st ts d f p k e = then_is _ (assign_ends m r h n ms i ts d f p k e) refl

  macro_step : (n : ℕ) (x : Name) (xs : Arguments) → g.GoodArguments xs → (ls : Labels) (st : Stack) (ts : List Token) → length (arguments xs ts) ≤ m
      → step r n (begin ls st) (name x (arguments xs ts)) ≡ went (ended (labelled ls (simple (g.macro x xs))) None st) ts
  macro_step n x (no_arguments p q) i ls st ts l = refl
  macro_step n x (some_arguments p xs q) i ls st ts l = then_is _ (then_is _ (arguments_whole m r h (some_arguments p xs q) i ts l) refl) refl

  simple_step : (n : ℕ) (s : Simple) → GoodSimple s → (ls : Labels) (st : Stack) (ts : List Token) → is_divider_next (first ts).kind ≡ true → Fits n m (simple_tokens s ts)
      → step r n (begin ls st) (simple_tokens s ts) ≡ went (ended (labelled ls (simple s)) None st) ts
  simple_step n (g.assign ms) i ls st ts d f =
      (let us = after_first ms ts in
      ap (λ (vs : List Token). step r n (begin ls st) vs) (assignment_tokens ms i ts) ∙ assign_step n ms i ls st ts d f (first us).place (first us).kind (assignment_next ms i ts))
  simple_step n (g.await p e) i ls st ts d f = then_is _ (then_is _ (h.expr e i ts (next_calm (first ts).kind d) (omega (arith, f.all))) refl) refl
  simple_step n (g.when p e) i ls st ts d f = then_is _ (then_is _ (h.expr e i ts (next_calm (first ts).kind d) (omega (arith, f.all))) refl) refl
  simple_step n (g.print p e) i ls st ts d f = then_is _ (then_is _ (h.expr e i ts (next_calm (first ts).kind d) (omega (arith, f.all))) refl) refl
  simple_step n (g.assert p e) i ls st ts d f = then_is _ (then_is _ (h.expr e i ts (next_calm (first ts).kind d) (omega (arith, f.all))) refl) refl
  simple_step n (g.skip p) i ls st ts d f = refl
  simple_step n (g.goto p x) i ls st ts d f = refl
  simple_step n (g.call p x xs) i ls st ts d f = then_is _ (then_is _ (arguments_whole m r h xs i ts (omega (arith, f.all))) refl) refl
  simple_step n (g.return p) i ls st ts d f = refl
  simple_step n (g.macro x xs) i ls st ts d f = macro_step n x xs i ls st ts (omega (arith, f.all))

  -- ---- labels
  label_step : (n : ℕ) (x : Name) (c : Colon) (ls : Labels) (st : Stack) (ts : List Token) → is_statement_start (first ts).kind ≡ true → step r n (begin ls st) (name x (colon_tokens c ts)) ≡ went (begin (with_label ls x c) st) ts
  label_step n x (colon p) ls st ts d = then_is _ (colon_ends (colon p) ts d) refl
  label_step n x (colon_plus p q) ls st ts d = refl
  label_step n x (colon_minus p q) ls st ts d = refl

  labels_read : (ls ms : Labels) (st : Stack) (ts : List Token) (o : Out Sequence) → Starts ts → Gives (begin (append ms ls) st) ts o → Gives (begin ms st) (labels ls ts) o
  labels_read no_labels ms st ts o d k = (let Q : Labels → Type 0 = λ l. Gives (begin l st) ts o in subst Q (append_none ms) k)
  labels_read (label x c ls) ms st ts o d k =
      advance (begin ms st) (name x (colon_tokens c (labels ls ts))) (begin (with_label ms x c) st) (labels ls ts) o
      (λ n f. label_step n x c ms st (labels ls ts) (start_labels ls ts d).start)
      (omega (arith, grow_colon c (labels ls ts)))
      (labels_read ls (with_label ms x c) st ts o d (let Q : Labels → Type 0 = λ l. Gives (begin l st) ts o in subst Q (sym (append_label ms x c ls)) k))

  all_labels : (ls : Labels) (st : Stack) (ts : List Token) (o : Out Sequence) → Starts ts → Gives (begin ls st) ts o → Gives (begin no_labels st) (labels ls ts) o
  unfolding append
  all_labels ls st ts o d k = labels_read ls no_labels st ts o d k

  -- ---- after a statement
  maybe_read : (a : Labelled) (s : Option Place) (st : Stack) (ts : List Token) (o : Out Sequence) → Gives (ended a s st) ts o → Gives (ended a None st) (maybe_semicolon s ts) o
  maybe_read a None st ts o k = k
  maybe_read a (Some p) st ts o k = advance (ended a None st) (semicolon p ts) (ended a (Some p) st) ts o (λ n f. refl) (omega arith) k

  else_read : (ls : Labels) (t : Test) (a : Labelled) (s : Option Place) (p : Place) (st : Stack) (ts : List Token) (o : Out Sequence) → Gives (begin no_labels (in_else ls t a s p st)) ts o → Gives (ended a None (in_then ls t st)) (maybe_semicolon s (key p (codes "else") ts)) o
  else_read ls t a s p st ts o k = maybe_read a s (in_then ls t st) (key p (codes "else") ts) o (advance (ended a s (in_then ls t st)) (key p (codes "else") ts) (begin no_labels (in_else ls t a s p st)) ts o (λ n f. by n s) (omega arith) k)
    where
      by : (n : ℕ) (s : Option Place) → step r n (ended a s (in_then ls t st)) (key p (codes "else") ts) ≡ went (begin no_labels (in_else ls t a s p st)) ts
      by n None = refl
      by n (Some q) = refl

  or_read : (t : Arms) (a : Labelled) (s : Option Place) (p : Place) (st : Stack) (ts : List Token) (o : Out Sequence) → Gives (begin no_labels (in_either (later_arm t a s p) st)) ts o → Gives (ended a None (in_either t st)) (maybe_semicolon s (key p (codes "or") ts)) o
  or_read t a s p st ts o k = maybe_read a s (in_either t st) (key p (codes "or") ts) o (advance (ended a s (in_either t st)) (key p (codes "or") ts) (begin no_labels (in_either (later_arm t a s p) st)) ts o (λ n f. by n s) (omega arith) k)
    where
      by : (n : ℕ) (s : Option Place) → step r n (ended a s (in_either t st)) (key p (codes "or") ts) ≡ went (begin no_labels (in_either (later_arm t a s p) st)) ts
      by n None = refl
      by n (Some q) = refl

  -- ---- lists
  -- the list is closed by the brace
  abbrev Closes : Base → Sequence → Place → List Token → Out Sequence → Type 0
  Closes at_bottom ss p ts o = listed ss (mark p tk.close_brace ts) ≡ o
  Closes (in_braces ls q st) ss p ts o = Gives (ended (labelled ls (compound q ss p)) None st) ts o

  list_ends : (w : Base) (b : Before) (a : Labelled) (s : Option Place) (p : Place) (ts : List Token) (o : Out Sequence) → Closes w (with_before b (last_statement a s)) p ts o → Gives (ended a s (base w b)) (mark p tk.close_brace ts) o
  list_ends at_bottom b a s p ts o k = by s k
    where
      by : (s : Option Place) → listed (with_before b (last_statement a s)) (mark p tk.close_brace ts) ≡ o → Gives (ended a s (bottom b)) (mark p tk.close_brace ts) o
      by s k zero i j = absurd (omega (arith, i))
      by None k (suc n) i j = k
      by (Some q) k (suc n) i j = k
  list_ends (in_braces ls q st) b a s p ts o k =
      advance (ended a s (in_block ls q b st)) (mark p tk.close_brace ts) (ended (labelled ls (compound q (with_before b (last_statement a s)) p)) None st) ts o (λ n f. by n s) (omega arith) k
    where
      by : (n : ℕ) (s : Option Place) → step r n (ended a s (in_block ls q b st)) (mark p tk.close_brace ts) ≡ went (ended (labelled ls (compound q (with_before b (last_statement a s)) p)) None st) ts
      by n None = refl
      by n (Some x) = refl

  listed_on : (n : ℕ) (w : Base) (b : Before) (a : Labelled) (s : Option Place) → Divided s a → (p : Place) (k : TokenView) → is_statement_start k ≡ true → list_by r n s p k (Some (a, base w b)) ≡ statement_by r n no_labels (base w (after b a s)) p k
  listed_on n at_bottom b a s d p (tk.reserved x) i = rw (divided s a d) refl
  listed_on n at_bottom b a s d p (tk.word x) i = rw (divided s a d) refl
  listed_on n at_bottom b a s d p (tk.mark tk.open_brace) i = rw (divided s a d) refl
  listed_on n (in_braces ls q st) b a s d p (tk.reserved x) i = rw (divided s a d) refl
  listed_on n (in_braces ls q st) b a s d p (tk.word x) i = rw (divided s a d) refl
  listed_on n (in_braces ls q st) b a s d p (tk.mark tk.open_brace) i = rw (divided s a d) refl
  listed_on n w b a s d p k i = absurd cc

  -- another statement comes
  another_by : (n : ℕ) (w : Base) (b : Before) (a : Labelled) (s : Option Place) → Divided s a → (p : Place) (k : TokenView) → is_statement_start k ≡ true → ask_of k ≡ ask_other
      → ended_by r n a s (base w b) p k ≡ statement_by r n no_labels (base w (after b a s)) p k
  another_by n w b a None d p (tk.reserved x) i e = word_taken r n a None (base w b) p x ∙ rw (e, base_closed w b a) (listed_on n w b a None d p (tk.reserved x) i)
  another_by n w b a (Some q) d p (tk.reserved x) i e = word_taken r n a (Some q) (base w b) p x ∙ rw (e, base_closed w b a) (listed_on n w b a (Some q) d p (tk.reserved x) i)
  another_by n w b a None d p (tk.word x) i e = rw (base_closed w b a) (listed_on n w b a None d p (tk.word x) i)
  another_by n w b a (Some q) d p (tk.word x) i e = rw (base_closed w b a) (listed_on n w b a (Some q) d p (tk.word x) i)
  another_by n w b a None d p (tk.mark tk.open_brace) i e = rw (base_closed w b a) (listed_on n w b a None d p (tk.mark tk.open_brace) i)
  another_by n w b a (Some q) d p (tk.mark tk.open_brace) i e = rw (base_closed w b a) (listed_on n w b a (Some q) d p (tk.mark tk.open_brace) i)
  another_by n w b a s d p k i e = absurd cc

  another_read : (w : Base) (b : Before) (a : Labelled) (s : Option Place) → Divided s a → (ts : List Token) (o : Out Sequence) → Starts ts → Gives (begin no_labels (base w (after b a s))) ts o → Gives (ended a s (base w b)) ts o
  another_read w b a s d ts o i k zero e j = absurd (omega (arith, e))
  another_read w b a s d ts o i k (suc n) e j = ap (λ (f : Reader Turn). then_read (f ts) (turned (run r n))) (another_by n w b a s d (first ts).place (first ts).kind i.start i.asks) ∙ k (suc n) e j

  -- ---- statements; in a place before an `or`, a statement must not take that one
  abbrev Suits : Stack → Bool → Type 0
  Suits st o = before_or st ≡ true → IsTrue (not o)

  either_begins : (n : ℕ) (ls : Labels) (st : Stack) (p : Place) (ts : List Token) → Suits st true → step r n (begin ls st) (key p (codes "either") ts) ≡ went (opened_either ls st p) ts
  either_begins n ls st p ts c = by (before_or st) c
    where
      by : (b : Bool) → (b ≡ true → IsTrue (not true)) → either_if b r ls p st (key p (codes "either") ts) ≡ went (opened_either ls st p) ts
      by true i = absurd (let e = i refl in cc)
      by false i = rw (h.room (depth st + 1)) refl

  mutual
    statement_read : (a : Statement) → GoodStatement a → (ls : Labels) (st : Stack) → Suits st (takes_or a) → (ts : List Token) (o : Out Sequence) → QuietStatement a ts → Gives (ended (labelled ls a) None st) ts o → Gives (begin ls st) (statement a ts) o
    statement_read (simple s) i ls st c ts o q k = advance (begin ls st) (simple_tokens s ts) (ended (labelled ls (simple s)) None st) ts o (λ n f. simple_step n s i ls st ts (q.plain refl) f) (grow_simple s ts) k
    statement_read (branch u v e w a no_else) i ls st c ts o q k =
        (let us = labelled_tokens a ts in
        let x = in_then ls (if_test u v e w) st in
        advance (begin ls st) (key u (codes "if") (mark v tk.open_bracket (spell e (mark w tk.close_bracket us)))) (begin no_labels x) us o
        (λ n f. rw (h.room (depth st + 1)) (then_is _ (h.expr e i.0 (mark w tk.close_bracket us) refl (omega (arith, f.all))) refl))
        (omega (arith, grow_phrase e (mark w tk.close_bracket us)))
        (labelled_read a i.1 x (λ z. absurd cc) ts o (record { no_else = λ z. q.no_else refl; no_or = q.no_or; plain = q.plain })
        (goes_on a x (labelled ls (branch u v e w a no_else)) st ts o (then_ends (ask_at ts) ls (if_test u v e w) a st (q.no_else refl)) k)))
    statement_read (branch u v e w a (else_then s p b)) i ls st c ts o q k =
        (let more = labelled_tokens b ts in
        let behind = maybe_semicolon s (key p (codes "else") more) in
        let us = labelled_tokens a behind in
        let t = if_test u v e w in
        advance (begin ls st) (key u (codes "if") (mark v tk.open_bracket (spell e (mark w tk.close_bracket us)))) (begin no_labels (in_then ls t st)) us o
        (λ n f. rw (h.room (depth st + 1)) (then_is _ (h.expr e i.0 (mark w tk.close_bracket us) refl (omega (arith, f.all))) refl))
        (omega (arith, grow_phrase e (mark w tk.close_bracket us)))
        (labelled_read a i.1 (in_then ls t st) (λ z. absurd cc) behind o (quiet_else _ _ _ behind i.2.0 (else_asks s p more) (else_divides s p more))
        (else_read ls t a s p st more o
        (labelled_read b i.2.1 (in_else ls t a s p st) c ts o q (goes_on b (in_else ls t a s p st) (labelled ls (branch u v e w a (else_then s p b))) st ts o refl k)))))
    statement_read (with u v bs w a) i ls st c ts o q k =
        (let us = labelled_tokens a ts in
        let x = in_body ls (with_opening u v bs w) st in
        advance (begin ls st) (key u (codes "with") (mark v tk.open_bracket (binds bs (mark w tk.close_bracket us)))) (begin no_labels x) us o
        (λ n f. then_is _ (binds_end m r h n (depth st) bs i.0 (mark w tk.close_bracket us) refl (smaller (omega arith) f)) refl)
        (omega (arith, grow_binds bs (mark w tk.close_bracket us)))
        (labelled_read a i.1 x c ts o q (goes_on a x (labelled ls (with u v bs w a)) st ts o refl k)))
    statement_read (while u v e w a) i ls st c ts o q k =
        (let us = labelled_tokens a ts in
        let x = in_body ls (while_opening u v e w) st in
        advance (begin ls st) (key u (codes "while") (mark v tk.open_bracket (spell e (mark w tk.close_bracket us)))) (begin no_labels x) us o
        (λ n f. rw (h.room (depth st + 1)) (then_is _ (h.expr e i.0 (mark w tk.close_bracket us) refl (omega (arith, f.all))) refl))
        (omega (arith, grow_phrase e (mark w tk.close_bracket us)))
        (labelled_read a i.1 x c ts o q (goes_on a x (labelled ls (while u v e w a)) st ts o refl k)))
    statement_read (either p a bs) i ls st c ts o q k =
        (let us = branches bs ts in
        advance (begin ls st) (key p (codes "either") (labelled_tokens a us)) (opened_either ls st p) (labelled_tokens a us) o
        (λ n f. either_begins n ls st p (labelled_tokens a us) c)
        (omega arith)
        (labelled_read a i.0 (in_either (first_arm ls p) st) (λ z. i.1) us o (quiet_or _ _ _ us i.1 (branches_ask bs ts) (branches_divide bs ts)) (branches_read bs i.2 (first_arm ls p) a st ts o q k)))
    statement_read (compound p ss z) i ls st c ts o q k =
        (let us = sequence ss (mark z tk.close_brace ts) in
        advance (begin ls st) (mark p tk.open_brace us) (begin no_labels (in_block ls p none st)) us o (λ n f. rw (h.room (depth st + 1)) refl) (omega arith) (sequence_read ss i (in_braces ls p st) none z ts o k))

    labelled_read : (a : Labelled) → GoodLabelled a → (st : Stack) → Suits st (labelled_takes_or a) → (ts : List Token) (o : Out Sequence) → QuietLabelled a ts → Gives (ended a None st) ts o → Gives (begin no_labels st) (labelled_tokens a ts) o
    labelled_read (labelled ls a) i st c ts o q k = all_labels ls st (statement a ts) o (start_statement a i ts) (statement_read a i ls st c ts o q k)

    branches_read : (bs : Branches) → GoodBranches bs → (t : Arms) (a : Labelled) (st : Stack) (ts : List Token) (o : Out Sequence) → Quiet (branches_take_else bs) true (branches_end_in_block bs) ts → Gives (ended (joined t a bs) None st) ts o
        → Gives (ended a None (in_either t st)) (branches bs ts) o
    branches_read (last_branch s p b) i t a st ts o q k =
        (let x = in_either (later_arm t a s p) st in
        or_read t a s p st (labelled_tokens b ts) o
        (labelled_read b i x (λ z. absurd cc) ts o (record { no_else = q.no_else; no_or = λ z. q.no_or refl; plain = q.plain }) (goes_on b x (joined t a (last_branch s p b)) st ts o (either_ends (ask_at ts) t a s p b st (q.no_or refl)) k)))
    branches_read (more_branches s p b bs) i t a st ts o q k =
        (let us = branches bs ts in
        or_read t a s p st (labelled_tokens b us) o
        (labelled_read b i.0 (in_either (later_arm t a s p) st) (λ z. absurd cc) us o (quiet_or _ _ _ us i.1 (branches_ask bs ts) (branches_divide bs ts)) (branches_read bs i.2 (later_arm t a s p) b st ts o q k)))

    sequence_read : (ss : Sequence) → GoodSequence ss → (w : Base) (b : Before) (p : Place) (ts : List Token) (o : Out Sequence) → Closes w (with_before b ss) p ts o → Gives (begin no_labels (base w b)) (sequence ss (mark p tk.close_brace ts)) o
    sequence_read (last_statement a s) i w b p ts o k =
        (let us = mark p tk.close_brace ts in
        labelled_read a i (base w b) (λ z. absurd (let e = base_calm w b in cc)) (maybe_semicolon s us) o (quiet_other _ _ _ (maybe_semicolon s us) (brace_asks s p ts) (λ z. brace_divides s p ts))
        (maybe_read a s (base w b) us o (list_ends w b a s p ts o k)))
    sequence_read (more_statements a s ss) i w b p ts o k =
        (let us = sequence ss (mark p tk.close_brace ts) in
        let d = start_sequence ss i.2 (mark p tk.close_brace ts) in
        labelled_read a i.0 (base w b) (λ z. absurd (let e = base_calm w b in cc)) (maybe_semicolon s us) o (quiet_other _ _ _ (maybe_semicolon s us) (start_asks s us d) (start_divides s a us i.1))
        (maybe_read a s (base w b) us o (another_read w b a s i.1 us o d (sequence_read ss i.2 w (after b a s) p ts o k))))

  -- ---- a whole list, up to the `}` after it: there are fewer tokens than steps, since those of the list are not all
  pub sequence_whole : (n : ℕ) (ss : Sequence) → GoodSequence ss → (p : Place) (ts : List Token) → Fits n m (sequence ss (mark p tk.close_brace ts)) → read_sequence r (suc n) (sequence ss (mark p tk.close_brace ts)) ≡ Ok (ss, mark p tk.close_brace ts)
  sequence_whole n ss i p ts f = sequence_read ss i at_bottom none p ts (Ok (ss, mark p tk.close_brace ts)) refl (suc n) (omega (arith, f.list)) f.all
