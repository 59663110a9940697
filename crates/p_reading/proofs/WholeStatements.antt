-- What is spelled is read: each statement is passed where what comes after it is.
use Rattle.std.proofs.Common.{◌≡◌, ℕ, zero, suc, ◌+◌, ◌<◌, ◌≤◌, true, List, length, Option, Some, None, Ok, refl, sym, ap, subst, ◌∙◌, arith, codes}
use Rattle.tla_token.specs.declared.place.Place.{Place}
use Rattle.tla_tree.specs.Tree.{Word, Name}
use Rattle.tla_tree.specs.Lexical.{TokenView, Token}
use Rattle.tla_tree.specs.Lexical as tk
use Rattle.tla_tree.specs.Spelling.{spell}
use Rattle.tla_tree.specs.Reader.{Out, then_read}
use Rattle.pcal_tree.specs.GrammarParts.{name, key, mark, semicolon, maybe_semicolon, Colon, colon, colon_plus, colon_minus, colon_tokens, Labels, no_labels, label, labels, binds, Assignments, assignments, GoodAssignments, Arguments, no_arguments, some_arguments, arguments, Simple, simple_tokens, GoodSimple}
use Rattle.pcal_tree.specs.GrammarParts as g
use Rattle.pcal_tree.specs.GrammarP.{Statement, simple, branch, either, with, while, Else, no_else, else_then, else_if, Branches, last_branch, more_branches, Sequence, last_statement, more_statements}
use Rattle.pcal_tree.specs.GrammarP.{statement, else_tokens, branches, sequence, GoodStatement, GoodElse, GoodBranches, GoodSequence}
use Rattle.syntax_reading.specs.TokenReaders.{first, Parts}
use Rattle.syntax_reading.proofs.Whole.{Fits, smaller, then_is, is_word_next, is_after, word_after, after_calm, WholeParts}
use Rattle.syntax_reading.proofs.WholeParts.{starts_statement, colon_whole, binds_whole}
use Rattle.syntax_reading.proofs.WholeSimple.{root, first_left, after_first, assignment_tokens, assignment_next, is_left_next, arguments_whole, assign_whole}
use Rattle.syntax_reading.proofs.Lengths.{Grows, GrowsMore, grow_phrase, grow_semicolon, grow_colon, grow_labels, grow_binds, grow_simple}
use Rattle.syntax_reading.specs.ReadAround.{with_label}
use Rattle.p_reading.specs.ReadStatements.{Before, none, after, Tests, if_test, elsif_test, Arms, first_arm, later_arm, in_then, in_else, in_either, in_with, in_while, Stack, bottom, inside, State, begin, ended, Turn, on, with_before, closed_if, closed_either, depth, after_tests, after_name, step, turned, run, read_sequence}

-- ---- tokens before others
mutual
  pub grow_statement : (a : Statement) → GrowsMore (statement a)
  grow_statement (simple s) ts = grow_simple s ts
  grow_statement (branch p e q a c x y) ts =
      (let us = key x (codes "end") (key y (codes "if") ts) in omega (arith, grow_phrase e (key q (codes "then") (sequence a (else_tokens c us))), grow_sequence a (else_tokens c us), grow_else c us))
  grow_statement (either p a bs x y) ts = (let us = key x (codes "end") (key y (codes "either") ts) in omega (arith, grow_sequence a (branches bs us), grow_branches bs us))
  grow_statement (with p bs q a x y) ts = (let us = key x (codes "end") (key y (codes "with") ts) in omega (arith, grow_binds bs (key q (codes "do") (sequence a us)), grow_sequence a us))
  grow_statement (while p e q a x y) ts = (let us = key x (codes "end") (key y (codes "while") ts) in omega (arith, grow_phrase e (key q (codes "do") (sequence a us)), grow_sequence a us))

  pub grow_else : (c : Else) → Grows (else_tokens c)
  grow_else no_else ts = omega arith
  grow_else (else_then p a) ts = omega (arith, grow_sequence a ts)
  grow_else (else_if p e q a c) ts = omega (arith, grow_phrase e (key q (codes "then") (sequence a (else_tokens c ts))), grow_sequence a (else_tokens c ts), grow_else c ts)

  pub grow_branches : (bs : Branches) → GrowsMore (branches bs)
  grow_branches (last_branch p a) ts = omega (arith, grow_sequence a ts)
  grow_branches (more_branches p a bs) ts = omega (arith, grow_sequence a (branches bs ts), grow_branches bs ts)

  pub grow_sequence : (ss : Sequence) → GrowsMore (sequence ss)
  grow_sequence (last_statement ls a o) ts = omega (arith, grow_labels ls (statement a (maybe_semicolon o ts)), grow_statement a (maybe_semicolon o ts), grow_semicolon o ts)
  grow_sequence (more_statements ls a p ss) ts = omega (arith, grow_labels ls (statement a (semicolon p (sequence ss ts))), grow_statement a (semicolon p (sequence ss ts)), grow_sequence ss ts)

-- ---- labels
append : Labels → Labels → Labels
append no_labels ls = ls
append (label x c ms) ls = label x c (append ms ls)

append_label : (ms : Labels) (x : Name) (c : Colon) (ls : Labels) → append (with_label ms x c) ls ≡ append ms (label x c ls)
unfolding append
append_label no_labels x c ls = refl
append_label (label y d ms) x c ls = ap (λ (l : Labels). label y d l) (append_label ms x c ls)

append_none : (ms : Labels) → append ms no_labels ≡ ms
unfolding append
append_none no_labels = refl
append_none (label x c ms) = ap (λ (l : Labels). label x c l) (append_none ms)

-- ---- how statements begin
start_named : (ts us : List Token) (x : Name) → ts ≡ name x us → starts_statement (first ts).kind ≡ true
start_named ts us x e = ap (λ (vs : List Token). starts_statement (first vs).kind) e

start : (a : Statement) → GoodStatement a → (ts : List Token) → starts_statement (first (statement a ts)).kind ≡ true
start (simple (g.assign ms)) i ts = start_named (assignments ms ts) (after_first ms ts) (root (first_left ms)) (assignment_tokens ms i ts)
start (simple (g.await p e)) i ts = refl
start (simple (g.when p e)) i ts = refl
start (simple (g.print p e)) i ts = refl
start (simple (g.assert p e)) i ts = refl
start (simple (g.skip p)) i ts = refl
start (simple (g.goto p x)) i ts = refl
start (simple (g.call p x xs)) i ts = refl
start (simple (g.return p)) i ts = refl
start (simple (g.macro x xs)) i ts = refl
start (branch p e q a c x y) i ts = refl
start (either p a bs x y) i ts = refl
start (with p bs q a x y) i ts = refl
start (while p e q a x y) i ts = refl

start_labels : (ls : Labels) (ts : List Token) → starts_statement (first ts).kind ≡ true → starts_statement (first (labels ls ts)).kind ≡ true
start_labels no_labels ts h = h
start_labels (label x c ls) ts h = refl

abbrev listed : Sequence → List Token → Out Sequence
listed ss ts = Ok (ss, ts)

abbrev went : State → List Token → Out Turn
went s ts = Ok (on s, ts)

module _ (m : ℕ) (r : Parts) (h : WholeParts m r) where
  -- from here it ends so
  abbrev pub Gives : State → List Token → Out Sequence → Type 0
  Gives s ts o = (n : ℕ) → length ts < n → length ts ≤ m → run r n s ts ≡ o

  -- a step is taken
  advance : (s : State) (ts : List Token) (t : State) (us : List Token) (o : Out Sequence) → ((n : ℕ) → Fits n m ts → step r n s ts ≡ went t us) → suc (length us) ≤ length ts → Gives t us o → Gives s ts o
  advance s ts t us o e l k zero i j = absurd (omega (arith, i))
  advance s ts t us o e l k (suc n) i j = then_is _ (e n (record { list = omega (arith, i); all = j })) (k n (omega (arith, l, i)) (omega (arith, l, j)))

  -- ---- simple statements
  assign_step : (n : ℕ) (ms : Assignments) → GoodAssignments ms → (b : Before) (ls : Labels) (st : Stack) (ts : List Token) → is_after (first ts).kind ≡ true → Fits n m (assignments ms ts) → (p : Place) (k : TokenView) → is_left_next k ≡ true
      → after_name r n b ls st (root (first_left ms)) p k (after_first ms ts) ≡ went (ended b ls (simple (g.assign ms)) None st) ts
  assign_step n ms i b ls st ts d f p (tk.mark tk.colon) e = absurd cc
  assign_step n ms i b ls st ts d f p k e = then_is _ (assign_whole m r h n ms i ts d f p k e) refl

  macro_step : (n : ℕ) (x : Name) (xs : Arguments) → g.GoodArguments xs → (b : Before) (ls : Labels) (st : Stack) (ts : List Token) → length (arguments xs ts) ≤ m
      → step r n (begin b ls st) (name x (arguments xs ts)) ≡ went (ended b ls (simple (g.macro x xs)) None st) ts
  macro_step n x (no_arguments p q) i b ls st ts l = refl
  macro_step n x (some_arguments p xs q) i b ls st ts l = then_is _ (then_is _ (arguments_whole m r h (some_arguments p xs q) i ts l) refl) refl

  simple_step : (n : ℕ) (s : Simple) → GoodSimple s → (b : Before) (ls : Labels) (st : Stack) (ts : List Token) → is_after (first ts).kind ≡ true → Fits n m (simple_tokens s ts) → step r n (begin b ls st) (simple_tokens s ts) ≡ went (ended b ls (simple s) None st) ts
  simple_step n (g.assign ms) i b ls st ts d f =
      (let us = after_first ms ts in
      ap (λ (vs : List Token). step r n (begin b ls st) vs) (assignment_tokens ms i ts) ∙ assign_step n ms i b ls st ts d f (first us).place (first us).kind (assignment_next ms i ts))
  simple_step n (g.await p e) i b ls st ts d f = then_is _ (then_is _ (h.expr e i ts (after_calm (first ts).kind d) (omega (arith, f.all))) refl) refl
  simple_step n (g.when p e) i b ls st ts d f = then_is _ (then_is _ (h.expr e i ts (after_calm (first ts).kind d) (omega (arith, f.all))) refl) refl
  simple_step n (g.print p e) i b ls st ts d f = then_is _ (then_is _ (h.expr e i ts (after_calm (first ts).kind d) (omega (arith, f.all))) refl) refl
  simple_step n (g.assert p e) i b ls st ts d f = then_is _ (then_is _ (h.expr e i ts (after_calm (first ts).kind d) (omega (arith, f.all))) refl) refl
  simple_step n (g.skip p) i b ls st ts d f = refl
  simple_step n (g.goto p x) i b ls st ts d f = refl
  simple_step n (g.call p x xs) i b ls st ts d f = then_is _ (then_is _ (arguments_whole m r h xs i ts (omega (arith, f.all))) refl) refl
  simple_step n (g.return p) i b ls st ts d f = refl
  simple_step n (g.macro x xs) i b ls st ts d f = macro_step n x xs i b ls st ts (omega (arith, f.all))

  -- ---- labels
  label_step : (n : ℕ) (x : Name) (c : Colon) (b : Before) (ls : Labels) (st : Stack) (ts : List Token) → starts_statement (first ts).kind ≡ true → step r n (begin b ls st) (name x (colon_tokens c ts)) ≡ went (begin b (with_label ls x c) st) ts
  label_step n x (colon p) b ls st ts d = then_is _ (colon_whole (colon p) ts d) refl
  label_step n x (colon_plus p q) b ls st ts d = refl
  label_step n x (colon_minus p q) b ls st ts d = refl

  labels_read : (ls : Labels) (b : Before) (ms : Labels) (st : Stack) (ts : List Token) (o : Out Sequence) → starts_statement (first ts).kind ≡ true → Gives (begin b (append ms ls) st) ts o → Gives (begin b ms st) (labels ls ts) o
  labels_read no_labels b ms st ts o d k = (let Q : Labels → Type 0 = λ l. Gives (begin b l st) ts o in subst Q (append_none ms) k)
  labels_read (label x c ls) b ms st ts o d k =
      advance (begin b ms st) (name x (colon_tokens c (labels ls ts))) (begin b (with_label ms x c) st) (labels ls ts) o
      (λ n f. label_step n x c b ms st (labels ls ts) (start_labels ls ts d))
      (omega (arith, grow_colon c (labels ls ts)))
      (labels_read ls b (with_label ms x c) st ts o d (let Q : Labels → Type 0 = λ l. Gives (begin b l st) ts o in subst Q (sym (append_label ms x c ls)) k))

  all_labels : (ls : Labels) (b : Before) (st : Stack) (ts : List Token) (o : Out Sequence) → starts_statement (first ts).kind ≡ true → Gives (begin b ls st) ts o → Gives (begin b no_labels st) (labels ls ts) o
  unfolding append
  all_labels ls b st ts o d k = labels_read ls b no_labels st ts o d k

  -- ---- after a statement
  semicolon_read : (b : Before) (ls : Labels) (a : Statement) (p : Place) (st : Stack) (ts : List Token) (o : Out Sequence) → Gives (ended b ls a (Some p) st) ts o → Gives (ended b ls a None st) (semicolon p ts) o
  semicolon_read b ls a p st ts o k = advance (ended b ls a None st) (semicolon p ts) (ended b ls a (Some p) st) ts o (λ n f. refl) (omega arith) k

  maybe_read : (b : Before) (ls : Labels) (a : Statement) (q : Option Place) (st : Stack) (ts : List Token) (o : Out Sequence) → Gives (ended b ls a q st) ts o → Gives (ended b ls a None st) (maybe_semicolon q ts) o
  maybe_read b ls a None st ts o k = k
  maybe_read b ls a (Some p) st ts o k = semicolon_read b ls a p st ts o k

  maybe_after : (q : Option Place) (ts : List Token) → is_word_next (first ts).kind ≡ true → is_after (first (maybe_semicolon q ts)).kind ≡ true
  maybe_after (Some p) ts h = refl
  maybe_after None ts h = word_after (first ts).kind h

  -- where no list ends, another statement is read
  abbrev Another : Before → Labels → Statement → Place → Stack → List Token → Type 0
  Another b ls a p st us = (n : ℕ) → step r n (ended b ls a (Some p) st) us ≡ step r n (begin (after b ls a p) no_labels st) us

  named_another : (b : Before) (ls : Labels) (a : Statement) (p : Place) (st : Stack) (us vs : List Token) (x : Name) → us ≡ name x vs → Another b ls a p st us
  named_another b ls a p st us vs x e n = ap (λ (ws : List Token). step r n (ended b ls a (Some p) st) ws) e ∙ sym (ap (λ (ws : List Token). step r n (begin (after b ls a p) no_labels st) ws) e)

  statement_another : (b : Before) (ls : Labels) (a : Statement) (p : Place) (st : Stack) (c : Statement) → GoodStatement c → (ts : List Token) → Another b ls a p st (statement c ts)
  statement_another b ls a p st (simple (g.assign ms)) i ts n = named_another b ls a p st (assignments ms ts) (after_first ms ts) (root (first_left ms)) (assignment_tokens ms i ts) n
  statement_another b ls a p st (simple (g.await q e)) i ts n = refl
  statement_another b ls a p st (simple (g.when q e)) i ts n = refl
  statement_another b ls a p st (simple (g.print q e)) i ts n = refl
  statement_another b ls a p st (simple (g.assert q e)) i ts n = refl
  statement_another b ls a p st (simple (g.skip q)) i ts n = refl
  statement_another b ls a p st (simple (g.goto q x)) i ts n = refl
  statement_another b ls a p st (simple (g.call q x xs)) i ts n = refl
  statement_another b ls a p st (simple (g.return q)) i ts n = refl
  statement_another b ls a p st (simple (g.macro x xs)) i ts n = refl
  statement_another b ls a p st (branch q e s c d x y) i ts n = refl
  statement_another b ls a p st (either q c bs x y) i ts n = refl
  statement_another b ls a p st (with q bs s c x y) i ts n = refl
  statement_another b ls a p st (while q e s c x y) i ts n = refl

  labelled_another : (b : Before) (ls : Labels) (a : Statement) (p : Place) (st : Stack) (ms : Labels) (c : Statement) → GoodStatement c → (ts : List Token) → Another b ls a p st (labels ms (statement c ts))
  labelled_another b ls a p st no_labels c i ts n = statement_another b ls a p st c i ts n
  labelled_another b ls a p st (label x d ms) c i ts n = refl

  sequence_another : (b : Before) (ls : Labels) (a : Statement) (p : Place) (st : Stack) (ss : Sequence) → GoodSequence ss → (ts : List Token) → Another b ls a p st (sequence ss ts)
  sequence_another b ls a p st (last_statement ms c q) i ts = labelled_another b ls a p st ms c i (maybe_semicolon q ts)
  sequence_another b ls a p st (more_statements ms c q ss) i ts = labelled_another b ls a p st ms c i.0 (semicolon q (sequence ss ts))

  goes_on : (b : Before) (ls : Labels) (a : Statement) (p : Place) (st : Stack) (us : List Token) (o : Out Sequence) → Another b ls a p st us → Gives (begin (after b ls a p) no_labels st) us o → Gives (ended b ls a (Some p) st) us o
  goes_on b ls a p st us o e k zero i j = absurd (omega (arith, i))
  goes_on b ls a p st us o e k (suc n) i j = ap (λ (q : Out Turn). then_read q (turned (run r n))) (e n) ∙ k (suc n) i j

  -- ---- where a list has been read, whatever its last statement is
  abbrev pub Listed : Stack → Sequence → List Token → Out Sequence → Type 0
  Listed st ss ts o = (b : Before) (ls : Labels) (a : Statement) (q : Option Place) → with_before b (last_statement ls a q) ≡ ss → Gives (ended b ls a q st) ts o

  -- a word goes on from it to a state that knows the list alone
  by_list : (st : Stack) (ss : Sequence) (ts : List Token) (f : Sequence → State) (us : List Token) (o : Out Sequence)
      → ((n : ℕ) → Fits n m ts → (b : Before) (ls : Labels) (a : Statement) (q : Option Place) → step r n (ended b ls a q st) ts ≡ went (f (with_before b (last_statement ls a q))) us)
      → suc (length us) ≤ length ts → Gives (f ss) us o → Listed st ss ts o
  by_list st ss ts f us o e l k b ls a q s = advance (ended b ls a q st) ts (f ss) us o (λ n i. e n i b ls a q ∙ ap (λ (c : Sequence). went (f c) us) s) l k

  abbrev end_word : Place → Place → Word → List Token → List Token
  end_word x y w ts = key x (codes "end") (key y w ts)

  -- ---- statements
  mutual
    statement_read : (a : Statement) → GoodStatement a → (b : Before) (ls : Labels) (st : Stack) (ts : List Token) (o : Out Sequence) → is_after (first ts).kind ≡ true → Gives (ended b ls a None st) ts o → Gives (begin b ls st) (statement a ts) o
    statement_read (simple s) i b ls st ts o d k = advance (begin b ls st) (simple_tokens s ts) (ended b ls (simple s) None st) ts o (λ n f. simple_step n s i b ls st ts d f) (grow_simple s ts) k
    statement_read (branch p e q a c x y) i b ls st ts o d k =
        (let us = else_tokens c (end_word x y (codes "if") ts) in
        let vs = sequence a us in
        let t = if_test p e q in
        advance (begin b ls st) (key p (codes "if") (spell e (key q (codes "then") vs))) (begin none no_labels (inside (in_then t) b ls st)) vs o
        (λ n f. rw (h.room (depth st + 1)) (then_is _ (h.expr e i.0 (key q (codes "then") vs) refl (omega (arith, f.all))) refl))
        (omega (arith, grow_phrase e (key q (codes "then") vs)))
        (sequence_read a i.1 (inside (in_then t) b ls st) none us o (else_next c x y ts) (else_read c i.2 t a b ls st x y ts o k)))
    statement_read (either p a bs x y) i b ls st ts o d k =
        (let us = branches bs (end_word x y (codes "either") ts) in
        let t = first_arm p in
        advance (begin b ls st) (key p (codes "either") (sequence a us)) (begin none no_labels (inside (in_either t) b ls st)) (sequence a us) o
        (λ n f. rw (h.room (depth st + 1)) refl)
        (omega arith)
        (sequence_read a i.0 (inside (in_either t) b ls st) none us o (branches_next bs (end_word x y (codes "either") ts)) (branches_read bs i.1 t a b ls st x y ts o k)))
    statement_read (with p bs q a x y) i b ls st ts o d k =
        (let us = end_word x y (codes "with") ts in
        let vs = sequence a us in
        let t = inside (in_with p bs q) b ls st in
        advance (begin b ls st) (key p (codes "with") (binds bs (key q (codes "do") vs))) (begin none no_labels t) vs o
        (λ n f. then_is _ (binds_whole m r h n (depth st) bs i.0 (key q (codes "do") vs) refl (smaller (omega arith) f)) refl)
        (omega (arith, grow_binds bs (key q (codes "do") vs)))
        (sequence_read a i.1 t none us o refl (by_list t a us (λ c. ended b ls (with p bs q c x y) None st) ts o (λ n f u v w z. refl) (omega arith) k)))
    statement_read (while p e q a x y) i b ls st ts o d k =
        (let us = end_word x y (codes "while") ts in
        let vs = sequence a us in
        let t = inside (in_while p e q) b ls st in
        advance (begin b ls st) (key p (codes "while") (spell e (key q (codes "do") vs))) (begin none no_labels t) vs o
        (λ n f. rw (h.room (depth st + 1)) (then_is _ (h.expr e i.0 (key q (codes "do") vs) refl (omega (arith, f.all))) refl))
        (omega (arith, grow_phrase e (key q (codes "do") vs)))
        (sequence_read a i.1 t none us o refl (by_list t a us (λ c. ended b ls (while p e q c x y) None st) ts o (λ n f u v w z. refl) (omega arith) k)))

    else_read : (c : Else) → GoodElse c → (t : Tests) (a : Sequence) (b : Before) (ls : Labels) (st : Stack) (x y : Place) (ts : List Token) (o : Out Sequence) → Gives (ended b ls (closed_if t a c x y) None st) ts o
        → Listed (inside (in_then t) b ls st) a (else_tokens c (end_word x y (codes "if") ts)) o
    else_read no_else i t a b ls st x y ts o k = by_list (inside (in_then t) b ls st) a (end_word x y (codes "if") ts) (λ c. ended b ls (closed_if t c no_else x y) None st) ts o (λ n f u v w z. refl) (omega arith) k
    else_read (else_then p c) i t a b ls st x y ts o k =
        (let us = end_word x y (codes "if") ts in
        let s = inside (in_else t a p) b ls st in
        by_list (inside (in_then t) b ls st) a (key p (codes "else") (sequence c us)) (λ d. begin none no_labels (inside (in_else t d p) b ls st)) (sequence c us) o
        (λ n f u v w z. refl)
        (omega arith)
        (sequence_read c i s none us o refl (by_list s c us (λ d. ended b ls (closed_if t a (else_then p d) x y) None st) ts o (λ n f u v w z. refl) (omega arith) k)))
    else_read (else_if p e q c d) i t a b ls st x y ts o k =
        (let us = else_tokens d (end_word x y (codes "if") ts) in
        let vs = sequence c us in
        let s = elsif_test t a p e q in
        by_list (inside (in_then t) b ls st) a (key p (codes "elsif") (spell e (key q (codes "then") vs))) (λ u. begin none no_labels (inside (in_then (elsif_test t u p e q)) b ls st)) vs o
        (λ n f u v w z. rw (h.room (after_tests (depth st) t + 1)) (then_is _ (h.expr e i.0 (key q (codes "then") vs) refl (omega (arith, f.all))) refl))
        (omega (arith, grow_phrase e (key q (codes "then") vs)))
        (sequence_read c i.1 (inside (in_then s) b ls st) none us o (else_next d x y ts) (else_read d i.2 s c b ls st x y ts o k)))

    else_next : (c : Else) (x y : Place) (ts : List Token) → is_word_next (first (else_tokens c (end_word x y (codes "if") ts))).kind ≡ true
    else_next no_else x y ts = refl
    else_next (else_then p c) x y ts = refl
    else_next (else_if p e q c d) x y ts = refl

    branches_next : (bs : Branches) (ts : List Token) → is_word_next (first (branches bs ts)).kind ≡ true
    branches_next (last_branch p a) ts = refl
    branches_next (more_branches p a bs) ts = refl

    branches_read : (bs : Branches) → GoodBranches bs → (t : Arms) (a : Sequence) (b : Before) (ls : Labels) (st : Stack) (x y : Place) (ts : List Token) (o : Out Sequence) → Gives (ended b ls (closed_either t a bs x y) None st) ts o
        → Listed (inside (in_either t) b ls st) a (branches bs (end_word x y (codes "either") ts)) o
    branches_read (last_branch p c) i t a b ls st x y ts o k =
        (let us = end_word x y (codes "either") ts in
        let s = inside (in_either (later_arm t a p)) b ls st in
        by_list (inside (in_either t) b ls st) a (key p (codes "or") (sequence c us)) (λ d. begin none no_labels (inside (in_either (later_arm t d p)) b ls st)) (sequence c us) o
        (λ n f u v w z. refl)
        (omega arith)
        (sequence_read c i s none us o refl (by_list s c us (λ d. ended b ls (closed_either t a (last_branch p d) x y) None st) ts o (λ n f u v w z. refl) (omega arith) k)))
    branches_read (more_branches p c bs) i t a b ls st x y ts o k =
        (let us = branches bs (end_word x y (codes "either") ts) in
        let s = later_arm t a p in
        by_list (inside (in_either t) b ls st) a (key p (codes "or") (sequence c us)) (λ d. begin none no_labels (inside (in_either (later_arm t d p)) b ls st)) (sequence c us) o
        (λ n f u v w z. refl)
        (omega arith)
        (sequence_read c i.0 (inside (in_either s) b ls st) none us o (branches_next bs (end_word x y (codes "either") ts)) (branches_read bs i.1 s c b ls st x y ts o k)))

    pub sequence_read : (ss : Sequence) → GoodSequence ss → (st : Stack) (b : Before) (ts : List Token) (o : Out Sequence) → is_word_next (first ts).kind ≡ true → Listed st (with_before b ss) ts o → Gives (begin b no_labels st) (sequence ss ts) o
    sequence_read (last_statement ls a q) i st b ts o d k =
        (let us = maybe_semicolon q ts in
        all_labels ls b st (statement a us) o (start a i us) (statement_read a i b ls st us o (maybe_after q ts d) (maybe_read b ls a q st ts o (k b ls a q refl))))
    sequence_read (more_statements ls a p ss) i st b ts o d k =
        (let us = sequence ss ts in
        all_labels ls b st (statement a (semicolon p us)) o (start a i.0 (semicolon p us))
        (statement_read a i.0 b ls st (semicolon p us) o refl
        (semicolon_read b ls a p st us o (goes_on b ls a p st us o (sequence_another b ls a p st ss i.1 ts) (sequence_read ss i.1 st (after b ls a p) ts o d k)))))

  -- ---- a whole list, up to the `end` after it
  list_ends : (ss : Sequence) (p : Place) (ts : List Token) → Listed bottom ss (key p (codes "end") ts) (Ok (ss, key p (codes "end") ts))
  list_ends ss p ts b ls a q s zero i j = absurd (omega (arith, i))
  list_ends ss p ts b ls a q s (suc n) i j = ap (λ (c : Sequence). listed c (key p (codes "end") ts)) s

  -- there are fewer tokens than steps, since those of the list are not all
  pub sequence_whole : (n : ℕ) (ss : Sequence) → GoodSequence ss → (p : Place) (ts : List Token) → Fits n m (sequence ss (key p (codes "end") ts)) → read_sequence r (suc n) (sequence ss (key p (codes "end") ts)) ≡ Ok (ss, key p (codes "end") ts)
  sequence_whole n ss i p ts f = (let us = key p (codes "end") ts in sequence_read ss i bottom none us (Ok (ss, us)) refl (list_ends ss p ts) (suc n) (omega (arith, f.list)) f.all)
