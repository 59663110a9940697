-- Steps in code where a list may end: what is read, by what stands open innermost.
use Rattle.std.proofs.Common.{◌≡◌, ℕ, nat_eq, ◌+◌, ◌<◌, Bool, true, false, List, [], ◌∷◌, ◌++◌, length, Vec, Global, Err, refl, sym, ap, subst, ◌∙◌, codes}
use Rattle.tla_token.specs.declared.place.Place.{Place}
use Rattle.tla_token.specs.declared.token.Tokens.{Tokens}
use Rattle.tla_token.specs.declared.rule.Rule.TheVariants as rule
use Rattle.tla_tree.specs.Tree.{Tree}
use Rattle.tla_tree.specs.Lexical.{Token}
use Rattle.tla_tree.specs.Pool as pool
use Rattle.tla_tree.specs.Spelling.{Phrase, tree_of}
use Rattle.tla_tree.specs.Reader.{Out, ◌>>=◌, then_read, gives, tail, skip, if_fits}
use Rattle.expr_nodes.specs.declared.cursor.Halt.{Halt}
use Rattle.expr_nodes.specs.declared.cursor.Halt.TheVariants as halt
use Rattle.expr_nodes.specs.ReadIn.{Reads, Fails}
use Rattle.expr_nodes.specs.Ahead.{ahead}
use Rattle.expr_nodes.proofs.AheadLemmas.{ahead_tail}
use Rattle.pcal_tree.specs.declared.algorithm.Bind.{Bind}
use Rattle.pcal_tree.specs.declared.algorithm.Stmt.{Stmt}
use Rattle.pcal_tree.specs.GrammarParts.{Labels, Binds}
use Rattle.pcal_tree.specs.GrammarP as p
use Rattle.syntax_reading.specs.TokenReaders.{a_key, Parts}
use Rattle.syntax_reading.specs.ReadAround.{within}
use Rattle.algorithm_reader.specs.PartsRead.{StandsFor, parts_in}
use Rattle.p_reading.specs.ReadStatements as reader
use Rattle.p_reading.specs.ReadStatements.{Before, Stack, inside, Turn, in_then, in_else, in_either, in_with, in_while, first_arm, later_arm, elsif_test, opens, closed_if, closed_either, ends, takes_else, takes_elsif, takes_or, takes_end, depth}
use Rattle.p_syntax.specs.declared.open.Test.{Test}
use Rattle.p_syntax.specs.declared.open.Frame.{Frame}
use Rattle.p_syntax.specs.declared.open.Frame.TheVariants as frame
use Rattle.p_syntax.specs.declared.open.Point.TheVariants as point
use Rattle.p_syntax.specs.declared.open.State.{State}
use Rattle.p_syntax.specs.declared.open.Turn.TheVariants as turn
use Rattle.pcal_tree.specs.Tests.{is_empty}
use Rattle.p_syntax.specs.StatesRead.{so_far, ThenStands, ElseStands, EitherStands, FrameStands, Stands, TurnStands, list_at, past_list}
use Rattle.p_syntax.specs.StepsRead.{test_reader}
use Rattle.algorithm_reader.proofs.Gathered.{as_pair, fails_then, refused_as}
use Rattle.algorithm_reader.proofs.StatementSteps.{goes_on}
use Rattle.p_syntax.proofs.Steps.{opened_stands}
use Rattle.p_syntax.proofs.Closed.{Innermost, else_stands, elsif_stands, or_stands}

-- what a state is that was opened in another one
pub record IsOpened (around : State) (f : Frame) (d : ℕ) (t : State) : Type 0 where
  pub list : t.list.items ≡ []
  pub stack : t.stack.items ≡ around.stack.items ++ record { frame = f; before = around.list; depth = around.depth } ∷ []
  pub point : t.point ≡ point.Begins
  pub depth : t.depth ≡ d

abbrev pub On : List Tree → State → Turn → Type 0
On ts t u = TurnStands ts (turn.On t) u

module _ (v : Tokens) (ts : List Tree) (s around t : State) (i : ℕ) (c : p.Sequence) (stands : StandsFor list_at past_list p.statements ts s.list c) where
  else_in : (xs : Vec Test Global) (a q : Place) (e : ℕ) (g : reader.Frame) (b : Before) (ls : Labels) (st : Stack) → FrameStands ts (frame.Then xs a e) g → Stands ts around (so_far b ls) st → s.depth ≡ depth (inside g b ls st)
      → IsOpened around (frame.Else xs (record { place = a; test = e; then = s.list })) s.depth t → Reads (On ts t) (ahead v (i + 1)) (takes_else c q (inside g b ls st) (ahead v i))
  else_in xs a q e (in_then x) b ls st h k d o = record {
    what = opens (in_else x c q) b ls st;
    is = ap (gives (opens (in_else x c q) b ls st)) (sym (ahead_tail v i));
    told = opened_stands ts around t b ls st _ (in_else x c q) k (else_stands ts xs.items (record { place = a; test = e; then = s.list }) x c h stands) o.list o.stack o.point (o.depth ∙ d);
  }
  else_in xs a q e _ b ls st h k d o = absurd h

  pub else_read : (xs : Vec Test Global) (a q : Place) (e : ℕ) (st : Stack) → Innermost ts (frame.Then xs a e) around st → s.depth ≡ depth st
      → IsOpened around (frame.Else xs (record { place = a; test = e; then = s.list })) s.depth t → Reads (On ts t) (ahead v (i + 1)) (takes_else c q st (ahead v i))
  else_read xs a q e st n d o = subst (λ (z : Stack). Reads (On ts t) (ahead v (i + 1)) (takes_else c q z (ahead v i))) (sym n.is) (else_in xs a q e n.shape n.before n.labels n.under n.stands n.around (d ∙ ap depth n.is) o)

  or_in : (bs all : Vec (Vec Stmt Global) Global) (a q : Place) (g : reader.Frame) (b : Before) (ls : Labels) (st : Stack) → FrameStands ts (frame.Either a bs) g → Stands ts around (so_far b ls) st → s.depth ≡ depth (inside g b ls st)
      → all.items ≡ bs.items ++ s.list ∷ [] → IsOpened around (frame.Either a all) s.depth t → Reads (On ts t) (ahead v (i + 1)) (takes_or c q (inside g b ls st) (ahead v i))
  or_in bs all a q (in_either x) b ls st h k d w o = record {
    what = opens (in_either (later_arm x c q)) b ls st;
    is = ap (gives (opens (in_either (later_arm x c q)) b ls st)) (sym (ahead_tail v i));
    told = opened_stands ts around t b ls st (frame.Either a all) (in_either (later_arm x c q)) k (rw w (or_stands ts a bs.items s.list x c q h stands)) o.list o.stack o.point (o.depth ∙ d);
  }
  or_in bs all a q _ b ls st h k d w o = absurd h

  pub or_read : (bs all : Vec (Vec Stmt Global) Global) (a q : Place) (st : Stack) → Innermost ts (frame.Either a bs) around st → s.depth ≡ depth st
      → all.items ≡ bs.items ++ s.list ∷ [] → IsOpened around (frame.Either a all) s.depth t → Reads (On ts t) (ahead v (i + 1)) (takes_or c q st (ahead v i))
  or_read bs all a q st n d w o = subst (λ (z : Stack). Reads (On ts t) (ahead v (i + 1)) (takes_or c q z (ahead v i))) (sym n.is) (or_in bs all a q n.shape n.before n.labels n.under n.stands n.around (d ∙ ap depth n.is) w o)

-- ---- refusals
abbrev pub is_then : Frame → Bool
is_then (frame.Then xs a e) = true
is_then f = false

abbrev pub is_either : Frame → Bool
is_either (frame.Either a bs) = true
is_either f = false

no_else : (ts : List Tree) (f : Frame) (g : reader.Frame) (c : p.Sequence) (q : Place) (b : Before) (ls : Labels) (st : Stack) (us : List Token) → FrameStands ts f g → is_then f ≡ false → takes_else c q (inside g b ls st) us ≡ Err (rule.Syntax, us)
no_else ts (frame.Then xs a e) (in_then t) c q b ls st us h n = (let no : true ≡ false = n in absurd cc)
no_else ts _ (in_then t) c q b ls st us h n = absurd h
no_else ts f (in_else t d a) c q b ls st us h n = refl
no_else ts f (in_either t) c q b ls st us h n = refl
no_else ts f (in_with a bs r) c q b ls st us h n = refl
no_else ts f (in_while a e r) c q b ls st us h n = refl

pub else_refused : (ts : List Tree) (f : Frame) (around : State) (st : Stack) (c : p.Sequence) (q : Place) (us : List Token) → Innermost ts f around st → is_then f ≡ false → takes_else c q st us ≡ Err (rule.Syntax, us)
else_refused ts f around st c q us n h = ap (λ (z : Stack). takes_else c q z us) n.is ∙ no_else ts f n.shape c q n.before n.labels n.under us n.stands h

no_or : (ts : List Tree) (f : Frame) (g : reader.Frame) (c : p.Sequence) (q : Place) (b : Before) (ls : Labels) (st : Stack) (us : List Token) → FrameStands ts f g → is_either f ≡ false → takes_or c q (inside g b ls st) us ≡ Err (rule.Syntax, us)
no_or ts (frame.Either a bs) (in_either t) c q b ls st us h n = (let no : true ≡ false = n in absurd cc)
no_or ts _ (in_either t) c q b ls st us h n = absurd h
no_or ts f (in_else t d a) c q b ls st us h n = refl
no_or ts f (in_then t) c q b ls st us h n = refl
no_or ts f (in_with a bs r) c q b ls st us h n = refl
no_or ts f (in_while a e r) c q b ls st us h n = refl

pub or_refused : (ts : List Tree) (f : Frame) (around : State) (st : Stack) (c : p.Sequence) (q : Place) (us : List Token) → Innermost ts f around st → is_either f ≡ false → takes_or c q st us ≡ Err (rule.Syntax, us)
or_refused ts f around st c q us n h = ap (λ (z : Stack). takes_or c q z us) n.is ∙ no_or ts f n.shape c q n.before n.labels n.under us n.stands h

pub not_then : (f : Frame) → ((xs : Vec Test Global) (a : Place) (e : ℕ) → f ≡ frame.Then xs a e → ⊥) → is_then f ≡ false
not_then (frame.Then xs a e) h = absurd (h xs a e refl)
not_then (frame.Else xs x) h = refl
not_then (frame.Either a bs) h = refl
not_then (frame.With a bs) h = refl
not_then (frame.While a e) h = refl

pub not_either : (f : Frame) → ((a : Place) (bs : Vec (Vec Stmt Global) Global) → f ≡ frame.Either a bs → ⊥) → is_either f ≡ false
not_either (frame.Either a bs) h = absurd (h a bs refl)
not_either (frame.Then xs a e) h = refl
not_either (frame.Else xs x) h = refl
not_either (frame.With a bs) h = refl
not_either (frame.While a e) h = refl

-- ---- elsif
test_then : (m : Parts) (d : ℕ) (f : Phrase → Place → Turn) (us : List Token) → within m d (m.expr >>= λ e. a_key (codes "then") >>= λ q. gives (f e q)) us ≡ then_read {A = Phrase × Place} (test_reader m d us) (λ z. gives (f z.0 z.1))
test_then m d f us = fit (m.room (d + 1))
  where
    fit : (b : Bool) → if_fits b (skip (m.expr >>= λ e. a_key (codes "then") >>= λ q. gives (f e q))) us ≡ then_read {A = Phrase × Place} (if_fits b (skip (m.expr >>= λ e. a_key (codes "then") >>= λ q. gives (e, q))) us) (λ z. gives (f z.0 z.1))
    fit true = as_pair (m.expr (tail us)) (λ e. a_key (codes "then")) (λ e q. gives (f e q))
    fit false = refl

module _ (v : Tokens) (ts : List Tree) (s around : State) (i : ℕ) (c : p.Sequence) (q : Place) where
  -- the test is read, or where it is refused so is all
  elsif_then : (t : reader.Tests) (b : Before) (ls : Labels) (st : Stack) → s.depth ≡ depth (inside (in_then t) b ls st)
      → takes_elsif (parts_in v) c q (inside (in_then t) b ls st) (ahead v i) ≡ then_read {A = Phrase × Place} (test_reader (parts_in v) s.depth (ahead v i)) (λ z. gives (opens (in_then (elsif_test t c q z.0 z.1)) b ls st))
  elsif_then t b ls st d =
      test_then (parts_in v) (depth (inside (in_then t) b ls st)) (λ e r. opens (in_then (elsif_test t c q e r)) b ls st) (ahead v i)
      ∙ ap (λ (k : ℕ). then_read {A = Phrase × Place} (test_reader (parts_in v) k (ahead v i)) (λ z. gives (opens (in_then (elsif_test t c q z.0 z.1)) b ls st))) (sym d)

  elsif_fails : (xs : Vec Test Global) (a : Place) (e : ℕ) (g : reader.Frame) (b : Before) (ls : Labels) (st : Stack) → FrameStands ts (frame.Then xs a e) g → s.depth ≡ depth (inside g b ls st) → (k : Halt)
      → Fails k (test_reader (parts_in v) s.depth (ahead v i)) → Fails k (takes_elsif (parts_in v) c q (inside g b ls st) (ahead v i))
  elsif_fails xs a e (in_then t) b ls st h d k f = subst (λ (o : Out Turn). Fails k o) (sym (elsif_then t b ls st d)) (fails_then k _ _ f)
  elsif_fails xs a e _ b ls st h d k f = absurd h

  pub elsif_failed : (xs : Vec Test Global) (a : Place) (e : ℕ) (st : Stack) → Innermost ts (frame.Then xs a e) around st → s.depth ≡ depth st → (k : Halt)
      → Fails k (test_reader (parts_in v) s.depth (ahead v i)) → Fails k (takes_elsif (parts_in v) c q st (ahead v i))
  elsif_failed xs a e st n d k f = subst (λ (z : Stack). Fails k (takes_elsif (parts_in v) c q z (ahead v i))) (sym n.is) (elsif_fails xs a e n.shape n.before n.labels n.under n.stands (d ∙ ap depth n.is) k f)

  elsif_in : (xs all : Vec Test Global) (a : Place) (e x j : ℕ) (t : State) (g : reader.Frame) (b : Before) (ls : Labels) (st : Stack) → FrameStands ts (frame.Then xs a e) g → Stands ts around (so_far b ls) st → s.depth ≡ depth (inside g b ls st)
      → StandsFor list_at past_list p.statements ts s.list c → all.items ≡ xs.items ++ record { place = a; test = e; then = s.list } ∷ [] → Reads (λ (z : Phrase × Place). pool.at ts x ≡ tree_of z.0) (ahead v j) (test_reader (parts_in v) s.depth (ahead v i)) → x < length ts
      → IsOpened around (frame.Then all q x) (s.depth + 1) t → Reads (On ts t) (ahead v j) (takes_elsif (parts_in v) c q (inside g b ls st) (ahead v i))
  elsif_in xs all a e x j t (in_then y) b ls st h k d l w r m o =
      let z = r.what in
      let tests : ElseStands ts all.items y c = rw w (else_stands ts xs.items (record { place = a; test = e; then = s.list }) y c h l) in
      record {
        what = opens (in_then (elsif_test y c q z.0 z.1)) b ls st;
        is = elsif_then y b ls st d ∙ goes_on (test_reader (parts_in v) s.depth (ahead v i)) (λ z. gives (opens (in_then (elsif_test y c q z.0 z.1)) b ls st)) _ _ _ r.is refl;
        told = opened_stands ts around t b ls st (frame.Then all q x) (in_then (elsif_test y c q z.0 z.1)) k (elsif_stands ts all.items q q z.1 x z.0 y c tests refl m r.told) o.list o.stack o.point (o.depth ∙ ap (λ (n : ℕ). n + 1) d);
      }
  elsif_in xs all a e x j t _ b ls st h k d l w r m o = absurd h

  pub elsif_read : (xs all : Vec Test Global) (a : Place) (e x j : ℕ) (t : State) (st : Stack) → Innermost ts (frame.Then xs a e) around st → s.depth ≡ depth st
      → StandsFor list_at past_list p.statements ts s.list c → all.items ≡ xs.items ++ record { place = a; test = e; then = s.list } ∷ [] → Reads (λ (z : Phrase × Place). pool.at ts x ≡ tree_of z.0) (ahead v j) (test_reader (parts_in v) s.depth (ahead v i)) → x < length ts
      → IsOpened around (frame.Then all q x) (s.depth + 1) t → Reads (On ts t) (ahead v j) (takes_elsif (parts_in v) c q st (ahead v i))
  elsif_read xs all a e x j t st n d l w r m o = subst (λ (z : Stack). Reads (On ts t) (ahead v j) (takes_elsif (parts_in v) c q z (ahead v i))) (sym n.is) (elsif_in xs all a e x j t n.shape n.before n.labels n.under n.stands n.around (d ∙ ap depth n.is) l w r m o)

no_elsif : (m : Parts) (ts : List Tree) (f : Frame) (g : reader.Frame) (c : p.Sequence) (q : Place) (b : Before) (ls : Labels) (st : Stack) (us : List Token) → FrameStands ts f g → is_then f ≡ false → takes_elsif m c q (inside g b ls st) us ≡ Err (rule.Syntax, us)
no_elsif m ts (frame.Then xs a e) (in_then t) c q b ls st us h n = (let no : true ≡ false = n in absurd cc)
no_elsif m ts _ (in_then t) c q b ls st us h n = absurd h
no_elsif m ts f (in_else t d a) c q b ls st us h n = refl
no_elsif m ts f (in_either t) c q b ls st us h n = refl
no_elsif m ts f (in_with a bs r) c q b ls st us h n = refl
no_elsif m ts f (in_while a e r) c q b ls st us h n = refl

pub elsif_refused : (m : Parts) (ts : List Tree) (f : Frame) (around : State) (st : Stack) (c : p.Sequence) (q : Place) (us : List Token) → Innermost ts f around st → is_then f ≡ false → takes_elsif m c q st us ≡ Err (rule.Syntax, us)
elsif_refused m ts f around st c q us n h = ap (λ (z : Stack). takes_elsif m c q z us) n.is ∙ no_elsif m ts f n.shape c q n.before n.labels n.under us n.stands h

-- ---- end, by what stands open
module _ (P : Out Turn → Type 0) (ts : List Tree) (c : p.Sequence) (q : Place) (b : Before) (ls : Labels) (st : Stack) (us : List Token) where
  pub at_then : (xs : Vec Test Global) (a : Place) (e : ℕ) (g : reader.Frame) → FrameStands ts (frame.Then xs a e) g → ((t : reader.Tests) → ThenStands ts xs.items a e t → P (ends (codes "if") (closed_if t c p.no_else q) b ls st us)) → P (takes_end c q (inside g b ls st) us)
  at_then xs a e (in_then t) h f = f t h
  at_then xs a e _ h f = absurd h

  pub at_else : (xs : Vec Test Global) (x : Test) (g : reader.Frame) → FrameStands ts (frame.Else xs x) g → ((t : reader.Tests) (d : p.Sequence) (r : Place) → ElseStands ts (xs.items ++ x ∷ []) t d → P (ends (codes "if") (closed_if t d (p.else_then r c) q) b ls st us)) → P (takes_end c q (inside g b ls st) us)
  at_else xs x (in_else t d r) h f = f t d r h
  at_else xs x _ h f = absurd h

  pub at_either : (a : Place) (bs : Vec (Vec Stmt Global) Global) (g : reader.Frame) → FrameStands ts (frame.Either a bs) g → is_empty bs.items ≡ false
      → ((t : reader.Arms) (d : p.Sequence) (r : Place) → EitherStands ts a bs.items (later_arm t d r) → P (ends (codes "either") (closed_either t d (p.last_branch r c) q) b ls st us)) → P (takes_end c q (inside g b ls st) us)
  at_either a bs (in_either (later_arm t d r)) h n f = f t d r h
  at_either a bs (in_either (first_arm r)) h n f = (let no : true ≡ false = sym h.first ∙ n in absurd cc)
  at_either a bs _ h n f = absurd h

  pub at_first : (a : Place) (bs : Vec (Vec Stmt Global) Global) (g : reader.Frame) → FrameStands ts (frame.Either a bs) g → is_empty bs.items ≡ true → P (Err (rule.Syntax, us)) → P (takes_end c q (inside g b ls st) us)
  at_first a bs (in_either (first_arm r)) h n f = f
  at_first a bs (in_either (later_arm t d r)) h n f = (let no : false ≡ true = sym h.first ∙ n in absurd cc)
  at_first a bs _ h n f = absurd h

  pub at_with : (a : Place) (bs : Vec Bind Global) (g : reader.Frame) → FrameStands ts (frame.With a bs) g → ((r : Place) (cs : Binds) (s : Place) → FrameStands ts (frame.With a bs) (in_with r cs s) → P (ends (codes "with") (p.with r cs s c q) b ls st us)) → P (takes_end c q (inside g b ls st) us)
  at_with a bs (in_with r cs s) h f = f r cs s h
  at_with a bs _ h f = absurd h

  pub at_while : (a : Place) (e : ℕ) (g : reader.Frame) → FrameStands ts (frame.While a e) g → ((r : Place) (x : Phrase) (s : Place) → FrameStands ts (frame.While a e) (in_while r x s) → P (ends (codes "while") (p.while r x s c q) b ls st us)) → P (takes_end c q (inside g b ls st) us)
  at_while a e (in_while r x s) h f = f r x s h
  at_while a e _ h f = absurd h

pub some_there : {A : Type 0} (l : List A) (n : ℕ) (b : Bool) → n ≡ length l → (b ≡ nat_eq n 0) → b ≡ false → is_empty l ≡ false
some_there [] n b h e f = (let no : true ≡ false = sym (e ∙ ap (λ (k : ℕ). nat_eq k 0) h) ∙ f in absurd cc)
some_there (x ∷ xs) n b h e f = refl
