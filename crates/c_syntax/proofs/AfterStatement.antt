-- What comes after a statement, by the next token, and what takes it.
use Rattle.std.proofs.Common.{◌≡◌, ℕ, ◌+◌, ◌<◌, ◌≤◌, Bool, true, false, ◌||◌, List, length, Vec, Global, Option, Some, None, is_some, if◌then◌else◌, Ok, Err, refl, sym, ap, subst, ◌∙◌, codes}
use Rattle.std.specs.Str.{bytes_eq}
use Rattle.tla_token.specs.declared.place.Place.{Place}
use Rattle.tla_token.specs.declared.token.Tokens.{Tokens}
use Rattle.tla_token.specs.declared.rule.Rule.TheVariants as rule
use Rattle.tla_token.proofs.Spelled.{same_bytes}
use Rattle.tla_tree.specs.Tree.{Word, Tree}
use Rattle.tla_tree.specs.Lexical.{TokenView, Token}
use Rattle.tla_tree.specs.Lexical as tk
use Rattle.tla_tree.specs.Reader.{Out, Reader, refuses, tail, is_mark}
use Rattle.tla_tree.proofs.SoundTokens.{mark_is}
use Rattle.expr_nodes.specs.ReadIn.{Reads}
use Rattle.expr_nodes.specs.Ahead.{ahead}
use Rattle.expr_nodes.proofs.AheadLemmas.{ahead_tail}
use Rattle.pcal_tree.specs.declared.algorithm.Stmt.{Stmt}
use Rattle.pcal_tree.specs.InMemory.{past_statements}
use Rattle.pcal_tree.specs.GrammarParts.{Labels, no_labels}
use Rattle.pcal_tree.specs.GrammarC.{Labelled, labelled_ends_in_block}
use Rattle.syntax_reading.specs.TokenReaders.{first, is_reserved, pick, Parts}
use Rattle.c_reading.specs.ReadStatements as reader
use Rattle.c_reading.specs.ReadStatements.{opens, done, begin, Before, Stack, bottom, in_block, in_then, in_else, in_body, in_either, first_arm, later_arm, on, ended, ask_else, ask_or, ask_other, closed, takes_else, takes_or, closing_words, is_divided, another_if, list_by, ended_by, statement_by}
use Rattle.algorithm_reader.specs.ListsRead.{in_list}
use Rattle.c_syntax.specs.StatesRead.{FrameStands, Stands, Ends, PointStands, StateStands, TurnStands, past_one, up_to, statement_step}
use Rattle.c_syntax.specs.Closes.{EndStands, AllClosed}
use Rattle.c_syntax.specs.Takes.{else_taken, or_taken, brace_taken, another_taken, BeginStands, MayTurn}
use Rattle.c_syntax.specs.AfterRead.{taken, next_taken, past_word, at_brace, else_step, or_step, ended_step, is_its_semicolon}
use Rattle.pcal_tree.specs.Tests.{only_if}
use Rattle.c_syntax.specs.declared.open.End.{End}
use Rattle.c_syntax.specs.declared.open.Frame.{Frame}
use Rattle.c_syntax.specs.declared.open.Frame.TheVariants as frame
use Rattle.c_syntax.specs.declared.open.Open.{Open}
use Rattle.c_syntax.specs.declared.open.Point.{Point}
use Rattle.c_syntax.specs.declared.open.Point.TheVariants as point
use Rattle.c_syntax.specs.declared.open.State.{State}
use Rattle.c_syntax.specs.declared.open.Turn.TheVariants as turn
use Rattle.c_syntax.proofs.NextStatement.{mark_is_there}

-- ---- by the next token
module _ (m : Parts) (n : ℕ) (a : Labelled) (st : Stack) where
  at_word : (w : Word) (s : Option Place) (p : Place) (k : TokenView) (ts : List Token) → is_reserved w k ≡ true → (f : Reader reader.Turn) → ((d : Reader reader.Turn) → pick w (closing_words a s st p) d ≡ f) → ended_by m n a s st p k ts ≡ f ts
  at_word w None p (tk.reserved x) ts e f same = subst (λ (z : Word). ended_by m n a None st p (tk.reserved z) ts ≡ f ts) (same_bytes w x e) (ap (λ (r : Reader reader.Turn). r ts) (same (list_by m n None p (tk.reserved w) (closed ask_other a st))))
  at_word w (Some q) p (tk.reserved x) ts e f same = subst (λ (z : Word). ended_by m n a (Some q) st p (tk.reserved z) ts ≡ f ts) (same_bytes w x e) (ap (λ (r : Reader reader.Turn). r ts) (same (list_by m n (Some q) p (tk.reserved w) (closed ask_other a st))))
  at_word w s p k ts e f same = (let no : false ≡ true = e in absurd cc)

  pub by_else : (s : Option Place) (ts : List Token) → is_reserved (codes "else") (first ts).kind ≡ true → ended_step m n a s st ts ≡ else_step m n a s st ts
  by_else s ts e = at_word (codes "else") s (first ts).place (first ts).kind ts e (takes_else s (first ts).place (closed ask_else a st)) (λ d. refl)

  pub by_or : (s : Option Place) (ts : List Token) → is_reserved (codes "or") (first ts).kind ≡ true → ended_step m n a s st ts ≡ or_step m n a s st ts
  by_or s ts e = at_word (codes "or") s (first ts).place (first ts).kind ts e (takes_or s (first ts).place (closed ask_or a st)) (λ d. refl)

  pub by_semicolon : (ts : List Token) → is_mark tk.semicolon (first ts).kind ≡ true → ended_step m n a None st ts ≡ Ok (on (ended a (Some (first ts).place) st), tail ts)
  by_semicolon ts e = ap (λ (k : TokenView). ended_by m n a None st (first ts).place k ts) (mark_is tk.semicolon (first ts).kind e)

  skipped : {A : Type 0} (c : Bool) (x y : A) → c ≡ false → (if c then x else y) ≡ y
  skipped true x y e = (let no : true ≡ false = e in absurd cc)
  skipped false x y e = refl

  -- what is no `;` of the statement, no `else` and no `or`
  pub by_list : (s : Option Place) (p : Place) (k : TokenView) (ts : List Token) → is_its_semicolon (is_some s) k ≡ false → is_reserved (codes "else") k ≡ false → is_reserved (codes "or") k ≡ false → ended_by m n a s st p k ts ≡ list_by m n s p k (closed ask_other a st) ts
  by_list None p (tk.mark tk.semicolon) ts d e f = (let no : true ≡ false = d in absurd cc)
  by_list None p (tk.reserved x) ts d e f = ap (λ (r : Reader reader.Turn). r ts) (skipped (bytes_eq (codes "else") x) _ _ e ∙ skipped (bytes_eq (codes "or") x) _ _ f)
  by_list (Some q) p (tk.reserved x) ts d e f = ap (λ (r : Reader reader.Turn). r ts) (skipped (bytes_eq (codes "else") x) _ _ e ∙ skipped (bytes_eq (codes "or") x) _ _ f)
  by_list s p k ts d e f = refl

-- ---- by what takes it
pub else_as : (s : Option Place) (p : Place) (r : Option (Labelled × Stack)) (ts : List Token) → takes_else s p r ts ≡ past_word (taken (else_taken s p) r) ts
else_as s p None ts = refl
else_as s p (Some (a, bottom b)) ts = refl
else_as s p (Some (a, in_block ls q b st)) ts = refl
else_as s p (Some (a, in_then ls t st)) ts = refl
else_as s p (Some (a, in_else ls t c u w st)) ts = refl
else_as s p (Some (a, in_body ls o st)) ts = refl
else_as s p (Some (a, in_either t st)) ts = refl

pub or_as : (s : Option Place) (p : Place) (r : Option (Labelled × Stack)) (ts : List Token) → takes_or s p r ts ≡ past_word (taken (or_taken s p) r) ts
or_as s p None ts = refl
or_as s p (Some (a, bottom b)) ts = refl
or_as s p (Some (a, in_block ls q b st)) ts = refl
or_as s p (Some (a, in_then ls t st)) ts = refl
or_as s p (Some (a, in_else ls t c u w st)) ts = refl
or_as s p (Some (a, in_body ls o st)) ts = refl
or_as s p (Some (a, in_either t st)) ts = refl

pub brace_as : (m : Parts) (n : ℕ) (s : Option Place) (p : Place) (r : Option (Labelled × Stack)) (ts : List Token) → list_by m n s p (tk.mark tk.close_brace) r ts ≡ at_brace (taken (brace_taken s p) r) ts
brace_as m n s p None ts = refl
brace_as m n s p (Some (a, bottom b)) ts = refl
brace_as m n s p (Some (a, in_block ls q b st)) ts = refl
brace_as m n s p (Some (a, in_then ls t st)) ts = refl
brace_as m n s p (Some (a, in_else ls t c u w st)) ts = refl
brace_as m n s p (Some (a, in_body ls o st)) ts = refl
brace_as m n s p (Some (a, in_either t st)) ts = refl

-- another statement, where one may come
abbrev pub at_statement : Parts → ℕ → Option Stack → Place → TokenView → Reader reader.Turn
at_statement m n (Some st) p k = statement_by m n no_labels st p k
at_statement m n None p k = refuses

module _ (m : Parts) (n : ℕ) (p : Place) (k : TokenView) (ts : List Token) where
  if_divided : (d : Bool) (st : Stack) → another_if d (statement_by m n no_labels st p k) ts ≡ at_statement m n (only_if d (Some st)) p k ts
  if_divided true st = refl
  if_divided false st = refl

  or_none : (d : Bool) → refuses ts ≡ at_statement m n (only_if d None) p k ts
  or_none true = refl
  or_none false = refl

another_by : (m : Parts) (n : ℕ) (s : Option Place) (p : Place) (k : TokenView) (a : Labelled) (st : Stack) (ts : List Token) → is_mark tk.close_brace k ≡ false → list_by m n s p k (Some (a, st)) ts ≡ at_statement m n (next_taken s a st) p k ts
another_by m n s p (tk.mark tk.close_brace) a st ts e = (let no : true ≡ false = e in absurd cc)
another_by m n s p k a (bottom b) ts e = if_divided m n p k ts (is_divided s a) _
another_by m n s p k a (in_block ls q b st) ts e = if_divided m n p k ts (is_divided s a) _
another_by m n s p k a (in_then ls t st) ts e = or_none m n p k ts (is_divided s a)
another_by m n s p k a (in_else ls t c u w st) ts e = or_none m n p k ts (is_divided s a)
another_by m n s p k a (in_body ls o st) ts e = or_none m n p k ts (is_divided s a)
another_by m n s p k a (in_either t st) ts e = or_none m n p k ts (is_divided s a)

pub another_as : (m : Parts) (n : ℕ) (s : Option Place) (p : Place) (k : TokenView) (r : Option (Labelled × Stack)) (ts : List Token) → is_mark tk.close_brace k ≡ false → list_by m n s p k r ts ≡ at_statement m n (taken (next_taken s) r) p k ts
another_as m n s p k (Some x) ts e = another_by m n s p k x.0 x.1 ts e
another_as m n s p (tk.mark tk.close_brace) None ts e = (let no : true ≡ false = e in absurd cc)
another_as m n s p k None ts e = refl

-- ---- what ended in memory, as the reader of tokens has it
pub ends_there : (ts : List Tree) (s : State) (e : End) (a : Labelled) (o : Option Place) (st : Stack) → Ends e a o → Stands ts s (past_one a st) st → EndStands ts s e.last e.block a st
ends_there ts s e a o st h k = record { place = h.last; block = h.block; all = k }

module _ {A : Type 0} (P : Option A → Type 0) (f : Labelled → Stack → Option A) (ts : List Tree) (last : Place) (b : Bool) (r : Option (Labelled × Stack)) where
  none_of : AllClosed ts last b None r → P None → P (taken f r)
  none_of = by r
    where
      by : (q : Option (Labelled × Stack)) → AllClosed ts last b None q → P None → P (taken f q)
      by None h k = k
      by (Some x) h k = absurd h

  pub none_takes : (o : Option State) → o ≡ None → AllClosed ts last b o r → P None → P (taken f r)
  none_takes o e h k = none_of (subst (λ (q : Option State). AllClosed ts last b q r) e h) k

  one_of : (s : State) → AllClosed ts last b (Some s) r → ((a : Labelled) (st : Stack) → EndStands ts s last b a st → P (f a st)) → P (taken f r)
  one_of s = by r
    where
      by : (q : Option (Labelled × Stack)) → AllClosed ts last b (Some s) q → ((a : Labelled) (st : Stack) → EndStands ts s last b a st → P (f a st)) → P (taken f q)
      by None h k = absurd h
      by (Some x) h k = k x.0 x.1 h

  pub one_takes : (o : Option State) (s : State) → o ≡ Some s → AllClosed ts last b o r → ((a : Labelled) (st : Stack) → EndStands ts s last b a st → P (f a st)) → P (taken f r)
  one_takes o s e h k = one_of s (subst (λ (q : Option State). AllClosed ts last b q r) e h) k

-- ---- another statement in the list
-- where nothing but a list goes on, a list does
abbrev pub is_in_list : Option (Labelled × Stack) → Bool
is_in_list None = true
is_in_list (Some (a, bottom b)) = true
is_in_list (Some (a, in_block ls p b st)) = true
is_in_list o = false

pub others_in_list : (a : Labelled) (st : Stack) → is_in_list (closed ask_other a st) ≡ true
others_in_list a (bottom b) = refl
others_in_list a (in_block ls p b st) = refl
others_in_list a (in_then ls t st) = others_in_list _ st
others_in_list a (in_else ls t c s p st) = others_in_list _ st
others_in_list a (in_body ls o st) = others_in_list _ st
others_in_list a (in_either (first_arm ls p) st) = refl
others_in_list a (in_either (later_arm t c s p) st) = others_in_list _ st

divided_is : (o : Option Place) (a : Labelled) (b : Bool) → b ≡ labelled_ends_in_block a → is_divided o a ≡ (is_some o || b)
divided_is (Some p) a b e = refl
divided_is None a b e = sym e

block_open : (ts : List Tree) (f : Frame) (ls : Labels) (p : Place) (b c : Before) (st : Stack) → FrameStands ts f (in_block ls p b st) → FrameStands ts f (in_block ls p c st)
block_open ts frame.Block ls p b c st h = tt
block_open ts _ ls p b c st h = absurd h

-- it is in the list that takes it
next_list : (ts : List Tree) (s t : State) (o : Option Place) (a : Labelled) (st : Stack) → is_in_list (Some (a, st)) ≡ true → t.list ≡ s.list → t.point ≡ point.Begins → t.stack ≡ s.stack → t.depth ≡ s.depth → Stands ts s (past_one a st) st → BeginStands ts (Some t) (another_taken o a st)
next_list ts s t o a (bottom b) i l p k d h = (
  p,
  record {
    list = record { below = subst (λ (xs : Vec Stmt Global). past_statements xs.items ≤ length ts) (sym l) h.list.below; tree = λ rest. ap (λ (xs : Vec Stmt Global). in_list ts xs.items rest) l ∙ h.list.tree rest };
    stack = ap (λ (xs : Vec Open Global). xs.items) k ∙ h.stack;
    depth = d ∙ h.depth;
  },
)
next_list ts s t o a (in_block ls q b st) i l p k d h = (
  p,
  record {
    list = record { below = subst (λ (xs : Vec Stmt Global). past_statements xs.items ≤ length ts) (sym l) h.list.below; tree = λ rest. ap (λ (xs : Vec Stmt Global). in_list ts xs.items rest) l ∙ h.list.tree rest };
    stack = (h.stack.0, h.stack.1, ap (λ (xs : Vec Open Global). xs.items) k ∙ h.stack.2, record { frame = block_open ts h.stack.1.frame ls q b _ st h.stack.3.frame; depth = h.stack.3.depth }, h.stack.4);
    depth = d ∙ h.depth;
  },
)
next_list ts s t o a (in_then ls x st) i l p k d h = (let no : false ≡ true = i in absurd cc)
next_list ts s t o a (in_else ls x c u w st) i l p k d h = (let no : false ≡ true = i in absurd cc)
next_list ts s t o a (in_body ls x st) i l p k d h = (let no : false ≡ true = i in absurd cc)
next_list ts s t o a (in_either x st) i l p k d h = (let no : false ≡ true = i in absurd cc)

next_begins : (ts : List Tree) (s t : State) (last : Place) (b : Bool) (o : Option Place) (r : Option (Labelled × Stack)) → AllClosed ts last b (Some s) r → is_in_list r ≡ true → (is_some o || b) ≡ true → t.list ≡ s.list → t.point ≡ point.Begins → t.stack ≡ s.stack → t.depth ≡ s.depth → BeginStands ts (Some t) (taken (next_taken o) r)
next_begins ts s t last b o None h i e l p k d = absurd h
next_begins ts s t last b o (Some x) h i e l p k d =
    subst (λ (z : Bool). BeginStands ts (Some t) (only_if z (another_taken o x.0 x.1))) (sym (divided_is o x.0 b h.block ∙ e)) (next_list ts s t o x.0 x.1 i l p k d h.all)

none_next : (ts : List Tree) (s : State) (last : Place) (b : Bool) (o : Option Place) (r : Option (Labelled × Stack)) → AllClosed ts last b (Some s) r → (is_some o || b) ≡ false → BeginStands ts None (taken (next_taken o) r)
none_next ts s last b o None h e = absurd h
none_next ts s last b o (Some x) h e = subst (λ (z : Bool). BeginStands ts None (only_if z (another_taken o x.0 x.1))) (sym (divided_is o x.0 b h.block ∙ e)) tt

pub another_begins : (ts : List Tree) (q : Option State) (s t : State) (e : End) (o : Option Place) (a : Labelled) (st : Stack) → q ≡ Some s → AllClosed ts e.last e.block q (closed ask_other a st) → Ends e a o → (e.divided || e.block) ≡ true → t.list ≡ s.list → t.point ≡ point.Begins → t.stack ≡ s.stack → t.depth ≡ s.depth
    → BeginStands ts (Some t) (taken (next_taken o) (closed ask_other a st))
another_begins ts q s t e o a st i h k m l p d n =
    next_begins ts s t e.last e.block o (closed ask_other a st) (subst (λ (z : Option State). AllClosed ts e.last e.block z (closed ask_other a st)) i h) (others_in_list a st) (ap (λ (z : Bool). z || e.block) (sym k.divided) ∙ m) l p d n

pub none_begins : (ts : List Tree) (q : Option State) (s : State) (e : End) (o : Option Place) (a : Labelled) (st : Stack) → q ≡ Some s → AllClosed ts e.last e.block q (closed ask_other a st) → Ends e a o → (e.divided || e.block) ≡ false → BeginStands ts None (taken (next_taken o) (closed ask_other a st))
none_begins ts q s e o a st i h k m =
    none_next ts s e.last e.block o (closed ask_other a st) (subst (λ (z : Option State). AllClosed ts e.last e.block z (closed ask_other a st)) i h) (ap (λ (z : Bool). z || e.block) (sym k.divided) ∙ m)

-- ---- past what is taken
pub word_passed : (ts : List Tree) (v : Tokens) (i : ℕ) (s : State) (o : Option Stack) → BeginStands ts (Some s) o → Reads (TurnStands ts (turn.On s)) (ahead v (i + 1)) (past_word o (ahead v i))
word_passed ts v i s None h = absurd h
word_passed ts v i s (Some st) h = record { what = opens st; is = ap (λ (us : List Token). Ok (opens st, us)) (sym (ahead_tail v i)); told = h }

pub brace_passed : (ts : List Tree) (v : Tokens) (i : ℕ) (s : State) (o : Option reader.Turn) → MayTurn ts (Some (turn.On s)) o → Reads (TurnStands ts (turn.On s)) (ahead v (i + 1)) (at_brace o (ahead v i))
brace_passed ts v i s None h = absurd h
brace_passed ts v i s (Some (done ss)) h = absurd h
brace_passed ts v i s (Some (on x)) h = record { what = on x; is = ap (λ (us : List Token). Ok (on x, us)) (sym (ahead_tail v i)); told = h }

-- another statement is read from the state that goes on
pub begun_goes : (P : Out reader.Turn → Type 0) (m : Parts) (n : ℕ) (ts : List Tree) (s : State) (q : Option Stack) (us : List Token) → BeginStands ts (Some s) q → ((st : Stack) → Stands ts s (up_to no_labels st) st → P (statement_step m n no_labels st us)) → P (at_statement m n q (first us).place (first us).kind us)
begun_goes P m n ts s None us h f = absurd h
begun_goes P m n ts s (Some st) us h f = f st h.1

pub none_goes : (m : Parts) (n : ℕ) (ts : List Tree) (q : Option Stack) (us : List Token) → BeginStands ts None q → at_statement m n q (first us).place (first us).kind us ≡ Err (rule.Syntax, us)
none_goes m n ts None us h = refl
none_goes m n ts (Some st) us h = absurd h

-- ---- its `;`
its_semicolon : (d : Bool) (k : TokenView) → is_its_semicolon d k ≡ true → (d ≡ false) × (is_mark tk.semicolon k ≡ true)
its_semicolon true k e = (let no : false ≡ true = e in absurd cc)
its_semicolon false k e = (refl, e)

pub semicolon_passed : (m : Parts) (n : ℕ) (ts : List Tree) (v : Tokens) (i : ℕ) (t : State) (e : End) (a : Labelled) (o : Option Place) (st : Stack) → is_its_semicolon e.divided (first (ahead v i)).kind ≡ true → Ends e a o → ((p : Place) → Ends e a None → StateStands ts t (ended a (Some p) st))
    → Reads (TurnStands ts (turn.On t)) (ahead v (i + 1)) (ended_step m n a o st (ahead v i))
semicolon_passed m n ts v i t e a (Some q) st d h f = (let no : false ≡ true = sym (its_semicolon e.divided (first (ahead v i)).kind d).0 ∙ h.divided in absurd cc)
semicolon_passed m n ts v i t e a None st d h f =
    let p = (first (ahead v i)).place in
    record {
      what = on (ended a (Some p) st);
      is = by_semicolon m n a st (ahead v i) (its_semicolon e.divided (first (ahead v i)).kind d).1 ∙ ap (λ (us : List Token). Ok (on (ended a (Some p) st), us)) (sym (ahead_tail v i));
      told = f p h;
    }

pub semicolon_is_there : (v : Tokens) (i : ℕ) (d : Bool) → i ≤ length v.items.items → is_its_semicolon d (first (ahead v i)).kind ≡ true → i < length v.items.items
semicolon_is_there v i d h e = mark_is_there v i tk.semicolon h (its_semicolon d (first (ahead v i)).kind e).1

-- ---- by the state
pub begins_is : (ts : List Tree) (s : State) (r : reader.State) → s.point ≡ point.Begins → StateStands ts s r → (P : reader.State → Type 0) → ((ls : Labels) (st : Stack) → Stands ts s (up_to ls st) st → P (begin ls st)) → P r
begins_is ts s (begin ls st) e h P f = f ls st h.1
begins_is ts s (ended a o st) e h P f = absurd (subst (λ (z : Point). PointStands z a o) e h.0)

pub ended_is : (ts : List Tree) (s : State) (r : reader.State) (x : End) → s.point ≡ point.Ended x → StateStands ts s r → (P : reader.State → Type 0) → ((a : Labelled) (o : Option Place) (st : Stack) → Ends x a o → Stands ts s (past_one a st) st → P (ended a o st)) → P r
ended_is ts s (begin ls st) x e h P f = (let no : point.Begins ≡ point.Ended x = sym h.0 ∙ e in absurd cc)
ended_is ts s (ended a o st) x e h P f = f a o st (subst (λ (z : Point). PointStands z a o) e h.0) h.1
