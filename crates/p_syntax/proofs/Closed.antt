-- Statements that are closed: their trees and where they are, and that they stand in their list.
use Rattle.std.proofs.Common.{◌≡◌, ℕ, ◌<◌, ◌≤◌, max, false, List, [], ◌∷◌, ◌++◌, length, map, Vec, Global, None, refl, sym, ap, subst, ◌∙◌, arith, codes, length-append}
use Rattle.tla_token.specs.declared.place.Place.{Place}
use Rattle.tla_tree.specs.Tree.{Tree}
use Rattle.tla_tree.specs.Pool as pool
use Rattle.tla_tree.specs.Lexical.{Token, token}
use Rattle.tla_tree.specs.Lexical as tk
use Rattle.tla_tree.specs.Spelling.{Phrase, spell, tree_of}
use Rattle.tla_tree.specs.Nesting.{greatest}
use Rattle.pcal_tree.specs.declared.algorithm.Span.{Span}
use Rattle.pcal_tree.specs.declared.algorithm.Bind.{Bind}
use Rattle.pcal_tree.specs.declared.algorithm.Stmt.{Stmt}
use Rattle.pcal_tree.specs.declared.algorithm.Stmt.TheVariants as stmt
use Rattle.pcal_tree.specs.Algorithm.{Statement, Statements, Branches}
use Rattle.pcal_tree.specs.Algorithm as tree
use Rattle.pcal_tree.specs.InMemory.{stmt_at, statements_at, branches_at, past_stmt, past_statements, past_branches}
use Rattle.pcal_tree.proofs.InMemoryEach.{either_at, with_at, while_at, past_either, past_with, past_while, past_one_more}
use Rattle.pcal_tree.specs.GrammarParts.{key, span, first_place, last_place, Labels, Binds, binds, binds_of}
use Rattle.pcal_tree.specs.GrammarP as p
use Rattle.pcal_tree.specs.GrammarP.{sequence, else_tokens, branches, statement, Sequence, Else}
use Rattle.algorithm_reader.specs.PartsRead.{StandsFor}
use Rattle.p_reading.specs.ReadStatements as reader
use Rattle.p_reading.specs.ReadStatements.{Before, Stack, bottom, inside, Tests, if_test, elsif_test, Arms, first_arm, later_arm, closed_if, closed_either, depth}
use Rattle.p_syntax.specs.declared.open.Test.{Test}
use Rattle.p_syntax.specs.declared.open.Frame.{Frame}
use Rattle.p_syntax.specs.declared.open.Frame.TheVariants as frame
use Rattle.p_syntax.specs.declared.open.Open.{Open}
use Rattle.p_syntax.specs.declared.open.Point.TheVariants as point
use Rattle.p_syntax.specs.declared.open.State.{State}
use Rattle.pcal_tree.specs.Tests.{is_empty}
use Rattle.p_syntax.specs.StatesRead.{so_far, past_one, tests_place, tests_tree, tests_list, arms_place, arms_tree, nested, past_test, before_rest, ThenStands, ElseStands, EitherStands, FrameStands, OpenStands, StackStands, Stands, StateStands, list_at, past_list}
use Rattle.algorithm_reader.proofs.InLists.{in_branches-append, in_branches-all, one_more_stands}
use Rattle.p_syntax.proofs.Nested.{nested-append}
use Rattle.p_reading.proofs.Ends.{Puts, spell_puts, binds_puts, sequence_puts, else_puts, branches_puts, last_put}
use Rattle.p_reading.proofs.SoundStatements.{tests, arms, closed_if_tokens, closed_either_tokens}

-- ---- the tree of a statement, and where it is
if_tree : (t : Tests) (a : Sequence) (e : Else) (r q : Place) → p.statement_tree (closed_if t a e r q) ≡ tests_tree t q (p.statements a) (p.else_statements q e)
if_tree (if_test s x u) a e r q = refl
if_tree (elsif_test t c s x u) a e r q = if_tree t c (p.else_if s x u a e) r q

either_tree : (t : Arms) (a : Sequence) (bs : p.Branches) (r q : Place) → p.statement_tree (closed_either t a bs r q) ≡ tree.either (arms_tree t (tree.or (p.statements a) (p.branch_trees bs)))
either_tree (first_arm s) a bs r q = refl
either_tree (later_arm t c s) a bs r q = either_tree t c (p.more_branches s a bs) r q

tests_first : (t : Tests) (ts : List Token) → first_place (tests t ts) ≡ tests_place t
tests_first (if_test s x u) ts = refl
tests_first (elsif_test t c s x u) ts = tests_first t _

arms_first : (t : Arms) (ts : List Token) → first_place (arms t ts) ≡ arms_place t
arms_first (first_arm s) ts = refl
arms_first (later_arm t c s) ts = arms_first t _

tests_puts : (t : Tests) → Puts (tests t)
tests_puts (if_test s x u) r z = simp (spell_puts) refl
tests_puts (elsif_test t c s x u) r z = simp (tests_puts t, spell_puts, sequence_puts) refl

arms_puts : (t : Arms) → Puts (arms t)
arms_puts (first_arm s) r z = refl
arms_puts (later_arm t c s) r z = simp (arms_puts t, sequence_puts) refl

if_span : (t : Tests) (a : Sequence) (e : Else) (r q : Place) → record { first = tests_place t; last = q } ≡ span (statement (closed_if t a e r q) [])
if_span t a e r q =
    let all = closed_if_tokens t a e r q [] in
    let front : List Token → List Token = λ ts. tests t (sequence a (else_tokens e ts)) in
    let puts : Puts front = λ x y. simp (tests_puts, sequence_puts, else_puts) refl in
    λ j. record { first = sym (ap first_place all ∙ tests_first t _) j; last = sym (ap last_place all ∙ last_put front puts (token r (tk.reserved (codes "end"))) (key q (codes "if") [])) j }

either_span : (t : Arms) (a : Sequence) (bs : p.Branches) (r q : Place) → record { first = arms_place t; last = q } ≡ span (statement (closed_either t a bs r q) [])
either_span t a bs r q =
    let all = closed_either_tokens t a bs r q [] in
    let front : List Token → List Token = λ ts. arms t (sequence a (branches bs ts)) in
    let puts : Puts front = λ x y. simp (arms_puts, sequence_puts, branches_puts) refl in
    λ j. record { first = sym (ap first_place all ∙ arms_first t _) j; last = sym (ap last_place all ∙ last_put front puts (token r (tk.reserved (codes "end"))) (key q (codes "either") [])) j }

with_span : (s : Place) (bs : Binds) (u : Place) (a : Sequence) (r q : Place) → record { first = s; last = q } ≡ span (statement (p.with s bs u a r q) [])
with_span s bs u a r q =
    let front : List Token → List Token = λ ts. key s (codes "with") (binds bs (key u (codes "do") (sequence a ts))) in
    let puts : Puts front = λ x y. simp (binds_puts, sequence_puts) refl in
    λ j. record { first = s; last = sym (last_put front puts (token r (tk.reserved (codes "end"))) (key q (codes "with") [])) j }

while_span : (s : Place) (e : Phrase) (u : Place) (a : Sequence) (r q : Place) → record { first = s; last = q } ≡ span (statement (p.while s e u a r q) [])
while_span s e u a r q =
    let front : List Token → List Token = λ ts. key s (codes "while") (spell e (key u (codes "do") (sequence a ts))) in
    let puts : Puts front = λ x y. simp (spell_puts, sequence_puts) refl in
    λ j. record { first = s; last = sym (last_put front puts (token r (tk.reserved (codes "end"))) (key q (codes "while") [])) j }

-- ---- what stands for a statement, before the rest of its list
pub record IsStatement (ts : List Tree) (s : Stmt) (a : p.Statement) : Type 0 where
  pub below : past_stmt s ≤ length ts
  pub tree : (rest : Statements) → stmt_at ts s rest ≡ tree.then (span (statement a [])) (p.statement_tree a) rest

pub ended_stands : (ts : List Tree) (s t : State) (b : Before) (ls : Labels) (st : Stack) (x : Stmt) (a : p.Statement) → Stands ts s (so_far b ls) st → IsStatement ts x a
    → t.list.items ≡ s.list.items ++ x ∷ [] → t.stack ≡ s.stack → t.point ≡ point.Ended → t.depth ≡ s.depth → StateStands ts t (reader.ended b ls a None st)
ended_stands ts s t b ls st x a h i l k e d = (
  e,
  record {
    list = one_more_stands ts s.list.items t.list.items x (so_far b ls) (past_one b ls a) h.list l i.below (λ rest. ap (so_far b ls) (i.tree rest));
    stack = rw k h.stack;
    depth = d ∙ h.depth;
  },
)

-- tests, the last one with its list
pub else_stands : (ts : List Tree) (xs : List Test) (x : Test) (t : Tests) (c : Sequence) → ThenStands ts xs x.place x.test t → StandsFor list_at past_list p.statements ts x.then c → ElseStands ts (xs ++ x ∷ []) t c
else_stands ts xs x t c h i = record {
  below = omega (arith, past_one_more past_test xs x, h.below, h.within, i.below);
  tree = λ last y. nested-append ts xs (x ∷ []) last y ∙ h.tree last (statements_at ts x.then.items) y ∙ ap (λ (z : Statements). tests_list t last z y) i.tree;
}

pub elsif_stands : (ts : List Tree) (xs : List Test) (a q r : Place) (n : ℕ) (e : Phrase) (t : Tests) (c : Sequence) → ElseStands ts xs t c → a ≡ q → n < length ts → pool.at ts n ≡ tree_of e → ThenStands ts xs a n (elsif_test t c q e r)
elsif_stands ts xs a q r n e t c h f w i = record {
  below = h.below;
  within = w;
  tree = λ last x y. h.tree last _ ∙ (λ j. tests_list t last (p.statements c) (tree.then (record { first = f j; last = last }) (tree.branch (i j) x y) tree.done));
}

pub if_stands : (ts : List Tree) (xs : List Test) (o : List Stmt) (s : Stmt) (t : Tests) (c : Sequence) (e : Else) (r q : Place) → ElseStands ts xs t c → past_statements o ≤ length ts → statements_at ts o ≡ p.else_statements q e
    → ((us : List Tree) (rest : Statements) → stmt_at us s rest ≡ before_rest (nested us xs q (statements_at us o)) rest) → past_stmt s ≡ max (greatest (map past_test xs)) (past_statements o) → IsStatement ts s (closed_if t c e r q)
if_stands ts xs o s t c e r q h w i k m = record {
  below = omega (arith, m, h.below, w);
  tree = λ rest.
      k ts rest
      ∙ ap (λ (z : Statements). before_rest (nested ts xs q z) rest) i
      ∙ ap (λ (z : Statements). before_rest z rest) (h.tree q (p.else_statements q e))
      ∙ (λ j. tree.then (if_span t c e r q j) (sym (if_tree t c e r q) j) rest);
}

pub or_stands : (ts : List Tree) (a : Place) (bs : List (Vec Stmt Global)) (x : Vec Stmt Global) (t : Arms) (c : Sequence) (r : Place) → EitherStands ts a bs t → StandsFor list_at past_list p.statements ts x c → EitherStands ts a (bs ++ x ∷ []) (later_arm t c r)
or_stands ts a bs x t c r h i = record {
  place = h.place;
  below = omega (arith, past_one_more (λ (b : Vec Stmt Global). past_statements b.items) bs x, h.below, i.below);
  first = some bs;
  tree = λ rest. in_branches-append ts bs (x ∷ []) rest ∙ h.tree (tree.or (statements_at ts x.items) rest) ∙ ap (λ (z : Statements). arms_tree t (tree.or z rest)) i.tree;
}
  where
    some : (l : List (Vec Stmt Global)) → is_empty (l ++ x ∷ []) ≡ false
    some [] = refl
    some (y ∷ ys) = refl

pub either_stands : (ts : List Tree) (a : Place) (bs all : Vec (Vec Stmt Global) Global) (x : Vec Stmt Global) (t : Arms) (c d : Sequence) (s r q w : Place) → EitherStands ts a bs.items (later_arm t c s) → StandsFor list_at past_list p.statements ts x d → all.items ≡ bs.items ++ x ∷ []
    → IsStatement ts (stmt.Either (record { first = a; last = q }) all) (closed_either t c (p.last_branch s d) r q)
either_stands ts a bs all x t c d s r q w h i e =
    let more = past_one_more (λ (b : Vec Stmt Global). past_statements b.items) bs.items x in
    let sp : Span = record { first = a; last = q } in
    let inner : branches_at ts all.items ≡ arms_tree t (tree.or (p.statements c) (tree.or (p.statements d) tree.no_branches)) =
    ap (branches_at ts) e ∙ in_branches-all ts (bs.items ++ x ∷ []) ∙ in_branches-append ts bs.items (x ∷ []) tree.no_branches
    ∙ h.tree (tree.or (statements_at ts x.items) tree.no_branches)
    ∙ ap (λ (z : Statements). arms_tree t (tree.or (p.statements c) (tree.or z tree.no_branches))) i.tree in
    record {
      below = omega (arith, past_either sp all, ap past_branches e, more, h.below, i.below);
      tree = λ rest.
          ap (λ (f : Statements → Statements). f rest) (either_at ts sp all)
          ∙ (λ j. tree.then (record { first = h.place j; last = q }) (tree.either (inner j)) rest)
          ∙ (λ j. tree.then (either_span t c (p.last_branch s d) r q j) (sym (either_tree t c (p.last_branch s d) r q) j) rest);
    }

pub with_stands : (ts : List Tree) (a s u r q : Place) (bs : Vec Bind Global) (cs : Binds) (x : Vec Stmt Global) (c : Sequence) → FrameStands ts (frame.With a bs) (reader.in_with s cs u) → StandsFor list_at past_list p.statements ts x c
    → IsStatement ts (stmt.With (record { first = a; last = q }) bs x) (p.with s cs u c r q)
with_stands ts a s u r q bs cs x c h i =
    let sp : Span = record { first = a; last = q } in
    record {
      below = omega (arith, past_with sp bs x, h.1, i.below);
      tree = λ rest.
          ap (λ (f : Statements → Statements). f rest) (with_at ts sp bs x)
          ∙ (λ j. tree.then (record { first = h.0 j; last = q }) (tree.with (h.2 j) (i.tree j)) rest)
          ∙ ap (λ (z : tree.Span). tree.then z (tree.with (binds_of cs) (p.statements c)) rest) (with_span s cs u c r q);
    }

pub while_stands : (ts : List Tree) (a s u r q : Place) (n : ℕ) (e : Phrase) (x : Vec Stmt Global) (c : Sequence) → FrameStands ts (frame.While a n) (reader.in_while s e u) → StandsFor list_at past_list p.statements ts x c
    → IsStatement ts (stmt.While (record { first = a; last = q }) n x) (p.while s e u c r q)
while_stands ts a s u r q n e x c h i =
    let sp : Span = record { first = a; last = q } in
    record {
      below = omega (arith, past_while sp n x, h.1, i.below);
      tree = λ rest.
          ap (λ (f : Statements → Statements). f rest) (while_at ts sp n x)
          ∙ (λ j. tree.then (record { first = h.0 j; last = q }) (tree.while (h.2 j) (i.tree j)) rest)
          ∙ ap (λ (z : tree.Span). tree.then z (tree.while (tree_of e) (p.statements c)) rest) (while_span s e u c r q);
    }

-- ---- the innermost of what stands open
pub record Innermost (ts : List Tree) (f : Frame) (s : State) (st : Stack) : Type 0 where
  pub shape : reader.Frame
  pub before : Before
  pub labels : Labels
  pub under : Stack
  pub is : st ≡ inside shape before labels under
  pub stands : FrameStands ts f shape
  pub around : Stands ts s (so_far before labels) under

last_same : {A : Type 0} (xs ys : List A) (x y : A) → xs ++ x ∷ [] ≡ ys ++ y ∷ [] → (xs ≡ ys) × (x ≡ y)
last_same [] [] x y e = (refl, cc)
last_same [] (z ∷ ys) x y e = absurd (omega (arith, ap length e, length-append ys (y ∷ [])))
last_same (z ∷ xs) [] x y e = absurd (omega (arith, ap length e, length-append xs (x ∷ [])))
last_same (z ∷ xs) (w ∷ ys) x y e =
    let rest : xs ++ x ∷ [] ≡ ys ++ y ∷ [] = cc in
    let first : z ≡ w = cc in
    let same = last_same xs ys x y rest in
    ((λ j. first j ∷ same.0 j), same.1)

pub innermost_stands : (ts : List Tree) (os : List Open) (f : Frame) (s : State) (st : Stack) → StackStands ts os st → os ≡ s.stack.items ++ record { frame = f; before = s.list; depth = s.depth } ∷ [] → Innermost ts f s st
innermost_stands ts os f s bottom h e = absurd (omega (arith, ap length h, ap length e, length-append s.stack.items (record { frame = f; before = s.list; depth = s.depth } ∷ [])))
innermost_stands ts os f s (inside g b ls st) h e =
    let same = last_same h.0 s.stack.items h.1 (record { frame = f; before = s.list; depth = s.depth }) (sym h.2 ∙ e) in
    let here : OpenStands ts (record { frame = f; before = s.list; depth = s.depth }) g b ls st = subst (λ (o : Open). OpenStands ts o g b ls st) same.1 h.3 in
    record {
      shape = g;
      before = b;
      labels = ls;
      under = st;
      is = refl;
      stands = here.frame;
      around = record { list = here.before; stack = subst (λ (l : List Open). StackStands ts l st) same.0 h.4; depth = here.depth };
    }
