-- Steps in code where a statement comes: what is read, and what is held then.
use Rattle.std.proofs.Common.{◌≡◌, ℕ, ◌<◌, ◌≤◌, List, [], ◌∷◌, ◌++◌, length, Vec, Global, None, refl, sym, ap, ◌∙◌, arith}
use Rattle.tla_token.specs.declared.place.Place.{Place}
use Rattle.tla_tree.specs.Tree.{Tree, Name}
use Rattle.tla_tree.specs.Pool as pool
use Rattle.tla_tree.specs.Spelling.{Phrase, tree_of}
use Rattle.pcal_tree.specs.declared.mark.Mark.{Mark}
use Rattle.pcal_tree.specs.declared.algorithm.Span.{Span}
use Rattle.pcal_tree.specs.declared.algorithm.Simple as declared_simple
use Rattle.pcal_tree.specs.declared.algorithm.Stmt.{Stmt}
use Rattle.pcal_tree.specs.declared.algorithm.Stmt.TheVariants as stmt
use Rattle.pcal_tree.specs.Algorithm.{Statements}
use Rattle.pcal_tree.specs.Algorithm as tree
use Rattle.pcal_tree.specs.InMemory.{span_of, simple_at, past_simple}
use Rattle.pcal_tree.proofs.InMemoryEach.{label_at, past_label, simple_in_list_at, past_simple_in_list}
use Rattle.pcal_tree.specs.GrammarParts.{span, Colon, Labels, no_labels, Simple, simple_tokens, simple_tree}
use Rattle.pcal_tree.specs.GrammarP as p
use Rattle.syntax_reading.specs.ReadAround.{with_label}
use Rattle.algorithm_reader.specs.PartsRead.{mark_of}
use Rattle.algorithm_reader.proofs.StatementSteps.{label_mark}
use Rattle.p_reading.specs.ReadStatements as reader
use Rattle.p_reading.specs.ReadStatements.{Before, none, inside, Stack, if_test, first_arm, inside_frame, depth}
use Rattle.p_syntax.specs.declared.open.Test.{Test}
use Rattle.p_syntax.specs.declared.open.Frame.{Frame}
use Rattle.p_syntax.specs.declared.open.Point.TheVariants as point
use Rattle.p_syntax.specs.declared.open.State.{State}
use Rattle.algorithm_reader.specs.ListsRead.{ListStands}
use Rattle.p_syntax.specs.StatesRead.{before_tree, so_far, past_one, ThenStands, EitherStands, FrameStands, Stands, StateStands}
use Rattle.algorithm_reader.proofs.InLists.{one_more_stands}

-- ---- labels
pub label_stands : (ts : List Tree) (s t : State) (b : Before) (ls : Labels) (st : Stack) (x : Name) (m : Mark) (c : Colon) → Stands ts s (so_far b ls) st → m ≡ mark_of c
    → t.list.items ≡ s.list.items ++ stmt.Label x m ∷ [] → t.stack ≡ s.stack → t.point ≡ point.Begins → t.depth ≡ s.depth → StateStands ts t (reader.begin b (with_label ls x c) st)
label_stands ts s t b ls st x m c h e l k a d = (
  a,
  record {
    list = one_more_stands ts s.list.items t.list.items (stmt.Label x m) (so_far b ls) (so_far b (with_label ls x c)) h.list l (omega (arith, past_label x m))
        (λ rest. ap (so_far b ls) (ap (λ (f : Statements → Statements). f rest) (label_at ts x m) ∙ ap (λ (z : Mark). tree.mark x z rest) e) ∙ ap (before_tree b) (sym (label_mark ls x c rest)));
    stack = rw k h.stack;
    depth = d ∙ h.depth;
  },
)

-- ---- statements with none in them
pub simple_stands : (ts : List Tree) (s t : State) (b : Before) (ls : Labels) (st : Stack) (q : Span) (x : declared_simple.Simple) (c : Simple) → Stands ts s (so_far b ls) st
    → past_simple x ≤ length ts → simple_at ts x ≡ simple_tree c → span_of q ≡ span (simple_tokens c [])
    → t.list.items ≡ s.list.items ++ stmt.Simple q x ∷ [] → t.stack ≡ s.stack → t.point ≡ point.Ended → t.depth ≡ s.depth → StateStands ts t (reader.ended b ls (p.simple c) None st)
simple_stands ts s t b ls st q x c h w e f l k a d = (
  a,
  record {
    list = one_more_stands ts s.list.items t.list.items (stmt.Simple q x) (so_far b ls) (past_one b ls (p.simple c)) h.list l (omega (arith, w, past_simple_in_list q x))
        (λ rest. ap (so_far b ls) (ap (λ (g : Statements → Statements). g rest) (simple_in_list_at ts q x) ∙ (λ j. tree.then (f j) (e j) rest)));
    stack = rw k h.stack;
    depth = d ∙ h.depth;
  },
)

-- ---- statements that open
pub nothing_yet : (ts : List Tree) (l : List Stmt) → l ≡ [] → ListStands ts l (so_far none no_labels)
nothing_yet ts l e = rw e (record { below = omega arith; tree = λ rest. refl })

pub opened_stands : (ts : List Tree) (s t : State) (b : Before) (ls : Labels) (st : Stack) (f : Frame) (g : reader.Frame) → Stands ts s (so_far b ls) st → FrameStands ts f g
    → t.list.items ≡ [] → t.stack.items ≡ s.stack.items ++ record { frame = f; before = s.list; depth = s.depth } ∷ [] → t.point ≡ point.Begins → t.depth ≡ inside_frame (depth st) g
    → StateStands ts t (reader.begin none no_labels (inside g b ls st))
opened_stands ts s t b ls st f g h i l k a d = (
  a,
  record {
    list = nothing_yet ts t.list.items l;
    stack = (s.stack.items, record { frame = f; before = s.list; depth = s.depth }, k, record { frame = i; before = h.list; depth = h.depth }, h.stack);
    depth = d;
  },
)

pub first_test_stands : (ts : List Tree) (xs : List Test) (a q r : Place) (e : ℕ) (c : Phrase) → xs ≡ [] → a ≡ q → e < length ts → pool.at ts e ≡ tree_of c → ThenStands ts xs a e (if_test q c r)
first_test_stands ts xs a q r e c n f w t = rw n (record {
  below = omega arith;
  within = w;
  tree = λ last x y j. tree.then (record { first = f j; last = last }) (tree.branch (t j) x y) tree.done;
})

pub first_branch_stands : (ts : List Tree) (a q : Place) (bs : List (Vec Stmt Global)) → bs ≡ [] → a ≡ q → EitherStands ts a bs (first_arm q)
first_branch_stands ts a q bs n f = rw n (record { place = f; below = omega arith; first = refl; tree = λ rest. refl })
