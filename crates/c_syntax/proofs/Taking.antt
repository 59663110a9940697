-- What is taken after a statement: in memory it is what the reader of tokens takes.
use Rattle.std.proofs.Common.{◌≡◌, ℕ, ◌≤◌, true, false, List, [], ◌∷◌, ◌++◌, length, Vec, Global, Option, Some, None, refl, sym, ap, ◌∙◌, subst, arith, length-append}
use Rattle.tla_token.specs.declared.place.Place.{Place}
use Rattle.tla_tree.specs.Tree.{Tree}
use Rattle.tla_tree.specs.Lexical as tk
use Rattle.pcal_tree.specs.declared.algorithm.Stmt.{Stmt}
use Rattle.pcal_tree.specs.Algorithm.{Statements, Branches}
use Rattle.pcal_tree.specs.Algorithm as tree
use Rattle.pcal_tree.specs.InMemory.{statements_at, past_statements, past_branches}
use Rattle.pcal_tree.proofs.InMemoryEach.{past_one_more}
use Rattle.pcal_tree.specs.GrammarParts.{mark, with_labels, last_place}
use Rattle.pcal_tree.specs.GrammarC.{Labelled, labelled, compound, Sequence, last_statement, flat_sequence, more_statements, labelled_tokens}
use Rattle.c_reading.specs.ReadStatements.{Before, none, after, Stack, bottom, in_block, in_then, in_else, in_body, in_either, if_test, with_before}
use Rattle.pcal_tree.specs.Tests.{is_empty}
use Rattle.algorithm_reader.specs.ListsRead.{in_list, in_branches}
use Rattle.c_syntax.specs.StatesRead.{arms_tree, PointStands, FrameStands, StackStands, Stands, before_tree, inner, past_one}
use Rattle.c_syntax.specs.Takes.{else_taken, or_taken, brace_taken, BeginStands, MayTurn}
use Rattle.c_syntax.specs.declared.open.Frame.{Frame}
use Rattle.c_syntax.specs.declared.open.Frame.TheVariants as frame
use Rattle.c_syntax.specs.declared.open.Begun.{Begun}
use Rattle.c_syntax.specs.declared.open.Open.{Open}
use Rattle.c_syntax.specs.declared.open.Point.{Point}
use Rattle.c_syntax.specs.declared.open.Point.TheVariants as point
use Rattle.c_syntax.specs.declared.open.State.{State}
use Rattle.c_syntax.specs.declared.open.Turn.TheVariants as turn
use Rattle.algorithm_reader.proofs.InLists.{all_of_list, in_branches-append}
use Rattle.c_reading.proofs.Lasts.{last_labelled, last_put, put_one, put_both, put_sequence}
use Rattle.c_syntax.proofs.Ending.{innermost_is}

-- ---- nothing stands open
pub none_open : (ts : List Tree) (os under : List Open) (o : Open) → os ≡ under ++ o ∷ [] → os ≡ [] → ⊥
none_open ts os under o e h = omega (arith, ap length (sym e ∙ h), length-append under (o ∷ []))

pub else_of_none : (ts : List Tree) (os : List Open) (s : Option Place) (p : Place) (a : Labelled) (st : Stack) → os ≡ [] → StackStands ts os st → BeginStands ts None (else_taken s p a st)
else_of_none ts os s p a (bottom b) e h = tt
else_of_none ts os s p a (in_block ls q b st) e h = tt
else_of_none ts os s p a (in_then ls t st) e h = absurd (none_open ts os h.0 h.1 h.2 e)
else_of_none ts os s p a (in_else ls t c u w st) e h = tt
else_of_none ts os s p a (in_body ls o st) e h = tt
else_of_none ts os s p a (in_either t st) e h = tt

pub or_of_none : (ts : List Tree) (os : List Open) (s : Option Place) (p : Place) (a : Labelled) (st : Stack) → os ≡ [] → StackStands ts os st → BeginStands ts None (or_taken s p a st)
or_of_none ts os s p a (bottom b) e h = tt
or_of_none ts os s p a (in_block ls q b st) e h = tt
or_of_none ts os s p a (in_then ls t st) e h = tt
or_of_none ts os s p a (in_else ls t c u w st) e h = tt
or_of_none ts os s p a (in_body ls o st) e h = tt
or_of_none ts os s p a (in_either t st) e h = absurd (none_open ts os h.0 h.1 h.2 e)

pub else_of_others : (ts : List Tree) (f : Frame) (s : Option Place) (p : Place) (a : Labelled) (st : Stack) → ((g : Begun) (e : ℕ) → f ≡ frame.Then g e → ⊥) → FrameStands ts f st → BeginStands ts None (else_taken s p a st)
else_of_others ts f s p a (bottom b) i h = tt
else_of_others ts f s p a (in_block ls q b st) i h = tt
else_of_others ts frame.Block s p a (in_then ls (if_test z y d r) st) i h = absurd h
else_of_others ts (frame.Then g e) s p a (in_then ls (if_test z y d r) st) i h = absurd (i g e refl)
else_of_others ts (frame.Else g e x) s p a (in_then ls (if_test z y d r) st) i h = absurd h
else_of_others ts (frame.With g bs) s p a (in_then ls (if_test z y d r) st) i h = absurd h
else_of_others ts (frame.While g e) s p a (in_then ls (if_test z y d r) st) i h = absurd h
else_of_others ts (frame.Either g bs) s p a (in_then ls (if_test z y d r) st) i h = absurd h
else_of_others ts f s p a (in_else ls t c u w st) i h = tt
else_of_others ts f s p a (in_body ls o st) i h = tt
else_of_others ts f s p a (in_either t st) i h = tt

pub or_of_others : (ts : List Tree) (f : Frame) (s : Option Place) (p : Place) (a : Labelled) (st : Stack) → ((g : Begun) (bs : Vec (Vec Stmt Global) Global) → f ≡ frame.Either g bs → ⊥) → FrameStands ts f st → BeginStands ts None (or_taken s p a st)
or_of_others ts f s p a (bottom b) i h = tt
or_of_others ts f s p a (in_block ls q b st) i h = tt
or_of_others ts f s p a (in_then ls t st) i h = tt
or_of_others ts f s p a (in_else ls t c u w st) i h = tt
or_of_others ts f s p a (in_body ls o st) i h = tt
or_of_others ts frame.Block s p a (in_either t st) i h = absurd h
or_of_others ts (frame.Then g e) s p a (in_either t st) i h = absurd h
or_of_others ts (frame.Else g e x) s p a (in_either t st) i h = absurd h
or_of_others ts (frame.With g bs) s p a (in_either t st) i h = absurd h
or_of_others ts (frame.While g e) s p a (in_either t st) i h = absurd h
or_of_others ts (frame.Either g bs) s p a (in_either t st) i h = absurd (i g bs refl)

pub brace_of_others : (ts : List Tree) (f : Frame) (s : Option Place) (p : Place) (a : Labelled) (st : Stack) → (f ≡ frame.Block → ⊥) → FrameStands ts f st → MayTurn ts None (brace_taken s p a st)
brace_of_others ts frame.Block s p a (bottom b) i h = absurd h
brace_of_others ts (frame.Then g e) s p a (bottom b) i h = absurd h
brace_of_others ts (frame.Else g e x) s p a (bottom b) i h = absurd h
brace_of_others ts (frame.With g bs) s p a (bottom b) i h = absurd h
brace_of_others ts (frame.While g e) s p a (bottom b) i h = absurd h
brace_of_others ts (frame.Either g bs) s p a (bottom b) i h = absurd h
brace_of_others ts frame.Block s p a (in_block ls q b st) i h = absurd (i refl)
brace_of_others ts (frame.Then g e) s p a (in_block ls q b st) i h = absurd h
brace_of_others ts (frame.Else g e x) s p a (in_block ls q b st) i h = absurd h
brace_of_others ts (frame.With g bs) s p a (in_block ls q b st) i h = absurd h
brace_of_others ts (frame.While g e) s p a (in_block ls q b st) i h = absurd h
brace_of_others ts (frame.Either g bs) s p a (in_block ls q b st) i h = absurd h
brace_of_others ts f s p a (in_then ls t st) i h = tt
brace_of_others ts f s p a (in_else ls t c u w st) i h = tt
brace_of_others ts f s p a (in_body ls o st) i h = tt
brace_of_others ts f s p a (in_either t st) i h = tt

-- ---- an `else`
pub else_taken_by : (ts : List Tree) (s t : State) (under : List Open) (g : Begun) (e d : ℕ) (o : Option Place) (p : Place) (a : Labelled) (st : Stack) → s.stack.items ≡ under ++ record { frame = frame.Then g e; depth = d } ∷ []
    → t.list.items ≡ [] → t.point ≡ point.Begins → t.stack.items ≡ under ++ record { frame = frame.Else g e s.list; depth = d } ∷ [] → t.depth ≡ s.depth → Stands ts s (past_one a st) st → BeginStands ts (Some t) (else_taken o p a st)
else_taken_by ts s t under g e d o p a (bottom b) q l i k m h = absurd (none_open ts s.stack.items under _ q h.stack)
else_taken_by ts s t under g e d o p a (in_block ls w b st) q l i k m h = absurd (innermost_is ts s.stack.items under _ (in_block ls w b st) q h.stack).0.frame
else_taken_by ts s t under g e d o p a (in_else ls x c u w st) q l i k m h = absurd (innermost_is ts s.stack.items under _ (in_else ls x c u w st) q h.stack).0.frame
else_taken_by ts s t under g e d o p a (in_body ls x st) q l i k m h = absurd (innermost_is ts s.stack.items under _ (in_body ls x st) q h.stack).0.frame
else_taken_by ts s t under g e d o p a (in_either x st) q l i k m h = absurd (innermost_is ts s.stack.items under _ (in_either x st) q h.stack).0.frame
else_taken_by ts s t under g e d o p a (in_then ls (if_test u x y r) st) q l i k m h =
    let b = innermost_is ts s.stack.items under _ (in_then ls (if_test u x y r) st) q h.stack in (
      i,
      record {
        list = record { below = omega (arith, ap past_statements l); tree = λ rest. ap (λ (xs : List Stmt). in_list ts xs rest) l };
        stack = (
          under,
          record { frame = frame.Else g e s.list; depth = d },
          k,
          record { frame = (b.0.frame.0, b.0.frame.1, b.0.frame.2, record { below = h.list.below; tree = h.list.tree }); depth = b.0.depth },
          b.1,
        );
        depth = m ∙ h.depth;
      },
    )

-- ---- an `or`
pub or_taken_by : (ts : List Tree) (s t : State) (under : List Open) (g : Begun) (before branches : Vec (Vec Stmt Global) Global) (d : ℕ) (o : Option Place) (p : Place) (a : Labelled) (st : Stack) → s.stack.items ≡ under ++ record { frame = frame.Either g before; depth = d } ∷ []
    → branches.items ≡ before.items ++ s.list ∷ []
    → t.list.items ≡ [] → t.point ≡ point.Begins → t.stack.items ≡ under ++ record { frame = frame.Either g branches; depth = d } ∷ [] → t.depth ≡ s.depth → Stands ts s (past_one a st) st → BeginStands ts (Some t) (or_taken o p a st)
or_taken_by ts s t under g before branches d o p a (bottom b) q z l i k m h = absurd (none_open ts s.stack.items under _ q h.stack)
or_taken_by ts s t under g before branches d o p a (in_block ls w b st) q z l i k m h = absurd (innermost_is ts s.stack.items under _ (in_block ls w b st) q h.stack).0.frame
or_taken_by ts s t under g before branches d o p a (in_then ls x st) q z l i k m h = absurd (innermost_is ts s.stack.items under _ (in_then ls x st) q h.stack).0.frame
or_taken_by ts s t under g before branches d o p a (in_else ls x c u w st) q z l i k m h = absurd (innermost_is ts s.stack.items under _ (in_else ls x c u w st) q h.stack).0.frame
or_taken_by ts s t under g before branches d o p a (in_body ls x st) q z l i k m h = absurd (innermost_is ts s.stack.items under _ (in_body ls x st) q h.stack).0.frame
or_taken_by ts s t under g before branches d o p a (in_either x st) q z l i k m h =
    let b = innermost_is ts s.stack.items under _ (in_either x st) q h.stack in
    let bs = b.0.frame.1 in (
      i,
      record {
        list = record { below = omega (arith, ap past_statements l); tree = λ rest. ap (λ (xs : List Stmt). in_list ts xs rest) l };
        stack = (
          under,
          record { frame = frame.Either g branches; depth = d },
          k,
          record {
            frame = (
              record { list = b.0.frame.0.list; first = b.0.frame.0.first },
              record {
                below = omega (arith, ap past_branches z, past_one_more (λ (y : Vec Stmt Global). past_statements y.items) before.items s.list, bs.below, h.list.below);
                first = ap is_empty z ∙ some_after before.items s.list;
                tree = λ rest. ap (λ (ys : List (Vec Stmt Global)). in_branches ts ys rest) z ∙ in_branches-append ts before.items (s.list ∷ []) rest ∙ bs.tree (tree.or (statements_at ts s.list.items) rest) ∙ (λ j. arms_tree x (tree.or (all_of_list h.list j) rest));
              },
            );
            depth = b.0.depth;
          },
          b.1,
        );
        depth = m ∙ h.depth;
      },
    )
  where
    some_after : (xs : List (Vec Stmt Global)) (y : Vec Stmt Global) → is_empty (xs ++ y ∷ []) ≡ false
    some_after [] y = refl
    some_after (x ∷ xs) y = refl

-- ---- a `}`
flat_before : (b : Before) (ss : Sequence) (rest : Statements) → flat_sequence (with_before b ss) rest ≡ before_tree b (flat_sequence ss rest)
flat_before none ss rest = refl
flat_before (after b a s) ss rest = flat_before b (more_statements a s ss) rest

pub brace_at_bottom : (ts : List Tree) (s : State) (o : Option Place) (p : Place) (a : Labelled) (st : Stack) → s.stack.items ≡ [] → Stands ts s (past_one a st) st → MayTurn ts (Some (turn.Done s.list)) (brace_taken o p a st)
brace_at_bottom ts s o p a (bottom b) e h = record { below = h.list.below; tree = all_of_list h.list ∙ sym (flat_before b (last_statement a o) tree.done) }
brace_at_bottom ts s o p a (in_block ls q b st) e h = absurd (none_open ts s.stack.items h.stack.0 h.stack.1 h.stack.2 e)
brace_at_bottom ts s o p a (in_then ls t st) e h = absurd (none_open ts s.stack.items h.stack.0 h.stack.1 h.stack.2 e)
brace_at_bottom ts s o p a (in_else ls t c u w st) e h = absurd (none_open ts s.stack.items h.stack.0 h.stack.1 h.stack.2 e)
brace_at_bottom ts s o p a (in_body ls t st) e h = absurd (none_open ts s.stack.items h.stack.0 h.stack.1 h.stack.2 e)
brace_at_bottom ts s o p a (in_either t st) e h = absurd (none_open ts s.stack.items h.stack.0 h.stack.1 h.stack.2 e)

pub brace_taken_by : (ts : List Tree) (s t : State) (d : ℕ) (o : Option Place) (p : Place) (a : Labelled) (st : Stack) → s.stack.items ≡ t.stack.items ++ record { frame = frame.Block; depth = d } ∷ []
    → t.list ≡ s.list → t.point ≡ point.Ended (record { last = p; block = true; divided = false }) → t.depth ≡ d → Stands ts s (past_one a st) st → MayTurn ts (Some (turn.On t)) (brace_taken o p a st)
brace_taken_by ts s t d o p a (bottom b) q l i m h = absurd (none_open ts s.stack.items t.stack.items _ q h.stack)
brace_taken_by ts s t d o p a (in_then ls x st) q l i m h = absurd (innermost_is ts s.stack.items t.stack.items _ (in_then ls x st) q h.stack).0.frame
brace_taken_by ts s t d o p a (in_else ls x c u w st) q l i m h = absurd (innermost_is ts s.stack.items t.stack.items _ (in_else ls x c u w st) q h.stack).0.frame
brace_taken_by ts s t d o p a (in_body ls x st) q l i m h = absurd (innermost_is ts s.stack.items t.stack.items _ (in_body ls x st) q h.stack).0.frame
brace_taken_by ts s t d o p a (in_either x st) q l i m h = absurd (innermost_is ts s.stack.items t.stack.items _ (in_either x st) q h.stack).0.frame
brace_taken_by ts s t d o p a (in_block ls w b st) q l i m h =
    let x = innermost_is ts s.stack.items t.stack.items _ (in_block ls w b st) q h.stack in
    let ss = with_before b (last_statement a o) in
    let whole = compound w ss p in
    let ends : p ≡ last_place (labelled_tokens (labelled ls whole) []) = sym (last_labelled ls whole ∙ last_put (put_both (put_one (tk.token w (tk.mark tk.open_brace))) (put_sequence ss)) (mark p tk.close_brace []) refl) in (
      subst (λ (z : Point). PointStands z (labelled ls whole) None) (sym i) (record { last = ends; block = refl; divided = refl }),
      record {
        list = record { below = subst (λ (xs : Vec Stmt Global). past_statements xs.items ≤ length ts) (sym l) h.list.below; tree = λ rest. ap (λ (xs : Vec Stmt Global). in_list ts xs.items rest) l ∙ h.list.tree rest ∙ sym (ap (λ (z : Statements). inner st (with_labels ls z)) (flat_before b (last_statement a o) rest)) };
        stack = x.1;
        depth = m ∙ x.0.depth;
      },
    )
