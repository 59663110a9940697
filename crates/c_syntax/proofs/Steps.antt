-- Steps in code where a statement comes: what is read, and what is held then.
use Rattle.std.proofs.Common.{◌≡◌, ℕ, ◌+◌, ◌≤◌, Bool, true, false, List, [], ◌∷◌, ◌++◌, length, Vec, Global, None, Ok, refl, sym, ap, subst, ◌∙◌, arith}
use Rattle.tla_token.specs.declared.place.Place.{Place}
use Rattle.tla_tree.specs.Tree.{Tree, Name}
use Rattle.tla_tree.specs.Lexical.{TokenView, Token}
use Rattle.tla_tree.specs.Lexical as tk
use Rattle.tla_tree.specs.Pool.{Keeps}
use Rattle.tla_tree.specs.Reader.{Out, Reader, then_read, refuses}
use Rattle.expr_nodes.specs.declared.cursor.Halt.{Halt}
use Rattle.expr_nodes.specs.ReadIn.{Fails}
use Rattle.pcal_tree.specs.declared.mark.Mark.{Mark}
use Rattle.pcal_tree.specs.declared.algorithm.Span.{Span}
use Rattle.pcal_tree.specs.declared.algorithm.Simple as declared_simple
use Rattle.pcal_tree.specs.declared.algorithm.Stmt.{Stmt}
use Rattle.pcal_tree.specs.declared.algorithm.Stmt.TheVariants as stmt
use Rattle.pcal_tree.specs.Algorithm.{Statements}
use Rattle.pcal_tree.specs.Algorithm as tree
use Rattle.pcal_tree.specs.InMemory.{span_of, simple_at, past_simple, past_statements}
use Rattle.pcal_tree.proofs.InMemoryEach.{label_at, past_label, simple_in_list_at, past_simple_in_list}
use Rattle.pcal_tree.proofs.InMemoryGrown.{binds_at-kept}
use Rattle.pcal_tree.specs.GrammarParts.{span, Colon, Labels, no_labels, Simple, simple_tokens, simple_tree, GoodSimple}
use Rattle.pcal_tree.specs.GrammarC.{labelled, simple}
use Rattle.syntax_reading.specs.TokenReaders.{Parts}
use Rattle.syntax_reading.specs.ReadAround.{with_label}
use Rattle.syntax_reading.specs.ReadSimple.{simple_words}
use Rattle.algorithm_reader.specs.PartsRead.{mark_of}
use Rattle.algorithm_reader.specs.SimpleRead.{simple_by, simple_reader}
use Rattle.syntax_reading.proofs.Sound.{Sound, SoundAt, here, sound_refuses, sound_next, sound_stays, sound_past, sound_pick}
use Rattle.syntax_reading.proofs.SoundParts.{SoundParts}
use Rattle.syntax_reading.proofs.SoundSimple.{named_sound, words_sound}
use Rattle.algorithm_reader.proofs.StatementSteps.{label_mark}
use Rattle.c_reading.specs.ReadStatements as reader
use Rattle.c_reading.specs.ReadStatements.{Stack, none, bottom, in_block, in_then, in_else, in_body, in_either, if_test, with_opening, while_opening, first_arm, depth}
use Rattle.c_syntax.specs.declared.open.Frame.{Frame}
use Rattle.c_syntax.specs.declared.open.Frame.TheVariants as frame
use Rattle.c_syntax.specs.declared.open.Open.{Open}
use Rattle.c_syntax.specs.declared.open.Point.{Point}
use Rattle.c_syntax.specs.declared.open.Point.TheVariants as point
use Rattle.c_syntax.specs.declared.open.State.{State}
use Rattle.algorithm_reader.specs.ListsRead.{in_list, ListStands}
use Rattle.c_syntax.specs.StatesRead.{inner, up_to, past_one, around, BegunStands, BranchesStand, FrameStands, OpenStands, StackStands, Stands, PointStands, StateStands}
use Rattle.algorithm_reader.proofs.InLists.{one_more_stands, list_kept, in_branches-kept}
use Rattle.c_reading.proofs.Lasts.{last_labelled, put_simple}

-- ---- a pool that grows keeps what stands open
module _ (ts us : List Tree) (k : Keeps ts us) where
  frame_kept : (f : Frame) (st : Stack) → FrameStands ts f st → FrameStands us f st
  frame_kept frame.Block (in_block ls p b st) h = tt
  frame_kept (frame.Then g e) (in_then ls (if_test p q x r) st) h = (record { list = list_kept ts us k g.list.items _ h.0.list; first = h.0.first }, omega (arith, h.1, k.longer), k.same e h.1 ∙ h.2)
  frame_kept (frame.Else g e c) (in_else ls (if_test p q x r) a s u st) h = (record { list = list_kept ts us k g.list.items _ h.0.list; first = h.0.first }, omega (arith, h.1, k.longer), k.same e h.1 ∙ h.2, list_kept ts us k c.items _ h.3)
  frame_kept (frame.With g bs) (in_body ls (with_opening p q cs r) st) h = (record { list = list_kept ts us k g.list.items _ h.0.list; first = h.0.first }, omega (arith, h.1, k.longer), binds_at-kept ts us k bs.items h.1 ∙ h.2)
  frame_kept (frame.While g e) (in_body ls (while_opening p q x r) st) h = (record { list = list_kept ts us k g.list.items _ h.0.list; first = h.0.first }, omega (arith, h.1, k.longer), k.same e h.1 ∙ h.2)
  frame_kept (frame.Either g bs) (in_either t st) h = (
    record { list = list_kept ts us k g.list.items _ h.0.list; first = h.0.first },
    record { below = omega (arith, h.1.below, k.longer); first = h.1.first; tree = λ rest. in_branches-kept ts us k bs.items rest h.1.below ∙ h.1.tree rest },
  )
  frame_kept _ _ h = absurd h

  open_kept : (o : Open) (st : Stack) → OpenStands ts o st → OpenStands us o st
  open_kept o st h = record { frame = frame_kept o.frame st h.frame; depth = h.depth }

  stack_kept : (os : List Open) (st : Stack) → StackStands ts os st → StackStands us os st
  stack_kept os (bottom b) h = h
  stack_kept os (in_block ls p b st) h = (h.0, h.1, h.2, open_kept h.1 (in_block ls p b st) h.3, stack_kept h.0 st h.4)
  stack_kept os (in_then ls t st) h = (h.0, h.1, h.2, open_kept h.1 (in_then ls t st) h.3, stack_kept h.0 st h.4)
  stack_kept os (in_else ls t a s p st) h = (h.0, h.1, h.2, open_kept h.1 (in_else ls t a s p st) h.3, stack_kept h.0 st h.4)
  stack_kept os (in_body ls o st) h = (h.0, h.1, h.2, open_kept h.1 (in_body ls o st) h.3, stack_kept h.0 st h.4)
  stack_kept os (in_either t st) h = (h.0, h.1, h.2, open_kept h.1 (in_either t st) h.3, stack_kept h.0 st h.4)

  pub stands_kept : (s : State) (f : Statements → Statements) (st : Stack) → Stands ts s f st → Stands us s f st
  stands_kept s f st h = record { list = list_kept ts us k s.list.items f h.list; stack = stack_kept s.stack.items st h.stack; depth = h.depth }

-- ---- refused behind what was read
pub fails_on : {A B : Type 0} (e : Halt) (o : Out A) (f : A → Reader B) (a : A) (us : List Token) → o ≡ Ok (a, us) → Fails e (f a us) → Fails e (then_read o f)
fails_on e o f a us q h = subst (λ (z : Out _). Fails e (then_read z f)) (sym q) h

-- ---- labels
pub label_stands : (ts : List Tree) (s t : State) (ls : Labels) (st : Stack) (x : Name) (m : Mark) (c : Colon) → Stands ts s (up_to ls st) st → m ≡ mark_of c
    → t.list.items ≡ s.list.items ++ stmt.Label x m ∷ [] → t.stack ≡ s.stack → t.point ≡ point.Begins → t.depth ≡ s.depth → StateStands ts t (reader.begin (with_label ls x c) st)
label_stands ts s t ls st x m c h e l k a d = (
  a,
  record {
    list = one_more_stands ts s.list.items t.list.items (stmt.Label x m) (up_to ls st) (up_to (with_label ls x c) st) h.list l (omega (arith, past_label x m))
        (λ rest. ap (up_to ls st) (ap (λ (f : Statements → Statements). f rest) (label_at ts x m) ∙ ap (λ (z : Mark). tree.mark x z rest) e) ∙ ap (inner st) (sym (label_mark ls x c rest)));
    stack = rw k h.stack;
    depth = d ∙ h.depth;
  },
)

-- ---- statements with none in them
module _ (m : Parts) (h : SoundParts m) where
  by_simple_sound : (n : ℕ) (p : Place) (k : TokenView) → SoundAt p k here GoodSimple simple_tokens (simple_by m n p k)
  by_simple_sound n p (tk.word x) = sound_past refl (sound_next (λ q k. sound_stays (named_sound m h n (record { place = p; word = x }) q k)))
  by_simple_sound n p (tk.reserved w) = sound_pick w (simple_words m p) refuses (words_sound m h p) (sound_stays sound_refuses)
  by_simple_sound n p k = sound_stays sound_refuses

  simple_sound : (n : ℕ) → Sound here GoodSimple simple_tokens (simple_reader m n)
  simple_sound n = sound_next (by_simple_sound n)

  pub simple_between : (n : ℕ) (ts us : List Token) (s : Simple) → simple_reader m n ts ≡ Ok (s, us) → ts ≡ simple_tokens s [] ++ us
  simple_between n ts us s e = sym ((simple_sound n).is ts s us e).1 ∙ (put_simple s).is us

pub simple_stands : (ts : List Tree) (s t : State) (ls : Labels) (st : Stack) (q : Span) (x : declared_simple.Simple) (c : Simple) → Stands ts s (up_to ls st) st
    → past_simple x ≤ length ts → simple_at ts x ≡ simple_tree c → span_of q ≡ span (simple_tokens c [])
    → t.list.items ≡ s.list.items ++ stmt.Simple q x ∷ [] → t.stack ≡ s.stack → t.point ≡ point.Ended (record { last = q.last; block = false; divided = false }) → t.depth ≡ s.depth → StateStands ts t (reader.ended (labelled ls (simple c)) None st)
simple_stands ts s t ls st q x c h w e f l k a d = (
  subst (λ (z : Point). PointStands z (labelled ls (simple c)) None) (sym a) (record { last = ap (λ (z : tree.Span). z.last) f ∙ sym (last_labelled ls (simple c)); block = refl; divided = refl }),
  record {
    list = one_more_stands ts s.list.items t.list.items (stmt.Simple q x) (up_to ls st) (past_one (labelled ls (simple c)) st) h.list l (omega (arith, w, past_simple_in_list q x))
        (λ rest. ap (up_to ls st) (ap (λ (g : Statements → Statements). g rest) (simple_in_list_at ts q x) ∙ (λ j. tree.then (f j) (e j) rest)));
    stack = rw k h.stack;
    depth = d ∙ h.depth;
  },
)

-- ---- statements that open
nothing_yet : (ts : List Tree) (l : List Stmt) → l ≡ [] → ListStands ts l (λ rest. rest)
nothing_yet ts l e = rw e (record { below = omega arith; tree = λ rest. refl })

abbrev has_own_list : Stack → Bool
has_own_list (bottom b) = false
has_own_list (in_block ls p b st) = false
has_own_list st = true

pub opened_stands : (ts : List Tree) (t : State) (under : List Open) (o : Open) (st : Stack) → has_own_list st ≡ true → StackStands ts under (around st) → OpenStands ts o st
    → t.list.items ≡ [] → t.stack.items ≡ under ++ o ∷ [] → t.point ≡ point.Begins → t.depth ≡ depth st → StateStands ts t (reader.begin no_labels st)
opened_stands ts t under o (bottom b) w h i l k a d = absurd cc
opened_stands ts t under o (in_block ls p b st) w h i l k a d = absurd cc
opened_stands ts t under o (in_then ls x st) w h i l k a d = (a, record { list = nothing_yet ts t.list.items l; stack = (under, o, k, i, h); depth = d })
opened_stands ts t under o (in_else ls x c u p st) w h i l k a d = (a, record { list = nothing_yet ts t.list.items l; stack = (under, o, k, i, h); depth = d })
opened_stands ts t under o (in_body ls x st) w h i l k a d = (a, record { list = nothing_yet ts t.list.items l; stack = (under, o, k, i, h); depth = d })
opened_stands ts t under o (in_either x st) w h i l k a d = (a, record { list = nothing_yet ts t.list.items l; stack = (under, o, k, i, h); depth = d })

pub begun_stands : (ts : List Tree) (s : State) (ls : Labels) (p q : Place) (st : Stack) → Stands ts s (up_to ls st) st → p ≡ q → BegunStands ts (record { list = s.list; first = p }) ls q st
begun_stands ts s ls p q st h e = record { list = record { below = h.list.below; tree = h.list.tree }; first = e }

pub block_stands : (ts : List Tree) (s t : State) (ls : Labels) (p : Place) (st : Stack) → Stands ts s (up_to ls st) st → t.list.items ≡ s.list.items → t.stack.items ≡ s.stack.items ++ record { frame = frame.Block; depth = s.depth } ∷ []
    → t.point ≡ point.Begins → t.depth ≡ depth st + 1 → StateStands ts t (reader.begin no_labels (in_block ls p none st))
block_stands ts s t ls p st h l k a d = (
  a,
  record {
    list = record { below = omega (arith, h.list.below, ap past_statements l); tree = λ rest. ap (λ (xs : List Stmt). in_list ts xs rest) l ∙ h.list.tree rest };
    stack = (s.stack.items, record { frame = frame.Block; depth = s.depth }, k, record { frame = tt; depth = h.depth }, h.stack);
    depth = d;
  },
)

pub first_branch_stands : (ts : List Tree) (ls : Labels) (p : Place) (bs : List (Vec Stmt Global)) → bs ≡ [] → BranchesStand ts bs (first_arm ls p)
first_branch_stands ts ls p bs n = rw n (record { below = omega arith; first = refl; tree = λ rest. refl })
