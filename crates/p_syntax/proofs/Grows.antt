-- A pool that grows keeps what stands open in memory.
use Rattle.std.proofs.Common.{◌≡◌, ◌≤◌, List, [], ◌∷◌, ◌++◌, length, map, Vec, Global, refl, ap, ◌∙◌, arith}
use Rattle.tla_token.specs.declared.place.Place.{Place}
use Rattle.tla_tree.specs.Tree.{Tree}
use Rattle.tla_tree.specs.Pool.{Keeps}
use Rattle.tla_tree.specs.Nesting.{greatest}
use Rattle.pcal_tree.specs.declared.algorithm.Stmt.{Stmt}
use Rattle.pcal_tree.specs.Algorithm.{Statements}
use Rattle.pcal_tree.specs.Algorithm as tree
use Rattle.pcal_tree.proofs.InMemoryGrown.{statements_at-kept, binds_at-kept}
use Rattle.pcal_tree.specs.GrammarP.{Sequence, statements}
use Rattle.algorithm_reader.specs.PartsRead.{StandsFor}
use Rattle.algorithm_reader.proofs.InLists.{list_kept, in_branches-kept}
use Rattle.p_reading.specs.ReadStatements as reader
use Rattle.p_reading.specs.ReadStatements.{Stack, bottom, inside}
use Rattle.p_syntax.specs.declared.open.Test.{Test}
use Rattle.p_syntax.specs.declared.open.Frame.{Frame}
use Rattle.p_syntax.specs.declared.open.Frame.TheVariants as frame
use Rattle.p_syntax.specs.declared.open.Open.{Open}
use Rattle.p_syntax.specs.declared.open.State.{State}
use Rattle.p_syntax.specs.StatesRead.{nested, past_test, FrameStands, StackStands, Stands, list_at, past_list}

module _ (ts us : List Tree) (k : Keeps ts us) where
  nested_kept : (xs : List Test) → greatest (map past_test xs) ≤ length ts → (last : Place) (rest : Statements) → nested us xs last rest ≡ nested ts xs last rest
  nested_kept [] h last rest = refl
  nested_kept (x ∷ xs) h last rest =
      λ j. tree.then (record { first = x.place; last = last }) (tree.branch (k.same x.test (omega (arith, h)) j) (statements_at-kept ts us k x.then.items (omega (arith, h)) j) (nested_kept xs (omega (arith, h)) last rest j)) tree.done

  frame_grows : (f : Frame) (g : reader.Frame) → FrameStands ts f g → FrameStands us f g
  frame_grows (frame.Then xs a e) (reader.in_then t) h = record {
    below = omega (arith, h.below, k.longer);
    within = omega (arith, h.within, k.longer);
    tree = λ last x y. nested_kept xs.items h.below last _ ∙ ap (λ (z : Tree). nested ts xs.items last (tree.then (record { first = a; last = last }) (tree.branch z x y) tree.done)) (k.same e h.within) ∙ h.tree last x y;
  }
  frame_grows (frame.Else xs x) (reader.in_else t c a) h = record { below = omega (arith, h.below, k.longer); tree = λ last y. nested_kept (xs.items ++ x ∷ []) h.below last y ∙ h.tree last y }
  frame_grows (frame.Either a bs) (reader.in_either t) h = record { place = h.place; below = omega (arith, h.below, k.longer); first = h.first; tree = λ rest. in_branches-kept ts us k bs.items rest h.below ∙ h.tree rest }
  frame_grows (frame.With a bs) (reader.in_with b cs q) h = (h.0, omega (arith, h.1, k.longer), binds_at-kept ts us k bs.items h.1 ∙ h.2)
  frame_grows (frame.While a e) (reader.in_while b f q) h = (h.0, omega (arith, h.1, k.longer), k.same e h.1 ∙ h.2)
  frame_grows _ _ h = absurd h

  pub stack_grows : (os : List Open) (st : Stack) → StackStands ts os st → StackStands us os st
  stack_grows os bottom h = h
  stack_grows os (inside f b ls st) h =
      let o = h.1 in
      (h.0, o, h.2, record { frame = frame_grows o.frame f h.3.frame; before = list_kept ts us k o.before.items _ h.3.before; depth = h.3.depth }, stack_grows h.0 st h.4)

  pub stands_grow : (s : State) (f : Statements → Statements) (st : Stack) → Stands ts s f st → Stands us s f st
  stands_grow s f st h = record { list = list_kept ts us k s.list.items f h.list; stack = stack_grows s.stack.items st h.stack; depth = h.depth }

  pub whole_grows : (l : Vec Stmt Global) (c : Sequence) → StandsFor list_at past_list statements ts l c → StandsFor list_at past_list statements us l c
  whole_grows l c h = record { below = omega (arith, h.below, k.longer); tree = statements_at-kept ts us k l.items h.below ∙ h.tree }
