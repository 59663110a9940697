-- Which statements end with one that has ended: in memory those that the reader of tokens has end.
use Rattle.std.proofs.Common.{◌≡◌, Bool, true, false, cond, List, [], ◌∷◌, ◌++◌, length, Option, Some, None, refl, sym, ap, ◌∙◌, subst, arith, length-append}
use Rattle.std.proofs.lemmas.List.{same_from_push}
use Rattle.tla_token.specs.declared.place.Place.{Place}
use Rattle.tla_tree.specs.Tree.{Tree}
use Rattle.pcal_tree.specs.GrammarParts.{last_place}
use Rattle.pcal_tree.specs.GrammarC.{Labelled, labelled_tokens}
use Rattle.c_reading.specs.ReadStatements.{Stack, bottom, in_block, in_then, in_else, in_body, in_either, first_arm, later_arm, if_test, with_opening, while_opening, closed}
use Rattle.c_reading.specs.ReadStatements as reader
use Rattle.algorithm_reader.specs.ListsRead.{ListStands}
use Rattle.c_syntax.specs.StatesRead.{FrameStands, OpenStands, StackStands, past_one, around}
use Rattle.c_syntax.specs.Closes.{ask_seen, fate, fate_at, can_end, ended_with, EndStands, AllClosed}
use Rattle.c_syntax.specs.declared.open.Frame.{Frame}
use Rattle.c_syntax.specs.declared.open.Frame.TheVariants as frame
use Rattle.c_syntax.specs.declared.open.Open.{Open}
use Rattle.c_syntax.specs.declared.open.State.{State}
use Rattle.c_syntax.specs.declared.close.Ask.{Ask}
use Rattle.c_syntax.specs.declared.close.Ask.TheVariants as ask
use Rattle.c_syntax.specs.declared.close.Fate.{Fate}
use Rattle.c_syntax.specs.declared.close.Fate.TheVariants as it
use Rattle.c_syntax.proofs.EndsOne.{last_ended, block_ended}

-- ---- the innermost
abbrev is_bottom : Stack → Bool
is_bottom (bottom b) = true
is_bottom st = false

record Innermost (ts : List Tree) (os : List Open) (st : Stack) : Type 0 where
  pub under : List Open
  pub top : Open
  pub split : os ≡ under ++ top ∷ []
  pub stands : OpenStands ts top st
  pub rest : StackStands ts under (around st)

innermost : (ts : List Tree) (os : List Open) (st : Stack) → is_bottom st ≡ false → StackStands ts os st → Innermost ts os st
innermost ts os (bottom b) i h = absurd cc
innermost ts os (in_block ls p b st) i h = record { under = h.0; top = h.1; split = h.2; stands = h.3; rest = h.4 }
innermost ts os (in_then ls t st) i h = record { under = h.0; top = h.1; split = h.2; stands = h.3; rest = h.4 }
innermost ts os (in_else ls t a s p st) i h = record { under = h.0; top = h.1; split = h.2; stands = h.3; rest = h.4 }
innermost ts os (in_body ls o st) i h = record { under = h.0; top = h.1; split = h.2; stands = h.3; rest = h.4 }
innermost ts os (in_either t st) i h = record { under = h.0; top = h.1; split = h.2; stands = h.3; rest = h.4 }

none_at_bottom : (ts : List Tree) (os : List Open) (st : Stack) → is_bottom st ≡ true → StackStands ts os st → os ≡ []
none_at_bottom ts os (bottom b) i h = h
none_at_bottom ts os (in_block ls p b st) i h = absurd cc
none_at_bottom ts os (in_then ls t st) i h = absurd cc
none_at_bottom ts os (in_else ls t a s p st) i h = absurd cc
none_at_bottom ts os (in_body ls o st) i h = absurd cc
none_at_bottom ts os (in_either t st) i h = absurd cc

-- with this one in memory
pub innermost_is : (ts : List Tree) (os front : List Open) (o : Open) (st : Stack) → os ≡ front ++ o ∷ [] → StackStands ts os st → OpenStands ts o st × StackStands ts front (around st)
innermost_is ts os front o st e h = by (is_bottom st) refl
  where
    by : (b : Bool) → is_bottom st ≡ b → OpenStands ts o st × StackStands ts front (around st)
    by true i = absurd (omega (arith, ap length (sym e ∙ none_at_bottom ts os st i h), length-append front (o ∷ [])))
    by false i =
        let x = innermost ts os st i h in
        let same = same_from_push x.under front x.top o (sym x.split ∙ e) in
        (subst (λ (p : Open). OpenStands ts p st) same.1 x.stands, subst (λ (us : List Open). StackStands ts us (around st)) same.0 x.rest)

-- ---- what it does
frame_fate : (ts : List Tree) (f : Frame) (st : Stack) (q : Ask) → FrameStands ts f st → fate f q ≡ fate_at st q
frame_fate ts frame.Block (bottom b) q h = absurd h
frame_fate ts frame.Block (in_block ls p b st) ask.Else h = refl
frame_fate ts frame.Block (in_block ls p b st) ask.Or h = refl
frame_fate ts frame.Block (in_block ls p b st) ask.Other h = refl
frame_fate ts frame.Block (in_then ls (if_test u x d r) st) q h = absurd h
frame_fate ts frame.Block (in_else ls (if_test u x d r) a s p st) q h = absurd h
frame_fate ts frame.Block (in_body ls (with_opening p w cs r) st) q h = absurd h
frame_fate ts frame.Block (in_body ls (while_opening p w d r) st) q h = absurd h
frame_fate ts frame.Block (in_either t st) q h = absurd h
frame_fate ts (frame.Then g e) (bottom b) q h = absurd h
frame_fate ts (frame.Then g e) (in_block ls p b st) q h = absurd h
frame_fate ts (frame.Then g e) (in_then ls (if_test u x d r) st) ask.Else h = refl
frame_fate ts (frame.Then g e) (in_then ls (if_test u x d r) st) ask.Or h = refl
frame_fate ts (frame.Then g e) (in_then ls (if_test u x d r) st) ask.Other h = refl
frame_fate ts (frame.Then g e) (in_else ls (if_test u x d r) a s p st) q h = absurd h
frame_fate ts (frame.Then g e) (in_body ls (with_opening p w cs r) st) q h = absurd h
frame_fate ts (frame.Then g e) (in_body ls (while_opening p w d r) st) q h = absurd h
frame_fate ts (frame.Then g e) (in_either t st) q h = absurd h
frame_fate ts (frame.Else g e c) (bottom b) q h = absurd h
frame_fate ts (frame.Else g e c) (in_block ls p b st) q h = absurd h
frame_fate ts (frame.Else g e c) (in_then ls (if_test u x d r) st) q h = absurd h
frame_fate ts (frame.Else g e c) (in_else ls (if_test u x d r) a s p st) q h = refl
frame_fate ts (frame.Else g e c) (in_body ls (with_opening p w cs r) st) q h = absurd h
frame_fate ts (frame.Else g e c) (in_body ls (while_opening p w d r) st) q h = absurd h
frame_fate ts (frame.Else g e c) (in_either t st) q h = absurd h
frame_fate ts (frame.With g bs) (bottom b) q h = absurd h
frame_fate ts (frame.With g bs) (in_block ls p b st) q h = absurd h
frame_fate ts (frame.With g bs) (in_then ls (if_test u x d r) st) q h = absurd h
frame_fate ts (frame.With g bs) (in_else ls (if_test u x d r) a s p st) q h = absurd h
frame_fate ts (frame.With g bs) (in_body ls (with_opening p w cs r) st) q h = refl
frame_fate ts (frame.With g bs) (in_body ls (while_opening p w d r) st) q h = absurd h
frame_fate ts (frame.With g bs) (in_either t st) q h = absurd h
frame_fate ts (frame.While g e) (bottom b) q h = absurd h
frame_fate ts (frame.While g e) (in_block ls p b st) q h = absurd h
frame_fate ts (frame.While g e) (in_then ls (if_test u x d r) st) q h = absurd h
frame_fate ts (frame.While g e) (in_else ls (if_test u x d r) a s p st) q h = absurd h
frame_fate ts (frame.While g e) (in_body ls (with_opening p w cs r) st) q h = absurd h
frame_fate ts (frame.While g e) (in_body ls (while_opening p w d r) st) q h = refl
frame_fate ts (frame.While g e) (in_either t st) q h = absurd h
frame_fate ts (frame.Either g bs) (bottom b) q h = absurd h
frame_fate ts (frame.Either g bs) (in_block ls p b st) q h = absurd h
frame_fate ts (frame.Either g bs) (in_then ls (if_test u x d r) st) q h = absurd h
frame_fate ts (frame.Either g bs) (in_else ls (if_test u x d r) a s p st) q h = absurd h
frame_fate ts (frame.Either g bs) (in_body ls (with_opening p w cs r) st) q h = absurd h
frame_fate ts (frame.Either g bs) (in_body ls (while_opening p w d r) st) q h = absurd h
frame_fate ts (frame.Either g bs) (in_either t st) ask.Else h = ap (λ (b : Bool). cond b it.Stops it.Ends) h.1.first
frame_fate ts (frame.Either g bs) (in_either t st) ask.Or h = refl
frame_fate ts (frame.Either g bs) (in_either t st) ask.Other h = ap (λ (b : Bool). cond b it.Stops it.Ends) h.1.first

pub stack_fate : (ts : List Tree) (os front : List Open) (o : Open) (st : Stack) (q : Ask) → os ≡ front ++ o ∷ [] → StackStands ts os st → fate o.frame q ≡ fate_at st q
stack_fate ts os front o st q e h = frame_fate ts o.frame st q (innermost_is ts os front o st e h).0.frame

abbrev fate_of_none : Ask → Fate
fate_of_none ask.Other = it.Takes
fate_of_none q = it.Stops

pub bottom_fate : (ts : List Tree) (os : List Open) (st : Stack) (q : Ask) → os ≡ [] → StackStands ts os st → fate_of_none q ≡ fate_at st q
bottom_fate ts os (bottom b) ask.Else e h = refl
bottom_fate ts os (bottom b) ask.Or e h = refl
bottom_fate ts os (bottom b) ask.Other e h = refl
bottom_fate ts os (in_block ls p b st) q e h = absurd (omega (arith, ap length (sym h.2 ∙ e), length-append h.0 (h.1 ∷ [])))
bottom_fate ts os (in_then ls t st) q e h = absurd (omega (arith, ap length (sym h.2 ∙ e), length-append h.0 (h.1 ∷ [])))
bottom_fate ts os (in_else ls t a s p st) q e h = absurd (omega (arith, ap length (sym h.2 ∙ e), length-append h.0 (h.1 ∷ [])))
bottom_fate ts os (in_body ls o st) q e h = absurd (omega (arith, ap length (sym h.2 ∙ e), length-append h.0 (h.1 ∷ [])))
bottom_fate ts os (in_either t st) q e h = absurd (omega (arith, ap length (sym h.2 ∙ e), length-append h.0 (h.1 ∷ [])))

pub ends_can_end : (st : Stack) (q : Ask) → fate_at st q ≡ it.Ends → can_end st ≡ true
ends_can_end (bottom b) ask.Else h = absurd cc
ends_can_end (bottom b) ask.Or h = absurd cc
ends_can_end (bottom b) ask.Other h = absurd cc
ends_can_end (in_block ls p b st) ask.Else h = absurd cc
ends_can_end (in_block ls p b st) ask.Or h = absurd cc
ends_can_end (in_block ls p b st) ask.Other h = absurd cc
ends_can_end (in_then ls (if_test u x d r) st) ask.Else h = absurd cc
ends_can_end (in_then ls (if_test u x d r) st) ask.Or h = refl
ends_can_end (in_then ls (if_test u x d r) st) ask.Other h = refl
ends_can_end (in_else ls (if_test u x d r) a s p st) ask.Else h = refl
ends_can_end (in_else ls (if_test u x d r) a s p st) ask.Or h = refl
ends_can_end (in_else ls (if_test u x d r) a s p st) ask.Other h = refl
ends_can_end (in_body ls (with_opening p w cs r) st) ask.Else h = refl
ends_can_end (in_body ls (with_opening p w cs r) st) ask.Or h = refl
ends_can_end (in_body ls (with_opening p w cs r) st) ask.Other h = refl
ends_can_end (in_body ls (while_opening p w d r) st) ask.Else h = refl
ends_can_end (in_body ls (while_opening p w d r) st) ask.Or h = refl
ends_can_end (in_body ls (while_opening p w d r) st) ask.Other h = refl
ends_can_end (in_either (first_arm ls p) st) ask.Else h = absurd cc
ends_can_end (in_either (later_arm t a s p) st) ask.Else h = refl
ends_can_end (in_either (first_arm ls p) st) ask.Or h = absurd cc
ends_can_end (in_either (later_arm t a s p) st) ask.Or h = absurd cc
ends_can_end (in_either (first_arm ls p) st) ask.Other h = absurd cc
ends_can_end (in_either (later_arm t a s p) st) ask.Other h = refl

-- ---- and so `closed` goes from one to the next
abbrev by_fate : Fate → reader.Ask → Labelled → Stack → Option (Labelled × Stack)
by_fate it.Takes q a st = Some (a, st)
by_fate it.Stops q a st = None
by_fate it.Ends q a st = closed q (ended_with a st) (around st)

pub closed_by : (q : Ask) (a : Labelled) (st : Stack) → closed (ask_seen q) a st ≡ by_fate (fate_at st q) (ask_seen q) a st
closed_by ask.Else a (bottom b) = refl
closed_by ask.Or a (bottom b) = refl
closed_by ask.Other a (bottom b) = refl
closed_by ask.Else a (in_block ls p b st) = refl
closed_by ask.Or a (in_block ls p b st) = refl
closed_by ask.Other a (in_block ls p b st) = refl
closed_by ask.Else a (in_then ls (if_test u x d r) st) = refl
closed_by ask.Or a (in_then ls (if_test u x d r) st) = refl
closed_by ask.Other a (in_then ls (if_test u x d r) st) = refl
closed_by ask.Else a (in_else ls (if_test u x d r) c s p st) = refl
closed_by ask.Or a (in_else ls (if_test u x d r) c s p st) = refl
closed_by ask.Other a (in_else ls (if_test u x d r) c s p st) = refl
closed_by ask.Else a (in_body ls (with_opening p w cs r) st) = refl
closed_by ask.Or a (in_body ls (with_opening p w cs r) st) = refl
closed_by ask.Other a (in_body ls (with_opening p w cs r) st) = refl
closed_by ask.Else a (in_body ls (while_opening p w d r) st) = refl
closed_by ask.Or a (in_body ls (while_opening p w d r) st) = refl
closed_by ask.Other a (in_body ls (while_opening p w d r) st) = refl
closed_by ask.Else a (in_either (first_arm ls p) st) = refl
closed_by ask.Else a (in_either (later_arm t c s p) st) = refl
closed_by ask.Or a (in_either (first_arm ls p) st) = refl
closed_by ask.Or a (in_either (later_arm t c s p) st) = refl
closed_by ask.Other a (in_either (first_arm ls p) st) = refl
closed_by ask.Other a (in_either (later_arm t c s p) st) = refl

pub one_ends : (ts : List Tree) (s t : State) (last : Place) (b : Bool) (a : Labelled) (st : Stack) (o : Open) → s.stack.items ≡ t.stack.items ++ o ∷ [] → t.depth ≡ o.depth
    → (FrameStands ts o.frame st → ListStands ts s.list.items (past_one a st) → last ≡ last_place (labelled_tokens a []) → can_end st ≡ true → ListStands ts t.list.items (past_one (ended_with a st) (around st)))
    → EndStands ts s last b a st → can_end st ≡ true → EndStands ts t last b (ended_with a st) (around st)
one_ends ts s t last b a st o e d f h i =
    let x = innermost_is ts s.stack.items t.stack.items o st e h.all.stack in
    record {
      place = h.place ∙ sym (last_ended a st i);
      block = h.block ∙ sym (block_ended a st i);
      all = record { list = f x.0.frame h.all.list h.place i; stack = x.1; depth = d ∙ x.0.depth };
    }

-- where the innermost does this
pub closed_where : (q : Ask) (a : Labelled) (st : Stack) (f : Fate) → fate_at st q ≡ f → closed (ask_seen q) a st ≡ by_fate f (ask_seen q) a st
closed_where q a st f e = closed_by q a st ∙ ap (λ (g : Fate). by_fate g (ask_seen q) a st) e

-- up to a statement these have ended, and the rest is still to end
pub record SoFar (s t : State) (last : Place) (q : Ask) (ts : List Tree) (b : Bool) (a : Labelled) (st : Stack) : Type 0 where
  pub what : Labelled
  pub under : Stack
  pub stands : EndStands ts t last b what under
  pub same : closed (ask_seen q) a st ≡ closed (ask_seen q) what under

pub one_further : (s t u : State) (last : Place) (q : Ask) (ts : List Tree) (b : Bool) (a : Labelled) (st : Stack) → (x : SoFar s t last q ts b a st) → fate_at x.under q ≡ it.Ends
    → ((c : Labelled) (v : Stack) → EndStands ts t last b c v → can_end v ≡ true → EndStands ts u last b (ended_with c v) (around v)) → SoFar s u last q ts b a st
one_further s t u last q ts b a st x e f = record {
  what = ended_with x.what x.under;
  under = around x.under;
  stands = f x.what x.under x.stands (ends_can_end x.under q e);
  same = x.same ∙ closed_where q x.what x.under it.Ends e;
}

pub taken : (s t : State) (last : Place) (q : Ask) (ts : List Tree) (b : Bool) (a : Labelled) (st : Stack) → (x : SoFar s t last q ts b a st) → fate_at x.under q ≡ it.Takes → AllClosed ts last b (Some t) (closed (ask_seen q) a st)
taken s t last q ts b a st x e = subst (AllClosed ts last b (Some t)) (sym (x.same ∙ closed_where q x.what x.under it.Takes e)) x.stands

pub stopped : (s t : State) (last : Place) (q : Ask) (ts : List Tree) (b : Bool) (a : Labelled) (st : Stack) → (x : SoFar s t last q ts b a st) → fate_at x.under q ≡ it.Stops → AllClosed ts last b None (closed (ask_seen q) a st)
stopped s t last q ts b a st x e = subst (AllClosed ts last b None) (sym (x.same ∙ closed_where q x.what x.under it.Stops e)) tt
