-- Whether an `or` must stand right after a statement that comes: by what stands open in memory.
use Rattle.std.proofs.Common.{◌≡◌, Bool, false, List, [], ◌∷◌, ◌++◌, length, Option, Some, None, refl, sym, ap, ◌∙◌, arith}
use Rattle.tla_tree.specs.Tree.{Tree}
use Rattle.c_reading.specs.ReadStatements.{Stack, bottom, in_block, in_then, in_else, in_body, in_either, if_test, with_opening, while_opening, first_arm, later_arm, before_or}
use Rattle.c_syntax.specs.StatesRead.{FrameStands, StackStands, around}
use Rattle.c_syntax.specs.Closes.{or_by}
use Rattle.c_syntax.specs.declared.open.Frame.{Frame}
use Rattle.c_syntax.specs.declared.open.Frame.TheVariants as frame
use Rattle.c_syntax.specs.declared.open.Open.{Open}
use Rattle.c_syntax.proofs.Ending.{innermost_is}
use Rattle.c_syntax.proofs.Taking.{none_open}

abbrev or_else : Option Bool → Bool → Bool
or_else (Some b) c = b
or_else None c = c

or_told : (ts : List Tree) (f : Frame) (st : Stack) → FrameStands ts f st → before_or st ≡ or_else (or_by f) (before_or (around st))
or_told ts frame.Block (bottom b) h = absurd h
or_told ts frame.Block (in_block ls p b st) h = refl
or_told ts frame.Block (in_then ls (if_test u x d r) st) h = absurd h
or_told ts frame.Block (in_else ls (if_test u x d r) a s p st) h = absurd h
or_told ts frame.Block (in_body ls (with_opening p w cs r) st) h = absurd h
or_told ts frame.Block (in_body ls (while_opening p w d r) st) h = absurd h
or_told ts frame.Block (in_either (first_arm ls p) st) h = absurd h
or_told ts frame.Block (in_either (later_arm t a s p) st) h = absurd h
or_told ts (frame.Then g e) (bottom b) h = absurd h
or_told ts (frame.Then g e) (in_block ls p b st) h = absurd h
or_told ts (frame.Then g e) (in_then ls (if_test u x d r) st) h = refl
or_told ts (frame.Then g e) (in_else ls (if_test u x d r) a s p st) h = absurd h
or_told ts (frame.Then g e) (in_body ls (with_opening p w cs r) st) h = absurd h
or_told ts (frame.Then g e) (in_body ls (while_opening p w d r) st) h = absurd h
or_told ts (frame.Then g e) (in_either (first_arm ls p) st) h = absurd h
or_told ts (frame.Then g e) (in_either (later_arm t a s p) st) h = absurd h
or_told ts (frame.Else g e c) (bottom b) h = absurd h
or_told ts (frame.Else g e c) (in_block ls p b st) h = absurd h
or_told ts (frame.Else g e c) (in_then ls (if_test u x d r) st) h = absurd h
or_told ts (frame.Else g e c) (in_else ls (if_test u x d r) a s p st) h = refl
or_told ts (frame.Else g e c) (in_body ls (with_opening p w cs r) st) h = absurd h
or_told ts (frame.Else g e c) (in_body ls (while_opening p w d r) st) h = absurd h
or_told ts (frame.Else g e c) (in_either (first_arm ls p) st) h = absurd h
or_told ts (frame.Else g e c) (in_either (later_arm t a s p) st) h = absurd h
or_told ts (frame.With g bs) (bottom b) h = absurd h
or_told ts (frame.With g bs) (in_block ls p b st) h = absurd h
or_told ts (frame.With g bs) (in_then ls (if_test u x d r) st) h = absurd h
or_told ts (frame.With g bs) (in_else ls (if_test u x d r) a s p st) h = absurd h
or_told ts (frame.With g bs) (in_body ls (with_opening p w cs r) st) h = refl
or_told ts (frame.With g bs) (in_body ls (while_opening p w d r) st) h = absurd h
or_told ts (frame.With g bs) (in_either (first_arm ls p) st) h = absurd h
or_told ts (frame.With g bs) (in_either (later_arm t a s p) st) h = absurd h
or_told ts (frame.While g e) (bottom b) h = absurd h
or_told ts (frame.While g e) (in_block ls p b st) h = absurd h
or_told ts (frame.While g e) (in_then ls (if_test u x d r) st) h = absurd h
or_told ts (frame.While g e) (in_else ls (if_test u x d r) a s p st) h = absurd h
or_told ts (frame.While g e) (in_body ls (with_opening p w cs r) st) h = absurd h
or_told ts (frame.While g e) (in_body ls (while_opening p w d r) st) h = refl
or_told ts (frame.While g e) (in_either (first_arm ls p) st) h = absurd h
or_told ts (frame.While g e) (in_either (later_arm t a s p) st) h = absurd h
or_told ts (frame.Either g bs) (bottom b) h = absurd h
or_told ts (frame.Either g bs) (in_block ls p b st) h = absurd h
or_told ts (frame.Either g bs) (in_then ls (if_test u x d r) st) h = absurd h
or_told ts (frame.Either g bs) (in_else ls (if_test u x d r) a s p st) h = absurd h
or_told ts (frame.Either g bs) (in_body ls (with_opening p w cs r) st) h = absurd h
or_told ts (frame.Either g bs) (in_body ls (while_opening p w d r) st) h = absurd h
or_told ts (frame.Either g bs) (in_either (first_arm ls p) st) h = sym h.1.first
or_told ts (frame.Either g bs) (in_either (later_arm t a s p) st) h = sym h.1.first

-- what is left of the stack, which tells the same
pub record Left (ts : List Tree) (os : List Open) (st : Stack) : Type 0 where
  pub under : Stack
  pub stands : StackStands ts os under
  pub same : before_or st ≡ before_or under

pub or_is : (ts : List Tree) (os front : List Open) (o : Open) (st : Stack) (b : Bool) → os ≡ front ++ o ∷ [] → (x : Left ts os st) → or_by o.frame ≡ Some b → before_or st ≡ b
or_is ts os front o st b e x q = x.same ∙ or_told ts o.frame x.under (innermost_is ts os front o x.under e x.stands).0.frame ∙ ap (λ (z : Option Bool). or_else z (before_or (around x.under))) q

pub or_left : (ts : List Tree) (os front : List Open) (o : Open) (st : Stack) → os ≡ front ++ o ∷ [] → Left ts os st → or_by o.frame ≡ None → Left ts front st
or_left ts os front o st e x q =
    let i = innermost_is ts os front o x.under e x.stands in
    record { under = around x.under; stands = i.1; same = x.same ∙ or_told ts o.frame x.under i.0.frame ∙ ap (λ (z : Option Bool). or_else z (before_or (around x.under))) q }

pub or_at_bottom : (ts : List Tree) (os : List Open) (st : Stack) → os ≡ [] → Left ts os st → before_or st ≡ false
or_at_bottom ts os st e x = x.same ∙ at_bottom x.under x.stands
  where
    at_bottom : (u : Stack) → StackStands ts os u → before_or u ≡ false
    at_bottom (bottom b) h = refl
    at_bottom (in_block ls p b v) h = refl
    at_bottom (in_then ls t v) h = refl
    at_bottom (in_else ls t a s p v) h = absurd (none_open ts os h.0 h.1 h.2 e)
    at_bottom (in_body ls o v) h = absurd (none_open ts os h.0 h.1 h.2 e)
    at_bottom (in_either t v) h = absurd (none_open ts os h.0 h.1 h.2 e)

pub none_from : {A : Type 0} (o : Option A) → ((a : A) → o ≡ Some a → ⊥) → o ≡ None
none_from None h = refl
none_from (Some a) h = absurd (h a refl)

pub none_in : (os : List Open) → length os ≡ 0 → os ≡ []
none_in [] e = refl
none_in (o ∷ os) e = absurd (omega (arith, e))
