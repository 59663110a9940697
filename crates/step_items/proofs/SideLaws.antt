-- Lists of which one is taken, where one of them ends its step: the others do too.
use Rattle.std.proofs.Common.{◌≡◌, List, [], Bool, true, false, Option, sym, subst, ◌∙◌}
use Rattle.tla_token.specs.Signs.{is_among}
use Rattle.tla_tree.specs.Tree.{Word, Tree}
use Rattle.module_tree.specs.Formulas.{self}
use Rattle.module_write.specs.declared.«module».Item.{Item}
use Rattle.pcal_tree.specs.Algorithm.{Statements, Branches, no_branches, or, Routine}
use Rattle.pcal_tree.specs.Program.{Program}
use Rattle.pcal_tree.specs.Variables.{vars}
use Rattle.name_bits.specs.declared.bits.Bits.{Bits}
use Rattle.action_builder.specs.Settled.{jumps}
use Rattle.action_builder.specs.laws.Ready.{SettledSome}
use Rattle.step_forms.specs.OldNames.{NoOldSome}
use Rattle.right_sides.specs.After.{put_items}
use Rattle.step_items.specs.declared.desk.Reach.{Reach}
use Rattle.step_items.specs.Branching.{to_end, Side, PlainBranches, FitBranches, each_branch}
use Rattle.step_forms.specs.PartsAssigned.{SomeInParts}
use Rattle.step_items.specs.Writing.{to_write, to_finish, Plain, Writes}
use Rattle.step_items.proofs.ListLaws.{end_finish, end_still, end_plain}
use Rattle.step_items.proofs.RowSteps.{JumpsWithin}

module _ (P : Program) (u : Routine) (x : Option Tree) (earlier : Bits) (here l : Word) (a : Statements) (J : Bool) where
  -- none does
  pub side_still : (us : List Tree) (items : List Item) (r : Reach) → J ≡ false → jumps a ≡ false → Side P x us items earlier r (to_write P u here l a) (jumps a) → Side P x us items earlier r (to_end P u J here l a) J
  side_still us items r h k s = record {
    writes = subst (Writes P (put_items self x) us us [] items earlier r.assigned) (sym (end_still P u here l a J h k)) s.writes;
    ends = s.ends ∙ k ∙ sym h;
  }

  -- one does: what `finish` does to its items
  pub side_finished : (us vs : List Tree) (before after : List Item) (r : Reach) (more : Bits) (k : Bool) → J ≡ true → k ≡ J
      → (Writes P (put_items self x) vs us [] before earlier r.assigned (to_write P u here l a) → r.ends ≡ jumps a → Plain P (to_finish P u here l a) → Writes P (put_items self x) vs vs [] after earlier more (to_finish P u here l a))
      → Side P x us before earlier r (to_write P u here l a) (jumps a) → Plain P (to_end P u J here l a) → Side P x vs after earlier (record { assigned = more; ends = k }) (to_end P u J here l a) J
  side_finished us vs before after r more k h e said s p = record {
    writes =
        subst (Writes P (put_items self x) vs vs [] after earlier more) (sym (end_finish P u here l a J h))
        (said (record { items = s.writes.items; names = s.writes.names }) s.ends (subst (Plain P) (end_finish P u here l a J h) p));
    ends = e;
  }

-- ---- what is asked of branches

-- each can be written without a jump behind it
pub fit_branches : (P : Program) (u : Routine) (here l : Word) (k : Bool) (bs : Branches) → JumpsWithin k bs → PlainBranches P (to_end P u k here l) bs → NoOldSome bs → FitBranches P (to_write P u here l) bs
fit_branches P u here l k no_branches j h n = tt
fit_branches P u here l k (or b bs) j h n = (record { plain = end_plain P u here l b k j.0 h.0; fresh = n.0 }, fit_branches P u here l k bs j.1 h.1 n.1)

pub plain_branches : (P : Program) (f : Statements → Statements) (bs : Branches) → SettledSome (is_among (vars P)) (each_branch f bs) → SomeInParts (each_branch f bs) → PlainBranches P f bs
plain_branches P f no_branches h k = tt
plain_branches P f (or b bs) h k = (record { settled = h.0; parts = k.0 }, plain_branches P f bs h.1 k.1)
