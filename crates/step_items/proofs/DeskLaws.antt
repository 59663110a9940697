-- A desk: what is put in for names is what its program puts in for them, and it stays one as the pool grows.
use Rattle.std.proofs.Common.{◌≡◌, ℕ, ◌≤◌, List, length, Bool, true, false, cond, Option, Some, None, refl, sym, ap, ◌∙◌, arith}
use Rattle.std.specs.Option.{option_map}
use Rattle.tla_token.specs.Signs.{is_among}
use Rattle.tla_token.specs.declared.place.Place.{Place}
use Rattle.tla_tree.specs.Tree.{Word, Form, name, Tree, node, Trees, no_trees, Graft, grafted_name, grafted_node, graft, grafts}
use Rattle.tla_tree.specs.Pool.{at, Keeps}
use Rattle.tla_value.specs.Grafts.{own_part, owned}
use Rattle.module_tree.specs.Formulas.{self}
use Rattle.module_write.proofs.InMemoryGrown.{maybe-kept}
use Rattle.pcal_tree.specs.Algorithm.{Routine, declares, locals}
use Rattle.pcal_tree.specs.Expand.{placed_at, graft_left}
use Rattle.pcal_tree.specs.Program.{Program, written}
use Rattle.pcal_tree.specs.Variables.{vars}
use Rattle.name_bits.specs.declared.bits.Bits.{Bits}
use Rattle.name_bits.specs.NamesIn.{names_in}
use Rattle.written_names.specs.Units.{naming_of}
use Rattle.prime_subst.specs.Readers.{renames_of}
use Rattle.draft.proofs.Grown.{draft_kept}
use Rattle.right_sides.proofs.AfterLaws.{maybe_more}
use Rattle.action_builder.specs.OwnVariables.{is_own_variable}
use Rattle.action_builder.specs.WrittenNames.{renames}
use Rattle.step_items.specs.declared.desk.Desk.{Desk}
use Rattle.step_items.specs.Desks.{DeskIn, IsDesk}
use Rattle.step_items.specs.Writing.{own_of}

-- ---- its numbers

pub desk_more : (m n : ℕ) (d : Desk) → m ≤ n → DeskIn m d → DeskIn n d
desk_more m n d le h = record { draft = (let b = h.draft in omega (arith, le, b)); single = maybe_more m n d.single le h.single }

-- ---- it stays

-- whatever stands for `self`
pub desk_grown : (ts us : List Tree) → Keeps ts us → (d : Desk) (P : Program) (u : Routine) (x : Option Tree) → IsDesk ts d P u x → IsDesk us d P u (option_map (at us) d.single)
desk_grown ts us k d P u x h = record {
  draft = draft_kept ts us k d.draft.now P h.draft;
  one = h.one;
  number = h.number;
  ordered = h.ordered;
  listed = h.listed;
  titles = h.titles;
  empty = h.empty;
  single = refl;
  few = h.few;
}

pub desk_kept : (ts us : List Tree) → Keeps ts us → (d : Desk) (P : Program) (u : Routine) (x : Option Tree) → DeskIn (length ts) d → IsDesk ts d P u x → IsDesk us d P u x
desk_kept ts us k d P u x b h = record {
  draft = draft_kept ts us k d.draft.now P h.draft;
  one = h.one;
  number = h.number;
  ordered = h.ordered;
  listed = h.listed;
  titles = h.titles;
  empty = h.empty;
  single = maybe-kept ts us k d.single b.single ∙ h.single;
  few = h.few;
}

-- ---- what is put in

module _ (ts : List Tree) (d : Desk) (P : Program) (u : Routine) (x : Option Tree) (h : IsDesk ts d P u x) where
  pub order_is : d.draft.now.order.now ≡ vars P
  order_is = h.draft.order

  pub names_are : (b : Bits) → names_in d.draft.now.order.now b ≡ names_in (vars P) b
  names_are b = ap (λ (order : List Word). names_in order b) h.draft.order

  pub renames_put : renames_of (is_among d.locals.now) ((naming_of d.draft.now.naming.now).local d.unit) ≡ renames P u
  renames_put = λ i. renames_of (is_among (sym h.ordered i)) ((h.draft.naming i).local (sym h.number i))

  pub own_put : owned d.draft.now.this.now (is_among (names_in d.draft.now.order.now d.draft.now.own.now)) ≡ own_of P
  own_put = λ i. owned (h.draft.this i) (λ y. h.draft.own y i)

-- ---- left sides

-- what is put in for a name is at its place
abbrev pub StaysAt : Graft → Type 0
StaysAt g = (x : Word) (at : Place) (ts : Trees) → placed_at at (grafted_name (g x at) (name x) at ts) ≡ grafted_name (g x at) (name x) at ts

node_stays : (g : Graft) → StaysAt g → (m : Form) (at : Place) (ts : Trees) → placed_at at (grafted_node g m at ts) ≡ grafted_node g m at ts
node_stays g h (name x) at ts = h x at ts
node_stays g h m at ts = refl

-- so a left side is made as other expressions are
pub left_stays : (g : Graft) → StaysAt g → (l : Tree) → graft_left g l ≡ graft g l
left_stays g h (node m at ts) = node_stays g h m at (grafts g ts)

pub renames_stay : (P : Program) (u : Routine) → StaysAt (renames P u)
renames_stay P u x at ts = by (declares (locals u) x)
  where
    t : Tree
    t = node (name (written P u x)) at no_trees

    by : (b : Bool) → placed_at at (grafted_name (cond b (Some t) None) (name x) at ts) ≡ grafted_name (cond b (Some t) None) (name x) at ts
    by true = refl
    by false = refl

pub own_stays : (P : Program) → StaysAt (own_of P)
own_stays P x at ts = by (is_own_variable P x)
  where
    by : (b : Bool) → placed_at at (grafted_name (cond b (Some (own_part self x at)) None) (name x) at ts) ≡ grafted_name (cond b (Some (own_part self x at)) None) (name x) at ts
    by true = refl
    by false = refl
