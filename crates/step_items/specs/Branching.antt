-- Lists of which one is taken, and what is written for each ("A PlusCal User's Manual", section 3.2: if, either, while and with).
use Rattle.std.specs.Prelude.{◌≡◌, ℕ, List, [], ◌∷◌, Bool, cond, map, Option}
use Rattle.std.specs.List.{list_any}
use Rattle.tla_token.specs.Signs.{is_among}
use Rattle.tla_token.specs.declared.place.Place.{Place}
use Rattle.tla_tree.specs.Nesting.{greatest}
use Rattle.tla_tree.specs.Tree.{Word, Tree}
use Rattle.module_tree.specs.Formulas.{self, named, quoted, equal}
use Rattle.module_tree.specs.Module.{either as any, Items, no_items, item, Branches as Lists, no_branches as no_lists, branch as list}
use Rattle.module_write.specs.declared.«module».Item.{Item}
use Rattle.module_write.specs.InMemory.{items_at, past_items}
use Rattle.pcal_tree.specs.declared.algorithm.Bind.{Bind}
use Rattle.pcal_tree.specs.Algorithm.{Binds, no_binds, Statements, Branches, no_branches, or, Routine}
use Rattle.pcal_tree.specs.Expand.{graft_binds, graft_all}
use Rattle.pcal_tree.specs.InMemory.{binds_at}
use Rattle.pcal_tree.specs.Calls.{label_name}
use Rattle.pcal_tree.specs.Program.{Program}
use Rattle.pcal_tree.specs.Variables.{pc}
use Rattle.name_bits.specs.declared.bits.Bits.{Bits}
use Rattle.name_bits.specs.NamesIn.{names_in}
use Rattle.action_builder.specs.Assigned.{Names}
use Rattle.action_builder.specs.Settled.{settled}
use Rattle.action_builder.specs.Written.{nested_items, branch_items}
use Rattle.action_builder.specs.WrittenNames.{renames}
use Rattle.right_sides.specs.After.{put_items}
use Rattle.step_items.specs.declared.desk.Reach.{Reach}
use Rattle.step_items.specs.declared.statements.Row.{Row}
use Rattle.step_items.specs.Writing.{jumps_of, own_of, Fits, Plain, Writes}

-- settled where one of the lists jumps, else as it is
abbrev pub to_end : Program → Routine → Bool → Word → Word → Statements → Statements
to_end P u ends here l ss = graft_all (own_of P) (cond ends (settled (jumps_of P u) here l ss) ss)

-- binds in memory by their written names, at their process
abbrev pub own_binds : Program → Routine → List Tree → List Bind → Binds
own_binds P u ts bs = graft_binds (own_of P) (graft_binds (renames P u) (binds_at ts bs))

-- round the items of a body; without binds it is one branch
abbrev pub with_items : Names → Binds → Items → Items
with_items A no_binds b = item (any (list b no_lists)) no_items
with_items A bs b = nested_items A bs b

-- a list of its own: its items, what they assign, and whether they end their step
pub record Side (P : Program) (x : Option Tree) (us : List Tree) (items : List Item) (earlier : Bits) (r : Reach) (S : Statements) (k : Bool) : Type 0 where
  pub writes : Writes P (put_items self x) us us [] items earlier r.assigned S
  pub ends : r.ends ≡ k

-- ---- the branches of an `either`

-- those of f b, for each branch b
abbrev pub Rows : Program → Option Tree → List Tree → Bits → (Statements → Statements) → (Statements → Bool) → List Row → Branches → Type 0
Rows P x us earlier f k [] no_branches = Unit {0}
Rows P x us earlier f k [] (or b bs) = ⊥
Rows P x us earlier f k (r ∷ rs) no_branches = ⊥
Rows P x us earlier f k (r ∷ rs) (or b bs) = Side P x us r.items.items earlier r.reach (f b) (k b) × Rows P x us earlier f k rs bs

abbrev pub past_row : Row → ℕ
past_row r = past_items r.items.items

abbrev pub past_rows : List Row → ℕ
past_rows rs = greatest (map past_row rs)

-- whether one of them ends its step, and what all of them assign
abbrev pub rows_end : List Row → Bool
rows_end rs = list_any (λ (r : Row). r.reach.ends) rs

abbrev pub rows_assign : List Word → List Row → Word → Bool
rows_assign vs rs y = list_any (λ (r : Row). is_among (names_in vs r.reach.assigned) y) rs

-- each can be written where it ends its step or another does
abbrev pub PlainBranches : Program → (Statements → Statements) → Branches → Type 0
PlainBranches P f no_branches = Unit {0}
PlainBranches P f (or b bs) = Plain P (f b) × PlainBranches P f bs

abbrev pub FitBranches : Program → (Statements → Statements) → Branches → Type 0
FitBranches P f no_branches = Unit {0}
FitBranches P f (or b bs) = Fits P (f b) b × FitBranches P f bs

abbrev pub each_branch : (Statements → Statements) → Branches → Branches
each_branch f no_branches = no_branches
each_branch f (or b bs) = or (f b) (each_branch f bs)

-- their lists, with UNCHANGED for what others assign
abbrev pub closed_lists : List Word → Place → List Word → List Tree → List Row → Lists
closed_lists vs at all ts [] = no_lists
closed_lists vs at all ts (r ∷ rs) = list (branch_items vs at (items_at ts r.items.items) all (names_in vs r.reach.assigned)) (closed_lists vs at all ts rs)

-- ---- where a step begins

-- pc = "L", before its process is written to it
abbrev pub pc_test : Program → Routine → Word → Tree
pc_test P u l = equal (named pc) (quoted (label_name P u l))
