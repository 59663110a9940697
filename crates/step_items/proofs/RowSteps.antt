-- What loops over the branches of an `either` keep, and lists of items that begin with nothing.
use Rattle.std.proofs.Common.{◌≡◌, ℕ, suc, ◌+◌, ◌<◌, ◌≤◌, List, [], ◌∷◌, ◌++◌, Bool, true, length, get_or, drop, Option, Vec, Global, sym, ap, subst, ◌∙◌, add-one}
use Rattle.std.proofs.lemmas.Bool.{or_left, or_right}
use Rattle.tla_token.specs.Signs.{is_among}
use Rattle.tla_tree.specs.Tree.{Word, Tree}
use Rattle.tla_tree.specs.Pool.{Keeps}
use Rattle.module_tree.specs.Formulas.{self}
use Rattle.module_write.specs.declared.«module».Item.{Item}
use Rattle.module_write.specs.InMemory.{items_at}
use Rattle.pcal_tree.specs.declared.algorithm.Stmt.{Stmt}
use Rattle.pcal_tree.specs.Algorithm.{Statements, Branches, no_branches, or, Routine}
use Rattle.pcal_tree.specs.Program.{Program}
use Rattle.pcal_tree.specs.Variables.{vars}
use Rattle.name_bits.specs.declared.bits.Bits.{Bits}
use Rattle.name_bits.specs.NamesIn.{names_in}
use Rattle.action_builder.specs.Settled.{jumps, jumps_some}
use Rattle.action_builder.specs.Written.{onto, write}
use Rattle.right_sides.specs.After.{put_items}
use Rattle.step_items.specs.declared.desk.Reach.{Reach}
use Rattle.step_items.specs.declared.statements.Row.{Row}
use Rattle.step_items.specs.Branching.{to_end, Side, Rows, past_rows, PlainBranches, FitBranches}
use Rattle.step_items.specs.Writing.{named, to_write, Plain, Fits, Writes}
use Rattle.step_items.proofs.WeightLaws.{from_member}
use Rattle.step_items.proofs.RowLaws.{Halves, halves_more, halves_all, named_branches, Opened}

-- items behind nothing
pub behind_nothing : (P : Program) (x : Option Tree) (ts us : List Tree) (before after : List Item) (earlier : Bits) (r : Reach) (S : Statements) (k : Bool) → before ≡ [] → Writes P (put_items self x) ts us before after earlier r.assigned S → r.ends ≡ k
    → Side P x us after earlier r S k
behind_nothing P x ts us before after earlier r S k none w e = record {
  writes = record {
    items = w.items ∙ ap (λ (is : List Item). onto (items_at ts is) (put_items self x (write (vars P) (is_among (names_in (vars P) earlier)) S))) none;
    names = w.names;
  };
  ends = e;
}

-- one branch more has its items
pub open_more : (P : Program) (u : Routine) (x : Option Tree) (ts us vs : List Tree) → Keeps us vs → (earlier : Bits) (here l : Word) (rs qs : List Row) (bs : List (Vec Stmt Global)) (i : ℕ) (b : Vec Stmt Global) (r : Row)
    → past_rows rs ≤ length us → b ≡ get_or bs i b → i < length bs → qs ≡ rs ++ r ∷ []
    → (Fits P (to_write P u here l (named P u ts b.items)) (named P u ts b.items) → Side P x vs r.items.items earlier r.reach (to_write P u here l (named P u ts b.items)) (jumps (named P u ts b.items)))
    → Opened P u x ts us earlier here l rs bs (drop i bs) → Opened P u x ts vs earlier here l qs bs (drop (i + 1) bs)
open_more P u x ts us vs keeps earlier here l rs qs bs i b r low is less e side h fits =
    let f = to_write P u here l in
    let from = from_member bs i b is less in
    let Q : List (Vec Stmt Global) → Type 0 = λ (cs : List (Vec Stmt Global)). FitBranches P f (named_branches P u ts cs) in
    let half : Halves P x earlier us f jumps rs (Q (b ∷ drop (suc i) bs)) (named_branches P u ts bs) (named_branches P u ts (b ∷ drop (suc i) bs)) =
    subst (λ (cs : List (Vec Stmt Global)). Halves P x earlier us f jumps rs (Q cs) (named_branches P u ts bs) (named_branches P u ts cs)) from (h fits) in
    subst (λ (n : ℕ). Halves P x earlier vs f jumps qs (Q (drop n bs)) (named_branches P u ts bs) (named_branches P u ts (drop n bs))) (sym (add-one i))
    (halves_more P x earlier us vs keeps f jumps rs qs (Q (b ∷ drop (suc i) bs)) (Q (drop (suc i) bs)) (named_branches P u ts bs) (named P u ts b.items) (named_branches P u ts (drop (suc i) bs)) r low e half half.left.1 (side half.left.0))

-- ---- rows that are finished one after another

-- a branch jumps only where one of them does
abbrev pub JumpsWithin : Bool → Branches → Type 0
JumpsWithin k no_branches = Unit {0}
JumpsWithin k (or b bs) = (jumps b ≡ true → k ≡ true) × JumpsWithin k bs

within_more : (k : Bool) (bs : Branches) → (jumps_some bs ≡ true → k ≡ true) → JumpsWithin k bs
within_more k no_branches h = tt
within_more k (or b bs) h = (λ e. h (or_left (jumps b) (jumps_some bs) e), within_more k bs (λ e. h (or_right (jumps b) (jumps_some bs) e)))

pub some_within : (k : Bool) (bs : Branches) → k ≡ jumps_some bs → JumpsWithin k bs
some_within k bs e = within_more k bs (λ h. e ∙ h)

module _ (P : Program) (u : Routine) (x : Option Tree) (ts : List Tree) (earlier : Bits) (here l : Word) (k : Bool) where
  -- of the rows that are left
  pub record Unfinished (rs : List Row) (back : Branches) : Type 0 where
    pub rows : Rows P x ts earlier (to_write P u here l) jumps rs back
    pub plain : PlainBranches P (to_end P u k here l) back
    pub within : JumpsWithin k back

  pub record Finishing (us : List Tree) (qs rs : List Row) (bs : Branches) : Type 0 where
    pub back : Branches
    pub halves : Halves P x earlier us (to_end P u k here l) (λ b. k) qs (Unfinished rs back) bs back

  -- one more is finished, given what is so of a row that is left
  pub finishing_more : (us vs : List Tree) → Keeps us vs → (ds qs : List Row) (r q : Row) (rs : List Row) (bs : Branches) → past_rows ds ≤ length us → qs ≡ ds ++ q ∷ []
      → ((b : Statements) → Side P x ts r.items.items earlier r.reach (to_write P u here l b) (jumps b) → (jumps b ≡ true → k ≡ true) → Plain P (to_end P u k here l b) → Side P x vs q.items.items earlier q.reach (to_end P u k here l b) k)
      → Finishing us ds (r ∷ rs) bs → Finishing vs qs rs bs
  finishing_more us vs keeps ds qs r q rs bs low e said f = by f.back f.halves
    where
      by : (back : Branches) → Halves P x earlier us (to_end P u k here l) (λ b. k) ds (Unfinished (r ∷ rs) back) bs back → Finishing vs qs rs bs
      by no_branches h = absurd h.left.rows
      by (or b back) h = record {
        back = back;
        halves =
            halves_more P x earlier us vs keeps (to_end P u k here l) (λ b. k) ds qs (Unfinished (r ∷ rs) (or b back)) (Unfinished rs back) bs b back q low e h
            (record { rows = h.left.rows.1; plain = h.left.plain.1; within = h.left.within.1 }) (said b h.left.rows.0 h.left.within.0 h.left.plain.0);
      }

  pub finishing_all : (us : List Tree) (qs : List Row) (bs : Branches) → Finishing us qs [] bs → Rows P x us earlier (to_end P u k here l) (λ b. k) qs bs
  finishing_all us qs bs f = by f.back f.halves
    where
      by : (back : Branches) → Halves P x earlier us (to_end P u k here l) (λ b. k) qs (Unfinished [] back) bs back → Rows P x us earlier (to_end P u k here l) (λ b. k) qs bs
      by no_branches h = halves_all P x earlier us (to_end P u k here l) (λ b. k) qs (Unfinished [] no_branches) bs h
      by (or b back) h = absurd h.left.rows
