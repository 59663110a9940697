-- The branches of an `either` with their items, one after another.
use Rattle.std.proofs.lemmas.List.{take_more}
use Rattle.std.proofs.Common.{◌≡◌, ℕ, ◌+◌, ◌<◌, ◌≤◌, take, get_or, List, [], ◌∷◌, ◌++◌, append-nil, Bool, true, false, cond, ◌||◌, length, Option, Some, None, Vec, Global, refl, sym, ap, subst, ◌∙◌, arith}
use Rattle.tla_token.specs.Signs.{is_among}
use Rattle.tla_token.specs.declared.place.Place.{Place}
use Rattle.tla_tree.specs.Tree.{Word, Tree}
use Rattle.tla_tree.specs.Pool.{Keeps}
use Rattle.module_tree.specs.Formulas.{self}
use Rattle.module_tree.specs.Module.{either as any, Items, no_items, item, Branches as Lists, no_branches as no_lists, branch as list}
use Rattle.module_write.specs.declared.«module».Item.{Item}
use Rattle.module_write.specs.declared.«module».Item.TheVariants.{Either}
use Rattle.module_write.specs.InMemory.{items_at, branches_at as lists_at, past_items, past_branches as past_lists}
use Rattle.module_write.proofs.InMemoryGrown.{items_at-kept}
use Rattle.module_write.proofs.ItemEquations.{either_at}
use Rattle.pcal_tree.specs.declared.algorithm.Stmt.{Stmt}
use Rattle.pcal_tree.specs.Algorithm.{Span, either, Statements, done, then, Branches, no_branches, or, Routine}
use Rattle.pcal_tree.specs.Run.{unlabelled}
use Rattle.pcal_tree.specs.Expand.{graft_all, graft_some}
use Rattle.pcal_tree.specs.InMemory.{branches_at}
use Rattle.pcal_tree.specs.Program.{Program}
use Rattle.pcal_tree.specs.Variables.{vars}
use Rattle.pcal_tree.proofs.InMemoryEach.{past_one_more}
use Rattle.name_bits.specs.declared.bits.Bits.{Bits}
use Rattle.name_bits.specs.NamesIn.{names_in}
use Rattle.action_builder.specs.SingleProcess.{in_place_of, graft_branches}
use Rattle.action_builder.specs.Assigned.{assigned_in, assigned_by}
use Rattle.action_builder.specs.Settled.{jumps, jumps_some, settled, settled_some}
use Rattle.action_builder.specs.Written.{onto, branch_items, write, write_some}
use Rattle.action_builder.specs.WrittenNames.{renames}
use Rattle.action_builder.proofs.Sets.{member_append}
use Rattle.right_sides.specs.After.{put_items}
use Rattle.step_items.specs.declared.desk.Reach.{Reach}
use Rattle.step_items.specs.declared.statements.Row.{Row}
use Rattle.step_items.specs.Branching.{to_end, Side, Rows, past_row, past_rows, rows_end, rows_assign, FitBranches, each_branch, closed_lists}
use Rattle.step_items.specs.Writing.{jumps_of, own_of, either_part, to_write, Writes}
use Rattle.right_sides.proofs.AfterLaws.{items_last}
use Rattle.step_items.proofs.BranchLaws.{side_list}

-- ---- one after another

abbrev pub joined : Branches → Branches → Branches
joined no_branches cs = cs
joined (or b bs) cs = or b (joined bs cs)

joined_none : (bs : Branches) → joined bs no_branches ≡ bs
joined_none no_branches = refl
joined_none (or b bs) = ap (or b) (joined_none bs)

joined_again : (bs cs ds : Branches) → joined (joined bs cs) ds ≡ joined bs (joined cs ds)
joined_again no_branches cs ds = refl
joined_again (or b bs) cs ds = ap (or b) (joined_again bs cs ds)

module _ (P : Program) (x : Option Tree) (earlier : Bits) where
  pub side_grown : (us vs : List Tree) → Keeps us vs → (items : List Item) (r : Reach) (S : Statements) (k : Bool) → past_items items ≤ length us → Side P x us items earlier r S k → Side P x vs items earlier r S k
  side_grown us vs keeps items r S k b h = record { writes = record { items = items_at-kept us vs keeps items b ∙ h.writes.items; names = h.writes.names }; ends = h.ends }

  rows_grown : (us vs : List Tree) → Keeps us vs → (f : Statements → Statements) (k : Statements → Bool) (rs : List Row) (bs : Branches) → past_rows rs ≤ length us → Rows P x us earlier f k rs bs → Rows P x vs earlier f k rs bs
  rows_grown us vs keeps f k [] no_branches b h = tt
  rows_grown us vs keeps f k [] (or c bs) b h = h
  rows_grown us vs keeps f k (r ∷ rs) no_branches b h = h
  rows_grown us vs keeps f k (r ∷ rs) (or c bs) b h =
      (side_grown us vs keeps r.items.items r.reach (f c) (k c) (omega (arith, b)) h.0, rows_grown us vs keeps f k rs bs (omega (arith, b)) h.1)

  rows_push : (us : List Tree) (f : Statements → Statements) (k : Statements → Bool) (rs : List Row) (bs : Branches) (r : Row) (b : Statements) → Rows P x us earlier f k rs bs → Side P x us r.items.items earlier r.reach (f b) (k b)
      → Rows P x us earlier f k (rs ++ r ∷ []) (joined bs (or b no_branches))
  rows_push us f k [] no_branches r b h s = (s, tt)
  rows_push us f k [] (or c bs) r b h s = absurd h
  rows_push us f k (q ∷ rs) no_branches r b h s = absurd h
  rows_push us f k (q ∷ rs) (or c bs) r b h s = (h.0, rows_push us f k rs bs r b h.1 s)

  -- those that are done, and what is asked of those that are left
  pub record Halves (us : List Tree) (f : Statements → Statements) (k : Statements → Bool) (rs : List Row) (Q : Type 0) (bs back : Branches) : Type 0 where
    pub front : Branches
    pub both : bs ≡ joined front back
    pub done : Rows P x us earlier f k rs front
    pub left : Q

  pub halves_first : (us : List Tree) (f : Statements → Statements) (k : Statements → Bool) (rs : List Row) (Q : Type 0) (bs : Branches) → rs ≡ [] → Q → Halves us f k rs Q bs bs
  halves_first us f k rs Q bs e q = record { front = no_branches; both = refl; done = subst (λ (l : List Row). Rows P x us earlier f k l no_branches) (sym e) tt; left = q }

  pub halves_more : (us vs : List Tree) → Keeps us vs → (f : Statements → Statements) (k : Statements → Bool) (rs qs : List Row) (Q R : Type 0) (bs : Branches) (b : Statements) (back : Branches) (r : Row) → past_rows rs ≤ length us → qs ≡ rs ++ r ∷ []
      → Halves us f k rs Q bs (or b back) → R → Side P x vs r.items.items earlier r.reach (f b) (k b) → Halves vs f k qs R bs back
  halves_more us vs keeps f k rs qs Q R bs b back r low e h q s = record {
    front = joined h.front (or b no_branches);
    both = h.both ∙ sym (joined_again h.front (or b no_branches) back);
    done = subst (λ (l : List Row). Rows P x vs earlier f k l (joined h.front (or b no_branches))) (sym e) (rows_push vs f k rs h.front r b (rows_grown us vs keeps f k rs h.front low h.done) s);
    left = q;
  }

  pub halves_all : (us : List Tree) (f : Statements → Statements) (k : Statements → Bool) (rs : List Row) (Q : Type 0) (bs : Branches) → Halves us f k rs Q bs no_branches → Rows P x us earlier f k rs bs
  halves_all us f k rs Q bs h = subst (Rows P x us earlier f k rs) (sym (h.both ∙ joined_none h.front)) h.done

pub past_rows_more : (m n : ℕ) (rs qs : List Row) (r : Row) → past_rows rs ≤ m → m ≤ n → past_row r ≤ n → qs ≡ rs ++ r ∷ [] → past_rows qs ≤ n
past_rows_more m n rs qs r h le k e = let one = past_one_more past_row rs r in let all = ap past_rows e in omega (arith, one, all, h, le, k)

-- ---- what each has before any is finished

-- branches in memory by their written names
abbrev pub named_branches : Program → Routine → List Tree → List (Vec Stmt Global) → Branches
named_branches P u ts bs = graft_some (renames P u) (branches_at ts bs)

abbrev pub Opened : Program → Routine → Option Tree → List Tree → List Tree → Bits → Word → Word → List Row → List (Vec Stmt Global) → List (Vec Stmt Global) → Type 0
Opened P u x ts us earlier here l rs all rest =
    FitBranches P (to_write P u here l) (named_branches P u ts all)
    → Halves P x earlier us (to_write P u here l) jumps rs (FitBranches P (to_write P u here l) (named_branches P u ts rest)) (named_branches P u ts all) (named_branches P u ts rest)

-- ---- all of them

module _ (P : Program) (x : Option Tree) (us : List Tree) (earlier : Bits) where
  pub rows_end_is : (f : Statements → Statements) (rs : List Row) (bs : Branches) → Rows P x us earlier f jumps rs bs → rows_end rs ≡ jumps_some bs
  rows_end_is f [] no_branches h = refl
  rows_end_is f [] (or b bs) h = absurd h
  rows_end_is f (r ∷ rs) no_branches h = absurd h
  rows_end_is f (r ∷ rs) (or b bs) h = λ i. h.0.ends i || rows_end_is f rs bs h.1 i

  pub rows_assign_is : (f : Statements → Statements) (k : Statements → Bool) (rs : List Row) (bs : Branches) → Rows P x us earlier f k rs bs → (y : Word) → rows_assign (vars P) rs y ≡ is_among (assigned_by (each_branch f bs)) y
  rows_assign_is f k [] no_branches h y = refl
  rows_assign_is f k [] (or b bs) h y = absurd h
  rows_assign_is f k (r ∷ rs) no_branches h y = absurd h
  rows_assign_is f k (r ∷ rs) (or b bs) h y = (λ i. h.0.writes.names y i || rows_assign_is f k rs bs h.1 y i) ∙ sym (member_append (assigned_in (f b)) (assigned_by (each_branch f bs)) y)

  -- what is put in for a name in each list
  abbrev put_lists : Option Tree → Lists → Lists
  put_lists None ls = ls
  put_lists (Some e) ls = graft_branches (in_place_of self e) ls

  lists_put : (is : Items) (ls : Lists) → list (put_items self x is) (put_lists x ls) ≡ put_lists x (list is ls)
  lists_put is ls = by x
    where
      by : (y : Option Tree) → list (put_items self y is) (put_lists y ls) ≡ put_lists y (list is ls)
      by None = refl
      by (Some e) = refl

  none_put : put_lists x no_lists ≡ no_lists
  none_put = by x
    where
      by : (y : Option Tree) → put_lists y no_lists ≡ no_lists
      by None = refl
      by (Some e) = refl

  any_put : (ls : Lists) → item (any (put_lists x ls)) no_items ≡ put_items self x (item (any ls) no_items)
  any_put ls = by x
    where
      by : (y : Option Tree) → item (any (put_lists y ls)) no_items ≡ put_items self y (item (any ls) no_items)
      by None = refl
      by (Some e) = refl

  rows_closed : (f : Statements → Statements) (k : Statements → Bool) (order : List Word) (place at_first : Place) (all : Bits) (names : List Word) → order ≡ vars P → at_first ≡ place → ((y : Word) → is_among (names_in (vars P) all) y ≡ is_among names y)
      → (rs : List Row) (bs : Branches) → Rows P x us earlier f k rs bs
      → closed_lists order place (names_in order all) us rs ≡ put_lists x (write_some (vars P) (is_among (names_in (vars P) earlier)) at_first names (each_branch f bs))
  rows_closed f k order place at_first all names o p n [] no_branches h = sym none_put
  rows_closed f k order place at_first all names o p n [] (or b bs) h = absurd h
  rows_closed f k order place at_first all names o p n (r ∷ rs) no_branches h = absurd h
  rows_closed f k order place at_first all names o p n (r ∷ rs) (or b bs) h =
      (λ i. list (side_list P x us r.items.items earlier r.reach (f b) (k b) order place at_first all names o p h.0 n i) (rows_closed f k order place at_first all names o p n rs bs h.1 i))
      ∙ lists_put (branch_items (vars P) at_first (write (vars P) (is_among (names_in (vars P) earlier)) (f b)) names (assigned_in (f b)))
      (write_some (vars P) (is_among (names_in (vars P) earlier)) at_first names (each_branch f bs))

  -- the item of all
  pub either_written : (ts vs : List Tree) (before after : List Item) (lists : Vec (Vec Item Global) Global) (f : Statements → Statements) (k : Statements → Bool) (order : List Word) (s : Span) (place : Place) (all : Bits) (rs : List Row) (bs : Branches)
      → order ≡ vars P → s.first ≡ place → Rows P x us earlier f k rs bs → ((vs : List Word) (y : Word) → is_among (names_in vs all) y ≡ rows_assign vs rs y)
      → lists_at vs lists.items ≡ closed_lists order place (names_in order all) us rs → items_at vs before ≡ items_at ts before → after ≡ before ++ Either lists ∷ []
      → Writes P (put_items self x) ts vs before after earlier all (then s (either (each_branch f bs)) done)
  either_written ts vs before after lists f k order s place all rs bs o p h n c kept e =
      let names : (y : Word) → is_among (names_in (vars P) all) y ≡ is_among (assigned_by (each_branch f bs)) y = λ y. n (vars P) y ∙ rows_assign_is f k rs bs h y in
      let written : Lists = write_some (vars P) (is_among (names_in (vars P) earlier)) s.first (assigned_by (each_branch f bs)) (each_branch f bs) in
      record {
        items =
            ap (items_at vs) e
            ∙ items_last vs before (Either lists)
            ∙ (λ i. onto (kept i) (item (either_at vs lists i) no_items))
            ∙ (λ i. onto (items_at ts before) (item (any ((c ∙ rows_closed f k order place s.first all (assigned_by (each_branch f bs)) o p names rs bs h) i)) no_items))
            ∙ ap (onto (items_at ts before)) (any_put written);
        names = λ y. names y ∙ ap (λ (zs : List Word). is_among zs y) (sym (append-nil (assigned_by (each_branch f bs))));
      }

-- ---- the statement

module _ (P : Program) (u : Routine) (l : Word) where
  each_settled : (bs : Branches) → graft_some (own_of P) (settled_some (jumps_of P u) l bs) ≡ each_branch (to_end P u true unlabelled l) bs
  each_settled no_branches = refl
  each_settled (or b bs) = ap (or (graft_all (own_of P) (settled (jumps_of P u) unlabelled l b))) (each_settled bs)

  each_still : (bs : Branches) → graft_some (own_of P) bs ≡ each_branch (to_end P u false unlabelled l) bs
  each_still no_branches = refl
  each_still (or b bs) = ap (or (graft_all (own_of P) b)) (each_still bs)

  pub either_ended : (s : Span) (bs : Branches) → graft_all (own_of P) (either_part (jumps_of P u) l s bs) ≡ then s (either (each_branch (to_end P u (jumps_some bs) unlabelled l) bs)) done
  either_ended s bs = by (jumps_some bs)
    where
      by : (k : Bool) → graft_all (own_of P) (cond k (then s (either (settled_some (jumps_of P u) l bs)) done) (then s (either bs) done)) ≡ then s (either (each_branch (to_end P u k unlabelled l) bs)) done
      by true = ap (λ (cs : Branches). then s (either cs) done) (each_settled bs)
      by false = ap (λ (cs : Branches). then s (either cs) done) (each_still bs)

-- ---- the lists of the rows, one after another

abbrev add_list : Lists → Items → Lists
add_list no_lists is = list is no_lists
add_list (list js ls) is = list js (add_list ls is)

lists_last : (ts : List Tree) (bs : List (Vec Item Global)) (v : Vec Item Global) → lists_at ts (bs ++ v ∷ []) ≡ add_list (lists_at ts bs) (items_at ts v.items)
lists_last ts [] v = refl
lists_last ts (b ∷ bs) v = ap (list (items_at ts b.items)) (lists_last ts bs v)

lists_kept : (ts us : List Tree) → Keeps ts us → (bs : List (Vec Item Global)) → past_lists bs ≤ length ts → lists_at us bs ≡ lists_at ts bs
lists_kept ts us k [] h = refl
lists_kept ts us k (b ∷ bs) h = λ j. list (items_at-kept ts us k b.items (omega (arith, h)) j) (lists_kept ts us k bs (omega (arith, h)) j)

module _ (vs : List Word) (place : Place) (all : List Word) (ts : List Tree) where
  closed_last : (rs : List Row) (r : Row) → closed_lists vs place all ts (rs ++ r ∷ []) ≡ add_list (closed_lists vs place all ts rs) (branch_items vs place (items_at ts r.items.items) all (names_in vs r.reach.assigned))
  closed_last [] r = refl
  closed_last (q ∷ rs) r = ap (list (branch_items vs place (items_at ts q.items.items) all (names_in vs q.reach.assigned))) (closed_last rs r)

  -- one more
  pub closed_more : (us zs : List Tree) → Keeps ts us → Keeps us zs → (xs : List Row) (n m : ℕ) (r : Row) → r ≡ get_or xs n r → n < length xs → m ≡ n + 1 → past_row r ≤ length ts → (bs cs : List (Vec Item Global)) (v : Vec Item Global)
      → past_lists bs ≤ length us → lists_at us bs ≡ closed_lists vs place all ts (take n xs) → items_at zs v.items ≡ branch_items vs place (items_at us r.items.items) all (names_in vs r.reach.assigned) → cs ≡ bs ++ v ∷ []
      → lists_at zs cs ≡ closed_lists vs place all ts (take m xs)
  closed_more us zs k l xs n m r is less more_by low bs cs v within h i e =
      ap (lists_at zs) e
      ∙ lists_last zs bs v
      ∙ (λ j. add_list ((lists_kept us zs l bs within ∙ h) j) ((i ∙ ap (λ (is : Items). branch_items vs place is all (names_in vs r.reach.assigned)) (items_at-kept ts us k r.items.items low)) j))
      ∙ sym (closed_last (take n xs) r)
      ∙ ap (closed_lists vs place all ts) (ap (λ (q : Row). take n xs ++ q ∷ []) is ∙ sym (take_more xs n r less) ∙ ap (λ (p : ℕ). take p xs) (sym more_by))

pub past_lists_more : (m n : ℕ) (bs cs : List (Vec Item Global)) (v : Vec Item Global) → past_lists bs ≤ m → m ≤ n → past_items v.items ≤ n → cs ≡ bs ++ v ∷ [] → past_lists cs ≤ n
past_lists_more m n bs cs v h le k e = let one = past_one_more (λ (b : Vec Item Global). past_items b.items) bs v in let all = ap past_lists e in omega (arith, one, all, h, le, k)
