-- Items and branches by columns, as the code reads them: what was read goes before what is still to come.
use Rattle.std.proofs.Common.{◌≡◌, ℕ, ◌≤◌, Bool, true, false, ◌&&◌, nat_eq, List, [], ◌∷◌, ◌++◌, Vec, Global, length, map, Ok, refl, sym, ap, ◌∙◌, subst, arith}
use Rattle.tla_token.specs.declared.place.Place.{Place}
use Rattle.tla_tree.specs.declared.op.Op.{Op}
use Rattle.tla_tree.specs.declared.op.Op.TheVariants as op
use Rattle.tla_tree.specs.Tree.{Tree}
use Rattle.tla_tree.specs.Pool.{Keeps}
use Rattle.tla_tree.specs.Lexical.{Token}
use Rattle.tla_tree.specs.Reader.{Out, Reader, then_read, next, take, bullet_of, is_sign}
use Rattle.expr_nodes.specs.declared.cursor.Halt.{Halt}
use Rattle.expr_nodes.specs.ReadIn.{Reads, Fails}
use Rattle.expr_rows.proofs.ReadLemmas.{fails_then}
use Rattle.expr_rows.proofs.ReadLinks.{then_two}
use Rattle.module_tree.specs.Module as tree
use Rattle.module_tree.specs.Grammar.{ItemForm, ListForm, last_item, more_items, BranchForms, last_branch, more_branches, item_of, items_of, branches_of}
use Rattle.module_write.specs.declared.«module».Item.{Item}
use Rattle.module_write.specs.InMemory.{items_from, branches_from, item_at, items_at, past_item, past_items, past_branches}
use Rattle.module_write.proofs.InMemoryGrown.{item_at-kept, items_at-kept}
use Rattle.region_reading.specs.ItemReader.{whole_items, items_if, branches_if}
use Rattle.region_reading.proofs.EnoughSteps.{items_are, branches_are}
use Rattle.region_reading.proofs.BoundIsRead.{bound_shortens}
use Rattle.region_items.specs.Begins.{bound, one_item, one_branch}
use Rattle.region_items.specs.Stand.{IsItem, AreItems, AreBranches}
use Rattle.region_items.proofs.Gathered.{gives_put, SoFar, GoesOn, EndsAt, none_so_far, one_more, last_one, one_fails, each_kept, past_more, at_more}

-- a bullet in this column is next
abbrev pub is_next : ℕ → Op → ℕ → List Token → Bool
is_next e o c ts = is_sign o (next e ts).kind && nat_eq c (next e ts).place.col

-- ---- what forms mean, as lists
abbrev pub item_values : ListForm → List tree.Item
item_values (last_item p i) = item_of i ∷ []
item_values (more_items p i is) = item_of i ∷ item_values is

items_listed : (f : ListForm) → items_from (item_values f) ≡ items_of f
items_listed (last_item p i) = refl
items_listed (more_items p i is) = ap (tree.item (item_of i)) (items_listed is)

abbrev pub branch_values : BranchForms → List tree.Items
branch_values (last_branch p is) = items_of is ∷ []
branch_values (more_branches p is bs) = items_of is ∷ branch_values bs

branches_listed : (f : BranchForms) → branches_from (branch_values f) ≡ branches_of f
branches_listed (last_branch p is) = refl
branches_listed (more_branches p is bs) = ap (tree.branch (items_of is)) (branches_listed bs)

-- a branch in memory
abbrev pub branch_at : List Tree → Vec Item Global → tree.Items
branch_at ts b = items_at ts b.items

abbrev pub past_branch : Vec Item Global → ℕ
past_branch b = past_items b.items

module _ (l e c : ℕ) where
  -- ---- items
  abbrev pub read_items : Reader ListForm
  read_items = whole_items.items (bound l) e c

  -- the items up to some tokens, in a pool
  pub record ItemsSoFar (ts : List Tree) (from here : List Token) (xs : List Item) : Type 0 where
    pub read : SoFar read_items item_values from here (map (item_at ts) xs)
    pub below : past_items xs ≤ length ts

  items_then : (ts : List Token) → read_items ts ≡ then_read (one_item l e c ts) (λ y us. items_if (is_next e op.And c us) (bound l) whole_items e c y.0 y.1 us)
  items_then ts =
      items_are (bound l) (bound_shortens l) ts e c
      ∙ then_two (take e (bullet_of op.And c) ts) (λ p. whole_items.item (bound l) c) (λ p i. (p, i)) (λ y us. items_if (is_next e op.And c us) (bound l) whole_items e c y.0 y.1 us)

  items_at_one : (y : Place × ItemForm) (b : Bool) (ts us : List Token) → one_item l e c ts ≡ Ok (y, us) → is_next e op.And c us ≡ b → read_items ts ≡ items_if b (bound l) whole_items e c y.0 y.1 us
  items_at_one y b ts us h g =
      items_then ts ∙ ap (λ (o : Out (Place × ItemForm)). then_read o (λ y us. items_if (is_next e op.And c us) (bound l) whole_items e c y.0 y.1 us)) h
      ∙ ap (λ (b : Bool). items_if b (bound l) whole_items e c y.0 y.1 us) g

  items_go_on : (y : Place × ItemForm) (ts us : List Token) → one_item l e c ts ≡ Ok (y, us) → is_next e op.And c us ≡ true → GoesOn read_items item_values ts us (item_of y.1)
  items_go_on y ts us h g = record { cons = more_items y.0 y.1; round = items_at_one y true ts us h g ∙ gives_put (more_items y.0 y.1) (read_items us); each = λ f. refl }

  items_end : (y : Place × ItemForm) (ts us : List Token) → one_item l e c ts ≡ Ok (y, us) → is_next e op.And c us ≡ false → EndsAt read_items item_values ts us (item_of y.1)
  items_end y ts us h g = record { last = last_item y.0 y.1; round = items_at_one y false ts us h g; alone = refl }

  pub no_items_so_far : (ts : List Tree) (from : List Token) (xs : List Item) → xs ≡ [] → ItemsSoFar ts from from xs
  no_items_so_far ts from xs h = rw h (record { read = none_so_far read_items item_values from; below = omega arith })

  module _ {ts us : List Tree} {from here there : List Token} {xs : List Item} (k : Keeps ts us) (s : ItemsSoFar ts from here xs) {x : Item} (r : Reads (λ (y : Place × ItemForm). IsItem us x y.1) there (one_item l e c here)) where
    items_grown : map (item_at us) (xs ++ x ∷ []) ≡ map (item_at ts) xs ++ item_of r.what.1 ∷ []
    items_grown = at_more item_at past_item ts us xs x (each_kept item_at past_item ts us (item_at-kept ts us k) xs s.below) ∙ ap (λ (i : tree.Item). map (item_at ts) xs ++ i ∷ []) r.told.means

    items_below : past_items (xs ++ x ∷ []) ≤ length us
    items_below = past_more item_at past_item (length us) xs x (omega (arith, s.below, k.longer)) r.told.below

    pub items_next : is_next e op.And c there ≡ true → ItemsSoFar us from there (xs ++ x ∷ [])
    items_next g = record {
      read = subst (λ (d : List tree.Item). SoFar read_items item_values from there d) (sym items_grown) (one_more read_items item_values s.read (items_go_on r.what here there r.is g));
      below = items_below;
    }

    pub items_last : is_next e op.And c there ≡ false → Reads (AreItems us (xs ++ x ∷ [])) there (read_items from)
    items_last g =
        let all = last_one read_items item_values s.read (items_end r.what here there r.is g) in
        record { what = all.what; is = all.is; told = record { below = items_below; means = ap items_from (items_grown ∙ all.told) ∙ items_listed all.what } }

  pub items_fail : {ts : List Tree} {from here : List Token} {xs : List Item} (w : Halt) → ItemsSoFar ts from here xs → Fails w (one_item l e c here) → Fails w (read_items from)
  items_fail {ts} {from} {here} {xs} w s h = one_fails read_items item_values w s.read (subst (Fails w) (sym (items_then here)) (fails_then w (one_item l e c here) _ h))

  -- ---- branches
  abbrev pub read_branches : Reader BranchForms
  read_branches = whole_items.branches (bound l) e c

  -- the branches up to some tokens, in a pool
  pub record BranchesSoFar (ts : List Tree) (from here : List Token) (bs : List (Vec Item Global)) : Type 0 where
    pub read : SoFar read_branches branch_values from here (map (branch_at ts) bs)
    pub below : past_branches bs ≤ length ts

  branches_then : (ts : List Token) → read_branches ts ≡ then_read (one_branch l e c ts) (λ y us. branches_if (is_next e op.Or c us) (bound l) whole_items e c y.0 y.1 us)
  branches_then ts =
      branches_are (bound l) (bound_shortens l) ts e c
      ∙ then_two (take e (bullet_of op.Or c) ts) (λ p. whole_items.list (bound l) c) (λ p is. (p, is)) (λ y us. branches_if (is_next e op.Or c us) (bound l) whole_items e c y.0 y.1 us)

  branches_at_one : (y : Place × ListForm) (b : Bool) (ts us : List Token) → one_branch l e c ts ≡ Ok (y, us) → is_next e op.Or c us ≡ b → read_branches ts ≡ branches_if b (bound l) whole_items e c y.0 y.1 us
  branches_at_one y b ts us h g =
      branches_then ts ∙ ap (λ (o : Out (Place × ListForm)). then_read o (λ y us. branches_if (is_next e op.Or c us) (bound l) whole_items e c y.0 y.1 us)) h
      ∙ ap (λ (b : Bool). branches_if b (bound l) whole_items e c y.0 y.1 us) g

  branches_go_on : (y : Place × ListForm) (ts us : List Token) → one_branch l e c ts ≡ Ok (y, us) → is_next e op.Or c us ≡ true → GoesOn read_branches branch_values ts us (items_of y.1)
  branches_go_on y ts us h g = record { cons = more_branches y.0 y.1; round = branches_at_one y true ts us h g ∙ gives_put (more_branches y.0 y.1) (read_branches us); each = λ f. refl }

  branches_end : (y : Place × ListForm) (ts us : List Token) → one_branch l e c ts ≡ Ok (y, us) → is_next e op.Or c us ≡ false → EndsAt read_branches branch_values ts us (items_of y.1)
  branches_end y ts us h g = record { last = last_branch y.0 y.1; round = branches_at_one y false ts us h g; alone = refl }

  pub no_branches_so_far : (ts : List Tree) (from : List Token) (bs : List (Vec Item Global)) → bs ≡ [] → BranchesSoFar ts from from bs
  no_branches_so_far ts from bs h = rw h (record { read = none_so_far read_branches branch_values from; below = omega arith })

  module _ {ts us : List Tree} {from here there : List Token} {bs : List (Vec Item Global)} (k : Keeps ts us) (s : BranchesSoFar ts from here bs) (b : Vec Item Global) (r : Reads (λ (y : Place × ListForm). AreItems us b.items y.1) there (one_branch l e c here)) where
    branches_grown : map (branch_at us) (bs ++ b ∷ []) ≡ map (branch_at ts) bs ++ items_of r.what.1 ∷ []
    branches_grown = at_more branch_at past_branch ts us bs b (each_kept branch_at past_branch ts us (λ b. items_at-kept ts us k b.items) bs s.below) ∙ ap (λ (i : tree.Items). map (branch_at ts) bs ++ i ∷ []) r.told.means

    branches_below : past_branches (bs ++ b ∷ []) ≤ length us
    branches_below = past_more branch_at past_branch (length us) bs b (omega (arith, s.below, k.longer)) r.told.below

    pub branches_next : is_next e op.Or c there ≡ true → BranchesSoFar us from there (bs ++ b ∷ [])
    branches_next g = record {
      read = subst (λ (d : List tree.Items). SoFar read_branches branch_values from there d) (sym branches_grown) (one_more read_branches branch_values s.read (branches_go_on r.what here there r.is g));
      below = branches_below;
    }

    pub branches_last : is_next e op.Or c there ≡ false → Reads (AreBranches us (bs ++ b ∷ [])) there (read_branches from)
    branches_last g =
        let all = last_one read_branches branch_values s.read (branches_end r.what here there r.is g) in
        record { what = all.what; is = all.is; told = record { below = branches_below; means = ap branches_from (branches_grown ∙ all.told) ∙ branches_listed all.what } }

  pub branches_fail : {ts : List Tree} {from here : List Token} {bs : List (Vec Item Global)} (w : Halt) → BranchesSoFar ts from here bs → Fails w (one_branch l e c here) → Fails w (read_branches from)
  branches_fail {ts} {from} {here} {bs} w s h = one_fails read_branches branch_values w s.read (subst (Fails w) (sym (branches_then here)) (fails_then w (one_branch l e c here) _ h))
