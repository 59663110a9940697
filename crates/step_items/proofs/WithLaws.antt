-- The item of a `with`: its binds, each round those after it, and the items of its body.
use Rattle.std.proofs.lemmas.List.{take_all}
use Rattle.std.proofs.Common.{◌≡◌, ℕ, suc, ◌-◌, ◌<◌, ◌≤◌, length, take, drop, get_or, arith, List, [], ◌∷◌, ◌++◌, append-nil, Bool, true, false, cond, ◌&&◌, not, Option, Some, None, Vec, Global, refl, sym, ap, ◌∙◌}
use Rattle.tla_token.specs.Signs.{is_among}
use Rattle.tla_token.specs.declared.place.Place.{Place}
use Rattle.tla_tree.specs.Tree.{Word, Name, Tree, Graft}
use Rattle.tla_tree.specs.Pool.{at, Keeps}
use Rattle.module_tree.specs.Formulas.{self}
use Rattle.module_tree.specs.Module.{exists, local, either as any, Items, no_items, item, no_branches as no_lists, branch as list}
use Rattle.module_write.specs.declared.«module».Item.{Item}
use Rattle.module_write.specs.declared.«module».Item.TheVariants.{Exists, Local, Either}
use Rattle.module_write.specs.InMemory.{item_at, items_at, branches_at as lists_at}
use Rattle.module_write.proofs.ItemEquations.{exists_at, local_at, either_at}
use Rattle.pcal_tree.specs.declared.algorithm.Bind.{Bind}
use Rattle.pcal_tree.specs.declared.algorithm.Bind.TheVariants as bind
use Rattle.pcal_tree.specs.Algorithm.{Span, Binds, no_binds, one_of, is, with, Statements, done, then, Routine}
use Rattle.pcal_tree.specs.Run.{unlabelled}
use Rattle.pcal_tree.specs.Expand.{graft_binds, graft_all}
use Rattle.pcal_tree.specs.InMemory.{past_binds}
use Rattle.pcal_tree.specs.Program.{Program}
use Rattle.pcal_tree.proofs.InMemoryGrown.{binds_at-kept}
use Rattle.pcal_tree.specs.Variables.{vars}
use Rattle.name_bits.specs.declared.bits.Bits.{Bits}
use Rattle.name_bits.specs.NamesIn.{names_in}
use Rattle.action_builder.specs.Assigned.{Names, assigned_in}
use Rattle.action_builder.specs.Written.{primed, left_of, unchanged_of, onto, filled, is_old, put_in, nested_items, write_one, write}
use Rattle.action_builder.specs.WrittenNames.{renames}
use Rattle.step_forms.proofs.WrittenLaws.{onto_none}
use Rattle.right_sides.specs.After.{put_one, put_items}
use Rattle.step_items.specs.Branching.{own_binds, with_items}
use Rattle.step_items.specs.Writing.{jumps_of, own_of, with_part, to_write, Fits, Writes}
use Rattle.right_sides.proofs.AfterLaws.{items_last}

-- ---- what is written

none_left : (vs ys : List Word) → left_of vs ys ys ≡ []
none_left [] ys = refl
none_left (v ∷ vs) ys = ap (λ (b : Bool). cond b (v ∷ left_of vs ys ys) (left_of vs ys ys)) (never (is_among ys v)) ∙ none_left vs ys
  where
    never : (b : Bool) → (b && not b) ≡ false
    never true = refl
    never false = refl

old_put : (g : Graft) (bs : Binds) → is_old (graft_binds g bs) ≡ is_old bs
old_put g no_binds = refl
old_put g (one_of x e bs) = refl
old_put g (is x e no_binds) = refl
old_put g (is x e (one_of y d bs)) = refl
old_put g (is x e (is y d bs)) = refl

-- of binds that do not keep the old stack
one_written : (vs : List Word) (A : Names) (p : Place) (bs : Binds) (b : Statements) → is_old bs ≡ false → with_items A bs (filled p (write vs A b)) ≡ write_one vs A p (with bs b) no_items
one_written vs A p no_binds b h =
    ap (λ (is : Items). item (any (list (filled p is) no_lists)) no_items)
    (sym (onto_none (write vs A b)) ∙ ap (λ (ws : List Word). onto (write vs A b) (unchanged_of ws)) (sym (none_left vs (assigned_in b))))
one_written vs A p (one_of x e bs) b h = refl
one_written vs A p (is x e bs) b h =
    sym (ap (λ (k : Bool). cond k (onto (put_in A x.word e (write vs A b)) no_items) (item (local x.word (primed A e) (nested_items A bs (filled p (write vs A b)))) no_items)) h)

-- ---- in memory

module _ (x : Option Tree) where
  exists_put : (y : Word) (e : Tree) (b : Items) → put_items self x (item (exists y e b) no_items) ≡ item (exists y (put_one self x e) (put_items self x b)) no_items
  exists_put y e b = by x
    where
      by : (z : Option Tree) → put_items self z (item (exists y e b) no_items) ≡ item (exists y (put_one self z e) (put_items self z b)) no_items
      by None = refl
      by (Some t) = refl

  local_put : (y : Word) (e : Tree) (b : Items) → put_items self x (item (local y e b) no_items) ≡ item (local y (put_one self x e) (put_items self x b)) no_items
  local_put y e b = by x
    where
      by : (z : Option Tree) → put_items self z (item (local y e b) no_items) ≡ item (local y (put_one self z e) (put_items self z b)) no_items
      by None = refl
      by (Some t) = refl

  any_put : (b : Items) → put_items self x (item (any (list b no_lists)) no_items) ≡ item (any (list (put_items self x b) no_lists)) no_items
  any_put b = by x
    where
      by : (z : Option Tree) → put_items self z (item (any (list b no_lists)) no_items) ≡ item (any (list (put_items self z b) no_lists)) no_items
      by None = refl
      by (Some t) = refl

  -- e: the expression by its written names, at its process; n: its number
  pub exists_bound : (us : List Tree) (A : Names) (y : Name) (w : Word) (n : ℕ) (e : Tree) (items : Vec Item Global) (b : Items) → w ≡ y.word → at us n ≡ put_one self x (primed A e) → items_at us items.items ≡ put_items self x b
      → item (item_at us (Exists w n items)) no_items ≡ put_items self x (nested_items A (one_of y e no_binds) b)
  exists_bound us A y w n e items b m t h =
      ap (λ (i : _). item i no_items) (exists_at us w n items) ∙ (λ j. item (exists (m j) (t j) (h j)) no_items) ∙ sym (exists_put y.word (primed A e) b)

  pub local_bound : (us : List Tree) (A : Names) (y : Name) (w : Word) (n : ℕ) (e : Tree) (items : Vec Item Global) (b : Items) → w ≡ y.word → at us n ≡ put_one self x (primed A e) → items_at us items.items ≡ put_items self x b
      → item (item_at us (Local w n items)) no_items ≡ put_items self x (nested_items A (is y e no_binds) b)
  local_bound us A y w n e items b m t h =
      ap (λ (i : _). item i no_items) (local_at us w n items) ∙ (λ j. item (local (m j) (t j) (h j)) no_items) ∙ sym (local_put y.word (primed A e) b)

  -- without binds
  pub alone_bound : (us : List Tree) (A : Names) (lists : Vec (Vec Item Global) Global) (items : Vec Item Global) (b : Items) → lists.items ≡ items ∷ [] → items_at us items.items ≡ put_items self x b
      → item (item_at us (Either lists)) no_items ≡ put_items self x (with_items A no_binds b)
  alone_bound us A lists items b e h =
      ap (λ (i : _). item i no_items) (either_at us lists) ∙ ap (λ (ls : List (Vec Item Global)). item (any (lists_at us ls)) no_items) e ∙ ap (λ (is : Items). item (any (list is no_lists)) no_items) h ∙ sym (any_put b)

module _ (P : Program) (u : Routine) (ts : List Tree) (A : Names) where
  -- a bind round those after it
  pub bind_nested : (c : Bind) (cs : List Bind) (b : Items) → nested_items A (own_binds P u ts (c ∷ [])) (nested_items A (own_binds P u ts cs) b) ≡ nested_items A (own_binds P u ts (c ∷ cs)) b
  bind_nested (bind.Among y e) cs b = refl
  bind_nested (bind.Is y e) cs b = refl

  pub bind_outermost : (c : Bind) (cs : List Bind) (b : Items) → nested_items A (own_binds P u ts (c ∷ cs)) b ≡ with_items A (own_binds P u ts (c ∷ cs)) b
  bind_outermost (bind.Among y e) cs b = refl
  bind_outermost (bind.Is y e) cs b = refl

-- the first of a list with those after it, as a slice
first_with_rest : (ys : List Bind) (k : Bind) → k ≡ get_or ys 0 k → 0 < length ys → k ∷ take (length ys - 1) (drop 1 ys) ≡ ys
first_with_rest [] k found less = absurd (omega arith)
first_with_rest (y ∷ ys) k found less = λ j. found j ∷ take_all (suc (length ys) - 1) ys (omega arith) j

-- ys: all binds; k: the first of them
module _ (P : Program) (u : Routine) (x : Option Tree) (A : Names) (ts us vs : List Tree) (keeps : Keeps ts us) (ys : List Bind) (k : Bind) (found : k ≡ get_or ys 0 k) (less : 0 < length ys) (low : past_binds ys ≤ length ts) where
  pub nest_more : (b : Items) (one : Item)
      → item (item_at vs one) no_items ≡ put_items self x (nested_items A (own_binds P u us (k ∷ [])) (nested_items A (own_binds P u ts (take (length ys - 1) (drop 1 ys))) b))
      → item (item_at vs one) no_items ≡ put_items self x (nested_items A (own_binds P u ts ys) b)
  nest_more b one h =
      let rest = take (length ys - 1) (drop 1 ys) in
      let whole = first_with_rest ys k found less in
      let past = ap past_binds whole in
      h
      ∙ ap (λ (c : Binds). put_items self x (nested_items A (graft_binds (own_of P) (graft_binds (renames P u) c)) (nested_items A (own_binds P u ts rest) b))) (binds_at-kept ts us keeps (k ∷ []) (omega (arith, past, low)))
      ∙ ap (put_items self x) (bind_nested P u ts A k rest b)
      ∙ ap (λ (c : List Bind). put_items self x (nested_items A (own_binds P u ts c) b)) whole

pub outermost : (P : Program) (u : Routine) (A : Names) (ts : List Tree) (ys : List Bind) (b : Items) → 0 < length ys → nested_items A (own_binds P u ts ys) b ≡ with_items A (own_binds P u ts ys) b
outermost P u A ts [] b less = absurd (omega arith)
outermost P u A ts (c ∷ cs) b less = bind_outermost P u ts A c cs b

-- ---- the statement

-- obs: its binds at their process; T: what is left of its body
pub with_written : (P : Program) (x : Option Tree) (ts us : List Tree) (before after : List Item) (earlier assigned : Bits) (s : Span) (place : Place) (obs : Binds) (T : Statements) (i : Item)
    → s.first ≡ place → is_old obs ≡ false → items_at us before ≡ items_at ts before → after ≡ before ++ i ∷ []
    → item (item_at us i) no_items ≡ put_items self x (with_items (is_among (names_in (vars P) earlier)) obs (filled place (write (vars P) (is_among (names_in (vars P) earlier)) T)))
    → ((y : Word) → is_among (names_in (vars P) assigned) y ≡ is_among (assigned_in T) y) → Writes P (put_items self x) ts us before after earlier assigned (then s (with obs T) done)
with_written P x ts us before after earlier assigned s place obs T i p old kept e h names =
    let E : Names = is_among (names_in (vars P) earlier) in
    record {
      items =
          ap (items_at us) e
          ∙ items_last us before i
          ∙ (λ j. onto (kept j) (h j))
          ∙ (λ j. onto (items_at ts before) (put_items self x (with_items E obs (filled (sym p j) (write (vars P) E T)))))
          ∙ ap (λ (is : Items). onto (items_at ts before) (put_items self x is)) (one_written (vars P) E s.first obs T old);
      names = λ y. names y ∙ ap (λ (zs : List Word). is_among zs y) (sym (append-nil (assigned_in T)));
    }

-- what is asked of the body and of the binds
module _ (P : Program) (u : Routine) (l : Word) (s : Span) (bs : Binds) (b : Statements) where
  pub with_plain : Fits P (graft_all (own_of P) (with_part (jumps_of P u) l s bs b)) (then s (with bs b) done) → Fits P (to_write P u unlabelled l b) b
  with_plain f = record { plain = record { settled = f.plain.settled.0; parts = f.plain.parts.0 }; fresh = f.fresh.0.1 }

  pub with_new : Fits P (graft_all (own_of P) (with_part (jumps_of P u) l s bs b)) (then s (with bs b) done) → is_old (graft_binds (own_of P) bs) ≡ false
  with_new f = old_put (own_of P) bs ∙ f.fresh.0.0
