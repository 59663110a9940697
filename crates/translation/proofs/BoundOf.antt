-- What holds of all names that a body and its macros bind holds of those that the body binds with macro calls written out.
use Rattle.std.proofs.Common.{List, [], ◌∷◌, ◌++◌, Bool, true, false, cond, bytes_eq, Option, Some, None, flat_map, inl, inr, refl, sym, subst}
use Rattle.tla_token.specs.declared.place.Place.{Place}
use Rattle.tla_tree.specs.Tree.{Word, Name, words, Form, binding, local, Tree, node, Trees, no_trees, tree, Each, Every, EveryOf, binders}
use Rattle.pcal_tree.specs.Algorithm.{Span, Assignments, no_assignments, assignment, Binds, no_binds, one_of, is, Statement, assign, await, print, assert, skip, branch, either, with, while, goto, macro, call, return, Statements, done, then, mark, Branches, no_branches, or, Macro}
use Rattle.pcal_tree.specs.BoundNames.{Lists, all_of, lists_of, lists_in, lists_in_all, lists_in_assignments, names_of_binds, lists_in_binds, lists_in_one, lists_in_body, lists_in_branches}
use Rattle.pcal_tree.specs.Expand.{graft_all, Writing, expand_one, expand, expand_some, written_out}
use Rattle.pcal_tree.specs.Processes.{OneOf}
use Rattle.pcal_tree.specs.Run.{arguments}
use Rattle.pcal_tree.specs.laws.Expansion.{ThroughoutAssignments, ThroughoutBinds, Throughout, ThroughoutSome}
use Rattle.pcal_tree.specs.laws.ReadNames.{BindsIn, WithsInOne, WithsIn, WithsInSome, WithsInMacros}
use Rattle.pcal_tree.proofs.NothingCaptured.{Has, pub_keeps, followed_keep}
use Rattle.translation.proofs.NamesOfRules.{split}
use Rattle.translation.proofs.VariableNames.{each_joined}

module _ (N : Word → Type 0) where
  -- all names of these lists have N
  abbrev pub AllIn : Lists → Type 0
  AllIn xss = Each N (words (all_of xss))

  abbrev pub BindsAll : Form → Place → Type 0
  BindsAll m at = Each N (binders m)

  pub in_both : (xss yss : Lists) → AllIn (xss ++ yss) → AllIn xss × AllIn yss
  in_both [] yss h = (tt, h)
  in_both (xs ∷ xss) yss h =
      let j = split N xs (all_of (xss ++ yss)) h in
      let k = in_both xss yss j.1 in
      (joined xs (all_of xss) j.0 k.0, k.1)
    where
      joined : (xs ys : List Name) → Each N (words xs) → Each N (words ys) → Each N (words (xs ++ ys))
      joined [] ys h k = k
      joined (x ∷ xs) ys h k = (h.0, joined xs ys h.1 k)

  pub in_flat : {X : Type 0} (f : X → Lists) (xs : List X) → AllIn (flat_map f xs) → (x : X) → OneOf x xs → AllIn (f x)
  in_flat f [] h x k = absurd k
  in_flat f (y ∷ ys) h x (inl e) = subst (λ z. AllIn (f z)) (sym e) (in_both (f y) (flat_map f ys) h).0
  in_flat f (y ∷ ys) h x (inr k) = in_flat f ys (in_both (f y) (flat_map f ys) h).1 x k

  groups_bound : (gs : List (List Name)) → Each N (words (all_of gs)) → Each N (flat_map words gs)
  groups_bound [] h = tt
  groups_bound (g ∷ gs) h = (let k = split N g (all_of gs) h in each_joined N (words g) (flat_map words gs) k.0 (groups_bound gs k.1))

  form_bound : (m : Form) (at : Place) → AllIn (lists_of m) → BindsAll m at
  form_bound (binding b gs) at h = groups_bound gs (split N (all_of gs) [] h).0
  form_bound (local xs) at h = (split N xs [] h).0
  form_bound m at h = tt

  mutual
    pub tree_bound : (t : Tree) → AllIn (lists_in t) → Every BindsAll t
    tree_bound (node m at ts) h = (let k = in_both (lists_of m) (lists_in_all ts) h in (form_bound m at k.0, trees_bound ts k.1))

    trees_bound : (ts : Trees) → AllIn (lists_in_all ts) → EveryOf BindsAll ts
    trees_bound no_trees h = tt
    trees_bound (tree t ts) h = (let k = in_both (lists_in t) (lists_in_all ts) h in (tree_bound t k.0, trees_bound ts k.1))

  assignments_bound : (ms : Assignments) → AllIn (lists_in_assignments ms) → ThroughoutAssignments BindsAll ms
  assignments_bound no_assignments h = tt
  assignments_bound (assignment l e ms) h =
      let j = in_both (lists_in l) (lists_in e ++ lists_in_assignments ms) h in
      let k = in_both (lists_in e) (lists_in_assignments ms) j.1 in
      (tree_bound l j.0, tree_bound e k.0, assignments_bound ms k.1)

  binds_bound : (bs : Binds) → Each N (words (names_of_binds bs)) → AllIn (lists_in_binds bs) → ThroughoutBinds BindsAll N bs
  binds_bound no_binds n h = tt
  binds_bound (one_of x e bs) n h = (let k = in_both (lists_in e) (lists_in_binds bs) h in (tree_bound e k.0, n.0, binds_bound bs n.1 k.1))
  binds_bound (is x e bs) n h = (let k = in_both (lists_in e) (lists_in_binds bs) h in (tree_bound e k.0, n.0, binds_bound bs n.1 k.1))

  abbrev CallsBound : Writing → Type 0
  CallsBound W = (at : Span) (m : Word) (ts : Trees) → EveryOf BindsAll ts → Throughout BindsAll N (W at m ts)

  module _ (W : Writing) (c : CallsBound W) where
    mutual
      one_bound : (at : Span) (st : Statement) (rest : Statements) → AllIn (lists_in_one st) → Throughout BindsAll N rest → Throughout BindsAll N (expand_one W at st rest)
      one_bound at (assign ms) rest h k = (assignments_bound ms h, k)
      one_bound at (await e) rest h k = (tree_bound e h, k)
      one_bound at (print e) rest h k = (tree_bound e h, k)
      one_bound at (assert e) rest h k = (tree_bound e h, k)
      one_bound at skip rest h k = (tt, k)
      one_bound at (branch e a b) rest h k =
          let i = in_both (lists_in e) (lists_in_body a ++ lists_in_body b) h in
          let j = in_both (lists_in_body a) (lists_in_body b) i.1 in
          ((tree_bound e i.0, body_all a j.0, body_all b j.1), k)
      one_bound at (either bs) rest h k = (some_bound bs h, k)
      one_bound at (with bs b) rest h k =
          let i = split N (names_of_binds bs) (all_of (lists_in_binds bs ++ lists_in_body b)) h in
          let j = in_both (lists_in_binds bs) (lists_in_body b) i.1 in
          ((binds_bound bs i.0 j.0, body_all b j.1), k)
      one_bound at (while e b) rest h k = (let j = in_both (lists_in e) (lists_in_body b) h in ((tree_bound e j.0, body_all b j.1), k))
      one_bound at (goto l) rest h k = (tt, k)
      one_bound at (macro m ts) rest h k = followed_keep BindsAll N (W at m ts) rest (c at m ts (trees_bound ts h)) k
      one_bound at (call p ts) rest h k = (trees_bound ts h, k)
      one_bound at return rest h k = (tt, k)

      body_all : (b : Statements) → AllIn (lists_in_body b) → Throughout BindsAll N (expand W b)
      body_all done h = tt
      body_all (then at st rest) h = (let k = in_both (lists_in_one st) (lists_in_body rest) h in one_bound at st (expand W rest) k.0 (body_all rest k.1))
      body_all (mark l m rest) h = tt

      some_bound : (bs : Branches) → AllIn (lists_in_branches bs) → ThroughoutSome BindsAll N (expand_some W bs)
      some_bound no_branches h = tt
      some_bound (or b bs) h = (let k = in_both (lists_in_body b) (lists_in_branches bs) h in (body_all b k.0, some_bound bs k.1))

  argument_bound : (qs : List Name) (ts : Trees) → EveryOf BindsAll ts → (x : Word) (at : Place) → Has BindsAll N (arguments qs ts) (arguments qs ts x at)
  argument_bound [] ts h x at = tt
  argument_bound (q ∷ qs) no_trees h x at = tt
  argument_bound (q ∷ qs) (tree t ts) h x at = by (bytes_eq q.word x) (arguments qs ts x at) (argument_bound qs ts h.1 x at)
    where
      by : (b : Bool) (o : Option Tree) → Has BindsAll N (arguments qs ts) o → Has BindsAll N (arguments (q ∷ qs) (tree t ts)) (cond b (Some t) o)
      by true o k = h.0
      by false (Some u) k = k
      by false None k = tt

  -- all that macros bind
  abbrev pub MacrosAll : List Macro → Type 0
  MacrosAll ms = (d : Macro) → OneOf d ms → AllIn (lists_in_body d.body)

  calls_bound : (ms : List Macro) → MacrosAll ms → CallsBound (written_out ms)
  calls_bound [] g at m ts h = (tt, tt)
  calls_bound (d ∷ older) g at m ts h = by (bytes_eq d.name.word m) (calls_bound older (λ e k. g e (inr k)))
    where
      by : (b : Bool) → CallsBound (written_out older) → Throughout BindsAll N (cond b (graft_all (arguments d.params ts) (expand (written_out older) d.body)) (written_out older at m ts))
      by true c =
          pub_keeps BindsAll N (arguments d.params ts) (λ m p q k. k) (argument_bound d.params ts h) (expand (written_out older) d.body)
          (body_all (written_out older) c d.body (g d (inl refl)))
      by false c = c at m ts h

  pub body_bound : (ms : List Macro) → MacrosAll ms → (b : Statements) → AllIn (lists_in_body b) → Throughout BindsAll N (expand (written_out ms) b)
  body_bound ms g b h = body_all (written_out ms) (calls_bound ms g) b h

  -- ---- the names of each `with`

  binds_in : (bs : Binds) → Each N (words (names_of_binds bs)) → BindsIn N bs
  binds_in no_binds h = tt
  binds_in (one_of x e bs) h = (h.0, binds_in bs h.1)
  binds_in (is x e bs) h = (h.0, binds_in bs h.1)

  mutual
    withs_one : (st : Statement) → AllIn (lists_in_one st) → WithsInOne N st
    withs_one (branch e a b) h =
        let j = in_both (lists_in_body a) (lists_in_body b) (in_both (lists_in e) (lists_in_body a ++ lists_in_body b) h).1 in
        (withs_in a j.0, withs_in b j.1)
    withs_one (either bs) h = withs_some bs h
    withs_one (with bs b) h =
        let i = split N (names_of_binds bs) (all_of (lists_in_binds bs ++ lists_in_body b)) h in
        (binds_in bs i.0, withs_in b (in_both (lists_in_binds bs) (lists_in_body b) i.1).1)
    withs_one (while e b) h = withs_in b (in_both (lists_in e) (lists_in_body b) h).1
    withs_one (assign ms) h = tt
    withs_one (await e) h = tt
    withs_one (print e) h = tt
    withs_one (assert e) h = tt
    withs_one skip h = tt
    withs_one (goto l) h = tt
    withs_one (macro m ts) h = tt
    withs_one (call p ts) h = tt
    withs_one return h = tt

    pub withs_in : (b : Statements) → AllIn (lists_in_body b) → WithsIn N b
    withs_in done h = tt
    withs_in (then at st rest) h = (let k = in_both (lists_in_one st) (lists_in_body rest) h in (withs_one st k.0, withs_in rest k.1))
    withs_in (mark l m rest) h = withs_in rest h

    withs_some : (bs : Branches) → AllIn (lists_in_branches bs) → WithsInSome N bs
    withs_some no_branches h = tt
    withs_some (or b bs) h = (let k = in_both (lists_in_body b) (lists_in_branches bs) h in (withs_in b k.0, withs_some bs k.1))

  pub macros_in : (ms : List Macro) → MacrosAll ms → WithsInMacros N ms
  macros_in [] h = tt
  macros_in (d ∷ ds) h = (withs_in d.body (h d (inl refl)), macros_in ds (λ e k. h e (inr k)))
