-- Where names are used as they may be and none is bound again, macro calls capture nothing.
use Rattle.std.proofs.Common.{◌≡◌, ℕ, List, [], ◌∷◌, ◌++◌, Bool, true, false, ◌||◌, ◌&&◌, ◌⊎◌, inl, inr, not, cond, bytes_eq, Option, Some, None, map, refl, sym, ◌∙◌, ap, subst}
use Rattle.std.proofs.lemmas.Bool.{both_ways, or_left, or_right}
use Rattle.std.proofs.lemmas.Slice.Eq.{bytes_eq-Decides}
use Rattle.tla_token.specs.declared.place.Place.{Place}
use Rattle.tla_token.specs.Signs.{is_among}
use Rattle.tla_tree.specs.Tree.{Word, Name, words, Form, name, operator_call, Tree, node, Trees, no_trees, tree, Each, Every, EveryOf, binders, seen_names, root_place}
use Rattle.tla_value.specs.laws.FreeNames.{Or, Also, Any, IsOther, FormReads, FreeNames, FreeInParts}
use Rattle.tla_value.specs.laws.Grafting.{Apart, ApartForm, NotFreeIn}
use Rattle.pcal_tree.specs.Algorithm.{Binds, no_binds, one_of, is, Statement, assign, await, print, assert, skip, branch, either, with, while, goto, macro, call, return, Statements, done, then, mark, Branches, no_branches, or, Macro, Procedure, Assignments, no_assignments, assignment}
use Rattle.pcal_tree.specs.BoundNames.{names_of_binds}
use Rattle.pcal_tree.specs.Offences.{offence_if}
use Rattle.pcal_tree.specs.OffencesNames.{Use, takes, variable, argument, standard, unread, Sight, knowing, seeing_plain, use_of, applied_offences, form_offences, count, in_tree, in_parts, in_whole, in_each, in_binds, after_binds, in_one, in_body, in_branches, parameter_use, seeing_parameters, macro_offences}
use Rattle.pcal_tree.specs.NameUses.{use_offences, module_offences, infinite_offences}
use Rattle.pcal_tree.specs.OffencesRebind.{Standings, naming, in_scope, may_rebind, rebound_all, whole_rebinds, each_rebinds, binds_rebind, one_rebinds, body_rebinds, branches_rebind, putting_in, macro_rebinds}
use Rattle.pcal_tree.specs.Paths.{root}
use Rattle.pcal_tree.specs.Run.{arguments}
use Rattle.pcal_tree.specs.Expand.{expand, written_out}
use Rattle.pcal_tree.specs.laws.Expansion.{ThroughoutAssignments, ThroughoutBinds, ThroughoutOne, Throughout, ThroughoutSome, Calls, CallsOne, CallsSome, FineCall, Chosen, BeginsUnlabelled, Stays}
use Rattle.pcal_tree.proofs.Uncaptured.{throughout_weaker}
use Rattle.pcal_tree.proofs.RebindNames.{scope_of_both}
use Rattle.pcal_tree.proofs.NothingCaptured.{Free, BindsFree, written_bare, putting_scope}
use Rattle.tla_token.specs.declared.rule.Rule.{Rule}
use Rattle.tla_value.specs.StandardModules.{is_member, is_last}
use Rattle.std.specs.Prelude.{nat_eq, length}
use Rattle.tla_token.specs.declared.rule.Rule.TheVariants.{Arity}
use Rattle.pcal_tree.proofs.ClearLabels.{both_none}
use Rattle.pcal_tree.proofs.GraftsRead.{tree_wider}

-- ---- two facts throughout

module _ (F G : Form → Place → Type 0) (N M : Word → Type 0) where
  abbrev Both : Form → Place → Type 0
  Both m at = F m at × G m at

  abbrev And : Word → Type 0
  And x = N x × M x

  mutual
    trees_both : (ts : Trees) → EveryOf F ts → EveryOf G ts → EveryOf Both ts
    trees_both no_trees h k = tt
    trees_both (tree t ts) h k = (tree_both t h.0 k.0, trees_both ts h.1 k.1)

    tree_both : (t : Tree) → Every F t → Every G t → Every Both t
    tree_both (node m at ts) h k = ((h.0, k.0), trees_both ts h.1 k.1)

  assignments_both : (ms : Assignments) → ThroughoutAssignments F ms → ThroughoutAssignments G ms → ThroughoutAssignments Both ms
  assignments_both no_assignments h k = tt
  assignments_both (assignment l e ms) h k = (tree_both l h.0 k.0, tree_both e h.1 k.1, assignments_both ms h.2 k.2)

  binds_both : (bs : Binds) → ThroughoutBinds F N bs → ThroughoutBinds G M bs → ThroughoutBinds Both And bs
  binds_both no_binds h k = tt
  binds_both (one_of x e bs) h k = (tree_both e h.0 k.0, (h.1, k.1), binds_both bs h.2 k.2)
  binds_both (is x e bs) h k = (tree_both e h.0 k.0, (h.1, k.1), binds_both bs h.2 k.2)

  mutual
    one_both : (st : Statement) → ThroughoutOne F N st → ThroughoutOne G M st → ThroughoutOne Both And st
    one_both (assign ms) h k = assignments_both ms h k
    one_both (await e) h k = tree_both e h k
    one_both (print e) h k = tree_both e h k
    one_both (assert e) h k = tree_both e h k
    one_both (branch e a b) h k = (tree_both e h.0 k.0, throughout_both a h.1 k.1, throughout_both b h.2 k.2)
    one_both (either bs) h k = some_both bs h k
    one_both (with bs b) h k = (binds_both bs h.0 k.0, throughout_both b h.1 k.1)
    one_both (while e b) h k = (tree_both e h.0 k.0, throughout_both b h.1 k.1)
    one_both (macro m ts) h k = h
    one_both (call p ts) h k = trees_both ts h k
    one_both _ h k = tt

    pub throughout_both : (ss : Statements) → Throughout F N ss → Throughout G M ss → Throughout Both And ss
    throughout_both done h k = tt
    throughout_both (then at st rest) h k = (one_both st h.0 k.0, throughout_both rest h.1 k.1)
    throughout_both (mark l m rest) h k = tt

    some_both : (bs : Branches) → ThroughoutSome F N bs → ThroughoutSome G M bs → ThroughoutSome Both And bs
    some_both no_branches h k = tt
    some_both (or b bs) h k = (throughout_both b h.0 k.0, some_both bs h.1 k.1)

-- ---- free names weaker

pub free_weaker : (N N' : Word → Type 0) → ((y : Word) → N y → N' y) → (t : Tree) → FreeNames N Any t → FreeNames N' Any t
free_weaker N N' h t k = tree_wider N N' Any h t k

-- ---- names that are used as they may be

-- as a name in an expression
abbrev pub Usable : Option Use → Type 0
Usable None = ⊥
Usable (Some unread) = ⊥
Usable (Some (standard d extended)) = extended ≡ true
Usable (Some u) = Unit {0}

not_if : (b : Bool) (r : Rule) (at : Place) → offence_if (not b) r at ≡ [] → b ≡ true
not_if true r at e = refl
not_if false r at e = cc

pub usable_is : (u : Option Use) (n : ℕ) (right : Bool) (at : Place) → applied_offences u n right at ≡ [] → Usable u
usable_is None n right at e = cc
usable_is (Some unread) n right at e = cc
usable_is (Some (standard d extended)) n right at e =
    let j = both_none (use_offences (Some (standard d extended)) n at) (module_offences (Some (standard d extended)) at ++ infinite_offences (Some (standard d extended)) right at) e in
    let k = both_none (module_offences (Some (standard d extended)) at) (infinite_offences (Some (standard d extended)) right at) j.1 in
    not_if extended _ at k.0
usable_is (Some (takes k)) n right at e = tt
usable_is (Some variable) n right at e = tt
usable_is (Some (argument p)) n right at e = tt

-- what the sight knows has N
abbrev pub Sees : Sight → (Word → Type 0) → Type 0
Sees s N = (y : Word) → Usable (use_of s y) → N y

pub in_also : (N : Word → Type 0) (xs : List Word) (y : Word) → N y → Also xs N y
in_also N [] y h = h
in_also N (x ∷ xs) y h = in_also (Or x N) xs y (inr h)

pub among_also : (N : Word → Type 0) (xs : List Word) (y : Word) → is_among xs y ≡ true → Also xs N y
among_also N [] y e = cc
among_also N (x ∷ xs) y e = by (bytes_eq x y) refl (among_also (Or x N) xs y)
  where
    by : (b : Bool) → bytes_eq x y ≡ b → (is_among xs y ≡ true → Also xs (Or x N) y) → Also xs (Or x N) y
    by true q h = in_also (Or x N) xs y (inl ((bytes_eq-Decides x y).0 q))
    by false q h = h (sym (ap (λ b. b || is_among xs y) q) ∙ e)

-- the names that are seen besides
seen_besides : (xs : List Word) (s : Sight) (y : Word) → use_of (seeing_plain xs s) y ≡ cond (is_among xs y) (Some (takes 0)) (use_of s y)
seen_besides [] s y = refl
seen_besides (x ∷ xs) s y = by (bytes_eq x y) (seen_besides xs s y)
  where
    by : (b : Bool) → use_of (seeing_plain xs s) y ≡ cond (is_among xs y) (Some (takes 0)) (use_of s y)
        → cond b (Some (takes 0)) (use_of (seeing_plain xs s) y) ≡ cond (b || is_among xs y) (Some (takes 0)) (use_of s y)
    by true h = refl
    by false h = h

sees_besides : (xs : List Word) (s : Sight) (N : Word → Type 0) → Sees s N → Sees (seeing_plain xs s) (Also xs N)
sees_besides xs s N h y u = by (is_among xs y) refl (subst Usable (seen_besides xs s y) u)
  where
    by : (b : Bool) → is_among xs y ≡ b → Usable (cond b (Some (takes 0)) (use_of s y)) → Also xs N y
    by true q k = among_also N xs y q
    by false q k = in_also N xs y (h y k)

form_seen : (s : Sight) (N : Word → Type 0) → Sees s N → (right : Bool) (m : Form) (n : ℕ) (at : Place) → form_offences s right m n at ≡ [] → FormReads N Any m
form_seen s N h right (name x) n at e = h x (usable_is (use_of s x) 0 right at e)
form_seen s N h right (operator_call f) n at e = tt
form_seen s N h right m n at e = tt

mutual
  -- where no use offends, all free names are known
  pub tree_seen : (t : Tree) (right : Bool) (s : Sight) (N : Word → Type 0) → Sees s N → in_tree t right s ≡ [] → FreeNames N Any t
  tree_seen (node m at ts) right s N h e =
      let k = both_none (form_offences s right m (count ts) at) (in_parts (seen_names m) (is_member m) ts s) e in
      (form_seen s N h right m (count ts) at k.0, parts_seen (seen_names m) (is_member m) ts s N h k.1)

  pub parts_seen : (names : List (List Word)) (right : Bool) (ts : Trees) (s : Sight) (N : Word → Type 0) → Sees s N → in_parts names right ts s ≡ [] → FreeInParts N Any names ts
  parts_seen names right no_trees s N h e = tt
  parts_seen [] right (tree t ts) s N h e =
      let k = both_none (in_tree t (right && is_last ts) s) (in_parts [] right ts s) e in
      (tree_seen t (right && is_last ts) s N h k.0, parts_seen [] right ts s N h k.1)
  parts_seen (xs ∷ names) right (tree t ts) s N h e =
      let k = both_none (in_tree t (right && is_last ts) (seeing_plain xs s)) (in_parts names right ts s) e in
      (tree_seen t (right && is_last ts) (seeing_plain xs s) (Also xs N) (sees_besides xs s N h) k.0, parts_seen names right ts s N h k.1)

-- ---- where calls stand

module _ (ext : List Word) (ps : List Procedure) where
  -- what is in scope around a statement: it is looked at with each of these, one at least
  pub record Around : Type 0 where
    pub base : Standings
    pub others : List Standings

  abbrev in_any : List Standings → Word → Bool
  in_any [] y = false
  in_any (r ∷ rs) y = in_scope r y || in_any rs y

  abbrev pub in_some : Around → Word → Bool
  in_some a y = in_scope a.base y || in_any a.others y

  abbrev pub around_all : (Standings → Standings) → Around → Around
  around_all f a = record { base = f a.base; others = map f a.others }

  abbrev All : (Standings → Type 0) → List Standings → Type 0
  All P [] = Unit {0}
  All P (r ∷ rs) = P r × All P rs

  abbrev pub Each_of : (Standings → Type 0) → Around → Type 0
  Each_of P a = P a.base × All P a.others

  all_mapped : (P Q : Standings → Type 0) (f : Standings → Standings) → ((r : Standings) → P r → Q (f r)) → (rs : List Standings) → All P rs → All Q (map f rs)
  all_mapped P Q f h [] k = tt
  all_mapped P Q f h (r ∷ rs) k = (h r k.0, all_mapped P Q f h rs k.1)

  each_mapped : (P Q : Standings → Type 0) (f : Standings → Standings) → ((r : Standings) → P r → Q (f r)) → (a : Around) → Each_of P a → Each_of Q (around_all f a)
  each_mapped P Q f h a k = (h a.base k.0, all_mapped P Q f h a.others k.1)

  all_same : (P Q : Standings → Type 0) → ((r : Standings) → P r → Q r) → (rs : List Standings) → All P rs → All Q rs
  all_same P Q h [] k = tt
  all_same P Q h (r ∷ rs) k = (h r k.0, all_same P Q h rs k.1)

  each_same : (P Q : Standings → Type 0) → ((r : Standings) → P r → Q r) → (a : Around) → Each_of P a → Each_of Q a
  each_same P Q h a k = (h a.base k.0, all_same P Q h a.others k.1)

  -- a name that is in scope, or one that another rule keeps from being bound
  abbrev pub Kept : Around → Word → Type 0
  Kept a y = (in_some a y ≡ true) ⊎ (may_rebind ext y ≡ false)

  any_named : (xs : List Word) (rs : List Standings) (y : Word) → in_any rs y ≡ true → in_any (map (naming xs) rs) y ≡ true
  any_named xs [] y e = cc
  any_named xs (r ∷ rs) y e = by (in_scope r y) refl e (any_named xs rs y)
    where
      by : (b : Bool) → in_scope r y ≡ b → (b || in_any rs y) ≡ true → (in_any rs y ≡ true → in_any (map (naming xs) rs) y ≡ true) → (in_scope (naming xs r) y || in_any (map (naming xs) rs) y) ≡ true
      by true q e h = (λ i. (scope_of_both xs r y ∙ ap (λ b. is_among xs y || b) q ∙ or_right (is_among xs y) true refl) i || in_any (map (naming xs) rs) y)
      by false q e h = ap (λ b. in_scope (naming xs r) y || b) (h e) ∙ or_right (in_scope (naming xs r) y) true refl

  some_named : (xs : List Word) (a : Around) (y : Word) → in_some a y ≡ true → in_some (around_all (naming xs) a) y ≡ true
  some_named xs a y e = any_named xs (a.base ∷ a.others) y e

  named_some : (xs : List Word) (a : Around) (y : Word) → is_among xs y ≡ true → in_some (around_all (naming xs) a) y ≡ true
  named_some xs a y e = λ i. (scope_of_both xs a.base y ∙ ap (λ b. b || in_scope a.base y) e) i || in_any (map (naming xs) a.others) y

  kept_named : (xs : List Word) (a : Around) (y : Word) → Kept a y → Kept (around_all (naming xs) a) y
  kept_named xs a y (inl e) = inl (some_named xs a y e)
  kept_named xs a y (inr e) = inr e

  -- ---- what a body binds

  -- it may be bound where all of these are in scope
  abbrev pub FreeOf : Around → Word → Type 0
  FreeOf a x = Each_of (λ r. Free ext ps r x) a

  -- of all together, one after the other
  free_through : (rs : List Standings) (b : Statements) (F : Form → Place → Type 0) (N : Word → Type 0) → Throughout F N b → All (λ r. Throughout (BindsFree ext ps r) (Free ext ps r) b) rs
      → Throughout (λ m at. F m at × All (λ r. BindsFree ext ps r m at) rs) (λ x. N x × All (λ r. Free ext ps r x) rs) b
  free_through [] b F N h k = throughout_weaker _ _ _ _ (λ m at f. (f, tt)) (λ x n. (n, tt)) b h
  free_through (r ∷ rs) b F N h k =
      throughout_weaker _ _ _ _ (λ m at f. (f.0.0, (f.0.1, f.1))) (λ x n. (n.0.0, (n.0.1, n.1))) b
      (free_through rs b (λ m at. F m at × BindsFree ext ps r m at) (λ x. N x × Free ext ps r x) (throughout_both F (BindsFree ext ps r) N (Free ext ps r) b h k.0) k.1)

  -- a bound name is none that is kept
  no_scope : (r : Standings) (x : Word) → Free ext ps r x → may_rebind ext x ≡ true → in_scope r x ≡ false
  no_scope r x f m = by (in_scope r x) refl
    where
      by : (b : Bool) → in_scope r x ≡ b → b ≡ false
      by true q = absurd (both_ways true (sym (λ i. q i && m i) ∙ f) refl)
      by false q = refl

  no_any : (rs : List Standings) (x : Word) → All (λ r. Free ext ps r x) rs → may_rebind ext x ≡ true → in_any rs x ≡ false
  no_any [] x f m = refl
  no_any (r ∷ rs) x f m = λ i. no_scope r x f.0 m i || no_any rs x f.1 m i

  not_kept : (a : Around) (x : Word) → FreeOf a x → may_rebind ext x ≡ true → (y : Word) → Kept a y → IsOther x y
  not_kept a x f m y k = by (bytes_eq x y) refl k
    where
      none : in_some a x ≡ false
      none = λ i. no_scope a.base x f.0 m i || no_any a.others x f.1 m i

      by : (b : Bool) → bytes_eq x y ≡ b → Kept a y → b ≡ false
      by true q (inl e) = absurd (both_ways (in_some a x) none (ap (in_some a) ((bytes_eq-Decides x y).0 q) ∙ e))
      by true q (inr e) = absurd (both_ways (may_rebind ext x) (ap (may_rebind ext) ((bytes_eq-Decides x y).0 q) ∙ e) m)
      by false q k = refl

  -- ---- names that are seen in a macro's body and under a `with`

  sees_more : (u : Use) (x : Word) (s : Sight) (N : Word → Type 0) → Sees s N → (y : Word) → Usable (use_of (knowing u x ∷ s) y) → (bytes_eq x y ≡ true) ⊎ N y
  sees_more u x s N h y k = by (bytes_eq x y) refl k
    where
      by : (b : Bool) → bytes_eq x y ≡ b → Usable (cond b (Some u) (use_of s y)) → (bytes_eq x y ≡ true) ⊎ N y
      by true q k = inl q
      by false q k = inr (h y k)

  abbrev OneOf : List Word → (Word → Type 0) → Word → Type 0
  OneOf xs N y = (is_among xs y ≡ true) ⊎ N y

  more_of : (x : Word) (xs : List Word) (N : Word → Type 0) (y : Word) → (bytes_eq x y ≡ true) ⊎ OneOf xs N y → OneOf (x ∷ xs) N y
  more_of x xs N y (inl e) = inl (or_left (bytes_eq x y) (is_among xs y) e)
  more_of x xs N y (inr (inl e)) = inl (or_right (bytes_eq x y) (is_among xs y) e)
  more_of x xs N y (inr (inr n)) = inr n

  sees_parameters : (qs : List Name) (ts : Trees) (s r : Sight) (N : Word → Type 0) → Sees r N → Sees (seeing_parameters qs ts s r) (OneOf (words qs) N)
  sees_parameters [] ts s r N h y k = inr (h y k)
  sees_parameters (q ∷ qs) no_trees s r N h y k =
      more_of q.word (words qs) N y (sees_more variable q.word (seeing_parameters qs no_trees s r) (OneOf (words qs) N) (sees_parameters qs no_trees s r N h) y k)
  sees_parameters (q ∷ qs) (tree t ts) s r N h y k =
      more_of q.word (words qs) N y (sees_more (parameter_use (root t) (root_place t) s) q.word (seeing_parameters qs ts s r) (OneOf (words qs) N) (sees_parameters qs ts s r N h) y k)

  turned : (x : Word) (xs : List Word) (N : Word → Type 0) (y : Word) → OneOf xs (OneOf (x ∷ []) N) y → OneOf (x ∷ xs) N y
  turned x xs N y (inl e) = inl (or_right (bytes_eq x y) (is_among xs y) e)
  turned x xs N y (inr (inl e)) = inl (or_left (bytes_eq x y) (is_among xs y) (one (bytes_eq x y) e))
    where
      one : (b : Bool) → (b || false) ≡ true → b ≡ true
      one true e = refl
      one false e = cc
  turned x xs N y (inr (inr n)) = inr n

  sees_one : (x : Word) (s : Sight) (N : Word → Type 0) → Sees s N → Sees (seeing_plain (x ∷ []) s) (OneOf (x ∷ []) N)
  sees_one x s N h y k = by (sees_more (takes 0) x s N h y k)
    where
      by : (bytes_eq x y ≡ true) ⊎ N y → OneOf (x ∷ []) N y
      by (inl e) = inl (or_left (bytes_eq x y) false e)
      by (inr n) = inr n

  sees_after : (bs : Binds) (s : Sight) (N : Word → Type 0) → Sees s N → Sees (after_binds bs s) (OneOf (words (names_of_binds bs)) N)
  sees_after no_binds s N h y k = inr (h y k)
  sees_after (one_of x e bs) s N h y k = turned x.word (words (names_of_binds bs)) N y (sees_after bs (seeing_plain (x.word ∷ []) s) (OneOf (x.word ∷ []) N) (sees_one x.word s N h) y k)
  sees_after (is x e bs) s N h y k = turned x.word (words (names_of_binds bs)) N y (sees_after bs (seeing_plain (x.word ∷ []) s) (OneOf (x.word ∷ []) N) (sees_one x.word s N h) y k)

  kept_bound : (xs : List Word) (a : Around) (y : Word) → OneOf xs (Kept a) y → Kept (around_all (naming xs) a) y
  kept_bound xs a y (inl e) = inl (named_some xs a y e)
  kept_bound xs a y (inr n) = kept_named xs a y n

  -- ---- arguments

  not_among : (x : Word) (qs : List Name) (ts : Trees) → is_among (words qs) x ≡ false → (at : Place) → arguments qs ts x at ≡ None
  not_among x [] ts e at = refl
  not_among x (q ∷ qs) no_trees e at = refl
  not_among x (q ∷ qs) (tree t ts) e at = by (bytes_eq q.word x) (not_among x qs ts) e
    where
      by : (b : Bool) → (is_among (words qs) x ≡ false → (at : Place) → arguments qs ts x at ≡ None) → (b || is_among (words qs) x) ≡ false → cond b (Some t) (arguments qs ts x at) ≡ None
      by true h e = cc
      by false h e = h e at

  not_free_in : (a : Around) (x : Word) → ((y : Word) → Kept a y → IsOther x y) → (qs : List Name) (ts : Trees) → FreeInParts (Kept a) Any [] ts → (y : Word) (at : Place) → NotFreeIn x (arguments qs ts y at)
  not_free_in a x h [] ts k y at = tt
  not_free_in a x h (q ∷ qs) no_trees k y at = tt
  not_free_in a x h (q ∷ qs) (tree t ts) k y at = by (bytes_eq q.word y) (arguments qs ts y at) (not_free_in a x h qs ts k.1 y at)
    where
      by : (b : Bool) (o : Option Tree) → NotFreeIn x o → NotFreeIn x (cond b (Some t) o)
      by true o n = free_weaker (Kept a) (IsOther x) h t k.0
      by false o n = n

  -- ---- macros

  abbrev pub R : Word → Type 0
  R x = may_rebind ext x ≡ true

  -- of each macro: in its own text, with its parameters in scope, nothing is bound again; it binds no name of the translation; it begins with a statement, and none of its list jumps or calls
  abbrev pub SoundMacros : Standings → List Macro → Type 0
  SoundMacros t [] = Unit {0}
  SoundMacros t (d ∷ older) =
      (body_rebinds ext ps (macro_rebinds ext ps older) d.body (naming (words d.params) t) ≡ [])
      × Throughout (λ m at. Each R (binders m)) R (expand (written_out older) d.body) × BeginsUnlabelled d.body × Stays d.body × SoundMacros t older

  abbrev pub FineCalls : List Macro → Type 0
  FineCalls ms = (s : Sight) (a : Around) (at : Place) (m : Word) (ts : Trees) → macro_offences ms ps s at m ts ≡ [] → Each_of (λ r. macro_rebinds ext ps ms r m ts ≡ []) a → Sees s (Kept a)
      → FreeInParts (Kept a) Any [] ts → FineCall ms m ts

  module _ (ms : List Macro) (c : FineCalls ms) where
    abbrev B : Statements → Standings → Type 0
    B b r = body_rebinds ext ps (macro_rebinds ext ps ms) b r ≡ []

    mutual
      one_fine : (at : Place) (st : Statement) (s : Sight) (a : Around) → in_one (macro_offences ms ps) ps at st s ≡ [] → Each_of (λ r. one_rebinds ext ps (macro_rebinds ext ps ms) st r ≡ []) a → Sees s (Kept a) → CallsOne (FineCall ms) st
      one_fine at (branch e x y) s a u w h =
          let j = both_none (in_whole e s) (in_body (macro_offences ms ps) ps x s ++ in_body (macro_offences ms ps) ps y s) u in
          let k = both_none (in_body (macro_offences ms ps) ps x s) (in_body (macro_offences ms ps) ps y s) j.1 in
          let parts : (r : Standings) → one_rebinds ext ps (macro_rebinds ext ps ms) (branch e x y) r ≡ [] → (B x r) × (B y r) = λ r q.
          both_none (body_rebinds ext ps (macro_rebinds ext ps ms) x r) (body_rebinds ext ps (macro_rebinds ext ps ms) y r) ((both_none (whole_rebinds ext e r) (body_rebinds ext ps (macro_rebinds ext ps ms) x r ++ body_rebinds ext ps (macro_rebinds ext ps ms) y r) q).1) in
          (body_fine x s a k.0 (each_same _ _ (λ r q. (parts r q).0) a w) h, body_fine y s a k.1 (each_same _ _ (λ r q. (parts r q).1) a w) h)
      one_fine at (either bs) s a u w h = some_fine bs s a u w h
      one_fine at (with bs b) s a u w h =
          let xs = words (names_of_binds bs) in
          let k = both_none (in_binds bs s) (in_body (macro_offences ms ps) ps b (after_binds bs s)) u in
          body_fine b (after_binds bs s) (around_all (naming xs) a) k.1
          (each_mapped (λ r. one_rebinds ext ps (macro_rebinds ext ps ms) (with bs b) r ≡ []) (B b) (naming xs) (λ r q.
          (both_none (binds_rebind ext bs r) (body_rebinds ext ps (macro_rebinds ext ps ms) b (naming xs r))
          ((both_none (rebound_all ext r (names_of_binds bs)) (binds_rebind ext bs r ++ body_rebinds ext ps (macro_rebinds ext ps ms) b (naming xs r)) q).1)).1) a w)
          (λ y n. kept_bound xs a y (sees_after bs s (Kept a) h y n))
      one_fine at (while e b) s a u w h =
          let k = both_none (in_whole e s) (in_body (macro_offences ms ps) ps b s) u in
          body_fine b s a k.1 (each_same _ _ (λ r q. (both_none (whole_rebinds ext e r) (body_rebinds ext ps (macro_rebinds ext ps ms) b r) q).1) a w) h
      one_fine at (macro m ts) s a u w h =
          let k = both_none (macro_offences ms ps s at m ts) (in_each ts s) u in
          c s a at m ts k.0 (each_same _ _ (λ r q. (both_none (macro_rebinds ext ps ms r m ts) (each_rebinds ext ts r) q).0) a w) h (parts_seen [] false ts s (Kept a) h k.1)
      one_fine at (assign ms) s a u w h = tt
      one_fine at (await e) s a u w h = tt
      one_fine at (print e) s a u w h = tt
      one_fine at (assert e) s a u w h = tt
      one_fine at skip s a u w h = tt
      one_fine at (goto l) s a u w h = tt
      one_fine at (call p ts) s a u w h = tt
      one_fine at return s a u w h = tt

      pub body_fine : (b : Statements) (s : Sight) (a : Around) → in_body (macro_offences ms ps) ps b s ≡ [] → Each_of (B b) a → Sees s (Kept a) → Calls (FineCall ms) b
      body_fine done s a u w h = tt
      body_fine (then at st rest) s a u w h =
          let k = both_none (in_one (macro_offences ms ps) ps at.first st s) (in_body (macro_offences ms ps) ps rest s) u in
          let parts : (r : Standings) → B (then at st rest) r → (one_rebinds ext ps (macro_rebinds ext ps ms) st r ≡ []) × (B rest r) = λ r q. both_none (one_rebinds ext ps (macro_rebinds ext ps ms) st r) (body_rebinds ext ps (macro_rebinds ext ps ms) rest r) q in
          (one_fine at.first st s a k.0 (each_same _ _ (λ r q. (parts r q).0) a w) h, body_fine rest s a k.1 (each_same _ _ (λ r q. (parts r q).1) a w) h)
      body_fine (mark l k rest) s a u w h = body_fine rest s a u w h

      some_fine : (bs : Branches) (s : Sight) (a : Around) → in_branches (macro_offences ms ps) ps bs s ≡ [] → Each_of (λ r. branches_rebind ext ps (macro_rebinds ext ps ms) bs r ≡ []) a → Sees s (Kept a) → CallsSome (FineCall ms) bs
      some_fine no_branches s a u w h = tt
      some_fine (or b bs) s a u w h =
          let k = both_none (in_body (macro_offences ms ps) ps b s) (in_branches (macro_offences ms ps) ps bs s) u in
          let parts : (r : Standings) → branches_rebind ext ps (macro_rebinds ext ps ms) (or b bs) r ≡ [] → (B b r) × (branches_rebind ext ps (macro_rebinds ext ps ms) bs r ≡ []) = λ r q. both_none (body_rebinds ext ps (macro_rebinds ext ps ms) b r) (branches_rebind ext ps (macro_rebinds ext ps ms) bs r) q in
          (body_fine b s a k.0 (each_same _ _ (λ r q. (parts r q).0) a w) h, some_fine bs s a k.1 (each_same _ _ (λ r q. (parts r q).1) a w) h)

  -- in the body of a macro that is called: its own text, and where it is called
  abbrev called_around : Standings → Macro → Trees → Around → Around
  called_around t d ts a = record { base = naming (words d.params) t; others = map (λ r. putting_in d.params ts r r) (a.base ∷ a.others) }

  any_put : (qs : List Name) (ts : Trees) (rs : List Standings) (y : Word) → in_any rs y ≡ true → in_any (map (λ r. putting_in qs ts r r) rs) y ≡ true
  any_put qs ts [] y e = cc
  any_put qs ts (r ∷ rs) y e = same qs ts r rs y ∙ e
    where
      same : (qs : List Name) (ts : Trees) (r : Standings) (rs : List Standings) (y : Word) → in_any (map (λ r. putting_in qs ts r r) (r ∷ rs)) y ≡ in_any (r ∷ rs) y
      same qs ts r [] y = ap (λ b. b || false) (putting_scope ext ps qs ts r r y)
      same qs ts r (z ∷ zs) y = λ i. putting_scope ext ps qs ts r r y i || same qs ts z zs y i

  kept_called : (t : Standings) (d : Macro) (ts : Trees) (a : Around) (y : Word) → OneOf (words d.params) (Kept a) y → Kept (called_around t d ts a) y
  kept_called t d ts a y (inl e) = inl (or_left (in_scope (naming (words d.params) t) y) (in_any (map (λ r. putting_in d.params ts r r) (a.base ∷ a.others)) y) (scope_of_both (words d.params) t y ∙ or_left (is_among (words d.params) y) (in_scope t y) e))
  kept_called t d ts a y (inr (inl e)) = inl (or_right (in_scope (naming (words d.params) t) y) (in_any (map (λ r. putting_in d.params ts r r) (a.base ∷ a.others)) y) (any_put d.params ts (a.base ∷ a.others) y e))
  kept_called t d ts a y (inr (inr e)) = inr e

  -- a bound name of the body is no parameter, and is free in no argument
  apart_called : (t : Standings) (d : Macro) (ts : Trees) (a : Around) (x : Word) → FreeOf (called_around t d ts a) x → R x → FreeInParts (Kept a) Any [] ts → Apart (arguments d.params ts) x
  apart_called t d ts a x f m k =
      let other = not_kept (called_around t d ts a) x f m in
      record {
        left = λ at. not_among x d.params ts (no_parameter (is_among (words d.params) x) refl) at;
        unread = λ y at. not_free_in a x (λ z n. other z (kept_called t d ts a z (inr n))) d.params ts k y at;
      }
    where
      no_parameter : (b : Bool) → is_among (words d.params) x ≡ b → b ≡ false
      no_parameter true q = absurd (both_ways (bytes_eq x x) (not_kept (called_around t d ts a) x f m x (kept_called t d ts a x (inl q))) ((bytes_eq-Decides x x).1 refl))
      no_parameter false q = refl

  each_two : (P Q S : Word → Type 0) → ((x : Word) → P x → Q x → S x) → (xs : List Word) → Each P xs → Each Q xs → Each S xs
  each_two P Q S h [] p q = tt
  each_two P Q S h (x ∷ xs) p q = (h x p.0 q.0, each_two P Q S h xs p.1 q.1)

  -- facts of the bound names of a form, list by list
  each_of_all : (rs : List Standings) (xs : List Word) → All (λ r. Each (Free ext ps r) xs) rs → Each (λ x. All (λ r. Free ext ps r x) rs) xs
  each_of_all [] xs h = each_any xs
    where
      each_any : (xs : List Word) → Each (λ x. Unit {0}) xs
      each_any [] = tt
      each_any (x ∷ xs) = (tt, each_any xs)
  each_of_all (r ∷ rs) xs h = each_two (Free ext ps r) (λ x. All (λ q. Free ext ps q x) rs) (λ x. All (λ q. Free ext ps q x) (r ∷ rs)) (λ x p q. (p, q)) xs h.0 (each_of_all rs xs h.1)

  pub calls_fine : (t : Standings) (ms : List Macro) → SoundMacros t ms → FineCalls ms
  calls_fine t [] g s a at m ts u w h k = tt
  calls_fine t (d ∷ older) g s a at m ts u w h k = by (bytes_eq d.name.word m) (calls_fine t older g.4) u w
    where
      by : (b : Bool) → FineCalls older
          → cond b (offence_if (not (nat_eq (length d.params) (count ts))) Arity at ++ in_body (macro_offences older ps) ps d.body (seeing_parameters d.params ts s s)) (macro_offences older ps s at m ts) ≡ []
          → Each_of (λ r. cond b (body_rebinds ext ps (macro_rebinds ext ps older) d.body (putting_in d.params ts r r)) (macro_rebinds ext ps older r m ts) ≡ []) a
          → Chosen b
          (Throughout (ApartForm (arguments d.params ts)) (Apart (arguments d.params ts)) (expand (written_out older) d.body) × Calls (FineCall older) d.body × BeginsUnlabelled d.body × Stays d.body)
          (FineCall older m ts)
      by true c u w =
          let a' = called_around t d ts a in
          let walked : Each_of (λ r. body_rebinds ext ps (macro_rebinds ext ps older) d.body r ≡ []) a' = (g.0, all_mapped (λ r. body_rebinds ext ps (macro_rebinds ext ps older) d.body (putting_in d.params ts r r) ≡ []) (λ r. body_rebinds ext ps (macro_rebinds ext ps older) d.body r ≡ []) (λ r. putting_in d.params ts r r) (λ r q. q) (a.base ∷ a.others) w) in
          let used = (both_none (offence_if (not (nat_eq (length d.params) (count ts))) Arity at) (in_body (macro_offences older ps) ps d.body (seeing_parameters d.params ts s s)) u).1 in
          let bare = free_through (a'.base ∷ a'.others) (expand (written_out older) d.body) (λ m at. Each R (binders m)) R g.1
          (written_bare ext ps older d.body a'.base walked.0, all_same _ _ (λ r q. written_bare ext ps older d.body r q) a'.others walked.1) in (
            throughout_weaker _ _ _ _
                (λ m at f. each_two R (λ x. FreeOf a' x) (Apart (arguments d.params ts)) (λ x r q. apart_called t d ts a x q r k) (binders m) f.0 (each_two (Free ext ps a'.base) (λ x. All (λ r. Free ext ps r x) a'.others) (λ x. FreeOf a' x) (λ x p q. (p, q)) (binders m) f.1.0 (each_of_all a'.others (binders m) f.1.1)))
                (λ x f. apart_called t d ts a x f.1 f.0 k) (expand (written_out older) d.body) bare,
            body_fine older c d.body (seeing_parameters d.params ts s s) a' used walked (λ y n. kept_called t d ts a y (sees_parameters d.params ts s s (Kept a) h y n)),
            g.2,
            g.3,
          )
      by false c u w = c s a at m ts u w h k

  -- where no use of a name offends and no name is bound again, the macro calls of a body capture nothing
  pub nothing_captured : (t : Standings) (ms : List Macro) → SoundMacros t ms → (b : Statements) (s : Sight) (r : Standings) → in_body (macro_offences ms ps) ps b s ≡ []
      → body_rebinds ext ps (macro_rebinds ext ps ms) b r ≡ [] → Sees s (Kept (record { base = r; others = [] })) → Calls (FineCall ms) b
  nothing_captured t ms g b s r u w h = body_fine ms (calls_fine t ms g) b s (record { base = r; others = [] }) u (w, tt) h
