-- Items of lists of statements one after another, of what is assigned already as a set, and with trees put in for names.
use Rattle.std.proofs.Common.{◌≡◌, List, [], ◌∷◌, ◌++◌, Bool, true, false, cond, ◌||◌, ◌&&◌, not, refl, sym, ◌∙◌, ap, append_assoc}
use Rattle.std.specs.List.{filter}
use Rattle.std.proofs.lemmas.Bool.{or_parts}
use Rattle.tla_token.specs.Signs.{is_among}
use Rattle.tla_token.specs.declared.place.Place.{Place}
use Rattle.tla_tree.specs.Tree.{Word, Graft}
use Rattle.module_tree.specs.Module.{setting, local, Items, no_items, item}
use Rattle.pcal_tree.specs.Algorithm.{Span, Assignments, no_binds, one_of, is, Statement, assign, await, print, assert, skip, branch, either, with, while, goto, macro, call, return, Statements, done, then, mark}
use Rattle.pcal_tree.specs.Expand.{followed_by}
use Rattle.action_builder.specs.SingleProcess.{graft_item, graft_items}
use Rattle.action_builder.specs.Assigned.{Names, more, assigned, assigned_in}
use Rattle.action_builder.specs.Settled.{jumps_one, jumps}
use Rattle.action_builder.specs.Written.{own, side_of, primed, left_of, unchanged_of, onto, filled, settings_of, is_old, put_in, nested_items, branch_items, write_one, write}
use Rattle.action_builder.proofs.Sets.{more_append}

-- ---- sets of names

pub same_names : (A B : Names) → ((x : Word) → A x ≡ B x) → A ≡ B
same_names A B h = λ i x. h x i

pub more_none : (A : Names) → more A [] ≡ A
more_none A = same_names (more A []) A (λ x. or_false (A x))
  where
    or_false : (b : Bool) → (b || false) ≡ b
    or_false true = refl
    or_false false = refl

pub more_alike : (A : Names) (xs ys : List Word) → ((x : Word) → is_among xs x ≡ is_among ys x) → more A xs ≡ more A ys
more_alike A xs ys h = λ i x. A x || h x i

-- what is written rests on which names are assigned already
pub write_alike : (vs : List Word) (A B : Names) → ((x : Word) → A x ≡ B x) → (ss : Statements) → write vs A ss ≡ write vs B ss
write_alike vs A B h ss = ap (λ (C : Names). write vs C ss) (same_names A B h)

pub left_filtered : (vs all mine : List Word) → left_of vs all mine ≡ filter (λ v. is_among all v && not (is_among mine v)) vs
left_filtered [] all mine = refl
left_filtered (v ∷ vs) all mine = ap (λ ws. cond (is_among all v && not (is_among mine v)) (v ∷ ws) ws) (left_filtered vs all mine)

pub left_alike : (vs all mine others ours : List Word) → ((x : Word) → is_among all x ≡ is_among others x) → ((x : Word) → is_among mine x ≡ is_among ours x)
    → left_of vs all mine ≡ left_of vs others ours
left_alike [] all mine others ours h k = refl
left_alike (v ∷ vs) all mine others ours h k =
    λ i. cond (h v i && not (k v i)) (v ∷ left_alike vs all mine others ours h k i) (left_alike vs all mine others ours h k i)

pub branch_alike : (vs : List Word) (at : Place) (us : Items) (all mine others ours : List Word) → ((x : Word) → is_among all x ≡ is_among others x) → ((x : Word) → is_among mine x ≡ is_among ours x)
    → branch_items vs at us all mine ≡ branch_items vs at us others ours
branch_alike vs at us all mine others ours h k = ap (λ ws. filled at (onto us (unchanged_of ws))) (left_alike vs all mine others ours h k)

-- ---- items one after another

pub onto_none : (us : Items) → onto us no_items ≡ us
onto_none no_items = refl
onto_none (item i us) = ap (item i) (onto_none us)

pub onto_again : (us js ks : Items) → onto (onto us js) ks ≡ onto us (onto js ks)
onto_again no_items js ks = refl
onto_again (item i us) js ks = ap (item i) (onto_again us js ks)

pub settings_onto : (A : Names) (ms : Assignments) (ys : List Word) (us js : Items) → settings_of A ms ys (onto us js) ≡ onto (settings_of A ms ys us) js
settings_onto A ms [] us js = refl
settings_onto A ms (y ∷ ys) us js = ap (item (setting y (primed A (side_of y (own y ms))))) (settings_onto A ms ys us js)

-- before other items
pub settings_before : (A : Names) (ms : Assignments) (ys : List Word) (us : Items) → settings_of A ms ys us ≡ onto (settings_of A ms ys no_items) us
settings_before A ms ys us = settings_onto A ms ys no_items us

pub settings_joined : (A : Names) (ms : Assignments) (xs ys : List Word) (us : Items) → settings_of A ms (xs ++ ys) us ≡ settings_of A ms xs (settings_of A ms ys us)
settings_joined A ms [] ys us = refl
settings_joined A ms (x ∷ xs) ys us = ap (item (setting x (primed A (side_of x (own x ms))))) (settings_joined A ms xs ys us)

pub one_onto : (vs : List Word) (A : Names) (at : Place) (st : Statement) (us js : Items) → write_one vs A at st (onto us js) ≡ onto (write_one vs A at st us) js
one_onto vs A at (assign ms) us js = settings_onto A ms _ us js
one_onto vs A at (await e) us js = refl
one_onto vs A at (print e) us js = refl
one_onto vs A at (assert e) us js = refl
one_onto vs A at skip us js = refl
one_onto vs A at (branch e a b) us js = refl
one_onto vs A at (either bs) us js = refl
one_onto vs A at (with no_binds b) us js = refl
one_onto vs A at (with (one_of x e bs) b) us js = refl
one_onto vs A at (with (is x e bs) b) us js = by (is_old (is x e bs))
  where
    by : (k : Bool)
        → cond k (onto (put_in A x.word e (write vs A b)) (onto us js)) (item (local x.word (primed A e) (nested_items A bs (filled at (write vs A b)))) (onto us js))
        ≡ onto (cond k (onto (put_in A x.word e (write vs A b)) us) (item (local x.word (primed A e) (nested_items A bs (filled at (write vs A b)))) us)) js
    by true = sym (onto_again (put_in A x.word e (write vs A b)) us js)
    by false = refl
one_onto vs A at (while e b) us js = refl
one_onto vs A at (goto l) us js = refl
one_onto vs A at (macro m ts) us js = refl
one_onto vs A at (call p ts) us js = refl
one_onto vs A at return us js = refl

-- before other items
pub one_before : (vs : List Word) (A : Names) (at : Place) (st : Statement) (us : Items) → write_one vs A at st us ≡ onto (write_one vs A at st no_items) us
one_before vs A at st us = one_onto vs A at st no_items us

-- ---- lists one after another

-- no label stands between the statements of the list
abbrev pub Unmarked : Statements → Type 0
Unmarked done = Unit {0}
Unmarked (then at st rest) = Unmarked rest
Unmarked (mark l k rest) = ⊥

pub still_unmarked : (ss : Statements) → jumps ss ≡ false → Unmarked ss
still_unmarked done h = tt
still_unmarked (then at st rest) h = still_unmarked rest (or_parts (jumps_one st) (jumps rest) h).1
still_unmarked (mark l k rest) h = cc

pub assigned_followed : (a b : Statements) → Unmarked a → assigned_in (followed_by a b) ≡ assigned_in a ++ assigned_in b
assigned_followed done b h = refl
assigned_followed (then at st a) b h = ap (λ xs. assigned st ++ xs) (assigned_followed a b h) ∙ sym (append_assoc (assigned st) (assigned_in a) (assigned_in b))
assigned_followed (mark l k a) b h = absurd h

pub write_followed : (vs : List Word) (A : Names) (a b : Statements) → Unmarked a → write vs A (followed_by a b) ≡ onto (write vs A a) (write vs (more A (assigned_in a)) b)
write_followed vs A done b h = ap (λ (C : Names). write vs C b) (sym (more_none A))
write_followed vs A (then at st a) b h =
    ap (write_one vs A at.first st) (write_followed vs (more A (assigned st)) a b h)
    ∙ one_onto vs A at.first st (write vs (more A (assigned st)) a) (write vs (more (more A (assigned st)) (assigned_in a)) b)
    ∙ ap (λ (C : Names). onto (write_one vs A at.first st (write vs (more A (assigned st)) a)) (write vs C b)) (sym (more_append A (assigned st) (assigned_in a)))
write_followed vs A (mark l k a) b h = absurd h

-- statement by statement
pub write_then : (vs : List Word) (A : Names) (at : Span) (st : Statement) (rest : Statements) → write vs A (then at st rest) ≡ onto (write_one vs A at.first st no_items) (write vs (more A (assigned st)) rest)
write_then vs A at st rest = one_before vs A at.first st (write vs (more A (assigned st)) rest)

-- ---- trees put in for names

module _ (g : Graft) where
  pub put_onto : (us js : Items) → graft_items g (onto us js) ≡ onto (graft_items g us) (graft_items g js)
  put_onto no_items js = refl
  put_onto (item i us) js = ap (item (graft_item g i)) (put_onto us js)

  pub put_filled : (at : Place) (us : Items) → graft_items g (filled at us) ≡ filled at (graft_items g us)
  put_filled at no_items = refl
  put_filled at (item i us) = refl

  pub put_unchanged : (xs : List Word) → graft_items g (unchanged_of xs) ≡ unchanged_of xs
  put_unchanged [] = refl
  put_unchanged (x ∷ xs) = refl

  pub put_branch : (vs : List Word) (at : Place) (us : Items) (all mine : List Word) → graft_items g (branch_items vs at us all mine) ≡ branch_items vs at (graft_items g us) all mine
  put_branch vs at us all mine =
      put_filled at (onto us (unchanged_of (left_of vs all mine)))
      ∙ ap (filled at) (put_onto us (unchanged_of (left_of vs all mine)) ∙ ap (onto (graft_items g us)) (put_unchanged (left_of vs all mine)))

  pub put_settings : (A : Names) (ms : Assignments) (ys : List Word) (us : Items) → graft_items g (settings_of A ms ys us) ≡ onto (graft_items g (settings_of A ms ys no_items)) (graft_items g us)
  put_settings A ms ys us = ap (graft_items g) (settings_before A ms ys us) ∙ put_onto (settings_of A ms ys no_items) us
