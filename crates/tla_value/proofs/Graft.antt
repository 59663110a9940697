-- A tree with trees put in for its names means what the tree means where the names stand for them.
use Rattle.std.proofs.Common.{◌≡◌, List, [], ◌∷◌, Bool, true, false, cond, bytes_eq, Option, Some, None, refl, sym, ◌∙◌, ap}
use Rattle.std.proofs.lemmas.Slice.Eq.{bytes_eq-Decides}
use Rattle.tla_token.specs.declared.place.Place.{Place}
use Rattle.tla_tree.specs.Tree.{Word, Form, name, next, operator_call, Tree, node, Trees, no_trees, tree, Every, EveryOf, Each, binders, seen_names, Graft, grafted_name, grafted_node, graft, grafts}
use Rattle.tla_value.specs.Value.{Value}
use Rattle.tla_value.specs.Stops.{Check}
use Rattle.tla_value.specs.Meaning.{Env, just, bind, eval, evals}
use Rattle.tla_value.specs.Grafts.{read_tree, through}
use Rattle.tla_value.proofs.Facts.{each_weaker, every_weaker}
use Rattle.tla_value.proofs.Joined.{none, one}
use Rattle.tla_value.proofs.Alike.{equal, senses_are, senses_from, checks_equal, reads, AllAlike}
use Rattle.tla_value.proofs.Relations.{Bound, Rel}
use Rattle.tla_value.specs.laws.Grafting.{Apart, ApartForm, NotFreeIn, Clear, BindsClear, Unread}
use Rattle.tla_value.specs.laws.FreeNames.{Or, Also, FormReads, FreeNames, FreeInParts, Any}
use Rattle.tla_value.proofs.JoinedEval.{Dens, BoundIn, at_value, After, Parts, no_parts, part, seeing, form_both, EachList, each_seen}
use Rattle.tla_value.proofs.FreeNames.{other_of, not_free, any_names}

name_reads : (c : Check) (o : Option Tree) (x : Word) (at : Place) (ts : Trees) (e : Env) → eval c (grafted_name o (name x) at ts) e ≡ read_tree c o x at e
name_reads c (Some t) x at ts e = refl
name_reads c None x at ts e = refl

-- ---- name by name

-- for the names of N and the operators of M, f is where they stand for the trees of g in e
pub record GraftedOn (c : Check) (g : Graft) (N M : Word → Type 0) (e f : Env) : Type 0 where
  pub now : (x : Word) → N x → (at : Place) → f.now x at ≡ read_tree c (g x at) x at e
  pub primed : (x : Word) (at : Place) → e.primed x at ≡ f.primed x at
  pub defs : (x : Word) → M x → e.defs x ≡ f.defs x

bound_read : (c : Check) (x y : Word) (at : Place) (v : Value) (e : Env) (o : Option Tree) → Unread c x o → bytes_eq x y ≡ false → read_tree c o y at e ≡ read_tree c o y at (bind x v e)
bound_read c x y at v e (Some t) k out = k v e
bound_read c x y at v e None k out = sym (ap (λ b. cond b (just v) (e.now y at)) out)

bound_by : (c : Check) (g : Graft) (N N' M : Word → Type 0) (x : Word) → Clear c g x → ((y : Word) → N' y → bytes_eq x y ≡ false → N y) → (e f : Env) (v : Value) → GraftedOn c g N M e f → GraftedOn c g N' M (bind x v e) (bind x v f)
bound_by c g N N' M x k h e f v r = record {
  now = λ y n at. by y n at (bytes_eq x y) refl;
  primed = r.primed;
  defs = r.defs;
}
  where
    by : (y : Word) → N' y → (at : Place) (b : Bool) → bytes_eq x y ≡ b → cond (bytes_eq x y) (just v) (f.now y at) ≡ read_tree c (g y at) y at (bind x v e)
    by y n at true q =
        let untouched : g y at ≡ None = sym (ap (λ z. g z at) ((bytes_eq-Decides x y).0 q)) ∙ k.left at in
        ap (λ b. cond b (just v) (f.now y at)) q
        ∙ sym (ap (λ b. cond b (just v) (e.now y at)) q)
        ∙ sym (ap (λ o. read_tree c o y at (bind x v e)) untouched)
    by y n at false q = ap (λ b. cond b (just v) (f.now y at)) q ∙ r.now y (h y n q) at ∙ bound_read c x y at v e (g y at) (k.unread y at) q

-- of the same names, where bound names are of them
pub bound_grafted : (c : Check) (g : Graft) (N M : Word → Type 0) (x : Word) → Clear c g x → Bound (GraftedOn c g N M) x
bound_grafted c g N M x k e f v r = bound_by c g N N M x k (λ y n q. n) e f v r

bound_on : (c : Check) (g : Graft) (N M : Word → Type 0) (R : Rel) (x : Word) → Clear c g x → ((e f : Env) → R e f → GraftedOn c g N M e f) → (e f : Env) → BoundIn R x e f → GraftedOn c g (Or x N) M e f
bound_on c g N M R x k h _ _ (at_value {e = e} {f = f} v r) = bound_by c g N (Or x N) M x k (λ y n q. other_of N x y n q) e f v (h e f r)

after_on : (c : Check) (g : Graft) (M : Word → Type 0) (xs : List Word) (N : Word → Type 0) (R : Rel) → Each (Clear c g) xs → ((e f : Env) → R e f → GraftedOn c g N M e f) → (e f : Env) → After R xs e f → GraftedOn c g (Also xs N) M e f
after_on c g M [] N R k h e f r = h e f r
after_on c g M (x ∷ xs) N R k h e f r = after_on c g M xs (Or x N) (BoundIn R x) k.1 (bound_on c g N M R x k.0 h) e f r

node_on : (c : Check) (g : Graft) (N M : Word → Type 0) (m : Form) (at : Place) (ts us : Trees) → FormReads N M m → Parts equal (GraftedOn c g N M) (GraftedOn c g N M) (seen_names m) (evals c us) (evals c ts) → Dens equal (GraftedOn c g N M) (eval c (grafted_node g m at us)) (eval c (node m at ts))
node_on c g N M (name x) at ts us h ps = λ e f r. senses_from _ _ (name_reads c (g x at) x at us e ∙ sym (r.now x h at))
node_on c g N M (next x) at ts us h ps = λ e f r. senses_from _ _ (r.primed x at)
node_on c g N M (operator_call o) at ts us h ps = form_both equal (GraftedOn c g N M) c c (checks_equal c) at at refl (operator_call o) _ _ (reads (GraftedOn c g N M) (operator_call o) (λ e f r. r.defs o h)) ps
node_on c g N M m at ts us h ps = form_both equal (GraftedOn c g N M) c c (checks_equal c) at at refl m _ _ tt ps

mutual
  pub tree_on : (c : Check) (g : Graft) (N M : Word → Type 0) (t : Tree) → Every (BindsClear c g) t → FreeNames N M t → Dens equal (GraftedOn c g N M) (eval c (graft g t)) (eval c t)
  tree_on c g N M (node m at ts) k h = node_on c g N M m at ts (grafts g ts) h.0 (parts_on c g N M (seen_names m) ts (each_seen (Clear c g) m k.0) k.1 h.1)

  parts_on : (c : Check) (g : Graft) (N M : Word → Type 0) (names : List (List Word)) (ts : Trees) → EachList (Clear c g) names → EveryOf (BindsClear c g) ts → FreeInParts N M names ts → Parts equal (GraftedOn c g N M) (GraftedOn c g N M) names (evals c (grafts g ts)) (evals c ts)
  parts_on c g N M names no_trees b k h = no_parts names
  parts_on c g N M [] (tree t ts) b k h = part (tree_on c g N M t k.0 h.0) (parts_on c g N M [] ts tt k.1 h.1)
  parts_on c g N M (xs ∷ names) (tree t ts) b k h =
      seeing xs (λ e f r. tree_on c g (Also xs N) M t k.0 h.0 e f (after_on c g M xs N (GraftedOn c g N M) b.0 (λ e' f' q. q) e f r)) (parts_on c g N M names ts b.1 k.1 h.1)

-- the grafted tree means in e what the tree means where the names that it reads free stand for the grafts in e
pub free_law : (c : Check) (g : Graft) (N M : Word → Type 0) (t : Tree) → Every (BindsClear c g) t → FreeNames N M t → (e f : Env) → GraftedOn c g N M e f → eval c (graft g t) e ≡ eval c t f
free_law c g N M t k h e f r = senses_are _ _ (tree_on c g N M t k h e f r)

-- and what the tree means where all names stand for them
pub grafted_law : (c : Check) (g : Graft) (t : Tree) → Every (BindsClear c g) t → (e f : Env) → GraftedOn c g Any Any e f → eval c (graft g t) e ≡ eval c t f
grafted_law c g t k = free_law c g Any Any t k (any_names Any Any (λ x. tt) (λ x. tt) t)

-- the same of all trees of a list
pub all_grafted : (c : Check) (g : Graft) (N M : Word → Type 0) (ts : Trees) → EveryOf (BindsClear c g) ts → FreeInParts N M [] ts → AllAlike (GraftedOn c g N M) (evals c (grafts g ts)) (evals c ts)
all_grafted c g N M no_trees k h = none
all_grafted c g N M (tree t ts) k h = one (free_law c g N M t k.0 h.0) (all_grafted c g N M ts k.1 h.1)

-- ---- premises by names

pub unread_in : (c : Check) (x : Word) (o : Option Tree) → NotFreeIn x o → Unread c x o
unread_in c x (Some t) h = not_free c x t h
unread_in c x None h = tt

pub apart_clear : (c : Check) (g : Graft) (x : Word) → Apart g x → Clear c g x
apart_clear c g x k = record { left = k.left; unread = λ y at. unread_in c x (g y at) (k.unread y at) }

-- with trees put in, a tree means what it means where its names stand for them
pub through_law : (c : Check) (g : Graft) (t : Tree) → Every (ApartForm g) t → (e : Env) → eval c (graft g t) e ≡ eval c t (through c g e)
through_law c g t h e =
    grafted_law c g t (every_weaker _ _ (λ m at k. each_weaker _ _ (apart_clear c g) (binders m) k) t h) e (through c g e) (record {
      now = λ x u at. refl;
      primed = λ x at. refl;
      defs = λ x u. refl;
    })
