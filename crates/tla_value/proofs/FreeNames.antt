-- A name that a tree doesn't read free is unread: environments that differ there alone give the same.
use Rattle.std.proofs.Common.{◌≡◌, List, [], ◌∷◌, Bool, true, false, cond, bytes_eq, refl, sym, ap, inl, inr}
use Rattle.std.proofs.lemmas.Slice.Eq.{bytes_eq-Decides}
use Rattle.tla_token.specs.declared.place.Place.{Place}
use Rattle.tla_tree.specs.Tree.{Word, Form, name, next, operator_call, Tree, node, Trees, no_trees, tree, seen_names}
use Rattle.tla_value.specs.Value.{Value}
use Rattle.tla_value.specs.Stops.{Check}
use Rattle.tla_value.specs.Meaning.{Env, just, bind, eval, evals}
use Rattle.tla_value.proofs.Relations.{ReadsAlike, Rel}
use Rattle.tla_value.specs.laws.FreeNames.{Or, Also, FormReads, FreeNames, FreeInParts, Any, IsOther, NotFree, AgreeOn}
use Rattle.tla_value.proofs.JoinedEval.{Dens, BoundIn, at_value, After, Parts, no_parts, part, seeing, form_both}
use Rattle.tla_value.proofs.Alike.{equal, senses_are, checks_equal, reads}

differ : {x y : Word} → x ≡ y → bytes_eq x y ≡ false → ⊥
differ {x} {y} e q = never (sym ((bytes_eq-Decides x y).1 e)) q
  where
    never : true ≡ bytes_eq x y → bytes_eq x y ≡ false → ⊥
    never p k = cc

-- of the names that are x or of N, those that aren't x
pub other_of : (N : Word → Type 0) (x y : Word) → Or x N y → bytes_eq x y ≡ false → N y
other_of N x y (inl e) q = absurd (differ e q)
other_of N x y (inr n) q = n

bound_agree : (N M : Word → Type 0) (R : Rel) (x : Word) → ((e f : Env) → R e f → AgreeOn N M e f) → (e f : Env) → BoundIn R x e f → AgreeOn (Or x N) M e f
bound_agree N M R x h _ _ (at_value {e = e} {f = f} v r) = record {
  now = λ y n at. by y n at (bytes_eq x y) refl;
  primed = (h e f r).primed;
  defs = (h e f r).defs;
}
  where
    by : (y : Word) → Or x N y → (at : Place) (b : Bool) → bytes_eq x y ≡ b → cond b (just v) (e.now y at) ≡ cond b (just v) (f.now y at)
    by y n at true q = refl
    by y n at false q = (h e f r).now y (other_of N x y n q) at

pub bind_agree : (N M : Word → Type 0) (x : Word) (v : Value) (e f : Env) → AgreeOn N M e f → AgreeOn (Or x N) M (bind x v e) (bind x v f)
bind_agree N M x v e f r = bound_agree N M (AgreeOn N M) x (λ e' f' k. k) _ _ (at_value v r)

after_agree : (M : Word → Type 0) (xs : List Word) (N : Word → Type 0) (R : Rel) → ((e f : Env) → R e f → AgreeOn N M e f) → (e f : Env) → After R xs e f → AgreeOn (Also xs N) M e f
after_agree M [] N R h e f r = h e f r
after_agree M (x ∷ xs) N R h e f r = after_agree M xs (Or x N) (BoundIn R x) (bound_agree N M R x h) e f r

form_reads : (N M : Word → Type 0) (m : Form) → FormReads N M m → ReadsAlike (AgreeOn N M) m
form_reads N M (name x) h = λ at e f r. r.now x h at
form_reads N M (next x) h = λ at e f r. r.primed x at
form_reads N M (operator_call g) h = λ e f r. r.defs g h
form_reads N M m h = tt

mutual
  tree_agrees : (c : Check) (N M : Word → Type 0) (t : Tree) → FreeNames N M t → Dens equal (AgreeOn N M) (eval c t) (eval c t)
  tree_agrees c N M (node m at ts) h = form_both equal (AgreeOn N M) c c (checks_equal c) at at refl m _ _ (reads (AgreeOn N M) m (form_reads N M m h.0)) (parts_agree c N M (seen_names m) ts h.1)

  parts_agree : (c : Check) (N M : Word → Type 0) (names : List (List Word)) (ts : Trees) → FreeInParts N M names ts → Parts equal (AgreeOn N M) (AgreeOn N M) names (evals c ts) (evals c ts)
  parts_agree c N M names no_trees h = no_parts names
  parts_agree c N M [] (tree t ts) h = part (tree_agrees c N M t h.0) (parts_agree c N M [] ts h.1)
  parts_agree c N M (xs ∷ names) (tree t ts) h =
      seeing xs (λ e f r. tree_agrees c (Also xs N) M t h.0 e f (after_agree M xs N (AgreeOn N M) (λ e' f' k. k) e f r)) (parts_agree c N M names ts h.1)

-- what a tree means depends only on the names that it reads free, and on its operators
pub free_names : (c : Check) (N M : Word → Type 0) (t : Tree) → FreeNames N M t → (e f : Env) → AgreeOn N M e f → eval c t e ≡ eval c t f
free_names c N M t h e f r = senses_are _ _ (tree_agrees c N M t h e f r)

pub bound_elsewhere : (x : Word) (v : Value) (e : Env) → AgreeOn (IsOther x) Any e (bind x v e)
bound_elsewhere x v e = record {
  now = λ y out at. sym (ap (λ b. cond b (just v) (e.now y at)) out);
  primed = λ y at. refl;
  defs = λ y m. refl;
}

pub not_free : (c : Check) (x : Word) (t : Tree) → NotFree x t → (v : Value) (e : Env) → eval c t e ≡ eval c t (bind x v e)
not_free c x t h v e = free_names c (IsOther x) Any t h e (bind x v e) (bound_elsewhere x v e)

-- ---- any names

pub also_any : (N : Word → Type 0) → ((y : Word) → N y) → (xs : List Word) (y : Word) → Also xs N y
also_any N h [] y = h y
also_any N h (x ∷ xs) y = also_any (Or x N) (λ z. inr (h z)) xs y

all_read : (N M : Word → Type 0) → ((y : Word) → N y) → ((y : Word) → M y) → (m : Form) → FormReads N M m
all_read N M h k (name x) = h x
all_read N M h k (operator_call f) = k f
all_read N M h k m = tt

mutual
  pub any_names : (N M : Word → Type 0) → ((y : Word) → N y) → ((y : Word) → M y) → (t : Tree) → FreeNames N M t
  any_names N M h k (node m at ts) = (all_read N M h k m, any_in_parts N M h k (seen_names m) ts)

  pub any_in_parts : (N M : Word → Type 0) → ((y : Word) → N y) → ((y : Word) → M y) → (names : List (List Word)) (ts : Trees) → FreeInParts N M names ts
  any_in_parts N M h k names no_trees = tt
  any_in_parts N M h k [] (tree t ts) = (any_names N M h k t, any_in_parts N M h k [] ts)
  any_in_parts N M h k (xs ∷ names) (tree t ts) = (any_names (Also xs N) M (also_any N h xs) k t, any_in_parts N M h k names ts)
