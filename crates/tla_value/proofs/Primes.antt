-- An expression with the assigned names primed means over a pair of states what it means in the state half done.
use Rattle.std.proofs.Common.{◌≡◌, List, [], ◌∷◌, Bool, true, false, cond, bytes_eq, Some, None, refl, ◌∙◌, ap}
use Rattle.tla_token.specs.declared.place.Place.{Place}
use Rattle.tla_tree.specs.Tree.{Word, Form, name, next, operator_call, Tree, node, no_trees, Every, Each, binders, graft}
use Rattle.tla_value.specs.Stops.{Check}
use Rattle.tla_value.specs.Meaning.{Env, just, eval}
use Rattle.tla_value.specs.Grafts.{primes, read_tree}
use Rattle.tla_value.proofs.Facts.{each_weaker, every_weaker}
use Rattle.tla_value.proofs.Alike.{eval_alike}
use Rattle.tla_value.proofs.Graft.{free_law}
use Rattle.tla_value.proofs.Relations.{Bound, KeptBy}
use Rattle.tla_value.specs.laws.Grafting.{BindsNone, IsUnprimed, Clear, Unread}
use Rattle.tla_value.specs.laws.FreeNames.{FreeNames}

read_primed : (c : Check) (b : Bool) (x : Word) (at : Place) (e : Env) → cond b (e.primed x at) (e.now x at) ≡ read_tree c (cond b (Some (node (next x) at no_trees)) None) x at e
read_primed c true x at e = refl
read_primed c false x at e = refl

unread_primed : (c : Check) (b : Bool) (x y : Word) (at : Place) → Unread c x (cond b (Some (node (next y) at no_trees)) None)
unread_primed c true x y at = λ v e. refl
unread_primed c false x y at = tt

clear_primes : (c : Check) (A : Word → Bool) (x : Word) → A x ≡ false → Clear c (primes A) x
clear_primes c A x out = record {
  left = λ at. ap (λ b. cond b (Some (node (next x) at no_trees)) None) out;
  unread = λ y at. unread_primed c (A y) x y at;
}

-- e is a pair of states; of the names of U, f reads those of A in the later one. A definition of U so reads none of A.
pub record Mixed (A : Word → Bool) (U : Word → Type 0) (e f : Env) : Type 0 where
  pub now : (x : Word) → U x → (at : Place) → f.now x at ≡ cond (A x) (e.primed x at) (e.now x at)
  pub primed : (x : Word) (at : Place) → e.primed x at ≡ f.primed x at
  pub defs : (x : Word) → U x → e.defs x ≡ f.defs x

pub primed_law : (c : Check) (A : Word → Bool) (U : Word → Type 0) (t : Tree) → Every (BindsNone A) t → FreeNames U U t → (e f : Env) → Mixed A U e f → eval c (graft (primes A) t) e ≡ eval c t f
primed_law c A U t k h e f r = free_law c (primes A) U U t (every_weaker _ _ (λ m at q. each_weaker _ _ (clear_primes c A) (binders m) q) t k) h e f (record {
  now = λ x u at. r.now x u at ∙ read_primed c (A x) x at e;
  primed = r.primed;
  defs = r.defs;
})

-- ---- an expression without primed names: the other environment needs no next state

pub record Between (A : Word → Bool) (U : Word → Type 0) (e f : Env) : Type 0 where
  pub now : (x : Word) → U x → (at : Place) → f.now x at ≡ cond (A x) (e.primed x at) (e.now x at)
  pub defs : (x : Word) → U x → e.defs x ≡ f.defs x

-- environments that agree but for primed names
pub record AgreeNow (e f : Env) : Type 0 where
  pub now : (x : Word) (at : Place) → e.now x at ≡ f.now x at
  pub defs : (x : Word) → e.defs x ≡ f.defs x

pub bound_now : (x : Word) → Bound AgreeNow x
bound_now x e f v r = record { now = λ y at i. cond (bytes_eq x y) (just v) (r.now y at i); defs = r.defs }

all_bound : (xs : List Word) → Each (Bound AgreeNow) xs
all_bound [] = tt
all_bound (x ∷ xs) = (bound_now x, all_bound xs)

pub form_unprimed : (m : Form) (at : Place) → IsUnprimed m at → KeptBy AgreeNow m at
form_unprimed (name x) at h = (tt, λ p e f r. r.now x p)
form_unprimed (next x) at h = absurd h
form_unprimed (operator_call g) at h = (tt, λ e f r. r.defs g)
form_unprimed m at h = (all_bound (binders m), tt)

pub unprimed_law : (c : Check) (A : Word → Bool) (U : Word → Type 0) (t : Tree) → Every (BindsNone A) t → Every IsUnprimed t → FreeNames U U t → (e f : Env) → Between A U e f → eval c (graft (primes A) t) e ≡ eval c t f
unprimed_law c A U t k n h e f r =
    let m : Env = record { now = f.now; primed = e.primed; defs = f.defs } in
    primed_law c A U t k h e m (record { now = r.now; primed = λ x at. refl; defs = r.defs })
    ∙ eval_alike AgreeNow c t (every_weaker _ _ form_unprimed t n) m f (record { now = λ x at. refl; defs = λ x. refl })
