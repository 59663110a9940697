-- Trees that can be written but that their names are of some kind; and trees of that kind put in for names.
use Rattle.std.proofs.Common.{◌≡◌, ℕ, ◌+◌, Bool, true, false, cond, Option, Some, None, refl, sym, ap, subst}
use Rattle.tla_token.specs.declared.place.Place.{Place}
use Rattle.tla_tree.specs.Tree.{Word, Form, name, next, Each, Tree, node, Trees, no_trees, tree, Graft, grafted_name, grafted_node, graft, grafts}
use Rattle.tla_tree.specs.Shapes.{Shaped}
use Rattle.tla_tree.specs.laws.Writable.{IsIdentifier, IsField, IsString, names_in, fields_in, strings_in, count, IsWritable, AreWritable}
use Rattle.tla_value.specs.Grafts.{primes, own_part, owned}

-- ---- names of a kind

abbrev pub FitNames : (Word → Type 0) → Form → Type 0
FitNames N (name x) = N x × Unit {0}
FitNames N m = Each IsIdentifier (names_in m)

-- what can be written but for its names that are of the kind N
abbrev mutual
  pub Fits : (Word → Type 0) → Tree → Type 0
  Fits N (node m at ts) = Shaped m (count ts) × FitNames N m × Each IsField (fields_in m) × Each IsString (strings_in m) × AllFit N ts

  pub AllFit : (Word → Type 0) → Trees → Type 0
  AllFit N no_trees = Unit {0}
  AllFit N (tree t ts) = Fits N t × AllFit N ts

-- each identifier is of the kind
abbrev pub HasIdentifiers : (Word → Type 0) → Type 0
HasIdentifiers N = (x : Word) → IsIdentifier x → N x

names_written : (m : Form) → FitNames IsIdentifier m → Each IsIdentifier (names_in m)
names_written (name x) h = h
names_written m h = h

names_fit : (N : Word → Type 0) → HasIdentifiers N → (m : Form) → Each IsIdentifier (names_in m) → FitNames N m
names_fit N j (name x) h = (j x h.0, tt)
names_fit N j m h = h

mutual
  pub fit_writable : (t : Tree) → Fits IsIdentifier t → IsWritable t
  fit_writable (node m at ts) h = (h.0, names_written m h.1, h.2, h.3, fit_all_writable ts h.4)

  fit_all_writable : (ts : Trees) → AllFit IsIdentifier ts → AreWritable ts
  fit_all_writable no_trees h = tt
  fit_all_writable (tree t ts) h = (fit_writable t h.0, fit_all_writable ts h.1)

mutual
  pub writable_fits : (N : Word → Type 0) → HasIdentifiers N → (t : Tree) → IsWritable t → Fits N t
  writable_fits N j (node m at ts) h = (h.0, names_fit N j m h.1, h.2, h.3, writable_all_fit N j ts h.4)

  pub writable_all_fit : (N : Word → Type 0) → HasIdentifiers N → (ts : Trees) → AreWritable ts → AllFit N ts
  writable_all_fit N j no_trees h = tt
  writable_all_fit N j (tree t ts) h = (writable_fits N j t h.0, writable_all_fit N j ts h.1)

pub name_fits : (N : Word → Type 0) (at : Place) (x : Word) → N x → Fits N (node (name x) at no_trees)
name_fits N at x h = (refl, (h, tt), tt, tt, tt)

-- ---- trees put in

abbrev pub IsPut : (Word → Type 0) → Option Tree → Word → Type 0
IsPut N (Some t) x = Fits N t
IsPut N None x = N x

-- where names of the kind M stand, trees of the kind N are put in, or the names are of that kind
abbrev pub Puts : (Word → Type 0) → (Word → Type 0) → Graft → Type 0
Puts M N g = (x : Word) (at : Place) → M x → IsPut N (g x at) x

grafted_count : (g : Graft) (ts : Trees) → count (grafts g ts) ≡ count ts
grafted_count g no_trees = refl
grafted_count g (tree t ts) = ap (λ (n : ℕ). n + 1) (grafted_count g ts)

put_fits : (N : Word → Type 0) (o : Option Tree) (x : Word) (at : Place) (ts : Trees) → IsPut N o x → Shaped (name x) (count ts) → AllFit N ts → Fits N (grafted_name o (name x) at ts)
put_fits N (Some t) x at ts h n k = h
put_fits N None x at ts h n k = (n, (h, tt), tt, tt, k)

node_fits : (M N : Word → Type 0) (g : Graft) (m : Form) (at : Place) (ts : Trees) → ((x : Word) → M x → IsPut N (g x at) x) → Shaped m (count ts) → FitNames M m → Each IsField (fields_in m) → Each IsString (strings_in m) → AllFit N ts → Fits N (grafted_node g m at ts)
node_fits M N g (name x) at ts p n h f s k = put_fits N (g x at) x at ts (p x h.0) n k
node_fits M N g m at ts p n h f s k = (n, h, f, s, k)

mutual
  pub graft_fits : (M N : Word → Type 0) (g : Graft) → Puts M N g → (t : Tree) → Fits M t → Fits N (graft g t)
  graft_fits M N g p (node m at ts) h =
      node_fits M N g m at (grafts g ts) (λ x. p x at) (subst (λ (n : ℕ). Shaped m n) (sym (grafted_count g ts)) h.0) h.1 h.2 h.3 (grafts_fit M N g p ts h.4)

  pub grafts_fit : (M N : Word → Type 0) (g : Graft) → Puts M N g → (ts : Trees) → AllFit M ts → AllFit N (grafts g ts)
  grafts_fit M N g p no_trees h = tt
  grafts_fit M N g p (tree t ts) h = (graft_fits M N g p t h.0, grafts_fit M N g p ts h.1)

-- primed names are identifiers
pub primes_put : (N : Word → Type 0) (A : Word → Bool) → ((x : Word) → A x ≡ true → IsIdentifier x) → Puts N N (primes A)
primes_put N A h x at n = by (A x) (h x)
  where
    by : (b : Bool) → (b ≡ true → IsIdentifier x) → IsPut N (cond b (Some (node (next x) at no_trees)) None) x
    by true k = (refl, (k refl, tt), tt, tt, tt)
    by false k = n

-- x[self] for variables of the process
pub owned_put : (N : Word → Type 0) (self : Word) (here : Word → Bool) → N self → Puts N N (owned self here)
owned_put N self here s x at n = by (here x)
  where
    by : (b : Bool) → IsPut N (cond b (Some (own_part self x at)) None) x
    by true = (refl, tt, tt, tt, (name_fits N at x n, (name_fits N at self s, tt)))
    by false = n

-- of a kind that has more names
names_more : (M N : Word → Type 0) → ((x : Word) → M x → N x) → (m : Form) → FitNames M m → FitNames N m
names_more M N k (name x) h = (k x h.0, tt)
names_more M N k m h = h

mutual
  pub fits_more : (M N : Word → Type 0) → ((x : Word) → M x → N x) → (t : Tree) → Fits M t → Fits N t
  fits_more M N k (node m at ts) h = (h.0, names_more M N k m h.1, h.2, h.3, all_fit_more M N k ts h.4)

  pub all_fit_more : (M N : Word → Type 0) → ((x : Word) → M x → N x) → (ts : Trees) → AllFit M ts → AllFit N ts
  all_fit_more M N k no_trees h = tt
  all_fit_more M N k (tree t ts) h = (fits_more M N k t h.0, all_fit_more M N k ts h.1)
