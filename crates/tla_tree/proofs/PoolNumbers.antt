-- Lists of numbers, as a pool grows.
use Rattle.std.proofs.Common.{◌≡◌, ℕ, suc, zero, ◌+◌, ◌<◌, ◌≤◌, List, [], ◌∷◌, ◌++◌, length, refl, sym, ap, ◌∙◌, subst, arith, get_or, take, map}
use Rattle.std.proofs.lemmas.List.{length-map, map_push, take_all}
use Rattle.std.proofs.Math.Seq.{take-suc}
use Rattle.tla_token.specs.declared.place.Place.{Place}
use Rattle.tla_tree.specs.Tree.{Form, Tree, node, Trees, Graft, graft, grafted_node}
use Rattle.tla_tree.specs.TreeOf.{trees_from}
use Rattle.tla_tree.specs.Pool.{at, AllBelow, Keeps}
use Rattle.tla_tree.specs.Nesting.{greatest}
use Rattle.tla_tree.proofs.TreeLemmas.{grafts_from}

-- numbers of these trees
pub record Have (ts : List Tree) (is : List ℕ) (us : List Tree) : Type 0 where
  pub below : AllBelow (length ts) is
  pub trees : map (at ts) is ≡ us

pub Keeps-then : (ts us vs : List Tree) → Keeps ts us → Keeps us vs → Keeps ts vs
Keeps-then ts us vs p q = record { longer = omega (arith, p.longer, q.longer); same = λ i h. q.same i (omega (arith, p.longer)) ∙ p.same i h }

pub AllBelow-more : (m n : ℕ) (is : List ℕ) → m ≤ n → AllBelow m is → AllBelow n is
AllBelow-more m n [] le h = tt
AllBelow-more m n (i ∷ is) le h = (omega (arith, h.0), AllBelow-more m n is le h.1)

pub AllBelow-push : (m : ℕ) (is : List ℕ) (i : ℕ) → AllBelow m is → i < m → AllBelow m (is ++ i ∷ [])
AllBelow-push m [] i h k = (k, tt)
AllBelow-push m (j ∷ is) i h k = (h.0, AllBelow-push m is i h.1 k)

pub AllBelow-at : (m : ℕ) (is : List ℕ) (k d : ℕ) → AllBelow m is → k < length is → get_or is k d < m
AllBelow-at m [] k d h lt = absurd (omega arith)
AllBelow-at m (i ∷ is) zero d h lt = h.0
AllBelow-at m (i ∷ is) (suc k) d h lt = AllBelow-at m is k d h.1 (omega arith)

-- a number of an element is within a bound on all
pub past_at : {A : Type 0} (f : A → ℕ) (xs : List A) (i : ℕ) (x : A) → x ≡ get_or xs i x → i < length xs → f x ≤ greatest (map f xs)
past_at f [] i x is lt = absurd (omega arith)
past_at f (y ∷ ys) zero x is lt = (let e = ap f is in omega (arith, e))
past_at f (y ∷ ys) (suc i) x is lt = (let r = past_at f ys i x is (omega (arith, lt)) in omega (arith, r))

-- within a list the default doesn't count
pub same_default : {A : Type 0} (xs : List A) (i : ℕ) (d e : A) → i < length xs → get_or xs i d ≡ get_or xs i e
same_default [] i d e lt = absurd (omega arith)
same_default (x ∷ xs) zero d e lt = refl
same_default (x ∷ xs) (suc i) d e lt = same_default xs i d e (omega (arith, lt))

pub map_at-kept : (ts us : List Tree) (is : List ℕ) → Keeps ts us → AllBelow (length ts) is → map (at us) is ≡ map (at ts) is
map_at-kept ts us [] k h = refl
map_at-kept ts us (i ∷ is) k h = λ j. k.same i h.0 j ∷ map_at-kept ts us is k h.1 j

pub Have-push : (ts us : List Tree) (is : List ℕ) (vs : List Tree) (i : ℕ) (v : Tree) → Keeps ts us → Have ts is vs → i < length us → at us i ≡ v → Have us (is ++ i ∷ []) (vs ++ v ∷ [])
Have-push ts us is vs i v k h lt e = record {
  below = AllBelow-push (length us) is i (AllBelow-more (length ts) (length us) is k.longer h.below) lt;
  trees = map_push (at us) is i ∙ ap (λ l. l ++ at us i ∷ []) (map_at-kept ts us is k h.below ∙ h.trees) ∙ ap (λ t. vs ++ t ∷ []) e;
}

-- one more part is done: the k-th of js, and i is the number of what f makes of its tree
pub Have-next : (f : Tree → Tree) (old ts us : List Tree) (is js : List ℕ) (k i d : ℕ) → Keeps ts us → Have ts is (map f (map (at old) (take k js)))
    → k < length js → i < length us → at us i ≡ f (at old (get_or js k d)) → Have us (is ++ i ∷ []) (map f (map (at old) (take (k + 1) js)))
Have-next f old ts us is js k i d keeps h lt within e =
    let next : k + 1 ≡ suc k = omega arith in
    let more : map f (map (at old) (take (k + 1) js)) ≡ map f (map (at old) (take k js)) ++ f (at old (get_or js k d)) ∷ [] =
    ap (λ l. map f (map (at old) l)) (ap (λ n. take n js) next ∙ take-suc js k d lt) ∙ ap (map f) (map_push (at old) (take k js) (get_or js k d)) ∙ map_push f (map (at old) (take k js)) (at old (get_or js k d)) in
    subst (Have us (is ++ i ∷ [])) (sym more) (Have-push ts us is _ i _ keeps h within e)

-- when all parts are done there are as many as before
pub Have-length : (f : Tree → Tree) (old ts : List Tree) (is js : List ℕ) (k : ℕ) → Have ts is (map f (map (at old) (take k js))) → length js ≤ k → length js ≡ length is
Have-length f old ts is js k h le =
    let all : length (map (at ts) is) ≡ length (map f (map (at old) js)) = ap length (h.trees ∙ ap (λ l. map f (map (at old) l)) (take_all k js le)) in
    omega (arith, all, length-map is (at ts), length-map (map (at old) js) f, length-map js (at old))

-- a node over the grafted parts
pub grafted-done : (g : Graft) (m : Form) (p : Place) (t : Tree) (old ts : List Tree) (is js : List ℕ) (k : ℕ) → t ≡ node m p (trees_from (map (at old) js)) → ((us : Trees) → grafted_node g m p us ≡ node m p us)
    → Have ts is (map (graft g) (map (at old) (take k js))) → length js ≤ k → node m p (trees_from (map (at ts) is)) ≡ graft g t
grafted-done g m p t old ts is js k e plain h le =
    ap (λ l. node m p (trees_from l)) (h.trees ∙ ap (λ l. map (graft g) (map (at old) l)) (take_all k js le)) ∙ ap (node m p) (grafts_from g (map (at old) js)) ∙ sym (plain _) ∙ sym (ap (graft g) e)
