-- What is known of binds that were read by their numbers alone.
use Rattle.std.proofs.Common.{Bool, ◌≡◌, ℕ, suc, ◌+◌, ◌≤◌, List, [], ◌∷◌, length, map, refl, sym, ap, ◌∙◌, subst, arith}
use Rattle.std.proofs.lemmas.List.{append-nil}
use Rattle.tla_tree.specs.Tree.{Tree, Trees, no_trees, Name}
use Rattle.tla_tree.specs.TreeOf.{trees_from}
use Rattle.tla_tree.specs.Pool.{at}
use Rattle.tla_tree.specs.Shapes.{HaveNames}
use Rattle.tla_tree.specs.Spelling.{Binds, last_bind, bind, share, named, in_first, groups, sets_before}
use Rattle.expr_nodes.specs.ReadIn.{AreBound}
use Rattle.expr_rows.proofs.ReadCounts.{count, count_at}

pub first_named : (g : List Name) (gs : List (List Name)) → 1 ≤ length g → HaveNames gs → HaveNames (g ∷ gs)
first_named g [] l h = l
first_named g (f ∷ gs) l h = (l, h)

shared_named : (x : Name) (gs : List (List Name)) → HaveNames gs → HaveNames (in_first x gs)
shared_named x [] h = absurd h
shared_named x (g ∷ []) h = (let one : 1 ≤ length (x ∷ g) = omega arith in one)
shared_named x (g ∷ f ∷ gs) h = (let one : 1 ≤ length (x ∷ g) = omega arith in (one, h.1))

have_names : (bs : Binds) → HaveNames (groups bs)
have_names (last_bind p x q a) = (let one : 1 ≤ length (named p x ∷ []) = omega arith in one)
have_names (bind p x q a r bs) = (let one : 1 ≤ length (named p x ∷ []) = omega arith in first_named (named p x ∷ []) (groups bs) one (have_names bs))
have_names (share p x q bs) = shared_named (named p x) (groups bs) (have_names bs)

shared_many : (x : Name) (gs : List (List Name)) → HaveNames gs → length (in_first x gs) ≡ length gs
shared_many x [] h = absurd h
shared_many x (g ∷ gs) h = refl

count_sets : (bs : Binds) (ts : Trees) → count (sets_before bs ts) ≡ length (groups bs) + count ts
count_sets (last_bind p x q a) ts = (let e : suc (count ts) ≡ 1 + count ts = omega arith in e)
count_sets (bind p x q a r bs) ts = (let e : suc (count (sets_before bs ts)) ≡ suc (length (groups bs)) + count ts = omega (arith, count_sets bs ts) in e)
count_sets (share p x q bs) ts = count_sets bs ts ∙ ap (λ (n : ℕ). n + count ts) (sym (shared_many (named p x) (groups bs) (have_names bs)))

pub bound_names : {linked : Bool} {ts : List Tree} {gs : List (List Name)} {is : List ℕ} {n : ℕ} {bs : Binds} → AreBound linked ts gs is n bs → HaveNames gs
bound_names {linked} {ts} {gs} {is} {n} {bs} h = subst HaveNames h.names (have_names bs)

pub bound_many : {linked : Bool} {ts : List Tree} {gs : List (List Name)} {is : List ℕ} {n : ℕ} {bs : Binds} → AreBound linked ts gs is n bs → length is ≡ length gs
bound_many {linked} {ts} {gs} {is} {n} {bs} h =
    let all : count (sets_before bs no_trees) ≡ length is = ap count (h.sets []) ∙ ap (λ (us : List Tree). count (trees_from us)) (append-nil (map (at ts) is)) ∙ count_at ts is in
    omega (arith, all, count_sets bs no_trees, ap (λ (gs : List (List Name)). length gs) h.names)
