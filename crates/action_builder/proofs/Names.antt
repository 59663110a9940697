-- The variables that statements assign are those of their effects, and settled statements assign only variables.
use Rattle.std.proofs.Common.{◌≡◌, List, [], ◌∷◌, ◌++◌, Bool, true, false, cond, ◌||◌, bytes_eq, refl, sym, ◌∙◌, subst, ⊎_elim}
use Rattle.std.proofs.lemmas.Bool.{or_cases}
use Rattle.tla_token.specs.Signs.{is_among}
use Rattle.tla_token.specs.declared.place.Place.{Place}
use Rattle.tla_token.proofs.Spelled.{same_bytes}
use Rattle.tla_tree.specs.Tree.{Word, apply, select, name, strict, Tree, node, Trees, no_trees, tree, Each}
use Rattle.tla_value.specs.Stops.{Check}
use Rattle.pcal_tree.specs.Algorithm.{Assignments, no_assignments, assignment, Binds, no_binds, one_of, is, Statement, assign, await, print, assert, skip, branch, either, with, while, goto, macro, call, return, Statements, done, then, mark, Branches, no_branches, or}
use Rattle.action_builder.specs.Assigned.{Names, more, without, head_of, head_first, heads, assigned, assigned_in, assigned_by}
use Rattle.action_builder.specs.laws.Ready.{Apart, OnceOne, Once, OnceSome, IsLeft, LeftFirst, LeftSides, SettledOne, Settled, SettledSome}
use Rattle.action_builder.proofs.Effects.{Effects, firsts, effect_names, effects_names, ways_names, parts_of, nested, effect_of, effects_of, ways_of}
use Rattle.action_builder.proofs.Actions as Actions
use Rattle.action_builder.proofs.Main.{append_cases}

pub append_none : (xs : List Word) → xs ++ [] ≡ xs
append_none [] = refl
append_none (x ∷ xs) = λ i. x ∷ append_none xs i

pub heads_same : (c : Check) (ms : Assignments) → firsts (parts_of c ms) ≡ heads ms
heads_same c no_assignments = refl
heads_same c (assignment l e ms) = λ i. head_of l ∷ without (head_of l) (heads_same c ms i)

nested_same : (c : Check) (bs : Binds) (es : Effects) → effects_names (nested c bs es) ≡ effects_names es
nested_same c no_binds es = refl
nested_same c (one_of x e bs) es = append_none (effects_names (nested c bs es)) ∙ nested_same c bs es
nested_same c (is x e bs) es = append_none (effects_names (nested c bs es)) ∙ nested_same c bs es

mutual
  pub one_names : (c : Check) (at : Place) (st : Statement) → effect_names (effect_of c at st) ≡ assigned st
  one_names c at (assign ms) = heads_same c ms
  one_names c at (branch e a b) = λ i. all_names c a i ++ all_names c b i
  one_names c at (either bs) = some_names c bs
  one_names c at (with no_binds b) = append_none (effects_names (effects_of c b)) ∙ all_names c b
  one_names c at (with (one_of x e bs) b) = nested_same c bs (effects_of c b) ∙ all_names c b
  one_names c at (with (is x e bs) b) = nested_same c bs (effects_of c b) ∙ all_names c b
  one_names c at (await e) = refl
  one_names c at (print e) = refl
  one_names c at (assert e) = refl
  one_names c at skip = refl
  one_names c at (while e b) = refl
  one_names c at (goto l) = refl
  one_names c at (macro m ts) = refl
  one_names c at (call p ts) = refl
  one_names c at return = refl

  pub all_names : (c : Check) (ss : Statements) → effects_names (effects_of c ss) ≡ assigned_in ss
  all_names c done = refl
  all_names c (then at st rest) = λ i. one_names c at.first st i ++ all_names c rest i
  all_names c (mark l k rest) = refl

  pub some_names : (c : Check) (bs : Branches) → ways_names (ways_of c bs) ≡ assigned_by bs
  some_names c no_branches = refl
  some_names c (or b bs) = λ i. all_names c b i ++ some_names c bs i

-- ---- settled statements assign only names of V

-- what holds of each name of a list
pub each_name : (P : Word → Type 0) (xs : List Word) → Each P xs → (x : Word) → is_among xs x ≡ true → P x
each_name P [] h x m = cc
each_name P (y ∷ ys) h x m = ⊎_elim (λ e. subst P (same_bytes y x e) h.0) (λ k. each_name P ys h.1 x k) (or_cases (bytes_eq y x) (is_among ys x) m)

mutual
  head_left : (V : Names) (l : Tree) → IsLeft V l → V (head_of l) ≡ true
  head_left V (node (name x) at ts) h = h
  head_left V (node (strict apply) at ts) h = first_left V ts h
  head_left V (node (strict (select a)) at ts) h = first_left V ts h
  head_left V (node _ at ts) h = absurd h

  first_left : (V : Names) (ts : Trees) → LeftFirst V ts → V (head_first ts) ≡ true
  first_left V no_trees h = absurd h
  first_left V (tree f us) h = head_left V f h

without_in : (x : Word) (ys : List Word) (y : Word) → is_among (without x ys) y ≡ true → is_among ys y ≡ true
without_in x [] y m = m
without_in x (z ∷ zs) y m = by (without_in x zs y) (bytes_eq x z) m
  where
    or_second : (a b : Bool) → b ≡ true → (a || b) ≡ true
    or_second true b e = cc
    or_second false b e = e

    both : (a b d : Bool) → (b ≡ true → d ≡ true) → (a || b) ≡ true → (a || d) ≡ true
    both true b d f e = cc
    both false b d f e = f e

    by : (is_among (without x zs) y ≡ true → is_among zs y ≡ true) → (b : Bool) → is_among (cond b (without x zs) (z ∷ without x zs)) y ≡ true → (bytes_eq z y || is_among zs y) ≡ true
    by ih true k = or_second (bytes_eq z y) (is_among zs y) (ih k)
    by ih false k = both (bytes_eq z y) (is_among (without x zs) y) (is_among zs y) ih k

heads_in : (V : Names) (ms : Assignments) → LeftSides V ms → (x : Word) → is_among (heads ms) x ≡ true → V x ≡ true
heads_in V no_assignments h x m = cc
heads_in V (assignment l e ms) h x m =
    ⊎_elim (λ q. subst (λ y. V y ≡ true) (same_bytes (head_of l) x q) (head_left V l h.0)) (λ k. heads_in V ms h.1 x (without_in (head_of l) (heads ms) x k))
    (or_cases (bytes_eq (head_of l) x) (is_among (without (head_of l) (heads ms)) x) m)

none_in : {P : Type 0} → false ≡ true → P
none_in e = cc

mutual
  pub one_in : (V : Names) (st : Statement) → SettledOne V st → (x : Word) → is_among (assigned st) x ≡ true → V x ≡ true
  one_in V (assign ms) h x m = heads_in V ms h x m
  one_in V (branch e a b) h x m = ⊎_elim (all_in V a h.0 x) (all_in V b h.1 x) (append_cases (assigned_in a) (assigned_in b) x m)
  one_in V (either bs) h x m = some_in V bs h x m
  one_in V (with bs b) h x m = all_in V b h x m
  one_in V (await e) h x m = none_in m
  one_in V (print e) h x m = none_in m
  one_in V (assert e) h x m = none_in m
  one_in V skip h x m = none_in m
  one_in V _ h x m = absurd h

  pub all_in : (V : Names) (ss : Statements) → Settled V ss → (x : Word) → is_among (assigned_in ss) x ≡ true → V x ≡ true
  all_in V done h x m = none_in m
  all_in V (then at st rest) h x m = ⊎_elim (one_in V st h.0 x) (all_in V rest h.1 x) (append_cases (assigned st) (assigned_in rest) x m)
  all_in V (mark l k rest) h x m = absurd h

  pub some_in : (V : Names) (bs : Branches) → SettledSome V bs → (x : Word) → is_among (assigned_by bs) x ≡ true → V x ≡ true
  some_in V no_branches h x m = none_in m
  some_in V (or b bs) h x m = ⊎_elim (all_in V b h.0 x) (some_in V bs h.1 x) (append_cases (assigned_in b) (assigned_by bs) x m)

-- ---- assigned once

nested_once : (c : Check) (A : Names) (bs : Binds) (es : Effects) → Actions.Once A es → Actions.Once A (nested c bs es)
nested_once c A no_binds es h = h
nested_once c A (one_of x e bs) es h = (nested_once c A bs es h, tt)
nested_once c A (is x e bs) es h = (nested_once c A bs es h, tt)

mutual
  one_once : (c : Check) (A : Names) (at : Place) (st : Statement) → OnceOne A st → Actions.OnceOne A (effect_of c at st)
  one_once c A at (assign ms) h = subst (Apart A) (sym (heads_same c ms)) h
  one_once c A at (branch e a b) h = (all_once c A a h.0, all_once c A b h.1)
  one_once c A at (either bs) h = some_once c A bs h
  one_once c A at (with no_binds b) h = (all_once c A b h, tt)
  one_once c A at (with (one_of x e bs) b) h = nested_once c A bs (effects_of c b) (all_once c A b h)
  one_once c A at (with (is x e bs) b) h = nested_once c A bs (effects_of c b) (all_once c A b h)
  one_once c A at (await e) h = tt
  one_once c A at (print e) h = tt
  one_once c A at (assert e) h = tt
  one_once c A at skip h = tt
  one_once c A at (while e b) h = tt
  one_once c A at (goto l) h = tt
  one_once c A at (macro m ts) h = tt
  one_once c A at (call p ts) h = tt
  one_once c A at return h = tt

  pub all_once : (c : Check) (A : Names) (ss : Statements) → Once A ss → Actions.Once A (effects_of c ss)
  all_once c A done h = tt
  all_once c A (then at st rest) h = (one_once c A at.first st h.0, subst (λ xs. Actions.Once (more A xs) (effects_of c rest)) (sym (one_names c at.first st)) (all_once c (more A (assigned st)) rest h.1))
  all_once c A (mark l k rest) h = tt

  some_once : (c : Check) (A : Names) (bs : Branches) → OnceSome A bs → Actions.OnceSome A (ways_of c bs)
  some_once c A no_branches h = tt
  some_once c A (or b bs) h = (all_once c A b h.0, some_once c A bs h.1)
