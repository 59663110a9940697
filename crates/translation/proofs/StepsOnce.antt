-- Where the rule on assigning twice is not broken, no variable is assigned again before the next label, with macro calls written out.
use Rattle.std.proofs.Common.{◌≡◌, List, [], ◌∷◌, ◌++◌, Bool, true, false, ◌||◌, cond, bytes_eq, Some, None, option_map, ◌⊎◌, inl, inr, refl, sym, ap, subst, ◌∙◌}
use Rattle.std.proofs.lemmas.Bool.{both_ways, or_parts}
use Rattle.std.proofs.lemmas.List.Folds.{list_any-append}
use Rattle.std.proofs.lemmas.Grind.{flat_map-append}
use Rattle.std.proofs.Math.Bool.{or_assoc, or-false}
use Rattle.std.specs.List.{flat_map}
use Rattle.tla_token.specs.Signs.{is_among}
use Rattle.tla_token.proofs.Spelled.{same_bytes}
use Rattle.tla_tree.specs.Tree.{Word, Tree, Trees, Graft, graft, grafts}
use Rattle.pcal_tree.specs.Algorithm.{Span, Assignments, Binds, Statement, assign, await, print, assert, skip, branch, either, with, while, goto, macro, call, return, Statements, done, then, mark, Branches, no_branches, or}
use Rattle.pcal_tree.specs.Expand.{graft_assignments, graft_binds, graft_one, graft_all, graft_some, followed_by, Writing, expand_one, expand, expand_some}
use Rattle.pcal_tree.specs.OffencesSteps.{Before, inside, next, Visit, visits_inside, visits, visits_of_some, assigns_twice, reached_variables}
use Rattle.pcal_tree.specs.Paths as path
use Rattle.pcal_tree.specs.Paths.{Effect, Effects, Path, roots, joined, after_one, after, after_some, is_reached, meets, has_assigned}
use Rattle.pcal_tree.specs.Run.{Partner, partner_of}
use Rattle.action_builder.specs.Assigned.{Names, more}
use Rattle.action_builder.specs.Settled.{jumps_one, jumps, jumps_some}
use Rattle.action_builder.specs.laws.Ready.{Apart}
use Rattle.action_builder.proofs.Main.{append_cases, in_front, behind}
use Rattle.translation.specs.laws.StepsOnce.{set_by, set_in, set_in_some, none_set, SetsOnceOne, SetsOnce, SetsOnceSome}
use Rattle.translation.proofs.EndingJumps.{followed_jumps}
use Rattle.translation.proofs.OnceStatements.{NoneTwice, two_lists}
use Rattle.translation.proofs.OnceThrough.{followed_put}

-- ---- lists of names

abbrev pub In : List Word → Word → Type 0
In xs x = is_among xs x ≡ true

abbrev pub Within : List Word → List Word → Type 0
Within xs ys = (x : Word) → In xs x → In ys x

pub in_nothing : (x : Word) → In [] x → ⊥
in_nothing x h = cc

within_both : (xs ys zs : List Word) → Within xs zs → Within ys zs → Within (xs ++ ys) zs
within_both xs ys zs h k x m = by (append_cases xs ys x m)
  where
    by : In xs x ⊎ In ys x → In zs x
    by (inl p) = h x p
    by (inr p) = k x p

met_none : (xs ys : List Word) → meets xs ys ≡ false → (x : Word) → In ys x → is_among xs x ≡ false
met_none xs [] h x m = cc
met_none xs (y ∷ ys) h x m = by (bytes_eq y x) refl m (met_none xs ys (or_parts (is_among xs y) (meets xs ys) h).1 x)
  where
    by : (b : Bool) → bytes_eq y x ≡ b → (b || is_among ys x) ≡ true → (In ys x → is_among xs x ≡ false) → is_among xs x ≡ false
    by true e k rest = subst (λ (z : Word). is_among xs z ≡ false) (same_bytes y x e) (or_parts (is_among xs y) (meets xs ys) h).0
    by false e k rest = rest k

pub more_both : (A : Names) (xs ys : List Word) → more (more A xs) ys ≡ more A (xs ++ ys)
more_both A xs ys = λ i x. (or_assoc (A x) (is_among xs x) (is_among ys x) ∙ ap (λ (b : Bool). A x || b) (sym (list_any-append (λ v. bytes_eq v x) xs ys))) i

-- ---- a list before another

followed_sets : (a b : Statements) → jumps a ≡ false → set_in (followed_by a b) ≡ (set_in a ++ set_in b)
followed_sets done b h = refl
followed_sets (then at st a) b h = ap (λ (xs : List Word). set_by st ++ xs) (followed_sets a b (or_parts (jumps_one st) (jumps a) h).1) ∙ sym (joined_lists (set_by st) (set_in a) (set_in b))
  where
    joined_lists : (xs ys zs : List Word) → ((xs ++ ys) ++ zs) ≡ (xs ++ (ys ++ zs))
    joined_lists [] ys zs = refl
    joined_lists (x ∷ xs) ys zs = ap (λ (ws : List Word). x ∷ ws) (joined_lists xs ys zs)
followed_sets (mark l k a) b h = cc

pub followed_once : (A : Names) (a b : Statements) → jumps a ≡ false → SetsOnce A a → SetsOnce (more A (set_in a)) b → SetsOnce A (followed_by a b)
followed_once A done b j h k = subst (λ (B : Names). SetsOnce B b) (λ i x. or-false (A x) i) k
followed_once A (then at st a) b j h k =
    (h.0, followed_once (more A (set_by st)) a b (or_parts (jumps_one st) (jumps a) j).1 h.1 (subst (λ (B : Names). SetsOnce B b) (sym (more_both A (set_by st) (set_in a))) k))
followed_once A (mark l m a) b j h k = cc

-- ---- where more was assigned before

abbrev either_of : Names → Names → Names
either_of A B x = A x || B x

apart_both : (A B : Names) (xs : List Word) → Apart B xs → Apart A xs → Apart (either_of A B) xs
apart_both A B xs h k x m = (λ i. k x m i || B x) ∙ h x m

apart_front : (A : Names) (xs ys : List Word) → Apart A (xs ++ ys) → Apart A xs
apart_front A xs ys h x m = h x (in_front xs ys x m)

apart_behind : (A : Names) (xs ys : List Word) → Apart A (xs ++ ys) → Apart A ys
apart_behind A xs ys h x m = h x (behind xs ys x m)

either_more : (A B : Names) (xs : List Word) → either_of A (more B xs) ≡ more (either_of A B) xs
either_more A B xs = λ i x. sym (or_assoc (A x) (B x) (is_among xs x)) i

mutual
  one_more : (A B : Names) (st : Statement) → SetsOnceOne B st → Apart A (set_by st) → SetsOnceOne (either_of A B) st
  one_more A B (assign ms) h k = apart_both A B (roots ms) h k
  one_more A B (branch e a b) h k = (all_more A B a h.0 (apart_front A (set_in a) (set_in b) k), all_more A B b h.1 (apart_behind A (set_in a) (set_in b) k))
  one_more A B (either bs) h k = some_more A B bs h k
  one_more A B (with bs b) h k = all_more A B b h k
  one_more A B (while e b) h k = h
  one_more A B _ h k = tt

  all_more : (A B : Names) (b : Statements) → SetsOnce B b → Apart A (set_in b) → SetsOnce (either_of A B) b
  all_more A B done h k = tt
  all_more A B (then at st rest) h k = (
    one_more A B st h.0 (apart_front A (set_by st) (set_in rest) k),
    subst (λ (D : Names). SetsOnce D rest) (either_more A B (set_by st)) (all_more A (more B (set_by st)) rest h.1 (apart_behind A (set_by st) (set_in rest) k)),
  )
  all_more A B (mark l m rest) h k = h

  some_more : (A B : Names) (bs : Branches) → SetsOnceSome B bs → Apart A (set_in_some bs) → SetsOnceSome (either_of A B) bs
  some_more A B no_branches h k = tt
  some_more A B (or b bs) h k = (all_more A B b h.0 (apart_front A (set_in b) (set_in_some bs) k), some_more A B bs h.1 (apart_behind A (set_in b) (set_in_some bs) k))

from_none : (A : Names) (b : Statements) → SetsOnce none_set b → Apart A (set_in b) → SetsOnce A b
from_none A b h k = subst (λ (B : Names). SetsOnce B b) (λ i x. or-false (A x) i) (all_more A none_set b h k)

-- ---- paths

abbrev pub OnPath : Path → Word → Type 0
OnPath None x = ⊥
OnPath (Some xs) x = In xs x

abbrev pub IsReached : Path → Type 0
IsReached None = ⊥
IsReached (Some xs) = Unit {0}

-- the path has assigned all of A
abbrev pub Has : Names → Path → Type 0
Has A p = IsReached p × ((x : Word) → A x ≡ true → OnPath p x)

pub joined_reached : (p q : Path) → IsReached p → IsReached (joined p q)
joined_reached None q h = absurd h
joined_reached (Some xs) None h = tt
joined_reached (Some xs) (Some ys) h = tt

pub joined_left : (p q : Path) (x : Word) → OnPath p x → OnPath (joined p q) x
joined_left None q x h = absurd h
joined_left (Some xs) None x h = h
joined_left (Some xs) (Some ys) x h = in_front xs ys x h

pub joined_right : (p q : Path) (x : Word) → OnPath q x → OnPath (joined p q) x
joined_right None q x h = h
joined_right (Some xs) None x h = absurd h
joined_right (Some xs) (Some ys) x h = behind xs ys x h

abbrev add : List Word → Path → Path
add ys p = option_map (λ xs. ys ++ xs) p

has_more : (A : Names) (xs : List Word) (p q : Path) → Has A p → IsReached q → ((x : Word) → OnPath p x → OnPath q x) → ((x : Word) → In xs x → OnPath q x) → Has (more A xs) q
has_more A xs p q h r k s = (r, λ x m. by x (A x) refl m)
  where
    by : (x : Word) (b : Bool) → A x ≡ b → (b || is_among xs x) ≡ true → OnPath q x
    by x true e m = k x (h.1 x e)
    by x false e m = s x m

-- what a path has not assigned is apart
pub apart_of : (A : Names) (p : Path) (ys : List Word) → Has A p → has_assigned p ys ≡ false → Apart A ys
apart_of A None ys h e x m = absurd h.0
apart_of A (Some xs) ys h e x m = by (A x) refl
  where
    by : (b : Bool) → A x ≡ b → b ≡ false
    by true k = absurd (both_ways (is_among xs x) (met_none xs ys e x m) (h.1 x k))
    by false k = refl

-- ---- statements with no label, loop, jump or call in them, of which no `either` is empty

abbrev mutual
  pub IsQuiet : Statement → Type 0
  IsQuiet (branch e a b) = AreQuiet a × AreQuiet b
  IsQuiet (either bs) = SomeQuiet bs
  IsQuiet (with bs b) = AreQuiet b
  IsQuiet (while e b) = ⊥
  IsQuiet (goto l) = ⊥
  IsQuiet (call p ts) = ⊥
  IsQuiet return = ⊥
  IsQuiet _ = Unit {0}

  pub AreQuiet : Statements → Type 0
  AreQuiet done = Unit {0}
  AreQuiet (then at st rest) = IsQuiet st × AreQuiet rest
  AreQuiet (mark l k rest) = ⊥

  pub SomeQuiet : Branches → Type 0
  SomeQuiet no_branches = ⊥
  SomeQuiet (or b bs) = AreQuiet b × AllQuiet bs

  pub AllQuiet : Branches → Type 0
  AllQuiet no_branches = Unit {0}
  AllQuiet (or b bs) = AreQuiet b × AllQuiet bs

-- what is written for statements, which assign those of ws, on a path from p to q
pub record Sets (A : Names) (a : Statements) (ws : List Word) (p q : Path) : Type 0 where
  pub once : SetsOnce A a
  pub within : Within (set_in a) ws
  pub still : jumps a ≡ false
  pub reached : IsReached q
  pub goes : (x : Word) → OnPath p x → OnPath q x
  pub assigns : (x : Word) → In (set_in a) x → OnPath q x

-- what is written for a call that assigns those of ws
abbrev pub IsWritten : Statements → List Word → Type 0
IsWritten a ws = SetsOnce none_set a × Within (set_in a) ws × (jumps a ≡ false)

pub within_one : (xs ys : List Word) → Within xs ys → Within (xs ++ []) ys
within_one xs ys h = within_both xs [] ys h (λ x m. absurd (in_nothing x m))

only : (b : Bool) → b ≡ false → (b || false) ≡ false
only b e = or-false b ∙ e

-- one statement that assigns nothing
plain_sets : (A : Names) (at : Span) (st : Statement) (ws ys : List Word) (p : Path) → SetsOnceOne A st → set_by st ≡ [] → jumps_one st ≡ false → IsReached p → Sets A (then at st done) ws p (add ys p)
plain_sets A at st ws ys None o e j r = absurd r
plain_sets A at st ws ys (Some xs) o e j r = record {
  once = (o, tt);
  within = within_one (set_by st) ws (λ x m. absurd (in_nothing x (subst (λ (zs : List Word). In zs x) e m)));
  still = only (jumps_one st) j;
  reached = tt;
  goes = λ x m. behind ys xs x m;
  assigns = λ x m. absurd (in_nothing x (subst (λ (zs : List Word). In zs x) e (within_one (set_by st) (set_by st) (λ y n. n) x m)));
}

-- statements that assign those of ys, which the path has not assigned
all_sets : (A : Names) (a : Statements) (ws ys : List Word) (p : Path) → SetsOnce none_set a → Within (set_in a) ys → jumps a ≡ false → Within ys ws → Has A p → has_assigned p ys ≡ false → Sets A a ws p (add ys p)
all_sets A a ws ys None o i j v h e = absurd h.0
all_sets A a ws ys (Some xs) o i j v h e = record {
  once = from_none A a o (λ x m. apart_of A (Some xs) ys h e x (i x m));
  within = λ x m. v x (i x m);
  still = j;
  reached = tt;
  goes = λ x m. behind ys xs x m;
  assigns = λ x m. in_front ys xs x (i x m);
}

-- a list and one after it
followed_sets_both : (A : Names) (a b : Statements) (us vs : List Word) (p q r : Path) → Sets A a us p q → Sets (more A (set_in a)) b vs q r → Sets A (followed_by a b) (us ++ vs) p r
followed_sets_both A a b us vs p q r h k = record {
  once = followed_once A a b h.still h.once k.once;
  within = λ x m. within_both (set_in a) (set_in b) (us ++ vs) (λ y n. in_front us vs y (h.within y n)) (λ y n. behind us vs y (k.within y n)) x (set_there x m);
  still = followed_jumps a b h.still ∙ k.still;
  reached = k.reached;
  goes = λ x m. k.goes x (h.goes x m);
  assigns = λ x m. by x (append_cases (set_in a) (set_in b) x (set_there x m));
}
  where
    set_there : (x : Word) → In (set_in (followed_by a b)) x → In (set_in a ++ set_in b) x
    set_there x m = subst (λ (zs : List Word). In zs x) (followed_sets a b h.still) m

    by : (x : Word) → In (set_in a) x ⊎ In (set_in b) x → OnPath r x
    by x (inl m) = k.goes x (h.assigns x m)
    by x (inr m) = k.assigns x m

pub sets_has : (A : Names) (a : Statements) (ws : List Word) (p q : Path) → Has A p → Sets A a ws p q → Has (more A (set_in a)) q
sets_has A a ws p q h k = has_more A (set_in a) p q h k.reached k.goes k.assigns

-- two branches
branch_sets : (A : Names) (at : Span) (e : Tree) (a b : Statements) (us vs : List Word) (p q r : Path) → Sets A a us p q → Sets A b vs p r → Sets A (then at (branch e a b) done) (us ++ vs) p (joined q r)
branch_sets A at e a b us vs p q r h k = record {
  once = ((h.once, k.once), tt);
  within = within_one (set_in a ++ set_in b) (us ++ vs) both_within;
  still = only (jumps a || jumps b) ((λ i. h.still i || jumps b) ∙ k.still);
  reached = joined_reached q r h.reached;
  goes = λ x m. joined_left q r x (h.goes x m);
  assigns = λ x m. by x (append_cases (set_in a) (set_in b) x (within_one (set_in a ++ set_in b) (set_in a ++ set_in b) (λ y n. n) x m));
}
  where
    both_within : Within (set_in a ++ set_in b) (us ++ vs)
    both_within = within_both (set_in a) (set_in b) (us ++ vs) (λ y n. in_front us vs y (h.within y n)) (λ y n. behind us vs y (k.within y n))

    by : (x : Word) → In (set_in a) x ⊎ In (set_in b) x → OnPath (joined q r) x
    by x (inl m) = joined_left q r x (h.assigns x m)
    by x (inr m) = joined_right q r x (k.assigns x m)

either_sets : (A : Names) (at : Span) (a : Statements) (bs : Branches) (us vs : List Word) (p q r : Path) → Sets A a us p q → Sets A (then at (either bs) done) vs p r → Sets A (then at (either (or a bs)) done) (us ++ vs) p (joined q r)
either_sets A at a bs us vs p q r h k = record {
  once = ((h.once, k.once.0), tt);
  within = within_one (set_in a ++ set_in_some bs) (us ++ vs) both_within;
  still = only (jumps a || jumps_some bs) ((λ i. h.still i || jumps_some bs) ∙ (or_parts (jumps_some bs) false k.still).0);
  reached = joined_reached q r h.reached;
  goes = λ x m. joined_left q r x (h.goes x m);
  assigns = λ x m. by x (append_cases (set_in a) (set_in_some bs) x (within_one (set_in a ++ set_in_some bs) (set_in a ++ set_in_some bs) (λ y n. n) x m));
}
  where
    both_within : Within (set_in a ++ set_in_some bs) (us ++ vs)
    both_within = within_both (set_in a) (set_in_some bs) (us ++ vs) (λ y n. in_front us vs y (h.within y n)) (λ y n. behind us vs y (k.within y (in_front (set_in_some bs) [] y n)))

    by : (x : Word) → In (set_in a) x ⊎ In (set_in_some bs) x → OnPath (joined q r) x
    by x (inl m) = joined_left q r x (h.assigns x m)
    by x (inr m) = joined_right q r x (k.assigns x (in_front (set_in_some bs) [] x m))

single_sets : (A : Names) (at : Span) (a : Statements) (us : List Word) (p q : Path) → Sets A a us p q → Sets A (then at (either (or a no_branches)) done) us p (joined q None)
single_sets A at a us p q h = record {
  once = ((h.once, tt), tt);
  within = within_one (set_in a ++ []) us (within_one (set_in a) us h.within);
  still = only (jumps a || false) (only (jumps a) h.still);
  reached = joined_reached q None h.reached;
  goes = λ x m. joined_left q None x (h.goes x m);
  assigns = λ x m. joined_left q None x (h.assigns x (within_one (set_in a ++ []) (set_in a) (within_one (set_in a) (set_in a) (λ y n. n)) x m));
}

with_sets : (A : Names) (at : Span) (bs : Binds) (a : Statements) (us : List Word) (p q : Path) → Sets A a us p q → Sets A (then at (with bs a) done) us p q
with_sets A at bs a us p q h = record {
  once = (h.once, tt);
  within = within_one (set_in a) us h.within;
  still = only (jumps a) h.still;
  reached = h.reached;
  goes = h.goes;
  assigns = λ x m. h.assigns x (within_one (set_in a) (set_in a) (λ y n. n) x m);
}

wider : (A : Names) (a : Statements) (us ws : List Word) (p q : Path) → Within us ws → Sets A a us p q → Sets A a ws p q
wider A a us ws p q v h = record { once = h.once; within = λ x m. v x (h.within x m); still = h.still; reached = h.reached; goes = h.goes; assigns = h.assigns }

none_sets : (A : Names) (p : Path) → IsReached p → Sets A done [] p p
none_sets A p r = record { once = tt; within = λ x m. m; still = refl; reached = r; goes = λ x m. m; assigns = λ x m. absurd (in_nothing x m) }

reached_within : (p : Path) (ys zs : List Word) → IsReached p → Within ys (cond (is_reached p) ys [] ++ zs)
reached_within None ys zs h = absurd h
reached_within (Some xs) ys zs h = λ x m. in_front ys zs x m

followed_nothing : (a : Statements) → followed_by a done ≡ a
followed_nothing done = refl
followed_nothing (then at st a) = ap (λ (b : Statements). then at st b) (followed_nothing a)
followed_nothing (mark l k a) = ap (λ (b : Statements). mark l k b) (followed_nothing a)

abbrev pub seen_in : Effects → List Visit → List Word
seen_in E vs = flat_map (reached_variables E) vs

abbrev pub visit_of : Before → Span → Statement → Partner → Visit
visit_of p at st j = record { before = p; place = at.first; statement = st; partner = j }

two_seen : (E : Effects) (us : List Word) (vs ws : List Visit) → Within ((us ++ seen_in E vs) ++ seen_in E ws) (us ++ seen_in E (vs ++ ws))
two_seen E us vs ws x m = by (append_cases (us ++ seen_in E vs) (seen_in E ws) x m)
  where
    all : (y : Word) → In (seen_in E vs ++ seen_in E ws) y → In (us ++ seen_in E (vs ++ ws)) y
    all y n = behind us (seen_in E (vs ++ ws)) y (subst (λ (zs : List Word). In zs y) (sym (flat_map-append (reached_variables E) vs ws)) n)

    first : In us x ⊎ In (seen_in E vs) x → In (us ++ seen_in E (vs ++ ws)) x
    first (inl n) = in_front us (seen_in E (vs ++ ws)) x n
    first (inr n) = all x (in_front (seen_in E vs) (seen_in E ws) x n)

    by : In (us ++ seen_in E vs) x ⊎ In (seen_in E ws) x → In (us ++ seen_in E (vs ++ ws)) x
    by (inl n) = first (append_cases us (seen_in E vs) x n)
    by (inr n) = all x (behind (seen_in E vs) (seen_in E ws) x n)

both_seen : (E : Effects) (us : List Word) (vs ws : List Visit) → Within (seen_in E vs ++ seen_in E ws) (us ++ seen_in E (vs ++ ws))
both_seen E us vs ws x m = behind us (seen_in E (vs ++ ws)) x (subst (λ (zs : List Word). In zs x) (sym (flat_map-append (reached_variables E) vs ws)) m)

module _ (E : Effects) (C : Word → Trees → Effect) (own : (ms : Assignments) → E (assign ms) ≡ path.assigned (assign ms)) (same : (m : Word) (ts : Trees) → E (macro m ts) ≡ C m ts) (h : Graft) (X : Writing)
    (calls : (at : Span) (m : Word) (us : Trees) → (C m (grafts h us)).twice ≡ false → IsWritten (graft_all h (X at m us)) (C m (grafts h us)).variables) where
  pub split_text : (at : Span) (st : Statement) (r : Statements) → graft_all h (expand_one X at st r) ≡ followed_by (graft_all h (expand_one X at st done)) (graft_all h r)
  split_text at (macro m ts) r = followed_put h (X at m ts) r ∙ ap (λ (a : Statements). followed_by (graft_all h a) (graft_all h r)) (sym (followed_nothing (X at m ts)))
  split_text at (branch e a b) r = refl
  split_text at (either bs) r = refl
  split_text at (with bs b) r = refl
  split_text at (while e b) r = refl
  split_text at (assign ms) r = refl
  split_text at (await e) r = refl
  split_text at (print e) r = refl
  split_text at (assert e) r = refl
  split_text at skip r = refl
  split_text at (goto l) r = refl
  split_text at (call p ts) r = refl
  split_text at return r = refl

  -- a statement that assigns what E says
  at_once : (A : Names) (p : Before) (at : Span) (st : Statement) (j : Partner) (a : Statements) (e : Effect) → E st ≡ e → Has A p.path → IsWritten a e.variables → (e.twice || has_assigned p.path e.variables) ≡ false
      → Sets A a (cond (is_reached p.path) (E st).variables [] ++ []) p.path (add (E st).variables p.path)
  at_once A p at st j a e q k w t =
      subst (λ (f : Effect). Sets A a (cond (is_reached p.path) f.variables [] ++ []) p.path (add f.variables p.path)) (sym q)
      (all_sets A a (cond (is_reached p.path) e.variables [] ++ []) e.variables p.path w.0 w.1 w.2 (reached_within p.path e.variables [] k.0) k (or_parts e.twice (has_assigned p.path e.variables) t).1)

  mutual
    pub one_sets : (A : Names) (p : Before) (at : Span) (st : Statement) (j : Partner) → Has A p.path → IsQuiet st → assigns_twice E (visit_of p at (graft_one h st) j) ≡ false → NoneTwice E (visits_inside E p (graft_one h st))
        → Sets A (graft_all h (expand_one X at st done)) (reached_variables E (visit_of p at (graft_one h st) j) ++ seen_in E (visits_inside E p (graft_one h st))) p.path (after_one E (graft_one h st) p.labelled p.path)
    one_sets A p at (assign ms) j k q t v =
        at_once A p at (assign (graft_assignments h ms)) j (then at (assign (graft_assignments h ms)) done) (path.assigned (assign (graft_assignments h ms))) (own (graft_assignments h ms)) k
        ((λ x m. refl, tt), within_one (roots (graft_assignments h ms)) (roots (graft_assignments h ms)) (λ x m. m), refl)
        (subst (λ (e : Effect). (e.twice || has_assigned p.path e.variables) ≡ false) (own (graft_assignments h ms)) t)
    one_sets A p at (macro m us) j k q t v =
        let u = subst (λ (e : Effect). (e.twice || has_assigned p.path e.variables) ≡ false) (same m (grafts h us)) t in
        subst (λ (a : Statements). Sets A (graft_all h a) (cond (is_reached p.path) (E (macro m (grafts h us))).variables [] ++ []) p.path (add (E (macro m (grafts h us))).variables p.path)) (sym (followed_nothing (X at m us)))
        (at_once A p at (macro m (grafts h us)) j (graft_all h (X at m us)) (C m (grafts h us)) (same m (grafts h us)) k
        (calls at m us (or_parts (C m (grafts h us)).twice _ u).0) u)
    one_sets A p at (branch e a b) j k q t v =
        let w = two_lists E (visits E (inside p.path) (graft_all h a)) (visits E (inside p.path) (graft_all h b)) v in
        wider A _ _ _ p.path _ (both_seen E (reached_variables E (visit_of p at (graft_one h (branch e a b)) j)) (visits E (inside p.path) (graft_all h a)) (visits E (inside p.path) (graft_all h b)))
        (branch_sets A at (graft h e) (graft_all h (expand X a)) (graft_all h (expand X b)) _ _ p.path _ _
        (list_sets A (inside p.path) a k q.0 w.0) (list_sets A (inside p.path) b k q.1 w.1))
    one_sets A p at (either bs) j k q t v =
        wider A _ _ _ p.path _ (λ x m. behind (reached_variables E (visit_of p at (graft_one h (either bs)) j)) (seen_in E (visits_of_some E (inside p.path) (graft_some h bs))) x m)
        (some_sets A p.path at bs k q v)
    one_sets A p at (with bs b) j k q t v =
        wider A _ _ _ p.path _ (λ x m. behind (reached_variables E (visit_of p at (graft_one h (with bs b)) j)) (seen_in E (visits E (inside p.path) (graft_all h b))) x m)
        (with_sets A at (graft_binds h bs) (graft_all h (expand X b)) _ p.path _ (list_sets A (inside p.path) b k q v))
    one_sets A p at (await e) j k q t v = plain_sets A at (graft_one h (await e)) _ (E (graft_one h (await e))).variables p.path tt refl refl k.0
    one_sets A p at (print e) j k q t v = plain_sets A at (graft_one h (print e)) _ (E (graft_one h (print e))).variables p.path tt refl refl k.0
    one_sets A p at (assert e) j k q t v = plain_sets A at (graft_one h (assert e)) _ (E (graft_one h (assert e))).variables p.path tt refl refl k.0
    one_sets A p at skip j k q t v = plain_sets A at skip _ (E skip).variables p.path tt refl refl k.0
    one_sets A p at (while e b) j k q t v = absurd q
    one_sets A p at (goto l) j k q t v = absurd q
    one_sets A p at (call m ts) j k q t v = absurd q
    one_sets A p at return j k q t v = absurd q

    pub list_sets : (A : Names) (p : Before) (b : Statements) → Has A p.path → AreQuiet b → NoneTwice E (visits E p (graft_all h b))
        → Sets A (graft_all h (expand X b)) (seen_in E (visits E p (graft_all h b))) p.path (after E (graft_all h b) p.labelled p.path)
    list_sets A p done k q t = none_sets A p.path k.0
    list_sets A p (mark l m rest) k q t = absurd q
    list_sets A p (then at st rest) k q t =
        let v = visit_of p at (graft_one h st) (partner_of (graft_all h rest)) in
        let n = next E p (graft_one h st) (partner_of (graft_all h rest)) in
        let a = graft_all h (expand_one X at st done) in
        let w = or_parts (assigns_twice E v) _ t in
        let u = two_lists E (visits_inside E p (graft_one h st)) (visits E n (graft_all h rest)) w.1 in
        let s = one_sets A p at st (partner_of (graft_all h rest)) k q.0 w.0 u.0 in
        subst (λ (c : Statements). Sets A c (seen_in E (visits E p (graft_all h (then at st rest)))) p.path (after E (graft_all h (then at st rest)) p.labelled p.path)) (sym (split_text at st (expand X rest)))
        (wider A _ _ _ p.path _ (two_seen E (reached_variables E v) (visits_inside E p (graft_one h st)) (visits E n (graft_all h rest)))
        (followed_sets_both A a (graft_all h (expand X rest)) _ _ p.path (after_one E (graft_one h st) p.labelled p.path) _ s
        (list_sets (more A (set_in a)) n rest (sets_has A a _ p.path _ k s) q.1 u.1)))

    some_sets : (A : Names) (r : Path) (at : Span) (bs : Branches) → Has A r → SomeQuiet bs → NoneTwice E (visits_of_some E (inside r) (graft_some h bs))
        → Sets A (then at (either (graft_some h (expand_some X bs))) done) (seen_in E (visits_of_some E (inside r) (graft_some h bs))) r (after_some E (graft_some h bs) r)
    some_sets A r at no_branches k q t = absurd q
    some_sets A r at (or b no_branches) k q t =
        let w = two_lists E (visits E (inside r) (graft_all h b)) [] t in
        wider A _ _ _ r _ (λ x m. subst (λ (zs : List Word). In zs x) (sym (flat_map-append (reached_variables E) (visits E (inside r) (graft_all h b)) [])) (in_front (seen_in E (visits E (inside r) (graft_all h b))) [] x m))
        (single_sets A at (graft_all h (expand X b)) _ r _ (list_sets A (inside r) b k q.0 w.0))
    some_sets A r at (or b (or c cs)) k q t =
        let w = two_lists E (visits E (inside r) (graft_all h b)) (visits_of_some E (inside r) (graft_some h (or c cs))) t in
        wider A _ _ _ r _ (both_seen E [] (visits E (inside r) (graft_all h b)) (visits_of_some E (inside r) (graft_some h (or c cs))))
        (either_sets A at (graft_all h (expand X b)) (graft_some h (expand_some X (or c cs))) _ _ r _ _ (list_sets A (inside r) b k q.0 w.0) (some_sets A r at (or c cs) k q.1 w.1))
