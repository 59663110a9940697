-- The items that are written for statements without their places are the items without theirs: jumps settled, the variables of a process at its identifier, and each
-- statement written.
use Rattle.std.proofs.Common.{◌≡◌, List, [], ◌∷◌, ◌++◌, map, Bool, true, false, ◌||◌, cond, bytes_eq, codes, Some, None, option_map, refl, sym, ap, ◌∙◌}
use Rattle.std.specs.Option.{unwrap_or}
use Rattle.tla_token.specs.declared.place.Place.{Place}
use Rattle.tla_tree.specs.Tree.{Word, index, field, select, except, Form, string, truth, name, next, strict, operator_call, Tree, node, Trees, no_trees, tree, Graft, root_place}
use Rattle.tla_tree.specs.laws.Placeless.{name_placeless, slot_placeless, form_placeless, tree_placeless, trees_placeless}
use Rattle.tla_value.specs.Grafts.{primes, owned, own_part}
use Rattle.module_tree.specs.Module.{Item, test, setting, unchanged, exists, local, if_then_else, either as any, Items, no_items, item, Branches as Lists, no_branches as no_lists, branch as list}
use Rattle.module_tree.specs.laws.PlacelessRegion.{item_placeless, items_placeless, branches_placeless as lists_placeless}
use Rattle.pcal_tree.specs.Algorithm.{nowhere, Name, Span, Assignments, no_assignments, assignment, Binds, no_binds, one_of, is, Statement, assign, await, print, assert, skip, branch, either, with, while, goto, macro, call, return, Statements, done, then, mark, Branches, no_branches, or}
use Rattle.pcal_tree.specs.Expand.{graft_all}
use Rattle.pcal_tree.specs.Placeless.{no_span, assignments_placeless, binds_placeless, statement_placeless, statements_placeless, branches_placeless}
use Rattle.pcal_tree.specs.Run.{unlabelled, label_of, Partner, return_partner, partner_of}
use Rattle.action_builder.specs.Assigned.{Names, more, head_of, without, heads, assigned, assigned_in, assigned_by}
use Rattle.action_builder.specs.Prepared.{prepared, action_items, none}
use Rattle.action_builder.specs.Settled.{WrittenJumps, jumps_one, jumps, jumps_some, settled_one, settled, settled_some}
use Rattle.action_builder.specs.SingleProcess.{in_place_of, graft_item, graft_items, graft_branches}
use Rattle.action_builder.specs.Written.{Key, sub, fixed, subs, keys_in, keys_of, keys_first, steps_of, subscripts, own, slots_of, slot_trees, except_of, sets_whole, side_of, primed, left_of, unchanged_of, onto, filled, settings_of, is_old, put_in, nested_items, branch_items, write_one, write, write_some}
use Rattle.translation.proofs.WritableBare.{graft_bare, grafted_all, root_bare}

-- ---- jumps settled

mutual
  one_jumps : (st : Statement) → jumps_one (statement_placeless st) ≡ jumps_one st
  one_jumps (branch e a b) = λ i. all_jumps a i || all_jumps b i
  one_jumps (either bs) = some_jumps bs
  one_jumps (with bs b) = all_jumps b
  one_jumps (assign ms) = refl
  one_jumps (await e) = refl
  one_jumps (print e) = refl
  one_jumps (assert e) = refl
  one_jumps skip = refl
  one_jumps (while e b) = refl
  one_jumps (goto l) = refl
  one_jumps (macro m ts) = refl
  one_jumps (call p ts) = refl
  one_jumps return = refl

  all_jumps : (ss : Statements) → jumps (statements_placeless ss) ≡ jumps ss
  all_jumps done = refl
  all_jumps (then at st rest) = λ i. one_jumps st i || all_jumps rest i
  all_jumps (mark l k rest) = refl

  some_jumps : (bs : Branches) → jumps_some (branches_placeless bs) ≡ jumps_some bs
  some_jumps no_branches = refl
  some_jumps (or b bs) = λ i. all_jumps b i || some_jumps bs i

abbrev pub partner_placeless : Partner → Partner
partner_placeless (return_partner at) = return_partner no_span
partner_placeless j = j

pub label_bare : (ss : Statements) (l : Word) → label_of (statements_placeless ss) l ≡ label_of ss l
label_bare done l = refl
label_bare (then at st rest) l = refl
label_bare (mark m k rest) l = refl

pub partner_bare : (ss : Statements) → partner_of (statements_placeless ss) ≡ partner_placeless (partner_of ss)
partner_bare done = refl
partner_bare (mark m k rest) = refl
partner_bare (then at st rest) = by st
  where
    by : (st : Statement) → partner_of (then no_span (statement_placeless st) (statements_placeless rest)) ≡ partner_placeless (partner_of (then at st rest))
    by (goto l) = refl
    by return = refl
    by (assign ms) = refl
    by (await e) = refl
    by (print e) = refl
    by (assert e) = refl
    by skip = refl
    by (branch e a b) = refl
    by (either bs) = refl
    by (with bs b) = refl
    by (while e b) = refl
    by (macro m ts) = refl
    by (call p ts) = refl

-- the assignments that stand for jumps are those of the placeless ones without their places
pub record JumpsBare (W V : WrittenJumps) : Type 0 where
  pub goto : (l : Word) → statements_placeless (W.goto l) ≡ V.goto l
  pub call : (at : Span) (p : Name) (ts : Trees) (l : Word) (j : Partner) → statements_placeless (W.call at p ts l j) ≡ V.call no_span (name_placeless p) (trees_placeless ts) l (partner_placeless j)
  pub return : (at : Span) → statements_placeless (W.return at) ≡ V.return no_span

cond_bare : (b c : Bool) (x y : Statements) (u w : Statements) → b ≡ c → statements_placeless x ≡ u → statements_placeless y ≡ w → statements_placeless (cond b x y) ≡ cond c u w
cond_bare b c x y u w e p q = by b ∙ ap (λ d. cond d u w) e
  where
    by : (d : Bool) → statements_placeless (cond d x y) ≡ cond d u w
    by true = p
    by false = q

module _ (W V : WrittenJumps) (k : JumpsBare W V) where
  mutual
    one_settled : (here l : Word) (j : Partner) (at : Span) (st : Statement) (rest us : Statements) → statements_placeless rest ≡ us
        → statements_placeless (settled_one W here l j at st rest) ≡ settled_one V here l (partner_placeless j) no_span (statement_placeless st) us
    one_settled here l j at (goto m) rest us e = k.goto m
    one_settled here l j at (call p ts) rest us e = k.call at p ts l j
    one_settled here l j at return rest us e = k.return at
    one_settled here l j at (branch f a b) rest us e =
        cond_bare (jumps a || jumps b) (jumps (statements_placeless a) || jumps (statements_placeless b)) _ _ _ _ (λ i. sym (all_jumps a) i || sym (all_jumps b) i)
        (λ i. then no_span (branch (tree_placeless f) (all_settled unlabelled l a i) (all_settled unlabelled l b i)) done) (λ i. then no_span (branch (tree_placeless f) (statements_placeless a) (statements_placeless b)) (e i))
    one_settled here l j at (either bs) rest us e =
        cond_bare (jumps_some bs) (jumps_some (branches_placeless bs)) _ _ _ _ (sym (some_jumps bs)) (λ i. then no_span (either (some_settled l bs i)) done) (λ i. then no_span (either (branches_placeless bs)) (e i))
    one_settled here l j at (with bs b) rest us e =
        cond_bare (jumps b) (jumps (statements_placeless b)) _ _ _ _ (sym (all_jumps b)) (λ i. then no_span (with (binds_placeless bs) (all_settled unlabelled l b i)) done)
        (λ i. then no_span (with (binds_placeless bs) (statements_placeless b)) (e i))
    one_settled here l j at (while f b) rest us e = λ i. then no_span (branch (tree_placeless f) (all_settled unlabelled here b i) (e i)) done
    one_settled here l j at (assign ms) rest us e = λ i. then no_span (assign (assignments_placeless ms)) (e i)
    one_settled here l j at (await f) rest us e = λ i. then no_span (await (tree_placeless f)) (e i)
    one_settled here l j at (print f) rest us e = λ i. then no_span (print (tree_placeless f)) (e i)
    one_settled here l j at (assert f) rest us e = λ i. then no_span (assert (tree_placeless f)) (e i)
    one_settled here l j at skip rest us e = λ i. then no_span skip (e i)
    one_settled here l j at (macro m ts) rest us e = λ i. then no_span (macro m (trees_placeless ts)) (e i)

    pub all_settled : (here l : Word) (ss : Statements) → statements_placeless (settled W here l ss) ≡ settled V here l (statements_placeless ss)
    all_settled here l done = k.goto l
    all_settled here l (then at st rest) =
        one_settled here (label_of rest l) (partner_of rest) at st (settled W unlabelled l rest) (settled V unlabelled l (statements_placeless rest)) (all_settled unlabelled l rest)
        ∙ (λ i. settled_one V here (sym (label_bare rest l) i) (sym (partner_bare rest) i) no_span (statement_placeless st) (settled V unlabelled l (statements_placeless rest)))
    all_settled here l (mark m n rest) = k.goto m.word

    some_settled : (l : Word) (bs : Branches) → branches_placeless (settled_some W l bs) ≡ settled_some V l (branches_placeless bs)
    some_settled l no_branches = refl
    some_settled l (or b bs) = λ i. or (all_settled unlabelled l b i) (some_settled l bs i)

-- ---- variables at the identifier

pub owned_bare : (self : Word) (here : Word → Bool) (x : Word) (at : Place) → owned self here x nowhere ≡ option_map tree_placeless (owned self here x at)
owned_bare self here x at = by (here x)
  where
    by : (b : Bool) → cond b (Some (own_part self x nowhere)) None ≡ option_map tree_placeless (cond b (Some (own_part self x at)) None)
    by true = refl
    by false = refl

pub prepared_bare : (W V : WrittenJumps) → JumpsBare W V → (self : Word) (here : Word → Bool) (l x : Word) (ss : Statements)
    → statements_placeless (prepared W self here l x ss) ≡ prepared V self here l x (statements_placeless ss)
prepared_bare W V k self here l x ss =
    grafted_all (owned self here) (owned self here) (owned_bare self here) (settled W l x ss) ∙ ap (graft_all (owned self here)) (all_settled W V k l x ss)

-- ---- what is assigned

head_bare : (l : Tree) → head_of (tree_placeless l) ≡ head_of l
head_bare l = ap (λ o. unwrap_or o []) (root_bare l)

heads_bare : (ms : Assignments) → heads (assignments_placeless ms) ≡ heads ms
heads_bare no_assignments = refl
heads_bare (assignment l e ms) = λ i. head_bare l i ∷ without (head_bare l i) (heads_bare ms i)

mutual
  assigned_bare : (st : Statement) → assigned (statement_placeless st) ≡ assigned st
  assigned_bare (assign ms) = heads_bare ms
  assigned_bare (branch e a b) = λ i. all_assigned a i ++ all_assigned b i
  assigned_bare (either bs) = some_assigned bs
  assigned_bare (with bs b) = all_assigned b
  assigned_bare (await e) = refl
  assigned_bare (print e) = refl
  assigned_bare (assert e) = refl
  assigned_bare skip = refl
  assigned_bare (while e b) = refl
  assigned_bare (goto l) = refl
  assigned_bare (macro m ts) = refl
  assigned_bare (call p ts) = refl
  assigned_bare return = refl

  pub all_assigned : (ss : Statements) → assigned_in (statements_placeless ss) ≡ assigned_in ss
  all_assigned done = refl
  all_assigned (then at st rest) = λ i. assigned_bare st i ++ all_assigned rest i
  all_assigned (mark l k rest) = refl

  some_assigned : (bs : Branches) → assigned_by (branches_placeless bs) ≡ assigned_by bs
  some_assigned no_branches = refl
  some_assigned (or b bs) = λ i. all_assigned b i ++ some_assigned bs i

-- ---- right sides

abbrev key_placeless : Key → Key
key_placeless (sub t) = sub (tree_placeless t)
key_placeless (fixed a) = fixed a

subs_bare : (ts : Trees) → subs (trees_placeless ts) ≡ map key_placeless (subs ts)
subs_bare no_trees = refl
subs_bare (tree t ts) = λ i. sub (tree_placeless t) ∷ subs_bare ts i

keys_joined : (ks ls : List Key) → map key_placeless (ks ++ ls) ≡ map key_placeless ks ++ map key_placeless ls
keys_joined [] ls = refl
keys_joined (k ∷ ks) ls = λ i. key_placeless k ∷ keys_joined ks ls i

keys_in_bare : (m : Form) (ks : List Key) → keys_in (form_placeless m) (map key_placeless ks) ≡ map key_placeless (keys_in m ks)
keys_in_bare (name x) ks = refl
keys_in_bare (strict (select a)) ks = sym (keys_joined ks (fixed a ∷ []))
keys_in_bare (strict o) ks = refl
keys_in_bare m ks = refl

mutual
  keys_bare : (l : Tree) → keys_of (tree_placeless l) ≡ map key_placeless (keys_of l)
  keys_bare (node m at ts) = ap (keys_in (form_placeless m)) (first_bare ts) ∙ keys_in_bare m (keys_first ts)

  first_bare : (ts : Trees) → keys_first (trees_placeless ts) ≡ map key_placeless (keys_first ts)
  first_bare no_trees = refl
  first_bare (tree f us) = (λ i. keys_bare f i ++ subs_bare us i) ∙ sym (keys_joined (keys_of f) (subs us))

steps_bare : (ks : List Key) → steps_of (map key_placeless ks) ≡ steps_of ks
steps_bare [] = refl
steps_bare (sub t ∷ ks) = λ i. index ∷ steps_bare ks i
steps_bare (fixed a ∷ ks) = λ i. field a ∷ steps_bare ks i

subscripts_bare : (ks : List Key) (ts : Trees) → subscripts (map key_placeless ks) (trees_placeless ts) ≡ trees_placeless (subscripts ks ts)
subscripts_bare [] ts = refl
subscripts_bare (sub t ∷ ks) ts = ap (tree (tree_placeless t)) (subscripts_bare ks ts)
subscripts_bare (fixed a ∷ ks) ts = subscripts_bare ks ts

pub place_bare : (t : Tree) → root_place (tree_placeless t) ≡ nowhere
place_bare (node m at ts) = refl

slots_bare : (ms : Assignments) → slots_of (assignments_placeless ms) ≡ map slot_placeless (slots_of ms)
slots_bare no_assignments = refl
slots_bare (assignment l e ms) = λ i. record { path = (ap steps_of (keys_bare l) ∙ steps_bare (keys_of l)) i; place = place_bare l i } ∷ slots_bare ms i

slot_trees_bare : (ms : Assignments) → slot_trees (assignments_placeless ms) ≡ trees_placeless (slot_trees ms)
slot_trees_bare no_assignments = refl
slot_trees_bare (assignment l e ms) =
    (λ i. subscripts (keys_bare l i) (tree (tree_placeless e) (slot_trees_bare ms i))) ∙ subscripts_bare (keys_of l) (tree e (slot_trees ms))

own_bare : (y : Word) (ms : Assignments) → own y (assignments_placeless ms) ≡ assignments_placeless (own y ms)
own_bare y no_assignments = refl
own_bare y (assignment l e ms) =
    (λ i. cond (bytes_eq (head_bare l i) y) (assignment (tree_placeless l) (tree_placeless e) (own_bare y ms i)) (own_bare y ms i)) ∙ by (bytes_eq (head_of l) y)
  where
    by : (b : Bool) → cond b (assignment (tree_placeless l) (tree_placeless e) (assignments_placeless (own y ms))) (assignments_placeless (own y ms)) ≡ assignments_placeless (cond b (assignment l e (own y ms)) (own y ms))
    by true = refl
    by false = refl

whole_bare : (ks : List Key) (ms : Assignments) → sets_whole (map key_placeless ks) (assignments_placeless ms) ≡ sets_whole ks ms
whole_bare [] no_assignments = refl
whole_bare [] (assignment l e ms) = refl
whole_bare (sub t ∷ ks) ms = refl
whole_bare (fixed a ∷ ks) ms = refl

except_bare : (y : Word) (at : Place) (ms : Assignments) → except_of nowhere y (assignments_placeless ms) ≡ tree_placeless (except_of at y ms)
except_bare y at ms = λ i. node (strict (except (slots_bare ms i))) nowhere (tree (node (name y) nowhere no_trees) (slot_trees_bare ms i))

side_bare : (y : Word) (ms : Assignments) → side_of y (assignments_placeless ms) ≡ tree_placeless (side_of y ms)
side_bare y no_assignments = refl
side_bare y (assignment l e ms) =
    (λ i. cond ((ap (λ ks. sets_whole ks (assignments_placeless ms)) (keys_bare l) ∙ whole_bare (keys_of l) ms) i) (tree_placeless e) ((ap (λ p. except_of p y (assignment (tree_placeless l) (tree_placeless e) (assignments_placeless ms))) (place_bare l) ∙ except_bare y (root_place l) (assignment l e ms)) i))
    ∙ by (sets_whole (keys_of l) ms)
  where
    by : (b : Bool) → cond b (tree_placeless e) (tree_placeless (except_of (root_place l) y (assignment l e ms))) ≡ tree_placeless (cond b e (except_of (root_place l) y (assignment l e ms)))
    by true = refl
    by false = refl

-- ---- items

primes_bare : (A : Names) (x : Word) (at : Place) → primes A x nowhere ≡ option_map tree_placeless (primes A x at)
primes_bare A x at = by (A x)
  where
    by : (b : Bool) → cond b (Some (node (next x) nowhere no_trees)) None ≡ option_map tree_placeless (cond b (Some (node (next x) at no_trees)) None)
    by true = refl
    by false = refl

pub primed_bare : (A : Names) (e : Tree) → tree_placeless (primed A e) ≡ primed A (tree_placeless e)
primed_bare A e = graft_bare (primes A) (primes A) (primes_bare A) e

onto_bare : (zs js : Items) → items_placeless (onto zs js) ≡ onto (items_placeless zs) (items_placeless js)
onto_bare no_items js = refl
onto_bare (item i zs) js = ap (item (item_placeless i)) (onto_bare zs js)

filled_bare : (at : Place) (zs : Items) → items_placeless (filled at zs) ≡ filled nowhere (items_placeless zs)
filled_bare at no_items = refl
filled_bare at (item i zs) = refl

unchanged_bare : (xs : List Word) → items_placeless (unchanged_of xs) ≡ unchanged_of xs
unchanged_bare [] = refl
unchanged_bare (x ∷ xs) = refl

branch_bare : (vs : List Word) (at : Place) (body : Items) (bs cs : List Word) → items_placeless (branch_items vs at body bs cs) ≡ branch_items vs nowhere (items_placeless body) bs cs
branch_bare vs at body bs cs =
    filled_bare at (onto body (unchanged_of (left_of vs bs cs))) ∙ ap (filled nowhere) (onto_bare body (unchanged_of (left_of vs bs cs)) ∙ ap (onto (items_placeless body)) (unchanged_bare (left_of vs bs cs)))

settings_bare : (A : Names) (ms : Assignments) (ys : List Word) (rest js : Items) → items_placeless rest ≡ js → items_placeless (settings_of A ms ys rest) ≡ settings_of A (assignments_placeless ms) ys js
settings_bare A ms [] rest js e = e
settings_bare A ms (y ∷ ys) rest js e =
    λ i. item (setting y ((primed_bare A (side_of y (own y ms)) ∙ ap (primed A) (sym (side_bare y (own y ms)) ∙ ap (side_of y) (sym (own_bare y ms)))) i)) (settings_bare A ms ys rest js e i)

-- trees put in for a name
pub put_for : (self : Word) (e : Tree) (x : Word) (at : Place) → in_place_of self (tree_placeless e) x nowhere ≡ option_map tree_placeless (in_place_of self e x at)
put_for self e x at = by (bytes_eq self x)
  where
    by : (b : Bool) → cond b (Some (tree_placeless e)) None ≡ option_map tree_placeless (cond b (Some e) None)
    by true = refl
    by false = refl

module _ (g k : Graft) (same : (x : Word) (at : Place) → k x nowhere ≡ option_map tree_placeless (g x at)) where
  mutual
    item_bare : (i : Item) → item_placeless (graft_item g i) ≡ graft_item k (item_placeless i)
    item_bare (test e) = ap test (graft_bare g k same e)
    item_bare (setting x e) = ap (setting x) (graft_bare g k same e)
    item_bare (unchanged xs) = refl
    item_bare (exists x e zs) = λ i. exists x (graft_bare g k same e i) (items_bare zs i)
    item_bare (local x e zs) = λ i. local x (graft_bare g k same e i) (items_bare zs i)
    item_bare (if_then_else e a b) = λ i. if_then_else (graft_bare g k same e i) (items_bare a i) (items_bare b i)
    item_bare (any bs) = ap any (lists_bare bs)

    pub items_bare : (is : Items) → items_placeless (graft_items g is) ≡ graft_items k (items_placeless is)
    items_bare no_items = refl
    items_bare (item i zs) = λ j. item (item_bare i j) (items_bare zs j)

    lists_bare : (bs : Lists) → lists_placeless (graft_branches g bs) ≡ graft_branches k (lists_placeless bs)
    lists_bare no_lists = refl
    lists_bare (list zs bs) = λ j. list (items_bare zs j) (lists_bare bs j)

nested_bare : (A : Names) (bs : Binds) (b c : Items) → items_placeless b ≡ c → items_placeless (nested_items A bs b) ≡ nested_items A (binds_placeless bs) c
nested_bare A no_binds b c e = e
nested_bare A (one_of x f bs) b c e = λ i. item (exists x.word (primed_bare A f i) (nested_bare A bs b c e i)) no_items
nested_bare A (is x f bs) b c e = λ i. item (local x.word (primed_bare A f i) (nested_bare A bs b c e i)) no_items

old_bare : (x : Name) (e : Tree) (bs : Binds) → is_old (binds_placeless (is x e bs)) ≡ is_old (is x e bs)
old_bare x e no_binds = refl
old_bare x e (one_of y f bs) = refl
old_bare x e (is y f bs) = refl

with_bare : (b c : Bool) (x y : Items) (u w : Items) → b ≡ c → items_placeless x ≡ u → items_placeless y ≡ w → items_placeless (cond b x y) ≡ cond c u w
with_bare b c x y u w e p q = by b ∙ ap (λ d. cond d u w) e
  where
    by : (d : Bool) → items_placeless (cond d x y) ≡ cond d u w
    by true = p
    by false = q

put_bare : (A : Names) (x : Word) (e : Tree) (b c : Items) → items_placeless b ≡ c → items_placeless (put_in A x e b) ≡ put_in A x (tree_placeless e) c
put_bare A x e b c q =
    items_bare (in_place_of x (primed A e)) (in_place_of x (tree_placeless (primed A e))) (put_for x (primed A e)) b ∙ (λ i. graft_items (in_place_of x (primed_bare A e i)) (q i))

mutual
  one_written : (vs : List Word) (A : Names) (at : Place) (st : Statement) (rest js : Items) → items_placeless rest ≡ js → items_placeless (write_one vs A at st rest) ≡ write_one vs A nowhere (statement_placeless st) js
  one_written vs A at (assign ms) rest js e = settings_bare A ms (heads ms) rest js e ∙ (λ i. settings_of A (assignments_placeless ms) (sym (heads_bare ms) i) js)
  one_written vs A at (await f) rest js e = λ i. item (test (primed_bare A f i)) (e i)
  one_written vs A at (print f) rest js e = λ i. item (test (node (operator_call (codes "PrintT")) nowhere (tree (primed_bare A f i) no_trees))) (e i)
  one_written vs A at (assert f) rest js e =
      λ i. item (test (node (operator_call (codes "Assert")) nowhere (tree (primed_bare A f i) (tree (node (string (codes "Failure of assertion.")) nowhere no_trees) no_trees)))) (e i)
  one_written vs A at skip rest js e = λ i. item (test (node (truth true) nowhere no_trees)) (e i)
  one_written vs A at (branch f a b) rest js e = λ i. item (if_then_else (primed_bare A f i)
      ((branch_bare vs at (write vs A a) (assigned_in b) (assigned_in a) ∙ (λ j. branch_items vs nowhere (all_written vs A a j) (sym (all_assigned b) j) (sym (all_assigned a) j))) i)
      ((branch_bare vs at (write vs A b) (assigned_in a) (assigned_in b) ∙ (λ j. branch_items vs nowhere (all_written vs A b j) (sym (all_assigned a) j) (sym (all_assigned b) j))) i)) (e i)
  one_written vs A at (either bs) rest js e = λ i. item (any ((some_written vs A at (assigned_by bs) bs ∙ (λ j. write_some vs A nowhere (sym (some_assigned bs) j) (branches_placeless bs))) i)) (e i)
  one_written vs A at (with no_binds b) rest js e =
      λ i. item (any (list ((branch_bare vs at (write vs A b) (assigned_in b) (assigned_in b) ∙ (λ j. branch_items vs nowhere (all_written vs A b j) (sym (all_assigned b) j) (sym (all_assigned b) j))) i) no_lists)) (e i)
  one_written vs A at (with (one_of x f bs) b) rest js e =
      λ i. item (exists x.word (primed_bare A f i) (nested_bare A bs (filled at (write vs A b)) (filled nowhere (write vs A (statements_placeless b))) (filled_bare at (write vs A b) ∙ ap (filled nowhere) (all_written vs A b)) i)) (e i)
  one_written vs A at (with (is x f bs) b) rest js e =
      with_bare (is_old (is x f bs)) (is_old (binds_placeless (is x f bs))) _ _ _ _ (sym (old_bare x f bs))
      (onto_bare (put_in A x.word f (write vs A b)) rest ∙ (λ i. onto (put_bare A x.word f (write vs A b) (write vs A (statements_placeless b)) (all_written vs A b) i) (e i)))
      (λ i. item (local x.word (primed_bare A f i) (nested_bare A bs (filled at (write vs A b)) (filled nowhere (write vs A (statements_placeless b))) (filled_bare at (write vs A b) ∙ ap (filled nowhere) (all_written vs A b)) i)) (e i))
  one_written vs A at (while f b) rest js e = λ i. item (any no_lists) (e i)
  one_written vs A at (goto l) rest js e = λ i. item (any no_lists) (e i)
  one_written vs A at (macro m ts) rest js e = λ i. item (any no_lists) (e i)
  one_written vs A at (call p ts) rest js e = λ i. item (any no_lists) (e i)
  one_written vs A at return rest js e = λ i. item (any no_lists) (e i)

  pub all_written : (vs : List Word) (A : Names) (ss : Statements) → items_placeless (write vs A ss) ≡ write vs A (statements_placeless ss)
  all_written vs A done = refl
  all_written vs A (then at st rest) =
      one_written vs A at.first st (write vs (more A (assigned st)) rest) (write vs (more A (assigned st)) (statements_placeless rest)) (all_written vs (more A (assigned st)) rest)
      ∙ (λ i. write_one vs A nowhere (statement_placeless st) (write vs (more A (sym (assigned_bare st) i)) (statements_placeless rest)))
  all_written vs A (mark l k rest) = refl

  some_written : (vs : List Word) (A : Names) (at : Place) (xs : List Word) (bs : Branches) → lists_placeless (write_some vs A at xs bs) ≡ write_some vs A nowhere xs (branches_placeless bs)
  some_written vs A at xs no_branches = refl
  some_written vs A at xs (or b bs) =
      λ i. list ((branch_bare vs at (write vs A b) xs (assigned_in b) ∙ (λ j. branch_items vs nowhere (all_written vs A b j) xs (sym (all_assigned b) j))) i) (some_written vs A at xs bs i)

pub actions_bare : (vs : List Word) (ss : Statements) → items_placeless (action_items vs ss) ≡ action_items vs (statements_placeless ss)
actions_bare vs ss =
    onto_bare (write vs none ss) (unchanged_of (left_of vs vs (assigned_in ss)))
    ∙ (λ i. onto (all_written vs none ss i) ((unchanged_bare (left_of vs vs (assigned_in ss)) ∙ (λ j. unchanged_of (left_of vs vs (sym (all_assigned ss) j)))) i))
