-- Where no name that is bound matters, what is seen in statements without macro calls is the names that are used there and not bound.
use Rattle.std.proofs.Common.{◌≡◌, List, [], ◌∷◌, ◌++◌, Bool, true, false, ◌||◌, cond, bytes_eq, Some, None, refl, sym, ◌∙◌, ap, map}
use Rattle.std.specs.Option.{option_map}
use Rattle.std.specs.List.{list_any, flat_map}
use Rattle.std.proofs.lemmas.Bool.{or_parts}
use Rattle.std.proofs.lemmas.List.{map-append}
use Rattle.std.proofs.lemmas.List.Folds.{list_any-append}
use Rattle.std.proofs.Math.Bool.{or-false}
use Rattle.std.proofs.lemmas.Slice.Eq.{bytes_eq-Decides}
use Rattle.tla_token.specs.declared.place.Place.{Place}
use Rattle.tla_token.specs.Signs.{is_among}
use Rattle.tla_tree.specs.Tree.{Word, Name, Form, number, string, truth, booleans, strings, name, next, strict, operator_call, conjunction, disjunction, implication, member, if_then_else, cases, binding, local, Tree, node, Trees, no_trees, tree, words, beginnings, seen_names}
use Rattle.pcal_tree.specs.Algorithm.{Assignments, no_assignments, assignment, Binds, no_binds, one_of, is, Statement, assign, await, print, assert, skip, branch, either, with, while, goto, macro, call, return, Statements, done, then, mark, Branches, no_branches, or, Procedure}
use Rattle.pcal_tree.specs.BoundNames.{Lists, all_of, lists_of, lists_in, lists_in_all, lists_in_assignments, names_of_binds, lists_in_binds, lists_in_one, lists_in_body, lists_in_branches}
use Rattle.pcal_tree.specs.OffencesStale.{jumps_use}
use Rattle.pcal_tree.specs.Paths as path
use Rattle.pcal_tree.specs.Paths.{Path, roots, after_one, after, after_some}
use Rattle.pcal_tree.specs.Reads.{named, if_free, used, used_by_parts, used_by_all, used_by_assignments, used_by_binds}
use Rattle.pcal_tree.specs.Spots.{Spot, after_path, spots_of_one, spots, spots_of_some}
use Rattle.pcal_tree.specs.laws.MacroSpots.{Use, other, uses, uses_of_all, left_uses, uses_of_assignments, uses_of_binds, name_used, Origin, earlier, assigned, Trail, unlabelled, inside, Seen, on_trail, joined, assigning, one_end, end_of, end_of_some, one_seen, seen_in, seen_in_some, starting}
use Rattle.pcal_tree.specs.laws.BoundDefinitions.{has_one, lists_have_one}
use Rattle.pcal_tree.proofs.SetLaws.{any_flat, any_map, any_same, any_none, none_of_both, none_together}
use Rattle.pcal_tree.proofs.SpotGrafts.{no_calls}
use Rattle.pcal_tree.proofs.SpotCalls.{met, passes}

-- ---- tests

-- which words matter, and a test of what was assigned and of a name that is used, which other names don't pass
pub record Test : Type 0 where
  pub matters : Word → Bool
  pub test : Word → Name → Bool
  pub blind : (y : Word) (n : Name) → matters n.word ≡ false → test y n ≡ false

abbrev pub hit : Test → Path → Name → Bool
hit T None n = false
hit T (Some ys) n = list_any (λ y. T.test y n) ys

abbrev pub hits : Test → Spot → Bool
hits T s = hit T s.path s.name

abbrev pub origin_test : Test → Origin → Use → Bool
origin_test T earlier u = false
origin_test T (assigned y) u = T.test y (name_used u)

hit_blind : (T : Test) (p : Path) (n : Name) → T.matters n.word ≡ false → hit T p n ≡ false
hit_blind T None n e = refl
hit_blind T (Some ys) n e = any_none (λ y. T.test y n) (λ y. T.blind y n e) ys

-- ---- names that don't matter

abbrev Clear : Test → List Word → Type 0
Clear T ws = list_any T.matters ws ≡ false

abbrev Free : Test → Lists → Type 0
Free T xss = lists_have_one T.matters xss ≡ false

free_first : (T : Test) (ns : List Name) (xss : Lists) → Free T (ns ∷ xss) → (list_any (λ n. T.matters n.word) ns ≡ false) × Free T xss
free_first T ns xss e = or_parts (has_one T.matters ns) (lists_have_one T.matters xss) e

clear_words : (T : Test) (ns : List Name) → list_any (λ n. T.matters n.word) ns ≡ false → Clear T (words ns)
clear_words T ns e = any_map T.matters (λ n. n.word) ns ∙ e

clear_groups : (T : Test) (gs : Lists) → list_any (λ n. T.matters n.word) (all_of gs) ≡ false → Clear T (flat_map words gs)
clear_groups T gs e =
    any_flat T.matters words gs
    ∙ any_same (λ ns. list_any T.matters (words ns)) (λ ns. list_any (λ n. T.matters n.word) ns) (λ ns. any_map T.matters (λ n. n.word) ns) gs
    ∙ sym (any_flat (λ n. T.matters n.word) (λ (ns : List Name). ns) gs) ∙ e

among_clear : (T : Test) (ws : List Word) (x : Word) → Clear T ws → is_among ws x ≡ true → T.matters x ≡ false
among_clear T [] x c e = cc
among_clear T (w ∷ ws) x c e = by (bytes_eq w x) refl e (or_parts (T.matters w) (list_any T.matters ws) c) (among_clear T ws x)
  where
    by : (b : Bool) → bytes_eq w x ≡ b → (b || is_among ws x) ≡ true → (T.matters w ≡ false) × Clear T ws → (Clear T ws → is_among ws x ≡ true → T.matters x ≡ false) → T.matters x ≡ false
    by true h e c rest = ap T.matters (sym ((bytes_eq-Decides w x).0 h)) ∙ c.0
    by false h e c rest = rest c.1 e

-- each list of words
abbrev AllClear : Test → List (List Word) → Type 0
AllClear T wss = list_any (list_any T.matters) wss ≡ false

beginnings_clear : (T : Test) (ws : List Word) → Clear T ws → AllClear T (beginnings ws)
beginnings_clear T [] c = refl
beginnings_clear T (w ∷ ws) c =
    let h = or_parts (T.matters w) (list_any T.matters ws) c in
    any_map (list_any T.matters) (λ vs. w ∷ vs) (beginnings ws)
    ∙ any_same (λ vs. T.matters w || list_any T.matters vs) (list_any T.matters) (λ vs. ap (λ (b : Bool). b || list_any T.matters vs) h.0) (beginnings ws)
    ∙ beginnings_clear T ws h.1

none_clear : (T : Test) (gs : Lists) → AllClear T (map (λ (ns : List Name). []) gs)
none_clear T [] = refl
none_clear T (g ∷ gs) = none_clear T gs

seen_clear : (T : Test) (m : Form) → Free T (lists_of m) → AllClear T (seen_names m)
seen_clear T (binding b gs) f =
    list_any-append (list_any T.matters) (map (λ (ns : List Name). []) gs) (flat_map words gs ∷ [])
    ∙ (λ i. none_clear T gs i || (clear_groups T gs (free_first T (all_of gs) [] f).0 i || false))
seen_clear T (local ns) f = beginnings_clear T (words ns) (clear_words T ns (free_first T ns [] f).0)
seen_clear T (number k) f = refl
seen_clear T (string w) f = refl
seen_clear T (truth b) f = refl
seen_clear T booleans f = refl
seen_clear T strings f = refl
seen_clear T (name x) f = refl
seen_clear T (next w) f = refl
seen_clear T (strict o) f = refl
seen_clear T (operator_call g) f = refl
seen_clear T conjunction f = refl
seen_clear T disjunction f = refl
seen_clear T implication f = refl
seen_clear T (member b) f = refl
seen_clear T if_then_else f = refl
seen_clear T (cases b) f = refl

-- ---- expressions

abbrev Finds : Test → Path → List Name → List Use → Type 0
Finds T p ns us = list_any (hit T p) ns ≡ list_any (λ u. hit T p (name_used u)) us

finds_both : (T : Test) (p : Path) (ns ks : List Name) (us vs : List Use) → Finds T p ns us → Finds T p ks vs → Finds T p (ns ++ ks) (us ++ vs)
finds_both T p ns ks us vs e f =
    list_any-append (hit T p) ns ks ∙ (λ i. e i || f i) ∙ sym (list_any-append (λ u. hit T p (name_used u)) us vs)

if_free_finds : (T : Test) (p : Path) (xs : List Word) (n : Name) → Clear T xs → list_any (hit T p) (if_free xs n) ≡ hit T p n
if_free_finds T p xs n c = by (is_among xs n.word) refl
  where
    by : (b : Bool) → is_among xs n.word ≡ b → list_any (hit T p) (cond b [] (n ∷ [])) ≡ hit T p n
    by true e = sym (hit_blind T p n (among_clear T xs n.word c e))
    by false e = or-false (hit T p n)

mutual
  used_finds : (T : Test) (p : Path) (t : Tree) (xs : List Word) → Clear T xs → Free T (lists_in t) → Finds T p (used t xs) (uses t)
  used_finds T p (node (name x) at ts) xs c f = if_free_finds T p xs (named x at) c ∙ sym (or-false (hit T p (named x at)))
  used_finds T p (node (operator_call g) at ts) xs c f =
      finds_both T p (if_free xs (named g at)) (used_by_parts [] ts xs) (other (named g at) ∷ []) (uses_of_all ts)
      (if_free_finds T p xs (named g at) c ∙ sym (or-false (hit T p (named g at)))) (parts_find T p [] ts xs c refl f)
  used_finds T p (node (binding b gs) at ts) xs c f =
      let h = none_of_both (has_one T.matters) (lists_of (binding b gs)) (lists_in_all ts) f in parts_find T p (seen_names (binding b gs)) ts xs c (seen_clear T (binding b gs) h.0) h.1
  used_finds T p (node (local ns) at ts) xs c f =
      let h = none_of_both (has_one T.matters) (lists_of (local ns)) (lists_in_all ts) f in parts_find T p (seen_names (local ns)) ts xs c (seen_clear T (local ns) h.0) h.1
  used_finds T p (node m at ts) xs c f = parts_find T p [] ts xs c refl f

  parts_find : (T : Test) (p : Path) (wss : List (List Word)) (ts : Trees) (xs : List Word) → Clear T xs → AllClear T wss → Free T (lists_in_all ts)
      → Finds T p (used_by_parts wss ts xs) (uses_of_all ts)
  parts_find T p wss no_trees xs c a f = refl
  parts_find T p [] (tree t ts) xs c a f =
      let h = none_of_both (has_one T.matters) (lists_in t) (lists_in_all ts) f in
      finds_both T p (used t xs) (used_by_parts [] ts xs) (uses t) (uses_of_all ts) (used_finds T p t xs c h.0) (parts_find T p [] ts xs c refl h.1)
  parts_find T p (ws ∷ wss) (tree t ts) xs c a f =
      let h = none_of_both (has_one T.matters) (lists_in t) (lists_in_all ts) f in
      let k = or_parts (list_any T.matters ws) (list_any (list_any T.matters) wss) a in
      finds_both T p (used t (ws ++ xs)) (used_by_parts wss ts xs) (uses t) (uses_of_all ts)
      (used_finds T p t (ws ++ xs) (none_together T.matters ws xs k.0 c) h.0) (parts_find T p wss ts xs c k.1 h.1)

-- a left side is an expression here
left_finds : (T : Test) (p : Path) (t : Tree) → list_any (λ u. hit T p (name_used u)) (uses t) ≡ list_any (λ u. hit T p (name_used u)) (left_uses t)
left_finds T p (node (name x) at ts) = refl
left_finds T p (node m at ts) = refl

assignments_find : (T : Test) (p : Path) (ms : Assignments) (xs : List Word) → Clear T xs → Free T (lists_in_assignments ms)
    → Finds T p (used_by_assignments ms xs) (uses_of_assignments ms)
assignments_find T p no_assignments xs c f = refl
assignments_find T p (assignment l e ms) xs c f =
    let h = none_of_both (has_one T.matters) (lists_in l) (lists_in e ++ lists_in_assignments ms) f in
    let k = none_of_both (has_one T.matters) (lists_in e) (lists_in_assignments ms) h.1 in
    finds_both T p (used l xs) (used e xs ++ used_by_assignments ms xs) (left_uses l) (uses e ++ uses_of_assignments ms)
    (used_finds T p l xs c h.0 ∙ left_finds T p l)
    (finds_both T p (used e xs) (used_by_assignments ms xs) (uses e) (uses_of_assignments ms) (used_finds T p e xs c k.0) (assignments_find T p ms xs c k.1))

binds_find : (T : Test) (p : Path) (bs : Binds) (xs : List Word) → Clear T xs → has_one T.matters (names_of_binds bs) ≡ false → Free T (lists_in_binds bs)
    → Finds T p (used_by_binds bs xs) (uses_of_binds bs)
binds_find T p no_binds xs c a f = refl
binds_find T p (one_of x e bs) xs c a f =
    let h = none_of_both (has_one T.matters) (lists_in e) (lists_in_binds bs) f in
    let k = or_parts (T.matters x.word) (has_one T.matters (names_of_binds bs)) a in
    finds_both T p (used e xs) (used_by_binds bs (x.word ∷ xs)) (uses e) (uses_of_binds bs)
    (used_finds T p e xs c h.0) (binds_find T p bs (x.word ∷ xs) (λ i. k.0 i || c i) k.1 h.1)
binds_find T p (is x e bs) xs c a f =
    let h = none_of_both (has_one T.matters) (lists_in e) (lists_in_binds bs) f in
    let k = or_parts (T.matters x.word) (has_one T.matters (names_of_binds bs)) a in
    finds_both T p (used e xs) (used_by_binds bs (x.word ∷ xs)) (uses e) (uses_of_binds bs)
    (used_finds T p e xs c h.0) (binds_find T p bs (x.word ∷ xs) (λ i. k.0 i || c i) k.1 h.1)

-- ---- paths

abbrev pub traced : Path → Trail
traced p = option_map (map assigned) p

joined_traced : (p q : Path) → joined (traced p) (traced q) ≡ traced (path.joined p q)
joined_traced None q = refl
joined_traced (Some xs) None = refl
joined_traced (Some xs) (Some ys) = ap (λ (os : List Origin). Some os) (sym (map-append assigned xs ys))

again_traced : (f : Trail → Trail) (g : Path → Path) → ((q : Path) → f (traced q) ≡ traced (g q)) → (q : Path) → path.again f (traced q) ≡ traced (path.again g q)
again_traced f g h None = refl
again_traced f g h (Some xs) = h (Some xs)

rounds_traced : (f : Trail → Trail) (g : Path → Path) → ((q : Path) → f (traced q) ≡ traced (g q)) → (q : Path)
    → path.rounds joined f (traced q) ≡ traced (path.rounds path.joined g q)
rounds_traced f g h None = ap (path.again f) (h None) ∙ again_traced f g h (g None)
rounds_traced f g h (Some xs) = ap (λ (r : Trail). joined r (traced (Some xs))) (h (Some xs)) ∙ joined_traced (g (Some xs)) (Some xs)

cond_traced : (l : Bool) (p q : Path) → cond l (traced p) (traced q) ≡ traced (cond l p q)
cond_traced true p q = refl
cond_traced false p q = refl

assigning_traced : (ms : Assignments) (p : Path) → assigning ms (traced p) ≡ traced (option_map (λ xs. roots ms ++ xs) p)
assigning_traced ms None = refl
assigning_traced ms (Some xs) = ap (λ (os : List Origin). Some os) (sym (map-append assigned (roots ms) xs))

idle : (p : Path) → traced p ≡ traced (option_map (λ xs. [] ++ xs) p)
idle None = refl
idle (Some xs) = refl

mutual
  one_traced : (st : Statement) (l : Bool) (p : Path) → one_end no_calls st (starting l (traced p)) ≡ unlabelled (traced (after_one path.assigned st l p))
  one_traced (assign ms) l p = ap unlabelled (assigning_traced ms p)
  one_traced (await e) l p = ap unlabelled (idle p)
  one_traced (print e) l p = ap unlabelled (idle p)
  one_traced (assert e) l p = ap unlabelled (idle p)
  one_traced skip l p = ap unlabelled (idle p)
  one_traced (branch e a b) l p =
      ap unlabelled ((λ i. joined (list_traced a false p i) (list_traced b false p i)) ∙ joined_traced (after path.assigned a false p) (after path.assigned b false p))
  one_traced (either bs) l p = ap unlabelled (some_traced bs l p)
  one_traced (with bs b) l p = ap unlabelled (list_traced b false p)
  one_traced (while e b) l p =
      ap unlabelled
      (ap (λ (r : Trail). cond l (traced p) r)
      (rounds_traced (λ q. (end_of no_calls b (unlabelled q)).trail) (λ q. after path.assigned b false q) (λ q. list_traced b false q) p)
      ∙ cond_traced l p (path.rounds path.joined (λ q. after path.assigned b false q) p))
  one_traced (goto n) l p = refl
  one_traced (macro m ts) l p = ap unlabelled (idle p)
  one_traced (call q ts) l p = refl
  one_traced return l p = refl

  list_traced : (b : Statements) (l : Bool) (p : Path) → (end_of no_calls b (starting l (traced p))).trail ≡ traced (after path.assigned b l p)
  list_traced done l p = refl
  list_traced (then at st rest) l p =
      (λ i. (end_of no_calls rest (one_traced st l p i)).trail) ∙ list_traced rest false (after_one path.assigned st l p)
  list_traced (mark n k rest) l p = list_traced rest true (Some [])

  some_traced : (bs : Branches) (l : Bool) (p : Path) → end_of_some no_calls bs (starting l (traced p)) ≡ traced (after_some path.assigned bs p)
  some_traced no_branches l p = refl
  some_traced (or b bs) l p =
      (λ i. joined (list_traced b false p i) (some_traced bs l p i)) ∙ joined_traced (after path.assigned b false p) (after_some path.assigned bs p)

-- ---- statements

abbrev pub Sees : Test → List Spot → List Seen → Type 0
Sees T ss rs = list_any (hits T) ss ≡ list_any (passes (origin_test T)) rs

sees_both : (T : Test) (ss rs : List Spot) (us vs : List Seen) → Sees T ss us → Sees T rs vs → Sees T (ss ++ rs) (us ++ vs)
sees_both T ss rs us vs e f = list_any-append (hits T) ss rs ∙ (λ i. e i || f i) ∙ sym (list_any-append (passes (origin_test T)) us vs)

on_path : (T : Test) (p : Path) (u : Use) → hit T p (name_used u) ≡ met (origin_test T) (traced p) u
on_path T None u = refl
on_path T (Some ys) u = sym (any_map (λ o. origin_test T o u) assigned ys)

sees_on : (T : Test) (p : Path) (ns : List Name) (us : List Use) → Finds T p ns us → Sees T (after_path p ns) (on_trail (traced p) us)
sees_on T p ns us e =
    any_map (hits T) (λ n. record { name = n; path = p }) ns ∙ e
    ∙ any_same (λ u. hit T p (name_used u)) (λ u. met (origin_test T) (traced p) u) (on_path T p) us
    ∙ sym (any_map (passes (origin_test T)) (λ u. record { use_of = u; trail = traced p }) us)

others_find : (T : Test) (p : Path) (ns : List Name) → Finds T p ns (map other ns)
others_find T p ns = sym (any_map (λ u. hit T p (name_used u)) other ns)

mutual
  one_sees : (T : Test) (ps : List Procedure) (l : Bool) (p : Path) (at : Place) (st : Statement) (xs : List Word) → Clear T xs → Free T (lists_in_one st)
      → Sees T (spots_of_one (jumps_use ps) l p at st xs) (one_seen no_calls ps at st (starting l (traced p)))
  one_sees T ps l p at (assign ms) xs c f = sees_on T p (used_by_assignments ms xs) (uses_of_assignments ms) (assignments_find T p ms xs c f)
  one_sees T ps l p at (await e) xs c f = sees_on T p (used e xs) (uses e) (used_finds T p e xs c f)
  one_sees T ps l p at (print e) xs c f = sees_on T p (used e xs) (uses e) (used_finds T p e xs c f)
  one_sees T ps l p at (assert e) xs c f = sees_on T p (used e xs) (uses e) (used_finds T p e xs c f)
  one_sees T ps l p at skip xs c f = refl
  one_sees T ps l p at (branch e a b) xs c f =
      let h = none_of_both (has_one T.matters) (lists_in e) (lists_in_body a ++ lists_in_body b) f in
      let k = none_of_both (has_one T.matters) (lists_in_body a) (lists_in_body b) h.1 in
      let F = jumps_use ps in
      let A = seen_in no_calls ps a (starting false (traced p)) in
      let B = seen_in no_calls ps b (starting false (traced p)) in
      sees_both T (after_path p (used e xs)) (spots F false p a xs ++ spots F false p b xs) (on_trail (traced p) (uses e)) (A ++ B)
      (sees_on T p (used e xs) (uses e) (used_finds T p e xs c h.0))
      (sees_both T (spots F false p a xs) (spots F false p b xs) A B (list_sees T ps false p a xs c k.0) (list_sees T ps false p b xs c k.1))
  one_sees T ps l p at (either bs) xs c f = some_sees T ps l p bs xs c f
  one_sees T ps l p at (with bs b) xs c f =
      let d = or_parts (has_one T.matters (names_of_binds bs)) (lists_have_one T.matters (lists_in_binds bs ++ lists_in_body b)) f in
      let h = none_of_both (has_one T.matters) (lists_in_binds bs) (lists_in_body b) d.1 in
      let ys = words (names_of_binds bs) ++ xs in
      sees_both T (after_path p (used_by_binds bs xs)) (spots (jumps_use ps) false p b ys) (on_trail (traced p) (uses_of_binds bs)) (seen_in no_calls ps b (starting false (traced p)))
      (sees_on T p (used_by_binds bs xs) (uses_of_binds bs) (binds_find T p bs xs c d.0 h.0))
      (list_sees T ps false p b ys (none_together T.matters (words (names_of_binds bs)) xs (clear_words T (names_of_binds bs) d.0) c) h.1)
  one_sees T ps l p at (while e b) xs c f =
      let h = none_of_both (has_one T.matters) (lists_in e) (lists_in_body b) f in
      let F = jumps_use ps in
      let r = after_one path.assigned (while e b) l p in
      sees_both T (after_path r (used e xs)) (spots F false r b xs) (on_trail (traced r) (uses e)) (seen_in no_calls ps b (starting false (traced r)))
      (sees_on T r (used e xs) (uses e) (used_finds T r e xs c h.0)) (list_sees T ps false r b xs c h.1)
      ∙ sym (λ i. list_any (passes (origin_test T)) (on_trail (one_traced (while e b) l p i).trail (uses e) ++ seen_in no_calls ps b (inside (one_traced (while e b) l p i))))
  one_sees T ps l p at (goto n) xs c f =
      let ns = jumps_use ps at (goto n) in sees_on T p ns (map other ns) (others_find T p ns)
  one_sees T ps l p at (macro m ts) xs c f = sees_on T p (used_by_all ts xs) (uses_of_all ts) (parts_find T p [] ts xs c refl f)
  one_sees T ps l p at (call q ts) xs c f =
      let ns = jumps_use ps at (call q ts) in
      sees_on T p (used_by_all ts xs ++ ns) (uses_of_all ts ++ map other ns)
      (finds_both T p (used_by_all ts xs) ns (uses_of_all ts) (map other ns) (parts_find T p [] ts xs c refl f) (others_find T p ns))
  one_sees T ps l p at return xs c f = refl

  pub list_sees : (T : Test) (ps : List Procedure) (l : Bool) (p : Path) (b : Statements) (xs : List Word) → Clear T xs → Free T (lists_in_body b)
      → Sees T (spots (jumps_use ps) l p b xs) (seen_in no_calls ps b (starting l (traced p)))
  list_sees T ps l p done xs c f = refl
  list_sees T ps l p (then at st rest) xs c f =
      let h = none_of_both (has_one T.matters) (lists_in_one st) (lists_in_body rest) f in
      let r = after_one path.assigned st l p in
      sees_both T (spots_of_one (jumps_use ps) l p at.first st xs) (spots (jumps_use ps) false r rest xs) (one_seen no_calls ps at.first st (starting l (traced p))) (seen_in no_calls ps rest (starting false (traced r)))
      (one_sees T ps l p at.first st xs c h.0) (list_sees T ps false r rest xs c h.1)
      ∙ sym (λ i. list_any (passes (origin_test T)) (one_seen no_calls ps at.first st (starting l (traced p)) ++ seen_in no_calls ps rest (one_traced st l p i)))
  list_sees T ps l p (mark n k rest) xs c f = list_sees T ps true (Some []) rest xs c f

  some_sees : (T : Test) (ps : List Procedure) (l : Bool) (p : Path) (bs : Branches) (xs : List Word) → Clear T xs → Free T (lists_in_branches bs)
      → Sees T (spots_of_some (jumps_use ps) p bs xs) (seen_in_some no_calls ps bs (starting l (traced p)))
  some_sees T ps l p no_branches xs c f = refl
  some_sees T ps l p (or b bs) xs c f =
      let h = none_of_both (has_one T.matters) (lists_in_body b) (lists_in_branches bs) f in
      sees_both T (spots (jumps_use ps) false p b xs) (spots_of_some (jumps_use ps) p bs xs) (seen_in no_calls ps b (starting false (traced p))) (seen_in_some no_calls ps bs (starting l (traced p)))
      (list_sees T ps false p b xs c h.0) (some_sees T ps l p bs xs c h.1)
