-- Names that are met one after another.
use Rattle.std.proofs.Common.{◌≡◌, ℕ, zero, suc, ◌+◌, ◌<◌, ◌≤◌, Bool, true, false, not, ◌&&◌, bytes_eq, List, [], ◌∷◌, ◌++◌, length, take, drop, map, get_or, refl, sym, ap, ◌∙◌, subst, arith, cond, append-nil, append_assoc}
use Rattle.std.specs.Prelude.{◌==◌, codes}
use Rattle.std.specs.List.{list_any}
use Rattle.std.specs.Cmp.Lexicographic.{pointwise}
use Rattle.std.proofs.lemmas.List.{drop_more, drop_all, length-map}
use Rattle.std.proofs.lemmas.Grind.{flat_map-append}
use Rattle.tla_token.specs.Signs.{is_among}
use Rattle.tla_token.specs.declared.place.Place.{Place}
use Rattle.tla_tree.specs.Tree.{Word, Form, name, operator_call, Tree, Trees, no_trees, tree, seen_names}
use Rattle.tla_tree.specs.TreeOf.{trees_from}
use Rattle.tla_tree.specs.Shapes.{Shaped}
use Rattle.tla_tree.specs.Pool.{Entry, at, trees_at, tree_in}
use Rattle.pcal_tree.specs.Algorithm.{Name}
use Rattle.pcal_tree.specs.Reads.{named, if_free, used_by_form, used, used_by_parts}
use Rattle.algorithm_limits.specs.DepthsIn.{seen_by, seen_next, Hides}
use Rattle.algorithm_limits.specs.Literals.{are_literals}
use Rattle.algorithm_limits.proofs.BoundLemmas.{hides_none, hides_then, hides_as, first_kept, seen_first, seen_more}
use Rattle.algorithm_limits.proofs.LiteralLaws.{each_literal, first_literal, more_literals}
use Rattle.outside_reading.specs.TreeDepth.{first_names, more_names}
use Rattle.module_outside.specs.SightIn.{Binds}
use Rattle.module_outside.proofs.SightLaws.{binds_more}
use Rattle.module_outside.proofs.DepthLaws.{part_sees}
use Rattle.read_rules.specs.declared.used.Used.{Used}
use Rattle.read_rules.specs.Using.{if_self, kept, own_names, Adds, AddsParts}

-- ---- one name

free_met : (b : Bool) (hs xs : List Word) (x : Word) (p : Place) → b ≡ list_any (pointwise ◌==◌ x) hs → Binds hs xs → cond b [] (named x p ∷ []) ≡ if_free xs (named x p)
free_met b hs xs x p e h = ap (λ (c : Bool). cond c [] (named x p ∷ [])) (e ∙ h x)

-- ---- what is kept

pub kept_none : (only : Bool) → kept only [] ≡ []
kept_none true = refl
kept_none false = refl

pub kept_both : (only : Bool) (ns ms : List Name) → kept only (ns ++ ms) ≡ kept only ns ++ kept only ms
kept_both true ns ms = flat_map-append if_self ns ms
kept_both false ns ms = refl

-- one name that isn't skipped, and one that is
kept_own : (only is_own is_bound : Bool) (n : Name) → bytes_eq (codes "self") n.word ≡ is_own → (only && not is_own) ≡ false → cond is_bound [] (n ∷ []) ≡ kept only (cond is_bound [] (n ∷ []))
kept_own false b c n e h = refl
kept_own true b true n e h = refl
kept_own true true false n e h = ap (λ (b : Bool). cond b (n ∷ []) [] ++ []) (sym e)
kept_own true false false n e h = cc

kept_skipped : (only is_own is_bound : Bool) (n : Name) → bytes_eq (codes "self") n.word ≡ is_own → (only && not is_own) ≡ true → [] ≡ kept only (cond is_bound [] (n ∷ []))
kept_skipped false b c n e h = cc
kept_skipped true true c n e h = cc
kept_skipped true false true n e h = refl
kept_skipped true false false n e h = ap (λ (b : Bool). cond b (n ∷ []) [] ++ []) (sym e)

pub skipped_met : (u : Used) (x : Word) (p : Place) (skips : Bool) → skips ≡ (u.only_self && not (bytes_eq (codes "self") x)) → skips ≡ true → Adds u u (λ xs. if_free xs (named x p))
skipped_met u x p skips e h = record {
  only = refl;
  bound = refl;
  meets = λ xs b.
      sym (append-nil u.names.items)
      ∙ ap (λ (ns : List Name). u.names.items ++ ns) (kept_skipped u.only_self (bytes_eq (codes "self") x) (is_among xs x) (named x p) refl (sym e ∙ h));
}

pub name_met : (u : Used) (x : Word) (p : Place) (skips is_bound : Bool) (next : Used) → skips ≡ (u.only_self && not (bytes_eq (codes "self") x)) → skips ≡ false → is_bound ≡ list_any (pointwise ◌==◌ x) u.bound
    → next.only_self ≡ u.only_self → next.bound ≡ u.bound → next.names.items ≡ u.names.items ++ cond is_bound [] (named x p ∷ []) → Adds u next (λ xs. if_free xs (named x p))
name_met u x p skips is_bound next e h k only bound items = record {
  only = only;
  bound = bound;
  meets = λ xs b.
      items
      ∙ ap (λ (ns : List Name). u.names.items ++ ns)
      (free_met is_bound u.bound xs x p k b ∙ kept_own u.only_self (bytes_eq (codes "self") x) (is_among xs x) (named x p) refl (sym e ∙ h));
}

-- ---- a node

pub own_first : (m : Form) (p : Place) (us : List Tree) (xs : List Word) → Shaped m (length us)
    → used_by_form m p xs (used_by_parts (seen_names m) (trees_from us) xs) ≡ own_names m p xs ++ used_by_parts (seen_names m) (trees_from us) xs
own_first (name x) p [] xs s = sym (append-nil (if_free xs (named x p)))
own_first (name x) p (u ∷ us) xs s = absurd (omega (arith, s))
own_first (operator_call f) p us xs s = refl
own_first m p us xs s = refl

-- ---- the parts of a form

part_first : (names : List (List Word)) (t : Tree) (ts : Trees) (xs : List Word) → used_by_parts names (tree t ts) xs ≡ used t (first_names names ++ xs) ++ used_by_parts (more_names names) ts xs
part_first [] t ts xs = refl
part_first (ys ∷ names) t ts xs = refl

more_dropped : (names : List (List Word)) (i : ℕ) → more_names (drop i names) ≡ drop (suc i) names
more_dropped [] zero = refl
more_dropped [] (suc i) = refl
more_dropped (xs ∷ names) zero = refl
more_dropped (xs ∷ names) (suc i) = more_dropped names i

abbrev pub parts_from : Form → List Tree → List ℕ → ℕ → List Word → List Name
parts_from m ts ids i xs = used_by_parts (drop i (seen_names m)) (trees_at ts (drop i ids)) xs

pub part_met : (m : Form) (ts : List Tree) (ids : List ℕ) (i e : ℕ) (xs : List Word) → e ≡ get_or ids i e → i < length ids → Shaped m (length ids)
    → parts_from m ts ids i xs ≡ used (at ts e) (seen_by m i ++ xs) ++ parts_from m ts ids (i + 1) xs
part_met m ts ids i e xs is l s =
    ap (λ (js : List ℕ). used_by_parts (drop i (seen_names m)) (trees_at ts js) xs) (drop_more ids i e l ∙ ap (λ (z : ℕ). z ∷ drop (i + 1) ids) (sym is))
    ∙ part_first (drop i (seen_names m)) (at ts e) (trees_at ts (drop (i + 1) ids)) xs
    ∙ (λ j. used (at ts e) (part_sees m (length ids) i s l j ++ xs) ++ used_by_parts ((more_dropped (seen_names m) i ∙ ap (λ (n : ℕ). drop n (seen_names m)) (next i)) j) (trees_at ts (drop (i + 1) ids)) xs)
  where
    next : (i : ℕ) → suc i ≡ i + 1
    next i = omega arith

pub parts_end : (m : Form) (ts : List Tree) (ids : List ℕ) (i : ℕ) (xs : List Word) → length ids ≤ i → parts_from m ts ids i xs ≡ []
parts_end m ts ids i xs l = ap (λ (js : List ℕ). used_by_parts (drop i (seen_names m)) (trees_at ts js) xs) (drop_all i ids l) ∙ none (drop i (seen_names m))
  where
    none : (names : List (List Word)) → used_by_parts names no_trees xs ≡ []
    none [] = refl
    none (ys ∷ names) = refl

-- in the loop
pub record MetParts (old now : Used) (m : Form) (ts : List Tree) (ids : List ℕ) (i : ℕ) : Type 0 where
  pub only : now.only_self ≡ old.only_self
  pub bound : Hides old.bound now.bound (seen_by m i)
  pub meets : (xs : List Word) → Binds old.bound xs → now.names.items ++ kept old.only_self (parts_from m ts ids i xs) ≡ old.names.items ++ kept old.only_self (used_by_parts (seen_names m) (trees_at ts ids) xs)

pub parts_start : (u : Used) (m : Form) (ts : List Tree) (ids : List ℕ) → MetParts u u m ts ids 0
parts_start u m ts ids = record { only = refl; bound = hides_as u.bound u.bound [] (seen_by m 0) (sym (seen_first m)) (hides_none u.bound); meets = λ xs b. refl }

pub parts_more : (old now met next : Used) (m : Form) (ts : List Tree) (ids : List ℕ) (i e : ℕ) → e ≡ get_or ids i e → i < length ids → Shaped m (length ids)
    → Adds now met (used (at ts e)) → next.only_self ≡ met.only_self → next.names.items ≡ met.names.items → Hides met.bound next.bound (seen_next m i) → MetParts old now m ts ids i → MetParts old next m ts ids (i + 1)
parts_more old now met next m ts ids i e is l s a own same k h = record {
  only = own ∙ a.only ∙ h.only;
  bound = hides_as old.bound next.bound _ _ (seen_more m i)
      (hides_then old.bound now.bound next.bound (seen_by m i) (seen_next m i) h.bound (subst (λ (b : List Word). Hides b next.bound (seen_next m i)) a.bound k));
  meets = λ xs b.
      let o = old.only_self in
      let here = used (at ts e) (seen_by m i ++ xs) in
      let more = parts_from m ts ids (i + 1) xs in
      ap (λ (ns : List Name). ns ++ kept o more)
      (same ∙ a.meets (seen_by m i ++ xs) (binds_more old.bound now.bound (seen_by m i) xs b h.bound) ∙ ap (λ (only : Bool). now.names.items ++ kept only here) h.only)
      ∙ append_assoc now.names.items (kept o here) (kept o more)
      ∙ ap (λ (ns : List Name). now.names.items ++ ns) (sym (kept_both o here more) ∙ ap (kept o) (sym (part_met m ts ids i e xs is l s)))
      ∙ h.meets xs b;
}

-- a literal uses no name
literals_left : (m : Form) (ts : List Tree) (ids : List ℕ) (i : ℕ) (xs : List Word) → are_literals (trees_at ts (drop i ids)) ≡ true → parts_from m ts ids i xs ≡ []
literals_left m ts ids i xs e = none (drop i (seen_names m)) (trees_at ts (drop i ids)) e
  where
    none : (names : List (List Word)) (us : Trees) → are_literals us ≡ true → used_by_parts names us xs ≡ []
    none [] no_trees e = refl
    none (ys ∷ names) no_trees e = refl
    none names (tree u us) e =
        part_first names u us xs
        ∙ (λ j. each_literal (λ t. used t (first_names names ++ xs) ≡ []) (λ n p. refl) (λ w p. refl) (λ b p. refl) (λ p. refl) (λ p. refl) u (first_literal u us e) j
        ++ none (more_names names) us (more_literals u us e) j)

pub parts_cut : (old now met : Used) (m : Form) (ts : List Tree) (ids : List ℕ) (i e : ℕ) → e ≡ get_or ids i e → i < length ids → Shaped m (length ids) → Adds now met (used (at ts e))
    → are_literals (trees_at ts (drop (i + 1) ids)) ≡ true → MetParts old now m ts ids i → AddsParts old met (used_by_parts (seen_names m) (trees_at ts ids))
parts_cut old now met m ts ids i e is l s a lit h = record {
  only = a.only ∙ h.only;
  bound = ap (take (length old.bound)) a.bound ∙ first_kept old.bound now.bound (seen_by m i) h.bound;
  meets = λ xs b.
      let o = old.only_self in
      let here = used (at ts e) (seen_by m i ++ xs) in
      a.meets (seen_by m i ++ xs) (binds_more old.bound now.bound (seen_by m i) xs b h.bound)
      ∙ ap (λ (only : Bool). now.names.items ++ kept only here) h.only
      ∙ ap (λ (ns : List Name). now.names.items ++ kept o ns) (sym (append-nil here) ∙ ap (λ (ns : List Name). here ++ ns) (sym (literals_left m ts ids (i + 1) xs lit)) ∙ sym (part_met m ts ids i e xs is l s))
      ∙ h.meets xs b;
}

pub parts_done : (old now : Used) (m : Form) (ts : List Tree) (ids : List ℕ) (i : ℕ) → length ids ≤ i → MetParts old now m ts ids i → AddsParts old now (used_by_parts (seen_names m) (trees_at ts ids))
parts_done old now m ts ids i l h = record {
  only = h.only;
  bound = first_kept old.bound now.bound (seen_by m i) h.bound;
  meets = λ xs b.
      sym (append-nil now.names.items)
      ∙ ap (λ (ns : List Name). now.names.items ++ ns) (sym (kept_none old.only_self) ∙ ap (kept old.only_self) (sym (parts_end m ts ids i xs l)))
      ∙ h.meets xs b;
}

pub node_met : (old met parts last : Used) (n : Entry) (ts : List Tree) (e : ℕ) → at ts e ≡ tree_in ts n → Shaped n.form (length n.parts) → Adds old met (own_names n.form n.place)
    → AddsParts met parts (used_by_parts (seen_names n.form) (trees_at ts n.parts)) → last.only_self ≡ parts.only_self → last.names.items ≡ parts.names.items → last.bound ≡ take (length met.bound) parts.bound
    → Adds old last (used (at ts e))
node_met old met parts last n ts e is s a p own same cut = record {
  only = own ∙ p.only ∙ a.only;
  bound = cut ∙ p.bound ∙ a.bound;
  meets = λ xs b.
      let o = old.only_self in
      let mine = own_names n.form n.place xs in
      let theirs = used_by_parts (seen_names n.form) (trees_at ts n.parts) xs in
      same ∙ p.meets xs (subst (λ (hs : List Word). Binds hs xs) (sym a.bound) b)
      ∙ (λ i. a.meets xs b i ++ kept (a.only i) theirs)
      ∙ append_assoc old.names.items (kept o mine) (kept o theirs)
      ∙ ap (λ (ns : List Name). old.names.items ++ ns)
      (sym (kept_both o mine theirs)
      ∙ ap (kept o) (sym (own_first n.form n.place (map (at ts) n.parts) xs (subst (λ (c : ℕ). Shaped n.form c) (sym (length-map n.parts (at ts))) s)) ∙ ap (λ (t : Tree). used t xs) (sym is)));
}
