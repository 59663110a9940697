-- What expressions offend, part by part.
use Rattle.std.proofs.Common.{◌≡◌, ℕ, zero, suc, ◌+◌, ◌<◌, ◌≤◌, Bool, true, List, [], ◌∷◌, ◌++◌, length, take, drop, get_or, Vec, Global, refl, sym, ap, ◌∙◌, subst, arith, append-nil, append_assoc}
use Rattle.std.specs.List.{flat_map}
use Rattle.std.proofs.lemmas.List.{drop_more, drop_all}
use Rattle.std.proofs.lemmas.Grind.{flat_map-append}
use Rattle.tla_token.specs.declared.rule.Refusal.{Refusal}
use Rattle.tla_tree.specs.Tree.{Word, Name, Form, binding, local, Tree, Trees, no_trees, tree, seen_names}
use Rattle.tla_tree.specs.declared.op.Binder.{Binder}
use Rattle.tla_tree.specs.Shapes.{Shaped}
use Rattle.tla_tree.specs.Pool.{Entry, at, trees_at, tree_in}
use Rattle.tla_pool.specs.FormOf.{groups_of}
use Rattle.algorithm_limits.specs.DepthsIn.{seen_by, seen_next, Hides}
use Rattle.algorithm_limits.specs.Literals.{are_literals}
use Rattle.algorithm_limits.proofs.BoundLemmas.{hides_none, hides_then, hides_as, first_kept, seen_first, seen_more}
use Rattle.algorithm_limits.proofs.LiteralLaws.{each_literal, first_literal, more_literals}
use Rattle.outside_reading.specs.TreeDepth.{first_names, more_names}
use Rattle.module_outside.proofs.DepthLaws.{part_sees}
use Rattle.pcal_tree.specs.BoundNames.{all_of}
use Rattle.pcal_tree.specs.Offences.{first}
use Rattle.pcal_tree.specs.OffencesRebind.{Standings, naming, rebound, rebound_all, form_rebinds, tree_rebinds, parts_rebind}
use Rattle.declared_rules.specs.declared.sight.Sight.{Sight}
use Rattle.declared_rules.specs.declared.bind_walk.Walk.{Walk}
use Rattle.declared_rules.specs.Telling.{told, Seen, Adds, AddsParts}
use Rattle.declared_rules.proofs.TellLaws.{first_same_after, first_then, seen_kept, adds_as}
use Rattle.declared_rules.proofs.TellLaws as tell

-- ---- a form

pub each_group : (ms : List Word) (r : Standings) (gs : List (Vec Name Global)) → flat_map (λ (g : Vec Name Global). rebound_all ms r g.items) gs ≡ rebound_all ms r (all_of (groups_of gs))
each_group ms r [] = refl
each_group ms r (g ∷ gs) = ap (λ (rs : List Refusal). rebound_all ms r g.items ++ rs) (each_group ms r gs) ∙ sym (flat_map-append (rebound ms r) g.items (all_of (groups_of gs)))

module _ (g : Sight) (K : Word → Bool) (j k : Walk) where
  alone : (f : Form) (ns : List Name) → ((ms : List Word) (r : Standings) → form_rebinds ms K r f ≡ rebound_all ms r (ns ++ []) ++ []) → Adds g K j k (λ ms r. rebound_all ms r ns) → Adds g K j k (λ ms r. form_rebinds ms K r f)
  alone f ns e a = adds_as g K j k _ _ (λ ms r. sym (e ms r ∙ append-nil (rebound_all ms r (ns ++ [])) ∙ ap (rebound_all ms r) (append-nil ns))) a

  pub binding_adds : (f : Form) (b : Binder) (gs : List (List Name)) → f ≡ binding b gs → Adds g K j k (λ ms r. rebound_all ms r (all_of gs)) → Adds g K j k (λ ms r. form_rebinds ms K r f)
  binding_adds f b gs e a = alone f (all_of gs) (λ ms r. ap (form_rebinds ms K r) e) a

  pub local_adds : (f : Form) (ns : List Name) → f ≡ local ns → Adds g K j k (λ ms r. rebound_all ms r ns) → Adds g K j k (λ ms r. form_rebinds ms K r f)
  local_adds f ns e a = alone f ns (λ ms r. ap (form_rebinds ms K r) e) a

-- ---- the parts of a form

part_first : (ms : List Word) (K : Word → Bool) (names : List (List Word)) (t : Tree) (ts : Trees) (r : Standings)
    → parts_rebind ms K names (tree t ts) r ≡ tree_rebinds ms K t (naming (first_names names) r) ++ parts_rebind ms K (more_names names) ts r
part_first ms K [] t ts r = refl
part_first ms K (ys ∷ names) t ts r = refl

more_dropped : (names : List (List Word)) (i : ℕ) → more_names (drop i names) ≡ drop (suc i) names
more_dropped [] zero = refl
more_dropped [] (suc i) = refl
more_dropped (xs ∷ names) zero = refl
more_dropped (xs ∷ names) (suc i) = more_dropped names i

abbrev pub parts_from : List Word → (Word → Bool) → Form → List Tree → List ℕ → ℕ → Standings → List Refusal
parts_from ms K m ts ids i r = parts_rebind ms K (drop i (seen_names m)) (trees_at ts (drop i ids)) r

part_met : (ms : List Word) (K : Word → Bool) (m : Form) (ts : List Tree) (ids : List ℕ) (i e : ℕ) (r : Standings) → e ≡ get_or ids i e → i < length ids → Shaped m (length ids)
    → parts_from ms K m ts ids i r ≡ tree_rebinds ms K (at ts e) (naming (seen_by m i) r) ++ parts_from ms K m ts ids (i + 1) r
part_met ms K m ts ids i e r is l s =
    ap (λ (js : List ℕ). parts_rebind ms K (drop i (seen_names m)) (trees_at ts js) r) (drop_more ids i e l ∙ ap (λ (z : ℕ). z ∷ drop (i + 1) ids) (sym is))
    ∙ part_first ms K (drop i (seen_names m)) (at ts e) (trees_at ts (drop (i + 1) ids)) r
    ∙ (λ j. tree_rebinds ms K (at ts e) (naming (part_sees m (length ids) i s l j) r)
    ++ parts_rebind ms K ((more_dropped (seen_names m) i ∙ ap (λ (n : ℕ). drop n (seen_names m)) (next i)) j) (trees_at ts (drop (i + 1) ids)) r)
  where
    next : (i : ℕ) → suc i ≡ i + 1
    next i = omega arith

parts_end : (ms : List Word) (K : Word → Bool) (m : Form) (ts : List Tree) (ids : List ℕ) (i : ℕ) (r : Standings) → length ids ≤ i → parts_from ms K m ts ids i r ≡ []
parts_end ms K m ts ids i r l = ap (λ (js : List ℕ). parts_rebind ms K (drop i (seen_names m)) (trees_at ts js) r) (drop_all i ids l) ∙ none (drop i (seen_names m))
  where
    none : (names : List (List Word)) → parts_rebind ms K names no_trees r ≡ []
    none [] = refl
    none (ys ∷ names) = refl

-- in the loop
pub record MetParts (g : Sight) (K : Word → Bool) (old now : Walk) (m : Form) (ts : List Tree) (ids : List ℕ) (i : ℕ) : Type 0 where
  pub bound : Hides old.bound now.bound (seen_by m i)
  pub tells : (ms : List Word) (s r : Standings) → Seen g K old ms s r → first (told ms now s ++ parts_from ms K m ts ids i r) ≡ first (told ms old s ++ parts_rebind ms K (seen_names m) (trees_at ts ids) r)

pub parts_start : (g : Sight) (K : Word → Bool) (u : Walk) (m : Form) (ts : List Tree) (ids : List ℕ) → MetParts g K u u m ts ids 0
parts_start g K u m ts ids = record { bound = hides_as u.bound u.bound [] (seen_by m 0) (sym (seen_first m)) (hides_none u.bound); tells = λ ms s r q. refl }

pub parts_more : (g : Sight) (K : Word → Bool) (old now met next : Walk) (m : Form) (ts : List Tree) (ids : List ℕ) (i e : ℕ) → e ≡ get_or ids i e → i < length ids → Shaped m (length ids)
    → Adds g K now met (λ ms r. tree_rebinds ms K (at ts e) r) → next.first ≡ met.first → next.free ≡ met.free → Hides met.bound next.bound (seen_next m i) → MetParts g K old now m ts ids i → MetParts g K old next m ts ids (i + 1)
parts_more g K old now met next m ts ids i e is l s a same free k h = record {
  bound = hides_as old.bound next.bound _ _ (seen_more m i)
      (hides_then old.bound now.bound next.bound (seen_by m i) (seen_next m i) h.bound (subst (λ (b : List Word). Hides b next.bound (seen_next m i)) a.bound k));
  tells = λ ms z r q.
      let here = tree_rebinds ms K (at ts e) (naming (seen_by m i) r) in
      let more = parts_from ms K m ts ids (i + 1) r in
      (λ j. first (told ms (record { bound = next.bound; first = same j; free = free j }) z ++ more))
      ∙ first_same_after (told ms met z) (told ms now z ++ here) more (a.tells ms z (naming (seen_by m i) r) (tell.seen_more g K old now ms (seen_by m i) z r h.bound q))
      ∙ ap first (append_assoc (told ms now z) here more ∙ ap (λ (rs : List Refusal). told ms now z ++ rs) (sym (part_met ms K m ts ids i e r is l s)))
      ∙ h.tells ms z r q;
}

-- a literal binds no name
literals_left : (ms : List Word) (K : Word → Bool) (m : Form) (ts : List Tree) (ids : List ℕ) (i : ℕ) (r : Standings) → are_literals (trees_at ts (drop i ids)) ≡ true → parts_from ms K m ts ids i r ≡ []
literals_left ms K m ts ids i r e = none (drop i (seen_names m)) (trees_at ts (drop i ids)) e
  where
    none : (names : List (List Word)) (us : Trees) → are_literals us ≡ true → parts_rebind ms K names us r ≡ []
    none [] no_trees e = refl
    none (ys ∷ names) no_trees e = refl
    none names (tree u us) e =
        part_first ms K names u us r
        ∙ (λ j. each_literal (λ t. tree_rebinds ms K t (naming (first_names names) r) ≡ []) (λ n p. refl) (λ w p. refl) (λ b p. refl) (λ p. refl) (λ p. refl) u (first_literal u us e) j
        ++ none (more_names names) us (more_literals u us e) j)

pub parts_cut : (g : Sight) (K : Word → Bool) (old now met : Walk) (m : Form) (ts : List Tree) (ids : List ℕ) (i e : ℕ) → e ≡ get_or ids i e → i < length ids → Shaped m (length ids)
    → Adds g K now met (λ ms r. tree_rebinds ms K (at ts e) r) → are_literals (trees_at ts (drop (i + 1) ids)) ≡ true → MetParts g K old now m ts ids i
    → AddsParts g K old met (λ ms r. parts_rebind ms K (seen_names m) (trees_at ts ids) r)
parts_cut g K old now met m ts ids i e is l s a lit h = record {
  bound = ap (take (length old.bound)) a.bound ∙ first_kept old.bound now.bound (seen_by m i) h.bound;
  tells = λ ms z r q.
      let here = tree_rebinds ms K (at ts e) (naming (seen_by m i) r) in
      a.tells ms z (naming (seen_by m i) r) (tell.seen_more g K old now ms (seen_by m i) z r h.bound q)
      ∙ ap (λ (rs : List Refusal). first (told ms now z ++ rs))
      (sym (append-nil here) ∙ ap (λ (rs : List Refusal). here ++ rs) (sym (literals_left ms K m ts ids (i + 1) r lit)) ∙ sym (part_met ms K m ts ids i e r is l s))
      ∙ h.tells ms z r q;
}

pub parts_done : (g : Sight) (K : Word → Bool) (old now : Walk) (m : Form) (ts : List Tree) (ids : List ℕ) (i : ℕ) → length ids ≤ i → MetParts g K old now m ts ids i
    → AddsParts g K old now (λ ms r. parts_rebind ms K (seen_names m) (trees_at ts ids) r)
parts_done g K old now m ts ids i l h = record {
  bound = first_kept old.bound now.bound (seen_by m i) h.bound;
  tells = λ ms s r q. ap first (sym (append-nil (told ms now s)) ∙ ap (λ (rs : List Refusal). told ms now s ++ rs) (sym (parts_end ms K m ts ids i r l))) ∙ h.tells ms s r q;
}

pub node_adds : (g : Sight) (K : Word → Bool) (old met parts last : Walk) (n : Entry) (ts : List Tree) (e : ℕ) → at ts e ≡ tree_in ts n → Adds g K old met (λ ms r. form_rebinds ms K r n.form)
    → AddsParts g K met parts (λ ms r. parts_rebind ms K (seen_names n.form) (trees_at ts n.parts) r) → last.first ≡ parts.first → last.free ≡ parts.free → last.bound ≡ take (length met.bound) parts.bound
    → Adds g K old last (λ ms r. tree_rebinds ms K (at ts e) r)
node_adds g K old met parts last n ts e is a p same free kept = record {
  bound = kept ∙ p.bound ∙ a.bound;
  tells = λ ms s r q.
      (λ i. first (told ms (record { bound = last.bound; first = same i; free = free i }) s))
      ∙ first_then (told ms met s) (told ms old s) (form_rebinds ms K r n.form) (parts_rebind ms K (seen_names n.form) (trees_at ts n.parts) r) (told ms parts s) (a.tells ms s r q) (p.tells ms s r (seen_kept g K old met ms s r a.bound q))
      ∙ ap (λ (t : Tree). first (told ms old s ++ tree_rebinds ms K t r)) (sym is);
}

-- ---- expressions in a row

pub each_is : (ms : List Word) (K : Word → Bool) (ts : List Tree) (es : List ℕ) (r : Standings) → flat_map (λ e. tree_rebinds ms K (at ts e) r) es ≡ parts_rebind ms K [] (trees_at ts es) r
each_is ms K ts [] r = refl
each_is ms K ts (e ∷ es) r = ap (λ (rs : List Refusal). tree_rebinds ms K (at ts e) r ++ rs) (each_is ms K ts es r)
