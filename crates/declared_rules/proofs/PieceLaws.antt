-- What trees bring, gathered part by part.
use Rattle.std.proofs.Common.{◌≡◌, ℕ, zero, suc, ◌+◌, ◌<◌, ◌≤◌, Bool, true, false, List, [], ◌∷◌, ◌++◌, length, take, drop, map, get_or, Vec, Global, refl, sym, ap, ◌∙◌, subst, arith, cond, append-nil, append_assoc}
use Rattle.std.specs.Prelude.{◌==◌}
use Rattle.std.specs.List.{list_any, flat_map}
use Rattle.std.specs.Cmp.Lexicographic.{pointwise}
use Rattle.std.proofs.lemmas.List.{drop_more, drop_all, take_more, map-append}
use Rattle.tla_tree.specs.Tree.{Word, Name, Form, binding, local, Tree, Trees, no_trees, tree, seen_names}
use Rattle.tla_tree.specs.declared.op.Binder.{Binder}
use Rattle.tla_tree.specs.Shapes.{Shaped}
use Rattle.tla_tree.specs.Pool.{Entry, at, trees_at, tree_in}
use Rattle.tla_pool.specs.FormOf.{groups_of}
use Rattle.algorithm_limits.specs.DepthsIn.{seen_by, seen_next, Hides}
use Rattle.algorithm_limits.proofs.BoundLemmas.{hides_none, hides_then, hides_as, first_kept, seen_first, seen_more}
use Rattle.outside_reading.specs.TreeDepth.{first_names, more_names}
use Rattle.module_outside.specs.SightIn.{Binds}
use Rattle.module_outside.proofs.SightLaws.{binds_more}
use Rattle.module_outside.proofs.DepthLaws.{part_sees}
use Rattle.pcal_tree.specs.BoundNames.{all_of}
use Rattle.pcal_tree.specs.OffencesRebind.{Piece, binds, frees, free_piece, pieces, pieces_in}
use Rattle.declared_rules.specs.declared.pieces.Piece as declared
use Rattle.declared_rules.specs.declared.pieces.Pieces.{Pieces}
use Rattle.declared_rules.specs.Gathering.{piece_of, list_of, each_pieces, own_pieces, form_pieces, Gathers, GathersParts}

-- ---- one after another

pub gathers_none : (u : Pieces) → Gathers u u (λ xs. [])
gathers_none u = record { bound = refl; meets = λ xs b. sym (append-nil (list_of u.list.items)) }

pub gathers_as : (j k : Pieces) (f g : List Word → List Piece) → ((xs : List Word) → f xs ≡ g xs) → Gathers j k f → Gathers j k g
gathers_as j k f g e a = record { bound = a.bound; meets = λ xs b. a.meets xs b ∙ ap (λ (ns : List Piece). list_of j.list.items ++ ns) (e xs) }

pub gathers_then : (j k l : Pieces) (f g : List Word → List Piece) → Gathers j k f → Gathers k l g → Gathers j l (λ xs. f xs ++ g xs)
gathers_then j k l f g a h = record {
  bound = h.bound ∙ a.bound;
  meets = λ xs b.
      h.meets xs (subst (λ (hs : List Word). Binds hs xs) (sym a.bound) b) ∙ ap (λ (ns : List Piece). ns ++ g xs) (a.meets xs b) ∙ append_assoc (list_of j.list.items) (f xs) (g xs);
}

pub gathers_push : (j k : Pieces) (p : declared.Piece) → k.bound ≡ j.bound → k.list.items ≡ j.list.items ++ p ∷ [] → Gathers j k (λ xs. piece_of p ∷ [])
gathers_push j k p e is = record { bound = e; meets = λ xs b. ap list_of is ∙ map-append piece_of j.list.items (p ∷ []) }

pub list_then : {X : Type 0} (F : X → List Word → List Piece) (j k l : Pieces) (xs : List X) (i : ℕ) (x : X) → x ≡ get_or xs i x → i < length xs → Gathers j k (F x)
    → Gathers k l (λ ys. flat_map (λ z. F z ys) (drop (i + 1) xs)) → Gathers j l (λ ys. flat_map (λ z. F z ys) (drop i xs))
list_then {X = X} F j k l xs i x is less a b =
    gathers_as j l _ _ (λ ys. ap (flat_map (λ z. F z ys)) (ap (λ (z : X). z ∷ drop (i + 1) xs) is ∙ sym (drop_more xs i x less)))
    (gathers_then j k l (F x) (λ ys. flat_map (λ z. F z ys) (drop (i + 1) xs)) a b)

pub list_done : {X : Type 0} (F : X → List Word → List Piece) (k : Pieces) (xs : List X) (i : ℕ) → length xs ≤ i → Gathers k k (λ ys. flat_map (λ z. F z ys) (drop i xs))
list_done F k xs i less = gathers_as k k _ _ (λ ys. ap (flat_map (λ z. F z ys)) (sym (drop_all i xs less))) (gathers_none k)

-- ---- names

pub each_name : (ns : List Name) → flat_map (λ (n : Name). binds n ∷ []) ns ≡ map binds ns
each_name [] = refl
each_name (n ∷ ns) = ap (λ (ps : List Piece). binds n ∷ ps) (each_name ns)

pub each_group : (gs : List (Vec Name Global)) → flat_map (λ (g : Vec Name Global). map binds g.items) gs ≡ map binds (all_of (groups_of gs))
each_group [] = refl
each_group (g ∷ gs) = ap (λ (ps : List Piece). map binds g.items ++ ps) (each_group gs) ∙ sym (map-append binds g.items (all_of (groups_of gs)))

-- a name that is bound brings nothing
pub bound_free : (u : Pieces) (x : Word) → list_any (pointwise ◌==◌ x) u.bound ≡ true → Gathers u u (own_pieces x)
bound_free u x e = record { bound = refl; meets = λ xs b. sym (append-nil (list_of u.list.items)) ∙ ap (λ (c : Bool). list_of u.list.items ++ cond c [] (frees x ∷ [])) (sym e ∙ b x) }

pub other_free : (u v : Pieces) (x : Word) → list_any (pointwise ◌==◌ x) u.bound ≡ false → Gathers u v (λ xs. frees x ∷ []) → Gathers u v (own_pieces x)
other_free u v x e a = record { bound = a.bound; meets = λ xs b. a.meets xs b ∙ ap (λ (c : Bool). list_of u.list.items ++ cond c [] (frees x ∷ [])) (sym e ∙ b x) }

-- ---- a form

pub binding_gathers : (u v : Pieces) (f : Form) (b : Binder) (gs : List (List Name)) → f ≡ binding b gs → Gathers u v (λ xs. map binds (all_of gs)) → Gathers u v (form_pieces f)
binding_gathers u v f b gs e a = gathers_as u v _ _ (λ xs. sym (ap (λ (m : Form). form_pieces m xs) e ∙ append-nil (map binds (all_of gs ++ [])) ∙ ap (map binds) (append-nil (all_of gs)))) a

pub local_gathers : (u v : Pieces) (f : Form) (ns : List Name) → f ≡ local ns → Gathers u v (λ xs. map binds ns) → Gathers u v (form_pieces f)
local_gathers u v f ns e a = gathers_as u v _ _ (λ xs. sym (ap (λ (m : Form). form_pieces m xs) e ∙ append-nil (map binds (ns ++ [])) ∙ ap (map binds) (append-nil ns))) a

-- ---- the parts of a form

part_first : (names : List (List Word)) (t : Tree) (ts : Trees) (xs : List Word) → pieces_in names (tree t ts) xs ≡ pieces t (first_names names ++ xs) ++ pieces_in (more_names names) ts xs
part_first [] t ts xs = refl
part_first (ys ∷ names) t ts xs = refl

more_dropped : (names : List (List Word)) (i : ℕ) → more_names (drop i names) ≡ drop (suc i) names
more_dropped [] zero = refl
more_dropped [] (suc i) = refl
more_dropped (xs ∷ names) zero = refl
more_dropped (xs ∷ names) (suc i) = more_dropped names i

abbrev pub parts_from : Form → List Tree → List ℕ → ℕ → List Word → List Piece
parts_from m ts ids i xs = pieces_in (drop i (seen_names m)) (trees_at ts (drop i ids)) xs

part_met : (m : Form) (ts : List Tree) (ids : List ℕ) (i e : ℕ) (xs : List Word) → e ≡ get_or ids i e → i < length ids → Shaped m (length ids)
    → parts_from m ts ids i xs ≡ pieces (at ts e) (seen_by m i ++ xs) ++ parts_from m ts ids (i + 1) xs
part_met m ts ids i e xs is l s =
    ap (λ (js : List ℕ). pieces_in (drop i (seen_names m)) (trees_at ts js) xs) (drop_more ids i e l ∙ ap (λ (z : ℕ). z ∷ drop (i + 1) ids) (sym is))
    ∙ part_first (drop i (seen_names m)) (at ts e) (trees_at ts (drop (i + 1) ids)) xs
    ∙ (λ j. pieces (at ts e) (part_sees m (length ids) i s l j ++ xs) ++ pieces_in ((more_dropped (seen_names m) i ∙ ap (λ (n : ℕ). drop n (seen_names m)) (next i)) j) (trees_at ts (drop (i + 1) ids)) xs)
  where
    next : (i : ℕ) → suc i ≡ i + 1
    next i = omega arith

parts_end : (m : Form) (ts : List Tree) (ids : List ℕ) (i : ℕ) (xs : List Word) → length ids ≤ i → parts_from m ts ids i xs ≡ []
parts_end m ts ids i xs l = ap (λ (js : List ℕ). pieces_in (drop i (seen_names m)) (trees_at ts js) xs) (drop_all i ids l) ∙ none (drop i (seen_names m))
  where
    none : (names : List (List Word)) → pieces_in names no_trees xs ≡ []
    none [] = refl
    none (ys ∷ names) = refl

-- in the loop
pub record MetPieces (old now : Pieces) (m : Form) (ts : List Tree) (ids : List ℕ) (i : ℕ) : Type 0 where
  pub bound : Hides old.bound now.bound (seen_by m i)
  pub meets : (xs : List Word) → Binds old.bound xs → list_of now.list.items ++ parts_from m ts ids i xs ≡ list_of old.list.items ++ pieces_in (seen_names m) (trees_at ts ids) xs

pub pieces_start : (u : Pieces) (m : Form) (ts : List Tree) (ids : List ℕ) → MetPieces u u m ts ids 0
pieces_start u m ts ids = record { bound = hides_as u.bound u.bound [] (seen_by m 0) (sym (seen_first m)) (hides_none u.bound); meets = λ xs b. refl }

pub pieces_more : (old now met next : Pieces) (m : Form) (ts : List Tree) (ids : List ℕ) (i e : ℕ) → e ≡ get_or ids i e → i < length ids → Shaped m (length ids)
    → Gathers now met (pieces (at ts e)) → next.list ≡ met.list → Hides met.bound next.bound (seen_next m i) → MetPieces old now m ts ids i → MetPieces old next m ts ids (i + 1)
pieces_more old now met next m ts ids i e is l s a same k h = record {
  bound = hides_as old.bound next.bound _ _ (seen_more m i)
      (hides_then old.bound now.bound next.bound (seen_by m i) (seen_next m i) h.bound (subst (λ (b : List Word). Hides b next.bound (seen_next m i)) a.bound k));
  meets = λ xs b.
      let here = pieces (at ts e) (seen_by m i ++ xs) in
      let more = parts_from m ts ids (i + 1) xs in
      ap (λ (ns : List Piece). ns ++ more) ((λ j. list_of (same j).items) ∙ a.meets (seen_by m i ++ xs) (binds_more old.bound now.bound (seen_by m i) xs b h.bound))
      ∙ append_assoc (list_of now.list.items) here more
      ∙ ap (λ (ns : List Piece). list_of now.list.items ++ ns) (sym (part_met m ts ids i e xs is l s))
      ∙ h.meets xs b;
}

pub pieces_done : (old now : Pieces) (m : Form) (ts : List Tree) (ids : List ℕ) (i : ℕ) → length ids ≤ i → MetPieces old now m ts ids i → GathersParts old now (pieces_in (seen_names m) (trees_at ts ids))
pieces_done old now m ts ids i l h = record {
  bound = first_kept old.bound now.bound (seen_by m i) h.bound;
  meets = λ xs b. sym (append-nil (list_of now.list.items)) ∙ ap (λ (ns : List Piece). list_of now.list.items ++ ns) (sym (parts_end m ts ids i xs l)) ∙ h.meets xs b;
}

pub node_gathers : (old met parts last : Pieces) (n : Entry) (ts : List Tree) (e : ℕ) → at ts e ≡ tree_in ts n → Gathers old met (form_pieces n.form)
    → GathersParts met parts (pieces_in (seen_names n.form) (trees_at ts n.parts)) → last.list ≡ parts.list → last.bound ≡ take (length met.bound) parts.bound → Gathers old last (pieces (at ts e))
node_gathers old met parts last n ts e is a p same kept = record {
  bound = kept ∙ p.bound ∙ a.bound;
  meets = λ xs b.
      let more = pieces_in (seen_names n.form) (trees_at ts n.parts) xs in
      (λ j. list_of (same j).items) ∙ p.meets xs (subst (λ (hs : List Word). Binds hs xs) (sym a.bound) b) ∙ ap (λ (ns : List Piece). ns ++ more) (a.meets xs b)
      ∙ append_assoc (list_of old.list.items) (form_pieces n.form xs) more
      ∙ ap (λ (ns : List Piece). list_of old.list.items ++ ns) (append_assoc _ (free_piece xs n.form) more ∙ ap (λ (t : Tree). pieces t xs) (sym is));
}

-- ---- trees in a row

pub each_then : (ts : List Tree) (es : List ℕ) (i e : ℕ) (now next : List (List Piece)) → e ≡ get_or es i e → i < length es → next ≡ now ++ pieces (at ts e) [] ∷ [] → now ≡ each_pieces (trees_at ts (take i es)) → next ≡ each_pieces (trees_at ts (take (i + 1) es))
each_then ts es i e now next is l n h = n ∙ ap (λ (ps : List (List Piece)). ps ++ pieces (at ts e) [] ∷ []) h ∙ sym (ap (λ (js : List ℕ). each_pieces (trees_at ts js)) (take_more es i e l ∙ ap (λ (z : ℕ). take i es ++ z ∷ []) (sym is)) ∙ more (take i es))
  where
    more : (js : List ℕ) → each_pieces (trees_at ts (js ++ e ∷ [])) ≡ each_pieces (trees_at ts js) ++ pieces (at ts e) [] ∷ []
    more [] = refl
    more (j ∷ js) = ap (λ (ps : List (List Piece)). pieces (at ts j) [] ∷ ps) (more js)
