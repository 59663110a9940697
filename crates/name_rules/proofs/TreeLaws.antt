-- What is found in an expression, part by part.
use Rattle.std.proofs.Common.{◌≡◌, ℕ, zero, suc, ◌+◌, ◌<◌, ◌≤◌, Bool, true, false, ◌&&◌, nat_eq, List, [], ◌∷◌, ◌++◌, length, take, drop, get_or, Option, refl, sym, ap, ◌∙◌, subst, arith, eqb-true, append-nil}
use Rattle.std.proofs.lemmas.Bool.{eqb-false}
use Rattle.std.proofs.lemmas.List.{drop_more, drop_all, length-drop}
use Rattle.tla_token.specs.declared.rule.Refusal.{Refusal}
use Rattle.tla_tree.specs.Tree.{Word, Form, Tree, node, Trees, no_trees, tree, seen_names}
use Rattle.tla_tree.specs.Shapes.{Shaped}
use Rattle.tla_tree.specs.Pool.{Entry, at, trees_at, tree_in}
use Rattle.tla_value.specs.StandardModules.{is_member, is_last}
use Rattle.pcal_tree.specs.Offences.{first}
use Rattle.pcal_tree.specs.NameUses.{Sight, seeing_plain}
use Rattle.pcal_tree.specs.OffencesNames.{form_offences, root_offences, count, in_tree, in_parts, in_each, in_left}
use Rattle.algorithm_answer.specs.Joined.{joined}
use Rattle.algorithm_answer.proofs.Joins.{joined_assoc, joined_none, first_append}
use Rattle.algorithm_limits.specs.DepthsIn.{seen_by, seen_next, Hides}
use Rattle.algorithm_limits.specs.Literals.{are_literals}
use Rattle.algorithm_limits.proofs.BoundLemmas.{hides_none, hides_then, hides_as, first_kept, seen_first, seen_more}
use Rattle.algorithm_limits.proofs.LiteralLaws.{each_literal, first_literal, more_literals}
use Rattle.outside_reading.specs.TreeDepth.{first_names, more_names}
use Rattle.module_outside.proofs.DepthLaws.{part_sees}
use Rattle.name_rules.specs.declared.found.Found.{Found}
use Rattle.declared_rules.specs.UsesTold.{told_by, Inside}
use Rattle.name_rules.specs.Finding.{told, Tells, TellsParts}
use Rattle.name_rules.proofs.TellLaws.{tells_none, tells_as, tells_then, inside_more}

pub counted : (ts : List Tree) (ids : List ℕ) → count (trees_at ts ids) ≡ length ids
counted ts [] = refl
counted ts (i ∷ ids) = ap suc (counted ts ids)

-- ---- the parts of a form

last_part : (ts : List Tree) (ids : List ℕ) (i : ℕ) → i < length ids → is_last (trees_at ts (drop (i + 1) ids)) ≡ nat_eq (i + 1) (length ids)
last_part ts ids i l = by (nat_eq (i + 1) (length ids)) refl
  where
    some_left : (is : List ℕ) → 0 < length is → is_last (trees_at ts is) ≡ false
    some_left [] h = absurd (omega (arith, h))
    some_left (i ∷ is) h = refl

    by : (b : Bool) → nat_eq (i + 1) (length ids) ≡ b → is_last (trees_at ts (drop (i + 1) ids)) ≡ b
    by true e = ap (λ (js : List ℕ). is_last (trees_at ts js)) (drop_all (i + 1) ids (let h = eqb-true (i + 1) (length ids) e in omega (arith, h)))
    by false e = some_left (drop (i + 1) ids) (let h = eqb-false (i + 1) (length ids) e in let k = length-drop (i + 1) ids in omega (arith, h, k, l))

part_first : (names : List (List Word)) (right : Bool) (t : Tree) (ts : Trees) (s : Sight)
    → in_parts names right (tree t ts) s ≡ in_tree t (right && is_last ts) (seeing_plain (first_names names) s) ++ in_parts (more_names names) right ts s
part_first [] right t ts s = refl
part_first (xs ∷ names) right t ts s = refl

more_dropped : (names : List (List Word)) (i : ℕ) → more_names (drop i names) ≡ drop (suc i) names
more_dropped [] zero = refl
more_dropped [] (suc i) = refl
more_dropped (xs ∷ names) zero = refl
more_dropped (xs ∷ names) (suc i) = more_dropped names i

abbrev pub parts_from : Form → List Tree → List ℕ → ℕ → Sight → List Refusal
parts_from m ts ids i s = in_parts (drop i (seen_names m)) (is_member m) (trees_at ts (drop i ids)) s

part_met : (m : Form) (ts : List Tree) (ids : List ℕ) (i e : ℕ) (right : Bool) (s : Sight) → e ≡ get_or ids i e → i < length ids → Shaped m (length ids)
    → right ≡ (is_member m && nat_eq (i + 1) (length ids))
    → parts_from m ts ids i s ≡ in_tree (at ts e) right (seeing_plain (seen_by m i) s) ++ parts_from m ts ids (i + 1) s
part_met m ts ids i e right s is l h f =
    ap (λ (js : List ℕ). in_parts (drop i (seen_names m)) (is_member m) (trees_at ts js) s) (drop_more ids i e l ∙ ap (λ (z : ℕ). z ∷ drop (i + 1) ids) (sym is))
    ∙ part_first (drop i (seen_names m)) (is_member m) (at ts e) (trees_at ts (drop (i + 1) ids)) s
    ∙ (λ j. in_tree (at ts e) ((ap (λ (b : Bool). is_member m && b) (last_part ts ids i l) ∙ sym f) j) (seeing_plain (part_sees m (length ids) i h l j) s)
    ++ in_parts ((more_dropped (seen_names m) i ∙ ap (λ (n : ℕ). drop n (seen_names m)) (next i)) j) (is_member m) (trees_at ts (drop (i + 1) ids)) s)
  where
    next : (i : ℕ) → suc i ≡ i + 1
    next i = omega arith

parts_end : (m : Form) (ts : List Tree) (ids : List ℕ) (i : ℕ) (s : Sight) → length ids ≤ i → parts_from m ts ids i s ≡ []
parts_end m ts ids i s l = ap (λ (js : List ℕ). in_parts (drop i (seen_names m)) (is_member m) (trees_at ts js) s) (drop_all i ids l) ∙ none (drop i (seen_names m))
  where
    none : (names : List (List Word)) → in_parts names (is_member m) no_trees s ≡ []
    none [] = refl
    none (ys ∷ names) = refl

-- in the loop
pub record ToldParts (old now : Found) (m : Form) (ts : List Tree) (ids : List ℕ) (i : ℕ) : Type 0 where
  pub bound : Hides old.bound now.bound (seen_by m i)
  pub tells : (s r : Sight) → Inside old.bound s r
      → joined (told now s) (first (parts_from m ts ids i r)) ≡ joined (told old s) (first (in_parts (seen_names m) (is_member m) (trees_at ts ids) r))

pub parts_start : (u : Found) (m : Form) (ts : List Tree) (ids : List ℕ) → ToldParts u u m ts ids 0
parts_start u m ts ids = record { bound = hides_as u.bound u.bound [] (seen_by m 0) (sym (seen_first m)) (hides_none u.bound); tells = λ s r h. refl }

pub parts_more : (old now met next : Found) (m : Form) (ts : List Tree) (ids : List ℕ) (i e : ℕ) (right : Bool) → e ≡ get_or ids i e → i < length ids → Shaped m (length ids)
    → right ≡ (is_member m && nat_eq (i + 1) (length ids))
    → Tells now met (in_tree (at ts e) right) → next.first ≡ met.first → next.free.keys ≡ met.free.keys → Hides met.bound next.bound (seen_next m i)
    → ToldParts old now m ts ids i → ToldParts old next m ts ids (i + 1)
parts_more old now met next m ts ids i e right is l s f a p q k h = record {
  bound = hides_as old.bound next.bound _ _ (seen_more m i)
      (hides_then old.bound now.bound next.bound (seen_by m i) (seen_next m i) h.bound (subst (λ (b : List Word). Hides b next.bound (seen_next m i)) a.bound k));
  tells = λ v r b.
      let here = in_tree (at ts e) right (seeing_plain (seen_by m i) r) in
      let more = parts_from m ts ids (i + 1) r in
      (λ j. joined (told_by (p j) (q j) v) (first more))
      ∙ ap (λ (o : Option Refusal). joined o (first more)) (a.tells v (seeing_plain (seen_by m i) r) (inside_more old.bound now.bound (seen_by m i) v r b h.bound))
      ∙ joined_assoc (told now v) (first here) (first more)
      ∙ ap (joined (told now v)) (sym (first_append here more) ∙ ap first (sym (part_met m ts ids i e right r is l s f)))
      ∙ h.tells v r b;
}

-- a literal uses no name
literals_left : (m : Form) (ts : List Tree) (ids : List ℕ) (i : ℕ) (s : Sight) → are_literals (trees_at ts (drop i ids)) ≡ true → parts_from m ts ids i s ≡ []
literals_left m ts ids i s e = none (drop i (seen_names m)) (trees_at ts (drop i ids)) e
  where
    none : (names : List (List Word)) (us : Trees) → are_literals us ≡ true → in_parts names (is_member m) us s ≡ []
    none [] no_trees e = refl
    none (ys ∷ names) no_trees e = refl
    none names (tree u us) e =
        part_first names (is_member m) u us s
        ∙ (λ j. each_literal (λ t. in_tree t (is_member m && is_last us) (seeing_plain (first_names names) s) ≡ []) (λ n p. refl) (λ w p. refl) (λ b p. refl) (λ p. refl) (λ p. refl) u (first_literal u us e) j
        ++ none (more_names names) us (more_literals u us e) j)

pub parts_cut : (old now met : Found) (m : Form) (ts : List Tree) (ids : List ℕ) (i e : ℕ) (right : Bool) → e ≡ get_or ids i e → i < length ids → Shaped m (length ids)
    → right ≡ (is_member m && nat_eq (i + 1) (length ids)) → Tells now met (in_tree (at ts e) right) → are_literals (trees_at ts (drop (i + 1) ids)) ≡ true → ToldParts old now m ts ids i
    → TellsParts old met (in_parts (seen_names m) (is_member m) (trees_at ts ids))
parts_cut old now met m ts ids i e right is l s f a lit h = record {
  bound = ap (take (length old.bound)) a.bound ∙ first_kept old.bound now.bound (seen_by m i) h.bound;
  tells = λ v r b.
      let here = in_tree (at ts e) right (seeing_plain (seen_by m i) r) in
      a.tells v (seeing_plain (seen_by m i) r) (inside_more old.bound now.bound (seen_by m i) v r b h.bound)
      ∙ ap (λ (rs : List Refusal). joined (told now v) (first rs))
      (sym (append-nil here) ∙ ap (λ (rs : List Refusal). here ++ rs) (sym (literals_left m ts ids (i + 1) r lit)) ∙ sym (part_met m ts ids i e right r is l s f))
      ∙ h.tells v r b;
}

pub parts_done : (old now : Found) (m : Form) (ts : List Tree) (ids : List ℕ) (i : ℕ) → length ids ≤ i → ToldParts old now m ts ids i
    → TellsParts old now (in_parts (seen_names m) (is_member m) (trees_at ts ids))
parts_done old now m ts ids i l h = record {
  bound = first_kept old.bound now.bound (seen_by m i) h.bound;
  tells = λ s r b.
      sym (joined_none (told now s)) ∙ ap (λ (rs : List Refusal). joined (told now s) (first rs)) (sym (parts_end m ts ids i r l)) ∙ h.tells s r b;
}

-- ---- a node, and its parts

pub node_met : (old met parts last : Found) (n : Entry) (ts : List Tree) (e : ℕ) (right : Bool) → at ts e ≡ tree_in ts n
    → Tells old met (λ r. form_offences r right n.form (length n.parts) n.place) → TellsParts met parts (in_parts (seen_names n.form) (is_member n.form) (trees_at ts n.parts))
    → last.first ≡ parts.first → last.free.keys ≡ parts.free.keys → last.bound ≡ take (length met.bound) parts.bound → Tells old last (in_tree (at ts e) right)
node_met old met parts last n ts e right is a p o q kept = record {
  bound = kept ∙ p.bound ∙ a.bound;
  tells = λ s r b.
      let own = form_offences r right n.form (length n.parts) n.place in
      let rest = in_parts (seen_names n.form) (is_member n.form) (trees_at ts n.parts) r in
      (λ j. told_by (o j) (q j) s) ∙ p.tells s r (subst (λ (hs : List Word). Inside hs s r) (sym a.bound) b)
      ∙ ap (λ (z : Option Refusal). joined z (first rest)) (a.tells s r b)
      ∙ joined_assoc (told old s) (first own) (first rest)
      ∙ ap (joined (told old s)) (sym (first_append own rest)
      ∙ ap (λ (k : ℕ). first (form_offences r right n.form k n.place ++ rest)) (sym (counted ts n.parts))
      ∙ ap (λ (t : Tree). first (in_tree t right r)) (sym is));
}

-- ---- expressions, from one on: what is left still gives the whole

pub each_then : (ts : List Tree) (j k l : Found) (es : List ℕ) (i e : ℕ) → e ≡ get_or es i e → i < length es → Tells j k (in_tree (at ts e) false)
    → Tells k l (in_each (trees_at ts (drop (i + 1) es))) → Tells j l (in_each (trees_at ts (drop i es)))
each_then ts j k l es i e is less a h =
    tells_as j l _ _ (λ r. ap (λ (js : List ℕ). in_each (trees_at ts js) r) (ap (λ (z : ℕ). z ∷ drop (i + 1) es) is ∙ sym (drop_more es i e less)))
    (tells_then j k l (in_tree (at ts e) false) (in_each (trees_at ts (drop (i + 1) es))) a h)

pub each_done : (ts : List Tree) (k : Found) (es : List ℕ) (i : ℕ) → length es ≤ i → Tells k k (in_each (trees_at ts (drop i es)))
each_done ts k es i less = tells_as k k _ _ (λ r. ap (λ (js : List ℕ). in_each (trees_at ts js) r) (sym (drop_all i es less))) (tells_none k)

-- ---- left sides

pub left_alone : (j k : Found) (n : Entry) (ts : List Tree) (e : ℕ) → at ts e ≡ tree_in ts n → length n.parts ≤ 0 → Tells j k (λ r. root_offences r n.form n.place) → Tells j k (in_left (at ts e))
left_alone j k n ts e is l a =
    tells_as j k _ _ (λ r. sym (none n.parts l r) ∙ ap (λ (t : Tree). in_left t r) (sym is)) a
  where
    plain : (rs : List Refusal) → rs ++ [] ≡ rs
    plain [] = refl
    plain (r ∷ rs) = ap (λ (qs : List Refusal). r ∷ qs) (plain rs)

    none : (ids : List ℕ) → length ids ≤ 0 → (r : Sight) → in_left (node n.form n.place (trees_at ts ids)) r ≡ root_offences r n.form n.place
    none [] h r = plain (root_offences r n.form n.place)
    none (i ∷ ids) h r = absurd (omega (arith, h))

pub left_with : (i j k l : Found) (n : Entry) (ts : List Tree) (e d : ℕ) → at ts e ≡ tree_in ts n → 0 < length n.parts → d ≡ get_or n.parts 0 d → Tells i j (λ r. root_offences r n.form n.place)
    → Tells j k (in_left (at ts d)) → Tells k l (in_each (trees_at ts (drop 1 n.parts))) → Tells i l (in_left (at ts e))
left_with i j k l n ts e d is h g a b c =
    tells_as i l _ _ (λ r. some n.parts h g r ∙ ap (λ (t : Tree). in_left t r) (sym is))
    (tells_then i j l (λ r. root_offences r n.form n.place) (λ r. in_left (at ts d) r ++ in_each (trees_at ts (drop 1 n.parts)) r) a
    (tells_then j k l (in_left (at ts d)) (in_each (trees_at ts (drop 1 n.parts))) b c))
  where
    some : (ids : List ℕ) → 0 < length ids → d ≡ get_or ids 0 d → (r : Sight)
        → root_offences r n.form n.place ++ (in_left (at ts d) r ++ in_each (trees_at ts (drop 1 ids)) r) ≡ in_left (node n.form n.place (trees_at ts ids)) r
    some [] l g r = absurd (omega (arith, l))
    some (i ∷ ids) l g r = ap (λ (z : ℕ). root_offences r n.form n.place ++ (in_left (at ts z) r ++ in_each (trees_at ts ids) r)) g
