-- What is written of an expression of an algorithm has no prime, no string with a mark of a comment, and a blank behind each `*`.
use Rattle.std.proofs.Common.{◌≡◌, ℕ, Bool, true, false, List, [], ◌∷◌, length, refl, subst, arith}
use Rattle.std.specs.List.{flat_map}
use Rattle.std.specs.Bool.{IsTrue}
use Rattle.tla_tree.specs.declared.op.Op.{Op}
use Rattle.tla_tree.specs.declared.op.Op.TheVariants as op
use Rattle.tla_tree.specs.declared.op.Binder.{Binder}
use Rattle.tla_tree.specs.declared.op.Binder.TheVariants as binder
use Rattle.tla_tree.specs.Rank.{is_prefix}
use Rattle.tla_tree.specs.Tree.{Word, Name, words, Each, PathStep, Slot, Strict, Form, Tree, Trees, node, no_trees, tree, Every, EveryOf}
use Rattle.tla_tree.specs.Tree as tree
use Rattle.tla_tree.specs.Shapes.{Shaped, operands}
use Rattle.tla_tree.specs.Lexical.{Mark, Key, TokenView, sign_of}
use Rattle.tla_tree.specs.Lexical as tk
use Rattle.tla_tree.specs.Written.{Piece, Part, spaced, infix_sign, prefix_sign, infix_pieces, listed, field_pieces, name_pieces, bind_pieces, definition_pieces, body, colon, binding_pieces, path_pieces, right_side, slot_pieces, except_pieces, strict_pieces, arm_pieces, choice_pieces, form_pieces, is_bracketed, bracketed, form_part, part, parts}
use Rattle.tla_tree.specs.laws.Writable.{IsIdentifier, IsField, IsString, fields_in_path, names_in, fields_in, strings_in, IsWritable, AreWritable}
use Rattle.tla_tree.proofs.SpelledTrees.{each_left, each_right, counted}
use Rattle.printed_text.specs.laws.Printable.{is_plain, IsExpression}
use Rattle.printed_text.proofs.Calm.{AreCalm, sign_calm, word_calm, field_calm, number_calm, string_calm}

-- a part is written well before what is written well
abbrev Writes : Part → Type 0
Writes a = (b : Bool) (ps : List Piece) → AreCalm ps → AreCalm (a b ps)

abbrev Write : List Part → Type 0
Write [] = Unit {0}
Write (a ∷ xs) = Writes a × Write xs

-- ---- operators
infix_written : (o : Op) → is_prefix o ≡ false → (ps : List Piece) → AreCalm ps → AreCalm (infix_sign o ps)
infix_written op.Range h ps s = (tt, s)
infix_written o h ps s = (sign_calm o ps, s)

prefix_written : (o : Op) → (ps : List Piece) → AreCalm ps → AreCalm (prefix_sign o ps)
prefix_written op.Negate ps s = (tt, s)
prefix_written op.Not ps s = (tt, s)
prefix_written o ps s = (sign_calm o ps, s)

infix_ok : (o : Op) (xs : List Part) → length xs ≡ operands (is_prefix o) → Write xs → (ps : List Piece) → AreCalm ps → AreCalm (infix_pieces o xs ps)
infix_ok o [] n w ps s = s
infix_ok o (a ∷ []) n w ps s = prefix_written o (a true ps) (w.0 true ps s)
infix_ok o (a ∷ b ∷ c ∷ xs) n w ps s = s
infix_ok o (a ∷ b ∷ []) n w ps s = infix_of (w.0 true (infix_sign o (b true ps)) (infix_written o (two (is_prefix o) n) (b true ps) (w.1.0 true ps s)))
  where
    infix_of : AreCalm (a true (infix_sign o (b true ps))) → AreCalm (infix_pieces o (a ∷ b ∷ []) ps)
    infix_of h = h

    two : (p : Bool) → ◌≡◌ {A = ℕ} 2 (operands p) → p ≡ false
    two true h = absurd (omega (arith, h))
    two false h = refl

-- ---- lists
listed_ok : (xs : List Part) → Write xs → (ps : List Piece) → AreCalm ps → AreCalm (listed xs ps)
listed_ok [] w ps s = s
listed_ok (a ∷ []) w ps s = w.0 false ps s
listed_ok (a ∷ b ∷ xs) w ps s = w.0 false _ (tt, listed_ok (b ∷ xs) w.1 ps s)

abbrev Signs : (List Piece → List Piece) → Type 0
Signs f = (ps : List Piece) → AreCalm ps → AreCalm (f ps)

fields_ok : (f : List Piece → List Piece) → Signs f → (ys : List Word) → Each IsField ys → (xs : List Part) → Write xs → (ps : List Piece) → AreCalm ps → AreCalm (field_pieces f ys xs ps)
fields_ok f g (y ∷ []) h (a ∷ []) w ps s = (field_calm y h.0 _, g (a false ps) (w.0 false ps s))
fields_ok f g (y ∷ z ∷ ys) h (a ∷ xs) w ps s = (field_calm y h.0 _, g _ (w.0 false _ (tt, fields_ok f g (z ∷ ys) h.1 xs w.1 ps s)))
fields_ok f g [] h xs w ps s = s
fields_ok f g (y ∷ []) h [] w ps s = s
fields_ok f g (y ∷ []) h (a ∷ b ∷ xs) w ps s = s
fields_ok f g (y ∷ z ∷ ys) h [] w ps s = s

names_ok : (g : List Name) → Each IsIdentifier (words g) → (ps : List Piece) → AreCalm ps → AreCalm (name_pieces g ps)
names_ok [] h ps s = s
names_ok (x ∷ []) h ps s = (word_calm x.word h.0, s)
names_ok (x ∷ y ∷ g) h ps s = (word_calm x.word h.0, (tt, names_ok (y ∷ g) h.1 ps s))

binds_ok : (gs : List (List Name)) → Each IsIdentifier (flat_map words gs) → (xs : List Part) → Write xs → (ps : List Piece) → AreCalm ps → AreCalm (bind_pieces gs xs ps)
binds_ok (g ∷ []) h (a ∷ xs) w ps s = names_ok g (each_left IsIdentifier (words g) [] h) _ (tt, w.0 true ps s)
binds_ok (g ∷ k ∷ gs) h (a ∷ xs) w ps s = names_ok g (each_left IsIdentifier (words g) (flat_map words (k ∷ gs)) h) _ (tt, w.0 true _ (tt, binds_ok (k ∷ gs) (each_right IsIdentifier (words g) (flat_map words (k ∷ gs)) h) xs w.1 ps s))
binds_ok [] h xs w ps s = s
binds_ok (g ∷ []) h [] w ps s = s
binds_ok (g ∷ k ∷ gs) h [] w ps s = s

definitions_ok : (ys : List Name) → Each IsIdentifier (words ys) → (xs : List Part) → Write xs → (ps : List Piece) → AreCalm ps → AreCalm (definition_pieces ys xs ps)
definitions_ok (x ∷ []) h (a ∷ xs) w ps s = (word_calm x.word h.0, (tt, w.0 false ps s))
definitions_ok (x ∷ y ∷ ys) h (a ∷ xs) w ps s = (word_calm x.word h.0, (tt, w.0 false _ (definitions_ok (y ∷ ys) h.1 xs w.1 ps s)))
definitions_ok [] h xs w ps s = s
definitions_ok (x ∷ []) h [] w ps s = s
definitions_ok (x ∷ y ∷ ys) h [] w ps s = s

body_ok : {A : Type 0} (ys : List A) (xs : List Part) → Write xs → Writes (body ys xs)
body_ok [] (a ∷ xs) w = w.0
body_ok (y ∷ ys) (a ∷ xs) w = body_ok ys xs w.1
body_ok [] [] w = λ b ps s. s
body_ok (y ∷ ys) [] w = λ b ps s. s

colon_ok : Signs colon
colon_ok ps s = (tt, s)

binding_ok : (b : Binder) (gs : List (List Name)) → Each IsIdentifier (flat_map words gs) → (xs : List Part) → Write xs → (ps : List Piece) → AreCalm ps → AreCalm (binding_pieces b gs xs ps)
binding_ok binder.ForAll gs h xs w ps s = (tt, binds_ok gs h xs w _ ((tt, body_ok gs xs w false ps s)))
binding_ok binder.Exists gs h xs w ps s = (tt, binds_ok gs h xs w _ ((tt, body_ok gs xs w false ps s)))
binding_ok binder.Filter gs h xs w ps s = (tt, binds_ok gs h xs w _ ((tt, body_ok gs xs w false _ (tt, s))))
binding_ok binder.Image gs h xs w ps s = (tt, body_ok gs xs w true _ ((tt, binds_ok gs h xs w _ (tt, s))))
binding_ok binder.Function gs h xs w ps s = (tt, binds_ok gs h xs w _ (tt, body_ok gs xs w false _ (tt, s)))

-- ---- EXCEPT
abbrev Goes : (List Part → List Piece) → Type 0
Goes rest = (ys : List Part) → Write ys → AreCalm (rest ys)

path_ok : (ss : List PathStep) → Each IsField (fields_in_path ss) → (xs : List Part) → Write xs → (rest : List Part → List Piece) → Goes rest → AreCalm (path_pieces ss xs rest)
path_ok [] h xs w rest g = g xs w
path_ok (tree.index ∷ ss) h (a ∷ xs) w rest g = (tt, w.0 false _ (tt, path_ok ss h xs w.1 rest g))
path_ok (tree.index ∷ ss) h [] w rest g = path_ok ss h [] w rest g
path_ok (tree.field x ∷ ss) h xs w rest g = (tt, (field_calm x h.0 _, path_ok ss h.1 xs w rest g))

right_ok : (xs : List Part) → Write xs → (rest : List Part → List Piece) → Goes rest → AreCalm (right_side xs rest)
right_ok [] w rest g = g [] tt
right_ok (a ∷ xs) w rest g = (tt, w.0 false _ (g xs w.1))

abbrev fields_in_slots : List Slot → List Word
fields_in_slots ss = flat_map (λ (s : Slot). fields_in_path s.path) ss

slots_ok : (ss : List Slot) → Each IsField (fields_in_slots ss) → (xs : List Part) → Write xs → (ps : List Piece) → AreCalm ps → AreCalm (slot_pieces ss xs ps)
slots_ok [] h xs w ps s = s
slots_ok (t ∷ []) h xs w ps s = (tt, path_ok t.path (each_left IsField (fields_in_path t.path) [] h) xs w _ (λ ys v. right_ok ys v _ (λ zs u. s)))
slots_ok (t ∷ r ∷ ss) h xs w ps s = (tt, path_ok t.path (each_left IsField (fields_in_path t.path) (fields_in_slots (r ∷ ss)) h) xs w _ (λ ys v. right_ok ys v _ (λ zs u. (tt, slots_ok (r ∷ ss) (each_right IsField (fields_in_path t.path) (fields_in_slots (r ∷ ss)) h) zs u ps s))))

except_ok : (ss : List Slot) → Each IsField (fields_in_slots ss) → (xs : List Part) → Write xs → (ps : List Piece) → AreCalm ps → AreCalm (except_pieces ss xs ps)
except_ok ss h [] w ps s = s
except_ok ss h (a ∷ xs) w ps s = (tt, w.0 true _ (tt, slots_ok ss h xs w.1 _ (tt, s)))

-- ---- all forms
strict_ok : (m : Strict) (xs : List Part) → Shaped (tree.strict m) (length xs) → Each IsField (fields_in (tree.strict m)) → Write xs → (ps : List Piece) → AreCalm ps → AreCalm (strict_pieces m xs ps)
strict_ok (tree.operator o) xs h f w ps s = infix_ok o xs h.1 w ps s
strict_ok tree.set_of xs h f w ps s = (tt, listed_ok xs w _ (tt, s))
strict_ok tree.tuple xs h f w ps s = (tt, listed_ok xs w _ (tt, s))
strict_ok (tree.fields ys) xs h f w ps s = (tt, fields_ok (spaced (tk.mark tk.maps)) (λ qs t. (tt, t)) ys f xs w _ (tt, s))
strict_ok (tree.records ys) xs h f w ps s = (tt, fields_ok colon colon_ok ys f xs w _ (tt, s))
strict_ok tree.functions (a ∷ b ∷ xs) h f w ps s = (tt, w.0 false _ (tt, w.1.0 false _ (tt, s)))
strict_ok tree.functions [] h f w ps s = s
strict_ok tree.functions (a ∷ []) h f w ps s = s
strict_ok tree.apply (a ∷ b ∷ xs) h f w ps s = w.0 true _ (tt, w.1.0 false _ (tt, s))
strict_ok tree.apply [] h f w ps s = s
strict_ok tree.apply (a ∷ []) h f w ps s = s
strict_ok (tree.select x) (a ∷ xs) h f w ps s = w.0 true _ (tt, (field_calm x f.0 _, s))
strict_ok (tree.select x) [] h f w ps s = s
strict_ok (tree.except ss) xs h f w ps s = except_ok ss f xs w ps s

arms_ok : (b : Bool) (xs : List Part) → Write xs → (ps : List Piece) → AreCalm ps → AreCalm (arm_pieces b xs ps)
arms_ok true [] w ps s = s
arms_ok false [] w ps s = s
arms_ok true (a ∷ []) w ps s = (tt, (tt, w.0 true ps s))
arms_ok false (a ∷ []) w ps s = s
arms_ok true (c ∷ a ∷ []) w ps s = w.0 true _ (tt, w.1.0 true ps s)
arms_ok false (c ∷ a ∷ []) w ps s = w.0 true _ (tt, w.1.0 true ps s)
arms_ok true (c ∷ a ∷ b ∷ xs) w ps s = w.0 true _ (tt, w.1.0 true _ (tt, arms_ok true (b ∷ xs) w.1.1 ps s))
arms_ok false (c ∷ a ∷ b ∷ xs) w ps s = w.0 true _ (tt, w.1.0 true _ (tt, arms_ok false (b ∷ xs) w.1.1 ps s))

choice_ok : (xs : List Part) → Write xs → (ps : List Piece) → AreCalm ps → AreCalm (choice_pieces xs ps)
choice_ok (a ∷ b ∷ c ∷ []) w ps s = (tt, w.0 false _ (tt, w.1.0 false _ (tt, w.1.1.0 false ps s)))
choice_ok [] w ps s = s
choice_ok (a ∷ []) w ps s = s
choice_ok (a ∷ b ∷ []) w ps s = s
choice_ok (a ∷ b ∷ c ∷ d ∷ xs) w ps s = s

form_ok : (m : Form) (xs : List Part) → is_plain m ≡ true → Shaped m (length xs) → Each IsIdentifier (names_in m) → Each IsField (fields_in m) → Each IsString (strings_in m) → Write xs → (ps : List Piece) → AreCalm ps → AreCalm (form_pieces m xs ps)
form_ok (tree.number n) xs q h i f t w ps s = (number_calm n h.0, s)
form_ok (tree.string x) xs q h i f t w ps s = (string_calm x q, s)
form_ok (tree.truth b) xs q h i f t w ps s = (tt, s)
form_ok tree.booleans xs q h i f t w ps s = (tt, s)
form_ok tree.strings xs q h i f t w ps s = (tt, s)
form_ok (tree.name x) xs q h i f t w ps s = (word_calm x i.0, s)
form_ok (tree.next x) xs q h i f t w ps s = absurd cc
form_ok (tree.strict m) xs q h i f t w ps s = strict_ok m xs h f w ps s
form_ok (tree.operator_call x) xs q h i f t w ps s = (word_calm x i.0, (tt, listed_ok xs w _ (tt, s)))
form_ok tree.conjunction xs q h i f t w ps s = infix_ok op.And xs h w ps s
form_ok tree.disjunction xs q h i f t w ps s = infix_ok op.Or xs h w ps s
form_ok tree.implication xs q h i f t w ps s = infix_ok op.Implies xs h w ps s
form_ok (tree.member true) xs q h i f t w ps s = infix_ok op.In xs h w ps s
form_ok (tree.member false) xs q h i f t w ps s = infix_ok op.NotIn xs h w ps s
form_ok tree.if_then_else xs q h i f t w ps s = choice_ok xs w ps s
form_ok (tree.cases b) xs q h i f t w ps s = (tt, arms_ok b xs w ps s)
form_ok (tree.binding b gs) xs q h i f t w ps s = binding_ok b gs i xs w ps s
form_ok (tree.local ys) xs q h i f t w ps s = (tt, definitions_ok ys i xs w _ (tt, body_ok ys xs w false ps s))

part_ok : (m : Form) (xs : List Part) → ((ps : List Piece) → AreCalm ps → AreCalm (form_pieces m xs ps)) → Writes (form_part m xs)
part_ok m xs h false ps s = h ps s
part_ok m xs h true ps s = by (is_bracketed m)
  where
    by : (b : Bool) → AreCalm (bracketed b (form_pieces m xs) ps)
    by true = (tt, h _ (tt, s))
    by false = h ps s

mutual
  tree_ok : (t : Tree) → IsWritable t → Every (λ m at. IsTrue (is_plain m)) t → Writes (part t)
  tree_ok (node m at ts) (h, i, f, t, w) (q, e) = part_ok m (parts ts) (form_ok m (parts ts) q (subst (λ (n : ℕ). Shaped m n) (counted ts) h) i f t (trees_ok ts w e))

  trees_ok : (ts : Trees) → AreWritable ts → EveryOf (λ m at. IsTrue (is_plain m)) ts → Write (parts ts)
  trees_ok no_trees w e = tt
  trees_ok (tree t ts) w e = (tree_ok t w.0 e.0, trees_ok ts w.1 e.1)

pub part_is_calm : (t : Tree) → IsExpression t → (o : Bool) → AreCalm (part t o [])
part_is_calm t w o = tree_ok t w.0 w.1 o [] tt
