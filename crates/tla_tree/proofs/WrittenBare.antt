-- What is written of a tree rests on no place.
use Rattle.std.proofs.Common.{◌≡◌, Bool, true, false, List, [], ◌∷◌, map, refl, sym, ap, ◌∙◌}
use Rattle.tla_tree.specs.declared.op.Op.TheVariants as op
use Rattle.tla_tree.specs.declared.op.Binder.{Binder}
use Rattle.tla_tree.specs.declared.op.Binder.TheVariants as binder
use Rattle.tla_tree.specs.Tree.{Name, Slot, Form, Tree, Trees, node, no_trees, tree}
use Rattle.tla_tree.specs.Tree as tree
use Rattle.tla_tree.specs.Lexical as tk
use Rattle.tla_tree.specs.Written.{Piece, Part, blank, token, as_operand, plain, mark, word, comma, spaced, name_pieces, bind_pieces, definition_pieces, body, colon, binding_pieces, path_pieces, right_side, slot_pieces, form_pieces, is_bracketed, bracketed, form_part, part, parts, written, text_of}
use Rattle.tla_tree.specs.laws.Placeless.{name_placeless, names_placeless, slot_placeless, form_placeless, tree_placeless, trees_placeless}

names_bare : (g : List Name) (ps : List Piece) → name_pieces (names_placeless g) ps ≡ name_pieces g ps
names_bare [] ps = refl
names_bare (x ∷ []) ps = refl
names_bare (x ∷ y ∷ g) ps = ap (λ (qs : List Piece). word x.word (comma qs)) (names_bare (y ∷ g) ps)

binds_bare : (gs : List (List Name)) (xs : List Part) (ps : List Piece) → bind_pieces (map names_placeless gs) xs ps ≡ bind_pieces gs xs ps
binds_bare [] xs ps = refl
binds_bare (g ∷ []) [] ps = refl
binds_bare (g ∷ h ∷ gs) [] ps = refl
binds_bare (g ∷ []) (a ∷ xs) ps = names_bare g (spaced (tk.sign op.In) (as_operand a ps))
binds_bare (g ∷ h ∷ gs) (a ∷ xs) ps =
    ap (λ (qs : List Piece). name_pieces (names_placeless g) (spaced (tk.sign op.In) (as_operand a (comma qs)))) (binds_bare (h ∷ gs) xs ps)
    ∙ names_bare g (spaced (tk.sign op.In) (as_operand a (comma (bind_pieces (h ∷ gs) xs ps))))

definitions_bare : (ys : List Name) (xs : List Part) (ps : List Piece) → definition_pieces (names_placeless ys) xs ps ≡ definition_pieces ys xs ps
definitions_bare [] xs ps = refl
definitions_bare (x ∷ []) [] ps = refl
definitions_bare (x ∷ y ∷ ys) [] ps = refl
definitions_bare (x ∷ []) (a ∷ xs) ps = refl
definitions_bare (x ∷ y ∷ ys) (a ∷ xs) ps = ap (λ (qs : List Piece). word x.word (spaced (tk.mark tk.defines) (plain a (blank ∷ qs)))) (definitions_bare (y ∷ ys) xs ps)

body_bare : {A B : Type 0} (f : A → B) (ys : List A) (xs : List Part) → body (map f ys) xs ≡ body ys xs
body_bare f [] [] = refl
body_bare f (y ∷ ys) [] = refl
body_bare f [] (a ∷ xs) = refl
body_bare f (y ∷ ys) (a ∷ xs) = body_bare f ys xs

binding_bare : (b : Binder) (gs : List (List Name)) (xs : List Part) (ps : List Piece) → binding_pieces b (map names_placeless gs) xs ps ≡ binding_pieces b gs xs ps
binding_bare binder.ForAll gs xs ps = (λ i. token (tk.key tk.for_all_key) ∷ blank ∷ bind_pieces (map names_placeless gs) xs (colon (plain (body_bare names_placeless gs xs i) ps))) ∙ (λ i. token (tk.key tk.for_all_key) ∷ blank ∷ binds_bare gs xs (colon (plain (body gs xs) ps)) i)
binding_bare binder.Exists gs xs ps = (λ i. token (tk.key tk.exists_key) ∷ blank ∷ bind_pieces (map names_placeless gs) xs (colon (plain (body_bare names_placeless gs xs i) ps))) ∙ (λ i. token (tk.key tk.exists_key) ∷ blank ∷ binds_bare gs xs (colon (plain (body gs xs) ps)) i)
binding_bare binder.Filter gs xs ps = (λ i. mark tk.open_brace (bind_pieces (map names_placeless gs) xs (colon (plain (body_bare names_placeless gs xs i) (mark tk.close_brace ps))))) ∙ (λ i. mark tk.open_brace (binds_bare gs xs (colon (plain (body gs xs) (mark tk.close_brace ps))) i))
binding_bare binder.Image gs xs ps = (λ i. mark tk.open_brace (as_operand (body_bare names_placeless gs xs i) (colon (bind_pieces (map names_placeless gs) xs (mark tk.close_brace ps))))) ∙ (λ i. mark tk.open_brace (as_operand (body gs xs) (colon (binds_bare gs xs (mark tk.close_brace ps) i))))
binding_bare binder.Function gs xs ps = (λ i. mark tk.open_square (bind_pieces (map names_placeless gs) xs (spaced (tk.mark tk.maps) (plain (body_bare names_placeless gs xs i) (mark tk.close_square ps))))) ∙ (λ i. mark tk.open_square (binds_bare gs xs (spaced (tk.mark tk.maps) (plain (body gs xs) (mark tk.close_square ps))) i))

slots_bare : (ss : List Slot) (xs : List Part) (ps : List Piece) → slot_pieces (map slot_placeless ss) xs ps ≡ slot_pieces ss xs ps
slots_bare [] xs ps = refl
slots_bare (s ∷ []) xs ps = refl
slots_bare (s ∷ t ∷ ss) xs ps = (λ i. mark tk.bang (path_pieces s.path xs (λ ys. right_side ys (λ zs. comma (slots_bare (t ∷ ss) zs ps i)))))

form_bare : (m : Form) (xs : List Part) (ps : List Piece) → form_pieces (form_placeless m) xs ps ≡ form_pieces m xs ps
form_bare (tree.strict (tree.except ss)) [] ps = refl
form_bare (tree.strict (tree.except ss)) (a ∷ xs) ps = ap (λ (qs : List Piece). mark tk.open_square (as_operand a (spaced (tk.key tk.except_key) qs))) (slots_bare ss xs (mark tk.close_square ps))
form_bare (tree.binding b gs) xs ps = binding_bare b gs xs ps
form_bare (tree.local ys) xs ps =
    (λ i. token (tk.key tk.let_key) ∷ blank ∷ definition_pieces (names_placeless ys) xs (spaced (tk.key tk.in_key) (plain (body_bare name_placeless ys xs i) ps)))
    ∙ (λ i. token (tk.key tk.let_key) ∷ blank ∷ definitions_bare ys xs (spaced (tk.key tk.in_key) (plain (body ys xs) ps)) i)
form_bare m xs ps = refl

bracketed_bare : (m : Form) → is_bracketed (form_placeless m) ≡ is_bracketed m
bracketed_bare (tree.strict (tree.operator o)) = refl
bracketed_bare (tree.binding binder.ForAll gs) = refl
bracketed_bare (tree.binding binder.Exists gs) = refl
bracketed_bare m = refl

form_part_bare : (m : Form) (xs : List Part) → form_part (form_placeless m) xs ≡ form_part m xs
form_part_bare m xs = (λ i o ps. by o ps i)
  where
    by : (o : Bool) (ps : List Piece) → form_part (form_placeless m) xs o ps ≡ form_part m xs o ps
    by true ps = (λ i. bracketed (bracketed_bare m i) (λ qs. form_bare m xs qs i) ps)
    by false ps = form_bare m xs ps

mutual
  pub part_bare : (t : Tree) → part (tree_placeless t) ≡ part t
  part_bare (node m at ts) = ap (form_part (form_placeless m)) (parts_bare ts) ∙ form_part_bare m (parts ts)

  parts_bare : (ts : Trees) → parts (trees_placeless ts) ≡ parts ts
  parts_bare no_trees = refl
  parts_bare (tree t ts) = (λ i. part_bare t i ∷ parts_bare ts i)

pub written_bare : (t : Tree) → written (tree_placeless t) ≡ written t
written_bare t = ap (λ (a : Part). text_of (plain a [])) (part_bare t)

pub same_written : (t u : Tree) → tree_placeless t ≡ tree_placeless u → written t ≡ written u
same_written t u e = sym (written_bare t) ∙ ap written e ∙ written_bare u
