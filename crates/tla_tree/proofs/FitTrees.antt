-- What is written of a tree is cut into just its tokens: each is the longest where it is.
use Rattle.std.proofs.Common.{◌≡◌, ℕ, ◌≤◌, Bool, true, false, List, [], ◌∷◌, ◌++◌, length, refl, ap, subst, ◌∙◌, arith, append_assoc}
use Rattle.std.specs.List.{flat_map}
use Rattle.tla_token.specs.Words.{is_pluscal_word}
use Rattle.tla_tree.specs.declared.op.Op.{Op}
use Rattle.tla_tree.specs.declared.op.Op.TheVariants as op
use Rattle.tla_tree.specs.declared.op.Binder.{Binder}
use Rattle.tla_tree.specs.declared.op.Binder.TheVariants as binder
use Rattle.tla_tree.specs.Rank.{is_prefix}
use Rattle.tla_tree.specs.Tree.{Word, Name, words, Each, PathStep, Slot, Strict, Form, Tree, Trees, node, no_trees, tree}
use Rattle.tla_tree.specs.Tree as tree
use Rattle.tla_tree.specs.Shapes.{Shaped, StrictShaped, operands}
use Rattle.tla_tree.specs.Lexical.{TokenView, field_kind, token_text}
use Rattle.tla_tree.specs.Lexical as tk
use Rattle.tla_tree.specs.Written.{Piece, blank, token, text_of, Part, mark, field, spaced, comma, infix_sign, prefix_sign, infix_pieces, listed, field_pieces, name_pieces, bind_pieces, definition_pieces, body, colon, binding_pieces, path_pieces, right_side, slot_pieces, strict_pieces, arm_pieces, choice_pieces, form_pieces, is_bracketed, bracketed, form_part, part, parts}
use Rattle.tla_tree.specs.laws.Writable.{IsIdentifier, IsField, IsString, fields_in_path, names_in, fields_in, strings_in, IsWritable, AreWritable}
use Rattle.tla_tree.specs.laws.InText.{ends_word}
use Rattle.tla_tree.proofs.FitTokens.{Before, Small, starts, dashed, is_first, Wordy, word_fits, word_starts, word_undashed, word_first, name_wordy, number_wordy, field_text, sign_fits, key_fits, constant_wordy, comma_fits, colon_fits, arrow_fits, maps_fits, defines_fits, box_fits, close_bracket_fits, close_square_fits, open_brace_fits, close_brace_fits, open_tuple_fits, close_tuple_fits, bang_fits, prime_fits, range_fits, not_fits, string_fits, open_bracket_fits, open_square_fits, minus_fits, dot_fits}
use Rattle.tla_tree.proofs.SpelledTrees.{each_left, each_right, counted}

-- each token is the longest, these bytes being behind all
abbrev pub Fit : List ℕ → List Piece → Type 0
Fit r [] = Unit {0}
Fit r (blank ∷ ps) = Fit r ps
Fit r (token k ∷ ps) = Before k (text_of ps ++ r) × Fit r ps

abbrev Ends : List ℕ → List Piece → Type 0
Ends r ps = ends_word (text_of ps ++ r) ≡ true

abbrev Starts : List ℕ → List Piece → Type 0
Starts r ps = starts (text_of ps ++ r) ≡ true

-- a part fits before what fits and begins with no byte of a word; and begins with none of * > ]; as an operand with no dash
abbrev Fine : List ℕ → Part → Type 0
Fine r a = (o : Bool) (ps : List Piece) → Fit r ps → Ends r ps → Fit r (a o ps) × Starts r (a o ps) × (o ≡ true → dashed (text_of (a o ps) ++ r) ≡ false)

abbrev Fines : List ℕ → List Part → Type 0
Fines r [] = Unit {0}
Fines r (a ∷ xs) = Fine r a × Fines r xs

-- ---- words
word_well : (r : List ℕ) (k : TokenView) (w : Word) → token_text k ≡ w → Wordy w → Small k → (ps : List Piece) → Fit r ps → Ends r ps → Fit r (token k ∷ ps) × Starts r (token k ∷ ps)
word_well r k w e h s ps f n = ((word_fits k w (text_of ps ++ r) e h s n, f), ap starts (assoc (token_text k) (text_of ps) r) ∙ word_starts k w (text_of ps ++ r) e h)
  where
    assoc : (a b c : List ℕ) → (a ++ b) ++ c ≡ a ++ (b ++ c)
    assoc [] b c = refl
    assoc (x ∷ a) b c = ap (λ (l : List ℕ). x ∷ l) (assoc a b c)

name_well : (r : List ℕ) (x : Word) → IsIdentifier x → (ps : List Piece) → Fit r ps → Ends r ps → Fit r (token (tk.word x) ∷ ps) × Starts r (token (tk.word x) ∷ ps)
name_well r x h ps f n = word_well r (tk.word x) x refl (name_wordy x h.0) tt ps f n

field_small : (b : Bool) (x : Word) → Small (field_kind b x)
field_small true x = tt
field_small false x = tt

field_well : (r : List ℕ) (x : Word) → IsField x → (ps : List Piece) → Fit r ps → Ends r ps → Fit r (field x ps) × Starts r (field x ps)
field_well r x h ps f n = word_well r (field_kind (is_pluscal_word x) x) x (field_text (is_pluscal_word x) x) (name_wordy x h.0) (field_small (is_pluscal_word x) x) ps f n

-- `.a`
dotted : (r : List ℕ) (x : Word) → IsField x → (ps : List Piece) → Fit r ps → Ends r ps → Fit r (mark tk.dot (field x ps))
dotted r x h ps f n = (dot_fits _ (ap is_first (assoc (token_text k) (text_of ps) r) ∙ word_first k x (text_of ps ++ r) (field_text (is_pluscal_word x) x) (name_wordy x h.0)), (field_well r x h ps f n).0)
  where
    k : TokenView
    k = field_kind (is_pluscal_word x) x

    assoc : (a b c : List ℕ) → (a ++ b) ++ c ≡ a ++ (b ++ c)
    assoc [] b c = refl
    assoc (y ∷ a) b c = ap (λ (l : List ℕ). y ∷ l) (assoc a b c)

-- what begins with an operand
first : (r : List ℕ) (a : Part) → Fine r a → (ps : List Piece) → Fit r ps → Ends r ps → Fit r (a true ps) × Starts r (a true ps)
first r a h ps f e = (let u = h true ps f e in (u.0, u.1))

-- ---- operators
infix_sign_fit : (r : List ℕ) (o : Op) (ps : List Piece) → Fit r ps → Fit r (infix_sign o ps)
infix_sign_fit r op.Range ps f = (range_fits _, f)
infix_sign_fit r o ps f = (sign_fits o _, f)

infix_ends : (r : List ℕ) (o : Op) (ps : List Piece) → Ends r (infix_sign o ps)
infix_ends r op.Range ps = refl
infix_ends r o ps = refl

prefix_well : (r : List ℕ) (o : Op) → is_prefix o ≡ true → (ps : List Piece) → Fit r ps → Starts r ps → dashed (text_of ps ++ r) ≡ false → Fit r (prefix_sign o ps) × Starts r (prefix_sign o ps)
prefix_well r op.Negate h ps f s d = ((minus_fits _ s d, f), refl)
prefix_well r op.Not h ps f s d = ((not_fits _, f), refl)
prefix_well r op.Subset h ps f s d = ((sign_fits op.Subset _, f), refl)
prefix_well r op.Union h ps f s d = ((sign_fits op.Union _, f), refl)
prefix_well r op.Domain h ps f s d = ((sign_fits op.Domain _, f), refl)
prefix_well r o h ps f s d = absurd cc

infix_well : (r : List ℕ) (o : Op) (xs : List Part) → length xs ≡ operands (is_prefix o) → Fines r xs → (ps : List Piece) → Fit r ps → Ends r ps → Fit r (infix_pieces o xs ps) × Starts r (infix_pieces o xs ps)
infix_well r o (a ∷ []) n w ps f e = (let u = w.0 true ps f e in prefix_well r o (single (is_prefix o) n) (a true ps) u.0 u.1 (u.2 refl))
  where
    single : (p : Bool) → ◌≡◌ {A = ℕ} 1 (operands p) → p ≡ true
    single true h = refl
    single false h = absurd (omega (arith, h))
infix_well r o (a ∷ b ∷ []) n w ps f e = (let u = w.0 true (infix_sign o (b true ps)) (infix_sign_fit r o (b true ps) (w.1.0 true ps f e).0) (infix_ends r o (b true ps)) in (u.0, u.1))
infix_well r o [] n w ps f e = absurd (none (is_prefix o) n)
  where
    none : (p : Bool) → ◌≡◌ {A = ℕ} 0 (operands p) → ⊥
    none true h = omega (arith, h)
    none false h = omega (arith, h)
infix_well r o (a ∷ b ∷ c ∷ xs) n w ps f e = absurd (many (is_prefix o) n)
  where
    many : (p : Bool) → ◌≡◌ {A = ℕ} (length (a ∷ b ∷ c ∷ xs)) (operands p) → ⊥
    many true h = omega (arith, h)
    many false h = omega (arith, h)

-- ---- lists
listed_well : (r : List ℕ) (xs : List Part) → Fines r xs → (ps : List Piece) → Fit r ps → Ends r ps → Fit r (listed xs ps) × (Starts r ps → Starts r (listed xs ps))
listed_well r [] w ps f e = (f, λ s. s)
listed_well r (a ∷ []) w ps f e = (let u = w.0 false ps f e in (u.0, λ s. u.1))
listed_well r (a ∷ b ∷ xs) w ps f e = (let u = w.0 false _ (comma_fits _, (listed_well r (b ∷ xs) w.1 ps f e).0) refl in (u.0, λ s. u.1))

-- the sign between a field and what it has
record Between (r : List ℕ) (g : List Piece → List Piece) : Type 0 where
  fits : (ps : List Piece) → Fit r ps → Fit r (g ps)
  ends : (ps : List Piece) → Ends r (g ps)

fields_well : (r : List ℕ) (g : List Piece → List Piece) → Between r g → (ys : List Word) → Each IsField ys → (xs : List Part) → 1 ≤ length xs → length xs ≡ length ys → Fines r xs → (ps : List Piece) → Fit r ps → Ends r ps → Fit r (field_pieces g ys xs ps) × Starts r (field_pieces g ys xs ps)
fields_well r g b (y ∷ []) h (a ∷ []) o n w ps f e = field_well r y h.0 (g (a false ps)) (b.fits (a false ps) (w.0 false ps f e).0) (b.ends (a false ps))
fields_well r g b (y ∷ z ∷ ys) h (a ∷ c ∷ xs) o n w ps f e =
    let more : List Piece = comma (field_pieces g (z ∷ ys) (c ∷ xs) ps) in
    let rest = w.0 false more (comma_fits _, (fields_well r g b (z ∷ ys) h.1 (c ∷ xs) (omega arith) (omega (arith, n)) w.1 ps f e).0) refl in
    field_well r y h.0 (g (a false more)) (b.fits (a false more) rest.0) (b.ends (a false more))
fields_well r g b ys h [] o n w ps f e = absurd (omega (arith, o))
fields_well r g b [] h (a ∷ xs) o n w ps f e = absurd (omega (arith, n))
fields_well r g b (y ∷ []) h (a ∷ c ∷ xs) o n w ps f e = absurd (omega (arith, n))
fields_well r g b (y ∷ z ∷ ys) h (a ∷ []) o n w ps f e = absurd (omega (arith, n))

names_well : (r : List ℕ) (g : List Name) → Each IsIdentifier (words g) → (ps : List Piece) → Fit r ps → Ends r ps → Fit r (name_pieces g ps) × (Starts r ps → Starts r (name_pieces g ps))
names_well r [] h ps f e = (f, λ s. s)
names_well r (x ∷ []) h ps f e = (let u = name_well r x.word h.0 ps f e in (u.0, λ s. u.1))
names_well r (x ∷ y ∷ g) h ps f e = (let u = name_well r x.word h.0 (comma (name_pieces (y ∷ g) ps)) (comma_fits _, (names_well r (y ∷ g) h.1 ps f e).0) refl in (u.0, λ s. u.1))

binds_well : (r : List ℕ) (gs : List (List Name)) → Each IsIdentifier (flat_map words gs) → (xs : List Part) → Fines r xs → (ps : List Piece) → Fit r ps → Ends r ps → Fit r (bind_pieces gs xs ps) × (Starts r ps → Starts r (bind_pieces gs xs ps))
binds_well r (g ∷ []) h (a ∷ xs) w ps f e =
    let u = names_well r g (each_left IsIdentifier (words g) [] h) _ (sign_fits op.In _, (w.0 true ps f e).0) refl in (u.0, λ s. u.1 refl)
binds_well r (g ∷ k ∷ gs) h (a ∷ xs) w ps f e =
    let rest = binds_well r (k ∷ gs) (each_right IsIdentifier (words g) (flat_map words (k ∷ gs)) h) xs w.1 ps f e in
    let u = names_well r g (each_left IsIdentifier (words g) (flat_map words (k ∷ gs)) h) _ (sign_fits op.In _, (w.0 true _ (comma_fits _, rest.0) refl).0) refl in (u.0, λ s. u.1 refl)
binds_well r [] h xs w ps f e = (f, λ s. s)
binds_well r (g ∷ []) h [] w ps f e = (f, λ s. s)
binds_well r (g ∷ k ∷ gs) h [] w ps f e = (f, λ s. s)

definitions_fit : (r : List ℕ) (ys : List Name) → Each IsIdentifier (words ys) → (xs : List Part) → Fines r xs → (ps : List Piece) → Fit r ps → Ends r ps → Fit r (definition_pieces ys xs ps)
definitions_fit r (x ∷ []) h (a ∷ xs) w ps f e = (name_well r x.word h.0 (spaced (tk.mark tk.defines) (a false ps)) (defines_fits _, (w.0 false ps f e).0) refl).0
definitions_fit r (x ∷ y ∷ ys) h (a ∷ xs) w ps f e = (let more : List Piece = blank ∷ definition_pieces (y ∷ ys) xs ps in (name_well r x.word h.0 (spaced (tk.mark tk.defines) (a false more)) (defines_fits _, (w.0 false more (definitions_fit r (y ∷ ys) h.1 xs w.1 ps f e) refl).0) refl).0)
definitions_fit r [] h xs w ps f e = f
definitions_fit r (x ∷ []) h [] w ps f e = f
definitions_fit r (x ∷ y ∷ ys) h [] w ps f e = f

body_fit : {A : Type 0} (r : List ℕ) (ys : List A) (xs : List Part) → Fines r xs → (o : Bool) (ps : List Piece) → Fit r ps → Ends r ps → Fit r (body ys xs o ps)
body_fit r [] (a ∷ xs) w o ps f e = (w.0 o ps f e).0
body_fit r (y ∷ ys) (a ∷ xs) w o ps f e = body_fit r ys xs w.1 o ps f e
body_fit r [] [] w o ps f e = f
body_fit r (y ∷ ys) [] w o ps f e = f

binding_well : (r : List ℕ) (b : Binder) (gs : List (List Name)) → Each IsIdentifier (flat_map words gs) → (xs : List Part) → Fines r xs → (ps : List Piece) → Fit r ps → Ends r ps → Fit r (binding_pieces b gs xs ps) × Starts r (binding_pieces b gs xs ps)
binding_well r binder.ForAll gs h xs w ps f e = ((key_fits tk.for_all_key _, (binds_well r gs h xs w _ (colon_fits _, body_fit r gs xs w false ps f e) refl).0), refl)
binding_well r binder.Exists gs h xs w ps f e = ((key_fits tk.exists_key _, (binds_well r gs h xs w _ (colon_fits _, body_fit r gs xs w false ps f e) refl).0), refl)
binding_well r binder.Filter gs h xs w ps f e = ((open_brace_fits _, (binds_well r gs h xs w _ (colon_fits _, body_fit r gs xs w false _ (close_brace_fits _, f) refl) refl).0), refl)
binding_well r binder.Image gs h xs w ps f e = ((open_brace_fits _, body_fit r gs xs w true _ (colon_fits _, (binds_well r gs h xs w _ (close_brace_fits _, f) refl).0) refl), refl)
binding_well r binder.Function gs h xs w ps f e =
    let u = binds_well r gs h xs w _ (maps_fits _, body_fit r gs xs w false _ (close_square_fits _, f) refl) refl in ((open_square_fits _ (u.1 refl), u.0), refl)

-- ---- EXCEPT
abbrev Goes : List ℕ → (List Part → List Piece) → Type 0
Goes r rest = (ys : List Part) → Fines r ys → Fit r (rest ys) × Ends r (rest ys)

path_fit : (r : List ℕ) (ss : List PathStep) → Each IsField (fields_in_path ss) → (xs : List Part) → Fines r xs → (rest : List Part → List Piece) → Goes r rest → Fit r (path_pieces ss xs rest) × Ends r (path_pieces ss xs rest)
path_fit r [] h xs w rest g = g xs w
path_fit r (tree.index ∷ ss) h (a ∷ xs) w rest g = (let u = w.0 false _ (close_square_fits _, (path_fit r ss h xs w.1 rest g).0) refl in ((open_square_fits _ u.1, u.0), refl))
path_fit r (tree.index ∷ ss) h [] w rest g = path_fit r ss h [] w rest g
path_fit r (tree.field x ∷ ss) h xs w rest g = (let u = path_fit r ss h.1 xs w rest g in (dotted r x h.0 (path_pieces ss xs rest) u.0 u.1, refl))

right_fit : (r : List ℕ) (xs : List Part) → Fines r xs → (rest : List Part → List Piece) → Goes r rest → Fit r (right_side xs rest) × Ends r (right_side xs rest)
right_fit r [] w rest g = g [] tt
right_fit r (a ∷ xs) w rest g = (let u = g xs w.1 in ((sign_fits op.Equal _, (w.0 false _ u.0 u.1).0), refl))

abbrev fields_in_slots : List Slot → List Word
fields_in_slots ss = flat_map (λ (s : Slot). fields_in_path s.path) ss

slots_fit : (r : List ℕ) (ss : List Slot) → Each IsField (fields_in_slots ss) → (xs : List Part) → Fines r xs → (ps : List Piece) → Fit r ps → Ends r ps → Fit r (slot_pieces ss xs ps)
slots_fit r [] h xs w ps f e = f
slots_fit r (t ∷ []) h xs w ps f e = (bang_fits _, (path_fit r t.path (each_left IsField (fields_in_path t.path) [] h) xs w _ (λ ys v. right_fit r ys v _ (λ zs u. (f, e)))).0)
slots_fit r (t ∷ s ∷ ss) h xs w ps f e =
    (bang_fits _, (path_fit r t.path (each_left IsField (fields_in_path t.path) (fields_in_slots (s ∷ ss)) h) xs w _ (λ ys v. right_fit r ys v _ (λ zs u. ((comma_fits _, slots_fit r (s ∷ ss) (each_right IsField (fields_in_path t.path) (fields_in_slots (s ∷ ss)) h) zs u ps f e), refl)))).0)

-- ---- all forms
strict_well : (r : List ℕ) (m : Strict) (xs : List Part) → StrictShaped m (length xs) → Each IsField (fields_in (tree.strict m)) → Fines r xs → (ps : List Piece) → Fit r ps → Ends r ps → Fit r (strict_pieces m xs ps) × Starts r (strict_pieces m xs ps)
strict_well r (tree.operator o) xs h i w ps f e = infix_well r o xs h.1 w ps f e
strict_well r tree.set_of xs h i w ps f e = ((open_brace_fits _, (listed_well r xs w _ (close_brace_fits _, f) refl).0), refl)
strict_well r tree.tuple xs h i w ps f e = ((open_tuple_fits _, (listed_well r xs w _ (close_tuple_fits _, f) refl).0), refl)
strict_well r (tree.fields ys) xs h i w ps f e = (let u = fields_well r (spaced (tk.mark tk.maps)) (record { fits = λ qs s. (maps_fits _, s); ends = λ qs. refl }) ys i xs h.0 h.1 w _ (close_square_fits _, f) refl in ((open_square_fits _ u.1, u.0), refl))
strict_well r (tree.records ys) xs h i w ps f e = (let u = fields_well r colon (record { fits = λ qs s. (colon_fits _, s); ends = λ qs. refl }) ys i xs h.0 h.1 w _ (close_square_fits _, f) refl in ((open_square_fits _ u.1, u.0), refl))
strict_well r tree.functions (a ∷ b ∷ xs) h i w ps f e = (let u = w.0 false _ (arrow_fits _, (w.1.0 false _ (close_square_fits _, f) refl).0) refl in ((open_square_fits _ u.1, u.0), refl))
strict_well r tree.functions [] h i w ps f e = absurd (omega (arith, h))
strict_well r tree.functions (a ∷ []) h i w ps f e = absurd (omega (arith, h))
strict_well r tree.apply (a ∷ b ∷ xs) h i w ps f e = (let u = w.1.0 false _ (close_square_fits _, f) refl in first r a w.0 _ (open_square_fits _ u.1, u.0) refl)
strict_well r tree.apply [] h i w ps f e = absurd (omega (arith, h))
strict_well r tree.apply (a ∷ []) h i w ps f e = absurd (omega (arith, h))
strict_well r (tree.select x) (a ∷ xs) h i w ps f e = first r a w.0 _ (dotted r x i.0 ps f e) refl
strict_well r (tree.select x) [] h i w ps f e = absurd (omega (arith, h))
strict_well r (tree.except ss) (a ∷ xs) h i w ps f e = (let u = w.0 true _ (key_fits tk.except_key _, slots_fit r ss i xs w.1 _ (close_square_fits _, f) refl) refl in ((open_square_fits _ u.1, u.0), refl))
strict_well r (tree.except ss) [] h i w ps f e = absurd (omega (arith, h.1))

arms_fit : (r : List ℕ) (b : Bool) (xs : List Part) → Fines r xs → (ps : List Piece) → Fit r ps → Ends r ps → Fit r (arm_pieces b xs ps)
arms_fit r true [] w ps f e = f
arms_fit r false [] w ps f e = f
arms_fit r true (a ∷ []) w ps f e = (key_fits tk.other_key _, (arrow_fits _, (w.0 true ps f e).0))
arms_fit r false (a ∷ []) w ps f e = f
arms_fit r true (c ∷ a ∷ []) w ps f e = (w.0 true _ (arrow_fits _, (w.1.0 true ps f e).0) refl).0
arms_fit r false (c ∷ a ∷ []) w ps f e = (w.0 true _ (arrow_fits _, (w.1.0 true ps f e).0) refl).0
arms_fit r true (c ∷ a ∷ b ∷ xs) w ps f e = (w.0 true _ (arrow_fits _, (w.1.0 true _ (box_fits _, arms_fit r true (b ∷ xs) w.1.1 ps f e) refl).0) refl).0
arms_fit r false (c ∷ a ∷ b ∷ xs) w ps f e = (w.0 true _ (arrow_fits _, (w.1.0 true _ (box_fits _, arms_fit r false (b ∷ xs) w.1.1 ps f e) refl).0) refl).0

choice_well : (r : List ℕ) (xs : List Part) → length xs ≡ 3 → Fines r xs → (ps : List Piece) → Fit r ps → Ends r ps → Fit r (choice_pieces xs ps) × Starts r (choice_pieces xs ps)
choice_well r (a ∷ b ∷ c ∷ []) n w ps f e = ((key_fits tk.if_key _, (w.0 false _ (key_fits tk.then_key _, (w.1.0 false _ (key_fits tk.else_key _, (w.1.1.0 false ps f e).0) refl).0) refl).0), refl)
choice_well r [] n w ps f e = absurd (omega (arith, n))
choice_well r (a ∷ []) n w ps f e = absurd (omega (arith, n))
choice_well r (a ∷ b ∷ []) n w ps f e = absurd (omega (arith, n))
choice_well r (a ∷ b ∷ c ∷ d ∷ xs) n w ps f e = absurd (omega (arith, n))

form_well : (r : List ℕ) (m : Form) (xs : List Part) → Shaped m (length xs) → Each IsIdentifier (names_in m) → Each IsField (fields_in m) → Each IsString (strings_in m) → Fines r xs → (ps : List Piece) → Fit r ps → Ends r ps → Fit r (form_pieces m xs ps) × Starts r (form_pieces m xs ps)
form_well r (tree.number n) xs h i j t w ps f e = word_well r (tk.number n) (token_text (tk.number n)) refl (number_wordy n h.0) h.0 ps f e
form_well r (tree.string x) xs h i j t w ps f e = ((string_fits x _ t.0, f), refl)
form_well r (tree.truth b) xs h i j t w ps f e = word_well r (tk.constant (tk.truth b)) _ refl (constant_wordy (tk.truth b)) tt ps f e
form_well r tree.booleans xs h i j t w ps f e = word_well r (tk.constant tk.booleans) _ refl (constant_wordy tk.booleans) tt ps f e
form_well r tree.strings xs h i j t w ps f e = word_well r (tk.constant tk.strings) _ refl (constant_wordy tk.strings) tt ps f e
form_well r (tree.name x) xs h i j t w ps f e = name_well r x i.0 ps f e
form_well r (tree.next x) xs h i j t w ps f e = name_well r x i.0 (mark tk.prime ps) (prime_fits _, f) refl
form_well r (tree.strict m) xs h i j t w ps f e = strict_well r m xs h j w ps f e
form_well r (tree.operator_call x) xs h i j t w ps f e = (let u = listed_well r xs w (mark tk.close_bracket ps) (close_bracket_fits _, f) refl in name_well r x i.0 (mark tk.open_bracket (listed xs (mark tk.close_bracket ps))) (open_bracket_fits _ (u.1 refl), u.0) refl)
form_well r tree.conjunction xs h i j t w ps f e = infix_well r op.And xs h w ps f e
form_well r tree.disjunction xs h i j t w ps f e = infix_well r op.Or xs h w ps f e
form_well r tree.implication xs h i j t w ps f e = infix_well r op.Implies xs h w ps f e
form_well r (tree.member true) xs h i j t w ps f e = infix_well r op.In xs h w ps f e
form_well r (tree.member false) xs h i j t w ps f e = infix_well r op.NotIn xs h w ps f e
form_well r tree.if_then_else xs h i j t w ps f e = choice_well r xs h w ps f e
form_well r (tree.cases b) xs h i j t w ps f e = ((key_fits tk.case_key _, arms_fit r b xs w ps f e), refl)
form_well r (tree.binding b gs) xs h i j t w ps f e = binding_well r b gs i xs w ps f e
form_well r (tree.local ys) xs h i j t w ps f e = ((key_fits tk.let_key _, definitions_fit r ys i xs w _ (key_fits tk.in_key _, body_fit r ys xs w false ps f e) refl), refl)

-- ---- what is in no brackets begins with no dash
abbrev Undashed : List ℕ → List Piece → Type 0
Undashed r ps = dashed (text_of ps ++ r) ≡ false

name_undashed : (r : List ℕ) (x : Word) → IsIdentifier x → (ps : List Piece) → Undashed r (token (tk.word x) ∷ ps)
name_undashed r x h ps = ap dashed (append_assoc x (text_of ps) r) ∙ word_undashed x (text_of ps ++ r) (name_wordy x h.0)

strict_undashed : (r : List ℕ) (m : Strict) (xs : List Part) → StrictShaped m (length xs) → Each IsField (fields_in (tree.strict m)) → Fines r xs → (ps : List Piece) → Fit r ps → Ends r ps → is_bracketed (tree.strict m) ≡ false → Undashed r (strict_pieces m xs ps)
strict_undashed r (tree.operator o) xs h i w ps f e n = absurd cc
strict_undashed r tree.functions (a ∷ b ∷ xs) h i w ps f e n = refl
strict_undashed r tree.functions [] h i w ps f e n = absurd (omega (arith, h))
strict_undashed r tree.functions (a ∷ []) h i w ps f e n = absurd (omega (arith, h))
strict_undashed r tree.apply (a ∷ b ∷ xs) h i w ps f e n = (let u = w.1.0 false _ (close_square_fits _, f) refl in (w.0 true _ (open_square_fits _ u.1, u.0) refl).2 refl)
strict_undashed r tree.apply [] h i w ps f e n = absurd (omega (arith, h))
strict_undashed r tree.apply (a ∷ []) h i w ps f e n = absurd (omega (arith, h))
strict_undashed r (tree.select x) (a ∷ xs) h i w ps f e n = (w.0 true _ (dotted r x i.0 ps f e) refl).2 refl
strict_undashed r (tree.select x) [] h i w ps f e n = absurd (omega (arith, h))
strict_undashed r (tree.except ss) (a ∷ xs) h i w ps f e n = refl
strict_undashed r (tree.except ss) [] h i w ps f e n = absurd (omega (arith, h.1))
strict_undashed r m xs h i w ps f e n = refl

form_undashed : (r : List ℕ) (m : Form) (xs : List Part) → Shaped m (length xs) → Each IsIdentifier (names_in m) → Each IsField (fields_in m) → Fines r xs → (ps : List Piece) → Fit r ps → Ends r ps → is_bracketed m ≡ false → Undashed r (form_pieces m xs ps)
form_undashed r (tree.number n) xs h i j w ps f e k = ap dashed (append_assoc (token_text (tk.number n)) (text_of ps) r) ∙ word_undashed (token_text (tk.number n)) (text_of ps ++ r) (number_wordy n h.0)
form_undashed r (tree.name x) xs h i j w ps f e k = name_undashed r x i.0 ps
form_undashed r (tree.next x) xs h i j w ps f e k = name_undashed r x i.0 (mark tk.prime ps)
form_undashed r (tree.operator_call x) xs h i j w ps f e k = name_undashed r x i.0 (mark tk.open_bracket (listed xs (mark tk.close_bracket ps)))
form_undashed r (tree.strict m) xs h i j w ps f e k = strict_undashed r m xs h j w ps f e k
form_undashed r (tree.string x) xs h i j w ps f e k = refl
form_undashed r (tree.truth true) xs h i j w ps f e k = refl
form_undashed r (tree.truth false) xs h i j w ps f e k = refl
form_undashed r tree.booleans xs h i j w ps f e k = refl
form_undashed r tree.strings xs h i j w ps f e k = refl
form_undashed r (tree.binding binder.Filter gs) xs h i j w ps f e k = refl
form_undashed r (tree.binding binder.Image gs) xs h i j w ps f e k = refl
form_undashed r (tree.binding binder.Function gs) xs h i j w ps f e k = refl
form_undashed r m xs h i j w ps f e k = absurd cc

-- ---- a form as a part
abbrev Well : List ℕ → Form → List Part → Type 0
Well r m xs = (ps : List Piece) → Fit r ps → Ends r ps → Fit r (form_pieces m xs ps) × Starts r (form_pieces m xs ps)

part_fine : (r : List ℕ) (m : Form) (xs : List Part) → Well r m xs → ((ps : List Piece) → Fit r ps → Ends r ps → is_bracketed m ≡ false → Undashed r (form_pieces m xs ps)) → Fine r (form_part m xs)
part_fine r m xs h d false ps f e = (let u = h ps f e in (u.0, u.1, λ o. absurd cc))
part_fine r m xs h d true ps f e = by (is_bracketed m) refl
  where
    by : (b : Bool) → is_bracketed m ≡ b → Fit r (bracketed b (form_pieces m xs) ps) × Starts r (bracketed b (form_pieces m xs) ps) × (true ≡ true → Undashed r (bracketed b (form_pieces m xs) ps))
    by true n = (let u = h _ (close_bracket_fits _, f) refl in ((open_bracket_fits _ u.1, u.0), refl, λ o. refl))
    by false n = (let u = h ps f e in (u.0, u.1, λ o. d ps f e n))

mutual
  tree_fine : (r : List ℕ) (t : Tree) → IsWritable t → Fine r (part t)
  tree_fine r (node m at ts) (h, i, j, t, w) =
      let s = subst (λ (n : ℕ). Shaped m n) (counted ts) h in
      let fs = trees_fine r ts w in
      part_fine r m (parts ts) (form_well r m (parts ts) s i j t fs) (form_undashed r m (parts ts) s i j fs)

  trees_fine : (r : List ℕ) (ts : Trees) → AreWritable ts → Fines r (parts ts)
  trees_fine r no_trees w = tt
  trees_fine r (tree t ts) w = (tree_fine r t w.0, trees_fine r ts w.1)

pub written_fits : (r : List ℕ) (t : Tree) → IsWritable t → (o : Bool) → ends_word r ≡ true → Fit r (part t o [])
written_fits r t w o e = (tree_fine r t w o [] tt e).0

-- and it begins with none of * > ], and with no bar
pub written_starts : (r : List ℕ) (t : Tree) → IsWritable t → (o : Bool) → ends_word r ≡ true → starts (text_of (part t o []) ++ r) ≡ true
written_starts r t w o e = (tree_fine r t w o [] tt e).1
