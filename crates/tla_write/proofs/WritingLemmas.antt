-- Items that are put one after the other, and what they show.
use Rattle.std.proofs.Common.{◌≡◌, ℕ, zero, suc, ◌+◌, ◌-◌, ◌<◌, ◌≤◌, Bool, true, false, nat_lt, List, [], ◌∷◌, ◌++◌, length, drop, take, map, get_or, Some, refl, sym, ap, subst, ◌∙◌, arith, append_assoc, append-nil, length-drop, Vec}
use Rattle.std.specs.declared.alloc.Global.{Global}
use Rattle.std.proofs.lemmas.List.{length-map}
use Rattle.std.specs.Prelude.{slice_get}
use Rattle.std.proofs.lemmas.Bool.{ltb-true, lt-ltb, both_ways}
use Rattle.tla_token.specs.Words.{is_pluscal_word}
use Rattle.tla_tree.proofs.FitTokens.{field_text}
use Rattle.tla_write.specs.declared.write.Item.{Item}
use Rattle.tla_tree.specs.declared.op.Op.{Op}
use Rattle.tla_tree.specs.declared.op.Op.TheVariants as op
use Rattle.tla_tree.specs.Rank.{is_prefix}
use Rattle.tla_tree.specs.declared.op.Binder.{Binder}
use Rattle.tla_tree.specs.declared.op.Binder.TheVariants as binder
use Rattle.tla_pool.specs.FormOf.{groups_of}
use Rattle.tla_tree.specs.Shapes.{operands, subscripts, settings, IsPaired, CaseShaped, BinderShaped}
use Rattle.tla_tree.specs.Tree.{Word, Name, PathStep, Slot, Form, Tree, Trees, node, no_trees}
use Rattle.tla_tree.specs.TreeOf.{list_of, root_form, root_parts}
use Rattle.tla_tree.specs.Tree as tree
use Rattle.tla_tree.specs.Lexical as tk
use Rattle.tla_tree.specs.Written.{Piece, blank, token, Part, mark, word, field, spaced, comma, prefix_sign, infix_sign, infix_pieces, choice_pieces, listed, field_pieces, name_pieces, bind_pieces, definition_pieces, body, path_pieces, right_side, slot_pieces, strict_pieces, arm_pieces, form_pieces, is_bracketed, bracketed, form_part, part, parts, text_of}
use Rattle.tla_write.specs.Writing.{part_at, item_pieces, shown, comma_items, blank_items, box_items, slots_behind, IsTwice}

pub shown_append : (xs : List Part) (is js : List Item) (ps : List Piece) → shown xs (is ++ js) ps ≡ shown xs js (shown xs is ps)
shown_append xs [] js ps = refl
shown_append xs (i ∷ is) js ps = shown_append xs is js (item_pieces xs i ps)

-- ---- forms of few parts
pub choice_shown : (xs : List Part) → length xs ≡ 3 → (ps : List Piece)
    → token (tk.key tk.if_key) ∷ blank ∷ part_at xs 0 false (spaced (tk.key tk.then_key) (part_at xs 1 false (spaced (tk.key tk.else_key) (part_at xs 2 false ps)))) ≡ choice_pieces xs ps
choice_shown (a ∷ b ∷ c ∷ []) h ps = refl
choice_shown [] h ps = absurd (omega (arith, h))
choice_shown (a ∷ []) h ps = absurd (omega (arith, h))
choice_shown (a ∷ b ∷ []) h ps = absurd (omega (arith, h))
choice_shown (a ∷ b ∷ c ∷ d ∷ xs) h ps = absurd (omega (arith, h))

pub prefix_other : (o : Op) → (o ≡ op.Negate → ⊥) → (o ≡ op.Not → ⊥) → (ps : List Piece) → token (tk.sign o) ∷ blank ∷ ps ≡ prefix_sign o ps
prefix_other op.Negate h k ps = absurd (h refl)
prefix_other op.Not h k ps = absurd (k refl)
prefix_other o h k ps = refl

pub infix_other : (o : Op) → (o ≡ op.Range → ⊥) → (ps : List Piece) → spaced (tk.sign o) ps ≡ infix_sign o ps
infix_other op.Range h ps = absurd (h refl)
infix_other o h ps = refl

pub one_operand : (o : Op) (xs : List Part) (n : ℕ) → length xs ≡ n → n ≡ 1 → (ps : List Piece) → prefix_sign o (part_at xs 0 true ps) ≡ infix_pieces o xs ps
one_operand o (a ∷ []) n h k ps = refl
one_operand o [] n h k ps = absurd (omega (arith, h, k))
one_operand o (a ∷ b ∷ xs) n h k ps = absurd (omega (arith, h, k))

pub two_operands : (o : Op) (xs : List Part) (n : ℕ) → length xs ≡ n → n ≡ operands (is_prefix o) → (n ≡ 1 → ⊥) → (ps : List Piece) → part_at xs 0 true (infix_sign o (part_at xs 1 true ps)) ≡ infix_pieces o xs ps
two_operands o (a ∷ b ∷ []) n h k l ps = refl
two_operands o [] n h k l ps = absurd (none (is_prefix o) (h ∙ k))
  where
    none : (p : Bool) → ◌≡◌ {A = ℕ} 0 (operands p) → ⊥
    none true e = omega (arith, e)
    none false e = omega (arith, e)
two_operands o (a ∷ []) n h k l ps = absurd (l (sym h))
two_operands o (a ∷ b ∷ c ∷ xs) n h k l ps = absurd (many (is_prefix o) (h ∙ k))
  where
    many : (p : Bool) → ◌≡◌ {A = ℕ} (length (a ∷ b ∷ c ∷ xs)) (operands p) → ⊥
    many true e = omega (arith, e)
    many false e = omega (arith, e)

-- ---- the next element
drop_at : {A : Type 0} (ys : List A) (j : ℕ) (d : A) → j < length ys → drop j ys ≡ get_or ys j d ∷ drop (suc j) ys
drop_at [] j d h = absurd (omega arith)
drop_at (y ∷ ys) zero d h = refl
drop_at (y ∷ ys) (suc j) d h = drop_at ys j d (omega (arith, h))

pub drop_next : {A : Type 0} (ys : List A) (i : ℕ) (d : A) → 0 < i → i ≤ length ys → drop (i - 1) ys ≡ get_or ys (i - 1) d ∷ drop i ys
drop_next ys i d h l =
    let e : suc (i - 1) ≡ i = omega (arith, h) in
    drop_at ys (i - 1) d (omega (arith, h, l)) ∙ ap (λ (k : ℕ). get_or ys (i - 1) d ∷ drop k ys) e

part_drop : (xs : List Part) (j : ℕ) → j < length xs → drop j xs ≡ part_at xs j ∷ drop (suc j) xs
part_drop [] j h = absurd (omega arith)
part_drop (a ∷ xs) zero h = refl
part_drop (a ∷ xs) (suc j) h = part_drop xs j (omega (arith, h))

pub part_next : (xs : List Part) (i : ℕ) → 0 < i → i ≤ length xs → drop (i - 1) xs ≡ part_at xs (i - 1) ∷ drop i xs
part_next xs i h l =
    let e : suc (i - 1) ≡ i = omega (arith, h) in
    part_drop xs (i - 1) (omega (arith, h, l)) ∙ ap (λ (k : ℕ). part_at xs (i - 1) ∷ drop k xs) e

abbrev pub is_more : {A : Type 0} → List A → Bool
is_more [] = false
is_more (y ∷ ys) = true

more_by : {A : Type 0} (b : Bool) (i n : ℕ) → nat_lt i n ≡ b → (r : List A) → length r ≡ n - i → b ≡ is_more r
more_by true i n e [] l = (let x = ltb-true i n e in absurd (omega (arith, x, l)))
more_by true i n e (y ∷ r) l = refl
more_by false i n e [] l = refl
more_by false i n e (y ∷ r) l = absurd (both_ways (nat_lt i n) e (lt-ltb i n (omega (arith, l))))

more_left : {A : Type 0} (ys : List A) (i n : ℕ) → length ys ≡ n → nat_lt i n ≡ is_more (drop i ys)
more_left ys i n h = more_by (nat_lt i n) i n refl (drop i ys) (length-drop i ys ∙ ap (λ (m : ℕ). m - i) h)

abbrev pub comma_by : Bool → List Piece → List Piece
comma_by true ps = comma ps
comma_by false ps = ps

comma_shown : (b : Bool) (xs : List Part) (ps : List Piece) → shown xs (comma_items b) ps ≡ comma_by b ps
comma_shown true xs ps = refl
comma_shown false xs ps = refl

comma_next : {A : Type 0} (ys : List A) (i n : ℕ) → length ys ≡ n → (xs : List Part) (ps : List Piece) → shown xs (comma_items (nat_lt i n)) ps ≡ comma_by (is_more (drop i ys)) ps
comma_next ys i n h xs ps = comma_shown (nat_lt i n) xs ps ∙ ap (λ (b : Bool). comma_by b ps) (more_left ys i n h)

-- ---- lists
listed_front : (a : Part) (r : List Part) (ps : List Piece) → a false (comma_by (is_more r) (listed r ps)) ≡ listed (a ∷ r) ps
listed_front a [] ps = refl
listed_front a (c ∷ r) ps = refl

pub listed_next : (xs : List Part) (n i : ℕ) → length xs ≡ n → 0 < i → i ≤ n → (ps : List Piece) → part_at xs (i - 1) false (shown xs (comma_items (nat_lt i n)) (listed (drop i xs) ps)) ≡ listed (drop (i - 1) xs) ps
listed_next xs n i h p l ps =
    ap (λ (q : List Piece). part_at xs (i - 1) false q) (comma_next xs i n h xs (listed (drop i xs) ps)) ∙ listed_front (part_at xs (i - 1)) (drop i xs) ps ∙ ap (λ (r : List Part). listed r ps) (sym (part_next xs i p (omega (arith, h, l))))

same_more : {A B : Type 0} (ys : List A) (zs : List B) (i : ℕ) → length ys ≡ length zs → is_more (drop i ys) ≡ is_more (drop i zs)
same_more ys zs i h = sym (more_left ys i (length zs) h) ∙ more_left zs i (length zs) refl

fields_front : (s : List Piece → List Piece) (y : Word) (ys : List Word) (a : Part) (r : List Part) → is_more ys ≡ is_more r → (ps : List Piece) → field y (s (a false (comma_by (is_more ys) (field_pieces s ys r ps)))) ≡ field_pieces s (y ∷ ys) (a ∷ r) ps
fields_front s y [] a [] h ps = refl
fields_front s y (z ∷ ys) a (c ∷ r) h ps = refl
fields_front s y [] a (c ∷ r) h ps = absurd cc
fields_front s y (z ∷ ys) a [] h ps = absurd cc

pub fields_next : (s : List Piece → List Piece) (ys : List Word) (xs : List Part) (i : ℕ) (d : Word) → length xs ≡ length ys → 0 < i → i ≤ length ys → (ps : List Piece)
    → field (get_or ys (i - 1) d) (s (part_at xs (i - 1) false (shown xs (comma_items (nat_lt i (length ys))) (field_pieces s (drop i ys) (drop i xs) ps)))) ≡ field_pieces s (drop (i - 1) ys) (drop (i - 1) xs) ps
fields_next s ys xs i d h p l ps =
    ap (λ (q : List Piece). field (get_or ys (i - 1) d) (s (part_at xs (i - 1) false q))) (comma_next ys i (length ys) refl xs (field_pieces s (drop i ys) (drop i xs) ps))
    ∙ fields_front s (get_or ys (i - 1) d) (drop i ys) (part_at xs (i - 1)) (drop i xs) (same_more ys xs i (sym h)) ps
    ∙ (λ j. field_pieces s (sym (drop_next ys i d p l) j) (sym (part_next xs i p (omega (arith, h, l))) j) ps)

names_front : (x : Name) (g : List Name) (ps : List Piece) → word x.word (comma_by (is_more g) (name_pieces g ps)) ≡ name_pieces (x ∷ g) ps
names_front x [] ps = refl
names_front x (y ∷ g) ps = refl

pub names_next : (g : List Name) (xs : List Part) (i : ℕ) (d : Name) → 0 < i → i ≤ length g → (ps : List Piece) → word (get_or g (i - 1) d).word (shown xs (comma_items (nat_lt i (length g))) (name_pieces (drop i g) ps)) ≡ name_pieces (drop (i - 1) g) ps
names_next g xs i d p l ps =
    ap (λ (q : List Piece). word (get_or g (i - 1) d).word q) (comma_next g i (length g) refl xs (name_pieces (drop i g) ps)) ∙ names_front (get_or g (i - 1) d) (drop i g) ps ∙ ap (λ (r : List Name). name_pieces r ps) (sym (drop_next g i d p l))

binds_front : (g : List Name) (gs : List (List Name)) (a : Part) (r : List Part) (ps : List Piece) → name_pieces g (spaced (tk.sign op.In) (a true (comma_by (is_more gs) (bind_pieces gs r ps)))) ≡ bind_pieces (g ∷ gs) (a ∷ r) ps
binds_front g [] a r ps = refl
binds_front g (k ∷ gs) a r ps = refl

pub binds_next : (gs : List (List Name)) (xs : List Part) (n i : ℕ) (d : List Name) → length gs ≡ n → length xs ≡ suc n → 0 < i → i ≤ n → (ps : List Piece)
    → name_pieces (get_or gs (i - 1) d) (spaced (tk.sign op.In) (part_at xs (i - 1) true (shown xs (comma_items (nat_lt i n)) (bind_pieces (drop i gs) (drop i xs) ps)))) ≡ bind_pieces (drop (i - 1) gs) (drop (i - 1) xs) ps
binds_next gs xs n i d m h p l ps =
    ap (λ (q : List Piece). name_pieces (get_or gs (i - 1) d) (spaced (tk.sign op.In) (part_at xs (i - 1) true q))) (comma_next gs i n m xs (bind_pieces (drop i gs) (drop i xs) ps))
    ∙ binds_front (get_or gs (i - 1) d) (drop i gs) (part_at xs (i - 1)) (drop i xs) ps
    ∙ (λ j. bind_pieces (sym (drop_next gs i d p (omega (arith, m, l))) j) (sym (part_next xs i p (omega (arith, h, l))) j) ps)

abbrev blank_by : Bool → List Piece → List Piece
blank_by true ps = blank ∷ ps
blank_by false ps = ps

blank_shown : (b : Bool) (xs : List Part) (ps : List Piece) → shown xs (blank_items b) ps ≡ blank_by b ps
blank_shown true xs ps = refl
blank_shown false xs ps = refl

definitions_front : (x : Name) (ys : List Name) (a : Part) (r : List Part) (ps : List Piece) → word x.word (spaced (tk.mark tk.defines) (a false (blank_by (is_more ys) (definition_pieces ys r ps)))) ≡ definition_pieces (x ∷ ys) (a ∷ r) ps
definitions_front x [] a r ps = refl
definitions_front x (y ∷ ys) a r ps = refl

pub definitions_next : (ys : List Name) (xs : List Part) (i : ℕ) (d : Name) → length xs ≡ suc (length ys) → 0 < i → i ≤ length ys → (ps : List Piece)
    → word (get_or ys (i - 1) d).word (spaced (tk.mark tk.defines) (part_at xs (i - 1) false (shown xs (blank_items (nat_lt i (length ys))) (definition_pieces (drop i ys) (drop i xs) ps)))) ≡ definition_pieces (drop (i - 1) ys) (drop (i - 1) xs) ps
definitions_next ys xs i d h p l ps =
    ap (λ (q : List Piece). word (get_or ys (i - 1) d).word (spaced (tk.mark tk.defines) (part_at xs (i - 1) false q))) (blank_shown (nat_lt i (length ys)) xs (definition_pieces (drop i ys) (drop i xs) ps) ∙ ap (λ (b : Bool). blank_by b (definition_pieces (drop i ys) (drop i xs) ps)) (more_left ys i (length ys) refl))
    ∙ definitions_front (get_or ys (i - 1) d) (drop i ys) (part_at xs (i - 1)) (drop i xs) ps
    ∙ (λ j. definition_pieces (sym (drop_next ys i d p l) j) (sym (part_next xs i p (omega (arith, h, l))) j) ps)

-- the part behind one for each of these
pub body_at : {A : Type 0} (ys : List A) (xs : List Part) → length xs ≡ suc (length ys) → part_at xs (length ys) ≡ body ys xs
body_at [] (a ∷ xs) h = refl
body_at (y ∷ ys) (a ∷ xs) h = body_at ys xs (omega (arith, h))
body_at [] [] h = absurd (omega (arith, h))
body_at (y ∷ ys) [] h = absurd (omega (arith, h))

pub body_groups : (gs : List (Vec Name Global)) (xs : List Part) → length xs ≡ suc (length gs) → part_at xs (length gs) ≡ body (groups_of gs) xs
body_groups gs xs h =
    let m : length (groups_of gs) ≡ length gs = length-map gs (λ (g : Vec Name Global). g.items) in
    ap (λ (k : ℕ). part_at xs k) (sym m) ∙ body_at (groups_of gs) xs (omega (arith, h, m))

pub map_get : {A B : Type 0} (f : A → B) (ys : List A) (k : ℕ) (d : A) → f (get_or ys k d) ≡ get_or (map f ys) k (f d)
map_get f [] k d = refl
map_get f (y ∷ ys) zero d = refl
map_get f (y ∷ ys) (suc k) d = map_get f ys k d

-- the next element of what is mapped
pub map_next : {A B : Type 0} (f : A → B) (ys : List A) (i : ℕ) (y : A) → y ≡ get_or ys (i - 1) y → 0 < i → i ≤ length ys → drop (i - 1) (map f ys) ≡ f y ∷ drop i (map f ys)
map_next f ys i y e p l = drop_next (map f ys) i (f y) p (omega (arith, l, length-map ys f)) ∙ (λ j. (sym (map_get f ys (i - 1) y) ∙ ap f (sym e)) j ∷ drop i (map f ys))

pub drop_none : {A : Type 0} (ys : List A) → drop 0 ys ≡ ys
drop_none [] = refl
drop_none (y ∷ ys) = refl

-- ---- CASE
pub other_shown : (xs : List Part) (i : ℕ) → length xs ≡ suc i → (ps : List Piece) → token (tk.key tk.other_key) ∷ spaced (tk.mark tk.arrow) (part_at xs i true ps) ≡ arm_pieces true (drop i xs) ps
other_shown xs i h ps = (let r = part_drop xs i (omega (arith, h)) in last (drop (suc i) xs) (length-drop (suc i) xs) ∙ ap (λ (l : List Part). arm_pieces true l ps) (sym r))
  where
    last : (r : List Part) → length r ≡ length xs - suc i → token (tk.key tk.other_key) ∷ spaced (tk.mark tk.arrow) (part_at xs i true ps) ≡ arm_pieces true (part_at xs i ∷ r) ps
    last [] l = refl
    last (a ∷ r) l = absurd (omega (arith, l, h))

pub paired_twice : (n : ℕ) → IsPaired n → IsTwice n
paired_twice zero h = absurd h
paired_twice (suc zero) h = absurd h
paired_twice (suc (suc zero)) h = (1, omega arith)
paired_twice (suc (suc (suc n))) h = (let r = paired_twice (suc n) h in (suc r.0, omega (arith, r.1)))

pub paired_less : (n : ℕ) → CaseShaped true n → 1 ≤ n
paired_less zero h = absurd h
paired_less (suc n) h = omega arith

pub others_twice : (n : ℕ) → CaseShaped true n → IsTwice (n - 1)
others_twice zero h = absurd h
others_twice (suc n) h = (let r = paired_twice n h in (r.0, omega (arith, r.1)))

abbrev box_by : Bool → List Piece → List Piece
box_by true ps = spaced (tk.mark tk.box) ps
box_by false ps = ps

box_shown : (b : Bool) (xs : List Part) (ps : List Piece) → shown xs (box_items b) ps ≡ box_by b ps
box_shown true xs ps = refl
box_shown false xs ps = refl

arms_front : (o : Bool) (c a : Part) (r : List Part) (ps : List Piece) → c true (spaced (tk.mark tk.arrow) (a true (box_by (is_more r) (arm_pieces o r ps)))) ≡ arm_pieces o (c ∷ a ∷ r) ps
arms_front true c a [] ps = refl
arms_front false c a [] ps = refl
arms_front true c a (d ∷ r) ps = refl
arms_front false c a (d ∷ r) ps = refl

pub arms_next : (o : Bool) (xs : List Part) (n i : ℕ) → length xs ≡ n → 1 < i → i ≤ n → (ps : List Piece)
    → part_at xs (i - 2) true (spaced (tk.mark tk.arrow) (part_at xs (i - 2 + 1) true (shown xs (box_items (nat_lt i n)) (arm_pieces o (drop i xs) ps)))) ≡ arm_pieces o (drop (i - 2) xs) ps
arms_next o xs n i h p l ps =
    let a : i - 2 + 1 ≡ i - 1 = omega (arith, p) in
    let b : i - 1 - 1 ≡ i - 2 = omega (arith, p) in
    let second = part_next xs i (omega (arith, p)) (omega (arith, h, l)) in
    let first = part_next xs (i - 1) (omega (arith, p)) (omega (arith, h, l)) in
    let both : drop (i - 2) xs ≡ part_at xs (i - 2) ∷ part_at xs (i - 1) ∷ drop i xs = subst (λ (k : ℕ). drop k xs ≡ part_at xs k ∷ part_at xs (i - 1) ∷ drop i xs) b (first ∙ ap (λ (r : List Part). part_at xs (i - 1 - 1) ∷ r) second) in
    (λ j. part_at xs (i - 2) true (spaced (tk.mark tk.arrow) (part_at xs (a j) true (box_shown (nat_lt i n) xs (arm_pieces o (drop i xs) ps) j))))
    ∙ ap (λ (m : Bool). part_at xs (i - 2) true (spaced (tk.mark tk.arrow) (part_at xs (i - 1) true (box_by m (arm_pieces o (drop i xs) ps))))) (more_left xs i n h)
    ∙ arms_front o (part_at xs (i - 2)) (part_at xs (i - 1)) (drop i xs) ps
    ∙ ap (λ (r : List Part). arm_pieces o r ps) (sym both)

-- ---- EXCEPT
slots_front : (t : Slot) (ss : List Slot) (xs : List Part) (ps : List Piece) → mark tk.bang (path_pieces t.path xs (λ ys. right_side ys (λ zs. comma_by (is_more ss) (slot_pieces ss zs ps)))) ≡ slot_pieces (t ∷ ss) xs ps
slots_front t [] xs ps = refl
slots_front t (s ∷ ss) xs ps = refl

pub slots_next : (t : Slot) (ss all : List Slot) (xs : List Part) (ps : List Piece) → all ≡ t ∷ ss → mark tk.bang (path_pieces t.path xs (λ ys. right_side ys (λ zs. comma_by (is_more ss) (slot_pieces ss zs ps)))) ≡ slot_pieces all xs ps
slots_next t ss all xs ps e = slots_front t ss xs ps ∙ ap (λ (r : List Slot). slot_pieces r xs ps) (sym e)

-- a right side, before what comes behind it
pub side_shown : (ss : List Slot) (n i next : ℕ) (xs : List Part) → length ss ≡ n → 0 < next → next ≤ length xs → (ps : List Piece)
    → spaced (tk.sign op.Equal) (part_at xs (next - 1) false (shown xs (comma_items (nat_lt i n)) (slot_pieces (drop i ss) (drop next xs) ps)))
    ≡ right_side (drop (next - 1) xs) (λ zs. comma_by (is_more (drop i ss)) (slot_pieces (drop i ss) zs ps))
side_shown ss n i next xs m p l ps =
    ap (λ (q : List Piece). spaced (tk.sign op.Equal) (part_at xs (next - 1) false q)) (comma_next ss i n m xs (slot_pieces (drop i ss) (drop next xs) ps))
    ∙ ap (λ (r : List Part). right_side r (λ zs. comma_by (is_more (drop i ss)) (slot_pieces (drop i ss) zs ps))) (sym (part_next xs next p l))

pub settings_less : (ss : List Slot) (i : ℕ) → settings (take i ss) ≤ settings ss
settings_less [] zero = omega arith
settings_less [] (suc i) = omega arith
settings_less (s ∷ ss) zero = omega arith
settings_less (s ∷ ss) (suc i) = (let r = settings_less ss i in omega (arith, r))

settings_at : (ss : List Slot) (j : ℕ) (d : Slot) → j < length ss → settings (take (suc j) ss) ≡ settings (take j ss) + (subscripts (get_or ss j d).path + 1)
settings_at [] j d h = absurd (omega arith)
settings_at (s ∷ []) zero d h = omega arith
settings_at (s ∷ t ∷ ss) zero d h = omega arith
settings_at (s ∷ ss) (suc j) d h = (let r = settings_at ss j d (omega (arith, h)) in omega (arith, r))

pub settings_next : (ss : List Slot) (i : ℕ) (d : Slot) → 0 < i → i ≤ length ss → settings (take i ss) ≡ settings (take (i - 1) ss) + (subscripts (get_or ss (i - 1) d).path + 1)
settings_next ss i d p l =
    let e : suc (i - 1) ≡ i = omega (arith, p) in
    ap (λ (k : ℕ). settings (take k ss)) (sym e) ∙ settings_at ss (i - 1) d (omega (arith, p, l))

pub subscripts_less : (ss : List PathStep) (k : ℕ) → subscripts (drop k ss) ≤ subscripts ss
subscripts_less [] zero = omega arith
subscripts_less [] (suc k) = omega arith
subscripts_less (s ∷ ss) zero = omega arith
subscripts_less (tree.index ∷ ss) (suc k) = (let r = subscripts_less ss k in omega (arith, r))
subscripts_less (tree.field x ∷ ss) (suc k) = subscripts_less ss k

-- ---- further forms of few parts
pub functions_shown : (xs : List Part) → length xs ≡ 2 → (ps : List Piece) → mark tk.open_square (part_at xs 0 false (spaced (tk.mark tk.arrow) (part_at xs 1 false (mark tk.close_square ps)))) ≡ strict_pieces tree.functions xs ps
functions_shown (a ∷ b ∷ xs) h ps = refl
functions_shown [] h ps = absurd (omega (arith, h))
functions_shown (a ∷ []) h ps = absurd (omega (arith, h))

pub apply_shown : (xs : List Part) → length xs ≡ 2 → (ps : List Piece) → part_at xs 0 true (mark tk.open_square (part_at xs 1 false (mark tk.close_square ps))) ≡ strict_pieces tree.apply xs ps
apply_shown (a ∷ b ∷ xs) h ps = refl
apply_shown [] h ps = absurd (omega (arith, h))
apply_shown (a ∷ []) h ps = absurd (omega (arith, h))

pub select_shown : (x : Word) (xs : List Part) → length xs ≡ 1 → (ps : List Piece) → part_at xs 0 true (mark tk.dot (field x ps)) ≡ strict_pieces (tree.select x) xs ps
select_shown x (a ∷ xs) h ps = refl
select_shown x [] h ps = absurd (omega (arith, h))

pub except_shown : (ss : List Slot) (xs : List Part) → 0 < length xs → (ps : List Piece) → mark tk.open_square (part_at xs 0 true (spaced (tk.key tk.except_key) (slots_behind ss xs (mark tk.close_square ps)))) ≡ strict_pieces (tree.except ss) xs ps
except_shown ss [] h ps = absurd (omega (arith, h))
except_shown ss (a ∷ []) h ps = refl
except_shown ss (a ∷ b ∷ xs) h ps = refl

pub binder_count : (b : Binder) (gs : List (List Name)) (n : ℕ) → BinderShaped b gs n → n ≡ suc (length gs)
binder_count binder.ForAll gs n h = h.1
binder_count binder.Exists gs n h = h.1
binder_count binder.Image gs n h = h.1
binder_count binder.Function gs n h = h.1
binder_count binder.Filter ((x ∷ []) ∷ []) n h = h.1
binder_count binder.Filter [] n h = absurd h.0
binder_count binder.Filter ([] ∷ gs) n h = absurd h.0
binder_count binder.Filter ((x ∷ []) ∷ k ∷ gs) n h = absurd h.0
binder_count binder.Filter ((x ∷ y ∷ ys) ∷ gs) n h = absurd h.0

-- ---- parts of a tree
pub part_found : (ts : List Tree) (i : ℕ) (r : Tree) → slice_get ts i ≡ Some r → part_at (map part ts) i ≡ part r
part_found [] i r h = absurd cc
part_found (t ∷ ts) zero r h = (let e : t ≡ r = cc in ap part e)
part_found (t ∷ ts) (suc i) r h = part_found ts i r h

pub part_past : (ts : List Tree) (i : ℕ) (b : Bool) (ps : List Piece) → length ts ≤ i → part_at (map part ts) i b ps ≡ ps
part_past [] i b ps h = refl
part_past (t ∷ ts) zero b ps h = absurd (omega (arith, h))
part_past (t ∷ ts) (suc i) b ps h = part_past ts i b ps (omega (arith, h))

parts_listed : (ts : Trees) → parts ts ≡ map part (list_of ts)
parts_listed no_trees = refl
parts_listed (tree.tree t ts) = ap (λ (l : List Part). part t ∷ l) (parts_listed ts)

pub part_is : (t : Tree) (b : Bool) (ps : List Piece) → form_part (root_form t) (map part (root_parts t)) b ps ≡ part t b ps
part_is (node m at ts) b ps = ap (λ (xs : List Part). form_part m xs b ps) (sym (parts_listed ts))

pub field_written : (old new bytes : List ℕ) (x : Word) → new ≡ old ++ bytes → bytes ≡ x → (ps : List Piece) → new ++ text_of ps ≡ old ++ text_of (field x ps)
field_written old new bytes x e b ps = ap (λ (l : List ℕ). l ++ text_of ps) e ∙ append_assoc old bytes (text_of ps) ∙ ap (λ (l : List ℕ). old ++ (l ++ text_of ps)) (b ∙ sym (field_text (is_pluscal_word x) x))

pub bracketed_part : (m : Form) (xs : List Part) (o : Bool) → o ≡ true → is_bracketed m ≡ true → (ps : List Piece) → mark tk.open_bracket (form_pieces m xs (mark tk.close_bracket ps)) ≡ form_part m xs o ps
bracketed_part m xs o e b ps = ap (λ (k : Bool). bracketed k (form_pieces m xs) ps) (sym b) ∙ ap (λ (k : Bool). form_part m xs k ps) (sym e)

-- what is written, with nothing behind it
pub all_written : (old new : List ℕ) (t u : Tree) (b : Bool) → u ≡ t → ((ps : List Piece) → new ++ text_of ps ≡ old ++ text_of (part u b ps)) → new ≡ old ++ text_of (part t b [])
all_written old new t u b s h = sym (append-nil new) ∙ h [] ∙ ap (λ (v : Tree). old ++ text_of (part v b [])) s
