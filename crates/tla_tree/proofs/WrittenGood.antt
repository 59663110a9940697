-- The phrase of a written tree may be spelled with all its tokens in one column.
use Rattle.std.proofs.Common.{◌≡◌, ℕ, Bool, true, false, not, ◌&&◌, ◌||◌, List, [], ◌∷◌, length, Option, None, refl, ap, subst, ◌∙◌, arith}
use Rattle.std.proofs.lemmas.Bool.{and_from}
use Rattle.tla_token.specs.declared.place.Place.{Place}
use Rattle.tla_tree.specs.declared.op.Op.{Op}
use Rattle.tla_tree.specs.declared.op.Op.TheVariants as op
use Rattle.tla_tree.specs.declared.op.Binder.{Binder}
use Rattle.tla_tree.specs.declared.op.Binder.TheVariants as binder
use Rattle.tla_tree.specs.Rank.{is_prefix, is_associative}
use Rattle.tla_tree.specs.Tree.{Word, Name, PathStep, Slot, Strict, Form, Tree, Trees, node, no_trees, tree}
use Rattle.tla_tree.specs.Tree as tree
use Rattle.tla_tree.specs.Shapes.{Shaped, StrictShaped, HasPath, HavePaths, operands}
use Rattle.tla_tree.specs.Spelling.{Phrase, Binds, Settings, Path, Arms, Head, primary, list, infix_of, prefix_of, quantified, if_then_else, cases, local, head, is_primary, is_above, is_applied, is_short, is_open, ends_open, end_list, is_behind, can_be_left, can_be_right, can_be_under, can_be_head, is_some_path, takes_box, is_bind, spell, Good, GoodAll, GoodBinds, GoodFields, GoodSettings, GoodPath, GoodArms, GoodLocals}
use Rattle.tla_tree.specs.Spelling as spelled
use Rattle.tla_tree.specs.Written.{is_bracketed}
use Rattle.tla_tree.specs.laws.Bracketed.{Part, nowhere, no_phrase, field_of, infix_phrase, phrases, set_phrase, tuple_phrase, call_phrase, fields_of, group_of, binds_of, locals_of, body, binding_phrase, bound_phrase, path_of, right_side, slots_of, except_phrase, strict_phrase, arms_of, choice_phrase, local_phrase, form_phrase, in_brackets, form_part, part, parts}
use Rattle.tla_tree.specs.laws.Columns.{moved_all, moved_binds, moved_fields, moved_settings, moved_path, moved_arms, moved_locals}
use Rattle.tla_tree.specs.laws.Writable.{IsWritable, AreWritable}
use Rattle.tla_tree.proofs.ReadMembers.{is_member, bind_member}
use Rattle.tla_tree.proofs.PlacedGood.{first_column, flat, head_flat, no_list, some_flat}
use Rattle.tla_tree.proofs.WrittenPhrase.{counted}
use Rattle.tla_tree.proofs.Operands.{operand_primary}

abbrev Fine : Phrase → Type 0
Fine a = Good 0 (flat a)

-- a part may be spelled, and is a primary as an operand
record Fit (a : Part) : Type 0 where
  good : (o : Bool) → Fine (a o)
  operand : head (a true) ≡ primary

abbrev Fits : List Part → Type 0
Fits [] = Unit {0}
Fits (a ∷ xs) = Fit a × Fits xs

-- ---- primaries
no_end : (a : Phrase) → Fine a → end_list (flat a) ≡ None
no_end (list o bs) g = absurd (no_list o bs g)
no_end (infix_of a p o b) g = no_end b g.5
no_end (prefix_of p o a) g = no_end a g.3
no_end a g = refl

not_open : (a : Phrase) → head a ≡ primary → ends_open a ≡ false
not_open (infix_of a p o b) h = absurd cc
not_open (prefix_of p o a) h = absurd cc
not_open (quantified b p bs q a) h = absurd cc
not_open (if_then_else p a q b r c) h = absurd cc
not_open (cases p xs) h = absurd cc
not_open (local p ls q a) h = absurd cc
not_open a h = refl

left_operand : (a : Phrase) (p : Place) (o : Op) → Fine a → head a ≡ primary → can_be_left (flat a) p o ≡ true
left_operand a p o g h =
    let top : head (flat a) ≡ primary = head_flat a ∙ h in
    and_from (is_above o (head (flat a)) || (is_associative o && is_applied o (head (flat a)))) (not (ends_open (flat a)) && is_behind (end_list (flat a)) o p)
    (ap (λ (k : Head). is_above o k || (is_associative o && is_applied o k)) top)
    (and_from (not (ends_open (flat a))) (is_behind (end_list (flat a)) o p) (ap not (not_open (flat a) top)) (ap (λ (l : Option (Op × ℕ)). is_behind l o p) (no_end a g)))

right_operand : (o : Op) (a : Phrase) → head a ≡ primary → can_be_right o (flat a) ≡ true
right_operand o a h = ap (λ (k : Head). is_above o k || (is_open k || is_short (flat a))) (head_flat a ∙ h)

under_operand : (o : Op) (a : Phrase) → head a ≡ primary → can_be_under o (flat a) ≡ true
under_operand o a h = ap (λ (k : Head). is_above o k || (is_applied o k || (is_open k || is_short (flat a)))) (head_flat a ∙ h)

head_operand : (a : Phrase) (p : Place) → Fine a → head a ≡ primary → can_be_head (flat a) p ≡ true
head_operand (list o bs) p g h = absurd (no_list o bs g)
head_operand a p g h = ap is_primary h

no_box : (c : ℕ) (a : Phrase) → Fine a → head a ≡ primary → takes_box c (flat a) ≡ false
no_box c (list o bs) g h = absurd (no_list o bs g)
no_box c (infix_of a p o b) g h = absurd cc
no_box c (prefix_of p o a) g h = absurd cc
no_box c (quantified b p bs q a) g h = absurd cc
no_box c (if_then_else p a q b r d) g h = absurd cc
no_box c (cases p xs) g h = absurd cc
no_box c (local p ls q a) g h = absurd cc
no_box c a g h = refl

no_member : (a : Phrase) → head a ≡ primary → is_member (flat a) ≡ false
no_member (infix_of a p o b) h = absurd cc
no_member a h = refl

no_bind : (a : Phrase) → Fine a → head a ≡ primary → not (is_bind (spell (flat a) [])) ≡ true
no_bind a g h = ap not (bind_member 0 (flat a) g ∙ no_member a h)

-- ---- operators and lists
infix_good : (o : Op) (xs : List Part) → length xs ≡ operands (is_prefix o) → Fits xs → Fine (infix_phrase o xs)
infix_good o (a ∷ []) n w = (one (is_prefix o) n, under_operand o (a true) w.0.operand, refl, w.0.good true)
  where
    one : (p : Bool) → ◌≡◌ {A = ℕ} 1 (operands p) → p ≡ true
    one true h = refl
    one false h = absurd (omega (arith, h))
infix_good o (a ∷ b ∷ []) n w = (ap not (two (is_prefix o) n), left_operand (a true) _ o (w.0.good true) w.0.operand, right_operand o (b true) w.1.0.operand, w.0.good true, refl, w.1.0.good true)
  where
    two : (p : Bool) → ◌≡◌ {A = ℕ} 2 (operands p) → p ≡ false
    two true h = absurd (omega (arith, h))
    two false h = refl
infix_good o [] n w = refl
infix_good o (a ∷ b ∷ c ∷ xs) n w = refl

phrases_good : (a : Part) (xs : List Part) → Fit a → Fits xs → GoodAll 0 (moved_all first_column (phrases a xs))
phrases_good a [] f w = f.good false
phrases_good a (b ∷ xs) f w = (f.good false, refl, phrases_good b xs w.0 w.1)

fields_good : (x : Word) (a : Part) (ys : List Word) (xs : List Part) → Fit a → Fits xs → GoodFields 0 (moved_fields first_column (fields_of x a ys xs))
fields_good x a (y ∷ ys) (b ∷ xs) f w = (refl, refl, f.good false, refl, fields_good y b ys xs w.0 w.1)
fields_good x a [] xs f w = (refl, refl, f.good false)
fields_good x a (y ∷ ys) [] f w = (refl, refl, f.good false)

group_good : (x : Name) (ys : List Name) (k : Word → Binds) → ((v : Word) → GoodBinds 0 (moved_binds first_column (k v))) → GoodBinds 0 (moved_binds first_column (group_of x ys k))
group_good x [] k h = h x.word
group_good x (y ∷ ys) k h = (refl, refl, group_good y ys k h)

binds_good : (x : Name) (ys : List Name) (a : Part) (gs : List (List Name)) (xs : List Part) → Fit a → Fits xs → GoodBinds 0 (moved_binds first_column (binds_of x ys a gs xs))
binds_good x ys a ((z ∷ zs) ∷ gs) (b ∷ xs) f w = group_good x ys _ (λ v. (refl, refl, f.good true, refl, binds_good z zs b gs xs w.0 w.1))
binds_good x ys a [] xs f w = group_good x ys _ (λ v. (refl, refl, f.good true))
binds_good x ys a ([] ∷ gs) xs f w = group_good x ys _ (λ v. (refl, refl, f.good true))
binds_good x ys a ((z ∷ zs) ∷ gs) [] f w = group_good x ys _ (λ v. (refl, refl, f.good true))

locals_good : (x : Name) (a : Part) (ys : List Name) (xs : List Part) → Fit a → Fits xs → GoodLocals 0 (moved_locals first_column (locals_of x a ys xs))
locals_good x a (y ∷ ys) (b ∷ xs) f w = (refl, refl, f.good false, locals_good y b ys xs w.0 w.1)
locals_good x a [] xs f w = (refl, refl, f.good false)
locals_good x a (y ∷ ys) [] f w = (refl, refl, f.good false)

nothing : Fit (λ b. no_phrase)
nothing = record { good = λ o. refl; operand = refl }

body_good : {A : Type 0} (ys : List A) (xs : List Part) → Fits xs → Fit (body ys xs)
body_good [] (a ∷ xs) w = w.0
body_good (y ∷ ys) (a ∷ xs) w = body_good ys xs w.1
body_good [] [] w = nothing
body_good (y ∷ ys) [] w = nothing

binding_good : (b : Binder) (x : Name) (a : Part) (bs : Binds) (e : Part) → Fit a → GoodBinds 0 (moved_binds first_column bs) → Fit e → Fine (binding_phrase b x a bs e)
binding_good binder.ForAll x a bs e f g h = (refl, g, refl, h.good false)
binding_good binder.Exists x a bs e f g h = (refl, g, refl, h.good false)
binding_good binder.Filter x a bs e f g h = (refl, refl, refl, f.good true, refl, h.good false, refl)
binding_good binder.Image x a bs e f g h = (refl, h.good true, refl, g, refl, no_bind (e true) (h.good true) h.operand)
binding_good binder.Function x a bs e f g h = (refl, g, refl, h.good false, refl)

bound_good : (b : Binder) (gs : List (List Name)) (xs : List Part) → Fits xs → Fine (bound_phrase b gs xs)
bound_good b ((x ∷ ys) ∷ gs) (a ∷ xs) w = binding_good b x a _ _ w.0 (binds_good x ys a gs xs w.0 w.1) (body_good gs xs w.1)
bound_good b [] xs w = refl
bound_good b ([] ∷ gs) xs w = refl
bound_good b ((x ∷ ys) ∷ gs) [] w = refl

-- ---- EXCEPT
path_good : (ss : List PathStep) (xs : List Part) → Fits xs → (k : Path → List Part → Phrase)
    → ((p : Path) (ys : List Part) → GoodPath 0 (moved_path first_column p) → (HasPath ss → is_some_path p ≡ true) → Fits ys → Fine (k p ys)) → Fine (path_of ss xs k)
path_good [] xs w k h = h spelled.path_end xs tt (λ s. absurd s) w
path_good (tree.index ∷ ss) (a ∷ xs) w k h = path_good ss xs w.1 _ (λ p ys g s v. h (spelled.index nowhere (spelled.last (a false)) nowhere p) ys (refl, w.0.good false, refl, g) (λ q. refl) v)
path_good (tree.index ∷ ss) [] w k h = refl
path_good (tree.field x ∷ ss) xs w k h = path_good ss xs w _ (λ p ys g s v. h (spelled.at_field nowhere (field_of x) p) ys (refl, refl, g) (λ q. refl) v)

right_good : (xs : List Part) → Fits xs → (k : Phrase → List Part → Phrase) → ((a : Phrase) (ys : List Part) → Fine a → Fits ys → Fine (k a ys)) → Fine (right_side xs k)
right_good [] w k h = refl
right_good (a ∷ xs) w k h = h (a false) xs (w.0.good false) w.1

slots_good : (s : Slot) (ss : List Slot) → HavePaths (s ∷ ss) → (xs : List Part) → Fits xs → (k : Settings → Phrase) → ((r : Settings) → GoodSettings 0 (moved_settings first_column r) → Fine (k r)) → Fine (slots_of s ss xs k)
slots_good s [] have xs w k h = path_good s.path xs w _ (λ p ys g some v. right_good ys v _ (λ a zs f u. h _ (refl, some_flat p ∙ some have, g, refl, f)))
slots_good s (t ∷ ss) have xs w k h =
    path_good s.path xs w _ (λ p ys g some v. right_good ys v _ (λ a zs f u. slots_good t ss have.1 zs u _ (λ r rest. h _ (refl, some_flat p ∙ some have.0, g, refl, f, refl, rest))))

except_good : (ss : List Slot) → HavePaths ss → (xs : List Part) → Fits xs → Fine (except_phrase ss xs)
except_good (s ∷ ss) have (a ∷ xs) w = slots_good s ss have xs w.1 _ (λ r g. (refl, w.0.good true, refl, g, refl))
except_good [] have xs w = refl
except_good (s ∷ ss) have [] w = refl

-- ---- all forms
set_good : (xs : List Part) → Fits xs → Fine (set_phrase xs)
set_good [] w = (refl, refl)
set_good (a ∷ xs) w = (refl, phrases_good a xs w.0 w.1, refl)

tuple_good : (xs : List Part) → Fits xs → Fine (tuple_phrase xs)
tuple_good [] w = (refl, refl)
tuple_good (a ∷ xs) w = (refl, phrases_good a xs w.0 w.1, refl)

call_good : (x : Word) (xs : List Part) → Fits xs → Fine (call_phrase x xs)
call_good x [] w = refl
call_good x (a ∷ xs) w = (refl, refl, phrases_good a xs w.0 w.1, refl)

strict_good : (m : Strict) (xs : List Part) → StrictShaped m (length xs) → Fits xs → Fine (strict_phrase m xs)
strict_good (tree.operator o) xs h w = infix_good o xs h.1 w
strict_good tree.set_of xs h w = set_good xs w
strict_good tree.tuple xs h w = tuple_good xs w
strict_good (tree.fields []) xs h w = refl
strict_good (tree.fields (y ∷ ys)) [] h w = refl
strict_good (tree.fields (y ∷ ys)) (a ∷ xs) h w = (refl, fields_good y a ys xs w.0 w.1, refl)
strict_good (tree.records []) xs h w = refl
strict_good (tree.records (y ∷ ys)) [] h w = refl
strict_good (tree.records (y ∷ ys)) (a ∷ xs) h w = (refl, fields_good y a ys xs w.0 w.1, refl)
strict_good tree.functions (a ∷ b ∷ []) h w = (refl, w.0.good false, refl, w.1.0.good false, refl)
strict_good tree.functions [] h w = refl
strict_good tree.functions (a ∷ []) h w = refl
strict_good tree.functions (a ∷ b ∷ c ∷ xs) h w = refl
strict_good tree.apply (a ∷ b ∷ []) h w = (w.0.good true, head_operand (a true) _ (w.0.good true) w.0.operand, refl, w.1.0.good false, refl)
strict_good tree.apply [] h w = refl
strict_good tree.apply (a ∷ []) h w = refl
strict_good tree.apply (a ∷ b ∷ c ∷ xs) h w = refl
strict_good (tree.select x) (a ∷ []) h w = (w.0.good true, head_operand (a true) _ (w.0.good true) w.0.operand, refl, refl)
strict_good (tree.select x) [] h w = refl
strict_good (tree.select x) (a ∷ b ∷ xs) h w = refl
strict_good (tree.except ss) xs h w = except_good ss h.0 xs w

arms_good : (b : Bool) (xs : List Part) → Fits xs → (k : Arms → Phrase) → ((r : Arms) → GoodArms 0 (moved_arms first_column r) → Fine (k r)) → Fine (arms_of b xs k)
arms_good true (c ∷ a ∷ d ∷ []) w k h = h _ (w.0.good true, refl, w.1.0.good true, ap not (no_box 1 (a true) (w.1.0.good true) w.1.0.operand), refl, refl, refl, w.1.1.0.good true)
arms_good true (c ∷ a ∷ d ∷ e ∷ xs) w k h = arms_good true (d ∷ e ∷ xs) w.1.1 _ (λ r g. h _ (w.0.good true, refl, w.1.0.good true, ap not (no_box 1 (a true) (w.1.0.good true) w.1.0.operand), refl, g))
arms_good true [] w k h = refl
arms_good true (c ∷ []) w k h = refl
arms_good true (c ∷ a ∷ []) w k h = refl
arms_good false (c ∷ a ∷ []) w k h = h _ (w.0.good true, refl, w.1.0.good true)
arms_good false (c ∷ a ∷ d ∷ xs) w k h = arms_good false (d ∷ xs) w.1.1 _ (λ r g. h _ (w.0.good true, refl, w.1.0.good true, ap not (no_box 1 (a true) (w.1.0.good true) w.1.0.operand), refl, g))
arms_good false [] w k h = refl
arms_good false (c ∷ []) w k h = refl

choice_good : (xs : List Part) → Fits xs → Fine (choice_phrase xs)
choice_good (a ∷ b ∷ c ∷ []) w = (refl, w.0.good false, refl, w.1.0.good false, refl, w.1.1.0.good false)
choice_good [] w = refl
choice_good (a ∷ []) w = refl
choice_good (a ∷ b ∷ []) w = refl
choice_good (a ∷ b ∷ c ∷ d ∷ xs) w = refl

local_good : (ys : List Name) (xs : List Part) → Fits xs → Fine (local_phrase ys xs)
local_good (x ∷ ys) (a ∷ xs) w = (refl, locals_good x a ys xs w.0 w.1, refl, (body_good ys xs w.1).good false)
local_good [] xs w = refl
local_good (x ∷ ys) [] w = refl

form_good : (m : Form) (xs : List Part) → Shaped m (length xs) → Fits xs → Fine (form_phrase m xs)
form_good (tree.number n) xs h w = refl
form_good (tree.string x) xs h w = refl
form_good (tree.truth b) xs h w = refl
form_good tree.booleans xs h w = refl
form_good tree.strings xs h w = refl
form_good (tree.name x) xs h w = refl
form_good (tree.next x) xs h w = (refl, refl)
form_good (tree.strict m) xs h w = strict_good m xs h w
form_good (tree.operator_call x) xs h w = call_good x xs w
form_good tree.conjunction xs h w = infix_good op.And xs h w
form_good tree.disjunction xs h w = infix_good op.Or xs h w
form_good tree.implication xs h w = infix_good op.Implies xs h w
form_good (tree.member true) xs h w = infix_good op.In xs h w
form_good (tree.member false) xs h w = infix_good op.NotIn xs h w
form_good tree.if_then_else xs h w = choice_good xs w
form_good (tree.cases b) xs h w = arms_good b xs w _ (λ r g. (refl, g))
form_good (tree.binding b gs) xs h w = bound_good b gs xs w
form_good (tree.local ys) xs h w = local_good ys xs w

part_good : (m : Form) (xs : List Part) → Shaped m (length xs) → Fits xs → (o : Bool) → Fine (form_part m xs o)
part_good m xs h w false = form_good m xs h w
part_good m xs h w true = by (is_bracketed m)
  where
    by : (b : Bool) → Fine (in_brackets b (form_phrase m xs))
    by true = (refl, form_good m xs h w, refl)
    by false = form_good m xs h w

mutual
  tree_good : (t : Tree) → IsWritable t → Fit (part t)
  tree_good (node m at ts) v = record { good = part_good m (parts ts) (subst (λ (n : ℕ). Shaped m n) (counted ts) v.0) (trees_good ts v.4); operand = operand_primary (node m at ts) }

  trees_good : (ts : Trees) → AreWritable ts → Fits (parts ts)
  trees_good no_trees v = tt
  trees_good (tree t ts) v = (tree_good t v.0, trees_good ts v.1)

pub written_good : (t : Tree) → IsWritable t → (o : Bool) → Good 0 (flat (part t o))
written_good t v o = (tree_good t v).good o
