-- A phrase that may be spelled with all its tokens in one column holds no list, so it may be spelled wherever its tokens are.
use Rattle.std.proofs.Common.{◌≡◌, ℕ, Bool, true, not, ◌&&◌, ◌||◌, nat_lt, List, [], ◌∷◌, Option, None, refl, sym, ap, ◌∙◌}
use Rattle.std.proofs.lemmas.Bool.{and_parts, and_from}
use Rattle.tla_token.specs.declared.place.Place.{Place}
use Rattle.tla_tree.specs.declared.op.Op.{Op}
use Rattle.tla_tree.specs.Lexical.{Mark, Token}
use Rattle.tla_tree.specs.Spelling.{Phrase, number, string, constant, name, primed, call, brackets, no_set, set_of, filter, image, no_tuple, tuple, fields, records, function, functions, except, apply, select, list, quantified, if_then_else, cases, local, infix_of, prefix_of}
use Rattle.tla_tree.specs.Spelling.{Phrases, last, more, Binds, last_bind, bind, share, Fields, last_field, field, Settings, last_setting, setting, Path, path_end, index, at_field, Bullets, last_bullet, bullet, Arms, last_arm, other_arm, arm, Locals, last_local, more_locals}
use Rattle.tla_tree.specs.Spelling.{Good, GoodAll, GoodBinds, GoodFields, GoodSettings, GoodPath, GoodArms, GoodLocals, Right, Head, head, is_above, is_applied, ends_open, end_list, is_behind, is_short, can_be_left, can_be_right, can_be_under, can_be_head, is_some_path, takes_box, is_bind, spell, spell_all, spell_binds, spell_fields, spell_settings, spell_path, spell_arms, spell_locals}
use Rattle.tla_tree.specs.Rank.{is_associative}
use Rattle.tla_tree.specs.laws.Columns.{moved, moved_all, moved_binds, moved_fields, moved_settings, moved_path, moved_arms, moved_locals}
use Rattle.tla_tree.proofs.ReadMembers.{is_name, is_member, bind_member}

-- ---- all tokens in column 1
abbrev pub first_column : Place → ℕ
first_column p = 1

abbrev pub flat : Phrase → Phrase
flat a = moved first_column a

-- a phrase has a token, so the edge is left of column 1
edge_of : (e : ℕ) (a : Phrase) → Good e (flat a) → nat_lt e 1 ≡ true
edge_of e (number p n) g = g
edge_of e (string p x) g = g
edge_of e (constant p c) g = g
edge_of e (name p x) g = g
edge_of e (apply a p xs q) g = edge_of e a g.0
edge_of e (select a p f) g = edge_of e a g.0
edge_of e (list o (last_bullet p a)) g = g.1
edge_of e (list o (bullet p a bs)) g = g.1
edge_of e (infix_of a p o b) g = edge_of e a g.3
edge_of e (prefix_of p o a) g = g.2
edge_of e a g = g.0

pub no_list : (o : Op) (bs : Bullets) → Good 0 (flat (list o bs)) → ⊥
no_list o (last_bullet p a) g = (let f : nat_lt 1 1 ≡ true = edge_of 1 a g.2.1 in cc)
no_list o (bullet p a bs) g = (let f : nat_lt 1 1 ≡ true = edge_of 1 a g.2.1 in cc)

-- ---- what an operator beside a phrase looks at
pub head_flat : (a : Phrase) → head (flat a) ≡ head a
head_flat (infix_of a p o b) = refl
head_flat a = refl

open_flat : (a : Phrase) → ends_open (flat a) ≡ ends_open a
open_flat (infix_of a p o b) = open_flat b
open_flat (prefix_of p o a) = open_flat a
open_flat a = refl

short_flat : (a : Phrase) → is_short (flat a) ≡ is_short a
short_flat (prefix_of p o a) = short_flat a
short_flat a = refl

pub no_end_list : (a : Phrase) → Good 0 (flat a) → end_list a ≡ None
no_end_list (list o bs) g = absurd (no_list o bs g)
no_end_list (infix_of a p o b) g = no_end_list b g.5
no_end_list (prefix_of p o a) g = no_end_list a g.3
no_end_list a g = refl

left_flat : (a : Phrase) (p q : Place) (o : Op) → Good 0 (flat a) → can_be_left (flat a) q o ≡ true → can_be_left a p o ≡ true
left_flat a p q o g h =
    let ranks : Bool = is_above o (head a) || (is_associative o && is_applied o (head a)) in
    let w = and_parts (is_above o (head (flat a)) || (is_associative o && is_applied o (head (flat a)))) (not (ends_open (flat a)) && is_behind (end_list (flat a)) o q) h in
    let v = and_parts (not (ends_open (flat a))) (is_behind (end_list (flat a)) o q) w.1 in
    let high : ranks ≡ true = ap (λ (k : Head). is_above o k || (is_associative o && is_applied o k)) (sym (head_flat a)) ∙ w.0 in
    let closed : not (ends_open a) ≡ true = ap not (sym (open_flat a)) ∙ v.0 in
    and_from ranks (not (ends_open a) && is_behind (end_list a) o p) high (and_from (not (ends_open a)) (is_behind (end_list a) o p) closed (ap (λ (l : Option (Op × ℕ)). is_behind l o p) (no_end_list a g)))

right_flat : (o : Op) (a : Phrase) → can_be_right o (flat a) ≡ can_be_right o a
right_flat o a = rw (head_flat a, short_flat a) refl

under_flat : (o : Op) (a : Phrase) → can_be_under o (flat a) ≡ can_be_under o a
under_flat o a = rw (head_flat a, short_flat a) refl

primary_flat : (a : Phrase) (p q : Place) → Good 0 (flat a) → can_be_head (flat a) q ≡ true → can_be_head a p ≡ true
primary_flat (list o bs) p q g h = absurd (no_list o bs g)
primary_flat a p q g h = h

pub some_flat : (path : Path) → is_some_path (moved_path first_column path) ≡ is_some_path path
some_flat path_end = refl
some_flat path = refl

box_flat : (c d : ℕ) (a : Phrase) → Good 0 (flat a) → takes_box c (flat a) ≡ takes_box d a
box_flat c d (infix_of a p o b) g = box_flat c d b g.5
box_flat c d (prefix_of p o a) g = box_flat c d a g.3
box_flat c d (quantified b p bs q a) g = box_flat c d a g.3
box_flat c d (if_then_else p a q b r x) g = box_flat c d x g.5
box_flat c d (local p ls q a) g = box_flat c d a g.3
box_flat c d (list o bs) g = absurd (no_list o bs g)
box_flat c d a g = refl

name_flat : (a : Phrase) → is_name (flat a) ≡ is_name a
name_flat (name p x) = refl
name_flat a = refl

member_flat : (a : Phrase) → is_member (flat a) ≡ is_member a
member_flat (infix_of a q o b) = rw (member_flat a, name_flat a) refl
member_flat a = refl

bind_flat : (e : ℕ) (a : Phrase) → Good 0 (flat a) → Good e a → is_bind (spell (flat a) []) ≡ is_bind (spell a [])
bind_flat e a g h = bind_member 0 (flat a) g ∙ member_flat a ∙ sym (bind_member e a h)

-- ---- all tokens right of the edge
abbrev pub AllRight : ℕ → List Token → Type 0
AllRight e [] = Unit {0}
AllRight e (t ∷ ts) = Right e t.place × AllRight e ts

not_same : (a b : Bool) → a ≡ b → not a ≡ true → not b ≡ true
not_same a b e h = ap not (sym e) ∙ h

mutual
  good_placed : (e : ℕ) (x : Phrase) (ts : List Token) → Good 0 (flat x) → AllRight e (spell x ts) → Good e x × AllRight e ts
  good_placed e (number p n) ts g h = (h.0, h.1)
  good_placed e (string p x) ts g h = (h.0, h.1)
  good_placed e (constant p c) ts g h = (h.0, h.1)
  good_placed e (name p x) ts g h = (h.0, h.1)
  good_placed e (primed p x q) ts g h = ((h.0, h.1.0), h.1.1)
  good_placed e (call p x q xs r) ts g h = (let u = all_placed e xs _ g.2 h.1.1 in ((h.0, h.1.0, u.0, u.1.0), u.1.1))
  good_placed e (brackets p a q) ts g h = (let u = good_placed e a _ g.1 h.1 in ((h.0, u.0, u.1.0), u.1.1))
  good_placed e (no_set p q) ts g h = ((h.0, h.1.0), h.1.1)
  good_placed e (set_of p xs q) ts g h = (let u = all_placed e xs _ g.1 h.1 in ((h.0, u.0, u.1.0), u.1.1))
  good_placed e (filter p q x r s t a v) ts g h =
      let u = good_placed e s _ g.3 h.1.1.1 in
      let w = good_placed e a _ g.5 u.1.1 in
      ((h.0, h.1.0, h.1.1.0, u.0, u.1.0, w.0, w.1.0), w.1.1)
  good_placed e (image p a q bs r) ts g h =
      let u = good_placed e a _ g.1 h.1 in
      let w = binds_placed e bs _ g.3 u.1.1 in
      ((h.0, u.0, u.1.0, w.0, w.1.0, not_same (is_bind (spell (flat a) [])) (is_bind (spell a [])) (bind_flat e a g.1 u.0) g.5), w.1.1)
  good_placed e (no_tuple p q) ts g h = ((h.0, h.1.0), h.1.1)
  good_placed e (tuple p xs q) ts g h = (let u = all_placed e xs _ g.1 h.1 in ((h.0, u.0, u.1.0), u.1.1))
  good_placed e (fields p fs q) ts g h = (let u = fields_placed e fs _ _ g.1 h.1 in ((h.0, u.0, u.1.0), u.1.1))
  good_placed e (records p fs q) ts g h = (let u = fields_placed e fs _ _ g.1 h.1 in ((h.0, u.0, u.1.0), u.1.1))
  good_placed e (function p bs q a r) ts g h =
      let u = binds_placed e bs _ g.1 h.1 in
      let w = good_placed e a _ g.3 u.1.1 in
      ((h.0, u.0, u.1.0, w.0, w.1.0), w.1.1)
  good_placed e (functions p a q b r) ts g h =
      let u = good_placed e a _ g.1 h.1 in
      let w = good_placed e b _ g.3 u.1.1 in
      ((h.0, u.0, u.1.0, w.0, w.1.0), w.1.1)
  good_placed e (except p a q ss r) ts g h =
      let u = good_placed e a _ g.1 h.1 in
      let w = settings_placed e ss _ g.3 u.1.1 in
      ((h.0, u.0, u.1.0, w.0, w.1.0), w.1.1)
  good_placed e (apply a p xs q) ts g h =
      let u = good_placed e a _ g.0 h in
      let w = all_placed e xs _ g.3 u.1.1 in
      ((u.0, primary_flat a p _ g.0 g.1, u.1.0, w.0, w.1.0), w.1.1)
  good_placed e (select a p f) ts g h = (let u = good_placed e a _ g.0 h in ((u.0, primary_flat a p _ g.0 g.1, u.1.0, u.1.1.0), u.1.1.1))
  good_placed e (list o bs) ts g h = absurd (no_list o bs g)
  good_placed e (quantified b p bs q a) ts g h =
      let u = binds_placed e bs _ g.1 h.1 in
      let w = good_placed e a _ g.3 u.1.1 in
      ((h.0, u.0, u.1.0, w.0), w.1)
  good_placed e (if_then_else p a q b r c) ts g h =
      let u = good_placed e a _ g.1 h.1 in
      let w = good_placed e b _ g.3 u.1.1 in
      let z = good_placed e c _ g.5 w.1.1 in
      ((h.0, u.0, u.1.0, w.0, w.1.0, z.0), z.1)
  good_placed e (cases p xs) ts g h = (let u = arms_placed e xs _ g.1 h.1 in ((h.0, u.0), u.1))
  good_placed e (local p ls q a) ts g h =
      let u = locals_placed e ls _ g.1 h.1 in
      let w = good_placed e a _ g.3 u.1.1 in
      ((h.0, u.0, u.1.0, w.0), w.1)
  good_placed e (infix_of a p o b) ts g h =
      let u = good_placed e a _ g.3 h in
      let w = good_placed e b _ g.5 u.1.1 in
      ((g.0, left_flat a p _ o g.3 g.1, sym (right_flat o b) ∙ g.2, u.0, u.1.0, w.0), w.1)
  good_placed e (prefix_of p o a) ts g h = (let u = good_placed e a _ g.3 h.1 in ((g.0, sym (under_flat o a) ∙ g.1, h.0, u.0), u.1))

  all_placed : (e : ℕ) (x : Phrases) (ts : List Token) → GoodAll 0 (moved_all first_column x) → AllRight e (spell_all x ts) → GoodAll e x × AllRight e ts
  all_placed e (last a) ts g h = good_placed e a ts g h
  all_placed e (more a p xs) ts g h =
      let u = good_placed e a _ g.0 h in
      let w = all_placed e xs _ g.2 u.1.1 in
      ((u.0, u.1.0, w.0), w.1)

  binds_placed : (e : ℕ) (x : Binds) (ts : List Token) → GoodBinds 0 (moved_binds first_column x) → AllRight e (spell_binds x ts) → GoodBinds e x × AllRight e ts
  binds_placed e (last_bind p x q a) ts g h = (let u = good_placed e a _ g.2 h.1.1 in ((h.0, h.1.0, u.0), u.1))
  binds_placed e (bind p x q a r bs) ts g h =
      let u = good_placed e a _ g.2 h.1.1 in
      let w = binds_placed e bs _ g.4 u.1.1 in
      ((h.0, h.1.0, u.0, u.1.0, w.0), w.1)
  binds_placed e (share p x q bs) ts g h = (let u = binds_placed e bs _ g.2 h.1.1 in ((h.0, h.1.0, u.0), u.1))

  settings_placed : (e : ℕ) (x : Settings) (ts : List Token) → GoodSettings 0 (moved_settings first_column x) → AllRight e (spell_settings x ts) → GoodSettings e x × AllRight e ts
  settings_placed e (last_setting p path q a) ts g h =
      let u = path_placed e path _ g.2 h.1 in
      let w = good_placed e a _ g.4 u.1.1 in
      ((h.0, sym (some_flat path) ∙ g.1, u.0, u.1.0, w.0), w.1)
  settings_placed e (setting p path q a r ss) ts g h =
      let u = path_placed e path _ g.2 h.1 in
      let w = good_placed e a _ g.4 u.1.1 in
      let z = settings_placed e ss _ g.6 w.1.1 in
      ((h.0, sym (some_flat path) ∙ g.1, u.0, u.1.0, w.0, w.1.0, z.0), z.1)

  path_placed : (e : ℕ) (x : Path) (ts : List Token) → GoodPath 0 (moved_path first_column x) → AllRight e (spell_path x ts) → GoodPath e x × AllRight e ts
  path_placed e path_end ts g h = (tt, h)
  path_placed e (index p xs q path) ts g h =
      let u = all_placed e xs _ g.1 h.1 in
      let w = path_placed e path _ g.3 u.1.1 in
      ((h.0, u.0, u.1.0, w.0), w.1)
  path_placed e (at_field p f path) ts g h = (let u = path_placed e path _ g.2 h.1.1 in ((h.0, h.1.0, u.0), u.1))

  arms_placed : (e : ℕ) (x : Arms) (ts : List Token) → GoodArms 0 (moved_arms first_column x) → AllRight e (spell_arms x ts) → GoodArms e x × AllRight e ts
  arms_placed e (last_arm a p b) ts g h =
      let u = good_placed e a _ g.0 h in
      let w = good_placed e b _ g.2 u.1.1 in
      ((u.0, u.1.0, w.0), w.1)
  arms_placed e (other_arm a p b q r s c) ts g h =
      let u = good_placed e a _ g.0 h in
      let w = good_placed e b _ g.2 u.1.1 in
      let z = good_placed e c _ g.7 w.1.1.1.1 in
      ((u.0, u.1.0, w.0, not_same (takes_box 1 (flat b)) (takes_box q.col b) (box_flat 1 q.col b g.2) g.3, w.1.0, w.1.1.0, w.1.1.1.0, z.0), z.1)
  arms_placed e (arm a p b q xs) ts g h =
      let u = good_placed e a _ g.0 h in
      let w = good_placed e b _ g.2 u.1.1 in
      let z = arms_placed e xs _ g.5 w.1.1 in
      ((u.0, u.1.0, w.0, not_same (takes_box 1 (flat b)) (takes_box q.col b) (box_flat 1 q.col b g.2) g.3, w.1.0, z.0), z.1)

  locals_placed : (e : ℕ) (x : Locals) (ts : List Token) → GoodLocals 0 (moved_locals first_column x) → AllRight e (spell_locals x ts) → GoodLocals e x × AllRight e ts
  locals_placed e (last_local p x q a) ts g h = (let u = good_placed e a _ g.2 h.1.1 in ((h.0, h.1.0, u.0), u.1))
  locals_placed e (more_locals p x q a ls) ts g h =
      let u = good_placed e a _ g.2 h.1.1 in
      let w = locals_placed e ls _ g.3 u.1 in
      ((h.0, h.1.0, u.0, w.0), w.1)

  fields_placed : (e : ℕ) (x : Fields) (m : Mark) (ts : List Token) → GoodFields 0 (moved_fields first_column x) → AllRight e (spell_fields m x ts) → GoodFields e x × AllRight e ts
  fields_placed e (last_field f p a) m ts g h = (let u = good_placed e a _ g.2 h.1.1 in ((h.0, h.1.0, u.0), u.1))
  fields_placed e (field f p a q fs) m ts g h =
      let u = good_placed e a _ g.2 h.1.1 in
      let w = fields_placed e fs m _ g.4 u.1.1 in
      ((h.0, h.1.0, u.0, u.1.0, w.0), w.1)

pub placed_good : (e : ℕ) (a : Phrase) → Good 0 (flat a) → AllRight e (spell a []) → Good e a
placed_good e a g h = (good_placed e a [] g h).0
