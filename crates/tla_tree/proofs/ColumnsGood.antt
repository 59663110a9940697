-- Whether a phrase may be spelled rests on columns, and not on lines.
use Rattle.std.proofs.Common.{◌≡◌, ℕ, not, ◌&&◌, nat_lt, List, [], Option, Some, None, refl, sym, subst, ◌∙◌, IsTrue}
use Rattle.tla_token.specs.declared.place.Place.{Place}
use Rattle.tla_tree.specs.declared.op.Op.{Op}
use Rattle.tla_tree.specs.Rank.{is_prefix, is_bullet}
use Rattle.tla_tree.specs.Lexical.{Token}
use Rattle.tla_tree.specs.Lexical as tk
use Rattle.tla_tree.specs.Spelling.{Phrase, number, string, constant, name, primed, call, brackets, no_set, set_of, filter, image, no_tuple, tuple, fields, records, function, functions, except, apply, select, list, quantified, if_then_else, cases, local, infix_of, prefix_of}
use Rattle.tla_tree.specs.Spelling.{Phrases, last, more, Binds, last_bind, bind, share, Fields, last_field, field, Settings, last_setting, setting, Path, path_end, index, at_field, Bullets, last_bullet, bullet, Arms, last_arm, other_arm, arm, Locals, last_local, more_locals}
use Rattle.tla_tree.specs.Spelling.{Field, Good, GoodAll, GoodBinds, GoodFields, GoodSettings, GoodPath, GoodBullets, GoodArms, GoodLocals, Right, head, ends_open, end_list, is_behind, is_short, can_be_left, can_be_right, can_be_under, can_be_head, is_some_path, takes_box, last_takes_box, is_bind, spell, spell_all, mark, sign, field_token}
use Rattle.tla_tree.specs.laws.Columns.{moved_field, moved_binds, moved_fields, moved_settings, moved_path, moved_bullets, moved_arms, moved_locals, column_of, lineless_place, lineless, lineless_all}
use Rattle.tla_tree.proofs.ReadMembers.{first_in, name_bind, word_bind, sign_no_word}

-- ---- parts of a phrase without their lines
abbrev lineless_field : Field → Field
lineless_field x = moved_field column_of x

abbrev lineless_binds : Binds → Binds
lineless_binds x = moved_binds column_of x

abbrev lineless_fields : Fields → Fields
lineless_fields x = moved_fields column_of x

abbrev lineless_settings : Settings → Settings
lineless_settings x = moved_settings column_of x

abbrev lineless_path : Path → Path
lineless_path x = moved_path column_of x

abbrev lineless_bullets : Bullets → Bullets
lineless_bullets x = moved_bullets column_of x

abbrev lineless_arms : Arms → Arms
lineless_arms x = moved_arms column_of x

abbrev lineless_locals : Locals → Locals
lineless_locals x = moved_locals column_of x

-- ---- what an operator beside a phrase looks at
head_of : (a : Phrase) → head (lineless a) ≡ head a
head_of (infix_of a p o b) = refl
head_of a = refl

open_of : (a : Phrase) → ends_open (lineless a) ≡ ends_open a
open_of (infix_of a p o b) = open_of b
open_of (prefix_of p o a) = open_of a
open_of a = refl

short_of : (a : Phrase) → is_short (lineless a) ≡ is_short a
short_of (prefix_of p o a) = short_of a
short_of a = refl

list_of : (a : Phrase) → end_list (lineless a) ≡ end_list a
list_of (list o (last_bullet p a)) = refl
list_of (list o (bullet p a bs)) = refl
list_of (infix_of a p o b) = list_of b
list_of (prefix_of p o a) = list_of a
list_of a = refl

behind_of : (x : Option (Op × ℕ)) (o : Op) (p : Place) → is_behind x o (lineless_place p) ≡ is_behind x o p
behind_of None o p = refl
behind_of (Some l) o p = refl

left_same : (a : Phrase) (p : Place) (o : Op) → can_be_left (lineless a) (lineless_place p) o ≡ can_be_left a p o
left_same a p o = rw (head_of a, open_of a, list_of a, behind_of (end_list a) o p) refl

right_same : (o : Op) (a : Phrase) → can_be_right o (lineless a) ≡ can_be_right o a
right_same o a = rw (head_of a, short_of a) refl

under_same : (o : Op) (a : Phrase) → can_be_under o (lineless a) ≡ can_be_under o a
under_same o a = rw (head_of a, short_of a) refl

head_same : (a : Phrase) (p : Place) → can_be_head (lineless a) (lineless_place p) ≡ can_be_head a p
head_same (list o (last_bullet q a)) p = refl
head_same (list o (bullet q a bs)) p = refl
head_same a p = refl

some_same : (path : Path) → is_some_path (lineless_path path) ≡ is_some_path path
some_same path_end = refl
some_same path = refl

mutual
  box_same : (c : ℕ) (a : Phrase) → takes_box c (lineless a) ≡ takes_box c a
  box_same c (infix_of a p o b) = box_same c b
  box_same c (prefix_of p o a) = box_same c a
  box_same c (quantified b p bs q a) = box_same c a
  box_same c (if_then_else p a q b r d) = box_same c d
  box_same c (local p ls q a) = box_same c a
  box_same c (list o (last_bullet p a)) = λ i. nat_lt p.col c && box_same c a i
  box_same c (list o (bullet p a bs)) = λ i. nat_lt p.col c && boxes_same c bs i
  box_same c a = refl

  boxes_same : (c : ℕ) (bs : Bullets) → last_takes_box c (lineless_bullets bs) ≡ last_takes_box c bs
  boxes_same c (last_bullet p a) = box_same c a
  boxes_same c (bullet p a bs) = boxes_same c bs

-- the first two tokens
bind_before : (a : Phrase) (ts us : List Token) → first_in ts ≡ first_in us → is_bind (spell (lineless a) ts) ≡ is_bind (spell a us)
bind_before (name p x) ts us h = name_bind (lineless_place p) x ts ∙ h ∙ sym (name_bind p x us)
bind_before (primed p x q) ts us h = refl
bind_before (call p x q xs r) ts us h = refl
bind_before (apply a p xs q) ts us h = bind_before a (mark (lineless_place p) tk.open_square (spell_all (lineless_all xs) (mark (lineless_place q) tk.close_square ts))) (mark p tk.open_square (spell_all xs (mark q tk.close_square us))) refl
bind_before (select a p f) ts us h = bind_before a (mark (lineless_place p) tk.dot (field_token (lineless_field f) ts)) (mark p tk.dot (field_token f us)) refl
bind_before (infix_of a p o b) ts us h = bind_before a (sign (lineless_place p) o (spell (lineless b) ts)) (sign p o (spell b us)) refl
bind_before (prefix_of p o a) ts us h = word_bind (sign (lineless_place p) o (spell (lineless a) ts)) (sign_no_word o) ∙ sym (word_bind (sign p o (spell a us)) (sign_no_word o))
bind_before (list o (last_bullet p a)) ts us h = word_bind (spell (lineless (list o (last_bullet p a))) ts) (sign_no_word o) ∙ sym (word_bind (spell (list o (last_bullet p a)) us) (sign_no_word o))
bind_before (list o (bullet p a bs)) ts us h = word_bind (spell (lineless (list o (bullet p a bs))) ts) (sign_no_word o) ∙ sym (word_bind (spell (list o (bullet p a bs)) us) (sign_no_word o))
bind_before a ts us h = word_bind (spell (lineless a) ts) refl ∙ sym (word_bind (spell a us) refl)

bind_same : (a : Phrase) → is_bind (spell (lineless a) []) ≡ is_bind (spell a [])
bind_same a = bind_before a [] [] refl

-- ---- the same claim
abbrev pub Same : Type 0 → Type 0 → Type 1
Same A B = ◌≡◌ {A = Type 0} A B

mutual
  pub good : (e : ℕ) (x : Phrase) → Same (Good e (lineless x)) (Good e x)
  good e (number p n) = refl
  good e (string p x) = refl
  good e (constant p c) = refl
  good e (name p x) = refl
  good e (primed p x q) = refl
  good e (call p x q xs r) = λ i. Right e p × Right e q × good_all e xs i × Right e r
  good e (brackets p a q) = λ i. Right e p × good e a i × Right e q
  good e (no_set p q) = refl
  good e (set_of p xs q) = λ i. Right e p × good_all e xs i × Right e q
  good e (filter p q x r s t a u) = λ i. Right e p × Right e q × Right e r × good e s i × Right e t × good e a i × Right e u
  good e (image p a q bs r) = λ i. Right e p × good e a i × Right e q × good_binds e bs i × Right e r × IsTrue (not (bind_same a i))
  good e (no_tuple p q) = refl
  good e (tuple p xs q) = λ i. Right e p × good_all e xs i × Right e q
  good e (fields p fs q) = λ i. Right e p × good_fields e fs i × Right e q
  good e (records p fs q) = λ i. Right e p × good_fields e fs i × Right e q
  good e (function p bs q a r) = λ i. Right e p × good_binds e bs i × Right e q × good e a i × Right e r
  good e (functions p a q b r) = λ i. Right e p × good e a i × Right e q × good e b i × Right e r
  good e (except p a q ss r) = λ i. Right e p × good e a i × Right e q × good_settings e ss i × Right e r
  good e (apply a p xs q) = λ i. good e a i × IsTrue (head_same a p i) × Right e p × good_all e xs i × Right e q
  good e (select a p f) = λ i. good e a i × IsTrue (head_same a p i) × Right e p × Right e f.place
  good e (list o (last_bullet p a)) = λ i. IsTrue (is_bullet o) × Right e p × good_bullets p.col (last_bullet p a) i
  good e (list o (bullet p a bs)) = λ i. IsTrue (is_bullet o) × Right e p × good_bullets p.col (bullet p a bs) i
  good e (quantified b p bs q a) = λ i. Right e p × good_binds e bs i × Right e q × good e a i
  good e (if_then_else p a q b r c) = λ i. Right e p × good e a i × Right e q × good e b i × Right e r × good e c i
  good e (cases p xs) = λ i. Right e p × good_arms e xs i
  good e (local p ls q a) = λ i. Right e p × good_locals e ls i × Right e q × good e a i
  good e (infix_of a p o b) = λ i. IsTrue (not (is_prefix o)) × IsTrue (left_same a p o i) × IsTrue (right_same o b i) × good e a i × Right e p × good e b i
  good e (prefix_of p o a) = λ i. IsTrue (is_prefix o) × IsTrue (under_same o a i) × Right e p × good e a i

  pub good_all : (e : ℕ) (x : Phrases) → Same (GoodAll e (lineless_all x)) (GoodAll e x)
  good_all e (last a) = λ i. good e a i
  good_all e (more a p xs) = λ i. good e a i × Right e p × good_all e xs i

  good_binds : (e : ℕ) (x : Binds) → Same (GoodBinds e (lineless_binds x)) (GoodBinds e x)
  good_binds e (last_bind p x q a) = λ i. Right e p × Right e q × good e a i
  good_binds e (bind p x q a r bs) = λ i. Right e p × Right e q × good e a i × Right e r × good_binds e bs i
  good_binds e (share p x q bs) = λ i. Right e p × Right e q × good_binds e bs i

  good_fields : (e : ℕ) (x : Fields) → Same (GoodFields e (lineless_fields x)) (GoodFields e x)
  good_fields e (last_field f p a) = λ i. Right e f.place × Right e p × good e a i
  good_fields e (field f p a q fs) = λ i. Right e f.place × Right e p × good e a i × Right e q × good_fields e fs i

  good_settings : (e : ℕ) (x : Settings) → Same (GoodSettings e (lineless_settings x)) (GoodSettings e x)
  good_settings e (last_setting p path q a) = λ i. Right e p × IsTrue (some_same path i) × good_path e path i × Right e q × good e a i
  good_settings e (setting p path q a r ss) = λ i. Right e p × IsTrue (some_same path i) × good_path e path i × Right e q × good e a i × Right e r × good_settings e ss i

  good_path : (e : ℕ) (x : Path) → Same (GoodPath e (lineless_path x)) (GoodPath e x)
  good_path e path_end = refl
  good_path e (index p xs q path) = λ i. Right e p × good_all e xs i × Right e q × good_path e path i
  good_path e (at_field p f path) = λ i. Right e p × Right e f.place × good_path e path i

  good_bullets : (e : ℕ) (x : Bullets) → Same (GoodBullets e (lineless_bullets x)) (GoodBullets e x)
  good_bullets c (last_bullet p a) = λ i. (p.col ≡ c) × good c a i
  good_bullets c (bullet p a bs) = λ i. (p.col ≡ c) × good c a i × good_bullets c bs i

  good_arms : (e : ℕ) (x : Arms) → Same (GoodArms e (lineless_arms x)) (GoodArms e x)
  good_arms e (last_arm a p b) = λ i. good e a i × Right e p × good e b i
  good_arms e (other_arm a p b q r s c) = λ i. good e a i × Right e p × good e b i × IsTrue (not (box_same q.col b i)) × Right e q × Right e r × Right e s × good e c i
  good_arms e (arm a p b q xs) = λ i. good e a i × Right e p × good e b i × IsTrue (not (box_same q.col b i)) × Right e q × good_arms e xs i

  good_locals : (e : ℕ) (x : Locals) → Same (GoodLocals e (lineless_locals x)) (GoodLocals e x)
  good_locals e (last_local p x q a) = λ i. Right e p × Right e q × good e a i
  good_locals e (more_locals p x q a ls) = λ i. Right e p × Right e q × good e a i × good_locals e ls i

pub good_same : (e : ℕ) (a b : Phrase) → lineless a ≡ lineless b → Good e a → Good e b
good_same e a b s g =
    let bare : Good e (lineless a) = subst (λ (X : Type 0). X) (sym (good e a)) g in
    let moved : Good e (lineless b) = subst (λ (c : Phrase). Good e c) s bare in
    subst (λ (X : Type 0). X) (good e b) moved
