-- What reading asks of a phrase is told by its shape.
use Rattle.std.proofs.Common.{◌≡◌, ℕ, ◌+◌, max, Bool, true, false, ◌&&◌, not, nat_lt, List, [], ◌∷◌, refl, sym, ap, subst, ◌∙◌, arith}
use Rattle.tla_token.specs.declared.place.Place.{Place}
use Rattle.tla_tree.specs.declared.op.Op.{Op}
use Rattle.expr_nodes.specs.declared.shape.Head.{Head}
use Rattle.expr_nodes.specs.declared.shape.Head.TheVariants as at
use Rattle.expr_nodes.specs.declared.shape.Boxes.{Boxes}
use Rattle.expr_nodes.specs.declared.shape.Boxes.TheVariants as boxes
use Rattle.expr_nodes.specs.declared.shape.Shape.{Shape}
use Rattle.tla_tree.specs.Rank.{rank, is_prefix}
use Rattle.tla_tree.specs.Spelling as spelling
use Rattle.tla_tree.specs.Reader as reader
use Rattle.tla_tree.specs.Nesting.{chain, links, before, counts_in, all_in, binds_in, fields_in, settings_in, path_in, bullets_in, arms_in, locals_in, greatest, nesting_in}
use Rattle.expr_nodes.specs.ShapeOf.{is_primary, is_open, is_above, is_applied, is_behind, takes, stands_left, stands_right, stands_under, stands_at_head, continues, right_of, links_before, shape_of, in_all, in_binds, in_fields, in_settings, in_path, in_bullets, in_arms, in_locals, last_boxes}
use Rattle.tla_tree.specs.Spelling.{first_bullet, Phrase, number, string, constant, name, primed, call, brackets, no_set, set_of, filter, image, no_tuple, tuple, fields, records, function, functions, except, apply, select, list, quantified, if_then_else, cases, local, infix_of, prefix_of, Phrases, last, more, Binds, last_bind, bind, share, Fields, last_field, field, Settings, last_setting, setting, Path, path_end, index, at_field, Bullets, last_bullet, bullet, Arms, last_arm, other_arm, arm, Locals, last_local, more_locals}

-- ---- chains and links
pub chain_is : (linked : Bool) (a : Phrase) → (shape_of linked a).chain ≡ chain a
chain_is linked (infix_of a p o b) = ap (λ (n : ℕ). n + 1) (chain_is linked a)
chain_is linked a = refl

pub links_is : (linked : Bool) (a : Phrase) → (shape_of linked a).links ≡ before linked a
links_is true (apply a p xs q) = ap (λ (n : ℕ). n + 1) (links_is true a)
links_is true (select a p f) = ap (λ (n : ℕ). n + 1) (links_is true a)
links_is true a = refl
links_is false (apply a p xs q) = refl
links_is false (select a p f) = refl
links_is false a = refl

pub before_is : (linked : Bool) (a : Phrase) → links_before linked (shape_of linked a).links ≡ before linked a
before_is true a = links_is true a
before_is false a = refl

-- ---- open forms
mutual
  pub deep : (linked : Bool) (n : ℕ) (a : Phrase) (r : List ℕ) → greatest (counts_in linked n a r) ≡ max (n + (shape_of linked a).nesting) (greatest r)
  deep linked n (number p k) r = omega arith
  deep linked n (string p x) r = omega arith
  deep linked n (constant p c) r = omega arith
  deep linked n (name p x) r = omega arith
  deep linked n (primed p x q) r = omega arith
  deep linked n (call p x q xs t) r = omega (arith, deep_all linked (n + 1) xs ((n + 1) ∷ r))
  deep linked n (brackets p a q) r = omega (arith, deep linked (n + 1) a ((n + 1) ∷ r))
  deep linked n (no_set p q) r = omega arith
  deep linked n (set_of p xs q) r = omega (arith, deep_all linked (n + 1) xs ((n + 1) ∷ r))
  deep linked n (filter p q x v s t a u) r = omega (arith, deep linked (n + 1) s ((n + 1) ∷ counts_in linked (n + 1) a ((n + 1) ∷ r)), deep linked (n + 1) a ((n + 1) ∷ r))
  deep linked n (image p a q bs t) r = omega (arith, deep linked (n + 1) a ((n + 1) ∷ binds_in linked (n + 1) bs ((n + 1) ∷ r)), deep_binds linked (n + 1) bs ((n + 1) ∷ r))
  deep linked n (no_tuple p q) r = omega arith
  deep linked n (tuple p xs q) r = omega (arith, deep_all linked (n + 1) xs ((n + 1) ∷ r))
  deep linked n (fields p fs q) r = omega (arith, deep_fields linked (n + 1) fs ((n + 1) ∷ r))
  deep linked n (records p fs q) r = omega (arith, deep_fields linked (n + 1) fs ((n + 1) ∷ r))
  deep linked n (function p bs q a t) r = omega (arith, deep_binds linked (n + 1) bs ((n + 1) ∷ counts_in linked (n + 1) a ((n + 1) ∷ r)), deep linked (n + 1) a ((n + 1) ∷ r))
  deep linked n (functions p a q b t) r = omega (arith, deep linked (n + 1) a ((n + 1) ∷ counts_in linked (n + 1) b ((n + 1) ∷ r)), deep linked (n + 1) b ((n + 1) ∷ r))
  deep linked n (except p a q ss t) r = omega (arith, deep linked (n + 1) a ((n + 1) ∷ settings_in linked (n + 1) ss ((n + 1) ∷ r)), deep_settings linked (n + 1) ss ((n + 1) ∷ r))
  deep linked n (apply a p xs q) r = omega (arith, before_is linked a, deep linked n a ((n + before linked a + 1) ∷ all_in linked (n + before linked a + 1) xs ((n + before linked a + 1) ∷ r)), deep_all linked (n + before linked a + 1) xs ((n + before linked a + 1) ∷ r))
  deep true n (select a p f) r = omega (arith, links_is true a, deep true n a ((n + links a + 1) ∷ (n + links a + 1) ∷ r))
  deep false n (select a p f) r = omega (arith, deep false n a (n ∷ n ∷ r))
  deep linked n (list o bs) r = deep_bullets linked n bs r
  deep linked n (quantified b p bs q a) r = omega (arith, deep_binds linked (n + 1) bs ((n + 1) ∷ counts_in linked (n + 1) a r), deep linked (n + 1) a r)
  deep linked n (if_then_else p a q b t c) r = omega (arith, deep linked (n + 1) a ((n + 1) ∷ counts_in linked (n + 1) b ((n + 1) ∷ counts_in linked (n + 1) c r)), deep linked (n + 1) b ((n + 1) ∷ counts_in linked (n + 1) c r), deep linked (n + 1) c r)
  deep linked n (cases p xs) r = omega (arith, deep_arms linked (n + 1) xs r)
  deep linked n (local p ls q a) r = omega (arith, deep_locals linked (n + 1) ls ((n + 1) ∷ counts_in linked (n + 1) a r), deep linked (n + 1) a r)
  deep linked n (infix_of a p o b) r = omega (arith, chain_is linked a, deep linked n a ((n + chain a + 1) ∷ counts_in linked (n + chain a + 1) b r), deep linked (n + chain a + 1) b r)
  deep linked n (prefix_of p o a) r = omega (arith, deep linked (n + 1) a r)

  pub deep_all : (linked : Bool) (n : ℕ) (xs : Phrases) (r : List ℕ) → greatest (all_in linked n xs r) ≡ max (n + in_all linked xs) (greatest r)
  deep_all linked n (last a) r = deep linked n a r
  deep_all linked n (more a p xs) r = omega (arith, deep linked n a (n ∷ all_in linked n xs r), deep_all linked n xs r)

  pub deep_binds : (linked : Bool) (n : ℕ) (bs : Binds) (r : List ℕ) → greatest (binds_in linked n bs r) ≡ max (n + in_binds linked bs) (greatest r)
  deep_binds linked n (last_bind p x q a) r = omega (arith, deep linked n a r)
  deep_binds linked n (bind p x q a t bs) r = omega (arith, deep linked n a (n ∷ binds_in linked n bs r), deep_binds linked n bs r)
  deep_binds linked n (share p x q bs) r = omega (arith, deep_binds linked n bs r)

  pub deep_fields : (linked : Bool) (n : ℕ) (fs : Fields) (r : List ℕ) → greatest (fields_in linked n fs r) ≡ max (n + in_fields linked fs) (greatest r)
  deep_fields linked n (last_field f p a) r = omega (arith, deep linked n a r)
  deep_fields linked n (field f p a q fs) r = omega (arith, deep linked n a (n ∷ fields_in linked n fs r), deep_fields linked n fs r)

  pub deep_settings : (linked : Bool) (n : ℕ) (ss : Settings) (r : List ℕ) → greatest (settings_in linked n ss r) ≡ max (n + in_settings linked ss) (greatest r)
  deep_settings linked n (last_setting p path q a) r = omega (arith, deep_path linked n path (n ∷ counts_in linked n a r), deep linked n a r)
  deep_settings linked n (setting p path q a t ss) r = omega (arith, deep_path linked n path (n ∷ counts_in linked n a (n ∷ settings_in linked n ss r)), deep linked n a (n ∷ settings_in linked n ss r), deep_settings linked n ss r)

  pub deep_path : (linked : Bool) (n : ℕ) (path : Path) (r : List ℕ) → max n (greatest (path_in linked n path r)) ≡ max (n + in_path linked path) (greatest r)
  deep_path linked n path_end r = omega arith
  deep_path linked n (index p xs q path) r = omega (arith, deep_all linked (n + 1) xs ((n + 1) ∷ path_in linked n path r), deep_path linked n path r)
  deep_path linked n (at_field p f path) r = omega (arith, deep_path linked n path r)

  pub deep_bullets : (linked : Bool) (n : ℕ) (bs : Bullets) (r : List ℕ) → greatest (bullets_in linked n bs r) ≡ max (n + in_bullets linked bs) (greatest r)
  deep_bullets linked n (last_bullet p a) r = omega (arith, deep linked (n + 1) a r)
  deep_bullets linked n (bullet p a bs) r = omega (arith, deep linked (n + 1) a (bullets_in linked (n + 1) bs r), deep_bullets linked (n + 1) bs r)

  pub deep_arms : (linked : Bool) (n : ℕ) (xs : Arms) (r : List ℕ) → greatest (arms_in linked n xs r) ≡ max (n + in_arms linked xs) (greatest r)
  deep_arms linked n (last_arm a p b) r = omega (arith, deep linked n a (n ∷ counts_in linked n b r), deep linked n b r)
  deep_arms linked n (other_arm a p b q s t c) r = omega (arith, deep linked n a (n ∷ counts_in linked n b (n ∷ n ∷ n ∷ counts_in linked n c r)), deep linked n b (n ∷ n ∷ n ∷ counts_in linked n c r), deep linked n c r)
  deep_arms linked n (arm a p b q xs) r = omega (arith, deep linked n a (n ∷ counts_in linked n b (n ∷ arms_in linked n xs r)), deep linked n b (n ∷ arms_in linked n xs r), deep_arms linked n xs r)

  pub deep_locals : (linked : Bool) (n : ℕ) (ls : Locals) (r : List ℕ) → greatest (locals_in linked n ls r) ≡ max (n + in_locals linked ls) (greatest r)
  deep_locals linked n (last_local p x q a) r = omega (arith, deep linked n a r)
  deep_locals linked n (more_locals p x q a ls) r = omega (arith, deep linked n a (locals_in linked n ls r), deep_locals linked n ls r)

pub nesting_is : (linked : Bool) (a : Phrase) → (shape_of linked a).nesting ≡ nesting_in linked a
nesting_is linked a = omega (arith, deep linked 0 a [])

-- ---- heads and ends
pub start_is : (linked : Bool) (a : Phrase) → (shape_of linked a).start ≡ spelling.start a
start_is linked (apply a p xs q) = start_is linked a
start_is linked (select a p f) = start_is linked a
start_is linked (infix_of a p o b) = start_is linked a
start_is linked a = refl

abbrev head_seen : Head → spelling.Head
head_seen at.Primary = spelling.primary
head_seen (at.Applied o) = spelling.applied o
head_seen at.Open = spelling.open_form

head_is : (linked : Bool) (a : Phrase) → head_seen (shape_of linked a).head ≡ spelling.head a
head_is linked (infix_of a p o b) = refl
head_is linked (prefix_of p o a) = refl
head_is linked (quantified b p bs q a) = refl
head_is linked (if_then_else p a q b r c) = refl
head_is linked (cases p xs) = refl
head_is linked (local p ls q a) = refl
head_is linked a = refl

above_is : (o : Op) (h : Head) → spelling.is_above o (head_seen h) ≡ is_above o h
above_is o at.Primary = refl
above_is o (at.Applied q) = refl
above_is o at.Open = refl

applied_is : (o : Op) (h : Head) → spelling.is_applied o (head_seen h) ≡ is_applied o h
applied_is o at.Primary = refl
applied_is o (at.Applied q) = refl
applied_is o at.Open = refl

primary_is : (h : Head) → spelling.is_primary (head_seen h) ≡ is_primary h
primary_is at.Primary = refl
primary_is (at.Applied q) = refl
primary_is at.Open = refl

open_is : (h : Head) → spelling.is_open (head_seen h) ≡ is_open h
open_is at.Primary = refl
open_is (at.Applied q) = refl
open_is at.Open = refl

short_is : (linked : Bool) (a : Phrase) → (shape_of linked a).short ≡ spelling.is_short a
short_is linked (prefix_of p o a) = short_is linked a
short_is linked a = refl

ends_is : (linked : Bool) (a : Phrase) → (shape_of linked a).ends_open ≡ spelling.ends_open a
ends_is linked (infix_of a p o b) = ends_is linked b
ends_is linked (prefix_of p o a) = ends_is linked a
ends_is linked a = refl

behind_is : (linked : Bool) (a : Phrase) (o : Op) (p : Place) → is_behind (shape_of linked a).end_list o p ≡ spelling.is_behind (spelling.end_list a) o p
behind_is linked (infix_of a q r b) o p = behind_is linked b o p
behind_is linked (prefix_of q r a) o p = behind_is linked a o p
behind_is linked (list r bs) o p = refl
behind_is linked a o p = refl

left_of : (linked : Bool) (a : Phrase) (p : Place) (o : Op) → stands_left (shape_of linked a) p o ≡ spelling.can_be_left a p o
left_of linked a p o = rw (sym (head_is linked a), above_is o (shape_of linked a).head, applied_is o (shape_of linked a).head, ends_is linked a, behind_is linked a o p) refl

left_at : (linked : Bool) (s : Shape) (p : Place) (o : Op) (a : Phrase) → shape_of linked a ≡ s → stands_left s p o ≡ spelling.can_be_left a p o
left_at linked s p o a e = subst (λ (s : Shape). stands_left s p o ≡ spelling.can_be_left a p o) e (left_of linked a p o)

pub left_is : (linked : Bool) (x : Bool) (s : Shape) (p : Place) (o : Op) (a : Phrase) → x ≡ stands_left s p o → shape_of linked a ≡ s → x ≡ spelling.can_be_left a p o
left_is linked x s p o a d e = d ∙ left_at linked s p o a e

right_by : (linked : Bool) (o : Op) (a : Phrase) → stands_right o (shape_of linked a) ≡ spelling.can_be_right o a
right_by linked o a = rw (sym (head_is linked a), above_is o (shape_of linked a).head, open_is (shape_of linked a).head, short_is linked a) refl

pub right_is : (linked : Bool) (x : Bool) (s : Shape) (o : Op) (a : Phrase) → x ≡ stands_right o s → shape_of linked a ≡ s → x ≡ spelling.can_be_right o a
right_is linked x s o a d e = d ∙ subst (λ (s : Shape). stands_right o s ≡ spelling.can_be_right o a) e (right_by linked o a)

under_by : (linked : Bool) (o : Op) (a : Phrase) → stands_under o (shape_of linked a) ≡ spelling.can_be_under o a
under_by linked o a = rw (sym (head_is linked a), above_is o (shape_of linked a).head, applied_is o (shape_of linked a).head, open_is (shape_of linked a).head, short_is linked a) refl

pub under_is : (linked : Bool) (x : Bool) (s : Shape) (o : Op) (a : Phrase) → x ≡ stands_under o s → shape_of linked a ≡ s → x ≡ spelling.can_be_under o a
under_is linked x s o a d e = d ∙ subst (λ (s : Shape). stands_under o s ≡ spelling.can_be_under o a) e (under_by linked o a)

head_by : (linked : Bool) (a : Phrase) (p : Place) → stands_at_head (shape_of linked a) p ≡ spelling.can_be_head a p
head_by linked (list o bs) p = refl
head_by linked a p = refl

pub head_of_is : (linked : Bool) (x : Bool) (s : Shape) (p : Place) (a : Phrase) → x ≡ stands_at_head s p → shape_of linked a ≡ s → x ≡ spelling.can_be_head a p
head_of_is linked x s p a d e = d ∙ subst (λ (s : Shape). stands_at_head s p ≡ spelling.can_be_head a p) e (head_by linked a p)

pub alone_is : (linked x : Bool) (s : Shape) (a : Phrase) → x ≡ is_primary s.head → shape_of linked a ≡ s → x ≡ spelling.is_primary (spelling.head a)
alone_is linked x s a d e = d ∙ ap (λ (s : Shape). is_primary s.head) (sym e) ∙ sym (primary_is (shape_of linked a).head) ∙ ap spelling.is_primary (head_is linked a)

pub goes_is : (linked : Bool) (x : Bool) (s : Shape) (b : ℕ) (p : Place) (o : Op) (a : Phrase) → x ≡ continues b s p o → shape_of linked a ≡ s → x ≡ reader.goes_on b a p o
goes_is linked x s b p o a d e = d ∙ ap (λ (l : Bool). not (is_prefix o) && (nat_lt b (rank o).0 && l)) (left_at linked s p o a e)

-- ---- `[]`
both_right : (c d e : ℕ) → nat_lt (max d e) c ≡ nat_lt d c && nat_lt e c
both_right c d e = grind arith

right_takes : (c d : ℕ) (b : Boxes) → takes c (right_of d b) ≡ nat_lt d c && takes c b
right_takes c d boxes.Never = grind arith
right_takes c d boxes.Always = grind arith
right_takes c d (boxes.RightOf e) = both_right c d e

mutual
  takes_is : (linked : Bool) (c : ℕ) (a : Phrase) → takes c (shape_of linked a).boxes ≡ spelling.takes_box c a
  takes_is linked c (cases p xs) = refl
  takes_is linked c (infix_of a p o b) = takes_is linked c b
  takes_is linked c (prefix_of p o a) = takes_is linked c a
  takes_is linked c (quantified b p bs q a) = takes_is linked c a
  takes_is linked c (if_then_else p a q b r d) = takes_is linked c d
  takes_is linked c (local p ls q a) = takes_is linked c a
  takes_is linked c (list o bs) = right_takes c (first_bullet bs).col (last_boxes linked bs) ∙ ap (λ (b : Bool). nat_lt (first_bullet bs).col c && b) (last_is linked c bs)
  takes_is linked c a = refl

  last_is : (linked : Bool) (c : ℕ) (bs : Bullets) → takes c (last_boxes linked bs) ≡ spelling.last_takes_box c bs
  last_is linked c (last_bullet p a) = takes_is linked c a
  last_is linked c (bullet p a bs) = last_is linked c bs

pub box_is : (linked : Bool) (x : Bool) (s : Shape) (c : ℕ) (a : Phrase) → x ≡ takes c s.boxes → shape_of linked a ≡ s → x ≡ spelling.takes_box c a
box_is linked x s c a d e = d ∙ subst (λ (s : Shape). takes c s.boxes ≡ spelling.takes_box c a) e (takes_is linked c a)
