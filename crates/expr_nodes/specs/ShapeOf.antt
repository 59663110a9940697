-- What reading goes by of a phrase: its shape in memory.
use Rattle.std.specs.Prelude.{◌≡◌, ℕ, ◌+◌, max, Bool, true, false, ◌||◌, ◌&&◌, not, nat_lt, nat_le, nat_eq, Option, Some, None, if◌then◌else◌}
use Rattle.tla_token.specs.declared.place.Place.{Place}
use Rattle.tla_tree.specs.declared.op.Op.{Op}
use Rattle.tla_tree.specs.declared.op.Op.TheVariants as op
use Rattle.expr_nodes.specs.declared.shape.Head.{Head}
use Rattle.expr_nodes.specs.declared.shape.Head.TheVariants as at
use Rattle.expr_nodes.specs.declared.shape.Boxes.{Boxes}
use Rattle.expr_nodes.specs.declared.shape.Boxes.TheVariants as boxes
use Rattle.expr_nodes.specs.declared.shape.Bullet.{Bullet}
use Rattle.expr_nodes.specs.declared.shape.Shape.{Shape}
use Rattle.expr_nodes.specs.declared.shape.Context.{Context}
use Rattle.expr_nodes.specs.declared.shape.Context.TheVariants as context
use Rattle.tla_tree.specs.Rank.{rank, is_prefix, is_associative, same_op}
use Rattle.tla_tree.specs.Reader as reader
use Rattle.tla_tree.specs.Spelling.{first_bullet, Phrase, number, string, constant, name, primed, call, brackets, no_set, set_of, filter, image, no_tuple, tuple, fields, records, function, functions, except, apply, select, list, quantified, if_then_else, cases, local, infix_of, prefix_of, Phrases, last, more, Binds, last_bind, bind, share, Fields, last_field, field, Settings, last_setting, setting, Path, path_end, index, at_field, Bullets, last_bullet, bullet, Arms, last_arm, other_arm, arm, Locals, last_local, more_locals}

abbrev pub context_seen : Context → reader.Context
context_seen context.Free = reader.free
context_seen (context.RightOf o) = reader.right_of o
context_seen (context.Under o) = reader.under o

-- ---- heads and ends
abbrev pub is_primary : Head → Bool
is_primary at.Primary = true
is_primary h = false

abbrev pub is_open : Head → Bool
is_open at.Open = true
is_open h = false

abbrev pub is_above : Op → Head → Bool
is_above o at.Primary = true
is_above o (at.Applied q) = nat_lt (rank o).1 (rank q).0
is_above o at.Open = false

abbrev pub is_applied : Op → Head → Bool
is_applied o (at.Applied q) = same_op o q
is_applied o h = false

abbrev pub is_behind : Option Bullet → Op → Place → Bool
is_behind None o p = true
is_behind (Some l) o p = not (nat_lt l.col p.col) && not (same_op l.op o && nat_eq l.col p.col)

abbrev pub is_left : Option Bullet → Place → Bool
is_left None p = true
is_left (Some l) p = not (nat_lt l.col p.col)

abbrev pub takes : ℕ → Boxes → Bool
takes c boxes.Never = false
takes c boxes.Always = true
takes c (boxes.RightOf d) = nat_lt d c

abbrev pub right_of : ℕ → Boxes → Boxes
right_of c boxes.Never = boxes.Never
right_of c boxes.Always = boxes.RightOf c
right_of c (boxes.RightOf d) = boxes.RightOf (max c d)

-- ---- where a phrase may stand, by its shape
abbrev pub stands_left : Shape → Place → Op → Bool
stands_left s p o = (is_above o s.head || (is_associative o && is_applied o s.head)) && (not s.ends_open && is_behind s.end_list o p)

abbrev pub stands_right : Op → Shape → Bool
stands_right o s = is_above o s.head || (is_open s.head || s.short)

abbrev pub stands_under : Op → Shape → Bool
stands_under o s = is_above o s.head || (is_applied o s.head || (is_open s.head || s.short))

abbrev pub stands_at_head : Shape → Place → Bool
stands_at_head s p = is_primary s.head && is_left s.end_list p

abbrev pub continues : ℕ → Shape → Place → Op → Bool
continues b s p o = not (is_prefix o) && (nat_lt b (rank o).0 && stands_left s p o)

-- ---- shapes of forms
abbrev pub primary_shape : Place → ℕ → Shape
primary_shape p n = record { head = at.Primary; start = p; short = true; ends_open = false; end_list = None; boxes = boxes.Never; chain = 0; links = 0; nesting = n }

-- of a primary with what is behind it: so many links at its end
abbrev pub linked_shape : Shape → ℕ → ℕ → Shape
linked_shape s l n = record { head = at.Primary; start = s.start; short = true; ends_open = false; end_list = None; boxes = boxes.Never; chain = 0; links = l; nesting = n }

-- those that count, and one more
abbrev pub links_before : Bool → ℕ → ℕ
links_before true n = n
links_before false n = 0

abbrev pub links_after : Bool → ℕ → ℕ
links_after true n = n + 1
links_after false n = 0

-- what a field opens with those before it
abbrev pub field_links : Bool → ℕ → ℕ
field_links true n = n + 1
field_links false n = 0

abbrev pub apply_shape : Bool → Shape → ℕ → Shape
apply_shape w s n = linked_shape s (links_after w s.links) (max s.nesting (links_before w s.links + 1 + n))

abbrev pub field_nesting : Bool → Shape → ℕ
field_nesting true s = max s.nesting (s.links + 1)
field_nesting false s = s.nesting

abbrev pub select_shape : Bool → Shape → Shape
select_shape w s = linked_shape s (links_after w s.links) (field_nesting w s)

abbrev pub open_shape : Place → Boxes → ℕ → Shape
open_shape p b n = record { head = at.Open; start = p; short = false; ends_open = true; end_list = None; boxes = b; chain = 0; links = 0; nesting = n }

abbrev pub list_shape : Op → Place → Boxes → ℕ → Shape
list_shape o p b n = record { head = at.Primary; start = p; short = true; ends_open = false; end_list = Some (record { op = o; col = p.col }); boxes = right_of p.col b; chain = 0; links = 0; nesting = n }

abbrev pub infix_shape : Shape → Op → Shape → Shape
infix_shape s o t = record { head = at.Applied o; start = s.start; short = false; ends_open = t.ends_open; end_list = t.end_list; boxes = t.boxes; chain = s.chain + 1; links = 0; nesting = max s.nesting (s.chain + 1 + t.nesting) }

abbrev pub prefix_shape : Place → Op → Shape → Shape
prefix_shape p o s = record { head = at.Applied o; start = p; short = s.short; ends_open = s.ends_open; end_list = s.end_list; boxes = s.boxes; chain = 0; links = 0; nesting = 1 + s.nesting }

-- of lists: the most forms that are open in them; w tells whether fields and closed applications count
abbrev mutual
  pub shape_of : Bool → Phrase → Shape
  shape_of w (number p n) = primary_shape p 0
  shape_of w (string p x) = primary_shape p 0
  shape_of w (constant p c) = primary_shape p 0
  shape_of w (name p x) = primary_shape p 0
  shape_of w (primed p x q) = primary_shape p 0
  shape_of w (call p x q xs r) = primary_shape p (1 + in_all w xs)
  shape_of w (brackets p a q) = primary_shape p (1 + (shape_of w a).nesting)
  shape_of w (no_set p q) = primary_shape p 1
  shape_of w (set_of p xs q) = primary_shape p (1 + in_all w xs)
  shape_of w (filter p q x r s t a u) = primary_shape p (1 + max (shape_of w s).nesting (shape_of w a).nesting)
  shape_of w (image p a q bs r) = primary_shape p (1 + max (shape_of w a).nesting (in_binds w bs))
  shape_of w (no_tuple p q) = primary_shape p 1
  shape_of w (tuple p xs q) = primary_shape p (1 + in_all w xs)
  shape_of w (fields p fs q) = primary_shape p (1 + in_fields w fs)
  shape_of w (records p fs q) = primary_shape p (1 + in_fields w fs)
  shape_of w (function p bs q a r) = primary_shape p (1 + max (in_binds w bs) (shape_of w a).nesting)
  shape_of w (functions p a q b r) = primary_shape p (1 + max (shape_of w a).nesting (shape_of w b).nesting)
  shape_of w (except p a q ss r) = primary_shape p (1 + max (shape_of w a).nesting (in_settings w ss))
  shape_of w (apply a p xs q) = apply_shape w (shape_of w a) (in_all w xs)
  shape_of w (select a p f) = select_shape w (shape_of w a)
  shape_of w (list o bs) = list_shape o (first_bullet bs) (last_boxes w bs) (in_bullets w bs)
  shape_of w (quantified b p bs q a) = open_shape p (shape_of w a).boxes (1 + max (in_binds w bs) (shape_of w a).nesting)
  shape_of w (if_then_else p a q b r c) = open_shape p (shape_of w c).boxes (1 + max (max (shape_of w a).nesting (shape_of w b).nesting) (shape_of w c).nesting)
  shape_of w (cases p xs) = open_shape p boxes.Always (1 + in_arms w xs)
  shape_of w (local p ls q a) = open_shape p (shape_of w a).boxes (1 + max (in_locals w ls) (shape_of w a).nesting)
  shape_of w (infix_of a p o b) = infix_shape (shape_of w a) o (shape_of w b)
  shape_of w (prefix_of p o a) = prefix_shape p o (shape_of w a)

  pub in_all : Bool → Phrases → ℕ
  in_all w (last a) = (shape_of w a).nesting
  in_all w (more a p xs) = max (shape_of w a).nesting (in_all w xs)

  pub in_binds : Bool → Binds → ℕ
  in_binds w (last_bind p x q a) = (shape_of w a).nesting
  in_binds w (bind p x q a r bs) = max (shape_of w a).nesting (in_binds w bs)
  in_binds w (share p x q bs) = in_binds w bs

  pub in_fields : Bool → Fields → ℕ
  in_fields w (last_field f p a) = (shape_of w a).nesting
  in_fields w (field f p a q fs) = max (shape_of w a).nesting (in_fields w fs)

  pub in_settings : Bool → Settings → ℕ
  in_settings w (last_setting p path q a) = max (in_path w path) (shape_of w a).nesting
  in_settings w (setting p path q a r ss) = max (max (in_path w path) (shape_of w a).nesting) (in_settings w ss)

  pub in_path : Bool → Path → ℕ
  in_path w path_end = 0
  in_path w (index p xs q path) = max (1 + in_all w xs) (in_path w path)
  in_path w (at_field p f path) = in_path w path

  -- each further bullet is open besides those before it
  pub in_bullets : Bool → Bullets → ℕ
  in_bullets w (last_bullet p a) = 1 + (shape_of w a).nesting
  in_bullets w (bullet p a bs) = 1 + max (shape_of w a).nesting (in_bullets w bs)

  pub last_boxes : Bool → Bullets → Boxes
  last_boxes w (last_bullet p a) = (shape_of w a).boxes
  last_boxes w (bullet p a bs) = last_boxes w bs

  pub in_arms : Bool → Arms → ℕ
  in_arms w (last_arm a p b) = max (shape_of w a).nesting (shape_of w b).nesting
  in_arms w (other_arm a p b q r s c) = max (max (shape_of w a).nesting (shape_of w b).nesting) (shape_of w c).nesting
  in_arms w (arm a p b q xs) = max (max (shape_of w a).nesting (shape_of w b).nesting) (in_arms w xs)

  pub in_locals : Bool → Locals → ℕ
  in_locals w (last_local p x q a) = (shape_of w a).nesting
  in_locals w (more_locals p x q a ls) = max (shape_of w a).nesting (in_locals w ls)

-- ---- what is open at an operator behind `x \in`
-- the shape of a phrase, or none
abbrev pub may_have : Bool → Option Shape → Option Phrase → Type 0
may_have w (Some s) (Some a) = shape_of w a ≡ s
may_have w (Some s) None = ⊥
may_have w None (Some a) = ⊥
may_have w None None = Unit {0}

abbrev pub element_chain : ℕ → Option Shape → Place → Op → Option ℕ
element_chain b (Some s) p o = if not (nat_lt (rank op.In).1 (rank o).0) && (stands_left s p o && nat_le s.nesting b) then Some s.chain else None
element_chain b None p o = None

abbrev pub least_chain : ℕ → Shape → Option Shape → Place → Op → Option ℕ
least_chain b s e p o = reader.fewest (if nat_le s.nesting b then Some s.chain else None) (element_chain b e p o)
