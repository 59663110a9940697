-- Phrases in other places; and so without their lines, which no grammar looks at.
use Rattle.std.specs.Prelude.{ℕ}
use Rattle.tla_token.specs.declared.place.Place.{Place}
use Rattle.tla_tree.specs.Spelling.{Phrase, number, string, constant, name, primed, call, brackets, no_set, set_of, filter, image, no_tuple, tuple, fields, records, function, functions, except, apply, select, list, quantified, if_then_else, cases, local, infix_of, prefix_of}
use Rattle.tla_tree.specs.Spelling.{Phrases, last, more, Binds, last_bind, bind, share, Fields, last_field, field, Settings, last_setting, setting, Path, path_end, index, at_field, Bullets, last_bullet, bullet, Arms, last_arm, other_arm, arm, Locals, last_local, more_locals}
use Rattle.tla_tree.specs.Spelling.{Field}

-- ---- a phrase in line 0, each token in the column that is given for its place
abbrev pub moved_place : (Place → ℕ) → Place → Place
moved_place column p = record { line = 0; col = column p }

abbrev pub moved_field : (Place → ℕ) → Field → Field
moved_field column f = record { place = moved_place column f.place; is_reserved = f.is_reserved; text = f.text }

abbrev mutual
  pub moved : (Place → ℕ) → Phrase → Phrase
  moved column (number p n) = number (moved_place column p) n
  moved column (string p x) = string (moved_place column p) x
  moved column (constant p c) = constant (moved_place column p) c
  moved column (name p x) = name (moved_place column p) x
  moved column (primed p x q) = primed (moved_place column p) x (moved_place column q)
  moved column (call p x q xs r) = call (moved_place column p) x (moved_place column q) (moved_all column xs) (moved_place column r)
  moved column (brackets p a q) = brackets (moved_place column p) (moved column a) (moved_place column q)
  moved column (no_set p q) = no_set (moved_place column p) (moved_place column q)
  moved column (set_of p xs q) = set_of (moved_place column p) (moved_all column xs) (moved_place column q)
  moved column (filter p q x r s t a u) = filter (moved_place column p) (moved_place column q) x (moved_place column r) (moved column s) (moved_place column t) (moved column a) (moved_place column u)
  moved column (image p a q bs r) = image (moved_place column p) (moved column a) (moved_place column q) (moved_binds column bs) (moved_place column r)
  moved column (no_tuple p q) = no_tuple (moved_place column p) (moved_place column q)
  moved column (tuple p xs q) = tuple (moved_place column p) (moved_all column xs) (moved_place column q)
  moved column (fields p fs q) = fields (moved_place column p) (moved_fields column fs) (moved_place column q)
  moved column (records p fs q) = records (moved_place column p) (moved_fields column fs) (moved_place column q)
  moved column (function p bs q a r) = function (moved_place column p) (moved_binds column bs) (moved_place column q) (moved column a) (moved_place column r)
  moved column (functions p a q b r) = functions (moved_place column p) (moved column a) (moved_place column q) (moved column b) (moved_place column r)
  moved column (except p a q ss r) = except (moved_place column p) (moved column a) (moved_place column q) (moved_settings column ss) (moved_place column r)
  moved column (apply a p xs q) = apply (moved column a) (moved_place column p) (moved_all column xs) (moved_place column q)
  moved column (select a p f) = select (moved column a) (moved_place column p) (moved_field column f)
  moved column (list o bs) = list o (moved_bullets column bs)
  moved column (quantified b p bs q a) = quantified b (moved_place column p) (moved_binds column bs) (moved_place column q) (moved column a)
  moved column (if_then_else p a q b r c) = if_then_else (moved_place column p) (moved column a) (moved_place column q) (moved column b) (moved_place column r) (moved column c)
  moved column (cases p xs) = cases (moved_place column p) (moved_arms column xs)
  moved column (local p ls q a) = local (moved_place column p) (moved_locals column ls) (moved_place column q) (moved column a)
  moved column (infix_of a p o b) = infix_of (moved column a) (moved_place column p) o (moved column b)
  moved column (prefix_of p o a) = prefix_of (moved_place column p) o (moved column a)

  pub moved_all : (Place → ℕ) → Phrases → Phrases
  moved_all column (last a) = last (moved column a)
  moved_all column (more a p xs) = more (moved column a) (moved_place column p) (moved_all column xs)

  pub moved_binds : (Place → ℕ) → Binds → Binds
  moved_binds column (last_bind p x q a) = last_bind (moved_place column p) x (moved_place column q) (moved column a)
  moved_binds column (bind p x q a r bs) = bind (moved_place column p) x (moved_place column q) (moved column a) (moved_place column r) (moved_binds column bs)
  moved_binds column (share p x q bs) = share (moved_place column p) x (moved_place column q) (moved_binds column bs)

  pub moved_fields : (Place → ℕ) → Fields → Fields
  moved_fields column (last_field f p a) = last_field (moved_field column f) (moved_place column p) (moved column a)
  moved_fields column (field f p a q fs) = field (moved_field column f) (moved_place column p) (moved column a) (moved_place column q) (moved_fields column fs)

  pub moved_settings : (Place → ℕ) → Settings → Settings
  moved_settings column (last_setting p path q a) = last_setting (moved_place column p) (moved_path column path) (moved_place column q) (moved column a)
  moved_settings column (setting p path q a r ss) = setting (moved_place column p) (moved_path column path) (moved_place column q) (moved column a) (moved_place column r) (moved_settings column ss)

  pub moved_path : (Place → ℕ) → Path → Path
  moved_path column path_end = path_end
  moved_path column (index p xs q path) = index (moved_place column p) (moved_all column xs) (moved_place column q) (moved_path column path)
  moved_path column (at_field p f path) = at_field (moved_place column p) (moved_field column f) (moved_path column path)

  pub moved_bullets : (Place → ℕ) → Bullets → Bullets
  moved_bullets column (last_bullet p a) = last_bullet (moved_place column p) (moved column a)
  moved_bullets column (bullet p a bs) = bullet (moved_place column p) (moved column a) (moved_bullets column bs)

  pub moved_arms : (Place → ℕ) → Arms → Arms
  moved_arms column (last_arm a p b) = last_arm (moved column a) (moved_place column p) (moved column b)
  moved_arms column (other_arm a p b q r s c) = other_arm (moved column a) (moved_place column p) (moved column b) (moved_place column q) (moved_place column r) (moved_place column s) (moved column c)
  moved_arms column (arm a p b q xs) = arm (moved column a) (moved_place column p) (moved column b) (moved_place column q) (moved_arms column xs)

  pub moved_locals : (Place → ℕ) → Locals → Locals
  moved_locals column (last_local p x q a) = last_local (moved_place column p) x (moved_place column q) (moved column a)
  moved_locals column (more_locals p x q a ls) = more_locals (moved_place column p) x (moved_place column q) (moved column a) (moved_locals column ls)

-- ---- a phrase without its lines
abbrev pub column_of : Place → ℕ
column_of p = p.col

abbrev pub lineless_place : Place → Place
lineless_place x = moved_place column_of x

abbrev pub lineless : Phrase → Phrase
lineless x = moved column_of x

abbrev pub lineless_all : Phrases → Phrases
lineless_all x = moved_all column_of x
