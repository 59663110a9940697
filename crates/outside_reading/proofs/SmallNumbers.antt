-- The numbers of the tokens that spell a tree are the numbers of the tree, so a tree that reads is spelled by tokens whose numbers are not too large.
use Rattle.std.specs.Prelude.{if◌then◌else◌}
use Rattle.std.proofs.Common.{◌≡◌, ℕ, Bool, true, false, not, ◌&&◌, nat_le, true≢false, List, [], ◌∷◌, ◌++◌, Some, None, Ok, Err, refl, sym, ap, ◌∙◌}
use Rattle.std.proofs.lemmas.Bool.{and_parts}
use Rattle.tla_token.specs.declared.place.Place.{Place}
use Rattle.tla_tree.specs.declared.op.Op.{Op}
use Rattle.tla_tree.specs.declared.op.Op.TheVariants as op
use Rattle.tla_tree.specs.Tree.{Word, Name, words, Tree, Trees, node, no_trees, Form, seen_names}
use Rattle.tla_tree.specs.Tree as tree
use Rattle.tla_tree.specs.Lexical.{TokenView, Constant, Token, token, Mark, field_kind}
use Rattle.tla_tree.specs.Lexical as tk
use Rattle.tla_tree.specs.Spelling.{Phrase, number, string, constant, name, primed, call, brackets, no_set, set_of, filter, image, no_tuple, tuple, fields, records, function, functions, except, apply, select, list, quantified, if_then_else, cases, local, infix_of, prefix_of}
use Rattle.tla_tree.specs.Spelling.{Phrases, last, more, Binds, last_bind, bind, share, Fields, last_field, field, Settings, last_setting, setting, Path, path_end, index, at_field, Bullets, last_bullet, bullet, Arms, last_arm, other_arm, arm, Locals, last_local, more_locals}
use Rattle.tla_tree.specs.Spelling.{spell, spell_all, spell_binds, spell_fields, spell_settings, spell_path, spell_bullets, spell_arms, spell_locals}
use Rattle.tla_tree.specs.Spelling.{constant_form, operation, one, two, tree_of, trees_of, subscript, sets_before, field_trees, setting_trees, subscripts, joined, joined_to, arm_trees, right_sides_before}
use Rattle.tla_token.specs.Limits.{deepest_definition}
use Rattle.tla_token.specs.Signs.{is_among}
use Rattle.tla_tree.specs.Reader.{Out, read_limited}
use Rattle.tla_tree.proofs.SoundLists.{read_is_spelled}
use Rattle.tla_tree.proofs.LimitedStops.{read_within}
use Rattle.tla_value.specs.DefinitionNesting.{definition_nests, depths}
use Rattle.tla_value.specs.StandardModules.{is_member, is_last}
use Rattle.module_tree.specs.Outside.{Sight, count, form_reads, tree_reads, trees_read, are_fresh, definition_reads}
use Rattle.outside_reading.specs.PlainUnits.{whole_tree, body_in, with_body, definition_of, defined_if}
use Rattle.outside_reading.specs.SmallNumbers.{is_small, all_small, form_small, tree_small, trees_small}

-- ---- tokens and forms that have no number

field_small : (b : Bool) (x : Word) → is_small (field_kind b x) ≡ true
field_small true x = refl
field_small false x = refl

sign_small : (o : Op) → is_small (tk.sign_of o) ≡ true
sign_small op.Negate = refl
sign_small o = refl

operation_small : (o : Op) → form_small (operation o) ≡ true
operation_small op.And = refl
operation_small op.Or = refl
operation_small op.Implies = refl
operation_small op.In = refl
operation_small op.NotIn = refl
operation_small o = refl

constant_small : (c : Constant) → form_small (constant_form c) ≡ true
constant_small (tk.truth b) = refl
constant_small tk.booleans = refl
constant_small tk.strings = refl

-- ---- parts in a row

one_part : (a c : Bool) → (a && c) ≡ ((a && true) && c)
one_part true c = refl
one_part false c = refl

together : (a b c : Bool) → (a && (b && c)) ≡ ((a && b) && c)
together true b c = refl
together false b c = refl

two_parts : (a b c : Bool) → (a && (b && c)) ≡ ((a && (b && true)) && c)
two_parts true b c = one_part b c
two_parts false b c = refl

turned : (a b c : Bool) → (a && (b && c)) ≡ ((b && (a && true)) && c)
turned true true c = refl
turned true false c = refl
turned false true c = refl
turned false false c = refl

three_parts : (a b c d : Bool) → (a && (b && (c && d))) ≡ ((a && (b && (c && true))) && d)
three_parts true b c d = two_parts b c d
three_parts false b c d = refl

sets_small : (bs : Binds) (us : Trees) → trees_small (sets_before bs us) ≡ (trees_small (sets_before bs no_trees) && trees_small us)
sets_small (last_bind p x q a) us = one_part (tree_small (tree_of a)) (trees_small us)
sets_small (bind p x q a r bs) us = ap (λ (b : Bool). tree_small (tree_of a) && b) (sets_small bs us) ∙ together (tree_small (tree_of a)) (trees_small (sets_before bs no_trees)) (trees_small us)
sets_small (share p x q bs) us = sets_small bs us

path_small : (path : Path) (us : Trees) → trees_small (subscripts path us) ≡ (trees_small (subscripts path no_trees) && trees_small us)
path_small path_end us = refl
path_small (index p xs q path) us = ap (λ (b : Bool). tree_small (subscript xs) && b) (path_small path us) ∙ together (tree_small (subscript xs)) (trees_small (subscripts path no_trees)) (trees_small us)
path_small (at_field p f path) us = path_small path us

sides_small : (ls : Locals) (us : Trees) → trees_small (right_sides_before ls us) ≡ (trees_small (right_sides_before ls no_trees) && trees_small us)
sides_small (last_local p x q a) us = one_part (tree_small (tree_of a)) (trees_small us)
sides_small (more_locals p x q a ls) us =
    ap (λ (b : Bool). tree_small (tree_of a) && b) (sides_small ls us) ∙ together (tree_small (tree_of a)) (trees_small (right_sides_before ls no_trees)) (trees_small us)

subscript_small : (xs : Phrases) → trees_small (trees_of xs) ≡ tree_small (subscript xs)
subscript_small (last a) = by (tree_small (tree_of a))
  where
    by : (b : Bool) → (b && true) ≡ b
    by true = refl
    by false = refl
subscript_small (more a p xs) = refl

-- a first part, and what is after it
then_small : (a : Bool) {b c : Bool} → b ≡ c → (a && b) ≡ (a && c)
then_small a e = ap (λ (b : Bool). a && b) e

no_number : {a b : Bool} (c : Bool) → a ≡ true → b ≡ true → (a && c) ≡ ((b && true) && c)
no_number c h k = rw (h, k) refl

-- sets, and then a body
with_sets : (bs : Binds) (a : Phrase) {m n : Bool} (c : Bool) → m ≡ (trees_small (sets_before bs no_trees) && n) → n ≡ (tree_small (tree_of a) && c) → m ≡ (trees_small (sets_before bs (one (tree_of a))) && c)
with_sets bs a c h k =
    h ∙ then_small (trees_small (sets_before bs no_trees)) k ∙ two_parts (trees_small (sets_before bs no_trees)) (tree_small (tree_of a)) c
    ∙ ap (λ (b : Bool). b && c) (sym (sets_small bs (one (tree_of a))))

-- ---- phrases

mutual
  spelled : (a : Phrase) (r : List Token) → all_small (spell a r) ≡ (tree_small (tree_of a) && all_small r)
  spelled (number p n) r = one_part _ (all_small r)
  spelled (string p x) r = refl
  spelled (constant p c) r = no_number (all_small r) refl (constant_small c)
  spelled (name p x) r = refl
  spelled (primed p x q) r = refl
  spelled (call p x q xs s) r = all_spelled xs _
  spelled (brackets p a q) r = spelled a _
  spelled (no_set p q) r = refl
  spelled (set_of p xs q) r = all_spelled xs _
  spelled (filter p q x s a t b u) r = spelled a _ ∙ then_small (tree_small (tree_of a)) (spelled b _) ∙ two_parts (tree_small (tree_of a)) (tree_small (tree_of b)) (all_small r)
  spelled (image p a q bs s) r =
      spelled a _ ∙ then_small (tree_small (tree_of a)) (binds_spelled bs _) ∙ turned (tree_small (tree_of a)) (trees_small (sets_before bs no_trees)) (all_small r)
      ∙ ap (λ (b : Bool). b && all_small r) (sym (sets_small bs (one (tree_of a))))
  spelled (no_tuple p q) r = refl
  spelled (tuple p xs q) r = all_spelled xs _
  spelled (fields p fs q) r = fields_spelled tk.maps fs _
  spelled (records p fs q) r = fields_spelled tk.colon fs _
  spelled (function p bs q a s) r = with_sets bs a (all_small r) (binds_spelled bs _) (spelled a _)
  spelled (functions p a q b s) r = spelled a _ ∙ then_small (tree_small (tree_of a)) (spelled b _) ∙ two_parts (tree_small (tree_of a)) (tree_small (tree_of b)) (all_small r)
  spelled (except p a q ss s) r = spelled a _ ∙ then_small (tree_small (tree_of a)) (settings_spelled ss _) ∙ together (tree_small (tree_of a)) (trees_small (setting_trees ss)) (all_small r)
  spelled (apply a p xs q) r =
      spelled a _ ∙ then_small (tree_small (tree_of a)) (all_spelled xs _ ∙ ap (λ (b : Bool). b && all_small r) (subscript_small xs))
      ∙ two_parts (tree_small (tree_of a)) (tree_small (subscript xs)) (all_small r)
  spelled (select a p f) r =
      spelled a _ ∙ then_small (tree_small (tree_of a)) (ap (λ (b : Bool). b && all_small r) (field_small f.is_reserved f.text)) ∙ one_part (tree_small (tree_of a)) (all_small r)
  spelled (list o bs) r = bullets_spelled o bs r
  spelled (quantified true p bs q a) r = with_sets bs a (all_small r) (binds_spelled bs _) (spelled a _)
  spelled (quantified false p bs q a) r = with_sets bs a (all_small r) (binds_spelled bs _) (spelled a _)
  spelled (if_then_else p a q b s c) r =
      spelled a _ ∙ then_small (tree_small (tree_of a)) (spelled b _ ∙ then_small (tree_small (tree_of b)) (spelled c _))
      ∙ three_parts (tree_small (tree_of a)) (tree_small (tree_of b)) (tree_small (tree_of c)) (all_small r)
  spelled (cases p xs) r = arms_spelled xs r
  spelled (local p ls q a) r =
      locals_spelled ls _ ∙ then_small (trees_small (right_sides_before ls no_trees)) (spelled a _) ∙ two_parts (trees_small (right_sides_before ls no_trees)) (tree_small (tree_of a)) (all_small r)
      ∙ ap (λ (b : Bool). b && all_small r) (sym (sides_small ls (one (tree_of a))))
  spelled (infix_of a p o b) r =
      spelled a _
      ∙ then_small (tree_small (tree_of a)) (ap (λ (c : Bool). c && all_small (spell b r)) (sign_small o) ∙ spelled b r)
      ∙ two_parts (tree_small (tree_of a)) (tree_small (tree_of b)) (all_small r)
      ∙ ap (λ (c : Bool). (c && trees_small (two (tree_of a) (tree_of b))) && all_small r) (sym (operation_small o))
  spelled (prefix_of p o a) r =
      ap (λ (c : Bool). c && all_small (spell a r)) (sign_small o) ∙ spelled a r ∙ one_part (tree_small (tree_of a)) (all_small r)
      ∙ ap (λ (c : Bool). (c && trees_small (one (tree_of a))) && all_small r) (sym (operation_small o))

  all_spelled : (xs : Phrases) (r : List Token) → all_small (spell_all xs r) ≡ (trees_small (trees_of xs) && all_small r)
  all_spelled (last a) r = spelled a r ∙ one_part (tree_small (tree_of a)) (all_small r)
  all_spelled (more a p xs) r = spelled a _ ∙ then_small (tree_small (tree_of a)) (all_spelled xs r) ∙ together (tree_small (tree_of a)) (trees_small (trees_of xs)) (all_small r)

  binds_spelled : (bs : Binds) (r : List Token) → all_small (spell_binds bs r) ≡ (trees_small (sets_before bs no_trees) && all_small r)
  binds_spelled (last_bind p x q a) r = spelled a r ∙ one_part (tree_small (tree_of a)) (all_small r)
  binds_spelled (bind p x q a s bs) r =
      spelled a _ ∙ then_small (tree_small (tree_of a)) (binds_spelled bs r) ∙ together (tree_small (tree_of a)) (trees_small (sets_before bs no_trees)) (all_small r)
  binds_spelled (share p x q bs) r = binds_spelled bs r

  fields_spelled : (m : Mark) (fs : Fields) (r : List Token) → all_small (spell_fields m fs r) ≡ (trees_small (field_trees fs) && all_small r)
  fields_spelled m (last_field f p a) r =
      ap (λ (b : Bool). b && all_small (spell a r)) (field_small f.is_reserved f.text) ∙ spelled a r ∙ one_part (tree_small (tree_of a)) (all_small r)
  fields_spelled m (field f p a q fs) r =
      ap (λ (b : Bool). b && all_small (spell a (token q (tk.mark tk.comma) ∷ spell_fields m fs r))) (field_small f.is_reserved f.text)
      ∙ spelled a _ ∙ then_small (tree_small (tree_of a)) (fields_spelled m fs r) ∙ together (tree_small (tree_of a)) (trees_small (field_trees fs)) (all_small r)

  path_spelled : (path : Path) (r : List Token) → all_small (spell_path path r) ≡ (trees_small (subscripts path no_trees) && all_small r)
  path_spelled path_end r = refl
  path_spelled (index p xs q path) r =
      all_spelled xs _ ∙ (λ i. subscript_small xs i && path_spelled path r i) ∙ together (tree_small (subscript xs)) (trees_small (subscripts path no_trees)) (all_small r)
  path_spelled (at_field p f path) r = ap (λ (b : Bool). b && all_small (spell_path path r)) (field_small f.is_reserved f.text) ∙ path_spelled path r

  settings_spelled : (ss : Settings) (r : List Token) → all_small (spell_settings ss r) ≡ (trees_small (setting_trees ss) && all_small r)
  settings_spelled (last_setting p path q a) r =
      path_spelled path _ ∙ then_small (trees_small (subscripts path no_trees)) (spelled a r) ∙ two_parts (trees_small (subscripts path no_trees)) (tree_small (tree_of a)) (all_small r)
      ∙ ap (λ (b : Bool). b && all_small r) (sym (path_small path (one (tree_of a))))
  settings_spelled (setting p path q a s ss) r =
      path_spelled path _
      ∙ then_small (trees_small (subscripts path no_trees)) (spelled a _ ∙ then_small (tree_small (tree_of a)) (settings_spelled ss r) ∙ together (tree_small (tree_of a)) (trees_small (setting_trees ss)) (all_small r))
      ∙ together (trees_small (subscripts path no_trees)) (tree_small (tree_of a) && trees_small (setting_trees ss)) (all_small r)
      ∙ ap (λ (b : Bool). b && all_small r) (sym (path_small path (tree.tree (tree_of a) (setting_trees ss))))

  bullets_spelled : (o : Op) (bs : Bullets) (r : List Token) → all_small (spell_bullets o bs r) ≡ (tree_small (joined o bs) && all_small r)
  bullets_spelled o (last_bullet p a) r = ap (λ (c : Bool). c && all_small (spell a r)) (sign_small o) ∙ spelled a r
  bullets_spelled o (bullet p a bs) r =
      ap (λ (c : Bool). c && all_small (spell a (spell_bullets o bs r))) (sign_small o) ∙ spelled a _ ∙ joined_spelled o p (tree_of a) bs r

  joined_spelled : (o : Op) (at : Place) (t : Tree) (bs : Bullets) (r : List Token) → (tree_small t && all_small (spell_bullets o bs r)) ≡ (tree_small (joined_to o at t bs) && all_small r)
  joined_spelled o at t (last_bullet p a) r =
      then_small (tree_small t) (ap (λ (c : Bool). c && all_small (spell a r)) (sign_small o) ∙ spelled a r) ∙ two_parts (tree_small t) (tree_small (tree_of a)) (all_small r)
      ∙ ap (λ (c : Bool). (c && trees_small (two t (tree_of a))) && all_small r) (sym (operation_small o))
  joined_spelled o at t (bullet p a bs) r =
      then_small (tree_small t) (ap (λ (c : Bool). c && all_small (spell a (spell_bullets o bs r))) (sign_small o) ∙ spelled a _)
      ∙ two_parts (tree_small t) (tree_small (tree_of a)) (all_small (spell_bullets o bs r))
      ∙ ap (λ (c : Bool). (c && trees_small (two t (tree_of a))) && all_small (spell_bullets o bs r)) (sym (operation_small o))
      ∙ joined_spelled o at (node (operation o) at (two t (tree_of a))) bs r

  arms_spelled : (xs : Arms) (r : List Token) → all_small (spell_arms xs r) ≡ (trees_small (arm_trees xs) && all_small r)
  arms_spelled (last_arm a p b) r = spelled a _ ∙ then_small (tree_small (tree_of a)) (spelled b r) ∙ two_parts (tree_small (tree_of a)) (tree_small (tree_of b)) (all_small r)
  arms_spelled (other_arm a p b q s t c) r =
      spelled a _ ∙ then_small (tree_small (tree_of a)) (spelled b _ ∙ then_small (tree_small (tree_of b)) (spelled c r))
      ∙ three_parts (tree_small (tree_of a)) (tree_small (tree_of b)) (tree_small (tree_of c)) (all_small r)
  arms_spelled (arm a p b q xs) r =
      spelled a _ ∙ then_small (tree_small (tree_of a)) (spelled b _ ∙ then_small (tree_small (tree_of b)) (arms_spelled xs r) ∙ together (tree_small (tree_of b)) (trees_small (arm_trees xs)) (all_small r))
      ∙ together (tree_small (tree_of a)) (tree_small (tree_of b) && trees_small (arm_trees xs)) (all_small r)

  locals_spelled : (ls : Locals) (r : List Token) → all_small (spell_locals ls r) ≡ (trees_small (right_sides_before ls no_trees) && all_small r)
  locals_spelled (last_local p x q a) r = spelled a r ∙ one_part (tree_small (tree_of a)) (all_small r)
  locals_spelled (more_locals p x q a ls) r =
      spelled a _ ∙ then_small (tree_small (tree_of a)) (locals_spelled ls r) ∙ together (tree_small (tree_of a)) (trees_small (right_sides_before ls no_trees)) (all_small r)

-- ---- trees that read

form_is : (v : Sight) (bs : List Word) (inf : Bool) (m : Form) (n : ℕ) → form_reads v bs inf m n ≡ true → form_small m ≡ true
form_is v bs inf (tree.number k) n h = h
form_is v bs inf m n h = refl

module _ (v : Sight) where
  mutual
    pub reading_small : (t : Tree) (bs : List Word) (inf : Bool) → tree_reads v bs inf t ≡ true → tree_small t ≡ true
    reading_small (node m at ts) bs inf h =
        let p = and_parts (form_reads v bs inf m (count ts)) (trees_read v bs (seen_names m) (is_member m) ts) h in
        (λ i. form_is v bs inf m (count ts) p.0 i && readings_small ts bs (seen_names m) (is_member m) p.1 i)

    readings_small : (ts : Trees) (bs : List Word) (names : List (List Word)) (inf : Bool) → trees_read v bs names inf ts ≡ true → trees_small ts ≡ true
    readings_small no_trees bs names inf h = refl
    readings_small (tree.tree t ts) bs [] inf h =
        let p = and_parts (tree_reads v bs (inf && is_last ts) t) (trees_read v bs [] inf ts) h in
        (λ i. reading_small t bs (inf && is_last ts) p.0 i && readings_small ts bs [] inf p.1 i)
    readings_small (tree.tree t ts) bs (xs ∷ names) inf h =
        let p = and_parts (tree_reads v (xs ++ bs) (inf && is_last ts) t) (trees_read v bs names inf ts) h in
        (λ i. reading_small t (xs ++ bs) (inf && is_last ts) p.0 i && readings_small ts bs names inf p.1 i)

-- so where a token's number is too large, no definition is read of these tokens
pub large_unread : (v : Sight) (p : Place) (k : TokenView) (ns : List Name) (r : List Token) → all_small r ≡ false → defined_if v p k (with_body ns (body_in r)) ≡ None
large_unread v p k ns r h = by (read_limited r) refl
  where
    unread : (x : Word) (a : Phrase) → read_limited r ≡ Ok (a, []) → (b : Bool) → definition_reads v (definition_of p x (ns, tree_of a)).definition ≡ b → (if b then Some (definition_of p x (ns, tree_of a)) else None) ≡ None
    unread x a e false f = refl
    unread x a e true f =
        let d = and_parts (not (is_among v.constants x)) (are_fresh v [] (words ns) && (tree_reads v (words ns) false (tree_of a) && nat_le (definition_nests (depths [] v.earlier) (definition_of p x (ns, tree_of a)).definition) deepest_definition)) f in
        let f1 = and_parts (are_fresh v [] (words ns)) (tree_reads v (words ns) false (tree_of a) && nat_le (definition_nests (depths [] v.earlier) (definition_of p x (ns, tree_of a)).definition) deepest_definition) d.1 in
        let t = and_parts (tree_reads v (words ns) false (tree_of a)) (nat_le (definition_nests (depths [] v.earlier) (definition_of p x (ns, tree_of a)).definition) deepest_definition) f1.1 in
        let s = (read_is_spelled 0 r [] a (read_within r [] a e).0).1 in
        let small : all_small r ≡ true = ap all_small s ∙ spelled a [] ∙ ap (λ (b : Bool). b && true) (reading_small v (tree_of a) (words ns) false t.0) in
        absurd (true≢false (sym small ∙ h))

    none_of : (k : TokenView) → defined_if v p k None ≡ None
    none_of (tk.word x) = refl
    none_of k = refl

    by : (o : Out Phrase) → read_limited r ≡ o → defined_if v p k (with_body ns (whole_tree o)) ≡ None
    by (Ok (a, [])) e = of_kind k
      where
        of_kind : (k : TokenView) → defined_if v p k (Some (ns, tree_of a)) ≡ None
        of_kind (tk.word x) = unread x a e (definition_reads v (definition_of p x (ns, tree_of a)).definition) refl
        of_kind k = refl
    by (Ok (a, t ∷ ts)) e = none_of k
    by (Err s) e = none_of k
