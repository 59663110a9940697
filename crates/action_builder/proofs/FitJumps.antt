-- The assignments that are written for jumps, returns and calls can be written, but that their names are of some kind.
use Rattle.std.proofs.Common.{◌≡◌, ℕ, true, false, not, List, [], ◌∷◌, ◌++◌, length, map, nat_le, bytes_eq, refl, sym, ap, ◌∙◌, arith}
use Rattle.std.specs.List.{list_all}
use Rattle.std.proofs.lemmas.List.{map-append}
use Rattle.std.proofs.lemmas.Bool.{not-true, and_parts, and_from, or_parts, leb-true, le-leb}
use Rattle.tla_token.specs.declared.place.Place.{Place}
use Rattle.tla_token.specs.Lexemes.{is_word}
use Rattle.tla_token.specs.Words.{is_reserved, is_pluscal_word, is_tla_word}
use Rattle.tla_token.proofs.Parted.{word_printed}
use Rattle.tla_tree.specs.Tree.{Word, Each, Tree, Trees, no_trees, tree, root_place}
use Rattle.tla_tree.specs.laws.Writable.{IsIdentifier, IsField, IsString, is_spellable, count}
use Rattle.tla_tree.proofs.SpelledTrees.{each_left}
use Rattle.pcal_tree.specs.Algorithm.{Declaration, Routine, locals, Assignments, assignment}
use Rattle.pcal_tree.specs.Program.{Program, written}
use Rattle.pcal_tree.specs.Variables.{written_all, pc, stack}
use Rattle.action_builder.specs.Jumps.{name_at, text_at, jump_written, field_of, kept_field, stack_rest, fields_restored, names_at, pushed_on, arguments_assigned, kept_fields, fields_of}
use Rattle.action_builder.specs.laws.Jumps.{Unlike, AllUnlike}
use Rattle.action_builder.proofs.FitTrees.{Fits, AllFit, HasIdentifiers, name_fits}
use Rattle.action_builder.proofs.FitStatements.{AssignmentsFit, StatementsFit, IsPlain}

-- ---- words

pub identifier_field : (x : Word) → IsIdentifier x → IsField x
identifier_field x (n, r) = (n, ap not (or_parts (is_pluscal_word x) (is_tla_word x) (not-true (is_reserved x) r)).1)

word_spellable : (b : ℕ) → is_word b ≡ true → is_spellable b ≡ true
word_spellable b h =
    let p = and_parts (nat_le 33 b) (nat_le b 126) (word_printed b h) in
    let low = leb-true 33 b p.0 in
    rw (le-leb 32 b (omega arith), p.1) refl

words_spellable : (w : Word) → list_all is_word w ≡ true → list_all is_spellable w ≡ true
words_spellable [] h = refl
words_spellable (b ∷ w) h = (let p = and_parts (is_word b) (list_all is_word w) h in and_from (is_spellable b) (list_all is_spellable w) (word_spellable b p.0) (words_spellable w p.1))

pub identifier_string : (x : Word) → IsIdentifier x → IsString x
identifier_string x h = words_spellable x h.0.0

pub pc_name : IsIdentifier pc
pc_name = ((refl, refl), refl)

pub stack_name : IsIdentifier stack
stack_name = ((refl, refl), refl)

-- ---- names of their own

-- what is asked of a routine's written names
pub record NamesFit (P : Program) (p : Routine) : Type 0 where
  pub identifiers : Each IsIdentifier (written_all P p (locals p))
  pub apart : AllUnlike (written_all P p (locals p))
  pub pc : Unlike pc (written_all P p (locals p))
  pub stack : Unlike stack (written_all P p (locals p))
  pub title : IsString (P.naming.title p.number)

pub unlike_first : (xs ys : List Word) → AllUnlike (xs ++ ys) → AllUnlike xs
unlike_first [] ys h = tt
unlike_first (x ∷ xs) ys h = (each_left (λ y. bytes_eq x y ≡ false) xs ys h.0, unlike_first xs ys h.1)

-- the parameters come first
pub parameters_first : (P : Program) (p : Routine) → written_all P p (locals p) ≡ written_all P p p.params ++ written_all P p p.variables
parameters_first P p = ap (map (written P p)) (map-append (λ (d : Declaration). d.name.word) p.params p.variables) ∙ map-append (written P p) (map (λ (d : Declaration). d.name.word) p.params) (map (λ (d : Declaration). d.name.word) p.variables)

pub differ : {A : Type 0} (x y : Word) → bytes_eq x y ≡ false → bytes_eq x y ≡ true → A
differ x y e d = absurd (clash (sym d ∙ e))
  where
    clash : true ≡ false → ⊥
    clash q = cc

-- ---- trees

module _ (N : Word → Type 0) (j : HasIdentifiers N) where
  pub named_fits : (at : Place) (x : Word) → IsIdentifier x → Fits N (name_at at x)
  named_fits at x h = name_fits N at x (j x h)

  pub text_fits : (at : Place) (w : Word) → IsString w → Fits N (text_at at w)
  text_fits at w h = (refl, tt, tt, (h, tt), tt)

  pub field_fits : (at : Place) (st x : Word) → N st → IsField x → Fits N (field_of at st x)
  field_fits at st x n f = (refl, tt, (f, tt), tt, ((omega arith, (((refl, refl), refl), tt), tt, tt, (name_fits N at st n, tt)), tt))

  pub rest_fits : (at : Place) → Fits N (stack_rest at)
  rest_fits at = (omega arith, (((refl, refl), refl), tt), tt, tt, (named_fits at stack stack_name, tt))

  pub names_fit : (at : Place) (xs : List Word) → Each IsIdentifier xs → AllFit N (names_at at xs)
  names_fit at [] h = tt
  names_fit at (x ∷ xs) h = (named_fits at x h.0, names_fit at xs h.1)

  pub kept_fit : (at : Place) (xs : List Word) → Each IsIdentifier xs → AllFit N (kept_fields at xs)
  kept_fit at [] h = tt
  kept_fit at (x ∷ xs) h = (field_fits at stack x (j stack stack_name) (identifier_field x h.0), kept_fit at xs h.1)

  each_field : (xs : List Word) → Each IsIdentifier xs → Each IsField xs
  each_field [] h = tt
  each_field (x ∷ xs) h = (identifier_field x h.0, each_field xs h.1)

  pub pushed_fits : (P : Program) (p : Routine) (at : Place) (back : Tree) (kept : Trees) (rest : Tree) → NamesFit P p → Fits N back → AllFit N kept → count kept ≡ length (written_all P p (locals p)) → Fits N rest → Fits N (pushed_on P p at back kept rest)
  pushed_fits P p at back kept rest h b k c r =
      ((refl, refl), tt, tt, tt, ((tt, tt, tt, tt, (((omega arith, omega (arith, c)), tt, (((refl, refl), refl), (((refl, refl), refl), each_field (written_all P p (locals p)) h.identifiers)), tt, (text_fits at (P.naming.title p.number) h.title, (b, k))), tt)), (r, tt)))

  -- ---- assignments of names

  pub one_fits : (at : Place) (x : Word) (e : Tree) (ms : Assignments) → IsIdentifier x → Fits N e → AssignmentsFit N ms → AssignmentsFit N (assignment (name_at at x) e ms)
  one_fits at x e ms h k m = (h, named_fits at x h, k, m)

  pub restored_fit : (at : Place) (xs : List Word) (ms : Assignments) → Each IsIdentifier xs → AssignmentsFit N ms → AssignmentsFit N (fields_restored at xs ms)
  restored_fit at [] ms h m = m
  restored_fit at (x ∷ xs) ms h m = one_fits at x (kept_field at x) (fields_restored at xs ms) h.0 (field_fits at stack x (j stack stack_name) (identifier_field x h.0)) (restored_fit at xs ms h.1 m)

  pub arguments_fit : (xs : List Word) (ts : Trees) → Each IsIdentifier xs → AllFit N ts → AssignmentsFit N (arguments_assigned xs ts)
  arguments_fit (x ∷ xs) (tree t ts) h k = one_fits (root_place t) x t (arguments_assigned xs ts) h.0 k.0 (arguments_fit xs ts h.1 k.1)
  arguments_fit [] ts h k = tt
  arguments_fit (x ∷ xs) no_trees h k = tt

  pub fields_fit : (at : Place) (st : Word) → N st → (xs : List Word) → Each IsIdentifier xs → AssignmentsFit N (fields_of at st xs)
  fields_fit at st n [] h = tt
  fields_fit at st n (x ∷ xs) h = one_fits at x (field_of at st x) (fields_of at st xs) h.0 (field_fits at st x n (identifier_field x h.0)) (fields_fit at st n xs h.1)

  pub jump_fits : (at : Place) (l : Word) → IsString l → StatementsFit N IsPlain (jump_written at l)
  jump_fits at l h = ((tt, tt), (pc_name, named_fits at pc pc_name, text_fits at l h, tt), tt)
