-- An algorithm has as many labels as its map has lines.
use Rattle.std.proofs.Common.{◌≡◌, suc, ◌+◌, Bool, true, false, List, [], ◌∷◌, ◌++◌, length, refl, sym, ap, ◌∙◌, length-append}
use Rattle.std.proofs.lemmas.List.{length-map}
use Rattle.std.proofs.lemmas.Grind.{flat_map-append}
use Rattle.std.specs.List.{flat_map}
use Rattle.tla_tree.specs.Tree.{Word}
use Rattle.pcal_tree.specs.Algorithm.{Statement, branch, either, with, while, assign, await, print, assert, skip, goto, macro, call, return, Statements, done, then, mark, Branches, no_branches, or, Main, alone, processes, Algorithm, Routine, procedure_routines, main_routines, Naming}
use Rattle.pcal_tree.specs.OffencesLabels.{Label, labels, labels_of_one, labels_of_some, label_words}
use Rattle.source_map.specs.Lines.{Line, lines_inside, lines_in, lines_of_some, lines_of, lines_of_unit, lines_of_main, lines}
use Rattle.make_module.specs.Big.{label_count}

-- ---- statements

module _ (named : Word → Word) (unit : Word) where
  -- lists that are as long are as long together
  joined : (xs ys : List Line) (us vs : List Label) → length xs ≡ length us → length ys ≡ length vs → length (xs ++ ys) ≡ length (us ++ vs)
  joined xs ys us vs h k = length-append xs ys ∙ (λ i. h i + k i) ∙ sym (length-append us vs)

  mutual
    in_one : (st : Statement) → length (lines_inside named unit st) ≡ length (labels_of_one st)
    in_one (branch e a b) = joined (lines_in named unit a) (lines_in named unit b) (labels false a) (labels false b) (in_list false a) (in_list false b)
    in_one (either bs) = in_some bs
    in_one (with bs b) = in_list false b
    in_one (while e b) = in_list false b
    in_one (assign ms) = refl
    in_one (await e) = refl
    in_one (print e) = refl
    in_one (assert e) = refl
    in_one skip = refl
    in_one (goto x) = refl
    in_one (macro x es) = refl
    in_one (call x es) = refl
    in_one return = refl

    in_list : (second : Bool) (ss : Statements) → length (lines_in named unit ss) ≡ length (labels second ss)
    in_list second done = refl
    in_list second (mark n k rest) = ap suc (in_list true rest)
    in_list second (then at st rest) = joined (lines_inside named unit st) (lines_in named unit rest) (labels_of_one st) (labels false rest) (in_one st) (in_list false rest)

    in_some : (bs : Branches) → length (lines_of_some named unit bs) ≡ length (labels_of_some bs)
    in_some no_branches = refl
    in_some (or b bs) = joined (lines_in named unit b) (lines_of_some named unit bs) (labels false b) (labels_of_some bs) (in_list false b) (in_some bs)

-- ---- routines

abbrev words_of : List Routine → List Word
words_of us = flat_map (λ u. label_words u.body) us

module _ (f : Naming) where
  in_routine : (title : Word) (u : Routine) → length (lines_of f title u) ≡ length (label_words u.body)
  in_routine title u = in_list (f.label u.number) title false u.body ∙ sym (length-map (labels false u.body) (λ l. l.name.word))

  in_routines : (title : Routine → Word) (us : List Routine) → length (flat_map (λ u. lines_of f (title u) u) us) ≡ length (words_of us)
  in_routines title [] = refl
  in_routines title (u ∷ us) =
      length-append (lines_of f (title u) u) (flat_map (λ u. lines_of f (title u) u) us) ∙ (λ i. in_routine (title u) u i + in_routines title us i) ∙ sym (length-append (label_words u.body) (words_of us))

  in_main : (g : Algorithm) (m : Main) → length (lines_of_main f g m) ≡ length (words_of (main_routines g m))
  in_main g (alone b) = in_routines (λ u. g.name.word) (main_routines g (alone b))
  in_main g (processes ps) = in_routines (λ u. f.title u.number) (main_routines g (processes ps))

  pub as_many : (g : Algorithm) → length (lines g f) ≡ label_count g
  as_many g =
      length-append (flat_map (lines_of_unit f) (procedure_routines g)) (lines_of_main f g g.main)
      ∙ (λ i. in_routines (λ u. f.title u.number) (procedure_routines g) i + in_main g g.main i)
      ∙ sym (length-append (words_of (procedure_routines g)) (words_of (main_routines g g.main)))
      ∙ ap length (sym (flat_map-append (λ u. label_words u.body) (procedure_routines g) (main_routines g g.main)))
