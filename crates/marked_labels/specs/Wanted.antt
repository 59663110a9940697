-- Labels that are wanted by their marks, under their written names ("A PlusCal User's Manual", section 3.7, fairness).
use Rattle.std.specs.Prelude.{ℕ, List, [], ◌∷◌, map, Bool, true, false, cond, codes, bytes_eq, ◌||◌}
use Rattle.std.specs.List.{flat_map}
use Rattle.tla_tree.specs.Tree.{Word}
use Rattle.pcal_tree.specs.declared.mark.Mark.{Mark}
use Rattle.pcal_tree.specs.declared.mark.Mark.TheVariants as marks
use Rattle.pcal_tree.specs.Algorithm.{Statements, Naming}
use Rattle.fairness.specs.MarkedLabels.{Marked, marked}
use Rattle.marked_labels.specs.declared.labels.Wanted.{Wanted}
use Rattle.marked_labels.specs.declared.labels.Wanted.TheVariants as wanted

abbrev pub wants : Wanted → Mark → Bool
wants wanted.All k = true
wants wanted.Kept marks.LeftOut = false
wants wanted.Kept k = true
wants wanted.LeftOut marks.LeftOut = true
wants wanted.LeftOut k = false
wants wanted.Strong marks.Strong = true
wants wanted.Strong k = false

abbrev pub if_wanted : Wanted → Word → Mark → List Word
if_wanted w l k = cond (wants w k) (l ∷ []) []

abbrev pub chosen : Wanted → List Marked → List Word
chosen w ms = flat_map (λ m. if_wanted w m.label m.mark) ms

-- the written name of a label of the routine with the number n; Done and Error are labels of all
abbrev pub written_label : Naming → ℕ → Word → Word
written_label f n l = cond (bytes_eq (codes "Done") l || bytes_eq (codes "Error") l) l (f.label n l)

abbrev pub written_labels : Naming → ℕ → Wanted → List Marked → List Word
written_labels f n w ms = map (written_label f n) (chosen w ms)

abbrev pub labels_of : Naming → ℕ → Wanted → Statements → List Word
labels_of f n w b = written_labels f n w (marked b)
