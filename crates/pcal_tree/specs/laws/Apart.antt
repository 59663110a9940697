-- Written names that are apart, from each other and from other names ("A PlusCal User's Manual", section 4, on names in the translation).
use Rattle.std.specs.Prelude.{◌≡◌, ◌+◌, ◌<◌, ◌^◌, length, List, [], ◌∷◌, false, codes}
use Rattle.std.specs.List.{AllByRecursion}
use Rattle.tla_token.specs.Signs.{is_among}
use Rattle.tla_token.specs.Words.{begins_fairness}
use Rattle.pcal_tree.specs.Algorithm.{Algorithm, routines}
use Rattle.pcal_tree.specs.OffencesLabels.{label_words}
use Rattle.tla_value.specs.Outside.{Outside}
use Rattle.pcal_tree.specs.Names.{taken_at_start, is_taken, wanted, Given, given}

-- so many names as there are 64-bit numbers don't fit in memory
abbrev pub FewNames : Algorithm → Outside → Type 0
FewNames a o = length (taken_at_start a o) + length (wanted a) < 2 ^ 64

-- all different
abbrev pub Apart : List Given → Type 0
Apart [] = Unit {0}
Apart (g ∷ gs) = AllByRecursion (λ h. g.written ≡ h.written → ⊥) gs × Apart gs

-- none is taken from the start
abbrev pub New : Algorithm → Outside → Type 0
New a o = AllByRecursion (λ g. is_among (taken_at_start a o) g.written ≡ false) (given a o)

-- none is taken from the start or is reserved, the translation's own or standard
abbrev pub Untaken : Algorithm → Outside → Type 0
Untaken a o = AllByRecursion (λ g. is_taken o.extended (taken_at_start a o) g.written ≡ false) (given a o)

-- what begins with WF_ or SF_ is no name
abbrev pub AreNames : Algorithm → Type 0
AreNames a = AllByRecursion (λ w. begins_fairness w.word ≡ false) (wanted a)

-- no label is called Done or Error
abbrev pub NoEndLabels : Algorithm → Type 0
NoEndLabels a = AllByRecursion (λ u. AllByRecursion (λ l. is_among (codes "Done" ∷ codes "Error" ∷ []) l ≡ false) (label_words u.body)) (routines a)
