-- The labels of a body as a plain list of words.
use Rattle.std.proofs.Common.{◌≡◌, List, [], ◌∷◌, ◌++◌, Bool, true, false, map, refl, ◌∙◌, ap}
use Rattle.std.proofs.lemmas.List.{map-append}
use Rattle.tla_tree.specs.Tree.{Word}
use Rattle.pcal_tree.specs.Algorithm.{Statement, branch, either, with, while, Statements, done, then, mark, Branches, no_branches, or}
use Rattle.pcal_tree.specs.OffencesLabels as Offences
use Rattle.pcal_tree.specs.OffencesLabels.{label_words}

abbrev mutual
  pub labels_in : Statement → List Word
  labels_in (branch e a b) = labels a ++ labels b
  labels_in (either bs) = labels_of bs
  labels_in (with bs b) = labels b
  labels_in (while e b) = labels b
  labels_in _ = []

  pub labels : Statements → List Word
  labels done = []
  labels (then at st rest) = labels_in st ++ labels rest
  labels (mark l m rest) = l.word ∷ labels rest

  pub labels_of : Branches → List Word
  labels_of no_branches = []
  labels_of (or b bs) = labels b ++ labels_of bs

-- they are the words of the labels with their places
mutual
  words_in : (st : Statement) → map (λ l. l.name.word) (Offences.labels_of_one st) ≡ labels_in st
  words_in (branch e a b) = map-append (λ l. l.name.word) (Offences.labels false a) (Offences.labels false b) ∙ (λ i. words_at false a i ++ words_at false b i)
  words_in (either bs) = words_some bs
  words_in (with bs b) = words_at false b
  words_in (while e b) = words_at false b
  words_in _ = refl

  words_at : (s : Bool) (b : Statements) → map (λ l. l.name.word) (Offences.labels s b) ≡ labels b
  words_at s done = refl
  words_at s (then at st rest) = map-append (λ l. l.name.word) (Offences.labels_of_one st) (Offences.labels false rest) ∙ (λ i. words_in st i ++ words_at false rest i)
  words_at s (mark n k rest) = ap (λ ls. n.word ∷ ls) (words_at true rest)

  words_some : (bs : Branches) → map (λ l. l.name.word) (Offences.labels_of_some bs) ≡ labels_of bs
  words_some no_branches = refl
  words_some (or b bs) = map-append (λ l. l.name.word) (Offences.labels false b) (Offences.labels_of_some bs) ∙ (λ i. words_at false b i ++ words_some bs i)

pub same_labels : (b : Statements) → label_words b ≡ labels b
same_labels b = words_at false b
