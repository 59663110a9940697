-- Reading what stands around statements and is alike in both syntaxes: labels so far, words that open a form, heads, and lists of processes ("A PlusCal User's Manual", section 3).
use Rattle.std.specs.Prelude.{ℕ, ◌+◌, List, [], ◌∷◌, map, codes}
use Rattle.tla_token.specs.declared.place.Place.{Place}
use Rattle.tla_tree.specs.declared.op.Op.TheVariants as op
use Rattle.tla_tree.specs.Tree.{Word, Name}
use Rattle.tla_tree.specs.Lexical.{TokenView}
use Rattle.tla_tree.specs.Lexical as tk
use Rattle.tla_tree.specs.Reader.{Reader, ◌>>=◌, gives, refuses, skip, if_fits}
use Rattle.pcal_tree.specs.GrammarParts.{Colon, Labels, no_labels, label}
use Rattle.pcal_tree.specs.Grammar.{Fair, weak, strong, Head, algorithm, fair_algorithm}
use Rattle.syntax_reading.specs.TokenReaders.{by_next, a_key, pick, Parts}

-- ---- statements
-- one more label after those that were read
abbrev pub with_label : Labels → Name → Colon → Labels
with_label no_labels x c = label x c no_labels
with_label (label y d ls) x c = label y d (with_label ls x c)

-- past a word or mark that opens a form, where so many are open
abbrev pub within : {A : Type 0} → Parts → ℕ → Reader A → Reader A
within m d r = if_fits (m.room (d + 1)) (skip r)

-- ---- processes
-- after `fair`
abbrev pub fair_by : Place → Place → TokenView → Reader Fair
fair_by p q (tk.sign op.Plus) = skip (gives (strong p q))
fair_by p q k = gives (weak p)

-- those that come, to the first word that begins none
abbrev pub more_of : {A : Type 0} → Reader A → Reader (List A) → Reader (List A)
more_of r rs = r >>= λ x. rs >>= λ xs. gives (x ∷ xs)

abbrev pub all_more : {A : Type 0} → Reader (List A) → List (Word × Reader A) → List (Word × Reader (List A))
all_more rs xs = map (λ x. (x.0, more_of x.1 rs)) xs

-- ---- the whole
abbrev pub head_words : Place → List (Word × Reader Head)
head_words p = (codes "--algorithm", skip (gives (algorithm p))) ∷ (codes "--fair", skip (a_key (codes "algorithm") >>= λ q. gives (fair_algorithm p q))) ∷ []

abbrev pub head_by : Place → TokenView → Reader Head
head_by p (tk.word w) = pick w (head_words p) refuses
head_by p k = refuses

abbrev pub read_head : Reader Head
read_head = by_next head_by

-- the tokens of a comment are all read
abbrev pub to_last : {A : Type 0} → A → Reader A
to_last a [] = gives a []
to_last a ts = refuses ts
