-- What is written for a function that is no tuple, by its domain and its values.
use Rattle.std.specs.Prelude.{ℕ, zero, suc, Bool, true, false, List, [], ◌∷◌, ◌++◌, codes}
use Rattle.tla_tree.specs.Tree.{Word}
use Rattle.tla_value.specs.Value.{Value, text}
use Rattle.tla_value.specs.ValueText.{Spellings, items_text, more_text, value_text}

-- of a record, or of another function
abbrev pub between : Bool → Word
between true = codes ", "
between false = codes " @@ "

abbrev pub arrow : Bool → Word
arrow true = codes " |-> "
arrow false = codes " :> "

-- the field alone
abbrev pub field_text : Value → Word
field_text (text w) = w
field_text _ = []

abbrev pub key_text : Bool → Value → Word
key_text true v = field_text v
key_text false v = value_text v

abbrev pub entry_text : Bool → Value → Value → Word
entry_text named k v = key_text named k ++ arrow named ++ value_text v

-- behind the first
abbrev pub more_entries : Bool → List Value → List Value → Word
more_entries named [] vs = []
more_entries named (k ∷ ks) [] = []
more_entries named (k ∷ ks) (v ∷ vs) = between named ++ (entry_text named k v ++ more_entries named ks vs)

abbrev pub entries_text : Bool → List Value → List Value → Word
entries_text named [] vs = []
entries_text named (k ∷ ks) [] = []
entries_text named (k ∷ ks) (v ∷ vs) = entry_text named k v ++ more_entries named ks vs

-- ---- what is left, from a member on

abbrev pub items_left : ℕ → Spellings → Word
items_left zero ss = items_text ss
items_left (suc k) ss = more_text ss

abbrev pub entries_left : ℕ → Bool → List Value → List Value → Word
entries_left zero named ks vs = entries_text named ks vs
entries_left (suc k) named ks vs = more_entries named ks vs
