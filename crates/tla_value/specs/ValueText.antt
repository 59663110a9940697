-- How values are spelled in configurations, scripts and traces, and the one text that is written for a value.
use Rattle.std.specs.Prelude.{◌≡◌, ℕ, pos, negsuc, neg_ℤ, Bool, true, false, List, [], ◌∷◌, ◌++◌, Option, Some, None, if◌then◌else◌, ◌&&◌, not, zero, suc, codes}
use Rattle.std.specs.Fmt.{decimal}
use Rattle.std.specs.Ordering.{is_eq}
use Rattle.std.specs.List.{list_all, list_any}
use Rattle.tla_token.specs.Lexemes.{is_word, is_letter}
use Rattle.tla_token.specs.Limits.{deepest_value}
use Rattle.tla_tree.specs.Lexical.{escapes}
use Rattle.tla_tree.specs.Tree.{Word}
use Rattle.tla_value.specs.Value.{Value, Values, truth, int, text, model, set, fun, no_values, and}
use Rattle.tla_value.specs.Order.{orders, same, set_from, listed, fun_from, seq_from, numbers_from}
use Rattle.tla_value.specs.Limits.{fits, fits_int}

-- ---- words

abbrev pub is_identifier : Word → Bool
is_identifier w = list_all is_word w && list_any is_letter w

-- any identifier but TRUE and FALSE
abbrev pub is_model_name : Word → Bool
is_model_name w =
    is_identifier w && (not (same (text w) (text (codes "TRUE"))) && not (same (text w) (text (codes "FALSE"))))

-- ---- values as they are spelled

mutual
  pub data Spelling : Type 0 where
    truth_word : Bool → Spelling  -- TRUE
    digits : ℕ → Spelling  -- 3
    minus : ℕ → Spelling  -- -3
    quoted : Word → Spelling  -- "s"
    named : Word → Spelling  -- p1, a model value
    braces : Spellings → Spelling  -- {1, 2}, members in any order and repeated
    angles : Spellings → Spelling  -- <<1, 2>>
    fields : Word → Spelling → Fields → Spelling  -- [f |-> 1, g |-> 2], at least one
    pairs : Spelling → Spelling → Pairs → Spelling  -- (7 :> 2 @@ "a b" :> 1), at least one

  pub data Spellings : Type 0 where
    no_spellings : Spellings
    spelling : Spelling → Spellings → Spellings

  pub data Fields : Type 0 where
    no_fields : Fields
    field : Word → Spelling → Fields → Fields

  pub data Pairs : Type 0 where
    no_pairs : Pairs
    pair : Spelling → Spelling → Pairs → Pairs

-- model values and fields are identifiers
abbrev mutual
  pub IsGood : Spelling → Type 0
  IsGood (truth_word b) = Unit {0}
  IsGood (digits n) = Unit {0}
  IsGood (minus n) = Unit {0}
  IsGood (quoted w) = Unit {0}
  IsGood (named w) = is_model_name w ≡ true
  IsGood (braces ss) = AreGood ss
  IsGood (angles ss) = AreGood ss
  IsGood (fields x s fs) = (is_identifier x ≡ true) × IsGood s × AreGoodFields fs
  IsGood (pairs k s ps) = IsGood k × IsGood s × AreGoodPairs ps

  pub AreGood : Spellings → Type 0
  AreGood no_spellings = Unit {0}
  AreGood (spelling s ss) = IsGood s × AreGood ss

  pub AreGoodFields : Fields → Type 0
  AreGoodFields no_fields = Unit {0}
  AreGoodFields (field x s fs) = (is_identifier x ≡ true) × IsGood s × AreGoodFields fs

  pub AreGoodPairs : Pairs → Type 0
  AreGoodPairs no_pairs = Unit {0}
  AreGoodPairs (pair k s ps) = IsGood k × IsGood s × AreGoodPairs ps

-- the value that is spelled; of a repeated field or argument the first counts
abbrev mutual
  pub spelled : Spelling → Value
  spelled (truth_word b) = truth b
  spelled (digits n) = int (pos n)
  spelled (minus n) = int (neg_ℤ (pos n))
  spelled (quoted w) = text w
  spelled (named w) = model w
  spelled (braces ss) = set (set_from (all_spelled ss))
  spelled (angles ss) = seq_from (all_spelled ss)
  spelled (fields x s fs) = fun_from ((text x, spelled s) ∷ spelled_fields fs)
  spelled (pairs k s ps) = fun_from ((spelled k, spelled s) ∷ spelled_pairs ps)

  pub all_spelled : Spellings → List Value
  all_spelled no_spellings = []
  all_spelled (spelling s ss) = spelled s ∷ all_spelled ss

  pub spelled_fields : Fields → List (Value × Value)
  spelled_fields no_fields = []
  spelled_fields (field x s fs) = (text x, spelled s) ∷ spelled_fields fs

  pub spelled_pairs : Pairs → List (Value × Value)
  spelled_pairs no_pairs = []
  spelled_pairs (pair k s ps) = (spelled k, spelled s) ∷ spelled_pairs ps

-- ---- the tokens of a value

-- a token without its place
pub data Mark : Type 0 where
  word : Word → Mark  -- an identifier, TRUE or FALSE
  number : ℕ → Mark
  quote : Word → Mark  -- a string, without its quotes and escapes
  sign : Word → Mark

abbrev pub truth_name : Bool → Word
truth_name true = codes "TRUE"
truth_name false = codes "FALSE"

-- the tokens of a spelling, before others
abbrev mutual
  pub marks : Spelling → List Mark → List Mark
  marks (truth_word b) r = word (truth_name b) ∷ r
  marks (digits n) r = number n ∷ r
  marks (minus n) r = sign (codes "-") ∷ number n ∷ r
  marks (quoted w) r = quote w ∷ r
  marks (named w) r = word w ∷ r
  marks (braces ss) r = sign (codes "{") ∷ marks_in ss (sign (codes "}") ∷ r)
  marks (angles ss) r = sign (codes "<<") ∷ marks_in ss (sign (codes ">>") ∷ r)
  marks (fields x s fs) r = sign (codes "[") ∷ word x ∷ sign (codes "|->") ∷ marks s (field_marks fs (sign (codes "]") ∷ r))
  marks (pairs k s ps) r = sign (codes "(") ∷ marks k (sign (codes ":>") ∷ marks s (pair_marks ps (sign (codes ")") ∷ r)))

  pub marks_in : Spellings → List Mark → List Mark
  marks_in no_spellings r = r
  marks_in (spelling s ss) r = marks s (more_marks ss r)

  pub more_marks : Spellings → List Mark → List Mark
  more_marks no_spellings r = r
  more_marks (spelling s ss) r = sign (codes ",") ∷ marks s (more_marks ss r)

  pub field_marks : Fields → List Mark → List Mark
  field_marks no_fields r = r
  field_marks (field x s fs) r = sign (codes ",") ∷ word x ∷ sign (codes "|->") ∷ marks s (field_marks fs r)

  pub pair_marks : Pairs → List Mark → List Mark
  pair_marks no_pairs r = r
  pair_marks (pair k s ps) r = sign (codes "@@") ∷ marks k (sign (codes ":>") ∷ marks s (pair_marks ps r))

-- ---- within the limits of a run

-- each part spells a value within the limits, also one that doesn't count, and no part lies in more than d pairs of brackets
abbrev mutual
  pub IsWithin : Spelling → ℕ → Type 0
  IsWithin (truth_word b) d = Unit {0}
  IsWithin (digits n) d = fits_int (pos n) ≡ true
  IsWithin (minus n) d = fits_int (neg_ℤ (pos n)) ≡ true
  IsWithin (quoted w) d = Unit {0}
  IsWithin (named w) d = Unit {0}
  IsWithin (braces ss) zero = ⊥
  IsWithin (braces ss) (suc d) = (fits (spelled (braces ss)) ≡ true) × AreWithin ss d
  IsWithin (angles ss) zero = ⊥
  IsWithin (angles ss) (suc d) = (fits (spelled (angles ss)) ≡ true) × AreWithin ss d
  IsWithin (fields x s fs) zero = ⊥
  IsWithin (fields x s fs) (suc d) = (fits (spelled (fields x s fs)) ≡ true) × IsWithin s d × AreWithinFields fs d
  IsWithin (pairs k s ps) zero = ⊥
  IsWithin (pairs k s ps) (suc d) = (fits (spelled (pairs k s ps)) ≡ true) × IsWithin k d × IsWithin s d × AreWithinPairs ps d

  pub AreWithin : Spellings → ℕ → Type 0
  AreWithin no_spellings d = Unit {0}
  AreWithin (spelling s ss) d = IsWithin s d × AreWithin ss d

  pub AreWithinFields : Fields → ℕ → Type 0
  AreWithinFields no_fields d = Unit {0}
  AreWithinFields (field x s fs) d = IsWithin s d × AreWithinFields fs d

  pub AreWithinPairs : Pairs → ℕ → Type 0
  AreWithinPairs no_pairs d = Unit {0}
  AreWithinPairs (pair k s ps) d = IsWithin k d × IsWithin s d × AreWithinPairs ps d

-- tokens spell a value, all of them within the limits
abbrev pub Spells : List Mark → Value → Type 0
Spells ts v = (s : Spelling) × IsGood s × IsWithin s deepest_value × (ts ≡ marks s []) × (spelled s ≡ v)

-- ---- the written text

abbrev pub with_field : Word → Option (List Word) → Option (List Word)
with_field w None = None
with_field w (Some ws) = Some (w ∷ ws)

-- a domain of strings that are identifiers
abbrev pub field_names : Values → Option (List Word)
field_names no_values = Some []
field_names (and (text w) ds) = if is_identifier w then with_field w (field_names ds) else None
field_names (and _ ds) = None

abbrev pub fields_from : List Word → Spellings → Fields
fields_from [] ss = no_fields
fields_from (x ∷ xs) no_spellings = no_fields
fields_from (x ∷ xs) (spelling s ss) = field x s (fields_from xs ss)

abbrev pub pairs_from : Spellings → Spellings → Pairs
pairs_from no_spellings ss = no_pairs
pairs_from (spelling k ks) no_spellings = no_pairs
pairs_from (spelling k ks) (spelling s ss) = pair k s (pairs_from ks ss)

-- of a function that is no tuple, so its domain isn't empty
abbrev pub shown_other : Option (List Word) → Spellings → Spellings → Spelling
shown_other (Some (x ∷ xs)) ks (spelling s ss) = fields x s (fields_from xs ss)
shown_other None (spelling k ks) (spelling s ss) = pairs k s (pairs_from ks ss)
shown_other _ ks ss = angles no_spellings

-- a function on 1..n is a tuple, another on strings that are identifiers a record
abbrev pub shown_fun : Values → Values → Spellings → Spellings → Spelling
shown_fun ds vs ks ss = if is_eq (orders ds (numbers_from 1 (listed vs))) then angles ss else shown_other (field_names ds) ks ss

-- the spelling that is written, its members in canonical order
abbrev mutual
  pub shown : Value → Spelling
  shown (truth b) = truth_word b
  shown (int (pos n)) = digits n
  shown (int (negsuc n)) = minus (suc n)
  shown (text w) = quoted w
  shown (model w) = named w
  shown (set vs) = braces (all_shown vs)
  shown (fun ds vs) = shown_fun ds vs (all_shown ds) (all_shown vs)

  pub all_shown : Values → Spellings
  all_shown no_values = no_spellings
  all_shown (and v vs) = spelling (shown v) (all_shown vs)

-- a blank comes after a comma, and on both sides of |->, :> and @@
abbrev mutual
  pub spelling_text : Spelling → Word
  spelling_text (truth_word b) = truth_name b
  spelling_text (digits n) = decimal n
  spelling_text (minus n) = codes "-" ++ decimal n
  spelling_text (quoted w) = codes "\"" ++ escapes w ++ codes "\""
  spelling_text (named w) = w
  spelling_text (braces ss) = codes "{" ++ items_text ss ++ codes "}"
  spelling_text (angles ss) = codes "<<" ++ items_text ss ++ codes ">>"
  spelling_text (fields x s fs) = codes "[" ++ x ++ codes " |-> " ++ spelling_text s ++ fields_text fs ++ codes "]"
  spelling_text (pairs k s ps) = codes "(" ++ spelling_text k ++ codes " :> " ++ spelling_text s ++ pairs_text ps ++ codes ")"

  pub items_text : Spellings → Word
  items_text no_spellings = []
  items_text (spelling s ss) = spelling_text s ++ more_text ss

  pub more_text : Spellings → Word
  more_text no_spellings = []
  more_text (spelling s ss) = codes ", " ++ spelling_text s ++ more_text ss

  pub fields_text : Fields → Word
  fields_text no_fields = []
  fields_text (field x s fs) = codes ", " ++ x ++ codes " |-> " ++ spelling_text s ++ fields_text fs

  pub pairs_text : Pairs → Word
  pairs_text no_pairs = []
  pairs_text (pair k s ps) = codes " @@ " ++ spelling_text k ++ codes " :> " ++ spelling_text s ++ pairs_text ps

-- the written text of a value
abbrev pub value_text : Value → Word
value_text v = spelling_text (shown v)

-- each model value in it has a name that spells a model value
abbrev mutual
  pub HasModelNames : Value → Type 0
  HasModelNames (truth b) = Unit {0}
  HasModelNames (int z) = Unit {0}
  HasModelNames (text w) = Unit {0}
  HasModelNames (model w) = is_model_name w ≡ true
  HasModelNames (set vs) = HaveModelNames vs
  HasModelNames (fun ds vs) = HaveModelNames ds × HaveModelNames vs

  pub HaveModelNames : Values → Type 0
  HaveModelNames no_values = Unit {0}
  HaveModelNames (and v vs) = HasModelNames v × HaveModelNames vs
