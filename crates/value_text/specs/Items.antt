-- What stands in brackets of a value: items with or without a key, and what is read of them.
use Rattle.std.specs.Prelude.{◌≡◌, ℕ, ℤ, pos, neg_ℤ, Bool, true, false, List, [], ◌∷◌, ◌++◌, length, codes, Option, Some, None, Result, Ok, Err, if◌then◌else◌}
use Rattle.tla_token.specs.declared.sign.Sign.{Sign}
use Rattle.tla_token.specs.declared.part.Class.TheVariants as class
use Rattle.tla_token.specs.Signs.{spellings}
use Rattle.tla_tree.specs.Tree.{Word}
use Rattle.tla_value.specs.Value.{Value, int, text, set}
use Rattle.tla_value.specs.Order.{same, set_from, seq_from, fun_from}
use Rattle.tla_value.specs.Limits.{fits, fits_int}
use Rattle.tla_value.specs.ValueText.{Mark, word, sign, Spelling, truth_word, named, marks, IsGood, IsWithin, is_identifier, spelled}
use Rattle.tla_value.specs.ValueSeen.{first_of}
use Rattle.value_text.specs.declared.token.Token.{Token}
use Rattle.value_text.specs.declared.token.Punct.{Punct}
use Rattle.value_text.specs.declared.token.Punct.TheVariants as punct
use Rattle.tla_value.specs.declared.stop.EvalStop.{EvalStop}
use Rattle.tla_value.specs.declared.stop.EvalStop.TheVariants as stop
use Rattle.value_text.specs.declared.make.Form.{Form}
use Rattle.value_text.specs.declared.make.Form.TheVariants as form
use Rattle.value_text.specs.declared.make.Opening.{Opening}
use Rattle.value_text.specs.declared.make.Opening.TheVariants as opening
use Rattle.value_text.specs.declared.make.Halt.{Halt}
use Rattle.value_text.specs.declared.make.Halt.TheVariants as halt
use Rattle.value_text.specs.Puncts.{punct_word, punct_of}
use Rattle.value_text.specs.InSight.{ahead, Comes}

abbrev pub begin_of : Form → Punct
begin_of form.Set = punct.OpenSet
begin_of form.Tuple = punct.OpenTuple
begin_of form.Record = punct.OpenRecord
begin_of form.Pairs = punct.OpenPairs

abbrev pub close_of : Form → Punct
close_of form.Set = punct.CloseSet
close_of form.Tuple = punct.CloseTuple
close_of form.Record = punct.CloseRecord
close_of form.Pairs = punct.ClosePairs

abbrev pub between_of : Form → Punct
between_of form.Set = punct.Comma
between_of form.Tuple = punct.Comma
between_of form.Record = punct.Comma
between_of form.Pairs = punct.Override

abbrev pub punct_mark : Punct → Mark
punct_mark p = sign (punct_word p)

-- what an item has in front of its value
pub data Key : Type 0 where
  no_key : Key
  field_key : Word → Key
  value_key : Spelling → Key

abbrev pub Item : Type 0
Item = Key × Spelling

abbrev pub key_marks : Key → List Mark → List Mark
key_marks no_key r = r
key_marks (field_key x) r = word x ∷ sign (codes "|->") ∷ r
key_marks (value_key k) r = marks k (sign (codes ":>") ∷ r)

abbrev pub item_marks : Item → List Mark → List Mark
item_marks i r = key_marks i.0 (marks i.1 r)

abbrev pub more_items : Form → List Item → List Mark → List Mark
more_items f [] r = r
more_items f (i ∷ is) r = punct_mark (between_of f) ∷ item_marks i (more_items f is r)

abbrev pub body : Form → List Item → List Mark → List Mark
body f [] r = r
body f (i ∷ is) r = item_marks i (more_items f is r)

-- items with a sign between them behind each
abbrev pub front_items : Form → List Item → List Mark → List Mark
front_items f [] m = m
front_items f (i ∷ is) m = item_marks i (punct_mark (between_of f) ∷ front_items f is m)

-- a key of this form, in so many brackets at most
abbrev pub IsKey : Form → ℕ → Key → Type 0
IsKey form.Set d no_key = Unit {0}
IsKey form.Tuple d no_key = Unit {0}
IsKey form.Record d (field_key x) = is_identifier x ≡ true
IsKey form.Pairs d (value_key k) = IsGood k × IsWithin k d
IsKey f d k = ⊥

abbrev pub IsItem : Form → ℕ → Item → Type 0
IsItem f d i = IsKey f d i.0 × IsGood i.1 × IsWithin i.1 d

abbrev pub AreItems : Form → ℕ → List Item → Type 0
AreItems f d [] = Unit {0}
AreItems f d (i ∷ is) = IsItem f d i × AreItems f d is

-- a record, and a function by pairs, has one at least
abbrev pub IsFilled : Form → List Item → Type 0
IsFilled form.Record [] = ⊥
IsFilled form.Pairs [] = ⊥
IsFilled f is = Unit {0}

abbrev pub key_values : Key → List Value
key_values no_key = []
key_values (field_key x) = text x ∷ []
key_values (value_key k) = spelled k ∷ []

abbrev pub keys_of : List Item → List Value
keys_of [] = []
keys_of (i ∷ is) = key_values i.0 ++ keys_of is

abbrev pub values_of : List Item → List Value
values_of [] = []
values_of (i ∷ is) = spelled i.1 ∷ values_of is

abbrev pub paired : List Value → List Value → List (Value × Value)
paired [] vs = []
paired (k ∷ ks) [] = []
paired (k ∷ ks) (v ∷ vs) = (k, v) ∷ paired ks vs

-- the value of a form, by its keys and its values
abbrev pub made : Form → List Value → List Value → Value
made form.Set ks vs = set (set_from vs)
made form.Tuple ks vs = seq_from vs
made form.Record ks vs = fun_from (paired ks vs)
made form.Pairs ks vs = fun_from (paired ks vs)

-- ---- answers

-- a value that is made; none where it is past the limits
abbrev pub Makes : Value → Result Value Halt → Type 0
Makes w (Ok v) = (v ≡ w) × (fits w ≡ true)
Makes w (Err halt.Memory) = Unit {0}
Makes w (Err halt.NoValue) = fits w ≡ false

-- of these tokens a value is read, in so many brackets at most, and tokens are left; none where they spell none
abbrev pub Answer : ℕ → List Mark → List Mark → Result Value Halt → Type 0
Answer d ms left (Ok v) = (s : Spelling) × IsGood s × IsWithin s d × (ms ≡ marks s left) × (spelled s ≡ v)
Answer d ms left (Err halt.Memory) = Unit {0}
Answer d ms left (Err halt.NoValue) = (s : Spelling) (r : List Mark) → IsGood s → IsWithin s d → ms ≡ marks s r → ⊥

abbrev pub KeyAnswer : Form → ℕ → List Mark → List Mark → List Value → List Value → Result (Unit {0}) Halt → Type 0
KeyAnswer f d ms left ks ls (Ok u) = (k : Key) × IsKey f d k × (ms ≡ key_marks k left) × (ls ≡ ks ++ key_values k)
KeyAnswer f d ms left ks ls (Err halt.Memory) = Unit {0}
KeyAnswer f d ms left ks ls (Err halt.NoValue) = (k : Key) (r : List Mark) → IsKey f d k → ms ≡ key_marks k r → ⊥

abbrev pub ItemAnswer : Form → ℕ → List Mark → List Mark → List Value → List Value → List Value → List Value → Result (Unit {0}) Halt → Type 0
ItemAnswer f d ms left ks ls vs ws (Ok u) = (i : Item) × IsItem f d i × (ms ≡ item_marks i left) × (ls ≡ ks ++ key_values i.0) × (ws ≡ vs ++ spelled i.1 ∷ [])
ItemAnswer f d ms left ks ls vs ws (Err halt.Memory) = Unit {0}
ItemAnswer f d ms left ks ls vs ws (Err halt.NoValue) = (i : Item) (r : List Mark) → IsItem f d i → ms ≡ item_marks i r → ⊥

abbrev pub BodyAnswer : Form → ℕ → List Mark → List Mark → List Value → List Value → List Value → List Value → Result (Unit {0}) Halt → Type 0
BodyAnswer f d ms left ks ls vs ws (Ok u) = (is : List Item) × AreItems f d is × IsFilled f is × (ms ≡ body f is (punct_mark (close_of f) ∷ left)) × (ls ≡ ks ++ keys_of is) × (ws ≡ vs ++ values_of is)
BodyAnswer f d ms left ks ls vs ws (Err halt.Memory) = Unit {0}
BodyAnswer f d ms left ks ls vs ws (Err halt.NoValue) = (is : List Item) (r : List Mark) → AreItems f d is → IsFilled f is → ms ≡ body f is (punct_mark (close_of f) ∷ r) → ⊥

-- items that are read up to a place where the next one begins
pub record Begun (f : Form) (d : ℕ) (ms left : List Mark) (ks ls vs ws : List Value) : Type 0 where
  pub items : List Item
  pub are : AreItems f d items
  pub cut : ms ≡ front_items f items left
  pub keys : ls ≡ ks ++ keys_of items
  pub values : ws ≡ vs ++ values_of items
  pub some : IsFilled f [] → (r : List Mark) → ms ≡ punct_mark (close_of f) ∷ r → ⊥

-- ---- atoms

abbrev pub sign_mark : Sign → Mark
sign_mark s = sign (first_of (spellings s))

abbrev pub signed_number : Bool → ℕ → ℤ
signed_number true n = neg_ℤ (pos n)
signed_number false n = pos n

abbrev pub IntegerAnswer : ℤ → Result Value Halt → Type 0
IntegerAnswer z (Ok v) = (v ≡ int z) × (fits_int z ≡ true)
IntegerAnswer z (Err halt.Memory) = Unit {0}
IntegerAnswer z (Err halt.NoValue) = fits_int z ≡ false

abbrev pub word_read : Word → Spelling
word_read w = if same (text w) (text (codes "TRUE")) then truth_word true else (if same (text w) (text (codes "FALSE")) then truth_word false else named w)

abbrev pub NameAnswer : List ℕ → ℕ → ℕ → Option Token → Type 0
NameAnswer bytes at to None = (x : Word) (r : List Mark) → ahead bytes at ≡ word x ∷ r → ⊥
NameAnswer bytes at to (Some t) = Comes bytes at t × (t.class ≡ class.Name) × (to ≡ t.to)

abbrev pub may_be_empty : Form → Bool
may_be_empty form.Set = true
may_be_empty form.Tuple = true
may_be_empty form.Record = false
may_be_empty form.Pairs = false

-- as many keys as values, where there are keys
abbrev pub IsPaired : Form → List Value → List Value → Type 0
IsPaired form.Set ks vs = Unit {0}
IsPaired form.Tuple ks vs = Unit {0}
IsPaired form.Record ks vs = length ks ≡ length vs
IsPaired form.Pairs ks vs = length ks ≡ length vs

abbrev pub KeptAs : Result Value EvalStop → Result Value Halt → Type 0
KeptAs (Ok v) r = r ≡ Ok v
KeptAs (Err stop.Memory) r = r ≡ Err halt.Memory
KeptAs (Err (stop.Fault k p)) r = r ≡ Err halt.NoValue
KeptAs (Err (stop.Limit p)) r = r ≡ Err halt.NoValue

abbrev pub opening_by : Option Punct → Option Opening
opening_by (Some punct.Minus) = Some opening.Minus
opening_by (Some punct.OpenSet) = Some (opening.Brackets form.Set)
opening_by (Some punct.OpenTuple) = Some (opening.Brackets form.Tuple)
opening_by (Some punct.OpenRecord) = Some (opening.Brackets form.Record)
opening_by (Some punct.OpenPairs) = Some (opening.Brackets form.Pairs)
opening_by o = None

abbrev pub opening_of : Sign → Option Opening
opening_of s = opening_by (punct_of s)
