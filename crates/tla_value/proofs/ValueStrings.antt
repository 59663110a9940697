-- The spelling that is written for a value has the strings of the value, and numbers that digits are written for.
use Rattle.std.proofs.Common.{pos, negsuc, Bool, true, false, List, [], ◌∷◌, Option, Some, None}
use Rattle.std.specs.Prelude.{if◌then◌else◌}
use Rattle.std.specs.Ordering.{is_eq}
use Rattle.tla_tree.specs.Tree.{Word}
use Rattle.tla_tree.specs.laws.Writable.{IsString}
use Rattle.tla_value.specs.Value.{Value, Values, truth, int, text, model, set, fun, no_values, and}
use Rattle.tla_value.specs.Order.{orders, listed, numbers_from}
use Rattle.tla_value.specs.ValueText.{Spelling, Spellings, Fields, Pairs, quoted, braces, angles, fields, pairs, no_spellings, spelling, no_fields, field, no_pairs, pair, field_names, fields_from, pairs_from, shown_other, shown, all_shown}
use Rattle.tla_value.specs.laws.WrittenStrings.{HasStrings, HaveStrings}

abbrev mutual
  pub Quotes : Spelling → Type 0
  Quotes (quoted w) = IsString w
  Quotes (braces ss) = AllQuote ss
  Quotes (angles ss) = AllQuote ss
  Quotes (fields x s fs) = Quotes s × FieldsQuote fs
  Quotes (pairs k s ps) = Quotes k × Quotes s × PairsQuote ps
  Quotes _ = Unit {0}

  pub AllQuote : Spellings → Type 0
  AllQuote no_spellings = Unit {0}
  AllQuote (spelling s ss) = Quotes s × AllQuote ss

  pub FieldsQuote : Fields → Type 0
  FieldsQuote no_fields = Unit {0}
  FieldsQuote (field x s fs) = Quotes s × FieldsQuote fs

  pub PairsQuote : Pairs → Type 0
  PairsQuote no_pairs = Unit {0}
  PairsQuote (pair k s ps) = Quotes k × Quotes s × PairsQuote ps

fields_quote : (xs : List Word) (ss : Spellings) → AllQuote ss → FieldsQuote (fields_from xs ss)
fields_quote [] ss h = tt
fields_quote (x ∷ xs) no_spellings h = tt
fields_quote (x ∷ xs) (spelling s ss) h = (h.0, fields_quote xs ss h.1)

pairs_quote : (ks ss : Spellings) → AllQuote ks → AllQuote ss → PairsQuote (pairs_from ks ss)
pairs_quote no_spellings ss g h = tt
pairs_quote (spelling k ks) no_spellings g h = tt
pairs_quote (spelling k ks) (spelling s ss) g h = (g.0, h.0, pairs_quote ks ss g.1 h.1)

other_quotes : (o : Option (List Word)) (ks ss : Spellings) → AllQuote ks → AllQuote ss → Quotes (shown_other o ks ss)
other_quotes (Some (x ∷ xs)) ks (spelling s ss) g h = (h.0, fields_quote xs ss h.1)
other_quotes (Some (x ∷ xs)) ks no_spellings g h = tt
other_quotes (Some []) ks ss g h = tt
other_quotes None (spelling k ks) (spelling s ss) g h = (g.0, h.0, pairs_quote ks ss g.1 h.1)
other_quotes None (spelling k ks) no_spellings g h = tt
other_quotes None no_spellings ss g h = tt

fun_quotes : (b : Bool) (ds : Values) (ks ss : Spellings) → AllQuote ks → AllQuote ss → Quotes (if b then angles ss else shown_other (field_names ds) ks ss)
fun_quotes true ds ks ss g h = h
fun_quotes false ds ks ss g h = other_quotes (field_names ds) ks ss g h

mutual
  pub shown_quotes : (v : Value) → HasStrings v → Quotes (shown v)
  shown_quotes (truth b) h = tt
  shown_quotes (int (pos n)) h = tt
  shown_quotes (int (negsuc n)) h = tt
  shown_quotes (text w) h = h
  shown_quotes (model w) h = tt
  shown_quotes (set vs) h = all_shown_quote vs h
  shown_quotes (fun ds vs) h =
      fun_quotes (is_eq (orders ds (numbers_from 1 (listed vs)))) ds (all_shown ds) (all_shown vs) (all_shown_quote ds h.0) (all_shown_quote vs h.1)

  pub all_shown_quote : (vs : Values) → HaveStrings vs → AllQuote (all_shown vs)
  all_shown_quote no_values h = tt
  all_shown_quote (and v vs) h = (shown_quotes v h.0, all_shown_quote vs h.1)
