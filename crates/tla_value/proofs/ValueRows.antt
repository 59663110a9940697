-- Rows: values that are equal, their order, their texts, and the limits, by computing.
use Rattle.std.proofs.Common.{◌≡◌, ℕ, pos, negsuc, zero, suc, true, false, [], ◌∷◌, refl, ap, arith}
use Rattle.std.specs.Fmt.{decimal}
use Rattle.std.proofs.lemmas.Fmt.{decimal-digits_of}
use Rattle.std.specs.Prelude.{codes, ◌++◌, ◌^◌, ◌-◌}
use Rattle.std.specs.declared.cmp.Ordering.TheVariants.{Less}
use Rattle.tla_value.specs.Value.{Value, Values, truth, int, text, model, set, no_values, and}
use Rattle.tla_value.specs.Order.{count, order, same, set_from, seq_from, fun_from, record_from}
use Rattle.tla_value.specs.Limits.{fits, fits_count}
use Rattle.tla_value.specs.ValueText.{value_text}
use Rattle.tla_value.specs.laws.WrittenStrings.{HasStrings}

-- the digits that are written
one : decimal 1 ≡ codes "1"
one = decimal-digits_of 1 (omega arith) (omega arith)

two : decimal 2 ≡ codes "2"
two = decimal-digits_of 2 (omega arith) (omega arith)

three : decimal 3 ≡ codes "3"
three = decimal-digits_of 3 (omega arith) (omega arith)

seven : decimal 7 ≡ codes "7"
seven = decimal-digits_of 7 (omega arith) (omega arith)

-- {1, TRUE, "a"} and {"a", TRUE, 1, 1}
abbrev mixed : Value
mixed = set (set_from (int (pos 1) ∷ truth true ∷ text (codes "a") ∷ []))

abbrev again : Value
again = set (set_from (text (codes "a") ∷ truth true ∷ int (pos 1) ∷ int (pos 1) ∷ []))

mixed_sets : same mixed again ≡ true
mixed_sets = refl

mixed_text : value_text again ≡ codes "{TRUE, 1, \"a\"}"
mixed_text = ap (λ d. codes "{TRUE, " ++ (d ++ codes ", \"a\"") ++ codes "}") one

false_first : order (truth false) (truth true) ≡ Less
false_first = refl

string_before_model : order (text (codes "p1")) (model (codes "p1")) ≡ Less
string_before_model = refl

smaller_first : order (set (set_from (model (codes "z") ∷ []))) (set (set_from (int (pos 1) ∷ int (pos 2) ∷ []))) ≡ Less
smaller_first = refl

-- tuples and records are functions
pair_is_function : same (seq_from (truth true ∷ text (codes "a") ∷ [])) (fun_from ((int (pos 2), text (codes "a")) ∷ (int (pos 1), truth true) ∷ [])) ≡ true
pair_is_function = refl

first_field_counts : same (record_from (codes "f" ∷ codes "f" ∷ []) (int (pos 1) ∷ int (pos 2) ∷ [])) (fun_from ((text (codes "f"), int (pos 1)) ∷ [])) ≡ true
first_field_counts = refl

tuple_text : value_text (seq_from (int (pos 1) ∷ int (negsuc 2) ∷ [])) ≡ codes "<<1, -3>>"
tuple_text = λ i. codes "<<" ++ (one i ++ (codes ", -" ++ three i ++ [])) ++ codes ">>"

empty_text : value_text (fun_from []) ≡ codes "<<>>"
empty_text = refl

record_text : value_text (record_from (codes "g" ∷ codes "f" ∷ []) (int (pos 1) ∷ truth false ∷ [])) ≡ codes "[f |-> FALSE, g |-> 1]"
record_text = ap (λ d. codes "[f |-> FALSE" ++ (codes ", g |-> " ++ d ++ []) ++ codes "]") one

function_text : value_text (fun_from ((text (codes "a b"), int (pos 1)) ∷ (int (pos 7), int (pos 2)) ∷ [])) ≡ codes "(7 :> 2 @@ \"a b\" :> 1)"
function_text = λ i. codes "(" ++ seven i ++ codes " :> " ++ two i ++ (codes " @@ \"a b\" :> " ++ one i ++ []) ++ codes ")"

-- ---- limits

largest : fits (int (pos (2 ^ 127 - 1))) ≡ true
largest = refl

too_large : fits (int (pos (2 ^ 127))) ≡ false
too_large = refl

smallest : fits (int (negsuc (2 ^ 127 - 1))) ≡ true
smallest = refl

too_small : fits (int (negsuc (2 ^ 127))) ≡ false
too_small = refl

-- an integer in n sets
abbrev nested : ℕ → Value
nested zero = int (pos 1)
nested (suc n) = set (and (nested n) no_values)

deepest : fits (nested 200) ≡ true
deepest = refl

too_deep : fits (nested 201) ≡ false
too_deep = refl

-- a set of 65,536 members is within the limits, one more is not
full_set : (vs : Values) → count vs ≡ 65536 → fits_count vs ≡ true
full_set vs e = rw e refl

fuller_set : (vs : Values) → count vs ≡ 65537 → fits_count vs ≡ false
fuller_set vs e = rw e refl

-- ---- strings that can be written: a tab has an escape, a bell has none
tab_is_written : HasStrings (set (and (text (97 ∷ 9 ∷ [])) no_values))
tab_is_written = (refl, tt)

bell_is_not : HasStrings (set (and (text (97 ∷ 7 ∷ [])) no_values)) → ⊥
bell_is_not h = never h.0
  where
    never : false ≡ true → ⊥
    never e = cc
