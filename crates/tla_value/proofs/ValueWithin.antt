-- What is written for a canonical value within the limits is within them, part by part; what is spelled is a canonical value within the limits.
use Rattle.std.proofs.Common.{◌≡◌, ℕ, zero, suc, ◌≤◌, pos, negsuc, Bool, true, false, List, [], ◌∷◌, refl, sym, ◌∙◌, ap, subst, arith, Option, Some, None}
use Rattle.std.specs.Prelude.{neg_ℤ, ◌&&◌, if◌then◌else◌}
use Rattle.std.specs.Ordering.{is_eq}
use Rattle.std.proofs.lemmas.Bool.{and_parts}
use Rattle.tla_token.specs.Limits.{deepest_value}
use Rattle.tla_tree.specs.Tree.{Word}
use Rattle.tla_value.specs.Value.{Value, Values, truth, int, text, model, set, fun, no_values, and, values_in}
use Rattle.tla_value.specs.Order.{orders, listed, numbers_from, IsCanonical, AreCanonical, ArePairsCanonical}
use Rattle.tla_value.specs.Limits.{depth, depths, fits, fits_parts, all_fit, fits_count}
use Rattle.tla_value.specs.ValueText.{Mark, Spelling, Spellings, Fields, Pairs, truth_word, digits, minus, quoted, named, braces, angles, fields, pairs, no_spellings, spelling, no_fields, field, no_pairs, pair, spelled, all_spelled, spelled_fields, spelled_pairs, IsWithin, AreWithin, AreWithinFields, AreWithinPairs, Spells, HasModelNames, field_names, fields_from, pairs_from, shown_other, shown, all_shown, marks}
use Rattle.tla_value.proofs.Canonical.{set_canonical}
use Rattle.tla_value.proofs.OrderFuns.{seq_from_canonical, fun_from_canonical}
use Rattle.tla_value.proofs.Fits.{fits_parts_of, depth_of, fits_by}
use Rattle.tla_value.proofs.ValueSpelled.{spelled_shown, good_shown}

-- ---- what is written

fields_within : (d : ℕ) (xs : List Word) (ss : Spellings) → AreWithin ss d → AreWithinFields (fields_from xs ss) d
fields_within d [] ss h = tt
fields_within d (x ∷ xs) no_spellings h = tt
fields_within d (x ∷ xs) (spelling s ss) h = (h.0, fields_within d xs ss h.1)

pairs_within : (d : ℕ) (ks ss : Spellings) → AreWithin ks d → AreWithin ss d → AreWithinPairs (pairs_from ks ss) d
pairs_within d no_spellings ss g h = tt
pairs_within d (spelling k ks) no_spellings g h = tt
pairs_within d (spelling k ks) (spelling s ss) g h = (g.0, h.0, pairs_within d ks ss g.1 h.1)

other_within : (d : ℕ) (o : Option (List Word)) (ks ss : Spellings) → fits (spelled (shown_other o ks ss)) ≡ true → AreWithin ks d → AreWithin ss d → IsWithin (shown_other o ks ss) (suc d)
other_within d (Some (x ∷ xs)) ks (spelling s ss) f g h = (f, h.0, fields_within d xs ss h.1)
other_within d (Some (x ∷ xs)) ks no_spellings f g h = (f, tt)
other_within d (Some []) ks ss f g h = (f, tt)
other_within d None (spelling k ks) (spelling s ss) f g h = (f, g.0, h.0, pairs_within d ks ss g.1 h.1)
other_within d None (spelling k ks) no_spellings f g h = (f, tt)
other_within d None no_spellings ss f g h = (f, tt)

fun_within : (d : ℕ) (b : Bool) (ds : Values) (ks ss : Spellings) → fits (spelled (if b then angles ss else shown_other (field_names ds) ks ss)) ≡ true → AreWithin ks d → AreWithin ss d → IsWithin (if b then angles ss else shown_other (field_names ds) ks ss) (suc d)
fun_within d true ds ks ss f g h = (f, h)
fun_within d false ds ks ss f g h = other_within d (field_names ds) ks ss f g h

mutual
  shown_within : (d : ℕ) (v : Value) → d ≤ deepest_value → IsCanonical v → fits_parts v ≡ true → depth v ≤ d → IsWithin (shown v) d
  shown_within d (truth b) l c f h = tt
  shown_within d (int (pos n)) l c f h = f
  shown_within d (int (negsuc n)) l c f h = f
  shown_within d (text w) l c f h = tt
  shown_within d (model w) l c f h = tt
  shown_within zero (set vs) l c f h = absurd (omega arith)
  shown_within (suc d) (set vs) l c f h = (
    ap fits (spelled_shown (set vs) c) ∙ fits_by (set vs) f (omega arith),
    all_shown_within d vs (omega arith) c.1 (and_parts (fits_count vs) (all_fit vs) f).1 (omega arith),
  )
  shown_within zero (fun ds vs) l c f h = absurd (omega arith)
  shown_within (suc d) (fun ds vs) l c f h =
      let parts = and_parts (all_fit ds) (all_fit vs) (and_parts (fits_count ds) (all_fit ds && all_fit vs) f).1 in
      fun_within d (is_eq (orders ds (numbers_from 1 (listed vs)))) ds (all_shown ds) (all_shown vs)
      (ap fits (spelled_shown (fun ds vs) c) ∙ fits_by (fun ds vs) f (omega arith))
      (all_shown_within d ds (omega arith) c.1 parts.0 (omega arith))
      (all_shown_within d vs (omega arith) c.2 parts.1 (omega arith))

  all_shown_within : (d : ℕ) (vs : Values) → d ≤ deepest_value → AreCanonical vs → all_fit vs ≡ true → depths vs ≤ d → AreWithin (all_shown vs) d
  all_shown_within d no_values l c f h = tt
  all_shown_within d (and v vs) l c f h =
      let parts = and_parts (fits_parts v) (all_fit vs) f in
      (shown_within d v l c.0 parts.0 (omega arith), all_shown_within d vs l c.1 parts.1 (omega arith))

-- the tokens that are written for a value spell it
pub within_shown : (v : Value) → IsCanonical v → fits v ≡ true → IsWithin (shown v) deepest_value
within_shown v canonical within = shown_within deepest_value v (omega arith) canonical (fits_parts_of v within) (depth_of v within)

pub spells_shown : (v : Value) → IsCanonical v → HasModelNames v → fits v ≡ true → Spells (marks (shown v) []) v
spells_shown v canonical names within = (shown v, good_shown v names, within_shown v canonical within, refl, spelled_shown v canonical)

-- ---- what is spelled

mutual
  spelled_canonical : (s : Spelling) → IsCanonical (spelled s)
  spelled_canonical (truth_word b) = tt
  spelled_canonical (digits n) = tt
  spelled_canonical (minus n) = tt
  spelled_canonical (quoted w) = tt
  spelled_canonical (named w) = tt
  spelled_canonical (braces ss) = set_canonical (all_spelled ss) (all_canonical ss)
  spelled_canonical (angles ss) = seq_from_canonical (all_spelled ss) (all_canonical ss)
  spelled_canonical (fields x s fs) = fun_from_canonical ((text x, spelled s) ∷ spelled_fields fs) ((tt, spelled_canonical s), fields_canonical fs)
  spelled_canonical (pairs k s ps) = fun_from_canonical ((spelled k, spelled s) ∷ spelled_pairs ps) ((spelled_canonical k, spelled_canonical s), pairs_canonical ps)

  all_canonical : (ss : Spellings) → AreCanonical (values_in (all_spelled ss))
  all_canonical no_spellings = tt
  all_canonical (spelling s ss) = (spelled_canonical s, all_canonical ss)

  fields_canonical : (fs : Fields) → ArePairsCanonical (spelled_fields fs)
  fields_canonical no_fields = tt
  fields_canonical (field x s fs) = ((tt, spelled_canonical s), fields_canonical fs)

  pairs_canonical : (ps : Pairs) → ArePairsCanonical (spelled_pairs ps)
  pairs_canonical no_pairs = tt
  pairs_canonical (pair k s ps) = ((spelled_canonical k, spelled_canonical s), pairs_canonical ps)

within_fits : (d : ℕ) (s : Spelling) → IsWithin s d → fits (spelled s) ≡ true
within_fits d (truth_word b) h = refl
within_fits d (digits n) h = fits_by (int (pos n)) h (omega arith)
within_fits d (minus n) h = fits_by (int (neg_ℤ (pos n))) h (omega arith)
within_fits d (quoted w) h = refl
within_fits d (named w) h = refl
within_fits zero (braces ss) h = absurd h
within_fits zero (angles ss) h = absurd h
within_fits zero (fields x s fs) h = absurd h
within_fits zero (pairs k s ps) h = absurd h
within_fits (suc d) (braces ss) h = h.0
within_fits (suc d) (angles ss) h = h.0
within_fits (suc d) (fields x s fs) h = h.0
within_fits (suc d) (pairs k s ps) h = h.0

-- a value that tokens spell is canonical and within the limits
pub spelled_is_canonical : (ts : List Mark) (v : Value) → Spells ts v → IsCanonical v
spelled_is_canonical ts v h = subst IsCanonical h.4 (spelled_canonical h.0)

pub spelled_fits : (ts : List Mark) (v : Value) → Spells ts v → fits v ≡ true
spelled_fits ts v h = ap fits (sym h.4) ∙ within_fits deepest_value h.0 h.2
