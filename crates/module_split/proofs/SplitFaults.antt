-- The offences of rules 1 to 10, piece by piece.
use Rattle.std.proofs.Common.{◌≡◌, ℕ, ◌+◌, Bool, true, false, ◌&&◌, ◌||◌, nat_le, List, [], ◌∷◌, ◌++◌, get_or, drop, Option, None, refl, sym, ap, ◌∙◌}
use Rattle.std.specs.Prelude.{if◌then◌else◌, filter}
use Rattle.std.specs.Option.{unwrap_or}
use Rattle.std.specs.List.{list_any}
use Rattle.std.proofs.lemmas.List.Elements.{filter-append}
use Rattle.tla_token.specs.declared.rule.Rule.{Rule}
use Rattle.tla_token.specs.declared.rule.Rule.TheVariants.{NotAscii, BadToken, OpenString, NumberTooBig}
use Rattle.tla_token.specs.declared.part.Class.{Class}
use Rattle.tla_token.specs.declared.part.Class.TheVariants as class
use Rattle.tla_token.specs.declared.fault.Reading.TheVariants as reading
use Rattle.tla_token.specs.Rules.{rule_number}
use Rattle.tla_token.specs.Lexemes.{number_of, unquoted}
use Rattle.tla_token.specs.Limits.{past_numbers}
use Rattle.tla_token.specs.Tokens.{holds_mark}
use Rattle.tla_token.specs.Offences.{Offence, is_stray, has_bad_escape, breaks_string, offence_if, byte_offences, part_offences, least}
use Rattle.tla_token.specs.Scan.{inner, part_of}
use Rattle.tla_token.specs.Readings.{part_offences_in, joined}
use Rattle.tla_token.proofs.Faults.{joined_assoc, least_append}
use Rattle.module_tree.specs.TextFront.{Text}
use Rattle.module_tree.specs.FileOffences.{offences_at, is_splitting}

-- all of these are of rules 1 to 10
abbrev pub Kept : List Offence → Type 0
Kept os = filter is_splitting os ≡ os

pub none_kept : Kept []
none_kept = refl

pub kept_append : (xs ys : List Offence) → Kept xs → Kept ys → Kept (xs ++ ys)
kept_append xs ys h g = filter-append is_splitting xs ys ∙ (λ i. h i ++ g i)

pub one_kept : (r : Rule) (n : ℕ) (os : List Offence) → nat_le (rule_number r) 10 ≡ true → Kept os → Kept ((r, n) ∷ os)
one_kept r n os h g = rw h (ap (λ (os : List Offence). (r, n) ∷ os) g)

pub if_kept : (b : Bool) (r : Rule) (n : ℕ) → nat_le (rule_number r) 10 ≡ true → Kept (offence_if b r n)
if_kept true r n h = one_kept r n [] h refl
if_kept false r n h = refl

bytes_kept : (at : ℕ) (bs : Text) → Kept (byte_offences at bs)
bytes_kept at [] = refl
bytes_kept at (b ∷ bs) =
    kept_append (offence_if (is_stray b) (if nat_le 128 b then NotAscii else BadToken) at) (byte_offences (at + 1) bs) (by (nat_le 128 b)) (bytes_kept (at + 1) bs)
  where
    by : (k : Bool) → Kept (offence_if (is_stray b) (if k then NotAscii else BadToken) at)
    by true = if_kept (is_stray b) NotAscii at refl
    by false = if_kept (is_stray b) BadToken at refl

-- ---- parts

bad_kept : (a : Bool) (at : ℕ) (raw : Text) → Kept (offence_if (has_bad_escape raw || (a && holds_mark raw)) BadToken at ++ (offence_if (list_any breaks_string raw) OpenString at ++ byte_offences (at + 1) raw))
bad_kept a at raw =
    kept_append (offence_if (has_bad_escape raw || (a && holds_mark raw)) BadToken at) (offence_if (list_any breaks_string raw) OpenString at ++ byte_offences (at + 1) raw)
    (if_kept (has_bad_escape raw || (a && holds_mark raw)) BadToken at refl)
    (kept_append (offence_if (list_any breaks_string raw) OpenString at) (byte_offences (at + 1) raw) (if_kept (list_any breaks_string raw) OpenString at refl) (bytes_kept (at + 1) raw))

-- all but numbers
part_kept : (a : Bool) (c : Class) (at : ℕ) (bytes : Text) → (c ≡ class.Number → ⊥) → Kept (part_offences a at (part_of c bytes))
part_kept a class.Blank at bytes n = refl
part_kept a class.Block at bytes n = refl
part_kept a class.Line at bytes n = refl
part_kept a class.Name at bytes n = refl
part_kept a class.Number at bytes n = absurd (n refl)
part_kept a class.Text at bytes n = if_kept (a && holds_mark (unwrap_or (unquoted (inner bytes)) [])) BadToken at refl
part_kept a (class.Sign s) at bytes n = refl
part_kept a class.Other at bytes n = refl
part_kept a class.Stray at bytes n = bytes_kept at (get_or bytes 0 0 ∷ [])
part_kept a class.BadText at bytes n = bad_kept a at (inner bytes)
part_kept a class.OpenText at bytes n = one_kept OpenString at (byte_offences (at + 1) (drop 1 bytes)) refl (bytes_kept (at + 1) (drop 1 bytes))
part_kept a class.OpenBlock at bytes n = refl

-- in an algorithm
pub inner_part_fault : (c : Class) (at : ℕ) (bytes : Text) (o : Option Offence) → (c ≡ class.Number → ⊥) → o ≡ least (part_offences_in reading.Algorithm at (part_of c bytes)) → o ≡ least (filter is_splitting (part_offences true at (part_of c bytes)))
inner_part_fault c at bytes o n e = e ∙ ap least (sym (part_kept true c at bytes n))

pub inner_number_fault : (at : ℕ) (bytes : Text) → None ≡ least (filter is_splitting (part_offences true at (part_of class.Number bytes)))
inner_number_fault at bytes = by (nat_le past_numbers (number_of bytes))
  where
    by : (b : Bool) → None ≡ least (filter is_splitting (offence_if (true && b) NumberTooBig at))
    by true = refl
    by false = refl

-- outside
pub plain_kept : (c : Class) (at : ℕ) (bytes : Text) → Kept (part_offences false at (part_of c bytes))
plain_kept class.Blank at bytes = refl
plain_kept class.Block at bytes = refl
plain_kept class.Line at bytes = refl
plain_kept class.Name at bytes = refl
plain_kept class.Number at bytes = refl
plain_kept class.Text at bytes = refl
plain_kept (class.Sign s) at bytes = refl
plain_kept class.Other at bytes = refl
plain_kept class.Stray at bytes = bytes_kept at (get_or bytes 0 0 ∷ [])
plain_kept class.BadText at bytes = bad_kept false at (inner bytes)
plain_kept class.OpenText at bytes = one_kept OpenString at (byte_offences (at + 1) (drop 1 bytes)) refl (bytes_kept (at + 1) (drop 1 bytes))
plain_kept class.OpenBlock at bytes = refl

pub plain_part_fault : (c : Class) (at : ℕ) (bytes : Text) (o : Option Offence) → o ≡ least (part_offences_in reading.Unread at (part_of c bytes)) → o ≡ least (filter is_splitting (part_offences false at (part_of c bytes)))
plain_part_fault c at bytes o e = e ∙ ap least (sym (plain_kept c at bytes))

pub plain_text_fault : (at : ℕ) (bytes : Text) → None ≡ least (filter is_splitting (part_offences false at (part_of class.Text bytes)))
plain_text_fault at bytes = refl

-- ---- one rule

pub places_kept : (r : Rule) (ns : List ℕ) → nat_le (rule_number r) 10 ≡ true → Kept (offences_at r ns)
places_kept r [] h = refl
places_kept r (n ∷ ns) h = one_kept r n (offences_at r ns) h (places_kept r ns h)

-- of the first of these, and of the others
pub fault_first : (f : Option Offence) (xs ys : List Offence) → joined (joined f (least xs)) (least ys) ≡ joined f (least (xs ++ ys))
fault_first f xs ys = joined_assoc f (least xs) (least ys) ∙ ap (joined f) (sym (least_append xs ys))
