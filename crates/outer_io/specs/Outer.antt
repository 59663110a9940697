-- What is told of the texts on a shelf and of the bytes that a sink took, and how counts of 64 bits rise.
use Rattle.std.specs.Prelude.{◌≡◌, ℕ, ◌+◌, ◌-◌, ◌^◌, ◌<◌, ◌≤◌, min, List, [], ◌∷◌, ◌++◌, length, take, drop, Option, Some, None, IfSome, String, string_bytes, Vec, map, if◌then◌else◌}
use Rattle.std.specs.Str.{bytes_eq}
use Rattle.std.specs.declared.alloc.Global.{Global}

-- a count rose by so many, or by fewer and is at its last value
pub record RoseBy (n old new : ℕ) : Type 0 where
  pub no_less : min (old + n) (2 ^ 64 - 1) ≤ new
  pub no_more : new ≤ old + n

-- a count rose by more than so many, or is at its last value
abbrev pub RoseAbove : ℕ → ℕ → ℕ → Type 0
RoseAbove n old new = min (old + n + 1) (2 ^ 64 - 1) ≤ new

-- how many bytes the reading of a text asks for at a time
abbrev pub piece_bytes : ℕ
piece_bytes = 4096

-- names, each with its bytes; of two with one name the first counts
abbrev pub Texts : Type 0
Texts = List (List ℕ × List ℕ)

-- the text under a name
abbrev pub text_at : Texts → List ℕ → Option (List ℕ)
text_at [] name = None
text_at (t ∷ ts) name = if bytes_eq t.0 name then Some t.1 else text_at ts name

-- the texts in a list of names and bytes
abbrev pub texts_in : List (String Global × Vec ℕ Global) → Texts
texts_in ts = map (λ t. (string_bytes t.0, t.1.items)) ts

-- the text under a name, where the texts are told and one has that name
abbrev pub told_at : Option Texts → List ℕ → Option (List ℕ)
told_at None name = None
told_at (Some ts) name = text_at ts name

-- what holds of the text under a name, where one is told
abbrev pub Tells : Option Texts → List ℕ → (List ℕ → Type 0) → Type 0
Tells texts name P = IfSome (told_at texts name) P

-- the texts are told, and none has the name
abbrev pub HasNoText : Option Texts → List ℕ → Type 0
HasNoText None name = ⊥
HasNoText (Some ts) name = text_at ts name ≡ None

-- the texts, where they are told, have just these bytes under the name
abbrev pub HasText : Option Texts → List ℕ → List ℕ → Type 0
HasText None name bytes = Unit {0}
HasText (Some ts) name bytes = text_at ts name ≡ Some bytes

-- the first n bytes of a buffer are a piece of a text, from a place on; none of a buffer with room only at the text's end
pub record IsPiece (from n : ℕ) (buffer text : List ℕ) : Type 0 where
  pub same : take n buffer ≡ take n (drop from text)
  pub within : n ≤ length text - from
  pub ends : 0 < length buffer → n ≡ 0 → length text ≤ from

-- what was written went on by these bytes, where it is told
abbrev pub Grows : Option (List ℕ) → Option (List ℕ) → List ℕ → Type 0
Grows None new bytes = new ≡ None
Grows (Some old) new bytes = new ≡ Some (old ++ bytes)

-- what was written went on by the first of these bytes, and not by all of them
abbrev pub GrowsInPart : Option (List ℕ) → Option (List ℕ) → List ℕ → Type 0
GrowsInPart old new bytes = (n : ℕ) × (n < length bytes) × Grows old new (take n bytes)
