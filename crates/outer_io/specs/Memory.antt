-- What a shelf and a sink in memory hold, which calls they have had, and which calls are to fail.
use Rattle.std.specs.Prelude.{◌≡◌, ℕ, ◌+◌, ◌-◌, ◌^◌, min, Bool, ◌==◌, List, length, Option, Some}
use Rattle.std.specs.List.{list_any}
use Rattle.outer_io.specs.Outer.{Texts, texts_in}
use Rattle.outer_io.specs.declared.memory.Calls.{Calls}
use Rattle.outer_io.specs.declared.memory.MemShelf.{MemShelf}
use Rattle.outer_io.specs.declared.memory.MemSink.{MemSink}

-- the number of the next call, from 1; a count of 64 bits
abbrev pub next_call : Calls → ℕ
next_call c = min (c.made + 1) (2 ^ 64 - 1)

-- the next call is one of those that are to fail
abbrev pub next_fails : Calls → Bool
next_fails c = list_any (λ n. n == next_call c) c.to_fail.items

-- one call was made; the same calls are to fail
pub record AddsCall (old new : Calls) : Type 0 where
  pub made : new.made ≡ next_call old
  pub to_fail : new.to_fail ≡ old.to_fail

-- the texts on a shelf
abbrev pub texts_of : MemShelf → Option Texts
texts_of s = Some (texts_in s.texts.items)

-- how many bytes a shelf has handed out
abbrev pub given_of : MemShelf → ℕ
given_of s = s.given

-- the most bytes that one call of a shelf hands out
abbrev pub most_given : MemShelf → ℕ
most_given s = s.most

-- the calls that a shelf has had
abbrev pub fetches : MemShelf → Calls
fetches s = s.calls

-- what a sink has taken
abbrev pub taken_of : MemSink → Option (List ℕ)
taken_of s = Some s.bytes.items

-- how many bytes a sink has room for
abbrev pub room_left : MemSink → ℕ
room_left s = s.room - length s.bytes.items

-- the most bytes that one call of a sink takes
abbrev pub most_taken : MemSink → ℕ
most_taken s = s.most

-- the calls that a sink has had
abbrev pub writes : MemSink → Calls
writes s = s.calls
