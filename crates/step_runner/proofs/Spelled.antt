-- The value at a place of a text that is written out, by cutting the text.
use Rattle.std.proofs.Common.{◌≡◌, ◌≤◌, ℕ, List, ◌++◌, length, take, drop, map, IsTrue, subst}
use Rattle.std.specs.List.{list_all}
use Rattle.tla_token.specs.Tokens.{Piece, text_of, stretch}
use Rattle.tla_token.specs.Offences.{Part, sound, parts_text, PartsFit}
use Rattle.tla_token.specs.Cut.{parts, pieces}
use Rattle.tla_token.proofs.Cutting.{cut_fits}
use Rattle.tla_value.specs.Value.{Value}
use Rattle.tla_value.specs.ValueText.{Spells}
use Rattle.tla_value.specs.ValueSeen.{FitBefore, SpellsFrom, is_no_block, ends_in_token, marks_of}
use Rattle.tla_value.proofs.ValueDecided.{fit_before}

-- the first n parts from a place on
abbrev pub front : List ℕ → ℕ → ℕ → List Piece
front bytes at n = pieces (take n (parts (drop at bytes)))

abbrev pub back : List ℕ → ℕ → ℕ → List Part
back bytes at n = drop n (parts (drop at bytes))

pub value_here : (bytes : List ℕ) (at to n : ℕ) (v : Value) → to ≤ length bytes → parts (drop at bytes) ≡ map sound (front bytes at n) ++ back bytes at n → parts_text (back bytes at n) ≡ drop to bytes
    → stretch bytes at to ≡ text_of (front bytes at n) → IsTrue (list_all is_no_block (front bytes at n)) → IsTrue (ends_in_token (front bytes at n)) → Spells (marks_of (front bytes at n)) v → SpellsFrom bytes at to v
value_here bytes at to n v inside cut rest is no_blocks ends spells =
    let F : List Part → Type 0 = λ qs. PartsFit qs in
    let G : List ℕ → Type 0 = λ u. FitBefore (front bytes at n) u in
    record {
      inside = inside;
      pieces = front bytes at n;
      cut = is;
      fit = subst G rest (fit_before (front bytes at n) (back bytes at n) (subst F cut (cut_fits (drop at bytes)).1));
      no_blocks = no_blocks;
      ends = ends;
      spells = spells;
    }
