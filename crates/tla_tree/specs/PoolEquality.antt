-- The test for equal nodes, and what is hashed of one.
use Rattle.std.specs.Prelude.{◌++◌, ◌≡◌, ◌+◌, ◌*◌, ◌^◌, true, []}
use Rattle.std.specs.Bool.{Decides}
use Rattle.std.specs.List.{flat_map}
use Rattle.std.specs.Cmp.{IsEquivalence, IsPartialEquivalence}
use Rattle.std.specs.Hash as fed
use Rattle.std.proofs.Common.{ap}
use Rattle.tla_tree.specs.Tree.{Form, string, name, next, Word}
use Rattle.tla_tree.specs.Pool.{Entry, entry_code, same_entry}
use Rattle.tla_tree.specs.Same.{same_by-Decides, equivalence_by, partial_by}

pub same_entry-Decides : (a b : Entry) → Decides (same_entry a b) (a ≡ b)
unfolding same_entry
same_entry-Decides a b = same_by-Decides entry_code a b

pub same_equivalence : IsEquivalence same_entry
same_equivalence = equivalence_by same_entry same_entry-Decides

pub same_partial : IsPartialEquivalence same_entry
same_partial = partial_by same_entry same_entry-Decides

-- the word of a name, a primed name or a string; no other form has one
abbrev pub word_of : Form → Word
word_of (string w) = w
word_of (name x) = x
word_of (next x) = x
word_of _ = []

-- what is hashed: the place as one number, the parts, and the word
abbrev pub fed_entry : Entry → fed.HashWrites
fed_entry n = fed.u64 (n.place.line * 2 ^ 32 + n.place.col) ++ flat_map fed.usize n.parts
    ++ fed.slice fed.u8 (word_of n.form)

pub fed_same : (a b : Entry) → same_entry a b ≡ true → fed_entry a ≡ fed_entry b
fed_same a b h = ap fed_entry ((same_entry-Decides a b).0 h)
