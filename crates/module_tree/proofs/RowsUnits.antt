-- Units outside the translation that are read or passed on, and what a file has outside, by computation.
use Rattle.std.proofs.Common.{◌≡◌, refl, subst, true, false}
use Rattle.std.specs.Prelude.{ℕ, List, [], ◌∷◌, map, codes}
use Rattle.tla_token.specs.declared.place.Place.{Place}
use Rattle.tla_token.specs.Cut.{tokens}
use Rattle.tla_tree.specs.declared.op.Op.TheVariants.{Plus, Greater}
use Rattle.tla_tree.specs.Tree.{Word, Name, number, name, strict, operator, if_then_else, Tree, node, no_trees, tree}
use Rattle.tla_tree.specs.Lexical.{Token}
use Rattle.tla_tree.specs.TokenViews.{views}
use Rattle.tla_tree.specs.Reader.{readers, readers_in}
use Rattle.tla_value.specs.Outside.{Opaque, ReadDefinition, Outside}
use Rattle.module_tree.specs.Module.{constants, defines, opaque, outside_of}
use Rattle.module_tree.specs.TextFront.{Text}
use Rattle.module_tree.specs.Walk.{walk}
use Rattle.module_tree.specs.Outside.{Sight}
use Rattle.module_tree.specs.laws.Outsides.{HasOutside, Alike, AllAlike, SameOutside}
use Rattle.module_tree.proofs.OutsideUnits.{unit_read}
use Rattle.module_tree.proofs.SomeOutside.{outside_read, has_outside}

abbrev at : ℕ → ℕ → Place
at l c = record { line = l; col = c }

abbrev seen : List ℕ → List Token
seen text = views (tokens text)

abbrev around : Sight
around = record { modules = []; constants = []; earlier = [] }

abbrev passed : List ℕ → ℕ → Opaque
passed x l = record { keyword = []; names = x ∷ []; place = at l 1 }

declared : unit_read true around (seen (codes "CONSTANTS C, S\n")) ≡ constants (record { word = codes "C"; place = at 1 11 } ∷ record { word = codes "S"; place = at 1 14 } ∷ [])
declared = refl

abbrev one : ReadDefinition
one = record { definition = record { title = codes "N"; params = codes "a" ∷ []; body = node (number 1) (at 1 9) no_trees; outside = true }; place = at 1 1 }

defined : unit_read true around (seen (codes "N(a) == 1\n")) ≡ defines one
unfolding readers_in
defined = refl

-- not after the translation
late : unit_read false around (seen (codes "N(a) == 1\n")) ≡ opaque (passed (codes "N") 1)
unfolding readers_in
late = refl

-- no value is told of C
unknown : unit_read true around (seen (codes "N(a) == C\n")) ≡ opaque (passed (codes "N") 1)
unfolding readers_in
unknown = refl

-- a comma without a name
unended : unit_read true around (seen (codes "EXTENDS Naturals,\n")) ≡ opaque (record { keyword = codes "EXTENDS"; names = codes "Naturals" ∷ []; place = at 1 1 })
unended = refl

-- ---- a constant that is declared after the translation is seen before it

abbrev text : Text
text = codes "---- MODULE M ----\nEXTENDS Integers\nN == C + 1\n(*\n--algorithm A\nbegin\n  L: skip;\nend algorithm\n*)\nCONSTANT C\nInv == N\n====\n"

abbrev is_outside : Outside
is_outside = record {
  extended = codes "Integers" ∷ [];
  constants = record { word = codes "C"; place = at 10 10 } ∷ [];
  definitions = record {
    definition = record {
      title = codes "N";
      params = [];
      body = node (strict (operator Plus)) (at 3 6) (tree (node (name (codes "C")) (at 3 6) no_trees) (tree (node (number 1) (at 3 10) no_trees) no_trees));
      outside = true;
    };
    place = at 3 1;
  } ∷ [];
  opaque = passed (codes "Inv") 11 ∷ [];
}

outside : outside_read (walk text) ≡ is_outside
unfolding readers_in
outside = refl

has : HasOutside (walk text) is_outside
has = subst (λ (o : Outside). HasOutside (walk text) o) outside (has_outside (walk text))

-- ---- units that go on in column 1, as no identifier and no unit's word stands there

abbrev plain_name : ℕ → ℕ → Word → Tree
plain_name l c x = node (name x) (at l c) no_trees

abbrev titles_in : Text → List Word
titles_in w = map (λ d. d.definition.title) (outside_read (walk w)).definitions

abbrev largest : Text
largest = codes "---- MODULE M ----\nEXTENDS Integers\nMax(a, b) ==\nIF a > b THEN a ELSE b\n(*\n--algorithm A\nbegin\n  L: skip;\nend algorithm\n*)\n====\n"

abbrev has_largest : Outside
has_largest = record {
  extended = codes "Integers" ∷ [];
  constants = [];
  definitions = record {
    definition = record {
      title = codes "Max";
      params = codes "a" ∷ codes "b" ∷ [];
      body = node if_then_else (at 4 1) (
          tree (node (strict (operator Greater)) (at 4 4) (tree (plain_name 4 4 (codes "a")) (tree (plain_name 4 8 (codes "b")) no_trees)))
          (tree (plain_name 4 15 (codes "a")) (tree (plain_name 4 22 (codes "b")) no_trees)));
      outside = true;
    };
    place = at 3 1;
  } ∷ [];
  opaque = [];
}

largest_read : outside_read (walk largest) ≡ has_largest
unfolding readers_in
largest_read = refl

reads_largest : HasOutside (walk largest) has_largest
reads_largest = subst (λ (o : Outside). HasOutside (walk largest) o) largest_read (has_outside (walk largest))

-- a number, a word of an expression, brackets and signs
abbrev in_first_column : Text
in_first_column = codes "---- MODULE M ----\nEXTENDS Integers\n, Sequences\nCONSTANT C\n,\nS\nA ==\n1\nB ==\nIF TRUE THEN 1 ELSE 2\nD ==\n{1}\nE ==\n(1)\nF ==\n<<1>>\nG ==\n- 1\nH == 1\n+ 2\nI(x\n, y\n)\n== x\n====\n"

first_column_read : titles_in in_first_column ≡ codes "A" ∷ codes "B" ∷ codes "D" ∷ codes "E" ∷ codes "F" ∷ codes "G" ∷ codes "H" ∷ codes "I" ∷ []
unfolding readers_in
first_column_read = refl

first_column_modules : (outside_read (walk in_first_column)).extended ≡ codes "Integers" ∷ codes "Sequences" ∷ []
unfolding readers_in
first_column_modules = refl

-- a name in column 1 is a unit of its own, so the constants before it end in a comma and aren't read
first_column_passed : map (λ o. o.names) (outside_read (walk in_first_column)).opaque ≡ (codes "C" ∷ []) ∷ (codes "S" ∷ []) ∷ []
unfolding readers_in
first_column_passed = refl

-- ---- a definition that has a constant's name isn't read, whichever of both comes first

abbrev constant_first : Text
constant_first = codes "---- MODULE M ----\nCONSTANT N\nN(a) == a\nK == 1\n====\n"

abbrev constant_later : Text
constant_later = codes "---- MODULE M ----\nN(a) == a\nK == 1\nCONSTANT N\n====\n"

constant_first_read : titles_in constant_first ≡ codes "K" ∷ []
unfolding readers_in
constant_first_read = refl

constant_first_passed : (outside_read (walk constant_first)).opaque ≡ passed (codes "N") 3 ∷ []
unfolding readers_in
constant_first_passed = refl

constant_later_read : titles_in constant_later ≡ codes "K" ∷ []
unfolding readers_in
constant_later_read = refl

constant_later_passed : (outside_read (walk constant_later)).opaque ≡ passed (codes "N") 2 ∷ []
unfolding readers_in
constant_later_passed = refl

-- ---- in other lines

abbrev constant_in : ℕ → List Name
constant_in l = record { word = codes "C"; place = at l 10 } ∷ []

moved : Alike (constants (constant_in 10)) (constants (constant_in 40))
moved = refl

same : SameOutside (outside_of (constants (constant_in 10) ∷ opaque (passed (codes "Inv") 11) ∷ [])) (outside_of (constants (constant_in 40) ∷ opaque (passed (codes "Inv") 41) ∷ []))
same = record { extended = refl; constants = refl; definitions = refl; opaque = refl }

both_moved : AllAlike (constants (constant_in 10) ∷ opaque (passed (codes "Inv") 11) ∷ []) (constants (constant_in 40) ∷ opaque (passed (codes "Inv") 41) ∷ [])
both_moved = (refl, (refl, tt))
