-- The names of the standard modules are one list wherever they are listed: as words that are no names of the user's, as what the modules give, and as the operators and sets
-- that have a meaning.
use Rattle.std.proofs.Common.{◌≡◌, Bool, true, false, ◌||◌, cond, bytes_eq, codes, [], ◌∷◌, map, drop, Some, None, refl}
use Rattle.tla_token.specs.declared.place.Place.{Place}
use Rattle.tla_token.specs.Signs.{is_among}
use Rattle.tla_token.specs.Words.{standard_names}
use Rattle.tla_tree.specs.Tree.{Word}
use Rattle.tla_value.specs.Meaning.{only_tested}
use Rattle.tla_value.specs.Standard.{Standard, length_of, appended, first_of, rest_of, part_of, sequences, size_of, is_finite, printed, asserted, standard_of, is_natural, is_int, standard_name}
use Rattle.tla_value.specs.StandardModules.{standard_table}

given_are_named : map (λ d. d.title) standard_table ≡ standard_names
given_are_named = refl

-- those behind Nat and Int are operators
named_have_operators : map standard_of (drop 2 standard_names)
    ≡ Some sequences ∷ Some length_of ∷ Some appended ∷ Some first_of ∷ Some rest_of ∷ Some part_of ∷ Some size_of ∷ Some is_finite ∷ Some printed ∷ Some asserted ∷ []
named_have_operators = refl

nat_is_a_set : (at : Place) → standard_name (codes "Nat") at ≡ only_tested at is_natural
nat_is_a_set at = refl

int_is_a_set : (at : Place) → standard_name (codes "Int") at ≡ only_tested at is_int
int_is_a_set at = refl

-- no other word is an operator's name
operators_are_named : (w : Word) (o : Standard) → standard_of w ≡ Some o → is_among standard_names w ≡ true
operators_are_named w o =
    by (bytes_eq (codes "Nat") w) (bytes_eq (codes "Int") w) (bytes_eq (codes "Seq") w) (bytes_eq (codes "Len") w) (bytes_eq (codes "Append") w)
    (bytes_eq (codes "Head") w) (bytes_eq (codes "Tail") w) (bytes_eq (codes "SubSeq") w) (bytes_eq (codes "Cardinality") w) (bytes_eq (codes "IsFiniteSet") w)
    (bytes_eq (codes "PrintT") w) (bytes_eq (codes "Assert") w)
  where
    by : (n i s a b c d e f g h j : Bool) → cond a (Some length_of) (cond b (Some appended) (cond c (Some first_of) (cond d (Some rest_of) (cond e (Some part_of) (cond s (Some sequences) (cond f (Some size_of) (cond g (Some is_finite) (cond h (Some printed) (cond j (Some asserted) None))))))))) ≡ Some o
        → (n || (i || (s || (a || (b || (c || (d || (e || (f || (g || (h || (j || false)))))))))))) ≡ true
    by true i s a b c d e f g h j q = refl
    by false true s a b c d e f g h j q = refl
    by false false true a b c d e f g h j q = refl
    by false false false true b c d e f g h j q = refl
    by false false false false true c d e f g h j q = refl
    by false false false false false true d e f g h j q = refl
    by false false false false false false true e f g h j q = refl
    by false false false false false false false true f g h j q = refl
    by false false false false false false false false true g h j q = refl
    by false false false false false false false false false true h j q = refl
    by false false false false false false false false false false true j q = refl
    by false false false false false false false false false false false true q = refl
    by false false false false false false false false false false false false q = cc
