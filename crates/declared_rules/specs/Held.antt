-- The test for equal things that may offend, and what is hashed of one.
use Rattle.std.specs.Prelude.{◌≡◌, ◌==◌, Bool, true, false, ◌&&◌, ◌++◌, nat_eq}
use Rattle.std.specs.Bool.{Decides}
use Rattle.std.specs.Cmp.{IsEquivalence, IsPartialEquivalence}
use Rattle.std.specs.Cmp.Lexicographic.{pointwise}
use Rattle.std.specs.Hash as fed
use Rattle.std.proofs.Common.{ap, subst, refl, eqb-true, eq-eqb}
use Rattle.std.proofs.lemmas.Bool.{and_parts, and_from}
use Rattle.tla_tree.specs.Tree.{Word}
use Rattle.tla_tree.specs.Same.{equivalence_by, partial_by}
use Rattle.algorithm_limits.proofs.Tables.{equal_is, equal_itself}
use Rattle.declared_rules.specs.declared.binding.Binding.{Binding}
use Rattle.declared_rules.specs.declared.binding.Binding.TheVariants.{Bound, Standing, Beneath}

abbrev pub same_held : Binding → Binding → Bool
same_held (Bound x) (Bound y) = pointwise ◌==◌ x.word y.word && (nat_eq x.place.line y.place.line && nat_eq x.place.col y.place.col)
same_held (Standing x) (Standing y) = pointwise ◌==◌ x y
same_held (Beneath x u) (Beneath y v) = pointwise ◌==◌ x y && pointwise ◌==◌ u v
same_held _ _ = false

pub held_sound : (a b : Binding) → same_held a b ≡ true → a ≡ b
held_sound (Bound x) (Bound y) e =
    let h = and_parts (pointwise ◌==◌ x.word y.word) (nat_eq x.place.line y.place.line && nat_eq x.place.col y.place.col) e in
    let k = and_parts (nat_eq x.place.line y.place.line) (nat_eq x.place.col y.place.col) h.1 in
    λ i. Bound (record { word = equal_is x.word y.word h.0 i; place = record { line = eqb-true x.place.line y.place.line k.0 i; col = eqb-true x.place.col y.place.col k.1 i } })
held_sound (Standing x) (Standing y) e = λ i. Standing (equal_is x y e i)
held_sound (Beneath x u) (Beneath y v) e =
    let h = and_parts (pointwise ◌==◌ x y) (pointwise ◌==◌ u v) e in λ i. Beneath (equal_is x y h.0 i) (equal_is u v h.1 i)
held_sound (Bound x) (Standing y) e = cc
held_sound (Bound x) (Beneath y v) e = cc
held_sound (Standing x) (Bound y) e = cc
held_sound (Standing x) (Beneath y v) e = cc
held_sound (Beneath x u) (Bound y) e = cc
held_sound (Beneath x u) (Standing y) e = cc

held_itself : (a : Binding) → same_held a a ≡ true
held_itself (Bound x) =
    let p = x.place in
    and_from (pointwise ◌==◌ x.word x.word) (nat_eq p.line p.line && nat_eq p.col p.col) (equal_itself x.word) (and_from (nat_eq p.line p.line) (nat_eq p.col p.col) (eq-eqb p.line p.line refl) (eq-eqb p.col p.col refl))
held_itself (Standing x) = equal_itself x
held_itself (Beneath x u) = and_from (pointwise ◌==◌ x x) (pointwise ◌==◌ u u) (equal_itself x) (equal_itself u)

pub same_held-Decides : (a b : Binding) → Decides (same_held a b) (a ≡ b)
same_held-Decides a b = (held_sound a b, λ h. subst (λ (z : Binding). same_held a z ≡ true) h (held_itself a))

pub same_equivalence : IsEquivalence same_held
same_equivalence = equivalence_by same_held same_held-Decides

pub same_partial : IsPartialEquivalence same_held
same_partial = partial_by same_held same_held-Decides

abbrev fed_word : Word → fed.HashWrites
fed_word x = fed.slice fed.u8 x

abbrev pub fed_held : Binding → fed.HashWrites
fed_held (Bound x) = fed_word x.word ++ (fed.u32 x.place.line ++ fed.u32 x.place.col)
fed_held (Standing x) = fed_word x
fed_held (Beneath x u) = fed_word x ++ fed_word u

pub fed_same : (a b : Binding) → same_held a b ≡ true → fed_held a ≡ fed_held b
fed_same a b h = ap fed_held (held_sound a b h)
