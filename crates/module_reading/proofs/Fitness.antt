-- Translations that may stand in a module, and why one doesn't.
use Rattle.std.proofs.Common.{◌≡◌, ℕ, ◌+◌, ◌<◌, ◌≤◌, Bool, true, false, ◌||◌, nat_le, List, [], ◌∷◌, length, drop, get_or, Option, Some, None, inl, inr, refl, sym, ap, ◌∙◌, subst, arith}
use Rattle.std.specs.Prelude.{option_map, is_some}
use Rattle.std.specs.Bool.{beq}
use Rattle.std.specs.List.{list_any}
use Rattle.std.proofs.lemmas.List.{drop_more, drop_all}
use Rattle.std.proofs.lemmas.Bool.{leb-true, leb-false}
use Rattle.std.proofs.lemmas.Option.{none-some, same_Some}
use Rattle.tla_token.specs.declared.rule.Rule.TheVariants.{TooDeep, Syntax}
use Rattle.tla_token.specs.declared.rule.Stop.{Stop}
use Rattle.tla_token.specs.declared.rule.Stop.TheVariants as stop
use Rattle.tla_tree.specs.Tree.{Tree}
use Rattle.tla_tree.specs.Pool.{at}
use Rattle.tla_tree.specs.Lexical.{Token}
use Rattle.tla_tree.specs.Nesting.{nesting_in, deepest_in_module}
use Rattle.tla_tree.specs.Whole.{read_bounded}
use Rattle.module_tree.specs.Module.{RegionUnit, Region}
use Rattle.module_tree.specs.Units.{unit_of}
use Rattle.module_tree.specs.Ways.{is_terminating}
use Rattle.module_write.specs.declared.«module».Way as code
use Rattle.module_write.specs.declared.«module».Region as code_region
use Rattle.module_write.specs.InMemory.{way_at, ways_at, region_at}
use Rattle.expr_nodes.specs.declared.cursor.Halt.{Halt}
use Rattle.expr_nodes.specs.declared.cursor.Halt.TheVariants as halt
use Rattle.region_reading.specs.Bound.{unbounded}
use Rattle.region_reading.specs.UnitReader.{form_within, unit_within, unit_in}
use Rattle.region_reading.specs.ModuleReader.{one_unit_more, units_are, region_of_units, terminates_alike}
use Rattle.region_reading.specs.RegionReader.{region_in}
use Rattle.region_reading.specs.Nests.{region_nests}
use Rattle.region_reading.specs.ReadAnswer.{beginning}
use Rattle.region_reading.proofs.UnitsRead.{some_mapped}
use Rattle.region_reading.proofs.BoundIsRead.{bound_is_read}
use Rattle.region_reading.proofs.BoundedUnits.{form_same}
use Rattle.module_reading.specs.Translated.{module_bound, translated, IsFit, stop_of, NoUnits, NoneFit, NoTranslation}

-- ---- what its code tests

-- one of those that are left is Terminating if the first one is, or one behind it
pub first_left : (ts : List Tree) (ys : List code.Way) (i : ℕ) (y : code.Way) → y ≡ get_or ys i y → i < length ys
    → list_any is_terminating (ways_at ts (drop i ys)) ≡ (is_terminating (way_at ts y) || list_any is_terminating (ways_at ts (drop (i + 1) ys)))
first_left ts ys i y is l = ap (λ (zs : List code.Way). list_any is_terminating (ways_at ts zs)) (drop_more ys i y l ∙ ap (λ (z : code.Way). z ∷ drop (i + 1) ys) (sym is))

pub none_left : (ts : List Tree) (ys : List code.Way) (i : ℕ) → length ys ≤ i → list_any is_terminating (ways_at ts (drop i ys)) ≡ false
none_left ts ys i l = ap (λ (zs : List code.Way). list_any is_terminating (ways_at ts zs)) (drop_all i ys l)

same_there : (ts : List Tree) (o : Option ℕ) → is_some (option_map (at ts) o) ≡ is_some o
same_there ts None = refl
same_there ts (Some e) = refl

pub alike_is : (ts : List Tree) (g : code_region.Region) (a b : Bool) → a ≡ is_some g.ended → b ≡ list_any is_terminating (ways_at ts g.next.items) → beq a b ≡ terminates_alike (region_at ts g)
alike_is ts g a b e f = λ i. beq ((e ∙ sym (same_there ts g.ended)) i) (f i)

-- ---- of one translation

pub unalike : (g : Region) → terminates_alike g ≡ false → NoneFit (Some g) (Some g) (stop.Refused (record { rule = Syntax; place = beginning }))
unalike g h = (refl, inl (refl, λ q e a. apart (sym h ∙ ap terminates_alike (same_Some g q e) ∙ a)))
  where
    apart : false ≡ true → ⊥
    apart e = cc

pub too_deep : (g : Region) → nat_le (region_nests g) deepest_in_module ≡ false → NoneFit (Some g) (Some g) (stop.Refused (record { rule = TooDeep; place = beginning }))
too_deep g h = (refl, inr (refl, λ q e l. (let n : region_nests g ≡ region_nests q = ap region_nests (same_Some g q e) in let d = leb-false (region_nests g) deepest_in_module h in absurd (omega (arith, n, d, l)))))

pub is_fit : (g : Region) → terminates_alike g ≡ true → nat_le (region_nests g) deepest_in_module ≡ true → IsFit g
is_fit g a h = record { alike = a; shallow = leb-true (region_nests g) deepest_in_module h }

-- ---- of units

pub no_region : (o : Option Region) → o ≡ None → NoneFit o o (stop.Refused (record { rule = Syntax; place = beginning }))
no_region o h = (refl, inl (refl, λ g e a. none-some g (sym h ∙ e)))

-- what is read within the bound is read without it
unit_same : (ts : List Token) (u : RegionUnit) → unit_within module_bound ts ≡ Some u → unit_in ts ≡ Some u
unit_same ts u e =
    let m = some_mapped unit_of (form_within module_bound ts) u e in
    ap (option_map unit_of) (form_same read_bounded (nesting_in false) bound_is_read deepest_in_module ts m.0 m.1).0 ∙ ap Some m.2

units_same : (tss : List (List Token)) (us : List RegionUnit) → units_are module_bound tss ≡ Some us → units_are unbounded tss ≡ Some us
units_same [] us e = e
units_same (ts ∷ tss) us e = by (unit_within module_bound ts) refl (units_are module_bound tss) refl e (units_same tss)
  where
    by : (o : Option RegionUnit) → unit_within module_bound ts ≡ o → (q : Option (List RegionUnit)) → units_are module_bound tss ≡ q → one_unit_more o q ≡ Some us
        → ((us : List RegionUnit) → units_are module_bound tss ≡ Some us → units_are unbounded tss ≡ Some us) → one_unit_more (unit_in ts) (units_are unbounded tss) ≡ Some us
    by (Some u) h (Some vs) k e more = (λ i. one_unit_more (unit_same ts u h i) (more vs k i)) ∙ e
    by (Some u) h None k e more = absurd (none-some us e)
    by None h q k e more = absurd (none-some us e)

pub no_units : (tss : List (List Token)) (x : Halt) → NoUnits tss x → NoTranslation tss (stop_of x)
no_units tss halt.Memory h = tt
no_units tss (halt.Refused r n) (inl h) = (refl, inl (h.0, λ g e a. none-some g (sym (ap region_of_units h.1) ∙ e)))
no_units tss (halt.Refused r n) (inr h) = (refl, inr (h.0, λ g e l. none-some g (sym (ap region_of_units h.1) ∙ e)))

pub none_of_units : (tss : List (List Token)) (us : List RegionUnit) (x : Stop) → units_are module_bound tss ≡ Some us → NoneFit (region_in us) (region_in us) x → NoTranslation tss x
none_of_units tss us x e h =
    subst (λ (o : Option Region). NoneFit o (translated module_bound tss) x) (sym (ap region_of_units (units_same tss us e)))
    (subst (λ (o : Option Region). NoneFit (region_in us) o x) (sym (ap region_of_units e)) h)
