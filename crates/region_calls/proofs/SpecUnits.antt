-- The conjuncts of Spec as a unit: in memory they stand in their order exactly if the pure reader takes their forms.
use Rattle.std.proofs.Common.{◌≡◌, List, [], ◌∷◌, length, map, Option, Some, None, IfSome, IfNone, refl, ap, subst, sym}
use Rattle.tla_token.specs.declared.place.Place.{Place}
use Rattle.tla_token.specs.declared.rule.Rule.TheVariants.{Syntax}
use Rattle.tla_tree.specs.Tree.{Tree}
use Rattle.tla_tree.specs.Lexical.{Token}
use Rattle.tla_tree.specs.Reader.{Out, then_read}
use Rattle.module_tree.specs.Grammar.{each}
use Rattle.module_tree.specs.Units.{FairForm, fairness_of, SpecForm, start_line, steps_line, fair_line, UnitForm, spec_form}
use Rattle.module_tree.specs.Module as tree
use Rattle.module_write.specs.declared.«module».Fairness.{Fairness}
use Rattle.module_write.specs.InMemory.{fairness_at, AllFairnessIn}
use Rattle.expr_nodes.specs.declared.cursor.Halt.TheVariants as halt
use Rattle.expr_nodes.specs.ReadIn.{Reads, Fails}
use Rattle.expr_rows.proofs.ReadLemmas.{told_then, fails_after}
use Rattle.region_reading.specs.NameReader.{gives_if}
use Rattle.region_reading.specs.CallReader.{fairs_of, one_fair_more}
use Rattle.region_reading.specs.UnitReader.{spec_of, spec_with}
use Rattle.region_calls.specs.declared.fairness.SpecLine.{SpecLine}
use Rattle.region_calls.specs.declared.fairness.SpecLine.TheVariants as line
use Rattle.region_calls.specs.Told.{IsSpec}
use Rattle.region_calls.specs.Lists.{AreAll}
use Rattle.region_calls.specs.Order.{in_order, IsSpecUnit}

abbrev as_lines : List Fairness → List SpecLine
as_lines fs = map (λ (f : Fairness). line.Fair f) fs

-- formulas of fairness are taken as such
record AreFair (ts : List Tree) (fs : List Fairness) (o : Option (List (Place × FairForm))) : Type 0 where
  pub taken : List (Place × FairForm)
  pub forms : o ≡ Some taken
  pub below : AllFairnessIn (length ts) fs
  pub fair : each fairness_of taken ≡ map (fairness_at ts) fs

all_fair : (ts : List Tree) (fs : List Fairness) (xs : List (Place × SpecForm)) → AreAll (IsSpec ts) (as_lines fs) xs → AreFair ts fs (fairs_of xs)
all_fair ts [] [] h = record { taken = []; forms = refl; below = tt; fair = refl }
all_fair ts [] (x ∷ xs) h = absurd h
all_fair ts (f ∷ fs) [] h = absurd h
all_fair ts (f ∷ fs) ((p, start_line q) ∷ xs) h = absurd h.0
all_fair ts (f ∷ fs) ((p, steps_line a b c d e) ∷ xs) h = absurd h.0
all_fair ts (f ∷ fs) ((p, fair_line g) ∷ xs) h = (let r = all_fair ts fs xs h.1 in record {
  taken = (p, g) ∷ r.taken;
  forms = ap (one_fair_more p g) r.forms;
  below = (h.0.below, r.below);
  fair = λ i. sym h.0.fair i ∷ r.fair i;
})

-- and others are not
not_all_fair : (ts : List Tree) (ls : List SpecLine) (xs : List (Place × SpecForm)) → AreAll (IsSpec ts) ls xs → ((fs : List Fairness) → ls ≡ as_lines fs → ⊥) → fairs_of xs ≡ None
not_all_fair ts [] [] h n = absurd (n [] refl)
not_all_fair ts [] (x ∷ xs) h n = absurd h
not_all_fair ts (l ∷ ls) [] h n = absurd h
not_all_fair ts (l ∷ ls) ((p, start_line q) ∷ xs) h n = refl
not_all_fair ts (l ∷ ls) ((p, steps_line a b c d e) ∷ xs) h n = refl
not_all_fair ts (line.Fair x ∷ ls) ((p, fair_line f) ∷ xs) h n = ap (one_fair_more p f) (not_all_fair ts ls xs h.1 (λ fs e. n (x ∷ fs) (ap (λ (ms : List SpecLine). line.Fair x ∷ ms) e)))
not_all_fair ts (line.Start ∷ ls) ((p, fair_line f) ∷ xs) h n = absurd h.0
not_all_fair ts (line.Steps ∷ ls) ((p, fair_line f) ∷ xs) h n = absurd h.0

-- ---- the unit
record IsTaken (ts : List Tree) (fs : List Fairness) (o : Option UnitForm) : Type 0 where
  pub what : UnitForm
  pub is : o ≡ Some what
  pub told : IsSpecUnit ts fs what

spec_taken : (ts : List Tree) (fs : List Fairness) (xs : List (Place × SpecForm)) (p q : Place) → AreAll (IsSpec ts) (in_order fs) xs → IsTaken ts fs (spec_of p q xs)
spec_taken ts fs [] p q h = absurd h
spec_taken ts fs ((s, start_line t) ∷ []) p q h = absurd h.1
spec_taken ts fs ((s, start_line t) ∷ (u, start_line v) ∷ xs) p q h = absurd h.1.0
spec_taken ts fs ((s, start_line t) ∷ (u, fair_line f) ∷ xs) p q h = absurd h.1.0
spec_taken ts fs ((s, start_line t) ∷ (u, steps_line a b c d e) ∷ xs) p q h = (let r = all_fair ts fs xs h.1.1 in record {
  what = spec_form p q s t u (steps_line a b c d e) r.taken;
  is = ap (spec_with p q s t u (steps_line a b c d e)) r.forms;
  told = record { below = r.below; unit = ap tree.spec_unit r.fair };
})
spec_taken ts fs ((s, steps_line a b c d e) ∷ xs) p q h = absurd h.0
spec_taken ts fs ((s, fair_line f) ∷ xs) p q h = absurd h.0

spec_refused : (ts : List Tree) (ls : List SpecLine) (xs : List (Place × SpecForm)) (p q : Place) → AreAll (IsSpec ts) ls xs → ((fs : List Fairness) → ls ≡ in_order fs → ⊥) → spec_of p q xs ≡ None
spec_refused ts ls [] p q h n = refl
spec_refused ts ls ((s, start_line t) ∷ []) p q h n = refl
spec_refused ts ls ((s, start_line t) ∷ (u, start_line v) ∷ xs) p q h n = refl
spec_refused ts ls ((s, start_line t) ∷ (u, fair_line f) ∷ xs) p q h n = refl
spec_refused ts ls ((s, steps_line a b c d e) ∷ xs) p q h n = refl
spec_refused ts ls ((s, fair_line f) ∷ xs) p q h n = refl
spec_refused ts [] ((s, start_line t) ∷ (u, steps_line a b c d e) ∷ xs) p q h n = absurd h
spec_refused ts (l ∷ []) ((s, start_line t) ∷ (u, steps_line a b c d e) ∷ xs) p q h n = absurd h.1
spec_refused ts (line.Start ∷ line.Steps ∷ ls) ((s, start_line t) ∷ (u, steps_line a b c d e) ∷ xs) p q h n =
    ap (spec_with p q s t u (steps_line a b c d e)) (not_all_fair ts ls xs h.1.1 (λ fs i. n fs (ap (λ (ms : List SpecLine). line.Start ∷ line.Steps ∷ ms) i)))
spec_refused ts (line.Start ∷ line.Start ∷ ls) ((s, start_line t) ∷ (u, steps_line a b c d e) ∷ xs) p q h n = absurd h.1.0
spec_refused ts (line.Start ∷ line.Fair x ∷ ls) ((s, start_line t) ∷ (u, steps_line a b c d e) ∷ xs) p q h n = absurd h.1.0
spec_refused ts (line.Steps ∷ l ∷ ls) ((s, start_line t) ∷ (u, steps_line a b c d e) ∷ xs) p q h n = absurd h.0
spec_refused ts (line.Fair x ∷ l ∷ ls) ((s, start_line t) ∷ (u, steps_line a b c d e) ∷ xs) p q h n = absurd h.0

-- ---- as it is read
pub if_some : {A : Type 0} (P : A → Type 0) (r : Option A) (x : A) → r ≡ Some x → IfSome r P → P x
if_some P r x e h = subst (λ (r : Option _). IfSome r P) e h

pub if_none : {A : Type 0} (P : Type 0) (r : Option A) → r ≡ None → IfNone r P → P
if_none P r e h = subst (λ (r : Option _). IfNone r P) e h

module _ (ts : List Tree) {ls : List SpecLine} {us : List Token} (o : Out (List (Place × SpecForm))) (p q : Place) (r : Reads (AreAll (IsSpec ts) ls) us o) where
  pub spec_told : {fs : List Fairness} → ls ≡ in_order fs → Reads (IsSpecUnit ts fs) us (then_read o (λ xs. gives_if (spec_of p q xs)))
  spec_told {fs} e = told_then o (λ xs. gives_if (spec_of p q xs)) r (λ xs h.
      let t = spec_taken ts fs xs p q (subst (λ (ls : List SpecLine). AreAll (IsSpec ts) ls xs) e h) in
      record { what = t.what; is = ap (λ (o : Option UnitForm). gives_if o us) t.is; told = t.told })

  pub spec_fails : ((fs : List Fairness) → ls ≡ in_order fs → ⊥) → Fails (halt.Refused Syntax (length us)) (then_read o (λ xs. gives_if (spec_of p q xs)))
  spec_fails n = fails_after (halt.Refused Syntax (length us)) o (λ xs. gives_if (spec_of p q xs)) r
      (λ xs h. subst (λ (o : Option UnitForm). Fails (halt.Refused Syntax (length us)) (gives_if o us)) (sym (spec_refused ts ls xs p q h n)) (refl, refl))
