-- Each text is read as the module that it is, or refused.
use Rattle.std.proofs.Common.{◌≡◌, ◌⊎◌, ℕ, Bool, true, false, nat_le, Option, Some, None, inl, inr, refl, sym, ap, ◌∙◌, arith}
use Rattle.std.proofs.lemmas.Bool.{leb-true, leb-false}
use Rattle.std.proofs.lemmas.Option.{none-some}
use Rattle.tla_token.specs.declared.rule.Rule.TheVariants.{TooDeep, Syntax}
use Rattle.tla_token.specs.declared.rule.Refusal.{Refusal}
use Rattle.tla_tree.specs.Nesting.{nesting_in, deepest_in_module}
use Rattle.tla_tree.specs.Whole.{read_bounded}
use Rattle.module_tree.specs.TextFront.{Text}
use Rattle.module_tree.specs.Module.{Module}
use Rattle.region_reading.specs.Bound.{bounded}
use Rattle.region_reading.specs.Nests.{region_nests}
use Rattle.region_reading.specs.ModuleReader.{module_in, module_within}
use Rattle.region_reading.specs.ReadAnswer.{beginning, ReadsModule, RefusesModule}
use Rattle.region_reading.proofs.BoundIsRead.{bound_is_read}
use Rattle.region_reading.proofs.BoundedModules.{module_same, module_opens, module_fits}
use Rattle.region_reading.proofs.ModulesRead.{module_ok, module_read}

nests_of : Option Module → ℕ
nests_of (Some m) = region_nests m.region
nests_of None = 0

module _ (w : Text) where
  abbrev Answered : Type 0
  Answered = ((m : Module) × ReadsModule w m) ⊎ ((r : Refusal) × RefusesModule w r)

  by_tree : (m : Module) → module_in w ≡ Some m → module_within (bounded read_bounded deepest_in_module) w ≡ Some m → (b : Bool) → nat_le (region_nests m.region) deepest_in_module ≡ b → Answered
  unfolding nests_of
  by_tree m e f true i = inl (m, (module_ok w m e, (module_opens read_bounded (nesting_in false) bound_is_read deepest_in_module w m f, leb-true (region_nests m.region) deepest_in_module i)))
  by_tree m e f false i = inr (
    record { rule = TooDeep; place = beginning },
    (
      refl,
      inr (
        refl,
        λ k r n.
            (let same : region_nests m.region ≡ region_nests k.region = ap nests_of (sym e ∙ module_read w k r) in
            let deep = leb-false (region_nests m.region) deepest_in_module i in
            let low = n.1 in
            absurd (omega (arith, same, deep, low))),
      ),
    ),
  )

  by : (o : Option Module) → module_in w ≡ o → (q : Option Module) → module_within (bounded read_bounded deepest_in_module) w ≡ q → Answered
  by None e q f = inr (record { rule = Syntax; place = beginning }, (refl, inl (refl, λ m r. none-some m (sym e ∙ module_read w m r))))
  by (Some m) e None f = inr (
    record { rule = TooDeep; place = beginning },
    (
      refl,
      inr (
        refl,
        λ k r n.
            none-some k (sym f ∙ module_fits read_bounded (nesting_in false) bound_is_read deepest_in_module w n.0 k (module_read w k r)),
      ),
    ),
  )
  by (Some m) e (Some n) f = by_tree n (same e f) f (nat_le (region_nests n.region) deepest_in_module) refl
    where
      same : module_in w ≡ Some m → module_within (bounded read_bounded deepest_in_module) w ≡ Some n → module_in w ≡ Some n
      same e f = module_same read_bounded (nesting_in false) bound_is_read deepest_in_module w n f

  pub answered : Answered
  answered = by (module_in w) refl (module_within (bounded read_bounded deepest_in_module) w) refl

-- one module is read, and then nothing is refused
pub read_once : (w : Text) (m n : Module) → ReadsModule w m → ReadsModule w n → m ≡ n
read_once w m n r s = some_same (sym (module_read w m r.0) ∙ module_read w n s.0)
  where
    some_same : Some m ≡ Some n → m ≡ n
    some_same e = cc

pub not_both : (w : Text) (m : Module) (r : Refusal) → ReadsModule w m → RefusesModule w r → ⊥
not_both w m r h (p, inl q) = q.1 m h.0
not_both w m r h (p, inr q) = q.1 m h.0 h.1
