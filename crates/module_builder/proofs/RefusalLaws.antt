-- When a result of one type is a refusal, where it is passed on as one of another.
use Rattle.std.proofs.Common.{◌≡◌, ◌↔◌, Option, Some, None, Result, Ok, Err, sym, ap, ◌∙◌}
use Rattle.tla_token.specs.declared.rule.Refusal.{Refusal}
use Rattle.tla_token.specs.declared.rule.Stop.{Stop}
use Rattle.tla_token.specs.declared.rule.Stop.TheVariants as stop

abbrev err_or : {A E : Type 0} → E → Result A E → E
err_or d (Ok x) = d
err_or d (Err y) = y

pub passed_on : {A B X : Type 0} (q : Refusal) (made : Result B Stop) (e y : Stop) → made ≡ Err y → y ≡ e → (◌≡◌ {A = Result A Stop} (Err e) (Err (stop.Refused q))) ↔ X → (made ≡ Err (stop.Refused q)) ↔ X
passed_on q made e y is same h = (λ k. h.0 (ap Err (sym same ∙ ap (err_or y) (sym is ∙ k))), λ x. is ∙ ap Err (same ∙ ap (err_or e) (h.1 x)))

-- where nothing is refused
some_absurd : {A B : Type 0} (x : A) → ◌≡◌ {A = Option A} None (Some x) → B
some_absurd x e = absurd (never e)
  where
    never : ◌≡◌ {A = Option _} None (Some x) → ⊥
    never q = cc

pub made_fine : {A : Type 0} (q : Refusal) (first : Option Refusal) (made : A) → first ≡ None → (◌≡◌ {A = Result A Stop} (Ok made) (Err (stop.Refused q))) ↔ (first ≡ Some q)
made_fine q first made none = (λ e. absurd (never e), λ e. some_absurd q (sym none ∙ e))
  where
    never : ◌≡◌ {A = Result _ Stop} (Ok made) (Err (stop.Refused q)) → ⊥
    never e = cc

pub no_memory : {A : Type 0} (q : Refusal) (first : Option Refusal) (made : Result A Stop) (y : Stop) → made ≡ Err y → y ≡ stop.Memory → first ≡ None → (made ≡ Err (stop.Refused q)) ↔ (first ≡ Some q)
no_memory q first made y is same none = (λ e. absurd (never (sym same ∙ ap (err_or y) (sym is ∙ e))), λ e. some_absurd q (sym none ∙ e))
  where
    never : stop.Memory ≡ stop.Refused q → ⊥
    never e = cc

pub made_again : {A B X : Type 0} (q : Refusal) (a : A) (b : B) → (◌≡◌ {A = Result A Stop} (Ok a) (Err (stop.Refused q))) ↔ X → (◌≡◌ {A = Result B Stop} (Ok b) (Err (stop.Refused q))) ↔ X
made_again q a b h = (λ e. absurd (never b e), λ x. absurd (never a (h.1 x)))
  where
    never : {C : Type 0} (c : C) → ◌≡◌ {A = Result C Stop} (Ok c) (Err (stop.Refused q)) → ⊥
    never c e = cc
