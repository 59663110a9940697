-- What was read is what is told.
use Rattle.std.specs.Prelude.{IfSome}
use Rattle.std.proofs.Common.{◌≡◌, ℕ, List, Option, Some, None, ◌∙◌, refl, sym, subst}
use Rattle.std.proofs.lemmas.Option.{same_Some}
use Rattle.outer_io.specs.Outer.{Texts, HasText, HasNoText, Tells, told_at}
use Rattle.run_answer.specs.Chosen.{Files, Which, of_module, of_config, of_third}
use Rattle.running.specs.Names.{Names, name_of, OfTexts}
use Rattle.running.specs.Reading.{text_of}

-- ---- one text

-- a fact of the text that was read is one of the text that is told
pub told : (ts : Option Texts) (name v : List ℕ) (P : List ℕ → Type 0) → HasText ts name v → P v → Tells ts name P
told None name v P h p = tt
told (Some ts) name v P h p = rw h p

-- a text that was read is there
pub not_lacking : (ts : Option Texts) (name v : List ℕ) → HasText ts name v → HasNoText ts name → ⊥
not_lacking None name v h k = k
not_lacking (Some ts) name v h k = (let e : Some v ≡ None = sym h ∙ k in absurd cc)

-- what holds of a text that is told
pub found : (ts : Option Texts) (name : List ℕ) (P : List ℕ → Type 0) → ((x : List ℕ) → told_at ts name ≡ Some x → P x) → Tells ts name P
found ts name P h = by (told_at ts name) refl
  where
    by : (o : Option (List ℕ)) → told_at ts name ≡ o → IfSome o P
    by None e = tt
    by (Some x) e = h x e

-- it holds of this one
pub told_fact : (ts : Option Texts) (name x : List ℕ) (P : List ℕ → Type 0) → told_at ts name ≡ Some x → Tells ts name P → P x
told_fact ts name x P e t = subst (λ (o : Option (List ℕ)). IfSome o P) e t

-- the text that was read is the one that is told
pub told_one : (ts : Option Texts) (name v x : List ℕ) → HasText ts name v → told_at ts name ≡ Some x → v ≡ x
told_one None name v x h e = absurd cc
told_one (Some ts) name v x h e = same_Some v x (sym h ∙ e)

-- a text that is told is there
pub told_there : (ts : Option Texts) (name x : List ℕ) → told_at ts name ≡ Some x → HasNoText ts name → ⊥
told_there None name x e k = k
told_there (Some ts) name x e k = (let h : Some x ≡ None = sym e ∙ k in absurd cc)

-- ---- three texts

-- each of them is told
abbrev pub AreTold : Option Texts → Names → Files → Type 0
AreTold ts n f = (w : Which) → told_at ts (name_of n w) ≡ Some (text_of f w)

of_three : (ts : Option Texts) (n : Names) (x y z : List ℕ) → told_at ts n.source ≡ Some x → told_at ts n.config ≡ Some y → told_at ts n.third ≡ Some z
    → AreTold ts n (record { source = x; config = y; third = z })
of_three ts n x y z p q r of_module = p
of_three ts n x y z p q r of_config = q
of_three ts n x y z p q r of_third = r

pub of_told : (ts : Option Texts) (n : Names) (P : Files → Type 0) → ((f : Files) → AreTold ts n f → P f) → OfTexts ts n P
of_told ts n P h =
    found ts n.source _ (λ x p. found ts n.config _ (λ y q. found ts n.third _ (λ z r. h (record { source = x; config = y; third = z }) (of_three ts n x y z p q r))))

-- a fact of the texts that were read is one of the texts that are told
pub of_read : (ts : Option Texts) (n : Names) (f : Files) (P : Files → Type 0) → ((w : Which) → HasText ts (name_of n w) (text_of f w)) → P f → OfTexts ts n P
of_read ts n f P h p = told ts n.source f.source _ (h of_module) (told ts n.config f.config _ (h of_config) (told ts n.third f.third _ (h of_third) p))
