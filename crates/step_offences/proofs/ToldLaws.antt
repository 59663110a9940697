-- Offences put behind those that were found, where something is told.
use Rattle.std.proofs.Common.{◌≡◌, List, [], ◌++◌, Bool, true, false, ◌||◌, Option, Some, None, Result, Ok, Err, IfOk, OnOk, Vec, Global, refl, sym, ap, ◌∙◌, subst, cond, append_assoc, append-nil}
use Rattle.std.specs.List.{flat_map}
use Rattle.std.specs.Option.{option_map}
use Rattle.std.proofs.lemmas.Grind.{flat_map-append}
use Rattle.tla_token.specs.declared.rule.Rule.TheVariants.{WhileLabel, AssignTwice}
use Rattle.tla_token.specs.declared.rule.Refusal.{Refusal}
use Rattle.pcal_tree.specs.Algorithm.{Span, Statement}
use Rattle.pcal_tree.specs.Offences.{offence_if}
use Rattle.pcal_tree.specs.OffencesSteps.{Visit, due_offence, while_offence, effect_with, visits_inside, offences_at}
use Rattle.pcal_tree.specs.Paths as paths
use Rattle.pcal_tree.specs.Paths.{Effects, Effect, nothing, has_assigned}
use Rattle.pcal_tree.specs.Run.{Partner}
use Rattle.label_steps.specs.WaysIn.{standing, visits_one}
use Rattle.added_labels.proofs.SightLaws.{never_assigned}
use Rattle.step_offences.specs.declared.steps.Spot.{Spot}
use Rattle.step_offences.specs.Stepping.{Told, is_told, told, Tells, TellsVisits, here}

-- ---- what is told

abbrev is_there : Option (List Refusal) → Bool
is_there None = false
is_there (Some rs) = true

told_there : (m : Told) → is_told m ≡ is_there (told m)
told_there None = refl
told_there (Some rs) = refl

still_there : (o : Option (List Refusal)) (rs : List Refusal) → is_there (option_map (λ (ms : List Refusal). ms ++ rs) o) ≡ is_there o
still_there None rs = refl
still_there (Some ms) rs = refl

-- more is told where something was
pub told_still : (m n : Told) (rs : List Refusal) → Tells m n rs → is_told m ≡ true → is_told n ≡ true
told_still m n rs h t = told_there n ∙ ap is_there h ∙ still_there (told m) rs ∙ sym (told_there m) ∙ t

pub tells_none : (m : Told) → Tells m m []
tells_none None = refl
tells_none (Some rs) = ap (λ (ms : List Refusal). Some ms) (sym (append-nil rs.items))

pub tells_then : (a b c : Told) (xs ys : List Refusal) → Tells a b xs → Tells b c ys → Tells a c (xs ++ ys)
tells_then a b c xs ys h k = k ∙ ap (option_map (λ (ms : List Refusal). ms ++ ys)) h ∙ both (told a)
  where
    both : (o : Option (List Refusal)) → option_map (λ (ms : List Refusal). ms ++ ys) (option_map (λ (ms : List Refusal). ms ++ xs) o) ≡ option_map (λ (ms : List Refusal). ms ++ (xs ++ ys)) o
    both None = refl
    both (Some ms) = ap (λ (rs : List Refusal). Some rs) (append_assoc ms xs ys)

-- what is told in a list of its own
pub told_list : (n : Told) (l : Vec Refusal Global) (xs : List Refusal) → told n ≡ Some xs → n ≡ Some l → l.items ≡ xs
told_list n l xs h e = by (sym (ap told e) ∙ h)
  where
    by : Some l.items ≡ Some xs → l.items ≡ xs
    by c = cc

pub told_none : {X : Type 0} (n : Told) (xs : List Refusal) → told n ≡ Some xs → n ≡ None → X
told_none {X} n xs h e = by (sym (ap told e) ∙ h)
  where
    by : None ≡ Some xs → X
    by c = absurd cc

-- what is said of a value is said where there is one
pub ok_then : {X F : Type 0} (P : X → Type 0) (Q : Type 0) (r : Result X F) → ((x : X) → P x → Q) → IfOk r P → OnOk r Q
ok_then P Q (Ok x) h p = h x p
ok_then P Q (Err e) h p = tt

-- ---- what statements offend

module _ (E : Effects) where
  pub visits_none : (m : Told) → TellsVisits E m m []
  visits_none m = tells_none m

  pub visits_then : (m n o : Told) (vs ws : List Visit) → TellsVisits E m n vs → TellsVisits E n o ws → TellsVisits E m o (vs ++ ws)
  visits_then m n o vs ws g h =
      subst (Tells m o) (sym (flat_map-append (offences_at E) vs ws)) (tells_then m n o (flat_map (offences_at E) vs) (flat_map (offences_at E) ws) g h)

  -- where nothing is told, it is all one what is offended
  pub visits_as : (m n : Told) (vs ws : List Visit) → (is_told m ≡ true → vs ≡ ws) → TellsVisits E m n vs → TellsVisits E m n ws
  visits_as None n vs ws e h = h
  visits_as (Some rs) n vs ws e h = subst (λ (us : List Visit). TellsVisits E (Some rs) n us) (e refl) h

  -- a statement, and those in it
  pub one_told : (k m n : Told) (s : Spot) (loops twice : Bool) (p : paths.Path) (at : Span) (st : Statement) (j : Partner) → offence_if loops WhileLabel at.first ≡ while_offence st at.first
      → twice ≡ ((effect_with E st j).twice || has_assigned p (effect_with E st j).variables) → Tells k m (here s loops twice at.first)
      → TellsVisits E m n (visits_inside E (standing s.labelled s.due p) st) → TellsVisits E k n (visits_one E (standing s.labelled s.due p) at st j)
  one_told k m n s loops twice p at st j e t h g =
      tells_then k m n _ (flat_map (offences_at E) (visits_inside E (standing s.labelled s.due p) st))
      (subst (Tells k m) (λ i. cond s.labelled [] (due_offence s.due at.first ++ e i) ++ offence_if (t i) AssignTwice at.first) h) g

  -- where it assigns nothing itself
  pub around_told : (k m n : Told) (s : Spot) (loops : Bool) (p : paths.Path) (at : Span) (st : Statement) (j : Partner) → offence_if loops WhileLabel at.first ≡ while_offence st at.first
      → effect_with E st j ≡ nothing → Tells k m (here s loops false at.first)
      → TellsVisits E m n (visits_inside E (standing s.labelled s.due p) st) → TellsVisits E k n (visits_one E (standing s.labelled s.due p) at st j)
  around_told k m n s loops p at st j e none = one_told k m n s loops false p at st j e (sym (ap (λ (d : Effect). d.twice || has_assigned p d.variables) none ∙ never_assigned p))
