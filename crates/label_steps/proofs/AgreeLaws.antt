-- What is assigned twice along straight paths rests on what calls assign, and not on how that is computed.
use Rattle.std.proofs.Common.{◌≡◌, List, [], ◌∷◌, ◌++◌, Bool, ◌||◌, Option, Some, None, reverse, refl, sym, ap, ◌∙◌}
use Rattle.std.specs.List.{flat_map}
use Rattle.std.specs.Option.{option_or}
use Rattle.std.proofs.lemmas.Grind.{flat_map-append}
use Rattle.tla_token.specs.declared.place.Place.{Place}
use Rattle.tla_token.specs.declared.rule.Rule.TheVariants.{AssignTwice}
use Rattle.tla_token.specs.declared.rule.Refusal.{Refusal}
use Rattle.tla_tree.specs.Tree.{Word, Trees}
use Rattle.pcal_tree.specs.Algorithm.{Name, Statement, assign, await, print, assert, skip, branch, either, with, while, goto, macro, call, return, Statements, done, then, mark, Branches, no_branches, or, Procedure, Process, Main, alone, processes, Algorithm}
use Rattle.pcal_tree.specs.Offences.{offence_if, first}
use Rattle.pcal_tree.specs.OffencesSteps.{inside, Visit, effect_with, call_effect, effects_in, procedure_effects, outer_effects}
use Rattle.pcal_tree.specs.Paths.{Effect, Effects, Path}
use Rattle.pcal_tree.specs.Run.{Partner, return_partner, partner_of}
use Rattle.pcal_tree.specs.Variables.{declared}
use Rattle.pcal_tree.specs.laws.MacroSummaries.{summaries, summary_effect}
use Rattle.pcal_tree.proofs.EffectLaws.{Alike, AgreeAll, effects_agree}
use Rattle.pcal_tree.proofs.SetLaws.{Agree}
use Rattle.pcal_tree.proofs.SummaryLaws.{Agreeing, calls_agree}
use Rattle.label_jumps.specs.Parted.{missing_in}
use Rattle.label_steps.specs.AssignedTwice.{twice_at, assigned_twice}
use Rattle.label_steps.specs.MissingLabels.{missing_labels}
use Rattle.label_steps.specs.StraightPaths.{straight_one, straight, straight_some, straight_inside, straight_visits, straight_in_some, straight_twice, straight_in_main, straight_offences}
use Rattle.label_steps.proofs.DueLaws.{missing_first}
use Rattle.label_steps.proofs.StraightLaws.{twice_straight}
use Rattle.label_steps.proofs.WalksLaws.{alike_joined, assigned_alike, has_alike}

module _ (E F : Effects) (a : AgreeAll E F) where
  mutual
    one_alike : (st : Statement) (p q : Path) → Alike p q → Alike (straight_one E st p) (straight_one F st q)
    one_alike (branch e b c) p q k = alike_joined (straight E b p) (straight F b q) (straight E c p) (straight F c q) (list_alike b p q k) (list_alike c p q k)
    one_alike (either bs) p q k = some_alike bs p q k
    one_alike (with bs b) p q k = list_alike b p q k
    one_alike (while e b) p q k = k
    one_alike (goto n) p q k = tt
    one_alike (call n ts) p q k = tt
    one_alike return p q k = tt
    one_alike (assign ms) p q k = assigned_alike (E (assign ms)).variables (F (assign ms)).variables p q (a (assign ms)).0 k
    one_alike (await e) p q k = assigned_alike (E (await e)).variables (F (await e)).variables p q (a (await e)).0 k
    one_alike (print e) p q k = assigned_alike (E (print e)).variables (F (print e)).variables p q (a (print e)).0 k
    one_alike (assert e) p q k = assigned_alike (E (assert e)).variables (F (assert e)).variables p q (a (assert e)).0 k
    one_alike skip p q k = assigned_alike (E skip).variables (F skip).variables p q (a skip).0 k
    one_alike (macro m ts) p q k = assigned_alike (E (macro m ts)).variables (F (macro m ts)).variables p q (a (macro m ts)).0 k

    list_alike : (b : Statements) (p q : Path) → Alike p q → Alike (straight E b p) (straight F b q)
    list_alike done p q k = k
    list_alike (mark n m rest) p q k = k
    list_alike (then at st rest) p q k = list_alike rest (straight_one E st p) (straight_one F st q) (one_alike st p q k)

    some_alike : (bs : Branches) (p q : Path) → Alike p q → Alike (straight_some E bs p) (straight_some F bs q)
    some_alike no_branches p q k = tt
    some_alike (or b bs) p q k = alike_joined (straight E b p) (straight F b q) (straight_some E bs p) (straight_some F bs q) (list_alike b p q k) (some_alike bs p q k)

  with_agree : (st : Statement) (j : Partner) → Agree (effect_with E st j) (effect_with F st j)
  with_agree (call p ts) (return_partner at) = a return
  with_agree st j = a st

  here : (p q : Path) → Alike p q → (at : Place) (st : Statement) (j : Partner)
      → twice_at E (record { before = inside p; place = at; statement = st; partner = j }) ≡ twice_at F (record { before = inside q; place = at; statement = st; partner = j })
  here p q k at st j =
      ap (λ (b : Bool). offence_if b AssignTwice at) (λ i. (with_agree st j).1 i || has_alike p q (effect_with E st j).variables (effect_with F st j).variables k (with_agree st j).0 i)

  two : (vs ws us xs : List Visit) → flat_map (twice_at E) vs ≡ flat_map (twice_at F) us → flat_map (twice_at E) ws ≡ flat_map (twice_at F) xs → flat_map (twice_at E) (vs ++ ws) ≡ flat_map (twice_at F) (us ++ xs)
  two vs ws us xs h k = flat_map-append (twice_at E) vs ws ∙ (λ i. h i ++ k i) ∙ sym (flat_map-append (twice_at F) us xs)

  mutual
    inside_twice : (st : Statement) (p q : Path) → Alike p q → flat_map (twice_at E) (straight_inside E p st) ≡ flat_map (twice_at F) (straight_inside F q st)
    inside_twice (branch e b c) p q k = two (straight_visits E p b) (straight_visits E p c) (straight_visits F q b) (straight_visits F q c) (list_twice b p q k) (list_twice c p q k)
    inside_twice (either bs) p q k = some_twice bs p q k
    inside_twice (with bs b) p q k = list_twice b p q k
    inside_twice (while e b) p q k = list_twice b p q k
    inside_twice (assign ms) p q k = refl
    inside_twice (await e) p q k = refl
    inside_twice (print e) p q k = refl
    inside_twice (assert e) p q k = refl
    inside_twice skip p q k = refl
    inside_twice (goto n) p q k = refl
    inside_twice (macro m ts) p q k = refl
    inside_twice (call n ts) p q k = refl
    inside_twice return p q k = refl

    list_twice : (b : Statements) (p q : Path) → Alike p q → straight_twice E p b ≡ straight_twice F q b
    list_twice done p q k = refl
    list_twice (mark n m rest) p q k = list_twice rest (Some []) (Some []) (λ f. refl)
    list_twice (then at st rest) p q k =
        let more =
        two (straight_inside E p st) (straight_visits E (straight_one E st p) rest) (straight_inside F q st) (straight_visits F (straight_one F st q) rest) (inside_twice st p q k)
        (list_twice rest (straight_one E st p) (straight_one F st q) (one_alike st p q k)) in
        λ i. here p q k at.first st (partner_of rest) i ++ more i

    some_twice : (bs : Branches) (p q : Path) → Alike p q → flat_map (twice_at E) (straight_in_some E p bs) ≡ flat_map (twice_at F) (straight_in_some F q bs)
    some_twice no_branches p q k = refl
    some_twice (or b bs) p q k = two (straight_visits E p b) (straight_in_some E p bs) (straight_visits F q b) (straight_in_some F q bs) (list_twice b p q k) (some_twice bs p q k)

each_alike : {X Y : Type 0} (f g : X → List Y) → ((x : X) → f x ≡ g x) → (xs : List X) → flat_map f xs ≡ flat_map g xs
each_alike f g e [] = refl
each_alike f g e (x ∷ xs) = λ i. e x i ++ each_alike f g e xs i

module _ (C D : Word → Trees → Effect) (h : Agreeing C D) where
  body_alike : (p : Option Name) (xs : List Word) (b : Statements) → straight_twice (effects_in C p xs) (Some []) b ≡ straight_twice (effects_in D p xs) (Some []) b
  body_alike p xs b = list_twice (effects_in C p xs) (effects_in D p xs) (effects_agree C D h p xs) b (Some []) (Some []) (λ f. refl)

  main_alike : (m : Main) → straight_in_main C m ≡ straight_in_main D m
  main_alike (alone b) = body_alike None [] b
  main_alike (processes ps) = each_alike (λ (p : Process). straight_twice (outer_effects C) (Some []) p.body) (λ p. straight_twice (outer_effects D) (Some []) p.body) (λ p. body_alike None [] p.body) ps

  pub straight_alike : (a : Algorithm) → straight_offences C a ≡ straight_offences D a
  straight_alike a = λ i.
      each_alike (λ (p : Procedure). straight_twice (procedure_effects C p) (Some []) p.body) (λ p. straight_twice (procedure_effects D p) (Some []) p.body)
      (λ p. body_alike (Some p.name) (declared (p.params ++ p.variables)) p.body) a.procedures i
      ++ main_alike a.main i

-- ---- of an algorithm

pub none_first : (xs : List Refusal) → first xs ≡ None → xs ≡ []
none_first [] e = refl
none_first (x ∷ xs) e = cc

pub due_steps : (C : Word → Trees → Effect) (a : Algorithm) (r : Option Refusal) (x : Refusal) → r ≡ first (missing_labels a) → r ≡ Some x → r ≡ first (missing_in C a)
due_steps C a r x e h =
    h ∙ ap (λ (o : Option Refusal). option_or o (first (assigned_twice C a))) (sym h ∙ e) ∙ sym (missing_first C a)

pub no_due : (a : Algorithm) (r : Option Refusal) → r ≡ first (missing_labels a) → r ≡ None → missing_labels a ≡ []
no_due a r e h = none_first (missing_labels a) (sym e ∙ h)

pub twice_steps : (a : Algorithm) (d r : Option Refusal) → d ≡ first (missing_labels a) → d ≡ None → r ≡ first (straight_offences (summary_effect (summaries (reverse a.macros))) a) → r ≡ first (missing_in (call_effect (reverse a.macros)) a)
twice_steps a d r e h t =
    t ∙ ap first (sym (straight_alike (call_effect (reverse a.macros)) (summary_effect (summaries (reverse a.macros))) (calls_agree (reverse a.macros)) a))
    ∙ ap first (sym (twice_straight (call_effect (reverse a.macros)) a (no_due a d e h)))
    ∙ ap (λ (o : Option Refusal). option_or o (first (assigned_twice (call_effect (reverse a.macros)) a))) (sym h ∙ e) ∙ sym (missing_first (call_effect (reverse a.macros)) a)
