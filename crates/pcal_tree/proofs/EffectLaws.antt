-- Offences rest on what calls assign, and not on how that is computed.
use Rattle.std.proofs.Common.{◌≡◌, List, [], ◌∷◌, ◌++◌, Bool, true, false, ◌||◌, cond, Option, Some, None, reverse, refl, sym, ◌∙◌, ap}
use Rattle.std.specs.Option.{option_map}
use Rattle.std.specs.List.{flat_map}
use Rattle.std.proofs.lemmas.Grind.{flat_map-append}
use Rattle.tla_token.specs.declared.place.Place.{Place}
use Rattle.tla_token.specs.declared.rule.Rule.{Rule}
use Rattle.tla_token.specs.declared.rule.Rule.TheVariants.{FirstLabel, AssignTwice}
use Rattle.tla_token.specs.declared.rule.Refusal.{Refusal}
use Rattle.tla_tree.specs.Tree.{Word, Trees}
use Rattle.pcal_tree.specs.Algorithm.{Name, Statement, assign, await, print, assert, skip, branch, either, with, while, goto, macro, call, return, Statements, done, then, mark, Branches, no_branches, or, Procedure, Main, alone, processes, Algorithm}
use Rattle.pcal_tree.specs.Variables.{declared}
use Rattle.pcal_tree.specs.Offences.{offence_if}
use Rattle.pcal_tree.specs.Run.{Partner, return_partner, partner_of}
use Rattle.pcal_tree.specs.Paths.{Effect, Effects, Path, joined, again, rounds, after_one, after, after_some, has_assigned}
use Rattle.pcal_tree.specs.OffencesSteps.{Before, due_after, inside, Visit, visits_inside, visits, visits_of_some, missing_label, effect_with, offences_at, call_effect, effects_in, missing_in_body}
use Rattle.pcal_tree.specs.OffencesLabels.{misplaced, of_macro, of_procedure, of_body, of_main, label_offences, label_offences_by}
use Rattle.pcal_tree.specs.laws.MacroSummaries.{summaries, summary_effect}
use Rattle.pcal_tree.proofs.SetLaws.{Same, same_both, meets_same, Agree}
use Rattle.pcal_tree.proofs.SummaryLaws.{Agreeing, calls_agree}

-- ---- paths

abbrev pub Alike : Path → Path → Type 0
Alike None None = Unit {0}
Alike (Some xs) (Some ys) = Same xs ys
Alike _ _ = ⊥

alike_joined : (p q o r : Path) → Alike p q → Alike o r → Alike (joined p o) (joined q r)
alike_joined None None o r h k = k
alike_joined (Some xs) (Some ys) None None h k = h
alike_joined (Some xs) (Some ys) (Some us) (Some vs) h k = same_both xs ys us vs h k
alike_joined (Some xs) (Some ys) None (Some vs) h k = absurd k
alike_joined (Some xs) (Some ys) (Some us) None h k = absurd k
alike_joined None (Some ys) o r h k = absurd h
alike_joined (Some xs) None o r h k = absurd h

alike_again : (f g : Path → Path) → ((p q : Path) → Alike p q → Alike (f p) (g q)) → (p q : Path) → Alike p q → Alike (again f p) (again g q)
alike_again f g h None None k = k
alike_again f g h (Some xs) (Some ys) k = h (Some xs) (Some ys) k
alike_again f g h None (Some ys) k = absurd k
alike_again f g h (Some xs) None k = absurd k

alike_rounds : (f g : Path → Path) → ((p q : Path) → Alike p q → Alike (f p) (g q)) → (p q : Path) → Alike p q → Alike (rounds joined f p) (rounds joined g q)
alike_rounds f g h None None k = alike_again f g h (f None) (g None) (h None None k)
alike_rounds f g h (Some xs) (Some ys) k = alike_joined (f (Some xs)) (g (Some ys)) (Some xs) (Some ys) (h (Some xs) (Some ys) k) k
alike_rounds f g h None (Some ys) k = absurd k
alike_rounds f g h (Some xs) None k = absurd k

alike_chosen : (l : Bool) (p q o r : Path) → Alike p q → Alike o r → Alike (cond l p o) (cond l q r)
alike_chosen true p q o r h k = h
alike_chosen false p q o r h k = k

alike_assigned : (e f : Effect) → Agree e f → (p q : Path) → Alike p q → Alike (option_map (λ xs. e.variables ++ xs) p) (option_map (λ xs. f.variables ++ xs) q)
alike_assigned e f a None None h = h
alike_assigned e f a (Some xs) (Some ys) h = same_both e.variables f.variables xs ys a.0 h
alike_assigned e f a None (Some ys) h = absurd h
alike_assigned e f a (Some xs) None h = absurd h

abbrev pub AgreeAll : Effects → Effects → Type 0
AgreeAll E F = (st : Statement) → Agree (E st) (F st)

mutual
  pub alike_after_one : (E F : Effects) → AgreeAll E F → (st : Statement) (l : Bool) (p q : Path) → Alike p q → Alike (after_one E st l p) (after_one F st l q)
  alike_after_one E F a (branch e b c) l p q k =
      alike_joined (after E b false p) (after F b false q) (after E c false p) (after F c false q) (alike_after E F a b false p q k) (alike_after E F a c false p q k)
  alike_after_one E F a (either bs) l p q k = alike_after_some E F a bs p q k
  alike_after_one E F a (with bs b) l p q k = alike_after E F a b false p q k
  alike_after_one E F a (while e b) l p q k =
      alike_chosen l p q (rounds joined (λ r. after E b false r) p) (rounds joined (λ r. after F b false r) q) k
      (alike_rounds (λ r. after E b false r) (λ r. after F b false r) (λ r s c. alike_after E F a b false r s c) p q k)
  alike_after_one E F a (goto n) l p q k = tt
  alike_after_one E F a (call n ts) l p q k = tt
  alike_after_one E F a return l p q k = tt
  alike_after_one E F a (assign ms) l p q k = alike_assigned (E (assign ms)) (F (assign ms)) (a (assign ms)) p q k
  alike_after_one E F a (await e) l p q k = alike_assigned (E (await e)) (F (await e)) (a (await e)) p q k
  alike_after_one E F a (print e) l p q k = alike_assigned (E (print e)) (F (print e)) (a (print e)) p q k
  alike_after_one E F a (assert e) l p q k = alike_assigned (E (assert e)) (F (assert e)) (a (assert e)) p q k
  alike_after_one E F a skip l p q k = alike_assigned (E skip) (F skip) (a skip) p q k
  alike_after_one E F a (macro m ts) l p q k = alike_assigned (E (macro m ts)) (F (macro m ts)) (a (macro m ts)) p q k

  alike_after : (E F : Effects) → AgreeAll E F → (b : Statements) (l : Bool) (p q : Path) → Alike p q → Alike (after E b l p) (after F b l q)
  alike_after E F a done l p q k = k
  alike_after E F a (mark n m rest) l p q k = alike_after E F a rest true (Some []) (Some []) (λ f. refl)
  alike_after E F a (then at st rest) l p q k =
      alike_after E F a rest false (after_one E st l p) (after_one F st l q) (alike_after_one E F a st l p q k)

  alike_after_some : (E F : Effects) → AgreeAll E F → (bs : Branches) (p q : Path) → Alike p q → Alike (after_some E bs p) (after_some F bs q)
  alike_after_some E F a no_branches p q k = tt
  alike_after_some E F a (or b bs) p q k =
      alike_joined (after E b false p) (after F b false q) (after_some E bs p) (after_some F bs q) (alike_after E F a b false p q k) (alike_after_some E F a bs p q k)

-- ---- offences

alike_assign : (p q : Path) (e f : Effect) → Alike p q → Agree e f → (e.twice || has_assigned p e.variables) ≡ (f.twice || has_assigned q f.variables)
alike_assign None None e f k a = ap (λ (b : Bool). b || false) a.1
alike_assign (Some xs) (Some ys) e f k a = λ i. a.1 i || meets_same xs ys e.variables f.variables k a.0 i
alike_assign None (Some ys) e f k a = absurd k
alike_assign (Some xs) None e f k a = absurd k

abbrev pub At : Bool → Option Rule → Path → Before
At l r p = record { labelled = l; due = r; path = p }

abbrev pub Listed : Effects → List Visit → List Refusal
Listed E vs = flat_map (offences_at E) vs

listed_both : (E F : Effects) (vs ws us xs : List Visit) → Listed E vs ≡ Listed F us → Listed E ws ≡ Listed F xs → Listed E (vs ++ ws) ≡ Listed F (us ++ xs)
listed_both E F vs ws us xs h k = flat_map-append (offences_at E) vs ws ∙ (λ i. h i ++ k i) ∙ sym (flat_map-append (offences_at F) us xs)

with_alike : (E F : Effects) → AgreeAll E F → (st : Statement) (j : Partner) → Agree (effect_with E st j) (effect_with F st j)
with_alike E F a (call p ts) (return_partner at) = a return
with_alike E F a st j = a st

pub here_alike : (E F : Effects) → AgreeAll E F → (l : Bool) (r : Option Rule) (p q : Path) → Alike p q → (at : Place) (st : Statement) (j : Partner)
    → offences_at E (record { before = At l r p; place = at; statement = st; partner = j }) ≡ offences_at F (record { before = At l r q; place = at; statement = st; partner = j })
here_alike E F a l r p q k at st j =
    ap (λ (b : Bool). missing_label (record { before = At l r p; place = at; statement = st; partner = j }) ++ offence_if b AssignTwice at)
    (alike_assign p q (effect_with E st j) (effect_with F st j) k (with_alike E F a st j))

mutual
  pub inside_alike : (E F : Effects) → AgreeAll E F → (st : Statement) (l : Bool) (r : Option Rule) (p q : Path) → Alike p q
      → Listed E (visits_inside E (At l r p) st) ≡ Listed F (visits_inside F (At l r q) st)
  inside_alike E F a (branch e b c) l r p q k =
      listed_both E F (visits E (inside p) b) (visits E (inside p) c) (visits F (inside q) b) (visits F (inside q) c)
      (all_alike E F a b false None p q k) (all_alike E F a c false None p q k)
  inside_alike E F a (either bs) l r p q k = some_alike E F a bs p q k
  inside_alike E F a (with bs b) l r p q k = all_alike E F a b false None p q k
  inside_alike E F a (while e b) l r p q k =
      all_alike E F a b false None (after_one E (while e b) l p) (after_one F (while e b) l q) (alike_after_one E F a (while e b) l p q k)
  inside_alike E F a (assign ms) l r p q k = refl
  inside_alike E F a (await e) l r p q k = refl
  inside_alike E F a (print e) l r p q k = refl
  inside_alike E F a (assert e) l r p q k = refl
  inside_alike E F a skip l r p q k = refl
  inside_alike E F a (goto n) l r p q k = refl
  inside_alike E F a (macro m ts) l r p q k = refl
  inside_alike E F a (call n ts) l r p q k = refl
  inside_alike E F a return l r p q k = refl

  all_alike : (E F : Effects) → AgreeAll E F → (b : Statements) (l : Bool) (r : Option Rule) (p q : Path) → Alike p q
      → Listed E (visits E (At l r p) b) ≡ Listed F (visits F (At l r q) b)
  all_alike E F a done l r p q k = refl
  all_alike E F a (mark n m rest) l r p q k = all_alike E F a rest true None (Some []) (Some []) (λ f. refl)
  all_alike E F a (then at st rest) l r p q k =
      let more : Listed E (visits_inside E (At l r p) st ++ visits E (At false (due_after st (partner_of rest)) (after_one E st l p)) rest) ≡ Listed F (visits_inside F (At l r q) st ++ visits F (At false (due_after st (partner_of rest)) (after_one F st l q)) rest) =
      listed_both E F (visits_inside E (At l r p) st) (visits E (At false (due_after st (partner_of rest)) (after_one E st l p)) rest)
      (visits_inside F (At l r q) st) (visits F (At false (due_after st (partner_of rest)) (after_one F st l q)) rest)
      (inside_alike E F a st l r p q k)
      (all_alike E F a rest false (due_after st (partner_of rest)) (after_one E st l p) (after_one F st l q) (alike_after_one E F a st l p q k)) in
      λ i. here_alike E F a l r p q k at.first st (partner_of rest) i ++ more i

  some_alike : (E F : Effects) → AgreeAll E F → (bs : Branches) (p q : Path) → Alike p q
      → Listed E (visits_of_some E (inside p) bs) ≡ Listed F (visits_of_some F (inside q) bs)
  some_alike E F a no_branches p q k = refl
  some_alike E F a (or b bs) p q k =
      listed_both E F (visits E (inside p) b) (visits_of_some E (inside p) bs) (visits F (inside q) b) (visits_of_some F (inside q) bs)
      (all_alike E F a b false None p q k) (some_alike E F a bs p q k)

-- ---- algorithms

pub effects_agree : (C D : Word → Trees → Effect) → Agreeing C D → (p : Option Name) (xs : List Word) → AgreeAll (effects_in C p xs) (effects_in D p xs)
effects_agree C D a None xs (macro m ts) = a m ts
effects_agree C D a (Some p) xs (macro m ts) = a m ts
effects_agree C D a None xs st = (λ f. refl, refl)
effects_agree C D a (Some p) xs st = (λ f. refl, refl)

body_alike : (C D : Word → Trees → Effect) → Agreeing C D → (p : Option Name) (xs : List Word) (b : Statements)
    → missing_in_body (effects_in C p xs) b ≡ missing_in_body (effects_in D p xs) b
body_alike C D a p xs b =
    all_alike (effects_in C p xs) (effects_in D p xs) (effects_agree C D a p xs) b false (Some FirstLabel) (Some []) (Some []) (λ f. refl)

flat_alike : {X Y : Type 0} (f g : X → List Y) → ((x : X) → f x ≡ g x) → (xs : List X) → flat_map f xs ≡ flat_map g xs
flat_alike f g e [] = refl
flat_alike f g e (x ∷ xs) = λ i. e x i ++ flat_alike f g e xs i

offences_alike : (C D : Word → Trees → Effect) → Agreeing C D → (a : Algorithm) → label_offences_by C a ≡ label_offences_by D a
offences_alike C D h a = λ i. flat_map of_macro a.macros ++ (flat_alike (of_procedure C) (of_procedure D) procedure a.procedures i ++ main a.main i)
  where
    procedure : (p : Procedure) → of_procedure C p ≡ of_procedure D p
    procedure p = ap (λ (rs : List Refusal). rs ++ misplaced false true p.body) (body_alike C D h (Some p.name) (declared (p.params ++ p.variables)) p.body)

    body : (b : Statements) → of_body C b ≡ of_body D b
    body b = ap (λ (rs : List Refusal). rs ++ misplaced false false b) (body_alike C D h None [] b)

    main : (m : Main) → of_main C m ≡ of_main D m
    main (alone b) = body b
    main (processes ps) = flat_alike (λ p. of_body C p.body) (λ p. of_body D p.body) (λ p. body p.body) ps

pub offences_by_summaries : (a : Algorithm) → label_offences a ≡ label_offences_by (summary_effect (summaries (reverse a.macros))) a
offences_by_summaries a = offences_alike (call_effect (reverse a.macros)) (summary_effect (summaries (reverse a.macros))) (calls_agree (reverse a.macros)) a
