-- The labels that are added with any root rest on what calls assign, and not on how that is computed.
use Rattle.std.proofs.Common.{◌≡◌, List, [], ◌∷◌, ◌++◌, Bool, true, false, ◌&&◌, not, Option, Some, None, reverse, refl, ◌∙◌, ap}
use Rattle.tla_token.specs.declared.rule.Rule.{Rule}
use Rattle.tla_token.specs.declared.rule.Rule.TheVariants.{FirstLabel}
use Rattle.tla_tree.specs.Tree.{Word, Trees}
use Rattle.pcal_tree.specs.Algorithm.{Span, Statement, assign, await, print, assert, skip, branch, either, with, while, goto, macro, call, return, Statements, done, then, mark, Branches, no_branches, or, Macro, Procedure, Process, Main, alone, processes, Algorithm}
use Rattle.pcal_tree.specs.Run.{Partner, partner_of}
use Rattle.pcal_tree.specs.Paths.{Effect, Effects, Path, after_one}
use Rattle.pcal_tree.specs.Variables.{declared}
use Rattle.pcal_tree.specs.OffencesSteps.{Before, due_after, inside, next, call_effect, procedure_effects, outer_effects}
use Rattle.pcal_tree.specs.Labelled.{Supply, names_after, labelled_if, inside_needs, needs_label, before, add_inside, add, add_some, add_to_macros, add_to_procedures, add_to_processes, add_to_main, typed_labels, with_labels}
use Rattle.pcal_tree.specs.Tests.{is_empty}
use Rattle.pcal_tree.specs.laws.MacroSummaries.{summaries, summary_effect}
use Rattle.pcal_tree.proofs.SummaryLaws.{Agreeing, calls_agree}
use Rattle.pcal_tree.proofs.EffectLaws.{Alike, AgreeAll, alike_after_one, At, here_alike, inside_alike, effects_agree}

needs_inside : (E F : Effects) → AgreeAll E F → (l : Bool) (r : Option Rule) (p q : Path) → Alike p q → (st : Statement)
    → inside_needs E (At l r p) st ≡ inside_needs F (At l r q) st
needs_inside E F a l r p q k (with bs b) = inside_alike E F a (with bs b) l r p q k
needs_inside E F a l r p q k st = refl

needs_alike : (E F : Effects) → AgreeAll E F → (l : Bool) (r : Option Rule) (p q : Path) → Alike p q → (at : Span) (st : Statement) (j : Partner)
    → needs_label E (At l r p) at st j ≡ needs_label F (At l r q) at st j
needs_alike E F a l r p q k at st j =
    λ i. not l && not (is_empty (here_alike E F a l r p q k at.first st j i ++ needs_inside E F a l r p q k st i))

-- a statement before others, with a label before it or none
abbrev With : {R : Type 0} → Effects → Bool → Before → Supply → Span → Statement → Statements → (Statements → Supply → R) → R
With E n b s at st rest go =
    add_inside E (before n b) (names_after n s) st (λ st' t. add E (next E (before n b) st' (partner_of rest)) t rest (λ r u. go (labelled_if n s at.first (then at st' r)) u))

mutual
  inside_added : {R : Type 0} (E F : Effects) → AgreeAll E F → (st : Statement) (l : Bool) (r : Option Rule) (p q : Path) → Alike p q
      → (s : Supply) (go to : Statement → Supply → R) → ((c : Statement) (t : Supply) → go c t ≡ to c t)
      → add_inside E (At l r p) s st go ≡ add_inside F (At l r q) s st to
  inside_added E F a (branch e b c) l r p q k s go to same =
      all_added E F a b false None p q k s _ _ (λ b' t. all_added E F a c false None p q k t _ _ (λ c' u. same (branch e b' c') u))
  inside_added E F a (either bs) l r p q k s go to same = some_added E F a bs p q k s _ _ (λ bs' t. same (either bs') t)
  inside_added E F a (while e b) l r p q k s go to same =
      all_added E F a b false None (after_one E (while e b) l p) (after_one F (while e b) l q) (alike_after_one E F a (while e b) l p q k) s _ _
      (λ b' t. same (while e b') t)
  inside_added E F a (with bs b) l r p q k s go to same = same (with bs b) s
  inside_added E F a (assign ms) l r p q k s go to same = same (assign ms) s
  inside_added E F a (await e) l r p q k s go to same = same (await e) s
  inside_added E F a (print e) l r p q k s go to same = same (print e) s
  inside_added E F a (assert e) l r p q k s go to same = same (assert e) s
  inside_added E F a skip l r p q k s go to same = same skip s
  inside_added E F a (goto n) l r p q k s go to same = same (goto n) s
  inside_added E F a (macro m ts) l r p q k s go to same = same (macro m ts) s
  inside_added E F a (call n ts) l r p q k s go to same = same (call n ts) s
  inside_added E F a return l r p q k s go to same = same return s

  all_added : {R : Type 0} (E F : Effects) → AgreeAll E F → (b : Statements) (l : Bool) (r : Option Rule) (p q : Path) → Alike p q
      → (s : Supply) (go to : Statements → Supply → R) → ((c : Statements) (t : Supply) → go c t ≡ to c t)
      → add E (At l r p) s b go ≡ add F (At l r q) s b to
  all_added E F a done l r p q k s go to same = same done s
  all_added E F a (mark n m rest) l r p q k s go to same =
      all_added E F a rest true None (Some []) (Some []) (λ f. refl) s _ _ (λ c t. same (mark n m c) t)
  all_added E F a (then at st rest) l r p q k s go to same =
      elim (needs_label E (At l r p) at st (partner_of rest)) as (λ n. With E n (At l r p) s at st rest go ≡ With F n (At l r q) s at st rest to) [
        | true ↦ inside_added E F a st true None (Some []) (Some []) (λ f. refl) (names_after true s) _ _
            (λ st' t. all_added E F a rest false (due_after st' (partner_of rest)) (after_one E st' true (Some [])) (after_one F st' true (Some []))
            (alike_after_one E F a st' true (Some []) (Some []) (λ f. refl)) t _ _ (λ c u. same (labelled_if true s at.first (then at st' c)) u))
        | false ↦ inside_added E F a st l r p q k (names_after false s) _ _
            (λ st' t. all_added E F a rest false (due_after st' (partner_of rest)) (after_one E st' l p) (after_one F st' l q)
            (alike_after_one E F a st' l p q k) t _ _ (λ c u. same (labelled_if false s at.first (then at st' c)) u))
      ] ∙ ap (λ (n : Bool). With F n (At l r q) s at st rest to) (needs_alike E F a l r p q k at st (partner_of rest))

  some_added : {R : Type 0} (E F : Effects) → AgreeAll E F → (bs : Branches) (p q : Path) → Alike p q
      → (s : Supply) (go to : Branches → Supply → R) → ((c : Branches) (t : Supply) → go c t ≡ to c t)
      → add_some E (inside p) s bs go ≡ add_some F (inside q) s bs to
  some_added E F a no_branches p q k s go to same = same no_branches s
  some_added E F a (or b bs) p q k s go to same =
      all_added E F a b false None p q k s _ _ (λ b' t. some_added E F a bs p q k t _ _ (λ bs' u. same (or b' bs') u))

-- ---- algorithms

procedures_added : {R : Type 0} (C D : Word → Trees → Effect) → Agreeing C D → (ps : List Procedure) (s : Supply)
    (go to : List Procedure → Supply → R) → ((qs : List Procedure) (t : Supply) → go qs t ≡ to qs t)
    → add_to_procedures C s ps go ≡ add_to_procedures D s ps to
procedures_added C D a [] s go to same = same [] s
procedures_added C D a (p ∷ ps) s go to same =
    all_added (procedure_effects C p) (procedure_effects D p) (effects_agree C D a (Some p.name) (declared (p.params ++ p.variables))) p.body false (Some FirstLabel) (Some []) (Some []) (λ f. refl) s _ _ (λ b t.
    procedures_added C D a ps t _ _ (λ qs u. same (record { name = p.name; params = p.params; variables = p.variables; body = b } ∷ qs) u))

processes_added : {R : Type 0} (C D : Word → Trees → Effect) → Agreeing C D → (ps : List Process) (s : Supply)
    (go to : List Process → R) → ((qs : List Process) → go qs ≡ to qs) → add_to_processes C s ps go ≡ add_to_processes D s ps to
processes_added C D a [] s go to same = same []
processes_added C D a (p ∷ ps) s go to same =
    all_added (outer_effects C) (outer_effects D) (effects_agree C D a None []) p.body false (Some FirstLabel) (Some []) (Some []) (λ f. refl) s _ _ (λ b t.
    processes_added C D a ps t _ _ (λ qs. same (record { name = p.name; fairness = p.fairness; several = p.several; identity = p.identity; variables = p.variables; body = b } ∷ qs)))

main_added : {R : Type 0} (C D : Word → Trees → Effect) → Agreeing C D → (m : Main) (s : Supply) (go : Main → R)
    → add_to_main C s m go ≡ add_to_main D s m go
main_added C D a (alone b) s go =
    all_added (outer_effects C) (outer_effects D) (effects_agree C D a None []) b false (Some FirstLabel) (Some []) (Some []) (λ f. refl) s _ _ (λ c t. refl)
main_added C D a (processes ps) s go = processes_added C D a ps s _ _ (λ qs. refl)

macros_added : {R : Type 0} (ds : List Macro) (s : Supply) (go to : List Macro → Supply → R) → ((es : List Macro) (t : Supply) → go es t ≡ to es t)
    → add_to_macros s ds go ≡ add_to_macros s ds to
macros_added ds s go to same = λ i. add_to_macros s ds (λ es t. same es t i)

abbrev Summed : List Macro → Word → Trees → Effect
Summed ms = summary_effect (summaries ms)

pub with_labels_alike : (root : Word) (a : Algorithm) → with_labels call_effect root a ≡ with_labels Summed root a
with_labels_alike root a =
    macros_added a.macros (record { root = root; typed = typed_labels a; from = 1 }) _ _ (λ ms s.
    procedures_added (call_effect (reverse ms)) (Summed (reverse ms)) (calls_agree (reverse ms)) a.procedures s _ _ (λ ps t.
    main_added (call_effect (reverse ms)) (Summed (reverse ms)) (calls_agree (reverse ms)) a.main t (λ m.
    record { name = a.name; fair = a.fair; globals = a.globals; definitions = a.definitions; macros = ms; procedures = ps; main = m })))
