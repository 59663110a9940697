-- Labels that are added change no variable; so where nothing is wrong with a file, its algorithm has as few as the limits allow, labels added or not.
use Rattle.std.proofs.Common.{◌≡◌, ℕ, suc, ◌≤◌, length, List, [], ◌∷◌, ◌++◌, reverse, Bool, true, false, ◌||◌, ◌&&◌, cond, codes, Some, None, Option, refl, sym, ap, subst, ◌∙◌}
use Rattle.std.specs.List.{flat_map}
use Rattle.std.proofs.lemmas.Grind.{flat_map-append}
use Rattle.tla_token.specs.declared.rule.Refusal.{Refusal}
use Rattle.tla_token.specs.declared.rule.Rule.TheVariants.{FirstLabel}
use Rattle.tla_token.specs.Limits.{most_variables}
use Rattle.tla_tree.specs.Tree.{Word, Name, Trees}
use Rattle.tla_value.specs.Outside.{Outside}
use Rattle.pcal_tree.specs.Algorithm.{Statement, assign, await, print, assert, skip, branch, either, with, while, goto, macro, call, return, Statements, done, then, mark, Branches, no_branches, or, locals, Macro, Procedure, Process, Main, alone, processes, Routine, procedure_routine, process_routine, numbered, first_procedure, first_process, procedure_routines, main_routines, Algorithm}
use Rattle.pcal_tree.specs.Labelled.{Supply, names_after, labelled_if, needs_label, before, add_inside, add, add_some, add_to_macros, add_to_procedures, add_to_processes, add_to_main, typed_labels, with_labels, is_alone, labelled}
use Rattle.pcal_tree.specs.OffencesCounts.{variable_names, count_offences}
use Rattle.pcal_tree.specs.OffencesNames.{names_of}
use Rattle.pcal_tree.specs.OffencesSteps.{Before, at_label, at_first, inside, next, call_effect, procedure_effects, outer_effects}
use Rattle.pcal_tree.specs.Paths.{Effect, Effects, nothing, after_one}
use Rattle.pcal_tree.specs.Run.{partner_of}
use Rattle.pcal_tree.specs.Tests.{is_empty}
use Rattle.pcal_tree.specs.Variables.{vars}
use Rattle.pcal_tree.proofs.CountLimits.{few_variables}
use Rattle.module_tree.specs.TextFront.{Text}
use Rattle.action_builder.specs.WrittenNames.{with_names}
use Rattle.promise.specs.Headline.{Stands}
use Rattle.file_answer.specs.Checking.{AnswersChecking}
use Rattle.file_answer.specs.Holds.{HoldsTree}
use Rattle.file_answer.specs.Spelling.{syntax_at, AreCounted, OfAlgorithm}
use Rattle.file_answer.proofs.OneTree.{one_held}
use Rattle.name_bits.specs.NamesIn.{most}
use Rattle.translation.proofs.KeptAccepted.{NothingWrong, nothing_wrong, stands_held}
use Rattle.build_premises.proofs.FewVariables.{vars_few}

-- ---- whatever statements become

mutual
  any_inside : {R : Type 0} (Q : R → Type 0) (E : Effects) (p : Before) (s : Supply) (st : Statement) (go : Statement → Supply → R) → ((c : Statement) (t : Supply) → Q (go c t)) → Q (add_inside E p s st go)
  any_inside Q E p s (branch e a b) go k = any_add Q E (inside p.path) s a _ (λ a' t. any_add Q E (inside p.path) t b _ (λ b' u. k (branch e a' b') u))
  any_inside Q E p s (either bs) go k = any_some Q E (inside p.path) s bs _ (λ bs' t. k (either bs') t)
  any_inside Q E p s (while e b) go k = any_add Q E (inside (after_one E (while e b) p.labelled p.path)) s b _ (λ b' t. k (while e b') t)
  any_inside Q E p s (with bs b) go k = k (with bs b) s
  any_inside Q E p s (assign ms) go k = k (assign ms) s
  any_inside Q E p s (await e) go k = k (await e) s
  any_inside Q E p s (print e) go k = k (print e) s
  any_inside Q E p s (assert e) go k = k (assert e) s
  any_inside Q E p s skip go k = k skip s
  any_inside Q E p s (goto l) go k = k (goto l) s
  any_inside Q E p s (macro m ts) go k = k (macro m ts) s
  any_inside Q E p s (call m ts) go k = k (call m ts) s
  any_inside Q E p s return go k = k return s

  any_add : {R : Type 0} (Q : R → Type 0) (E : Effects) (p : Before) (s : Supply) (b : Statements) (go : Statements → Supply → R) → ((c : Statements) (t : Supply) → Q (go c t)) → Q (add E p s b go)
  any_add Q E p s done go k = k done s
  any_add Q E p s (mark n m rest) go k = any_add Q E at_label s rest _ (λ r t. k (mark n m r) t)
  any_add Q E p s (then at st rest) go k =
      any_inside Q E (before (needs_label E p at st (partner_of rest)) p) (names_after (needs_label E p at st (partner_of rest)) s) st _ (λ st' t.
      any_add Q E (next E (before (needs_label E p at st (partner_of rest)) p) st' (partner_of rest)) t rest _ (λ r v. k (labelled_if (needs_label E p at st (partner_of rest)) s at.first (then at st' r)) v))

  any_some : {R : Type 0} (Q : R → Type 0) (E : Effects) (p : Before) (s : Supply) (bs : Branches) (go : Branches → Supply → R) → ((c : Branches) (t : Supply) → Q (go c t)) → Q (add_some E p s bs go)
  any_some Q E p s no_branches go k = k no_branches s
  any_some Q E p s (or b bs) go k = any_add Q E p s b _ (λ b' t. any_some Q E p t bs _ (λ bs' v. k (or b' bs') v))

any_macros : {R : Type 0} (Q : R → Type 0) (s : Supply) (ds : List Macro) (go : List Macro → Supply → R) → ((c : List Macro) (t : Supply) → Q (go c t)) → Q (add_to_macros s ds go)
any_macros Q s [] go k = k [] s
any_macros Q s (d ∷ ds) go k = any_add Q (λ st. nothing) (at_first None) s d.body _ (λ b t. any_macros Q t ds _ (λ es v. k (record { name = d.name; params = d.params; body = b } ∷ es) v))

-- ---- variables that are declared

abbrev of_procedures : List Procedure → List Name
of_procedures ps = flat_map (λ (p : Procedure). names_of (p.params ++ p.variables)) ps

abbrev of_main : Main → List Name
of_main (alone b) = []
of_main (processes ps) = flat_map (λ (p : Process). names_of p.variables) ps

same_procedures : {R : Type 0} (Q : R → Type 0) (C : Word → Trees → Effect) (s : Supply) (ps : List Procedure) (go : List Procedure → Supply → R) → ((qs : List Procedure) (t : Supply) → of_procedures qs ≡ of_procedures ps → Q (go qs t)) → Q (add_to_procedures C s ps go)
same_procedures Q C s [] go k = k [] s refl
same_procedures Q C s (p ∷ ps) go k =
    any_add Q (procedure_effects C p) (at_first (Some FirstLabel)) s p.body _ (λ b t.
    same_procedures Q C t ps _ (λ qs v e. k (record { name = p.name; params = p.params; variables = p.variables; body = b } ∷ qs) v (ap (λ (xs : List Name). names_of (p.params ++ p.variables) ++ xs) e)))

same_processes : {R : Type 0} (Q : R → Type 0) (C : Word → Trees → Effect) (s : Supply) (ps : List Process) (go : List Process → R) → ((qs : List Process) → of_main (processes qs) ≡ of_main (processes ps) → Q (go qs)) → Q (add_to_processes C s ps go)
same_processes Q C s [] go k = k [] refl
same_processes Q C s (p ∷ ps) go k =
    any_add Q (outer_effects C) (at_first (Some FirstLabel)) s p.body _ (λ b t.
    same_processes Q C t ps _ (λ qs e. k (record { name = p.name; fairness = p.fairness; several = p.several; identity = p.identity; variables = p.variables; body = b } ∷ qs) (ap (λ (xs : List Name). names_of p.variables ++ xs) e)))

same_main : {R : Type 0} (Q : R → Type 0) (C : Word → Trees → Effect) (s : Supply) (m : Main) (go : Main → R) → ((n : Main) → of_main n ≡ of_main m → Q (go n)) → Q (add_to_main C s m go)
same_main Q C s (alone b) go k = any_add Q (outer_effects C) (at_first (Some FirstLabel)) s b _ (λ c t. k (alone c) refl)
same_main Q C s (processes ps) go k = same_processes Q C s ps _ (λ qs e. k (processes qs) e)

numbered_procedures : (n : ℕ) (ps : List Procedure) → flat_map (λ (u : Routine). names_of (locals u)) (numbered procedure_routine n ps) ≡ of_procedures ps
numbered_procedures n [] = refl
numbered_procedures n (p ∷ ps) = ap (λ (xs : List Name). names_of (p.params ++ p.variables) ++ xs) (numbered_procedures (suc n) ps)

numbered_processes : (n : ℕ) (ps : List Process) → flat_map (λ (u : Routine). names_of (locals u)) (numbered process_routine n ps) ≡ of_main (processes ps)
numbered_processes n [] = refl
numbered_processes n (p ∷ ps) = ap (λ (xs : List Name). names_of p.variables ++ xs) (numbered_processes (suc n) ps)

numbered_main : (a : Algorithm) (m : Main) → flat_map (λ (u : Routine). names_of (locals u)) (main_routines a m) ≡ of_main m
numbered_main a (alone b) = refl
numbered_main a (processes ps) = numbered_processes (first_process a) ps

variables_are : (a : Algorithm) → variable_names a ≡ names_of a.globals ++ (of_procedures a.procedures ++ of_main a.main)
variables_are a =
    ap (λ (xs : List Name). names_of a.globals ++ xs) (flat_map-append (λ (u : Routine). names_of (locals u)) (procedure_routines a) (main_routines a a.main))
    ∙ (λ i. names_of a.globals ++ (numbered_procedures (first_procedure a) a.procedures i ++ numbered_main a a.main i))

-- ---- labels added

abbrev SameVariables : Algorithm → Algorithm → Type 0
SameVariables a b = variable_names b ≡ variable_names a

with_labels_same : (a : Algorithm) → SameVariables a (with_labels call_effect (codes "Lbl_") a)
with_labels_same a =
    any_macros (SameVariables a) (record { root = codes "Lbl_"; typed = typed_labels a; from = 1 }) a.macros _ (λ ms s.
    same_procedures (SameVariables a) (call_effect (reverse ms)) s a.procedures _ (λ ps t e.
    same_main (SameVariables a) (call_effect (reverse ms)) t a.main _ (λ m f.
    variables_are (record { name = a.name; fair = a.fair; globals = a.globals; definitions = a.definitions; macros = ms; procedures = ps; main = m })
    ∙ (λ i. names_of a.globals ++ (e i ++ f i)) ∙ sym (variables_are a))))

pub labelled_same : (forced : Bool) (a : Algorithm) → variable_names (labelled forced a) ≡ variable_names a
labelled_same forced a = by (forced || (is_alone a.main && is_empty (typed_labels a)))
  where
    by : (b : Bool) → SameVariables a (cond b (with_labels call_effect (codes "Lbl_") a) a)
    by true = with_labels_same a
    by false = refl

pub labelled_few : (forced : Bool) (a : Algorithm) → count_offences a ≡ [] → length (variable_names (labelled forced a)) ≤ most_variables
labelled_few forced a e = subst (λ (xs : List Name). length xs ≤ most_variables) (sym (labelled_same forced a)) (few_variables a e)

-- ---- of a file with which nothing is wrong

module _ (forced : Bool) (x : Text) (right : AnswersChecking forced x None) (a : Algorithm) (s : Stands x a) where
  wrong : NothingWrong right.0
  wrong = nothing_wrong right.0 right.2

  held : HoldsTree x a
  held = stands_held forced x right a s

  pub checked_counts : count_offences a ≡ []
  checked_counts = by (subst (OfAlgorithm x (record right.0 { names = []; labels = [] })) held.is_text right.1.spelling.algorithm)
    where
      counts : (o : Option Refusal) (cs : List Refusal) → o ≡ None → AreCounted x held.text o cs → AreCounted x held.text None cs
      counts o cs e h = subst (λ (p : Option Refusal). AreCounted x held.text p cs) e h

      by : OfAlgorithm x (record right.0 { names = []; labels = [] }) (Some held.text) → count_offences a ≡ []
      by (tokens, passed, counted) =
          let c = counts right.0.syntax right.0.counts wrong.syntax counted in
          let other : HoldsTree x c.0 = record { text = held.text; is_text = held.is_text; syntax = syntax_at held.text; spelled = c.1 } in
          subst (λ (g : Algorithm). count_offences g ≡ []) (one_held x c.0 a other held) (sym c.2 ∙ wrong.counts)

  pub checked_few : (o : Outside) → length (vars (with_names o (labelled forced a))) ≤ most
  checked_few o = vars_few (with_names o (labelled forced a)) (labelled_few forced a checked_counts)
