-- No parameter of a procedure is declared with a set, as none of its variables is: the grammar has no such declaration, and adding labels leaves declarations as they are.
use Rattle.std.proofs.Common.{◌≡◌, ℕ, suc, List, [], ◌∷◌, map, Bool, true, false, ◌||◌, ◌&&◌, cond, reverse, codes, Some, inl, inr, refl, sym, subst}
use Rattle.std.specs.List.{AllByRecursion}
use Rattle.tla_token.specs.declared.rule.Rule.TheVariants.{FirstLabel}
use Rattle.tla_token.specs.Tokens as text
use Rattle.tla_tree.specs.Tree.{Word, Trees}
use Rattle.tla_value.specs.Outside.{Outside}
use Rattle.pcal_tree.specs.Algorithm.{Procedure, Routine, locals, procedure_routine, numbered, first_procedure, procedure_routines, Algorithm}
use Rattle.pcal_tree.specs.Grammar as g
use Rattle.pcal_tree.specs.GrammarParts.{Initial, Parameters, last_parameter, parameter, parameters_of, GoodParameters, ProcedureParameters, no_parameters, some_parameters, procedure_declarations, GoodProcedureParameters, start_of, GoodInitial}
use Rattle.pcal_tree.specs.GrammarParts as parts
use Rattle.pcal_tree.specs.Labelled.{Supply, add_to_procedures, typed_labels, with_labels, is_alone, labelled}
use Rattle.pcal_tree.specs.OffencesSteps.{at_first, call_effect, procedure_effects}
use Rattle.pcal_tree.specs.Paths.{Effect}
use Rattle.pcal_tree.specs.Processes.{OneOf}
use Rattle.pcal_tree.specs.Tests.{is_empty}
use Rattle.pcal_tree.proofs.OneStand.{every_both}
use Rattle.translation.specs.laws.AcceptedAlgorithm.{IsAccepted}
use Rattle.translation.specs.laws.TypedAlgorithm.{IsTypedProcedure, IsTypedAlgorithm}
use Rattle.translation.proofs.FewNames.{tokens_within}
use Rattle.translation.proofs.ProcedureStarts.{IsSingle, AllSingle, accepted_single}
use Rattle.translation.proofs.TypedLabels.{After, typed_add, macros_through, main_through}
use Rattle.translation.proofs.TypedTexts.{text_typed}

abbrev NoSets : Procedure → Type 0
NoSets p = AllSingle p.params

abbrev NoneHasSets : Algorithm → Type 0
NoneHasSets a = AllByRecursion NoSets a.procedures

-- ---- the grammar

initial_single : (i : Initial) → GoodInitial false i → IsSingle (start_of i)
initial_single parts.unset h = tt
initial_single (parts.equals p e) h = tt
initial_single (parts.among p e) h = cc

parameters_single : (xs : Parameters) → GoodParameters xs → AllSingle (parameters_of xs)
parameters_single (last_parameter x i) h = (initial_single i h, tt)
parameters_single (parameter x i p xs) h = (initial_single i h.0, parameters_single xs h.1)

head_single : (x : ProcedureParameters) → GoodProcedureParameters x → AllSingle (procedure_declarations x)
head_single (no_parameters p q) h = tt
head_single (some_parameters p xs q) h = parameters_single xs h

procedures_single : (s : g.Syntax) (xs : List g.Procedure) → AllByRecursion (g.GoodProcedure s) xs → AllByRecursion NoSets (map g.procedure_tree xs)
procedures_single s [] h = tt
procedures_single s (x ∷ xs) h = (head_single x.parameters h.0.0, procedures_single s xs h.1)

spelled_single : (s : g.Syntax) (ts : List text.Token) (a : Algorithm) → g.Spells s ts a → NoneHasSets a
spelled_single s ts a (x, k, e, q) = subst NoneHasSets q (procedures_single s x.procedures k.4)

-- ---- labels added

procedures_through : (C : Word → Trees → Effect) (s : Supply) (ps : List Procedure) (go : List Procedure → Supply → Algorithm) → s.root ≡ codes "Lbl_" → AllByRecursion IsTypedProcedure ps → AllByRecursion NoSets ps
    → After NoneHasSets (AllByRecursion NoSets) go → NoneHasSets (add_to_procedures C s ps go)
procedures_through C s [] go r h n k = k [] s r tt
procedures_through C s (p ∷ ps) go r h n k =
    typed_add NoneHasSets (procedure_effects C p) (at_first (Some FirstLabel)) s p.body _ r h.0.3.1 (λ b t q c.
    procedures_through C t ps _ q h.1 n.1 (λ qs u o d. k (record { name = p.name; params = p.params; variables = p.variables; body = b } ∷ qs) u o (n.0, d)))

with_labels_single : (a : Algorithm) → IsTypedAlgorithm a → NoneHasSets a → NoneHasSets (with_labels call_effect (codes "Lbl_") a)
with_labels_single a h n =
    macros_through NoneHasSets (record { root = codes "Lbl_"; typed = typed_labels a; from = 1 }) a.macros _ refl h.macros (λ ms s r c.
    procedures_through (call_effect (reverse ms)) s a.procedures _ r h.procedures n (λ ps t q d.
    main_through NoneHasSets (call_effect (reverse ms)) t a.main _ q h.main (λ m e. d)))

labelled_single : (forced : Bool) (a : Algorithm) → IsTypedAlgorithm a → NoneHasSets a → NoneHasSets (labelled forced a)
labelled_single forced a h n = by (forced || (is_alone a.main && is_empty (typed_labels a)))
  where
    by : (b : Bool) → NoneHasSets (cond b (with_labels call_effect (codes "Lbl_") a) a)
    by true = with_labels_single a h n
    by false = n

-- ---- a procedure's routine

numbered_single : (n : ℕ) (ps : List Procedure) → AllByRecursion NoSets ps → (u : Routine) → OneOf u (numbered procedure_routine n ps) → AllSingle u.params
numbered_single n [] h u k = absurd k
numbered_single n (p ∷ ps) h u (inl e) = subst (λ (w : Routine). AllSingle w.params) (sym e) h.0
numbered_single n (p ∷ ps) h u (inr k) = numbered_single (suc n) ps h.1 u k

-- nor is any of its variables
pub locals_single : (o : Outside) (a : Algorithm) → IsAccepted o a → (u : Routine) → OneOf u (procedure_routines a) → AllSingle (locals u)
locals_single o a h u k =
    every_both (λ d. IsSingle d.start) u.params u.variables
    (numbered_single (first_procedure a) a.procedures
    (subst NoneHasSets h.labels_added
    (labelled_single h.forced h.typed (text_typed h.syntax h.text h.from h.to h.tokens h.typed h.tok (tokens_within h.tokens h.rules).0 h.spelled) (spelled_single h.syntax h.tokens h.typed h.spelled))) u k)
    (accepted_single o a h u k)
