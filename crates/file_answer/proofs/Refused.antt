-- A rewritten file is refused by few rules: that on options, and those on too much.
use Rattle.std.proofs.Common.{◌≡◌, ℕ, Bool, true, false, List, [], ◌∷◌, ◌++◌, cond, Option, Some, None, refl, sym, ap, subst, ◌∙◌}
use Rattle.std.specs.Prelude.{nat_le, filter, ◌&&◌, if◌then◌else◌}
use Rattle.std.specs.List.{list_all, flat_map}
use Rattle.std.proofs.lemmas.Bool.{and_parts, and_from}
use Rattle.std.proofs.lemmas.Option.{same_Some}
use Rattle.tla_token.specs.declared.rule.Rule.{Rule}
use Rattle.tla_token.specs.declared.rule.Rule.TheVariants.{Options, TooMany, TooDeep}
use Rattle.tla_token.specs.declared.rule.Refusal.{Refusal}
use Rattle.tla_token.specs.Places.{place_at}
use Rattle.tla_token.specs.Rules.{rule_number}
use Rattle.tla_token.specs.Tokens.{stretch}
use Rattle.tla_token.specs.Offences.{Offence}
use Rattle.tla_token.specs.AlgorithmOffences.{algorithm_offences}
use Rattle.pcal_tree.specs.Grammar.{Syntax, p_syntax, c_syntax}
use Rattle.pcal_tree.specs.Offences.{is_sooner, sooner, first}
use Rattle.pcal_tree.specs.OffencesSyntax.{RefusesTokens}
use Rattle.pcal_tree.specs.Printed.{printed}
use Rattle.module_tree.specs.TextFront.{Text}
use Rattle.module_tree.specs.Beginnings.{is_options, all_at}
use Rattle.module_tree.specs.Walk.{walk}
use Rattle.module_tree.specs.FileParts.{Span}
use Rattle.module_tree.specs.AlgorithmText.{Stage, is_c, AlgorithmText, algorithm_in, algorithm_tokens}
use Rattle.module_tree.specs.FileOffences.{offences_at, outside_region, options_in, file_offences}
use Rattle.module_tree.specs.laws.Swaps.{is_paired}
use Rattle.module_tree.proofs.FineFiles.{all_more}
use Rattle.printed_text.specs.Rewritten.{Rewritten}
use Rattle.printed_text.specs.laws.HoldsPrinted.{past_stage}
use Rattle.printed_text.specs.laws.BreaksFew.{BreaksFew}
use Rattle.printed_text.proofs.Rewritten.{breaks_few, fine_without}
use Rattle.algorithm_answer.specs.Answered.{or_counts}
use Rattle.file_answer.specs.Refusals.{Wrong, up_to, of_spelling}
use Rattle.file_answer.specs.Spelling.{of_rules, syntax_at, AreRead, AreCounted, OfAlgorithm, IsSpelling, AnswersRewriting}
use Rattle.file_answer.specs.laws.FewRules.{is_too_much, is_options_or_too_much}
use Rattle.file_answer.proofs.OneAnswer.{asked, asked_alone}
use Rattle.file_answer.proofs.Unrefused.{many_all, unrefused_is_fine}
use Rattle.file_answer.proofs.Counts.{counts_many}
use Rattle.file_answer.proofs.Decided.{told_all, all_or_else}

-- ---- lists of offences that are all of some rules

all_kept : {A : Type 0} (p q : A → Bool) (xs : List A) → list_all p xs ≡ true → list_all p (filter q xs) ≡ true
all_kept p q [] h = refl
all_kept p q (x ∷ xs) h = (let k = and_parts (p x) (list_all p xs) h in by (q x) refl k.0 (all_kept p q xs k.1))
  where
    by : (b : Bool) → q x ≡ b → p x ≡ true → list_all p (filter q xs) ≡ true → list_all p (filter q (x ∷ xs)) ≡ true
    by true e l more = ap (λ (b : Bool). list_all p (cond b (x ∷ filter q xs) (filter q xs))) e ∙ and_from (p x) (list_all p (filter q xs)) l more
    by false e l more = ap (λ (b : Bool). list_all p (cond b (x ∷ filter q xs) (filter q xs))) e ∙ more

-- of all of which this holds, the first one too
first_of_all : (p : Refusal → Bool) (rs : List Refusal) (q : Refusal) → list_all p rs ≡ true → first rs ≡ Some q → p q ≡ true
first_of_all p [] q h e = absurd cc
first_of_all p (r ∷ rs) q h e = (let k = and_parts (p r) (list_all p rs) h in ap p (sym (same_Some (sooner r (first rs)) q e)) ∙ by (first rs) refl k.0 (λ t f. first_of_all p rs t k.1 f))
  where
    one : (t : Refusal) (b : Bool) → p r ≡ true → p t ≡ true → p (cond b t r) ≡ true
    one t true h k = k
    one t false h k = h

    by : (o : Option Refusal) → first rs ≡ o → p r ≡ true → ((t : Refusal) → first rs ≡ Some t → p t ≡ true) → p (sooner r o) ≡ true
    by None f h k = h
    by (Some t) f h k = one t (is_sooner t r) h (k t f)

-- ---- of these rules

module _ (p : Rule → Bool) (many : p TooMany ≡ true) (deep : p TooDeep ≡ true) where
  abbrev holds : Refusal → Bool
  holds r = p r.rule

  abbrev is_at : Offence → Bool
  is_at o = p o.0

  abbrev All : List Refusal → Type 0
  All rs = list_all holds rs ≡ true

  all_unless : (s : Option Refusal) (counts : List Refusal) → ((r : Refusal) → s ≡ Some r → holds r ≡ true) → All counts → All (or_counts s counts)
  all_unless (Some r) counts h k = and_from (holds r) true (h r refl) refl
  all_unless None counts h k = k

  -- ---- the file

  syntax_is : (s : Syntax) (a : AlgorithmText) → a.rest.stage ≡ past_stage s → syntax_at a ≡ s
  syntax_is s a e = ap (λ (st : Stage). if is_c st then c_syntax else p_syntax) e ∙ by s
    where
      by : (s : Syntax) → (if is_c (past_stage s) then c_syntax else p_syntax) ≡ s
      by p_syntax = refl
      by c_syntax = refl

  of_algorithm : (s : Syntax) (w : Text) (v : Wrong) (a : AlgorithmText) → syntax_at a ≡ s → BreaksFew s w a → OfAlgorithm w v (Some a) → All (v.tokens ++ or_counts v.syntax v.counts)
  of_algorithm s w v a here b h =
      let ts = algorithm_tokens w a in
      let tokens : All v.tokens = subst All (sym h.0) (told_all p w (algorithm_offences ts) (ap (list_all is_at) b.words ∙ many_all p many ts)) in
      all_more holds v.tokens (or_counts v.syntax v.counts) tokens (all_unless v.syntax v.counts (λ r e. stop v.syntax r e h.1) (counted v.syntax h.2))
    where
      stop : (o : Option Refusal) (r : Refusal) → o ≡ Some r → AreRead w a o → holds r ≡ true
      stop None r e k = absurd cc
      stop (Some q) r e k =
          let same : q ≡ r = same_Some q r e in
          let rule : q.rule ≡ TooDeep = b.spelling (place_at w a.rest.to) q (subst (λ (s : Syntax). RefusesTokens s (algorithm_tokens w a) (place_at w a.rest.to) q) here k) in
          ap holds (sym same) ∙ ap p rule ∙ deep

      counted : (o : Option Refusal) → AreCounted w a o v.counts → All v.counts
      counted (Some r) k = subst All (sym k) refl
      counted None k = subst All (sym k.2) (counts_many p many k.0)

  all_asked : (s : Syntax) (w : Text) (v : Wrong) (a : AlgorithmText) → algorithm_in w ≡ Some a → a.rest.stage ≡ past_stage s → BreaksFew s w a → list_all is_at (file_offences w) ≡ true → IsSpelling w v → All (asked v)
  all_asked s w v a there stage b file h =
      let bytes : All v.bytes = subst All (sym h.bytes) (told_all p w (of_rules 1 4 (file_offences w)) (all_kept is_at (λ (o : Offence). nat_le 1 (rule_number o.0) && nat_le (rule_number o.0) 4) (file_offences w) file)) in
      let parts : All v.parts = subst All (sym h.parts) (told_all p w (of_rules 5 10 (file_offences w)) (all_kept is_at (λ (o : Offence). nat_le 5 (rule_number o.0) && nat_le (rule_number o.0) 10) (file_offences w) file)) in
      let algorithm : OfAlgorithm w v (Some a) = subst (OfAlgorithm w v) there h.algorithm in
      all_or_else holds v.bytes (v.parts ++ (v.tokens ++ or_counts v.syntax v.counts)) bytes
      (all_more holds v.parts (v.tokens ++ or_counts v.syntax v.counts) parts (of_algorithm s w v a (syntax_is s a stage) b algorithm))

  pub refused_so : (s : Syntax) (w : Text) (a : AlgorithmText) (q : Refusal) → algorithm_in w ≡ Some a → a.rest.stage ≡ past_stage s → BreaksFew s w a → list_all is_at (file_offences w) ≡ true → AnswersRewriting w (Some q) → p q.rule ≡ true
  refused_so s w a q there stage b file (v, h, e) =
      first_of_all holds (up_to of_spelling (asked v)) q (all_kept holds (λ (r : Refusal). nat_le (rule_number r.rule) of_spelling) (asked v) (all_asked s w v a there stage b file h))
      (ap first (sym (asked_alone v h.names h.labels)) ∙ e)

-- ---- rewritten files

all_options : (x : Text) (rs : List Span) → list_all (λ (o : Offence). is_options_or_too_much o.0) (flat_map (options_in x) rs) ≡ true
all_options x [] = refl
all_options x (r ∷ rs) =
    all_more (λ (o : Offence). is_options_or_too_much o.0) (options_in x r) (flat_map (options_in x) rs) (at_all (all_at is_options r.from (stretch x r.from r.to))) (all_options x rs)
  where
    at_all : (ns : List ℕ) → list_all (λ (o : Offence). is_options_or_too_much o.0) (offences_at Options ns) ≡ true
    at_all [] = refl
    at_all (n ∷ ns) = at_all ns

pub refused_for_few : (s : Syntax) (x w : Text) → AnswersRewriting x None → (r : Rewritten s x w) → is_paired 0 (stretch x r.old.from r.old.rest.to) ≡ true → (q : Refusal) → AnswersRewriting w (Some q) → is_options_or_too_much q.rule ≡ true
refused_for_few s x w a r paired q h =
    let k = breaks_few s x w (unrefused_is_fine x a) r paired in
    refused_so is_options_or_too_much refl refl s w k.0.text q k.0.is_text k.0.stage k.1 (ap (list_all (λ (o : Offence). is_options_or_too_much o.0)) k.1.file ∙ all_options w (outside_region w (walk w))) h

pub refused_for_size : (s : Syntax) (x w : Text) → AnswersRewriting x None → (r : Rewritten s x w) → is_paired 0 (stretch x r.old.from r.old.rest.to) ≡ true → all_at is_options 0 (printed s r.tree) ≡ [] → (q : Refusal)
    → AnswersRewriting w (Some q) → is_too_much q.rule ≡ true
refused_for_size s x w a r paired none q h =
    let fine = unrefused_is_fine x a in
    let k = breaks_few s x w fine r paired in
    refused_so is_too_much refl refl s w k.0.text q k.0.is_text k.0.stage k.1 (ap (list_all (λ (o : Offence). is_too_much o.0)) (fine_without s x w fine r paired none)) h
