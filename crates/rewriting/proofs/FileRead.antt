-- The algorithm of a file that is in these parts, read in the syntax that it is in: the tree that its tokens spell, or why the file is refused.
use Rattle.std.proofs.Common.{◌≡◌, ℕ, ◌+◌, ◌≤◌, Bool, List, [], length, Option, Some, None, Result, Ok, Err, IfOk, IfErr, refl, sym, ap, subst, ◌∙◌, arith, nat_eq, codes}
use Rattle.std.specs.Prelude.{if◌then◌else◌}
use Rattle.std.specs.List.{starts_with}
use Rattle.std.proofs.lemmas.Option.{same_Some}
use Rattle.tla_token.specs.declared.rule.Refusal.{Refusal}
use Rattle.tla_token.specs.declared.rule.Stop.{Stop}
use Rattle.tla_token.specs.declared.rule.Stop.TheVariants as stop
use Rattle.tla_token.specs.declared.token.Tokens.{Tokens}
use Rattle.tla_token.specs.declared.fault.Reading.TheVariants as reading
use Rattle.tla_token.specs.declared.place.Place.{Place}
use Rattle.tla_token.specs.Places.{place_at}
use Rattle.tla_token.specs.Tokens.{Token, stretch, Tok}
use Rattle.tla_token.specs.TokensSeen.{tokens_seen}
use Rattle.tla_token.specs.Readings.{IsRefused, AreTokens, given_offence, IsGivenRefused}
use Rattle.pcal_tree.specs.declared.algorithm.Algorithm as code
use Rattle.pcal_tree.specs.Algorithm.{Algorithm}
use Rattle.pcal_tree.specs.Grammar.{Syntax, p_syntax, c_syntax, Spells}
use Rattle.pcal_tree.specs.Offences.{first}
use Rattle.module_tree.specs.declared.parts.Parts.{Parts}
use Rattle.module_tree.specs.TextFront.{Text}
use Rattle.module_tree.specs.AlgorithmText.{AlgorithmText, algorithm_tokens}
use Rattle.module_tree.specs.FileOffences.{splitting_offences, RefusesSplit}
use Rattle.module_split.specs.Splitting.{Splits}
use Rattle.algorithm_answer.specs.TokensRefused.{left_out_at}
use Rattle.algorithm_answer.specs.Answered.{AreAnswered}
use Rattle.file_answer.specs.Refusals.{IsStop}
use Rattle.file_answer.specs.Spelling.{syntax_at, AnswersRewriting}
use Rattle.file_answer.specs.Holds.{HoldsTree}
use Rattle.rewriting.specs.TokensRead.{AreOfAlgorithm}
use Rattle.file_answer.proofs.SplitDecides.{split_decides}
use Rattle.file_answer.proofs.AlgorithmStretch.{has_tokens, opens_with, stretch_within, word_within}
use Rattle.file_answer.proofs.TokensAnswered.{tokens_answer, words_are, or_later, numbers_answer}
use Rattle.file_answer.proofs.TokensScanned.{rest_tok, never_refused, scanned, scanned_small, scanned_big, word_len}

-- in the syntax that the parts tell
abbrev pub told_syntax : Bool → Syntax
told_syntax b = if b then c_syntax else p_syntax

module _ (x : Text) (p : Parts) (s : Splits x p) (fine : splitting_offences x ≡ []) where
  abbrev pub a : AlgorithmText
  a = s.found

  abbrev pub from : ℕ
  from = p.algorithm.from

  abbrev pub to : ℕ
  to = p.algorithm.to

  -- ---- the stretch

  pub in_order : from ≤ to
  in_order = subst (λ (n : ℕ). n ≤ to) s.begins (subst (λ (n : ℕ). a.from ≤ n) s.ends (stretch_within x a fine s.algorithm).0)

  pub in_text : to ≤ length x
  in_text = subst (λ (n : ℕ). n ≤ length x) s.ends (stretch_within x a fine s.algorithm).1

  -- ---- the tokens of the algorithm

  pub found_tokens : (v : Tokens) → AreTokens x from to (tokens_seen v) → given_offence x from to ≡ None → v.end ≡ place_at x to → AreOfAlgorithm x v
  found_tokens v t none end = record {
    text = a;
    is_text = s.algorithm;
    tokens = scanned x a fine s.algorithm (tokens_seen v) (subst (λ (n : ℕ). AreTokens x n a.rest.to (tokens_seen v)) (sym s.begins) (subst (λ (n : ℕ). AreTokens x from n (tokens_seen v)) (sym s.ends) t));
    ends = end ∙ ap (place_at x) (sym s.ends);
    numbers = scanned_small x a fine s.algorithm ((λ i. given_offence x (s.begins i) (s.ends i)) ∙ none);
  }

  -- ---- a number is too big

  abbrev pub IsLen : ℕ → Type 0
  IsLen n = n ≡ (if starts_with nat_eq (stretch x from to) (codes "--algorithm") then 11 else 6)

  len_is : (n : ℕ) → IsLen n → n ≡ length a.opening
  len_is n e = e ∙ (λ i. if starts_with nat_eq (stretch x (sym s.begins i) (sym s.ends i)) (codes "--algorithm") then 11 else 6) ∙ word_len x a fine s.algorithm

  pub rest_within : (n : ℕ) → IsLen n → (from + n ≤ to) × (from + n ≤ length x)
  rest_within n e =
      let t = has_tokens x a fine s.algorithm in
      let l = word_within x a.from a.rest.to (algorithm_tokens x a) t in
      let k : n ≡ length t.opening = len_is n e ∙ ap length (opens_with x a t) in
      let l0 = l.0 in
      let l1 = l.1 in
      let b = s.begins in
      let m = s.ends in
      (omega (arith, l0, k, b, m), omega (arith, l1, k, b))

  at_rest : (n : ℕ) (ts : List Token) → IsLen n → Tok x (from + n) to ts → Tok x (a.from + length a.opening) a.rest.to ts
  at_rest n ts e t = subst (λ (k : ℕ). Tok x k a.rest.to ts) (λ i. sym s.begins i + len_is n e i) (subst (λ (k : ℕ). Tok x (from + n) k ts) (sym s.ends) t)

  pub rest_unrefused : (n : ℕ) (r : Refusal) → IsLen n → IsRefused reading.Unread x (from + n) to r → ⊥
  rest_unrefused n r e h =
      let t = has_tokens x a fine s.algorithm in
      never_refused x (a.from + length a.opening) a.rest.to t.more r (rest_tok x a fine s.algorithm)
      (subst (λ (k : ℕ). IsRefused reading.Unread x k a.rest.to r) (λ i. sym s.begins i + len_is n e i) (subst (λ (k : ℕ). IsRefused reading.Unread x (from + n) k r) (sym s.ends) h))

  pub first_of_both : (n : ℕ) (ts : List Token) (word : Option Refusal) (big : Refusal) → IsLen n → Tok x (from + n) to ts → word ≡ first (left_out_at ts) → IsGivenRefused x from to big → AnswersRewriting x (Some (or_later word big))
  first_of_both n ts word big e t w h =
      let k = has_tokens x a fine s.algorithm in
      let own : Tok x (a.from + length k.opening) a.rest.to ts = subst (λ (w : Text). Tok x (a.from + length w) a.rest.to ts) (opens_with x a k) (at_rest n ts e t) in
      numbers_answer x a word big fine s.algorithm (w ∙ ap first (words_are x a.from a.rest.to (algorithm_tokens x a) ts k own))
      (scanned_big x a fine s.algorithm big (subst (λ (m : ℕ). IsGivenRefused x m a.rest.to big) (sym s.begins) (subst (λ (m : ℕ). IsGivenRefused x from m big) (sym s.ends) h)))

  -- ---- what reading the tokens is answered

  module _ (v : Tokens) (h : AreOfAlgorithm x v) where
    syntax_is : told_syntax p.is_c ≡ syntax_at h.text
    syntax_is = ap told_syntax (sym s.is_c) ∙ ap syntax_at (same_Some s.found h.text (sym s.algorithm ∙ h.is_text))

    pub read_answer : (answer : Option Refusal) → AreAnswered (told_syntax p.is_c) (tokens_seen v) v.end answer → AnswersRewriting x answer
    read_answer answer k =
        tokens_answer x h.text answer fine h.is_text h.numbers (subst (λ (o : Syntax). AreAnswered o (algorithm_tokens x h.text) (place_at x h.text.rest.to) answer) syntax_is
        (subst (λ (ts : List Token). AreAnswered (told_syntax p.is_c) ts (place_at x h.text.rest.to) answer) h.tokens
        (subst (λ (e : Place). AreAnswered (told_syntax p.is_c) (tokens_seen v) e answer) h.ends k)))

    pub read_holds : (g : Algorithm) → Spells (told_syntax p.is_c) (tokens_seen v) g → HoldsTree x g
    read_holds g k = record {
      text = h.text;
      is_text = h.is_text;
      syntax = told_syntax p.is_c;
      spelled = subst (λ (ts : List Token). Spells (told_syntax p.is_c) ts g) h.tokens k;
    }

    -- as the code that reads them answers
    pub ok_answer : (r : Result code.Algorithm Stop) → IfOk r (λ g. AreAnswered (told_syntax p.is_c) (tokens_seen v) v.end None) → IfOk r (λ g. AnswersRewriting x None)
    ok_answer (Ok g) k = read_answer None k
    ok_answer (Err e) k = tt

    pub err_answer : (r : Result code.Algorithm Stop) → ((q : Refusal) → r ≡ Err (stop.Refused q) → AreAnswered (told_syntax p.is_c) (tokens_seen v) v.end (Some q)) → IfErr r (λ e. IsStop (λ q. AnswersRewriting x (Some q)) e)
    err_answer (Ok g) k = tt
    err_answer (Err stop.Memory) k = tt
    err_answer (Err (stop.Refused q)) k = read_answer (Some q) (k q refl)

-- why a call stops that refuses nothing, and one that splits a file
pub memory_alone : (s : Stop) → ((r : Refusal) → s ≡ stop.Refused r → ⊥) → s ≡ stop.Memory
memory_alone stop.Memory h = refl
memory_alone (stop.Refused r) h = absurd (h r refl)

pub split_stop : (x : Text) (s : Stop) → ((r : Refusal) → s ≡ stop.Refused r → RefusesSplit x r) → IsStop (λ r. AnswersRewriting x (Some r)) s
split_stop x stop.Memory h = tt
split_stop x (stop.Refused r) h = split_decides x r (h r refl)
