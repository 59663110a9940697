-- All rules by which an algorithm's tokens are answered are among those of its spelling; and the last two of these are where reading stops.
use Rattle.std.proofs.Common.{◌≡◌, ◌⊎◌, ◌≤◌, Bool, true, false, ◌&&◌, nat_le, nat_lt, inl, inr, arith, List, [], ◌∷◌, ◌++◌, filter, Option, Some, None, refl, sym, ap, ◌∙◌, subst, cond, true≢false}
use Rattle.std.specs.List.{list_all, AllByRecursion}
use Rattle.std.proofs.lemmas.List.Folds.{list_all-append}
use Rattle.std.proofs.lemmas.Bool.{and_parts, and_from, le-leb, leb-true}
use Rattle.tla_token.specs.declared.place.Place.{Place}
use Rattle.tla_token.specs.declared.rule.Rule.{Rule}
use Rattle.tla_token.specs.declared.rule.Rule.TheVariants.{LeftOutWord, TooMany}
use Rattle.tla_token.specs.declared.rule.Refusal.{Refusal}
use Rattle.tla_token.specs.Rules.{rule_number}
use Rattle.tla_token.specs.Limits.{most_variables, most_processes, most_procedures, most_labels, longest_chain, deepest_definition}
use Rattle.tla_token.specs.Tokens as text
use Rattle.tla_token.specs.AlgorithmOffences.{is_left_out}
use Rattle.tla_value.specs.DefinitionNesting.{Depths, definition_nests, depths}
use Rattle.pcal_tree.specs.Algorithm.{Name, Definition, Macro, Algorithm}
use Rattle.pcal_tree.specs.Program.{inner}
use Rattle.pcal_tree.specs.Grammar as grammar
use Rattle.pcal_tree.specs.Offences.{offence_if, is_sooner, sooner, first}
use Rattle.pcal_tree.specs.OffencesSyntax.{RefusesTokens}
use Rattle.pcal_tree.specs.OffencesNames.{process_names}
use Rattle.pcal_tree.specs.OffencesCounts.{variable_names, procedure_names, all_label_names, at_first_name, first_past, Chains, chain_to, long_chains, deep_definitions, count_offences}
use Rattle.algorithm_answer.specs.TokensRefused.{left_out_at, at_first_token, past_tokens_at, token_refusals}
use Rattle.algorithm_answer.specs.Answered.{AreRead, AreCounted, or_counts, AreAnswered, of_spelling}

-- ---- single tokens, and what is too much, are refused by the rules up to 13
abbrev is_early : Refusal → Bool
is_early r = nat_le (rule_number r.rule) 13

abbrev AreEarly : List Refusal → Type 0
AreEarly rs = list_all is_early rs ≡ true

both : (f : Refusal → Bool) (xs ys : List Refusal) → list_all f xs ≡ true → list_all f ys ≡ true → list_all f (xs ++ ys) ≡ true
both f xs ys h k = list_all-append f xs ys ∙ and_from (list_all f xs) (list_all f ys) h k

early : (xs ys : List Refusal) → AreEarly xs → AreEarly ys → AreEarly (xs ++ ys)
early xs ys h k = both is_early xs ys h k

when : (b : Bool) (r : Rule) (p : Place) → AreEarly (record { rule = r; place = p } ∷ []) → AreEarly (offence_if b r p)
when true r p h = h
when false r p h = refl

left_out_rules : (ts : List text.Token) → AreEarly (left_out_at ts)
left_out_rules [] = refl
left_out_rules (t ∷ ts) = early (offence_if (is_left_out t.kind ts) LeftOutWord t.place) (left_out_at ts) (when (is_left_out t.kind ts) LeftOutWord t.place refl) (left_out_rules ts)

first_token_rule : (ts : List text.Token) → AreEarly (at_first_token ts)
first_token_rule [] = refl
first_token_rule (t ∷ ts) = refl

token_rules : (ts : List text.Token) → AreEarly (token_refusals ts)
token_rules ts = early (left_out_at ts) (past_tokens_at ts) (left_out_rules ts) (first_token_rule _)

name_rule : (xs : List Name) → AreEarly (at_first_name xs)
name_rule [] = refl
name_rule (x ∷ xs) = refl

chain_rules : (cs : Chains) (ds : List Macro) → AreEarly (long_chains cs ds)
chain_rules cs [] = refl
chain_rules cs (d ∷ ds) = early (offence_if (nat_lt longest_chain (chain_to cs d)) TooMany d.name.place) _ (when (nat_lt longest_chain (chain_to cs d)) TooMany d.name.place refl) (chain_rules ((d.name.word, chain_to cs d) ∷ cs) ds)

definition_rules : (ds : Depths) (es : List Definition) → AreEarly (deep_definitions ds es)
definition_rules ds [] = refl
definition_rules ds (e ∷ es) =
    early (offence_if (nat_lt deepest_definition (definition_nests ds (inner e))) TooMany e.name.place) _ (when (nat_lt deepest_definition (definition_nests ds (inner e))) TooMany e.name.place refl) (definition_rules (depths ds (inner e ∷ [])) es)

count_rules : (a : Algorithm) → AreEarly (count_offences a)
count_rules a =
    early (first_past most_variables (variable_names a)) _ (name_rule _)
    (early (first_past most_processes (process_names a.main)) _ (name_rule _)
    (early (first_past most_procedures (procedure_names a)) _ (name_rule _)
    (early (first_past most_labels (all_label_names a)) _ (name_rule _) (early (long_chains [] a.macros) _ (chain_rules [] a.macros) (definition_rules [] a.definitions)))))

-- ---- so all answers are by the rules of spelling
wider : (rs : List Refusal) → AreEarly rs → list_all of_spelling rs ≡ true
wider [] h = refl
wider (r ∷ rs) h =
    let k = and_parts (is_early r) (list_all is_early rs) h in
    let l = leb-true (rule_number r.rule) 13 k.0 in
    and_from (of_spelling r) (list_all of_spelling rs) (le-leb (rule_number r.rule) 15 (omega (arith, l))) (wider rs k.1)

-- ---- and those by a later rule are where reading stops
-- what holds of all holds of the first
first_of : (P : Refusal → Type 0) (rs : List Refusal) (r : Refusal) → AllByRecursion P rs → first rs ≡ Some r → P r
first_of P [] r h e = absurd cc
first_of P (q ∷ rs) r h e = subst P (found (sooner q (first rs)) e) (best (first rs) (λ p i. first_of P rs p h.1 i))
  where
    found : (p : Refusal) → Some p ≡ Some r → p ≡ r
    found p i = cc

    best : (o : Option Refusal) → ((p : Refusal) → o ≡ Some p → P p) → P (sooner q o)
    best None k = h.0
    best (Some p) k = pick (is_sooner p q)
      where
        pick : (b : Bool) → P (cond b p q)
        pick true = k p refl
        pick false = h.0

each_early : (Q : Refusal → Type 0) → ((r : Refusal) → is_early r ≡ true → Q r) → (rs : List Refusal) → AreEarly rs → AllByRecursion Q rs
each_early Q f [] h = tt
each_early Q f (r ∷ rs) h = (let k = and_parts (is_early r) (list_all is_early rs) h in (f r k.0, each_early Q f rs k.1))

not_early : (r : Refusal) → 14 ≤ rule_number r.rule → is_early r ≡ true → ⊥
not_early r l e = (let k = leb-true (rule_number r.rule) 13 e in omega (arith, l, k))

-- a late one of many early ones and one more is that one
late_is : (rs : List Refusal) (q r : Refusal) → AreEarly rs → first (rs ++ q ∷ []) ≡ Some r → 14 ≤ rule_number r.rule → q ≡ r
late_is rs q r h e l = elim (first_of IsOne (rs ++ q ∷ []) r (all rs h) e) [ inl k ↦ absurd (not_early r l k) | inr k ↦ k ]
  where
    IsOne : Refusal → Type 0
    IsOne p = (is_early p ≡ true) ⊎ (q ≡ p)

    all : (rs : List Refusal) → AreEarly rs → AllByRecursion IsOne (rs ++ q ∷ [])
    all [] h = (inr refl, tt)
    all (p ∷ rs) h = (let k = and_parts (is_early p) (list_all is_early rs) h in (inl k.0, all rs k.1))

module _ (s : grammar.Syntax) (ts : List text.Token) (end : Place) where
  read_rules : (syntax : Option Refusal) (counts : List Refusal) → AreRead s ts end syntax → AreCounted s ts syntax counts → list_all of_spelling (or_counts syntax counts) ≡ true
  read_rules (Some r) counts h k =
      elim h.stops.rule [
        | inl d ↦ ap (λ (x : Rule). nat_le (rule_number x) 15 && true) d.0
        | inr d ↦ ap (λ (x : Rule). nat_le (rule_number x) 15 && true) d.0
      ]
  read_rules None counts h k = wider counts (subst AreEarly (sym k.2) (count_rules k.0))

  kept : (rs : List Refusal) → list_all of_spelling rs ≡ true → filter of_spelling rs ≡ rs
  kept [] h = refl
  kept (r ∷ rs) h = by (of_spelling r) h (kept rs)
    where
      by : (b : Bool) → (b && list_all of_spelling rs) ≡ true → (list_all of_spelling rs ≡ true → filter of_spelling rs ≡ rs) → cond b (r ∷ filter of_spelling rs) (filter of_spelling rs) ≡ r ∷ rs
      by true e rest = ap (λ (qs : List Refusal). r ∷ qs) (rest e)
      by false e rest = absurd (true≢false (sym e))

  -- so no rule of another command changes the answer
  pub answered_by_spelling : (answer : Option Refusal) (a : AreAnswered s ts end answer) → answer ≡ first (filter of_spelling (token_refusals ts ++ or_counts a.syntax a.counts))
  answered_by_spelling answer a = a.is ∙ ap first (sym (kept (token_refusals ts ++ or_counts a.syntax a.counts) (both of_spelling (token_refusals ts) (or_counts a.syntax a.counts) (wider (token_refusals ts) (token_rules ts)) (read_rules a.syntax a.counts a.read a.counted))))

  pub late_is_read : (r : Refusal) → AreAnswered s ts end (Some r) → 14 ≤ rule_number r.rule → RefusesTokens s ts end r
  late_is_read r a l = by a.syntax a.counts a.read a.counted a.is
    where
      by : (syntax : Option Refusal) (counts : List Refusal) → AreRead s ts end syntax → AreCounted s ts syntax counts → Some r ≡ first (token_refusals ts ++ or_counts syntax counts) → RefusesTokens s ts end r
      by (Some q) counts h k e = subst (λ (p : Refusal). RefusesTokens s ts end p) (late_is (token_refusals ts) q r (token_rules ts) (sym e) l) h
      by None counts h k e =
          (let all = early (token_refusals ts) counts (token_rules ts) (subst AreEarly (sym k.2) (count_rules k.0)) in
          absurd (first_of (λ (p : Refusal). 14 ≤ rule_number p.rule → ⊥) (token_refusals ts ++ counts) r (each_early (λ (p : Refusal). 14 ≤ rule_number p.rule → ⊥) (λ p i m. not_early p m i) (token_refusals ts ++ counts) all) (sym e) l))
