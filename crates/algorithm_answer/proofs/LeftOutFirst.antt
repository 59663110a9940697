-- A word or sign that is left out is answered whatever else is wrong. So it doesn't matter that the grammar of expressions sees a prime where that of algorithms sees none: a prime is left out.
use Rattle.std.proofs.Common.{◌≡◌, ◌⊎◌, inl, inr, ℕ, Bool, ◌||◌, true, false, nat_lt, List, [], ◌∷◌, ◌++◌, drop, None, refl, ap, ◌∙◌, append_assoc}
use Rattle.std.specs.List.{list_any}
use Rattle.std.proofs.lemmas.List.Folds.{list_any-append}
use Rattle.std.proofs.lemmas.Bool.{or_right}
use Rattle.tla_token.specs.declared.place.Place.{Place}
use Rattle.tla_token.specs.declared.rule.Rule.TheVariants.{LeftOutWord, TooMany}
use Rattle.tla_token.specs.declared.rule.Refusal.{Refusal}
use Rattle.tla_token.specs.Limits.{most_tokens, most_variables, most_processes, most_procedures, most_labels, longest_chain, deepest_definition}
use Rattle.tla_token.specs.Lexemes as lexeme
use Rattle.tla_token.specs.Tokens as text
use Rattle.tla_token.specs.AlgorithmOffences.{is_left_out}
use Rattle.tla_tree.specs.TokenViews as expression
use Rattle.tla_value.specs.DefinitionNesting.{Depths, definition_nests, depths}
use Rattle.pcal_tree.specs.Algorithm.{Name, Definition, Macro, Algorithm}
use Rattle.pcal_tree.specs.AlgorithmTokens.{view, views}
use Rattle.pcal_tree.specs.Program.{inner}
use Rattle.pcal_tree.specs.Offences.{offence_if, first}
use Rattle.pcal_tree.specs.OffencesNames.{process_names}
use Rattle.pcal_tree.specs.OffencesCounts.{variable_names, procedure_names, all_label_names, at_first_name, first_past, Chains, chain_to, long_chains, deep_definitions, count_offences}
use Rattle.pcal_tree.proofs.FirstLaws.{Below, lesser_first}
use Rattle.algorithm_answer.specs.TokensRefused.{left_out_at, at_first_token, past_tokens_at, token_refusals}

-- by a rule up to that on what is left out; and by none of them
abbrev pub IsLeftOut : List Refusal → Type 0
IsLeftOut rs = list_any (Below 12) rs ≡ true

abbrev pub AreLater : List Refusal → Type 0
AreLater rs = list_any (Below 12) rs ≡ false

-- ---- what is past a limit is later

both_later : (xs ys : List Refusal) → AreLater xs → AreLater ys → AreLater (xs ++ ys)
both_later xs ys h k = list_any-append (Below 12) xs ys ∙ by (list_any (Below 12) xs) h
  where
    by : (b : Bool) → b ≡ false → (b || list_any (Below 12) ys) ≡ false
    by true e = e
    by false e = k

one_later : (b : Bool) (p : Place) → AreLater (offence_if b TooMany p)
one_later true p = refl
one_later false p = refl

token_later : (ts : List text.Token) → AreLater (at_first_token ts)
token_later [] = refl
token_later (t ∷ ts) = refl

name_later : (xs : List Name) → AreLater (at_first_name xs)
name_later [] = refl
name_later (x ∷ xs) = refl

chains_later : (cs : Chains) (ds : List Macro) → AreLater (long_chains cs ds)
chains_later cs [] = refl
chains_later cs (d ∷ ds) = both_later (offence_if (nat_lt longest_chain (chain_to cs d)) TooMany d.name.place) _ (one_later (nat_lt longest_chain (chain_to cs d)) d.name.place) (chains_later ((d.name.word, chain_to cs d) ∷ cs) ds)

definitions_later : (ds : Depths) (es : List Definition) → AreLater (deep_definitions ds es)
definitions_later ds [] = refl
definitions_later ds (e ∷ es) =
    both_later (offence_if (nat_lt deepest_definition (definition_nests ds (inner e))) TooMany e.name.place) _ (one_later (nat_lt deepest_definition (definition_nests ds (inner e))) e.name.place) (definitions_later (depths ds (inner e ∷ [])) es)

pub counts_later : (a : Algorithm) → AreLater (count_offences a)
counts_later a =
    both_later (first_past most_variables (variable_names a)) _ (name_later (drop most_variables (variable_names a)))
    (both_later (first_past most_processes (process_names a.main)) _ (name_later (drop most_processes (process_names a.main)))
    (both_later (first_past most_procedures (procedure_names a)) _ (name_later (drop most_procedures (procedure_names a)))
    (both_later (first_past most_labels (all_label_names a)) _ (name_later (drop most_labels (all_label_names a)))
    (both_later (long_chains [] a.macros) _ (chains_later [] a.macros) (definitions_later [] a.definitions)))))

-- ---- so what is left out comes first

pub left_out_first : (ts : List text.Token) (rs : List Refusal) → IsLeftOut (left_out_at ts) → AreLater rs → first (token_refusals ts ++ rs) ≡ first (left_out_at ts)
left_out_first ts rs h k =
    ap first (append_assoc (left_out_at ts) (past_tokens_at ts) rs) ∙ lesser_first 12 (left_out_at ts) (past_tokens_at ts ++ rs) h (both_later (past_tokens_at ts) rs (token_later (drop most_tokens ts)) k)

pub some_first : (rs : List Refusal) → IsLeftOut rs → None ≡ first rs → ⊥
some_first [] h e = absurd cc
some_first (r ∷ rs) h e = absurd cc

-- ---- and without it both grammars see the same

abbrev AreAlike : List text.Token → Type 0
AreAlike ts = (views ts ≡ expression.views ts) ⊎ IsLeftOut (left_out_at ts)

module _ (at : ℕ) (p : Place) (ts : List text.Token) where
  abbrev with_kind : lexeme.Kind → List text.Token
  with_kind k = record { kind = k; at = at; place = p } ∷ ts

  later_alike : (k : lexeme.Kind) → view (record { kind = k; at = at; place = p }) ≡ expression.view (record { kind = k; at = at; place = p }) → AreAlike ts → AreAlike (with_kind k)
  later_alike k e (inl h) = inl (λ i. e i ∷ h i)
  later_alike k e (inr h) = inr (list_any-append (Below 12) (offence_if (is_left_out k ts) LeftOutWord p) (left_out_at ts) ∙ or_right (list_any (Below 12) (offence_if (is_left_out k ts) LeftOutWord p)) (list_any (Below 12) (left_out_at ts)) h)

  one_more : (k : lexeme.Kind) → AreAlike ts → AreAlike (with_kind k)
  one_more (lexeme.name w) h = later_alike (lexeme.name w) refl h
  one_more (lexeme.number n) h = later_alike (lexeme.number n) refl h
  one_more (lexeme.string w) h = later_alike (lexeme.string w) refl h
  one_more (lexeme.one s) h = later_alike (lexeme.one s) refl h
  one_more (lexeme.other w) h = inr refl

pub seen_alike : (ts : List text.Token) → AreAlike ts
seen_alike [] = inl refl
seen_alike (t ∷ ts) = one_more t.at t.place ts t.kind (seen_alike ts)
