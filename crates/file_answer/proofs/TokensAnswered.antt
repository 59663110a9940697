-- What a file whose algorithm has these tokens is answered, where it breaks none of the rules 1 to 10: what reading them is answered, where no number is
-- too big, and else the first word or sign that is left out, or the first number that is too big.
use Rattle.std.proofs.Common.{◌≡◌, inl, inr, ℕ, ◌+◌, Bool, true, false, not, nat_le, nat_lt, List, [], ◌∷◌, ◌++◌, length, Option, Some, None, refl, sym, ap, subst, ◌∙◌, append_assoc}
use Rattle.std.specs.List.{list_all}
use Rattle.std.proofs.lemmas.Bool.{and_parts}
use Rattle.std.proofs.lemmas.List.{map-append}
use Rattle.tla_token.specs.declared.place.Place.{Place}
use Rattle.tla_token.specs.declared.rule.Rule.{Rule}
use Rattle.tla_token.specs.declared.rule.Rule.TheVariants.{NumberTooBig, TooMany, TooDeep, Syntax}
use Rattle.tla_token.specs.declared.rule.Refusal.{Refusal}
use Rattle.tla_token.specs.Places.{place_at}
use Rattle.tla_token.specs.Rules.{rule_number}
use Rattle.tla_token.specs.Limits.{past_numbers}
use Rattle.tla_token.specs.Lexemes.{Kind, name, number, string, one, other}
use Rattle.tla_token.specs.Signs.{is_among}
use Rattle.tla_token.specs.Tokens.{Token, Tok, TokAlgorithm, openings, holds_mark, is_unmarked, unmarked_kind}
use Rattle.tla_token.specs.Offences.{Offence, kind_offences}
use Rattle.tla_token.specs.AlgorithmOffences.{left_out, number_offences, too_many_tokens, algorithm_offences}
use Rattle.tla_token.proofs.Unique.{one_list}
use Rattle.pcal_tree.specs.Offences.{first}
use Rattle.pcal_tree.specs.OffencesCounts.{count_offences}
use Rattle.module_tree.specs.TextFront.{Text}
use Rattle.module_tree.specs.AlgorithmText.{AlgorithmText, algorithm_in, algorithm_tokens}
use Rattle.module_tree.specs.FileOffences.{splitting_offences}
use Rattle.module_tree.proofs.FineFiles.{all_more}
use Rattle.algorithm_answer.specs.TokensRefused.{left_out_at, placed}
use Rattle.algorithm_answer.specs.Answered.{or_counts, AreAnswered}
use Rattle.algorithm_answer.proofs.PlacedTokens.{algorithm_placed, left_out_placed, refusals_placed}
use Rattle.file_answer.specs.Spelling.{syntax_at, AreRead, AreCounted, AnswersRewriting}
use Rattle.file_answer.proofs.OneAnswer.{read_or_refused}
use Rattle.file_answer.proofs.Unrefused.{if_all, left_all, many_all, none_first}
use Rattle.file_answer.proofs.Decided.{told_all, read_all, algorithm_decides}
use Rattle.file_answer.proofs.FirstRule.{front_first}
use Rattle.file_answer.proofs.AlgorithmStretch.{has_tokens, word_within, some_opening}

-- ---- no number is too big

pub tokens_answer : (x : Text) (a : AlgorithmText) (answer : Option Refusal) → splitting_offences x ≡ [] → algorithm_in x ≡ Some a → number_offences (algorithm_tokens x a) ≡ []
    → AreAnswered (syntax_at a) (algorithm_tokens x a) (place_at x a.rest.to) answer → AnswersRewriting x answer
tokens_answer x a answer fine is small h =
    let ts = algorithm_tokens x a in
    let t = has_tokens x a fine is in
    let same = refusals_placed x ts (algorithm_placed x a.from a.rest.to ts t (word_within x a.from a.rest.to ts t).1) small in
    subst (AnswersRewriting x) (ap (λ (rs : List Refusal). first (rs ++ or_counts h.syntax h.counts)) same ∙ sym h.is) (algorithm_decides x a h.syntax h.counts fine is h.read h.counted)

-- ---- words and signs that are left out

-- the first token is none of them
first_kept : (w : List ℕ) (at : ℕ) (p : Place) (ts : List Token) → is_among openings w ≡ true → left_out_at (record { kind = name w; at = at; place = p } ∷ ts) ≡ left_out_at ts
first_kept w at p ts h =
    elim (some_opening w h) [
      | inl e ↦ ap (λ (w : List ℕ). left_out_at (record { kind = name w; at = at; place = p } ∷ ts)) e
      | inr e ↦ ap (λ (w : List ℕ). left_out_at (record { kind = name w; at = at; place = p } ∷ ts)) e
    ]

pub words_are : (x : Text) (from to : ℕ) (ts us : List Token) (t : TokAlgorithm x from to ts) → Tok x (from + length t.opening) to us → left_out_at us ≡ placed x (left_out ts)
words_are x from to ts us t k =
    sym (left_out_placed x ts (algorithm_placed x from to ts t (word_within x from to ts t).1) ∙ ap left_out_at t.tokens ∙ first_kept t.opening from (place_at x from) t.more t.is_opening
    ∙ ap left_out_at (one_list x (from + length t.opening) to t.more us t.tok k))

-- ---- a number is too big

-- of such offences none is of another rule, where no string holds a mark of a comment
numbers_all : (p : Rule → Bool) → p NumberTooBig ≡ true → (ts : List Token) → list_all is_unmarked ts ≡ true → list_all (λ (o : Offence). p o.0) (number_offences ts) ≡ true
numbers_all p big [] h = refl
numbers_all p big (t ∷ ts) h =
    let k = and_parts (is_unmarked t) (list_all is_unmarked ts) h in
    all_more (λ (o : Offence). p o.0) (kind_offences true t.at t.kind) (number_offences ts) (by t.kind k.0) (numbers_all p big ts k.1)
  where
    plain : (w : List ℕ) (b : Bool) → holds_mark w ≡ b → not (holds_mark w) ≡ true → list_all (λ (o : Offence). p o.0) (kind_offences true t.at (string w)) ≡ true
    plain w true b e = (let f : false ≡ true = rw b at e in absurd cc)
    plain w false b e = rw b refl

    by : (k : Kind) → unmarked_kind k ≡ true → list_all (λ (o : Offence). p o.0) (kind_offences true t.at k) ≡ true
    by (number n) e = if_all p (nat_le past_numbers n) NumberTooBig t.at big
    by (string w) e = plain w (holds_mark w) refl e
    by (name w) e = refl
    by (one s) e = refl
    by (other w) e = refl

-- what reading answers there is
record Read (x : Text) (a : AlgorithmText) : Type 0 where
  pub stop : Option Refusal
  pub counts : List Refusal
  pub read : AreRead x a stop
  pub counted : AreCounted x a stop counts

is_read : (x : Text) (a : AlgorithmText) → Read x a
is_read x a =
    elim (read_or_refused (syntax_at a) (algorithm_tokens x a) (place_at x a.rest.to)) [
      | inl h ↦ record { stop = None; counts = count_offences h.0; read = h.1; counted = (h.0, h.2, refl) }
      | inr h ↦ record { stop = Some h.0; counts = []; read = h.1; counted = refl }
    ]

regrouped : (a b d e : List Refusal) → (a ++ (b ++ d)) ++ e ≡ a ++ (b ++ (d ++ e))
regrouped a b d e = append_assoc a (b ++ d) e ∙ ap (λ (u : List Refusal). a ++ u) (append_assoc b d e)

-- the one that is in front, or that behind
abbrev pub or_later : Option Refusal → Refusal → Refusal
or_later (Some r) q = r
or_later None q = q

-- all its tokens, none of which holds a mark
all_unmarked : (x : Text) (from to : ℕ) (ts : List Token) → TokAlgorithm x from to ts → list_all is_unmarked ts ≡ true
all_unmarked x from to ts t = subst (λ (us : List Token). list_all is_unmarked us ≡ true) (sym t.tokens) t.unmarked

pub numbers_answer : (x : Text) (a : AlgorithmText) (word : Option Refusal) (big : Refusal) → splitting_offences x ≡ [] → algorithm_in x ≡ Some a → word ≡ first (placed x (left_out (algorithm_tokens x a)))
    → first (placed x (number_offences (algorithm_tokens x a))) ≡ Some big → AnswersRewriting x (Some (or_later word big))
numbers_answer x a word big fine is w n = subst (AnswersRewriting x) (ap first split ∙ by word (sym w)) (algorithm_decides x a d.stop d.counts fine is d.read d.counted)
  where
    d : Read x a
    d = is_read x a

    ts : List Token
    ts = algorithm_tokens x a

    words : List Refusal
    words = placed x (left_out ts)

    numbers : List Refusal
    numbers = placed x (number_offences ts)

    behind : List Refusal
    behind = placed x (too_many_tokens ts) ++ or_counts d.stop d.counts

    split : placed x (algorithm_offences ts) ++ or_counts d.stop d.counts ≡ words ++ (numbers ++ behind)
    split =
        ap (λ (rs : List Refusal). rs ++ or_counts d.stop d.counts) (map-append _ (left_out ts) (number_offences ts ++ too_many_tokens ts) ∙ ap (λ (rs : List Refusal). words ++ rs) (map-append _ (number_offences ts) (too_many_tokens ts)))
        ∙ regrouped words numbers (placed x (too_many_tokens ts)) (or_counts d.stop d.counts)

    unmarked : list_all is_unmarked ts ≡ true
    unmarked = all_unmarked x a.from a.rest.to ts (has_tokens x a fine is)

    -- what is behind is of the rules 13 to 15
    late : (p : Rule → Bool) → p TooMany ≡ true → p TooDeep ≡ true → p Syntax ≡ true → list_all (λ (r : Refusal). p r.rule) behind ≡ true
    late p many deep syntax =
        all_more (λ (r : Refusal). p r.rule) (placed x (too_many_tokens ts)) (or_counts d.stop d.counts) (told_all p x (too_many_tokens ts) (many_all p many ts)) (read_all p many deep syntax x a d.stop d.counts d.read d.counted)

    up_to_rule : ℕ → Rule → Bool
    up_to_rule n r = nat_le (rule_number r) n

    past_rule : ℕ → Rule → Bool
    past_rule n r = nat_lt n (rule_number r)

    by : (o : Option Refusal) → first words ≡ o → first (words ++ (numbers ++ behind)) ≡ Some (or_later o big)
    by (Some r) o =
        front_first 11 words (numbers ++ behind) r (told_all (up_to_rule 11) x (left_out ts) (left_all (up_to_rule 11) refl ts))
        (all_more (λ (r : Refusal). past_rule 11 r.rule) numbers behind (told_all (past_rule 11) x (number_offences ts) (numbers_all (past_rule 11) refl ts unmarked)) (late (past_rule 11) refl refl refl)) o
    by None o =
        ap (λ (rs : List Refusal). first (rs ++ (numbers ++ behind))) (none_first words o)
        ∙ front_first 12 numbers behind big (told_all (up_to_rule 12) x (number_offences ts) (numbers_all (up_to_rule 12) refl ts unmarked)) (late (past_rule 12) refl refl refl) n
