-- Where nothing is wrong with a file, its algorithm, with labels added, is accepted beside what the file has outside.
use Rattle.std.proofs.Common.{◌≡◌, ◌<◌, ◌⊎◌, inl, inr, Bool, true, List, [], ◌∷◌, ◌++◌, cond, length, Option, Some, None, refl, sym, ap, subst, ◌∙◌}
use Rattle.std.specs.Prelude.{nat_le, filter}
use Rattle.std.proofs.lemmas.Option.{same_Some}
use Rattle.tla_token.specs.declared.rule.Refusal.{Refusal}
use Rattle.tla_token.specs.declared.rule.Rule.{Rule}
use Rattle.tla_token.specs.declared.rule.Rule.TheVariants.{NotAscii}
use Rattle.tla_token.specs.AlgorithmOffences.{algorithm_offences}
use Rattle.tla_token.specs.Limits.{past_text}
use Rattle.tla_token.specs.Rules.{rule_number}
use Rattle.tla_token.specs.Tokens.{Token}
use Rattle.tla_token.proofs.Unique.{one_algorithm}
use Rattle.tla_value.specs.Outside.{Outside}
use Rattle.pcal_tree.specs.Algorithm.{Algorithm}
use Rattle.pcal_tree.specs.Grammar.{Syntax, p_syntax, c_syntax, Spells, SpellsP, SpellsC}
use Rattle.pcal_tree.specs.Labelled.{labelled}
use Rattle.pcal_tree.specs.Offences.{first}
use Rattle.pcal_tree.specs.OffencesLabels.{label_offences}
use Rattle.pcal_tree.proofs.ClearLabels.{both_none}
use Rattle.module_tree.specs.AlgorithmText.{AlgorithmText, algorithm_in, algorithm_tokens}
use Rattle.module_tree.specs.FileOffences.{is_splitting, splitting_offences}
use Rattle.module_tree.specs.TextFront.{Text}
use Rattle.module_tree.specs.Walk.{walk}
use Rattle.module_tree.specs.laws.Kept.{IsFine}
use Rattle.module_tree.specs.laws.Outsides.{HasOutside}
use Rattle.algorithm_answer.specs.Answered.{or_counts}
use Rattle.algorithm_answer.specs.TokensRefused.{placed}
use Rattle.promise.specs.Headline.{Stands}
use Rattle.file_answer.specs.Checking.{OfTree, AnswersChecking}
use Rattle.file_answer.specs.Holds.{HoldsTree}
use Rattle.file_answer.specs.Refusals.{Wrong, or_else, counting, up_to, of_spelling, of_all, refusal_of}
use Rattle.file_answer.specs.Spelling.{OfAlgorithm, AnswersRewriting}
use Rattle.file_answer.proofs.AlgorithmStretch.{has_tokens}
use Rattle.file_answer.proofs.Unrefused.{none_first, unrefused_is_fine, unrefused_holds}
use Rattle.translation.specs.laws.AcceptedAlgorithm.{IsAccepted, IsAcceptedInFile}

-- ---- nothing counts, so nothing is wrong

in_all : (r : Rule) → nat_le (rule_number r) of_all ≡ true
in_all NotAscii = refl
in_all r = refl

all_counted : (rs : List Refusal) → up_to of_all rs ≡ [] → rs ≡ []
all_counted [] e = refl
all_counted (r ∷ rs) e = (let f : r ∷ up_to of_all rs ≡ [] = ap (λ (b : Bool). cond b (r ∷ up_to of_all rs) (up_to of_all rs)) (sym (in_all r.rule)) ∙ e in absurd cc)

neither : (early late : List Refusal) → or_else early late ≡ [] → (early ≡ []) × (late ≡ [])
neither [] late e = (refl, e)
neither (r ∷ rs) late e = absurd cc

nothing_counted : (stop : Option Refusal) (counts : List Refusal) → or_counts stop counts ≡ [] → (stop ≡ None) × (counts ≡ [])
nothing_counted None counts e = (refl, e)
nothing_counted (Some r) counts e = absurd cc

none_placed : (x : Text) (ts : List Token) → placed x (algorithm_offences ts) ≡ [] → algorithm_offences ts ≡ []
none_placed x ts e = by (algorithm_offences ts) e
  where
    by : (os : List _) → placed x os ≡ [] → os ≡ []
    by [] e = refl
    by (o ∷ os) e = absurd cc

-- each list of what is wrong has no member
pub record NothingWrong (w : Wrong) : Type 0 where
  pub bytes : w.bytes ≡ []
  pub parts : w.parts ≡ []
  pub tokens : w.tokens ≡ []
  pub syntax : w.syntax ≡ None
  pub counts : w.counts ≡ []
  pub names : w.names ≡ []
  pub labels : w.labels ≡ []

pub nothing_wrong : (w : Wrong) → refusal_of of_all w ≡ None → NothingWrong w
nothing_wrong w e =
    let all : counting w ≡ [] = all_counted (counting w) (none_first (up_to of_all (counting w)) e) in
    let a = neither w.bytes _ all in
    let b = both_none w.parts _ a.1 in
    let c = both_none w.tokens _ b.1 in
    let d = nothing_counted w.syntax _ c.1 in
    let k = both_none w.counts _ d.1 in
    let n = neither w.names w.labels k.1 in
    record { bytes = a.0; parts = b.0; tokens = c.0; syntax = d.0; counts = k.0; names = n.0; labels = n.1 }

-- as nothing is refused where all rules count, so nothing is where only those on spelling do
pub checked_is_spelled : (forced : Bool) (x : Text) → AnswersChecking forced x None → AnswersRewriting x None
checked_is_spelled forced x (w, h, e) = (record w { names = []; labels = [] }, h.spelling, none)
  where
    n : NothingWrong w
    n = nothing_wrong w e

    none : refusal_of of_spelling (record w { names = []; labels = [] }) ≡ None
    none = λ i. first (up_to of_spelling (or_else (n.bytes i) (n.parts i ++ (n.tokens i ++ or_counts (n.syntax i) (n.counts i ++ or_else [] [])))))

-- ---- the algorithm that is in it

-- no token of it breaks a rule
pub none_of_tokens : (forced : Bool) (x : Text) → AnswersChecking forced x None → (a : AlgorithmText) → algorithm_in x ≡ Some a → algorithm_offences (algorithm_tokens x a) ≡ []
none_of_tokens forced x (w, h, e) a is = by (algorithm_in x) h.spelling.algorithm is
  where
    by : (o : Option AlgorithmText) → OfAlgorithm x (record w { names = []; labels = [] }) o → o ≡ Some a → algorithm_offences (algorithm_tokens x a) ≡ []
    by None k f = absurd cc
    by (Some b) k f =
        subst (λ (a : AlgorithmText). algorithm_offences (algorithm_tokens x a) ≡ []) (same_Some b a f) (none_placed x (algorithm_tokens x b) (sym k.0 ∙ (nothing_wrong w e).tokens))

-- a tree of these tokens
abbrev InOne : List Token → Algorithm → Type 0
InOne ts g = SpellsP ts g ⊎ SpellsC ts g

in_one : (s : Syntax) (ts : List Token) (g : Algorithm) → Spells s ts g → InOne ts g
in_one p_syntax ts g h = inl h
in_one c_syntax ts g h = inr h

some_syntax : (ts : List Token) (g : Algorithm) → InOne ts g → (s : Syntax) × Spells s ts g
some_syntax ts g (inl h) = (p_syntax, h)
some_syntax ts g (inr h) = (c_syntax, h)

-- where nothing is wrong, the tree that the tokens spell is the algorithm that stands in the text, and the other way round
module _ (forced : Bool) (x : Text) (right : AnswersChecking forced x None) where
  pub checked_is_fine : IsFine x
  checked_is_fine = unrefused_is_fine x (checked_is_spelled forced x right)

  splits : splitting_offences x ≡ []
  splits = ap (filter is_splitting) checked_is_fine

  pub some_stands : (g : Algorithm) × Stands x g
  some_stands =
      let h = unrefused_holds x (checked_is_spelled forced x right) in (
        h.0,
        record {
          text = h.1.text;
          is_text = h.1.is_text;
          tokens = algorithm_tokens x h.1.text;
          tok = has_tokens x h.1.text splits h.1.is_text;
          spelled = in_one h.1.syntax (algorithm_tokens x h.1.text) h.0 h.1.spelled;
        },
      )

  module _ (g : Algorithm) (s : Stands x g) where
    own_tokens : algorithm_tokens x s.text ≡ s.tokens
    own_tokens = one_algorithm x s.text.from s.text.rest.to (algorithm_tokens x s.text) s.tokens (has_tokens x s.text splits s.is_text) s.tok

    spells : (y : Syntax) × Spells y s.tokens g
    spells = some_syntax s.tokens g s.spelled

    pub stands_held : HoldsTree x g
    stands_held = record {
      text = s.text;
      is_text = s.is_text;
      syntax = spells.0;
      spelled = subst (λ (ts : List Token). Spells spells.0 ts g) (sym own_tokens) spells.1;
    }

    -- with labels added it breaks no rule
    pub stands_accepted : (o : Outside) → HasOutside (walk x) o → IsAccepted o (labelled forced g)
    stands_accepted o has = record {
      syntax = spells.0;
      text = x;
      from = s.text.from;
      to = s.text.rest.to;
      tokens = s.tokens;
      tok = s.tok;
      rules = subst (λ (ts : List Token). algorithm_offences ts ≡ []) own_tokens (none_of_tokens forced x right s.text s.is_text);
      typed = g;
      spelled = spells.1;
      forced = forced;
      labels_added = refl;
      names = sym tree.names ∙ none.names;
      labels = (both_none (label_offences (labelled forced g)) _ (sym tree.labels ∙ none.labels)).0;
    }
      where
        none : NothingWrong right.0
        none = nothing_wrong right.0 right.2

        tree : OfTree right.0 o (labelled forced g)
        tree = right.1.tree g o stands_held has

    pub stands_in_file : (o : Outside) → HasOutside (walk x) o → length x < past_text → IsAcceptedInFile o (labelled forced g)
    stands_in_file o has short = record { file = x; accepted = stands_accepted o has; short = short; outside = has }
