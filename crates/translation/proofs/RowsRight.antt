-- That nothing is wrong with a worked file, from what is computed of it: its tokens are those of an algorithm, and no rule is broken.
use Rattle.std.proofs.Common.{◌≡◌, [], Bool, Option, Some, None, refl, sym, ap, subst}
use Rattle.tla_token.specs.AlgorithmOffences as token_rules
use Rattle.tla_tree.specs.FirstStop.{Passes, to_end}
use Rattle.tla_value.specs.Outside.{Outside}
use Rattle.pcal_tree.specs.Algorithm.{Algorithm}
use Rattle.pcal_tree.specs.AlgorithmTokens.{views}
use Rattle.pcal_tree.specs.Grammar.{Spells, spell, algorithm_of, Good, p_syntax}
use Rattle.pcal_tree.specs.Grammar as spelled
use Rattle.pcal_tree.specs.Labelled.{labelled}
use Rattle.pcal_tree.specs.OffencesCounts.{count_offences}
use Rattle.pcal_tree.specs.OffencesSyntax.{algorithms}
use Rattle.module_tree.specs.AlgorithmText.{AlgorithmText, algorithm_at, algorithm_in, algorithm_tokens}
use Rattle.module_tree.specs.FileOffences.{file_offences}
use Rattle.module_tree.specs.TextFront.{Text}
use Rattle.module_tree.specs.Walk.{walk}
use Rattle.module_tree.specs.laws.Outsides.{HasOutside}
use Rattle.module_tree.proofs.SomeOutside.{one_outside_of}
use Rattle.algorithm_answer.specs.TokensRefused.{placed}
use Rattle.file_answer.specs.Checking.{OfTree, AnswersChecking}
use Rattle.file_answer.specs.Holds.{HoldsTree}
use Rattle.file_answer.specs.Refusals.{Wrong}
use Rattle.file_answer.specs.Spelling.{of_rules, syntax_at, AreRead, AreCounted, OfAlgorithm}
use Rattle.file_answer.proofs.OneTree.{one_held}

abbrev pub nothing : Wrong
nothing = record { bytes = []; parts = []; tokens = []; syntax = None; counts = []; names = []; labels = [] }

-- the text of an algorithm that is there
abbrev pub text_of : Option AlgorithmText → AlgorithmText
text_of (Some a) = a
text_of None = algorithm_at 0 0 []

-- the text a of an algorithm is spelled by t, within the limits
pub record IsSpelled (x : Text) (t : spelled.Text) (a : AlgorithmText) : Type 0 where
  pub is_text : algorithm_in x ≡ Some a
  pub syntax : syntax_at a ≡ p_syntax
  pub good : Good p_syntax t
  pub told : views (algorithm_tokens x a) ≡ spell t []
  pub passes : Passes (algorithms p_syntax) (to_end (spell t []))
  pub fine : file_offences x ≡ []
  pub tokens : token_rules.algorithm_offences (algorithm_tokens x a) ≡ []
  pub counts : count_offences (algorithm_of t) ≡ []

module _ (x : Text) (t : spelled.Text) (a : AlgorithmText) (k : IsSpelled x t a) (o : Outside) (has : HasOutside (walk x) o) where
  spells : Spells p_syntax (algorithm_tokens x a) (algorithm_of t)
  spells = (t, k.good, k.told, refl)

  pub spelled_holds : HoldsTree x (algorithm_of t)
  spelled_holds = record { text = a; is_text = k.is_text; syntax = p_syntax; spelled = spells }

  read : AreRead x a None
  read = subst (λ s. Passes (algorithms s) (to_end (views (algorithm_tokens x a)))) (sym k.syntax) (subst (λ ts. Passes (algorithms p_syntax) (to_end ts)) (sym k.told) k.passes)

  counted : AreCounted x a None []
  counted = (algorithm_of t, subst (λ s. Spells s (algorithm_tokens x a) (algorithm_of t)) (sym k.syntax) spells, sym k.counts)

  of_algorithm : OfAlgorithm x nothing (algorithm_in x)
  of_algorithm = subst (OfAlgorithm x nothing) (sym k.is_text) (ap (placed x) (sym k.tokens), read, counted)

  -- no rule on names and labels is broken by the algorithm with labels added, whether they are added to all or not
  pub nothing_wrong : (forced : Bool) → OfTree nothing o (labelled forced (algorithm_of t)) → AnswersChecking forced x None
  nothing_wrong forced of_tree = (
    nothing,
    record {
      spelling = record {
        bytes = ap (λ os. placed x (of_rules 1 4 os)) (sym k.fine);
        parts = ap (λ os. placed x (of_rules 5 10 os)) (sym k.fine);
        algorithm = of_algorithm;
        names = refl;
        labels = refl;
      };
      tree = λ g q h s.
          subst (λ (g : Algorithm). OfTree nothing q (labelled forced g)) (one_held x (algorithm_of t) g spelled_holds h)
          (subst (λ (q : Outside). OfTree nothing q (labelled forced (algorithm_of t))) (one_outside_of (walk x) o q has s) of_tree);
      no_tree = λ n. absurd (n (algorithm_of t) spelled_holds);
    },
    refl,
  )
