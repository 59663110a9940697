-- Nothing is wrong with a translated file, labels added too, where nothing was wrong with the file before.
use Rattle.std.proofs.Common.{◌≡◌, ℕ, Bool, List, [], ◌∷◌, ◌++◌, map, Option, Some, None, refl, sym, ap, subst, ◌∙◌}
use Rattle.std.specs.Prelude.{if◌then◌else◌}
use Rattle.tla_token.specs.declared.rule.Refusal.{Refusal}
use Rattle.tla_token.specs.Offences.{Offence}
use Rattle.tla_token.specs.Tokens as text
use Rattle.tla_tree.specs.FirstStop.{looks, Passes}
use Rattle.tla_value.specs.Outside.{Outside}
use Rattle.pcal_tree.specs.Algorithm.{Algorithm}
use Rattle.pcal_tree.specs.AlgorithmTokens.{kind_of, views}
use Rattle.pcal_tree.specs.Grammar.{Syntax, p_syntax, c_syntax, algorithm_of, Spells}
use Rattle.pcal_tree.specs.Labelled.{labelled}
use Rattle.pcal_tree.specs.OffencesCounts.{count_offences}
use Rattle.pcal_tree.specs.OffencesLabels.{label_offences}
use Rattle.pcal_tree.specs.OffencesSyntax.{algorithms, PassesTokens}
use Rattle.pcal_tree.specs.Placeless.{placeless}
use Rattle.pcal_tree.proofs.ClearLabels.{both_none}
use Rattle.pcal_tree.proofs.LinesGood.{spelled_again}
use Rattle.module_tree.specs.AlgorithmText.{AlgorithmText, Stage, is_c, algorithm_in, algorithm_tokens}
use Rattle.module_tree.specs.TextFront.{Text}
use Rattle.module_tree.specs.Walk.{walk}
use Rattle.module_tree.specs.WithTranslation.{WithTranslation}
use Rattle.module_tree.specs.laws.Kept.{IsFine, SameAlgorithm, TokensMoved}
use Rattle.module_tree.specs.laws.Outsides.{HasOutside}
use Rattle.module_tree.specs.laws.Walks.{IsInside}
use Rattle.module_tree.proofs.AlgorithmMoved.{tokens_kept, token_offences_kept}
use Rattle.module_tree.proofs.AlgorithmSame.{algorithm_kept}
use Rattle.module_tree.proofs.FineKept.{fine_kept}
use Rattle.module_tree.proofs.SomeOutside.{some_outside}
use Rattle.algorithm_answer.specs.TokensRefused.{placed}
use Rattle.file_answer.specs.Checking.{OfTree, AnswersChecking}
use Rattle.file_answer.specs.Holds.{HoldsTree}
use Rattle.file_answer.specs.Refusals.{Wrong}
use Rattle.file_answer.specs.Spelling.{of_rules, syntax_at, AreRead, AreCounted, OfAlgorithm, IsSpelling}
use Rattle.file_answer.proofs.OneTree.{one_held}
use Rattle.file_answer.proofs.SpelledInFile.{looks_moved, spelled_moved}
use Rattle.translation.proofs.AgainCounts.{count_offences_bare}
use Rattle.translation.proofs.AgainLabels.{labels_alike}
use Rattle.translation.proofs.AgainOffences.{rules}
use Rattle.translation.proofs.AgainOutside.{none_alike, no_names, no_labels, not_too_large}
use Rattle.translation.proofs.AgainWritten.{outside_same}
use Rattle.translation.proofs.KeptAccepted.{NothingWrong, nothing_wrong, checked_is_fine, some_stands, none_of_tokens}

-- ---- what is wrong with the algorithm's tokens: nothing

-- the tokens pass, and what they spell is within the limits
record Counted (s : Syntax) (ts : List text.Token) : Type 0 where
  passes : PassesTokens s ts
  tree : Algorithm
  spelled : Spells s ts tree
  none : count_offences tree ≡ []

module _ (forced : Bool) (x : Text) (right : AnswersChecking forced x None) where
  wrong : NothingWrong right.0
  wrong = nothing_wrong right.0 right.2

  counted_there : (a : AlgorithmText) → algorithm_in x ≡ Some a → Counted (syntax_at a) (algorithm_tokens x a)
  counted_there a is = by (subst (OfAlgorithm x (record right.0 { names = []; labels = [] })) is right.1.spelling.algorithm)
    where
      read : (o : Option Refusal) → o ≡ None → AreRead x a o → AreRead x a None
      read o e h = subst (AreRead x a) e h

      counts : (o : Option Refusal) (cs : List Refusal) → o ≡ None → AreCounted x a o cs → AreCounted x a None cs
      counts o cs e h = subst (λ (p : Option Refusal). AreCounted x a p cs) e h

      by : OfAlgorithm x (record right.0 { names = []; labels = [] }) (Some a) → Counted (syntax_at a) (algorithm_tokens x a)
      by (tokens, passed, counted) =
          let c = counts right.0.syntax right.0.counts wrong.syntax counted in
          record { passes = read right.0.syntax wrong.syntax passed; tree = c.0; spelled = c.1; none = sym c.2 ∙ wrong.counts }

-- in other lines, the syntax being the same
counted_moved : (s y : Syntax) (ts us : List text.Token) → s ≡ y → looks (views ts) ≡ looks (views us) → (c : Counted s ts) → (d : Counted y us) × (placeless d.tree ≡ placeless c.tree)
counted_moved s y ts us same e c = (
  record {
    passes = subst (λ (z : Syntax). PassesTokens z us) same (subst (λ ls. Passes (algorithms s) (map Some ls ++ None ∷ [])) e c.passes);
    tree = moved.0;
    spelled = subst (λ (z : Syntax). Spells z us moved.0) same moved.1;
    none = none_alike (count_offences moved.0) (count_offences c.tree) (sym (count_offences_bare moved.0) ∙ ap (λ (b : Algorithm). rules (count_offences b)) moved.2 ∙ count_offences_bare c.tree) c.none;
  },
  moved.2,
)
  where
    moved : (h : Algorithm) × Spells s us h × (placeless h ≡ placeless c.tree)
    moved = spelled_moved s ts us c.tree e c.spelled

-- ---- the file

module _ (forced : Bool) (x t w : Text) (right : AnswersChecking forced x None) (inside : IsInside t) (put : WithTranslation x t w) where
  fine : IsFine x
  fine = checked_is_fine forced x right

  fine_there : IsFine w
  fine_there = fine_kept x t w fine inside put

  abbrev a : AlgorithmText
  a = (some_stands forced x right).1.text

  is_there : algorithm_in x ≡ Some a
  is_there = (some_stands forced x right).1.is_text

  kept : (b : AlgorithmText) × (algorithm_in w ≡ Some b) × SameAlgorithm a b
  kept = algorithm_kept x t w a fine inside put is_there

  alike : looks (views (algorithm_tokens x a)) ≡ looks (views (algorithm_tokens w kept.0))
  alike =
      let moved = tokens_kept x t w a kept.0 fine inside put is_there kept.1 in
      looks_moved moved.bytes_here moved.bytes_there moved.lines_here moved.lines_there (algorithm_tokens x a) (algorithm_tokens w kept.0) moved.tokens

  here : Counted (syntax_at a) (algorithm_tokens x a)
  here = counted_there forced x right a is_there

  there : (d : Counted (syntax_at kept.0) (algorithm_tokens w kept.0)) × (placeless d.tree ≡ placeless here.tree)
  there = counted_moved (syntax_at a) (syntax_at kept.0) (algorithm_tokens x a) (algorithm_tokens w kept.0) (ap (λ (st : Stage). if is_c st then c_syntax else p_syntax) kept.2.stage) alike here

  held_here : HoldsTree x here.tree
  held_here = record { text = a; is_text = is_there; syntax = syntax_at a; spelled = here.spelled }

  held_there : HoldsTree w there.0.tree
  held_there = record { text = kept.0; is_text = kept.1; syntax = syntax_at kept.0; spelled = there.0.spelled }

  abbrev nothing : Wrong
  nothing = record { bytes = []; parts = []; tokens = []; syntax = None; counts = []; names = []; labels = [] }

  spelling : IsSpelling w nothing
  spelling = record {
    bytes = sym (ap (λ (os : List Offence). placed w (of_rules 1 4 os)) fine_there);
    parts = sym (ap (λ (os : List Offence). placed w (of_rules 5 10 os)) fine_there);
    algorithm =
        subst (OfAlgorithm w nothing) (sym kept.1)
        (sym (ap (placed w) (token_offences_kept x t w a kept.0 fine inside put is_there kept.1 (none_of_tokens forced x right a is_there))), there.0.passes, (there.0.tree, there.0.spelled, sym there.0.none));
    names = refl;
    labels = refl;
  }

  of_tree : (o : Outside) → HasOutside (walk w) o → OfTree nothing o (labelled forced there.0.tree)
  of_tree o has =
      let q = some_outside (walk x) in
      let tree = right.1.tree here.tree q.0 held_here q.1 in
      let none = both_none (label_offences (labelled forced here.tree)) _ (sym tree.labels ∙ (wrong forced x right).labels) in
      let same = labels_alike forced here.tree there.0.tree there.1 in
      record {
        names = sym (no_names (labelled forced here.tree) (labelled forced there.0.tree) same q.0 o (outside_same x t w q.0 o fine inside put q.1 has) (sym tree.names ∙ (wrong forced x right).names));
        labels = λ i. sym (no_labels (labelled forced here.tree) (labelled forced there.0.tree) same none.0) i ++ sym (not_too_large (labelled forced here.tree) (labelled forced there.0.tree) same none.1) i;
      }

  pub checked_again : AnswersChecking forced w None
  checked_again = (
    nothing,
    record {
      spelling = spelling;
      tree = λ g o held has. subst (λ (h : Algorithm). OfTree nothing o (labelled forced h)) (one_held w there.0.tree g held_there held) (of_tree o has);
      no_tree = λ k. (refl, refl);
    },
    refl,
  )
