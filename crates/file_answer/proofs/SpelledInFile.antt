-- The algorithm that the tokens of a file spell is in it; and it is in the file with a translation too, places aside.
use Rattle.std.proofs.Common.{◌≡◌, inl, inr, ℕ, List, [], ◌∷◌, Some, refl, ap, subst, ◌∙◌}
use Rattle.std.specs.Prelude.{filter}
use Rattle.tla_token.specs.Tokens as text
use Rattle.tla_token.specs.Tokens.{TokAlgorithm}
use Rattle.tla_token.proofs.Unique as token
use Rattle.tla_tree.specs.FirstStop.{looks}
use Rattle.pcal_tree.specs.Algorithm.{Algorithm}
use Rattle.pcal_tree.specs.AlgorithmTokens.{kind_of, views}
use Rattle.pcal_tree.specs.Grammar.{Syntax, p_syntax, c_syntax, algorithm_of, Spells}
use Rattle.pcal_tree.specs.Placeless.{placeless}
use Rattle.pcal_tree.proofs.LinesGood.{spelled_again}
use Rattle.module_tree.specs.TextFront.{Text}
use Rattle.module_tree.specs.AlgorithmText.{AlgorithmText, algorithm_in, algorithm_tokens}
use Rattle.module_tree.specs.FileOffences.{is_splitting}
use Rattle.module_tree.specs.WithTranslation.{WithTranslation}
use Rattle.module_tree.specs.laws.Kept.{IsFine, TokensMoved}
use Rattle.module_tree.specs.laws.Walks.{IsInside}
use Rattle.module_tree.proofs.AlgorithmMoved.{tokens_kept}
use Rattle.module_tree.proofs.AlgorithmSame.{algorithm_kept}
use Rattle.module_tree.proofs.FineKept.{fine_kept}
use Rattle.promise.specs.Headline.{Stands}
use Rattle.file_answer.proofs.AlgorithmStretch.{has_tokens}
use Rattle.file_answer.proofs.OneTree.{InOne, in_one}
use Rattle.file_answer.proofs.AlgorithmsMoved.{same_algorithm}

-- ---- tokens

-- where no rule is broken the tokens of the walk are those of the algorithm's stretch
tokens_cut : (x : Text) (a : AlgorithmText) → IsFine x → algorithm_in x ≡ Some a → TokAlgorithm x a.from a.rest.to (algorithm_tokens x a)
tokens_cut x a fine is = has_tokens x a (ap (filter is_splitting) fine) is

-- and no others are
one_tokens : (x : Text) (g : Algorithm) (s : Stands x g) → IsFine x → s.tokens ≡ algorithm_tokens x s.text
one_tokens x g s fine = token.one_algorithm x s.text.from s.text.rest.to s.tokens (algorithm_tokens x s.text) s.tok (tokens_cut x s.text fine s.is_text)

pub stand_there : (x : Text) (a : AlgorithmText) (s : Syntax) (g : Algorithm) → IsFine x → algorithm_in x ≡ Some a → Spells s (algorithm_tokens x a) g → Stands x g
stand_there x a s g fine is h =
    record { text = a; is_text = is; tokens = algorithm_tokens x a; tok = tokens_cut x a fine is; spelled = in_one s (algorithm_tokens x a) g h }

pub spelled_there : (x : Text) (g : Algorithm) → IsFine x → (s : Stands x g) → InOne (algorithm_tokens x s.text) g
spelled_there x g fine s = subst (λ (ts : List text.Token). InOne ts g) (one_tokens x g s fine) s.spelled

-- ---- the file with a translation

pub looks_moved : (i j m n : ℕ) (ts us : List text.Token) → TokensMoved i j m n ts us → looks (views ts) ≡ looks (views us)
looks_moved i j m n [] [] h = refl
looks_moved i j m n (t ∷ ts) (u ∷ us) (kind, near, more) =
    let others = looks_moved i j m n ts us more in
    λ k. (kind_of (kind k), near.2 k) ∷ others k
looks_moved i j m n [] (u ∷ us) h = absurd h
looks_moved i j m n (t ∷ ts) [] h = absurd h

-- in the same syntax, tokens of other lines spell the same algorithm, places aside
pub spelled_moved : (s : Syntax) (ts us : List text.Token) (g : Algorithm) → looks (views ts) ≡ looks (views us) → Spells s ts g
    → (h : Algorithm) × Spells s us h × (placeless h ≡ placeless g)
spelled_moved s ts us g e (x, good, is, tree) =
    let (y, well, there, same) = spelled_again s (views ts) (views us) e x good is in
    (algorithm_of y, (y, well, there, refl), same_algorithm y x same ∙ ap placeless tree)

pub stands_kept : (x t w : Text) (g : Algorithm) → IsFine x → IsInside t → WithTranslation x t w → Stands x g
    → (h : Algorithm) × Stands w h × (placeless h ≡ placeless g)
stands_kept x t w g fine inside put s =
    let (b, is, kept) = algorithm_kept x t w s.text fine inside put s.is_text in
    let moved = tokens_kept x t w s.text b fine inside put s.is_text is in
    let e = looks_moved moved.bytes_here moved.bytes_there moved.lines_here moved.lines_there (algorithm_tokens x s.text) (algorithm_tokens w b) moved.tokens in
    by b is e (spelled_there x g fine s)
  where
    in_syntax : (b : AlgorithmText) → algorithm_in w ≡ Some b → looks (views (algorithm_tokens x s.text)) ≡ looks (views (algorithm_tokens w b)) → (o : Syntax)
        → Spells o (algorithm_tokens x s.text) g → (h : Algorithm) × Stands w h × (placeless h ≡ placeless g)
    in_syntax b is e o k =
        let (h, there, same) = spelled_moved o (algorithm_tokens x s.text) (algorithm_tokens w b) g e k in
        (h, stand_there w b o h (fine_kept x t w fine inside put) is there, same)

    by : (b : AlgorithmText) → algorithm_in w ≡ Some b → looks (views (algorithm_tokens x s.text)) ≡ looks (views (algorithm_tokens w b))
        → InOne (algorithm_tokens x s.text) g → (h : Algorithm) × Stands w h × (placeless h ≡ placeless g)
    by b is e (inl k) = in_syntax b is e p_syntax k
    by b is e (inr k) = in_syntax b is e c_syntax k
