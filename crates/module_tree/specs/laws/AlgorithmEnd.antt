-- What the law of an algorithm's end speaks of: the kinds of its tokens from its name on, `end algorithm`, and how many braces are opened and closed
-- ("A PlusCal User's Manual", section 2.1 and appendix A).
use Rattle.std.specs.Prelude.{◌≡◌, ℕ, ◌<◌, bytes_eq, Bool, true, false, List, [], ◌∷◌, ◌++◌, length, filter, drop, Option, Some, None, codes, if◌then◌else◌}
use Rattle.tla_token.specs.declared.sign.Sign.TheVariants.{OpenCurly, CloseCurly}
use Rattle.tla_token.specs.Lexemes.{Kind, name, one}
use Rattle.module_tree.specs.TextFront.{Text}
use Rattle.module_tree.specs.ModuleParts.{kind_in}
use Rattle.module_tree.specs.AlgorithmText.{IndexedPart, AlgorithmText}

-- ---- its tokens

abbrev pub with_kind : Option Kind → List Kind → List Kind
with_kind (Some k) ks = k ∷ ks
with_kind None ks = ks

-- of those parts that are tokens
abbrev pub kinds_in : List IndexedPart → List Kind
kinds_in [] = []
kinds_in (p ∷ ps) = with_kind (kind_in p.1) (kinds_in ps)

-- `algorithm` comes after `--fair`
abbrev pub words_before_name : Text → ℕ
words_before_name w = if bytes_eq w (codes "--fair") then 1 else 0

abbrev pub from_name : AlgorithmText → List Kind
from_name a = drop (words_before_name a.opening) (kinds_in a.rest.parts)

abbrev pub behind_name : AlgorithmText → List Kind
behind_name a = drop 1 (from_name a)

-- ---- in P-syntax

abbrev pub end_algorithm : List Kind
end_algorithm = name (codes "end") ∷ name (codes "algorithm") ∷ []

-- `end algorithm` stands at their end, and nowhere before
pub record EndsWithWords (ks : List Kind) : Type 0 where
  pub front : List Kind
  pub is : ks ≡ front ++ end_algorithm
  pub first : (us vs : List Kind) → ks ≡ us ++ (end_algorithm ++ vs) → vs ≡ []

-- ---- in C-syntax

abbrev pub is_open_brace : Kind → Bool
is_open_brace (one OpenCurly) = true
is_open_brace k = false

abbrev pub is_close_brace : Kind → Bool
is_close_brace (one CloseCurly) = true
is_close_brace k = false

abbrev pub opened : List Kind → ℕ
opened ks = length (filter is_open_brace ks)

abbrev pub closed : List Kind → ℕ
closed ks = length (filter is_close_brace ks)

-- `{` is the first; at their end as many are closed as opened, and nowhere before
pub record EndsWithBrace (ks : List Kind) : Type 0 where
  pub more : List Kind
  pub begins : ks ≡ one OpenCurly ∷ more
  pub same : closed ks ≡ opened ks
  pub first : (k l : Kind) (us vs : List Kind) → ks ≡ (k ∷ us) ++ l ∷ vs → closed (k ∷ us) < opened (k ∷ us)
