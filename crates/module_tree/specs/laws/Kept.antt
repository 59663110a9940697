-- What the laws of files that are translated speak of: where a translation goes in a file that is not refused, and what of the file stays as it was.
use Rattle.std.specs.Prelude.{◌≡◌, ℕ, nat_eq, Bool, true, [], ◌∷◌, ◌++◌, List, Some, map, is_some}
use Rattle.std.specs.List.{list_all}
use Rattle.tla_token.specs.Rules.{rule_number}
use Rattle.tla_token.specs.Lexemes.{Kind}
use Rattle.tla_token.specs.Offences.{Offence}
use Rattle.tla_token.specs.Tokens.{Token}
use Rattle.module_tree.specs.TextFront.{Text}
use Rattle.module_tree.specs.Walk.{Located, walk, at_start}
use Rattle.module_tree.specs.FileParts.{title, module_end, region_of, before_spot, after_spot}
use Rattle.module_tree.specs.AlgorithmText.{AlgorithmText, algorithm_tokens}
use Rattle.module_tree.specs.FileUnits.{tokens_in}
use Rattle.module_tree.specs.FileOffences.{file_offences, offences_of}
use Rattle.module_tree.specs.WithTranslation.{begin_line, end_line}
use Rattle.module_tree.specs.laws.Walks.{text_of, after_all, made, located, Near, Put}

-- none of the rules 1 to 10 is broken by the file, nor 12 by its algorithm
abbrev pub IsFine : Text → Type 0
IsFine x = file_offences x ≡ []

-- of rule 12
abbrev pub is_large : Offence → Bool
is_large o = nat_eq (rule_number o.0) 12

-- numbers that are too big, and nothing else
abbrev pub only_large : List Offence → Bool
only_large os = list_all is_large os

-- tokens but for their indexes and lines: their kinds and columns
abbrev pub looks : List Token → List (Kind × ℕ)
looks ts = map (λ t. (t.kind, t.place.col)) ts

-- the file w is x with the translation t: before it all is as it was, and after it the tokens are the same in the same columns
pub record KeepsFile (x t w : Text) : Type 0 where
  pub title : title (walk w) ≡ title (walk x)
  pub before : before_spot (walk w) ≡ before_spot (walk x)
  pub region : region_of (walk w) ≡ Some (located (after_all at_start (before_spot (walk x))) (made t))
  pub after : looks (tokens_in (after_spot (walk w))) ≡ looks (tokens_in (after_spot (walk x)))
  pub sound : offences_of (walk w) ≡ []
  pub ended : is_some (module_end (walk w)) ≡ true

-- the text w is as x before its translation t and after it, and its segments are x's, those after the translation moved
pub record IsPut (x t w : Text) : Type 0 where
  pub front : List Located
  pub back : List Located
  pub rest : Text
  pub is_front : before_spot (walk x) ≡ front
  pub bytes : w ≡ text_of front ++ (begin_line ++ (t ++ (end_line ++ 10 ∷ rest)))
  pub put : Put front back t (10 ∷ rest)

-- the same first word, parts and end, wherever they are
pub record SameAlgorithm (a b : AlgorithmText) : Type 0 where
  pub opening : a.opening ≡ b.opening
  pub parts : map (λ p. p.1) a.rest.parts ≡ map (λ p. p.1) b.rest.parts
  pub stage : a.rest.stage ≡ b.rest.stage

-- tokens of the same kinds: i bytes and m lines here are j bytes and n lines there
abbrev pub TokensMoved : ℕ → ℕ → ℕ → ℕ → List Token → List Token → Type 0
TokensMoved i j m n [] [] = Unit {0}
TokensMoved i j m n (t ∷ ts) (u ∷ us) = (t.kind ≡ u.kind) × Near i j m n t.at t.place u.at u.place × TokensMoved i j m n ts us
TokensMoved i j m n _ _ = ⊥

-- the algorithm b of w is a of x, its tokens moved
pub record AlgorithmMoved (x w : Text) (a b : AlgorithmText) : Type 0 where
  pub bytes_here : ℕ
  pub bytes_there : ℕ
  pub lines_here : ℕ
  pub lines_there : ℕ
  pub tokens : TokensMoved bytes_here bytes_there lines_here lines_there (algorithm_tokens x a) (algorithm_tokens w b)
