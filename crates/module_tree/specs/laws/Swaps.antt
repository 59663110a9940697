-- What the laws of files with another algorithm speak of: texts that open and close comments only within themselves.
use Rattle.std.specs.Prelude.{◌≡◌, ℕ, zero, suc, ◌+◌, ◌||◌, not, nat_eq, Bool, true, false, List, [], ◌∷◌, ◌++◌, length, map, Some, if◌then◌else◌}
use Rattle.tla_token.specs.Tokens.{is_pair, stretch}
use Rattle.module_tree.specs.TextFront.{Text}
use Rattle.module_tree.specs.Walk.{Segment, Located, walk, at_start}
use Rattle.module_tree.specs.Beginnings.{opening, begins_algorithm, is_options, all_at}
use Rattle.module_tree.specs.FileParts.{within, beginnings}
use Rattle.module_tree.specs.AlgorithmText.{AlgorithmText, algorithm_in}
use Rattle.module_tree.specs.FileOffences.{offences_of, placements}
use Rattle.module_tree.specs.laws.Walks.{after_all, located}

-- with k comments of its own open here: each that begins in the text ends in it, and it ends no other; its last byte is no first one of a mark
abbrev pub is_paired : ℕ → Text → Bool
is_paired zero [] = true
is_paired zero (a ∷ []) = not (nat_eq a 40 || nat_eq a 42)
is_paired zero (a ∷ b ∷ s) = if is_pair 40 42 a b then is_paired 1 s else (if is_pair 42 41 a b then false else is_paired zero (b ∷ s))
is_paired (suc k) [] = false
is_paired (suc k) (a ∷ []) = false
is_paired (suc k) (a ∷ b ∷ s) = if is_pair 40 42 a b then is_paired (suc (suc k)) s else (if is_pair 42 41 a b then is_paired k s else is_paired (suc k) (b ∷ s))

-- no options for PlusCal begin in it, before any text that has none
abbrev pub AddsNoOptions : Text → Type 0
AddsNoOptions u = (z : Text) → all_at is_options 0 z ≡ [] → all_at is_options 0 (u ++ z) ≡ []

-- the segments without their places
abbrev pub segments : List Located → List Segment
segments ds = map (λ d. d.is) ds

-- w is x but for one comment, in which u is in the place of the algorithm a: what is before it is as it was, and after it the segments are the same
pub record SwapsComment (x u w : Text) (a : AlgorithmText) : Type 0 where
  pub before : List Located
  pub comment : Located
  pub after : List Located
  pub walked : walk x ≡ before ++ comment ∷ after
  pub there : Segment
  pub after_there : List Located
  pub walked_there : walk w ≡ before ++ located (after_all at_start before) there ∷ after_there
  pub same_after : segments after ≡ segments after_there
  pub front : Text
  pub back : Text
  pub at : a.from ≡ comment.at + 2 + length front
  pub held : within comment.is ≡ front ++ (stretch x a.from a.rest.to ++ back)
  pub holds : within there ≡ front ++ (u ++ back)
  pub sound : offences_of (walk w) ≡ []

-- the algorithm of w, where u is in the place of the algorithm a of x: it begins where a did, and all that begins algorithms is in it; there is a place for a translation
pub record BeginsThere (u w : Text) (a : AlgorithmText) : Type 0 where
  pub algorithm : AlgorithmText
  pub is_algorithm : algorithm_in w ≡ Some algorithm
  pub from : algorithm.from ≡ a.from
  pub opening : algorithm.opening ≡ opening u
  -- what is behind it in its comment
  pub behind : Text
  pub begun : beginnings (walk w) ≡ all_at begins_algorithm a.from (u ++ behind)
  pub none_behind : all_at begins_algorithm (a.from + length u) behind ≡ []
  pub placed : placements (walk w) ≡ []
