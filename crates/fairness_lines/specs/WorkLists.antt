-- Numbers that are reached from some, where each leads to others.
use Rattle.std.specs.Prelude.{◌≡◌, ℕ, ◌<◌, List, [], ◌∷◌, ◌++◌, length, get_or, set, Bool, true, false, cond}
use Rattle.pcal_tree.specs.Processes.{OneOf}

-- which numbers are marked, and those that are marked in the order in which they were found
pub record Found : Type 0 where
  pub marks : List Bool
  pub work : List ℕ

-- a number without a mark gets one; those past the marks are left alone
abbrev pub put : Found → ℕ → Found
put f n = cond (get_or f.marks n true) f (record { marks = set f.marks n true; work = f.work ++ n ∷ [] })

abbrev pub put_all : Found → List ℕ → Found
put_all f [] = f
put_all f (n ∷ ns) = put_all (put f n) ns

-- a set that has the numbers of the start, and all that a number in it leads to
pub record IsClosedUnder (leads : List (List ℕ)) (start : List ℕ) (S : ℕ → Bool) : Type 0 where
  pub starts : (x : ℕ) → OneOf x start → x < length leads → S x ≡ true
  pub goes_on : (i x : ℕ) → i < length leads → S i ≡ true → OneOf x (get_or leads i []) → x < length leads → S x ≡ true

-- the least of these sets
pub record IsLeastOf (leads : List (List ℕ)) (start : List ℕ) (marks : List Bool) : Type 0 where
  pub long : length marks ≡ length leads
  pub closed : IsClosedUnder leads start (λ i. get_or marks i false)
  pub least : (S : ℕ → Bool) → IsClosedUnder leads start S → (i : ℕ) → get_or marks i false ≡ true → S i ≡ true
