-- The variables that statements assign ("A PlusCal User's Manual", section 3.2.1).
use Rattle.std.specs.Prelude.{List, [], ◌∷◌, ◌++◌, Bool, cond, ◌||◌, bytes_eq}
use Rattle.std.specs.Option.{unwrap_or}
use Rattle.tla_token.specs.Signs.{is_among}
use Rattle.tla_tree.specs.Tree.{Word, Tree, Trees}
use Rattle.pcal_tree.specs.Algorithm.{Assignments, no_assignments, assignment, Statement, assign, branch, either, with, Statements, done, then, mark, Branches, no_branches, or}
use Rattle.pcal_tree.specs.Paths.{root, root_of_first}

abbrev pub Names : Type 0
Names = Word → Bool

abbrev pub more : Names → List Word → Names
more A xs x = A x || is_among xs x

-- the variable of a left side
abbrev pub head_of : Tree → Word
head_of l = unwrap_or (root l) []

abbrev pub head_first : Trees → Word
head_first ts = unwrap_or (root_of_first ts) []

abbrev pub without : Word → List Word → List Word
without x [] = []
without x (y ∷ ys) = cond (bytes_eq x y) (without x ys) (y ∷ without x ys)

-- the variables of an assignment, each once, in order of first appearance
abbrev pub heads : Assignments → List Word
heads no_assignments = []
heads (assignment l e ms) = head_of l ∷ without (head_of l) (heads ms)

abbrev mutual
  pub assigned : Statement → List Word
  assigned (assign ms) = heads ms
  assigned (branch e a b) = assigned_in a ++ assigned_in b
  assigned (either bs) = assigned_by bs
  assigned (with bs b) = assigned_in b
  assigned _ = []

  pub assigned_in : Statements → List Word
  assigned_in done = []
  assigned_in (then at st rest) = assigned st ++ assigned_in rest
  assigned_in (mark l k rest) = []

  pub assigned_by : Branches → List Word
  assigned_by no_branches = []
  assigned_by (or b bs) = assigned_in b ++ assigned_by bs
