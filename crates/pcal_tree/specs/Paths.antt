-- What statements assign, and what paths through statements have assigned since their last label ("A PlusCal User's Manual", section 3.7, labels).
use Rattle.std.specs.Prelude.{List, [], ◌∷◌, ◌++◌, Bool, true, false, ◌&&◌, ◌||◌, cond, bytes_eq, Option, Some, None, option_map}
use Rattle.tla_token.specs.Signs.{is_among}
use Rattle.tla_tree.specs.Tree.{Word, apply, select, Form, name, strict, Tree, node, Trees, no_trees, tree}
use Rattle.pcal_tree.specs.Algorithm.{Assignments, no_assignments, assignment, Statement, assign, branch, either, with, while, goto, call, return, Statements, done, then, mark, Branches, no_branches, or}

-- ---- left sides

-- the variable of a left side; no other tree has one
abbrev pub root_form : Form → Option Word → Option Word
root_form (name x) inside = Some x
root_form (strict apply) inside = inside
root_form (strict (select a)) inside = inside
root_form _ inside = None

abbrev mutual
  pub root : Tree → Option Word
  root (node m at ts) = root_form m (root_of_first ts)

  pub root_of_first : Trees → Option Word
  root_of_first no_trees = None
  root_of_first (tree t ts) = root t

abbrev pub is_whole : Tree → Bool
is_whole (node (name x) at ts) = true
is_whole _ = false

abbrev pub some_word : Option Word → List Word
some_word None = []
some_word (Some x) = x ∷ []

abbrev pub roots : Assignments → List Word
roots no_assignments = []
roots (assignment l e ms) = some_word (root l) ++ roots ms

abbrev pub same_word : Option Word → Option Word → Bool
same_word (Some x) (Some y) = bytes_eq x y
same_word _ _ = false

-- of two left sides of one statement: the same variable, and one of them is the whole of it
abbrev pub clash : Tree → Tree → Bool
clash l m = same_word (root l) (root m) && (is_whole l || is_whole m)

abbrev pub clashes_with : Tree → Assignments → Bool
clashes_with l no_assignments = false
clashes_with l (assignment m e ms) = clash l m || clashes_with l ms

abbrev pub clashes : Assignments → Bool
clashes no_assignments = false
clashes (assignment l e ms) = clashes_with l ms || clashes ms

-- ---- what a statement assigns

-- the variables that a statement itself assigns, not those inside it, and whether it assigns one of them twice
pub record Effect : Type 0 where
  pub variables : List Word
  pub twice : Bool

abbrev pub Effects : Type 0
Effects = Statement → Effect

abbrev pub sets_once : List Word → Effect
sets_once xs = record { variables = xs; twice = false }

abbrev pub nothing : Effect
nothing = sets_once []

abbrev pub assigned : Effects
assigned (assign ms) = record { variables = roots ms; twice = clashes ms }
assigned _ = nothing

-- ---- paths

-- the variables that some path to a place has assigned since its last label; none where no path leads there
abbrev pub Path : Type 0
Path = Option (List Word)

abbrev pub joined : Path → Path → Path
joined None q = q
joined (Some xs) None = Some xs
joined (Some xs) (Some ys) = Some (xs ++ ys)

-- once more round, where a path leads round at all
abbrev pub again : {X : Type 0} → (Option X → Option X) → Option X → Option X
again f None = None
again f (Some xs) = f (Some xs)

-- after any number of rounds, where f says what one round makes of a path. A path that leads there needs one; where none does, one may begin at a label in
-- the first round, and go through the whole of a second.
abbrev pub rounds : {X : Type 0} → (Option X → Option X → Option X) → (Option X → Option X) → Option X → Option X
rounds J f None = again f (f None)
rounds J f (Some xs) = J (f (Some xs)) (Some xs)

-- the path after statements; true where a label is right before them
abbrev mutual
  pub after_one : Effects → Statement → Bool → Path → Path
  after_one E (branch e a b) l p = joined (after E a false p) (after E b false p)
  after_one E (either bs) l p = after_some E bs p
  after_one E (with bs b) l p = after E b false p
  after_one E (while e b) l p = cond l p (rounds joined (λ q. after E b false q) p)  -- without a label a path may go round again
  after_one E (goto n) l p = None
  after_one E (call n ts) l p = None
  after_one E return l p = None
  after_one E st l p = option_map (λ xs. (E st).variables ++ xs) p

  pub after : Effects → Statements → Bool → Path → Path
  after E done l p = p
  after E (mark n k rest) l p = after E rest true (Some [])
  after E (then at st rest) l p = after E rest false (after_one E st l p)

  pub after_some : Effects → Branches → Path → Path
  after_some E no_branches p = None
  after_some E (or b bs) p = joined (after E b false p) (after_some E bs p)

abbrev pub is_reached : Path → Bool
is_reached None = false
is_reached (Some xs) = true

abbrev pub meets : List Word → List Word → Bool
meets xs [] = false
meets xs (y ∷ ys) = is_among xs y || meets xs ys

-- some path has assigned one of the words
abbrev pub has_assigned : Path → List Word → Bool
has_assigned None ys = false
has_assigned (Some xs) ys = meets xs ys
