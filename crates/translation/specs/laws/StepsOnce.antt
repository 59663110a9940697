-- Statements in which no variable is assigned again before the next label ("A PlusCal User's Manual", section 3.7, labels).
use Rattle.std.specs.Prelude.{List, [], ◌++◌, false}
use Rattle.tla_tree.specs.Tree.{Word}
use Rattle.pcal_tree.specs.Algorithm.{Statement, assign, branch, either, with, while, call, return, Statements, done, then, mark, Branches, no_branches, or}
use Rattle.pcal_tree.specs.OffencesSteps.{effect_with}
use Rattle.pcal_tree.specs.Paths.{Effects, roots}
use Rattle.pcal_tree.specs.Run.{Partner, partner_of}
use Rattle.action_builder.specs.Assigned.{Names, more}
use Rattle.action_builder.specs.laws.Ready.{Apart}

-- what is assigned before the next label
abbrev mutual
  pub set_by : Statement → List Word
  set_by (assign ms) = roots ms
  set_by (branch e a b) = set_in a ++ set_in b
  set_by (either bs) = set_in_some bs
  set_by (with bs b) = set_in b
  set_by _ = []

  pub set_in : Statements → List Word
  set_in done = []
  set_in (then at st rest) = set_by st ++ set_in rest
  set_in (mark l k rest) = []

  pub set_in_some : Branches → List Word
  set_in_some no_branches = []
  set_in_some (or b bs) = set_in b ++ set_in_some bs

abbrev pub none_set : Names
none_set x = false

-- where those of A were assigned since the last label; a step begins at a label, and at one before a loop the loop's body is in it
abbrev mutual
  pub SetsOnceOne : Names → Statement → Type 0
  SetsOnceOne A (assign ms) = Apart A (roots ms)
  SetsOnceOne A (branch e a b) = SetsOnce A a × SetsOnce A b
  SetsOnceOne A (either bs) = SetsOnceSome A bs
  SetsOnceOne A (with bs b) = SetsOnce A b
  SetsOnceOne A (while e b) = SetsOnce none_set b
  SetsOnceOne A _ = Unit {0}

  pub SetsOnce : Names → Statements → Type 0
  SetsOnce A done = Unit {0}
  SetsOnce A (then at st rest) = SetsOnceOne A st × SetsOnce (more A (set_by st)) rest
  SetsOnce A (mark l k rest) = SetsOnce none_set rest

  pub SetsOnceSome : Names → Branches → Type 0
  SetsOnceSome A no_branches = Unit {0}
  SetsOnceSome A (or b bs) = SetsOnce A b × SetsOnceSome A bs

-- nor is one that a call or a return assigns, where E says which these are; a call that is one statement with a `return` assigns those of the `return`
abbrev mutual
  pub JumpsOnceOne : Effects → Names → Statement → Partner → Type 0
  JumpsOnceOne E A (branch e a b) j = JumpsOnce E A a × JumpsOnce E A b
  JumpsOnceOne E A (either bs) j = JumpsOnceSome E A bs
  JumpsOnceOne E A (with bs b) j = JumpsOnce E A b
  JumpsOnceOne E A (while e b) j = JumpsOnce E none_set b
  JumpsOnceOne E A (call p ts) j = Apart A (effect_with E (call p ts) j).variables
  JumpsOnceOne E A return j = Apart A (E return).variables
  JumpsOnceOne E A _ j = Unit {0}

  pub JumpsOnce : Effects → Names → Statements → Type 0
  JumpsOnce E A done = Unit {0}
  JumpsOnce E A (then at st rest) = JumpsOnceOne E A st (partner_of rest) × JumpsOnce E (more A (set_by st)) rest
  JumpsOnce E A (mark l k rest) = JumpsOnce E none_set rest

  pub JumpsOnceSome : Effects → Names → Branches → Type 0
  JumpsOnceSome E A no_branches = Unit {0}
  JumpsOnceSome E A (or b bs) = JumpsOnce E A b × JumpsOnceSome E A bs
