-- Before which statements labels are added, along straight paths: each loop gets a label, and what is behind a statement with a label or a jump in it.
use Rattle.std.specs.Prelude.{List, ◌∷◌, Bool, true, false, ◌||◌, Option, Some, None, cond}
use Rattle.tla_token.specs.declared.rule.Rule.{Rule}
use Rattle.tla_token.specs.declared.rule.Rule.TheVariants.{AfterBranch}
use Rattle.pcal_tree.specs.Algorithm.{Span, Statement, branch, either, while, Statements, done, then, mark, Branches, no_branches, or}
use Rattle.pcal_tree.specs.Run.{Partner, partner_of}
use Rattle.pcal_tree.specs.Paths.{Effects, Path, joined, after_one}
use Rattle.pcal_tree.specs.OffencesSteps.{Before, holds_one, due_after, at_label, inside}
use Rattle.pcal_tree.specs.Labelled.{needs_label, before}

-- what is before a statement when its label is added
abbrev pub stand : Effects → Before → Span → Statement → Partner → Before
stand E p at st j = before (needs_label E p at st j) p

abbrev pub to_next : Option Rule → Path → Before
to_next r p = record { labelled = false; due = r; path = p }

abbrev mutual
  -- with the labels that are added, the statement has a label or a jump in it
  pub held_inside : Effects → Path → Statement → Bool
  held_inside E p (branch e a b) = held E (inside p) a || held E (inside p) b
  held_inside E p (either bs) = held_some E p bs
  held_inside E p (while e b) = held E (inside p) b
  held_inside E p st = holds_one st

  pub due_behind : Effects → Path → Statement → Partner → Option Rule
  due_behind E p (branch e a b) j = cond (held E (inside p) a || held E (inside p) b) (Some AfterBranch) None
  due_behind E p (either bs) j = cond (held_some E p bs) (Some AfterBranch) None
  due_behind E p st j = due_after st j

  -- the path behind it; a loop has a label, and inside a `with` there is none that was added
  pub path_behind : Effects → Path → Statement → Path
  path_behind E p (branch e a b) = joined (ending E (inside p) a).path (ending E (inside p) b).path
  path_behind E p (either bs) = path_behind_some E p bs
  path_behind E p (while e b) = p
  path_behind E p st = after_one E st false p

  pub held : Effects → Before → Statements → Bool
  held E p done = false
  held E p (mark n k rest) = true
  held E p (then at st rest) =
      needs_label E p at st (partner_of rest)
      || (held_inside E (stand E p at st (partner_of rest)).path st || held E (to_next (due_behind E (stand E p at st (partner_of rest)).path st (partner_of rest)) (path_behind E (stand E p at st (partner_of rest)).path st)) rest)

  -- what is behind a list
  pub ending : Effects → Before → Statements → Before
  ending E p done = p
  ending E p (mark n k rest) = ending E at_label rest
  ending E p (then at st rest) = ending E (to_next (due_behind E (stand E p at st (partner_of rest)).path st (partner_of rest)) (path_behind E (stand E p at st (partner_of rest)).path st)) rest

  pub held_some : Effects → Path → Branches → Bool
  held_some E p no_branches = false
  held_some E p (or b bs) = held E (inside p) b || held_some E p bs

  pub path_behind_some : Effects → Path → Branches → Path
  path_behind_some E p no_branches = None
  path_behind_some E p (or b bs) = joined (ending E (inside p) b).path (path_behind_some E p bs)

abbrev pub behind : Effects → Path → Statement → Partner → Before
behind E p st j = to_next (due_behind E p st j) (path_behind E p st)

-- of each statement that is gone through, in the order of the text, whether a label is added before it; and then what is decided of more
abbrev mutual
  pub chosen_inside : Effects → Path → Statement → List Bool → List Bool
  chosen_inside E p (branch e a b) more = chosen E (inside p) a (chosen E (inside p) b more)
  chosen_inside E p (either bs) more = chosen_some E p bs more
  chosen_inside E p (while e b) more = chosen E (inside p) b more
  chosen_inside E p st more = more

  pub chosen : Effects → Before → Statements → List Bool → List Bool
  chosen E p done more = more
  chosen E p (mark n k rest) more = chosen E at_label rest more
  chosen E p (then at st rest) more =
      needs_label E p at st (partner_of rest)
      ∷ chosen_inside E (stand E p at st (partner_of rest)).path st (chosen E (behind E (stand E p at st (partner_of rest)).path st (partner_of rest)) rest more)

  pub chosen_some : Effects → Path → Branches → List Bool → List Bool
  chosen_some E p no_branches more = more
  chosen_some E p (or b bs) more = chosen E (inside p) b (chosen_some E p bs more)
