-- Statements of one step with jumps, loops, calls and returns written as assignments that end it ("A PlusCal User's Manual", sections 3.2 and 3.4).
use Rattle.std.specs.Prelude.{Bool, true, false, cond, ◌||◌}
use Rattle.tla_tree.specs.Tree.{Word, Trees}
use Rattle.pcal_tree.specs.Algorithm.{Name, Span, Statement, assign, await, print, assert, skip, branch, either, with, while, goto, call, return, Statements, done, then, mark, Branches, no_branches, or}
use Rattle.pcal_tree.specs.Run.{unlabelled, label_of, Partner, partner_of}

-- the assignments that stand for a jump to a label, a call with the label that it keeps and its partner, and a return
pub record WrittenJumps : Type 0 where
  pub goto : Word → Statements
  pub call : Span → Name → Trees → Word → Partner → Statements
  pub return : Span → Statements

abbrev mutual
  pub jumps_one : Statement → Bool
  jumps_one (assign ms) = false
  jumps_one (await e) = false
  jumps_one (print e) = false
  jumps_one (assert e) = false
  jumps_one skip = false
  jumps_one (branch e a b) = jumps a || jumps b
  jumps_one (either bs) = jumps_some bs
  jumps_one (with bs b) = jumps b
  jumps_one _ = true

  pub jumps : Statements → Bool
  jumps done = false
  jumps (then at st rest) = jumps_one st || jumps rest
  jumps (mark l k rest) = true

  pub jumps_some : Branches → Bool
  jumps_some no_branches = false
  jumps_some (or b bs) = jumps b || jumps_some bs

-- `here`: the label at which the statement or list is; l: the label of what follows; j: its partner, if it is a call; rest: what follows, settled
abbrev mutual
  pub settled_one : WrittenJumps → Word → Word → Partner → Span → Statement → Statements → Statements
  settled_one W here l j at (goto m) rest = W.goto m
  settled_one W here l j at (call p ts) rest = W.call at p ts l j
  settled_one W here l j at return rest = W.return at
  settled_one W here l j at (branch e a b) rest =
      cond (jumps a || jumps b) (then at (branch e (settled W unlabelled l a) (settled W unlabelled l b)) done) (then at (branch e a b) rest)
  settled_one W here l j at (either bs) rest = cond (jumps_some bs) (then at (either (settled_some W l bs)) done) (then at (either bs) rest)
  settled_one W here l j at (with bs b) rest = cond (jumps b) (then at (with bs (settled W unlabelled l b)) done) (then at (with bs b) rest)
  settled_one W here l j at (while e b) rest = then at (branch e (settled W unlabelled here b) rest) done
  settled_one W here l j at st rest = then at st rest

  -- l: the exit
  pub settled : WrittenJumps → Word → Word → Statements → Statements
  settled W here l done = W.goto l
  settled W here l (then at st rest) = settled_one W here (label_of rest l) (partner_of rest) at st (settled W unlabelled l rest)
  settled W here l (mark m k rest) = W.goto m.word

  pub settled_some : WrittenJumps → Word → Branches → Branches
  settled_some W l no_branches = no_branches
  settled_some W l (or b bs) = or (settled W unlabelled l b) (settled_some W l bs)
