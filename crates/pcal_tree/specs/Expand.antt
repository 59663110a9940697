-- Statements with trees put in for names, and macro calls written out ("A PlusCal User's Manual", section 3.5, macros).
use Rattle.std.specs.Prelude.{List, [], ◌∷◌, cond, bytes_eq, Option, Some, None}
use Rattle.tla_token.specs.declared.place.Place.{Place}
use Rattle.tla_tree.specs.Tree.{Word, Tree, node, Trees, Graft, graft, grafts}
use Rattle.pcal_tree.specs.Algorithm.{Span, Assignments, no_assignments, assignment, Binds, no_binds, one_of, is, Statement, assign, await, print, assert, skip, branch, either, with, while, goto, macro, call, return, Statements, done, then, mark, Branches, no_branches, or, Macro}
use Rattle.pcal_tree.specs.Run.{arguments}
use Rattle.pcal_tree.specs.StepStart.{Begin}

-- ---- trees put in

abbrev pub placed_at : Place → Tree → Tree
placed_at at (node m p ts) = node m at ts

-- a left side keeps its place
abbrev pub graft_left : Graft → Tree → Tree
graft_left g (node m at ts) = placed_at at (graft g (node m at ts))

abbrev pub graft_assignments : Graft → Assignments → Assignments
graft_assignments g no_assignments = no_assignments
graft_assignments g (assignment l e ms) = assignment (graft_left g l) (graft g e) (graft_assignments g ms)

abbrev pub graft_binds : Graft → Binds → Binds
graft_binds g no_binds = no_binds
graft_binds g (one_of x e bs) = one_of x (graft g e) (graft_binds g bs)
graft_binds g (is x e bs) = is x (graft g e) (graft_binds g bs)

abbrev mutual
  pub graft_one : Graft → Statement → Statement
  graft_one g (assign ms) = assign (graft_assignments g ms)
  graft_one g (await e) = await (graft g e)
  graft_one g (print e) = print (graft g e)
  graft_one g (assert e) = assert (graft g e)
  graft_one g skip = skip
  graft_one g (branch e a b) = branch (graft g e) (graft_all g a) (graft_all g b)
  graft_one g (either bs) = either (graft_some g bs)
  graft_one g (with bs b) = with (graft_binds g bs) (graft_all g b)
  graft_one g (while e b) = while (graft g e) (graft_all g b)
  graft_one g (goto l) = goto l
  graft_one g (macro m ts) = macro m (grafts g ts)
  graft_one g (call p ts) = call p (grafts g ts)
  graft_one g return = return

  pub graft_all : Graft → Statements → Statements
  graft_all g done = done
  graft_all g (then at st rest) = then at (graft_one g st) (graft_all g rest)
  graft_all g (mark l k rest) = mark l k (graft_all g rest)

  pub graft_some : Graft → Branches → Branches
  graft_some g no_branches = no_branches
  graft_some g (or b bs) = or (graft_all g b) (graft_some g bs)

-- ---- macro calls

abbrev pub followed_by : Statements → Statements → Statements
followed_by done b = b
followed_by (then at st a) b = then at st (followed_by a b)
followed_by (mark l k a) b = mark l k (followed_by a b)

-- what is written for a call
abbrev pub Writing : Type 0
Writing = Span → Word → Trees → Statements

abbrev mutual
  pub expand_one : Writing → Span → Statement → Statements → Statements
  expand_one X at (macro m ts) rest = followed_by (X at m ts) rest
  expand_one X at (branch e a b) rest = then at (branch e (expand X a) (expand X b)) rest
  expand_one X at (either bs) rest = then at (either (expand_some X bs)) rest
  expand_one X at (with bs b) rest = then at (with bs (expand X b)) rest
  expand_one X at (while e b) rest = then at (while e (expand X b)) rest
  expand_one X at (assign ms) rest = then at (assign ms) rest
  expand_one X at (await e) rest = then at (await e) rest
  expand_one X at (print e) rest = then at (print e) rest
  expand_one X at (assert e) rest = then at (assert e) rest
  expand_one X at skip rest = then at skip rest
  expand_one X at (goto l) rest = then at (goto l) rest
  expand_one X at (call p ts) rest = then at (call p ts) rest
  expand_one X at return rest = then at return rest

  pub expand : Writing → Statements → Statements
  expand X done = done
  expand X (then at st rest) = expand_one X at st (expand X rest)
  expand X (mark l k rest) = mark l k (expand X rest)

  pub expand_some : Writing → Branches → Branches
  expand_some X no_branches = no_branches
  expand_some X (or b bs) = or (expand X b) (expand_some X bs)

-- the body of the newest macro of the name, written out first, then with the arguments put in; a call of no macro can't be taken
abbrev pub written_out : List Macro → Writing
written_out [] at m ts = then at (either no_branches) done
written_out (d ∷ older) at m ts =
    cond (bytes_eq d.name.word m) (graft_all (arguments d.params ts) (expand (written_out older) d.body)) (written_out older at m ts)

-- the macros, the newest first
abbrev pub expanded : List Macro → Statements → Statements
expanded ms ss = expand (written_out ms) ss

abbrev pub expand_begin : Writing → Option Begin → Option Begin
expand_begin X None = None
expand_begin X (Some b) = Some (record { items = expand X b.items; exit = b.exit })
