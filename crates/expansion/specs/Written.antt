-- What is written for statements in a macro's body, or outside, with their macro calls written out; and what statements in memory stand for.
use Rattle.std.specs.Prelude.{◌≡◌, ◌≤◌, List, Vec, length}
use Rattle.std.specs.declared.alloc.Global.{Global}
use Rattle.tla_tree.specs.Tree.{Tree, Trees, Graft}
use Rattle.pcal_tree.specs.declared.algorithm.Stmt.{Stmt}
use Rattle.pcal_tree.specs.declared.algorithm.Macro as code_macro
use Rattle.pcal_tree.specs.Algorithm.{Statement, branch, either, with, while, Statements, done, then, mark, Branches, Macro}
use Rattle.pcal_tree.specs.Run.{arguments}
use Rattle.pcal_tree.specs.Expand.{Writing, graft_all, graft_some, expand, expand_some, written_out}
use Rattle.pcal_tree.specs.InMemory.{stmt_at, statements_at, branches_at, past_statements, past_branches}
use Rattle.expansion_size.specs.FramesIn.{newest_first}
use Rattle.expansion_size.specs.declared.frames.Frames.{Frames}
use Rattle.expansion_size.specs.FramesIn.{put_by}

abbrev pub put_out : List Macro → Graft → Statements → Statements
put_out ms g b = graft_all g (expand (written_out ms) b)

abbrev pub put_out_some : List Macro → Graft → Branches → Branches
put_out_some ms g bs = graft_some g (expand_some (written_out ms) bs)

-- a statement with what is inside it written out; a macro call stays
abbrev pub expand_inside : Writing → Statement → Statement
expand_inside X (branch e a b) = branch e (expand X a) (expand X b)
expand_inside X (either bs) = either (expand_some X bs)
expand_inside X (with bs b) = with bs (expand X b)
expand_inside X (while e b) = while e (expand X b)
expand_inside X st = st

abbrev pub expand_first : Writing → Statements → Statements
expand_first X done = done
expand_first X (then at st rest) = then at (expand_inside X st) rest
expand_first X (mark l k rest) = mark l k rest

-- for those in memory, by macros in the order of the text
abbrev pub written : List Tree → List code_macro.Macro → Frames → List Stmt → Statements
written ts ms a ss = put_out (newest_first ts ms) (put_by ts a) (statements_at ts ss)

abbrev pub written_some : List Tree → List code_macro.Macro → Frames → List (Vec Stmt Global) → Branches
written_some ts ms a bs = put_out_some (newest_first ts ms) (put_by ts a) (branches_at ts bs)

abbrev pub inside_written : List Tree → List code_macro.Macro → Frames → Stmt → Statements
inside_written ts ms a s = graft_all (put_by ts a) (expand_first (written_out (newest_first ts ms)) (stmt_at ts s done))

-- their numbers are of the pool, and there they stand for these
pub record Stand (ts : List Tree) (ss : List Stmt) (us : Statements) : Type 0 where
  pub within : past_statements ss ≤ length ts
  pub stand : statements_at ts ss ≡ us

pub record StandSome (ts : List Tree) (bs : List (Vec Stmt Global)) (us : Branches) : Type 0 where
  pub within : past_branches bs ≤ length ts
  pub stand : branches_at ts bs ≡ us

-- what is written for a call of a macro in memory with these arguments, by the older macros
abbrev pub body_written : List Tree → List code_macro.Macro → code_macro.Macro → Trees → Statements
body_written ts older o us = graft_all (arguments o.params.items us) (expand (written_out (newest_first ts older)) (statements_at ts o.body.items))
