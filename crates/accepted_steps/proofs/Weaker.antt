-- What reads names of one kind reads names of a wider one, and no name of fewer definitions is a title.
use Rattle.std.proofs.Common.{◌≡◌, List, [], ◌∷◌, ◌++◌, Bool, true, false, ◌||◌, not, refl}
use Rattle.tla_tree.specs.Tree.{Word, Tree, Trees, no_trees, tree}
use Rattle.tla_value.specs.Definitions.{Definition}
use Rattle.tla_value.specs.laws.FreeNames.{Any, Also}
use Rattle.tla_value.specs.laws.Untitled.{Untitled}
use Rattle.pcal_tree.specs.Algorithm.{Assignments, no_assignments, assignment, Binds, no_binds, one_of, is, Statement, assign, await, print, assert, skip, branch, either, with, while, goto, macro, call, return, Statements, done, then, mark, Branches, no_branches, or}
use Rattle.pcal_tree.specs.laws.ReadNames.{Reads, ReadsAll, ReadsAssignments, ReadsBinds, ReadsOne, ReadsBody, ReadsBranches}
use Rattle.pcal_tree.proofs.GraftsRead.{tree_wider, also_weaker}
use Rattle.action_builder.specs.laws.WrittenScope.{AllRead}

pub untitled_less : (x : Word) (ds es : List Definition) → Untitled x (ds ++ es) → Untitled x (ds ++ [])
untitled_less x [] es h = tt
untitled_less x (d ∷ ds) es h = (h.0, untitled_less x ds es h.1)

-- beside fewer further names
pub fewer_aside : (a b c : Bool) → (a || not (b || c)) ≡ true → (a || not (b || false)) ≡ true
fewer_aside true b c e = refl
fewer_aside false true c e = e
fewer_aside false false c e = refl

module _ (N M : Word → Type 0) (f : (x : Word) → N x → M x) where
  pub all_read : (ds : List Definition) → AllRead N ds → AllRead M ds
  all_read [] h = tt
  all_read (d ∷ ds) h = (tree_wider (Also d.params N) (Also d.params M) Any (also_weaker N M f d.params) d.body h.0, all_read ds h.1)

  reads : (e : Tree) → Reads N e → Reads M e
  reads e h = tree_wider N M Any f e h

  reads_all : (ts : Trees) → ReadsAll N ts → ReadsAll M ts
  reads_all no_trees h = tt
  reads_all (tree t ts) h = (reads t h.0, reads_all ts h.1)

  reads_assignments : (ms : Assignments) → ReadsAssignments N ms → ReadsAssignments M ms
  reads_assignments no_assignments h = tt
  reads_assignments (assignment l e ms) h = (reads l h.0, reads e h.1, reads_assignments ms h.2)

  reads_binds : (bs : Binds) → ReadsBinds N bs → ReadsBinds M bs
  reads_binds no_binds h = tt
  reads_binds (one_of x e bs) h = (reads e h.0, reads_binds bs h.1)
  reads_binds (is x e bs) h = (reads e h.0, reads_binds bs h.1)

  mutual
    reads_one : (st : Statement) → ReadsOne N st → ReadsOne M st
    reads_one (assign ms) h = reads_assignments ms h
    reads_one (await e) h = reads e h
    reads_one (print e) h = reads e h
    reads_one (assert e) h = reads e h
    reads_one skip h = tt
    reads_one (branch e a b) h = (reads e h.0, reads_body a h.1, reads_body b h.2)
    reads_one (either bs) h = reads_branches bs h
    reads_one (with bs b) h = (reads_binds bs h.0, reads_body b h.1)
    reads_one (while e b) h = (reads e h.0, reads_body b h.1)
    reads_one (goto l) h = tt
    reads_one (macro m ts) h = reads_all ts h
    reads_one (call p ts) h = reads_all ts h
    reads_one return h = tt

    pub reads_body : (ss : Statements) → ReadsBody N ss → ReadsBody M ss
    reads_body done h = tt
    reads_body (then at st rest) h = (reads_one st h.0, reads_body rest h.1)
    reads_body (mark l k rest) h = tt

    reads_branches : (bs : Branches) → ReadsBranches N bs → ReadsBranches M bs
    reads_branches no_branches h = tt
    reads_branches (or b bs) h = (reads_body b h.0, reads_branches bs h.1)
