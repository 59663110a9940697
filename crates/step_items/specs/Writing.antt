-- What is written for a routine's statements in memory, where more of their step may follow ("A PlusCal User's Manual", sections 3.2 and 3.3).
use Rattle.std.specs.Prelude.{◌≡◌, ◌||◌, List, Bool, true, false, cond}
use Rattle.tla_token.specs.Signs.{is_among}
use Rattle.tla_tree.specs.Tree.{Word, Tree, Trees, Graft}
use Rattle.tla_value.specs.Grafts.{owned}
use Rattle.module_tree.specs.Formulas.{self}
use Rattle.module_tree.specs.Module.{Items}
use Rattle.module_write.specs.declared.«module».Item.{Item}
use Rattle.module_write.specs.InMemory.{items_at}
use Rattle.pcal_tree.specs.declared.algorithm.Stmt.{Stmt}
use Rattle.pcal_tree.specs.InMemory.{statements_at}
use Rattle.pcal_tree.specs.Algorithm.{nowhere, Span, Binds, Statement, branch, either, with, Statements, done, then, mark, Branches, Routine}
use Rattle.pcal_tree.specs.Expand.{graft_all}
use Rattle.pcal_tree.specs.Program.{Program}
use Rattle.pcal_tree.specs.Run.{unlabelled}
use Rattle.pcal_tree.specs.Calls.{label_name}
use Rattle.pcal_tree.specs.Variables.{vars}
use Rattle.name_bits.specs.declared.bits.Bits.{Bits}
use Rattle.name_bits.specs.NamesIn.{names_in}
use Rattle.action_builder.specs.Assigned.{assigned_in}
use Rattle.action_builder.specs.Jumps.{written_jumps, call_written, pair_written}
use Rattle.action_builder.specs.LabelActions.{initial_tree, no_jump_places, written_initials}
use Rattle.action_builder.specs.OwnVariables.{is_own_variable}
use Rattle.action_builder.specs.Settled.{WrittenJumps, jumps_one, jumps, jumps_some, settled, settled_some}
use Rattle.action_builder.specs.Written.{onto, write}
use Rattle.action_builder.specs.WrittenNames.{renames}
use Rattle.action_builder.specs.laws.Ready.{Settled}
use Rattle.step_forms.specs.LeftOver.{left_over}
use Rattle.step_forms.specs.OldNames.{NoOld}
use Rattle.step_forms.specs.PartsAssigned.{AllInParts}

-- ---- of a routine

abbrev pub jumps_of : Program → Routine → WrittenJumps
jumps_of P u = written_jumps P u (written_initials P) no_jump_places

-- the variables of a process as its own
abbrev pub own_of : Program → Graft
own_of P = owned self (is_own_variable P)

-- statements in memory by their written names
abbrev pub named : Program → Routine → List Tree → List Stmt → Statements
named P u ts ss = graft_all (renames P u) (statements_at ts ss)

-- one statement, at its process
abbrev pub alone : Program → Routine → Span → Statement → Statements
alone P u s st = graft_all (own_of P) (graft_all (renames P u) (then s st done))

-- here: the label at which the list is; l: that of what follows it
abbrev pub to_write : Program → Routine → Word → Word → Statements → Statements
to_write P u here l ss = graft_all (own_of P) (left_over (jumps_of P u) here l ss)

abbrev pub to_finish : Program → Routine → Word → Word → Statements → Statements
to_finish P u here l ss = graft_all (own_of P) (settled (jumps_of P u) here l ss)

-- a call of p in u whose return goes to l, and one that is one statement with a return
abbrev pub call_of : Program → Routine → Routine → Trees → Word → Statements
call_of P u p ts l = call_written P p nowhere ts (label_name P u l) (λ d. nowhere) (λ d. initial_tree P p d.start)

abbrev pub pair_of : Program → Routine → Routine → Trees → Statements
pair_of P u p ts = pair_written P u p nowhere nowhere ts (λ d. nowhere) (λ d. initial_tree P p d.start)

-- ---- one statement of a list

-- a statement that doesn't end its step, alone; one that does takes all that follows it with it
abbrev pub first_part : WrittenJumps → Word → Word → Statements → Statements
first_part W here l (then at st rest) = cond (jumps_one st) (settled W here l (then at st rest)) (then at st done)
first_part W here l ss = settled W here l ss

abbrev pub ends_first : Statements → Bool
ends_first done = false
ends_first (then at st rest) = jumps_one st
ends_first (mark l k rest) = true

abbrev pub to_write_first : Program → Routine → Word → Word → Statements → Statements
to_write_first P u here l ss = graft_all (own_of P) (first_part (jumps_of P u) here l ss)

-- st: as in the text, before the statements of rest
abbrev pub first_alone : Program → Routine → Word → Word → Span → Statement → Statements → Statements
first_alone P u here l s st rest = to_write_first P u here l (graft_all (renames P u) (then s st rest))

-- what it is, by its kind; l: the label of what follows it
abbrev pub branch_part : WrittenJumps → Word → Span → Tree → Statements → Statements → Statements
branch_part W l at e a b =
    cond (jumps a || jumps b) (then at (branch e (settled W unlabelled l a) (settled W unlabelled l b)) done) (then at (branch e a b) done)

abbrev pub either_part : WrittenJumps → Word → Span → Branches → Statements
either_part W l at bs = cond (jumps_some bs) (then at (either (settled_some W l bs)) done) (then at (either bs) done)

abbrev pub with_part : WrittenJumps → Word → Span → Binds → Statements → Statements
with_part W l at bs b = then at (with bs (left_over W unlabelled l b)) done

-- ---- what is asked of them

-- statements without jumps that assign variables alone, for all of which items are written
pub record Plain (P : Program) (S : Statements) : Type 0 where
  pub settled : Settled (is_among (vars P)) S
  pub parts : AllInParts S

-- S is what the statements ss become
pub record Fits (P : Program) (S ss : Statements) : Type 0 where
  pub plain : Plain P S
  pub fresh : NoOld ss

-- ---- what is written

-- behind the items of before: those for the statements S, where the variables of `earlier` are assigned before; g puts in what stands for `self`
pub record Writes (P : Program) (g : Items → Items) (ts us : List Tree) (before after : List Item) (earlier assigned : Bits) (S : Statements) : Type 0 where
  pub items : items_at us after ≡ onto (items_at ts before) (g (write (vars P) (is_among (names_in (vars P) earlier)) S))
  pub names : (x : Word) → is_among (names_in (vars P) assigned) x ≡ is_among (assigned_in S) x
