-- What stands for names in the body of a macro that is called, by the calls around it in memory.
use Rattle.std.specs.Prelude.{ℕ, ◌+◌, max, List, map, reverse}
use Rattle.tla_tree.specs.Tree.{Tree, Trees, Graft, graft, grafts}
use Rattle.tla_tree.specs.Pool.{at, trees_at}
use Rattle.pcal_tree.specs.declared.algorithm.Macro as code_macro
use Rattle.pcal_tree.specs.Algorithm.{Macro, Statement, Statements, Branches}
use Rattle.pcal_tree.specs.InMemory.{statements_at, macro_at, past_numbers}
use Rattle.pcal_tree.specs.OffencesSteps.{called_with, nothing_put}
use Rattle.macro_expand.specs.Measured.{of_one, of_all, of_some}
use Rattle.expansion_size.specs.declared.frames.Found.{Found}
use Rattle.expansion_size.specs.declared.frames.Frames.{Frames}
use Rattle.expansion_size.specs.declared.frames.Frames.TheOpen.{Frames-F}
use Rattle.expansion_size.specs.declared.frames.Frames.TheFolds.{fold-Frames}
use Rattle.expansion_size.specs.Budget.{After, budget, calls}

abbrev pub put_step : List Tree → Frames-F Graft → Graft
put_step ts Frames-F.Outside = nothing_put
put_step ts (Frames-F.Called ps es outer) = called_with ps.now (grafts outer.now (trees_at ts es.now)) outer.now

abbrev pub put_by : List Tree → Frames → Graft
put_by ts = fold-Frames Graft (put_step ts)

-- past which numbers those of arguments are
abbrev pub past_step : Frames-F ℕ → ℕ
past_step Frames-F.Outside = 0
past_step (Frames-F.Called ps es outer) = max (past_numbers es.now) outer.now

abbrev pub past_frames : Frames → ℕ
past_frames = fold-Frames ℕ past_step

-- how many calls are around
abbrev pub count_step : Frames-F ℕ → ℕ
count_step Frames-F.Outside = 0
count_step (Frames-F.Called ps es outer) = outer.now + 1

abbrev pub calls_around : Frames → ℕ
calls_around = fold-Frames ℕ count_step

abbrev pub newest_first : List Tree → List code_macro.Macro → List Macro
newest_first ts ms = reverse (map (macro_at ts) ms)

-- after a statement, statements or branches, in a macro's body or outside
abbrev pub after_one : List Tree → List code_macro.Macro → Frames → Statement → After
after_one ts ms f st = of_one (budget (put_by ts f)) (calls (newest_first ts ms) (put_by ts f)) st

abbrev pub after_all : List Tree → List code_macro.Macro → Frames → Statements → After
after_all ts ms f b = of_all (budget (put_by ts f)) (calls (newest_first ts ms) (put_by ts f)) b

abbrev pub after_some : List Tree → List code_macro.Macro → Frames → Branches → After
after_some ts ms f bs = of_some (budget (put_by ts f)) (calls (newest_first ts ms) (put_by ts f)) bs

-- after the body of a macro that is called with these arguments, by the older macros
abbrev pub after_body : List Tree → List code_macro.Macro → code_macro.Macro → Graft → Trees → After
after_body ts older o g us =
    of_all (budget (called_with o.params.items (grafts g us) g)) (calls (newest_first ts older) (called_with o.params.items (grafts g us) g)) (statements_at ts o.body.items)

-- what was found, with what stands for names in it
abbrev pub found_tree : List Tree → Found → Tree
found_tree ts f = graft (put_by ts f.around.now) (at ts f.argument)
