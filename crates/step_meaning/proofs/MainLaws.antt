-- What a start asks of the whole program: its names, and its processes prepared.
use Rattle.std.proofs.Common.{◌≡◌, List, [], ◌∷◌, length, map, sym, ap, ◌∙◌}
use Rattle.std.specs.Prelude.{Vec}
use Rattle.std.specs.declared.alloc.Global.{Global}
use Rattle.tla_tree.specs.Tree.{Word, Tree, Each}
use Rattle.pcal_tree.specs.declared.algorithm.Declaration.{Declaration}
use Rattle.pcal_tree.specs.declared.algorithm.Process.{Process}
use Rattle.pcal_tree.specs.declared.algorithm.Main as code_main
use Rattle.pcal_tree.specs.declared.algorithm.Main.TheVariants as TheMain
use Rattle.pcal_tree.specs.Algorithm as tree
use Rattle.pcal_tree.specs.Algorithm.{Main, alone, processes, numbered, first_process}
use Rattle.pcal_tree.specs.InMemory.{declarations_at, process_at, main_at}
use Rattle.pcal_tree.specs.Program.{Program}
use Rattle.pcal_tree.specs.Variables.{declared}
use Rattle.step_moves.specs.Prepared.{prepared_process, prepared_main}
use Rattle.step_moves.specs.Runners.{names_of}
use Rattle.step_meaning.proofs.RoutineLaws.{numbered_many}

pub names_declared : (ts : List Tree) (N : Word → Type 0) (ds : List Declaration) → Each N (declared (declarations_at ts ds)) → Each N (names_of ds)
names_declared ts N [] h = tt
names_declared ts N (d ∷ ds) h = (h.0, names_declared ts N ds h.1)

abbrev inner : Main → List tree.Process
inner (alone ss) = []
inner (processes ps) = ps

module _ (P : Program) (ts : List Tree) (main ready : code_main.Main) (all : main_at ts main ≡ P.algorithm.main) (made : main_at ts ready ≡ prepared_main P P.algorithm.main) (ps qs : Vec Process Global)
    (e : main ≡ TheMain.Processes ps) (f : ready ≡ TheMain.Processes qs) where
  pub prepared_list : map (process_at ts) qs.items ≡ numbered (prepared_process P) (first_process P.algorithm) (map (process_at ts) ps.items)
  prepared_list = ap inner (sym (ap (main_at ts) f) ∙ made ∙ ap (prepared_main P) (sym all ∙ ap (main_at ts) e))

  pub prepared_many : length qs.items ≡ length ps.items
  prepared_many = numbered_many (process_at ts) (prepared_process P) (process_at ts) (first_process P.algorithm) qs.items ps.items prepared_list
