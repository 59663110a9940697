-- Proves that the lines of the one body have the algorithm's name.
use Rattle.std.proofs.Common.{List, ◌++◌, sym, ap, ◌∙◌}
use Rattle.std.proofs.lemmas.Result.{on_ok_weaker}
use Rattle.tla_tree.specs.Tree.{Word, Name}
use Rattle.pcal_tree.specs.declared.algorithm.Stmt.{Stmt}
use Rattle.pcal_tree.specs.declared.algorithm.Main.{Main}
use Rattle.pcal_tree.specs.InMemory.{statements_at}
use Rattle.source_map.specs.Lines.{Line, lines_in}
use Rattle.written_names.specs.Units.{naming_of}
use Rattle.label_lines.specs.Found.{lines_seen}
use Rattle.label_lines.specs.Mains.{main_lines}
use Rattle.label_lines.proofs.lines.of_main.Goals as goal

pub returns-in_ok-title-in-Alone : goal.returns-in_ok-title-in-Alone
returns-in_ok-title-in-Alone c =
    on_ok_weaker c.statements.result (λ g ts.
    g ts
    ∙ ap (λ (ls : List Line). lines_seen c.args.into.now.items ++ ls)
    (ap (λ (ys : List Stmt). lines_in ((naming_of c.args.naming.now).label c.args.number) c.in_ok-title-in-Alone.title (statements_at ts ys)) c.deref.ensures.value
    ∙ ap (λ (x : Word). lines_in ((naming_of c.args.naming.now).label c.args.number) x (statements_at ts c.in-Alone.body.items)) (c.in_ok-title-in-Alone.ensures ∙ ap (λ (x : Name). x.word) c.name.view_is)
    ∙ ap (λ (m : Main). main_lines (naming_of c.args.naming.now) c.args.number c.args.name.now.word ts m) (sym c.in-Alone.is)))
    c.statements.ensures
