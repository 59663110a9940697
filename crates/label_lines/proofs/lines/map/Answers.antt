-- Proves that the lines of an algorithm are those of its procedures and of what runs.
use Rattle.std.proofs.Common.{List, map, subst, arith}
use Rattle.std.specs.List.{flat_map}
use Rattle.pcal_tree.specs.declared.algorithm.Procedure.{Procedure}
use Rattle.pcal_tree.specs.Algorithm.{numbered, procedure_routine}
use Rattle.pcal_tree.specs.InMemory.{procedure_at}
use Rattle.source_map.specs.Lines.{lines_of_unit}
use Rattle.written_names.specs.Units.{naming_of}
use Rattle.label_lines.specs.declared.line.Line as code
use Rattle.label_lines.specs.Found.{Adds}
use Rattle.label_lines.proofs.LineLaws.{lines_are}
use Rattle.label_lines.proofs.lines.map.Goals as goal

pub returns : goal.returns
returns c = λ ts.
    lines_are (naming_of c.args.naming.now) ts c.args.algorithm.now c.len-first.result c.in_ok-number.number c.of_procedures.new.into.items c.of_main.new.into.items
    (omega (arith, c.len-first.ensures, c.args.algorithm.now.macros.ok)) (omega (arith, c.in_ok-number.ensures, c.len.ensures, c.args.algorithm.now.procedures.ok))
    (subst (λ (ls : List code.Line). Adds ls c.of_procedures.new.into.items (flat_map (lines_of_unit (naming_of c.args.naming.now)) (numbered procedure_routine c.len-first.result (map (procedure_at ts) c.args.algorithm.now.procedures.items)))) c.new-found.ensures.items
    (subst (λ (ps : List Procedure). Adds c.new-found.result.items c.of_procedures.new.into.items (flat_map (lines_of_unit (naming_of c.args.naming.now)) (numbered procedure_routine c.len-first.result (map (procedure_at ts) ps)))) c.deref.ensures.value
    (c.in_ok-of_procedures.ensures ts)))
    (c.in_ok-of_main.ensures ts)
