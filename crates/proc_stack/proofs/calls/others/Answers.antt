-- Proves that this is what a return restores, and nothing where the procedure is the routine itself.
use Rattle.std.proofs.Common.{Bool, cond, List, map, sym, ap, ◌∙◌}
use Rattle.tla_tree.specs.Tree.{Tree}
use Rattle.tla_tree.specs.Pool.{at}
use Rattle.pcal_tree.specs.Algorithm.{Assignments, no_assignments}
use Rattle.pcal_tree.specs.InMemory.{past_assignment}
use Rattle.action_builder.specs.Written.{old_stack}
use Rattle.written_names.specs.Units.{naming_of}
use Rattle.proc_stack.specs.Made.{Sides, sides_at}
use Rattle.proc_stack.specs.Pieces.{first_of, joined, field_sides}
use Rattle.proc_stack.proofs.MadeLaws.{made_stand, sides_joined}
use Rattle.proc_stack.proofs.calls.others.Goals as goal

pub returns-clause-made : goal.returns-clause-made
returns-clause-made c =
    let local = (naming_of c.args.locals.now.naming.now).local c.args.locals.now.unit in
    let names = c.args.locals.now.names.now in
    let end = c.add_fields.new.pool in
    let sides = c.add_fields.new.out.items in
    let frame = at c.first_record.new.pool c.in_ok-frame.frame in
    let all : Assignments = joined (map (field_sides local (first_of old_stack)) names) no_assignments in
    sides_joined end sides
    ∙ ap (λ (fs : List Sides). joined fs no_assignments) (made_stand past_assignment sides_at end c.new-sides.result.items sides (map (field_sides local frame) names) c.new-sides.ensures.items c.in_ok-add_fields.ensures.made)
    ∙ ap (λ (t : Tree). joined (map (field_sides local t) names) no_assignments) c.in_ok-frame.ensures.tree
    ∙ ap (λ (b : Bool). cond b no_assignments all) (sym c.if-itself.false)
