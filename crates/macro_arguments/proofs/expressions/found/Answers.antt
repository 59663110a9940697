-- Proves that what stands for a name is found.
use Rattle.std.proofs.Common.{◌≡◌, sym, ap, ◌∙◌}
use Rattle.tla_tree.specs.Tree.{name}
use Rattle.tla_tree.specs.Pool.{Entry, at}
use Rattle.tla_pool.specs.FormOf.{form_of}
use Rattle.expansion_size.specs.FramesIn.{put_by}
use Rattle.macro_arguments.proofs.TreeLaws.{found_none, found_some}
use Rattle.macro_arguments.proofs.expressions.found.Goals as goal

pub returns-in-Name-clause-none : goal.returns-in-Name-clause-none
returns-in-Name-clause-none c =
    let n = c.node-node.result.now in
    let ts = c.args.pool.now in
    let named : n.form ≡ name c.in-Name.name = sym (ap (λ (n : Entry). n.form) c.node.view_is) ∙ ap form_of c.in-Name.is in
    found_none ts (put_by ts c.args.frames.now) n c.in-Name.name (at ts c.args.e) named c.node-node.ensures.tree c.lookup.result (c.lookup.ensures.tree ts n.place)

pub returns-in-Name-clause-some : goal.returns-in-Name-clause-some
returns-in-Name-clause-some c =
    let n = c.node-node.result.now in
    let ts = c.args.pool.now in
    let named : n.form ≡ name c.in-Name.name = sym (ap (λ (n : Entry). n.form) c.node.view_is) ∙ ap form_of c.in-Name.is in
    found_some ts (put_by ts c.args.frames.now) n c.in-Name.name (at ts c.args.e) named c.node-node.ensures.tree c.lookup.result (c.lookup.ensures.tree ts n.place)
