-- Proves that the names of an expression are added when it is opened.
use Rattle.std.proofs.Common.{List, [], ℕ, arith, ap, ◌∙◌}
use Rattle.std.specs.List.{flat_map}
use Rattle.tla_tree.specs.Pool.{Entry}
use Rattle.pcal_tree.specs.BoundNames.{lists_of}
use Rattle.pcal_tree.specs.InMemory.{past_numbers}
use Rattle.pcal_tree.proofs.InMemoryEach.{all_below_past}
use Rattle.declared_rules.specs.Met.{bound_words, expr_words}
use Rattle.declared_rules.proofs.MetWalks.{adds_as}
use Rattle.declared_rules.proofs.MetSwept.{node_adds}
use Rattle.declared_rules.proofs.met.Met.open.Goals as goal

pub exprs-requires : goal.exprs-requires
exprs-requires c =
    let below = all_below_past c.args.e c.in-Some.node.now.parts c.in-Some.ensures.older in
    let parts = ap (λ (n : Entry). past_numbers n.parts) c.node.view_is in
    omega (arith, below, parts, ap past_numbers c.deref.ensures.value, c.requires, (c.in_ok-form.ensures []).many)

pub returns : goal.returns
returns c =
    node_adds c.args.pool.now c.args.self.now c.form.new.self c.exprs.new.self c.args.e c.in-Some.node.now.form c.in-Some.node.now.place c.in-Some.node.now.parts c.in-Some.ensures.some
    (adds_as c.args.pool.now c.args.self.now c.form.new.self _ _ (ap (λ (n : Entry). bound_words (lists_of n.form)) c.node.view_is) (c.in_ok-form.ensures c.args.pool.now))
    (adds_as c.args.pool.now c.form.new.self c.exprs.new.self _ _ (ap (λ (is : List ℕ). flat_map (expr_words c.args.pool.now) is) (c.deref.ensures.value ∙ ap (λ (n : Entry). n.parts) c.node.view_is)) (c.exprs.ensures c.args.pool.now))
