-- Proves what the initial values of a procedure use.
use Rattle.std.proofs.lemmas.Result.{on_ok_weaker}
use Rattle.std.proofs.Common.{List, ◌++◌, sym, ap, subst, ◌∙◌}
use Rattle.tla_tree.specs.Tree.{Word}
use Rattle.pcal_tree.specs.InMemory.{declarations_at}
use Rattle.pcal_tree.specs.Variables.{declared}
use Rattle.algorithm_limits.specs.DepthsIn.{Hides}
use Rattle.algorithm_limits.proofs.BoundLemmas.{hides_as, hides_then}
use Rattle.module_outside.specs.SightIn.{Binds}
use Rattle.module_outside.proofs.SightLaws.{binds_all}
use Rattle.read_rules.specs.JumpsIn.{used_by_starts}
use Rattle.read_rules.specs.NumbersIn.{declared_in}
use Rattle.read_rules.specs.Using.{kept}
use Rattle.read_rules.proofs.JumpLaws.{names_at}
use Rattle.read_rules.proofs.jumps.add_values.Goals as goal

pub returns : goal.returns
returns c =
    on_ok_weaker c.add_starts.result
    (λ done o b.
    let ts = c.args.pool.now in
    let ds = c.args.one.now.params.items in
    let es = c.args.one.now.variables.items in
    let xs = declared (declarations_at ts ds ++ declarations_at ts es) in
    let old = c.args.used.now in
    let one = c.add_declared.new.names in
    let two = c.add_declared-2.new.names in
    let hides = hides_then old.bound one two (declared_in ds) (declared_in es) (hides_as old.bound one _ _ (ap declared_in c.deref.ensures.value) c.in_ok-add_declared.ensures) (hides_as one two _ _ (ap declared_in c.deref-2.ensures.value) c.in_ok-add_declared-2.ensures) in
    let binds = binds_all two (declared_in ds ++ declared_in es) (subst (λ (hs : List Word). Hides hs two (declared_in ds ++ declared_in es)) b hides) in
    done.meets xs (subst (λ (ys : List Word). Binds two ys) (sym (names_at ts ds es)) binds)
    ∙ (λ i. old.names.items ++ kept (o i) (used_by_starts (declarations_at ts (c.deref-3.ensures.value i)) xs))) c.add_starts.ensures
