-- Proves that what is kept of procedures says what calls of them offend.
use Rattle.std.proofs.Common.{◌≡◌, ℕ, ◌-◌, List, length, map, drop, ap, subst, arith}
use Rattle.pcal_tree.specs.declared.algorithm.Procedure.{Procedure}
use Rattle.pcal_tree.specs.InMemory.{procedure_at}
use Rattle.pcal_tree.specs.OffencesRebind.{call_rebinds}
use Rattle.declared_rules.specs.Keeping.{Means}
use Rattle.declared_rules.proofs.MacroLaws.{procedures_none, procedure_step}
use Rattle.declared_rules.proofs.kept.Keeps.procedures.Goals as goal

pub loop-i-init : goal.loop-i-init
loop-i-init c = λ P e st. procedures_none c.args.sight.now P c.args.self.now c.args.pool.now c.args.list.now e

pub loop-i-preserved : goal.loop-i-preserved
loop-i-preserved c = λ P e st.
    let h = c.in_ok-procedure.ensures in
    procedure_step c.args.sight.now P c.loop-i.self c.procedure.new.self c.args.pool.now c.args.list.now c.loop-i.i (length c.args.list.now - 1 - c.loop-i.i) c.index-list-count.result h.kept st (omega (arith, c.loop-i-test.true)) c.index-list-count.is
    h.params h.tells h.puts (c.loop-i.invariant P e st)

pub returns : goal.returns
returns c = λ P e st.
    subst (λ (qs : List Procedure). Means c.args.sight.now P c.loop-i.self (λ ms s x ts. call_rebinds ms (map (procedure_at c.args.pool.now) qs) x s)) (ap (λ (n : ℕ). drop n c.args.list.now) none) (c.loop-i.invariant P e st)
  where
    none : length c.args.list.now - c.loop-i.i ≡ 0
    none = omega (arith, c.loop-i-test.false)
