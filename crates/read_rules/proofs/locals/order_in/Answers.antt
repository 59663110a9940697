-- Proves that the first offence is found in globals, procedures and processes.
use Rattle.std.proofs.Common.{◌≡◌, List, [], map, sym, ap, ◌∙◌, subst}
use Rattle.std.specs.List.{flat_map}
use Rattle.std.proofs.lemmas.Result.{IfOk-weaker}
use Rattle.tla_tree.specs.Tree.{Word}
use Rattle.pcal_tree.specs.declared.algorithm.Declaration.{Declaration}
use Rattle.pcal_tree.specs.declared.algorithm.Procedure.{Procedure}
use Rattle.pcal_tree.specs.Algorithm as tree
use Rattle.pcal_tree.specs.InMemory.{declarations_at, procedure_at, algorithm_at}
use Rattle.pcal_tree.specs.Offences.{first}
use Rattle.pcal_tree.specs.OffencesReads.{processes_of}
use Rattle.pcal_tree.specs.Variables.{declared}
use Rattle.algorithm_limits.specs.Numbers.{Numbers, number_of}
use Rattle.algorithm_limits.specs.DepthsIn.{Hides}
use Rattle.algorithm_answer.specs.Joined.{joined}
use Rattle.read_rules.specs.EarlyReads.{early_in, early_in_locals, variables_of}
use Rattle.module_outside.specs.SightIn.{Binds}
use Rattle.module_outside.proofs.SightLaws.{none_bound, binds_all}
use Rattle.read_rules.specs.declared.order.Known.{Known}
use Rattle.read_rules.specs.NumbersIn.{declared_in}
use Rattle.read_rules.specs.Order.{Knows}
use Rattle.read_rules.specs.Locals.{procedure_list, process_list}
use Rattle.read_rules.proofs.NumberLaws.{declared_is}
use Rattle.read_rules.proofs.LocalLaws.{order_joined}
use Rattle.read_rules.proofs.locals.order_in.Goals as goal

pub returns : goal.returns
returns c =
    let ts = c.args.pool.now in
    let a : tree.Algorithm = algorithm_at ts c.args.algorithm.now in
    let all = variables_of a in
    let gs = declared a.globals in
    let known : Known = record { all = c.with_declarations.new.known.all; before = c.with_declarations.new.known.before; levels = c.new.result } in
    let before = c.with_declarations.new.known.before in
    let hides : c.args.known.now.before ≡ [] → Hides [] before (declared_in c.deref.result.now) = λ e. subst (λ (hs : List Word). Hides hs before (declared_in c.deref.result.now)) e c.in_ok-globals.ensures.hides in
    let knows : Binds c.args.known.now.all all → c.args.known.now.before ≡ [] → Knows known all [] gs = λ b e. record {
      all = subst (λ (hs : List Word). Binds hs all) (sym c.in_ok-globals.ensures.all) b;
      levels = λ x. ap (λ (es : Numbers). number_of es x) c.new.ensures;
      before = subst (λ (ws : List Word). Binds before ws) (ap declared_in c.deref.ensures.value ∙ sym (declared_is ts c.args.algorithm.now.globals.items)) (binds_all before (declared_in c.deref.result.now) (hides e));
    } in
    IfOk-weaker c.with_main.result _ _ (λ r h ls b l e.
    order_joined (early_in_locals all gs) c.in_ok-globals.globals c.in_ok-procedures.procedures r (early_in all ls [] 0 a.globals) (map procedure_list a.procedures) (map process_list (processes_of a.main))
    (c.in_ok-globals.ensures.found all ls [] (record { all = b; levels = l; before = subst (λ (hs : List Word). Binds hs []) (sym e) none_bound })
    ∙ ap (λ (ds : List Declaration). first (early_in all ls [] 0 (declarations_at ts ds))) c.deref.ensures.value)
    (c.in_ok-procedures.ensures.found all gs (knows b e)
    ∙ ap (λ (ps : List Procedure). joined c.in_ok-globals.globals (first (flat_map (early_in_locals all gs) (map procedure_list (map (procedure_at ts) ps))))) c.deref-2.ensures.value)
    (h all gs (subst (λ (k : Known). Knows k all [] gs) (sym c.in_ok-procedures.ensures.kept) (knows b e))))
    c.with_main.ensures
