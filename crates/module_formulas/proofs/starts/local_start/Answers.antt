-- Proves that the conjunct of a variable is made up of its parts.
use Rattle.std.proofs.Common.{◌≡◌, sym, ap, ◌∙◌}
use Rattle.std.proofs.lemmas.Result.{IfOk-weaker}
use Rattle.pcal_tree.specs.declared.algorithm.Declaration.{Declaration}
use Rattle.pcal_tree.specs.InMemory.{start_at}
use Rattle.pcal_tree.specs.Program.{written}
use Rattle.module_formulas.specs.TakersIn.{taker_at}
use Rattle.module_formulas.specs.Starts.{formula, spread_by, is_choice, first_value, started_in, set_in}
use Rattle.module_formulas.proofs.Grown.{taker_at-kept}
use Rattle.module_formulas.proofs.StartLaws.{start_is}
use Rattle.module_formulas.proofs.starts.local_start.Goals as goal

pub returns-clause-tree : goal.returns-clause-tree
returns-clause-tree c =
    let ts = c.args.pool.now in
    let d = c.args.one.now in
    let l = c.args.local.now in
    let first = c.in_ok-first.ensures in
    let choice = c.is_choice-is_set.ensures ts ∙ ap (λ (o : Declaration). is_choice (start_at ts o.start)) c.one.view_is in
    IfOk-weaker c.formula.result _ _ (λ r h P u of its.
    let name : c.local-written.result.now ≡ written P u d.name.word =
    c.local-written.ensures ∙ (λ j. (its.naming j).local (sym its.number j) (ap (λ (o : Declaration). o.name.word) c.one.view_is j)) in
    let t = taker_at ts c.args.taker in
    let value = first.tree P u of its ∙ ap (λ (o : Declaration). first_value (started_in P u t) (set_in P u t) (start_at ts o.start)) c.one.view_is in
    h
    ∙ (λ j. formula (choice j) (name j) ((c.in_ok-value.ensures.tree ∙ (λ k. spread_by (taker_at-kept ts c.first_value.new.pool first.kept c.args.taker c.requires.within k) (choice k) (value k))) j))
    ∙ start_is P u t (written P u d.name.word) (start_at ts d.start))
    c.formula.ensures.tree
