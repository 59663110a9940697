-- Proves that a macro call offends what is kept of the macro, if there is one.
use Rattle.std.proofs.Common.{ℕ, List, length, Some, None, sym, ap, ◌∙◌, subst}
use Rattle.std.proofs.lemmas.Result.{on_ok_weaker}
use Rattle.tla_token.specs.declared.rule.Rule.TheVariants.{Unknown}
use Rattle.tla_tree.specs.Pool.{trees_at}
use Rattle.pcal_tree.specs.Algorithm.{Name}
use Rattle.pcal_tree.specs.Offences.{offence, first}
use Rattle.declared_rules.specs.declared.using.NameUse.{NameUse}
use Rattle.name_rules.specs.Finding.{Tells}
use Rattle.name_rules.specs.Calling.{kept_list, wrong_number}
use Rattle.name_rules.proofs.CallLaws.{all_called, first_kept, kept_called, macro_called}
use Rattle.name_rules.proofs.found.Found.call_macro.Goals as goal

pub returns-in-Some : goal.returns-in-Some
returns-in-Some c =
    on_ok_weaker c.all_called.result
    (λ a C ps m.
    let ts = c.args.pool.now in
    let es = c.args.es.now in
    let u = c.in-Some.kept.now in
    macro_called c.args.callees.now C ps c.args.self.now c.all_called.new.self (Some u) c.args.place c.args.name.now (trees_at ts es) m c.in-Some.ensures.value
    (kept_called ts es u c.args.place c.args.self.now c.refuse.new.self c.refuse-in-Some.new.self c.all_called.new.self
    (c.refuse.ensures (wrong_number (length u.params.items) (length es) c.args.place) (c.or_offence.ensures ∙ ap (λ (n : ℕ). first (wrong_number n (length es) c.args.place)) (c.len.ensures ∙ sym c.deref.ensures.len ∙ ap (λ (xs : List Name). length xs) c.deref.ensures.value)))
    (c.refuse-in-Some.ensures (kept_list u.found.first) (first_kept u.found.first))
    (subst (λ (vs : List NameUse). Tells c.refuse-in-Some.new.self c.all_called.new.self (all_called ts es u.params.items vs)) c.as_slice.ensures.keys
    (subst (λ (ps : List Name). Tells c.refuse-in-Some.new.self c.all_called.new.self (all_called ts es ps c.as_slice.result.now)) c.deref.ensures.value a)))) c.all_called.ensures

pub returns-in-None : goal.returns-in-None
returns-in-None c = λ C ps m.
    macro_called c.args.callees.now C ps c.args.self.now c.refuse-in-None.new.self None c.args.place c.args.name.now (trees_at c.args.pool.now c.args.es.now) m c.in-None.ensures.value
    (c.refuse-in-None.ensures (offence Unknown c.args.place) c.or_offence-in-None.ensures)
