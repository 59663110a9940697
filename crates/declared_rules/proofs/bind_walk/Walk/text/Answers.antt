-- Proves that a macro's own text is looked at.
use Rattle.std.proofs.Common.{ℕ, List, take, refl, ap, ◌∙◌, subst}
use Rattle.tla_tree.specs.Tree.{Name, words, no_trees}
use Rattle.pcal_tree.specs.OffencesRebind.{any_name, rebound_all, putting_in}
use Rattle.algorithm_limits.specs.DepthsIn.{Hides}
use Rattle.declared_rules.specs.declared.bind_walk.Walk.{Walk}
use Rattle.declared_rules.specs.Telling.{told, Adds}
use Rattle.declared_rules.proofs.KeepLaws.{text_adds}
use Rattle.declared_rules.proofs.bind_walk.Walk.text.Goals as goal

pub returns : goal.returns
returns c =
    let g = c.args.sight.now in
    let mid : Walk = record { bound = c.add_all.new.self; first = c.names.new.self.first; free = c.names.new.self.free } in
    let last : Walk = record { bound = c.truncate.new.self; first = c.put.new.self.first; free = c.put.new.self.free } in
    text_adds g c.args.self.now c.names.new.self mid c.put.new.self last c.args.kept.now
    (subst (λ (ns : List Name). Adds g any_name c.args.self.now c.names.new.self (λ ms r. rebound_all ms r ns)) c.deref.ensures.value (c.in_ok-names.ensures any_name)) refl refl
    (subst (λ (ns : List Name). Hides c.names.new.self.bound c.add_all.new.self (words ns)) c.deref-2.ensures.value c.in_ok-add_all.ensures)
    (subst (λ (ps : List Name). Adds g any_name mid c.put.new.self (λ ms r. told ms c.args.kept.now.found (putting_in ps no_trees r r))) c.deref-3.ensures.value (c.in_ok-put.ensures no_trees refl)) refl refl
    (c.truncate.ensures ∙ ap (λ (k : ℕ). take k c.put.new.self.bound) c.len-around.ensures)
