-- Proves that a group is put back with one assignment more.
use Rattle.std.proofs.Common.{◌≡◌, [], ◌∷◌, ◌++◌, List, Vec, Global, sym, ap, ◌∙◌}
use Rattle.pcal_tree.specs.declared.algorithm.Assignment.{Assignment}
use Rattle.right_sides.proofs.GroupLaws.{list_in, added, added_past}
use Rattle.right_sides.proofs.groups.add.Goals as goal
use Rattle.right_sides.proofs.groups.add.Goals.{in-Some, in-None}

pub returns-clause-groups : goal.returns-clause-groups
returns-clause-groups c =
    let before : c.match-before.group.items ≡ list_in c.in_ok-before.before =
    elim c.match-before.branch [
      | in-Some w ↦ ap (λ (g : Vec Assignment Global). g.items) w.group-is ∙ sym (ap list_in w.in-Some.is)
      | in-None w ↦ ap (λ (g : Vec Assignment Global). g.items) w.group-is ∙ w.new-group.ensures.items ∙ sym (ap list_in w.in-None.is)
    ] in
    added c.args.groups.now.entries c.insert.new.self.entries c.insert-2.new.self.entries c.args.name c.in_ok-copied.field-0 c.in_ok-before.before c.new.result c.push.new.self c.args.one c.in_ok-copied.ensures
    c.in_ok-before.ensures.old c.in_ok-before.ensures.entries c.in_ok-insert.ensures.entries (c.in_ok-push.ensures.items ∙ ap (λ (l : List Assignment). l ++ c.args.one ∷ []) before)

pub returns-clause-past : goal.returns-clause-past
returns-clause-past c =
    let before : c.match-before.group.items ≡ list_in c.in_ok-before.before =
    elim c.match-before.branch [
      | in-Some w ↦ ap (λ (g : Vec Assignment Global). g.items) w.group-is ∙ sym (ap list_in w.in-Some.is)
      | in-None w ↦ ap (λ (g : Vec Assignment Global). g.items) w.group-is ∙ w.new-group.ensures.items ∙ sym (ap list_in w.in-None.is)
    ] in
    added_past c.args.groups.now.entries c.insert.new.self.entries c.insert-2.new.self.entries c.args.name c.in_ok-copied.field-0 c.in_ok-before.before c.new.result c.push.new.self c.args.one c.in_ok-copied.ensures
    c.in_ok-before.ensures.old c.in_ok-before.ensures.entries c.in_ok-insert.ensures.entries (c.in_ok-push.ensures.items ∙ ap (λ (l : List Assignment). l ++ c.args.one ∷ []) before)
