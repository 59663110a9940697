-- Proves what is asked of `write_units`.
use Rattle.std.proofs.Common.{◌≡◌, ℕ, List, [], ◌∷◌, ◌++◌, map, sym, ap, ◌∙◌, append_assoc}
use Rattle.tla_value.specs.Defs.{definitions_at}
use Rattle.module_tree.specs.Module.{definition_unit, action_unit, init_unit, next_unit, spec_unit}
use Rattle.tla_tree.specs.Pool.{at}
use Rattle.module_tree.specs.Ways.{processes_in}
use Rattle.module_write.specs.InMemory.{actions_at, ways_at, fairness_at, region_at}
use Rattle.module_lines.specs.Apart.{behind}
use Rattle.module_write.proofs.LayoutParts.{layout_parts}
use Rattle.tla_write.proofs.OneMore.{same_text}
use Rattle.module_write.proofs.write_units.write_units.Goals as goal

eleven : (old a b c d e f g h i j p q r s t u v w x y z : List ℕ) → a ≡ old ++ p → b ≡ a ++ q → c ≡ b ++ r → d ≡ c ++ s → e ≡ d ++ t → f ≡ e ++ u → g ≡ f ++ v → h ≡ g ++ w → i ≡ h ++ x → j ≡ i ++ y
    → j ++ z ≡ old ++ (p ++ (q ++ (r ++ (s ++ (t ++ (u ++ (v ++ (w ++ (x ++ (y ++ z))))))))))
eleven old a b c d e f g h i j p q r s t u v w x y z ea eb ec ed ee ef eg eh ei ej = rw (ej, ei, eh, eg, ef, ee, ed, ec, eb, ea) (simp append_assoc)

pub returns : goal.returns
returns c =
    let ts = c.args.pool.now in
    let r = region_at ts c.args.region.now in
    let n : c.processes-n.result ≡ processes_in r.next = c.processes-n.ensures ∙ ap (λ (ys : List _). processes_in (ways_at ts ys)) c.deref.ensures.value in
    same_text c.write_termination.result c.write_termination.new.into _ _ c.write_termination.ensures
    (eleven c.args.into.now c.write_constants.new.into c.write_variables.new.into c.write_definitions.new.into c.write_vars.new.into c.write_process_set.new.into c.write_init.new.into c.write_actions.new.into c.write_terminating.new.into c.write_next.new.into c.write_spec.new.into
    _ _ _ _ _ _ _ _ _ _ _
    c.in_ok-write_constants.ensures
    c.in_ok-write_variables.ensures
    (c.in_ok-write_definitions.ensures ∙ ap (λ (ds : List _). c.write_variables.new.into ++ behind 0 (map definition_unit (definitions_at ts ds))) c.as_slice.ensures)
    c.in_ok-write_vars.ensures
    c.in_ok-write_process_set.ensures
    (c.in_ok-write_init.ensures ∙ ap (λ (es : List ℕ). c.write_process_set.new.into ++ behind 0 (init_unit (map (at ts) es) ∷ [])) c.deref-2.ensures.value)
    (c.in_ok-write_actions.ensures ∙ ap (λ (acts : List _). c.write_init.new.into ++ behind 0 (map action_unit (actions_at ts acts))) c.deref-3.ensures.value)
    c.in_ok-write_terminating.ensures
    (c.in_ok-write_next.ensures ∙ ap (λ (ys : List _). c.write_terminating.new.into ++ behind 0 (next_unit (ways_at ts ys) ∷ [])) c.deref-4.ensures.value)
    (c.in_ok-write_spec.ensures ∙ ap (λ (fs : List _). c.write_next.new.into ++ behind 0 (spec_unit (map (fairness_at ts) fs) ∷ [])) c.deref-5.ensures.value)
    ∙ ap (λ (w : List ℕ). c.args.into.now ++ w) (sym (layout_parts r c.processes-n.result n)))
