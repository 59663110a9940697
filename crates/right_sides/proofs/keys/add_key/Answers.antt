-- Proves that a field is one step and no subscript, and that a subscript's number is of the pool.
use Rattle.std.proofs.Common.{List, [], ◌∷◌, ◌++◌, map, sym, ap, ◌∙◌, append-nil}
use Rattle.std.proofs.lemmas.List.{map_push}
use Rattle.tla_tree.specs.Tree as pure
use Rattle.tla_tree.specs.Pool.{at}
use Rattle.tla_pool.specs.declared.form.Strict.{Strict}
use Rattle.tla_pool.specs.FormOf.{step_of, steps_of as path_of, strict_of, form_of}
use Rattle.action_builder.specs.Written.{Key, fixed, steps_of}
use Rattle.right_sides.specs.Keys.{key_trees}
use Rattle.right_sides.proofs.KeyLaws.{field_key, second_below}
use Rattle.right_sides.proofs.keys.add_key.Goals as goal

pub returns-in_ok-push-in-Apply-2-clause-within : goal.returns-in_ok-push-in-Apply-2-clause-within
returns-in_ok-push-in-Apply-2-clause-within c =
    let form = ap form_of c.in-Strict.is ∙ ap (λ (s : Strict). pure.strict (strict_of s)) c.in-Apply.is in
    second_below _ c.args.e c.index.result.now c.node-node.result.now _ c.requires.there c.node.view_is form c.node-node.ensures.shaped c.node-node.ensures.older c.index.ensures c.args.subscripts.now.items
    c.push-in-Apply.new.self.items c.in_ok-push-in-Apply-2.ensures.items c.requires.below

pub returns-in_ok-push-in-Select-clause-path : goal.returns-in_ok-push-in-Select-clause-path
returns-in_ok-push-in-Select-clause-path c =
    let ts = c.args.pool.now in
    let form = ap form_of c.in-Strict.is ∙ ap (λ (s : Strict). pure.strict (strict_of s)) c.in-Select.is in
    let own = field_key ts (at ts c.args.e) c.node-node.result.now _ _ c.node-node.ensures.tree c.node.view_is form c.node-node.ensures.shaped in
    ap path_of c.in_ok-push-in-Select.ensures.items ∙ map_push step_of c.args.path.now.items _
    ∙ ap (λ (a : pure.Word). path_of c.args.path.now.items ++ steps_of (fixed a ∷ [])) c.in_ok-copied-in-Select.ensures
    ∙ ap (λ (ks : List Key). path_of c.args.path.now.items ++ steps_of ks) (sym own)

pub returns-in_ok-push-in-Select-clause-subscripts : goal.returns-in_ok-push-in-Select-clause-subscripts
returns-in_ok-push-in-Select-clause-subscripts c =
    let ts = c.args.pool.now in
    let form = ap form_of c.in-Strict.is ∙ ap (λ (s : Strict). pure.strict (strict_of s)) c.in-Select.is in
    let own = field_key ts (at ts c.args.e) c.node-node.result.now _ _ c.node-node.ensures.tree c.node.view_is form c.node-node.ensures.shaped in
    sym (append-nil (map (at ts) c.args.subscripts.now.items)) ∙ ap (λ (ks : List Key). map (at ts) c.args.subscripts.now.items ++ key_trees ks) (sym own)
