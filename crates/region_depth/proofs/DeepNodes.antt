-- How deep a node nests by its parts, with the bodies of definitions in place of names.
use Rattle.std.proofs.Common.{◌≡◌, ℕ, ◌+◌, ◌-◌, ◌<◌, ◌≤◌, max, min, List, length, map, sym, ap, ◌∙◌, subst, arith}
use Rattle.std.proofs.lemmas.List.{length-map}
use Rattle.tla_tree.specs.Tree.{Word, Form, Tree}
use Rattle.tla_tree.specs.Shapes.{Shaped}
use Rattle.tla_tree.specs.Pool.{Entry, at, trees_at, tree_in}
use Rattle.tla_value.specs.DefinitionNesting.{nests, Depths}
use Rattle.algorithm_limits.specs.Numbers.{Numbers}
use Rattle.algorithm_limits.specs.DepthsIn.{used_in, AreDepths, nest_from}
use Rattle.algorithm_limits.proofs.NestLaws.{node_nests}

-- by a table of definitions, up to a depth
pub node_found : (limit most : ℕ) (es : Numbers) (hs : List Word) (ts : List Tree) (e : ℕ) (n : Entry) (m : Form) (ids : List ℕ) (own parts depth : ℕ) → 0 < most → most ≤ limit → at ts e ≡ tree_in ts n → Shaped n.form (length n.parts) → m ≡ n.form → ids ≡ n.parts
    → own ≡ used_in es hs m → ((ds : Depths) → AreDepths limit es hs ds → min (most - 1 + 1) parts ≡ min (most - 1 + 1) (nest_from m 0 (trees_at ts ids) ds)) → depth ≡ min most (max own parts)
    → (ds : Depths) → AreDepths limit es hs ds → depth ≡ min most (nests (at ts e) ds)
node_found limit most es hs ts e n m ids own parts depth z l is s f g o k d ds a =
    let q : most - 1 + 1 ≡ most = omega (arith, z) in
    node_nests limit most es hs n.form n.place (map (at ts) n.parts) own parts depth l (subst (λ (c : ℕ). Shaped n.form c) (sym (length-map n.parts (at ts))) s) (o ∙ ap (used_in es hs) f)
    (λ bs b. ap (λ (c : ℕ). min c parts) (sym q) ∙ k bs b ∙ (λ i. min (q i) (nest_from (f i) 0 (trees_at ts (g i)) bs))) d ds a
    ∙ ap (λ (t : Tree). min most (nests t ds)) (sym is)
