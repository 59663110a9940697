-- How deep statements are in a statement: why calls that go through statements end.
use Rattle.std.proofs.lemmas.Simd.{map-map}
use Rattle.std.proofs.Common.{◌≡◌, ℕ, ◌+◌, max, List, map, Vec, Global, sym, ap, ◌∙◌}
use Rattle.pcal_tree.specs.declared.algorithm.Span.{Span}
use Rattle.pcal_tree.specs.declared.algorithm.Bind.{Bind}
use Rattle.pcal_tree.specs.declared.algorithm.Stmt.{Stmt}
use Rattle.pcal_tree.specs.declared.algorithm.Stmt.TheOpen.{Stmt-F}
use Rattle.pcal_tree.specs.declared.algorithm.Stmt.TheFolds.{fold-Stmt, fold-roll-Stmt}
use Rattle.pcal_tree.specs.declared.algorithm.Stmt.TheVariants.{If, Either, With, While, rolls-If, rolls-Either, rolls-With, rolls-While}
use Rattle.tla_tree.specs.Nesting.{greatest}

abbrev height_step : Stmt-F ℕ → ℕ
height_step (Stmt-F.If s e a b) = max (greatest a.items) (greatest b.items) + 1
height_step (Stmt-F.Either s bs) = greatest (map (λ (b : Vec ℕ Global). greatest b.items) bs.items) + 1
height_step (Stmt-F.With s bs a) = greatest a.items + 1
height_step (Stmt-F.While s e a) = greatest a.items + 1
height_step _ = 0

abbrev pub height : Stmt → ℕ
height = fold-Stmt ℕ height_step

abbrev pub heights : List Stmt → ℕ
heights ss = greatest (map height ss)

abbrev pub branch_heights : List (Vec Stmt Global) → ℕ
branch_heights bs = greatest (map (λ (b : Vec Stmt Global). heights b.items) bs)

pub if_height : (s : Span) (e : ℕ) (a b : Vec Stmt Global) → height (If s e a b) ≡ max (heights a.items) (heights b.items) + 1
if_height s e a b = ap height (sym (rolls-If s e a b)) ∙ fold-roll-Stmt ℕ height_step (Stmt-F.If s e a b)

pub either_height : (s : Span) (bs : Vec (Vec Stmt Global) Global) → height (Either s bs) ≡ branch_heights bs.items + 1
either_height s bs =
    ap height (sym (rolls-Either s bs)) ∙ fold-roll-Stmt ℕ height_step (Stmt-F.Either s bs) ∙ ap (λ (l : List ℕ). greatest l + 1) (map-map _ _ bs.items)

pub with_height : (s : Span) (bs : Vec Bind Global) (a : Vec Stmt Global) → height (With s bs a) ≡ heights a.items + 1
with_height s bs a = ap height (sym (rolls-With s bs a)) ∙ fold-roll-Stmt ℕ height_step (Stmt-F.With s bs a)

pub while_height : (s : Span) (e : ℕ) (a : Vec Stmt Global) → height (While s e a) ≡ heights a.items + 1
while_height s e a = ap height (sym (rolls-While s e a)) ∙ fold-roll-Stmt ℕ height_step (Stmt-F.While s e a)
