-- Texts of lists with a sign between two members.
use Rattle.std.proofs.Common.{◌≡◌, ℕ, List, [], ◌∷◌, ◌++◌, refl}
use Rattle.std.specs.Prelude.{codes}
use Rattle.tla_tree.specs.Tree.{Name, Tree}
use Rattle.tla_tree.specs.Pool.{at, trees_at}
use Rattle.tla_tree.specs.Written.{written}
use Rattle.pcal_tree.specs.declared.algorithm.Assignment.{Assignment}
use Rattle.pcal_tree.specs.declared.algorithm.Bind.{Bind}
use Rattle.pcal_tree.specs.declared.algorithm.Bind.TheVariants as bind
use Rattle.pcal_tree.specs.declared.algorithm.Declaration.{Declaration}
use Rattle.pcal_tree.specs.Printed.{declaration_text, declarations_text, names_text, listed, separated, trees_texts, assignments_texts, binds_texts}
use Rattle.pcal_tree.specs.InMemory.{declaration_at, declarations_at, assignments_at, binds_at}
use Rattle.tla_write.proofs.OneMore.{Parted}

pub names_parted : Parted names_text (λ (x : Name). x.word) (codes ", ")
names_parted = record { none = refl; one = λ x. refl; more = λ x y xs. refl }

pub expressions_parted : (ts : List Tree) → Parted (λ (es : List ℕ). listed (trees_texts (trees_at ts es))) (λ e. written (at ts e)) (codes ", ")
expressions_parted ts = record { none = refl; one = λ x. refl; more = λ x y xs. refl }

pub declarations_parted : (ts : List Tree) → Parted (λ (ds : List Declaration). declarations_text (declarations_at ts ds)) (λ d. declaration_text (declaration_at ts d)) (codes ", ")
declarations_parted ts = record { none = refl; one = λ x. refl; more = λ x y xs. refl }

pub assignments_parted : (ts : List Tree) → Parted (λ (ms : List Assignment). separated (codes " || ") (assignments_texts (assignments_at ts ms))) (λ m. written (at ts m.left) ++ codes " := " ++ written (at ts m.right)) (codes " || ")
assignments_parted ts = record { none = refl; one = λ x. refl; more = λ x y xs. refl }

pub binds_parted : (ts : List Tree) → Parted (λ (bs : List Bind). listed (binds_texts (binds_at ts bs))) (λ b. listed (binds_texts (binds_at ts (b ∷ [])))) (codes ", ")
binds_parted ts = record { none = refl; one = λ x. refl; more = more }
  where
    more : (x y : Bind) (xs : List Bind) → listed (binds_texts (binds_at ts (x ∷ y ∷ xs))) ≡ listed (binds_texts (binds_at ts (x ∷ []))) ++ codes ", " ++ listed (binds_texts (binds_at ts (y ∷ xs)))
    more (bind.Among x e) (bind.Among y f) xs = refl
    more (bind.Among x e) (bind.Is y f) xs = refl
    more (bind.Is x e) (bind.Among y f) xs = refl
    more (bind.Is x e) (bind.Is y f) xs = refl
