-- Disjuncts that are put behind others, and those of what runs.
use Rattle.std.proofs.Common.{◌≡◌, ℕ, List, [], ◌∷◌, ◌++◌, map, sym, ap, subst, ◌∙◌, append-nil}
use Rattle.std.proofs.lemmas.List.{map_push}
use Rattle.tla_tree.specs.Tree.{Tree}
use Rattle.module_tree.specs.Module as pure
use Rattle.pcal_tree.specs.declared.algorithm.Main as code_main
use Rattle.pcal_tree.specs.declared.algorithm.Main.TheVariants as main
use Rattle.pcal_tree.specs.Algorithm.{Statements, numbered, first_process}
use Rattle.pcal_tree.specs.InMemory.{statements_at, process_at, main_at}
use Rattle.pcal_tree.specs.OffencesLabels.{label_words}
use Rattle.pcal_tree.specs.Takers.{lone, taken_process}
use Rattle.pcal_tree.specs.Program.{Program}
use Rattle.module_write.specs.declared.«module».Way.{Way}
use Rattle.module_write.specs.InMemory.{way_at, ways_at, WayIn, WaysIn}
use Rattle.action_builder.specs.NextFormula.{own_way, main_ways}
use Rattle.module_formulas.specs.TakersIn.{taken}
use Rattle.module_formulas.specs.LabelWays.{label_way}
use Rattle.module_formulas.specs.MainWays.{body_routine, main_ways_at}

pub ways_push : (ts : List Tree) (ys zs : List Way) (y : Way) (t : pure.Way) → way_at ts y ≡ t → zs ≡ ys ++ y ∷ [] → ways_at ts zs ≡ ways_at ts ys ++ t ∷ []
ways_push ts ys zs y t e more = ap (map (way_at ts)) more ∙ map_push (way_at ts) ys y ∙ ap (λ (z : pure.Way). ways_at ts ys ++ z ∷ []) e

in_push : (m : ℕ) (ys : List Way) (y : Way) → WaysIn m ys → WayIn m y → WaysIn m (ys ++ y ∷ [])
in_push m [] y h k = (k, tt)
in_push m (z ∷ ys) y h k = (h.0, in_push m ys y h.1 k)

pub ways_in : (m : ℕ) (ys zs : List Way) (y : Way) → WaysIn m ys → WayIn m y → zs ≡ ys ++ y ∷ [] → WaysIn m zs
ways_in m ys zs y h k more = subst (WaysIn m) (sym more) (in_push m ys y h k)

of_body : (P : Program) (ts : List Tree) (b : Statements) (n k : ℕ) → n ≡ k → map (label_way P (taken lone (body_routine n b))) (label_words b) ≡ map (label_way P (taken lone (body_routine k b))) (label_words b)
of_body P ts b n k e = ap (λ (i : ℕ). map (label_way P (taken lone (body_routine i b))) (label_words b)) e

pub main_ways_are : (P : Program) (ts : List Tree) (m : code_main.Main) (n : ℕ) → n ≡ first_process P.algorithm → main_ways_at P n ts m ≡ main_ways P (main_at ts m)
main_ways_are P ts (main.Alone ss) n e =
    let b = statements_at ts ss.items in
    of_body P ts b n (first_process P.algorithm) e ∙ sym (append-nil (map (label_way P (taken lone (body_routine (first_process P.algorithm) b))) (label_words b)))
main_ways_are P ts (main.Processes ps) n e = ap (λ (i : ℕ). map (own_way P) (numbered taken_process i (map (process_at ts) ps.items))) e
