-- A file has one place for a translation and one for an algorithm, and is refused in one way.
use Rattle.std.proofs.Common.{◌≡◌, ℕ, List, ◌++◌, sym, ap, ◌∙◌, take, drop}
use Rattle.std.proofs.lemmas.Option.{same_Some}
use Rattle.tla_token.specs.declared.rule.Rule.{Rule}
use Rattle.tla_token.specs.declared.rule.Refusal.{Refusal}
use Rattle.tla_token.specs.Places.{place_at}
use Rattle.module_tree.specs.Module.{Module}
use Rattle.module_tree.specs.Layout.{layout}
use Rattle.module_tree.specs.FileParts.{Span}
use Rattle.module_tree.specs.AlgorithmText.{AlgorithmText}
use Rattle.module_tree.specs.WithTranslation.{line_end_if_new}
use Rattle.module_tree.specs.Around.{begin_line, end_line, Around, Swapped}
use Rattle.module_tree.specs.FileOffences.{RefusesSplit}

pub one_around : (x : List ℕ) (m : Module) (w v : List ℕ) → Around x m w → Around x m v → w ≡ v
one_around x m w v a b =
    let same = same_Some a.at b.at (sym a.is_spot ∙ b.is_spot) in
    a.is ∙ ap (λ (s : Span). take s.from x ++ (begin_line ++ (layout m.region ++ (end_line ++ (line_end_if_new x ++ drop s.to x))))) same ∙ sym b.is

pub one_swapped : (x u w v : List ℕ) → Swapped x u w → Swapped x u v → w ≡ v
one_swapped x u w v a b =
    let same = same_Some a.old b.old (sym a.is_old ∙ b.is_old) in
    a.is ∙ ap (λ (s : AlgorithmText). take s.from x ++ (u ++ drop s.rest.to x)) same ∙ sym b.is

pub one_refusal : (x : List ℕ) (r s : Refusal) → RefusesSplit x r → RefusesSplit x s → r ≡ s
one_refusal x r s a b =
    let same = same_Some (r.rule, a.at) (s.rule, b.at) (sym a.first ∙ b.first) in
    let place : r.place ≡ s.place = a.place ∙ ap (λ (p : Rule × ℕ). place_at x p.1) same ∙ sym b.place in
    λ i. record { rule = (same i).0; place = place i }
