-- Proves what is asked of `rewritten`.
use Rattle.std.proofs.Common.{◌≡◌, ℕ, [], ◌++◌, take, drop, sym, ap, ◌∙◌, append_assoc}
use Rattle.std.proofs.lemmas.Option.{same_Some}
use Rattle.pcal_tree.specs.Printed.{printed}
use Rattle.pcal_tree.specs.InMemory.{algorithm_at}
use Rattle.module_tree.specs.TextFront.{Text}
use Rattle.module_tree.specs.AlgorithmText.{AlgorithmText}
use Rattle.pcal_tree.specs.Syntaxes.{syntax_of}
use Rattle.printed_text.specs.Rewritten.{gap}
use Rattle.rewriting.proofs.write_file.rewritten.Goals as goal

-- what was appended, one after the other
appended : (a b d e o p q r w : Text) → o ≡ [] → p ≡ o ++ a → q ≡ p ++ b → r ≡ q ++ d → w ≡ r ++ e → w ≡ a ++ ((b ++ d) ++ e)
appended a b d e o p q r w ho hp hq hr hw =
    hw ∙ ap (λ (u : Text). u ++ e) (hr ∙ ap (λ (u : Text). u ++ d) (hq ∙ ap (λ (u : Text). u ++ b) (hp ∙ ap (λ (u : Text). u ++ a) ho)))
    ∙ joined a b d e
  where
    joined : (a b d e : Text) → ((a ++ b) ++ d) ++ e ≡ a ++ ((b ++ d) ++ e)
    joined a b d e = simp append_assoc

pub returns : goal.returns
returns c =
    let parts = c.args.parts.now in
    let x = parts.text.now in
    let s = syntax_of c.args.to in
    let t = algorithm_at c.args.pool.now c.args.algorithm.now in
    let h = c.requires.spelled in
    let p = c.requires.parts in
    let same : p.found ≡ h.text = same_Some p.found h.text (sym p.algorithm ∙ h.is_text) in
    let from : parts.algorithm.from ≡ h.text.from = sym p.begins ∙ ap (λ (a : AlgorithmText). a.from) same in
    let to : parts.algorithm.to ≡ h.text.rest.to = sym p.ends ∙ ap (λ (a : AlgorithmText). a.rest.to) same in
    let behind : c.tail-behind.result.now ≡ drop h.text.rest.to x = c.tail-behind.ensures ∙ ap (λ (n : ℕ). drop n x) to in
    let front : c.head.result.now ≡ take h.text.from x = c.head.ensures ∙ ap (λ (n : ℕ). take n x) from in
    let bytes =
    appended (take h.text.from x) (printed s t) (gap s (drop h.text.rest.to x)) (drop h.text.rest.to x) c.new-out.result.items c.extend_from_slice.new.self.items c.extend_from_slice-2.new.self.items c.write_gap.new.out.items
    c.extend_from_slice-3.new.self.items c.new-out.ensures.items (c.in_ok-extend_from_slice.ensures.items ∙ ap (λ (u : Text). c.new-out.result.items ++ u) front)
    (c.in_ok-extend_from_slice-2.ensures.items ∙ ap (λ (u : Text). c.extend_from_slice.new.self.items ++ u) (c.deref.ensures.value ∙ c.in_ok-printed.ensures))
    (c.in_ok-write_gap.ensures ∙ ap (λ (u : Text). c.extend_from_slice-2.new.self.items ++ gap s u) behind)
    (c.in_ok-extend_from_slice-3.ensures.items ∙ ap (λ (u : Text). c.write_gap.new.out.items ++ u) behind) in
    record { old = h.text; is_old = h.is_text; syntax = h.syntax; tree = t; spelled = h.spelled; swapped = record { old = h.text; is_old = h.is_text; is = bytes } }
