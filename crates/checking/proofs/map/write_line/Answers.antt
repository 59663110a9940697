-- Proves that a line is put together.
use Rattle.std.proofs.Common.{◌∙◌, ◌≡◌, ap, List, ℕ, ◌++◌, ◌∷◌, []}
use Rattle.source_map.specs.Lines.{place_text}
use Rattle.checking.proofs.LinesWritten.{four_put}
use Rattle.checking.proofs.map.write_line.Goals as goal

pub returns : goal.returns
returns c =
    let l = c.args.line.now in
    let out = c.args.out.now.items in
    let s : List ℕ = 32 ∷ [] in
    let label : c.push.new.self.items ≡ (out ++ l.label) ++ s = c.in_ok-push.ensures.items ∙ ap (λ (v : List ℕ). v ++ s) (c.in_ok-extend_from_slice.ensures.items ∙ ap (λ (v : List ℕ). out ++ v) c.bytes.ensures) in
    let unit : c.push-2.new.self.items ≡ (((out ++ l.label) ++ s) ++ l.unit) ++ s =
    c.in_ok-push-2.ensures.items ∙ ap (λ (v : List ℕ). v ++ s) (c.in_ok-extend_from_slice-2.ensures.items ∙ (λ i. label i ++ c.bytes-2.ensures i)) in
    let first = c.in_ok-push-3.ensures.items ∙ ap (λ (v : List ℕ). v ++ s) (c.in_ok-write_place.ensures ∙ ap (λ (v : List ℕ). v ++ place_text l.first) unit) in
    c.in_ok-push-4.ensures.items ∙ ap (λ (v : List ℕ). v ++ 10 ∷ []) (c.in_ok-write_place-2.ensures ∙ ap (λ (v : List ℕ). v ++ place_text l.last) first)
    ∙ four_put out l.label l.unit (place_text l.first) (place_text l.last)
