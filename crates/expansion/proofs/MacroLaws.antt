-- The macro that is called, by the macros in memory; and why the calls that go through bodies end.
use Rattle.std.proofs.Common.{◌≡◌, ℕ, ◌+◌, ◌<◌, List, [], ◌∷◌, ◌++◌, length, map, take, get_or, reverse, Bool, true, false, IsTrue, ◌↔◌, cond, sym, ap, ◌∙◌}
use Rattle.std.proofs.lemmas.List.{take_more, map-append, reverse-append}
use Rattle.tla_tree.specs.Tree.{Word, Tree, Trees}
use Rattle.pcal_tree.specs.declared.algorithm.Macro.{Macro}
use Rattle.pcal_tree.specs.Algorithm as pure
use Rattle.pcal_tree.specs.InMemory.{macro_at}
use Rattle.pcal_tree.specs.Expand.{written_out}
use Rattle.expansion_size.specs.FramesIn.{newest_first}
use Rattle.expansion_size.proofs.FrameLaws.{same_is}
use Rattle.expansion.specs.Written.{body_written}

newest_more : (ts : List Tree) (ms : List Macro) (i : ℕ) (o : Macro) → o ≡ get_or ms i o → i < length ms → newest_first ts (take (i + 1) ms) ≡ macro_at ts o ∷ newest_first ts (take i ms)
newest_more ts ms i o here within =
    ap (newest_first ts) (take_more ms i o within ∙ ap (λ (m : Macro). take i ms ++ m ∷ []) (sym here))
    ∙ ap (λ (l : List pure.Macro). reverse l) (map-append (macro_at ts) (take i ms) (o ∷ []))
    ∙ reverse-append (map (macro_at ts) (take i ms)) (macro_at ts o ∷ [])

module _ (ts : List Tree) (ms : List Macro) (i : ℕ) (o : Macro) (here : o ≡ get_or ms i o) (within : i < length ms) (at : pure.Span) (x : Word) (us : Trees) (b : Bool) (h : IsTrue b ↔ (o.name.word ≡ x)) where
  by_name : cond b (body_written ts (take i ms) o us) (written_out (newest_first ts (take i ms)) at x us) ≡ written_out (newest_first ts (take (i + 1) ms)) at x us
  by_name =
      ap (λ (c : Bool). cond c (body_written ts (take i ms) o us) (written_out (newest_first ts (take i ms)) at x us)) (same_is b o.name.word x h)
      ∙ ap (λ (l : List pure.Macro). written_out l at x us) (sym (newest_more ts ms i o here within))

  pub named_so : b ≡ true → body_written ts (take i ms) o us ≡ written_out (newest_first ts (take (i + 1) ms)) at x us
  named_so t = ap (λ (c : Bool). cond c (body_written ts (take i ms) o us) (written_out (newest_first ts (take i ms)) at x us)) (sym t) ∙ by_name

  pub named_other : b ≡ false → written_out (newest_first ts (take i ms)) at x us ≡ written_out (newest_first ts (take (i + 1) ms)) at x us
  named_other t = ap (λ (c : Bool). cond c (body_written ts (take i ms) o us) (written_out (newest_first ts (take i ms)) at x us)) (sym t) ∙ by_name
