-- The macro that is called, by the macros in memory; and why the calls that go through bodies end.
use Rattle.std.proofs.Common.{◌≡◌, ℕ, zero, suc, ◌+◌, ◌*◌, ◌<◌, ◌≤◌, List, [], ◌∷◌, ◌++◌, length, map, take, get_or, reverse, Bool, true, false, IsTrue, ◌↔◌, cond, sym, ap, ◌∙◌, arith}
use Rattle.std.proofs.lemmas.List.{take_more, map-append, reverse-append}
use Rattle.tla_tree.specs.Tree.{Word, Tree, Trees, Graft}
use Rattle.tla_tree.specs.Nesting.{greatest}
use Rattle.pcal_tree.specs.declared.algorithm.Macro.{Macro}
use Rattle.pcal_tree.specs.Algorithm as pure
use Rattle.pcal_tree.specs.InMemory.{macro_at, past_macro}
use Rattle.pcal_tree.proofs.StatementHeights.{heights}
use Rattle.expansion_size.specs.Budget.{calls}
use Rattle.expansion_size.specs.FramesIn.{newest_first, after_body}
use Rattle.expansion_size.proofs.FrameLaws.{same_is}

newest_more : (ts : List Tree) (ms : List Macro) (i : ℕ) (o : Macro) → o ≡ get_or ms i o → i < length ms → newest_first ts (take (i + 1) ms) ≡ macro_at ts o ∷ newest_first ts (take i ms)
newest_more ts ms i o here within =
    ap (newest_first ts) (take_more ms i o within ∙ ap (λ (m : Macro). take i ms ++ m ∷ []) (sym here))
    ∙ ap (λ (l : List pure.Macro). reverse l) (map-append (macro_at ts) (take i ms) (o ∷ []))
    ∙ reverse-append (map (macro_at ts) (take i ms)) (macro_at ts o ∷ [])

module _ (ts : List Tree) (ms : List Macro) (i : ℕ) (o : Macro) (here : o ≡ get_or ms i o) (within : i < length ms) (g : Graft) (x : Word) (us : Trees) (b : Bool) (h : IsTrue b ↔ (o.name.word ≡ x)) where
  by_name : cond b (after_body ts (take i ms) o g us) (calls (newest_first ts (take i ms)) g x us) ≡ calls (newest_first ts (take (i + 1) ms)) g x us
  by_name =
      ap (λ (c : Bool). cond c (after_body ts (take i ms) o g us) (calls (newest_first ts (take i ms)) g x us)) (same_is b o.name.word x h)
      ∙ ap (λ (l : List pure.Macro). calls l g x us) (sym (newest_more ts ms i o here within))

  pub named_so : b ≡ true → after_body ts (take i ms) o g us ≡ calls (newest_first ts (take (i + 1) ms)) g x us
  named_so t = ap (λ (c : Bool). cond c (after_body ts (take i ms) o g us) (calls (newest_first ts (take i ms)) g x us)) (sym t) ∙ by_name

  pub named_other : b ≡ false → calls (newest_first ts (take i ms)) g x us ≡ calls (newest_first ts (take (i + 1) ms)) g x us
  named_other t = ap (λ (c : Bool). cond c (after_body ts (take i ms) o g us) (calls (newest_first ts (take i ms)) g x us)) (sym t) ∙ by_name

-- ---- how much there is to go through, at most

abbrev pub work : List Macro → ℕ
work [] = 0
work (o ∷ ms) = 5 * heights o.body.items + 4 + work ms

pub less_work : (ms : List Macro) (i : ℕ) (o : Macro) → o ≡ get_or ms i o → i < length ms → work (take i ms) + 5 * heights o.body.items + 4 ≤ work ms
less_work [] i o e h = absurd (let n : ⊥ = omega (arith, h) in n)
less_work (m ∷ ms) zero o e h = let same : heights o.body.items ≡ heights m.body.items = ap (λ (o : Macro). heights o.body.items) e in omega (arith, same)
less_work (m ∷ ms) (suc i) o e h = let less = less_work ms i o e (omega (arith, h)) in omega (arith, less)

pub fewer_past : (ms : List Macro) (i : ℕ) → greatest (map past_macro (take i ms)) ≤ greatest (map past_macro ms)
fewer_past [] zero = omega arith
fewer_past [] (suc i) = omega arith
fewer_past (m ∷ ms) zero = omega arith
fewer_past (m ∷ ms) (suc i) = let less = fewer_past ms i in omega (arith, less)
