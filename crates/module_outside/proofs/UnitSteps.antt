-- Units one after the other: what is gathered of them, and of those that are left.
use Rattle.std.proofs.Common.{◌≡◌, ℕ, ◌+◌, ◌-◌, ◌<◌, ◌≤◌, true, List, ◌++◌, length, take, sym, ap, ◌∙◌, append-nil, append_assoc}
use Rattle.std.specs.List.{flat_map}
use Rattle.tla_token.specs.declared.token.Tokens.{Tokens}
use Rattle.tla_tree.specs.Lexical.{Token}
use Rattle.module_tree.specs.FileUnits.{cut}
use Rattle.expr_nodes.specs.Ahead.{ahead}
use Rattle.module_outside.specs.Fronts.{front_begins}
use Rattle.module_outside.proofs.FrontLaws.{ahead_end}
use Rattle.module_outside.proofs.UnitLaws.{unit_there, units_first}

module _ {A : Type 0} (f : List Token → List A) (v : Tokens) where
  -- the first one, and those behind it
  pub gathered_more : (i end : ℕ) (u : List Token) (old xs ys : List A) → i < length v.items.items → front_begins (ahead v i) ≡ true → end ≡ (i + 1) + length (cut (ahead v (i + 1))).front → u ≡ take (end - i) (ahead v i)
      → ys ≡ xs ++ f u → xs ++ flat_map f (cut (ahead v i)).units ≡ old → ys ++ flat_map f (cut (ahead v end)).units ≡ old
  gathered_more i end u old xs ys l b e w g inv =
      ap (λ (zs : List A). zs ++ flat_map f (cut (ahead v end)).units) g ∙ append_assoc xs (f u) (flat_map f (cut (ahead v end)).units)
      ∙ ap (λ (ts : List Token). xs ++ (f ts ++ flat_map f (cut (ahead v end)).units)) w
      ∙ ap (λ (tss : List (List Token)). xs ++ flat_map f tss) (sym (unit_there v i end l b e)) ∙ inv

  pub gathered_first : (i : ℕ) (xs : List A) → i ≡ 0 + length (cut (ahead v 0)).front → xs ++ flat_map f (cut (ahead v i)).units ≡ xs ++ flat_map f (cut (ahead v 0)).units
  gathered_first i xs e = ap (λ (tss : List (List Token)). xs ++ flat_map f tss) (units_first v i e)

  pub gathered_all : (i : ℕ) (xs old : List A) → length v.items.items ≤ i → xs ++ flat_map f (cut (ahead v i)).units ≡ old → xs ≡ old
  gathered_all i xs old l inv = sym (append-nil xs) ∙ ap (λ (ts : List Token). xs ++ flat_map f (cut ts).units) (sym (ahead_end v i l)) ∙ inv
