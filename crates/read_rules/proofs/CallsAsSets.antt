-- Of calls of macros it matters only which there are.
use Rattle.std.proofs.Common.{◌≡◌, List, [], ◌∷◌, ◌++◌, Bool, true, false, ◌||◌, not, cond, bytes_eq, refl, sym, ap, ◌∙◌}
use Rattle.std.proofs.lemmas.List.Folds.{list_any-append}
use Rattle.std.proofs.lemmas.Slice.Eq.{bytes_eq-Decides}
use Rattle.tla_token.specs.Signs.{is_among}
use Rattle.tla_tree.specs.Tree.{Word}
use Rattle.pcal_tree.specs.Algorithm.{Macro}
use Rattle.pcal_tree.specs.OffencesCounts.{calls_of}
use Rattle.pcal_tree.specs.OffencesSelf.{without, reached}
use Rattle.pcal_tree.proofs.SelfByMacro.{turned}

pub among_without : (x : Word) (ms : List Word) (y : Word) → is_among (without x ms) y ≡ cond (bytes_eq x y) false (is_among ms y)
among_without x [] y = by (bytes_eq x y)
  where
    by : (b : Bool) → false ≡ cond b false false
    by true = refl
    by false = refl
among_without x (m ∷ ms) y = by (bytes_eq x m) refl (bytes_eq x y) refl (among_without x ms y)
  where
    by : (a : Bool) → bytes_eq x m ≡ a → (b : Bool) → bytes_eq x y ≡ b → is_among (without x ms) y ≡ cond b false (is_among ms y)
        → is_among (cond (not a) (m ∷ without x ms) (without x ms)) y ≡ cond b false (bytes_eq m y || is_among ms y)
    by true e true h rest = rest
    by true e false h rest =
        rest ∙ ap (λ (c : Bool). c || is_among ms y) (sym (ap (λ (z : Word). bytes_eq z y) (sym ((bytes_eq-Decides x m).0 e)) ∙ h))
    by false e true h rest =
        ap (λ (c : Bool). c || is_among (without x ms) y) (ap (bytes_eq m) (sym ((bytes_eq-Decides x y).0 h)) ∙ turned m x ∙ e) ∙ rest
    by false e false h rest = ap (λ (c : Bool). bytes_eq m y || c) rest

pub reached_same : (xs ys : List Word) → ((w : Word) → is_among xs w ≡ is_among ys w) → (ds : List Macro) → reached xs ds ≡ reached ys ds
reached_same xs ys h [] = refl
reached_same xs ys h (d ∷ older) =
    λ i. cond (h d.name.word i) (d ∷ reached_same (calls_of d.body ++ without d.name.word xs) (calls_of d.body ++ without d.name.word ys) more older i) (reached_same xs ys h older i)
  where
    more : (w : Word) → is_among (calls_of d.body ++ without d.name.word xs) w ≡ is_among (calls_of d.body ++ without d.name.word ys) w
    more w =
        list_any-append (λ v. bytes_eq v w) (calls_of d.body) (without d.name.word xs)
        ∙ ap (λ (c : Bool). is_among (calls_of d.body) w || c) (among_without d.name.word xs w ∙ ap (cond (bytes_eq d.name.word w) false) (h w) ∙ sym (among_without d.name.word ys w))
        ∙ sym (list_any-append (λ v. bytes_eq v w) (calls_of d.body) (without d.name.word ys))
