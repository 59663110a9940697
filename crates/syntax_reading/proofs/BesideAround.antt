-- Reading within the limits beside reading without: what stands around statements.
use Rattle.std.proofs.Common.{◌≡◌, ℕ, ◌+◌, ◌≤◌, List, [], ◌++◌, refl, subst, append_assoc, arith, codes, ◌∷◌}
use Rattle.std.proofs.lemmas.Bool.{leb-true, le-leb}
use Rattle.tla_token.specs.declared.place.Place.{Place}
use Rattle.tla_token.specs.Limits.{deepest_statement}
use Rattle.tla_tree.specs.Tree.{Name}
use Rattle.tla_tree.specs.Lexical.{TokenView, Token}
use Rattle.tla_tree.specs.Reader.{Reader, refuses}
use Rattle.tla_tree.specs.FirstStop.{Open}
use Rattle.pcal_tree.specs.GrammarParts.{Colon, colon, colon_plus, colon_minus, colon_tokens, Labels, no_labels, label, labels, maybe_separator, Binds, last_bind, bind}
use Rattle.pcal_tree.specs.OpenForms.{here, plain, expression_opens, binds_open, after_binds, opens}
use Rattle.syntax_reading.proofs.Beside.{Sits, fit_back, sits, sits_on, sits_here, Beside, BesideAt, beside_gives, beside_refuses, beside_bind, beside_then, beside_next, beside_stays, beside_skip, beside_key, Fit, Late}
use Rattle.syntax_reading.specs.ReadAround.{with_label, fair_by, more_of, head_words, head_by, read_head, to_last}
use Rattle.std.specs.List.{flat_map}
use Rattle.tla_tree.proofs.Limited.{Limited, limited_gives, limited_refuses}
use Rattle.pcal_tree.specs.Grammar.{weak, strong, algorithm, fair_algorithm, Text}
use Rattle.syntax_reading.proofs.Fair.{pick_both}
use Rattle.tla_tree.specs.Lexical as tk
use Rattle.tla_tree.specs.declared.op.Op.TheVariants as op
use Rattle.pcal_tree.specs.Grammar as gr

pub with_label_opens : (d : ℕ) (ls : Labels) (y : Name) (c : Colon) → plain d (labels (with_label ls y c)) ≡ plain d (labels ls) ++ here d ++ plain d (colon_tokens c)
with_label_opens d no_labels y (colon p) = refl
with_label_opens d no_labels y (colon_plus p q) = refl
with_label_opens d no_labels y (colon_minus p q) = refl
with_label_opens d (label z (colon p) ls) y c = rw (with_label_opens d ls y c) refl
with_label_opens d (label z (colon_plus p q) ls) y c = rw (with_label_opens d ls y c) refl
with_label_opens d (label z (colon_minus p q) ls) y c = rw (with_label_opens d ls y c) refl

pub sits_last : (d : ℕ) (x y : List Open) → Sits d (x ++ (y ++ here d))
sits_last d x y = subst (λ (z : List Open). Sits d z) (append_assoc x y (here d)) (sits_here d (x ++ y))

pub sits_after : {d : ℕ} (x : List Open) {y : List Open} → Sits d y → Sits d (x ++ y)
sits_after {d} x {y} s = record { is = λ f. s.is (fit_back x y f) }

pub sits_moved : {d : ℕ} {x y : List Open} → x ≡ y → Sits d x → Sits d y
sits_moved {d} {x} {y} e s = subst (λ (z : List Open). Sits d z) e s

pub sits_less : {n : ℕ} {x : List Open} (d : ℕ) → d ≤ n → Sits n x → Sits d x
sits_less {n} {x} d l s = record { is = λ f. (let h = leb-true n deepest_statement (s.is f) in le-leb d deepest_statement (omega (arith, l, h))) }

-- each bind is a form
pub binds_deep : (d : ℕ) (bs : Binds) → d + 1 ≤ after_binds d bs
binds_deep d (last_bind x b p e s) = omega arith
binds_deep d (bind x b p e s bs) = (let h = binds_deep (d + 1) bs in omega (arith, h))

-- after a list of binds
pub binds_sit : (d : ℕ) (x : List Open) (bs : Binds) → Sits (after_binds d bs) (x ++ binds_open d bs)
binds_sit d x (last_bind y b p a s) = moved (sits_on (here (d + 1) ++ expression_opens (d + 1) a ++ plain (d + 1) (maybe_separator s)) (sits_here (d + 1) x))
  where
    moved : Sits (d + 1) (x ++ here (d + 1) ++ (here (d + 1) ++ expression_opens (d + 1) a ++ plain (d + 1) (maybe_separator s))) → Sits (d + 1) (x ++ binds_open d (last_bind y b p a s))
    moved = subst (λ (z : List Open). Sits (d + 1) z) (simp append_assoc refl)
binds_sit d x (bind y b p a s bs) = moved (binds_sit (d + 1) (x ++ (here (d + 1) ++ here (d + 1) ++ expression_opens (d + 1) a ++ here (d + 1))) bs)
  where
    moved : Sits (after_binds (d + 1) bs) (x ++ (here (d + 1) ++ here (d + 1) ++ expression_opens (d + 1) a ++ here (d + 1)) ++ binds_open (d + 1) bs) → Sits (after_binds (d + 1) bs) (x ++ binds_open d (bind y b p a s bs))
    moved = subst (λ (z : List Open). Sits (after_binds (d + 1) bs) z) (simp append_assoc refl)

pub more_beside : {A : Type 0} (f : A → List Open) (x y : List Open) {r q : Reader A} {rs qs : Reader (List A)} → Beside y (λ a. x ++ f a) r q → ((z : List Open) → Beside z (λ xs. z ++ flat_map f xs) rs qs) → Beside y (λ xs. x ++ flat_map f xs) (more_of r rs) (more_of q qs)
more_beside f x y h i = beside_bind h (λ a. beside_bind (i (x ++ f a)) (λ xs. beside_gives (a ∷ xs) (simp append_assoc refl)))

pub more_beside_at : {A : Type 0} {p : Place} {k : TokenView} (f : A → List Open) (x : List Open) {r q : Reader A} {rs qs : Reader (List A)} → BesideAt p k x (λ a. x ++ f a) r q → ((z : List Open) → Beside z (λ xs. z ++ flat_map f xs) rs qs) → BesideAt p k x (λ xs. x ++ flat_map f xs) (more_of r rs) (more_of q qs)
more_beside_at f x h i = beside_then h (λ a. beside_bind (i (x ++ f a)) (λ xs. beside_gives (a ∷ xs) (simp append_assoc refl)))

pub fair_beside : (p q : Place) (k : TokenView) (x : List Open) → BesideAt q k (x ++ here 0) (λ f. x ++ plain 0 (gr.fair f)) (fair_by p q k) (fair_by p q k)
fair_beside p q (tk.sign op.Plus) x = beside_skip 0 sits refl (beside_gives (strong p q) (simp append_assoc refl))
fair_beside p q k x = beside_stays (beside_gives (weak p) refl)

pub head_beside : Beside [] (λ h. plain 0 (gr.head h)) read_head read_head
head_beside = beside_next by
  where
    by : (p : Place) (k : TokenView) → BesideAt p k [] (λ h. plain 0 (gr.head h)) (head_by p k) (head_by p k)
    by p (tk.word w) =
        pick_both (λ r q. BesideAt p (tk.word w) [] (λ h. plain 0 (gr.head h)) r q) w (head_words p) (head_words p) refuses refuses
        (refl, beside_skip 0 sits refl (beside_gives (algorithm p) refl), (refl, beside_skip 0 sits refl (beside_bind (beside_key 0 sits (codes "algorithm")) (λ q. beside_gives (fair_algorithm p q) refl)), tt)) (beside_stays beside_refuses)
    by p k = beside_stays beside_refuses

pub last_beside : (y : Text) → Beside (opens y) opens (to_last y) (to_last y)
last_beside y = record { is = by }
  where
    by : (ts : List Token) → Limited (Fit (opens y)) (Late (opens y)) (λ z. Fit (opens z)) (λ z. Late (opens z)) ts (to_last y ts) (to_last y ts)
    by [] = limited_gives y []
    by (t ∷ ts) = limited_refuses (t ∷ ts)
