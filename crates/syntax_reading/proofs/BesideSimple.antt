-- Reading within the limits beside reading without: simple statements.
use Rattle.std.proofs.Common.{◌≡◌, ℕ, zero, suc, Bool, true, false, nat_lt, List, [], ◌∷◌, ◌++◌, Some, refl, ap, ◌∙◌, append_assoc}
use Rattle.std.proofs.lemmas.List.{map-append}
use Rattle.tla_token.specs.declared.place.Place.{Place}
use Rattle.tla_tree.specs.Tree.{Word, Name}
use Rattle.tla_tree.specs.Lexical.{TokenView}
use Rattle.tla_tree.specs.Lexical as tk
use Rattle.tla_tree.specs.Spelling.{Field, Phrase, Phrases}
use Rattle.tla_tree.specs.Spelling as spelled
use Rattle.tla_tree.specs.Nesting.{counts_all}
use Rattle.tla_tree.specs.Reader.{Reader, word_of, field_of}
use Rattle.tla_tree.specs.FirstStop.{Open}
use Rattle.tla_tree.proofs.DeepCounts as counted
use Rattle.pcal_tree.specs.GrammarParts.{no_arguments, some_arguments, Assignments, last_assignment, assignment, Simple}
use Rattle.pcal_tree.specs.GrammarParts as g
use Rattle.pcal_tree.specs.OpenForms.{here, within, expression_opens, left_opens, assignments_open, arguments_open, simple_opens}
use Rattle.syntax_reading.specs.TokenReaders.{limited_parts}
use Rattle.syntax_reading.specs.ReadSimple.{arguments_by, read_arguments, left_by, read_left, assignments_by, read_assignments, assign_if, named_by, simple_words}
use Rattle.syntax_reading.proofs.Sound.{is_other}
use Rattle.syntax_reading.proofs.Beside.{Sits, sits_on, Beside, BesideAt, BesideRight, BothAt, beside_gives, beside_refuses, beside_bind, beside_next, beside_stays, beside_skip, beside_mark, beside_name, beside_peek, beside_in_place, beside_right, beside_take, beside_mark_right, beside_moved}
use Rattle.syntax_reading.proofs.BesideParts.{unlimited_parts, beside_expr, beside_arguments, beside_subscripts}

-- ---- (a, b) of a call
pub beside_call : (e d : ℕ) (x : List Open) → Sits d x → Beside x (λ xs. x ++ arguments_open d xs) (read_arguments (limited_parts e)) (read_arguments (unlimited_parts e))
beside_call e d x s = beside_bind (beside_mark d s tk.open_bracket) (λ p. beside_next (by p))
  where
    t : Sits d (x ++ here d)
    t = sits_on (here d) s

    by : (p q : Place) (k : TokenView) → BesideAt q k (x ++ here d) (λ xs. x ++ arguments_open d xs) (arguments_by (limited_parts e) p q k) (arguments_by (unlimited_parts e) p q k)
    by p q (tk.mark tk.close_bracket) = beside_skip d t refl (beside_gives (no_arguments p q) (simp append_assoc refl))
    by p q k =
        beside_stays (beside_bind (beside_arguments e d (x ++ here d) t) (λ xs. beside_bind (beside_mark d (sits_on (within d (counts_all 0 xs [])) t) tk.close_bracket) (λ r.
        beside_gives (some_arguments p xs r) (simp append_assoc refl))))

-- ---- left sides
abbrev one : ℕ → Open
one d = record { expressions = 1; statements = d }

abbrev nought : ℕ → Open
nought d = record { expressions = 0; statements = d }

pub subscripts_opens : (d : ℕ) (xs : Phrases) → within d (counts_all 1 xs (1 ∷ [])) ≡ within d (counts_all 1 xs []) ++ one d ∷ []
subscripts_opens d xs = ap (within d) ((counted.ahead_all 1 xs).is [] (1 ∷ [])) ∙ map-append (λ (n : ℕ). record { expressions = n; statements = d }) (counts_all 1 xs []) (1 ∷ [])

pub field_other : (p : Place) (k : TokenView) (f : Field) → field_of p k ≡ Some f → is_other k ≡ false
field_other p (tk.other w) f e = absurd cc
field_other p k f e = refl

pub word_other : (p : Place) (k : TokenView) (y : Place × Word) → word_of p k ≡ Some y → is_other k ≡ false
word_other p (tk.other w) y e = absurd cc
word_other p k y e = refl

by_left : (e d : ℕ) (x : List Open) → Sits d x → (r q : Phrase → Reader Phrase) → ((a : Phrase) → Beside (x ++ left_opens d a) (λ l. x ++ left_opens d l) (r a) (q a)) → (a : Phrase) (p : Place) (k : TokenView)
    → BesideRight p k (x ++ left_opens d a) (λ l. x ++ left_opens d l) (left_by (limited_parts e) r a p k) (left_by (unlimited_parts e) q a p k)
by_left e d x s r q h a p (tk.mark tk.open_square) =
    (let t = sits_on (left_opens d a) s in
    let u = sits_on (one d ∷ []) t in
    beside_right (one d) t.is refl (beside_bind (beside_subscripts e d (x ++ left_opens d a ++ one d ∷ []) u) (λ xs.
    beside_bind (beside_mark_right (one d) (sits_on (within d (counts_all 1 xs [])) u).is tk.close_square) (λ v.
    beside_moved (rw (subscripts_opens d xs) (simp append_assoc refl)) (h (spelled.apply a p xs v))))))
by_left e d x s r q h a p (tk.mark tk.dot) =
    (let t = sits_on (left_opens d a) s in
    beside_right (nought d) t.is refl (beside_bind (beside_take (nought d) (sits_on (here d) t).is field_of field_other) (λ f. beside_moved (simp append_assoc refl) (h (spelled.select a p f)))))
by_left e d x s r q h a p k = beside_in_place (beside_gives a refl)

pub beside_left : (e d : ℕ) (x : List Open) → Sits d x → (n : ℕ) (a : Phrase) → Beside (x ++ left_opens d a) (λ l. x ++ left_opens d l) (read_left (limited_parts e) n a) (read_left (unlimited_parts e) n a)
beside_left e d x s zero a = beside_refuses
beside_left e d x s (suc n) a = beside_peek (by_left e d x s (read_left (limited_parts e) n) (read_left (unlimited_parts e) n) (beside_left e d x s n) a)

-- ---- l := e || m := f, after its first name
by_assignments : (d : ℕ) (x : List Open) → Sits d x → (r q : Name → Reader Assignments) → ((x : List Open) → Sits d x → (y : Name) → Beside (x ++ here d) (λ ms. x ++ assignments_open d ms) (r y) (q y)) → (l : Phrase) (p : Place) (a : Phrase) (v : Place) (k : TokenView)
    → BesideAt v k (x ++ left_opens d l ++ here d ++ expression_opens d a) (λ ms. x ++ assignments_open d ms) (assignments_by r l p a v k) (assignments_by q l p a v k)
by_assignments d x s r q h l p a v (tk.mark tk.beside) =
    (let t = sits_on (expression_opens d a) (sits_on (here d) (sits_on (left_opens d l) s)) in
    let u = sits_on (here d) t in
    beside_skip d t refl (beside_bind (beside_take (nought d) u.is word_of word_other) (λ y. beside_bind (h (x ++ left_opens d l ++ here d ++ expression_opens d a ++ here d) u (spelled.named y.0 y.1)) (λ ms.
    beside_gives (assignment l p a v ms) (simp append_assoc refl)))))
by_assignments d x s r q h l p a v k = beside_stays (beside_gives (last_assignment l p a) (simp append_assoc refl))

pub beside_assignments : (e d n : ℕ) (x : List Open) → Sits d x → (y : Name) → Beside (x ++ here d) (λ ms. x ++ assignments_open d ms) (read_assignments (limited_parts e) n y) (read_assignments (unlimited_parts e) n y)
beside_assignments e d zero x s y = beside_refuses
beside_assignments e d (suc n) x s y =
    beside_bind (beside_left e d x s (suc n) (spelled.name y.place y.word)) (λ l.
    (let t = sits_on (left_opens d l) s in
    beside_bind (beside_mark d t tk.assigns) (λ p. beside_bind (beside_expr e d (x ++ left_opens d l ++ here d) (sits_on (here d) t)) (λ a.
    beside_next (by_assignments d x s (read_assignments (limited_parts e) n) (read_assignments (unlimited_parts e) n) (beside_assignments e d n) l p a)))))

-- ---- a statement after its first name, and those that begin with a word
assign_beside : (e d n : ℕ) (x : List Open) → Sits d x → (b : Bool) (y : Name) → Beside (x ++ here d) (λ z. x ++ simple_opens d z) (assign_if b (limited_parts e) n y) (assign_if b (unlimited_parts e) n y)
assign_beside e d n x s true y = beside_bind (beside_assignments e d n x s y) (λ ms. beside_gives (g.assign ms) refl)
assign_beside e d n x s false y = beside_refuses

pub beside_named : (e d n : ℕ) (x : List Open) → Sits d x → (y : Name) (p : Place) (k : TokenView) → Beside (x ++ here d) (λ z. x ++ simple_opens d z) (named_by (limited_parts e) n y p k) (named_by (unlimited_parts e) n y p k)
beside_named e d n x s y p (tk.mark tk.open_bracket) = beside_bind (beside_call e d (x ++ here d) (sits_on (here d) s)) (λ xs. beside_gives (g.macro y xs) (simp append_assoc refl))
beside_named e d n x s y p k = assign_beside e d n x s (nat_lt 0 y.place.col) y

pub beside_words : (e d : ℕ) (x : List Open) → Sits d x → (p : Place) (w : Word) → BothAt p w x (λ z. x ++ simple_opens d z) (simple_words (limited_parts e) p) (simple_words (unlimited_parts e) p)
beside_words e d x s p w =
    (let t = sits_on (here d) s in (
      refl,
      beside_skip d s refl (beside_bind (beside_expr e d (x ++ here d) t) (λ a. beside_gives (g.await p a) (simp append_assoc refl))),
      (
        refl,
        beside_skip d s refl (beside_bind (beside_expr e d (x ++ here d) t) (λ a. beside_gives (g.when p a) (simp append_assoc refl))),
        (
          refl,
          beside_skip d s refl (beside_bind (beside_expr e d (x ++ here d) t) (λ a. beside_gives (g.print p a) (simp append_assoc refl))),
          (
            refl,
            beside_skip d s refl (beside_bind (beside_expr e d (x ++ here d) t) (λ a. beside_gives (g.assert p a) (simp append_assoc refl))),
            (
              refl,
              beside_skip d s refl (beside_gives (g.skip p) refl),
              (
                refl,
                beside_skip d s refl (beside_bind (beside_name d t) (λ y. beside_gives (g.goto p y) (simp append_assoc refl))),
                (
                  refl,
                  beside_skip d s refl (beside_bind (beside_name d t) (λ y. beside_bind (beside_call e d (x ++ here d ++ here d) (sits_on (here d) t)) (λ xs. beside_gives (g.call p y xs) (simp append_assoc refl)))),
                  (refl, beside_skip d s refl (beside_gives (g.return p) refl), tt),
                ),
              ),
            ),
          ),
        ),
      ),
    ))
