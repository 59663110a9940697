-- A reader looks no further than the token at which it stops: what stands around statements.
use Rattle.std.proofs.Common.{ℕ, ◌+◌, ◌≤◌, List, [], ◌∷◌, ◌++◌, inl, refl, arith, codes}
use Rattle.tla_token.specs.declared.place.Place.{Place}
use Rattle.tla_tree.specs.Tree.{Word}
use Rattle.tla_tree.specs.Lexical.{TokenView, Token}
use Rattle.tla_tree.specs.Reader.{Reader, ◌>>=◌, refuses, place_if}
use Rattle.tla_tree.proofs.Alike.{Within, Alike, Enough, IsFair, fair_gives, fair_refuses, fair_skip, fair_bind}
use Rattle.pcal_tree.specs.Grammar.{Text}
use Rattle.syntax_reading.specs.TokenReaders.{is_reserved, a_key}
use Rattle.syntax_reading.proofs.Fair.{fair_next, fair_past, pick_both}
use Rattle.tla_tree.specs.Lexical as tk
use Rattle.syntax_reading.specs.ReadAround.{more_of, head_words, head_by, read_head, to_last}

pub fair_key : {B : Type 0} {b n : ℕ} (w : Word) {g i : Place → Reader B} → b ≤ n + 4 → ((p : Place) → IsFair n (g p) (i p)) → IsFair b (a_key w >>= g) (a_key w >>= i)
fair_key w l h = fair_past (place_if (is_reserved w)) l h

pub more_fair : {A : Type 0} {b : ℕ} {r s : Reader A} {rs ss : Reader (List A)} → IsFair b r s → IsFair b rs ss → IsFair b (more_of r rs) (more_of s ss)
more_fair h i = fair_bind h (λ x. fair_bind i (λ xs. fair_gives))

pub head_fair : {b : ℕ} → IsFair b read_head read_head
head_fair {b} = fair_next by
  where
    by : (p : Place) (k : TokenView) → IsFair b (head_by p k) (head_by p k)
    by p (tk.word w) =
        pick_both (IsFair b) w (head_words p) (head_words p) refuses refuses
        (refl, fair_skip {n = b} (omega arith) fair_gives, (refl, fair_skip {n = b} (omega arith) (fair_key {n = b} (codes "algorithm") (omega arith) (λ x. fair_gives)), tt)) fair_refuses
    by p k = fair_refuses

pub last_fair : {b : ℕ} (x : Text) → IsFair b (to_last x) (to_last x)
last_fair {b} x = record { left = within; right = within; alike = both }
  where
    within : (ts : List Token) → Within ts (to_last x ts)
    within [] = ([], refl)
    within (t ∷ ts) = ([], refl)

    both : (k : List Token) (t : Token) (r s : List Token) → Enough b k → Alike k t r s (to_last x (k ++ t ∷ r)) (to_last x (k ++ t ∷ s))
    both [] t r s e = inl ([], omega arith, refl, refl)
    both (y ∷ k) t r s e = inl (y ∷ k, omega arith, refl, refl)
