-- What is read is spelled: simple statements.
use Rattle.std.proofs.Common.{◌≡◌, ℕ, zero, suc, Bool, true, false, nat_lt, refl}
use Rattle.std.specs.Bool.{IsTrue}
use Rattle.tla_token.specs.declared.place.Place.{Place}
use Rattle.tla_tree.specs.Tree.{Name}
use Rattle.tla_tree.specs.Lexical.{TokenView, Token}
use Rattle.tla_tree.specs.Lexical as tk
use Rattle.tla_tree.specs.Spelling.{Phrase, Right, spell, IsGood, can_be_head}
use Rattle.tla_tree.specs.Spelling as spelled
use Rattle.tla_tree.specs.Reader.{Reader}
use Rattle.pcal_tree.specs.GrammarParts.{name, mark, Arguments, no_arguments, some_arguments, arguments, GoodArguments, is_left_side, Assignments, last_assignment, assignment, assignments, GoodAssignments, Simple, simple_tokens, GoodSimple}
use Rattle.pcal_tree.specs.GrammarParts as g
use Rattle.syntax_reading.specs.TokenReaders.{Parts}
use Rattle.syntax_reading.specs.ReadSimple.{arguments_by, read_arguments, left_by, read_left, assignments_by, read_assignments, assign_if, named_by, simple_words}
use Rattle.syntax_reading.proofs.Sound.{Sound, SoundAt, SoundRight, here, AllSound, sound_gives, sound_refuses, sound_bind, sound_after, sound_next, sound_stays, sound_past, sound_mark, sound_name, sound_peek, sound_in_place, sound_right, sound_mark_right, sound_field_right, sound_word_right}
use Rattle.syntax_reading.proofs.SoundParts.{SoundParts}

abbrev pub IsLeft : Phrase → Type 0
IsLeft a = IsTrue (is_left_side a) × IsGood a

pub left_head : (a : Phrase) (p : Place) → is_left_side a ≡ true → can_be_head a p ≡ true
left_head (spelled.name q x) p e = refl
left_head (spelled.apply a q xs r) p e = refl
left_head (spelled.select a q f) p e = refl
left_head a p e = absurd cc

module _ (m : Parts) (h : SoundParts m) where
  -- ---- (a, b) of a call
  by_arguments_sound : (p q : Place) (k : TokenView) → SoundAt q k (λ ts. mark p tk.open_bracket ts) GoodArguments arguments (arguments_by m p q k)
  by_arguments_sound p q (tk.mark tk.close_bracket) = sound_past refl (sound_gives (no_arguments p q) tt (λ ts. refl))
  by_arguments_sound p q k = sound_stays (sound_bind h.arguments (λ xs g. sound_bind (sound_mark tk.close_bracket) (λ r u. sound_gives (some_arguments p xs r) g (λ ts. refl))))

  pub arguments_sound : Sound here GoodArguments arguments (read_arguments m)
  arguments_sound = sound_bind (sound_mark tk.open_bracket) (λ p u. sound_next (by_arguments_sound p))

  -- ---- left sides
  by_left_sound : (r : Phrase → Reader Phrase) → ((a : Phrase) → IsLeft a → Sound (spell a) IsLeft spell (r a)) → (a : Phrase) → IsLeft a → (p : Place) (k : TokenView) → SoundRight p k (spell a) IsLeft spell (left_by m r a p k)
  by_left_sound r n a l p (tk.mark tk.open_square) =
      sound_right refl (λ i. sound_bind h.subscripts (λ xs g. sound_bind (sound_mark_right tk.close_square) (λ q j. n (spelled.apply a p xs q) (l.0, (l.1, left_head a p l.0, i, g, j)))))
  by_left_sound r n a l p (tk.mark tk.dot) = sound_right refl (λ i. sound_bind sound_field_right (λ f j. n (spelled.select a p f) (l.0, (l.1, left_head a p l.0, i, j))))
  by_left_sound r n a l p k = sound_in_place (sound_gives a l (λ ts. refl))

  pub left_sound : (n : ℕ) (a : Phrase) → IsLeft a → Sound (spell a) IsLeft spell (read_left m n a)
  left_sound zero a l = sound_refuses
  left_sound (suc n) a l = sound_peek (by_left_sound (read_left m n) (left_sound n) a l)

  -- ---- l := e || m := f
  by_assignments_sound : (r : Name → Reader Assignments) → ((x : Name) → Right 0 x.place → Sound (name x) GoodAssignments assignments (r x)) → (l : Phrase) → IsLeft l → (p : Place) (e : Phrase) → IsGood e → (q : Place) (k : TokenView)
      → SoundAt q k (λ ts. spell l (mark p tk.assigns (spell e ts))) GoodAssignments assignments (assignments_by r l p e q k)
  by_assignments_sound r n l i p e j q (tk.mark tk.beside) =
      sound_past refl
      (sound_bind sound_word_right (λ x u. sound_after (λ ts. spell l (mark p tk.assigns (spell e (mark q tk.beside ts)))) (n (spelled.named x.0 x.1) u) (λ ms v. sound_gives (assignment l p e q ms) (i.0, i.1, j, v) (λ ts. refl))))
  by_assignments_sound r n l i p e j q k = sound_stays (sound_gives (last_assignment l p e) (i.0, i.1, j) (λ ts. refl))

  pub assignments_sound : (n : ℕ) (x : Name) → Right 0 x.place → Sound (name x) GoodAssignments assignments (read_assignments m n x)
  assignments_sound zero x u = sound_refuses
  assignments_sound (suc n) x u =
      sound_after (λ ts. ts) (left_sound (suc n) (spelled.name x.place x.word) (refl, u))
      (λ l i. sound_bind (sound_mark tk.assigns) (λ p v. sound_bind h.expr (λ e j. sound_next (by_assignments_sound (read_assignments m n) (assignments_sound n) l i p e j))))

  assign_if_sound : (n : ℕ) (x : Name) → Sound (name x) GoodSimple simple_tokens (assign_if (nat_lt 0 x.place.col) m n x)
  assign_if_sound n x = by (nat_lt 0 x.place.col) refl
    where
      by : (b : Bool) → nat_lt 0 x.place.col ≡ b → Sound (name x) GoodSimple simple_tokens (assign_if b m n x)
      by true e = sound_after (λ ts. ts) (assignments_sound n x e) (λ ms i. sound_gives (g.assign ms) i (λ ts. refl))
      by false e = sound_refuses

  -- ---- a statement after its first name, and those that begin with a word
  pub named_sound : (n : ℕ) (x : Name) (p : Place) (k : TokenView) → Sound (name x) GoodSimple simple_tokens (named_by m n x p k)
  named_sound n x p (tk.mark tk.open_bracket) = sound_bind arguments_sound (λ xs i. sound_gives (g.macro x xs) i (λ ts. refl))
  named_sound n x p k = assign_if_sound n x

  pub words_sound : (p : Place) → AllSound p here GoodSimple simple_tokens (simple_words m p)
  words_sound p = (
    sound_past refl (sound_bind h.expr (λ e i. sound_gives (g.await p e) i (λ ts. refl))),
    (
      sound_past refl (sound_bind h.expr (λ e i. sound_gives (g.when p e) i (λ ts. refl))),
      (
        sound_past refl (sound_bind h.expr (λ e i. sound_gives (g.print p e) i (λ ts. refl))),
        (
          sound_past refl (sound_bind h.expr (λ e i. sound_gives (g.assert p e) i (λ ts. refl))),
          (
            sound_past refl (sound_gives (g.skip p) tt (λ ts. refl)),
            (
              sound_past refl (sound_bind sound_name (λ x u. sound_gives (g.goto p x) tt (λ ts. refl))),
              (
                sound_past refl (sound_bind sound_name (λ x u. sound_bind arguments_sound (λ xs i. sound_gives (g.call p x xs) i (λ ts. refl)))),
                (
                  sound_past refl (sound_gives (g.return p) tt (λ ts. refl)),
                  tt,
                ),
              ),
            ),
          ),
        ),
      ),
    ),
  )
