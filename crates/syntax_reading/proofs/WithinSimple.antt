-- What was read within the limits can be gone on with within them: simple statements.
use Rattle.std.proofs.Common.{◌≡◌, ℕ, zero, suc, Bool, true, false, nat_lt, List, [], ◌∷◌, ◌++◌, refl, append_assoc}
use Rattle.tla_token.specs.declared.place.Place.{Place}
use Rattle.tla_token.specs.Places.{nowhere}
use Rattle.tla_tree.specs.Tree.{Word, Name}
use Rattle.tla_tree.specs.Lexical.{TokenView, Token}
use Rattle.tla_tree.specs.Lexical as tk
use Rattle.tla_tree.specs.Spelling.{Phrase, Right, spell, IsGood, field_token}
use Rattle.tla_tree.specs.Spelling as spelled
use Rattle.tla_tree.specs.Nesting.{counts_all}
use Rattle.tla_tree.specs.Reader.{Reader, word_of, field_of, a_word, a_field}
use Rattle.tla_tree.specs.Reader as expression
use Rattle.tla_tree.specs.FirstStop.{Open}
use Rattle.tla_tree.proofs.Mended.{right_after, mark_err, field_err, word_err, some_field}
use Rattle.tla_tree.specs.Wanted.{an_x}
use Rattle.tla_tree.specs.Wanted as wanted
use Rattle.tla_tree.proofs.SpellAhead.{Ahead, held, put_ahead, then_ahead, ahead}
use Rattle.pcal_tree.specs.GrammarParts.{name, mark, word, no_arguments, some_arguments, arguments, GoodArguments, Assignments, last_assignment, assignment, assignments, GoodAssignments, simple_tokens, GoodSimple}
use Rattle.pcal_tree.specs.GrammarParts as g
use Rattle.pcal_tree.specs.OpenForms.{here, within, expression_opens, left_opens, assignments_open, arguments_open, simple_opens}
use Rattle.syntax_reading.specs.TokenReaders.{limited_parts}
use Rattle.syntax_reading.specs.ReadSimple.{arguments_by, read_arguments, left_by, read_left, assignments_by, read_assignments, assign_if, named_by, simple_words}
use Rattle.syntax_reading.proofs.Sound.{sound_mark_right, sound_field_right, sound_word_right}
use Rattle.syntax_reading.proofs.SoundSimple.{IsLeft, left_head, arguments_sound, left_sound, assignments_sound}
use Rattle.syntax_reading.proofs.Aheads.{ahead_arguments, ahead_assignments}
use Rattle.syntax_reading.proofs.MendParts.{some_phrase, some_good}
use Rattle.syntax_reading.proofs.Beside.{Sits, sits_on, beside_take, beside_mark_right}
use Rattle.syntax_reading.proofs.BesideSimple.{subscripts_opens, field_other, word_other, beside_call, beside_left, beside_assignments}
use Rattle.syntax_reading.proofs.Within.{before, Filled, Ends, EndsAt, EndsRight, Part, AllEnd, fits_of, here_filled, ends_gives, ends_refuses, ends_after, ends_bind, ends_next, ends_stays, ends_past, ends_peek, ends_in_place, ends_right, ends_moved, right_part, mark_part, name_part}
use Rattle.syntax_reading.proofs.WithinParts.{limited_sound, expr_part, arguments_part, subscripts_part}

abbrev one : ℕ → Open
one d = record { expressions = 1; statements = d }

abbrev nought : ℕ → Open
nought d = record { expressions = 0; statements = d }

field_part : (d : ℕ) (y : List Open) → Sits d y → Part (λ f. Right 0 f.place) field_token y (λ f. y ++ here d) (a_field 0)
field_part d y s = right_part (nought d) sound_field_right (λ f. put_ahead held) (beside_take (nought d) s.is field_of field_other) (some_field 0) (right_after 0) (field_token (some_field 0) []) refl (λ v. refl) (λ ts u e. field_err 0 ts u e)

word_part : (d : ℕ) (y : List Open) → Sits d y → Part (λ (x : Place × Word). Right 0 x.0) (λ x. word x.0 x.1) y (λ x. y ++ here d) (a_word 0)
word_part d y s = right_part (nought d) sound_word_right (λ x. put_ahead held) (beside_take (nought d) s.is word_of word_other) (wanted.after 0, an_x) (right_after 0) (word (wanted.after 0) an_x []) refl (λ v. refl) (λ ts u e. word_err 0 ts u e)

square_part : (d : ℕ) (y : List Open) → Sits d y → Part (Right 0) (λ p. mark p tk.close_square) y (λ p. y ++ one d ∷ []) (expression.a_mark 0 tk.close_square)
square_part d y s = right_part (one d) (sound_mark_right tk.close_square) (λ p. put_ahead held) (beside_mark_right (one d) s.is tk.close_square) (wanted.after 0) (right_after 0) (mark (wanted.after 0) tk.close_square []) refl (λ v. refl) (λ ts u e. mark_err 0 tk.close_square ts u e)

-- ---- (a, b) of a call
pub call_part : (e d : ℕ) (y : List Open) → Sits d y → Part GoodArguments arguments y (λ xs. y ++ arguments_open d xs) (read_arguments (limited_parts e))
call_part e d y s = record {
  sound = arguments_sound (limited_parts e) (limited_sound e);
  ahead = λ a u. ahead_arguments a;
  fits = fits_of (beside_call e d y s);
  ends = ends_bind held (mark_part d s tk.open_bracket) (λ p u hx. ends_next (record { whole = no_arguments p nowhere; good = tt; more = here d; counts = simp append_assoc refl; fix = mark nowhere tk.close_bracket []; long = refl; tokens = λ v. refl }) (by p hx));
}
  where
    t : Sits d (y ++ here d)
    t = sits_on (here d) s

    by : (p : Place) → Ahead (mark p tk.open_bracket) → (q : Place) (k : TokenView) → EndsAt q k (mark p tk.open_bracket) GoodArguments arguments (y ++ here d) (λ xs. y ++ arguments_open d xs) (arguments_by (limited_parts e) p q k)
    by p hx q (tk.mark tk.close_bracket) = ends_past d t refl (ends_gives (no_arguments p q) tt (λ ts. refl) (simp append_assoc refl))
    by p hx q k =
        ends_stays (ends_bind hx (arguments_part e d (y ++ here d) t) (λ xs i hy. ends_bind hy (mark_part d (sits_on (within d (counts_all 0 xs [])) t) tk.close_bracket) (λ r u hz. ends_gives (some_arguments p xs r) i (λ ts. refl) (simp append_assoc refl))))

-- ---- left sides
by_left : (e d : ℕ) (y : List Open) → Sits d y → (r : Phrase → Reader Phrase) → ((a : Phrase) → IsLeft a → Ends (spell a) IsLeft spell (y ++ left_opens d a) (λ l. y ++ left_opens d l) (r a)) → (a : Phrase) → IsLeft a → (p : Place) (k : TokenView)
    → EndsRight p k (spell a) IsLeft spell (y ++ left_opens d a) (λ l. y ++ left_opens d l) (left_by (limited_parts e) r a p k)
by_left e d y s r n a l p (tk.mark tk.open_square) =
    (let t = sits_on (left_opens d a) s in
    let u = sits_on (one d ∷ []) t in
    ends_right (one d) t.is refl (λ i. ends_bind (then_ahead (ahead a) (put_ahead held)) (subscripts_part e d (y ++ left_opens d a ++ one d ∷ []) u) (λ xs j hx. ends_bind hx (square_part d (y ++ left_opens d a ++ one d ∷ [] ++ within d (counts_all 1 xs [])) (sits_on (within d (counts_all 1 xs [])) u)) (λ q k hq.
    ends_moved (rw (subscripts_opens d xs) (simp append_assoc refl)) (n (spelled.apply a p xs q) (l.0, (l.1, left_head a p l.0, i, j, k)))))))
by_left e d y s r n a l p (tk.mark tk.dot) =
    (let t = sits_on (left_opens d a) s in
    ends_right (nought d) t.is refl (λ i. ends_bind (then_ahead (ahead a) (put_ahead held)) (field_part d (y ++ left_opens d a ++ here d) (sits_on (here d) t)) (λ f j hx.
    ends_moved (simp append_assoc refl) (n (spelled.select a p f) (l.0, (l.1, left_head a p l.0, i, j))))))
by_left e d y s r n a l p k = ends_in_place (ends_gives a l (λ ts. refl) refl)

left_ends : (e d : ℕ) (y : List Open) → Sits d y → (n : ℕ) (a : Phrase) → IsLeft a → Ends (spell a) IsLeft spell (y ++ left_opens d a) (λ l. y ++ left_opens d l) (read_left (limited_parts e) n a)
left_ends e d y s zero a l = ends_refuses (ahead a) (here_filled a l (λ ts. refl) refl)
left_ends e d y s (suc n) a l = ends_peek (here_filled a l (λ ts. refl) refl) (by_left e d y s (read_left (limited_parts e) n) (left_ends e d y s n) a l)

-- ---- l := e || m := f
by_assignments : (e d n : ℕ) (y : List Open) → Sits d y → ((y : List Open) → Sits d y → (x : Name) → Right 0 x.place → Ends (name x) GoodAssignments assignments (y ++ here d) (λ ms. y ++ assignments_open d ms) (read_assignments (limited_parts e) n x)) → (l : Phrase) → IsLeft l → (p : Place) (a : Phrase) → IsGood a
    → Ahead (λ ts. spell l (mark p tk.assigns (spell a ts))) → (q : Place) (k : TokenView)
    → EndsAt q k (λ ts. spell l (mark p tk.assigns (spell a ts))) GoodAssignments assignments (y ++ left_opens d l ++ here d ++ expression_opens d a) (λ ms. y ++ assignments_open d ms) (assignments_by (read_assignments (limited_parts e) n) l p a q k)
by_assignments e d n y s r l i p a j hx q (tk.mark tk.beside) =
    (let hb = then_ahead hx (put_ahead held) in
    let t = sits_on (expression_opens d a) (sits_on (here d) (sits_on (left_opens d l) s)) in
    let u = sits_on (here d) t in
    let z = y ++ left_opens d l ++ here d ++ expression_opens d a ++ here d in
    ends_past d t refl (ends_bind hb (word_part d z u) (λ x v hy.
    ends_after (λ ts. spell l (mark p tk.assigns (spell a (mark q tk.beside ts)))) hb (assignments_sound (limited_parts e) (limited_sound e) n (spelled.named x.0 x.1) v) (λ a u. ahead_assignments a) (fits_of (beside_assignments e d n z u (spelled.named x.0 x.1))) (r z u (spelled.named x.0 x.1) v)
    (λ ms w hm. ends_gives (assignment l p a q ms) (i.0, i.1, j, w) (λ ts. refl) (simp append_assoc refl)))))
by_assignments e d n y s r l i p a j hx q k = ends_stays (ends_gives (last_assignment l p a) (i.0, i.1, j) (λ ts. refl) (simp append_assoc refl))

assignments_end : (e d n : ℕ) (y : List Open) → Sits d y → (x : Name) → Right 0 x.place → Ends (name x) GoodAssignments assignments (y ++ here d) (λ ms. y ++ assignments_open d ms) (read_assignments (limited_parts e) n x)
assignments_end e d zero y s x u =
    ends_refuses (put_ahead held) (record { whole = last_assignment (spelled.name x.place x.word) nowhere some_phrase; good = (refl, u, some_good); more = here d ++ here d; counts = simp append_assoc refl; fix = mark nowhere tk.assigns (spell some_phrase []); long = refl; tokens = λ v. refl })
assignments_end e d (suc n) y s x u =
    ends_after (λ ts. ts) held (left_sound (limited_parts e) (limited_sound e) (suc n) (spelled.name x.place x.word) (refl, u)) (λ a u. ahead a) (fits_of (beside_left e d y s (suc n) (spelled.name x.place x.word))) (left_ends e d y s (suc n) (spelled.name x.place x.word) (refl, u))
    (λ l i hl.
    (let t = sits_on (left_opens d l) s in
    ends_bind hl (mark_part d t tk.assigns) (λ p v hp. ends_bind hp (expr_part e d (y ++ left_opens d l ++ here d) (sits_on (here d) t)) (λ a j he.
    ends_next (here_filled (last_assignment l p a) (i.0, i.1, j) (λ ts. refl) (simp append_assoc refl)) (by_assignments e d n y s (assignments_end e d n) l i p a j he)))))

-- a call of a macro
pub some_call : (d : ℕ) (y : List Open) (x : Name) → Filled (name x) GoodSimple simple_tokens (y ++ here d) (λ z. y ++ simple_opens d z)
some_call d y x = record { whole = g.macro x (no_arguments nowhere nowhere); good = tt; more = here d ++ here d; counts = simp append_assoc refl; fix = arguments (no_arguments nowhere nowhere) []; long = refl; tokens = λ v. refl }

assign_ends : (e d n : ℕ) (y : List Open) → Sits d y → (x : Name) → Ends (name x) GoodSimple simple_tokens (y ++ here d) (λ z. y ++ simple_opens d z) (assign_if (nat_lt 0 x.place.col) (limited_parts e) n x)
assign_ends e d n y s x = by (nat_lt 0 x.place.col) refl
  where
    by : (b : Bool) → nat_lt 0 x.place.col ≡ b → Ends (name x) GoodSimple simple_tokens (y ++ here d) (λ z. y ++ simple_opens d z) (assign_if b (limited_parts e) n x)
    by true i = ends_after (λ ts. ts) held (assignments_sound (limited_parts e) (limited_sound e) n x i) (λ a u. ahead_assignments a) (fits_of (beside_assignments e d n y s x)) (assignments_end e d n y s x i) (λ ms j hm. ends_gives (g.assign ms) j (λ ts. refl) refl)
    by false i = ends_refuses (put_ahead held) (some_call d y x)

-- ---- a statement after its first name, and those that begin with a word
pub named_ends : (e d n : ℕ) (y : List Open) → Sits d y → (x : Name) (p : Place) (k : TokenView) → Ends (name x) GoodSimple simple_tokens (y ++ here d) (λ z. y ++ simple_opens d z) (named_by (limited_parts e) n x p k)
named_ends e d n y s x p (tk.mark tk.open_bracket) = ends_bind (put_ahead held) (call_part e d (y ++ here d) (sits_on (here d) s)) (λ xs i hx. ends_gives (g.macro x xs) i (λ ts. refl) (simp append_assoc refl))
named_ends e d n y s x p k = assign_ends e d n y s x

pub words_end : (e d : ℕ) (y : List Open) → Sits d y → (p : Place) → AllEnd p before GoodSimple simple_tokens y (λ z. y ++ simple_opens d z) (simple_words (limited_parts e) p)
words_end e d y s p =
    (let t = sits_on (here d) s in (
      ends_past d s refl (ends_bind (put_ahead held) (expr_part e d (y ++ here d) t) (λ a i hx. ends_gives (g.await p a) i (λ ts. refl) (simp append_assoc refl))),
      (
        ends_past d s refl (ends_bind (put_ahead held) (expr_part e d (y ++ here d) t) (λ a i hx. ends_gives (g.when p a) i (λ ts. refl) (simp append_assoc refl))),
        (
          ends_past d s refl (ends_bind (put_ahead held) (expr_part e d (y ++ here d) t) (λ a i hx. ends_gives (g.print p a) i (λ ts. refl) (simp append_assoc refl))),
          (
            ends_past d s refl (ends_bind (put_ahead held) (expr_part e d (y ++ here d) t) (λ a i hx. ends_gives (g.assert p a) i (λ ts. refl) (simp append_assoc refl))),
            (
              ends_past d s refl (ends_gives (g.skip p) tt (λ ts. refl) refl),
              (
                ends_past d s refl (ends_bind (put_ahead held) (name_part d t) (λ x u hx. ends_gives (g.goto p x) tt (λ ts. refl) (simp append_assoc refl))),
                (
                  ends_past d s refl (ends_bind (put_ahead held) (name_part d t) (λ x u hx. ends_bind hx (call_part e d (y ++ here d ++ here d) (sits_on (here d) t)) (λ xs i hy. ends_gives (g.call p x xs) i (λ ts. refl) (simp append_assoc refl)))),
                  (ends_past d s refl (ends_gives (g.return p) tt (λ ts. refl) refl), tt),
                ),
              ),
            ),
          ),
        ),
      ),
    ))
