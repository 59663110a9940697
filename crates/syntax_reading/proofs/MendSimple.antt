-- What stands before a refused token can be gone on with: simple statements.
use Rattle.std.proofs.Common.{◌≡◌, ℕ, zero, suc, Bool, true, false, nat_lt, List, [], ◌∷◌, ◌++◌, append_assoc, codes, refl, arith}
use Rattle.tla_token.specs.declared.place.Place.{Place}
use Rattle.tla_token.specs.Places.{nowhere}
use Rattle.tla_tree.specs.Tree.{Name}
use Rattle.tla_tree.specs.Lexical.{TokenView, Token}
use Rattle.tla_tree.specs.Lexical as tk
use Rattle.tla_tree.specs.Spelling.{Phrase, Right, spell, IsGood}
use Rattle.tla_tree.specs.Spelling as spelled
use Rattle.tla_tree.proofs.SpellAhead.{Ahead, held, put_ahead, then_ahead, ahead}
use Rattle.pcal_tree.specs.GrammarParts.{name, mark, no_arguments, some_arguments, arguments, GoodArguments, last_assignment, assignment, assignments, GoodAssignments, simple_tokens, GoodSimple}
use Rattle.pcal_tree.specs.GrammarParts as g
use Rattle.syntax_reading.specs.TokenReaders.{Parts}
use Rattle.tla_tree.specs.FirstStop.{Open}
use Rattle.pcal_tree.specs.OpenForms as form
use Rattle.pcal_tree.specs.OpenForms.{expression_opens, left_opens, assignments_open, arguments_open, simple_opens}
use Rattle.syntax_reading.specs.Missing.{past_misses, PartsMiss}
use Rattle.syntax_reading.specs.MissingParts.{a_close, no_list}
use Rattle.syntax_reading.specs.MissingSimple.{missing_arguments_by, missing_arguments, missing_left_by, missing_left, a_new_value, missing_after_value, missing_assignments, missing_assign, missing_named, missing_simple_words}
use Rattle.syntax_reading.specs.ReadSimple.{arguments_by, read_arguments, left_by, read_left, assignments_by, read_assignments, assign_if, named_by, of_expression, simple_words}
use Rattle.syntax_reading.proofs.Sound.{here}
use Rattle.syntax_reading.proofs.SoundSimple.{IsLeft, left_head, arguments_sound, left_sound, assignments_sound}
use Rattle.syntax_reading.proofs.BesideSimple.{subscripts_opens}
use Rattle.syntax_reading.proofs.Aheads.{ahead_arguments, ahead_assignments}
use Rattle.syntax_reading.proofs.Mends.{none, Fill, Mends, MendsAt, MendsRight, IsPart, AllMend, filled, mends_gives, mends_give, mends_give_after, mends_done, mends_refuses, mends_after, mends_bind, mends_next, mends_stays, mends_past, mends_moved, mends_peek, mends_in_place, mends_right, part_mark, part_name, part_mark_right, part_field_right, part_word_right}
use Rattle.syntax_reading.proofs.MendParts.{MendsParts, some_phrase, some_good}

module _ (m : Parts) (w : PartsMiss) (h : MendsParts m w) where
  by_arguments_mends : (d : ℕ) (p : Place) → Ahead (mark p tk.open_bracket) → (q : Place) (k : TokenView)
      → MendsAt q k (mark p tk.open_bracket) (form.here d) GoodArguments arguments (arguments_open d) none d 2 (missing_arguments_by m w q k) (arguments_by m p q k)
  by_arguments_mends d p hx q (tk.mark tk.close_bracket) = mends_done (form.here d) (no_arguments p q) refl tt (λ ts. refl) refl
  by_arguments_mends d p hx q k =
      mends_stays (mends_bind hx (h.arguments d) (omega arith) (λ xs i hy. mends_give (λ r. some_arguments p xs r) hy (part_mark d tk.close_bracket) (omega arith) (λ r u. i) (λ r ts. refl) (λ r. simp append_assoc refl)))

  part_arguments : (d : ℕ) → IsPart GoodArguments arguments (arguments_open d) d 2 (no_list []) (missing_arguments m w) (read_arguments m)
  part_arguments d = record {
    sound = arguments_sound m h.sound;
    ahead = λ a u. ahead_arguments a;
    mends =
        mends_bind held (part_mark d tk.open_bracket) (omega arith) (λ p u hx.
        mends_next (record { whole = no_arguments p nowhere; good = tt; fix = a_close []; tokens = λ v. refl; given = refl; back = form.here d; opens = refl; long = refl; enough = omega arith }) (by_arguments_mends d p hx));
  }

  -- ---- left sides
  -- at the brackets of one
  abbrev inside_one : ℕ → Open
  inside_one d = record { expressions = 1; statements = d }

  by_left_mends : (d n : ℕ) → ((a : Phrase) → IsLeft a → Mends (spell a) (left_opens d a) IsLeft spell (left_opens d) none d 2 [] (missing_left m w n) (read_left m n a)) → (a : Phrase) → IsLeft a → (p : Place) (k : TokenView)
      → MendsRight p k (spell a) (left_opens d a) IsLeft spell (left_opens d) none d 2 (missing_left_by m w (missing_left m w n) p k) (left_by m (read_left m n) a p k)
  by_left_mends d n r a l p (tk.mark tk.open_square) =
      mends_right (inside_one d ∷ []) refl (λ i. mends_bind (then_ahead (ahead a) (put_ahead held)) (h.subscripts d) (omega arith) (λ xs j hx. mends_bind hx (part_mark_right (inside_one d) d (omega arith) tk.close_square) (omega arith) (λ q k hq.
      mends_moved (rw (subscripts_opens d xs) (simp append_assoc refl)) (r (spelled.apply a p xs q) (l.0, (l.1, left_head a p l.0, i, j, k))))))
  by_left_mends d n r a l p (tk.mark tk.dot) =
      mends_right (form.here d) refl (λ i. mends_bind (then_ahead (ahead a) (put_ahead held)) (part_field_right d) (omega arith) (λ f j hx.
      mends_moved (simp append_assoc refl) (r (spelled.select a p f) (l.0, (l.1, left_head a p l.0, i, j)))))
  by_left_mends d n r a l p k = mends_in_place (mends_gives a l (λ ts. refl) refl)

  left_mends : (d n : ℕ) (a : Phrase) → IsLeft a → Mends (spell a) (left_opens d a) IsLeft spell (left_opens d) none d 2 [] (missing_left m w n) (read_left m n a)
  left_mends d zero a l = mends_refuses (ahead a) (filled a l (λ ts. refl) refl)
  left_mends d (suc n) a l = mends_peek (filled a l (λ ts. refl) refl) (by_left_mends d n (left_mends d n) a l)

  -- ---- l := e || m := f
  -- an assignment so far, with its counts
  abbrev assigned : ℕ → Phrase → Phrase → List Open
  assigned d l e = (left_opens d l ++ form.here d) ++ expression_opens d e

  by_assignments_mends : (d n : ℕ) → ((x : Name) → Right 0 x.place → Mends (name x) (form.here d) GoodAssignments assignments (assignments_open d) none d 4 (a_new_value []) (missing_assignments m w n x) (read_assignments m n x)) → (l : Phrase) → IsLeft l → (p : Place) (e : Phrase) → IsGood e
      → Ahead (λ ts. spell l (mark p tk.assigns (spell e ts))) → (q : Place) (k : TokenView)
      → MendsAt q k (λ ts. spell l (mark p tk.assigns (spell e ts))) (assigned d l e) GoodAssignments assignments (assignments_open d) none d 4 (missing_after_value (missing_assignments m w n) q k) (assignments_by (read_assignments m n) l p e q k)
  by_assignments_mends d n r l i p e j hx q (tk.mark tk.beside) =
      let hb = then_ahead hx (put_ahead held) in
      mends_past (form.here d) refl
      (mends_bind hb (part_word_right d) (omega arith) (λ x u hy. mends_give_after (λ ts. spell l (mark p tk.assigns (spell e (mark q tk.beside ts)))) (assigned d l e ++ form.here d) (λ ms. assignment l p e q ms) hb (assignments_sound m h.sound n (spelled.named x.0 x.1) u) (λ a u. ahead_assignments a)
      (r (spelled.named x.0 x.1) u) (omega arith) (λ ms v. (i.0, i.1, j, v)) (λ ms ts. refl) (λ ms. simp append_assoc refl)))
  by_assignments_mends d n r l i p e j hx q k = mends_stays (mends_gives (last_assignment l p e) (i.0, i.1, j) (λ ts. refl) (simp append_assoc refl))

  assignments_mends : (d n : ℕ) (x : Name) → Right 0 x.place → Mends (name x) (form.here d) GoodAssignments assignments (assignments_open d) none d 4 (a_new_value []) (missing_assignments m w n x) (read_assignments m n x)
  assignments_mends d zero x u =
      mends_refuses (put_ahead held) (record { whole = last_assignment (spelled.name x.place x.word) nowhere some_phrase; good = (refl, u, some_good); fix = a_new_value []; tokens = λ v. refl; given = refl; back = form.here d ++ expression_opens d some_phrase; opens = refl; long = refl; enough = omega arith })
  assignments_mends d (suc n) x u =
      mends_after (λ ts. ts) [] held (left_sound m h.sound (suc n) (spelled.name x.place x.word) (refl, u)) (λ a u. ahead a) (left_mends d (suc n) (spelled.name x.place x.word) (refl, u)) (omega arith)
      (λ l i hl. mends_bind hl (part_mark d tk.assigns) (omega arith) (λ p v hp. mends_bind hp (h.expr d) (omega arith) (λ e j he.
      mends_next (filled (last_assignment l p e) (i.0, i.1, j) (λ ts. refl) (simp append_assoc refl)) (by_assignments_mends d n (assignments_mends d n) l i p e j he))))

  assign_mends : (d n : ℕ) (x : Name) (p : Place) (k : TokenView) → MendsAt p k (name x) (form.here d) GoodSimple simple_tokens (simple_opens d) none d 4 (missing_assign (nat_lt 0 x.place.col) m w n x) (assign_if (nat_lt 0 x.place.col) m n x)
  assign_mends d n x p k = by (nat_lt 0 x.place.col) refl
    where
      -- where it can't be an assignment, a call of a macro
      some_call : Fill (name x) (form.here d) GoodSimple simple_tokens (simple_opens d) none d 4 (no_list [])
      some_call = record { whole = g.macro x (no_arguments nowhere nowhere); good = tt; fix = no_list []; tokens = λ v. refl; given = refl; back = form.here d ++ form.here d; opens = refl; long = refl; enough = omega arith }

      by : (b : Bool) → nat_lt 0 x.place.col ≡ b → MendsAt p k (name x) (form.here d) GoodSimple simple_tokens (simple_opens d) none d 4 (missing_assign b m w n x) (assign_if b m n x)
      by true e = mends_stays (mends_give_after (λ ts. ts) [] g.assign held (assignments_sound m h.sound n x e) (λ a u. ahead_assignments a) (assignments_mends d n x e) (omega arith) (λ ms i. i) (λ ms ts. refl) (λ ms. refl))
      by false e = mends_stays (mends_refuses (put_ahead held) some_call)

  -- ---- a statement after its first name, and those that begin with a word
  pub named_mends : (d n : ℕ) (x : Name) (p : Place) (k : TokenView) → MendsAt p k (name x) (form.here d) GoodSimple simple_tokens (simple_opens d) none d 4 (missing_named m w n x p k) (named_by m n x p k)
  named_mends d n x p (tk.mark tk.open_bracket) = mends_stays (mends_give (g.macro x) (put_ahead held) (part_arguments d) (omega arith) (λ xs i. i) (λ xs ts. refl) (λ xs. refl))
  named_mends d n x p k = assign_mends d n x p k

  -- a word and an expression
  of_expression_mends : (d : ℕ) (p : Place) (v : List ℕ) (f : Phrase → g.Simple) → ((e : Phrase) → IsGood e → GoodSimple (f e)) → ((e : Phrase) (ts : List Token) → simple_tokens (f e) ts ≡ g.key p v (spell e ts)) → ((e : Phrase) → simple_opens d (f e) ≡ form.here d ++ expression_opens d e)
      → MendsAt p (tk.reserved v) here [] GoodSimple simple_tokens (simple_opens d) none d 4 (past_misses w.expr) (of_expression m f)
  of_expression_mends d p v f good same opens = mends_past (form.here d) refl (mends_give f (put_ahead held) (h.expr d) (omega arith) good same opens)

  pub words_mend : (d : ℕ) (p : Place) → AllMend p here [] GoodSimple simple_tokens (simple_opens d) none d 4 (missing_simple_words m w) (simple_words m p)
  words_mend d p = (
    refl,
    of_expression_mends d p (codes "await") (g.await p) (λ e i. i) (λ e ts. refl) (λ e. refl),
    (
      refl,
      of_expression_mends d p (codes "when") (g.when p) (λ e i. i) (λ e ts. refl) (λ e. refl),
      (
        refl,
        of_expression_mends d p (codes "print") (g.print p) (λ e i. i) (λ e ts. refl) (λ e. refl),
        (
          refl,
          of_expression_mends d p (codes "assert") (g.assert p) (λ e i. i) (λ e ts. refl) (λ e. refl),
          (
            refl,
            mends_done (form.here d) (g.skip p) refl tt (λ ts. refl) refl,
            (
              refl,
              mends_past (form.here d) refl (mends_give (g.goto p) (put_ahead held) (part_name d) (omega arith) (λ x u. tt) (λ x ts. refl) (λ x. refl)),
              (
                refl,
                mends_past (form.here d) refl (mends_bind (put_ahead held) (part_name d) (omega arith) (λ x u hx. mends_give (g.call p x) hx (part_arguments d) (omega arith) (λ xs i. i) (λ xs ts. refl) (λ xs. refl))),
                (refl, mends_done (form.here d) (g.return p) refl tt (λ ts. refl) refl, tt),
              ),
            ),
          ),
        ),
      ),
    ),
  )
