-- What is spelled is read: assignments, before a word, a brace or a `;`.
use Rattle.std.proofs.Common.{◌≡◌, ℕ, zero, suc, Bool, true, false, nat_lt, List, length, Ok, if◌then◌else◌, refl, ap, ◌∙◌, arith}
use Rattle.tla_token.specs.declared.place.Place.{Place}
use Rattle.tla_tree.specs.Lexical.{TokenView, Token, token}
use Rattle.tla_tree.specs.Lexical as tk
use Rattle.tla_tree.specs.Spelling.{Phrase, field_token, spell, spell_all, IsGood}
use Rattle.tla_tree.specs.Spelling as spelled
use Rattle.tla_tree.specs.Reader.{Out, ◌>>=◌, gives, end, a_word}
use Rattle.tla_tree.proofs.ReadForms.{field_read}
use Rattle.tla_tree.proofs.Steps.{few_all}
use Rattle.pcal_tree.specs.GrammarParts.{mark, is_left_side, Assignments, last_assignment, assignment, assignments, GoodAssignments}
use Rattle.pcal_tree.specs.GrammarParts as g
use Rattle.syntax_reading.specs.TokenReaders.{first, Parts}
use Rattle.syntax_reading.specs.ReadSimple.{left_by, read_left, assignments_by, read_assignments, named_by}
use Rattle.syntax_reading.proofs.SoundSimple.{IsLeft}
use Rattle.syntax_reading.proofs.Whole.{Fits, smaller, less, then_is, WholeParts}
use Rattle.syntax_reading.proofs.WholeSimple.{root, after_root, root_tokens, assignment_right, first_left, after_first, assignment_tokens, is_left_next}
use Rattle.syntax_reading.proofs.Lengths.{grow_phrase, grow_assignments}
use Rattle.syntax_reading.proofs.WholeEnds.{is_divider_next, next_calm}

module _ (m : ℕ) (r : Parts) (h : WholeParts m r) where
  -- ---- left sides
  left_whole : (a : Phrase) → IsLeft a → (ts : List Token) (o : Out Phrase) → ((n : ℕ) → Fits n m ts → read_left r n a ts ≡ o) → (n : ℕ) → Fits n m (after_root a ts) → read_left r n (spelled.name (root a).place (root a).word) (after_root a ts) ≡ o
  left_whole (spelled.name p x) i ts o k n f = k n f
  left_whole (spelled.apply a p xs q) i ts o k n f = left_whole a (i.0, i.1.0) (mark p tk.open_square (spell_all xs (mark q tk.close_square ts))) o one n f
    where
      one : (n : ℕ) → Fits n m (mark p tk.open_square (spell_all xs (mark q tk.close_square ts))) → read_left r n a (mark p tk.open_square (spell_all xs (mark q tk.close_square ts))) ≡ o
      one zero f = absurd (omega (arith, f.list))
      one (suc n) f = rw (i.1.2, h.subscripts xs i.1.3 (mark q tk.close_square ts) refl (omega (arith, f.all)), i.1.4) (k n (less (omega (arith, few_all xs (mark q tk.close_square ts))) f))
  left_whole (spelled.select a p e) i ts o k n f = left_whole a (i.0, i.1.0) (mark p tk.dot (field_token e ts)) o one n f
    where
      one : (n : ℕ) → Fits n m (mark p tk.dot (field_token e ts)) → read_left r n a (mark p tk.dot (field_token e ts)) ≡ o
      one zero f = absurd (omega (arith, f.list))
      one (suc n) f = rw (i.1.2, field_read 0 e ts i.1.3) (k n (less (omega arith) f))
  left_whole a i ts o k n f = absurd (let l = i.0 in cc)

  left_stops : (a : Phrase) (p : Place) (ts : List Token) (n : ℕ) → Fits n m (mark p tk.assigns ts) → read_left r n a (mark p tk.assigns ts) ≡ Ok (a, mark p tk.assigns ts)
  left_stops a p ts zero f = absurd (omega (arith, f.list))
  left_stops a p ts (suc n) f = by (nat_lt 0 p.col)
    where
      by : (b : Bool) → left_by r (read_left r n) a (if b then token p (tk.mark tk.assigns) else end).place (if b then token p (tk.mark tk.assigns) else end).kind (mark p tk.assigns ts) ≡ Ok (a, mark p tk.assigns ts)
      by true = refl
      by false = refl

  -- ---- l := e || m := f, after its first name
  assignments_end : (n : ℕ) (ms : Assignments) → GoodAssignments ms → (ts : List Token) → is_divider_next (first ts).kind ≡ true → Fits n m (assignments ms ts) → read_assignments r n (root (first_left ms)) (after_first ms ts) ≡ Ok (ms, ts)
  assignments_end zero ms i ts d f = absurd (omega (arith, f.list, grow_assignments ms ts))
  assignments_end (suc n) (last_assignment l p e) i ts d f =
      (let us = mark p tk.assigns (spell e ts) in
      let same = ap length (root_tokens l i.0 us) in
      (then_is _ (left_whole l (i.0, i.1) us (Ok (l, us)) (left_stops l p (spell e ts)) (suc n) (smaller (omega (arith, same)) f))
      (then_is _ (h.expr e i.2 ts (next_calm (first ts).kind d) (omega (arith, f.all, grow_phrase l us))) (by (first ts).place (first ts).kind d))))
    where
      by : (q : Place) (k : TokenView) → is_divider_next k ≡ true → assignments_by (read_assignments r n) l p e q k ts ≡ Ok (last_assignment l p e, ts)
      by q (tk.reserved w) d = refl
      by q (tk.mark tk.open_brace) d = refl
      by q (tk.mark tk.close_brace) d = refl
      by q (tk.mark tk.close_bracket) d = refl
      by q (tk.mark tk.semicolon) d = refl
      by q (tk.mark tk.comma) d = refl
      by q k d = absurd cc
  assignments_end (suc n) (assignment l p e q ms) i ts d f =
      (let all = assignments ms ts in
      let us = mark p tk.assigns (spell e (mark q tk.beside all)) in
      let same = ap length (root_tokens l i.0 us) in
      (then_is _ (left_whole l (i.0, i.1) us (Ok (l, us)) (left_stops l p (spell e (mark q tk.beside all))) (suc n) (smaller (omega (arith, same)) f))
      (then_is _ (h.expr e i.2 (mark q tk.beside all) refl (omega (arith, f.all, grow_phrase l us)))
      (another (assignments_end n ms i.3 ts d (less (omega (arith, grow_phrase l us, grow_phrase e (mark q tk.beside all))) f))))))
    where
      another : read_assignments r n (root (first_left ms)) (after_first ms ts) ≡ Ok (ms, ts) → (a_word 0 >>= λ x. read_assignments r n (spelled.named x.0 x.1) >>= λ ns. gives (assignment l p e q ns)) (assignments ms ts) ≡ Ok (assignment l p e q ms, ts)
      another w = ap (λ (us : List Token). (a_word 0 >>= λ x. read_assignments r n (spelled.named x.0 x.1) >>= λ ns. gives (assignment l p e q ns)) us) (assignment_tokens ms i.3 ts) ∙ rw (assignment_right ms i.3) (then_is _ w refl)

  -- ---- a statement after its first name
  pub assign_ends : (n : ℕ) (ms : Assignments) → GoodAssignments ms → (ts : List Token) → is_divider_next (first ts).kind ≡ true → Fits n m (assignments ms ts) → (p : Place) (k : TokenView) → is_left_next k ≡ true
      → named_by r n (root (first_left ms)) p k (after_first ms ts) ≡ Ok (g.assign ms, ts)
  assign_ends n ms i ts d f p (tk.mark tk.open_bracket) e = absurd cc
  assign_ends n ms i ts d f p k e = rw (assignment_right ms i) (then_is _ (assignments_end n ms i ts d f) refl)
