-- What is spelled is read: simple statements.
use Rattle.std.proofs.Common.{◌≡◌, ℕ, zero, suc, ◌≤◌, Bool, true, false, nat_lt, List, [], length, Ok, if◌then◌else◌, refl, ap, ◌∙◌, arith}
use Rattle.tla_token.specs.declared.place.Place.{Place}
use Rattle.tla_token.specs.Places.{nowhere}
use Rattle.tla_tree.specs.Tree.{Name}
use Rattle.tla_tree.specs.Lexical.{TokenView, Token, token}
use Rattle.tla_tree.specs.Lexical as tk
use Rattle.tla_tree.specs.Spelling.{Phrase, field_token, spell, spell_all, IsGood}
use Rattle.tla_tree.specs.Spelling as spelled
use Rattle.tla_tree.specs.Reader.{Out, ◌>>=◌, gives, end, a_word}
use Rattle.tla_tree.proofs.ReadForms.{is_start, starts_all, field_read}
use Rattle.pcal_tree.specs.GrammarParts.{name, mark, Arguments, no_arguments, some_arguments, arguments, GoodArguments, is_left_side, Assignments, last_assignment, assignment, assignments, GoodAssignments}
use Rattle.pcal_tree.specs.GrammarParts as g
use Rattle.syntax_reading.specs.TokenReaders.{first, Parts}
use Rattle.syntax_reading.specs.ReadSimple.{arguments_by, read_arguments, left_by, read_left, assignments_by, read_assignments, named_by}
use Rattle.syntax_reading.proofs.SoundSimple.{IsLeft}
use Rattle.syntax_reading.proofs.Whole.{Fits, smaller, less, then_is, is_after, after_calm, WholeParts}
use Rattle.syntax_reading.proofs.Lengths.{grow_phrase, grow_assignments}
use Rattle.tla_tree.proofs.Steps.{few_all}

-- ---- a left side: its name, and its tokens after that
abbrev pub root : Phrase → Name
root (spelled.name p x) = record { place = p; word = x }
root (spelled.apply a p xs q) = root a
root (spelled.select a p f) = root a
root a = record { place = nowhere; word = [] }

abbrev pub after_root : Phrase → List Token → List Token
after_root (spelled.apply a p xs q) ts = after_root a (mark p tk.open_square (spell_all xs (mark q tk.close_square ts)))
after_root (spelled.select a p f) ts = after_root a (mark p tk.dot (field_token f ts))
after_root a ts = ts

pub root_tokens : (a : Phrase) → is_left_side a ≡ true → (ts : List Token) → spell a ts ≡ name (root a) (after_root a ts)
root_tokens (spelled.name p x) l ts = refl
root_tokens (spelled.apply a p xs q) l ts = root_tokens a l (mark p tk.open_square (spell_all xs (mark q tk.close_square ts)))
root_tokens (spelled.select a p f) l ts = root_tokens a l (mark p tk.dot (field_token f ts))
root_tokens a l ts = absurd cc

root_right : (a : Phrase) → is_left_side a ≡ true → IsGood a → nat_lt 0 (root a).place.col ≡ true
root_right (spelled.name p x) l i = i
root_right (spelled.apply a p xs q) l i = root_right a l i.0
root_right (spelled.select a p f) l i = root_right a l i.0
root_right a l i = absurd cc

-- what may come after the name of an assignment
abbrev pub is_left_next : TokenView → Bool
is_left_next (tk.mark tk.open_square) = true
is_left_next (tk.mark tk.dot) = true
is_left_next (tk.mark tk.assigns) = true
is_left_next k = false

left_next : (a : Phrase) → is_left_side a ≡ true → (ts : List Token) → is_left_next (first ts).kind ≡ true → is_left_next (first (after_root a ts)).kind ≡ true
left_next (spelled.name p x) l ts h = h
left_next (spelled.apply a p xs q) l ts h = left_next a l (mark p tk.open_square (spell_all xs (mark q tk.close_square ts))) refl
left_next (spelled.select a p f) l ts h = left_next a l (mark p tk.dot (field_token f ts)) refl
left_next a l ts h = absurd cc

-- ---- an assignment: its name, and its tokens after that
abbrev pub first_left : Assignments → Phrase
first_left (last_assignment l p e) = l
first_left (assignment l p e q ms) = l

abbrev pub after_first : Assignments → List Token → List Token
after_first (last_assignment l p e) ts = after_root l (mark p tk.assigns (spell e ts))
after_first (assignment l p e q ms) ts = after_root l (mark p tk.assigns (spell e (mark q tk.beside (assignments ms ts))))

pub assignment_tokens : (ms : Assignments) → GoodAssignments ms → (ts : List Token) → assignments ms ts ≡ name (root (first_left ms)) (after_first ms ts)
assignment_tokens (last_assignment l p e) i ts = root_tokens l i.0 (mark p tk.assigns (spell e ts))
assignment_tokens (assignment l p e q ms) i ts = root_tokens l i.0 (mark p tk.assigns (spell e (mark q tk.beside (assignments ms ts))))

pub assignment_next : (ms : Assignments) → GoodAssignments ms → (ts : List Token) → is_left_next (first (after_first ms ts)).kind ≡ true
assignment_next (last_assignment l p e) i ts = left_next l i.0 (mark p tk.assigns (spell e ts)) refl
assignment_next (assignment l p e q ms) i ts = left_next l i.0 (mark p tk.assigns (spell e (mark q tk.beside (assignments ms ts)))) refl

pub assignment_right : (ms : Assignments) → GoodAssignments ms → nat_lt 0 (root (first_left ms)).place.col ≡ true
assignment_right (last_assignment l p e) i = root_right l i.0 i.1
assignment_right (assignment l p e q ms) i = root_right l i.0 i.1

module _ (m : ℕ) (r : Parts) (h : WholeParts m r) where
  -- ---- (a, b) of a call
  pub arguments_whole : (xs : Arguments) → GoodArguments xs → (ts : List Token) → length (arguments xs ts) ≤ m → read_arguments r (arguments xs ts) ≡ Ok (xs, ts)
  arguments_whole (no_arguments p q) i ts l = refl
  arguments_whole (some_arguments p xs q) i ts l =
      (let us = spell_all xs (mark q tk.close_bracket ts) in
      let s = starts_all 0 xs i (mark q tk.close_bracket ts) in
      by (first us).place (first us).kind (ap (λ (vs : List Token). is_start (first vs).kind) s.same_as ∙ s.start))
    where
      by : (s : Place) (k : TokenView) → is_start k ≡ true → arguments_by r p s k (spell_all xs (mark q tk.close_bracket ts)) ≡ Ok (some_arguments p xs q, ts)
      by s (tk.mark tk.close_bracket) d = absurd cc
      by s k d = then_is _ (h.arguments xs i (mark q tk.close_bracket ts) refl (omega (arith, l))) refl

  -- ---- left sides
  left_whole : (a : Phrase) → IsLeft a → (ts : List Token) (o : Out Phrase) → ((n : ℕ) → Fits n m ts → read_left r n a ts ≡ o) → (n : ℕ) → Fits n m (after_root a ts) → read_left r n (spelled.name (root a).place (root a).word) (after_root a ts) ≡ o
  left_whole (spelled.name p x) i ts o k n f = k n f
  left_whole (spelled.apply a p xs q) i ts o k n f = left_whole a (i.0, i.1.0) (mark p tk.open_square (spell_all xs (mark q tk.close_square ts))) o one n f
    where
      one : (n : ℕ) → Fits n m (mark p tk.open_square (spell_all xs (mark q tk.close_square ts))) → read_left r n a (mark p tk.open_square (spell_all xs (mark q tk.close_square ts))) ≡ o
      one zero f = absurd (omega (arith, f.list))
      one (suc n) f = rw (i.1.2, h.subscripts xs i.1.3 (mark q tk.close_square ts) refl (omega (arith, f.all)), i.1.4) (k n (less (omega (arith, few_all xs (mark q tk.close_square ts))) f))
  left_whole (spelled.select a p e) i ts o k n f = left_whole a (i.0, i.1.0) (mark p tk.dot (field_token e ts)) o one n f
    where
      one : (n : ℕ) → Fits n m (mark p tk.dot (field_token e ts)) → read_left r n a (mark p tk.dot (field_token e ts)) ≡ o
      one zero f = absurd (omega (arith, f.list))
      one (suc n) f = rw (i.1.2, field_read 0 e ts i.1.3) (k n (less (omega arith) f))
  left_whole a i ts o k n f = absurd (let l = i.0 in cc)

  left_stops : (a : Phrase) (p : Place) (ts : List Token) (n : ℕ) → Fits n m (mark p tk.assigns ts) → read_left r n a (mark p tk.assigns ts) ≡ Ok (a, mark p tk.assigns ts)
  left_stops a p ts zero f = absurd (omega (arith, f.list))
  left_stops a p ts (suc n) f = by (nat_lt 0 p.col)
    where
      by : (b : Bool) → left_by r (read_left r n) a (if b then token p (tk.mark tk.assigns) else end).place (if b then token p (tk.mark tk.assigns) else end).kind (mark p tk.assigns ts) ≡ Ok (a, mark p tk.assigns ts)
      by true = refl
      by false = refl

  -- ---- l := e || m := f, after its first name
  pub assignments_whole : (n : ℕ) (ms : Assignments) → GoodAssignments ms → (ts : List Token) → is_after (first ts).kind ≡ true → Fits n m (assignments ms ts) → read_assignments r n (root (first_left ms)) (after_first ms ts) ≡ Ok (ms, ts)
  assignments_whole zero ms i ts d f = absurd (omega (arith, f.list, grow_assignments ms ts))
  assignments_whole (suc n) (last_assignment l p e) i ts d f =
      (let us = mark p tk.assigns (spell e ts) in
      let same = ap length (root_tokens l i.0 us) in
      (then_is _ (left_whole l (i.0, i.1) us (Ok (l, us)) (left_stops l p (spell e ts)) (suc n) (smaller (omega (arith, same)) f))
      (then_is _ (h.expr e i.2 ts (after_calm (first ts).kind d) (omega (arith, f.all, grow_phrase l us))) (by (first ts).place (first ts).kind d))))
    where
      by : (q : Place) (k : TokenView) → is_after k ≡ true → assignments_by (read_assignments r n) l p e q k ts ≡ Ok (last_assignment l p e, ts)
      by q (tk.reserved w) d = refl
      by q (tk.mark tk.semicolon) d = refl
      by q k d = absurd cc
  assignments_whole (suc n) (assignment l p e q ms) i ts d f =
      (let all = assignments ms ts in
      let us = mark p tk.assigns (spell e (mark q tk.beside all)) in
      let same = ap length (root_tokens l i.0 us) in
      (then_is _ (left_whole l (i.0, i.1) us (Ok (l, us)) (left_stops l p (spell e (mark q tk.beside all))) (suc n) (smaller (omega (arith, same)) f))
      (then_is _ (h.expr e i.2 (mark q tk.beside all) refl (omega (arith, f.all, grow_phrase l us)))
      (another (assignments_whole n ms i.3 ts d (less (omega (arith, grow_phrase l us, grow_phrase e (mark q tk.beside all))) f))))))
    where
      another : read_assignments r n (root (first_left ms)) (after_first ms ts) ≡ Ok (ms, ts) → (a_word 0 >>= λ x. read_assignments r n (spelled.named x.0 x.1) >>= λ ns. gives (assignment l p e q ns)) (assignments ms ts) ≡ Ok (assignment l p e q ms, ts)
      another w = ap (λ (us : List Token). (a_word 0 >>= λ x. read_assignments r n (spelled.named x.0 x.1) >>= λ ns. gives (assignment l p e q ns)) us) (assignment_tokens ms i.3 ts) ∙ rw (assignment_right ms i.3) (then_is _ w refl)

  -- ---- a statement after its first name
  pub assign_whole : (n : ℕ) (ms : Assignments) → GoodAssignments ms → (ts : List Token) → is_after (first ts).kind ≡ true → Fits n m (assignments ms ts) → (p : Place) (k : TokenView) → is_left_next k ≡ true
      → named_by r n (root (first_left ms)) p k (after_first ms ts) ≡ Ok (g.assign ms, ts)
  assign_whole n ms i ts d f p (tk.mark tk.open_bracket) e = absurd cc
  assign_whole n ms i ts d f p k e = rw (assignment_right ms i) (then_is _ (assignments_whole n ms i ts d f) refl)
