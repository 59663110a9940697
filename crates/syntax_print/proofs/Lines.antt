-- Lines that are appended to a text: one, some after others, and those of a list.
use Rattle.std.proofs.Common.{◌≡◌, ℕ, ◌+◌, ◌<◌, ◌≤◌, Bool, false, List, [], ◌∷◌, ◌++◌, length, drop, get_or, refl, sym, ap, ◌∙◌, arith, append_assoc, append-nil}
use Rattle.std.proofs.lemmas.Bool.{false≢true}
use Rattle.std.specs.Prelude.{codes, nat_eq, Result, Ok, Err, OnOk}
use Rattle.std.proofs.lemmas.List.{drop_more, drop_all}
use Rattle.pcal_tree.specs.Algorithm.{Statement, assign, await, print, assert, skip, branch, either, with, while, goto, macro, call, return}
use Rattle.pcal_tree.specs.Printed.{Text, Lines, blanks, line, simple_line}
use Rattle.syntax_print.specs.Adding.{behind, Adds}

-- what follows where a call answered Ok
pub on_ok : {E : Type 0} (r : Result (Unit {0}) E) (P Q : Type 0) → (P → Q) → OnOk r P → OnOk r Q
on_ok (Ok x) P Q f h = f h
on_ok (Err e) P Q f h = h

-- a line with this text
pub line_adds : (old begun new : Text) (n : ℕ) (w t : Text) → begun ≡ old ++ (codes "\n" ++ (blanks n ++ w)) → new ≡ begun ++ t → Adds old new (line n (w ++ t))
line_adds old begun new n w t e g rest = rw (g, e) (simp append_assoc)

pub line_alone : (old new : Text) (n : ℕ) (w : Text) → new ≡ old ++ (codes "\n" ++ (blanks n ++ w)) → Adds old new (line n w)
line_alone old new n w e rest = rw e (simp append_assoc)

-- the text that was appended at the end
pub added : (old new : Text) (f : Lines) → Adds old new f → new ≡ old ++ behind (f [])
added old new f a = sym (append-nil new) ∙ a []

pub adds_none : (old new : Text) → new ≡ old → Adds old new (λ rest. rest)
adds_none old new e rest = ap (λ (w : Text). w ++ behind rest) e

-- ---- lists: F of a list is one of its first before F of the rest
pub record Linewise {A : Type 0} (F : List A → Lines) (one : A → Lines) : Type 0 where
  pub none : (rest : List Text) → F [] rest ≡ rest
  pub more : (x : A) (xs : List A) (rest : List Text) → F (x ∷ xs) rest ≡ one x (F xs rest)

-- with so many done, what is left is still to come
abbrev pub Comes : {A : Type 0} → (List A → Lines) → Text → Text → List A → ℕ → Type 0
Comes F old now xs i = (rest : List Text) → now ++ behind (F (drop i xs) rest) ≡ old ++ behind (F xs rest)

pub one_more : {A : Type 0} (F : List A → Lines) (one : A → Lines) → Linewise F one → (old now new : Text) (xs : List A) (i : ℕ) (x : A) → x ≡ get_or xs i x → i < length xs → Comes F old now xs i → Adds now new (one x) → Comes F old new xs (i + 1)
one_more F one l old now new xs i x is lt h a rest =
    a (F (drop (i + 1) xs) rest)
    ∙ ap (λ (ls : List Text). now ++ behind ls) (sym (l.more x (drop (i + 1) xs) rest) ∙ ap (λ (y : _). F (y ∷ drop (i + 1) xs) rest) is ∙ ap (λ (ys : List _). F ys rest) (sym (drop_more xs i x lt)))
    ∙ h rest

pub all_done : {A : Type 0} (F : List A → Lines) (one : A → Lines) → Linewise F one → (old now : Text) (xs : List A) (i : ℕ) → length xs ≤ i → Comes F old now xs i → Adds old now (F xs)
all_done F one l old now xs i le h rest =
    ap (λ (ls : List Text). now ++ behind ls) (sym (l.none rest) ∙ ap (λ (ys : List _). F ys rest) (sym (drop_all i xs le))) ∙ h rest

-- ---- a statement with no statements in it
pub simple_after : (x y : Text) (st : Statement) → simple_line (x ++ y) st ≡ x ++ simple_line y st
simple_after x y (assign ms) = simp append_assoc
simple_after x y (await e) = simp append_assoc
simple_after x y (print e) = simp append_assoc
simple_after x y (assert e) = simp append_assoc
simple_after x y skip = append_assoc x y (codes "skip;")
simple_after x y (branch e a b) = refl
simple_after x y (either bs) = refl
simple_after x y (with bs a) = refl
simple_after x y (while e a) = refl
simple_after x y (goto l) = simp append_assoc
simple_after x y (macro m ts) = simp append_assoc
simple_after x y (call z ts) = simp append_assoc
simple_after x y return = append_assoc x y (codes "return;")

pub simple_adds : (old begun new : Text) (n : ℕ) (ls : Text) (st : Statement) → begun ≡ old ++ (codes "\n" ++ (blanks n ++ ls)) → new ≡ simple_line begun st → Adds old new (line n (simple_line ls st))
simple_adds old begun new n ls st e g rest = rw (g, e, simple_after old (codes "\n" ++ (blanks n ++ ls)) st, simple_after (codes "\n") (blanks n ++ ls) st, simple_after (blanks n) ls st) (simp append_assoc)

pub not_empty : {A : Type 0} (xs : List A) (b : Bool) → b ≡ nat_eq (length xs) 0 → b ≡ false → 0 < length xs
not_empty [] b e f = absurd (false≢true (sym f ∙ e))
not_empty (x ∷ xs) b e f = omega arith
