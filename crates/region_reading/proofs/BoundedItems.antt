-- Reading within a bound beside reading without: names and parameters, forms behind bullets, and items.
use Rattle.std.proofs.Common.{ℕ, zero, suc, ◌+◌, ◌*◌, max, bytes_eq, Bool, true, false, List, [], ◌∷◌, codes, length, Some, None, refl, arith}
use Rattle.tla_token.specs.declared.place.Place.{Place}
use Rattle.tla_tree.specs.declared.op.Op.{Op}
use Rattle.tla_tree.specs.declared.op.Op.TheVariants as op
use Rattle.tla_tree.specs.Tree.{Word}
use Rattle.tla_tree.specs.Lexical.{TokenView, Token, mark, sign, key}
use Rattle.tla_tree.specs.Lexical as tk
use Rattle.tla_tree.specs.Spelling.{Phrase, head, is_primary}
use Rattle.tla_tree.specs.Reader.{Reader, ◌>>=◌, gives, next, tail, place_if, is_mark, is_key, is_sign, word_of, bullet_of}
use Rattle.module_tree.specs.Grammar.{Names, ItemForm, test_form, setting_form, unchanged_form, exists_form, local_form, choice_form, either_form, ListForm, last_item, more_items, last_branch, more_branches}
use Rattle.region_reading.specs.Bound.{Bound, unbounded, opened_if, ReadsWithin}
use Rattle.region_reading.specs.Opens.{item_opens, list_opens, branches_open, bullets_open, parameters_open}
use Rattle.region_reading.specs.NameReader.{names_by, some_names, names_in, parameters_from, parameters_by, parameters_in, is_bullet_in, bulleted_if, bulleted, bulleted_from, bulleted_in}
use Rattle.region_reading.specs.ItemReader.{ItemReaders, operand_if, an_operand, test_from, setting_from, unchanged_from, exists_from, local_from, choice_from, unchanged_if, item_by, list_by, items_if, branches_if, item_step, item_readers, whole_items, list_in}
use Rattle.region_reading.proofs.BoundedSteps.{Bounded, within, IsPlain, plain_took, plain_then, bounded_gives, bounded_refuses, bounded_bind, then_part, then_plain, then_token, then_opening, bounded_opened, bounded_phrase}

-- ---- names

plain_by : (more : Reader Names) → ((ts : List Token) → IsPlain (more ts)) → (p : Place) (x : Word) (q : Place) (k : TokenView) (ts : List Token) → IsPlain (names_by more p x q k ts)
plain_by more h p x q (mark tk.comma) ts = plain_then (more (tail ts)) _ (h (tail ts)) (λ ns us. tt)
plain_by more h p x q k ts = tt

plain_names : (n e : ℕ) (ts : List Token) → IsPlain (some_names n e ts)
plain_names zero e ts = refl
plain_names (suc n) e ts = plain_then _ _ (plain_took (word_of (next e ts).place (next e ts).kind) ts) (λ x us. plain_by (some_names n e) (plain_names n e) x.0 x.1 (next e us).place (next e us).kind us)

pub names_plain : (e : ℕ) (ts : List Token) → IsPlain (names_in e ts)
names_plain e ts = plain_names (length ts) e ts

module _ (x : ℕ → ℕ → Reader Phrase) (l : ℕ) where
  bounded_parameters_by : (d : ℕ) (p : Place) (k : TokenView) (ts : List Token) → Bounded l d (λ f. d + parameters_open f) (parameters_by (within x l d) p k ts) (parameters_by unbounded p k ts)
  bounded_parameters_by d p (mark tk.open_bracket) ts = bounded_opened x l d (λ n ts. parameters_from p (tail ts)) ts
      (then_plain (names_in 1 (tail ts)) (names_plain 1 (tail ts))
      (λ ns us. then_token 1 (place_if (is_mark tk.close_bracket)) us
      (λ q vs. bounded_gives (Some (record { left = p; names = ns; right = q })) vs (omega arith))))
  bounded_parameters_by d p k ts = bounded_gives None ts (omega arith)

  pub bounded_parameters : (d : ℕ) (ts : List Token) → Bounded l d (λ f. d + parameters_open f) (parameters_in (within x l d) ts) (parameters_in unbounded ts)
  bounded_parameters d ts = bounded_parameters_by d (next 1 ts).place (next 1 ts).kind ts

-- ---- lists of forms, each after its bullet

module _ (x : ℕ → ℕ → Reader Phrase) (l : ℕ) {A : Type 0} (opens : A → ℕ) (f : Bound → ℕ → Reader A)
    (h : (d e : ℕ) (ts : List Token) → Bounded l d (λ a. d + opens a) (f (within x l d) e ts) (f unbounded e ts)) (o : Op) where
  bounded_bulleted_if : (d c : ℕ) (b : Bool) (p : Place) (a : A) (more any : Reader (List (Place × A)))
      → ((ts : List Token) → Bounded l (suc d) (λ xs. d + bullets_open opens xs) (more ts) (any ts)) → (ts : List Token)
      → Bounded l (max (suc d) (suc d + opens a)) (λ xs. d + bullets_open opens xs) (bulleted_if b more p a ts) (bulleted_if b any p a ts)
  bounded_bulleted_if d c true p a more any g ts = then_part (omega arith) (g ts) (λ xs us. bounded_gives ((p, a) ∷ xs) us (omega arith))
  bounded_bulleted_if d c false p a more any g ts = bounded_gives ((p, a) ∷ []) ts (omega arith)

  bounded_bulleted : (n d c : ℕ) (ts : List Token) → Bounded l (suc d) (λ xs. d + bullets_open opens xs) (bulleted n o (f (within x l (suc d))) c ts) (bulleted n o (f unbounded) c ts)
  bounded_bulleted zero d c ts = bounded_refuses ts
  bounded_bulleted (suc n) d c ts =
      then_token 1 (bullet_of o c) ts
      (λ p us. then_part (omega arith) (h (suc d) c us)
      (λ a vs. bounded_bulleted_if d c (is_bullet_in o c (next 1 vs).place (next 1 vs).kind) p a (bulleted n o (f (within x l (suc d))) c) (bulleted n o (f unbounded) c) (bounded_bulleted n d c) vs))

  pub bounded_bullets : (d : ℕ) (ts : List Token) → Bounded l d (λ xs. d + bullets_open opens xs) (bulleted_in (within x l d) o f ts) (bulleted_in unbounded o f ts)
  bounded_bullets d ts = by (is_sign o (next 1 ts).kind)
    where
      c : ℕ
      c = (next 1 ts).place.col

      by : (b : Bool) → Bounded l d (λ xs. d + bullets_open opens xs) (opened_if b (within x l d) (λ n. bulleted_from o (f n) (next 1 ts).place.col) ts) (opened_if b unbounded (λ n. bulleted_from o (f n) (next 1 ts).place.col) ts)
      by true = bounded_opened x l d (λ n. bulleted_from o (f n) (next 1 ts).place.col) ts (bounded_bulleted (length ts) d (next 1 ts).place.col ts)
      by false = bounded_refuses ts

-- ---- items

module _ (x : ℕ → ℕ → Reader Phrase) (bare : Phrase → ℕ) (w : ReadsWithin x bare) (l : ℕ) where
  bounded_operand : (d e : ℕ) (ts : List Token) → Bounded l d (λ a. d + bare a) (an_operand (within x l d) e ts) (an_operand unbounded e ts)
  bounded_operand d e ts = bounded_bind (bounded_phrase x bare w l d e ts) (λ a us. by (is_primary (head a)) a us)
    where
      by : (b : Bool) (a : Phrase) (us : List Token) → Bounded l (d + bare a) (λ a. d + bare a) (operand_if b a us) (operand_if b a us)
      by true a us = bounded_gives a us refl
      by false a us = bounded_refuses us

  -- of lists in a column, one form is open already
  record AreBounded (r : ItemReaders) : Type 0 where
    item : (d e : ℕ) (ts : List Token) → Bounded l d (λ i. d + item_opens bare i) (r.item (within x l d) e ts) (r.item unbounded e ts)
    list : (d e : ℕ) (ts : List Token) → Bounded l d (λ is. d + list_opens bare is) (r.list (within x l d) e ts) (r.list unbounded e ts)
    items : (d e c : ℕ) (ts : List Token) → Bounded l (suc d) (λ is. d + list_opens bare is) (r.items (within x l (suc d)) e c ts) (r.items unbounded e c ts)
    branches : (d e c : ℕ) (ts : List Token) → Bounded l (suc d) (λ bs. d + branches_open bare bs) (r.branches (within x l (suc d)) e c ts) (r.branches unbounded e c ts)

  module _ (r : ItemReaders) (h : AreBounded r) (d : ℕ) where
    abbrev AsItem : (Bound → Reader ItemForm) → List Token → Type 0
    AsItem f ts = Bounded l d (λ i. d + item_opens bare i) (f (within x l d) ts) (f unbounded ts)

    -- with one form more open
    abbrev Inside : (Bound → Reader ItemForm) → List Token → Type 0
    Inside f ts = Bounded l (suc d) (λ i. d + item_opens bare i) (f (within x l (suc d)) ts) (f unbounded ts)

    bounded_test : (e : ℕ) (p : Place) (ts : List Token) → Inside (λ n. test_from n e p) ts
    bounded_test e p ts =
        then_part (omega arith) (bounded_phrase x bare w l (suc d) e ts)
        (λ a us. then_token e (place_if (is_mark tk.close_bracket)) us
        (λ q vs. bounded_gives (test_form p a q) vs (omega arith)))

    bounded_setting : (e : ℕ) (p : Place) (y : Word) (ts : List Token) → AsItem (λ n. setting_from n e p y) ts
    bounded_setting e p y ts =
        then_token e (place_if (is_mark tk.prime)) ts
        (λ q us. then_opening x l d e (place_if (is_sign op.Equal)) us
        (λ s vs. then_part (omega arith) (bounded_operand (suc d) e vs)
        (λ a zs. bounded_gives (setting_form p y q s a) zs (omega arith))))

    bounded_unchanged : (e : ℕ) (p : Place) (ts : List Token) → Inside (λ n. unchanged_from n e p) ts
    bounded_unchanged e p ts =
        then_opening x l (suc d) e (place_if (is_mark tk.open_tuple)) ts
        (λ q us. then_plain (names_in e us) (names_plain e us)
        (λ ns vs. then_token e (place_if (is_mark tk.close_tuple)) vs
        (λ s zs. bounded_gives (unchanged_form p q ns s) zs (omega arith))))

    bounded_exists : (e : ℕ) (p : Place) (ts : List Token) → Inside (λ n. exists_from n r e p) ts
    bounded_exists e p ts =
        then_token e word_of ts
        (λ y us. then_token e (place_if (is_sign op.In)) us
        (λ s vs. then_part (omega arith) (bounded_phrase x bare w l (suc d) e vs)
        (λ a ws. then_token e (place_if (is_mark tk.colon)) ws
        (λ t ys. then_part (omega arith) (h.list (suc d) e ys)
        (λ is zs. bounded_gives (exists_form p y.0 y.1 s a t is) zs (omega arith))))))

    bounded_local : (e : ℕ) (p : Place) (ts : List Token) → Inside (λ n. local_from n r e p) ts
    bounded_local e p ts =
        then_token e word_of ts
        (λ y us. then_token e (place_if (is_mark tk.defines)) us
        (λ s vs. then_part (omega arith) (bounded_phrase x bare w l (suc d) e vs)
        (λ a ws. then_token e (place_if (is_key tk.in_key)) ws
        (λ t ys. then_part (omega arith) (h.list (suc d) e ys)
        (λ is zs. bounded_gives (local_form p y.0 y.1 s a t is) zs (omega arith))))))

    bounded_choice : (e : ℕ) (p : Place) (ts : List Token) → Inside (λ n. choice_from n r e p) ts
    bounded_choice e p ts =
        then_part (omega arith) (bounded_phrase x bare w l (suc d) e ts)
        (λ a us. then_token e (place_if (is_key tk.then_key)) us
        (λ q vs. then_part (omega arith) (h.list (suc d) e vs)
        (λ is ws. then_token e (place_if (is_key tk.else_key)) ws
        (λ s ys. then_part (omega arith) (h.list (suc d) e ys)
        (λ js zs. bounded_gives (choice_form p a q is s js) zs (omega arith))))))

    unchanged_is : (b : Bool) (e : ℕ) (p : Place) (ts : List Token) → AsItem (λ n. unchanged_if b n e p) ts
    unchanged_is true e p ts = bounded_opened x l d (λ n ts. unchanged_from n e p (tail ts)) ts (bounded_unchanged e p (tail ts))
    unchanged_is false e p ts = bounded_refuses ts

    item_is : (e : ℕ) (p : Place) (k : TokenView) (ts : List Token) → AsItem (λ n. item_by n r e p k) ts
    item_is e p (mark tk.open_bracket) ts = bounded_opened x l d (λ n ts. test_from n e p (tail ts)) ts (bounded_test e p (tail ts))
    item_is e p (tk.word y) ts = bounded_setting e p y (tail ts)
    item_is e p (tk.other v) ts = unchanged_is (bytes_eq v (codes "UNCHANGED")) e p ts
    item_is e p (key tk.exists_key) ts = bounded_opened x l d (λ n ts. exists_from n r e p (tail ts)) ts (bounded_exists e p (tail ts))
    item_is e p (key tk.let_key) ts = bounded_opened x l d (λ n ts. local_from n r e p (tail ts)) ts (bounded_local e p (tail ts))
    item_is e p (key tk.if_key) ts = bounded_opened x l d (λ n ts. choice_from n r e p (tail ts)) ts (bounded_choice e p (tail ts))
    item_is e p (sign op.Or) ts = bounded_opened x l d (λ n. r.branches n e p.col >>= λ bs. gives (either_form bs)) ts (bounded_bind (h.branches d e p.col ts) (λ bs us. bounded_gives (either_form bs) us refl))
    item_is e p k ts = bounded_refuses ts

    list_is : (e : ℕ) (p : Place) (k : TokenView) (ts : List Token) → Bounded l d (λ is. d + list_opens bare is) (list_by (within x l d) r e p k ts) (list_by unbounded r e p k ts)
    list_is e p (sign op.And) ts = bounded_opened x l d (λ n. r.items n e p.col) ts (h.items d e p.col ts)
    list_is e p k ts = bounded_refuses ts

    items_are : (b : Bool) (e c : ℕ) (p : Place) (i : ItemForm) (ts : List Token)
        → Bounded l (max (suc d) (suc d + item_opens bare i)) (λ is. d + list_opens bare is) (items_if b (within x l (suc d)) r e c p i ts) (items_if b unbounded r e c p i ts)
    items_are true e c p i ts = then_part (omega arith) (h.items d e c ts) (λ is us. bounded_gives (more_items p i is) us (omega arith))
    items_are false e c p i ts = bounded_gives (last_item p i) ts (omega arith)

    branches_are : (b : Bool) (e c : ℕ) (p : Place) (is : ListForm) (ts : List Token)
        → Bounded l (max (suc d) (suc d + list_opens bare is)) (λ bs. d + branches_open bare bs) (branches_if b (within x l (suc d)) r e c p is ts) (branches_if b unbounded r e c p is ts)
    branches_are true e c p is ts = then_part (omega arith) (h.branches d e c ts) (λ bs us. bounded_gives (more_branches p is bs) us (omega arith))
    branches_are false e c p is ts = bounded_gives (last_branch p is) ts (omega arith)

  step_bounded : (r : ItemReaders) → AreBounded r → AreBounded (item_step r)
  step_bounded r h = record {
    item = λ d e ts. item_is r h d e (next e ts).place (next e ts).kind ts;
    list = λ d e ts. list_is r h d e (next e ts).place (next e ts).kind ts;
    items = λ d e c ts.
        then_token e (bullet_of op.And c) ts
        (λ p us. then_part (omega arith) (h.item (suc d) c us)
        (λ i vs. items_are r h d (is_bullet_in op.And c (next e vs).place (next e vs).kind) e c p i vs));
    branches = λ d e c ts.
        then_token e (bullet_of op.Or c) ts
        (λ p us. then_part (omega arith) (h.list (suc d) c us)
        (λ is vs. branches_are r h d (is_bullet_in op.Or c (next e vs).place (next e vs).kind) e c p is vs));
  }

  items_bounded : (n : ℕ) → AreBounded (item_readers n)
  unfolding item_readers
  items_bounded zero = record { item = λ d e ts. bounded_refuses ts; list = λ d e ts. bounded_refuses ts; items = λ d e c ts. bounded_refuses ts; branches = λ d e c ts. bounded_refuses ts }
  items_bounded (suc n) = step_bounded (item_readers n) (items_bounded n)

  pub bounded_item : (d e : ℕ) (ts : List Token) → Bounded l d (λ i. d + item_opens bare i) (whole_items.item (within x l d) e ts) (whole_items.item unbounded e ts)
  bounded_item d e ts = (items_bounded (2 * length ts)).item d e ts

  pub bounded_list : (d e : ℕ) (ts : List Token) → Bounded l d (λ is. d + list_opens bare is) (list_in (within x l d) e ts) (list_in unbounded e ts)
  bounded_list d e ts = (items_bounded (2 * length ts)).list d e ts
