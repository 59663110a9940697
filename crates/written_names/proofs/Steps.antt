-- What is known of names stays known when one more is given, and the first name of a word is the one that is kept.
use Rattle.std.proofs.Common.{◌≡◌, ℕ, ◌+◌, nat_lt, List, [], ◌∷◌, Bool, true, false, ◌||◌, cond, bytes_eq, Option, Some, None, is_some, refl, sym, ◌∙◌, ap, subst, arith, true≢false, ltb-true, ltb-false}
use Rattle.std.specs.Prelude.{if◌then◌else◌}
use Rattle.std.specs.List.{list_any}
use Rattle.std.proofs.lemmas.Slice.Eq.{bytes_eq-Decides}
use Rattle.std.proofs.lemmas.List.Folds.{list_any-append}
use Rattle.indexmap.specs.IndexMap.{insert_entry}
use Rattle.tla_token.specs.Signs.{is_among}
use Rattle.tla_token.specs.Words.{is_reserved, is_own, is_standard}
use Rattle.tla_tree.specs.Tree.{Word}
use Rattle.pcal_tree.specs.Names.{with_number, first_free, is_taken}
use Rattle.pcal_tree.proofs.SetLaws.{any_same}
use Rattle.algorithm_limits.specs.Numbers as numbers
use Rattle.algorithm_limits.specs.Numbers.{Numbers, number_of}
use Rattle.algorithm_limits.specs.DepthsIn.{Hides}
use Rattle.algorithm_limits.proofs.Tables.{equal, same_test, number_of_with}
use Rattle.written_names.specs.Giving.{SameNames, TakenFrom, AreTried, IsFound, Known, Knows, Pairs, found, first_of}
use Rattle.written_names.proofs.FirstFree.{numbered_free, plain_free}
use Rattle.written_names.proofs.Given.{first_none}

pub has_is : (names : List Word) (x : Word) → list_any (equal x) names ≡ is_among names x
has_is names x = any_same (equal x) (λ v. bytes_eq v x) (λ v. same_test x v) names

pub none_tried : (names : List Word) → AreTried names []
none_tried names x i p q = absurd (omega arith)

-- one more name is taken
pub hides_among : (old new : List Word) (f : Word) → Hides old new (f ∷ []) → (w : Word) → is_among new w ≡ (bytes_eq f w || is_among old w)
hides_among old new f h w =
    sym (has_is new w) ∙ h.has w ∙ list_any-append (equal w) old (f ∷ []) ∙ by (list_any (equal w) old) (equal w f) (is_among old w) (bytes_eq f w) (has_is old w) (same_test w f)
  where
    by : (a b c d : Bool) → a ≡ c → b ≡ d → (a || (b || false)) ≡ (d || c)
    by true true c d e g = λ i. turn (e i) (g i)
      where
        turn : Bool → Bool → Bool
        turn c d = d || c
    by true false c d e g = λ i. g i || e i
    by false true c d e g = λ i. g i || e i
    by false false c d e g = λ i. g i || e i

pub taken_more : (old new : List Word) (f : Word) → Hides old new (f ∷ []) → (taken : List Word) → SameNames old taken → SameNames new (f ∷ taken)
taken_more old new f h taken s w = hides_among old new f h w ∙ ap (λ c. bytes_eq f w || c) (s w)

still : (old new : List Word) (f : Word) → Hides old new (f ∷ []) → (w : Word) → is_among old w ≡ true → is_among new w ≡ true
still old new f h w e = hides_among old new f h w ∙ by (bytes_eq f w) (is_among old w) e
  where
    by : (a b : Bool) → b ≡ true → (a || b) ≡ true
    by true b e = refl
    by false b e = e

pub tried_still : (old new : List Word) (f : Word) (es : Numbers) → Hides old new (f ∷ []) → AreTried old es → AreTried new es
tried_still old new f es h a x i p q = still old new f h (with_number x i) (a x i p q)

-- its number is the last that was looked at
pub tried_next : (old new : List Word) (x f : Word) (m : ℕ) (es : Numbers) → Hides old new (f ∷ []) → IsFound old x f m → AreTried old es → AreTried new (numbers.with_number es x m)
tried_next old new x f m es h k a y =
    subst (λ n. TakenFrom new y 1 (n + 1)) (sym (number_of_with es x m y)) (by (bytes_eq x y) refl)
  where
    by : (b : Bool) → bytes_eq x y ≡ b → TakenFrom new y 1 (cond b m (number_of es y) + 1)
    by false e = λ i p q. still old new f h (with_number y i) (a y i p q)
    by true e = subst (λ z. TakenFrom new z 1 (m + 1)) ((bytes_eq-Decides x y).0 e) here
      where
        here : TakenFrom new x 1 (m + 1)
        here i p q = or_last (nat_lt i m) refl
          where
            or_last : (b : Bool) → nat_lt i m ≡ b → is_among new (with_number x i) ≡ true
            or_last true l = still old new f h (with_number x i) (k.before i p (ltb-true i m l))
            or_last false l =
                let g = ltb-false i m l in
                let last : m ≡ i = omega (arith, g, q) in
                hides_among old new f h (with_number x i)
                ∙ ap (λ c. c || is_among old (with_number x i)) ((bytes_eq-Decides f (with_number x i)).1 (k.word ∙ ap (with_number x) last))

-- ---- one name is given

module _ (extended taken : List Word) (x : Word) where
  pub given_plain : (old new : Known) → Knows old extended taken → is_taken extended old.names x ≡ false → Hides old.names new.names (x ∷ [])
      → new.sequences ≡ old.sequences → new.tlc ≡ old.tlc → new.tried ≡ old.tried → Knows new extended (first_free extended taken x ∷ taken)
  given_plain old new k t h a b c =
      let e = plain_free extended old.names taken x k.names t in
      record {
        sequences = k.sequences ∙ sym a;
        tlc = k.tlc ∙ sym b;
        names = λ w. taken_more old.names new.names x h taken k.names w ∙ ap (λ v. is_among (v ∷ taken) w) e;
        tried = subst (AreTried new.names) (sym c) (tried_still old.names new.names x old.tried h k.tried);
      }

  pub name_numbered : (old : Known) (f : Word) (m : ℕ) → Knows old extended taken → is_taken extended old.names x ≡ true → IsFound old.names x f m → f ≡ first_free extended taken x
  name_numbered old f m k t g =
      g.word ∙ numbered_free extended old.names taken x m k.names t g.first g.small g.before (ap (is_among old.names) (sym g.word) ∙ g.free)

  pub given_numbered : (old new : Known) (f : Word) (m : ℕ) → Knows old extended taken → is_taken extended old.names x ≡ true → IsFound old.names x f m
      → Hides old.names new.names (f ∷ []) → new.sequences ≡ old.sequences → new.tlc ≡ old.tlc → new.tried ≡ numbers.with_number old.tried x m
      → Knows new extended (first_free extended taken x ∷ taken)
  given_numbered old new f m k t g h a b c =
      let e = name_numbered old f m k t g in
      record {
        sequences = k.sequences ∙ sym a;
        tlc = k.tlc ∙ sym b;
        names = λ w. taken_more old.names new.names f h taken k.names w ∙ ap (λ v. is_among (v ∷ taken) w) e;
        tried = subst (AreTried new.names) (sym c) (tried_next old.names new.names x f m old.tried h g k.tried);
      }

-- ---- the first name of a word is kept

either : (a b : Option Word) → is_some a ≡ true → first_of a b ≡ a
either None b e = cc
either (Some w) b e = refl

pub kept_first : (ps : Pairs) (w f : Word) → is_some (found ps w) ≡ true → (x : Word) → found ps x ≡ first_of (found ps x) (cond (bytes_eq w x) (Some f) None)
kept_first ps w f e x = by (bytes_eq w x) refl
  where
    by : (b : Bool) → bytes_eq w x ≡ b → found ps x ≡ first_of (found ps x) (cond b (Some f) None)
    by true q = sym (either (found ps x) (Some f) (ap (λ v. is_some (found ps v)) (sym ((bytes_eq-Decides w x).0 q)) ∙ e))
    by false q = sym (first_none (found ps x))

pub kept_new : (ps : Pairs) (w f : Word) → is_some (found ps w) ≡ false → (x : Word) → found (insert_entry equal ps w f) x ≡ first_of (found ps x) (cond (bytes_eq w x) (Some f) None)
kept_new [] w f e x = ap (λ c. cond c (Some f) None) (same_test x w)
kept_new (p ∷ ps) w f e x = by (equal w p.0) refl (λ h. kept_new ps w f h x) e
  where
    later : Option Word → Option Word → Bool → Option Word
    later a b c = cond c a b

    past : (c : Bool) (a b : Option Word) → b ≡ first_of a (cond (bytes_eq w x) (Some f) None) → cond c (Some p.1) b ≡ first_of (cond c (Some p.1) a) (cond (bytes_eq w x) (Some f) None)
    past true a b h = refl
    past false a b h = h

    by : (b : Bool) → equal w p.0 ≡ b → (is_some (found ps w) ≡ false → found (insert_entry equal ps w f) x ≡ first_of (found ps x) (cond (bytes_eq w x) (Some f) None))
        → is_some (cond (equal w p.0) (Some p.1) (found ps w)) ≡ false
        → found (if b then (p.0, f) ∷ ps else p ∷ insert_entry equal ps w f) x ≡ first_of (found (p ∷ ps) x) (cond (bytes_eq w x) (Some f) None)
    by true q ih h = absurd (true≢false (sym (ap (λ c. is_some (cond c (Some p.1) (found ps w))) q) ∙ h))
    by false q ih h =
        past (equal x p.0) (found ps x) (found (insert_entry equal ps w f) x) (ih (sym (ap (λ c. is_some (cond c (Some p.1) (found ps w))) q) ∙ h))

-- ---- what is looked up in the set and in the table

pub is_known : (inside now : Known) (f : Word) (b : Bool) → inside ≡ now → b ≡ list_any (equal f) inside.names → is_among now.names f ≡ b
is_known inside now f b e h = sym (ap (λ (k : Known). is_among k.names f) e) ∙ sym (has_is inside.names f) ∙ sym h

pub up_to_number : (inside now : Known) (x : Word) (t : ℕ) → inside ≡ now → t ≡ number_of inside.tried x → AreTried now.names now.tried → TakenFrom now.names x 1 (t + 1)
up_to_number inside now x t e h a = subst (λ n. TakenFrom now.names x 1 (n + 1)) (sym (h ∙ ap (λ (k : Known). number_of k.tried x) e)) (a x)

pub one_more_taken : (names : List Word) (x f : Word) (m : ℕ) → TakenFrom names x 1 m → f ≡ with_number x m → is_among names f ≡ true → TakenFrom names x 1 (m + 1)
one_more_taken names x f m h e t i p q = by (nat_lt i m) refl
  where
    by : (b : Bool) → nat_lt i m ≡ b → is_among names (with_number x i) ≡ true
    by true l = h i p (ltb-true i m l)
    by false l =
        let g = ltb-false i m l in
        let last : i ≡ m = omega (arith, g, q) in
        ap (λ j. is_among names (with_number x j)) last ∙ ap (is_among names) (sym e) ∙ t

pub not_word : (extended names : List Word) (x y : Word) (b c : Bool) → y ≡ x → b ≡ (is_reserved y || is_own y || is_standard extended y) → b ≡ false → c ≡ is_among names x → c ≡ is_taken extended names x
not_word extended names x y b c s e f h =
    h ∙ ap (λ d. d || is_among names x) (sym f ∙ e ∙ ap (λ v. is_reserved v || is_own v || is_standard extended v) s)
