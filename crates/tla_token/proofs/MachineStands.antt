-- What a state of the machine stands for: bytes that were fed and are in no part yet. A byte where nothing is open.
use Rattle.std.proofs.Common.{◌≡◌, ℕ, suc, ◌+◌, Bool, true, false, not, ◌&&◌, ◌||◌, nat_eq, List, [], ◌∷◌, ◌++◌, length, map, Option, Some, None, is_some, refl, sym, ap, ◌∙◌, arith, append_assoc}
use Rattle.std.specs.List.{list_all, list_any}
use Rattle.std.proofs.lemmas.Bool.{and_from, or_left, eqb-true}
use Rattle.tla_token.specs.declared.part.Part as code
use Rattle.tla_token.specs.Lexemes.{is_word, is_letter, is_digit, is_blank, unquoted, behind_backslash}
use Rattle.tla_token.specs.Tokens.{blank, opens_comment}
use Rattle.tla_token.specs.Offences.{Part, sound, part_bytes, PartFits, string_len, escape_len}
use Rattle.tla_token.specs.Cut.{plus, comment_len}
use Rattle.tla_token.specs.Scan.{outline}
use Rattle.tla_token.specs.Feeding.{is_settled}
use Rattle.tla_token.specs.laws.Machine.{outlines, Open, fresh, mark, wordless, word, back, text, block, line, State, only, marks, Step, given, begun}
use Rattle.tla_token.proofs.Parted.{some_part, fits_first, parts_step}

-- ---- strings and comments, by what is still to come

abbrev pub len_behind : Bool → List ℕ → ℕ
len_behind true t = escape_len t
len_behind false t = string_len t

abbrev pub good_behind : Bool → List ℕ → Bool
good_behind true t = is_some (behind_backslash t)
good_behind false t = is_some (unquoted t)

abbrev pub last_byte : Option ℕ → List ℕ
last_byte None = []
last_byte (Some a) = a ∷ []

pub record Texts (n : ℕ) (good escaped : Bool) (w : List ℕ) : Type 0 where
  pub raw : List ℕ
  pub is : w ≡ 34 ∷ raw
  pub size : n ≡ suc (length raw)
  pub len : (t : List ℕ) → string_len (raw ++ t) ≡ length raw + len_behind escaped t
  pub means : (t : List ℕ) → is_some (unquoted (raw ++ t)) ≡ (good && good_behind escaped t)

pub record Blocks (n d : ℕ) (last : Option ℕ) (w : List ℕ) : Type 0 where
  pub body : List ℕ
  pub is : w ≡ 40 ∷ 42 ∷ body
  pub size : n ≡ suc (suc (length body))
  pub done : ℕ
  pub split : length body ≡ done + length (last_byte last)
  pub len : (t : List ℕ) → comment_len 1 (body ++ t) ≡ plus done (comment_len (suc d) (last_byte last ++ t))

pub record Lines (n : ℕ) (w : List ℕ) : Type 0 where
  pub body : List ℕ
  pub is : w ≡ 92 ∷ 42 ∷ body
  pub size : n ≡ suc (suc (length body))
  pub all : list_all (λ b. not (nat_eq b 10)) body ≡ true

-- ---- states

abbrev pub Holds : Open → List ℕ → Type 0
Holds fresh w = w ≡ []
Holds (mark a) w = (w ≡ a ∷ []) × (nat_eq a 34 ≡ false) × (is_word a ≡ false) × (nat_eq a 92 ≡ false)
Holds (wordless v) w = (w ≡ v) × (list_all is_word v ≡ true)
Holds (word n) w = (n ≡ length w) × (list_all is_word w ≡ true) × (list_any is_letter w ≡ true)
Holds (back v) w = (w ≡ 92 ∷ v) × (list_all is_word v ≡ true)
Holds (text n good escaped) w = Texts n good escaped w
Holds (block n d last) w = Blocks n d last w
Holds (line n) w = Lines n w

abbrev pub Stands : State → List ℕ → Type 0
Stands (only s) w = Holds s w
Stands (marks a c) w = (w ≡ a ∷ c ∷ []) × (nat_eq a 34 ≡ false) × (opens_comment (a ∷ c ∷ []) ≡ false) × ((b : ℕ) → is_settled (a ∷ c ∷ b ∷ []) ≡ true)

-- from these bytes the machine goes so: whatever comes, the parts that it gives are in front, before those from the bytes for which its state stands
pub record Goes (w : List ℕ) (r : Step) : Type 0 where
  pub pending : List ℕ
  pub stands : Stands r.1 pending
  pub seen : (t : List ℕ) → outlines (w ++ t) ≡ r.0 ++ outlines (pending ++ t)

pub waits : (w : List ℕ) (s : State) → Stands s w → Goes w ([], s)
waits w s h = record { pending = w; stands = h; seen = λ t. refl }

-- what comes goes on after parts that are decided
pub joins : (u v p : List ℕ) (ps : List code.Part) (r : Step) → ((t : List ℕ) → outlines (u ++ (v ++ t)) ≡ ps ++ outlines (p ++ (v ++ t))) → Goes (p ++ v) r → Goes (u ++ v) (given ps r)
joins u v p ps r e g =
    record {
      pending = g.pending;
      stands = g.stands;
      seen = λ t.
          ap outlines (append_assoc u v t)
          ∙ e t
          ∙ ap (λ (x : List ℕ). ps ++ outlines x) (sym (append_assoc p v t))
          ∙ ap (λ (qs : List code.Part). ps ++ qs) (g.seen t)
          ∙ sym (append_assoc ps r.0 (outlines (g.pending ++ t)));
    }

-- a part that fits is the first one
pub first_off : (x : Part) (t : List ℕ) → PartFits x t → outlines (part_bytes x ++ t) ≡ outline x ∷ outlines t
first_off x t f = ap (map outline) (parts_step x (part_bytes x) t refl (fits_first x t f) (some_part x t f))

-- ---- a byte where nothing is open

begin_text : (b : ℕ) → b ≡ 34 → Texts 1 true false (b ∷ [])
begin_text b e = record { raw = []; is = ap (λ (c : ℕ). c ∷ []) e; size = refl; len = λ t. omega arith; means = λ t. refl }

pub letter_word : (b : ℕ) → is_letter b ≡ true → is_word b ≡ true
letter_word b h = or_left (is_letter b || is_digit b) (nat_eq b 95) (or_left (is_letter b) (is_digit b) h)

pub begun_goes : (b : ℕ) → Goes (b ∷ []) (begun b)
begun_goes b = by (is_blank b) refl (nat_eq b 34) refl (is_letter b) refl (is_word b) refl (nat_eq b 92) refl
  where
    by : (i : Bool) → is_blank b ≡ i → (j : Bool) → nat_eq b 34 ≡ j → (k : Bool) → is_letter b ≡ k → (l : Bool) → is_word b ≡ l → (m : Bool) → nat_eq b 92 ≡ m → Goes (b ∷ []) (begun b)
    by true i j jj k kk l ll m mm = rw i (record { pending = []; stands = refl; seen = λ t. first_off (sound (blank b)) t i })
    by false i true j k kk l ll m mm = rw (i, j) (waits (b ∷ []) (only (text 1 true false)) (begin_text b (eqb-true b 34 j)))
    by false i false j true k l ll m mm = rw (i, j, k) (waits (b ∷ []) (only (word 1)) (refl, and_from (is_word b) true (letter_word b k) refl, or_left (is_letter b) false k))
    by false i false j false k true l m mm = rw (i, j, l, k) (waits (b ∷ []) (only (wordless (b ∷ []))) (refl, and_from (is_word b) true l refl))
    by false i false j false k false l true m = rw (i, j, l, k, m) (waits (b ∷ []) (only (back [])) (ap (λ (c : ℕ). c ∷ []) (eqb-true b 92 m), refl))
    by false i false j false k false l false m = rw (i, j, l, k, m) (waits (b ∷ []) (only (mark b)) (refl, j, l, m))

-- where w ends before b, this begins anew
pub then_begun : (w : List ℕ) (b : ℕ) (ps : List code.Part) → ((t : List ℕ) → outlines (w ++ b ∷ t) ≡ ps ++ outlines (b ∷ t)) → Goes (w ++ b ∷ []) (given ps (begun b))
then_begun w b ps e = joins w (b ∷ []) [] ps (begun b) e (begun_goes b)
