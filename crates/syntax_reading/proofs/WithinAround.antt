-- What was read within the limits can be gone on with within them: what stands around statements.
use Rattle.std.proofs.Common.{List, [], ◌++◌, refl, append_assoc, codes, ◌≡◌, ◌∷◌, Err, ap}
use Rattle.std.specs.List.{AllByRecursion, flat_map}
use Rattle.tla_token.specs.declared.place.Place.{Place}
use Rattle.tla_token.specs.Places.{nowhere}
use Rattle.tla_tree.specs.Lexical.{TokenView, Token}
use Rattle.tla_tree.specs.Reader.{Reader, refuses, Stop}
use Rattle.tla_tree.specs.FirstStop.{Open}
use Rattle.tla_tree.proofs.SpellAhead.{held, put_ahead, Ahead}
use Rattle.pcal_tree.specs.GrammarParts.{word, key}
use Rattle.pcal_tree.specs.Grammar.{weak, strong, fair, algorithm, fair_algorithm, head, each, Text, Good}
use Rattle.pcal_tree.specs.OpenForms.{here, plain, opens}
use Rattle.syntax_reading.proofs.Sound.{Any, pick_is}
use Rattle.syntax_reading.proofs.Beside.{sits}
use Rattle.syntax_reading.proofs.Within.{before, Filled, EndsAt, Part, fits_of, ends_gives, ends_refuses, ends_bind, ends_next, ends_stays, ends_past, key_part, Ending, Ends, here_filled, missing_end}
use Rattle.syntax_reading.specs.ReadAround.{fair_by, head_words, head_by, read_head, to_last}
use Rattle.syntax_reading.proofs.SoundAround.{head_sound}
use Rattle.syntax_reading.proofs.MendAround.{ahead_head}
use Rattle.syntax_reading.proofs.BesideAround.{head_beside}
use Rattle.tla_tree.proofs.Mended.{gives_err, left_is}
use Rattle.tla_tree.specs.declared.op.Op.TheVariants as op
use Rattle.tla_tree.specs.Lexical as tk
use Rattle.pcal_tree.specs.Grammar as gr

abbrev pub Every : {A : Type 0} → (A → Type 0) → (A → List Token → List Token) → (A → List Open) → Reader (List A) → Type 0
Every Q put f rs = (z : List Open) → Part (AllByRecursion Q) (each put) z (λ xs. z ++ flat_map f xs) rs

pub some_head : Filled before Any head [] (λ h. plain 0 (head h))
some_head = record { whole = algorithm nowhere; good = tt; more = here 0; counts = refl; fix = word nowhere (codes "--algorithm") []; long = refl; tokens = λ v. refl }

pub by_head : (p : Place) (k : TokenView) → EndsAt p k before Any head [] (λ h. plain 0 (head h)) (head_by p k)
by_head p (tk.word w) =
    pick_is (λ v r. EndsAt p (tk.word v) before Any head [] (λ h. plain 0 (head h)) r) w (head_words p) refuses
    (ends_past 0 sits refl (ends_gives (algorithm p) tt (λ ts. refl) refl), (ends_past 0 sits refl (ends_bind (put_ahead held) (key_part 0 sits (codes "algorithm")) (λ q u h. ends_gives (fair_algorithm p q) tt (λ ts. refl) refl)), tt))
    (ends_stays (ends_refuses held some_head))
by_head p k = ends_stays (ends_refuses held some_head)

pub head_part : Part Any head [] (λ h. plain 0 (head h)) read_head
head_part = record { sound = head_sound; ahead = λ a u. ahead_head a; fits = fits_of head_beside; ends = ends_next some_head by_head }

pub by_fair : (p q : Place) (k : TokenView) (y : List Open) → EndsAt q k (λ ts. key p (codes "fair") ts) Any fair (y ++ here 0) (λ f. y ++ plain 0 (fair f)) (fair_by p q k)
by_fair p q (tk.sign op.Plus) y = ends_past 0 sits refl (ends_gives (strong p q) tt (λ ts. refl) (simp append_assoc refl))
by_fair p q k y = ends_stays (ends_gives (weak p) tt (λ ts. refl) refl)

-- past the last token
pub last_ends : (syntax : gr.Syntax) → (x : Text) → gr.Good syntax x → Ahead (gr.spell x) → Ends (gr.spell x) (gr.Good syntax) gr.spell (opens x) opens (to_last x)
last_ends syntax x g hx = record { fill = here_filled x g (λ ts. refl) refl; is = at_end }
  where
    at_end : (ts : List Token) (u : Stop) → to_last x ts ≡ Err u → Ending (gr.Good syntax) gr.spell (opens x) opens (gr.spell x ts) u
    at_end [] u i = gives_err x [] u i
    at_end (t ∷ ts) u i = missing_end (λ v. gr.spell x v) hx (here_filled x g (λ ts. refl) refl) (ap (λ (v : List Token). gr.spell x v) (left_is {A = Text} {ts = t ∷ ts} {u = u} i))
