-- What stands before a refused token can be gone on with: what stands around statements.
use Rattle.std.proofs.Common.{List, [], ◌∷◌, ◌++◌, refl, codes, ◌≡◌, Err, ap, arith}
use Rattle.std.specs.List.{AllByRecursion, flat_map}
use Rattle.tla_token.specs.declared.place.Place.{Place}
use Rattle.tla_token.specs.Places.{nowhere}
use Rattle.tla_tree.specs.Lexical.{TokenView, Token}
use Rattle.tla_tree.specs.Reader.{Reader, Stop}
use Rattle.tla_tree.proofs.SpellAhead.{Ahead, held, put_ahead, then_ahead}
use Rattle.pcal_tree.specs.GrammarParts.{key}
use Rattle.pcal_tree.specs.Grammar.{Fair, unfair, weak, strong, fair, Head, algorithm, fair_algorithm, head, each, Text, Good}
use Rattle.syntax_reading.proofs.Sound.{Sound, here, Any}
use Rattle.syntax_reading.proofs.Mends.{none, Fill, Mends, MendsAt, IsPart, mends_gives, mends_give, mends_done, mends_refuses, mends_after, mends_next, mends_stays, mends_past, part_key, Mend, missing, rule_is, filled, mends_pick_word}
use Rattle.tla_tree.specs.FirstStop.{Open}
use Rattle.pcal_tree.specs.OpenForms as form
use Rattle.pcal_tree.specs.OpenForms.{opens}
use Rattle.syntax_reading.specs.Missing.{Missing, then_misses, all_of}
use Rattle.syntax_reading.specs.MissingRoutines.{a_head, missing_head_words, missing_head_by, missing_head}
use Rattle.syntax_reading.specs.ReadAround.{fair_by, more_of, head_words, head_by, read_head, to_last}
use Rattle.syntax_reading.proofs.SoundAround.{head_sound}
use Rattle.tla_tree.proofs.Mended.{gives_err, left_is}
use Rattle.tla_tree.specs.declared.op.Op.TheVariants as op
use Rattle.tla_tree.specs.Lexical as tk
use Rattle.pcal_tree.specs.Grammar as gr

pub ahead_fair : (f : Fair) → Ahead (fair f)
ahead_fair unfair = held
ahead_fair (weak p) = put_ahead held
ahead_fair (strong p q) = put_ahead (put_ahead held)

pub ahead_head : (x : Head) → Ahead (head x)
ahead_head (algorithm p) = put_ahead held
ahead_head (fair_algorithm p q) = put_ahead (put_ahead held)

pub ahead_each : {A : Type 0} (f : A → List Token → List Token) (Q : A → Type 0) → ((x : A) → Q x → Ahead (f x)) → (xs : List A) → AllByRecursion Q xs → Ahead (each f xs)
ahead_each f Q h [] i = held
ahead_each f Q h (x ∷ xs) i = then_ahead (h x i.0) (ahead_each f Q h xs i.1)

-- one, and those that come after it
pub more_mends : {A : Type 0} {Q : A → Type 0} {put : A → List Token → List Token} {counted : A → List Open} {z : List Token → List Token} {w : List Open} {told : List Token} {n l : Missing} {r : Reader A} {rs : Reader (List A)} → Sound z Q put r → ((a : A) → Q a → Ahead (put a)) → Mends z w Q put counted none 0 12 told n r
    → IsPart (AllByRecursion Q) (each put) (flat_map counted) 0 12 [] l rs → Mends z w (AllByRecursion Q) (each put) (flat_map counted) none 0 12 (told ++ []) (then_misses r n [] (λ x. l)) (more_of r rs)
more_mends s a h i = mends_after (λ ts. ts) [] held s a h (omega arith) (λ x g hx. mends_give (λ xs. x ∷ xs) hx i (omega arith) (λ xs k. (g, k)) (λ xs ts. refl) (λ xs. refl))

pub by_fair_mends : (p : Place) (q : Place) (k : TokenView) → MendsAt q k (λ ts. key p (codes "fair") ts) (form.here 0) Any fair (λ f. form.plain 0 (fair f)) none 0 0 (all_of []) (fair_by p q k)
by_fair_mends p q (tk.sign op.Plus) = mends_done (form.here 0) (strong p q) refl tt (λ ts. refl) refl
by_fair_mends p q k = mends_stays (mends_gives (weak p) tt (λ ts. refl) refl)

some_head : Fill here [] Any head (λ x. form.plain 0 (head x)) none 0 1 (a_head [])
some_head = record { whole = algorithm nowhere; good = tt; fix = a_head []; tokens = λ v. refl; given = refl; back = form.here 0; opens = refl; long = refl; enough = omega arith }

by_head_mends : (p : Place) (k : TokenView) → MendsAt p k here [] Any head (λ x. form.plain 0 (head x)) none 0 1 (missing_head_by p k) (head_by p k)
by_head_mends p (tk.word w) =
    mends_pick_word w missing_head_words (head_words p) (
      refl,
      mends_done (form.here 0) (algorithm p) refl tt (λ ts. refl) refl,
      (refl, mends_past (form.here 0) refl (mends_give (fair_algorithm p) (put_ahead held) (part_key 0 (codes "algorithm")) (omega arith) (λ q u. tt) (λ q ts. refl) (λ q. refl)), tt),
    )
    (mends_stays (mends_refuses held some_head))
by_head_mends p k = mends_stays (mends_refuses held some_head)

pub part_head : IsPart Any head (λ x. form.plain 0 (head x)) 0 1 (a_head []) missing_head read_head
part_head = record { sound = head_sound; ahead = λ a u. ahead_head a; mends = mends_next some_head by_head_mends }

-- past the last token
pub last_mends : (syntax : gr.Syntax) → (x : Text) → gr.Good syntax x → Ahead (gr.spell x) → Mends (gr.spell x) (opens x) (gr.Good syntax) gr.spell opens none 0 16 [] (all_of []) (to_last x)
last_mends syntax x g hx = record { fill = whole; is = at_end }
  where
    whole : Fill (gr.spell x) (opens x) (gr.Good syntax) gr.spell opens none 0 16 []
    whole = filled x g (λ ts. refl) refl

    at_end : (ts : List Token) (u : Stop) → to_last x ts ≡ Err u → Mend (gr.Good syntax) gr.spell opens none 0 16 [] (gr.spell x ts) u
    at_end [] u e = gives_err x [] u e
    at_end (t ∷ ts) u e = missing hx whole (rule_is {A = Text} {ts = t ∷ ts} {u = u} e) (ap (λ (v : List Token). gr.spell x v) (left_is {A = Text} {ts = t ∷ ts} {u = u} e))
