-- What is read is spelled: what stands around statements.
use Rattle.std.proofs.Common.{◌≡◌, List, [], ◌∷◌, Ok, refl, sym, codes}
use Rattle.std.specs.List.{AllByRecursion}
use Rattle.tla_token.specs.declared.place.Place.{Place}
use Rattle.tla_tree.specs.declared.op.Op.TheVariants as op
use Rattle.tla_tree.specs.Lexical.{TokenView, Token}
use Rattle.tla_tree.specs.Lexical as tk
use Rattle.tla_tree.specs.Reader.{Reader, refuses}
use Rattle.tla_tree.proofs.SoundTokens.{ok_is}
use Rattle.pcal_tree.specs.GrammarParts.{key}
use Rattle.pcal_tree.specs.Grammar.{weak, strong, fair, algorithm, fair_algorithm, head, each, Text}
use Rattle.syntax_reading.proofs.Sound.{Sound, SoundAt, here, Any, pick_is, sound_gives, sound_refuses, sound_bind, sound_after, sound_next, sound_stays, sound_past, sound_then, sound_key}
use Rattle.syntax_reading.specs.ReadAround.{fair_by, more_of, head_words, head_by, read_head, to_last}

pub more_sound : {A : Type 0} {Q : A → Type 0} {put : A → List Token → List Token} {y : List Token → List Token} {r : Reader A} {rs : Reader (List A)} → Sound y Q put r → Sound here (AllByRecursion Q) (each put) rs
    → Sound y (AllByRecursion Q) (each put) (more_of r rs)
more_sound h i = sound_after (λ ts. ts) h (λ x g. sound_bind i (λ xs k. sound_gives (x ∷ xs) (g, k) (λ ts. refl)))

pub more_at : {A : Type 0} {p : Place} {k : TokenView} {Q : A → Type 0} {put : A → List Token → List Token} {y : List Token → List Token} {r : Reader A} {rs : Reader (List A)} → SoundAt p k y Q put r → Sound here (AllByRecursion Q) (each put) rs
    → SoundAt p k y (AllByRecursion Q) (each put) (more_of r rs)
more_at h i = sound_then (λ ts. ts) h (λ x g. sound_bind i (λ xs k. sound_gives (x ∷ xs) (g, k) (λ ts. refl)))

pub by_fair_sound : (p q : Place) (k : TokenView) → SoundAt q k (λ ts. key p (codes "fair") ts) Any fair (fair_by p q k)
by_fair_sound p q (tk.sign op.Plus) = sound_past refl (sound_gives (strong p q) tt (λ ts. refl))
by_fair_sound p q k = sound_stays (sound_gives (weak p) tt (λ ts. refl))

pub by_head_sound : (p : Place) (k : TokenView) → SoundAt p k here Any head (head_by p k)
by_head_sound p (tk.word w) =
    pick_is (λ v r. SoundAt p (tk.word v) here Any head r) w (head_words p) refuses
    (sound_past refl (sound_gives (algorithm p) tt (λ ts. refl)), (sound_past refl (sound_bind (sound_key (codes "algorithm")) (λ q u. sound_gives (fair_algorithm p q) tt (λ ts. refl))), tt))
    (sound_stays sound_refuses)
by_head_sound p k = sound_stays sound_refuses

pub head_sound : Sound here Any head read_head
head_sound = sound_next by_head_sound

-- to the last token
pub last_is : (x : Text) (ts : List Token) (y : Text) (us : List Token) → to_last x ts ≡ Ok (y, us) → (x ≡ y) × (ts ≡ []) × (us ≡ [])
last_is x [] y us e = (let w = ok_is e in (w.0, refl, sym w.1))
last_is x (t ∷ ts) y us e = absurd cc
