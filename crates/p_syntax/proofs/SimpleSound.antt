-- The tokens of a statement with no statements in it are those that were read, at least one.
use Rattle.std.proofs.Common.{◌≡◌, ℕ, ◌<◌, ◌≤◌, List, [], ◌∷◌, ◌++◌, length, length-append, Ok, refl, sym, ap, ◌∙◌, arith}
use Rattle.tla_token.specs.declared.place.Place.{Place}
use Rattle.tla_token.specs.declared.token.Tokens.{Tokens}
use Rattle.tla_tree.specs.Spelling.{Phrase, spell}
use Rattle.tla_tree.proofs.SpellAppend.{spell_then}
use Rattle.expr_nodes.specs.Ahead.{ahead}
use Rattle.tla_tree.specs.Lexical.{TokenView, Token}
use Rattle.tla_tree.specs.Lexical as tk
use Rattle.tla_tree.specs.Reader.{refuses}
use Rattle.pcal_tree.specs.GrammarParts.{Assignments, last_assignment, assignment, assignments, Simple, simple_tokens, GoodSimple}
use Rattle.pcal_tree.specs.GrammarParts as g
use Rattle.syntax_reading.specs.TokenReaders.{Parts}
use Rattle.syntax_reading.specs.ReadSimple.{simple_words}
use Rattle.syntax_reading.proofs.Sound.{Sound, SoundAt, here, sound_refuses, sound_next, sound_stays, sound_past, sound_pick}
use Rattle.syntax_reading.proofs.SoundParts.{SoundParts}
use Rattle.syntax_reading.proofs.SoundSimple.{named_sound, words_sound}
use Rattle.algorithm_reader.specs.SimpleRead.{simple_by, simple_reader}
use Rattle.algorithm_reader.proofs.Between.{ahead_length}
use Rattle.p_reading.proofs.Ends.{simple_puts}

module _ (m : Parts) (h : SoundParts m) where
  by_simple_sound : (n : ℕ) (p : Place) (k : TokenView) → SoundAt p k here GoodSimple simple_tokens (simple_by m n p k)
  by_simple_sound n p (tk.word x) = sound_past refl (sound_next (λ q k. sound_stays (named_sound m h n (record { place = p; word = x }) q k)))
  by_simple_sound n p (tk.reserved w) = sound_pick w (simple_words m p) refuses (words_sound m h p) (sound_stays sound_refuses)
  by_simple_sound n p k = sound_stays sound_refuses

  simple_sound : (n : ℕ) → Sound here GoodSimple simple_tokens (simple_reader m n)
  simple_sound n = sound_next (by_simple_sound n)

  pub simple_between : (n : ℕ) (ts us : List Token) (s : Simple) → simple_reader m n ts ≡ Ok (s, us) → ts ≡ simple_tokens s [] ++ us
  simple_between n ts us s e = sym ((simple_sound n).is ts s us e).1 ∙ sym (simple_puts s [] us)

-- it has a token
spelled_some : (e : Phrase) (t : Token) (r : List Token) → 1 ≤ length (spell e (t ∷ r))
spelled_some e t r = omega (arith, ap length (spell_then e (t ∷ r)), length-append (spell e []) (t ∷ r))

assignments_some : (ms : Assignments) → 1 ≤ length (assignments ms [])
assignments_some (last_assignment l p e) = spelled_some l _ _
assignments_some (assignment l p e q ms) = spelled_some l _ _

simple_some : (s : Simple) → 1 ≤ length (simple_tokens s [])
simple_some (g.assign ms) = assignments_some ms
simple_some (g.await p e) = omega arith
simple_some (g.when p e) = omega arith
simple_some (g.print p e) = omega arith
simple_some (g.assert p e) = omega arith
simple_some (g.skip p) = omega arith
simple_some (g.goto p x) = omega arith
simple_some (g.call p x xs) = omega arith
simple_some (g.return p) = omega arith
simple_some (g.macro x xs) = omega arith

-- so what reads one goes further
pub simple_further : (v : Tokens) (i j : ℕ) (s : Simple) → i ≤ length v.items.items → j ≤ length v.items.items → ahead v i ≡ simple_tokens s [] ++ ahead v j → i < j
simple_further v i j s h k e = omega (arith, ahead_length v i h, ahead_length v j k, ap length e, length-append (simple_tokens s []) (ahead v j), simple_some s)
