-- Worked rows of how processes begin and of whole algorithms, by computation, with bodies that are one word.
use Rattle.std.proofs.Common.{◌≡◌, refl, ℕ, true, false, [], ◌∷◌, Some, None, Ok, Err, codes}
use Rattle.tla_token.specs.declared.place.Place.{Place}
use Rattle.tla_token.specs.declared.rule.Rule.TheVariants.{Syntax}
use Rattle.tla_tree.specs.declared.op.Op.TheVariants as op
use Rattle.tla_tree.specs.Tree.{Word}
use Rattle.tla_tree.specs.Lexical.{Token, token}
use Rattle.tla_tree.specs.Lexical as tk
use Rattle.tla_tree.specs.Spelling as spelled
use Rattle.tla_tree.specs.Reader.{◌>>=◌, gives, refuses, readers, readers_in}
use Rattle.pcal_tree.specs.declared.mark.Fairness.TheVariants as fairness
use Rattle.pcal_tree.specs.GrammarParts as part
use Rattle.pcal_tree.specs.GrammarP.{simple, last_statement}
use Rattle.pcal_tree.specs.Grammar.{unfair, weak, strong, bare, begin_end, no_define, processes, algorithm, to_end}
use Rattle.pcal_tree.specs.Grammar as g
use Rattle.syntax_reading.specs.TokenReaders.{past, a_key, a_name, Parts, parts_of}
use Rattle.syntax_reading.specs.ReadParts.{bind_by}
use Rattle.syntax_reading.specs.ReadRoutines.{Ways}
use Rattle.algorithm_reader.specs.RoutinesRead.{is_plain, identity_tree, read_beginning, beginning_fairness, read_main_processes}
use Rattle.syntax_reading.specs.ReadWhole.{Frames, read_whole}

abbrev at : ℕ → Place
at k = record { line = 1; col = k }

abbrev word : ℕ → Word → Token
word k x = token (at k) (tk.word x)

abbrev key : ℕ → Word → Token
key k x = token (at k) (tk.reserved x)

abbrev parts : Parts
parts = parts_of (readers 40 None)

-- a body is `skip` alone
abbrev skips : ℕ → g.Body
skips k = begin_end (at k) (last_statement part.no_labels (simple (part.skip (at k))) None) (at k) (at k) None

abbrev ways : Ways
ways = record {
  body = λ n w. a_key (codes "skip") >>= λ p. gives (begin_end p (last_statement part.no_labels (simple (part.skip p)) None) p p None);
  identity = a_name >>= λ x. past bind_by >>= λ b. parts.expr >>= λ e. gives (bare x b.0 b.1 e);
  define = λ n p. refuses;
}

abbrev frames : Frames
frames = record { opening = gives (at 0); main = read_main_processes parts ways; closing = λ p. a_key (codes "end") >>= λ q. gives (to_end p q) }

-- ---- a word that isn't reserved, and one that is
plain : is_plain (codes "--fair") (tk.word (codes "--fair")) ≡ true
plain = refl

not_plain : is_plain (codes "fair") (tk.reserved (codes "fair")) ≡ false
not_plain = refl

-- ---- process; fair+ process; begin; fair with no process behind it
one : read_beginning (key 1 (codes "process") ∷ word 9 (codes "p") ∷ []) ≡ Ok (Some (unfair, at 1), word 9 (codes "p") ∷ [])
one = refl

fairest : read_beginning (key 1 (codes "fair") ∷ token (at 5) (tk.sign op.Plus) ∷ key 7 (codes "process") ∷ []) ≡ Ok (Some (strong (at 1) (at 5), at 7), [])
fairest = refl

fairest_is : beginning_fairness (Some (strong (at 1) (at 5), at 7)) ≡ Some fairness.Strong
fairest_is = refl

none : read_beginning (key 1 (codes "begin") ∷ []) ≡ Ok (None, key 1 (codes "begin") ∷ [])
none = refl

no_process : read_beginning (key 1 (codes "fair") ∷ key 6 (codes "begin") ∷ []) ≡ Err (Syntax, key 6 (codes "begin") ∷ [])
no_process = refl

-- ---- p \in S is several
several : identity_tree (bare (spelled.named (at 1) (codes "p")) true (at 3) (spelled.name (at 7) (codes "S"))) ≡ (spelled.named (at 1) (codes "p"), true, spelled.tree_of (spelled.name (at 7) (codes "S")))
several = refl

-- ---- one process at least
no_processes : read_main_processes parts ways 9 (key 1 (codes "begin") ∷ []) ≡ Err (Syntax, key 1 (codes "begin") ∷ [])
no_processes = refl

-- --algorithm A process p = S skip end
whole : read_whole parts ways frames 9 (word 1 (codes "--algorithm") ∷ word 13 (codes "A") ∷ key 15 (codes "process") ∷ word 23 (codes "p") ∷ token (at 25) (tk.sign op.Equal) ∷ word 27 (codes "S") ∷ key 29 (codes "skip") ∷ key 34 (codes "end") ∷ [])
    ≡ Ok (
      record {
        head = algorithm (at 1);
        name = spelled.named (at 13) (codes "A");
        around = to_end (at 0) (at 34);
        variables = part.no_section;
        define = no_define;
        macros = [];
        procedures = [];
        main = processes (record { fair = unfair; place = at 15; identity = bare (spelled.named (at 23) (codes "p")) false (at 25) (spelled.name (at 27) (codes "S")); variables = part.no_section; body = skips 29 }) [];
      },
      [],
    )
unfolding readers_in
whole = refl
