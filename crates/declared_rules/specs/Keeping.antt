-- What is kept of macros and procedures says what calls of them offend.
use Rattle.std.specs.Prelude.{◌≡◌, ◌==◌, List, [], ◌∷◌, Bool, true, cond, bytes_eq, codes, Option, Some, None}
use Rattle.std.specs.Map.{lookup}
use Rattle.std.specs.Cmp.Lexicographic.{pointwise}
use Rattle.tla_token.specs.declared.rule.Refusal.{Refusal}
use Rattle.tla_token.specs.Signs.{is_among}
use Rattle.tla_tree.specs.Tree.{Word, Name, Trees}
use Rattle.module_outside.specs.ModulesIn.{AreModules}
use Rattle.pcal_tree.specs.Algorithm.{Procedure}
use Rattle.pcal_tree.specs.Offences.{first}
use Rattle.pcal_tree.specs.OffencesRebind.{Standings, Piece, any_name, Calls, call_rebinds, putting_in}
use Rattle.declared_rules.specs.declared.sight.Sight.{Sight}
use Rattle.declared_rules.specs.declared.bind_walk.Walk.{Walk}
use Rattle.declared_rules.specs.declared.kept.Kept.{Kept}
use Rattle.declared_rules.specs.declared.kept.Keeps.{Keeps}
use Rattle.declared_rules.specs.declared.kept.Calls as declared
use Rattle.declared_rules.specs.Telling.{told, Lets}

-- what the argument brings that is put in for x
abbrev pub argument_of : List Name → List (List Piece) → Word → Option (List Piece)
argument_of (p ∷ ps) (a ∷ others) x = cond (bytes_eq p.word x) (Some a) (argument_of ps others x)
argument_of _ _ x = None

abbrev pub Within : List Word → List Word → Type 0
Within ys xs = (x : Word) → is_among xs x ≡ true → is_among ys x ≡ true

abbrev pub kept_by : Keeps → Word → Option Kept
kept_by ks x = lookup (pointwise ◌==◌ x) ks.kept.entries

-- what a call offends, by what is kept
abbrev pub kept_tells : List Word → Option Kept → Standings → Trees → List Refusal
kept_tells ms None s ts = []
kept_tells ms (Some d) s ts = told ms d.found (putting_in d.params.items ts s s)

-- these are the offences of each call, where text is put in for these names alone
abbrev pub Means : Sight → List Word → Keeps → (List Word → Calls) → Type 0
Means g P ks C =
    (ms : List Word) → AreModules g.modules ms → (s : Standings) → Lets any_name P s → (x : Word) (ts : Trees) → first (kept_tells ms (kept_by ks x) s ts) ≡ first (C ms s x ts)

pub record Knows (g : Sight) (ks : Keeps) (C : List Word → Calls) : Type 0 where
  pub names : List Word
  pub within : Within names g.stands
  pub means : Means g names ks C

pub record KnowsCalls (g : Sight) (k : declared.Calls) (C : List Word → Calls) (ps : List Procedure) : Type 0 where
  pub macros : Knows g k.macros C
  pub process : k.process ≡ codes "self"
  pub procedures : Knows g k.procedures (λ ms s x ts. call_rebinds ms ps x s)

-- what was found in a text tells its offences, wherever the text is
abbrev pub Tells : Sight → (Word → Bool) → Walk → (List Word → Standings → List Refusal) → Type 0
Tells g K w f = (ms : List Word) (s : Standings) → AreModules g.modules ms → Lets K g.stands s → first (told ms w s) ≡ first (f ms s)
