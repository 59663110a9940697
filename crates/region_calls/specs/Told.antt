-- What is told of what was read, in memory: it means what the form means, and its numbers are of the pool.
use Rattle.std.specs.Prelude.{◌≡◌, ℕ, List, length, Option, Some}
use Rattle.std.specs.Option.{option_map}
use Rattle.tla_token.specs.declared.place.Place.{Place}
use Rattle.tla_tree.specs.declared.op.Op.TheVariants as op
use Rattle.tla_tree.specs.Tree.{Tree, Word}
use Rattle.tla_tree.specs.Pool.{at}
use Rattle.tla_tree.specs.Lexical as tk
use Rattle.tla_tree.specs.Spelling.{Phrase}
use Rattle.tla_tree.specs.Reader.{Reader, ◌>>=◌, gives, a_mark, a_sign, a_word}
use Rattle.module_tree.specs.Grammar.{CallForm, call_of, WayForm, some_form, way_of}
use Rattle.module_tree.specs.Units.{OverForm, over_of, GuardForm, guard_of, FairForm, fairness_of, SpecForm, start_line, steps_line, fair_line}
use Rattle.module_write.specs.InMemory.{call_at, CallIn, way_at, WayIn, over_at, OverIn, MaybeIn, fairness_at, FairnessIn}
use Rattle.module_write.specs.declared.«module».Call.{Call}
use Rattle.module_write.specs.declared.«module».Way.{Way}
use Rattle.module_write.specs.declared.«module».Fairness.{Fairness}
use Rattle.region_reading.specs.Bound.{Bound, a_phrase}
use Rattle.region_reading.specs.CallReader.{call_in}
use Rattle.region_items.specs.Stand.{IsTree}
use Rattle.region_calls.specs.declared.fairness.SpecLine.{SpecLine}
use Rattle.region_calls.specs.declared.fairness.SpecLine.TheVariants as line

pub record IsCall (ts : List Tree) (c : Call) (f : CallForm) : Type 0 where
  pub below : CallIn (length ts) c
  pub call : call_at ts c ≡ call_of f

pub record IsWay (ts : List Tree) (w : Way) (f : WayForm) : Type 0 where
  pub below : WayIn (length ts) w
  pub way : way_at ts w ≡ way_of f

-- `\A x \in S :`, if it is there
pub record IsOver (ts : List Tree) (x : Option (Word × ℕ)) (f : Option OverForm) : Type 0 where
  pub below : OverIn (length ts) x
  pub over : over_at ts x ≡ over_of f

-- `(e) /\`, if it is there
pub record IsGuard (ts : List Tree) (x : Option ℕ) (f : Option GuardForm) : Type 0 where
  pub below : MaybeIn (length ts) x
  pub guard : option_map (at ts) x ≡ guard_of f

pub record IsFair (ts : List Tree) (x : Fairness) (f : FairForm) : Type 0 where
  pub below : FairnessIn (length ts) x
  pub fair : fairness_at ts x ≡ fairness_of f

abbrev pub IsSpec : List Tree → SpecLine → SpecForm → Type 0
IsSpec ts line.Start (start_line p) = Unit {0}
IsSpec ts line.Steps (steps_line p q s t u) = Unit {0}
IsSpec ts (line.Fair x) (fair_line f) = IsFair ts x f
IsSpec ts x f = ⊥

-- ---- x \in S :
pub record AmongForm : Type 0 where
  pub at : Place
  pub name : Word
  pub in_at : Place
  pub set : Phrase
  pub colon : Place

abbrev pub among_in : Bound → ℕ → Reader AmongForm
among_in m e = a_word e >>= λ x. a_sign e op.In >>= λ s. a_phrase m e >>= λ a. a_mark e tk.colon >>= λ t. gives (record { at = x.0; name = x.1; in_at = s; set = a; colon = t })

-- the name, and the number of the set
pub record IsAmong (ts : List Tree) (x : Word × ℕ) (f : AmongForm) : Type 0 where
  pub name : x.0 ≡ f.name
  pub set : IsTree ts x.1 f.set

-- ---- behind the first token of a form
abbrev pub some_way : Place → AmongForm → CallForm → WayForm
some_way p f u = some_form p f.at f.name f.in_at f.set f.colon u

abbrev pub behind_exists : Bound → ℕ → Place → Reader WayForm
behind_exists m e p = among_in m e >>= λ f. call_in m e >>= λ u. gives (some_way p f u)

abbrev pub guard_form : Place → Phrase → Place → Place → GuardForm
guard_form p a q s = record { left = p; test = a; right = q; and_at = s }

abbrev pub behind_bracket : Bound → ℕ → Place → Reader (Option GuardForm)
behind_bracket m e p = a_phrase m e >>= λ a. a_mark e tk.close_bracket >>= λ q. a_sign e op.And >>= λ s. gives (Some (guard_form p a q s))
