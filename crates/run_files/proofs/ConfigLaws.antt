-- A file of constants, by its items and by the names of the constants.
use Rattle.std.proofs.Common.{◌≡◌, false, true, List, [], length, sym, subst, Result, Err, ℕ}
use Rattle.tla_token.specs.declared.rule.Refusal.{Refusal}
use Rattle.tla_token.specs.declared.rule.Stop.{Stop}
use Rattle.tla_token.specs.declared.rule.Stop.TheVariants.{Refused}
use Rattle.tla_tree.specs.Tree.{Word, Name, words}
use Rattle.tla_value.specs.declared.state.State.{State}
use Rattle.tla_value.specs.States.{Entries}
use Rattle.tla_value.specs.Outside.{Outside}
use Rattle.algorithm_limits.specs.DepthsIn.{Hides}
use Rattle.step_runner.specs.Fronts.{Text, bad_line}
use Rattle.step_runner.specs.Items.{names_of, are_all, NoNewItem, SpellsValues, OffendsAt}
use Rattle.step_runner.specs.Config.{SpellsConfig, ConfigOffends}
use Rattle.run_files.specs.SoFar.{SoFar}
use Rattle.run_files.proofs.ItemLaws.{known_same, whole_values, name_missing, item_missing}

pub same_refusals : {A : Type 0} (q r : Refusal) → ◌≡◌ {A = Result A Stop} (Err (Refused q)) (Err (Refused r)) → q ≡ r
same_refusals q r e = cc

pub from_none : (old known ws : List Word) → old ≡ [] → Hides old known ws → Hides [] known ws
from_none old known ws e h = subst (λ (l : List Word). Hides l known ws) e h

pub config_read : (o : Outside) (cs : List Name) (known : List Word) (x : Text) (es : Entries) → o.constants ≡ cs → Hides [] known (words cs) → SoFar false known x es (length x) → are_all (words cs) (names_of es) ≡ true → SpellsConfig o x es
config_read o cs known x es e h s all =
    subst (λ (ns : List Name). SpellsValues false (words ns) x es) (sym e) (whole_values false known (words cs) x es (known_same known (words cs) h) s all)

refused_at : (o : Outside) (cs : List Name) (x : Text) (at : ℕ) (q r : Refusal) → o.constants ≡ cs → OffendsAt false (words cs) x at → q ≡ bad_line x at → ◌≡◌ {A = Result State Stop} (Err (Refused q)) (Err (Refused r)) → ConfigOffends o x r
refused_at o cs x at q r e f b s =
    (at, subst (λ (ns : List Name). OffendsAt false (words ns) x at) (sym e) f, subst (λ (p : Refusal). p ≡ bad_line x at) (same_refusals q r s) b)

pub config_lacks : (o : Outside) (cs : List Name) (known : List Word) (x : Text) (es : Entries) (q r : Refusal) → o.constants ≡ cs → Hides [] known (words cs) → SoFar false known x es (length x) → are_all (words cs) (names_of es) ≡ false
    → q ≡ bad_line x (length x) → ◌≡◌ {A = Result State Stop} (Err (Refused q)) (Err (Refused r)) → ConfigOffends o x r
config_lacks o cs known x es q r e h s all b f =
    refused_at o cs x (length x) q r e (name_missing false known (words cs) x es (known_same known (words cs) h) s all) b f

pub config_stops : (o : Outside) (cs : List Name) (known : List Word) (x : Text) (es : Entries) (at : ℕ) (q r : Refusal) → o.constants ≡ cs → Hides [] known (words cs) → SoFar false known x es at → NoNewItem false known (names_of es) x at
    → q ≡ bad_line x at → ◌≡◌ {A = Result State Stop} (Err (Refused q)) (Err (Refused r)) → ConfigOffends o x r
config_stops o cs known x es at q r e h s n b f =
    refused_at o cs x at q r e (item_missing false known (words cs) x es at (known_same known (words cs) h) s n) b f
