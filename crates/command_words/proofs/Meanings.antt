-- What words mean, by what clap found of them or refused.
use Rattle.std.proofs.Common.{◌≡◌, inl, inr, true, List, [], ◌∷◌, Option, Some, None, refl, sym, subst, ◌∙◌}
use Rattle.std.specs.Prelude.{option_map, Box}
use Rattle.std.proofs.lemmas.Bool.{false_from_ne_true}
use Rattle.std.proofs.lemmas.Option.{same_Some}
use Rattle.std.specs.Box.{box_value}
use Rattle.clap.specs.Walk.{Text, Row, rows_of, is_empty}
use Rattle.clap.specs.Simple.{App, HasMatchesOf, subcommand_of, subcommand_rows, subcommand_rows_of}
use Rattle.clap.specs.Faults.{is_simple_and_free, fault_of}
use Rattle.clap.specs.Kinds.{Kinds, HasKind}
use Rattle.clap.specs.Values.{kind_of}
use Rattle.clap.specs.Matches.{found_of, subcommand_name_of}
use Rattle.clap.specs.declared.error.Error.{Error}
use Rattle.clap.specs.declared.error.kind.ErrorKind.TheVariants.{OutOfMemory}
use Rattle.clap.specs.declared.parser.matches.ArgMatches.{ArgMatches}
use Rattle.clap.specs.declared.parser.matches.ArgMatches.TheViews.{out-ArgMatches, out-SubCommand}
use Rattle.clap.specs.declared.parser.matches.SubCommand.{SubCommand}
use Rattle.clap.proofs.SimpleLemmas.{is_nil}
use Rattle.command_words.specs.Table.{commands, table}
use Rattle.command_words.specs.Commands.{Command, meaning, meaning_in}

is_free : is_simple_and_free (table commands) ≡ true
is_free = refl

-- the name and the rows of the command that was met
met : (m : ArgMatches) (name : Text) (rows : List Row) → Some name ≡ subcommand_name_of m → Some rows ≡ option_map (λ p. p.1) (subcommand_rows_of m) → subcommand_rows_of m ≡ Some (name, rows)
met m name rows h k = by (out-ArgMatches m).subcommand h k
  where
    by : {Z : Type 0} (o : Option (Box SubCommand Z)) → Some name ≡ option_map (λ b. (out-SubCommand (box_value b)).name.now) o → Some rows ≡ option_map (λ p. p.1) (subcommand_rows o) → subcommand_rows o ≡ Some (name, rows)
    by None h k = absurd cc
    by (Some b) h k =
        let n = sym (same_Some name (out-SubCommand (box_value b)).name.now h) in
        let r = sym (same_Some rows (rows_of (found_of (out-SubCommand (box_value b)).matches)) k) in
        (λ i. Some (n i, r i))

pub meant_by : (a : App) (ws : List Text) (m : ArgMatches) (name : Text) (rows : List Row) (o : Option Command) → a ≡ table commands → (is_simple_and_free a ≡ true → fault_of a ws ≡ []) → HasMatchesOf a ws m
    → Some name ≡ subcommand_name_of m → Some rows ≡ option_map (λ p. p.1) (subcommand_rows_of m) → o ≡ meaning_in (name, rows) → o ≡ meaning commands ws
meant_by a ws m name rows o e f h n r k =
    let none : fault_of (table commands) ws ≡ [] = subst (λ (a : App). is_simple_and_free a ≡ true → fault_of a ws ≡ []) e f is_free in
    let there : HasMatchesOf (table commands) ws m = subst (λ (a : App). HasMatchesOf a ws m) e h in
    let found : subcommand_of (table commands) ws ≡ Some (name, rows) = sym (there refl).1 ∙ met m name rows n r in
    k ∙ rw (none, found) refl

pub refused : (a : App) (ws : List Text) (e : Error) → a ≡ table commands → (is_simple_and_free a ≡ true → HasKind (fault_of a ws) e) → (kind_of e ≡ OutOfMemory → ⊥) → None ≡ meaning commands ws
refused a ws e is h other = by (fault_of (table commands) ws) refl (subst (λ (a : App). is_simple_and_free a ≡ true → HasKind (fault_of a ws) e) is h is_free)
  where
    by : (ks : Kinds) → fault_of (table commands) ws ≡ ks → HasKind ks e → None ≡ meaning commands ws
    by [] f (inl k) = absurd (other k)
    by [] f (inr k) = absurd k
    by (x ∷ xs) f k = rw (f, false_from_ne_true (is_empty (x ∷ xs)) (λ t. (let e : x ∷ xs ≡ [] = is_nil (x ∷ xs) t in absurd cc))) refl
