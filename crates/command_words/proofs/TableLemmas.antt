-- One part more of a command is one rule more.
use Rattle.std.proofs.Common.{◌≡◌, ℕ, ◌+◌, ◌<◌, List, [], ◌∷◌, ◌++◌, length, take, map, get_or, sym, ap, ◌∙◌}
use Rattle.std.proofs.lemmas.List.{take_more, map-append}
use Rattle.clap.specs.Walk.{Rule, Text}
use Rattle.clap.specs.Simple.{App, with_rule}
use Rattle.command_words.specs.Table.{command}
use Rattle.command_words.specs.Meant.{alone}
use Rattle.command_words.specs.TableParts.{rule_of}
use Rattle.command_words.specs.declared.table.Part.{Part}

pub one_more : (a b : App) (name : Text) (ps : List Part) (i : ℕ) (d : Part) → i < length ps → a ≡ alone (command name (map rule_of (take i ps))) → b ≡ with_rule a (rule_of (get_or ps i d))
    → b ≡ alone (command name (map rule_of (take (i + 1) ps)))
one_more a b name ps i d lt h e =
    let whole : map rule_of (take (i + 1) ps) ≡ map rule_of (take i ps) ++ rule_of (get_or ps i d) ∷ [] = ap (map rule_of) (take_more ps i d lt) ∙ map-append rule_of (take i ps) (get_or ps i d ∷ []) in
    e ∙ ap (λ (x : App). with_rule x (rule_of (get_or ps i d))) h ∙ ap (λ (rs : List Rule). alone (command name rs)) (sym whole)
