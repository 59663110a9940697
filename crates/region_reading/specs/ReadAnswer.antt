-- What reading a module answers: the module that a text is, where no more forms are open in it than may be; else why there is none, at the text's beginning.
use Rattle.std.specs.Prelude.{◌≡◌, ◌≤◌, ◌⊎◌, false}
use Rattle.tla_token.specs.declared.place.Place.{Place}
use Rattle.tla_token.specs.declared.rule.Rule.TheVariants.{TooDeep, Syntax}
use Rattle.tla_token.specs.declared.rule.Refusal.{Refusal}
use Rattle.tla_tree.specs.Nesting.{nesting_in, deepest_in_module}
use Rattle.module_tree.specs.TextFront.{Text}
use Rattle.module_tree.specs.Module.{Module}
use Rattle.module_tree.specs.Reading.{Reads}
use Rattle.region_reading.specs.Opens.{TextOpens}
use Rattle.region_reading.specs.Nests.{region_nests}

-- where a text begins
abbrev pub beginning : Place
beginning = record { line = 1; col = 1 }

-- neither the text of the translation nor its tree nests too deep
abbrev pub IsWithin : Text → Module → Type 0
IsWithin w m = TextOpens (nesting_in false) deepest_in_module w × (region_nests m.region ≤ deepest_in_module)

abbrev pub ReadsModule : Text → Module → Type 0
ReadsModule w m = Reads w m × IsWithin w m

-- the text is no module, or one that nests too deep
abbrev pub RefusesModule : Text → Refusal → Type 0
RefusesModule w r = (r.place ≡ beginning)
    × (((r.rule ≡ Syntax) × ((m : Module) → Reads w m → ⊥)) ⊎ ((r.rule ≡ TooDeep) × ((m : Module) → Reads w m → IsWithin w m → ⊥)))
