-- Uses that are kept each once, in memory.
use Rattle.std.specs.Prelude.{List, [], ◌∷◌, ◌++◌, Some}
use Rattle.std.specs.List.{flat_map}
use Rattle.pcal_tree.specs.Reads.{named}
use Rattle.pcal_tree.specs.laws.MacroSpots.{Use, Seen, on_trail}
use Rattle.pcal_tree.proofs.SpotCalls.{SeenLike}
use Rattle.read_rules.specs.declared.assigned.Assigned.{Assigned}
use Rattle.read_rules.specs.declared.once.Key.{Key}
use Rattle.read_rules.specs.Sets.{origins}
use Rattle.read_rules.specs.UsesIn.{of_kind}

abbrev pub key_use : Key → Use
key_use k = of_kind k.kind (named k.name (record { line = k.line; col = k.col }))

abbrev pub Entry : Type 0
Entry = Key × Assigned

abbrev pub entry_seen : Entry → List Seen
entry_seen e = on_trail (Some (origins e.1)) (key_use e.0 ∷ [])

abbrev pub entries_seen : List Entry → List Seen
entries_seen es = flat_map entry_seen es

-- these are seen too
abbrev pub Keeps : List Entry → List Entry → List Seen → Type 0
Keeps old new ss = SeenLike (entries_seen new) (entries_seen old ++ ss)
