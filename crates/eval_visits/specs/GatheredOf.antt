-- What is gathered in memory.
use Rattle.eval_visits.specs.declared.gathered.Gathered.{Gathered as Kept}
use Rattle.eval_visits.specs.declared.gathered.Gathered.TheVariants.{All, Some, Rows, Picked, Table}
use Rattle.eval_visits.specs.Gathered.{Gathered, all_of, some_of, kept, picked, tabled}

abbrev pub gathered_of : Kept → Gathered
gathered_of (All b) = all_of b
gathered_of (Some b) = some_of b
gathered_of (Rows ks) = kept ks.items
gathered_of (Picked vs) = picked vs.items
gathered_of (Table ks vs) = tabled ks.items vs.items
