-- What is seen in a macro, by what is seen in the older ones.
use Rattle.std.specs.Prelude.{List, [], ◌∷◌, true, false, Some, None}
use Rattle.pcal_tree.specs.Algorithm.{Macro, Procedure}
use Rattle.pcal_tree.specs.laws.MacroSpots.{earlier, once, MacroSeen, seen_in_call, seen_in_body, starting}

abbrev pub macro_seen : List Procedure → List MacroSeen → Macro → MacroSeen
macro_seen ps ms d = record {
  title = d.name.word;
  params = d.params;
  reached = once (seen_in_body (seen_in_call ms) ps d.body (starting false (Some (earlier ∷ []))));
  reached_at_label = once (seen_in_body (seen_in_call ms) ps d.body (starting true (Some (earlier ∷ []))));
  unreached = once (seen_in_body (seen_in_call ms) ps d.body (starting false None));
  unreached_at_label = once (seen_in_body (seen_in_call ms) ps d.body (starting true None));
}
