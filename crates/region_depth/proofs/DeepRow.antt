-- Whether definitions have room, looked at from the first one on, by a table of how deep uses of those before nest.
use Rattle.std.proofs.Common.{◌≡◌, ℕ, zero, suc, ◌+◌, ◌<◌, ◌≤◌, min, Bool, true, false, ◌&&◌, List, [], ◌∷◌, length, drop, get_or, sym, ap, ◌∙◌, subst, arith, cond, bytes_eq}
use Rattle.std.proofs.lemmas.List.{drop_more}
use Rattle.tla_tree.specs.Tree.{Word, Tree}
use Rattle.tla_tree.specs.Nesting.{deepest_in_module}
use Rattle.tla_value.specs.DefinitionNesting.{Depths, depth_of_use, definition_nests}
use Rattle.tla_value.specs.declared.names.Definition.{Definition}
use Rattle.tla_value.specs.Definitions as value
use Rattle.tla_value.specs.Defs.{definition_at, definitions_at, DefinitionsIn}
use Rattle.algorithm_limits.specs.Numbers.{Numbers, number_of, with_number}
use Rattle.algorithm_limits.specs.DepthsIn.{AreDepths}
use Rattle.algorithm_limits.proofs.Tables.{number_of_with}
use Rattle.region_reading.specs.Nests.{definitions_nest}
use Rattle.region_depth.specs.Room.{has_room}
use Rattle.region_depth.proofs.Rows.{room_there, no_room, room_max}

-- those before the rest have room, and the table has their depths
pub record RoomSoFar (es : Numbers) (ds rest : List value.Definition) : Type 0 where
  pub before : Depths
  pub are : AreDepths 1201 es [] before
  pub room : has_room 0 (definitions_nest before rest) ≡ has_room 0 (definitions_nest [] ds)

pub room_as : (es new : Numbers) (ds rest : List value.Definition) → new ≡ es → RoomSoFar es ds rest → RoomSoFar new ds rest
room_as es new ds rest e h = subst (λ (fs : Numbers). RoomSoFar fs ds rest) (sym e) h

depths_more : (es : Numbers) (ds : Depths) (x : Word) (n k : ℕ) → AreDepths 1201 es [] ds → n ≡ min 1201 k → AreDepths 1201 (with_number es x (n + 1)) [] ((x, 1 + k) ∷ ds)
depths_more es ds x n k a e y = by (bytes_eq x y) (depth_of_use ds y) (number_of es y) (a y) ∙ ap (min 1201) (sym (number_of_with es x (n + 1) y))
  where
    by : (b : Bool) (d m : ℕ) → min 1201 d ≡ min 1201 m → min 1201 (cond b (1 + k) d) ≡ min 1201 (cond b (n + 1) m)
    by true d m h = omega arith
    by false d m h = h

-- the number of an element is below m
pub body_in : (m : ℕ) (ds : List Definition) (i : ℕ) (d : Definition) → DefinitionsIn m ds → d ≡ get_or ds i d → i < length ds → d.body < m
body_in m [] i d h e l = absurd (omega (arith, l))
body_in m (b ∷ ds) zero d h e l = subst (λ (x : Definition). x.body < m) (sym e) h.0
body_in m (b ∷ ds) (suc i) d h e l = body_in m ds i d h.1 e (omega (arith, l))

module _ (ts : List Tree) (ms : List Definition) (es : Numbers) (i : ℕ) (m : Definition) (n : ℕ) (e : m ≡ get_or ms i m) (l : i < length ms)
    (is : (ds : Depths) → AreDepths 1201 es [] ds → n ≡ min 1201 (definition_nests ds (definition_at ts m))) (h : RoomSoFar es (definitions_at ts ms) (definitions_at ts (drop i ms))) where
  abbrev more : List value.Definition
  more = definitions_at ts (drop (i + 1) ms)

  abbrev depth : ℕ
  depth = definition_nests h.before (definition_at ts m)

  abbrev then : Depths
  then = (m.name, 1 + depth) ∷ h.before

  one_first : has_room 0 (definitions_nest [] (definitions_at ts ms)) ≡ (has_room 0 depth && has_room 0 (definitions_nest then more))
  one_first = sym h.room ∙ ap (λ (ys : List Definition). has_room 0 (definitions_nest h.before (definitions_at ts ys))) (drop_more ms i m l ∙ ap (λ (y : Definition). y ∷ drop (i + 1) ms) (sym e)) ∙ room_max 0 depth (definitions_nest then more)

  pub definition_fits : n ≤ deepest_in_module → RoomSoFar (with_number es m.name (n + 1)) (definitions_at ts ms) more
  definition_fits k = record {
    before = then;
    are = depths_more es h.before m.name n depth h.are (is h.before h.are);
    room = sym (one_first ∙ ap (λ (b : Bool). b && has_room 0 (definitions_nest then more)) (room_there 0 depth (let q = is h.before h.are in omega (arith, q, k))));
  }

  pub definition_too_deep : deepest_in_module < n → false ≡ has_room 0 (definitions_nest [] (definitions_at ts ms))
  definition_too_deep k = sym (one_first ∙ ap (λ (b : Bool). b && has_room 0 (definitions_nest then more)) (no_room 0 depth (let q = is h.before h.are in omega (arith, q, k))))
