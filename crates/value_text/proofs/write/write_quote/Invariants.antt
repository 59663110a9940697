-- What the loop of `write_quote` keeps: what is written, and the bytes that are left.
use Rattle.std.proofs.Common.{◌≡◌, ◌++◌, ◌∷◌, [], drop}
use Rattle.tla_tree.specs.Lexical.{escapes}
use Rattle.value_text.proofs.write.write_quote.Given as goal

abbrev pub invariant-loop-b : goal.invariant-loop-b
invariant-loop-b l = l.into ++ escapes (drop l.b-index l.fn.text) ≡ (l.fn.into ++ 34 ∷ []) ++ escapes l.fn.text
