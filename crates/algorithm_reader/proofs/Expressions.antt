-- What is told of expressions that were read, as of parts of algorithms; and steps for all tokens are enough from each.
use Rattle.std.proofs.Common.{◌≡◌, ℕ, suc, ◌*◌, List, [], ◌∷◌, length, Ok, Err, Result, refl, ap, arith}
use Rattle.std.proofs.lemmas.List.{length-drop}
use Rattle.std.specs.Prelude.{Vec, drop}
use Rattle.std.specs.declared.alloc.Global.{Global}
use Rattle.tla_token.specs.declared.token.Token as code_token
use Rattle.tla_token.specs.declared.token.Tokens.{Tokens}
use Rattle.tla_tree.specs.Tree.{Tree}
use Rattle.tla_tree.specs.Pool.{at}
use Rattle.tla_tree.specs.Spelling.{Phrase, Phrases, tree_of, trees_of}
use Rattle.tla_tree.specs.Reader.{Out}
use Rattle.expr_nodes.specs.declared.cursor.Halt.{Halt}
use Rattle.expr_nodes.specs.ReadIn.{seen, Told}
use Rattle.expr_nodes.specs.Ahead.{ahead}
use Rattle.tla_expr.specs.ReadTrees.{HasTree, HaveTrees, Enough}
use Rattle.pcal_tree.specs.InMemory.{past_number}
use Rattle.pcal_tree.proofs.InMemoryEach.{all_below_past}
use Rattle.algorithm_reader.specs.PartsRead.{ReadsPart, row_at, past_row}

seen_length : (bytes : List ℕ) (ts : List code_token.Token) → length (seen bytes ts) ≡ length ts
seen_length bytes [] = refl
seen_length bytes (t ∷ ts) = ap suc (seen_length bytes ts)

pub enough_for_all : (v : Tokens) (i : ℕ) → Enough v i (4 * length v.items.items)
enough_for_all v i = (let m = seen_length v.bytes.items (drop i v.items.items) in let d = length-drop i v.items.items in omega (arith, m, d))

pub tree_told : (v : Tokens) (ts : List Tree) (r : Result (ℕ × ℕ) Halt) (o : Out Phrase) → Told (λ (x : ℕ × ℕ) a. HasTree ts x.0 a) (λ x. ahead v x.1) r o → ReadsPart at past_number tree_of v ts r o
tree_told v ts (Ok x) o h = record { what = h.what; is = h.is; told = record { below = omega (arith, h.told.below); tree = h.told.tree } }
tree_told v ts (Err e) o h = h

pub trees_told : (v : Tokens) (ts : List Tree) (r : Result (Vec ℕ Global × ℕ) Halt) (o : Out Phrases) → Told (λ (x : Vec ℕ Global × ℕ) xs. HaveTrees ts x.0.items xs) (λ x. ahead v x.1) r o → ReadsPart row_at past_row trees_of v ts r o
trees_told v ts (Ok x) o h = record { what = h.what; is = h.is; told = record { below = all_below_past (length ts) x.0.items h.told.below; tree = h.told.trees } }
trees_told v ts (Err e) o h = h
