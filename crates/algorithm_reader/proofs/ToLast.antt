-- A whole algorithm is read where no token stands behind it: of readers of either syntax.
use Rattle.std.proofs.Common.{◌≡◌, ℕ, ◌+◌, ◌<◌, ◌≤◌, List, [], ◌∷◌, length, Ok, Err, refl, sym, ap, subst, ◌∙◌, arith}
use Rattle.tla_token.specs.declared.token.Tokens.{Tokens}
use Rattle.tla_token.specs.declared.rule.Rule.TheVariants as rule
use Rattle.tla_tree.specs.Tree.{Tree}
use Rattle.tla_tree.specs.Lexical.{Token}
use Rattle.tla_tree.specs.Reader.{Out, then_read}
use Rattle.expr_nodes.specs.declared.cursor.Halt.{Halt}
use Rattle.expr_nodes.specs.declared.cursor.Halt.TheVariants as halt
use Rattle.expr_nodes.specs.ReadIn.{Reads, Fails}
use Rattle.expr_nodes.specs.Ahead.{ahead}
use Rattle.pcal_tree.specs.declared.algorithm.Algorithm.{Algorithm}
use Rattle.pcal_tree.specs.InMemory.{algorithm_at, past_algorithm}
use Rattle.pcal_tree.specs.Grammar.{Text, algorithm_of}
use Rattle.syntax_reading.specs.ReadAround.{to_last}
use Rattle.algorithm_reader.specs.PartsRead.{StandsFor}
use Rattle.algorithm_reader.proofs.Between.{ahead_length}
use Rattle.algorithm_reader.proofs.Gathered.{fails_then, refused_as}

none_behind : (v : Tokens) (i : ℕ) (a : Text) (ts : List Token) → length ts + i ≡ length v.items.items → length v.items.items ≤ i → to_last a ts ≡ Ok (a, ts)
none_behind v i a [] e h = refl
none_behind v i a (t ∷ ts) e h = absurd (omega (arith, e, h))

some_behind : (v : Tokens) (i : ℕ) (a : Text) (ts : List Token) → length ts + i ≡ length v.items.items → i < length v.items.items → to_last a ts ≡ Err (rule.Syntax, ts)
some_behind v i a [] e h = absurd (omega (arith, e, h))
some_behind v i a (t ∷ ts) e h = refl

-- what a reader of the parts reads, and what one reads of all tokens, up to the last
module _ (v : Tokens) (whole all : Out Text) (same : all ≡ then_read whole to_last) where
  last_is : (i : ℕ) (a : Text) → whole ≡ Ok (a, ahead v i) → all ≡ to_last a (ahead v i)
  last_is i a e = same ∙ ap (λ (o : Out Text). then_read o to_last) e

  pub ends_there : (us : List Tree) (x : Algorithm) (i : ℕ) → i ≤ length v.items.items → length v.items.items ≤ i → Reads (StandsFor algorithm_at past_algorithm algorithm_of us x) (ahead v i) whole → Reads (StandsFor algorithm_at past_algorithm algorithm_of us x) (ahead v i) all
  ends_there us x i b h r = record { what = r.what; is = last_is i r.what r.is ∙ none_behind v i r.what (ahead v i) (ahead_length v i b) h; told = r.told }

  pub goes_further : (us : List Tree) (x : Algorithm) (e : Halt) (i : ℕ) → i ≤ length v.items.items → i < length v.items.items → e ≡ halt.Refused rule.Syntax (length (ahead v i)) → Reads (StandsFor algorithm_at past_algorithm algorithm_of us x) (ahead v i) whole → Fails e all
  goes_further us x e i b h k r = refused_as e (ahead v i) all k (last_is i r.what r.is ∙ some_behind v i r.what (ahead v i) (ahead_length v i b) h)

  pub whole_fails : (e : Halt) → Fails e whole → Fails e all
  whole_fails e h = subst (Fails e) (sym same) (fails_then e whole to_last h)
