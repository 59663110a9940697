-- Proves what is asked of `read_alone`.
use Rattle.std.proofs.Common.{◌≡◌, ℕ, ◌*◌, ◌<◌, ◌≤◌, ◌++◌, [], None, Ok, refl, ap, length, length-append, arith}
use Rattle.tla_token.specs.declared.token.Tokens.{Tokens}
use Rattle.tla_tree.specs.Reader.{gives}
use Rattle.expr_nodes.specs.Ahead.{ahead}
use Rattle.pcal_tree.specs.GrammarParts.{Simple, simple_tokens}
use Rattle.pcal_tree.specs.GrammarC.{simple, labelled}
use Rattle.algorithm_reader.specs.PartsRead.{parts_in}
use Rattle.algorithm_reader.specs.SimpleRead.{simple_reader}
use Rattle.algorithm_reader.proofs.Between.{ahead_length}
use Rattle.syntax_reading.proofs.Lengths.{grow_simple}
use Rattle.syntax_reading.proofs.WithinParts.{limited_sound}
use Rattle.algorithm_reader.proofs.StatementSteps.{goes_on}
use Rattle.c_reading.specs.ReadStatements.{ended, on}
use Rattle.c_syntax.proofs.Steps.{stands_kept, simple_between, simple_stands}
use Rattle.c_syntax.proofs.opening.read_alone.Goals as goal

-- a statement has a token
past_one_token : (v : Tokens) (i j : ℕ) (s : Simple) → i ≤ length v.items.items → j ≤ length v.items.items → ahead v i ≡ simple_tokens s [] ++ ahead v j → i < j
past_one_token v i j s a b e = omega (arith, ahead_length v i a, ahead_length v j b, ap length e, length-append (simple_tokens s []) (ahead v j), grow_simple s [])

passed : (v : Tokens) (i j n : ℕ) (s : Simple) → i ≤ length v.items.items → j ≤ length v.items.items → simple_reader (parts_in v) n (ahead v i) ≡ Ok (s, ahead v j) → i < j
passed v i j n s a b e = past_one_token v i j s a b (simple_between (parts_in v) (limited_sound (4 * length v.items.items)) n (ahead v i) (ahead v j) s e)

pub returns-clause-read : goal.returns-clause-read
returns-clause-read c n ls st enough h =
    let v = c.args.tokens.now in
    let us = c.read_simple.new.pool in
    let e = c.in_ok-simple.ensures in
    let read = e.read n enough in
    let said = c.in_ok-state.ensures in
    let tokens = simple_between (parts_in v) (limited_sound (4 * length v.items.items)) n (ahead v c.args.at) (ahead v c.in_ok-simple.end) read.what read.is in
    record {
      what = on (ended (labelled ls (simple read.what)) None st);
      is = goes_on (simple_reader (parts_in v) n (ahead v c.args.at)) (λ s. gives (on (ended (labelled ls (simple s)) None st))) _ _ _ read.is refl;
      told = simple_stands us c.args.state c.in_ok-state.state ls st _ c.in_ok-simple.simple read.what (stands_kept _ us e.kept c.args.state _ st h) read.told.below read.told.tree (c.span_between-span.ensures _ tokens) said.list said.stack said.point said.depth;
    }

pub span_between-span-requires-clause-some : goal.span_between-span-requires-clause-some
span_between-span-requires-clause-some c =
    let v = c.args.tokens.now in
    let e = c.in_ok-simple.ensures in
    let read = e.read (length v.items.items) (omega arith) in
    passed v c.args.at c.in_ok-simple.end (length v.items.items) read.what c.requires.there e.inside read.is

pub returns-clause-further : goal.returns-clause-further
returns-clause-further c =
    let v = c.args.tokens.now in
    let e = c.in_ok-simple.ensures in
    let read = e.read (length v.items.items) (omega arith) in
    passed v c.args.at c.in_ok-simple.end (length v.items.items) read.what c.requires.there e.inside read.is
