-- Proves what is asked of `read_alone`.
use Rattle.std.proofs.Common.{◌*◌, None, refl, length, arith}
use Rattle.tla_tree.specs.Reader.{gives}
use Rattle.expr_nodes.specs.Ahead.{ahead}
use Rattle.pcal_tree.specs.GrammarP.{simple}
use Rattle.algorithm_reader.specs.PartsRead.{parts_in}
use Rattle.syntax_reading.proofs.WithinParts.{limited_sound}
use Rattle.p_reading.specs.ReadStatements.{ended, on}
use Rattle.algorithm_reader.specs.SimpleRead.{simple_reader}
use Rattle.p_syntax.proofs.Grows.{stands_grow}
use Rattle.p_syntax.proofs.SimpleSound.{simple_between, simple_further}
use Rattle.algorithm_reader.proofs.StatementSteps.{goes_on}
use Rattle.p_syntax.proofs.Steps.{simple_stands}
use Rattle.p_syntax.proofs.opening.read_alone.Goals as goal

pub returns-clause-read : goal.returns-clause-read
returns-clause-read c n b ls st enough h =
    let v = c.args.tokens.now in
    let us = c.read_simple.new.pool in
    let e = c.in_ok-simple.ensures in
    let read = e.read n enough in
    let said = c.in_ok-state.ensures in
    let tokens = simple_between (parts_in v) (limited_sound (4 * length v.items.items)) n (ahead v c.args.at) (ahead v c.in_ok-simple.end) read.what read.is in
    record {
      what = on (ended b ls (simple read.what) None st);
      is = goes_on (simple_reader (parts_in v) n (ahead v c.args.at)) (λ s. gives (on (ended b ls (simple s) None st))) _ _ _ read.is refl;
      told = simple_stands us c.args.state c.in_ok-state.state b ls st _ c.in_ok-simple.simple read.what (stands_grow _ us e.kept c.args.state _ st h) read.told.below read.told.tree (c.span_between-span.ensures _ tokens) said.list said.stack said.point said.depth;
    }

pub span_between-span-requires-clause-some : goal.span_between-span-requires-clause-some
span_between-span-requires-clause-some c =
    let v = c.args.tokens.now in
    let e = c.in_ok-simple.ensures in
    let read = e.read (length v.items.items) (omega arith) in
    simple_further v c.args.at c.in_ok-simple.end read.what c.requires.there e.inside (simple_between (parts_in v) (limited_sound (4 * length v.items.items)) (length v.items.items) (ahead v c.args.at) (ahead v c.in_ok-simple.end) read.what read.is)

pub returns-clause-further : goal.returns-clause-further
returns-clause-further c =
    let v = c.args.tokens.now in
    let e = c.in_ok-simple.ensures in
    let read = e.read (length v.items.items) (omega arith) in
    simple_further v c.args.at c.in_ok-simple.end read.what c.requires.there e.inside (simple_between (parts_in v) (limited_sound (4 * length v.items.items)) (length v.items.items) (ahead v c.args.at) (ahead v c.in_ok-simple.end) read.what read.is)
