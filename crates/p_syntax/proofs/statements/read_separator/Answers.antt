-- Proves what is asked of `read_separator`.
use Rattle.std.proofs.Common.{List, Some, Ok, refl, sym, ap, ◌∙◌}
use Rattle.tla_tree.specs.Lexical as tk
use Rattle.tla_tree.specs.Lexical.{Token}
use Rattle.expr_nodes.specs.Ahead.{ahead}
use Rattle.syntax_reading.specs.TokenReaders.{first}
use Rattle.algorithm_reader.specs.PartsRead.{parts_in}
use Rattle.algorithm_reader.proofs.Gathered.{refused_as}
use Rattle.p_reading.specs.ReadStatements.{Turn, on, ended}
use Rattle.p_syntax.proofs.AfterStatement.{separator_there, no_separator_there, mark_is_passed}
use Rattle.p_syntax.proofs.statements.read_separator.Goals as goal

pub returns-in-Some-clause-read : goal.returns-in-Some-clause-read
returns-in-Some-clause-read c ts n b ls a st h =
    let us = ahead c.args.tokens.now c.args.at in
    let turn : Turn = on (ended b ls a (Some (first us).place) st) in
    record {
      what = turn;
      is = separator_there (parts_in c.args.tokens.now) n b ls a st us c.in-Some.ensures.there ∙ ap (λ (l : List Token). Ok (turn, l)) (sym c.in-Some.ensures.rest);
      told = (refl, record { list = h.list; stack = h.stack; depth = h.depth });
    }

pub returns-in-Some-clause-further : goal.returns-in-Some-clause-further
returns-in-Some-clause-further c = mark_is_passed c.args.tokens.now c.args.at c.in-Some.end tk.semicolon c.requires c.in-Some.ensures.inside c.in-Some.ensures.there c.in-Some.ensures.rest

pub returns-in-None-clause-read : goal.returns-in-None-clause-read
returns-in-None-clause-read c ts n b ls a st h =
    let us = ahead c.args.tokens.now c.args.at in
    refused_as _ us _ c.refused_there.ensures (no_separator_there (parts_in c.args.tokens.now) n b ls a st us c.in-None.ensures.none)
