-- Proves what is asked of `read_label`.
use Rattle.std.proofs.Common.{refl}
use Rattle.tla_tree.specs.Reader.{◌>>=◌, gives}
use Rattle.expr_nodes.specs.Ahead.{ahead}
use Rattle.syntax_reading.specs.TokenReaders.{a_name}
use Rattle.syntax_reading.specs.ReadParts.{read_colon}
use Rattle.syntax_reading.specs.ReadAround.{with_label}
use Rattle.algorithm_reader.proofs.StatementSteps.{goes_on}
use Rattle.c_reading.specs.ReadStatements.{begin, on}
use Rattle.c_syntax.proofs.Steps.{label_stands}
use Rattle.c_syntax.proofs.opening.read_label.Goals as goal

pub returns-clause-read : goal.returns-clause-read
returns-clause-read c ts n ls st enough h =
    let v = c.args.tokens.now in
    let colon = c.in_ok-mark.ensures.read in
    let said = c.in_ok-state.ensures in
    record {
      what = on (begin (with_label ls c.in_ok-name.name colon.what) st);
      is = goes_on (a_name (ahead v c.args.at)) (λ x. read_colon >>= λ z. gives (on (begin (with_label ls x z) st))) _ _ _ c.in_ok-name.ensures.value (goes_on (read_colon (ahead v c.in_ok-name.end)) (λ z. gives (on (begin (with_label ls c.in_ok-name.name z) st))) _ _ _ colon.is refl);
      told = label_stands ts c.args.state c.in_ok-state.state ls st c.in_ok-name.name c.in_ok-mark.mark colon.what h colon.told said.list said.stack said.point said.depth;
    }
