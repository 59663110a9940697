-- Proves what is asked of `read_identity`.
use Rattle.std.proofs.Common.{refl, arith}
use Rattle.tla_tree.specs.Reader.{◌>>=◌, gives}
use Rattle.pcal_tree.specs.Grammar.{bare}
use Rattle.expr_nodes.specs.Ahead.{ahead}
use Rattle.syntax_reading.specs.TokenReaders.{past, a_name}
use Rattle.syntax_reading.specs.ReadParts.{bind_by}
use Rattle.algorithm_reader.specs.PartsRead.{parts_in}
use Rattle.algorithm_reader.proofs.StatementSteps.{goes_on}
use Rattle.p_syntax.proofs.ways.read_identity.Goals as goal

pub returns-clause-read : goal.returns-clause-read
returns-clause-read c =
    let v = c.args.tokens.now in
    let m = parts_in v in
    let x = c.in_ok-name.name in
    let b = c.in_ok-several.ensures.read in
    let e = c.in_ok-identity.ensures in
    record {
      what = bare x b.what.0 b.what.1 e.read.what;
      is =
          goes_on (a_name (ahead v c.args.at)) (λ x. past bind_by >>= λ b. m.expr >>= λ e. gives (bare x b.0 b.1 e)) _ _ _ c.in_ok-name.ensures.value (goes_on (past bind_by (ahead v c.in_ok-name.sign_at)) (λ b. m.expr >>= λ e. gives (bare x b.0 b.1 e)) _ _ _ b.is
          (goes_on (m.expr (ahead v c.in_ok-several.from)) (λ e. gives (bare x b.what.0 b.what.1 e)) _ _ _ e.read.is refl));
      told = record { below = omega (arith, e.within); tree = λ j. (x, b.told j, e.read.told.tree j) };
    }
