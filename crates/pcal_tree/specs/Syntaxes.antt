-- The syntaxes in memory, as the grammar has them ("A PlusCal User's Manual", its two versions).
use Rattle.pcal_tree.specs.Grammar as pure
use Rattle.pcal_tree.specs.declared.syntax.Syntax.{Syntax}
use Rattle.pcal_tree.specs.declared.syntax.Syntax.TheVariants as code

abbrev pub syntax_of : Syntax → pure.Syntax
syntax_of code.P = pure.p_syntax
syntax_of code.C = pure.c_syntax
