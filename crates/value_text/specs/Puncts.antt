-- The signs of which values are spelled.
use Rattle.std.specs.Prelude.{Option, Some, None, codes}
use Rattle.tla_token.specs.declared.sign.Sign.{Sign}
use Rattle.tla_token.specs.declared.sign.Sign.TheVariants as sign
use Rattle.tla_tree.specs.Tree.{Word}
use Rattle.value_text.specs.declared.token.Punct.{Punct}
use Rattle.value_text.specs.declared.token.Punct.TheVariants as punct

abbrev pub punct_word : Punct → Word
punct_word punct.Minus = codes "-"
punct_word punct.OpenSet = codes "{"
punct_word punct.CloseSet = codes "}"
punct_word punct.OpenTuple = codes "<<"
punct_word punct.CloseTuple = codes ">>"
punct_word punct.OpenRecord = codes "["
punct_word punct.CloseRecord = codes "]"
punct_word punct.OpenPairs = codes "("
punct_word punct.ClosePairs = codes ")"
punct_word punct.Maps = codes "|->"
punct_word punct.Pair = codes ":>"
punct_word punct.Override = codes "@@"
punct_word punct.Comma = codes ","

abbrev pub punct_of : Sign → Option Punct
punct_of sign.Minus = Some punct.Minus
punct_of sign.OpenCurly = Some punct.OpenSet
punct_of sign.CloseCurly = Some punct.CloseSet
punct_of sign.OpenTuple = Some punct.OpenTuple
punct_of sign.CloseTuple = Some punct.CloseTuple
punct_of sign.OpenSquare = Some punct.OpenRecord
punct_of sign.CloseSquare = Some punct.CloseRecord
punct_of sign.OpenRound = Some punct.OpenPairs
punct_of sign.CloseRound = Some punct.ClosePairs
punct_of sign.MapsTo = Some punct.Maps
punct_of sign.Pair = Some punct.Pair
punct_of sign.Override = Some punct.Override
punct_of sign.Comma = Some punct.Comma
punct_of s = None
