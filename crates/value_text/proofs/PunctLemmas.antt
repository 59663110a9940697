-- The signs of values are told apart.
use Rattle.std.proofs.Common.{◌≡◌, true, Option, Some, None, refl, sym, ap, ◌∙◌, codes}
use Rattle.std.specs.Prelude.{if◌then◌else◌, bytes_eq}
use Rattle.tla_token.specs.declared.sign.Sign.{Sign}
use Rattle.tla_token.specs.declared.sign.Sign.TheVariants as sgn
use Rattle.tla_token.specs.Signs.{spellings, is_sign}
use Rattle.tla_tree.specs.Tree.{Word}
use Rattle.tla_value.specs.ValueSeen.{first_of}
use Rattle.value_text.specs.declared.token.Punct.{Punct}
use Rattle.value_text.specs.declared.token.Punct.TheVariants as punct
use Rattle.value_text.specs.Puncts.{punct_word, punct_of}

abbrev punct_named : Word → Option Punct
punct_named w =
    if bytes_eq (codes "-") w then Some punct.Minus else
    (if bytes_eq (codes "{") w then Some punct.OpenSet else
    (if bytes_eq (codes "}") w then Some punct.CloseSet else
    (if bytes_eq (codes "<<") w then Some punct.OpenTuple else
    (if bytes_eq (codes ">>") w then Some punct.CloseTuple else
    (if bytes_eq (codes "[") w then Some punct.OpenRecord else
    (if bytes_eq (codes "]") w then Some punct.CloseRecord else
    (if bytes_eq (codes "(") w then Some punct.OpenPairs else
    (if bytes_eq (codes ")") w then Some punct.ClosePairs else
    (if bytes_eq (codes "|->") w then Some punct.Maps else
    (if bytes_eq (codes ":>") w then Some punct.Pair else
    (if bytes_eq (codes "@@") w then Some punct.Override else
    (if bytes_eq (codes ",") w then Some punct.Comma else
    None))))))))))))

named_word : (p : Punct) → punct_named (punct_word p) ≡ Some p
named_word punct.Minus = refl
named_word punct.OpenSet = refl
named_word punct.CloseSet = refl
named_word punct.OpenTuple = refl
named_word punct.CloseTuple = refl
named_word punct.OpenRecord = refl
named_word punct.CloseRecord = refl
named_word punct.OpenPairs = refl
named_word punct.ClosePairs = refl
named_word punct.Maps = refl
named_word punct.Pair = refl
named_word punct.Override = refl
named_word punct.Comma = refl

named_sign : (s : Sign) → punct_named (first_of (spellings s)) ≡ punct_of s
named_sign sgn.MapsTo = refl
named_sign sgn.Equivalent = refl
named_sign sgn.Assign = refl
named_sign sgn.Parallel = refl
named_sign sgn.Pair = refl
named_sign sgn.Override = refl
named_sign sgn.Range = refl
named_sign sgn.And = refl
named_sign sgn.Or = refl
named_sign sgn.Implies = refl
named_sign sgn.Arrow = refl
named_sign sgn.Defined = refl
named_sign sgn.OpenTuple = refl
named_sign sgn.CloseTuple = refl
named_sign sgn.AtMost = refl
named_sign sgn.AtLeast = refl
named_sign sgn.NotEqual = refl
named_sign sgn.Box = refl
named_sign sgn.Colon = refl
named_sign sgn.Semicolon = refl
named_sign sgn.Comma = refl
named_sign sgn.Dot = refl
named_sign sgn.OpenRound = refl
named_sign sgn.CloseRound = refl
named_sign sgn.OpenSquare = refl
named_sign sgn.CloseSquare = refl
named_sign sgn.OpenCurly = refl
named_sign sgn.CloseCurly = refl
named_sign sgn.Equal = refl
named_sign sgn.Less = refl
named_sign sgn.Greater = refl
named_sign sgn.Plus = refl
named_sign sgn.Minus = refl
named_sign sgn.Times = refl
named_sign sgn.Percent = refl
named_sign sgn.Not = refl
named_sign sgn.Bang = refl
named_sign sgn.Without = refl
named_sign sgn.In = refl
named_sign sgn.NotIn = refl
named_sign sgn.SubsetEq = refl
named_sign sgn.Cup = refl
named_sign sgn.Cap = refl
named_sign sgn.Divide = refl
named_sign sgn.Concat = refl
named_sign sgn.ForAll = refl
named_sign sgn.Exists = refl

pub sign_punct : (s : Sign) (p : Punct) → first_of (spellings s) ≡ punct_word p → punct_of s ≡ Some p
sign_punct s p e = sym (named_sign s) ∙ ap punct_named e ∙ named_word p

same_punct : (p q : Punct) → Some p ≡ Some q → p ≡ q
same_punct p q e = cc

pub punct_sign : (s : Sign) (p : Punct) → punct_of s ≡ Some p → first_of (spellings s) ≡ punct_word p
punct_sign sgn.MapsTo p e = ap punct_word (same_punct punct.Maps p e)
punct_sign sgn.Equivalent p e = absurd cc
punct_sign sgn.Assign p e = absurd cc
punct_sign sgn.Parallel p e = absurd cc
punct_sign sgn.Pair p e = ap punct_word (same_punct punct.Pair p e)
punct_sign sgn.Override p e = ap punct_word (same_punct punct.Override p e)
punct_sign sgn.Range p e = absurd cc
punct_sign sgn.And p e = absurd cc
punct_sign sgn.Or p e = absurd cc
punct_sign sgn.Implies p e = absurd cc
punct_sign sgn.Arrow p e = absurd cc
punct_sign sgn.Defined p e = absurd cc
punct_sign sgn.OpenTuple p e = ap punct_word (same_punct punct.OpenTuple p e)
punct_sign sgn.CloseTuple p e = ap punct_word (same_punct punct.CloseTuple p e)
punct_sign sgn.AtMost p e = absurd cc
punct_sign sgn.AtLeast p e = absurd cc
punct_sign sgn.NotEqual p e = absurd cc
punct_sign sgn.Box p e = absurd cc
punct_sign sgn.Colon p e = absurd cc
punct_sign sgn.Semicolon p e = absurd cc
punct_sign sgn.Comma p e = ap punct_word (same_punct punct.Comma p e)
punct_sign sgn.Dot p e = absurd cc
punct_sign sgn.OpenRound p e = ap punct_word (same_punct punct.OpenPairs p e)
punct_sign sgn.CloseRound p e = ap punct_word (same_punct punct.ClosePairs p e)
punct_sign sgn.OpenSquare p e = ap punct_word (same_punct punct.OpenRecord p e)
punct_sign sgn.CloseSquare p e = ap punct_word (same_punct punct.CloseRecord p e)
punct_sign sgn.OpenCurly p e = ap punct_word (same_punct punct.OpenSet p e)
punct_sign sgn.CloseCurly p e = ap punct_word (same_punct punct.CloseSet p e)
punct_sign sgn.Equal p e = absurd cc
punct_sign sgn.Less p e = absurd cc
punct_sign sgn.Greater p e = absurd cc
punct_sign sgn.Plus p e = absurd cc
punct_sign sgn.Minus p e = ap punct_word (same_punct punct.Minus p e)
punct_sign sgn.Times p e = absurd cc
punct_sign sgn.Percent p e = absurd cc
punct_sign sgn.Not p e = absurd cc
punct_sign sgn.Bang p e = absurd cc
punct_sign sgn.Without p e = absurd cc
punct_sign sgn.In p e = absurd cc
punct_sign sgn.NotIn p e = absurd cc
punct_sign sgn.SubsetEq p e = absurd cc
punct_sign sgn.Cup p e = absurd cc
punct_sign sgn.Cap p e = absurd cc
punct_sign sgn.Divide p e = absurd cc
punct_sign sgn.Concat p e = absurd cc
punct_sign sgn.ForAll p e = absurd cc
punct_sign sgn.Exists p e = absurd cc

pub word_is_sign : (p : Punct) → is_sign (punct_word p) ≡ true
word_is_sign punct.Minus = refl
word_is_sign punct.OpenSet = refl
word_is_sign punct.CloseSet = refl
word_is_sign punct.OpenTuple = refl
word_is_sign punct.CloseTuple = refl
word_is_sign punct.OpenRecord = refl
word_is_sign punct.CloseRecord = refl
word_is_sign punct.OpenPairs = refl
word_is_sign punct.ClosePairs = refl
word_is_sign punct.Maps = refl
word_is_sign punct.Pair = refl
word_is_sign punct.Override = refl
word_is_sign punct.Comma = refl

pub word_punct : (p q : Punct) → punct_word p ≡ punct_word q → p ≡ q
word_punct p q e = same_punct p q (sym (named_word p) ∙ ap punct_named e ∙ named_word q)
