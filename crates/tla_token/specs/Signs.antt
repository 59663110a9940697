-- Signs: how each is spelled, and where a spelling is one of a sign ("Specifying Systems", section 15.1 and Tables 5 to 8).
use Rattle.std.specs.Prelude.{ℕ, List, [], ◌∷◌, Bool, codes}
use Rattle.std.specs.Str.{bytes_eq}
use Rattle.std.specs.List.{list_any}
use Rattle.tla_token.specs.declared.sign.Sign.{Sign}
use Rattle.tla_token.specs.declared.sign.Sign.TheVariants as sign

-- the first is the one that is written
abbrev pub spellings : Sign → List (List ℕ)
spellings sign.MapsTo = codes "|->" ∷ []
spellings sign.Equivalent = codes "<=>" ∷ codes "\\equiv" ∷ []
spellings sign.Assign = codes ":=" ∷ []
spellings sign.Parallel = codes "||" ∷ []
spellings sign.Pair = codes ":>" ∷ []
spellings sign.Override = codes "@@" ∷ []
spellings sign.Range = codes ".." ∷ []
spellings sign.And = codes "/\\" ∷ codes "\\land" ∷ []
spellings sign.Or = codes "\\/" ∷ codes "\\lor" ∷ []
spellings sign.Implies = codes "=>" ∷ []
spellings sign.Arrow = codes "->" ∷ []
spellings sign.Defined = codes "==" ∷ []
spellings sign.OpenTuple = codes "<<" ∷ []
spellings sign.CloseTuple = codes ">>" ∷ []
spellings sign.AtMost = codes "<=" ∷ codes "=<" ∷ codes "\\leq" ∷ []
spellings sign.AtLeast = codes ">=" ∷ codes "\\geq" ∷ []
spellings sign.NotEqual = codes "#" ∷ codes "/=" ∷ []
spellings sign.Box = codes "[]" ∷ []
spellings sign.Colon = codes ":" ∷ []
spellings sign.Semicolon = codes ";" ∷ []
spellings sign.Comma = codes "," ∷ []
spellings sign.Dot = codes "." ∷ []
spellings sign.OpenRound = codes "(" ∷ []
spellings sign.CloseRound = codes ")" ∷ []
spellings sign.OpenSquare = codes "[" ∷ []
spellings sign.CloseSquare = codes "]" ∷ []
spellings sign.OpenCurly = codes "{" ∷ []
spellings sign.CloseCurly = codes "}" ∷ []
spellings sign.Equal = codes "=" ∷ []
spellings sign.Less = codes "<" ∷ []
spellings sign.Greater = codes ">" ∷ []
spellings sign.Plus = codes "+" ∷ []
spellings sign.Minus = codes "-" ∷ []
spellings sign.Times = codes "*" ∷ []
spellings sign.Percent = codes "%" ∷ []
spellings sign.Not = codes "~" ∷ codes "\\lnot" ∷ codes "\\neg" ∷ []
spellings sign.Bang = codes "!" ∷ []
spellings sign.Without = codes "\\" ∷ []
spellings sign.In = codes "\\in" ∷ []
spellings sign.NotIn = codes "\\notin" ∷ []
spellings sign.SubsetEq = codes "\\subseteq" ∷ []
spellings sign.Cup = codes "\\cup" ∷ codes "\\union" ∷ []
spellings sign.Cap = codes "\\cap" ∷ codes "\\intersect" ∷ []
spellings sign.Divide = codes "\\div" ∷ []
spellings sign.Concat = codes "\\o" ∷ codes "\\circ" ∷ []
spellings sign.ForAll = codes "\\A" ∷ []
spellings sign.Exists = codes "\\E" ∷ []

-- one of these words is this one
abbrev pub is_among : List (List ℕ) → List ℕ → Bool
is_among vs w = list_any (λ v. bytes_eq v w) vs

abbrev pub all_signs : List Sign
all_signs = sign.MapsTo ∷ sign.Equivalent ∷ sign.Assign ∷ sign.Parallel ∷ sign.Pair ∷ sign.Override ∷ sign.Range ∷ sign.And ∷ sign.Or ∷ sign.Implies ∷ sign.Arrow ∷ sign.Defined ∷ sign.OpenTuple ∷ sign.CloseTuple ∷ sign.AtMost ∷ sign.AtLeast ∷ sign.NotEqual ∷ sign.Box ∷ sign.Colon ∷ sign.Semicolon ∷ sign.Comma ∷ sign.Dot ∷ sign.OpenRound ∷ sign.CloseRound ∷ sign.OpenSquare ∷ sign.CloseSquare ∷ sign.OpenCurly ∷ sign.CloseCurly ∷ sign.Equal ∷ sign.Less ∷ sign.Greater ∷ sign.Plus ∷ sign.Minus ∷ sign.Times ∷ sign.Percent ∷ sign.Not ∷ sign.Bang ∷ sign.Without ∷ sign.In ∷ sign.NotIn ∷ sign.SubsetEq ∷ sign.Cup ∷ sign.Cap ∷ sign.Divide ∷ sign.Concat ∷ sign.ForAll ∷ sign.Exists ∷ []

abbrev pub spelled_by : List Sign → List ℕ → Bool
spelled_by ss w = list_any (λ s. is_among (spellings s) w) ss

-- some sign is spelled so
abbrev pub is_sign : List ℕ → Bool
is_sign w = spelled_by all_signs w
