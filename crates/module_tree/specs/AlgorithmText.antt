-- The algorithm of a file: from its first words to its end, within its comment, and its tokens ("A PlusCal User's Manual", sections 2.1 and 2.2, appendix A).
use Rattle.std.specs.Prelude.{ℕ, zero, suc, ◌+◌, ◌-◌, nat_eq, nat_le, nat_lt, bytes_eq, Bool, true, false, ◌&&◌, List, [], ◌∷◌, length, take, drop, Option, Some, None, is_some, codes, if◌then◌else◌, find, map}
use Rattle.std.specs.List.{list_any}
use Rattle.tla_token.specs.declared.sign.Sign.TheVariants.{OpenCurly, CloseCurly}
use Rattle.tla_token.specs.Places.{place_at}
use Rattle.tla_token.specs.Lexemes.{Kind, name, one}
use Rattle.tla_token.specs.Tokens.{Token, tokens_of}
use Rattle.tla_token.specs.Offences.{Part, part_bytes}
use Rattle.tla_token.specs.Cut.{part_at, pieces}
use Rattle.module_tree.specs.TextFront.{Text, on_some}
use Rattle.module_tree.specs.Beginnings.{is_fair, opening}
use Rattle.module_tree.specs.ModuleParts.{kind_in}
use Rattle.module_tree.specs.Walk.{Located, walk}
use Rattle.module_tree.specs.FileParts.{within, beginnings_in, first_of, holds_algorithm}

-- ---- its end

-- what the tokens so far are
pub data Stage : Type 0 where
  head : ℕ → Stage  -- before the name, and so many words before that
  titled : Bool → Stage  -- after the name, which may be `end`
  open_p : Bool → Stage  -- in P-syntax; the last token may be `end`
  open_c : ℕ → Stage  -- in C-syntax, within so many braces
  past_p : Stage
  past_c : Stage

abbrev pub is_word : Text → Kind → Bool
is_word w (name v) = bytes_eq v w
is_word w k = false

abbrev pub next_p : Bool → Kind → Stage
next_p e k = if e && is_word (codes "algorithm") k then past_p else open_p (is_word (codes "end") k)

abbrev pub next_c : ℕ → Kind → Stage
next_c d (one OpenCurly) = open_c (d + 1)
next_c d (one CloseCurly) = if nat_le d 1 then past_c else open_c (d - 1)
next_c d k = open_c d

-- an algorithm is in C-syntax exactly if a brace follows its name
abbrev pub next : Stage → Kind → Stage
next (head (suc n)) k = head n
next (head zero) k = titled (is_word (codes "end") k)
next (titled e) (one OpenCurly) = open_c 1
next (titled e) k = next_p e k
next (open_p e) k = next_p e k
next (open_c d) k = next_c d k
next past_p k = past_p
next past_c k = past_c

abbrev pub is_past : Stage → Bool
is_past past_p = true
is_past past_c = true
is_past st = false

abbrev pub is_c : Stage → Bool
is_c (open_c d) = true
is_c past_c = true
is_c st = false

abbrev pub after_part : Stage → Option Kind → Stage
after_part st (Some k) = next st k
after_part st None = st

-- ---- its parts

-- a part after the algorithm's first word, where it is
abbrev pub IndexedPart : Type 0
IndexedPart = ℕ × Part

pub record Inside : Type 0 where
  pub parts : List IndexedPart
  pub stage : Stage
  pub to : ℕ

abbrev pub with_part : IndexedPart → Inside → Inside
with_part p i = record i { parts = p ∷ i.parts }

-- where so many more bytes are in the comment; a string is looked at on its whole line
abbrev pub inner_part : ℕ → ℕ → Text → Part
inner_part left b s = part_at b (if nat_eq b 34 then s else take left s)

-- from n on, where k bytes belong to the part before and so many are left within the comment
abbrev pub inside : Stage → ℕ → ℕ → ℕ → Text → Inside
inside st n k zero s = record { parts = []; stage = st; to = n }
inside st n k (suc left) [] = record { parts = []; stage = st; to = n }
inside st n (suc k) (suc left) (b ∷ s) = inside st (suc n) k left s
inside st n zero (suc left) (b ∷ s) =
    if is_past st then record { parts = []; stage = st; to = n }
    else (let p = inner_part left b s in with_part (n, p) (inside (after_part st (kind_in p)) (suc n) (length (part_bytes p) - 1) left s))

-- ---- the algorithm

pub record AlgorithmText : Type 0 where
  pub from : ℕ
  pub opening : Text
  pub rest : Inside  -- without an end, it goes on to its comment's

-- it begins with s, of which so many bytes are within the comment
abbrev pub algorithm_at : ℕ → ℕ → Text → AlgorithmText
algorithm_at n left s =
    let w = opening s in
    record { from = n; opening = w; rest = inside (head (if is_fair s then 1 else 0)) (n + length w) 0 (left - length w) (drop (length w) s) }

-- of the text with these segments
abbrev pub algorithm_of : Text → List Located → Option AlgorithmText
algorithm_of x ds =
    on_some (find holds_algorithm ds) (λ d. on_some (first_of (beginnings_in d)) (λ n.
    Some (algorithm_at n (d.at + 2 + length (within d.is) - n) (drop n x))))

abbrev pub algorithm_in : Text → Option AlgorithmText
algorithm_in x = algorithm_of x (walk x)

abbrev pub algorithm_tokens : Text → AlgorithmText → List Token
algorithm_tokens x a =
    record { kind = name a.opening; at = a.from; place = place_at x a.from }
    ∷ (let n = a.from + length a.opening in tokens_of (place_at x n) n (pieces (map (λ p. p.1) a.rest.parts)))

-- the byte n is one of this part's, and it is a token
abbrev pub is_token_byte : ℕ → IndexedPart → Bool
is_token_byte n p = is_some (kind_in p.1) && (nat_le p.0 n && nat_lt n (p.0 + length (part_bytes p.1)))

abbrev pub in_tokens : List IndexedPart → ℕ → Bool
in_tokens ps n = list_any (is_token_byte n) ps

-- the byte n is one of its tokens', after the first
abbrev pub in_token : AlgorithmText → ℕ → Bool
in_token a n = in_tokens a.rest.parts n
