-- Ranks of operators, and which are prefix operators or associative (after "Specifying Systems", Table 6).
use Rattle.std.specs.Prelude.{ℕ, Bool, true, false, nat_eq}
use Rattle.tla_tree.specs.declared.op.Op.{Op}
use Rattle.tla_tree.specs.declared.op.Op.TheVariants as op

-- the range of ranks of an operator: the least and the greatest; the higher binds the tighter
abbrev pub rank : Op → ℕ × ℕ
rank op.Implies = (1, 1)
rank op.Equivalent = (2, 2)
rank op.And = (3, 3)
rank op.Or = (3, 3)
rank op.Not = (4, 4)
rank op.Equal = (5, 5)
rank op.NotEqual = (5, 5)
rank op.Less = (5, 5)
rank op.Greater = (5, 5)
rank op.AtMost = (5, 5)
rank op.AtLeast = (5, 5)
rank op.In = (5, 5)
rank op.NotIn = (5, 5)
rank op.SubsetEq = (5, 5)
rank op.Override = (6, 6)
rank op.MapsTo = (7, 7)
rank op.Cup = (8, 8)
rank op.Cap = (8, 8)
rank op.Without = (8, 8)
rank op.Subset = (8, 8)
rank op.Union = (8, 8)
rank op.Range = (9, 9)
rank op.Domain = (9, 9)
rank op.Plus = (10, 10)
rank op.Modulo = (10, 11)
rank op.Minus = (11, 11)
rank op.Negate = (12, 12)
rank op.Times = (13, 13)
rank op.Concat = (13, 13)
rank op.Divide = (13, 13)

-- is before its one operand; all others are between two
abbrev pub is_prefix : Op → Bool
is_prefix op.Not = true
is_prefix op.Subset = true
is_prefix op.Union = true
is_prefix op.Domain = true
is_prefix op.Negate = true
is_prefix o = false

-- a OP b OP c is (a OP b) OP c
abbrev pub is_associative : Op → Bool
is_associative op.And = true
is_associative op.Or = true
is_associative op.Override = true
is_associative op.Cup = true
is_associative op.Cap = true
is_associative op.Plus = true
is_associative op.Minus = true
is_associative op.Times = true
is_associative op.Concat = true
is_associative o = false

-- the operators whose sign may be the bullet of a list
abbrev pub is_bullet : Op → Bool
is_bullet op.And = true
is_bullet op.Or = true
is_bullet o = false

-- a number for each operator
abbrev pub number_of : Op → ℕ
number_of op.Implies = 0
number_of op.Equivalent = 1
number_of op.And = 2
number_of op.Or = 3
number_of op.Not = 4
number_of op.Equal = 5
number_of op.NotEqual = 6
number_of op.Less = 7
number_of op.Greater = 8
number_of op.AtMost = 9
number_of op.AtLeast = 10
number_of op.In = 11
number_of op.NotIn = 12
number_of op.SubsetEq = 13
number_of op.Override = 14
number_of op.MapsTo = 15
number_of op.Cup = 16
number_of op.Cap = 17
number_of op.Without = 18
number_of op.Subset = 19
number_of op.Union = 20
number_of op.Range = 21
number_of op.Domain = 22
number_of op.Plus = 23
number_of op.Modulo = 24
number_of op.Minus = 25
number_of op.Negate = 26
number_of op.Times = 27
number_of op.Concat = 28
number_of op.Divide = 29

abbrev pub same_op : Op → Op → Bool
same_op o q = nat_eq (number_of o) (number_of q)
