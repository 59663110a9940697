-- Names that stand once in a list, and states that have the same values but for the names of a list.
use Rattle.std.proofs.Common.{◌≡◌, List, [], ◌∷◌, Bool, false, cond, bytes_eq, refl, sym, ap, ◌∙◌}
use Rattle.std.proofs.lemmas.Bool.{or_parts}
use Rattle.std.proofs.lemmas.Slice.Eq.{bytes_eq-Decides}
use Rattle.tla_token.specs.Signs.{is_among}
use Rattle.tla_tree.specs.Tree.{Word}
use Rattle.tla_value.specs.Value.{Value}
use Rattle.pcal_tree.specs.Scope.{State, put}

-- none stands twice
abbrev pub Once : List Word → Type 0
Once [] = Unit {0}
Once (x ∷ xs) = (is_among xs x ≡ false) × Once xs

-- the second state has what the first one has, but for names that are yet to come
abbrev pub Settles : List Word → State → State → Type 0
Settles rest s z = (x : Word) → is_among rest x ≡ false → s x ≡ z x

pub put_here : (x : Word) (v : Value) (s : State) → put x v s x ≡ v
put_here x v s = ap (λ (b : Bool). cond b v (s x)) ((bytes_eq-Decides x x).1 refl)

pub put_other : (x y : Word) (v : Value) (s : State) → bytes_eq x y ≡ false → put x v s y ≡ s y
put_other x y v s e = ap (λ (b : Bool). cond b v (s y)) e

-- a name gets its value, and others are as they were
pub settles_before : (x : Word) (v : Value) (rest : List Word) (s z : State) → Settles rest (put x v s) z → Settles (x ∷ rest) s z
settles_before x v rest s z h y e = (let k = or_parts (bytes_eq x y) (is_among rest y) e in sym (put_other x y v s k.0) ∙ h y k.1)

pub settled_here : (x : Word) (v : Value) (rest : List Word) (s z : State) → is_among rest x ≡ false → Settles rest (put x v s) z → z x ≡ v
settled_here x v rest s z e h = sym (h x e) ∙ put_here x v s

-- names that don't come later
pub later_none : (x y : Word) (rest : List Word) → is_among (x ∷ rest) y ≡ false → is_among rest y ≡ false
later_none x y rest e = (or_parts (bytes_eq x y) (is_among rest y) e).1
