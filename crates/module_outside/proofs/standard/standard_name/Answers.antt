-- Proves that a name is looked for among those of the standard modules one after the other.
use Rattle.std.proofs.Common.{◌≡◌, Bool, true, false, cond, refl, sym, ap, ◌∙◌}
use Rattle.module_outside.proofs.standard.standard_name.Goals as goal

-- a word is another than the name
skip : {A : Type 0} (b t : Bool) (x y r : A) → b ≡ t → b ≡ false → r ≡ y → r ≡ cond t x y
skip b t x y r h f e = e ∙ ap (λ (b : Bool). cond b x y) (sym f ∙ h)

-- it is the name
here : {A : Type 0} (b t : Bool) (x y r : A) → b ≡ t → b ≡ true → r ≡ x → r ≡ cond t x y
here b t x y r h f e = e ∙ ap (λ (b : Bool). cond b x y) (sym f ∙ h)

pub returns-then-is : goal.returns-then-is
returns-then-is c = here _ _ _ _ _ c.is.ensures c.if-is.true c.row.ensures

pub returns-then-is-2 : goal.returns-then-is-2
returns-then-is-2 c =
    skip _ _ _ _ _ c.is.ensures c.if-is.false
    (here _ _ _ _ _ c.is-2.ensures c.if-is-2.true c.row-then-is-2.ensures)

pub returns-then-is-3 : goal.returns-then-is-3
returns-then-is-3 c =
    skip _ _ _ _ _ c.is.ensures c.if-is.false
    (skip _ _ _ _ _ c.is-2.ensures c.if-is-2.false
    (here _ _ _ _ _ c.is-3.ensures c.if-is-3.true c.row-then-is-3.ensures))

pub returns-then-is-4 : goal.returns-then-is-4
returns-then-is-4 c =
    skip _ _ _ _ _ c.is.ensures c.if-is.false
    (skip _ _ _ _ _ c.is-2.ensures c.if-is-2.false
    (skip _ _ _ _ _ c.is-3.ensures c.if-is-3.false
    (here _ _ _ _ _ c.is-4.ensures c.if-is-4.true c.row-then-is-4.ensures)))

pub returns-then-is-5 : goal.returns-then-is-5
returns-then-is-5 c =
    skip _ _ _ _ _ c.is.ensures c.if-is.false
    (skip _ _ _ _ _ c.is-2.ensures c.if-is-2.false
    (skip _ _ _ _ _ c.is-3.ensures c.if-is-3.false
    (skip _ _ _ _ _ c.is-4.ensures c.if-is-4.false
    (here _ _ _ _ _ c.is-5.ensures c.if-is-5.true c.row-then-is-5.ensures))))

pub returns-then-is-6 : goal.returns-then-is-6
returns-then-is-6 c =
    skip _ _ _ _ _ c.is.ensures c.if-is.false
    (skip _ _ _ _ _ c.is-2.ensures c.if-is-2.false
    (skip _ _ _ _ _ c.is-3.ensures c.if-is-3.false
    (skip _ _ _ _ _ c.is-4.ensures c.if-is-4.false
    (skip _ _ _ _ _ c.is-5.ensures c.if-is-5.false
    (here _ _ _ _ _ c.is-6.ensures c.if-is-6.true c.row-then-is-6.ensures)))))

pub returns-then-is-7 : goal.returns-then-is-7
returns-then-is-7 c =
    skip _ _ _ _ _ c.is.ensures c.if-is.false
    (skip _ _ _ _ _ c.is-2.ensures c.if-is-2.false
    (skip _ _ _ _ _ c.is-3.ensures c.if-is-3.false
    (skip _ _ _ _ _ c.is-4.ensures c.if-is-4.false
    (skip _ _ _ _ _ c.is-5.ensures c.if-is-5.false
    (skip _ _ _ _ _ c.is-6.ensures c.if-is-6.false
    (here _ _ _ _ _ c.is-7.ensures c.if-is-7.true c.row-then-is-7.ensures))))))

pub returns-then-is-8 : goal.returns-then-is-8
returns-then-is-8 c =
    skip _ _ _ _ _ c.is.ensures c.if-is.false
    (skip _ _ _ _ _ c.is-2.ensures c.if-is-2.false
    (skip _ _ _ _ _ c.is-3.ensures c.if-is-3.false
    (skip _ _ _ _ _ c.is-4.ensures c.if-is-4.false
    (skip _ _ _ _ _ c.is-5.ensures c.if-is-5.false
    (skip _ _ _ _ _ c.is-6.ensures c.if-is-6.false
    (skip _ _ _ _ _ c.is-7.ensures c.if-is-7.false
    (here _ _ _ _ _ c.is-8.ensures c.if-is-8.true c.row-then-is-8.ensures)))))))

pub returns-then-is-9 : goal.returns-then-is-9
returns-then-is-9 c =
    skip _ _ _ _ _ c.is.ensures c.if-is.false
    (skip _ _ _ _ _ c.is-2.ensures c.if-is-2.false
    (skip _ _ _ _ _ c.is-3.ensures c.if-is-3.false
    (skip _ _ _ _ _ c.is-4.ensures c.if-is-4.false
    (skip _ _ _ _ _ c.is-5.ensures c.if-is-5.false
    (skip _ _ _ _ _ c.is-6.ensures c.if-is-6.false
    (skip _ _ _ _ _ c.is-7.ensures c.if-is-7.false
    (skip _ _ _ _ _ c.is-8.ensures c.if-is-8.false
    (here _ _ _ _ _ c.is-9.ensures c.if-is-9.true c.row-then-is-9.ensures))))))))

pub returns-then-is-10 : goal.returns-then-is-10
returns-then-is-10 c =
    skip _ _ _ _ _ c.is.ensures c.if-is.false
    (skip _ _ _ _ _ c.is-2.ensures c.if-is-2.false
    (skip _ _ _ _ _ c.is-3.ensures c.if-is-3.false
    (skip _ _ _ _ _ c.is-4.ensures c.if-is-4.false
    (skip _ _ _ _ _ c.is-5.ensures c.if-is-5.false
    (skip _ _ _ _ _ c.is-6.ensures c.if-is-6.false
    (skip _ _ _ _ _ c.is-7.ensures c.if-is-7.false
    (skip _ _ _ _ _ c.is-8.ensures c.if-is-8.false
    (skip _ _ _ _ _ c.is-9.ensures c.if-is-9.false
    (here _ _ _ _ _ c.is-10.ensures c.if-is-10.true c.row-then-is-10.ensures)))))))))

pub returns-then-is-11 : goal.returns-then-is-11
returns-then-is-11 c =
    skip _ _ _ _ _ c.is.ensures c.if-is.false
    (skip _ _ _ _ _ c.is-2.ensures c.if-is-2.false
    (skip _ _ _ _ _ c.is-3.ensures c.if-is-3.false
    (skip _ _ _ _ _ c.is-4.ensures c.if-is-4.false
    (skip _ _ _ _ _ c.is-5.ensures c.if-is-5.false
    (skip _ _ _ _ _ c.is-6.ensures c.if-is-6.false
    (skip _ _ _ _ _ c.is-7.ensures c.if-is-7.false
    (skip _ _ _ _ _ c.is-8.ensures c.if-is-8.false
    (skip _ _ _ _ _ c.is-9.ensures c.if-is-9.false
    (skip _ _ _ _ _ c.is-10.ensures c.if-is-10.false
    (here _ _ _ _ _ c.is-11.ensures c.if-is-11.true c.row-then-is-11.ensures))))))))))

pub returns-then-is-12 : goal.returns-then-is-12
returns-then-is-12 c =
    skip _ _ _ _ _ c.is.ensures c.if-is.false
    (skip _ _ _ _ _ c.is-2.ensures c.if-is-2.false
    (skip _ _ _ _ _ c.is-3.ensures c.if-is-3.false
    (skip _ _ _ _ _ c.is-4.ensures c.if-is-4.false
    (skip _ _ _ _ _ c.is-5.ensures c.if-is-5.false
    (skip _ _ _ _ _ c.is-6.ensures c.if-is-6.false
    (skip _ _ _ _ _ c.is-7.ensures c.if-is-7.false
    (skip _ _ _ _ _ c.is-8.ensures c.if-is-8.false
    (skip _ _ _ _ _ c.is-9.ensures c.if-is-9.false
    (skip _ _ _ _ _ c.is-10.ensures c.if-is-10.false
    (skip _ _ _ _ _ c.is-11.ensures c.if-is-11.false
    (here _ _ _ _ _ c.is-12.ensures c.if-is-12.true c.row-then-is-12.ensures)))))))))))

pub returns : goal.returns
returns c =
    skip _ _ _ _ _ c.is.ensures c.if-is.false
    (skip _ _ _ _ _ c.is-2.ensures c.if-is-2.false
    (skip _ _ _ _ _ c.is-3.ensures c.if-is-3.false
    (skip _ _ _ _ _ c.is-4.ensures c.if-is-4.false
    (skip _ _ _ _ _ c.is-5.ensures c.if-is-5.false
    (skip _ _ _ _ _ c.is-6.ensures c.if-is-6.false
    (skip _ _ _ _ _ c.is-7.ensures c.if-is-7.false
    (skip _ _ _ _ _ c.is-8.ensures c.if-is-8.false
    (skip _ _ _ _ _ c.is-9.ensures c.if-is-9.false
    (skip _ _ _ _ _ c.is-10.ensures c.if-is-10.false
    (skip _ _ _ _ _ c.is-11.ensures c.if-is-11.false
    (skip _ _ _ _ _ c.is-12.ensures c.if-is-12.false refl)))))))))))
