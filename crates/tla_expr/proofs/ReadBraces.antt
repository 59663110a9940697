-- Sets in braces, by what comes behind the `{`.
use Rattle.std.proofs.Common.{Bool, ◌≡◌, ℕ, ◌+◌, true, false, List, Some, Ok, refl, sym, ap, ◌∙◌}
use Rattle.tla_token.specs.declared.place.Place.{Place}
use Rattle.tla_tree.specs.declared.op.Op.TheVariants as op
use Rattle.tla_tree.specs.Tree.{Word}
use Rattle.tla_tree.specs.Lexical.{TokenView, Token}
use Rattle.tla_tree.specs.Lexical as tk
use Rattle.tla_tree.specs.Spelling.{no_set}
use Rattle.tla_tree.specs.Reader.{Readers, Room, then_read, peek, next, tail, is_mark, is_sign, room, primary, braces, brace_name}
use Rattle.tla_tree.specs.Whole.{whole_in}
use Rattle.tla_tree.proofs.Opened.{in_braces}
use Rattle.tla_tree.proofs.SoundTokens.{mark_is, sign_is}
use Rattle.tla_expr.specs.ReadForms.{membered, braced}
use Rattle.expr_rows.proofs.ReadLinks.{open_at}

module _ (m : Room) (d : Readers) (e : ℕ) (p : Place) (ts : List Token) where
  pub no_members : is_mark tk.close_brace (next e ts).kind ≡ true → (us : List Token) → us ≡ tail ts → peek e (braces m d e p) ts ≡ Ok (no_set p (next e ts).place, us)
  no_members h us t = ap (λ (k : TokenView). braces m d e p (next e ts).place k ts) (mark_is tk.close_brace (next e ts).kind h) ∙ ap (λ (us : List Token). Ok (no_set p (next e ts).place, us)) (sym t)

  module _ (q : Place) (x : Word) where
    pub in_next : is_sign op.In (next e ts).kind ≡ true → (us : List Token) → us ≡ tail ts → peek e (brace_name m d e p q x) ts ≡ membered m d e p q x (next e ts).place us
    in_next h us t = ap (λ (k : TokenView). brace_name m d e p q x (next e ts).place k ts) (sign_is op.In (next e ts).kind h) ∙ ap (membered m d e p q x (next e ts).place) (sym t)

    pub in_not_next : is_sign op.In (next e ts).kind ≡ false → peek e (brace_name m d e p q x) ts ≡ braced m d e p q x ts
    in_not_next h = by (next e ts).kind h
      where
        by : (k : TokenView) → is_sign op.In k ≡ false → brace_name m d e p q x (next e ts).place k ts ≡ braced m d e p q x ts
        by (tk.sign op.In) h = (let no : true ≡ false = h in absurd cc)
        by k h = refl

pub brace_more : (linked : Bool) (b e : ℕ) (p : Place) (ts us : List Token) (d : ℕ) → d + 1 ≡ b → us ≡ tail ts
    → primary (room linked (whole_in linked) (Some b)) (whole_in linked (Some b)) e p (tk.mark tk.open_brace) ts ≡ then_read (peek e (braces (room linked (whole_in linked) (Some d)) (whole_in linked (Some d)) e p) us) (λ a. (whole_in linked (Some b)).postfix e a)
brace_more linked b e p ts us d l t =
    open_at d 0 b l (in_braces (whole_in linked (Some b)) e p) ts
    ∙ ap (λ (us : List Token). then_read (peek e (braces (room linked (whole_in linked) (Some d)) (whole_in linked (Some d)) e p) us) (λ a. (whole_in linked (Some b)).postfix e a)) (sym t)
