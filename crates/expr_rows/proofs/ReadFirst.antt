-- Which form the next token begins: by what is seen of it.
use Rattle.std.proofs.Common.{Bool, ◌≡◌, ℕ, List, length, Result, Err, refl, sym, ap, ◌∙◌, subst}
use Rattle.tla_token.specs.declared.rule.Rule.{Rule}
use Rattle.tla_token.specs.declared.token.Tokens.{Tokens}
use Rattle.tla_tree.specs.Tree.{Tree}
use Rattle.tla_tree.specs.Spelling.{Phrase}
use Rattle.tla_tree.specs.Reader.{Out, Reader, then_read}
use Rattle.expr_nodes.specs.declared.cursor.Halt.{Halt}
use Rattle.expr_nodes.specs.declared.cursor.Halt.TheVariants as halt
use Rattle.expr_nodes.specs.declared.make.Read.{Read}
use Rattle.expr_nodes.specs.Ahead.{ahead}
use Rattle.expr_nodes.specs.ReadIn.{Fails}
use Rattle.expr_rows.specs.HasRead.{HasRead}
use Rattle.expr_rows.proofs.ReadGrown.{same_pool}
use Rattle.expr_rows.proofs.ReadLemmas.{fails_then}

-- refused at the next token
pub refused_here : {linked : Bool} (v : Tokens) (old : List Tree) (at n : ℕ) (r : Rule) (h : Halt) (o : Out Phrase) → h ≡ halt.Refused r (length (ahead v at)) → o ≡ Err (r, ahead v at) → HasRead linked v old old at n (Err h) o
refused_here {linked} v old at n r h o i j = record {
  read = subst (λ (h : Halt). Fails h o) (sym i) (subst (λ (o : Out Phrase). Fails (halt.Refused r (length (ahead v at))) o) (sym j) (refl, refl));
  kept = same_pool;
  within = tt;
  small = tt;
  inside = tt;
  further = tt;
}

pub read_same : {linked : Bool} (v : Tokens) (old new : List Tree) (from n : ℕ) (r : Result (Read × ℕ) Halt) (o p : Out Phrase) → p ≡ o → HasRead linked v old new from n r o → HasRead linked v old new from n r p
read_same {linked} v old new from n r o p e h = subst (λ (o : Out Phrase). HasRead linked v old new from n r o) (sym e) h

-- refused in what is read first
pub read_lost : {linked : Bool} (v : Tokens) (old new : List Tree) (from n : ℕ) (r : Result (Read × ℕ) Halt) (w u : Halt) (o p : Out Phrase) (f : Phrase → Reader Phrase) → r ≡ Err w → w ≡ u → o ≡ then_read p f → HasRead linked v old new from n (Err u) p → HasRead linked v old new from n r o
read_lost {linked} v old new from n r w u o p f i j k h =
    let one : HasRead linked v old new from n (Err u) o = record { read = subst (Fails u) (sym k) (fails_then u p f h.read); kept = h.kept; within = tt; small = tt; inside = tt; further = tt } in
    subst (λ (r : Result (Read × ℕ) Halt). HasRead linked v old new from n r o) (sym (i ∙ ap (λ (w : Halt). Err w) j)) one
