-- Whatever translation is put into a file that breaks none of the rules 1 to 10 and 12: if it is read back as a module, that module has outside what the file has, in other lines.
use Rattle.std.proofs.Common.{◌≡◌, List, ◌++◌, sym, ap, subst, ◌∙◌}
use Rattle.tla_value.specs.Outside.{Outside}
use Rattle.module_tree.specs.Around.{Around}
use Rattle.module_tree.specs.Layout.{layout}
use Rattle.module_tree.specs.Module.{OutsideUnit, Module, outside_of}
use Rattle.module_tree.specs.Reading.{Reads}
use Rattle.module_tree.specs.TextFront.{Text}
use Rattle.module_tree.specs.Walk.{walk}
use Rattle.module_tree.specs.laws.Kept.{IsFine}
use Rattle.module_tree.specs.laws.Outsides.{HasOutside, AllAlike, SameOutside}
use Rattle.module_tree.proofs.ModuleKept.{outside_kept}
use Rattle.module_tree.proofs.OutsideAlike.{alike_after, same_outside}
use Rattle.module_tree.proofs.SomeOutside.{one_outside_of}
use Rattle.module_tree.proofs.WalkSame.{keeps_file}
use Rattle.module_tree.proofs.WrittenRegion.{layout_inside}
use Rattle.run_answer.proofs.ReadRegions.{read_region}

-- the same units before, and units that are alike after
same_of : (x w : Text) (o q : Outside) (h : HasOutside (walk x) o) (k : HasOutside (walk w) q) → k.before ≡ h.before → AllAlike h.after k.after → SameOutside o q
same_of x w o q h k e a =
    let there : SameOutside (outside_of (h.before ++ h.after)) (outside_of (h.before ++ k.after)) = same_outside (h.before ++ h.after) (h.before ++ k.after) (alike_after h.before h.after k.after a) in
    let is : outside_of (h.before ++ k.after) ≡ q = ap (λ (us : List OutsideUnit). outside_of (us ++ k.after)) (sym e) ∙ sym k.is in
    subst (λ (o : Outside). SameOutside o q) (sym h.is) (subst (λ (q : Outside). SameOutside (outside_of (h.before ++ h.after)) q) is there)

pub outside_read_back : (x w : Text) (m : Module) (o : Outside) → IsFine x → HasOutside (walk x) o → Around x m w → Reads w m → SameOutside o m.outside
outside_read_back x w m o fine has around reads =
    let inside = layout_inside m.region (read_region reads.region m reads.reads_region reads.terminating) in
    let kept = outside_kept x (layout m.region) w o (keeps_file x (layout m.region) w fine inside around) has in
    let own : HasOutside (walk w) m.outside = record { before = reads.before; are_before = reads.are_before; after = reads.after; are_after = reads.are_after; is = reads.outside } in
    subst (SameOutside o) (one_outside_of (walk w) kept.0 m.outside kept.1 own) (same_of x w o kept.0 has kept.1 kept.2 kept.3)
