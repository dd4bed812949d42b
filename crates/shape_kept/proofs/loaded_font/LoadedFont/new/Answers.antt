use Rattle.std.proofs.Common.{◌≡◌, Ok, Some, subst, arith, sym}
use Rattle.std.proofs.lemmas.Grind.{common_steps}
use Rattle.std.specs.Prelude.{IfOk, IfSome}
use Rattle.font_face.specs.Face.{KeepsItsTables}
use Rattle.shape_kept.specs.Sizes.{HasSize}
use Rattle.shape_kept.proofs.SizeLemmas.{same_size}
use Rattle.shape_kept.proofs.loaded_font.LoadedFont.new.Goals as goal

pub returns-clause-keeps : goal.returns-clause-keeps
returns-clause-keeps c =
    let found : c.face_of.result ≡ Ok (Some c.in-Some.face) = grind (arith, common_steps) in
    let parsed = subst (λ r. IfOk r (λ f. IfSome f KeepsItsTables)) found c.face_of.ensures.keeps in
    c.set_named_instance.ensures.kept
    (c.set_pixels.ensures.keeps (c.set_size.ensures.keeps (c.set_points.ensures.keeps parsed)))

pub returns-clause-size : goal.returns-clause-size
returns-clause-size c = subst (HasSize c.args.choice.size) (sym c.set_named_instance.ensures.size)
    (same_size c.args.choice.size c.set_size.new.face.scale c.set_pixels.new.face.scale c.set_pixels.ensures.size c.set_size.ensures.size)
