use Rattle.std.proofs.Common.{◌≡◌, string_bytes, flat_map, take}
use Rattle.shape_options.specs.CodePoints.{code_point_text}
use Rattle.shape_options.proofs.code_points.text_of_code_points.Given as goal

abbrev pub invariant-loop-number : goal.invariant-loop-number
invariant-loop-number l = string_bytes l.text ≡ flat_map code_point_text (take l.number-index l.numbers)
