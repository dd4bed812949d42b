use Rattle.std.proofs.Common.{◌+◌, ◌≤◌, length, drop, ap, arith, rules, length-drop, length-append}
use Rattle.std.specs.Fmt.{decimal}
use Rattle.glyph_text.proofs.NumberTextLemmas.{ten_digits}
use Rattle.glyph_text.proofs.number_text.NumberText.put_number.Goals as goal

pub write_digits-self-inside-requires : goal.write_digits-self-inside-requires
write_digits-self-inside-requires c =
    let text = c.self.inside in
    let room : length (drop text.start text.bytes) + 10 ≤ 22 = omega (arith, c.requires, ap length c.self.view_is) in (
      omega (
        arith,
        ten_digits c.from.result (omega (arith, c.ranges.number.fits)),
        length-drop text.start text.bytes,
        room,
      ),
      search rules,
    )

pub returns-clause-len : goal.returns-clause-len
returns-clause-len c =
    let text = c.self.inside in
    let number = c.from.result in
    omega (
      arith,
      ap length c.write_digits-self-inside.ensures.written,
      length-append (decimal number) (drop text.start text.bytes),
      ten_digits number (omega (arith, c.ranges.number.fits)),
      ap length c.self.view_is,
    )
