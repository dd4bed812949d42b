use Rattle.std.proofs.Common.{◌*◌, bit_and, bit_or, ap, ◌∙◌, arith}
use Rattle.script_syllables.proofs.ItemLemmas.{bit_or-byte}
use Rattle.script_syllables.proofs.item.set_category_byte.Goals as goal

pub returns-clause-is : goal.returns-clause-is
returns-clause-is c =
    let word = c.args.info.now.var2 in
    ap (λ x. record c.args.info.now { var2 = x })
    (ap (λ x. bit_or (bit_and word 0xFF00FFFF) (x * 0x10000)) c.from.ensures
    ∙ bit_or-byte word c.args.byte (omega arith) (omega arith))
