use Rattle.std.proofs.Common.{sym, inl, inr}
use Rattle.shaping_passes.proofs.NormalizationPartsLemmas.{composed_of-made, composed_of-out}
use Rattle.shaping_passes.proofs.normalization.parts.composed_of.Goals as goal

pub returns-in-Some-composed_of_chars : goal.returns-in-Some-composed_of_chars
returns-in-Some-composed_of_chars c =
    composed_of-made c.args.compositions.now c.args.first c.args.second c.in-Some.a c.in-Some-from_u32.b _
    c.in-Some.ensures.cases c.in-Some-from_u32.ensures.cases c.in-Some.ensures.value.1
    c.in-Some-from_u32.ensures.value.1 c.in-Some-composed_of_chars.ensures

pub returns-in-None-composed_of_chars : goal.returns-in-None-composed_of_chars
returns-in-None-composed_of_chars c =
    composed_of-made c.args.compositions.now c.args.first c.args.second c.in-Some.a c.in-Some-from_u32.b _
    c.in-Some.ensures.cases c.in-Some-from_u32.ensures.cases c.in-Some.ensures.value.1
    c.in-Some-from_u32.ensures.value.1 c.in-None-composed_of_chars.ensures

pub returns-in-None-from_u32 : goal.returns-in-None-from_u32
returns-in-None-from_u32 c =
    sym (composed_of-out c.args.compositions.now c.args.first c.args.second (inr c.in-None-from_u32.ensures.cases))

pub returns-in-None : goal.returns-in-None
returns-in-None c =
    sym (composed_of-out c.args.compositions.now c.args.first c.args.second (inl c.in-None.ensures.cases))
