use Rattle.rb_glyph.proofs.HangulLemmas.{one_syllable, one_pair, both_ways}
use Rattle.rb_glyph.proofs.hangul.hangul_law.Goals as goal

pub returns : goal.returns
returns c = record { one_syllable = one_syllable; one_pair = one_pair; both_ways = both_ways }
