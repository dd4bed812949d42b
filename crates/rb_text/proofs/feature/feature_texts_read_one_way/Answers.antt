use Rattle.rb_text.proofs.Parts.{parts_join}
use Rattle.rb_text.proofs.Readings.{reads_as_one}
use Rattle.rb_text.proofs.feature.feature_texts_read_one_way.Goals as goal

pub returns : goal.returns
returns c = record { one = reads_as_one; whole = parts_join }
